-- The proof of demand 3.
pub mod View
-- the invariant
pub mod Ghost
pub mod Chains
pub mod Contents
pub mod Pools
pub mod Invariant
-- counting
pub mod Tests
pub mod Counting
pub mod RegisterPools
pub mod NamePools
-- laws of the parts
pub mod Stores
pub mod Every
pub mod LiveLaws
pub mod Steps
pub mod Walks
pub mod ContentLaws
pub mod NameFacts
-- the changes, each keeps the invariant
pub mod Placing
pub mod Drop
pub mod Unchanged
pub mod Learn
pub mod Retire
pub mod GhostLaws
pub mod Entering
pub mod Append
pub mod Decode
pub mod Issue
pub mod Complete
pub mod Redirect
pub mod Finish
pub mod Commit
-- the oldest entry goes on
pub mod Liveness
pub mod Victims
-- the start
pub mod Rising
pub mod Start
-- the calls on the machine's arrays are changes of what the theorem sees
pub mod Kept
pub mod Tidy
pub mod Views
pub mod Learns
pub mod Refusals
pub mod Turns
pub mod Accepts
pub mod InRange
pub mod Reports
-- the calls keep the invariant
pub mod Tidied
pub mod Runs
pub mod Decodes
pub mod Completes
pub mod Commits
pub mod Steady
pub mod Fits
pub mod Safe
pub mod Ranged
pub mod Reaching
pub mod Oldest
pub mod Onward
pub mod Demand
-- what holds between calls
pub mod Rest
pub mod RestChanges
pub mod RestTurns
pub mod RestPools
pub mod RestEntries
pub mod Rests
-- drain
pub mod Shrinks
pub mod DrainSteps
pub mod Draining
pub mod Leading
pub mod Drained
