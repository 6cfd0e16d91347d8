-- What document 01 says of the machine between calls holds after every list of calls on a fresh machine.
use Rattle.std.specs.Prelude.{ℕ, ◌≤◌, ◌<◌, ◌≡◌, ◌≢◌, true, false, ◌||◌, List, eqb}
use Rattle.isa.specs.Reads.{none}
use Rattle.reference.specs.Fetch.{fetch_at}
use Rattle.tables.specs.Table.{look_up}
use Rattle.tables.specs.FreeList.{Spells, occurrences, Pool}
use Rattle.tables.specs.GeneralMap.{shown}
use Rattle.tables.specs.Entry.{empty_entry}
use Rattle.tables.specs.declared.FreeList.{FreeList}
use Rattle.tables.specs.declared.Mapping.{Mapping}
use Rattle.tables.specs.declared.State.TheVariants.{Waits, Completed}
use Rattle.tables.specs.declared.Entry.{Entry}
use Rattle.ranges.specs.declared.Setup.{Setup}
use Rattle.renaming.specs.Changes.{entry_at}
use Rattle.renaming.specs.declared.Core.{Core}
use Rattle.window.specs.Calls.{World}
use Rattle.agreement.specs.Lists.{Event, make_all, Accepted, started}

-- what the general map holds for a logical register
pub record MappingRests (physical : List ℕ) (x : Mapping) : Type 0 where
  -- "The general map's register is zero while valid is clear."
  pub clear : x.valid ≡ false → x.register ≡ 0
  -- "ready with a name and a register": while valid is set there is one
  pub set : x.valid ≡ true → x.register ≢ 0
  -- "both maps learn it"; a name returns "with register and valid bit from the physical map": both give the name the same register
  pub same : x.register ≡ look_up physical x.name

-- an entry of the window
pub record EntryRests (program : List ℕ) (e : Entry) : Type 0 where
  -- "A waiting entry's values and result are zero"
  pub waiting : e.state ≡ Waits → (e.first ≡ 0) × (e.second ≡ 0) × (e.result ≡ 0)
  -- "Where decode found no instruction, the entry keeps operation 0 with zero fields."
  pub missing : (fetch_at program e.address).found ≡ false → e.instruction ≡ none
  -- operation 0 stands there alone: "where that reading gives no instruction, …, the entry enters completed with cause 4, 1 …"
  pub nowhere_else : e.instruction.operation ≡ 0
      → ((fetch_at program e.address).found ≡ false) × (e.state ≡ Completed) × (eqb e.stop.cause 1 || eqb e.stop.cause 4 ≡ true)
  -- "a cause in an entry not completed" is met nowhere
  pub caused : e.stop.cause ≢ 0 → e.state ≡ Completed

-- "Each pool is a chain: a head, and for each free number the next; zero ends it."
pub record PoolRests (pool : FreeList) : Type 0 where
  pub numbers : List ℕ
  -- these numbers, each once; "The link of a number outside its pool is zero."
  pub chain : Pool pool.link pool.head numbers
  -- the chain spells no other list
  pub alone : (others : List ℕ) → Spells pool.link pool.head others → others ≡ numbers

pub record Resting (program : List ℕ) (m : Core) : Type 0 where
  pub mappings : (logical : ℕ) → MappingRests m.physical (shown m.map logical)
  pub entries : (position : ℕ) → position < m.count → EntryRests program (entry_at m position)
  -- "a place past the last entry is all zeros"
  pub past : (position : ℕ) → m.count ≤ position → entry_at m position ≡ empty_entry
  pub registers : PoolRests m.free_registers
  pub names : PoolRests m.free_names
  -- "The physical map holds for each name its register, zero once the name is freed."
  pub freed : (name : ℕ) → occurrences name names.numbers ≢ 0 → look_up m.physical name ≡ 0

abbrev pub Rests : Type 0
Rests =
    (s : Setup) (program memory : List ℕ) → Accepted s program memory → (events : List Event)
    → let start : World = started s memory in
    Resting program (make_all program events start).core
