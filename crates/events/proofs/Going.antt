-- The walk along the schedule's chain, one event after the other.
use Prim.Native.Nat.{ℕ, zero, suc, ◌+◌, ◌*◌, ◌-◌, ◌≤◌, ◌<◌}
use mathlib.Core.Path.{◌≡◌, refl, sym, ap, subst, ◌∙◌}
use mathlib.Core.Bool.{Bool, true, false, ◌&&◌}
use mathlib.Core.List.{List, [], ◌∷◌}
use native.Mathlib.Omega.{arith}
use borrow.Author.Tests.{ne_eqb, leb-false}
use lib.Dec.{leb, eqb}
use lib.ListN.{length}
use Rattle.isa.specs.Reads.{choose}
use Rattle.reference.specs.Step.{when, first}
use Rattle.formats.specs.Schedule.{longest, record_at, records, first_index}
use Rattle.formats.specs.Chain.{record_refusal, is_met, chain_refusal, events_from}
use Rattle.formats.specs.declared.Record.{Record}
use Rattle.formats.proofs.Events.{events_none, events_ended, events_on}
use Rattle.renaming.specs.Call.{lent_refusal}
use Rattle.renaming.specs.declared.Core.{Core}
use Rattle.renaming.proofs.RefusalLaws.{passed, both_none}
use Rattle.renaming.proofs.RangeLaws.{in_range_count}
use Rattle.completing.specs.Complete.{needs_register, none_free}
use Rattle.window.specs.Calls.{World, Made, is_commit, make, stolen, dropped}
use Rattle.window.specs.declared.Call.{Call}
use Rattle.window.specs.declared.Call.TheVariants.{Decode as decode, Issue as issue, Complete as complete, Commit as commit}
use Rattle.agreement.specs.Lists.{own, origin, make_event}
use Rattle.agreement.proofs.Safe.{Reached, make_reached}
use Rattle.agreement.proofs.Reaching.{started_reached, reached_range, reached_lent}
use Rattle.events.specs.declared.Counts.{Counts}
use Rattle.events.specs.Counts.{call_by, accepting, refusing, Played, played, played_all, no_counts}
use Rattle.events.specs.Numbers.{Small, played_by}
use Rattle.events.specs.Play.{setup_in, Ready, played_of}
use Rattle.events.proofs.Laws.{one_most}

-- what a chain that is not refused says of the index that leads to a record, and of the rest
module _ (n : ℕ) (schedule met : List ℕ) (index : ℕ) (some : index ≡ 0 → ⊥) (e : chain_refusal (suc n) schedule met index ≡ 0) where
  abbrev r : Record
  r = record_at schedule index

  abbrev later : List ℕ
  later = record_refusal r ∷ chain_refusal n schedule (index ∷ met) r.next ∷ []

  looked : first (when (leb (records schedule) index) 22 ∷ when (is_met index met) 23 ∷ later) ≡ 0
  unfolding chain_refusal
  looked = rw (ne_eqb index 0 some) at e

  within : (leb (records schedule) index ≡ false) × (first (when (is_met index met) 23 ∷ later) ≡ 0)
  within = passed (leb (records schedule) index) 22 (when (is_met index met) 23 ∷ later) refl looked

  chain_inside : index < records schedule
  chain_inside = leb-false (records schedule) index within.0

  chain_on : chain_refusal n schedule (index ∷ met) r.next ≡ 0
  chain_on =
      let rest = (passed (is_met index met) 23 later refl within.1).1 in
      (both_none (chain_refusal n schedule (index ∷ met) r.next) [] (both_none (record_refusal r) (chain_refusal n schedule (index ∷ met) r.next ∷ []) rest).1).0

-- the events, one after the other
playing_none : (program schedule : List ℕ) (index : ℕ) (p : Played) → played_all program (events_from 0 schedule index) p ≡ p
unfolding played_all
playing_none program schedule index p = ap (λ (events : List Record). played_all program events p) (events_none schedule index)

playing_ended : (program schedule : List ℕ) (n : ℕ) (p : Played) → played_all program (events_from n schedule 0) p ≡ p
unfolding played_all
playing_ended program schedule zero p = playing_none program schedule 0 p
playing_ended program schedule (suc n) p = ap (λ (events : List Record). played_all program events p) (events_ended n schedule 0 refl)

playing_more : (program schedule : List ℕ) (n index : ℕ) (p : Played) → (index ≡ 0 → ⊥)
    → played_all program (events_from (suc n) schedule index) p ≡ played_all program (events_from n schedule (record_at schedule index).next) (played program (record_at schedule index) p)
unfolding played_all
playing_more program schedule n index p some = ap (λ (events : List Record). played_all program events p) (events_on n schedule index some)

-- what one event adds to each count
dropped_most : (call : Call) (before after : Core) → dropped call before after ≤ before.count
dropped_most (decode guess) before after = omega arith
dropped_most (issue position) before after = omega arith
dropped_most (complete position) before after = omega arith
dropped_most commit before after = at (eqb after.halt.cause 0)
  where
    at : (b : Bool) → choose b 0 (before.count - 1) ≤ before.count
    at true = omega arith
    at false = omega arith

stolen_most : (call : Call) (before : Core) → stolen call before ≤ 1
stolen_most (decode guess) before = omega arith
stolen_most (issue position) before = omega arith
stolen_most (complete position) before = one_most (needs_register before position && none_free before)
stolen_most commit before = omega arith

counts_most : (limit : ℕ) (call : Call) (before after : Core) (c : Counts) (b : Bool) → before.count ≤ 64 → Small limit c → Small (limit + 64) (choose b (accepting call before after c) (refusing c))
counts_most limit call before after c true l s =
    record {
      accepted = let a = s.accepted in omega arith;
      refused = let a = s.refused in omega arith;
      committed = let a = s.committed in let k = one_most (is_commit call && eqb after.halt.cause 0) in omega arith;
      steals = let a = s.steals in let k = stolen_most call before in omega arith;
      dropped = let a = s.dropped in let k = dropped_most call before after in omega arith;
    }
counts_most limit call before after c false l s =
    record {
      accepted = let a = s.accepted in omega arith;
      refused = let a = s.refused in omega arith;
      committed = let a = s.committed in omega arith;
      steals = let a = s.steals in omega arith;
      dropped = let a = s.dropped in omega arith;
    }

-- before an event, or after the last: so many turns were made, and the next record is at an index
pub record Going (program memory schedule : List ℕ) (turn index : ℕ) (m : Core) (bytes : List ℕ) (counts : Counts) : Type 0 where
  pub left : ℕ
  pub turns : turn + left ≡ records schedule
  pub rest : played_all program (events_from left schedule index) (played_by m bytes counts) ≡ played_of program memory schedule
  pub commits : ℕ
  pub reached : Reached program (origin memory) commits (record { core = m; memory = bytes })
  pub met : List ℕ
  pub chain : chain_refusal left schedule met index ≡ 0
  pub small : Small (turn * 64) counts

pub begins : (program memory schedule : List ℕ) (m : Core) (index : ℕ) → Ready m program memory schedule → index ≡ first_index schedule → Going program memory schedule 0 index m memory no_counts
unfolding played_of
begins program memory schedule m index ready e =
    record {
      left = records schedule;
      turns = omega arith;
      rest = rw (e, ready.fresh);
      commits = 0;
      reached = subst (λ (x : Core). Reached program (origin memory) 0 (record { core = x; memory = memory })) (sym ready.fresh) (started_reached (setup_in program memory schedule) program memory (record { set_up = ready.accepted; program_length = refl; data_length = refl }));
      met = [];
      chain = rw e ready.chain;
      small = record { accepted = omega arith; refused = omega arith; committed = omega arith; steals = omega arith; dropped = omega arith };
    }

module _ {program memory schedule : List ℕ} {turn index : ℕ} {m : Core} {bytes : List ℕ} {counts : Counts} (g : Going program memory schedule turn index m bytes counts) where
  abbrev here : Played
  here = played_by m bytes counts

  abbrev w : World
  w = record { core = m; memory = bytes }

  pub ends : records schedule ≤ turn → here ≡ played_of program memory schedule
  ends l =
      let z : g.left ≡ 0 = let t = g.turns in omega arith in
      sym (ap (λ (n : ℕ). played_all program (events_from n schedule index) here) z ∙ playing_none program schedule index here) ∙ g.rest

  pub chain_ends : index ≡ 0 → here ≡ played_of program memory schedule
  chain_ends z = sym (ap (λ (i : ℕ). played_all program (events_from g.left schedule i) here) z ∙ playing_ended program schedule g.left here) ∙ g.rest

  -- 5 and 6 do not apply
  pub is_lent : lent_refusal m program bytes ≡ 0
  is_lent = reached_lent program (origin memory) g.commits w g.reached

  few : m.count ≤ 64
  few = in_range_count m (reached_range program (origin memory) g.commits w g.reached)

  -- no count is too big
  pub small_enough : length schedule ≤ longest → Small 100_000_000 counts
  small_enough l =
      let s = g.small in
      let t = g.turns in
      let k : turn * 64 ≤ 524_288 = omega arith in
      record {
        accepted = let a = s.accepted in omega arith;
        refused = let a = s.refused in omega arith;
        committed = let a = s.committed in omega arith;
        steals = let a = s.steals in omega arith;
        dropped = let a = s.dropped in omega arith;
      }

  -- a record is there
  module _ (turns : turn < records schedule) (some : index ≡ 0 → ⊥) where
    more : g.left ≡ suc (g.left - 1)
    more = let t = g.turns in omega arith

    chained : chain_refusal (suc (g.left - 1)) schedule g.met index ≡ 0
    chained = ap (λ (n : ℕ). chain_refusal n schedule g.met index) (sym more) ∙ g.chain

    pub inside : index < records schedule
    inside = chain_inside (g.left - 1) schedule g.met index some chained

    -- the event was made
    pub goes_on : (r : Record) → r ≡ record_at schedule index → (next : Core) (written : List ℕ) (after : Counts) → played_by next written after ≡ played program r here
        → Going program memory schedule (turn + 1) r.next next written after
    unfolding played make_event
    goes_on r at next written after e =
        let made : Made = make program (call_by r) w in
        let same : record { core = next; memory = written } ≡ made.world = ap (λ (x : Played). x.world) e in
        let added = counts_most (turn * 64) (call_by r) m made.world.core counts (eqb made.number 0) few g.small in
        record {
          left = g.left - 1;
          turns = let t = g.turns in let l = more in omega arith;
          rest = ap (played_all program (events_from (g.left - 1) schedule r.next)) e
              ∙ ap (λ (x : Record). played_all program (events_from (g.left - 1) schedule x.next) (played program x here)) at
              ∙ sym (ap (λ (n : ℕ). played_all program (events_from n schedule index) here) more ∙ playing_more program schedule (g.left - 1) index here some)
              ∙ g.rest;
          commits = _;
          reached = subst (Reached program (origin memory) _) (sym same) (make_reached program (origin memory) g.commits (own (call_by r)) w g.reached);
          met = index ∷ g.met;
          chain = ap (λ (x : Record). chain_refusal (g.left - 1) schedule (index ∷ g.met) x.next) at ∙ chain_on (g.left - 1) schedule g.met index some chained;
          small = subst (Small ((turn + 1) * 64)) (sym (ap (λ (x : Played). x.counts) e))
              (subst (λ (n : ℕ). Small n (choose (eqb made.number 0) (accepting (call_by r) m made.world.core counts) (refusing counts))) (omega arith) added);
        }
