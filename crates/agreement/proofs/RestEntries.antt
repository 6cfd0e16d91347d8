-- What the invariant says of an entry between calls: where decode found no instruction, and where a cause stands.
use Prim.Native.Nat.{ℕ, ◌<◌}
use mathlib.Core.Path.{◌≡◌, refl, sym, ap, ◌∙◌}
use mathlib.Core.Logic.{◌≢◌}
use mathlib.Core.Bool.{Bool, true, false, ◌||◌}
use mathlib.Core.List.{List}
use native.Mathlib.Omega.{arith}
use lib.Dec.{eqb}
use lib.ListN.{length, get_or, take}
use Rattle.laws.proofs.Bools.{impossible}
use Rattle.isa.specs.declared.Instruction.{Instruction}
use Rattle.reference.specs.Fetch.{FetchNumbers, fetch_at}
use Rattle.reference.specs.Step.{State}
use Rattle.reference.proofs.FetchLaws.{fetched_accepted, fetched_missing}
use Rattle.tables.specs.Entry.{empty_entry, is_completed}
use Rattle.tables.specs.declared.State.{State as Stage}
use Rattle.tables.specs.declared.State.TheVariants.{Waits, Issued, Completed}
use Rattle.tables.specs.declared.Entry.{Entry}
use Rattle.agreement.specs.Resting.{EntryRests}
use Rattle.agreement.proofs.View.{View}
use Rattle.agreement.proofs.Ghost.{Ghost}
use Rattle.agreement.proofs.Chains.{execution_of, Executes}
use Rattle.agreement.proofs.Invariant.{Invariant}
use Rattle.agreement.proofs.Walks.{state_at, executes_at, last_length}
use Rattle.agreement.proofs.Ranged.{Stated, stated}
use Rattle.agreement.proofs.Rest.{Cleared}

completed_where : (s : Stage) (cause : ℕ) → (s ≢ Completed → cause ≡ 0) → cause ≢ 0 → s ≡ Completed
completed_where Waits cause f z = absurd (z (f (λ e. impossible (ap is_completed e))))
completed_where Issued cause f z = absurd (z (f (λ e. impossible (ap is_completed e))))
completed_where Completed cause f z = refl

module _ (p : List ℕ) (g : Ghost) (s : State) (e : Entry) (bytes : ℕ) (executes : Executes p g s (execution_of e)) (says : Stated p s e bytes) where
  here : fetch_at p s.address ≡ fetch_at p e.address
  here = ap (fetch_at p) (sym executes.address)

  nothing_here : (fetch_at p e.address).found ≡ false → (fetch_at p s.address).found ≡ false
  nothing_here f = ap (λ (x : FetchNumbers). x.found) here ∙ f

  operation_none : e.instruction.operation ≡ 0 → (b : Bool) → (fetch_at p s.address).found ≡ b
      → ((fetch_at p e.address).found ≡ false) × (e.state ≡ Completed) × (eqb e.stop.cause 1 || eqb e.stop.cause 4 ≡ true)
  operation_none z true f =
      let a = fetched_accepted p s.address f in
      let i : e.instruction.operation ≡ (fetch_at p s.address).fields.operation = ap (λ (x : Instruction). x.operation) executes.instruction in
      absurd (omega (arith, a.first, z, i))
  operation_none z false f =
      let none = says.none f in
      (ap (λ (x : FetchNumbers). x.found) (sym here) ∙ f, none.0, ap (λ (n : ℕ). eqb n 1 || eqb n 4) none.1 ∙ (fetched_missing p s.address f).cause)

  entry_rests : Cleared e → EntryRests p e
  entry_rests cleared =
      record {
        waiting = cleared;
        missing = λ f. executes.instruction ∙ (fetched_missing p s.address (nothing_here f)).fields;
        nowhere_else = λ z. operation_none z (fetch_at p s.address).found refl;
        caused = completed_where e.state e.stop.cause says.caused;
      }

pub entries_rest : (p : List ℕ) (s : State) (c : View) → Invariant p s c → length s.memory ≡ c.setup.bytes → (i : ℕ) → i < length c.entries
    → Cleared (get_or c.entries i empty_entry) → EntryRests p (get_or c.entries i empty_entry)
entries_rest p s c invariant sized i h cleared =
    let g : Ghost = invariant.ghost in
    let e : Entry = get_or c.entries i empty_entry in
    let t : State = state_at p s c.entries i in
    let executes : Executes p g t (execution_of e) = executes_at p g s c.entries i h invariant.executed in
    entry_rests p g t e c.setup.bytes executes (stated p g t e c.setup.bytes (last_length p s (take i c.entries) ∙ sized) executes executes.status) cleared
