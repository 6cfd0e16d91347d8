-- Issue reads what the in-order state gives: a ready operand's register holds the value that its name stands for.
use Prim.Native.Nat.{ℕ, zero, suc, ◌<◌}
use mathlib.Core.Path.{◌≡◌, refl, ap, sym, ◌∙◌}
use mathlib.Core.Bool.{Bool, true, false, ◌||◌}
use mathlib.Core.List.{List}
use native.Mathlib.Omega.{arith}
use lib.ListN.{length, get_or, take}
use lib.Seq.{get_or-take, length-take-le}
use Rattle.execution.specs.Memory.{second_value}
use Rattle.execution.specs.Roles.{loads, stores}
use Rattle.reference.specs.Step.{State, first_source, second_source, read_register, first_of, second_of}
use Rattle.tables.specs.Operand.{is_ready, value_of}
use Rattle.tables.specs.Entry.{empty_entry, issued_entry}
use Rattle.tables.specs.declared.Operand.{Operand}
use Rattle.tables.specs.declared.State.TheVariants.{Waits}
use Rattle.tables.specs.declared.Entry.{Entry}
use Rattle.tables.proofs.TableLaws.{look_within}
use Rattle.issuing.specs.Issue.{store_below}
use Rattle.agreement.proofs.View.{View, operand_for, name_in, placed}
use Rattle.agreement.proofs.Ghost.{Ghost, Agree}
use Rattle.agreement.proofs.Chains.{renaming_of, Renamed, execution_of, waits, reads, done, stops, Executes}
use Rattle.agreement.proofs.Contents.{ShownIn, early, HoldsIn, Valued}
use Rattle.agreement.proofs.Invariant.{Invariant}
use Rattle.agreement.proofs.Tests.{equal, apart, eq?, impossible}
use Rattle.std.proofs.lemmas.List.Elements.{All-from_get_or}
use Rattle.agreement.proofs.Steps.{second_same}
use Rattle.agreement.proofs.Walks.{names_at, state_at, renamed_at, executes_at, executed_take, agree_at, last_unstored}
use Rattle.agreement.proofs.Placing.{placed_keeps}
use Rattle.agreement.proofs.Learn.{no_register}

-- an operand that is ready reads what its name stands for
pub value_read : (g : Ghost) (physical values : List ℕ) → Valued g physical values → (o : Operand) (n : ℕ) → o ≡ operand_for n (get_or physical n 0) → is_ready o ≡ true → value_of values o ≡ get_or g.value n 0
unfolding operand_for
value_read g physical values v o n e ready = cases n (get_or physical n 0) refl e
  where
    cases : (k q : ℕ) → get_or physical k 0 ≡ q → o ≡ operand_for k q → value_of values o ≡ get_or g.value k 0
    cases zero q h l = rw l (sym v.zero_value)
    cases (suc k) zero h l = impossible (cc)
    cases (suc k) (suc q) h l = rw l (sym (look_within values (suc q) (λ z. omega arith)) ∙ cc (v.held (suc k) (λ z. omega arith)))

-- no store below a position
pub none_stored : (entries : List Entry) (n : ℕ) → store_below n entries ≡ false → (j : ℕ) → j < n → stores (get_or entries j empty_entry).instruction ≡ false
unfolding store_below
none_stored entries zero h j l = absurd (omega arith)
none_stored entries (suc n) h j l =
    let b : (stores (get_or entries n empty_entry).instruction ≡ false) × (store_below n entries ≡ false) = neither (stores (get_or entries n empty_entry).instruction) (store_below n entries) h in
    elim (eq? j n) [ equal e t ↦ rw e b.0 | apart e t ↦ none_stored entries n b.1 j (omega arith) ]
  where
    neither : (a b : Bool) → a || b ≡ false → (a ≡ false) × (b ≡ false)
    neither true b e = impossible (cc)
    neither false b e = (refl, e)

module _ (p : List ℕ) (s : State) (c : View) (invariant : Invariant p s c) (i : ℕ) (inside : i < length c.entries) where
  abbrev e : Entry
  e = get_or c.entries i empty_entry

  -- the in-order state before it
  abbrev t : State
  t = state_at p s c.entries i

  executes : Executes p invariant.ghost t (execution_of e)
  executes = executes_at p invariant.ghost s c.entries i inside invariant.executed

  agree : Agree invariant.ghost (names_at invariant.committed c.entries i) t.registers
  agree = agree_at p invariant.ghost invariant.committed s c.entries i invariant.accounting.writers.size invariant.agree invariant.accounting.renamed invariant.executed

  renamed : Renamed invariant.ghost (names_at invariant.committed c.entries i) (renaming_of e)
  renamed = renamed_at invariant.ghost invariant.committed c.entries i inside invariant.accounting.renamed

  shown : ShownIn c.physical e
  shown = invariant.accounting.contents.shown i empty_entry inside

  holds : HoldsIn c.physical e
  holds = invariant.accounting.contents.holds i empty_entry inside

  -- without an older store the data are those of the in-order state
  unstored : ((j : ℕ) → j < i → stores (get_or c.entries j empty_entry).instruction ≡ false) → t.memory ≡ s.memory
  unstored f =
      last_unstored p invariant.ghost s (take i c.entries) (executed_take p invariant.ghost s c.entries i invariant.executed)
      (All-from_get_or (λ x. stores x.instruction ≡ false) (take i c.entries) empty_entry (λ j h. older j (rw (length-take-le i c.entries (omega arith)) at h)))
    where
      older : (j : ℕ) → j < i → stores (get_or (take i c.entries) j empty_entry).instruction ≡ false
      older j h = rw (get_or-take i c.entries j empty_entry h) (f j h)

  module _ (ready_left : is_ready e.left ≡ true) (ready_right : is_ready e.right ≡ true) where
    first_read : value_of c.values e.left ≡ first_of t e.instruction
    first_read =
        value_read invariant.ghost c.physical c.values invariant.accounting.contents.valued e.left (name_in e.left) shown.left ready_left
        ∙ ap (λ (n : ℕ). get_or invariant.ghost.value n 0) renamed.left ∙ agree.values (first_source e.instruction) renamed.first

    operand_read : value_of c.values e.right ≡ read_register t.registers (second_source e.instruction)
    operand_read =
        value_read invariant.ghost c.physical c.values invariant.accounting.contents.valued e.right (name_in e.right) shown.right ready_right
        ∙ ap (λ (n : ℕ). get_or invariant.ghost.value n 0) renamed.right ∙ agree.values (second_source e.instruction) renamed.second

    second_read_lem : (memory : List ℕ) → (loads e.instruction ≡ true → memory ≡ t.memory)
        → second_value e.instruction (value_of c.values e.left) (value_of c.values e.right) memory ≡ second_of t e.instruction
    second_read_lem memory h = rw (first_read, operand_read) (second_same e.instruction _ _ memory t.memory h)

    pub issue_keeps : (memory : List ℕ) → memory ≡ s.memory → e.state ≡ Waits
        → (loads e.instruction ≡ true → (j : ℕ) → j < i → stores (get_or c.entries j empty_entry).instruction ≡ false)
        → Invariant p s (placed i (issued_entry (value_of c.values e.left) (second_value e.instruction (value_of c.values e.left) (value_of c.values e.right) memory) e) c)
    issue_keeps memory same now none =
        placed_keeps p s c i (issued_entry _ _ e) invariant inside refl refl shown
        (early (λ z. impossible (cc)) (no_register c.physical e.state e.stop.cause e.name holds (λ z. impossible (cc))))
        (record {
          address = executes.address;
          instruction = executes.instruction;
          value = executes.value;
          status = elim executes.status [
            | waits h clean x ↦ reads refl first_read (second_read_lem memory (λ l. same ∙ sym (unstored (none l)))) clean x
            | reads h a b clean x ↦ impossible (cc)
            | done h a b clean x y z ↦ impossible (cc)
            | stops h z y ↦ impossible (cc)
          ];
        })
