-- The oldest entry can always go on: its operands are committed names, and a register is free or a younger entry holds one.
use Prim.Native.Nat.{ℕ, zero, suc, ◌+◌, ◌≤◌, ◌<◌}
use mathlib.Core.Path.{◌≡◌, refl, ap, sym, ◌∙◌}
use mathlib.Core.Logic.{◌≢◌}
use mathlib.Core.Bool.{true}
use mathlib.Core.List.{List, [], ◌∷◌, map}
use native.Mathlib.Omega.{arith}
use lib.ListN.{length, get_or, length-map}
use Rattle.reference.specs.Step.{State, first_source, second_source}
use Rattle.tables.specs.FreeList.{occurrences}
use Rattle.tables.specs.Operand.{is_ready}
use Rattle.tables.specs.Entry.{empty_entry}
use Rattle.tables.specs.declared.Operand.{Operand}
use Rattle.tables.specs.declared.State.TheVariants.{Completed}
use Rattle.tables.specs.declared.Entry.{Entry}
use Rattle.agreement.proofs.View.{View, operand_for, name_in}
use Rattle.agreement.proofs.Chains.{renaming_of, Renamed, last_names}
use Rattle.agreement.proofs.Contents.{ShownIn, holding, without, stopped, early, HoldsIn}
use Rattle.agreement.proofs.Pools.{name_of, register_of}
use Rattle.agreement.proofs.Invariant.{Invariant}
use Rattle.agreement.proofs.Tests.{equal, apart, eq?}
use Rattle.agreement.proofs.Counting.{same, alike, other, same?}
use Rattle.agreement.proofs.RegisterPools.{pool_empty}
use Rattle.agreement.proofs.Walks.{renamed_at}
use Rattle.agreement.proofs.Learn.{no_register}

-- a list of which not all are zero
some_nonzero : (xs : List ℕ) → occurrences 0 xs + 1 ≤ length xs → (j : ℕ) × (j < length xs) × (get_or xs j 0 ≢ 0)
unfolding occurrences same
some_nonzero [] h = absurd (omega arith)
some_nonzero (x ∷ xs) h = elim (same? 0 x) [
  | alike e s ↦ let r : (j : ℕ) × (j < length xs) × (get_or xs j 0 ≢ 0) = some_nonzero xs (omega arith) in (suc r.0, omega (arith, r.1), r.2)
  | other e s ↦ (0, omega arith, λ z. e (sym z))
]

register_at_lem : (physical : List ℕ) (es : List Entry) (j : ℕ) → j < length es → get_or (map (register_of physical) (map name_of es)) j 0 ≡ get_or physical (get_or es j empty_entry).name 0
register_at_lem physical [] j h = absurd (omega arith)
register_at_lem physical (e ∷ es) zero h = refl
register_at_lem physical (e ∷ es) (suc j) h = register_at_lem physical es j (omega arith)

-- an entry whose name has a register is completed
pub holder_completed : (physical : List ℕ) (e : Entry) → HoldsIn physical e → get_or physical e.name 0 ≢ 0 → e.state ≡ Completed
holder_completed physical e (holding a b x y) z = a
holder_completed physical e (without a b x) z = a
holder_completed physical e (stopped a b x) z = a
holder_completed physical e (early a x) z = absurd (z x)

-- an entry younger than position i that holds a register
pub record Holder (c : View) (i : ℕ) : Type 0 where
  pub position : ℕ
  pub younger : i < position
  pub within : position < length c.entries
  pub completed : (get_or c.entries position empty_entry).state ≡ Completed
  pub has : get_or c.physical (get_or c.entries position empty_entry).name 0 ≢ 0

module _ (p : List ℕ) (s : State) (c : View) (invariant : Invariant p s c) where
  -- an empty window is not full
  pub room_when_empty : length c.entries ≡ 0 → length c.entries < c.setup.window
  room_when_empty e = omega (arith, invariant.accounting.some)

  module _ (some : 0 < length c.entries) where
    abbrev e : Entry
    e = get_or c.entries 0 empty_entry

    renamed : Renamed invariant.ghost invariant.committed (renaming_of e)
    unfolding last_names
    renamed = renamed_at invariant.ghost invariant.committed c.entries 0 some invariant.accounting.renamed

    shown : ShownIn c.physical e
    shown = invariant.accounting.contents.shown 0 empty_entry some

    holds : HoldsIn c.physical e
    holds = invariant.accounting.contents.holds 0 empty_entry some

    operand_ready : (o : Operand) (r : ℕ) → r < 32 → o ≡ operand_for (name_in o) (get_or c.physical (name_in o) 0) → name_in o ≡ get_or invariant.committed r 0 → is_ready o ≡ true
    unfolding operand_for
    operand_ready o r b l n = cases (name_in o) (get_or c.physical (name_in o) 0) refl refl l
      where
        cases : (i h : ℕ) → name_in o ≡ i → get_or c.physical (name_in o) 0 ≡ h → o ≡ operand_for i h → is_ready o ≡ true
        cases zero h x y z = rw z
        cases (suc i) (suc h) x y z = rw z
        cases (suc i) zero x y z = absurd (register r refl)
          where
            register : (t : ℕ) → r ≡ t → ⊥
            register zero q = omega (arith, x, n, ap (λ (u : ℕ). get_or invariant.committed u 0) q, invariant.accounting.name_pool.zero_name)
            register (suc t) q = invariant.accounting.live.kept r (omega arith) b (ap (λ (u : ℕ). get_or c.physical u 0) (sym n) ∙ y)

    pub left_ready : is_ready e.left ≡ true
    left_ready = operand_ready e.left (first_source e.instruction) renamed.first shown.left renamed.left

    pub right_ready : is_ready e.right ≡ true
    right_ready = operand_ready e.right (second_source e.instruction) renamed.second shown.right renamed.right

    -- with none free, a younger entry holds a register
    pub holder : e.state ≢ Completed → c.free_registers.head ≡ 0 → Holder c 0
    holder now none =
        let r : (j : ℕ) × (j < length registers) × (get_or registers j 0 ≢ 0) = some_nonzero registers enough in
        found r.0 r.1 r.2
      where
        registers : List ℕ
        registers = map (register_of c.physical) (map name_of c.entries)

        long : length registers ≡ length c.entries
        long = length-map (map name_of c.entries) (register_of c.physical) ∙ length-map c.entries name_of

        enough : occurrences 0 registers + 1 ≤ length registers
        enough = omega (
          arith,
          invariant.accounting.register_pool.count,
          invariant.accounting.live.count,
          invariant.accounting.enough,
          length-map (map name_of c.entries) (register_of c.physical),
          pool_empty c.setup.registers c.physical c.free_registers.head c.free_registers.link invariant.accounting.free_registers invariant.accounting.register_pool none,
        )

        found : (j : ℕ) → j < length registers → get_or registers j 0 ≢ 0 → Holder c 0
        found j h f =
            let l : j < length c.entries = omega (arith, long) in
            let b : get_or c.physical (get_or c.entries j empty_entry).name 0 ≢ 0 = λ y. f (register_at_lem c.physical c.entries j l ∙ y) in
            elim (eq? j 0) [
              | equal q t ↦ absurd (b (rw q (no_register c.physical e.state e.stop.cause e.name holds now)))
              | apart q t ↦ record {
                position = j;
                younger = omega arith;
                within = l;
                completed = holder_completed c.physical (get_or c.entries j empty_entry) (invariant.accounting.contents.holds j empty_entry l) b;
                has = b;
              }
            ]
