-- The instructions of a machine in range have operation numbers that the tables know.
use Prim.Native.Nat.{ℕ, zero, suc, ◌+◌, ◌≤◌, ◌<◌}
use mathlib.Core.Path.{◌≡◌, refl}
use mathlib.Core.Bool.{Bool, true, false, ◌&&◌, ◌||◌}
use mathlib.Core.List.{List}
use native.Mathlib.Omega.{arith}
use native.Mathlib.Nat.{add-zero, add-suc, suc-add, zero-add}
use borrow.Author.Tests.{eqb-true}
use lib.Dec.{leb, eqb}
use lib.ListN.{get_or}
use Rattle.laws.proofs.Bools.{and_left, and_right}
use Rattle.isa.specs.Encodes.{accepted}
use Rattle.isa.specs.Listing.{last}
use Rattle.isa.proofs.Accepted.{accepted_says}
use Rattle.isa.specs.declared.Instruction.{Instruction}
use Rattle.tables.specs.Entry.{empty_entry, is_completed}
use Rattle.tables.specs.declared.Entry.{Entry}
use Rattle.ranges.specs.declared.Setup.{Setup}
use Rattle.renaming.specs.declared.Core.{Core}
use Rattle.renaming.specs.Range.{tables_in_range, entries_in_range, machine_in_range}
use Rattle.ranges.specs.Tables.{every_from}
use Rattle.ranges.specs.Entries.{entry_in_range, is_none}
use Rattle.ranges.specs.Sizes.{setup_in_range}

-- what a sweep says of an element
pub every_says : {A : Type 0} (test : A → Bool) (default : A) (from count k : ℕ) (table : List A) → every_from test default from count table ≡ true → k < count
    → test (get_or table (from + k) default) ≡ true
unfolding every_from
every_says test default from zero k table e h = absurd (omega arith)
every_says test default from (suc count) zero table e h =
    rw (add-zero from) (and_left (test (get_or table from default)) (every_from test default (suc from) count table) e)
every_says test default from (suc count) (suc k) table e h =
    rw (add-suc from k, ← suc-add from k) (every_says test default (suc from) count k table (and_right (test (get_or table from default)) (every_from test default (suc from) count table) e) (omega arith))

none_operation : (i : Instruction) → is_none i ≡ true → i.operation ≤ last
none_operation i e =
    let zero : i.operation ≡ 0 = eqb-true i.operation 0 (and_left _ _ (and_left _ _ (and_left _ _ (and_left _ _ e)))) in
    omega arith

either : (a b : Bool) → a || b ≡ true → {C : Type 0} → (a ≡ true → C) → (b ≡ true → C) → C
either true b e f g = f refl
either false b e f g = g e

entry_operation : (s : Setup) (e : Entry) → entry_in_range s e ≡ true → e.instruction.operation ≤ last
unfolding entry_in_range
entry_operation s e t =
    let i = e.instruction in
    let b = is_none i in
    let c = is_completed e.state in
    let d = eqb e.stop.cause 1 || eqb e.stop.cause 4 in
    let holds = and_left _ _ (and_left _ _ (and_left _ _ (and_left _ _ (and_left _ _ (and_left _ _ (and_left _ _ t)))))) in
    either (accepted i) (b && c && d) holds {C = i.operation ≤ last} (λ a. (accepted_says i a).last) (λ n. none_operation i (and_left b c (and_left (b && c) d n)))

-- an entry of a machine in range
pub in_range_operation : (m : Core) (k : ℕ) → machine_in_range m ≡ true → k < m.count → (get_or m.entries k empty_entry).instruction.operation ≤ last
unfolding machine_in_range
in_range_operation m k t h =
    let a = setup_in_range m.setup && leb m.count m.setup.window && tables_in_range m in
    entry_operation m.setup (get_or m.entries k empty_entry)
    (rw (zero-add k) at (every_says (entry_in_range m.setup) empty_entry 0 m.count k m.entries (and_right a (entries_in_range m.setup m.count m.entries) t) h))
