-- Drain on every machine: it makes at most three calls for each entry and ends with no entry left or halted, unless a call is refused.
use Prim.Native.Nat.{ℕ, zero, suc, ◌+◌, ◌*◌, ◌≤◌, ◌<◌}
use mathlib.Core.Path.{◌≡◌, refl, sym, ◌∙◌}
use mathlib.Core.Bool.{true, false, ◌&&◌}
use mathlib.Core.List.{List, [], ◌∷◌}
use native.Mathlib.Omega.{arith}
use borrow.Author.Tests.{eqb-true, eqb-false}
use lib.Dec.{leb, eqb}
use lib.ListN.{length}
use Rattle.isa.specs.Encodes.{accepted}
use Rattle.isa.specs.Reads.{choose}
use Rattle.laws.proofs.Bools.{impossible, and_left, and_right}
use Rattle.tables.specs.Entry.{empty_entry}
use Rattle.tables.specs.declared.Entry.{Entry}
use Rattle.renaming.specs.Range.{entries_in_range, tables_in_range, machine_in_range}
use Rattle.ranges.specs.Tables.{every_from}
use Rattle.ranges.specs.Sizes.{setup_in_range}
use Rattle.ranges.specs.Entries.{entry_in_range}
use Rattle.renaming.specs.Call.{lent_refusal}
use Rattle.renaming.specs.Changes.{entry_at}
use Rattle.window.specs.Calls.{World, Made, make, needed_of}
use Rattle.window.specs.Drain.{Drain, idle, drain_ends, drain_from, drain_of}
use Rattle.ranges.specs.declared.Setup.{Setup}
use Rattle.renaming.specs.declared.Core.{Core}
use Rattle.renaming.proofs.RefusalLaws.{in_range_lent}
use Rattle.isa.proofs.ChoiceLaws.{by_choice}
use Rattle.agreement.proofs.DrainSteps.{ahead, none_ahead, idle_empty, busy, Lower, needed_lowers}

-- at most so many calls more
from_calls : (n : ℕ) (program : List ℕ) (w : World) (calls : ℕ) → (drain_from n program w calls).calls ≤ calls + n
unfolding drain_from
from_calls zero program w calls = omega arith
from_calls (suc n) program w calls =
    let made : Made = make program (needed_of w.core) w in
    let more : Drain = drain_from n program made.world (suc calls) in
    let over : Drain = drain_ends made.world calls made.number in
    let most : Drain → Type 0 = λ d. d.calls ≤ calls + suc n in
    by_choice most (idle w.core) (drain_ends w calls 0) (choose (eqb made.number 0) more over) (λ e. omega arith) (λ e.
    by_choice most (eqb made.number 0) more over (λ z. let r = from_calls n program made.world (suc calls) in omega arith) (λ z. omega arith))

pub of_calls : (program : List ℕ) (w : World) → (drain_of program w).calls ≤ 3 * w.core.count
unfolding drain_of
of_calls program w =
    let lent : ℕ = lent_refusal w.core program w.memory in
    by_choice (λ (d : Drain). d.calls ≤ 3 * w.core.count) (eqb lent 0) (drain_from (3 * w.core.count) program w 0) (drain_ends w 0 lent)
    (λ e. let r = from_calls (3 * w.core.count) program w 0 in omega arith) (λ e. omega arith)

-- it ends with no entry left or halted
from_ends : (n : ℕ) (program : List ℕ) (w : World) (calls : ℕ) → (0 < w.core.count → 0 < length w.core.entries) → ahead w.core ≤ n
    → (drain_from n program w calls).number ≡ 0 → idle (drain_from n program w calls).world.core ≡ true
unfolding drain_from make
from_ends zero program w calls room h = λ z. idle_empty w.core (none_ahead w.core h)
from_ends (suc n) program w calls room h =
    let m : Core = w.core in
    let made : Made = make program (needed_of m) w in
    let more : Drain = drain_from n program made.world (suc calls) in
    let over : Drain = drain_ends made.world calls made.number in
    by_choice (λ (d : Drain). d.number ≡ 0 → idle d.world.core ≡ true) (idle m) (drain_ends w calls 0) (choose (eqb made.number 0) more over) (λ e z. e) (λ e.
    by_choice (λ (d : Drain). d.number ≡ 0 → idle d.world.core ≡ true) (eqb made.number 0) more over
    (λ q.
    let a = busy m e in
    let l : Lower m made.world.core = needed_lowers m (room a.there) program w.memory (entry_at m 0).state a (eqb-true made.number 0 q) in
    let less = l.less in
    from_ends n program made.world (suc calls) (λ x. l.room) (omega arith))
    (λ q z. absurd (eqb-false made.number 0 q z)))

-- a machine in range with an entry has a place for it: a place beyond the array is all zeros, which is no entry in range
empty_refused : (s : Setup) → entry_in_range s empty_entry ≡ false
unfolding entry_in_range accepted
empty_refused s = refl

some_place : (s : Setup) (count : ℕ) (entries : List Entry) → entries_in_range s count entries ≡ true → 0 < count → 0 < length entries
unfolding every_from
some_place s count (e ∷ entries) t h = omega arith
some_place s zero [] t h = absurd (omega arith)
some_place s (suc count) [] t h = impossible (sym (empty_refused s) ∙ and_left (entry_in_range s empty_entry) (every_from (entry_in_range s) empty_entry 1 count []) t)

in_range_place : (m : Core) → machine_in_range m ≡ true → 0 < m.count → 0 < length m.entries
unfolding machine_in_range
in_range_place m t h =
    let a = setup_in_range m.setup in
    let b = leb m.count m.setup.window in
    let c = tables_in_range m in
    some_place m.setup m.count m.entries (and_right (a && b && c) (entries_in_range m.setup m.count m.entries) t) h

pub of_ends : (program : List ℕ) (w : World) → (drain_of program w).number ≡ 0 → idle (drain_of program w).world.core ≡ true
unfolding drain_of
of_ends program w =
    let m : Core = w.core in
    let lent : ℕ = lent_refusal m program w.memory in
    by_choice (λ (d : Drain). d.number ≡ 0 → idle d.world.core ≡ true) (eqb lent 0) (drain_from (3 * m.count) program w 0) (drain_ends w 0 lent)
    (λ e. from_ends (3 * m.count) program w 0 (in_range_place m (in_range_lent m program w.memory (eqb-true lent 0 e))) (omega arith))
    (λ e z. absurd (eqb-false lent 0 e z))
