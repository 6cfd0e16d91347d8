-- Laws of the ranges that refusal 5 looks at.
use Prim.Native.Nat.{◌≤◌, ◌<◌}
use mathlib.Core.Path.{◌≡◌}
use mathlib.Core.Bool.{true, false, ◌&&◌}
use native.Mathlib.Omega.{arith}
use borrow.Author.Tests.{leb-true, lt-leb, le-leb}
use lib.Dec.{leb}
use Rattle.laws.proofs.Bools.{and_left, and_right}
use Rattle.renaming.specs.Range.{tables_in_range, entries_in_range, machine_in_range}
use Rattle.ranges.specs.Sizes.{setup_in_range}
use Rattle.ranges.proofs.SizeLaws.{setup_sizes}
use Rattle.renaming.specs.declared.Core.{Core}

-- the sweep, by what was tested on the way
pub setup_refused : (m : Core) → setup_in_range m.setup ≡ false → false ≡ machine_in_range m
unfolding machine_in_range
setup_refused m e = rw e

pub count_refused : (m : Core) → setup_in_range m.setup ≡ true → m.setup.window < m.count → false ≡ machine_in_range m
unfolding machine_in_range
count_refused m e h = rw (e, lt-leb m.count m.setup.window h)

pub swept : (m : Core) → setup_in_range m.setup ≡ true → m.count ≤ m.setup.window → tables_in_range m && entries_in_range m.setup m.count m.entries ≡ machine_in_range m
unfolding machine_in_range
swept m e h = rw (e, le-leb m.count m.setup.window h)

-- a machine in range has at most 64 entries
pub in_range_count : (m : Core) → machine_in_range m ≡ true → m.count ≤ 64
unfolding machine_in_range
in_range_count m t =
    let a = setup_in_range m.setup in
    let b = leb m.count m.setup.window in
    let c = tables_in_range m in
    let d = entries_in_range m.setup m.count m.entries in
    let ab = and_left (a && b) c (and_left (a && b && c) d t) in
    let s = setup_sizes m.setup (and_left a b ab) in
    let n = leb-true m.count m.setup.window (and_right a b ab) in
    omega (arith, s.window_to, n)
