-- Refusals 20 and 21, by the length and by what record 0 holds.
use Prim.Native.Nat.{ℕ, ◌%◌, ◌≤◌}
use mathlib.Core.Path.{◌≡◌}
use mathlib.Core.Bool.{true, ◌&&◌}
use native.Mathlib.Omega.{arith}
use borrow.Author.Tests.{leb-true, eqb-true}
use lib.Dec.{leb, eqb}
use Rattle.laws.proofs.Bools.{and_left, and_right}
use Rattle.formats.specs.Schedule.{record_length, longest, schedule_fits}

pub at_most : (n : ℕ) → schedule_fits n ≡ true → n ≤ longest
at_most n e = leb-true n longest (and_right (leb 1 n) (leb n longest) (and_left (leb 1 n && leb n longest) (eqb (n % record_length) 0) e))

-- record 0 is there
pub at_least : (n : ℕ) → schedule_fits n ≡ true → record_length ≤ n
at_least n e =
    let some = leb-true 1 n (and_left (leb 1 n) (leb n longest) (and_left (leb 1 n && leb n longest) (eqb (n % record_length) 0) e)) in
    let whole = eqb-true (n % record_length) 0 (and_right (leb 1 n && leb n longest) (eqb (n % record_length) 0) e) in
    omega arith
