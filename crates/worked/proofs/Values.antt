-- The worked values, read off the table.
use Prim.Native.Nat.{ℕ, zero, suc, ◌<◌}
use mathlib.Core.List.{List, [], ◌∷◌}
use native.Mathlib.Nat.{le_of_suc-le-suc, not-suc-le-zero}
use native.Mathlib.Omega.{arith}
use lib.ListN.{length, get_or}
use Rattle.isa.specs.Reads.{illegal}
use Rattle.worked.specs.Claims.{reads}
use Rattle.worked.specs.Table.{Row, row, table, Means, In, here, there}
use Rattle.worked.specs.Worked.{Worked}
use Rattle.worked.proofs.TableLaws.{row_means}

-- what stands at a place is a row of the list
in_at : (rows : List Row) (d : Row) (k : ℕ) → k < length rows → In (get_or rows k d) rows
in_at [] d k h = absurd (not-suc-le-zero h)
in_at (r ∷ rows) d zero h = here
in_at (r ∷ rows) d (suc k) h = there (in_at rows d k (le_of_suc-le-suc h))

-- what would stand past the table
abbrev none : Row
none = row "-" (reads 0 illegal)

-- what the row at a place means, counted from 0
said : (k : ℕ) → k < 12 → Means (get_or table k none)
said k h = row_means (get_or table k none) (in_at table none k h)

pub worked : Worked
worked =
    record {
      a = said 0 (omega arith);
      b = said 1 (omega arith);
      c = said 2 (omega arith);
      d = said 3 (omega arith);
      e = said 4 (omega arith);
      f = said 5 (omega arith);
      g = said 6 (omega arith);
      h = said 7 (omega arith);
      i = said 8 (omega arith);
      j = said 9 (omega arith);
      k = said 10 (omega arith);
      l = said 11 (omega arith);
    }
