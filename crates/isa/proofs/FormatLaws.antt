-- The rows of the listing by number, as the code's pairs.
use Prim.Native.Nat.{ℕ}
use mathlib.Core.Path.{◌≡◌, ◌∙◌, ap}
use mathlib.Core.List.{List}
use native.Mathlib.Omega.{arith}
use denote.Ref.{Bor}
use lib.ListN.{get_or-map}
use Rattle.std.specs.Prelude.{map, Option, Some, None}
use Rattle.std.specs.Option.{unwrap_or, option_copied}
use Rattle.std.specs.Slice.{IsItemAt}
use Rattle.isa.specs.Listing.{Format, Row, listing, row_of, format_of, fixed_of}

abbrev pair : Row → Format × ℕ
pair row = (row.format, row.fixed)

abbrev pub pairs : List (Format × ℕ)
pairs = map pair listing

lent_pair : (operation : ℕ) (lent : Option (Bor (Format × ℕ))) → IsItemAt pairs operation lent → unwrap_or (option_copied lent) (pair (row_of 0)) ≡ pair (row_of operation)
lent_pair operation None h = h.4 (omega arith) (pair (row_of 0)) ∙ get_or-map pair listing operation (row_of 0)
lent_pair operation (Some x) h = h.4 (omega arith) (pair (row_of 0)) ∙ get_or-map pair listing operation (row_of 0)

-- what was read of the pairs at an operation is its row
module _ (operation : ℕ) (lent : Option (Bor (Format × ℕ))) (copied : Option (Format × ℕ)) (read : Format × ℕ)
    (l : IsItemAt pairs operation lent) (c : copied ≡ option_copied lent) (r : read ≡ unwrap_or copied (pair (row_of 0))) where
  row : read ≡ pair (row_of operation)
  row = r ∙ ap (λ (o : Option (Format × ℕ)). unwrap_or o (pair (row_of 0))) c ∙ lent_pair operation lent l

  pub format_read : read.0 ≡ format_of operation
  format_read = ap (λ (p : Format × ℕ). p.0) row

  pub fixed_read : read.1 ≡ fixed_of operation
  fixed_read = ap (λ (p : Format × ℕ). p.1) row
