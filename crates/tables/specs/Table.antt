-- Tables by number. "Zero means none and reads as value 0; … storing under it, does nothing."
use Rattle.std.specs.Prelude.{ℕ, List, eqb, get_or, set}
use Rattle.isa.specs.Reads.{choose}

-- the places of a table of registers or of names: 0, which is nobody's, and 1 to 95
abbrev pub places : ℕ
places = 96

-- what stands under a number; none under 0 and beyond the table
unfoldable pub look_under : {A : Type 0} → A → List A → ℕ → A
look_under none table n = choose (eqb n 0) none (get_or table n none)

abbrev pub look_up : List ℕ → ℕ → ℕ
look_up table n = look_under 0 table n

unfoldable pub store_under : {A : Type 0} → List A → ℕ → A → List A
store_under table n value = choose (eqb n 0) table (set table n value)
