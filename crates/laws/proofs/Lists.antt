-- Laws of lists.
use mathlib.Core.Path.{◌≡◌, refl}
use mathlib.Core.List.{List, [], ◌∷◌}
use Prim.Native.Nat.{ℕ, zero, suc, ◌<◌}
use native.Mathlib.Nat.{le_of_suc-le-suc, not-suc-le-zero}
use lib.ListN.{length, get_or}

-- within the list the default does not show
pub get_d_within : {A : Type 0} (l : List A) (n : ℕ) (d e : A) → n < length l → get_or l n d ≡ get_or l n e
get_d_within [] n d e h = absurd (not-suc-le-zero h)
get_d_within (x ∷ xs) zero d e h = refl
get_d_within (x ∷ xs) (suc n) d e h = get_d_within xs n d e (le_of_suc-le-suc h)
