-- What a choice comes to.
use mathlib.Core.Path.{◌≡◌, refl}
use mathlib.Core.Bool.{Bool, true, false}
use Rattle.isa.specs.Reads.{choose}

-- a choice has a property that both sides have
pub by_choice : {A : Type 0} (q : A → Type 0) (b : Bool) (x y : A) → (b ≡ true → q x) → (b ≡ false → q y) → q (choose b x y)
by_choice q true x y f g = f refl
by_choice q false x y f g = g refl
