-- Arrays of default values.
use Prim.Native.Nat.{ℕ, ◌<◌}
use mathlib.Core.Path.{◌≡◌, sym, subst, ◌∙◌}
use mathlib.Core.List.{List}
use lib.ListN.{replicate}
use Rattle.std.specs.Array.{AllOfLen}
use Rattle.std.proofs.lemmas.List.{ext_get_or, length-replicate, get_or-replicate}

-- n elements, each of which is the same
pub all_alike : {A : Type 0} {P : A → Type 0} (d : A) → ((x : A) → P x → x ≡ d) → (n : ℕ) (xs : List A) → AllOfLen P xs n → xs ≡ replicate n d
all_alike d same n xs all =
    ext_get_or d xs (replicate n d) (all.long ∙ sym (length-replicate n d))
    (λ i h. let below = subst (λ (m : ℕ). i < m) all.long h in same _ (all.at i d below) ∙ sym (get_or-replicate n i d d below))
