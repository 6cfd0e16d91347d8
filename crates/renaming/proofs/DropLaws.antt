-- A drop, put together from what the tables' functions leave.
use Prim.Native.Nat.{ℕ, suc, ◌-◌, ◌≤◌, ◌<◌}
use mathlib.Core.Path.{◌≡◌, refl, sym, ap, ◌∙◌}
use native.Mathlib.Omega.{arith}
use Rattle.renaming.specs.declared.Core.{Core}
use Rattle.renaming.specs.Drop.{drop_youngest, drop_many, drop_to}

pub drop_count : (m : Core) → (drop_youngest m).count ≡ m.count - 1
unfolding drop_youngest
drop_count m = refl

-- dropping goes on, or is done
pub drop_more : (kept : ℕ) (m : Core) → kept < m.count → drop_to kept (drop_youngest m) ≡ drop_to kept m
unfolding drop_many
drop_more kept m h =
    let n : m.count - kept ≡ suc (m.count - 1 - kept) = omega arith in
    ap (λ (k : ℕ). drop_many (k - kept) (drop_youngest m)) (drop_count m) ∙ ap (λ (k : ℕ). drop_many k m) (sym n)

pub drop_done : (kept : ℕ) (m : Core) → m.count ≤ kept → drop_to kept m ≡ m
unfolding drop_many
drop_done kept m h = let n : m.count - kept ≡ 0 = omega arith in ap (λ (k : ℕ). drop_many k m) n
