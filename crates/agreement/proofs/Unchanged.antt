-- Dropping leaves the next address as it was.
use Prim.Native.Nat.{ℕ, zero, suc, ◌+◌}
use mathlib.Core.Path.{◌≡◌, refl}
use Rattle.agreement.proofs.View.{View, drop_at, drops_to}

pub drops_next : (n j : ℕ) (c : View) → (drops_to n j c).next ≡ c.next
unfolding drops_to drop_at
drops_next n zero c = refl
drops_next n (suc j) c = drops_next n j (drop_at (n + j) c)
