-- A number put together from four bytes, of which those from its end on are 0.
use Rattle.std.proofs.Common.{◌≡◌, ℕ, zero, suc, ◌+◌, ◌*◌, ◌^◌, ◌<◌, ◌≤◌, List, subst, pow-suc, arith}
use Rattle.word.specs.Bytes.{number, byte_of}

-- what is read of a byte at an index
pub record Read (bytes : List ℕ) (at end byte : ℕ) : Type 0 where
  pub looked_at : at < end → byte ≡ byte_of bytes at
  pub others : end ≤ at → byte ≡ 0

below : (byte : ℕ → ℕ) → ((i : ℕ) → byte i < 256) → (size at : ℕ) → number byte at size < 256 ^ size
unfolding number
below byte fit zero at = omega arith
below byte fit (suc size) at = rw (pow-suc 256 size) (omega (arith, below byte fit size (at + 1), fit at))

module _ (bytes : List ℕ) (at : ℕ) where
  four : (size a b c d : ℕ) → size ≤ 4
      → Read bytes at (at + size) a → Read bytes (at + 1) (at + size) b → Read bytes (at + 1 + 1) (at + size) c → Read bytes (at + 1 + 1 + 1) (at + size) d
      → a + b * 0x100 + c * 0x1_0000 + d * 0x100_0000 ≡ number (byte_of bytes) at size
  unfolding number
  four zero a b c d h r s t u = omega (arith, r.others (omega arith), s.others (omega arith), t.others (omega arith), u.others (omega arith))
  four (suc zero) a b c d h r s t u = omega (arith, r.looked_at (omega arith), s.others (omega arith), t.others (omega arith), u.others (omega arith))
  four (suc (suc zero)) a b c d h r s t u = omega (arith, r.looked_at (omega arith), s.looked_at (omega arith), t.others (omega arith), u.others (omega arith))
  four (suc (suc (suc zero))) a b c d h r s t u =
      omega (arith, r.looked_at (omega arith), s.looked_at (omega arith), t.looked_at (omega arith), u.others (omega arith))
  four (suc (suc (suc (suc zero)))) a b c d h r s t u =
      omega (arith, r.looked_at (omega arith), s.looked_at (omega arith), t.looked_at (omega arith), u.looked_at (omega arith))
  four (suc (suc (suc (suc (suc n))))) a b c d h r s t u = absurd (omega arith)

  bounded : (size value : ℕ) → ((i : ℕ) → byte_of bytes i < 256) → value ≡ number (byte_of bytes) at size → value < 256 ^ size
  bounded size value fit e = rw e (below (byte_of bytes) fit size at)

  -- the number, and its bound
  pub loaded : (size a b c d : ℕ) → size ≤ 4 → ((i : ℕ) → byte_of bytes i < 256)
      → Read bytes at (at + size) a → Read bytes (at + 1) (at + size) b → Read bytes (at + 2) (at + size) c → Read bytes (at + 3) (at + size) d
      → (a + b * 0x100 + c * 0x1_0000 + d * 0x100_0000 ≡ number (byte_of bytes) at size) × (a + b * 0x100 + c * 0x1_0000 + d * 0x100_0000 < 256 ^ size)
  loaded size a b c d h fit r s t u =
      let third : at + 2 ≡ at + 1 + 1 = omega arith in
      let fourth : at + 3 ≡ at + 1 + 1 + 1 = omega arith in
      let e = four size a b c d h r s (subst (λ (k : ℕ). Read bytes k (at + size) c) third t) (subst (λ (k : ℕ). Read bytes k (at + size) d) fourth u) in
      (e, bounded size _ fit e)
