-- The most that a round adds.
use Prim.Native.Nat.{ℕ, zero, suc, ◌*◌, ◌^◌, ◌≤◌}
use mathlib.Core.Path.{◌≡◌, refl}
use native.Mathlib.Omega.{arith}
use Rattle.std.proofs.Common.{mod-lt, pow_pos}
use lib.ListN.{length, get_or}
use Rattle.std.specs.Prelude.{List}
use Rattle.std.proofs.lemmas.List.Sums.{sum_by-le}
use Rattle.word.specs.Signed.{word_of}
use Rattle.isa.specs.Listing.{format_of}
use Rattle.isa.specs.Reads.{operation_of, fields_of}
use Rattle.isa.proofs.ReadLaws.{read_none, read_some, legal_small}
use Rattle.timing.specs.Timing.{weight, weights}

-- more than a weight
abbrev pub heaviest : ℕ
heaviest = 2 ^ 33

pub lighter : (w : ℕ) → weight w ≤ heaviest
lighter w = by_operation (operation_of w) refl
  where
    by_operation : (operation : ℕ) → operation_of w ≡ operation → weight w ≤ heaviest
    by_operation zero e = rw (read_none w e) (omega arith)
    by_operation (suc n) e =
        let p = read_some w (suc n) e (λ z. omega (arith, z)) in
        let s = legal_small w (fields_of (format_of (suc n)) (suc n) w) p in
        rw p (omega (arith, s.operation, s.rd, s.rs1, s.rs2, mod-lt (word_of (fields_of (format_of (suc n)) (suc n) w).constant) (pow_pos 32)))

pub round_most : (words : List ℕ) → length words ≤ 4_096 → weights words ≤ 4_096 * heaviest
round_most words h = omega (arith, sum_by-le weight heaviest words (λ k d l. lighter (get_or words k d)))
