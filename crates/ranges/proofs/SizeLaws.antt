-- Set-up's refusals in order, and what an accepted set-up says of its sizes.
use Prim.Native.Nat.{◌%◌, ◌≤◌}
use mathlib.Core.Path.{◌≡◌, refl}
use mathlib.Core.Bool.{Bool, true, false, not, ◌&&◌}
use mathlib.Core.List.{[], ◌∷◌}
use native.Mathlib.Omega.{arith}
use borrow.Author.Tests.{leb-true}
use lib.Dec.{leb, eqb}
use Rattle.laws.proofs.Bools.{both, and_left, and_right}
use Rattle.reference.specs.Step.{when, first, program_fits, data_fits, lengths_refusal}
use Rattle.ranges.specs.Sizes.{window_fits, registers_fit, set_up_refusal, setup_in_range}
use Rattle.ranges.specs.declared.Setup.{Setup}

module _ (s : Setup) where
  pub window_refused : window_fits s.window ≡ false → 1 ≡ set_up_refusal s
  unfolding set_up_refusal first
  window_refused w = rw w

  pub registers_refused : window_fits s.window ≡ true → registers_fit s.registers ≡ false → 2 ≡ set_up_refusal s
  unfolding set_up_refusal first
  registers_refused w f = rw (w, f)

  pub lengths_refused : window_fits s.window ≡ true → registers_fit s.registers ≡ true → lengths_refusal s.program s.bytes ≡ set_up_refusal s
  unfolding set_up_refusal lengths_refusal first
  lengths_refused w f = rw (w, f)

-- what an accepted set-up says of its numbers
none_applies : (a b c d : Bool) → first (when (not a) 1 ∷ when (not b) 2 ∷ when (not c) 3 ∷ when (not d) 4 ∷ []) ≡ 0 → (a ≡ true) × (b ≡ true) × (c ≡ true) × (d ≡ true)
unfolding first
none_applies true true true true e = (refl, refl, refl, refl)
none_applies true true true false e = absurd (omega arith)
none_applies true true false d e = absurd (omega arith)
none_applies true false c d e = absurd (omega arith)
none_applies false b c d e = absurd (omega arith)

pub accepted_in_range : (s : Setup) → set_up_refusal s ≡ 0 → setup_in_range s ≡ true
unfolding set_up_refusal
accepted_in_range s e =
    let t = none_applies (window_fits s.window) (registers_fit s.registers) (program_fits s.program) (data_fits s.bytes) e in
    both (both (both t.0 t.1) t.2) t.3

pub record Sizes (s : Setup) : Type 0 where
  pub window_from : 1 ≤ s.window
  pub window_to : s.window ≤ 64
  pub registers_from : 32 ≤ s.registers
  pub registers_to : s.registers ≤ 95
  pub program_to : s.program ≤ 16_384
  pub bytes_to : s.bytes ≤ 16_384

pub setup_sizes : (s : Setup) → setup_in_range s ≡ true → Sizes s
setup_sizes s t =
    let window = s.window in
    let registers = s.registers in
    let program = s.program in
    let bytes = s.bytes in
    let three = and_left (window_fits window && registers_fit registers && program_fits program) (data_fits bytes) t in
    let two = and_left (window_fits window && registers_fit registers) (program_fits program) three in
    let w = and_left (window_fits window) (registers_fit registers) two in
    let n = and_right (window_fits window) (registers_fit registers) two in
    let p = and_right (window_fits window && registers_fit registers) (program_fits program) three in
    record {
      window_from = leb-true 1 window (and_left (leb 1 window) (leb window 64) w);
      window_to = leb-true window 64 (and_right (leb 1 window) (leb window 64) w);
      registers_from = leb-true 32 registers (and_left (leb 32 registers) (leb registers 95) n);
      registers_to = leb-true registers 95 (and_right (leb 32 registers) (leb registers 95) n);
      program_to = leb-true program 16_384 (and_right (leb 4 program) (leb program 16_384) (and_left (leb 4 program && leb program 16_384) (eqb (program % 4) 0) p));
      bytes_to = leb-true bytes 16_384 (and_right (window_fits window && registers_fit registers && program_fits program) (data_fits bytes) t);
    }

pub accepted_sizes : (s : Setup) → set_up_refusal s ≡ 0 → Sizes s
accepted_sizes s e = setup_sizes s (accepted_in_range s e)
