use Prim.Native.Nat.{ℕ, ◌-◌, ◌*◌, ◌<◌}
use mathlib.Core.Path.{subst}
use native.Mathlib.Omega.{arith}
use lib.Pow.{pow_mono}
use Rattle.word.proofs.FieldLaws.{shifted_one}
use Rattle.word.proofs.BytesLaws.{bytes_half}
use Rattle.execution.proofs.memory.sign_extended.Goals as goal

pub extend-requires : goal.extend-requires
extend-requires c =
    let size = c.args.size in
    let h : 8 * size - 1 < 31 = omega (arith, c.requires.sized.1) in
    rw (shifted_one (8 * size - 1) (omega arith))
    (subst (λ (n : ℕ). c.args.value < n) (bytes_half size c.requires.sized.0) c.requires.below, pow_mono {i = 8 * size - 1} {j = 30} (omega arith))
