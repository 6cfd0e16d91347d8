-- Laws of what refusal 5 looks at in an entry.
use Prim.Native.Nat.{ℕ, ◌<◌}
use mathlib.Core.Path.{◌≡◌, refl, sym, ap}
use mathlib.Core.Bool.{true}
use native.Mathlib.Omega.{arith}
use borrow.Author.Tests.{ne_eqb}
use lib.Dec.{eqb}
use lib.IntN.{ℤ, pos, negsuc}
use lib.ListN.{get_or-eq_default}
use mir.Syntax.{w32}
use mir.Val.{of_z, SFits}
use Rattle.isa.specs.Listing.{last}
use Rattle.isa.specs.declared.Instruction.{Instruction}
use Rattle.execution.specs.declared.Action.{Action}
use Rattle.execution.specs.declared.Action.TheVariants.{Stops}
use Rattle.execution.specs.declared.Cause.TheVariants.{Illegal}
use Rattle.execution.specs.Actions.{actions}
use Rattle.execution.specs.Memory.{effective, ends_within_by, store_ends_within}
use Rattle.ranges.specs.Entries.{is_zero}

-- a number is 0 where its word is
pub zero_bits : (c : ℤ) → SFits w32 c → eqb (of_z w32 c) 0 ≡ is_zero c
zero_bits (pos n) h = refl
zero_bits (negsuc n) h = let m = h.sfits in ne_eqb (of_z w32 (negsuc n)) 0 (λ e. omega arith)

-- an operation number beyond the last is no store
pub no_store : (len first : ℕ) (i : Instruction) → last < i.operation → true ≡ store_ends_within len i first
unfolding ends_within_by
no_store len first i h = sym (ap (λ (a : Action). ends_within_by a len (effective i first)) (get_or-eq_default actions (Stops Illegal) {n = i.operation} h))
