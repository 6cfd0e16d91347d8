-- A cause's number says which cause it is, and that it is one.
use Rattle.std.specs.Prelude.{ℕ, List, [], ◌∷◌, get_or, ◌≤◌}
use mathlib.Core.Path.{◌≡◌, refl, sym, ap, ◌∙◌}
use native.Mathlib.Omega.{arith}
use Rattle.execution.specs.declared.Cause.{Cause}
use Rattle.execution.specs.declared.Cause.TheVariants.{Illegal, EnvironmentCall, Breakpoint, Fetch, Target, Load, Store}
use Rattle.execution.specs.Causes.{cause_number}

-- the causes at their numbers
abbrev places : List Cause
places = Illegal ∷ Illegal ∷ EnvironmentCall ∷ Breakpoint ∷ Fetch ∷ Target ∷ Load ∷ Store ∷ []

abbrev of_number : ℕ → Cause
of_number n = get_or places n Illegal

back : (cause : Cause) → of_number (cause_number cause) ≡ cause
back Illegal = refl
back EnvironmentCall = refl
back Breakpoint = refl
back Fetch = refl
back Target = refl
back Load = refl
back Store = refl

pub cause_injective : (a b : Cause) → cause_number a ≡ cause_number b → a ≡ b
cause_injective a b e = sym (back a) ∙ ap of_number e ∙ back b

pub cause_small : (cause : Cause) → cause_number cause ≤ 7
cause_small Illegal = omega arith
cause_small EnvironmentCall = omega arith
cause_small Breakpoint = omega arith
cause_small Fetch = omega arith
cause_small Target = omega arith
cause_small Load = omega arith
cause_small Store = omega arith

pub cause_some : (cause : Cause) → cause_number cause ≡ 0 → ⊥
cause_some Illegal e = omega (arith, e)
cause_some EnvironmentCall e = omega (arith, e)
cause_some Breakpoint e = omega (arith, e)
cause_some Fetch e = omega (arith, e)
cause_some Target e = omega (arith, e)
cause_some Load e = omega (arith, e)
cause_some Store e = omega (arith, e)
