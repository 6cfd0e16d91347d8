-- The sizes as a caller asks for them, and what they come to.
use Rattle.std.specs.Prelude.{◌≡◌, Result, IfOk}
use Rattle.refusals.specs.Numbers.{number_of}
use Rattle.refusals.specs.declared.Refusal.{Refusal}
use Rattle.ranges.specs.Sizes.{setup_of, set_up_refusal}
use Rattle.ranges.specs.declared.Setup.{Setup}
use Rattle.ranges.specs.declared.Dimensions.{Dimensions}

abbrev pub sizes_of : Dimensions → Setup
sizes_of asked = setup_of asked.window asked.registers asked.program asked.bytes

-- refusals 1 to 4, or the sizes asked for
abbrev pub SetupIs : Dimensions → Result Setup Refusal → Type 0
SetupIs asked result = (number_of result ≡ set_up_refusal (sizes_of asked)) × IfOk result (λ setup. setup ≡ sizes_of asked)
