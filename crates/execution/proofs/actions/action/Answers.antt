use mathlib.Core.Path.{sym}
use native.Mathlib.Omega.{arith}
use Rattle.std.proofs.lemmas.List.{get_or_past}
use Rattle.execution.specs.declared.Action.TheVariants.{Stops}
use Rattle.execution.specs.declared.Cause.TheVariants.{Illegal}
use Rattle.execution.specs.Actions.{actions}
use Rattle.execution.proofs.actions.action.Goals as goal

-- numbers past the last operation's
pub returns-in-0-2-clause-listed : goal.returns-in-0-2-clause-listed
returns-in-0-2-clause-listed c = sym (get_or_past actions c.args.operation (Stops Illegal) (omega arith))
