use mathlib.Core.Path.{ap, ◌∙◌}
use Rattle.execution.specs.Memory.{sign_extended}
use Rattle.execution.proofs.MemoryLaws.{second_signed}
use Rattle.execution.proofs.memory.second_by.Goals as goal

pub returns-in-LoadsSigned : goal.returns-in-LoadsSigned
returns-in-LoadsSigned c =
    let size = c.in-LoadsSigned.size in
    rw c.in-LoadsSigned.is (c.sign_extended.ensures ∙ ap (sign_extended size) c.load.ensures.found ∙ second_signed size _ _ _ _)
