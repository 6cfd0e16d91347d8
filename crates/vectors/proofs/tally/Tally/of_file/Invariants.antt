use denote.Param.Always.{always_mut}
use Rattle.vectors.proofs.tally.Tally.of_file.Given as goal

abbrev pub invariant-loop : goal.invariant-loop
invariant-loop g l = always_mut g.F.FnMut l.initial.is_right → always_mut g.F.FnMut l.is_right
