use Rattle.std.proofs.Common.{◌≡◌, ◌%◌, ◌^◌}
use denote.Param.Always.{always_mut}
use Rattle.vectors.proofs.tally.Tally.of.Given as goal

abbrev pub invariant-loop-record : goal.invariant-loop-record
invariant-loop-record g l =
    (always_mut g.F.FnMut l.initial.is_right → always_mut g.F.FnMut l.is_right) × (l.tally.tested ≡ l.record-index % 2 ^ 64)
