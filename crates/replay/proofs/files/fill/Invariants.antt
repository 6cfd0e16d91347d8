-- No more was read than the buffer takes.
use Rattle.std.proofs.Common.{◌≤◌, length}
use Rattle.replay.proofs.files.fill.Given as goal

abbrev pub invariant-loop : goal.invariant-loop
invariant-loop l = l.done ≤ length l.buffer
