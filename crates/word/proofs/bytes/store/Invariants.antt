use Rattle.std.proofs.Common.{◌≡◌, ◌+◌, ◌-◌}
use Rattle.word.specs.Bytes.{put}
use Rattle.word.proofs.bytes.store.Given as goal

abbrev pub invariant-loop-k : goal.invariant-loop-k
invariant-loop-k l = put l.bytes (l.at + l.k) (l.size - l.k) l.rest ≡ put l.initial.bytes l.at l.size l.value
