use Rattle.std.proofs.Common.{◌≡◌, ◌≤◌, ◌<◌, ◌-◌}
use Rattle.stealing.specs.Steal.{victim_among, victim_of}
use Rattle.stealing.proofs.victim.Given as goal

abbrev pub invariant-loop-k : goal.invariant-loop-k
invariant-loop-k l =
    record {
      above : l.position ≤ l.k;
      inside : l.k < l.core.count;
      left : victim_among (l.k - l.position) l.core.physical l.core.entries l.position ≡ victim_of l.core l.position;
    }

abbrev pub decreases-loop-k : goal.decreases-loop-k
decreases-loop-k l = l.k
