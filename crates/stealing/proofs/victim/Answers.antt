use Rattle.std.proofs.Common.{◌∙◌, sym, arith}
use Rattle.stealing.proofs.StealLaws.{found_at, passed_at, none_at}
use Rattle.stealing.proofs.victim.Goals as goal

pub loop-k-preserved : goal.loop-k-preserved
loop-k-preserved c =
    let m = c.args.core.now in
    let l = c.loop-k in
    record {
      above = omega arith;
      inside = omega arith;
      left = sym (passed_at m.physical m.entries c.args.position l.k c.if-k-position.false (sym c.held.ensures ∙ c.if-held-ne0.false)) ∙ l.invariant.left;
    }

pub returns-then-k-position : goal.returns-then-k-position
returns-then-k-position c =
    let m = c.args.core.now in
    let l = c.loop-k in
    sym (none_at m.physical m.entries c.args.position l.k c.if-k-position.true) ∙ l.invariant.left

pub returns-then-held-ne0 : goal.returns-then-held-ne0
returns-then-held-ne0 c =
    let m = c.args.core.now in
    let l = c.loop-k in
    sym (found_at m.physical m.entries c.args.position l.k c.if-k-position.false (λ z. c.if-held-ne0.true (c.held.ensures ∙ z))) ∙ l.invariant.left
