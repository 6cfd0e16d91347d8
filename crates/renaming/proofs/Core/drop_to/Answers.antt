use Rattle.std.proofs.Common.{◌≡◌, ◌∙◌, ◌-◌, sym, ap, arith}
use Rattle.renaming.specs.declared.Core.{Core}
use Rattle.renaming.specs.Drop.{drop_to}
use Rattle.renaming.proofs.DropLaws.{drop_count, drop_more, drop_done}
use Rattle.renaming.proofs.Core.drop_to.Goals as goal
use Rattle.renaming.proofs.Core.drop_to.Goals.{After-drop_youngest}

one_less : (p : After-drop_youngest) → p.drop_youngest.new.self.count ≡ p.loop-self.self.count - 1
one_less p = ap (λ (m : Core). m.count) p.drop_youngest.ensures ∙ drop_count p.loop-self.self

pub loop-self-smaller : goal.loop-self-smaller
loop-self-smaller c = omega (arith, one_less (goal.at.loop-self-smaller c).After-drop_youngest)

pub loop-self-preserved : goal.loop-self-preserved
loop-self-preserved c =
    let l = c.loop-self in
    record {
      few = omega (arith, one_less (goal.at.loop-self-preserved c).After-drop_youngest);
      same = ap (drop_to c.args.kept) c.drop_youngest.ensures ∙ drop_more c.args.kept l.self c.loop-self-test.true ∙ l.invariant.same;
    }

pub returns : goal.returns
returns c =
    let l = c.loop-self in
    sym (drop_done c.args.kept l.self c.loop-self-test.false) ∙ l.invariant.same
