use Rattle.std.proofs.Common.{◌<◌, ℕ, ◌+◌, ◌-◌, ◌∙◌, sym, drop, arith, length-drop}
use Rattle.std.proofs.lemmas.List.{length-take}
use lib.Dec.{leb}
use Rattle.ranges.proofs.TableLaws.{every_next, every_done}
use Rattle.ranges.proofs.table.within.Goals as goal

pub loop-n-preserved : goal.loop-n-preserved
loop-n-preserved c =
    let a = c.args in
    let l = c.loop-n in
    let size : ℕ = a.count + 1 - 1 in
    let within_count : l.n-index < a.count = omega (arith, length-take size (drop 1 a.table.now), c.loop-n-test.true) in
    every_next (λ (n : ℕ). leb n a.limit) 0 size a.count l.n-index l.good a.table.now (omega arith) within_count ∙ l.invariant

pub returns : goal.returns
returns c =
    let a = c.args in
    let l = c.loop-n in
    sym (every_done (λ (n : ℕ). leb n a.limit) 0 a.count l.n-index (l.n-index + 1) l.good a.table.now (omega (arith, length-take (a.count + 1 - 1) (drop 1 a.table.now), length-drop 1 a.table.now, c.loop-n-test.false)))
    ∙ l.invariant
