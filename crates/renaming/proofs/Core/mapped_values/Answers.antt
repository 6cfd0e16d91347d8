use Rattle.std.proofs.Common.{◌∙◌, sym, ap, length-set, arith}
use lib.Seq.{ext_get_or}
use Rattle.tables.specs.Table.{look_up}
use Rattle.tables.specs.declared.Mapping.{Mapping}
use Rattle.renaming.specs.Report.{value_in, values_in}
use Rattle.renaming.proofs.TabulateLaws.{tabulate_length, tabulate_at, filled_more}
use Rattle.renaming.proofs.Core.mapped_values.Goals as goal

pub loop-r-preserved : goal.loop-r-preserved
loop-r-preserved c =
    let m = c.args.self.now in
    let l = c.loop-r in
    record {
      long = length-set l.registers l.r c.look_under.result ∙ l.invariant.long;
      filled = filled_more l.registers l.r (value_in m) c.look_under.result (omega arith) (c.look_under.ensures ∙ ap (λ (x : Mapping). look_up m.values x.register) c.shown.ensures) l.invariant.filled;
    }

pub returns : goal.returns
unfolding values_in
returns c =
    let m = c.args.self.now in
    let l = c.loop-r in
    ext_get_or 0 l.registers (values_in m) (l.invariant.long ∙ sym (tabulate_length 32 0 (value_in m)))
    (λ i h. l.invariant.filled i (omega arith) ∙ sym (tabulate_at 32 i (value_in m) (omega arith)))
