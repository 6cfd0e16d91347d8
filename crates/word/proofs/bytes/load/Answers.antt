use Rattle.std.proofs.Common.{arith}
use Rattle.word.proofs.LoadLaws.{loaded}
use Rattle.word.proofs.bytes.load.Goals as goal

pub returns : goal.returns
returns c =
    let a = c.args in
    loaded a.bytes.now a.at a.size c.byte.result c.byte-2.result c.byte-3.result c.byte-4.result (omega arith) (λ i. (c.type_inv.bytes i).fits)
    (record { looked_at = c.byte.ensures.looked_at; others = c.byte.ensures.others })
    (record { looked_at = c.byte-2.ensures.looked_at; others = c.byte-2.ensures.others })
    (record { looked_at = c.byte-3.ensures.looked_at; others = c.byte-3.ensures.others })
    (record { looked_at = c.byte-4.ensures.looked_at; others = c.byte-4.ensures.others })
