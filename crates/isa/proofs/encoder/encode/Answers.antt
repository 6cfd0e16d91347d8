use mathlib.Core.Path.{◌≡◌, sym, ap, ◌∙◌}
use mir.Syntax.{w32}
use mir.Val.{to_z, of_z}
use mir.ValLaws.{to_z-of_z}
use Rattle.isa.specs.Reads.{instruction}
use Rattle.isa.specs.Encodes.{accepted, word_of, written}
use Rattle.isa.specs.declared.Instruction.{Instruction}
use Rattle.isa.proofs.Accepted.{byte_kept, answer_written, answer_refused}
use Rattle.isa.proofs.encoder.encode.Goals.{After-accepts}
use Rattle.isa.proofs.encoder.encode.Goals as goal

-- the bytes are the numbers given
module _ (c : After-accepts) where
  abbrev wanted : Instruction
  wanted = instruction c.args.operation c.args.rd c.args.rs1 c.args.rs2 c.args.constant

  made : instruction c.in_ok-narrow.field-0 c.in_ok-narrow-2.field-0 c.in_ok-narrow-3.field-0 c.in_ok-narrow-4.field-0 (to_z w32 (of_z w32 c.args.constant)) ≡ wanted
  made =
      let o = byte_kept c.args.operation _ c.in_ok-narrow.ensures in
      let rd = byte_kept c.args.rd _ c.in_ok-narrow-2.ensures in
      let rs1 = byte_kept c.args.rs1 _ c.in_ok-narrow-3.ensures in
      let rs2 = byte_kept c.args.rs2 _ c.in_ok-narrow-4.ensures in
      rw (o, rd, rs1, rs2, to_z-of_z w32 c.args.constant c.ranges.constant)

  answer : c.accepts.result ≡ accepted wanted
  answer = c.accepts.ensures ∙ ap accepted made

pub returns-then-not-accepts : goal.returns-then-not-accepts
returns-then-not-accepts c =
    let p = (goal.at.returns-then-not-accepts c).After-accepts in
    answer_refused (wanted p) (sym (answer p) ∙ c.if-not-accepts.true)

pub returns : goal.returns
returns c =
    let p = (goal.at.returns c).After-accepts in
    ap written (c.write.ensures ∙ ap word_of (made p)) ∙ answer_written (wanted p) (sym (answer p) ∙ c.if-not-accepts.false)
