use Rattle.std.proofs.Common.{◌≡◌, refl, rules, arith, length, drop, length-drop}
use Rattle.std.proofs.lemmas.List.{append-nil, take_all}
use Rattle.bench.proofs.Replayed.words.Goals as goal

pub returns : goal.returns
returns c =
    let registers = c.args.self.now.registers in
    let long : length registers ≡ 32 = search rules in
    let all = take_all 31 (drop 1 registers) (omega (arith, length-drop 1 registers)) in
    simp (c.copy_from_slice.ensures.after, c.copy_from_slice-2.ensures.after, append-nil, all) refl
