-- The worked values, letter by letter. The table's rows have document 01's words.
use Rattle.std.specs.Prelude.{◌≡◌, pos, replicate}
use Rattle.isa.specs.Reads.{instruction, legal, illegal, read_of}
use Rattle.isa.specs.Encodes.{minus}
use Rattle.execution.specs.declared.Alu.TheVariants.{Add, Slt, Sltu, Srl, Sra}
use Rattle.execution.specs.Execute.{goes, stops, compute, executed}
use Rattle.reference.specs.Step.{step_with}
use Rattle.window.specs.declared.Call.TheVariants.{Complete as complete}
use Rattle.worked.specs.Calls.{after, further, answers, register_at, destination_at, state_at, free_register, next_address, both_issued, younger_first, robbing, committing, again, older_first}
use Rattle.worked.specs.Claims.{◌also◌, sixteen}
use Rattle.worked.specs.Table.{loads, stops_by}

pub record Worked : Type 0 where
  pub a : read_of 0xfff0_0093 ≡ legal (instruction 19 1 0 0 (minus 1))
  pub b : read_of 0x0020_81b3 ≡ legal (instruction 28 3 1 2 (pos 0))
  pub c : read_of 0x4020_81b3 ≡ legal (instruction 29 3 1 2 (pos 0))
  pub d : (read_of 0x0010_9093 ≡ legal (instruction 25 1 1 0 (pos 1))) also (read_of 0x0210_9093 ≡ illegal)
  pub e : read_of 0 ≡ illegal
  pub f : compute Add 0xffff_ffff 1 ≡ 0
  pub g : (compute Sra 0x8000_0000 31 ≡ 0xffff_ffff) also (compute Srl 0x8000_0000 31 ≡ 1)
  pub h : (compute Slt 0xffff_ffff 0 ≡ 1) also (compute Sltu 0xffff_ffff 0 ≡ 0)
  pub i : (executed 16 (instruction 4 1 2 0 (pos 0)) 0 9 0 ≡ goes 4 8) also (executed 16 (instruction 4 1 2 0 (pos 0)) 0 7 0 ≡ stops 0 5)
  pub j : (step_with (instruction 13 1 0 0 (pos 12)) sixteen ≡ loads 0x0f0e_0d0c)
      also (step_with (instruction 13 1 0 0 (pos 13)) sixteen ≡ stops_by 6)
      also (step_with (instruction 13 1 0 0 (pos 16)) sixteen ≡ stops_by 6)
      also (step_with (instruction 11 1 0 0 (pos 15)) sixteen ≡ loads 15)
  pub k : (answers again ≡ replicate 9 0)
      also (destination_at 0 (after both_issued) ≡ 1)
      also (destination_at 1 (after both_issued) ≡ 2)
      also (register_at 1 (after younger_first) ≡ 32)
      also (free_register (after younger_first) ≡ 0)
      also (register_at 0 (after robbing) ≡ 32)
      also (register_at 1 (after robbing) ≡ 0)
      also (state_at 1 (after robbing) ≡ 0)
      also (free_register (after committing) ≡ 1)
      also (next_address (after committing) ≡ 4)
      also (destination_at 0 (after committing) ≡ 2)
      also (register_at 0 (after again) ≡ 1)
  pub l : (answers older_first ≡ replicate 5 0)
      also (register_at 0 (after older_first) ≡ 32)
      also ((further older_first (complete 1)).number ≡ 16)
      also ((further older_first (complete 1)).world ≡ after older_first)
