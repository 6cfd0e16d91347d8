-- Document 01's worked values, "proved together as one table".
use Rattle.std.specs.Prelude.{ℕ, Bool, true, ◌&&◌, List, [], ◌∷◌, pos, replicate, set}
use Prim.Native.Char.{Char}
use Rattle.isa.specs.Reads.{instruction, legal, illegal}
use Rattle.isa.specs.Encodes.{minus}
use Rattle.execution.specs.declared.Alu.TheVariants.{Add, Slt, Sltu, Srl, Sra}
use Rattle.execution.specs.Execute.{stop, goes, stops}
use Rattle.reference.specs.Step.{Step, reached}
use Rattle.window.specs.declared.Call.TheVariants.{Complete as complete}
use Rattle.worked.specs.Calls.{register_at, destination_at, state_at, free_register, next_address, both_issued, younger_first, robbing, committing, again, older_first}
use Rattle.worked.specs.Claims.{Claim, reads, computes, executes, steps, answer, show, refuse, ◌and◌, sixteen, test, Says}

-- a letter of document 01 and what is claimed under it
pub record Row : Type 0 where
  pub letter : Char
  pub claim : Claim

abbrev pub row : Char → Claim → Row
row letter claim = record { letter = letter; claim = claim }

-- a load of x1 that read this value, or stopped
abbrev pub loads : ℕ → Step
loads value = reached (set (replicate 32 0) 1 value) 4 sixteen.memory (stop 0)

abbrev pub stops_by : ℕ → Step
stops_by cause = reached (replicate 32 0) 0 sixteen.memory (stop cause)

abbrev pub table : List Row
table =
    -- 0xFFF00093 is ADDI x1, x0, −1
    row "a" (reads 0xfff0_0093 (legal (instruction 19 1 0 0 (minus 1))))
    -- 0x002081B3 ADD x3, x1, x2
    ∷ row "b" (reads 0x0020_81b3 (legal (instruction 28 3 1 2 (pos 0))))
    -- 0x402081B3 SUB
    ∷ row "c" (reads 0x4020_81b3 (legal (instruction 29 3 1 2 (pos 0))))
    -- 0x00109093 SLLI x1, x1, 1; 0x02109093 illegal
    ∷ row "d" (reads 0x0010_9093 (legal (instruction 25 1 1 0 (pos 1))) and reads 0x0210_9093 illegal)
    -- 0 illegal
    ∷ row "e" (reads 0 illegal)
    -- 0xFFFFFFFF + 1 = 0
    ∷ row "f" (computes Add 0xffff_ffff 1 0)
    -- 0x80000000 by 31: SRA 0xFFFFFFFF, SRL 1
    ∷ row "g" (computes Sra 0x8000_0000 31 0xffff_ffff and computes Srl 0x8000_0000 31 1)
    -- 0xFFFFFFFF against 0: SLT 1, SLTU 0
    ∷ row "h" (computes Slt 0xffff_ffff 0 1 and computes Sltu 0xffff_ffff 0 0)
    -- JALR to 9 goes to 8; to 7, cause 5
    ∷ row "i" (executes (instruction 4 1 2 0 (pos 0)) 9 (goes 4 8) and executes (instruction 4 1 2 0 (pos 0)) 7 (stops 0 5))
    -- 16 data bytes: LW at 12 reads, at 13 and 16 cause 6; LB at 15 reads
    ∷ row "j"
    (steps (instruction 13 1 0 0 (pos 12)) (loads 0x0f0e_0d0c)
    and steps (instruction 13 1 0 0 (pos 13)) (stops_by 6)
    and steps (instruction 13 1 0 0 (pos 16)) (stops_by 6)
    and steps (instruction 11 1 0 0 (pos 15)) (loads 15))
    -- W 2, N 32, two ADDI to x1 and x2: position 1 completes first into 32; position 0 steals 32; commit frees 1; the other then gets 1
    ∷ row "k"
    (answer again (replicate 9 0)
    and show both_issued (destination_at 0) 1
    and show both_issued (destination_at 1) 2
    and show younger_first (register_at 1) 32
    and show younger_first free_register 0
    and show robbing (register_at 0) 32
    and show robbing (register_at 1) 0
    and show robbing (state_at 1) 0
    and show committing free_register 1
    and show committing next_address 4
    and show committing (destination_at 0) 2
    and show again (register_at 0) 1)
    -- In the other order position 1 meets 16
    ∷ row "l" (answer older_first (replicate 5 0) and show older_first (register_at 0) 32 and refuse older_first (complete 1) 16)
    ∷ []

-- a row by its claim: the test of it, and what it means
abbrev pub holds : Row → Bool
holds r = test r.claim

abbrev pub Means : Row → Type 0
Means r = Says r.claim

unfoldable pub every : (Row → Bool) → List Row → Bool
every passes [] = true
every passes (r ∷ rows) = passes r && every passes rows

-- the one test of all rows
abbrev pub check : Bool
check = every holds table

-- a row is one of these
pub data In (r : Row) : List Row → Type 0 where
  here : {rows : List Row} → In r (r ∷ rows)
  there : {other : Row} {rows : List Row} → In r rows → In r (other ∷ rows)
