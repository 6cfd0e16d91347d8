-- What each operation does: a row for each, in the order of the listing.
use Rattle.std.specs.Prelude.{List, [], ◌∷◌, ℕ, get_or}
use Rattle.execution.specs.declared.Alu.TheVariants.{Add, Sub, Sll, Slt, Sltu, Xor, Srl, Sra, Or, And}
use Rattle.execution.specs.declared.Condition.TheVariants.{Eq, Ne, Lt, Ge, Ltu, Geu}
use Rattle.execution.specs.declared.Cause.TheVariants.{Illegal, EnvironmentCall, Breakpoint}
use Rattle.execution.specs.declared.Computation.TheVariants.{Upper, UpperAddress, Jump, JumpRegister, Branch, Immediate, Register, Fence}
use Rattle.execution.specs.declared.Action.{Action}
use Rattle.execution.specs.declared.Action.TheVariants.{Computes, LoadsSigned, LoadsUnsigned, Stores, Stops}

abbrev pub actions : List Action
actions =
    Stops Illegal  -- 0 is no operation
    ∷ Computes Upper  -- 1 LUI
    ∷ Computes UpperAddress  -- 2 AUIPC
    ∷ Computes Jump  -- 3 JAL
    ∷ Computes JumpRegister  -- 4 JALR
    ∷ Computes (Branch Eq)  -- 5 BEQ
    ∷ Computes (Branch Ne)  -- 6 BNE
    ∷ Computes (Branch Lt)  -- 7 BLT
    ∷ Computes (Branch Ge)  -- 8 BGE
    ∷ Computes (Branch Ltu)  -- 9 BLTU
    ∷ Computes (Branch Geu)  -- 10 BGEU
    ∷ LoadsSigned 1  -- 11 LB
    ∷ LoadsSigned 2  -- 12 LH
    ∷ LoadsUnsigned 4  -- 13 LW
    ∷ LoadsUnsigned 1  -- 14 LBU
    ∷ LoadsUnsigned 2  -- 15 LHU
    ∷ Stores 1  -- 16 SB
    ∷ Stores 2  -- 17 SH
    ∷ Stores 4  -- 18 SW
    ∷ Computes (Immediate Add)  -- 19 ADDI
    ∷ Computes (Immediate Slt)  -- 20 SLTI
    ∷ Computes (Immediate Sltu)  -- 21 SLTIU
    ∷ Computes (Immediate Xor)  -- 22 XORI
    ∷ Computes (Immediate Or)  -- 23 ORI
    ∷ Computes (Immediate And)  -- 24 ANDI
    ∷ Computes (Immediate Sll)  -- 25 SLLI
    ∷ Computes (Immediate Srl)  -- 26 SRLI
    ∷ Computes (Immediate Sra)  -- 27 SRAI
    ∷ Computes (Register Add)  -- 28 ADD
    ∷ Computes (Register Sub)  -- 29 SUB
    ∷ Computes (Register Sll)  -- 30 SLL
    ∷ Computes (Register Slt)  -- 31 SLT
    ∷ Computes (Register Sltu)  -- 32 SLTU
    ∷ Computes (Register Xor)  -- 33 XOR
    ∷ Computes (Register Srl)  -- 34 SRL
    ∷ Computes (Register Sra)  -- 35 SRA
    ∷ Computes (Register Or)  -- 36 OR
    ∷ Computes (Register And)  -- 37 AND
    ∷ Stops EnvironmentCall  -- 38 ECALL
    ∷ Stops Breakpoint  -- 39 EBREAK
    ∷ Computes Fence  -- 40 FENCE
    ∷ []

abbrev pub action_of : ℕ → Action
action_of operation = get_or actions operation (Stops Illegal)
