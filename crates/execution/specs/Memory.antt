-- Loads and stores, over their size in bytes.
use Rattle.std.specs.Prelude.{ℕ, ◌+◌, ◌-◌, ◌*◌, ◌%◌, ◌^◌, ◌<◌, ◌≤◌, Bool, true, ◌&&◌, List, leb, eqb, length}
use Rattle.word.specs.Arithmetic.{sum}
use Rattle.word.specs.Bytes.{number, byte_of, put}
use Rattle.word.specs.Signed.{word_of, extend}
use Rattle.isa.specs.Reads.{choose}
use Rattle.isa.specs.declared.Instruction.{Instruction}
use Rattle.execution.specs.declared.Action.{Action}
use Rattle.execution.specs.declared.Action.TheVariants.{Computes, LoadsSigned, LoadsUnsigned, Stores, Stops}
use Rattle.execution.specs.Actions.{action_of}

-- not "no multiple of its size or whose bytes leave the data"
unfoldable pub accessible : ℕ → ℕ → ℕ → Bool
accessible bytes address size = eqb (address % size) 0 && leb (address + size) bytes

-- the address that a load or a store goes to
abbrev pub effective : Instruction → ℕ → ℕ
effective i first = sum first (word_of i.constant)

-- size bytes as a signed number, extended to 32 bits
abbrev pub sign_extended : ℕ → ℕ → ℕ
sign_extended size n = word_of (extend (2 ^ (8 * size - 1)) n)

-- a load of at most 4 bytes, a signed one of 1 to 3; other actions load nothing
abbrev pub Loadable : Action → Type 0
Loadable (Computes computation) = Unit {0}
Loadable (LoadsSigned size) = (0 < size) × (size < 4)
Loadable (LoadsUnsigned size) = size ≤ 4
Loadable (Stores size) = Unit {0}
Loadable (Stops cause) = Unit {0}

-- "a load reads data, extended to 32 bits, as its second value (0 where cause 6 applies)"
unfoldable pub second_by : Action → ℕ → ℕ → ℕ → (ℕ → ℕ) → ℕ
second_by (Computes computation) bytes address second byte = second
second_by (LoadsSigned size) bytes address second byte = choose (accessible bytes address size) (sign_extended size (number byte address size)) 0
second_by (LoadsUnsigned size) bytes address second byte = choose (accessible bytes address size) (number byte address size) 0
second_by (Stores size) bytes address second byte = second
second_by (Stops cause) bytes address second byte = second

abbrev pub second_value : Instruction → ℕ → ℕ → List ℕ → ℕ
second_value i first second memory = second_by (action_of i.operation) (length memory) (effective i first) second (byte_of memory)

-- "a store writes data": the memory after a store whose bytes stay within it; other instructions leave it. Causes are not looked at here.
unfoldable pub stored_by : Action → ℕ → ℕ → List ℕ → List ℕ
stored_by (Computes computation) address value memory = memory
stored_by (LoadsSigned size) address value memory = memory
stored_by (LoadsUnsigned size) address value memory = memory
stored_by (Stores size) address value memory = choose (leb (address + size) (length memory)) (put memory address size value) memory
stored_by (Stops cause) address value memory = memory

abbrev pub stored : Instruction → ℕ → ℕ → List ℕ → List ℕ
stored i first second memory = stored_by (action_of i.operation) (effective i first) second memory

-- whether a store's bytes stay within the memory's, aligned or not; other instructions have none
unfoldable pub ends_within_by : Action → ℕ → ℕ → Bool
ends_within_by (Computes computation) bytes address = true
ends_within_by (LoadsSigned size) bytes address = true
ends_within_by (LoadsUnsigned size) bytes address = true
ends_within_by (Stores size) bytes address = leb (address + size) bytes
ends_within_by (Stops cause) bytes address = true

abbrev pub store_ends_within : ℕ → Instruction → ℕ → Bool
store_ends_within bytes i first = ends_within_by (action_of i.operation) bytes (effective i first)
