-- Laws of loads and stores, over the size.
use Prim.Native.Nat.{ℕ, ◌+◌, ◌%◌, ◌^◌, ◌≤◌, ◌<◌}
use mathlib.Core.Path.{◌≡◌, refl, ap}
use mathlib.Core.Bool.{Bool, true, false}
use mathlib.Core.List.{List}
use native.Mathlib.Omega.{arith}
use borrow.Author.Tests.{leb-true, lt-ltb}
use Rattle.std.proofs.lemmas.Nat.{pow_pos}
use Rattle.std.proofs.Math.Nat.{one-le-pow}
use Rattle.word.specs.Signed.{word_of, extend}
use lib.Dec.{leb, eqb}
use lib.ListN.{length}
use Rattle.word.specs.Bytes.{number, put}
use Rattle.word.proofs.BytesLaws.{number_same, put_length}
use Rattle.laws.proofs.Bools.{and_right}
use Rattle.isa.specs.Reads.{choose}
use Rattle.execution.specs.declared.Action.{Action}
use Rattle.execution.specs.declared.Action.TheVariants.{Computes, LoadsSigned, LoadsUnsigned, Stores, Stops}
use Rattle.execution.specs.Memory.{accessible, sign_extended, second_by, stored_by}

-- an access stays within the length
pub access_room : (len address size : ℕ) → accessible len address size ≡ true → address + size ≤ len
unfolding accessible
access_room len address size e = leb-true (address + size) len (and_right (eqb (address % size) 0) (leb (address + size) len) e)

within : (len address size k : ℕ) → accessible len address size ≡ true → k < address + size → k < len
within len address size k e h = let r = access_room len address size e in omega arith

-- an access that stops gives 0, extended too
choose_zero : (f : ℕ → ℕ) (b : Bool) (x : ℕ) → f 0 ≡ 0 → f (choose b x 0) ≡ choose b (f x) 0
choose_zero f true x e = refl
choose_zero f false x e = e

extended_zero : (half : ℕ) → 0 < half → word_of (extend half 0) ≡ 0
unfolding extend
extended_zero half h = rw (lt-ltb 0 half h)

sign_extended_zero : (size : ℕ) → sign_extended size 0 ≡ 0
sign_extended_zero size = extended_zero _ (pow_pos _)

pub second_signed : (size len address second : ℕ) (byte : ℕ → ℕ)
    → sign_extended size (second_by (LoadsUnsigned size) len address 0 byte) ≡ second_by (LoadsSigned size) len address second byte
unfolding second_by
second_signed size len address second byte = choose_zero (sign_extended size) (accessible len address size) (number byte address size) (sign_extended_zero size)

pub byte_powers : (size : ℕ) → 0 < 256 ^ size
byte_powers size = one-le-pow size 256 (omega arith)

-- what a load finds depends only on the bytes below the length
choose_same : {A : Type 0} (b : Bool) (x y z : A) → (b ≡ true → x ≡ y) → choose b x z ≡ choose b y z
choose_same true x y z e = e refl
choose_same false x y z e = refl

pub second_same : (a : Action) (len address second : ℕ) (f g : ℕ → ℕ) → ((k : ℕ) → k < len → f k ≡ g k) → second_by a len address second f ≡ second_by a len address second g
unfolding second_by
second_same (Computes computation) len address second f g same = refl
second_same (LoadsSigned size) len address second f g same =
    choose_same (accessible len address size) _ _ _ (λ e. ap (sign_extended size) (number_same size f g address (λ k l h. same k (within len address size k e h))))
second_same (LoadsUnsigned size) len address second f g same =
    choose_same (accessible len address size) _ _ _ (λ e. number_same size f g address (λ k l h. same k (within len address size k e h)))
second_same (Stores size) len address second f g same = refl
second_same (Stops cause) len address second f g same = refl

-- a store keeps the length
choose_length : (b : Bool) (x y : List ℕ) → length x ≡ length y → length (choose b x y) ≡ length y
choose_length true x y e = e
choose_length false x y e = refl

pub stored_length : (a : Action) (address value : ℕ) (memory : List ℕ) → length (stored_by a address value memory) ≡ length memory
unfolding stored_by
stored_length (Computes computation) address value memory = refl
stored_length (LoadsSigned size) address value memory = refl
stored_length (LoadsUnsigned size) address value memory = refl
stored_length (Stores size) address value memory = choose_length (leb (address + size) (length memory)) (put memory address size value) memory (put_length size memory address value)
stored_length (Stops cause) address value memory = refl
