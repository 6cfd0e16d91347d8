-- What a fetch says of the program.
use Prim.Native.Nat.{ℕ, zero, suc}
use mathlib.Core.Path.{◌≡◌, refl, sym, ap, subst}
use mathlib.Core.Bool.{Bool, true, false, ◌||◌}
use mathlib.Core.List.{List}
use Rattle.std.specs.Prelude.{Result, Ok, Err}
use borrow.Author.Tests.{eqb-true}
use lib.Dec.{eqb}
use Rattle.laws.proofs.Bools.{impossible}
use Rattle.isa.specs.Reads.{choose, none, Numbers, legal, illegal, operation_of, read_as, read_of}
use Rattle.isa.specs.declared.Instruction.{Instruction}
use Rattle.isa.proofs.Accepted.{Accepted}
use Rattle.isa.proofs.Ranges.{read_accepted}
use Rattle.isa.proofs.ReadLaws.{Small, legal_small}
use Rattle.reference.specs.Fetch.{FetchNumbers, no_instruction, fetch_numbers, of_reading, has_word, word_at, outside, fetch_at}
use Rattle.execution.specs.declared.Cause.{Cause}
use Rattle.execution.proofs.CauseLaws.{cause_injective}

-- document 01's numbers settle the answer
pub fetch_injective : (a b : Result Instruction Cause) → fetch_numbers a ≡ fetch_numbers b → a ≡ b
fetch_injective (Ok i) (Ok j) e = ap (λ (n : FetchNumbers). Ok n.fields) e
fetch_injective (Ok i) (Err t) e = impossible (sym (ap (λ (n : FetchNumbers). n.found) e))
fetch_injective (Err s) (Ok j) e = impossible (ap (λ (n : FetchNumbers). n.found) e)
fetch_injective (Err s) (Err t) e = ap Err (cause_injective s t (ap (λ (n : FetchNumbers). n.stop.cause) e))

module _ (program : List ℕ) (address : ℕ) where
  pub fetch_outside : has_word program address ≡ false → no_instruction outside ≡ fetch_at program address
  unfolding fetch_at
  fetch_outside a = rw a

  pub fetch_illegal : has_word program address ≡ true → read_of (word_at program address) ≡ illegal → no_instruction (of_reading illegal).stop ≡ fetch_at program address
  unfolding fetch_at
  fetch_illegal a r = rw (a, r)

  pub fetch_legal : has_word program address ≡ true → (i : Instruction) → read_of (word_at program address) ≡ legal i → fetch_numbers (Ok i) ≡ fetch_at program address
  unfolding fetch_at
  fetch_legal a i r = rw (a, r)

legal_of : (n : Numbers) → eqb n.cause 0 ≡ true → n ≡ legal n.fields
legal_of n e = ap (λ (c : ℕ). record { cause = c; fields = n.fields }) (eqb-true n.cause 0 e)

small_at : (b : Bool) (w : ℕ) → (choose b (of_reading (read_of w)) (no_instruction outside)).found ≡ true → Small (choose b (of_reading (read_of w)) (no_instruction outside)).fields
small_at true w e = legal_small w (read_of w).fields (legal_of (read_of w) e)
small_at false w e = impossible e

-- what is fetched names an operation and registers
pub fetched_small : (program : List ℕ) (address : ℕ) → (fetch_at program address).found ≡ true → Small (fetch_at program address).fields
unfolding fetch_at
fetched_small program address e = small_at (has_word program address) (word_at program address) e

pub found_small : (program : List ℕ) (address : ℕ) (i : Instruction) → fetch_numbers (Ok i) ≡ fetch_at program address → Small i
found_small program address i e =
    subst (λ (n : FetchNumbers). n.found ≡ true → Small n.fields) (sym e) (fetched_small program address) refl

-- the encoder takes what is fetched
accepted_at : (b : Bool) (w : ℕ) → (choose b (of_reading (read_of w)) (no_instruction outside)).found ≡ true → Accepted (choose b (of_reading (read_of w)) (no_instruction outside)).fields
accepted_at true w e = read_accepted w (read_of w).fields (legal_of (read_of w) e)
accepted_at false w e = impossible e

pub fetched_accepted : (program : List ℕ) (address : ℕ) → (fetch_at program address).found ≡ true → Accepted (fetch_at program address).fields
unfolding fetch_at
fetched_accepted program address e = accepted_at (has_word program address) (word_at program address) e

-- where there is none: cause 1 or 4, and no fields
pub record Missing (f : FetchNumbers) : Type 0 where
  pub fields : f.fields ≡ none
  pub cause : eqb f.stop.cause 1 || eqb f.stop.cause 4 ≡ true

missing_read : (w operation : ℕ) → eqb (read_as operation w).cause 0 ≡ false → Missing (of_reading (read_as operation w))
missing_read w zero e = record { fields = refl; cause = refl }
missing_read w (suc n) e = impossible (sym e)

missing_at : (b : Bool) (w : ℕ) → (choose b (of_reading (read_of w)) (no_instruction outside)).found ≡ false → Missing (choose b (of_reading (read_of w)) (no_instruction outside))
unfolding read_of
missing_at true w e = missing_read w (operation_of w) e
missing_at false w e = record { fields = refl; cause = refl }

pub fetched_missing : (program : List ℕ) (address : ℕ) → (fetch_at program address).found ≡ false → Missing (fetch_at program address)
unfolding fetch_at
fetched_missing program address e = missing_at (has_word program address) (word_at program address) e
