-- Laws of sweeps over a table.
use Prim.Native.Nat.{ℕ, zero, suc, ◌+◌, ◌-◌, ◌≤◌, ◌<◌}
use mathlib.Core.Path.{◌≡◌, refl, ap, ◌∙◌}
use mathlib.Core.Bool.{Bool, true, false, ◌&&◌}
use mathlib.Core.List.{List}
use native.Mathlib.Numerals.{add-one}
use native.Mathlib.Omega.{arith}
use lib.ListN.{length, get_or, take, drop}
use lib.Seq.{drop-cons}
use Rattle.std.specs.List.{list_all}
use Rattle.std.proofs.Common.{add_comm}
use Rattle.std.proofs.lemmas.List.{get_or-take}
use Rattle.std.proofs.lemmas.Grind.{get_or_after_one}
use Rattle.ranges.specs.Tables.{every_from}

and_assoc : (a b c : Bool) → (a && b) && c ≡ a && (b && c)
and_assoc true b c = refl
and_assoc false b c = refl

pub and_true : (a : Bool) → a && true ≡ a
and_true true = refl
and_true false = refl

-- one turn of a loop over a table, at index at, k of count elements seen
module _ {A : Type 0} (test : A → Bool) (default : A) (count k at : ℕ) (good : Bool) (table : List A) where
  pub every_turn : k < count → (good && test (get_or table at default)) && every_from test default (at + 1) (count - (k + 1)) table ≡ good && every_from test default at (count - k) table
  unfolding every_from
  every_turn h =
      let n : count - k ≡ suc (count - (k + 1)) = omega arith in
      and_assoc good (test (get_or table at default)) (every_from test default (at + 1) (count - (k + 1)) table) ∙ rw (n, add-one at)

  pub every_done : count ≤ k → good && every_from test default at (count - k) table ≡ good
  unfolding every_from
  every_done h = let n : count - k ≡ 0 = omega arith in rw n (and_true good)

-- one turn of a loop over the elements after the first, size of them, of which k are seen
pub every_next : {A : Type 0} (test : A → Bool) (default : A) (size count k : ℕ) (good : Bool) (table : List A) → k < size → k < count
    → (good && test (get_or (take size (drop 1 table)) k default)) && every_from test default (k + 1 + 1) (count - (k + 1)) table ≡ good && every_from test default (k + 1) (count - k) table
every_next test default size count k good table h l =
    let item : get_or (take size (drop 1 table)) k default ≡ get_or table (k + 1) default =
    get_or-take size (drop 1 table) k default h ∙ get_or_after_one table k default ∙ ap (λ (n : ℕ). get_or table n default) (add_comm 1 k) in
    ap (λ (x : _). (good && test x) && every_from test default (k + 1 + 1) (count - (k + 1)) table) item ∙ every_turn test default count k (k + 1) good table l

-- a sweep over the elements of a part
pub every_of : {A : Type 0} (test : A → Bool) (default : A) (count from : ℕ) (table : List A) → from + count ≤ length table
    → list_all test (take count (drop from table)) ≡ every_from test default from count table
unfolding every_from
every_of test default zero from table h = refl
every_of test default (suc count) from table h =
    ap (λ (rest : List _). list_all test (take (suc count) rest)) (drop-cons table from default (omega arith))
    ∙ ap (λ (b : Bool). test (get_or table from default) && b) (every_of test default count (suc from) table (omega arith))

-- a test that passes at each index
pub every_holds : {A : Type 0} (test : A → Bool) (default : A) (count from : ℕ) (table : List A) → ((i : ℕ) → from ≤ i → i < from + count → test (get_or table i default) ≡ true)
    → every_from test default from count table ≡ true
unfolding every_from
every_holds test default zero from table passes = refl
every_holds test default (suc count) from table passes =
    rw (passes from (omega arith) (omega arith)) (every_holds test default count (suc from) table (λ i l h. passes i (omega arith) (omega arith)))
