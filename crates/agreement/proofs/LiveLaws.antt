-- Which names have registers, after the physical map or the pool of names changed.
use Prim.Native.Nat.{ℕ, zero, suc, ◌+◌, ◌≤◌, ◌<◌}
use mathlib.Core.Path.{◌≡◌, refl, ap, sym, ◌∙◌}
use mathlib.Core.Logic.{◌≢◌}
use mathlib.Core.List.{List, [], ◌∷◌, ◌++◌, map}
use native.Mathlib.Omega.{arith}
use lib.ListN.{length, get_or, set, length-set}
use lib.Seq.{get_or-set_other, get_or-set_same, set-get_or}
use Rattle.tables.specs.FreeList.{occurrences}
use Rattle.std.proofs.lemmas.List.Elements.{All-cons, All-tail}
use Rattle.agreement.proofs.Pools.{register_of, Live}
use Rattle.agreement.proofs.Tests.{equal, apart, eq?}
use Rattle.agreement.proofs.Counting.{same, alike, other, same?, same_refl, same_not, count_set, count_last}
use Rattle.agreement.proofs.RegisterPools.{put_free}
use Rattle.std.proofs.lemmas.List.{length_push}
use Rattle.agreement.proofs.Every.{all_absent}

pub set_zero : (xs : List ℕ) (n : ℕ) → get_or xs n 0 ≡ 0 → set xs n 0 ≡ xs
set_zero xs n e = cc (set-get_or xs n 0)

-- the registers of a list of names, after one name changed its own
registers_absent : (physical names : List ℕ) (n q : ℕ) → occurrences n names ≡ 0 → map (register_of (set physical n q)) names ≡ map (register_of physical) names
unfolding occurrences same
registers_absent physical [] n q o = refl
registers_absent physical (x ∷ names) n q o = elim (same? n x) [
  | alike e s ↦ absurd (omega arith)
  | other d s ↦ cc (get_or-set_other physical n x q 0 (λ z. d (sym z)), registers_absent physical names n q (omega arith))
]

registers_once : (physical names : List ℕ) (n q : ℕ) → n < length physical → occurrences n names ≡ 1
    → occurrences 0 (map (register_of (set physical n q)) names) + same 0 (get_or physical n 0) ≡ occurrences 0 (map (register_of physical) names) + same 0 q
unfolding occurrences same
registers_once physical [] n q h o = absurd (omega arith)
registers_once physical (x ∷ names) n q h o = elim (same? n x) [
  | alike e s ↦
      let g : get_or (set physical n q) x 0 ≡ q = rw (← e) (get_or-set_same physical n q 0 h) in
      omega (arith, ap (occurrences 0) (registers_absent physical names n q (omega arith)), ap (same 0) g, ap (λ (y : ℕ). same 0 (get_or physical y 0)) e)
  | other d s ↦ omega (arith, registers_once physical names n q h (omega arith), ap (same 0) (get_or-set_other physical n x q 0 (λ z. d (sym z))))
]

-- an entry's name gets or loses a register
pub live_set : (physical committed names free : List ℕ) (n q : ℕ) → Live physical committed names free → n < length physical → occurrences n names ≡ 1 → occurrences n free ≡ 0 → ((r : ℕ) → get_or committed r 0 ≢ n) → Live (set physical n q) committed names free
live_set physical committed names free n q k h o y f = record {
  kept = λ r a b. rw (get_or-set_other physical n (get_or committed r 0) q 0 (f r)) (k.kept r a b);
  unused = all_absent (λ j. get_or physical j 0 ≡ 0) free n y (λ j. get_or (set physical n q) j 0 ≡ 0) (λ j d e. get_or-set_other physical n j q 0 d ∙ e) k.unused;
  count = omega (arith, k.count, registers_once physical names n q h o, count_set 0 physical n q h, length-set physical n q);
}

map_last : (physical names : List ℕ) (n : ℕ) → map (register_of physical) (names ++ n ∷ []) ≡ map (register_of physical) names ++ get_or physical n 0 ∷ []
map_last physical [] n = refl
map_last physical (x ∷ names) n = cc (map_last physical names n)

registers_last : (physical names : List ℕ) (n : ℕ) → occurrences 0 (map (register_of physical) (names ++ n ∷ [])) ≡ occurrences 0 (map (register_of physical) names) + same 0 (get_or physical n 0)
registers_last physical names n = ap (occurrences 0) (map_last physical names n) ∙ count_last 0 (get_or physical n 0) (map (register_of physical) names)

-- an entry enters, with a name or without
pub live_take : (physical committed names free : List ℕ) (y : ℕ) → Live physical committed names (y ∷ free) → Live physical committed (names ++ y ∷ []) free
live_take physical committed names free y k = record {
  kept = k.kept;
  unused = All-tail (λ j. get_or physical j 0 ≡ 0) y free k.unused;
  count = omega (arith, k.count, registers_last physical names y, ap (same 0) (k.unused 0 0 (omega arith)), same_refl 0, length_push names y);
}

pub live_none : (physical committed names free : List ℕ) → get_or physical 0 0 ≡ 0 → Live physical committed names free → Live physical committed (names ++ 0 ∷ []) free
live_none physical committed names free z k = record {
  kept = k.kept;
  unused = k.unused;
  count = omega (arith, k.count, registers_last physical names 0, ap (same 0) z, same_refl 0, length_push names 0);
}

-- the youngest entry is dropped
pub live_drop : (physical committed names free : List ℕ) (n : ℕ) → Live physical committed (names ++ n ∷ []) free → get_or physical 0 0 ≡ 0 → n < length physical → (n ≢ 0 → (occurrences n names ≡ 0) × (occurrences n free ≡ 0)) → ((r : ℕ) → n ≢ 0 → get_or committed r 0 ≢ n)
    → Live (set physical n 0) committed names (put_free n free)
unfolding put_free
live_drop physical committed names free zero k z h o f = rw (set_zero physical 0 z) (record {
  kept = k.kept;
  unused = k.unused;
  count = omega (arith, k.count, registers_last physical names 0, ap (same 0) z, same_refl 0, length_push names 0);
})
live_drop physical committed names free (suc n) k z h o f = record {
  kept = λ r a b. rw (get_or-set_other physical (suc n) (get_or committed r 0) 0 0 (f r (omega arith))) (k.kept r a b);
  unused = All-cons (λ j. get_or (set physical (suc n) 0) j 0 ≡ 0) (suc n) free (get_or-set_same physical (suc n) 0 0 h) (all_absent (λ j. get_or physical j 0 ≡ 0) free (suc n) (o (omega arith)).1 (λ j. get_or (set physical (suc n) 0) j 0 ≡ 0) (λ j d e. get_or-set_other physical (suc n) j 0 0 d ∙ e) k.unused);
  count = omega (
    arith,
    k.count,
    registers_last physical names (suc n),
    ap (occurrences 0) (registers_absent physical names (suc n) 0 (o (omega arith)).0),
    count_set 0 physical (suc n) 0 h,
    length-set physical (suc n) 0,
    same_refl 0,
    length_push names (suc n),
  );
}

-- the oldest entry leaves, with a name or without
pub live_commit : (physical committed names free : List ℕ) (n d k : ℕ) → Live physical committed (n ∷ names) free → get_or committed d 0 ≡ suc k → 1 ≤ d → d < 32 → length committed ≡ 32 → suc k < length physical → get_or physical n 0 ≢ 0 → n ≢ suc k
    → occurrences (suc k) names ≡ 0 → occurrences (suc k) free ≡ 0 → ((r : ℕ) → r < 32 → r ≢ d → get_or committed r 0 ≢ suc k) → Live (set physical (suc k) 0) (set committed d n) names (suc k ∷ free)
unfolding occurrences same
live_commit physical committed names free n d k l e d1 d2 lm h pn nk o y f = record {
  kept = λ r a b. elim (eq? r d) [
    | equal x t ↦ λ z. pn (cc (get_or-set_same committed d n 0 (omega arith), get_or-set_other physical (suc k) n 0 0 nk))
    | apart x t ↦ λ z. l.kept r a b (cc (get_or-set_other committed d r n 0 x, get_or-set_other physical (suc k) (get_or committed r 0) 0 0 (f r b x)))
  ];
  unused = All-cons (λ j. get_or (set physical (suc k) 0) j 0 ≡ 0) (suc k) free (get_or-set_same physical (suc k) 0 0 h) (all_absent (λ j. get_or physical j 0 ≡ 0) free (suc k) y (λ j. get_or (set physical (suc k) 0) j 0 ≡ 0) (λ j x q. get_or-set_other physical (suc k) j 0 0 x ∙ q) l.unused);
  count = omega (
    arith,
    l.count,
    ap (occurrences 0) (registers_absent physical names (suc k) 0 o),
    count_set 0 physical (suc k) 0 h,
    length-set physical (suc k) 0,
    same_refl 0,
    same_not 0 (get_or physical n 0) (λ q. pn (sym q)),
    same_not 0 (get_or physical (suc k) 0) (λ q. l.kept d d1 d2 (cc)),
  );
}

pub live_commit_none : (physical committed names free : List ℕ) → get_or physical 0 0 ≡ 0 → Live physical committed (0 ∷ names) free → Live physical committed names free
unfolding occurrences same
live_commit_none physical committed names free z k = record { kept = k.kept; unused = k.unused; count = omega (arith, k.count, ap (same 0) z, same_refl 0) }
