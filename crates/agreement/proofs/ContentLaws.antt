-- What operands, holders and values say after a name got a register or lost it.
use Prim.Native.Nat.{ℕ, zero, suc, ◌<◌}
use mathlib.Core.Path.{◌≡◌, refl, ap, sym, ◌∙◌}
use mathlib.Core.Logic.{◌≢◌}
use mathlib.Core.List.{List}
use native.Mathlib.Omega.{arith}
use native.Mathlib.Decide.{dec_lt}
use lib.ListN.{length, get_or, set, length-set, get_or-eq_default}
use lib.Seq.{get_or-set_other, get_or-set_same}
use Rattle.tables.specs.declared.Operand.{Operand}
use Rattle.tables.specs.declared.State.{State as Stage}
use Rattle.tables.specs.declared.Entry.{Entry}
use Rattle.agreement.proofs.View.{operand_for, name_in, informed, inform_entry, reshown}
use Rattle.agreement.proofs.Ghost.{Ghost, Writers}
use Rattle.agreement.proofs.Chains.{renaming_of}
use Rattle.agreement.proofs.Contents.{ShownIn, Holds, holding, without, stopped, early, Valued, GeneralMap}
use Rattle.agreement.proofs.Tests.{equal, apart, eq?}
use Rattle.agreement.proofs.Counting.{clear_same}
use Rattle.agreement.proofs.LiveLaws.{set_zero}
use Rattle.agreement.proofs.Walks.{Lacks}

pub operand_name : (n q : ℕ) → name_in (operand_for n q) ≡ n
unfolding name_in operand_for
operand_name zero q = refl
operand_name (suc n) zero = refl
operand_name (suc n) (suc q) = refl

-- operands on the name learn its register: they show the map as before, and are on the same names
pub informed_name : (n q : ℕ) (o : Operand) → name_in (informed n q o) ≡ name_in o
unfolding informed
informed_name n q o = elim (eq? (name_in o) n) [ equal e t ↦ rw t (operand_name n q ∙ sym e) | apart e t ↦ rw t ]

informed_shows : (physical : List ℕ) (n q : ℕ) (o : Operand) → n < length physical → o ≡ operand_for (name_in o) (get_or physical (name_in o) 0)
    → informed n q o ≡ operand_for (name_in o) (get_or (set physical n q) (name_in o) 0)
unfolding informed
informed_shows physical n q o l h = elim (eq? (name_in o) n) [
  | equal e t ↦ rw (t, e) (rw (get_or-set_same physical n q 0))
  | apart e t ↦ rw t (cc (get_or-set_other physical n (name_in o) q 0 e))
]

pub inform_renaming : (n q : ℕ) (e : Entry) → renaming_of (inform_entry n q e) ≡ renaming_of e
inform_renaming n q e = rw (informed_name n q e.left, informed_name n q e.right)

pub inform_shown : (physical : List ℕ) (n q : ℕ) → n < length physical → (e : Entry) → ShownIn physical e → ShownIn (set physical n q) (inform_entry n q e)
inform_shown physical n q l e k = record {
  left = rw (informed_name n q e.left) (informed_shows physical n q e.left l k.left);
  right = rw (informed_name n q e.right) (informed_shows physical n q e.right l k.right);
}

-- a register that no name has gets the value that the name stands for
pub valued_set : (g : Ghost) (physical values : List ℕ) (n q v : ℕ) → n ≢ 0 → n < length physical → q < length values → v ≡ get_or g.value n 0 → ((k : ℕ) → get_or physical k 0 ≢ q)
    → Valued g physical values → Valued g (set physical n q) (set values q v)
valued_set g physical values n q v z l l2 e f k = record {
  held = λ j h. elim (eq? j n) [
    | equal x t ↦ cc (get_or-set_same physical n q 0 l, get_or-set_same values q v 0 l2)
    | apart x t ↦
        let o : get_or (set physical n q) j 0 ≡ get_or physical j 0 = get_or-set_other physical n j q 0 x in
        cc (get_or-set_other values q (get_or physical j 0) v 0 (f j), k.held j (λ y. h (o ∙ y)))
  ];
  zero_register = cc (k.zero_register, get_or-set_other physical n 0 q 0 (λ y. z (sym y)));
  zero_value = k.zero_value;
}

pub valued_clear : (g : Ghost) (physical values : List ℕ) (n : ℕ) → Valued g physical values → Valued g (set physical n 0) values
valued_clear g physical values n k = record {
  held = λ j h. elim (eq? j n) [
    | equal x t ↦ absurd (h (rw x (clear_same physical n)))
    | apart x t ↦
        let o : get_or (set physical n 0) j 0 ≡ get_or physical j 0 = get_or-set_other physical n j 0 0 x in
        cc (k.held j (λ y. h (o ∙ y)))
  ];
  zero_register = elim (eq? 0 n) [ equal x t ↦ rw (← x) (clear_same physical 0) | apart x t ↦ get_or-set_other physical n 0 0 0 x ∙ k.zero_register ];
  zero_value = k.zero_value;
}

pub holds_other : (physical : List ℕ) (n q : ℕ) (t : Stage) (c k : ℕ) → k ≢ n → Holds physical t c k → Holds (set physical n q) t c k
holds_other physical n q t c k d h =
    let o : get_or (set physical n q) k 0 ≡ get_or physical k 0 = get_or-set_other physical n k q 0 d in
    elim h [ holding a b x y ↦ holding a b x (λ z. y (sym o ∙ z)) | without a b x ↦ without a b x | stopped a b x ↦ stopped a b (o ∙ x) | early a x ↦ early a (o ∙ x) ]

-- a name loses its register, or none does if it is zero
pub clear_other : (physical : List ℕ) (n j : ℕ) → get_or physical 0 0 ≡ 0 → (n ≢ 0 → j ≢ n) → get_or (set physical n 0) j 0 ≡ get_or physical j 0
clear_other physical n j z f = elim (eq? n 0) [
  | equal e t ↦ ap (λ (l : List ℕ). get_or l j 0) (set_zero physical n (cc))
  | apart e t ↦ get_or-set_other physical n j 0 0 (f e)
]

pub holds_clear : (physical : List ℕ) (n : ℕ) (t : Stage) (c k : ℕ) → get_or (set physical n 0) k 0 ≡ get_or physical k 0 → Holds physical t c k → Holds (set physical n 0) t c k
holds_clear physical n t c k o h =
    elim h [ holding a b x y ↦ holding a b x (λ z. y (sym o ∙ z)) | without a b x ↦ without a b x | stopped a b x ↦ stopped a b (o ∙ x) | early a x ↦ early a (o ∙ x) ]

pub shown_clear : (physical : List ℕ) (n : ℕ) (e : Entry) → get_or physical 0 0 ≡ 0 → (n ≢ 0 → Lacks n e) → ShownIn physical e → ShownIn (set physical n 0) e
shown_clear physical n e z l k = record {
  left = cc (k.left, clear_other physical n (name_in e.left) z (λ x. (l x).left));
  right = cc (k.right, clear_other physical n (name_in e.right) z (λ x. (l x).right));
}

-- the general map learns it where it still shows the name
pub general_set : (g : Ghost) (physical names registers : List ℕ) (n d q : ℕ) → Writers g names → get_or g.writer n 0 ≡ d → d < 32 → n ≢ 0 → n < length physical
    → GeneralMap physical names registers → GeneralMap (set physical n q) names (reshown names registers d n q)
unfolding reshown
general_set g physical names registers n d q k l b z h a = elim (eq? (get_or names d 0) n) [
  | equal e t ↦ rw t (record {
    gives = λ r. elim (eq? r d) [
      | equal x u ↦ cc (get_or-set_same registers d q 0 (omega arith), get_or-set_same physical n q 0 h)
      | apart x u ↦ get_or-set_other registers d r q 0 x ∙ elsewhere r (λ y. x (only r y))
    ];
    size = length-set registers d q ∙ a.size;
  })
  | apart e t ↦ rw t (record { gives = λ r. elsewhere r (λ y. e (cc (only r y))); size = a.size })
]
  where
    elsewhere : (r : ℕ) → get_or names r 0 ≢ n → get_or registers r 0 ≡ get_or (set physical n q) (get_or names r 0) 0
    elsewhere r x = a.gives r ∙ sym (get_or-set_other physical n (get_or names r 0) q 0 x)

    only : (r : ℕ) → get_or names r 0 ≡ n → r ≡ d
    only r e = inside (dec_lt r 32)
      where
        inside : Dec (r < 32) → r ≡ d
        inside (yes y) = cc (k.writers r y)
        inside (no y) = absurd (z (cc (get_or-eq_default names 0 {n = r} (omega arith))))
