-- What lets a write at index 0 stand for no write: tables hold 0 there, and an entry without a destination has no names.
use Prim.Native.Nat.{ℕ, zero, suc, ◌<◌}
use mathlib.Core.Path.{◌≡◌, refl, sym, ap, subst, ◌∙◌}
use mathlib.Core.List.{List, [], ◌∷◌}
use native.Mathlib.Omega.{arith}
use lib.ListN.{length, get_or, set, take}
use lib.Seq.{get_or-take, length-take-le}
use Rattle.tables.specs.Table.{look_up}
use Rattle.tables.specs.Entry.{empty_entry, held_in, held}
use Rattle.tables.specs.declared.State.{State}
use Rattle.tables.specs.declared.State.TheVariants.{Waits, Issued, Completed}
use Rattle.tables.specs.declared.Entry.{Entry}
use Rattle.agreement.proofs.View.{View, put_link, drop_at}
use Rattle.agreement.proofs.Stores.{look_get}

-- the register under an entry's name is the one that it holds
pub record Plain (physical : List ℕ) (e : Entry) : Type 0 where
  pub nameless : e.destination ≡ 0 → e.name ≡ 0
  pub baseless : e.destination ≡ 0 → e.previous ≡ 0
  pub holds : held physical e ≡ get_or physical e.name 0

pub record Tidy (c : View) : Type 0 where
  pub physical : get_or c.physical 0 0 ≡ 0
  pub names : get_or c.names 0 0 ≡ 0
  pub registers : get_or c.registers 0 0 ≡ 0
  pub register_link : get_or c.free_registers.link 0 0 ≡ 0
  pub name_link : get_or c.free_names.link 0 0 ≡ 0
  pub entries : (i : ℕ) → i < length c.entries → Plain c.physical (get_or c.entries i empty_entry)

-- index 0 after a write
pub zero_kept : (t : List ℕ) (n v : ℕ) → get_or t 0 0 ≡ 0 → (n ≡ 0 → v ≡ 0) → get_or (set t n v) 0 0 ≡ 0
zero_kept [] n v h e = refl
zero_kept (x ∷ t) zero v h e = e refl
zero_kept (x ∷ t) (suc n) v h e = h

pub cleared_kept : (t : List ℕ) (n k : ℕ) → get_or t k 0 ≡ 0 → get_or (set t n 0) k 0 ≡ 0
cleared_kept [] n k h = refl
cleared_kept (x ∷ t) zero zero h = refl
cleared_kept (x ∷ t) zero (suc k) h = h
cleared_kept (x ∷ t) (suc n) zero h = h
cleared_kept (x ∷ t) (suc n) (suc k) h = cleared_kept t n k h

pub put_zero : (n head : ℕ) (link : List ℕ) → get_or link 0 0 ≡ 0 → get_or (put_link n head link) 0 0 ≡ 0
unfolding put_link
put_zero zero head link h = h
put_zero (suc n) head link h = zero_kept link (suc n) head h (λ e. omega arith)

-- a name loses its register
held_cleared : (s : State) (physical : List ℕ) (n name : ℕ) → get_or physical 0 0 ≡ 0 → held_in s (look_up physical name) ≡ get_or physical name 0
    → held_in s (look_up (set physical n 0) name) ≡ get_or (set physical n 0) name 0
held_cleared Waits physical n name z h = sym (cleared_kept physical n name (sym h))
held_cleared Issued physical n name z h = sym (cleared_kept physical n name (sym h))
held_cleared Completed physical n name z h = look_get (set physical n 0) name (cleared_kept physical n 0 z)

pub plain_cleared : (physical : List ℕ) (n : ℕ) (e : Entry) → get_or physical 0 0 ≡ 0 → Plain physical e → Plain (set physical n 0) e
plain_cleared physical n e z p =
    record { nameless = p.nameless; baseless = p.baseless; holds = held_cleared e.state physical n e.name z p.holds }

pub tidy_drop : (k : ℕ) (c : View) → Tidy c → k < length c.entries → Tidy (drop_at k c)
unfolding drop_at
tidy_drop k c t h =
    let e : Entry = get_or c.entries k empty_entry in
    let p : Plain c.physical e = t.entries k h in
    let z : get_or (set c.physical e.name 0) 0 0 ≡ 0 = cleared_kept c.physical e.name 0 t.physical in
    let l : length (take k c.entries) ≡ k = length-take-le k c.entries (omega arith) in
    record {
      physical = z;
      names = zero_kept c.names e.destination e.previous t.names p.baseless;
      registers = zero_kept c.registers e.destination (get_or (set c.physical e.name 0) e.previous 0) t.registers
          (λ d. ap (λ (n : ℕ). get_or (set c.physical e.name 0) n 0) (p.baseless d) ∙ z);
      register_link = put_zero (get_or c.physical e.name 0) c.free_registers.head c.free_registers.link t.register_link;
      name_link = put_zero e.name c.free_names.head c.free_names.link t.name_link;
      entries = λ i g. subst (Plain (set c.physical e.name 0)) (sym (get_or-take k c.entries i empty_entry (omega arith)))
          (plain_cleared c.physical e.name (get_or c.entries i empty_entry) t.physical (t.entries i (omega arith)));
    }
