-- A completion with a register is `learn`; a theft is `release`, then `learn`: the victim's register goes through the empty pool.
use Prim.Native.Nat.{ℕ, zero, suc, ◌<◌}
use mathlib.Core.Path.{◌≡◌, refl, sym, ap, subst, ◌∙◌}
use mathlib.Core.Bool.{true, false}
use mathlib.Core.List.{List, [], ◌∷◌, map}
use native.Mathlib.Omega.{arith}
use lib.Dec.{eqb}
use lib.ListN.{length, get_or, set, take, length-set}
use lib.Seq.{take-set-lt, get_or-set_other, set-get_or}
use Rattle.isa.specs.Reads.{choose}
use Rattle.tables.specs.Table.{look_up, store_under}
use Rattle.tables.specs.FreeList.{taken, taken_head, taken_link}
use Rattle.tables.specs.Entry.{empty_entry, held, completed_entry, waiting_entry, sleep_entry, wake_entry}
use Rattle.tables.specs.declared.Entry.{Entry}
use Rattle.tables.specs.declared.FreeList.{FreeList}
use Rattle.tables.specs.declared.Mapping.{Mapping}
use Rattle.tables.proofs.TableLaws.{look_within, look_zero, store_within, store_zero}
use Rattle.tables.proofs.MapLaws.{map_names, map_registers, learned_names, learned_registers}
use Rattle.renaming.specs.Changes.{entry_at, change_first}
use Rattle.completing.specs.Complete.{learned}
use Rattle.stealing.specs.Steal.{robbed}
use Rattle.renaming.specs.declared.Core.{Core}
use Rattle.agreement.proofs.View.{View, view_of, inform_entry, put, reshown, release, learn}
use Rattle.agreement.proofs.Stores.{wake_entry_lem, sleep_entry_lem, first_changed, map_alike}
use Rattle.agreement.proofs.RegisterPools.{put_head_lem, put_link_lem}
use Rattle.agreement.proofs.Kept.{Kept}
use Rattle.agreement.proofs.Views.{seen_entry}

-- another pool of registers
abbrev pub pooled : FreeList → View → View
pooled pool c = record c { free_registers = pool }

-- an entry with a destination and its name
pub record Named (e : Entry) : Type 0 where
  pub destination : e.destination ≡ 0 → ⊥
  pub name : e.name ≡ 0 → ⊥

-- the broadcast goes to the entries that the count covers
broadcast : (f g : Entry → Entry) (count i : ℕ) (entries : List Entry) (x : Entry) → i < count → ((e : Entry) → f e ≡ g e)
    → take count (change_first count f (set entries i x)) ≡ map g (set (take count entries) i x)
broadcast f g count i entries x h e =
    first_changed f count (set entries i x) ∙ ap (map f) (take-set-lt count entries i x h) ∙ map_alike f g (set (take count entries) i x) e

-- the general map, where it shows the name
shown : (names registers : List ℕ) (d n register : ℕ) → (d ≡ 0 → ⊥)
    → choose (eqb (look_up names d) n) (store_under registers d register) registers ≡ reshown names registers d n register
unfolding reshown
shown names registers d n register h =
    ap (λ (x : ℕ). choose (eqb x n) (store_under registers d register) registers) (sym (look_within names d h))
    ∙ ap (λ (x : List ℕ). choose (eqb (get_or names d 0) n) x registers) (sym (store_within registers d register h))

pub view_robbed : (v : ℕ) (m : Core) → v < m.count → Named (entry_at m v) → view_of (robbed v m) ≡ pooled m.free_registers (release v (view_of m))
unfolding robbed release
view_robbed v m h n =
    let e : Entry = entry_at m v in
    let q : get_or (take m.count m.entries) v empty_entry ≡ e = seen_entry m v h in
    let lost : Mapping = record { name = e.name; register = 0; valid = false } in
    rw q (λ i. record (view_of m) {
      entries = broadcast (sleep_entry e.name) (inform_entry e.name 0) m.count v m.entries (waiting_entry e) h (λ x. sleep_entry_lem e.name x n.name) i;
      names = learned_names m.map e.destination lost i;
      registers = (learned_registers m.map e.destination lost ∙ shown (map_names m.map) (map_registers m.map) e.destination e.name 0 n.destination) i;
      physical = sym (store_within m.physical e.name 0 n.name) i;
    })

-- whatever the pool was, before and after
pub view_learned : (i result : ℕ) (pool : FreeList) (m : Core) → i < m.count → Named (entry_at m i) → (pool.head ≡ 0 → ⊥)
    → view_of (learned i pool.head result m) ≡ pooled (taken m.free_registers) (learn i result (pooled pool (view_of m)))
unfolding learned learn
view_learned i result pool m h n r =
    let e : Entry = entry_at m i in
    let q : get_or (take m.count m.entries) i empty_entry ≡ e = seen_entry m i h in
    let register : ℕ = pool.head in
    let gained : Mapping = record { name = e.name; register = register; valid = true } in
    rw q (λ j. record (view_of m) {
      entries = broadcast (wake_entry e.name register) (inform_entry e.name register) m.count i m.entries (completed_entry result e) h (λ x. wake_entry_lem e.name register x n.name r) j;
      names = learned_names m.map e.destination gained j;
      registers = (learned_registers m.map e.destination gained ∙ shown (map_names m.map) (map_registers m.map) e.destination e.name register n.destination) j;
      physical = sym (store_within m.physical e.name register n.name) j;
      values = sym (store_within m.values register result r) j;
      free_registers = taken m.free_registers;
    })

-- the pool without this number
abbrev without : ℕ → List ℕ → FreeList
without register link = record { head = get_or link register 0; link = set link register 0 }

taken_pool : (i result : ℕ) (c : View) → pooled (without c.free_registers.head c.free_registers.link) (learn i result c) ≡ learn i result c
unfolding learn
taken_pool i result c = refl

taken_within : (pool : FreeList) → (pool.head ≡ 0 → ⊥) → taken pool ≡ without pool.head pool.link
taken_within pool r = λ j. record { head = sym (look_within pool.link pool.head r) j; link = sym (store_within pool.link pool.head 0 r) j }

-- a free register
pub view_taken : (i result : ℕ) (m : Core) → i < m.count → Named (entry_at m i) → (m.free_registers.head ≡ 0 → ⊥) → view_of (learned i m.free_registers.head result m) ≡ learn i result (view_of m)
view_taken i result m h n r =
    view_learned i result m.free_registers m h n r
    ∙ ap (λ (pool : FreeList). pooled pool (learn i result (view_of m))) (taken_within m.free_registers r)
    ∙ taken_pool i result (view_of m)

-- the other entries of a robbed machine
pub changed_at : (f : Entry → Entry) (count : ℕ) (entries : List Entry) (i : ℕ) → i < count → i < length entries → get_or (change_first count f entries) i empty_entry ≡ f (get_or entries i empty_entry)
unfolding change_first
changed_at f zero entries i h l = absurd (omega arith)
changed_at f (suc count) [] i h l = absurd (omega arith)
changed_at f (suc count) (x ∷ entries) zero h l = refl
changed_at f (suc count) (x ∷ entries) (suc i) h l = changed_at f count entries i (omega arith) (omega arith)

pub robbed_entry : (v i : ℕ) (m : Core) → Kept m → i < m.count → (i ≡ v → ⊥) → entry_at (robbed v m) i ≡ sleep_entry (entry_at m v).name (entry_at m i)
unfolding robbed
robbed_entry v i m k h d =
    let c = k.count in
    let w = k.window in
    let l = k.entries in
    let s = length-set m.entries v (waiting_entry (entry_at m v)) in
    changed_at (sleep_entry (entry_at m v).name) m.count (set m.entries v (waiting_entry (entry_at m v))) i h (omega arith)
    ∙ ap (sleep_entry (entry_at m v).name) (get_or-set_other m.entries v i (waiting_entry (entry_at m v)) empty_entry d)

robbed_named : (v i : ℕ) (m : Core) → Kept m → i < m.count → (i ≡ v → ⊥) → Named (entry_at m i) → Named (entry_at (robbed v m) i)
robbed_named v i m k h d n = subst Named (sym (robbed_entry v i m k h d)) (record { destination = n.destination; name = n.name })

-- a theft
module _ (v i result : ℕ) (m : Core) (k : Kept m) (there : i < m.count) (victim : v < m.count) (other : i ≡ v → ⊥) (named : Named (entry_at m i)) (robs : Named (entry_at m v)) where
  abbrev register : ℕ
  register = held m.physical (entry_at m v)

  module _ (some : register ≡ 0 → ⊥) (empty : m.free_registers.head ≡ 0) (holds : held m.physical (entry_at m v) ≡ get_or m.physical (entry_at m v).name 0) (outside : get_or m.free_registers.link register 0 ≡ 0) where
    kept_link : set m.free_registers.link register 0 ≡ m.free_registers.link
    kept_link = ap (set m.free_registers.link register) (sym outside) ∙ set-get_or m.free_registers.link register 0

    -- the pool as it is while the register goes through it
    abbrev passing : FreeList
    passing = record { head = register; link = m.free_registers.link }

    through : pooled passing (release v (view_of m)) ≡ release v (view_of m)
    unfolding release
    through =
        let q : get_or (take m.count m.entries) v empty_entry ≡ entry_at m v = seen_entry m v victim in
        let held_there : register ≡ get_or m.physical (get_or (take m.count m.entries) v empty_entry).name 0 = holds ∙ ap (λ (e : Entry). get_or m.physical e.name 0) (sym q) in
        let head = sym (put_head_lem register m.free_registers.head some) in
        let link = sym kept_link ∙ ap (set m.free_registers.link register) (sym empty) ∙ sym (put_link_lem register m.free_registers.head m.free_registers.link some) in
        ap (λ (pool : FreeList). pooled pool (release v (view_of m))) ((λ j. record { head = head j; link = link j }) ∙ ap (λ (n : ℕ). put n m.free_registers) held_there)

    taken_head_lem : taken_head m.free_registers.link m.free_registers.head ≡ get_or m.free_registers.link register 0
    taken_head_lem = sym (look_zero m.free_registers.link m.free_registers.head empty) ∙ sym outside

    taken_link_lem : taken_link m.free_registers.link m.free_registers.head ≡ set m.free_registers.link register 0
    taken_link_lem = sym (store_zero m.free_registers.link m.free_registers.head 0 empty) ∙ sym kept_link

    taken_empty : taken m.free_registers ≡ without register m.free_registers.link
    taken_empty = λ j. record { head = taken_head_lem j; link = taken_link_lem j }

    pub view_stolen : view_of (learned i register result (robbed v m)) ≡ learn i result (release v (view_of m))
    unfolding robbed
    view_stolen =
        view_learned i result passing (robbed v m) there (robbed_named v i m k there other named) some
        ∙ ap (λ (c : View). pooled (taken m.free_registers) (learn i result (pooled passing c))) (view_robbed v m victim robs)
        ∙ ap (λ (pool : FreeList). pooled pool (learn i result (pooled passing (release v (view_of m))))) taken_empty
        ∙ taken_pool i result (pooled passing (release v (view_of m)))
        ∙ ap (learn i result) through
