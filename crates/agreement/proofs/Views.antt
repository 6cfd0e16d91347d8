-- Each change of the machine is a change of the machine as the theorem sees it.
use Prim.Native.Nat.{ℕ, zero, suc, ◌+◌, ◌-◌, ◌≤◌, ◌<◌}
use mathlib.Core.Path.{◌≡◌, refl, sym, ap, subst, ◌∙◌}
use mathlib.Core.Bool.{Bool, true, false, not}
use mathlib.Core.List.{List, [], ◌∷◌, ◌++◌}
use native.Mathlib.Omega.{arith}
use borrow.Author.Tests.{eq-eqb, ne_eqb}
use lib.Dec.{eqb}
use lib.ListN.{length, get_or, set, take, drop, length-drop}
use lib.Seq.{get_or-take, take-take, take-set-le, take-set-lt, take-suc-set, take_at, length-take-le}
use Rattle.isa.specs.Reads.{choose}
use Rattle.execution.specs.declared.Stop.{Stop}
use Rattle.tables.specs.Table.{look_up, store_under}
use Rattle.tables.specs.FreeList.{freed, taken_head}
use Rattle.tables.specs.Entry.{empty_entry, predicted_entry}
use Rattle.tables.specs.declared.Mapping.{Mapping}
use Rattle.tables.specs.declared.Entry.{Entry}
use Rattle.tables.proofs.TableLaws.{store_within, store_zero}
use Rattle.tables.proofs.MapLaws.{map_names, map_registers, mapped_names, mapped_registers}
use Rattle.renaming.specs.Changes.{entry_at, place}
use Rattle.decoding.specs.Decode.{enter}
use Rattle.renaming.specs.Drop.{drop_youngest, drop_many, drop_to}
use Rattle.completing.specs.Complete.{refetched, redirected}
use Rattle.committing.specs.Commit.{halted_by, move_down, retired}
use Rattle.renaming.specs.declared.Core.{Core}
use Rattle.renaming.proofs.DropLaws.{drop_count}
use Rattle.agreement.proofs.View.{View, view_of, drop_at, drops_to, placed, retire, append, steer, redirect}
use Rattle.agreement.proofs.Stores.{store_set, look_get, freed_lem}
use Rattle.agreement.proofs.Kept.{Kept, kept_drop}
use Rattle.agreement.proofs.Tidy.{Plain, Tidy, cleared_kept, tidy_drop}

-- the entries that the count covers
pub seen_length : (m : Core) → Kept m → length (view_of m).entries ≡ m.count
seen_length m k = let c = k.count in let w = k.window in let l = k.entries in length-take-le m.count m.entries (omega arith)

pub seen_entry : (m : Core) (i : ℕ) → i < m.count → get_or (view_of m).entries i empty_entry ≡ entry_at m i
seen_entry m i h = get_or-take m.count m.entries i empty_entry h

pub view_place : (i : ℕ) (e : Entry) (m : Core) → i < m.count → view_of (place i e m) ≡ placed i e (view_of m)
view_place i e m h = rw (take-set-lt m.count m.entries i e h)

pub view_halted : (why : Stop) (m : Core) → view_of (halted_by why m) ≡ steer m.fetch m.next why (view_of m)
unfolding halted_by
view_halted why m = refl

-- decode: the name of an entry with a destination is the head of the pool
module _ (e : Entry) (m : Core) (k : Kept m) (h : m.count < m.setup.window) (z : get_or m.free_names.link 0 0 ≡ 0) where
  entered : take (suc m.count) (set m.entries m.count e) ≡ take m.count m.entries ++ e ∷ []
  entered = let w = k.window in let l = k.entries in take-suc-set m.entries m.count e (omega arith)

  abbrev renamed : Mapping
  renamed = record { name = e.name; register = 0; valid = false }

  enter_at : (d : ℕ) → e.destination ≡ d → (d ≡ 0 → e.name ≡ 0) → ((d ≡ 0 → ⊥) → e.name ≡ m.free_names.head) → view_of (enter e m) ≡ append d e (view_of m)
  unfolding enter append
  enter_at zero q none some = λ i. record (view_of m) {
    entries = entered i;
    names = (mapped_names m.map e.destination renamed ∙ sym (store_zero (map_names m.map) e.destination e.name q)) i;
    registers = (mapped_registers m.map e.destination renamed ∙ sym (store_zero (map_registers m.map) e.destination 0 q)) i;
    free_names = record {
      head = ap (λ (b : Bool). choose b m.free_names.head (taken_head m.free_names.link m.free_names.head)) (eq-eqb e.destination 0 q) i;
      link = sym (store_zero m.free_names.link e.name 0 (none refl)) i;
    };
    fetch = e.predicted;
  }
  enter_at (suc d) q none some =
      let nz : e.destination ≡ 0 → ⊥ = λ x. omega arith in
      let is : e.name ≡ m.free_names.head = some (λ x. omega arith) in
      λ i. record (view_of m) {
        entries = entered i;
        names = (mapped_names m.map e.destination renamed ∙ sym (store_within (map_names m.map) e.destination e.name nz) ∙ ap (λ (x : ℕ). set (map_names m.map) x e.name) q
            ∙ ap (set (map_names m.map) (suc d)) is) i;
        registers = (mapped_registers m.map e.destination renamed ∙ sym (store_within (map_registers m.map) e.destination 0 nz) ∙ ap (λ (x : ℕ). set (map_registers m.map) x 0) q) i;
        free_names = record {
          head = (ap (λ (b : Bool). choose b m.free_names.head (taken_head m.free_names.link m.free_names.head)) (ne_eqb e.destination 0 nz) ∙ look_get m.free_names.link m.free_names.head z) i;
          link = (ap (λ (x : ℕ). store_under m.free_names.link x 0) is ∙ store_set m.free_names.link m.free_names.head 0 0 (λ x. z)) i;
        };
        fetch = e.predicted;
      }

  pub view_enter : (e.destination ≡ 0 → e.name ≡ 0) → ((e.destination ≡ 0 → ⊥) → e.name ≡ m.free_names.head) → view_of (enter e m) ≡ append e.destination e (view_of m)
  view_enter none some = enter_at e.destination refl none some

-- drop: the youngest entry's register is the one under its name
module _ (m : Core) (k : Kept m) (some : 0 < m.count) (t : Tidy (view_of m)) where
  pub view_drop : view_of (drop_youngest m) ≡ drop_at (m.count - 1) (view_of m)
  unfolding drop_youngest drop_at
  view_drop =
      let n : ℕ = m.count - 1 in
      let e : Entry = get_or m.entries n empty_entry in
      let q : get_or (take m.count m.entries) n empty_entry ≡ e = get_or-take m.count m.entries n empty_entry (omega arith) in
      let long = seen_length m k in
      let p : Plain m.physical e = subst (Plain m.physical) q (t.entries n (omega arith)) in
      let register : ℕ = look_up (store_under m.physical e.name 0) e.previous in
      let returned : Mapping = record { name = e.previous; register = register; valid = not (eqb register 0) } in
      let cleared : store_under m.physical e.name 0 ≡ set m.physical e.name 0 = store_set m.physical e.name 0 0 (λ x. t.physical) in
      let back : look_up (store_under m.physical e.name 0) e.previous ≡ get_or (set m.physical e.name 0) e.previous 0 =
      ap (λ (l : List ℕ). look_up l e.previous) cleared ∙ look_get (set m.physical e.name 0) e.previous (cleared_kept m.physical e.name 0 t.physical) in
      let backless : e.destination ≡ 0 → get_or (map_registers m.map) 0 0 ≡ get_or (set m.physical e.name 0) e.previous 0 =
      λ d. t.registers ∙ sym (ap (λ (x : ℕ). get_or (set m.physical e.name 0) x 0) (p.baseless d) ∙ cleared_kept m.physical e.name 0 t.physical) in
      rw q (λ i. record (view_of m) {
        entries = (take-set-le n m.entries n empty_entry (omega arith) ∙ sym (take-take n m.count m.entries (omega arith))) i;
        names = (mapped_names m.map e.destination returned ∙ store_set (map_names m.map) e.destination e.previous 0 (λ d. t.names ∙ sym (p.baseless d))) i;
        registers = (mapped_registers m.map e.destination returned ∙ ap (store_under (map_registers m.map) e.destination) back
            ∙ store_set (map_registers m.map) e.destination (get_or (set m.physical e.name 0) e.previous 0) 0 backless) i;
        physical = cleared i;
        free_registers = (ap (λ (n : ℕ). freed n m.free_registers) p.holds ∙ freed_lem (get_or m.physical e.name 0) m.free_registers) i;
        free_names = freed_lem e.name m.free_names i;
      })

pub drops_count : (n : ℕ) (m : Core) → (drop_many n m).count ≡ m.count - n
unfolding drop_many
drops_count zero m = omega arith
drops_count (suc n) m = let d = drop_count m in let r = drops_count n (drop_youngest m) in omega arith

pub tidy_drop_core : (m : Core) → Kept m → 0 < m.count → Tidy (view_of m) → Tidy (view_of (drop_youngest m))
tidy_drop_core m k some t =
    let l = seen_length m k in
    subst Tidy (sym (view_drop m k some t)) (tidy_drop (m.count - 1) (view_of m) t (omega arith))

-- n entries are dropped, kept are left
pub view_drops : (n kept : ℕ) (m : Core) → Kept m → Tidy (view_of m) → m.count ≡ kept + n → view_of (drop_many n m) ≡ drops_to kept n (view_of m)
unfolding drop_many drops_to
view_drops zero kept m k t e = refl
view_drops (suc n) kept m k t e =
    let some : 0 < m.count = omega arith in
    let c = drop_count m in
    let last : m.count - 1 ≡ kept + n = omega arith in
    view_drops n kept (drop_youngest m) (kept_drop m k) (tidy_drop_core m k some t) (omega arith)
    ∙ ap (drops_to kept n) (view_drop m k some t ∙ ap (λ (x : ℕ). drop_at x (view_of m)) last)

pub view_drop_to : (kept : ℕ) (m : Core) → Kept m → Tidy (view_of m) → kept ≤ m.count → view_of (drop_to kept m) ≡ drops_to kept (m.count - kept) (view_of m)
view_drop_to kept m k t h = view_drops (m.count - kept) kept m k t (omega arith)

-- redirection
pub view_refetched : (i next : ℕ) (m : Core) → i < m.count
    → view_of (refetched i next m) ≡ steer next m.next m.halt (placed i (predicted_entry next (get_or (view_of m).entries i empty_entry)) (view_of m))
unfolding refetched
view_refetched i next m h = λ j. record (view_of m) {
  entries = (take-set-lt m.count m.entries i (predicted_entry next (entry_at m i)) h
      ∙ ap (λ (e : Entry). set (take m.count m.entries) i (predicted_entry next e)) (sym (seen_entry m i h))) j;
  fetch = next;
}

module _ (i next : ℕ) (m : Core) (k : Kept m) (t : Tidy (view_of m)) (h : i < m.count) where
  redirect_at : (b : Bool) → view_of (choose b m (refetched i next (drop_to (suc i) m))) ≡ choose b (view_of m) (let d : View = drops_to (suc i) (length (view_of m).entries - suc i) (view_of m) in
      steer next d.next d.halt (placed i (predicted_entry next (get_or d.entries i empty_entry)) d))
  redirect_at true = refl
  redirect_at false =
      let n : ℕ = m.count - suc i in
      let c = drops_count n m in
      view_refetched i next (drop_to (suc i) m) (omega arith)
      ∙ ap (λ (d : View). steer next d.next d.halt (placed i (predicted_entry next (get_or d.entries i empty_entry)) d))
      (view_drop_to (suc i) m k t h ∙ ap (λ (x : ℕ). drops_to (suc i) (x - suc i) (view_of m)) (sym (seen_length m k)))

  pub view_redirected : view_of (redirected i next m) ≡ redirect i next (view_of m)
  unfolding redirected redirect
  view_redirected =
      redirect_at (eqb next (entry_at m i).predicted)
      ∙ ap (λ (e : Entry). choose (eqb next e.predicted) (view_of m) (let d : View = drops_to (suc i) (length (view_of m).entries - suc i) (view_of m) in
      steer next d.next d.halt (placed i (predicted_entry next (get_or d.entries i empty_entry)) d))) (sym (seen_entry m i h))

-- commit
is_moved : (count : ℕ) (entries : List Entry) → length (drop 1 (take count entries)) ≡ count - 1 → take (count - 1) (move_down count entries) ≡ drop 1 (take count entries)
unfolding move_down
is_moved count entries l = take_at (drop 1 (take count entries)) (empty_entry ∷ drop count entries) (count - 1) l

pub view_retired : (m : Core) → Kept m → 0 < m.count → get_or m.physical 0 0 ≡ 0 → view_of (retired m) ≡ retire (view_of m)
unfolding retired retire
view_retired m k some z =
    let e : Entry = entry_at m 0 in
    let q : get_or (take m.count m.entries) 0 empty_entry ≡ e = seen_entry m 0 some in
    let register : look_up m.physical e.previous ≡ get_or m.physical e.previous 0 = look_get m.physical e.previous z in
    let l = seen_length m k in
    let d = length-drop 1 (take m.count m.entries) in
    rw q (λ i. record (view_of m) {
      entries = moved l d i;
      physical = store_set m.physical e.previous 0 0 (λ x. z) i;
      free_registers = (ap (λ (n : ℕ). freed n m.free_registers) register ∙ freed_lem (get_or m.physical e.previous 0) m.free_registers) i;
      free_names = freed_lem e.previous m.free_names i;
      next = e.predicted;
    })
  where
    moved : length (take m.count m.entries) ≡ m.count → length (drop 1 (take m.count m.entries)) ≡ length (take m.count m.entries) - 1
        → take (m.count - 1) (move_down m.count m.entries) ≡ drop 1 (take m.count m.entries)
    moved l d = is_moved m.count m.entries (omega arith)
