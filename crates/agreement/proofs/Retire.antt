-- The oldest entry leaves: its name is committed, the previous name and its register are free.
use Prim.Native.Nat.{ℕ, zero, suc, ◌<◌}
use mathlib.Core.Path.{◌≡◌, refl, ap, sym, ◌∙◌}
use mathlib.Core.Logic.{◌≢◌}
use mathlib.Core.List.{List, ◌∷◌, map}
use native.Mathlib.Omega.{arith}
use native.Mathlib.Decide.{dec_lt}
use lib.ListN.{length, get_or, set, length-set, get_or-eq_default}
use lib.Seq.{get_or-set_other, get_or-set_same}
use Rattle.tables.specs.FreeList.{occurrences}
use Rattle.tables.specs.declared.Entry.{Entry}
use Rattle.agreement.proofs.View.{View, put_head, put_link, retire}
use Rattle.agreement.proofs.Ghost.{Ghost}
use Rattle.agreement.proofs.Chains.{renaming_of, Renamed, RenameChain, last_names}
use Rattle.agreement.proofs.Contents.{ShownIn, HoldsIn, GeneralMap}
use Rattle.agreement.proofs.Pools.{name_of, NamePool, Live}
use Rattle.agreement.proofs.Invariant.{Accounting}
use Rattle.agreement.proofs.Tests.{Eq?, equal, apart, eq?}
use Rattle.agreement.proofs.Counting.{same, same_refl, count_is}
use Rattle.agreement.proofs.RegisterPools.{put_free, register_free}
use Rattle.agreement.proofs.NamePools.{name_most, name_range, name_commit, name_commit_none}
use Rattle.agreement.proofs.LiveLaws.{set_zero, live_commit, live_commit_none}
use Rattle.std.specs.List.{All}
use Rattle.agreement.proofs.Walks.{writers_next, lacks_last, lacks_all}
use Rattle.agreement.proofs.ContentLaws.{clear_other, shown_clear, holds_clear, valued_clear}
use Rattle.agreement.proofs.NameFacts.{no_name}

module _ (g : Ghost) (m : List ℕ) (c : View) (accounting : Accounting g m c) (e : Entry) (es : List Entry) (is : c.entries ≡ e ∷ es) where
  abbrev d : ℕ
  d = e.destination

  abbrev old : ℕ
  old = e.previous

  abbrev m' : List ℕ
  m' = set m d e.name

  abbrev physical' : List ℕ
  physical' = set c.physical old 0

  renamings : Renamed g m (renaming_of e) × RenameChain g m' (map renaming_of es)
  unfolding RenameChain
  renamings = rw is at accounting.renamed

  pool : NamePool c.setup.window m (e.name ∷ map name_of es) c.free_names.head c.free_names.link accounting.free_names
  pool = rw is at accounting.name_pool

  lives : Live c.physical m (e.name ∷ map name_of es) accounting.free_names
  lives = rw is at accounting.live

  zero_register_lem : get_or c.physical 0 0 ≡ 0
  zero_register_lem = accounting.contents.valued.zero_register

  was : old ≡ get_or m d 0
  was = renamings.0.previous

  some_register : old ≢ 0 → d ≢ 0
  some_register z q = z (cc (was, pool.zero_name))

  some_name : old ≢ 0 → e.name ≢ 0
  some_name z q = some_register z (cc (renamings.0.writer, accounting.writers.writers 0 (omega arith), pool.zero_name))

  some_old : e.name ≢ 0 → old ≢ 0
  some_old z q = register (λ y. z (renamings.0.unnamed y))
    where
      register : d ≢ 0 → ⊥
      register y = lives.kept d (omega arith) renamings.0.small (cc (was, zero_register_lem))

  gone : old ≢ 0 → (occurrences old accounting.free_names ≡ 0) × (occurrences old (e.name ∷ map name_of es) ≡ 0)
  gone z = omega (arith, name_most c.setup.window m (e.name ∷ map name_of es) c.free_names.head c.free_names.link accounting.free_names pool old (omega arith), count_is m d old (sym was) z)

  apart_name : old ≢ 0 → e.name ≢ old
  unfolding occurrences same
  apart_name z q = omega (arith, (gone z).1, ap (same old) q, same_refl old)

  others : old ≢ 0 → All (λ x. x.name ≢ old) es
  unfolding occurrences same
  others z = no_name es old z (omega (arith, (gone z).1))

  elsewhere : old ≢ 0 → (r : ℕ) → r < 32 → r ≢ d → get_or m r 0 ≢ old
  elsewhere z r b n q = n (cc (accounting.writers.writers r b, accounting.writers.writers d renamings.0.small, was))

  lost : old ≢ 0 → (r : ℕ) → get_or m' r 0 ≢ old
  lost z r q = elim (eq? r d) [
    | equal x t ↦ apart_name z (sym (get_or-set_same m d e.name 0 (omega (arith, renamings.0.small, accounting.writers.size))) ∙ cc)
    | apart x t ↦ inside (dec_lt r 32) (sym (get_or-set_other m d r e.name 0 x) ∙ q) x
  ]
    where
      inside : Dec (r < 32) → get_or m r 0 ≡ old → r ≢ d → ⊥
      inside (yes b) y x = elsewhere z r b x y
      inside (no b) y x = z (sym y ∙ get_or-eq_default m 0 {n = r} (omega (arith, accounting.writers.size)))

  range_old : old < length c.physical
  range_old = go old refl
    where
      go : (o : ℕ) → old ≡ o → o < length c.physical
      go zero q = omega (arith, accounting.physical_room, accounting.name_pool.bound)
      go (suc o) q = omega (
        arith,
        accounting.physical_room,
        accounting.name_pool.bound,
        name_range c.setup.window m (e.name ∷ map name_of es) c.free_names.head c.free_names.link accounting.free_names pool (suc o) (omega (arith, count_is m d (suc o) (sym was ∙ q) (omega arith))),
      )

  -- an entry without a destination
  nameless : old ≡ 0 → (e.name ≡ 0) × (m' ≡ m)
  nameless q =
      let z : e.name ≡ 0 = zeroed (eq? e.name 0) in
      let y : d ≡ 0 = cc (renamings.0.writer, accounting.writers.writers 0 (omega arith), pool.zero_name) in
      (z, rw (z, y) (set_zero m 0 pool.zero_name))
    where
      zeroed : Eq? e.name 0 → e.name ≡ 0
      zeroed (equal a t) = a
      zeroed (apart a t) = absurd (some_old a q)

  retire_names : NamePool c.setup.window m' (map name_of es) (put_head old c.free_names.head) (put_link old c.free_names.head c.free_names.link) (put_free old accounting.free_names)
  unfolding put_head put_link put_free
  retire_names = go old refl
    where
      go : (o : ℕ) → old ≡ o → NamePool c.setup.window m' (map name_of es) (put_head o c.free_names.head) (put_link o c.free_names.head c.free_names.link) (put_free o accounting.free_names)
      go zero q = rw (nameless q).1 (name_commit_none c.setup.window m (map name_of es) c.free_names.head c.free_names.link accounting.free_names (rw (nameless q).0 at pool))
      go (suc o) q = name_commit c.setup.window m (map name_of es) c.free_names.head c.free_names.link accounting.free_names e.name d o pool (omega (arith, renamings.0.small, accounting.writers.size))
          (some_register (omega arith)) (some_name (omega arith)) (sym was ∙ q)

  retire_live : (e.name ≢ 0 → get_or c.physical e.name 0 ≢ 0) → Live physical' m' (map name_of es) (put_free old accounting.free_names)
  unfolding put_free occurrences same
  retire_live h = go old refl
    where
      go : (o : ℕ) → old ≡ o → Live (set c.physical o 0) m' (map name_of es) (put_free o accounting.free_names)
      go zero q = rw ((nameless q).1, set_zero c.physical 0 zero_register_lem) (live_commit_none c.physical m (map name_of es) accounting.free_names zero_register_lem (rw (nameless q).0 at lives))
      go (suc o) q =
          let z : old ≢ 0 = omega arith in
          let f : (occurrences old accounting.free_names ≡ 0) × (occurrences old (e.name ∷ map name_of es) ≡ 0) = gone z in
          let i : suc o < length c.physical = rw q at range_old in
          let y : d ≢ 0 = some_register z in
          live_commit c.physical m (map name_of es) accounting.free_names e.name d o lives (sym was ∙ q) (omega arith) renamings.0.small accounting.writers.size i (h (some_name z))
          (λ x. apart_name z (x ∙ sym q)) (rw (← q) (omega (arith, f.1))) (rw (← q) f.0) (λ r b x w. elsewhere z r b x (w ∙ sym q))

  tail_shown : All (ShownIn c.physical) (e ∷ es)
  tail_shown = rw is at accounting.contents.shown

  tail_holds : All (HoldsIn c.physical) (e ∷ es)
  tail_holds = rw is at accounting.contents.holds

  shown_after : All (ShownIn physical') es
  shown_after i d h = shown_clear c.physical old (get_or es i d) zero_register_lem (λ z. lacks_all g old m' es (lost z) (others z) renamings.1 i d h) (tail_shown (suc i) d (omega arith))

  holds_after : All (HoldsIn physical') es
  holds_after i d h =
      let x : Entry = get_or es i d in
      holds_clear c.physical old x.state x.stop.cause x.name (clear_other c.physical old x.name zero_register_lem (λ z. others z i d h)) (tail_holds (suc i) d (omega arith))

  names_now : c.names ≡ last_names m' (map renaming_of es)
  unfolding last_names
  names_now = rw is at accounting.shows

  general_after : GeneralMap physical' c.names c.registers
  general_after = record {
    gives = λ r. accounting.general.gives r ∙ sym (clear_other c.physical old (get_or c.names r 0) zero_register_lem (λ z. rw names_now (lacks_last old m' es (lost z) (others z) r)));
    size = accounting.general.size;
  }

  -- its name has a register, which is committed with it
  pub retire_accounted : (e.name ≢ 0 → get_or c.physical e.name 0 ≢ 0) → Accounting g m' (retire c)
  unfolding retire last_names
  retire_accounted h = rw is (record {
    free_registers = put_free (get_or c.physical old 0) accounting.free_registers;
    free_names = put_free old accounting.free_names;
    writers = writers_next g m e accounting.writers renamings.0;
    renamed = renamings.1;
    contents = record { shown = shown_after; holds = holds_after; valued = valued_clear g c.physical c.values old accounting.contents.valued };
    register_pool = register_free c.setup.registers c.physical c.free_registers.head c.free_registers.link accounting.free_registers old (get_or c.physical old 0) accounting.register_pool range_old refl;
    name_pool = retire_names;
    live = retire_live h;
    shows = names_now;
    general = general_after;
    physical_room = length-set c.physical old 0 ∙ accounting.physical_room;
    values_room = accounting.values_room;
    value_room = accounting.value_room;
    writer_room = accounting.writer_room;
    enough = accounting.enough;
    some = accounting.some;
    within = omega (arith, ap length is, accounting.within);
  })
