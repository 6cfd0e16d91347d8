-- Facts about the numbers of a machine, and that refusal 5 does not apply where they hold.
use Prim.Native.Nat.{ℕ, zero, suc, ◌≤◌, ◌<◌}
use mathlib.Core.Path.{◌≡◌, refl, sym, ap, subst, ◌∙◌}
use mathlib.Core.Bool.{Bool, true, false, not, ◌&&◌, ◌||◌}
use mathlib.Core.List.{List}
use native.Mathlib.Omega.{arith}
use borrow.Author.Tests.{le-leb, eqb-true, eq-eqb}
use lib.Dec.{leb, eqb}
use lib.ListN.{length, get_or, get_or-map}
use Rattle.std.proofs.lemmas.Bool.{or_left, or_right}
use Rattle.laws.proofs.Bools.{impossible, both}
use Rattle.isa.specs.Encodes.{accepted}
use Rattle.execution.specs.Memory.{store_ends_within}
use Rattle.tables.specs.GeneralMap.{unmapped}
use Rattle.tables.specs.Entry.{empty_entry, is_completed}
use Rattle.tables.specs.declared.Mapping.{Mapping}
use Rattle.tables.specs.declared.GeneralMap.{GeneralMap}
use Rattle.tables.specs.declared.State.{State as Stage}
use Rattle.tables.specs.declared.State.TheVariants.{Waits, Issued, Completed}
use Rattle.tables.specs.declared.Entry.{Entry}
use Rattle.ranges.specs.Sizes.{names_of, setup_in_range}
use Rattle.renaming.specs.Range.{entries_in_range, tables_in_range, machine_in_range}
use Rattle.ranges.specs.Tables.{every_from, within, mapping_within, tables_within}
use Rattle.ranges.specs.Entries.{entry_in_range, operand_in_range, is_none, instruction_in_range, cause_in_range, store_in_range}
use Rattle.ranges.specs.declared.Setup.{Setup}
use Rattle.renaming.specs.declared.Core.{Core}
use Rattle.tables.proofs.MapLaws.{map_names, map_registers}
use Rattle.ranges.proofs.TableLaws.{every_holds}
use Rattle.agreement.proofs.View.{View, view_of, operand_for}
use Rattle.agreement.proofs.Kept.{Kept}
use Rattle.agreement.proofs.Views.{seen_length, seen_entry}

-- an instruction that the encoder takes, or none in an entry that ended for want of one
pub data Readable (e : Entry) : Type 0 where
  encodable : accepted e.instruction ≡ true → Readable e
  missing : is_none e.instruction ≡ true → e.state ≡ Completed → eqb e.stop.cause 1 || eqb e.stop.cause 4 ≡ true → Readable e

pub record EntryInRange (s : Setup) (e : Entry) : Type 0 where
  pub readable : Readable e
  pub destination : e.destination ≤ 31
  pub name : e.name ≤ names_of s.window
  pub previous : e.previous ≤ names_of s.window
  pub left : operand_in_range (names_of s.window) s.registers e.left ≡ true
  pub right : operand_in_range (names_of s.window) s.registers e.right ≡ true
  pub cause : e.stop.cause ≤ 7
  pub caused : (e.state ≡ Completed → ⊥) → e.stop.cause ≡ 0
  pub ends : e.state ≡ Completed → e.stop.cause ≡ 0 → store_ends_within s.bytes e.instruction e.first ≡ true

pub record InRange (c : View) : Type 0 where
  pub setup : setup_in_range c.setup ≡ true
  pub register_head : c.free_registers.head ≤ c.setup.registers
  pub register_link : (k : ℕ) → get_or c.free_registers.link k 0 ≤ c.setup.registers
  pub name_head : c.free_names.head ≤ names_of c.setup.window
  pub name_link : (k : ℕ) → get_or c.free_names.link k 0 ≤ names_of c.setup.window
  pub physical : (k : ℕ) → get_or c.physical k 0 ≤ c.setup.registers
  pub names : (r : ℕ) → get_or c.names r 0 ≤ names_of c.setup.window
  pub registers : (r : ℕ) → get_or c.registers r 0 ≤ c.setup.registers
  pub halt : c.halt.cause ≤ 7
  pub entries : (i : ℕ) → i < length c.entries → EntryInRange c.setup (get_or c.entries i empty_entry)

-- an operand on a name
pub operand_in_range_lem : (names registers n r : ℕ) → n ≤ names → r ≤ registers → operand_in_range names registers (operand_for n r) ≡ true
unfolding operand_for
operand_in_range_lem names registers zero r h k = refl
operand_in_range_lem names registers (suc n) zero h k = le-leb (suc n) names h
operand_in_range_lem names registers (suc n) (suc r) h k = both (le-leb (suc n) names h) (le-leb (suc r) registers k)

-- the tests of an entry
instruction_in_range_lem : (e : Entry) → Readable e → instruction_in_range e ≡ true
instruction_in_range_lem e (encodable h) = or_left (accepted e.instruction) _ h
instruction_in_range_lem e (missing n s c) = or_right (accepted e.instruction) _ (both (both n (ap is_completed s)) c)

-- by whether the entry is completed
apart : (s : Stage) → (is_completed s ≡ false) → s ≡ Completed → ⊥
apart s e q = impossible (sym e ∙ ap is_completed q)

completed_is : (s : Stage) → is_completed s ≡ true → s ≡ Completed
completed_is Waits e = impossible e
completed_is Issued e = impossible e
completed_is Completed e = refl

cause_in_range_lem : (e : Entry) → e.stop.cause ≤ 7 → ((e.state ≡ Completed → ⊥) → e.stop.cause ≡ 0) → cause_in_range e ≡ true
cause_in_range_lem e h f = both (le-leb e.stop.cause 7 h) (at (is_completed e.state) refl)
  where
    at : (b : Bool) → is_completed e.state ≡ b → b || eqb e.stop.cause 0 ≡ true
    at true q = refl
    at false q = eq-eqb e.stop.cause 0 (f (apart e.state q))

store_in_range_lem : (bytes : ℕ) (e : Entry) → (e.state ≡ Completed → e.stop.cause ≡ 0 → store_ends_within bytes e.instruction e.first ≡ true) → store_in_range bytes e ≡ true
store_in_range_lem bytes e f = at (is_completed e.state) (eqb e.stop.cause 0) refl refl
  where
    at : (b c : Bool) → is_completed e.state ≡ b → eqb e.stop.cause 0 ≡ c → not (b && c) || store_ends_within bytes e.instruction e.first ≡ true
    at true true p q = f (completed_is e.state p) (eqb-true e.stop.cause 0 q)
    at true false p q = refl
    at false c p q = refl

pub entry_in_range_lem : (s : Setup) (e : Entry) → EntryInRange s e → entry_in_range s e ≡ true
unfolding entry_in_range
entry_in_range_lem s e r =
    both (both (both (both (both (both (both (instruction_in_range_lem e r.readable) (le-leb e.destination 31 r.destination)) (le-leb e.name (names_of s.window) r.name))
    (le-leb e.previous (names_of s.window) r.previous)) r.left) r.right) (cause_in_range_lem e r.cause r.caused)) (store_in_range_lem s.bytes e r.ends)

within_holds : (limit from count : ℕ) (table : List ℕ) → ((k : ℕ) → get_or table k 0 ≤ limit) → within limit from count table ≡ true
within_holds limit from count table h = every_holds (λ (n : ℕ). leb n limit) 0 count from table (λ i l g. le-leb (get_or table i 0) limit (h i))

-- names and registers of the general map
mappings_within : (names registers : ℕ) (m : GeneralMap) → ((i : ℕ) → get_or (map_names m) i 0 ≤ names) → ((i : ℕ) → get_or (map_registers m) i 0 ≤ registers)
    → every_from (mapping_within names registers) unmapped 1 31 m.mappings ≡ true
mappings_within names registers m h k =
    every_holds (mapping_within names registers) unmapped 31 1 m.mappings (λ i l g.
    let x : Mapping = get_or m.mappings i unmapped in
    both (le-leb x.name names (subst (λ (n : ℕ). n ≤ names) (get_or-map (λ (y : Mapping). y.name) m.mappings i unmapped) (h i)))
    (le-leb x.register registers (subst (λ (n : ℕ). n ≤ registers) (get_or-map (λ (y : Mapping). y.register) m.mappings i unmapped) (k i))))

module _ (m : Core) (k : Kept m) (r : InRange (view_of m)) where
  tables : tables_in_range m ≡ true
  unfolding tables_within
  tables =
      let n : ℕ = m.setup.registers in
      let a : ℕ = names_of m.setup.window in
      both (both (both (both (both (both (le-leb m.free_registers.head n r.register_head) (within_holds n 1 n m.free_registers.link r.register_link)) (le-leb m.free_names.head a r.name_head))
      (within_holds a 1 a m.free_names.link r.name_link)) (within_holds n 1 a m.physical r.physical)) (mappings_within a n m.map r.names r.registers))
      (le-leb m.halt.cause 7 r.halt)

  entries : entries_in_range m.setup m.count m.entries ≡ true
  entries =
      let l = seen_length m k in
      every_holds (entry_in_range m.setup) empty_entry m.count 0 m.entries (λ i a b.
      let h : i < m.count = omega arith in
      ap (entry_in_range m.setup) (sym (seen_entry m i h)) ∙ entry_in_range_lem m.setup (get_or (view_of m).entries i empty_entry) (r.entries i (omega arith)))

  pub in_range : machine_in_range m ≡ true
  unfolding machine_in_range
  in_range = both (both (both r.setup (le-leb m.count m.setup.window k.count)) tables) entries
