-- The machine as the theorem sees it: its entries as a list, without the valid bits; and the changes that calls are made of.
use Prim.Native.Nat.{ℕ, zero, suc, ◌+◌, ◌-◌}
use mathlib.Core.List.{List, [], ◌∷◌, ◌++◌, map}
use lib.Dec.{eqb}
use lib.ListN.{length, get_or, set, take, drop}
use Rattle.isa.specs.Reads.{choose}
use Rattle.execution.specs.declared.Stop.{Stop}
use Rattle.tables.specs.Entry.{empty_entry, with_operands, waiting_entry, completed_entry, predicted_entry}
use Rattle.tables.specs.declared.Operand.{Operand}
use Rattle.tables.specs.declared.Operand.TheVariants.{Zero, Waiting, Ready}
use Rattle.tables.specs.declared.Entry.{Entry}
use Rattle.tables.specs.declared.FreeList.{FreeList}
use Rattle.tables.proofs.MapLaws.{map_names, map_registers}
use Rattle.ranges.specs.declared.Setup.{Setup}
use Rattle.renaming.specs.declared.Core.{Core}

-- names and registers are the general map's
pub record View : Type 0 where
  pub setup : Setup
  pub entries : List Entry
  pub names : List ℕ
  pub registers : List ℕ
  pub physical : List ℕ
  pub values : List ℕ
  pub free_registers : FreeList
  pub free_names : FreeList
  pub fetch : ℕ
  pub next : ℕ
  pub halt : Stop

abbrev pub view_of : Core → View
view_of m =
    record {
      setup = m.setup;
      entries = take m.count m.entries;
      names = map_names m.map;
      registers = map_registers m.map;
      physical = m.physical;
      values = m.values;
      free_registers = m.free_registers;
      free_names = m.free_names;
      fetch = m.fetch;
      next = m.next;
      halt = m.halt;
    }

-- an operand on a name: ready with its register, waiting where it has none
unfoldable pub operand_for : ℕ → ℕ → Operand
operand_for zero register = Zero
operand_for (suc n) zero = Waiting (suc n)
operand_for (suc n) (suc register) = Ready (suc n) (suc register)

unfoldable pub name_in : Operand → ℕ
name_in Zero = 0
name_in (Waiting n) = n
name_in (Ready n register) = n

-- an operand on a name learns the name's register, 0 where it lost it
unfoldable pub informed : ℕ → ℕ → Operand → Operand
informed n register o = choose (eqb (name_in o) n) (operand_for n register) o

abbrev pub inform_entry : ℕ → ℕ → Entry → Entry
inform_entry n register e = with_operands e (informed n register e.left) (informed n register e.right)

-- a pool after one number was put back
unfoldable pub put_head : ℕ → ℕ → ℕ
put_head zero head = head
put_head (suc n) head = suc n

unfoldable pub put_link : ℕ → ℕ → List ℕ → List ℕ
put_link zero head link = link
put_link (suc n) head link = set link (suc n) head

-- the pool after one number was put back
abbrev pub put : ℕ → FreeList → FreeList
put n pool = record { head = put_head n pool.head; link = put_link n pool.head pool.link }

-- the general map's registers, where a name that it still shows gets or loses its register
unfoldable pub reshown : List ℕ → List ℕ → ℕ → ℕ → ℕ → List ℕ
reshown names registers d n register = choose (eqb (get_or names d 0) n) (set registers d register) registers

-- the youngest entry, at k, is dropped
unfoldable pub drop_at : ℕ → View → View
drop_at k c =
    let e : Entry = get_or c.entries k empty_entry in
    let physical : List ℕ = set c.physical e.name 0 in
    record c {
      entries = take k c.entries;
      names = set c.names e.destination e.previous;
      registers = set c.registers e.destination (get_or physical e.previous 0);
      physical = physical;
      free_registers = put (get_or c.physical e.name 0) c.free_registers;
      free_names = put e.name c.free_names;
    }

-- n entries are dropped, the youngest first, until k are left
unfoldable pub drops_to : ℕ → ℕ → View → View
drops_to k zero c = c
drops_to k (suc n) c = drops_to k n (drop_at (k + n) c)

-- an entry changes, and no table does
abbrev pub placed : ℕ → Entry → View → View
placed i e c = record c { entries = set c.entries i e }

-- the entry at j waits again, and its register is free
unfoldable pub release : ℕ → View → View
release j c =
    let e : Entry = get_or c.entries j empty_entry in
    record c {
      entries = map (inform_entry e.name 0) (set c.entries j (waiting_entry e));
      registers = reshown c.names c.registers e.destination e.name 0;
      physical = set c.physical e.name 0;
      free_registers = put (get_or c.physical e.name 0) c.free_registers;
    }

-- the entry at i is completed with the head of the pool, which gets the result
unfoldable pub learn : ℕ → ℕ → View → View
learn i result c =
    let e : Entry = get_or c.entries i empty_entry in
    let register : ℕ = c.free_registers.head in
    record c {
      entries = map (inform_entry e.name register) (set c.entries i (completed_entry result e));
      registers = reshown c.names c.registers e.destination e.name register;
      physical = set c.physical e.name register;
      values = set c.values register result;
      free_registers = record { head = get_or c.free_registers.link register 0; link = set c.free_registers.link register 0 };
    }

-- the oldest entry leaves
unfoldable pub retire : View → View
retire c =
    let e : Entry = get_or c.entries 0 empty_entry in
    record c {
      entries = drop 1 c.entries;
      physical = set c.physical e.previous 0;
      free_registers = put (get_or c.physical e.previous 0) c.free_registers;
      free_names = put e.previous c.free_names;
      next = e.predicted;
    }

-- an entry enters; with a destination it has the head of the pool of names
unfoldable pub append : ℕ → Entry → View → View
append zero e c = record c { entries = c.entries ++ e ∷ []; fetch = e.predicted }
append (suc d) e c =
    record c {
      entries = c.entries ++ e ∷ [];
      names = set c.names (suc d) c.free_names.head;
      registers = set c.registers (suc d) 0;
      free_names = record { head = get_or c.free_names.link c.free_names.head 0; link = set c.free_names.link c.free_names.head 0 };
      fetch = e.predicted;
    }

-- fetch, next address and halt change
abbrev pub steer : ℕ → ℕ → Stop → View → View
steer fetch next halt c = record c { fetch = fetch; next = next; halt = halt }

-- where the actual next address is not the predicted one, all younger entries are dropped and fetch goes there
unfoldable pub redirect : ℕ → ℕ → View → View
redirect i next c =
    choose (eqb next (get_or c.entries i empty_entry).predicted) c
    (let d : View = drops_to (suc i) (length c.entries - suc i) c in
    steer next d.next d.halt (placed i (predicted_entry next (get_or d.entries i empty_entry)) d))
