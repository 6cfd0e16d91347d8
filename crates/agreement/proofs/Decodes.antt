-- Decode and issue on the machine keep the invariant.
use Prim.Native.Nat.{ℕ, ◌<◌}
use mathlib.Core.Path.{◌≡◌, sym, ap, subst, ◌∙◌}
use mathlib.Core.Logic.{◌≢◌}
use mathlib.Core.Bool.{true, false}
use mathlib.Core.List.{List}
use native.Mathlib.Omega.{arith}
use lib.Dec.{eqb}
use lib.ListN.{get_or}
use Rattle.isa.specs.Reads.{choose}
use Rattle.isa.specs.declared.Instruction.{Instruction}
use Rattle.reference.specs.Fetch.{FetchNumbers, fetch_at}
use Rattle.execution.specs.Memory.{second_value}
use Rattle.execution.specs.Execute.{stop}
use Rattle.execution.specs.Roles.{loads, stores, predicted_next}
use Rattle.reference.specs.Step.{State, first_source, second_source, destination}
use Rattle.tables.specs.GeneralMap.{shown}
use Rattle.tables.specs.declared.Mapping.{Mapping}
use Rattle.tables.specs.Operand.{is_ready, value_of}
use Rattle.tables.specs.Entry.{empty_entry, issued_entry}
use Rattle.tables.specs.declared.State.TheVariants.{Waits}
use Rattle.tables.specs.declared.Entry.{Entry}
use Rattle.tables.proofs.TableLaws.{look_zero}
use Rattle.tables.proofs.MapLaws.{map_names, map_registers, shown_name, shown_register}
use Rattle.renaming.specs.Changes.{entry_at}
use Rattle.decoding.specs.Decode.{entering_stop, ended_entry, operand_on, name_for, started_entry, entry_for, decoded}
use Rattle.issuing.specs.Issue.{store_below, issued}
use Rattle.renaming.specs.declared.Core.{Core}
use Rattle.agreement.proofs.View.{View, view_of, operand_for, placed, append}
use Rattle.agreement.proofs.Ghost.{Ghost, Writers}
use Rattle.agreement.proofs.Invariant.{Accounting, Invariant}
use Rattle.agreement.proofs.Steps.{Named, fetched_named}
use Rattle.agreement.proofs.Walks.{writers_last}
use Rattle.agreement.proofs.Entering.{Enters, zero_named}
use Rattle.agreement.proofs.Decode.{started_in, entry_in, entry_enters, decode_keeps}
use Rattle.agreement.proofs.Issue.{none_stored, issue_keeps}
use Rattle.agreement.proofs.Stores.{look_get, shown_operand_lem}
use Rattle.agreement.proofs.Kept.{Kept}
use Rattle.agreement.proofs.Views.{seen_length, seen_entry, view_place, view_enter}

-- the general map shows a name for every register but 0
pub names_some : (g : Ghost) (m : List ℕ) (c : View) → Accounting g m c → (r : ℕ) → r < 32 → r ≢ 0 → get_or c.names r 0 ≢ 0
names_some g m c accounting r h z q =
    let w : Writers g c.names = subst (Writers g) (sym accounting.shows) (writers_last g m c.entries accounting.writers accounting.renamed) in
    let a : get_or g.writer 0 0 ≡ r = ap (λ (x : ℕ). get_or g.writer x 0) (sym q) ∙ w.writers r h in
    let b : get_or g.writer 0 0 ≡ 0 = ap (λ (x : ℕ). get_or g.writer x 0) (sym (zero_named g m c accounting)) ∙ w.writers 0 (omega arith) in
    z (sym a ∙ b)

module _ (program : List ℕ) (s : State) (m : Core) (k : Kept m) (invariant : Invariant program s (view_of m)) where
  zero_name_lem : get_or (map_names m.map) 0 0 ≡ 0
  zero_name_lem = zero_named invariant.ghost invariant.committed (view_of m) invariant.accounting

  zero_register_lem : get_or (map_registers m.map) 0 0 ≡ 0
  zero_register_lem = invariant.accounting.general.gives 0 ∙ ap (λ (x : ℕ). get_or m.physical x 0) zero_name_lem ∙ invariant.accounting.contents.valued.zero_register

  operand_on_lem : (r : ℕ) → r < 32 → operand_on m r ≡ operand_for (get_or (map_names m.map) r 0) (get_or (map_registers m.map) r 0)
  operand_on_lem r h =
      let x : Mapping = shown m.map r in
      let name : x.name ≡ get_or (map_names m.map) r 0 = shown_name m.map r ∙ look_get (map_names m.map) r zero_name_lem in
      let register : x.register ≡ get_or (map_registers m.map) r 0 = shown_register m.map r ∙ look_get (map_registers m.map) r zero_register_lem in
      shown_operand_lem r x.name x.register x.valid (λ e. shown_name m.map r ∙ sym (look_zero (map_names m.map) r e))
      (λ z q. names_some invariant.ghost invariant.committed (view_of m) invariant.accounting r h z (sym name ∙ q)) (k.valid r)
      ∙ ap (λ (n : ℕ). operand_for n x.register) name ∙ ap (operand_for (get_or (map_names m.map) r 0)) register

  started_seen : (i : Instruction) (guess : ℕ) → Named i → started_entry m i guess ≡ started_in (view_of m) i guess
  started_seen i guess n = λ j. record {
    instruction = i;
    address = m.fetch;
    predicted = predicted_next i m.fetch guess;
    first = 0;
    second = 0;
    result = 0;
    left = operand_on_lem (first_source i) n.first j;
    right = operand_on_lem (second_source i) n.second j;
    destination = destination i;
    name = name_for m (destination i);
    previous = (shown_name m.map (destination i) ∙ look_get (map_names m.map) (destination i) zero_name_lem) j;
    state = Waits;
    stop = stop 0;
  }

  entry_seen : (guess : ℕ) → entry_for m (fetch_at program m.fetch) guess ≡ entry_in (view_of m) (fetch_at program m.fetch) guess
  entry_seen guess =
      let f : FetchNumbers = fetch_at program m.fetch in
      ap (λ (e : Entry). choose (eqb (entering_stop f).cause 0) e (ended_entry m.fetch f.fields (entering_stop f))) (started_seen f.fields guess (fetched_named program m.fetch))

  pub decode_core_keeps : (guess : ℕ) → m.count < m.setup.window → Invariant program s (view_of (decoded program guess m))
  decode_core_keeps guess h =
      let f : FetchNumbers = fetch_at program m.fetch in
      let x : Entry = entry_for m f guess in
      let q : x ≡ entry_in (view_of m) f guess = entry_seen guess in
      let enters : Enters program (view_of m) x = subst (Enters program (view_of m)) (sym q) (entry_enters program s (view_of m) guess invariant) in
      let l = seen_length m k in
      subst (Invariant program s) (sym (view_enter x m k h invariant.accounting.name_pool.zero_link enters.unnamed enters.named))
      (subst (λ (y : Entry). Invariant program s (append y.destination y (view_of m))) (sym q) (decode_keeps program s (view_of m) guess invariant (omega arith)))

  -- issue
  issue_at : (i : ℕ) (e : Entry) → i < m.count → e ≡ entry_at m i → is_ready e.left ≡ true → is_ready e.right ≡ true → (memory : List ℕ)
      → Invariant program s (placed i (issued_entry (value_of m.values e.left) (second_value e.instruction (value_of m.values e.left) (value_of m.values e.right) memory) e) (view_of m))
      → Invariant program s (view_of (issued memory i m))
  unfolding issued
  issue_at i e h q a b memory inv =
      subst (Invariant program s) (sym (view_place i _ m h))
      (subst (λ (x : Entry). Invariant program s (placed i (issued_entry (value_of m.values x.left) (second_value x.instruction (value_of m.values x.left) (value_of m.values x.right) memory) x) (view_of m))) q inv)

  pub issue_core_keeps : (i : ℕ) (memory : List ℕ) → memory ≡ s.memory → i < m.count → (entry_at m i).state ≡ Waits → is_ready (entry_at m i).left ≡ true → is_ready (entry_at m i).right ≡ true
      → (loads (entry_at m i).instruction ≡ true → store_below i m.entries ≡ false) → Invariant program s (view_of (issued memory i m))
  issue_core_keeps i memory same h now left right none =
      let q : get_or (view_of m).entries i empty_entry ≡ entry_at m i = seen_entry m i h in
      let l = seen_length m k in
      let a : is_ready (get_or (view_of m).entries i empty_entry).left ≡ true = ap (λ (e : Entry). is_ready e.left) q ∙ left in
      let b : is_ready (get_or (view_of m).entries i empty_entry).right ≡ true = ap (λ (e : Entry). is_ready e.right) q ∙ right in
      issue_at i (get_or (view_of m).entries i empty_entry) h q a b memory
      (issue_keeps program s (view_of m) invariant i (omega arith) a b memory same (ap (λ (e : Entry). e.state) q ∙ now)
      (λ load j below. ap (λ (e : Entry). stores e.instruction) (seen_entry m j (omega arith)) ∙ none_stored m.entries i (none (ap (λ (e : Entry). loads e.instruction) (sym q) ∙ load)) j below))
