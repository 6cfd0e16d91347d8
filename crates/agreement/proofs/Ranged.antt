-- A machine with the invariant never meets refusal 5.
use Prim.Native.Nat.{ℕ, zero, suc, ◌+◌, ◌≤◌, ◌<◌}
use mathlib.Core.Path.{◌≡◌, refl, sym, ap, subst, ◌∙◌}
use mathlib.Core.Logic.{◌≢◌}
use mathlib.Core.Bool.{Bool, true, false, ◌||◌}
use mathlib.Core.List.{List, [], ◌∷◌, map}
use native.Mathlib.Omega.{arith}
use native.Mathlib.Decide.{dec_lt}
use borrow.Author.Tests.{eqb-true}
use lib.Dec.{eqb}
use lib.ListN.{length, get_or, set, take}
use lib.Seq.{get_or-set_other, get_or-set_same, set_out}
use Rattle.laws.proofs.Bools.{impossible}
use Rattle.isa.specs.Encodes.{accepted}
use Rattle.isa.specs.Reads.{choose}
use Rattle.isa.specs.declared.Instruction.{Instruction}
use Rattle.isa.proofs.Accepted.{accepted_holds}
use Rattle.execution.specs.Execute.{stop, executed, Outcome}
use Rattle.reference.specs.Fetch.{FetchNumbers, fetch_at}
use Rattle.execution.specs.Memory.{stored, store_ends_within}
use Rattle.execution.specs.Roles.{stop_at_once}
use Rattle.reference.specs.Step.{State, Step, first_source, second_source, first_of, second_of, reached, stopped_at, settled, destination, write_register, step_with, step_of}
use Rattle.execution.specs.declared.Stop.{Stop}
use Rattle.reference.proofs.FetchLaws.{fetched_accepted, fetched_missing}
use Rattle.execution.proofs.OutcomeLaws.{executed_proper, executed_ends}
use Rattle.tables.specs.Table.{look_up}
use Rattle.tables.specs.FreeList.{Spells, occurrences}
use Rattle.tables.specs.Entry.{empty_entry, is_waiting, is_issued}
use Rattle.tables.specs.declared.Operand.{Operand}
use Rattle.tables.specs.declared.State.TheVariants.{Completed}
use Rattle.tables.specs.declared.Entry.{Entry}
use Rattle.ranges.specs.Sizes.{setup_in_range}
use Rattle.ranges.specs.Entries.{operand_in_range, is_none}
use Rattle.decoding.specs.Decode.{entering_stop}
use Rattle.agreement.proofs.View.{View, operand_for, name_in}
use Rattle.agreement.proofs.Ghost.{Ghost}
use Rattle.agreement.proofs.Chains.{renaming_of, Renamed, last_names, execution_of, Status, waits, reads, done, stops, Executes}
use Rattle.agreement.proofs.Contents.{ShownIn}
use Rattle.agreement.proofs.Invariant.{Accounting, Invariant, Emptied}
use Rattle.isa.proofs.ChoiceLaws.{by_choice}
use Rattle.agreement.proofs.Tests.{equal, apart, eq?}
use Rattle.agreement.proofs.Counting.{count_is}
use Rattle.agreement.proofs.RegisterPools.{register_range}
use Rattle.agreement.proofs.NamePools.{name_range}
use Rattle.agreement.proofs.NameFacts.{entry_range}
use Rattle.agreement.proofs.Pools.{name_of}
use Rattle.std.specs.List.{All}
use Rattle.std.proofs.lemmas.List.Elements.{All-tail, All-from_get_or, All-take}
use Rattle.agreement.proofs.Walks.{names_at, state_at, executes_at, last_length}
use Rattle.agreement.proofs.Steps.{step_executable}
use Rattle.agreement.proofs.Stores.{look_get}
use Rattle.agreement.proofs.Tidied.{accounted_renamed}
use Rattle.agreement.proofs.InRange.{Readable, encodable, missing, EntryInRange, InRange, operand_in_range_lem}

-- a chain whose numbers are in range
spells_range : (link : List ℕ) (head limit : ℕ) (free : List ℕ) → Spells link head free → ((k : ℕ) → 1 ≤ occurrences k free → k ≤ limit) → head ≤ limit
unfolding Spells occurrences
spells_range link head limit [] c f = omega (arith, c)
spells_range link head limit (n ∷ free) c f = omega (arith, c.0, f n (first_counted n free))
  where
    first_counted : (n : ℕ) (free : List ℕ) → 1 ≤ choose (eqb n n) 1 0 + occurrences n free
    first_counted n free = elim (eq? n n) [ equal e t ↦ rw t (omega arith) | apart e t ↦ absurd (e refl) ]

links_range : (link : List ℕ) (head limit : ℕ) (free : List ℕ) → Spells link head free → ((k : ℕ) → 1 ≤ occurrences k free → k ≤ limit) → (k : ℕ) → 1 ≤ occurrences k free → look_up link k ≤ limit
unfolding Spells occurrences
links_range link head limit [] c f k o = absurd (omega arith)
links_range link head limit (n ∷ free) c f k o = elim (eq? n k) [
  | equal e t ↦ rw (← e) (spells_range link (look_up link n) limit free c.2 (λ j l. f j (omega arith)))
  | apart e t ↦ links_range link (look_up link n) limit free c.2 (λ j l. f j (omega arith)) k (let u : 1 ≤ 0 + occurrences k free = rw t at o in omega arith)
]

-- every link: of a number in the chain, and of one outside it
link_range : (link : List ℕ) (head limit : ℕ) (free : List ℕ) → Spells link head free → ((k : ℕ) → 1 ≤ occurrences k free → k ≤ limit) → get_or link 0 0 ≡ 0
    → ((k : ℕ) → occurrences k free ≡ 0 → get_or link k 0 ≡ 0) → (k : ℕ) → get_or link k 0 ≤ limit
link_range link head limit free c f z outside k = cases (occurrences k free) refl
  where
    cases : (o : ℕ) → occurrences k free ≡ o → get_or link k 0 ≤ limit
    cases zero e = let n = outside k e in omega arith
    cases (suc o) e = subst (λ (x : ℕ). x ≤ limit) (look_get link k z) (links_range link head limit free c f k (omega arith))

-- a table after a write
range_set : (table : List ℕ) (d v limit : ℕ) → v ≤ limit → ((r : ℕ) → get_or table r 0 ≤ limit) → (r : ℕ) → get_or (set table d v) r 0 ≤ limit
range_set table d v limit h f r = elim (eq? r d) [
  | equal e t ↦ inside (dec_lt d (length table)) e
  | apart e t ↦ subst (λ (x : ℕ). x ≤ limit) (sym (get_or-set_other table d r v 0 e)) (f r)
]
  where
    inside : Dec (d < length table) → r ≡ d → get_or (set table d v) r 0 ≤ limit
    inside (yes l) e = subst (λ (x : ℕ). x ≤ limit) (sym (ap (λ (x : ℕ). get_or (set table d v) x 0) e ∙ get_or-set_same table d v 0 l)) h
    inside (no l) e = subst (λ (t : List ℕ). get_or t r 0 ≤ limit) (sym (set_out table d v (omega arith))) (f r)

-- the names behind entries are those before them or the entries' own
names_range : (limit : ℕ) (m : List ℕ) (es : List Entry) → ((r : ℕ) → get_or m r 0 ≤ limit) → All (λ e. e.name ≤ limit) es → (r : ℕ) → get_or (last_names m (map renaming_of es)) r 0 ≤ limit
unfolding last_names
names_range limit m [] f a r = f r
names_range limit m (e ∷ es) f a r = names_range limit (set m e.destination e.name) es (range_set m e.destination e.name limit (a 0 e (omega arith)) f) (All-tail (λ x. x.name ≤ limit) e es a) r

-- what the accounting says of the tables
module _ (g : Ghost) (m : List ℕ) (c : View) (accounting : Accounting g m c) where
  abbrev limit : ℕ
  limit = 31 + c.setup.window

  register_free_range : (k : ℕ) → 1 ≤ occurrences k accounting.free_registers → k ≤ c.setup.registers
  register_free_range k h = register_range c.setup.registers c.physical c.free_registers.head c.free_registers.link accounting.free_registers accounting.register_pool k (omega arith)

  name_free_range : (k : ℕ) → 1 ≤ occurrences k accounting.free_names → k ≤ limit
  name_free_range k h = name_range c.setup.window m (map name_of c.entries) c.free_names.head c.free_names.link accounting.free_names accounting.name_pool k (omega arith)

  physical_range : (k : ℕ) → get_or c.physical k 0 ≤ c.setup.registers
  physical_range k = cases (get_or c.physical k 0) refl
    where
      cases : (v : ℕ) → get_or c.physical k 0 ≡ v → v ≤ c.setup.registers
      cases zero e = omega arith
      cases (suc v) e =
          let o = count_is c.physical k (suc v) e (λ z. omega arith) in
          register_range c.setup.registers c.physical c.free_registers.head c.free_registers.link accounting.free_registers accounting.register_pool (suc v) (omega arith)

  committed_range : (r : ℕ) → get_or m r 0 ≤ limit
  committed_range r = cases (get_or m r 0) refl
    where
      cases : (v : ℕ) → get_or m r 0 ≡ v → v ≤ limit
      cases zero e = omega arith
      cases (suc v) e =
          let o = count_is m r (suc v) e (λ z. omega arith) in
          name_range c.setup.window m (map name_of c.entries) c.free_names.head c.free_names.link accounting.free_names accounting.name_pool (suc v) (omega arith)

  name_at : (i : ℕ) → (get_or c.entries i empty_entry).name ≤ limit
  name_at i = entry_range c.setup.window m c.entries c.free_names.head c.free_names.link accounting.free_names accounting.name_pool i

  all_names : All (λ e. e.name ≤ limit) c.entries
  all_names = All-from_get_or (λ e. e.name ≤ limit) c.entries empty_entry (λ i h. name_at i)

  names_at_lem : (i r : ℕ) → get_or (names_at m c.entries i) r 0 ≤ limit
  names_at_lem i r = names_range limit m (take i c.entries) committed_range (All-take (λ e. e.name ≤ limit) i c.entries all_names) r

  shown_at : (i : ℕ) → i < length c.entries → ShownIn c.physical (get_or c.entries i empty_entry)
  shown_at i h = accounting.contents.shown i empty_entry h

  operand_range : (o : Operand) (n : ℕ) → o ≡ operand_for (name_in o) (get_or c.physical (name_in o) 0) → name_in o ≡ n → n ≤ limit → operand_in_range limit c.setup.registers o ≡ true
  operand_range o n e q h =
      ap (operand_in_range limit c.setup.registers) e ∙ operand_in_range_lem limit c.setup.registers (name_in o) (get_or c.physical (name_in o) 0) (omega arith) (physical_range (name_in o))

  pub accounted_range : setup_in_range c.setup ≡ true → c.halt.cause ≤ 7 → ((i : ℕ) → i < length c.entries → EntryInRange c.setup (get_or c.entries i empty_entry)) → InRange c
  accounted_range s h entries =
      record {
        setup = s;
        register_head = spells_range c.free_registers.link c.free_registers.head c.setup.registers accounting.free_registers accounting.register_pool.spells register_free_range;
        register_link = link_range c.free_registers.link c.free_registers.head c.setup.registers accounting.free_registers accounting.register_pool.spells register_free_range
            accounting.register_pool.zero_link accounting.register_pool.outside;
        name_head = spells_range c.free_names.link c.free_names.head limit accounting.free_names accounting.name_pool.spells name_free_range;
        name_link = link_range c.free_names.link c.free_names.head limit accounting.free_names accounting.name_pool.spells name_free_range accounting.name_pool.zero_link accounting.name_pool.outside;
        physical = physical_range;
        names = λ r. subst (λ (l : List ℕ). get_or l r 0 ≤ limit) (sym accounting.shows) (names_range limit m c.entries committed_range all_names r);
        registers = λ r. subst (λ (x : ℕ). x ≤ c.setup.registers) (sym (accounting.general.gives r)) (physical_range (get_or c.names r 0));
        halt = h;
        entries = entries;
      }

-- what the in-order step says of causes and stores
abbrev outcome_in : State → Instruction → Outcome
outcome_in s i = executed (length s.memory) i s.address (first_of s i) (second_of s i)

settled_cause : (s : State) (i : Instruction) (memory : List ℕ) (o : Outcome) → o.stop.cause ≤ 7 → (settled s i memory o).stop.cause ≤ 7
settled_cause s i memory o h =
    by_choice (λ (x : Step). x.stop.cause ≤ 7) (eqb o.stop.cause 0) (reached (write_register s.registers (destination i) o.result) o.next memory (stop 0)) (stopped_at s o.stop) (λ e. omega arith) (λ e. h)

with_cause : (i : Instruction) (s : State) → (step_with i s).stop.cause ≤ 7
unfolding step_with
with_cause i s = settled_cause s i (stored i (first_of s i) (second_of s i) s.memory) (outcome_in s i) (executed_proper (length s.memory) i s.address (first_of s i) (second_of s i)).cause

four : (n : ℕ) → eqb n 1 || eqb n 4 ≡ true → (n ≤ 7) × (n ≢ 0)
four n e = elim (eq? n 1) [
  | equal q t ↦ (omega arith, λ z. omega arith)
  | apart q t ↦ let u : eqb n 4 ≡ true = rw t at e in let v = eqb-true n 4 u in (omega arith, λ z. omega arith)
]

pub step_cause : (program : List ℕ) (s : State) → (step_of program s).stop.cause ≤ 7
unfolding step_of
step_cause program s =
    let f : FetchNumbers = fetch_at program s.address in
    by_choice (λ (x : Step). x.stop.cause ≤ 7) f.found (step_with f.fields s) (stopped_at s f.stop) (λ e. with_cause f.fields s) (λ e. (four f.stop.cause (fetched_missing program s.address e).cause).0)

settled_calm : (s : State) (i : Instruction) (memory : List ℕ) (o : Outcome) → (settled s i memory o).stop.cause ≡ 0 → o.stop.cause ≡ 0
settled_calm s i memory o = at (eqb o.stop.cause 0) refl
  where
    at : (b : Bool) → eqb o.stop.cause 0 ≡ b
        → let x : Step = choose b (reached (write_register s.registers (destination i) o.result) o.next memory (stop 0)) (stopped_at s o.stop) in x.stop.cause ≡ 0 → o.stop.cause ≡ 0
    at true e = λ h. eqb-true o.stop.cause 0 e
    at false e = λ h. h

with_ends : (i : Instruction) (s : State) → (step_with i s).stop.cause ≡ 0 → store_ends_within (length s.memory) i (first_of s i) ≡ true
unfolding step_with
with_ends i s e =
    executed_ends (length s.memory) i s.address (first_of s i) (second_of s i) (settled_calm s i (stored i (first_of s i) (second_of s i) s.memory) (outcome_in s i) e)

-- without an instruction nothing is executed
missing_cause : (program : List ℕ) (a : ℕ) → (fetch_at program a).found ≡ false → (entering_stop (fetch_at program a)).cause ≡ 0 → ⊥
missing_cause program a e z =
    (four (fetch_at program a).stop.cause (fetched_missing program a e).cause).1 (sym (ap (λ (b : Bool). (choose b (stop_at_once (fetch_at program a).fields) (fetch_at program a).stop).cause) e) ∙ z)

missing_step : (program : List ℕ) (s : State) → (fetch_at program s.address).found ≡ false → (step_of program s).stop.cause ≡ (fetch_at program s.address).stop.cause
unfolding step_of
missing_step program s e =
    let f : FetchNumbers = fetch_at program s.address in
    ap (λ (b : Bool). let x : Step = choose b (step_with f.fields s) (stopped_at s f.stop) in x.stop.cause) e

-- what an entry's state says
pub record Stated (p : List ℕ) (s : State) (e : Entry) (bytes : ℕ) : Type 0 where
  pub cause : e.stop.cause ≤ 7
  pub caused : e.state ≢ Completed → e.stop.cause ≡ 0
  pub ends : e.state ≡ Completed → e.stop.cause ≡ 0 → store_ends_within bytes e.instruction e.first ≡ true
  pub none : (fetch_at p s.address).found ≡ false → (e.state ≡ Completed) × (e.stop.cause ≡ (fetch_at p s.address).stop.cause)

module _ (p : List ℕ) (g : Ghost) (s : State) (e : Entry) (bytes : ℕ) (sized : length s.memory ≡ bytes) (executes : Executes p g s (execution_of e)) where
  pub stated : Status p s (execution_of e) → Stated p s e bytes
  stated (waits now clean x) =
      record { cause = omega arith; caused = λ z. clean; ends = λ z. absurd (different z); none = λ f. absurd (missing_cause p s.address f x) }
    where
      different : e.state ≡ Completed → ⊥
      different z = impossible (ap is_waiting (sym z ∙ now))
  stated (reads now a b clean x) =
      record { cause = omega arith; caused = λ z. clean; ends = λ z. absurd (different z); none = λ f. absurd (missing_cause p s.address f x) }
    where
      different : e.state ≡ Completed → ⊥
      different z = impossible (ap is_issued (sym z ∙ now))
  stated (done now a b clean x goes next) =
      let i : Instruction = e.instruction in
      let step : (step_with i s).stop.cause ≡ 0 = ap (λ (y : Instruction). (step_with y s).stop.cause) executes.instruction ∙ ap (λ (y : Step). y.stop.cause) (sym (step_executable p s x)) ∙ goes in
      record {
        cause = omega arith;
        caused = λ z. clean;
        ends = λ z w. ap (λ (n : ℕ). store_ends_within n i e.first) (sym sized) ∙ ap (store_ends_within (length s.memory) i) a ∙ with_ends i s step;
        none = λ f. absurd (missing_cause p s.address f x);
      }
  stated (stops now z why) =
      let cause : (step_of p s).stop.cause ≡ e.stop.cause = ap (λ (y : Stop). y.cause) why in
      let most = step_cause p s in
      record {
        cause = omega arith;
        caused = λ y. absurd (y now);
        ends = λ y w. absurd (z w);
        none = λ f. (now, sym cause ∙ missing_step p s f);
      }

  readable_at : Stated p s e bytes → (b : Bool) → (fetch_at p s.address).found ≡ b → Readable e
  readable_at t true f = encodable (ap accepted executes.instruction ∙ accepted_holds (fetch_at p s.address).fields (fetched_accepted p s.address f))
  readable_at t false f =
      let m = fetched_missing p s.address f in
      missing (ap is_none (executes.instruction ∙ m.fields)) (t.none f).0 (ap (λ (n : ℕ). eqb n 1 || eqb n 4) (t.none f).1 ∙ m.cause)

module _ (p : List ℕ) (s : State) (c : View) (invariant : Invariant p s c) (sized : length s.memory ≡ c.setup.bytes) where
  abbrev g : Ghost
  g = invariant.ghost

  abbrev m : List ℕ
  m = invariant.committed

  entry_at : (i : ℕ) → i < length c.entries → EntryInRange c.setup (get_or c.entries i empty_entry)
  entry_at i h =
      let e : Entry = get_or c.entries i empty_entry in
      let a : Accounting g m c = invariant.accounting in
      let t : State = state_at p s c.entries i in
      let sized_here : length t.memory ≡ c.setup.bytes = last_length p s (take i c.entries) ∙ sized in
      let executes : Executes p g t (execution_of e) = executes_at p g s c.entries i h invariant.executed in
      let renamed : Renamed g (names_at m c.entries i) (renaming_of e) = accounted_renamed g m c a i h in
      let shown : ShownIn c.physical e = shown_at g m c a i h in
      let says : Stated p t e c.setup.bytes = stated p g t e c.setup.bytes sized_here executes executes.status in
      record {
        readable = readable_at p g t e c.setup.bytes sized_here executes says (fetch_at p t.address).found refl;
        destination = let d = renamed.small in omega arith;
        name = name_at g m c a i;
        previous = subst (λ (x : ℕ). x ≤ 31 + c.setup.window) (sym renamed.previous) (names_at_lem g m c a i e.destination);
        left = operand_range g m c a e.left (get_or (names_at m c.entries i) (first_source e.instruction) 0) shown.left renamed.left (names_at_lem g m c a i (first_source e.instruction));
        right = operand_range g m c a e.right (get_or (names_at m c.entries i) (second_source e.instruction) 0) shown.right renamed.right (names_at_lem g m c a i (second_source e.instruction));
        cause = says.cause;
        caused = says.caused;
        ends = says.ends;
      }

  pub alive_range : setup_in_range c.setup ≡ true → c.halt.cause ≤ 7 → InRange c
  alive_range r h = accounted_range g m c invariant.accounting r h entry_at

pub emptied_range : (s : State) (c : View) → Emptied s c → setup_in_range c.setup ≡ true → c.halt.cause ≤ 7 → InRange c
emptied_range s c a r h =
    accounted_range a.ghost a.committed c a.accounting r h (λ i l. absurd (let n : length c.entries ≡ 0 = ap length a.empty in omega arith))
