-- What the proof asks of the instruction set; nothing else of it is opened.
use Prim.Native.Nat.{ℕ, zero, suc, ◌≤◌, ◌<◌}
use mathlib.Core.Path.{◌≡◌, refl, ap, sym, ◌∙◌}
use mathlib.Core.Logic.{◌≢◌}
use mathlib.Core.Bool.{Bool, true, false}
use mathlib.Core.List.{List}
use native.Mathlib.Omega.{arith}
use borrow.Author.Tests.{eq-eqb, ne_eqb}
use lib.Dec.{T, eqb}
use lib.ListN.{length, get_or, replicate}
use lib.Seq.{get_or-set_same}
use Rattle.laws.proofs.Table.{at}
use Rattle.isa.specs.Listing.{last, format_of}
use Rattle.isa.specs.declared.Format.{Format}
use Rattle.isa.specs.declared.Format.TheVariants.{R, I, S, B, U, J, Shift, Whole}
use Rattle.isa.specs.Reads.{choose, none, legal, fields_of, operation_of, read_as, read_of}
use Rattle.isa.specs.declared.Instruction.{Instruction}
use Rattle.isa.proofs.ReadLaws.{legal_word, operation_kept}
use Rattle.execution.specs.Actions.{action_of}
use Rattle.execution.specs.declared.Action.{Action}
use Rattle.execution.specs.declared.Action.TheVariants.{Computes, LoadsSigned, LoadsUnsigned, Stores, Stops}
use Rattle.execution.specs.Memory.{accessible, second_by, second_value, stored_by, stored}
use Rattle.execution.specs.Execute.{stop, executed_by, executed, Outcome}
use Rattle.execution.specs.Roles.{loads_by, loads, stores_by, stores, stop_by, stop_at_once}
use Rattle.reference.specs.Fetch.{FetchNumbers, no_instruction, of_reading, outside, fetch_at}
use Rattle.reference.specs.Step.{State, Step, used, first_source, second_source, destination, read_register, write_register, reached, stopped_at, settled, first_of, second_of, step_with, step_of}
use Rattle.execution.specs.declared.Stop.{Stop}
use Rattle.reference.proofs.StepLaws.{used_by, choose_either, step_registers}
use Rattle.reference.proofs.Laws.{statement}
use Rattle.decoding.specs.Decode.{entering_stop}
use Rattle.agreement.proofs.Tests.{equal, apart, eq?, impossible}

-- a fetch: an instruction and no cause, or a cause and no instruction
pub data Fetched (f : FetchNumbers) : Type 0 where
  found : f.found ≡ true → f.stop.cause ≡ 0 → Fetched f
  nothing : f.found ≡ false → f.stop.cause ≢ 0 → f.fields ≡ none → Fetched f

as_fetched : (operation w : ℕ) → Fetched (of_reading (read_as operation w))
as_fetched zero w = nothing refl (λ e. absurd (omega arith)) refl
as_fetched (suc n) w = found refl refl

read_fetched : (w : ℕ) → Fetched (of_reading (read_of w))
unfolding read_of
read_fetched w = as_fetched (operation_of w) w

choose_fetched : (b : Bool) (w : ℕ) → Fetched (choose b (of_reading (read_of w)) (no_instruction outside))
choose_fetched true w = read_fetched w
choose_fetched false w = nothing refl (λ e. absurd (omega arith)) refl

pub fetched : (program : List ℕ) (address : ℕ) → Fetched (fetch_at program address)
unfolding fetch_at
fetched program address = choose_fetched (accessible (length program) address 4) _

-- ECALL and EBREAK, and no instruction, name no register
pub record Unnamed (i : Instruction) : Type 0 where
  pub first : first_source i ≡ 0
  pub second : second_source i ≡ 0
  pub destination : destination i ≡ 0

-- fields that are 0 name no register, whatever the operation
zeros_unnamed : (i : Instruction) → i.rs1 ≡ 0 → i.rs2 ≡ 0 → i.rd ≡ 0 → Unnamed i
zeros_unnamed i first second destination =
    let none : (register : ℕ) → register ≡ 0 → used i register ≡ 0 = λ register z. used_by (λ (n : ℕ). n ≡ 0) i register refl z in
    record { first = none i.rs1 first; second = none i.rs2 second; destination = none i.rd destination }

none_unnamed : Unnamed none
none_unnamed = zeros_unnamed none refl refl refl

-- what is fetched names registers
pub record Named (i : Instruction) : Type 0 where
  pub first : first_source i < 32
  pub second : second_source i < 32
  pub destination : destination i < 32

none_named : Named none
none_named =
    let z = none_unnamed in
    record { first = omega (arith, z.first); second = omega (arith, z.second); destination = omega (arith, z.destination) }

pub fetched_named : (program : List ℕ) (address : ℕ) → Named (fetch_at program address).fields
fetched_named program address = elim (fetched program address) [
  | found f c ↦ let r = statement.registers program address f in record { first = r.0; second = r.1; destination = r.2 }
  | nothing f c e ↦ rw e none_named
]

whole_unnamed : (operation w : ℕ) → Unnamed (fields_of Whole operation w)
unfolding fields_of
whole_unnamed operation w = zeros_unnamed (fields_of Whole operation w) refl refl refl

abbrev is_whole : Format → Bool
is_whole R = false
is_whole I = false
is_whole S = false
is_whole B = false
is_whole U = false
is_whole J = false
is_whole Shift = false
is_whole Whole = true

abbrev whole_where_stops : ℕ → ℕ → Bool
whole_where_stops operation n = choose (eqb (stop_by (action_of operation)).cause 0) true (is_whole (format_of operation))

whole_at : (operation : ℕ) → operation ≤ last → T (whole_where_stops operation (get_or (replicate (suc last) 0) operation 0))
unfolding stop_by
whole_at operation h = at whole_where_stops (replicate (suc last) 0) tt operation (omega arith)

is_whole_lem : (F : Format) → T (is_whole F) → F ≡ Whole
is_whole_lem R t = absurd t
is_whole_lem I t = absurd t
is_whole_lem S t = absurd t
is_whole_lem B t = absurd t
is_whole_lem U t = absurd t
is_whole_lem J t = absurd t
is_whole_lem Shift t = absurd t
is_whole_lem Whole t = refl

format_whole : (operation : ℕ) → operation ≤ last → (stop_by (action_of operation)).cause ≢ 0 → format_of operation ≡ Whole
format_whole operation h z = is_whole_lem (format_of operation) (rw (ne_eqb _ 0 z) at (whole_at operation h))

read_unnamed : (w : ℕ) (i : Instruction) → read_of w ≡ legal i → (stop_at_once i).cause ≢ 0 → Unnamed i
read_unnamed w i e z =
    let l = legal_word w i e in
    let o : i.operation ≡ l.operation = ap (λ (x : Instruction). x.operation) l.is ∙ operation_kept (format_of l.operation) l.operation w in
    let f : format_of l.operation ≡ Whole = format_whole l.operation l.last (λ q. z (ap (λ (x : ℕ). (stop_by (action_of x)).cause) o ∙ q)) in
    rw (l.is, f) (whole_unnamed l.operation w)

choose_unnamed : (b : Bool) (w : ℕ) → (entering_stop (choose b (of_reading (read_of w)) (no_instruction outside))).cause ≢ 0 → Unnamed (choose b (of_reading (read_of w)) (no_instruction outside)).fields
choose_unnamed false w z = none_unnamed
choose_unnamed true w z = elim (read_fetched w) [
  | found f c ↦ read_unnamed w (read_of w).fields (ap (λ (n : ℕ). record { cause = n; fields = (read_of w).fields }) c) (rw f at z)
  | nothing f c e ↦ rw e none_unnamed
]

pub entering_unnamed : (program : List ℕ) (address : ℕ) → (entering_stop (fetch_at program address)).cause ≢ 0 → Unnamed (fetch_at program address).fields
unfolding fetch_at
entering_unnamed program address z = choose_unnamed (accessible (length program) address 4) _ z

-- by the action of an instruction
stops_at_once : (a : Action) (len address c first second : ℕ) → (stop_by a).cause ≢ 0 → (executed_by a len address c first second).stop ≡ stop_by a
unfolding stop_by executed_by
stops_at_once (Computes computation) len address c first second z = absurd (z refl)
stops_at_once (LoadsSigned size) len address c first second z = absurd (z refl)
stops_at_once (LoadsUnsigned size) len address c first second z = absurd (z refl)
stops_at_once (Stores size) len address c first second z = absurd (z refl)
stops_at_once (Stops cause) len address c first second z = refl

stored_none : (a : Action) (address value : ℕ) (memory : List ℕ) → stores_by a ≡ false → stored_by a address value memory ≡ memory
unfolding stores_by stored_by
stored_none (Computes computation) address value memory e = refl
stored_none (LoadsSigned size) address value memory e = refl
stored_none (LoadsUnsigned size) address value memory e = refl
stored_none (Stores size) address value memory e = impossible (cc)
stored_none (Stops cause) address value memory e = refl

second_plain : (a : Action) (len address second : ℕ) (byte : ℕ → ℕ) → loads_by a ≡ false → second_by a len address second byte ≡ second
unfolding loads_by second_by
second_plain (Computes computation) len address second byte e = refl
second_plain (LoadsSigned size) len address second byte e = impossible (cc)
second_plain (LoadsUnsigned size) len address second byte e = impossible (cc)
second_plain (Stores size) len address second byte e = refl
second_plain (Stops cause) len address second byte e = refl

-- a value read depends on the data only in a load
pub second_same : (i : Instruction) (first second : ℕ) (memory bytes : List ℕ) → (loads i ≡ true → memory ≡ bytes) → second_value i first second memory ≡ second_value i first second bytes
second_same i first second memory bytes h = cases (loads i) refl
  where
    cases : (b : Bool) → loads i ≡ b → second_value i first second memory ≡ second_value i first second bytes
    cases true e = ap (second_value i first second) (h e)
    cases false e = second_plain (action_of i.operation) _ _ second _ e ∙ sym (second_plain (action_of i.operation) _ _ second _ e)

-- the step at an address, by what was fetched there
pub step_executable : (program : List ℕ) (s : State) → (entering_stop (fetch_at program s.address)).cause ≡ 0 → step_of program s ≡ step_with (fetch_at program s.address).fields s
unfolding step_of
step_executable program s e = elim (fetched program s.address) [ found f c ↦ rw f | nothing f c n ↦ absurd (c (rw f at e)) ]

with_ended : (i : Instruction) (s : State) → (stop_at_once i).cause ≢ 0 → (step_with i s).stop ≡ stop_at_once i
unfolding step_with
with_ended i s z =
    let o = executed (length s.memory) i s.address (first_of s i) (second_of s i) in
    let e : o.stop ≡ stop_at_once i = stops_at_once (action_of i.operation) _ _ _ _ _ z in
    rw (ne_eqb o.stop.cause 0 (λ q. z (sym (ap (λ (x : Stop). x.cause) e) ∙ q))) e

-- where the entry enters completed, the step stops as it does
pub step_ended : (program : List ℕ) (s : State) → (entering_stop (fetch_at program s.address)).cause ≢ 0 → (step_of program s).stop ≡ entering_stop (fetch_at program s.address)
unfolding step_of
step_ended program s z = elim (fetched program s.address) [
  | found f c ↦ rw f (with_ended (fetch_at program s.address).fields s (rw f at z))
  | nothing f c n ↦ rw f
]

-- a step that was executed, from its outcome
module _ (program : List ℕ) (s : State) (i : Instruction) (executable : (entering_stop (fetch_at program s.address)).cause ≡ 0) (is : i ≡ (fetch_at program s.address).fields) where
  abbrev outcome : Outcome
  outcome = executed (length s.memory) i s.address (first_of s i) (second_of s i)

  step_with_lem : step_of program s ≡ step_with i s
  step_with_lem = step_executable program s executable ∙ ap (λ (x : Instruction). step_with x s) (sym is)

  pub step_goes : outcome.stop.cause ≡ 0
      → step_of program s ≡ reached (write_register s.registers (destination i) outcome.result) outcome.next (stored i (first_of s i) (second_of s i) s.memory) (stop 0)
  unfolding step_with
  step_goes e = step_with_lem ∙ rw (eq-eqb outcome.stop.cause 0 e)

  pub step_stops : outcome.stop.cause ≢ 0 → (step_of program s).stop ≡ outcome.stop
  unfolding step_with
  step_stops z = ap (λ (x : Step). x.stop) step_with_lem ∙ rw (ne_eqb outcome.stop.cause 0 z)

  pub step_stored : (step_of program s).stop.cause ≡ 0 → (step_of program s).state.memory ≡ stored i (first_of s i) (second_of s i) s.memory
  step_stored e = elim (eq? outcome.stop.cause 0) [
    | equal q t ↦ ap (λ (x : Step). x.state.memory) (step_goes q)
    | apart q t ↦ absurd (q (sym (ap (λ (x : Stop). x.cause) (step_stops q)) ∙ e))
  ]

-- registers
pub read_zero : (registers : List ℕ) → read_register registers 0 ≡ 0
unfolding read_register
read_zero registers = refl

pub read_some : (registers : List ℕ) (r : ℕ) → r ≢ 0 → read_register registers r ≡ get_or registers r 0
unfolding read_register
read_some registers r z = rw (ne_eqb r 0 z)

pub write_read : (registers : List ℕ) (r value : ℕ) → r ≢ 0 → r < length registers → read_register (write_register registers r value) r ≡ value
unfolding write_register
write_read registers r value z h = read_some _ r z ∙ rw (ne_eqb r 0 z) (get_or-set_same registers r value 0 h)

-- a step changes the destination's register alone
pub step_other : (program : List ℕ) (s : State) (r : ℕ) → r ≢ destination (fetch_at program s.address).fields → read_register (step_of program s).state.registers r ≡ read_register s.registers r
unfolding step_of read_register
step_other program s r h =
    ap (choose (eqb r 0) 0)
    (choose_either (λ (x : Step). get_or x.state.registers r 0) (fetch_at program s.address).found (step_with (fetch_at program s.address).fields s) (stopped_at s (fetch_at program s.address).stop) (get_or s.registers r 0)
    (statement.only_destination (fetch_at program s.address).fields s r h) refl)

pub step_size : (program : List ℕ) (s : State) → length (step_of program s).state.registers ≡ length s.registers
step_size program s = step_registers program s

-- data: their length stays, and only a store writes them
pub step_length : (program : List ℕ) (s : State) → length (step_of program s).state.memory ≡ length s.memory
step_length program s = statement.step_length program s

settled_memory : (s : State) (i : Instruction) (memory : List ℕ) (o : Outcome) → memory ≡ s.memory → (settled s i memory o).state.memory ≡ s.memory
settled_memory s i memory o e =
    choose_either (λ (x : Step). x.state.memory) (eqb o.stop.cause 0) (reached (write_register s.registers (destination i) o.result) o.next memory (stop 0)) (stopped_at s o.stop) s.memory e refl

with_unstored : (i : Instruction) (s : State) → stores i ≡ false → (step_with i s).state.memory ≡ s.memory
unfolding step_with
with_unstored i s e =
    settled_memory s i (stored i (first_of s i) (second_of s i) s.memory) (executed (length s.memory) i s.address (first_of s i) (second_of s i)) (stored_none (action_of i.operation) _ _ s.memory e)

pub step_unstored : (program : List ℕ) (s : State) → stores (fetch_at program s.address).fields ≡ false → (step_of program s).state.memory ≡ s.memory
unfolding step_of
step_unstored program s e =
    choose_either (λ (x : Step). x.state.memory) (fetch_at program s.address).found (step_with (fetch_at program s.address).fields s) (stopped_at s (fetch_at program s.address).stop) s.memory
    (with_unstored (fetch_at program s.address).fields s e) refl
