-- What decode enters.
use Prim.Native.Nat.{ℕ, ◌<◌}
use mathlib.Core.Path.{◌≡◌, refl, sym}
use mathlib.Core.Logic.{◌≢◌}
use mathlib.Core.List.{List}
use borrow.Author.Tests.{eq-eqb, ne_eqb}
use lib.Dec.{eqb}
use lib.ListN.{length, get_or}
use Rattle.isa.specs.Reads.{choose}
use Rattle.isa.specs.declared.Instruction.{Instruction}
use Rattle.execution.specs.Execute.{stop}
use Rattle.reference.specs.Fetch.{FetchNumbers, fetch_at}
use Rattle.execution.specs.Roles.{predicted_next}
use Rattle.reference.specs.Step.{State, first_source, second_source, destination}
use Rattle.tables.specs.declared.Operand.TheVariants.{Zero}
use Rattle.tables.specs.declared.State.TheVariants.{Waits}
use Rattle.tables.specs.declared.Entry.{Entry}
use Rattle.decoding.specs.Decode.{entering_stop, ended_entry}
use Rattle.agreement.proofs.View.{View, operand_for, append}
use Rattle.agreement.proofs.Invariant.{Invariant}
use Rattle.agreement.proofs.Tests.{equal, apart, eq?}
use Rattle.agreement.proofs.Steps.{Unnamed, entering_unnamed}
use Rattle.agreement.proofs.Entering.{Enters, zero_named}
use Rattle.agreement.proofs.Append.{append_keeps}

-- no instruction, ECALL and EBREAK: an entry without operands and destination
operand_zero : (register : ℕ) → operand_for 0 register ≡ Zero
unfolding operand_for
operand_zero register = refl

pub ended_enters : (p : List ℕ) (s : State) (c : View) → Invariant p s c → (entering_stop (fetch_at p c.fetch)).cause ≢ 0
    → Enters p c (ended_entry c.fetch (fetch_at p c.fetch).fields (entering_stop (fetch_at p c.fetch)))
ended_enters p s c invariant z =
    let u : Unnamed (fetch_at p c.fetch).fields = entering_unnamed p c.fetch z in
    let n : get_or c.names 0 0 ≡ 0 = zero_named invariant.ghost invariant.committed c invariant.accounting in
    record {
      instruction = refl;
      address = refl;
      left = rw u.first (rw n (sym (operand_zero _)));
      right = rw u.second (rw n (sym (operand_zero _)));
      written = sym u.destination;
      unnamed = λ q. refl;
      named = λ q. absurd (q refl);
      previous = sym n;
      waits = λ q. absurd (z q);
      stops = λ q. (refl, refl);
    }

-- an instruction that is executed: its operands as the general map shows them
abbrev pub started_in : View → Instruction → ℕ → Entry
started_in c i guess =
    record {
      instruction = i;
      address = c.fetch;
      predicted = predicted_next i c.fetch guess;
      first = 0;
      second = 0;
      result = 0;
      left = operand_for (get_or c.names (first_source i) 0) (get_or c.registers (first_source i) 0);
      right = operand_for (get_or c.names (second_source i) 0) (get_or c.registers (second_source i) 0);
      destination = destination i;
      name = choose (eqb (destination i) 0) 0 c.free_names.head;
      previous = get_or c.names (destination i) 0;
      state = Waits;
      stop = stop 0;
    }

pub started_enters : (p : List ℕ) (c : View) (guess : ℕ) → (entering_stop (fetch_at p c.fetch)).cause ≡ 0 → Enters p c (started_in c (fetch_at p c.fetch).fields guess)
started_enters p c guess z =
    record {
      instruction = refl;
      address = refl;
      left = refl;
      right = refl;
      written = refl;
      unnamed = λ q. rw (eq-eqb _ 0 q);
      named = λ q. rw (ne_eqb _ 0 q);
      previous = refl;
      waits = λ q. (refl, refl);
      stops = λ q. absurd (q z);
    }

abbrev pub entry_in : View → FetchNumbers → ℕ → Entry
entry_in c f guess = choose (eqb (entering_stop f).cause 0) (started_in c f.fields guess) (ended_entry c.fetch f.fields (entering_stop f))

pub entry_enters : (p : List ℕ) (s : State) (c : View) (guess : ℕ) → Invariant p s c → Enters p c (entry_in c (fetch_at p c.fetch) guess)
entry_enters p s c guess invariant = elim (eq? (entering_stop (fetch_at p c.fetch)).cause 0) [
  | equal e t ↦ rw t (started_enters p c guess e)
  | apart e t ↦ rw t (ended_enters p s c invariant e)
]

pub decode_keeps : (p : List ℕ) (s : State) (c : View) (guess : ℕ) → Invariant p s c → length c.entries < c.setup.window
    → let x : Entry = entry_in c (fetch_at p c.fetch) guess in Invariant p s (append x.destination x c)
decode_keeps p s c guess invariant space = append_keeps p s c invariant (entry_in c (fetch_at p c.fetch) guess) (entry_enters p s c guess invariant) space
