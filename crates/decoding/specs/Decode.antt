-- Decode.
use Rattle.std.specs.Prelude.{ℕ, suc, false, List, [], ◌∷◌, leb, eqb}
use Rattle.isa.specs.Reads.{choose}
use Rattle.isa.specs.declared.Instruction.{Instruction}
use Rattle.execution.specs.Execute.{stop, onward}
use Rattle.execution.specs.declared.Stop.{Stop}
use Rattle.reference.specs.Fetch.{FetchNumbers, fetch_at}
use Rattle.execution.specs.Roles.{stop_at_once, predicted_next}
use Rattle.reference.specs.Step.{when, first, first_source, second_source, destination}
use Rattle.tables.specs.FreeList.{taken_head, taken_link}
use Rattle.tables.specs.GeneralMap.{shown, operand_in}
use Rattle.tables.specs.declared.Operand.{Operand}
use Rattle.tables.specs.declared.Operand.TheVariants.{Zero}
use Rattle.tables.specs.declared.State.TheVariants.{Waits, Completed}
use Rattle.tables.specs.declared.Entry.{Entry}
use Rattle.renaming.specs.Setters.{with_count, with_free_names, with_fetch}
use Rattle.renaming.specs.Changes.{place, map_to}
use Rattle.renaming.specs.Call.{halted, lent_refusal, in_turn, answered}
use Rattle.renaming.specs.declared.Core.{Core}
use Rattle.renaming.specs.Answer.{Answer}

-- 10 halted; 11 window full
unfoldable pub decode_refusal : Core → ℕ
decode_refusal m = first (when (halted m) 10 ∷ when (leb m.setup.window m.count) 11 ∷ [])

-- "where that reading gives no instruction, or gives ECALL or EBREAK, the entry enters completed with cause 4, 1, 2 or 3": the stop, without a cause for all others
abbrev pub entering_stop : FetchNumbers → Stop
entering_stop f = choose f.found (stop_at_once f.fields) f.stop

-- "Where decode found no instruction, the entry keeps operation 0 with zero fields."
abbrev pub ended_entry : ℕ → Instruction → Stop → Entry
ended_entry address i why =
    record {
      instruction = i;
      address = address;
      predicted = onward address;
      first = 0;
      second = 0;
      result = 0;
      left = Zero;
      right = Zero;
      destination = 0;
      name = 0;
      previous = 0;
      state = Completed;
      stop = why;
    }

-- "operands come from the general map (ready if valid)"
abbrev pub operand_on : Core → ℕ → Operand
operand_on m r = operand_in m.map r

-- "then the destination takes a name, the old name is kept, …; the entry waits"
abbrev pub name_for : Core → ℕ → ℕ
name_for m d = choose (eqb d 0) 0 m.free_names.head

abbrev pub waiting_for : Instruction → ℕ → ℕ → Operand → Operand → ℕ → ℕ → Entry
waiting_for i address predicted left right name previous =
    record {
      instruction = i;
      address = address;
      predicted = predicted;
      first = 0;
      second = 0;
      result = 0;
      left = left;
      right = right;
      destination = destination i;
      name = name;
      previous = previous;
      state = Waits;
      stop = stop 0;
    }

abbrev pub started_entry : Core → Instruction → ℕ → Entry
started_entry m i guess =
    waiting_for i m.fetch (predicted_next i m.fetch guess) (operand_on m (first_source i)) (operand_on m (second_source i)) (name_for m (destination i))
    (shown m.map (destination i)).name

-- the entry that decode enters
abbrev pub entry_for : Core → FetchNumbers → ℕ → Entry
entry_for m f guess = choose (eqb (entering_stop f).cause 0) (started_entry m f.fields guess) (ended_entry m.fetch f.fields (entering_stop f))

-- the general map shows a name under its destination, "valid is cleared"; the pool of names is without its head where there is a destination
abbrev pub renamed : ℕ → ℕ → Core → Core
renamed d name m =
    with_free_names
    (record { head = choose (eqb d 0) m.free_names.head (taken_head m.free_names.link m.free_names.head); link = taken_link m.free_names.link name })
    (map_to d name 0 false m)

-- an entry enters; "Fetch goes there"
abbrev pub appended : Entry → Core → Core
appended e m = with_fetch e.predicted (with_count (suc m.count) (place m.count e m))

unfoldable pub enter : Entry → Core → Core
enter e m = appended e (renamed e.destination e.name m)

abbrev pub decoded : List ℕ → ℕ → Core → Core
decoded program guess m = enter (entry_for m (fetch_at program m.fetch) guess) m

-- decode, where 5 and 6 do not apply
unfoldable pub decode_within : List ℕ → ℕ → Core → Answer
decode_within program guess m = answered m (decode_refusal m) (decoded program guess m)

unfoldable pub decode_of : List ℕ → List ℕ → ℕ → Core → Answer
decode_of program memory guess m = answered m (in_turn (lent_refusal m program memory) (decode_refusal m)) (decoded program guess m)
