-- Set-up.
use Rattle.std.specs.Prelude.{ℕ, ◌+◌, not, ◌&&◌, List, [], ◌∷◌, ◌++◌, map, leb, ltb, eqb, replicate, Result, Ok, Err}
use Rattle.isa.specs.Reads.{choose}
use Rattle.refusals.specs.Numbers.{number}
use Rattle.refusals.specs.declared.Refusal.{Refusal}
use Rattle.execution.specs.Execute.{stop}
use Rattle.tables.specs.Table.{places}
use Rattle.tables.specs.Entry.{empty_entry}
use Rattle.tables.specs.declared.FreeList.{FreeList}
use Rattle.tables.specs.declared.Mapping.{Mapping}
use Rattle.ranges.specs.Sizes.{most_entries, names_of, set_up_refusal}
use Rattle.ranges.specs.declared.Setup.{Setup}
use Rattle.renaming.specs.Core.{tabulate, zero_machine}
use Rattle.renaming.specs.declared.Core.{Core}
use Rattle.renaming.specs.Answer.{Answer}

-- "logical r has name r and register r"
abbrev pub own_numbers : List ℕ
own_numbers =
    0 ∷ 1 ∷ 2 ∷ 3 ∷ 4 ∷ 5 ∷ 6 ∷ 7 ∷ 8 ∷ 9 ∷ 10 ∷ 11 ∷ 12 ∷ 13 ∷ 14 ∷ 15
    ∷ 16 ∷ 17 ∷ 18 ∷ 19 ∷ 20 ∷ 21 ∷ 22 ∷ 23 ∷ 24 ∷ 25 ∷ 26 ∷ 27 ∷ 28 ∷ 29 ∷ 30 ∷ 31 ∷ []

-- what a fresh machine's general map holds for a logical register
abbrev pub own_mapping : ℕ → Mapping
own_mapping r = record { name = r; register = r; valid = not (eqb r 0) }

-- "the rest lie in the pools in rising order": 32 to last
abbrev pub rising_next : ℕ → ℕ → ℕ
rising_next last k = choose (leb 32 k && ltb k last) (k + 1) 0

unfoldable pub rising_link : ℕ → List ℕ
rising_link last = tabulate places (rising_next last)

abbrev pub rising_pool : ℕ → FreeList
rising_pool last = record { head = 32; link = rising_link last }

-- "Fresh: logical r has name r and register r, values 0; …; fetch and next address are 0."
abbrev pub fresh_machine : Setup → Core
fresh_machine s =
    record {
      setup = s;
      count = 0;
      entries = replicate most_entries empty_entry;
      map = record { mappings = map own_mapping own_numbers };
      physical = own_numbers ++ replicate most_entries 0;
      values = replicate places 0;
      free_registers = rising_pool s.registers;
      free_names = rising_pool (names_of s.window);
      fetch = 0;
      next = 0;
      halt = stop 0;
    }

-- "A refused set-up returns a machine of zeros."
abbrev pub set_up_answer : Result Core Refusal → Answer
set_up_answer (Ok core) = record { core = core; number = 0 }
set_up_answer (Err refusal) = record { core = zero_machine; number = number refusal }

unfoldable pub set_up_of : Setup → Answer
set_up_of s = choose (eqb (set_up_refusal s) 0) (record { core = fresh_machine s; number = 0 }) (record { core = zero_machine; number = set_up_refusal s })
