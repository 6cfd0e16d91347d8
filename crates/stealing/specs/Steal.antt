-- Theft: who is robbed, and what the victim loses.
use Rattle.std.specs.Prelude.{ℕ, zero, suc, ◌+◌, ◌-◌, Bool, false, List, eqb, get_or}
use Rattle.isa.specs.Reads.{choose}
use Rattle.tables.specs.Entry.{empty_entry, waiting_entry, sleep_entry, held}
use Rattle.tables.specs.declared.Entry.{Entry}
use Rattle.renaming.specs.declared.Core.{Core}
use Rattle.renaming.specs.Changes.{entry_at, place, change_all, maps_learn}

-- "the search runs from the youngest entry and ends at the first one that holds a register, if it is younger than the caller": of the n entries after the position; the position itself where none holds one
unfoldable pub victim_among : ℕ → List ℕ → List Entry → ℕ → ℕ
victim_among zero physical entries position = position
victim_among (suc n) physical entries position =
    choose (eqb (held physical (get_or entries (position + suc n) empty_entry)) 0) (victim_among n physical entries position) (position + suc n)

abbrev pub victim_of : Core → ℕ → ℕ
victim_of m position = victim_among (m.count - suc position) m.physical m.entries position

abbrev pub no_victim : Core → ℕ → Bool
no_victim m position = eqb (victim_of m position) position

-- "The victim becomes waiting, its name loses the register, the general map's valid bit falls if it still shows that name, and operands on it are waiting again in entries of every state."
unfoldable pub robbed : ℕ → Core → Core
robbed victim m =
    let e : Entry = entry_at m victim in
    change_all (sleep_entry e.name) (maps_learn e.destination e.name 0 false (place victim (waiting_entry e) m))
