-- "5 a number in it out of range": no list of calls on a fresh machine meets it.
use Rattle.std.specs.Prelude.{ℕ, ◌≡◌, true, List}
use Rattle.ranges.specs.declared.Setup.{Setup}
use Rattle.renaming.specs.Range.{machine_in_range}
use Rattle.window.specs.Calls.{World}
use Rattle.agreement.specs.Lists.{Event, make_all, Accepted, started}

abbrev pub Unrefused : Type 0
Unrefused =
    (s : Setup) (program memory : List ℕ) → Accepted s program memory → (events : List Event)
    → let start : World = started s memory in
    machine_in_range (make_all program events start).core ≡ true
