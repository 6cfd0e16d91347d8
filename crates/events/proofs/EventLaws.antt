-- One event, by its call and what it counts.
use Prim.Native.Nat.{ℕ}
use mathlib.Core.Path.{◌≡◌, sym, ap, ◌∙◌}
use mathlib.Core.List.{List}
use borrow.Author.Tests.{eq-eqb, ne_eqb}
use Rattle.formats.specs.declared.Record.{Record}
use Rattle.renaming.specs.declared.Core.{Core}
use Rattle.renaming.specs.Call.{lent_refusal}
use Rattle.window.specs.Calls.{made_by, make, make_within}
use Rattle.window.proofs.MakeLaws.{make_lent}
use Rattle.window.specs.declared.Call.{Call}
use Rattle.events.specs.declared.Counts.{Counts}
use Rattle.events.specs.Counts.{call_by, accepting, refusing, played}
use Rattle.events.specs.Numbers.{played_by}

-- what an event leaves, by what its call left
module _ (program memory : List ℕ) (m : Core) (r : Record) (counts : Counts) (call : Call) (next : Core) (written : List ℕ) (number : ℕ)
    (lent : lent_refusal m program memory ≡ 0) (same : call ≡ call_by r)
    (made : made_by next written number ≡ make_within program call (record { core = m; memory = memory })) where
  left : make program (call_by r) (record { core = m; memory = memory }) ≡ made_by next written number
  left = ap (λ (x : Call). make program x (record { core = m; memory = memory })) (sym same) ∙ make_lent program call (record { core = m; memory = memory }) lent ∙ sym made

  pub event_refused : (number ≡ 0 → ⊥) → played_by next written (refusing counts) ≡ played program r (played_by m memory counts)
  unfolding played
  event_refused h = rw (left, ne_eqb number 0 h)

  pub event_accepted : number ≡ 0 → played_by next written (accepting call m next counts) ≡ played program r (played_by m memory counts)
  unfolding played
  event_accepted z = rw (left, eq-eqb number 0 z, same)
