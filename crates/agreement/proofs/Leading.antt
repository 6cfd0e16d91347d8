-- What drain leaves is what the calls that it counts leave.
use Prim.Native.Nat.{ℕ, zero, suc, ◌+◌, ◌*◌}
use mathlib.Core.Path.{◌≡◌, refl, sym, ap, subst, ◌∙◌}
use mathlib.Core.Logic.{◌≢◌}
use mathlib.Core.Bool.{Bool, true}
use mathlib.Core.List.{List}
use native.Mathlib.Nat.{add-zero}
use native.Mathlib.Omega.{arith}
use borrow.Author.Tests.{eqb-true, eqb-false, eq-eqb, ne_eqb}
use lib.Dec.{eqb}
use Rattle.isa.specs.Reads.{choose}
use Rattle.tables.specs.declared.State.{State as Stage}
use Rattle.tables.specs.declared.State.TheVariants.{Waits, Issued, Completed}
use Rattle.renaming.specs.Call.{lent_refusal, in_turn, answered}
use Rattle.renaming.specs.Changes.{entry_at}
use Rattle.issuing.specs.Issue.{issue_refusal, issued, issue_of}
use Rattle.completing.specs.Complete.{complete_refusal, completed, complete_of}
use Rattle.committing.specs.Commit.{commit_refusal, committed, written_by, Commit, commit_by, commit_of}
use Rattle.window.specs.Drain.{Drain, idle, drain_ends, drain_from, drain_of}
use Rattle.renaming.specs.declared.Core.{Core}
use Rattle.renaming.specs.Answer.{Answer}
use Rattle.renaming.proofs.RefusalLaws.{lent_first}
use Rattle.window.specs.Calls.{World, Made, made_by, call_of, make, needed_by, needed_of}
use Rattle.agreement.specs.Drained.{Leads}
use Rattle.isa.proofs.ChoiceLaws.{by_choice}

-- where it is refused, machine and data are as they came
module _ (memory : List ℕ) (m : Core) where
  abbrev Same : Made → Type 0
  Same made = made.number ≢ 0 → ◌≡◌ {A = World} (record { core = m; memory = memory }) made.world

  answer_same : (next : Core) (refusal : ℕ) → let a : Answer = answered m refusal next in Same (made_by a.core memory a.number)
  answer_same next refusal =
      by_choice (λ (a : Answer). Same (made_by a.core memory a.number)) (eqb refusal 0) (record { core = next; number = 0 }) (record { core = m; number = refusal })
      (λ e z. absurd (z refl)) (λ e z. refl)

  commit_same : (refusal : ℕ) → let c : Commit = commit_by refusal memory m in Same (made_by c.answer.core c.memory c.answer.number)
  commit_same refusal =
      by_choice (λ (c : Commit). Same (made_by c.answer.core c.memory c.answer.number)) (eqb refusal 0)
      (record { answer = record { core = committed m; number = 0 }; memory = written_by (entry_at m 0) memory })
      (record { answer = record { core = m; number = refusal }; memory = memory }) (λ e z. absurd (z refl)) (λ e z. refl)

  needed_same : (program : List ℕ) (s : Stage) → Same (call_of program memory (needed_by s) m)
  unfolding issue_of complete_of commit_of
  needed_same program Waits = answer_same (issued memory 0 m) (in_turn (lent_refusal m program memory) (issue_refusal 0 m))
  needed_same program Issued = answer_same (completed 0 m) (in_turn (lent_refusal m program memory) (complete_refusal 0 m))
  needed_same program Completed = commit_same (in_turn (lent_refusal m program memory) (commit_refusal m))

-- so many accepted calls after some
record Led (program : List ℕ) (w : World) (calls : ℕ) (d : Drain) : Type 0 where
  more : ℕ
  count : d.calls ≡ calls + more
  leads : Leads more program w d.world

led_none : (program : List ℕ) (w : World) (calls : ℕ) (d : Drain) → d.calls ≡ calls → w ≡ d.world → Led program w calls d
unfolding Leads
led_none program w calls d e q = record { more = 0; count = e ∙ sym (add-zero calls); leads = q }

led_more : (program : List ℕ) (w : World) (calls : ℕ) (d : Drain)
    → let made : Made = make program (needed_of w.core) w in made.number ≡ 0 → Led program made.world (suc calls) d → Led program w calls d
unfolding Leads
led_more program w calls d z l = let n = l.count in record { more = suc l.more; count = omega arith; leads = (z, l.leads) }

from_led : (n : ℕ) (program : List ℕ) (w : World) (calls : ℕ) → Led program w calls (drain_from n program w calls)
unfolding drain_from make
from_led zero program w calls = led_none program w calls (drain_ends w calls 0) refl refl
from_led (suc n) program w calls =
    let m : Core = w.core in
    let made : Made = make program (needed_of m) w in
    let more : Drain = drain_from n program made.world (suc calls) in
    let over : Drain = drain_ends made.world calls made.number in
    by_choice (Led program w calls) (idle m) (drain_ends w calls 0) (choose (eqb made.number 0) more over) (λ e. led_none program w calls _ refl refl) (λ e.
    by_choice (Led program w calls) (eqb made.number 0) more over
    (λ q. led_more program w calls more (eqb-true made.number 0 q) (from_led n program made.world (suc calls)))
    (λ q. led_none program w calls over refl (needed_same w.memory m program (entry_at m 0).state (eqb-false made.number 0 q))))

of_led : (program : List ℕ) (w : World) → Led program w 0 (drain_of program w)
unfolding drain_of
of_led program w =
    let m : Core = w.core in
    let lent : ℕ = lent_refusal m program w.memory in
    by_choice (Led program w 0) (eqb lent 0) (drain_from (3 * m.count) program w 0) (drain_ends w 0 lent)
    (λ e. from_led (3 * m.count) program w 0) (λ e. led_none program w 0 (drain_ends w 0 lent) refl refl)

pub of_leads : (program : List ℕ) (w : World) → let d : Drain = drain_of program w in Leads d.calls program w d.world
of_leads program w =
    let l = of_led program w in
    let d : Drain = drain_of program w in
    let n = l.count in
    let q : l.more ≡ d.calls = omega arith in
    subst (λ (k : ℕ). Leads k program w d.world) q l.leads

-- a call that 5 or 6 refuses answers with that number
answer_number : (m next : Core) (refusal : ℕ) → (answered m refusal next).number ≡ refusal
answer_number m next refusal =
    by_choice (λ (a : Answer). a.number ≡ refusal) (eqb refusal 0) (record { core = next; number = 0 }) (record { core = m; number = refusal }) (λ e. sym (eqb-true refusal 0 e)) (λ e. refl)

commit_number : (memory : List ℕ) (m : Core) (refusal : ℕ) → (commit_by refusal memory m).answer.number ≡ refusal
commit_number memory m refusal =
    by_choice (λ (c : Commit). c.answer.number ≡ refusal) (eqb refusal 0) (record { answer = record { core = committed m; number = 0 }; memory = written_by (entry_at m 0) memory })
    (record { answer = record { core = m; number = refusal }; memory = memory }) (λ e. sym (eqb-true refusal 0 e)) (λ e. refl)

lent_number : (program memory : List ℕ) (m : Core) (s : Stage) → lent_refusal m program memory ≢ 0 → (call_of program memory (needed_by s) m).number ≡ lent_refusal m program memory
unfolding issue_of complete_of commit_of
lent_number program memory m Waits h = answer_number m (issued memory 0 m) _ ∙ sym (lent_first (lent_refusal m program memory) (issue_refusal 0 m) h)
lent_number program memory m Issued h = answer_number m (completed 0 m) _ ∙ sym (lent_first (lent_refusal m program memory) (complete_refusal 0 m) h)
lent_number program memory m Completed h = commit_number memory m _ ∙ sym (lent_first (lent_refusal m program memory) (commit_refusal m) h)

-- the number with which it ends is that of its next call
abbrev Says : List ℕ → Drain → Type 0
Says program d = d.number ≢ 0 → (make program (needed_of d.world.core) d.world).number ≡ d.number

from_number : (n : ℕ) (program : List ℕ) (w : World) (calls : ℕ) → Says program (drain_from n program w calls)
unfolding drain_from make
from_number zero program w calls = λ z. absurd (z refl)
from_number (suc n) program w calls =
    let m : Core = w.core in
    let made : Made = make program (needed_of m) w in
    let more : Drain = drain_from n program made.world (suc calls) in
    let over : Drain = drain_ends made.world calls made.number in
    by_choice (Says program) (idle m) (drain_ends w calls 0) (choose (eqb made.number 0) more over) (λ e z. absurd (z refl)) (λ e.
    by_choice (Says program) (eqb made.number 0) more over (λ q. from_number n program made.world (suc calls))
    (λ q z. ap (λ (v : World). (make program (needed_of v.core) v).number) (sym (needed_same w.memory m program (entry_at m 0).state z))))

pub of_number : (program : List ℕ) (w : World) → Says program (drain_of program w)
unfolding drain_of make
of_number program w =
    let m : Core = w.core in
    let lent : ℕ = lent_refusal m program w.memory in
    by_choice (Says program) (eqb lent 0) (drain_from (3 * m.count) program w 0) (drain_ends w 0 lent)
    (λ e. from_number (3 * m.count) program w 0) (λ e z. lent_number program w.memory m (entry_at m 0).state z)

-- what it does without a call
module _ (program : List ℕ) (w : World) where
  abbrev lent : ℕ
  lent = lent_refusal w.core program w.memory

  pub of_refuses : lent ≢ 0 → drain_of program w ≡ drain_ends w 0 lent
  unfolding drain_of
  of_refuses h = rw (ne_eqb lent 0 h)

  from_rests : (n : ℕ) → idle w.core ≡ true → drain_from n program w 0 ≡ drain_ends w 0 0
  unfolding drain_from
  from_rests zero e = refl
  from_rests (suc n) e = rw e

  pub of_rests : lent ≡ 0 → idle w.core ≡ true → drain_of program w ≡ drain_ends w 0 0
  unfolding drain_of
  of_rests z e = ap (λ (b : Bool). choose b (drain_from (3 * w.core.count) program w 0) (drain_ends w 0 lent)) (eq-eqb lent 0 z) ∙ from_rests (3 * w.core.count) e
