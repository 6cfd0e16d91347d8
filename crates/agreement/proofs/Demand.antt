-- The statement of demand 3.
use Prim.Native.Nat.{ℕ, ◌+◌, ◌≤◌, ◌<◌}
use mathlib.Core.Path.{◌≡◌, refl, sym, ap, subst, ◌∙◌}
use mathlib.Core.Logic.{◌≢◌}
use mathlib.Core.Bool.{Bool}
use mathlib.Core.List.{List}
use native.Mathlib.Nat.{add-zero}
use native.Mathlib.Omega.{arith}
use borrow.Author.Tests.{eq-eqb, ne_eqb}
use lib.ListN.{length, get_or}
use Rattle.isa.specs.Reads.{choose}
use Rattle.reference.specs.Run.{run_of}
use Rattle.reference.specs.Step.{State}
use Rattle.execution.specs.declared.Stop.{Stop}
use Rattle.tables.specs.Table.{look_up}
use Rattle.tables.specs.GeneralMap.{shown}
use Rattle.tables.proofs.TableLaws.{look_within}
use Rattle.tables.proofs.MapLaws.{map_registers, shown_register}
use Rattle.renaming.specs.Drop.{drop_to}
use Rattle.renaming.specs.Report.{value_in}
use Rattle.renaming.specs.declared.Core.{Core}
use Rattle.renaming.proofs.DropLaws.{drop_done}
use Rattle.window.specs.Calls.{World}
use Rattle.agreement.specs.Lists.{make_all, accepted_commits, started, origin}
use Rattle.agreement.specs.Statement.{Agrees, Statement}
use Rattle.agreement.proofs.View.{view_of}
use Rattle.agreement.proofs.Invariant.{Emptied}
use Rattle.agreement.proofs.Commit.{emptied_value, emptied_register}
use Rattle.agreement.proofs.Steps.{read_some}
use Rattle.agreement.proofs.Views.{seen_length}
use Rattle.agreement.proofs.Reports.{report_is}
use Rattle.agreement.proofs.Commits.{dropped_emptied}
use Rattle.agreement.proofs.Fits.{Fit}
use Rattle.agreement.proofs.Safe.{Safe, alive, dead, Reached}
use Rattle.agreement.proofs.Reaching.{list_reached, reached_range}
use Rattle.agreement.proofs.Onward.{commits_within}

-- the general map of a machine without entries shows the committed values
emptied_shows : (s : State) (m : Core) → Emptied s (view_of m) → (r : ℕ) → 1 ≤ r → r < 32 → value_in m r ≡ get_or s.registers r 0
emptied_shows s m a r l h =
    let nz : r ≢ 0 = λ z. omega arith in
    let register : (shown m.map r).register ≡ get_or (map_registers m.map) r 0 = shown_register m.map r ∙ sym (look_within (map_registers m.map) r nz) in
    ap (look_up m.values) register ∙ sym (look_within m.values (get_or (map_registers m.map) r 0) (emptied_register s (view_of m) a r l h)) ∙ emptied_value s (view_of m) a r l h ∙ read_some s.registers r nz

module _ (program : List ℕ) (begin : State) (n : ℕ) (w : World) (r : Reached program begin n w) where
  abbrev m : Core
  m = w.core

  fit : Fit program w
  fit = r.fit

  agrees_at : Safe program begin n w → Agrees program w n (run_of n program begin)
  agrees_at (alive s run halt memory zeros inv) =
      let cause : m.halt.cause ≡ 0 = ap (λ (x : Stop). x.cause) halt in
      subst (Agrees program w n) (sym run) (record {
        registers = report_is m s.registers (reached_range program begin n w r) inv.agree.size zeros
            (emptied_shows s (drop_to 0 m) (dropped_emptied program s m fit.kept inv));
        memory = memory;
        next = inv.next;
        halt = halt;
        steps = sym (ap (λ (b : Bool). n + choose b 0 1) (eq-eqb m.halt.cause 0 cause) ∙ add-zero n);
        onward = commits_within program begin n w r;
      })
  agrees_at (dead s k l run halt memory zeros why empty) =
      let none : m.count ≡ 0 = sym (seen_length m fit.kept) ∙ ap length empty.empty in
      subst (Agrees program w n) (sym run) (record {
        registers = report_is m s.registers (reached_range program begin n w r) empty.agree.size zeros
            (emptied_shows s (drop_to 0 m) (subst (λ (x : Core). Emptied s (view_of x)) (sym (drop_done 0 m (omega arith))) empty));
        memory = memory;
        next = empty.next;
        halt = refl;
        steps = l ∙ sym (ap (λ (b : Bool). k + choose b 0 1) (ne_eqb m.halt.cause 0 halt));
        onward = commits_within program begin n w r;
      })

  agrees : Agrees program w n (run_of n program begin)
  agrees = agrees_at r.safe

pub statement : Statement
statement s program memory accepted events =
    let begin : World = started s memory in
    let commits : ℕ = accepted_commits program events begin in
    agrees program (origin memory) commits (make_all program events begin) (list_reached s program memory accepted events)
