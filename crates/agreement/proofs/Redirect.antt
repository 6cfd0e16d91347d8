-- After a completion: where the prediction was wrong, all younger entries go and the entry is the youngest, with its actual next address.
use Prim.Native.Nat.{ℕ, zero, suc, ◌+◌, ◌-◌, ◌<◌}
use mathlib.Core.Path.{◌≡◌, refl, ap, sym, ◌∙◌}
use mathlib.Core.List.{List, [], ◌∷◌, ◌++◌, map, map-append}
use native.Mathlib.Omega.{arith}
use borrow.Author.Tests.{eqb-true}
use lib.Dec.{eqb}
use lib.ListN.{length, get_or, set, take, length-set, length-map, get_or-map}
use lib.Seq.{get_or-set_same, take-suc-set, take-set-lt, take-set-le, length-take-le, get_or-take}
use Rattle.reference.specs.Step.{State}
use Rattle.tables.specs.Entry.{empty_entry, predicted_entry}
use Rattle.tables.specs.declared.Entry.{Entry}
use Rattle.agreement.proofs.View.{View, drops_to, placed, steer, redirect}
use Rattle.agreement.proofs.Ghost.{Ghost, Agree}
use Rattle.agreement.proofs.Chains.{Execution, execution_of, Executes, ExecutionChain, last_state}
use Rattle.agreement.proofs.Invariant.{Accounting, Invariant}
use Rattle.isa.proofs.ChoiceLaws.{by_choice}
use Rattle.agreement.proofs.Walks.{state_at, executed_set, state_set, executed_take, executed_append, last_address}
use Rattle.agreement.proofs.Placing.{placed_accounted, steer_accounted}
use Rattle.agreement.proofs.Drop.{drops_accounted, drops_entries}
use Rattle.agreement.proofs.Unchanged.{drops_next}

map_take : {A B : Type 0} (f : A → B) (es : List A) (i : ℕ) → map f (take i es) ≡ take i (map f es)
map_take f [] zero = refl
map_take f [] (suc i) = refl
map_take f (e ∷ es) zero = refl
map_take f (e ∷ es) (suc i) = cc (map_take f es i)

abbrev aimed : ℕ → Execution → Execution
aimed next e =
    record {
      instruction = e.instruction;
      address = e.address;
      predicted = next;
      first = e.first;
      second = e.second;
      name = e.name;
      state = e.state;
      stop = e.stop;
    }

-- b is the machine before and c the one after the entry at i was completed and became x, with n for its actual next address
module _ (p : List ℕ) (g : Ghost) (m : List ℕ) (s : State) (b c : View) (i n : ℕ) (x : Entry)
    (inside : i < length b.entries) (agree : Agree g m s.registers) (executed : ExecutionChain p g s (map execution_of b.entries))
    (fetching : b.fetch ≡ (last_state p s (map execution_of b.entries)).address)
    (accounting : Accounting g m c) (same : map execution_of c.entries ≡ map execution_of (set b.entries i x)) (next : c.next ≡ s.address) (fetch : c.fetch ≡ b.fetch)
    (like : x.predicted ≡ (get_or b.entries i empty_entry).predicted)
    (completes : Executes p g (state_at p s b.entries i) (execution_of (predicted_entry n x))) where
  here : execution_of (get_or c.entries i empty_entry) ≡ execution_of x
  here =
      sym (get_or-map execution_of c.entries i empty_entry) ∙ ap (λ (l : List Execution). get_or l i (execution_of empty_entry)) same
      ∙ get_or-map execution_of (set b.entries i x) i empty_entry ∙ ap execution_of (get_or-set_same b.entries i x empty_entry inside)

  same_length : length c.entries ≡ length b.entries
  same_length = sym (length-map c.entries execution_of) ∙ ap length same ∙ length-map (set b.entries i x) execution_of ∙ length-set b.entries i x

  straight : n ≡ x.predicted → Invariant p s c
  straight q =
      record {
        ghost = g;
        committed = m;
        accounting = accounting;
        agree = agree;
        executed = rw same (executed_set p g s b.entries i x inside like (rw q at completes) executed);
        next = next;
        fetching = fetch ∙ fetching ∙ rw same (ap (λ (t : State). t.address) (sym (state_set p s b.entries i x like)));
      }

  abbrev d : View
  d = drops_to (suc i) (length c.entries - suc i) c

  lengths : length c.entries ≡ suc i + (length c.entries - suc i)
  lengths = omega (arith, same_length, inside)

  left_over : d.entries ≡ take (suc i) c.entries
  left_over = drops_entries (suc i) (length c.entries - suc i) c lengths

  still : get_or d.entries i empty_entry ≡ get_or c.entries i empty_entry
  still = ap (λ (l : List Entry). get_or l i empty_entry) left_over ∙ get_or-take (suc i) c.entries i empty_entry (omega arith)

  there : i < length d.entries
  there = rw left_over (omega (arith, length-take-le (suc i) c.entries (omega (arith, same_length, inside))))

  accounting_d : Accounting g m d
  accounting_d = drops_accounted g m (suc i) (length c.entries - suc i) c accounting lengths

  abbrev y : Entry
  y = predicted_entry n (get_or d.entries i empty_entry)

  abbrev z : Entry
  z = predicted_entry n x

  same_execution : execution_of y ≡ execution_of z
  same_execution = ap (aimed n) (ap execution_of still ∙ here)

  end : map execution_of (set d.entries i y) ≡ map execution_of (take i b.entries ++ z ∷ [])
  end =
      ap (map execution_of) (ap (λ (l : List Entry). set l i y) left_over ∙ sym (take-set-lt (suc i) c.entries i y (omega arith)) ∙ take-suc-set c.entries i y (omega (arith, same_length, inside)))
      ∙ map-append execution_of (take i c.entries) (y ∷ [])
      ∙ cc (same_execution, map_take execution_of c.entries i, same, map_take execution_of (set b.entries i x) i, take-set-le i b.entries i x (omega arith))
      ∙ sym (map-append execution_of (take i b.entries) (z ∷ []))

  bent : Invariant p s (steer n d.next d.halt (placed i y d))
  bent =
      record {
        ghost = g;
        committed = m;
        accounting = steer_accounted g m (placed i y d) n d.next d.halt
            (placed_accounted g m d i y accounting_d there refl (accounting_d.contents.shown i empty_entry there)
            (accounting_d.contents.holds i empty_entry there));
        agree = agree;
        executed = rw end (executed_append p g s (take i b.entries) z (executed_take p g s b.entries i executed) completes);
        next = drops_next (suc i) (length c.entries - suc i) c ∙ next;
        fetching = rw end (sym (last_address p s (take i b.entries) z));
      }

  pub redirect_keeps : Invariant p s (redirect i n c)
  unfolding redirect
  redirect_keeps =
      by_choice (Invariant p s) (eqb n (get_or c.entries i empty_entry).predicted) c _ (λ t. straight (eqb-true _ _ t ∙ ap (λ (f : Execution). f.predicted) here)) (λ t. bent)
