-- Complete, put together from its parts.
use Prim.Native.Nat.{ℕ}
use mathlib.Core.Path.{◌≡◌, refl, sym, ap, ◌∙◌}
use mathlib.Core.Bool.{Bool, true, false, not, ◌&&◌}
use mathlib.Core.List.{List, [], ◌∷◌}
use borrow.Author.Tests.{eq-eqb, ne_eqb}
use Rattle.reference.specs.Step.{when, first}
use Rattle.tables.specs.declared.State.TheVariants.{Issued}
use Rattle.tables.specs.Entry.{is_issued, stopped_entry}
use Rattle.renaming.specs.declared.Core.{Core}
use Rattle.renaming.specs.Call.{halted, no_entry, entry_refusal, lent_refusal, in_turn, answered}
use Rattle.renaming.specs.Changes.{entry_at, place}
use Rattle.completing.specs.Complete.{outcome_at, has_destination, needs_register, none_free, register_refusal, complete_refusal, learned, registered, redirected, completed, complete_within, complete_of}
use Rattle.stealing.specs.Steal.{no_victim}
use Rattle.renaming.proofs.RefusalLaws.{answered_refused, answered_next, lent_first, own_next, first_append}

pub learned_count : (position register result : ℕ) (m : Core) → (learned position register result m).count ≡ m.count
unfolding learned
learned_count position register result m = refl

-- with a free register
pub free_register_lem : (position result : ℕ) (m : Core) → ((entry_at m position).destination ≡ 0 → ⊥) → (m.free_registers.head ≡ 0 → ⊥)
    → learned position m.free_registers.head result m ≡ registered position result m
free_register_lem position result m z h = rw (ne_eqb (entry_at m position).destination 0 z, ne_eqb m.free_registers.head 0 h)

alone : (n : ℕ) → first (n ∷ []) ≡ n
unfolding first
alone n = sym (own_next 0 n refl)

without_cause : (a c d : Bool) → a && true && c && d ≡ a && c && d
without_cause true c d = refl
without_cause false c d = refl

with_cause : (a c d : Bool) → a && false && c && d ≡ false
with_cause true c d = refl
with_cause false c d = refl

module _ (position : ℕ) (m : Core) where
  abbrev cause : ℕ
  cause = (outcome_at m position).stop.cause

  abbrev own : ℕ
  own = when (needs_register m position && none_free m && no_victim m position) 16

  -- the refusals in two parts: what the entry meets, and what its register meets
  refusal_parts : complete_refusal position m ≡ in_turn (entry_refusal Issued position m) own
  unfolding complete_refusal entry_refusal
  refusal_parts =
      let leading : List ℕ = when (halted m) 10 ∷ when (no_entry m position) 12 ∷ when (not (is_issued (entry_at m position).state)) 13 ∷ [] in
      first_append leading (own ∷ []) ∙ ap (in_turn (first leading)) (alone own)

  own_goes : cause ≡ 0 → own ≡ register_refusal position m
  own_goes z = rw (eq-eqb cause 0 z) (ap (λ (b : Bool). when b 16) (without_cause (has_destination m position) (none_free m) (no_victim m position)))

  own_stops : (cause ≡ 0 → ⊥) → own ≡ 0
  own_stops z = rw (ne_eqb cause 0 z) (ap (λ (b : Bool). when b 16) (with_cause (has_destination m position) (none_free m) (no_victim m position)))

  -- what complete answers, in each of the ways
  pub refused_entry : (refusal : ℕ) → refusal ≡ entry_refusal Issued position m → (refusal ≡ 0 → ⊥) → record { core = m; number = refusal } ≡ complete_within position m
  unfolding complete_within
  refused_entry refusal e h =
      answered_refused m (completed position m) (complete_refusal position m) refusal
      (e ∙ lent_first (entry_refusal Issued position m) own (λ z. h (e ∙ z)) ∙ sym refusal_parts) h

  module _ (issued : 0 ≡ entry_refusal Issued position m) where
    refusal_own : own ≡ complete_refusal position m
    refusal_own = own_next (entry_refusal Issued position m) own (sym issued) ∙ sym refusal_parts

    pub stops : (cause ≡ 0 → ⊥) → record { core = place position (stopped_entry (outcome_at m position).stop (entry_at m position)) m; number = 0 } ≡ complete_within position m
    unfolding complete_within
    stops z = ap (λ (k : Core). record { core = k; number = 0 }) (sym (ends z)) ∙ answered_next m (completed position m) (complete_refusal position m) (sym refusal_own ∙ own_stops z)
      where
        ends : (cause ≡ 0 → ⊥) → completed position m ≡ place position (stopped_entry (outcome_at m position).stop (entry_at m position)) m
        ends z = rw (ne_eqb cause 0 z) refl

    module _ (z : cause ≡ 0) where
      pub refused_register : (refusal : ℕ) → refusal ≡ register_refusal position m → (refusal ≡ 0 → ⊥) → record { core = m; number = refusal } ≡ complete_within position m
      unfolding complete_within
      refused_register refusal e h = answered_refused m (completed position m) (complete_refusal position m) refusal (e ∙ sym (own_goes z) ∙ refusal_own) h

      pub goes : register_refusal position m ≡ 0 → record { core = redirected position (outcome_at m position).next (registered position (outcome_at m position).result m); number = 0 } ≡ complete_within position m
      unfolding complete_within
      goes e =
          ap (λ (k : Core). record { core = k; number = 0 }) (sym ends)
          ∙ answered_next m (completed position m) (complete_refusal position m) (sym refusal_own ∙ own_goes z ∙ e)
        where
          ends : completed position m ≡ redirected position (outcome_at m position).next (registered position (outcome_at m position).result m)
          ends = rw (eq-eqb cause 0 z) refl

pub complete_lent : (program memory : List ℕ) (position : ℕ) (m : Core) → lent_refusal m program memory ≡ 0 → complete_within position m ≡ complete_of program memory position m
unfolding complete_within complete_of
complete_lent program memory position m e = ap (λ (n : ℕ). answered m n (completed position m)) (own_next (lent_refusal m program memory) (complete_refusal position m) e)
