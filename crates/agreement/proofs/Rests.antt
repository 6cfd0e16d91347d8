-- What holds of every machine between calls.
use Prim.Native.Nat.{ℕ, ◌+◌, ◌-◌, ◌≤◌, ◌<◌}
use mathlib.Core.Path.{◌≡◌, sym, ap, subst, ◌∙◌}
use mathlib.Core.List.{List}
use native.Mathlib.Omega.{arith}
use native.Mathlib.Decide.{dec_lt}
use lib.ListN.{length, get_or, drop, get_or-eq_default}
use lib.Seq.{get_or-drop}
use Rattle.std.specs.List.{All}
use Rattle.reference.specs.Step.{State}
use Rattle.tables.specs.Entry.{empty_entry}
use Rattle.tables.specs.declared.Entry.{Entry}
use Rattle.renaming.specs.Changes.{entry_at}
use Rattle.renaming.specs.declared.Core.{Core}
use Rattle.window.specs.Calls.{World}
use Rattle.agreement.specs.Lists.{make_all, accepted_commits, started, origin}
use Rattle.agreement.specs.Resting.{EntryRests, Resting, Rests}
use Rattle.agreement.proofs.View.{View, view_of}
use Rattle.agreement.proofs.Ghost.{Ghost}
use Rattle.agreement.proofs.Invariant.{Accounting}
use Rattle.agreement.proofs.Kept.{Kept}
use Rattle.agreement.proofs.Views.{seen_length, seen_entry}
use Rattle.agreement.proofs.Safe.{Safe, alive, dead, Reached}
use Rattle.agreement.proofs.Reaching.{started_reached, list_reached}
use Rattle.agreement.proofs.Rest.{Cleared, Empty, Rest}
use Rattle.agreement.proofs.RestChanges.{rest_fresh}
use Rattle.agreement.proofs.RestTurns.{rest_all}
use Rattle.agreement.proofs.RestPools.{registers_rest, names_rest, freed_rests, mapping_rests}
use Rattle.agreement.proofs.RestEntries.{entries_rest}

-- a place past the last entry
past_rests : (m : Core) → Rest m → (i : ℕ) → m.count ≤ i → entry_at m i ≡ empty_entry
past_rests m r i h =
    let behind : List Entry = drop m.count m.entries in
    let back : m.count + (i - m.count) ≡ i = omega arith in
    ap (λ (n : ℕ). get_or m.entries n empty_entry) (sym back) ∙ sym (get_or-drop m.count m.entries (i - m.count) empty_entry) ∙ at behind (i - m.count) r.past (dec_lt (i - m.count) (length behind))
  where
    at : (es : List Entry) (n : ℕ) → All Empty es → Dec (n < length es) → get_or es n empty_entry ≡ empty_entry
    at es n a (yes l) = a n empty_entry l
    at es n a (no l) = get_or-eq_default es empty_entry {n = n} (omega arith)

accounted_rests : (program : List ℕ) (m : Core) → Kept m → Rest m → (g : Ghost) (committed : List ℕ) → Accounting g committed (view_of m)
    → ((i : ℕ) → i < m.count → EntryRests program (entry_at m i)) → Resting program m
accounted_rests program m k r g committed a entries =
    let c : View = view_of m in
    record {
      mappings = mapping_rests m k g committed a;
      entries = entries;
      past = past_rests m r;
      registers = registers_rest g committed c a;
      names = names_rest g committed c a;
      freed = freed_rests g committed c a;
    }

-- a machine that runs or that halted
reached_rests : (program : List ℕ) (begin : State) (n : ℕ) (w : World) → Reached program begin n w → Rest w.core → Resting program w.core
reached_rests program begin n w r rest = at r.safe
  where
    at : Safe program begin n w → Resting program w.core
    at (alive s run halt memory zeros inv) =
        let f = r.fit in
        let m : Core = w.core in
        accounted_rests program m f.kept rest inv.ghost inv.committed inv.accounting (λ i h.
        let n = f.kept.count in
        let l = f.kept.window in
        let k = f.kept.entries in
        let long = seen_length m f.kept in
        let seen : get_or (view_of m).entries i empty_entry ≡ entry_at m i = seen_entry m i h in
        subst (EntryRests program) seen
        (entries_rest program s (view_of m) inv (ap length (sym memory) ∙ f.bytes) i (omega arith) (subst Cleared (sym seen) (rest.cleared i empty_entry (omega arith)))))
    at (dead s k l run halt memory zeros why empty) =
        let f = r.fit in
        let m : Core = w.core in
        accounted_rests program m f.kept rest empty.ghost empty.committed empty.accounting (λ i h.
        let long = seen_length m f.kept in
        let none : length (view_of m).entries ≡ 0 = ap length empty.empty in
        absurd (omega arith))

pub rests : Rests
rests s program memory accepted events =
    let begin : World = started s memory in
    let first = started_reached s program memory accepted in
    reached_rests program (origin memory) (accepted_commits program events begin) (make_all program events begin) (list_reached s program memory accepted events)
    (rest_all program events begin first.fit (rest_fresh s))
