-- The ghost, where one name that is not in use gets a new meaning.
use Prim.Native.Nat.{ℕ}
use mathlib.Core.Path.{◌≡◌, sym, ◌∙◌}
use mathlib.Core.Logic.{◌≢◌}
use mathlib.Core.List.{List, [], ◌∷◌, map}
use native.Mathlib.Omega.{arith}
use lib.ListN.{get_or, set}
use Rattle.std.specs.List.{All}
use Rattle.std.proofs.lemmas.List.Elements.{All-tail}
use Rattle.reference.specs.Step.{State}
use Rattle.tables.specs.declared.Entry.{Entry}
use Rattle.agreement.proofs.Ghost.{Ghost, Writers, Agree}
use Rattle.agreement.proofs.Chains.{renaming_of, Renamed, RenameChain, execution_of, Executes, followed, ExecutionChain}
use Rattle.agreement.proofs.Contents.{Valued}

module _ (g h : Ghost) (n : ℕ) (values : (j : ℕ) → j ≢ n → get_or h.value j 0 ≡ get_or g.value j 0) (writers : (j : ℕ) → j ≢ n → get_or h.writer j 0 ≡ get_or g.writer j 0) where
  pub renamed_ghost : (m : List ℕ) (es : List Entry) → All (λ e. e.name ≢ n) es → RenameChain g m (map renaming_of es) → RenameChain h m (map renaming_of es)
  unfolding RenameChain
  renamed_ghost m [] a k = tt
  renamed_ghost m (e ∷ es) a k =
      let l : Renamed g m (renaming_of e) = k.0 in (
        record {
          written = l.written;
          small = l.small;
          first = l.first;
          second = l.second;
          left = l.left;
          right = l.right;
          previous = l.previous;
          writer = writers e.name (a 0 e (omega arith)) ∙ l.writer;
          unnamed = l.unnamed;
        },
        renamed_ghost (set m e.destination e.name) es (All-tail (λ x. x.name ≢ n) e es a) k.1,
      )

  pub executed_ghost : (p : List ℕ) (s : State) (es : List Entry) → All (λ e. e.name ≢ n) es → ExecutionChain p g s (map execution_of es) → ExecutionChain p h s (map execution_of es)
  unfolding ExecutionChain
  executed_ghost p s [] q k = tt
  executed_ghost p s (e ∷ es) q k =
      let o : Executes p g s (execution_of e) = k.0 in (
        record { address = o.address; instruction = o.instruction; value = values e.name (q 0 e (omega arith)) ∙ o.value; status = o.status },
        executed_ghost p (followed p s e.predicted) es (All-tail (λ x. x.name ≢ n) e es q) k.1,
      )

  pub writers_ghost : (m : List ℕ) → ((r : ℕ) → get_or m r 0 ≢ n) → Writers g m → Writers h m
  writers_ghost m f k = record { writers = λ r b. writers (get_or m r 0) (f r) ∙ k.writers r b; size = k.size }

  pub agree_ghost : (m registers : List ℕ) → ((r : ℕ) → get_or m r 0 ≢ n) → Agree g m registers → Agree h m registers
  agree_ghost m registers f k = record { values = λ r b. values (get_or m r 0) (f r) ∙ k.values r b; size = k.size }

  pub valued_ghost : (physical registers : List ℕ) → get_or physical n 0 ≡ 0 → n ≢ 0 → Valued g physical registers → Valued h physical registers
  valued_ghost physical registers z y k =
      record {
        held = λ j q. k.held j q ∙ sym (values j (λ e. q (cc)));
        zero_register = k.zero_register;
        zero_value = values 0 (λ e. y (sym e)) ∙ k.zero_value;
      }
