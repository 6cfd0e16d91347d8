-- The walks: what holds at a position, and after a change at a position or at the end.
use Prim.Native.Nat.{ℕ, zero, suc, ◌<◌}
use mathlib.Core.Path.{◌≡◌, refl, ap, sym, ◌∙◌}
use mathlib.Core.Logic.{◌≢◌}
use mathlib.Core.Bool.{false}
use mathlib.Core.List.{List, [], ◌∷◌, ◌++◌, map}
use native.Mathlib.Omega.{arith}
use native.Mathlib.Decide.{dec_lt}
use lib.ListN.{length, get_or, set, take, length-set}
use lib.Seq.{get_or-set_other, get_or-set_same, set_out}
use Rattle.execution.specs.Roles.{stores}
use Rattle.reference.specs.Step.{State, first_source, second_source, destination, step_of}
use Rattle.tables.specs.Entry.{empty_entry}
use Rattle.tables.specs.declared.Entry.{Entry}
use Rattle.agreement.proofs.View.{name_in}
use Rattle.agreement.proofs.Ghost.{Ghost, Writers, Agree}
use Rattle.agreement.proofs.Chains.{renaming_of, Renamed, RenameChain, last_names, execution_of, Executes, followed, ExecutionChain, last_state}
use Rattle.std.specs.List.{All}
use Rattle.std.proofs.lemmas.List.Elements.{All-nil, All-cons, All-tail}
use Rattle.agreement.proofs.Tests.{equal, apart, eq?}
use Rattle.agreement.proofs.Steps.{step_other, step_size, step_length, step_unstored}
use Rattle.agreement.proofs.LiveLaws.{set_zero}

-- the names and the in-order state before position i
abbrev pub names_at : List ℕ → List Entry → ℕ → List ℕ
names_at m es i = last_names m (map renaming_of (take i es))

abbrev pub state_at : List ℕ → State → List Entry → ℕ → State
state_at p s es i = last_state p s (map execution_of (take i es))

-- one entry further
pub writers_next : (g : Ghost) (m : List ℕ) (e : Entry) → Writers g m → Renamed g m (renaming_of e) → Writers g (set m e.destination e.name)
writers_next g m e k l =
    let d : ℕ = e.destination in
    record {
      writers = λ r b. elim (eq? r d) [
        | equal q t ↦ cc (get_or-set_same m d e.name 0 (omega (arith, k.size)), l.writer)
        | apart q t ↦ cc (get_or-set_other m d r e.name 0 q, k.writers r b)
      ];
      size = length-set m d e.name ∙ k.size;
    }

pub agree_next : (p : List ℕ) (g : Ghost) (m : List ℕ) (s : State) (e : Entry) → length m ≡ 32 → Agree g m s.registers → Renamed g m (renaming_of e) → Executes p g s (execution_of e)
    → Agree g (set m e.destination e.name) (step_of p s).state.registers
agree_next p g m s e z k l o =
    let d : ℕ = e.destination in
    record {
      values = λ r b. elim (eq? r d) [
        | equal q t ↦ cc (get_or-set_same m d e.name 0 (omega (arith, z, b)), l.written, o.value)
        | apart q t ↦ cc (get_or-set_other m d r e.name 0 q, step_other p s r (λ x. q (x ∙ ap destination (sym o.instruction) ∙ sym l.written)), k.values r b)
      ];
      size = step_size p s ∙ k.size;
    }

-- at a position
pub renamed_at : (g : Ghost) (m : List ℕ) (es : List Entry) (i : ℕ) → i < length es → RenameChain g m (map renaming_of es) → Renamed g (names_at m es i) (renaming_of (get_or es i empty_entry))
unfolding RenameChain last_names
renamed_at g m [] i h n = absurd (omega arith)
renamed_at g m (e ∷ es) zero h n = n.0
renamed_at g m (e ∷ es) (suc i) h n = renamed_at g (set m e.destination e.name) es i (omega arith) n.1

pub executes_at : (p : List ℕ) (g : Ghost) (s : State) (es : List Entry) (i : ℕ) → i < length es → ExecutionChain p g s (map execution_of es)
    → Executes p g (state_at p s es i) (execution_of (get_or es i empty_entry))
unfolding ExecutionChain last_state
executes_at p g s [] i h r = absurd (omega arith)
executes_at p g s (e ∷ es) zero h r = r.0
executes_at p g s (e ∷ es) (suc i) h r = executes_at p g (followed p s e.predicted) es i (omega arith) r.1

pub writers_last : (g : Ghost) (m : List ℕ) (es : List Entry) → Writers g m → RenameChain g m (map renaming_of es) → Writers g (last_names m (map renaming_of es))
unfolding RenameChain last_names
writers_last g m [] k n = k
writers_last g m (e ∷ es) k n = writers_last g (set m e.destination e.name) es (writers_next g m e k n.0) n.1

pub agree_last : (p : List ℕ) (g : Ghost) (m : List ℕ) (s : State) (es : List Entry) → length m ≡ 32 → Agree g m s.registers → RenameChain g m (map renaming_of es)
    → ExecutionChain p g s (map execution_of es) → Agree g (last_names m (map renaming_of es)) (last_state p s (map execution_of es)).registers
unfolding RenameChain ExecutionChain last_names last_state
agree_last p g m s [] z k n r = k
agree_last p g m s (e ∷ es) z k n r =
    agree_last p g (set m e.destination e.name) (followed p s e.predicted) es (length-set m e.destination e.name ∙ z) (agree_next p g m s e z k n.0 r.0) n.1 r.1

pub renamed_take : (g : Ghost) (m : List ℕ) (es : List Entry) (i : ℕ) → RenameChain g m (map renaming_of es) → RenameChain g m (map renaming_of (take i es))
unfolding RenameChain
renamed_take g m [] zero n = n
renamed_take g m [] (suc i) n = n
renamed_take g m (e ∷ es) zero n = tt
renamed_take g m (e ∷ es) (suc i) n = (n.0, renamed_take g (set m e.destination e.name) es i n.1)

pub executed_take : (p : List ℕ) (g : Ghost) (s : State) (es : List Entry) (i : ℕ) → ExecutionChain p g s (map execution_of es) → ExecutionChain p g s (map execution_of (take i es))
unfolding ExecutionChain
executed_take p g s [] zero r = r
executed_take p g s [] (suc i) r = r
executed_take p g s (e ∷ es) zero r = tt
executed_take p g s (e ∷ es) (suc i) r = (r.0, executed_take p g (followed p s e.predicted) es i r.1)

pub agree_at : (p : List ℕ) (g : Ghost) (m : List ℕ) (s : State) (es : List Entry) (i : ℕ) → length m ≡ 32 → Agree g m s.registers → RenameChain g m (map renaming_of es)
    → ExecutionChain p g s (map execution_of es) → Agree g (names_at m es i) (state_at p s es i).registers
agree_at p g m s es i z k n r = agree_last p g m s (take i es) z k (renamed_take g m es i n) (executed_take p g s es i r)

-- a change at a position that keeps the prediction
pub executed_set : (p : List ℕ) (g : Ghost) (s : State) (es : List Entry) (i : ℕ) (x : Entry) → i < length es → x.predicted ≡ (get_or es i empty_entry).predicted
    → Executes p g (state_at p s es i) (execution_of x) → ExecutionChain p g s (map execution_of es) → ExecutionChain p g s (map execution_of (set es i x))
unfolding ExecutionChain last_state
executed_set p g s [] i x h q o r = r
executed_set p g s (e ∷ es) zero x h q o r = (o, rw q r.1)
executed_set p g s (e ∷ es) (suc i) x h q o r = (r.0, executed_set p g (followed p s e.predicted) es i x (omega arith) q o r.1)

pub state_set : (p : List ℕ) (s : State) (es : List Entry) (i : ℕ) (x : Entry) → x.predicted ≡ (get_or es i empty_entry).predicted
    → last_state p s (map execution_of (set es i x)) ≡ last_state p s (map execution_of es)
unfolding last_state
state_set p s [] i x q = refl
state_set p s (e ∷ es) zero x q = ap (λ (a : ℕ). last_state p (followed p s a) (map execution_of es)) q
state_set p s (e ∷ es) (suc i) x q = state_set p (followed p s e.predicted) es i x q

-- one entry more
pub renamed_append : (g : Ghost) (m : List ℕ) (es : List Entry) (x : Entry) → RenameChain g m (map renaming_of es) → Renamed g (last_names m (map renaming_of es)) (renaming_of x)
    → RenameChain g m (map renaming_of (es ++ x ∷ []))
unfolding RenameChain last_names
renamed_append g m [] x n l = (l, tt)
renamed_append g m (e ∷ es) x n l = (n.0, renamed_append g (set m e.destination e.name) es x n.1 l)

pub executed_append : (p : List ℕ) (g : Ghost) (s : State) (es : List Entry) (x : Entry) → ExecutionChain p g s (map execution_of es)
    → Executes p g (last_state p s (map execution_of es)) (execution_of x) → ExecutionChain p g s (map execution_of (es ++ x ∷ []))
unfolding ExecutionChain last_state
executed_append p g s [] x r o = (o, tt)
executed_append p g s (e ∷ es) x r o = (r.0, executed_append p g (followed p s e.predicted) es x r.1 o)

pub last_names_lem : (m : List ℕ) (es : List Entry) (x : Entry) → last_names m (map renaming_of (es ++ x ∷ [])) ≡ set (last_names m (map renaming_of es)) x.destination x.name
unfolding last_names
last_names_lem m [] x = refl
last_names_lem m (e ∷ es) x = last_names_lem (set m e.destination e.name) es x

pub last_address : (p : List ℕ) (s : State) (es : List Entry) (x : Entry) → (last_state p s (map execution_of (es ++ x ∷ []))).address ≡ x.predicted
unfolding last_state
last_address p s [] x = refl
last_address p s (e ∷ es) x = last_address p (followed p s e.predicted) es x

-- data along the walk: their length stays, and without a store so do they
pub last_length : (p : List ℕ) (s : State) (es : List Entry) → length (last_state p s (map execution_of es)).memory ≡ length s.memory
unfolding last_state
last_length p s [] = refl
last_length p s (e ∷ es) = last_length p (followed p s e.predicted) es ∙ step_length p s

pub last_unstored : (p : List ℕ) (g : Ghost) (s : State) (es : List Entry) → ExecutionChain p g s (map execution_of es) → All (λ e. stores e.instruction ≡ false) es
    → (last_state p s (map execution_of es)).memory ≡ s.memory
unfolding last_state ExecutionChain
last_unstored p g s [] r a = refl
last_unstored p g s (e ∷ es) r a =
    last_unstored p g (followed p s e.predicted) es r.1 (All-tail (λ x. stores x.instruction ≡ false) e es a) ∙ step_unstored p s (ap stores (sym r.0.instruction) ∙ a 0 e (omega arith))

-- a name that neither the first names nor an entry has is nowhere an operand, nor in the last names
pub record Lacks (n : ℕ) (e : Entry) : Type 0 where
  pub left : name_in e.left ≢ n
  pub right : name_in e.right ≢ n

lacks_set : (m : List ℕ) (d k n : ℕ) → k ≢ n → ((r : ℕ) → get_or m r 0 ≢ n) → (r : ℕ) → get_or (set m d k) r 0 ≢ n
lacks_set m d k n h f r q = elim (eq? r d) [
  | equal e t ↦ inside (dec_lt d (length m)) e
  | apart e t ↦ f r (sym (get_or-set_other m d r k 0 e) ∙ q)
]
  where
    inside : Dec (d < length m) → r ≡ d → ⊥
    inside (yes l) e = h (cc (get_or-set_same m d k 0 l))
    inside (no l) e = f r (cc (set_out m d k (omega arith)))

pub lacks_last : (n : ℕ) (m : List ℕ) (es : List Entry) → ((r : ℕ) → get_or m r 0 ≢ n) → All (λ e. e.name ≢ n) es → (r : ℕ) → get_or (last_names m (map renaming_of es)) r 0 ≢ n
unfolding last_names
lacks_last n m [] f q = f
lacks_last n m (e ∷ es) f q = lacks_last n (set m e.destination e.name) es (lacks_set m e.destination e.name n (q 0 e (omega arith)) f) (All-tail (λ x. x.name ≢ n) e es q)

pub lacks_all : (g : Ghost) (n : ℕ) (m : List ℕ) (es : List Entry) → ((r : ℕ) → get_or m r 0 ≢ n) → All (λ e. e.name ≢ n) es → RenameChain g m (map renaming_of es) → All (Lacks n) es
unfolding RenameChain
lacks_all g n m [] f q l = All-nil (Lacks n)
lacks_all g n m (e ∷ es) f q l = All-cons (Lacks n) e es
    (record { left = λ z. f (first_source e.instruction) (sym l.0.left ∙ z); right = λ z. f (second_source e.instruction) (sym l.0.right ∙ z) })
    (lacks_all g n (set m e.destination e.name) es (lacks_set m e.destination e.name n (q 0 e (omega arith)) f) (All-tail (λ x. x.name ≢ n) e es q) l.1)

-- the name of register 0 stays zero
zero_next : (g : Ghost) (m : List ℕ) (e : Entry) → get_or m 0 0 ≡ 0 → Renamed g m (renaming_of e) → get_or (set m e.destination e.name) 0 0 ≡ 0
zero_next g m e z l = elim (eq? 0 e.destination) [
  | equal q t ↦ rw (← q, l.unnamed (sym q)) (ap (λ (x : List ℕ). get_or x 0 0) (set_zero m 0 z) ∙ z)
  | apart q t ↦ get_or-set_other m e.destination 0 e.name 0 q ∙ z
]

pub zero_last : (g : Ghost) (m : List ℕ) (es : List Entry) → get_or m 0 0 ≡ 0 → RenameChain g m (map renaming_of es) → get_or (last_names m (map renaming_of es)) 0 0 ≡ 0
unfolding RenameChain last_names
zero_last g m [] z n = z
zero_last g m (e ∷ es) z n = zero_last g (set m e.destination e.name) es (zero_next g m e z n.0) n.1
