use Rattle.std.proofs.Common.{◌≡◌, ℕ, suc, ◌+◌, ◌-◌, ◌/◌, ◌%◌, ◌<◌, ◌≤◌, List, set, sym, ap, ◌∙◌, arith}
use Rattle.word.specs.Bytes.{put}
use Rattle.word.proofs.bytes.store.Goals as goal

module _ (bytes : List ℕ) (at size k v : ℕ) where
  turn : k < size → put (set bytes (at + k) (v % 256)) (at + (k + 1)) (size - (k + 1)) (v / 256) ≡ put bytes (at + k) (size - k) v
  unfolding put
  turn h =
      let n : size - k ≡ suc (size - (k + 1)) = omega arith in
      let a : at + (k + 1) ≡ at + k + 1 = omega arith in
      rw n (ap (λ (x : ℕ). put (set bytes (at + k) (v % 256)) x (size - (k + 1)) (v / 256)) a)

  done : size ≤ k → put bytes (at + k) (size - k) v ≡ bytes
  unfolding put
  done h = let n : size - k ≡ 0 = omega arith in rw n

pub loop-k-preserved : goal.loop-k-preserved
loop-k-preserved c =
    let l = c.loop-k in
    turn l.bytes c.args.at c.args.size l.k l.rest c.loop-k-test.true ∙ l.invariant

pub returns : goal.returns
returns c =
    let l = c.loop-k in
    sym (done l.bytes c.args.at c.args.size l.k l.rest c.loop-k-test.false) ∙ l.invariant
