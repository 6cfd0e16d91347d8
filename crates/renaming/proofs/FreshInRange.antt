-- A fresh machine passes refusal 5's sweep; the statement on set-up.
use Prim.Native.Nat.{ℕ, suc, ◌+◌, ◌-◌, ◌≤◌}
use mathlib.Core.Path.{◌≡◌, refl, sym, ap, subst, ◌∙◌}
use mathlib.Core.Bool.{Bool, true, false, ◌&&◌}
use mathlib.Core.List.{List, ◌++◌, map}
use native.Mathlib.Omega.{arith}
use borrow.Author.Tests.{le-leb, ltb-true}
use lib.Dec.{leb, ltb, leb→le}
use lib.ListN.{get_or, replicate, get_or-map}
use Rattle.laws.proofs.Bools.{both}
use Rattle.laws.proofs.Table.{anywhere}
use Rattle.isa.specs.Reads.{choose}
use Rattle.tables.specs.GeneralMap.{unmapped}
use Rattle.ranges.specs.Sizes.{names_of, set_up_refusal}
use Rattle.ranges.specs.declared.Setup.{Setup}
use Rattle.renaming.specs.SetUp.{own_numbers, own_mapping, rising_next, rising_link, fresh_machine}
use Rattle.renaming.specs.Range.{tables_in_range, machine_in_range}
use Rattle.ranges.specs.Tables.{every_from, within, mapping_within, tables_within}
use Rattle.renaming.specs.Statement.{rising, Statement}
use Rattle.tables.specs.FreeList.{Pool}
use Rattle.renaming.proofs.FreshLaws.{rising_pool}
use Rattle.ranges.proofs.TableLaws.{every_holds}
use Rattle.ranges.proofs.SizeLaws.{accepted_in_range, accepted_sizes}
use Rattle.renaming.proofs.TabulateLaws.{tabulate_at}

-- the numbers of a table are at most 31
small_within : (table : List ℕ) (limit count : ℕ) → ((i : ℕ) → get_or table i 0 ≤ 31) → 31 ≤ limit → within limit 1 count table ≡ true
small_within table limit count small h = every_holds (λ (n : ℕ). leb n limit) 0 count 1 table (λ i l g. le-leb (get_or table i 0) limit (let s = small i in omega arith))

own_small : (i : ℕ) → get_or own_numbers i 0 ≤ 31
own_small i = leb→le (get_or own_numbers i 0) 31 (anywhere (λ (n : ℕ). leb n 31) own_numbers 0 tt tt i)

own_within : (last_name last_register : ℕ) → 31 ≤ last_name → 31 ≤ last_register
    → every_from (mapping_within last_name last_register) unmapped 1 31 (map own_mapping own_numbers) ≡ true
own_within last_name last_register h k =
    every_holds (mapping_within last_name last_register) unmapped 31 1 (map own_mapping own_numbers) (λ i l g.
    let n : ℕ = get_or own_numbers i 0 in
    let s = own_small i in
    ap (mapping_within last_name last_register) (get_or-map own_mapping own_numbers i 0) ∙ both (le-leb n last_name (omega arith)) (le-leb n last_register (omega arith)))

physical_small : (i : ℕ) → get_or (own_numbers ++ replicate 64 0) i 0 ≤ 31
physical_small i = leb→le (get_or (own_numbers ++ replicate 64 0) i 0) 31 (anywhere (λ (n : ℕ). leb n 31) (own_numbers ++ replicate 64 0) 0 tt tt i)

-- a chain's links are at most its last number
next_at : (last k : ℕ) (a b : Bool) → ltb k last ≡ b → choose (a && b) (k + 1) 0 ≤ last
next_at last k true true e = let h = ltb-true k last e in omega arith
next_at last k true false e = omega arith
next_at last k false b e = omega arith

link_within : (last : ℕ) → last ≤ 95 → within last 1 last (rising_link last) ≡ true
unfolding rising_link
link_within last h =
    every_holds (λ (n : ℕ). leb n last) 0 last 1 (rising_link last)
    (λ i l g. le-leb (get_or (rising_link last) i 0) last (subst (λ (n : ℕ). n ≤ last) (sym (tabulate_at 96 i (rising_next last) (omega arith))) (next_at last i (leb 32 i) (ltb i last) refl)))

module _ (s : Setup) (accepted : set_up_refusal s ≡ 0) where
  tables : tables_in_range (fresh_machine s) ≡ true
  unfolding tables_within
  tables =
      let window = s.window in
      let registers = s.registers in
      let z = accepted_sizes s accepted in
      let n : 31 ≤ registers = omega arith in
      let w : 31 ≤ names_of window = omega arith in
      let l : names_of window ≤ 95 = omega arith in
      both (both (both (both (both (both (le-leb 32 registers z.registers_from) (link_within registers z.registers_to)) (le-leb 32 (names_of window) (omega arith))) (link_within (names_of window) l))
      (small_within (own_numbers ++ replicate 64 0) registers (names_of window) physical_small n)) (own_within (names_of window) registers w n)) refl

  pub fresh_in_range : machine_in_range (fresh_machine s) ≡ true
  unfolding machine_in_range every_from
  fresh_in_range = both (both (both (accepted_in_range s accepted) (le-leb 0 s.window (omega arith))) tables) refl

pub statement : Statement
statement s accepted =
    let window = s.window in
    let registers = s.registers in
    let z = accepted_sizes s accepted in
    let a : registers - 31 ≡ suc (registers - 32) = omega arith in
    let b : window ≡ suc (window - 1) = omega arith in
    record {
      freeregisters = subst (λ (x : ℕ). Pool (rising_link registers) 32 (rising 32 x)) (sym a) (rising_pool registers z.registers_from z.registers_to (registers - 32) (omega arith));
      freenames = subst (λ (x : ℕ). Pool (rising_link (names_of window)) 32 (rising 32 x)) (sym b) (rising_pool (names_of window) (omega arith) (omega arith) (window - 1) (omega arith));
      inrange = fresh_in_range s accepted;
    }
