-- The machine of an accepted set-up has the invariant, with the in-order run at its origin.
use Prim.Native.Nat.{ℕ, zero, suc, ◌+◌, ◌-◌, ◌≤◌, ◌<◌}
use mathlib.Core.Path.{◌≡◌, refl, ap, sym, ◌∙◌}
use mathlib.Core.Logic.{◌≢◌}
use mathlib.Core.List.{List, [], ◌++◌}
use native.Mathlib.Omega.{arith}
use native.Mathlib.Decide.{dec_lt}
use native.Mathlib.Nat.{add-suc, zero-add}
use lib.ListN.{length, get_or, replicate, length-replicate, length-append, get_or-append, get_or-eq_default}
use lib.Seq.{get_or-append-add}
use Rattle.reference.specs.Step.{read_register}
use Rattle.tables.specs.FreeList.{occurrences, Pool}
use Rattle.tables.proofs.TableLaws.{look_within}
use Rattle.renaming.specs.SetUp.{own_numbers, rising_next, rising_link, fresh_machine}
use Rattle.ranges.specs.Sizes.{set_up_refusal}
use Rattle.ranges.specs.declared.Setup.{Setup}
use Rattle.renaming.specs.Statement.{rising, Fresh}
use Rattle.renaming.proofs.TabulateLaws.{tabulate_length, tabulate_at}
use Rattle.ranges.proofs.SizeLaws.{Sizes, accepted_sizes}
use Rattle.renaming.proofs.FreshInRange.{statement}
use Rattle.agreement.specs.Lists.{origin}
use Rattle.agreement.proofs.View.{View, view_of}
use Rattle.agreement.proofs.Ghost.{Ghost}
use Rattle.agreement.proofs.Chains.{RenameChain, last_names, ExecutionChain, last_state}
use Rattle.std.specs.List.{All}
use Rattle.std.proofs.lemmas.List.Elements.{All-nil, All-cons}
use Rattle.agreement.proofs.Contents.{ShownIn, HoldsIn, GeneralMap}
use Rattle.agreement.proofs.Pools.{RegisterPool, NamePool, Live}
use Rattle.agreement.proofs.Invariant.{Accounting, Invariant}
use Rattle.agreement.proofs.Tests.{equal, apart, eq?}
use Rattle.agreement.proofs.Counting.{count_append, count_none}
use Rattle.agreement.proofs.Steps.{read_zero, read_some}
use Rattle.agreement.proofs.Rising.{rising_length, rising_at, rising_below, rising_past, rising_within, zeros_none, zeros_all, zeros_at, own_rising}

-- the physical map: names 1 to 31 have the registers of their numbers
abbrev physical : List ℕ
physical = own_numbers ++ replicate 64 0

own_at : (r : ℕ) → r < 32 → get_or own_numbers r 0 ≡ r
own_at r h = ap (λ (l : List ℕ). get_or l r 0) own_rising ∙ rising_at 0 32 r h ∙ zero-add r

own_length : length own_numbers ≡ 32
own_length = refl

zeros_length : (n : ℕ) → length (replicate {A = ℕ} n 0) ≡ n
zeros_length n = length-replicate {A = ℕ} n 0

physical_is : physical ≡ rising 0 32 ++ replicate 64 0
physical_is = ap (λ (l : List ℕ). l ++ replicate 64 0) own_rising

physical_length : length physical ≡ 96
physical_length = omega (arith, length-append own_numbers (replicate 64 0), zeros_length 64, own_length)

physical_low : (r : ℕ) → r < 32 → get_or physical r 0 ≡ r
physical_low r h = get_or-append own_numbers (replicate 64 0) 0 r h ∙ own_at r h

physical_high : (j : ℕ) → get_or physical (32 + j) 0 ≡ 0
physical_high j = get_or-append-add own_numbers (replicate 64 0) j 0 ∙ zeros_at 64 j

physical_count : (k : ℕ) → k ≢ 0 → occurrences k physical ≡ occurrences k (rising 0 32)
physical_count k z = omega (arith, ap (occurrences k) physical_is, count_append k (rising 0 32) (replicate 64 0), zeros_none k 64 z)

physical_zero : occurrences 0 physical ≡ 65
physical_zero = omega (arith, ap (occurrences 0) physical_is, count_append 0 (rising 0 32) (replicate 64 0), zeros_all 64, rising_within 0 0 32 (omega arith) (omega arith))

-- the chains
link_length : (last : ℕ) → length (rising_link last) ≡ 96
unfolding rising_link
link_length last = tabulate_length 96 0 (rising_next last)

link_zero : (last : ℕ) → get_or (rising_link last) 0 0 ≡ 0
unfolding rising_link
link_zero last = tabulate_at 96 0 (rising_next last) (omega arith)

link_outside : (last : ℕ) (free : List ℕ) (head : ℕ) → Pool (rising_link last) head free → (k : ℕ) → occurrences k free ≡ 0 → get_or (rising_link last) k 0 ≡ 0
link_outside last free head pool k o = elim (eq? k 0) [ equal e t ↦ rw e (link_zero last) | apart e t ↦ look_within (rising_link last) k e ∙ pool.outside k o ]

module _ (s : Setup) (sizes : Sizes s) (fresh : Fresh s) where
  abbrev window : ℕ
  window = s.window

  abbrev registers : ℕ
  registers = s.registers

  abbrev c : View
  c = view_of (fresh_machine s)

  register_pool_lem : RegisterPool registers physical 32 (rising_link registers) (rising 32 (registers - 31))
  register_pool_lem =
      record {
        spells = fresh.freeregisters.spells;
        once = λ k a b. once k a b (dec_lt k 32);
        beyond = λ k a. omega (arith, sizes.registers_from, physical_count k (omega arith), rising_past k 0 32 (omega (arith, sizes.registers_from)), rising_past k 32 (registers - 31) (omega (arith, sizes.registers_from)));
        zero_free = rising_below 0 32 (registers - 31) (omega arith);
        zero_link = link_zero registers;
        count = omega (arith, physical_length, physical_zero, rising_length 32 (registers - 31), sizes.registers_from);
        bound = sizes.registers_to;
        room = link_length registers;
        outside = link_outside registers (rising 32 (registers - 31)) 32 fresh.freeregisters;
      }
    where
      once : (k : ℕ) → 1 ≤ k → k ≤ registers → Dec (k < 32) → occurrences k (rising 32 (registers - 31)) + occurrences k physical ≡ 1
      once k a b (yes y) = omega (arith, physical_count k (omega arith), rising_within k 0 32 (omega arith) (omega arith), rising_below k 32 (registers - 31) y)
      once k a b (no y) =
          omega (arith, physical_count k (omega arith), rising_past k 0 32 (omega arith), rising_within k 32 (registers - 31) (omega arith) (omega (arith, sizes.registers_from)))

  name_pool_lem : NamePool window own_numbers [] 32 (rising_link (31 + window)) (rising 32 window)
  name_pool_lem =
      record {
        spells = fresh.freenames.spells;
        once = λ k a b. once k a b (dec_lt k 32);
        beyond = λ k a. omega (arith, own k, count_none k, rising_past k 0 32 (omega arith), rising_past k 32 window (omega arith));
        zero_free = rising_below 0 32 window (omega arith);
        zero_link = link_zero (31 + window);
        zero_name = refl;
        count = omega (arith, rising_length 32 window, count_none 0);
        bound = sizes.window_to;
        room = link_length (31 + window);
        outside = link_outside (31 + window) (rising 32 window) 32 fresh.freenames;
      }
    where
      own : (k : ℕ) → occurrences k own_numbers ≡ occurrences k (rising 0 32)
      own k = ap (occurrences k) own_rising

      once : (k : ℕ) → 1 ≤ k → k ≤ 31 + window → Dec (k < 32) → occurrences k (rising 32 window) + occurrences k own_numbers + occurrences k [] ≡ 1
      once k a b (yes y) = omega (arith, own k, count_none k, rising_within k 0 32 (omega arith) (omega arith), rising_below k 32 window y)
      once k a b (no y) = omega (arith, own k, count_none k, rising_past k 0 32 (omega arith), rising_within k 32 window (omega arith) (omega arith))

  unused_from : (j n : ℕ) → All (λ k. get_or physical k 0 ≡ 0) (rising (32 + j) n)
  unfolding rising
  unused_from j zero = All-nil (λ k. get_or physical k 0 ≡ 0)
  unused_from j (suc n) = All-cons (λ k. get_or physical k 0 ≡ 0) (32 + j) (rising (suc (32 + j)) n) (physical_high j) (rw (← add-suc 32 j) (unused_from (suc j) n))

  live : Live physical own_numbers [] (rising 32 window)
  live =
      record {
        kept = λ r a b z. omega (arith, ap (λ (x : ℕ). get_or physical x 0) (own_at r b) ∙ physical_low r b, z);
        unused = unused_from 0 window;
        count = omega (arith, physical_length, physical_zero, count_none 0);
      }

  general : GeneralMap physical own_numbers own_numbers
  general = record { gives = λ r. at r (dec_lt r 32); size = own_length }
    where
      at : (r : ℕ) → Dec (r < 32) → get_or own_numbers r 0 ≡ get_or physical (get_or own_numbers r 0) 0
      at r (yes h) = own_at r h ∙ sym (ap (λ (x : ℕ). get_or physical x 0) (own_at r h) ∙ physical_low r h)
      at r (no h) =
          let z : get_or own_numbers r 0 ≡ 0 = get_or-eq_default own_numbers 0 {n = r} (omega (arith, own_length)) in
          z ∙ sym (ap (λ (x : ℕ). get_or physical x 0) z ∙ physical_low 0 (omega arith))

  -- every name stands for 0
  abbrev g : Ghost
  g = record { value = replicate 96 0; writer = rising 0 96 }

  accounting : Accounting g own_numbers c
  unfolding RenameChain last_names
  accounting =
      record {
        free_registers = rising 32 (registers - 31);
        free_names = rising 32 window;
        writers = record { writers = λ r b. ap (λ (x : ℕ). get_or (rising 0 96) x 0) (own_at r b) ∙ rising_at 0 96 r (omega arith) ∙ zero-add r; size = own_length };
        renamed = tt;
        contents = record {
          shown = All-nil (ShownIn physical);
          holds = All-nil (HoldsIn physical);
          valued = record { held = λ k h. zeros_at 96 (get_or physical k 0) ∙ sym (zeros_at 96 k); zero_register = physical_low 0 (omega arith); zero_value = zeros_at 96 0 };
        };
        register_pool = register_pool_lem;
        name_pool = name_pool_lem;
        live = live;
        shows = refl;
        general = general;
        physical_room = physical_length;
        values_room = zeros_length 96;
        value_room = zeros_length 96;
        writer_room = rising_length 0 96;
        enough = sizes.registers_from;
        some = sizes.window_from;
        within = omega arith;
      }

zero_read : (n r : ℕ) → read_register (replicate n 0) r ≡ 0
zero_read n r = elim (eq? r 0) [ equal e t ↦ rw e (read_zero (replicate n 0)) | apart e t ↦ read_some (replicate n 0) r e ∙ zeros_at n r ]

pub start : (s : Setup) → set_up_refusal s ≡ 0 → (p memory : List ℕ) → Invariant p (origin memory) (view_of (fresh_machine s))
unfolding ExecutionChain last_state
start s accepted p memory =
    let sizes = accepted_sizes s accepted in
    let fresh = statement s accepted in
    record {
      ghost = g s sizes fresh;
      committed = own_numbers;
      accounting = accounting s sizes fresh;
      agree = record { values = λ r b. zeros_at 96 (get_or own_numbers r 0) ∙ sym (zero_read 32 r); size = zeros_length 32 };
      executed = tt;
      next = refl;
      fetching = refl;
    }
