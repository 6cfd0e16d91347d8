-- The report, from the values that the general map shows after all entries were dropped.
use Prim.Native.Nat.{ℕ, zero, suc, ◌≤◌, ◌<◌}
use mathlib.Core.Path.{◌≡◌, refl, sym, ap, ◌∙◌}
use mathlib.Core.Bool.{true}
use mathlib.Core.List.{List}
use native.Mathlib.Omega.{arith}
use lib.ListN.{length, get_or}
use lib.Seq.{ext_get_or}
use Rattle.tables.specs.Table.{look_up}
use Rattle.tables.proofs.TableLaws.{look_zero}
use Rattle.tables.proofs.MapLaws.{map_registers, shown_register}
use Rattle.renaming.specs.Range.{machine_in_range}
use Rattle.renaming.specs.Drop.{drop_to}
use Rattle.renaming.specs.Report.{value_in, values_in}
use Rattle.window.specs.Report.{report_of}
use Rattle.renaming.specs.declared.Core.{Core}
use Rattle.renaming.proofs.TabulateLaws.{tabulate_length, tabulate_at}

-- x0 shows no register, and no register has value 0
zero_value_lem : (m : Core) → value_in m 0 ≡ 0
zero_value_lem m = ap (look_up m.values) (shown_register m.map 0 ∙ sym (look_zero (map_registers m.map) 0 refl)) ∙ sym (look_zero m.values 0 refl)

value_at : (m : Core) (registers : List ℕ) → get_or registers 0 0 ≡ 0 → ((r : ℕ) → 1 ≤ r → r < 32 → value_in m r ≡ get_or registers r 0) → (r : ℕ) → r < 32 → value_in m r ≡ get_or registers r 0
value_at m registers z f zero h = zero_value_lem m ∙ sym z
value_at m registers z f (suc r) h = f (suc r) (omega arith) h

pub values_are : (m : Core) (registers : List ℕ) → length registers ≡ 32 → get_or registers 0 0 ≡ 0 → ((r : ℕ) → 1 ≤ r → r < 32 → value_in m r ≡ get_or registers r 0) → values_in m ≡ registers
unfolding values_in
values_are m registers l z f =
    let n = tabulate_length 32 0 (value_in m) in
    ext_get_or 0 (values_in m) registers (n ∙ sym l) (λ r h. tabulate_at 32 r (value_in m) (omega arith) ∙ value_at m registers z f r (omega arith))

pub report_is : (m : Core) (registers : List ℕ) → machine_in_range m ≡ true → length registers ≡ 32 → get_or registers 0 0 ≡ 0
    → ((r : ℕ) → 1 ≤ r → r < 32 → value_in (drop_to 0 m) r ≡ get_or registers r 0) → report_of m ≡ record { registers = registers; number = 0 }
unfolding report_of
report_is m registers i l z f = rw i (ap (λ (v : List ℕ). record { registers = v; number = 0 }) (values_are (drop_to 0 m) registers l z f))
