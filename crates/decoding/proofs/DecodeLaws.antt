-- Decode, put together from its parts.
use Prim.Native.Nat.{ℕ, ◌<◌}
use mathlib.Core.Path.{◌≡◌, refl, ap}
use mathlib.Core.Bool.{false}
use mathlib.Core.List.{List, [], ◌∷◌}
use borrow.Author.Tests.{eq-eqb, leb-false}
use lib.Dec.{leb}
use Rattle.reference.specs.Step.{when}
use Rattle.tables.specs.Table.{store_under}
use Rattle.renaming.specs.declared.Core.{Core}
use Rattle.renaming.specs.Call.{halted, lent_refusal, answered}
use Rattle.renaming.specs.Changes.{map_to}
use Rattle.decoding.specs.Decode.{decode_refusal, name_for, renamed, decoded, decode_within, decode_of}
use Rattle.renaming.proofs.RefusalLaws.{passed, own_next}

-- a decode that is not refused has a place
pub has_place : (m : Core) → decode_refusal m ≡ 0 → m.count < m.setup.window
unfolding decode_refusal
has_place m e = leb-false m.setup.window m.count (passed (leb m.setup.window m.count) 11 [] refl (passed (halted m) 10 (when (leb m.setup.window m.count) 11 ∷ []) refl e).1).0

-- without a destination no name is taken
pub renamed_none : (m : Core) (destination name : ℕ) → destination ≡ 0 → name ≡ name_for m destination → map_to destination name 0 false m ≡ renamed destination name m
unfolding store_under
renamed_none m destination name z e = rw (e, eq-eqb destination 0 z)

pub decode_lent : (program memory : List ℕ) (guess : ℕ) (m : Core) → lent_refusal m program memory ≡ 0 → decode_within program guess m ≡ decode_of program memory guess m
unfolding decode_within decode_of
decode_lent program memory guess m e = ap (λ (n : ℕ). answered m n (decoded program guess m)) (own_next (lent_refusal m program memory) (decode_refusal m) e)
