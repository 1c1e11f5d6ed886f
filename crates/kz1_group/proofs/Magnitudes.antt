-- Magnitudes of the integers of a list, of its faces and of its normal form.
use Rattle.std.proofs.Common.{◌≡◌, ℕ, zero, suc, ◌+◌, ◌*◌, ◌^◌, ◌<◌, ◌≤◌, List, [], ◌∷◌, length, get_or, ℤ, ◌+ℤ◌, refl, sym, ◌∙◌, ap, arith}
use Rattle.std.specs.Prelude.{nat_abs}
use Rattle.std.proofs.lemmas.Int.{ints}
use Rattle.spaces.specs.Nerves.{integers, nerve_face}
use Rattle.spaces.specs.Spaces.{Space, Plain, kz1, set_of}
use Rattle.values.specs.Sizes.{greatest, integer}
use Rattle.cells.specs.declared.cells.Cell.TheVariants.{Ints}
use Rattle.term_lang.specs.Degenerated.{degenerated}
use Rattle.oracle_iface.specs.CodeSizes.{cell_integer}
use Rattle.oracle_iface.proofs.SizeRules.{integer_ints}
use Rattle.oracle_iface.proofs.SizesAgree.{integer_kept}
use Rattle.kz1_group.specs.Summable.{IsSummable}

below_greatest : (x : List ℤ) (k : ℕ) (d : ℤ) → k < length x → nat_abs (get_or x k d) ≤ greatest nat_abs x
below_greatest [] k d h = absurd (omega arith)
below_greatest (a ∷ x) zero d h = omega arith
below_greatest (a ∷ x) (suc k) d h = omega (arith, below_greatest x k d (omega arith))

pub summable : (x : List ℤ) → greatest nat_abs x ≤ 2 ^ 40 → IsSummable x
summable x h k d l = omega (arith, below_greatest x k d l)

sum_within : (a b : ℤ) → nat_abs (a +ℤ b) ≤ nat_abs a + nat_abs b
sum_within a b = omega (arith, ints)

pub face_within : (i : ℕ) (x : List ℤ) → greatest nat_abs (nerve_face integers i x) ≤ 2 * greatest nat_abs x
face_within i [] = omega arith
face_within zero (a ∷ x) = omega arith
face_within (suc zero) (a ∷ []) = omega arith
face_within (suc zero) (a ∷ (b ∷ x)) = omega (arith, sum_within a b)
face_within (suc (suc i)) (a ∷ x) = omega (arith, face_within (suc i) x)

-- degeneracies keep the magnitudes
degenerated_within : (X : Space) (w : List ℕ) (x : Plain X) → integer X (degenerated (set_of X) w x) ≡ integer X x
degenerated_within X [] x = refl
degenerated_within X (j ∷ w) x = integer_kept X j (degenerated (set_of X) w x) ∙ degenerated_within X w x

-- the magnitude of a list is that of what it makes with any word
pub within_list : (w : List ℕ) (c x : List ℤ) → degenerated (set_of kz1) w c ≡ x → cell_integer (Ints c) ≡ greatest nat_abs x
within_list w c x e = integer_ints c ∙ sym (degenerated_within kz1 w c) ∙ ap (greatest nat_abs) e
