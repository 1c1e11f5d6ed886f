-- The leading place of a vector.
use Rattle.std.proofs.Common.{◌≡◌, ℕ, zero, suc, ◌<◌, ◌≤◌, [], ◌∷◌, length, refl, ap, arith}
use Rattle.echelons.specs.Echelon.{Vector, at_place, zeros, lead}

pub before-lead : (v : Vector) (i : ℕ) → i < lead v → at_place v i ≡ 0
before-lead [] i l = refl
before-lead (zero ∷ v) zero l = refl
before-lead (zero ∷ v) (suc i) l = before-lead v i (omega arith)
before-lead (suc a ∷ v) i l = absurd (omega arith)

pub lead-within : (v : Vector) → lead v ≤ length v
lead-within [] = omega arith
lead-within (zero ∷ v) = omega (arith, lead-within v)
lead-within (suc a ∷ v) = omega arith

pub lead-positive : (v : Vector) → lead v < length v → 0 < at_place v (lead v)
lead-positive [] l = absurd (omega arith)
lead-positive (zero ∷ v) l = lead-positive v (omega arith)
lead-positive (suc a ∷ v) l = omega arith

-- the first place that is not 0
pub lead-is : (v : Vector) (j : ℕ) → ((i : ℕ) → i < j → at_place v i ≡ 0) → 0 < at_place v j → lead v ≡ j
lead-is [] j before l = absurd (omega arith)
lead-is (zero ∷ v) zero before l = absurd (omega arith)
lead-is (zero ∷ v) (suc j) before l = ap suc (lead-is v j (λ i h. before (suc i) (omega arith)) l)
lead-is (suc a ∷ v) zero before l = refl
lead-is (suc a ∷ v) (suc j) before l = let e : suc a ≡ 0 = before 0 (omega arith) in absurd (omega arith)

pub lead-in : (v : Vector) (j : ℕ) → 0 < at_place v j → j < length v
lead-in [] j l = absurd (omega arith)
lead-in (a ∷ v) zero l = omega arith
lead-in (a ∷ v) (suc j) l = omega (arith, lead-in v j l)

pub lead-zeros : (w : ℕ) → lead (zeros w) ≡ w
lead-zeros zero = refl
lead-zeros (suc w) = ap suc (lead-zeros w)

-- a vector without a leading place is 0
pub zeros-from_lead : (w : ℕ) (v : Vector) → length v ≡ w → lead v ≡ w → v ≡ zeros w
zeros-from_lead zero [] e l = refl
zeros-from_lead zero (a ∷ v) e l = absurd (omega arith)
zeros-from_lead (suc w) [] e l = absurd (omega arith)
zeros-from_lead (suc w) (zero ∷ v) e l = ap (λ u. 0 ∷ u) (zeros-from_lead w v (omega arith) (omega arith))
zeros-from_lead (suc w) (suc a ∷ v) e l = absurd (omega arith)
