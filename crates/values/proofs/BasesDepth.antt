-- Values and outcomes are given back, and a greater depth changes nothing, where what is needed for the values has less depth.
use Rattle.std.proofs.Common.{◌≡◌, ℕ, zero, suc, ◌<◌, ◌≤◌, arith, List, [], ◌∷◌, sym, ◌∙◌, ap}
use Rattle.std.specs.Prelude.{Contains}
use Rattle.values.specs.Asks.{Ask, basis, small_d, f, g, h, cycles, value_with}
use Rattle.values.specs.Values.{right_side, value_at, value, depth_of, needs, IsValues}
use Rattle.values.specs.Outcomes.{Limits, limited, unless_past, made_with, outcome_at, outcome, AreOutcomes}
use Rattle.spaces.specs.SmallCells.{small_degree}
use Rattle.values.proofs.Readings.{EachAsk, each_ask, value_with-agree, outcome-of}
use Rattle.values.proofs.BasesLists.{contains_of, every_member, Every}
use Rattle.values.proofs.BasesAsks.{some-depth}
use Rattle.values.proofs.BasesOutcomes.{outcome_with-agree}

some-depth_of : (k : Ask) → 0 < depth_of k
some-depth_of (basis a n) = some-depth a n
some-depth_of (small_d a y) = some-depth a (small_degree a y)
some-depth_of (f a n x) = some-depth a n
some-depth_of (g a y) = some-depth a (small_degree a y)
some-depth_of (h a n x) = some-depth a n
some-depth_of (cycles a n) = omega arith

-- from membership to a fact of each question
pub each-asked : (P : Ask → Type 0) (ks : List Ask) → ((j : Ask) → Contains ks j → P j) → EachAsk P ks
each-asked P ks u = along ks (every_member P ks (λ j m. u j (contains_of ks j m)))
  where
    along : (js : List Ask) → Every P js → EachAsk P js
    along [] v = tt
    along (j ∷ js) v = (v.0, along js v.1)

module _ (p : ℕ) (Meant : Ask → Type 0) (less : (k : Ask) → Meant k → EachAsk (λ j. Meant j × (depth_of j < depth_of k)) (needs p k)) where
  -- at each depth that suffices the value is what the right side gives
  value_at-is : (n : ℕ) (k : Ask) → Meant k → depth_of k ≤ n → (d : ℕ) → depth_of k ≤ d → value_at p d k ≡ value_with (value p) (right_side p k)
  value_at-is n k m l zero s = let q = some-depth_of k in absurd (omega (arith, q))
  value_at-is zero k m l (suc d) s = let q = some-depth_of k in absurd (omega (arith, q))
  value_at-is (suc n) k m l (suc d) s =
      sym (value_with-agree (value p) (value_at p d) (right_side p k)
      (each_ask (needs p k)
      (λ j e. value_at-is n j e.0 (under e.1 l) (depth_of j) (itself j) ∙ sym (value_at-is n j e.0 (under e.1 l) d (under e.1 s))) (less k m)))
    where
      under : {i j b : ℕ} → i < j → j ≤ suc b → i ≤ b
      under u v = omega arith

      itself : (j : Ask) → depth_of j ≤ depth_of j
      itself j = omega arith

  at_itself : (k : Ask) → depth_of k ≤ depth_of k
  at_itself k = omega arith

  pub given-back : IsValues p Meant (value p)
  given-back k m = value_at-is (depth_of k) k m (at_itself k) (depth_of k) (at_itself k)

  pub deeper-same : (k : Ask) → Meant k → (d : ℕ) → depth_of k ≤ d → value_at p d k ≡ value p k
  deeper-same k m d l = value_at-is (depth_of k) k m (at_itself k) d l ∙ sym (given-back k m)

  module _ (limits : Limits) where
    outcome_at-is : (n : ℕ) (k : Ask) → Meant k → depth_of k ≤ n → (d : ℕ) → depth_of k ≤ d
        → outcome_at limits p d k ≡ made_with limits p (outcome limits p) k
    outcome_at-is n k m l zero s = let q = some-depth_of k in absurd (omega (arith, q))
    outcome_at-is zero k m l (suc d) s = let q = some-depth_of k in absurd (omega (arith, q))
    outcome_at-is (suc n) k m l (suc d) s =
        sym (ap (λ o. unless_past limits k (limited limits k o))
        (outcome_with-agree (value p) (outcome limits p) (outcome_at limits p d) (outcome-of limits p) (right_side p k)
        (each_ask (needs p k)
        (λ j e. outcome_at-is n j e.0 (under e.1 l) (depth_of j) (itself j) ∙ sym (outcome_at-is n j e.0 (under e.1 l) d (under e.1 s))) (less k m))))
      where
        under : {i j b : ℕ} → i < j → j ≤ suc b → i ≤ b
        under u v = omega arith

        itself : (j : Ask) → depth_of j ≤ depth_of j
        itself j = omega arith

    pub outcome-back : AreOutcomes limits p Meant (outcome limits p)
    outcome-back k m = outcome_at-is (depth_of k) k m (at_itself k) (depth_of k) (at_itself k)

    pub outcome-deeper_same : (k : Ask) → Meant k → (d : ℕ) → depth_of k ≤ d → outcome_at limits p d k ≡ outcome limits p k
    outcome-deeper_same k m d l = outcome_at-is (depth_of k) k m (at_itself k) d l ∙ sym (outcome-back k m)
