-- Outcomes at a depth: a greater depth changes nothing, and outcomes are given back, where what is needed has less depth.
use Rattle.std.proofs.Common.{◌≡◌, ℕ, zero, suc, ◌<◌, ◌≤◌, arith, refl, sym, ◌∙◌, ap}
use Rattle.spaces.specs.Spaces.{Space}
use Rattle.values.specs.Asks.{Ask, basis, Answer, Answers, Right, gives, asks, asked_with}
use Rattle.values.specs.Values.{right_side, value_at, depth, depth_of}
use Rattle.values.specs.Outcomes.{Outcome, Outcomes, Limits, is_value, is_over, outcome_with, limited, unless_past, made_with, outcome_at, outcome, AreOutcomes, IsOutcomeOf}
use Rattle.values.proofs.Readings.{EachAsk, each_ask, outcome_at-of}
use Rattle.values.proofs.BasesAsks.{IsBasis, some-depth_of, basis-lower}

-- a reading depends on the outcomes of its own questions alone
module _ (answers : Answers) (first second : Outcomes) (same : (k : Ask) → IsOutcomeOf (answers k) (first k)) where
  pub outcome_with-agree : {A : Type 0} (r : Right A) → EachAsk (λ k. first k ≡ second k) (asked_with answers r)
      → outcome_with first r ≡ outcome_with second r
  outcome_with-agree (gives x) u = refl
  outcome_with-agree {A} (asks k then) u =
      by (first k) (same k) (outcome_with-agree (then (answers k)) u.1)
      ∙ ap (λ o. let from : Outcome A = elim o [ is_value v ↦ outcome_with second (then v) | is_over e ↦ is_over e ] in from) u.0
    where
      by : (o : Outcome (Answer k)) → IsOutcomeOf (answers k) o → outcome_with first (then (answers k)) ≡ outcome_with second (then (answers k))
          → (let from : Outcome A = elim o [ is_value v ↦ outcome_with first (then v) | is_over e ↦ is_over e ] in from)
          ≡ (let from : Outcome A = elim o [ is_value v ↦ outcome_with second (then v) | is_over e ↦ is_over e ] in from)
      by (is_value v) h ih = ap (λ w. outcome_with first (then w)) h ∙ ih ∙ ap (λ w. outcome_with second (then w)) (sym h)
      by (is_over e) h ih = refl

module _ (m : Limits) (p : ℕ) where
  -- outcomes made with two assignments that agree on what is asked
  pub made-agree : (answers : Answers) (first second : Outcomes) → ((k : Ask) → IsOutcomeOf (answers k) (first k)) → (k : Ask)
      → EachAsk (λ j. first j ≡ second j) (asked_with answers (right_side p k)) → made_with m p first k ≡ made_with m p second k
  made-agree answers first second same k u = ap (λ o. unless_past m k (limited m k o)) (outcome_with-agree answers first second same (right_side p k) u)

  module _ (Meant : Ask → Type 0) (some_depth : (k : Ask) → Meant k → 0 < depth_of k)
      (lower : (d : ℕ) (k : Ask) → Meant k → depth_of k ≤ suc d → EachAsk (λ j. Meant j × (depth_of j ≤ d)) (asked_with (value_at p d) (right_side p k))) where
    pub outcome_at-stable : (n d : ℕ) (k : Ask) → Meant k → depth_of k ≤ n → n ≤ d → outcome_at m p n k ≡ outcome_at m p d k
    outcome_at-stable zero d k e h l = let s : 0 < depth_of k = some_depth k e in absurd (omega arith)
    outcome_at-stable (suc n) zero k e h l = absurd (omega arith)
    outcome_at-stable (suc n) (suc d) k e h l =
        made-agree (value_at p n) (outcome_at m p n) (outcome_at m p d) (outcome_at-of m p n) k
        (each_ask (asked_with (value_at p n) (right_side p k)) (λ j g. outcome_at-stable n d j g.0 g.1 (let r : n ≤ d = omega arith in r)) (lower n k e h))

    pub outcome-AreOutcomes : AreOutcomes m p Meant (outcome m p)
    outcome-AreOutcomes k e = by (depth_of k) refl
      where
        by : (n : ℕ) → depth_of k ≡ n → outcome m p k ≡ made_with m p (outcome m p) k
        by zero r = let s : 0 < depth_of k = some_depth k e in absurd (omega (arith, r))
        by (suc n) r =
            ap (λ d. outcome_at m p d k) r
            ∙ made-agree (value_at p n) (outcome_at m p n) (outcome m p) (outcome_at-of m p n) k
            (each_ask (asked_with (value_at p n) (right_side p k))
            (λ j g. sym (outcome_at-stable (depth_of j) n j g.0 (let q : depth_of j ≤ depth_of j = omega arith in q) g.1))
            (lower n k e (let q : depth_of k ≤ suc n = omega (arith, r) in q)))

-- ---- bases

pub basis-outcome_back : (m : Limits) (p : ℕ) (a : Space) (n : ℕ) → outcome m p (basis a n) ≡ made_with m p (outcome m p) (basis a n)
basis-outcome_back m p a n = outcome-AreOutcomes m p IsBasis (some-depth_of p) (basis-lower p) (basis a n) tt

pub basis-outcome_deeper : (m : Limits) (p d : ℕ) (a : Space) (n : ℕ) → depth a n ≤ d → outcome_at m p d (basis a n) ≡ outcome m p (basis a n)
basis-outcome_deeper m p d a n l =
    sym (outcome_at-stable m p IsBasis (some-depth_of p) (basis-lower p) (depth a n) d (basis a n) tt (let r : depth a n ≤ depth a n = omega arith in r) l)
