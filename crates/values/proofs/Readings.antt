-- Readings of right sides: what one reading says of another.
use Rattle.std.proofs.Common.{◌≡◌, ℕ, zero, suc, ◌<◌, ◌≤◌, arith, List, [], ◌∷◌, ◌++◌, refl, sym, ◌∙◌, ap, subst}
use Rattle.std.specs.Prelude.{Option, Some, None}
use Rattle.values.specs.Asks.{Ask, Answer, Answers, Right, gives, asks, ◌>>=◌, value_with, asked_with}
use Rattle.values.specs.Sizes.{place_size, answer_size}
use Rattle.values.specs.Values.{right_side, value_at, value, depth_of, needs, IsValues}
use Rattle.values.specs.Outcomes.{Outcome, Outcomes, Over, Limits, is_value, is_over, outcome_with, limited, unless_past, first_past, outcome_at, outcome, first_over, over_of, refused_or, IsOutcomeOf}

module _ (answers : Answers) where
  -- a right side after another: the value of the second at the value of the first
  pub value_with-bind : {A B : Type 0} (m : Right A) (next : A → Right B)
      → value_with answers (m >>= next) ≡ value_with answers (next (value_with answers m))
  value_with-bind (gives a) next = refl
  value_with-bind (asks k then) next = value_with-bind (then (answers k)) next

  -- its questions are those of the first and then those of the second
  pub asked_with-bind : {A B : Type 0} (m : Right A) (next : A → Right B)
      → asked_with answers (m >>= next) ≡ asked_with answers m ++ asked_with answers (next (value_with answers m))
  asked_with-bind (gives a) next = refl
  asked_with-bind (asks k then) next = ap (λ ks. k ∷ ks) (asked_with-bind (then (answers k)) next)

-- a fact of each question of a list
abbrev pub EachAsk : (Ask → Type 0) → List Ask → Type 0
EachAsk P [] = Unit {0}
EachAsk P (k ∷ ks) = P k × EachAsk P ks

-- A reading depends on the answers to its own questions alone: so values with the same right sides are the same, by induction on ranks.
module _ (a b : Answers) where
  pub value_with-agree : {A : Type 0} (r : Right A) → EachAsk (λ k. a k ≡ b k) (asked_with a r) → value_with a r ≡ value_with b r
  value_with-agree (gives x) h = refl
  value_with-agree (asks k then) h = value_with-agree (then (a k)) h.1 ∙ ap (λ v. value_with b (then v)) h.0

  pub asked_with-agree : {A : Type 0} (r : Right A) → EachAsk (λ k. a k ≡ b k) (asked_with a r) → asked_with a r ≡ asked_with b r
  asked_with-agree (gives x) h = refl
  asked_with-agree (asks k then) h = ap (λ ks. k ∷ ks) (asked_with-agree (then (a k)) h.1 ∙ ap (λ v. asked_with b (then v)) h.0)

-- ---- outcomes

-- Reading a right side with outcomes: the first refusal along the questions that its value needs, or else the value.
module _ (answers : Answers) (outcomes : Outcomes) (same : (k : Ask) → IsOutcomeOf (answers k) (outcomes k)) where
  pub outcome_with-first : {A : Type 0} (r : Right A)
      → outcome_with outcomes r ≡ refused_or (first_over outcomes (asked_with answers r)) (value_with answers r)
  outcome_with-first (gives a) = refl
  outcome_with-first {A} (asks k then) = by (outcomes k) (same k) (outcome_with-first (then (answers k)))
    where
      by : (o : Outcome (Answer k)) → IsOutcomeOf (answers k) o
          → outcome_with outcomes (then (answers k))
          ≡ refused_or (first_over outcomes (asked_with answers (then (answers k)))) (value_with answers (then (answers k)))
          → (let from : Outcome A = elim o [ is_value v ↦ outcome_with outcomes (then v) | is_over e ↦ is_over e ] in from)
          ≡ refused_or (elim (over_of o) [ Some e ↦ Some e | None ↦ first_over outcomes (asked_with answers (then (answers k))) ])
          (value_with answers (then (answers k)))
      by (is_value v) h ih = ap (λ u. outcome_with outcomes (then u)) h ∙ ih
      by (is_over e) h ih = refl

-- ---- the values are determined

pub each_ask : {P Q : Ask → Type 0} (ks : List Ask) → ((k : Ask) → P k → Q k) → EachAsk P ks → EachAsk Q ks
each_ask [] f h = h
each_ask (k ∷ ks) f h = (f k h.0, each_ask ks f h.1)

-- Two assignments that the right sides give back agree on all questions that are meant, where these need only lower ones.
module _ (right_side : (k : Ask) → Right (Answer k)) (Meant : Ask → Type 0) (rank : Ask → ℕ) (a b : Answers)
    (given_a : (k : Ask) → Meant k → a k ≡ value_with a (right_side k))
    (given_b : (k : Ask) → Meant k → b k ≡ value_with b (right_side k))
    (lower : (k : Ask) → Meant k → EachAsk (λ j. Meant j × (rank j < rank k)) (asked_with a (right_side k))) where
  pub values-determined : (n : ℕ) (k : Ask) → Meant k → rank k < n → a k ≡ b k
  values-determined zero k m h = absurd (omega arith)
  values-determined (suc n) k m h =
      given_a k m
      ∙ value_with-agree a b (right_side k)
      (each_ask (asked_with a (right_side k)) (λ j e. values-determined n j e.0 (let l : rank j < n = below j e.1 in l)) (lower k m))
      ∙ sym (given_b k m)
    where
      below : (j : Ask) → rank j < rank k → rank j < n
      below j l = omega arith

-- ---- outcomes and values

-- outcomes of these answers give an outcome of the value
outcome_with-of : (answers : Answers) (outcomes : Outcomes) → ((k : Ask) → IsOutcomeOf (answers k) (outcomes k))
    → {A : Type 0} (r : Right A) → IsOutcomeOf (value_with answers r) (outcome_with outcomes r)
outcome_with-of answers outcomes same (gives a) = refl
outcome_with-of answers outcomes same {A} (asks k then) = by (outcomes k) (same k) (outcome_with-of answers outcomes same (then (answers k)))
  where
    by : (o : Outcome (Answer k)) → IsOutcomeOf (answers k) o
        → IsOutcomeOf (value_with answers (then (answers k))) (outcome_with outcomes (then (answers k)))
        → IsOutcomeOf (value_with answers (then (answers k))) (let from : Outcome A = elim o [ is_value v ↦ outcome_with outcomes (then v) | is_over e ↦ is_over e ] in from)
    by (is_value v) h ih =
        subst (λ u. IsOutcomeOf (value_with answers (then (answers k))) (outcome_with outcomes (then u))) (sym h) ih
    by (is_over e) h ih = tt

limited-of : (m : Limits) (k : Ask) (v : Answer k) (o : Outcome (Answer k)) → IsOutcomeOf v o → IsOutcomeOf v (limited m k o)
limited-of m k v (is_over e) h = tt
limited-of m k v (is_value u) h = by (first_past m k (answer_size k u))
  where
    by : (e : Option Over) → IsOutcomeOf v (let from : Outcome (Answer k) = elim e [ Some x ↦ is_over x | None ↦ is_value u ] in from)
    by (Some x) = tt
    by None = h

unless_past-of : (m : Limits) (k : Ask) (v : Answer k) (o : Outcome (Answer k)) → IsOutcomeOf v o → IsOutcomeOf v (unless_past m k o)
unless_past-of m k v o h = by (first_past m k (place_size k))
  where
    by : (e : Option Over) → IsOutcomeOf v (let from : Outcome (Answer k) = elim e [ Some x ↦ is_over x | None ↦ o ] in from)
    by (Some x) = tt
    by None = h

-- the outcome of a question is its value or a refusal
pub outcome_at-of : (m : Limits) (p d : ℕ) (k : Ask) → IsOutcomeOf (value_at p d k) (outcome_at m p d k)
outcome_at-of m p zero k = tt
outcome_at-of m p (suc d) k =
    unless_past-of m k (value_at p (suc d) k) _ (limited-of m k (value_at p (suc d) k) _
    (outcome_with-of (value_at p d) (outcome_at m p d) (outcome_at-of m p d) (right_side p k)))

pub outcome-of : (m : Limits) (p : ℕ) (k : Ask) → IsOutcomeOf (value p k) (outcome m p k)
outcome-of m p k = outcome_at-of m p (depth_of k) k

-- FirstOver: a rule with these outcomes gives the first refusal along what is needed, or else the value
pub made-first : (m : Limits) (p : ℕ) (k : Ask)
    → outcome_with (outcome m p) (right_side p k) ≡ refused_or (first_over (outcome m p) (needs p k)) (value_with (value p) (right_side p k))
made-first m p k = outcome_with-first (value p) (outcome m p) (outcome-of m p) (right_side p k)

-- ---- depth: the values are given back, where what is needed has less depth

module _ (p : ℕ) (Meant : Ask → Type 0) (some_depth : (k : Ask) → Meant k → 0 < depth_of k)
    (lower : (d : ℕ) (k : Ask) → Meant k → depth_of k ≤ suc d → EachAsk (λ j. Meant j × (depth_of j ≤ d)) (asked_with (value_at p d) (right_side p k))) where
  -- at a depth that suffices, a greater one gives the same
  pub value_at-stable : (n d : ℕ) (k : Ask) → Meant k → depth_of k ≤ n → n ≤ d → value_at p n k ≡ value_at p d k
  value_at-stable zero d k m h l = let s : 0 < depth_of k = some_depth k m in absurd (omega arith)
  value_at-stable (suc n) zero k m h l = absurd (omega arith)
  value_at-stable (suc n) (suc d) k m h l =
      value_with-agree (value_at p n) (value_at p d) (right_side p k)
      (each_ask (asked_with (value_at p n) (right_side p k)) (λ j e. value_at-stable n d j e.0 e.1 (let g : n ≤ d = omega arith in g)) (lower n k m h))

  pub value-IsValues : IsValues p Meant (value p)
  value-IsValues k m = by (depth_of k) refl
    where
      by : (n : ℕ) → depth_of k ≡ n → value p k ≡ value_with (value p) (right_side p k)
      by zero e = let s : 0 < depth_of k = some_depth k m in absurd (omega (arith, e))
      by (suc n) e =
          ap (λ d. value_at p d k) e
          ∙ value_with-agree (value_at p n) (value p) (right_side p k)
          (each_ask (asked_with (value_at p n) (right_side p k))
          (λ j g. sym (value_at-stable (depth_of j) n j g.0 (let r : depth_of j ≤ depth_of j = omega arith in r) g.1))
          (lower n k m (let r : depth_of k ≤ suc n = omega (arith, e) in r)))
