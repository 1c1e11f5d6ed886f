-- The outcome of a question under limits: its value, or the first question past a limit, with the kind and the size.
--
-- Right sides are read in the order of evaluation. The first answer that is a refusal is the outcome; so a question's outcome is its
-- value exactly where no cell and no value on the way is past a limit. `MadeOver` is the same with some outcomes given from outside.
use Rattle.std.specs.Prelude.{◌≡◌, ℕ, zero, suc, true, false, nat_lt, List, [], ◌∷◌, Option, Some, None, ◌⊎◌}
use Rattle.values.specs.Asks.{Ask, Answer, Right, gives, asks}
use Rattle.values.specs.Sizes.{Size, place_size, answer_size}
use Rattle.values.specs.Values.{right_side, depth_of}

pub data Kind : Type 0 where
  of_letters : Kind
  of_integer : Kind
  of_terms : Kind

pub record Over : Type 0 where
  pub question : Ask
  pub kind : Kind
  pub size : ℕ

pub data Outcome (A : Type 0) : Type 0 where
  is_value : A → Outcome A
  is_over : Over → Outcome A

-- the limits of a session
pub record Limits : Type 0 where
  pub letters : ℕ
  pub integer : ℕ
  pub terms : ℕ

-- the limits of 64 letters, 100,000 and 50,000 terms
abbrev pub usual_limits : Limits
usual_limits = record { letters = 64; integer = 100000; terms = 50000 }

-- the first limit that a size is past: letters, then integer, then terms
abbrev pub first_past : Limits → Ask → Size → Option Over
first_past m k s =
    elim (nat_lt m.letters s.letters) [
      | true ↦ Some (record { question = k; kind = of_letters; size = s.letters })
      | false ↦ elim (nat_lt m.integer s.integer) [
        | true ↦ Some (record { question = k; kind = of_integer; size = s.integer })
        | false ↦ elim (nat_lt m.terms s.terms) [
          | true ↦ Some (record { question = k; kind = of_terms; size = s.terms })
          | false ↦ None
        ]
      ]
    ]

abbrev pub Outcomes : Type 0
Outcomes = (k : Ask) → Outcome (Answer k)

-- a right side read with outcomes: the first refusal, or the value
abbrev pub outcome_with : {A : Type 0} → Outcomes → Right A → Outcome A
outcome_with outcomes (gives a) = is_value a
outcome_with outcomes (asks k then) = elim (outcomes k) [ is_value v ↦ outcome_with outcomes (then v) | is_over o ↦ is_over o ]

-- the refusal of an outcome
abbrev pub over_of : {A : Type 0} → Outcome A → Option Over
over_of (is_value v) = None
over_of (is_over o) = Some o

-- the first refusal along a list of questions
abbrev pub first_over : Outcomes → List Ask → Option Over
first_over outcomes [] = None
first_over outcomes (k ∷ ks) = elim (over_of (outcomes k)) [ Some o ↦ Some o | None ↦ first_over outcomes ks ]

abbrev pub refused_or : {A : Type 0} → Option Over → A → Outcome A
refused_or (Some o) v = is_over o
refused_or None v = is_value v

-- an outcome is a refusal or this value
abbrev pub IsOutcomeOf : {A : Type 0} → A → Outcome A → Type 0
IsOutcomeOf v (is_value u) = u ≡ v
IsOutcomeOf v (is_over o) = Unit {0}

module _ (m : Limits) where
  -- an outcome, unless its value is past a limit
  abbrev pub limited : (k : Ask) → Outcome (Answer k) → Outcome (Answer k)
  limited k (is_over o) = is_over o
  limited k (is_value v) = elim (first_past m k (answer_size k v)) [ Some o ↦ is_over o | None ↦ is_value v ]

  -- an outcome, unless what the question is about is past a limit
  abbrev pub unless_past : (k : Ask) → Outcome (Answer k) → Outcome (Answer k)
  unless_past k o = elim (first_past m k (place_size k)) [ Some e ↦ is_over e | None ↦ o ]

  module _ (p : ℕ) where
    -- what the rule gives for k when the outcomes of the questions that it asks are these
    abbrev pub made_with : Outcomes → Outcomes
    made_with outcomes k = unless_past k (limited k (outcome_with outcomes (right_side p k)))

    abbrev pub outcome_at : ℕ → Outcomes
    outcome_at zero k = is_over (record { question = k; kind = of_terms; size = 0 })
    outcome_at (suc d) k = made_with (outcome_at d) k

    -- Out(k). A depth of 0 is never reached from `depth_of`.
    abbrev pub outcome : Outcomes
    outcome k = outcome_at (depth_of k) k

    -- the outcomes are those that the rules give back, at the questions that are meant
    abbrev pub AreOutcomes : (Ask → Type 0) → Outcomes → Type 0
    AreOutcomes Meant outcomes = (k : Ask) → Meant k → outcomes k ≡ made_with outcomes k

    -- ---- outcomes that are made from given ones

    -- o is read from a right side when each answer is an outcome that the relation has
    abbrev pub ReadFrom : ((k : Ask) → Outcome (Answer k) → Type 0) → {A : Type 0} → Right A → Outcome A → Type 0
    ReadFrom Has (gives a) o = o ≡ is_value a
    ReadFrom Has {A} (asks k then) o =
        ((v : Answer k) × Has k (is_value v) × ReadFrom Has (then v) o) ⊎ ((e : Over) × Has k (is_over e) × (o ≡ is_over e))

    -- o is past the limit on what k is about, or else what reading the rule of k gives, under the limits on values
    abbrev pub ReadUnless : Option Over → ((k : Ask) → Outcome (Answer k) → Type 0) → (k : Ask) → Outcome (Answer k) → Type 0
    ReadUnless (Some e) Has k o = o ≡ is_over e
    ReadUnless None Has k o = (e : Outcome (Answer k)) × (o ≡ limited k e) × ReadFrom Has (right_side p k) e

    -- made over the pairs L, at most d questions deep
    abbrev pub MadeWithin : ((k : Ask) → Outcome (Answer k) → Type 0) → ℕ → (k : Ask) → Outcome (Answer k) → Type 0
    MadeWithin L zero k o = ⊥
    MadeWithin L (suc d) k o = ReadUnless (first_past m k (place_size k)) (λ j u. L j u ⊎ MadeWithin L d j u) k o

    -- o is made over the pairs L for k
    abbrev pub MadeOver : ((k : Ask) → Outcome (Answer k) → Type 0) → (k : Ask) → Outcome (Answer k) → Type 0
    MadeOver L k o = (d : ℕ) × MadeWithin L d k o
