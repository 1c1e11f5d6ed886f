-- The outcome of the code for that of a question; the outcome of a key, and what a rule makes of the outcomes of the keys that it asks.
--
-- The limits are 64 letters of a word, 100,000 for the magnitude of an integer, and 50,000 terms.
--
--   H of |60000| over F_2 in K(Z,1) is over, in terms, with the size 59,999
use Rattle.std.specs.Prelude.{◌≡◌, Option, Some, None}
use Rattle.fp_field.specs.declared.prime.Prime.{Prime}
use Rattle.fp_field.specs.Field.{number}
use Rattle.values.specs.Asks.{Ask, Answer}
use Rattle.values.specs.Values.{right_side}
use Rattle.values.specs.Outcomes.{usual_limits, outcome, outcome_with, made_with, is_value, is_over, of_letters, of_integer, of_terms, Kind as KindOf, Over as OverOf, Outcome as OutcomeOf}
use Rattle.oracle_iface.specs.declared.keys.Key.{Key}
use Rattle.oracle_iface.specs.declared.bodies.Kind.{Kind}
use Rattle.oracle_iface.specs.declared.bodies.Kind.TheVariants.{Letters, Integer, Terms}
use Rattle.oracle_iface.specs.declared.bodies.Over.{Over}
use Rattle.oracle_iface.specs.declared.bodies.Outcome.{Outcome}
use Rattle.oracle_iface.specs.declared.bodies.Outcome.TheVariants.{Value, Over as IsOver}
use Rattle.oracle_iface.specs.Keys.{question_of, key_of, quote_body}

abbrev pub quote_kind : KindOf → Kind
quote_kind of_letters = Letters
quote_kind of_integer = Integer
quote_kind of_terms = Terms

-- the refusal of the code, over a prime
abbrev pub quote_over : Prime → OverOf → Over
quote_over p e = record { key = key_of p e.question; kind = quote_kind e.kind; size = e.size }

-- the outcome of the code, over a prime
abbrev pub quote_outcome : Prime → (q : Ask) → OutcomeOf (Answer q) → Outcome
quote_outcome p q (is_value v) = Value (quote_body p q v)
quote_outcome p q (is_over e) = IsOver (quote_over p e)

-- the outcome of a key: its value, or the first refusal on the way to it
abbrev pub IsOutcome : Key → Outcome → Type 0
IsOutcome k o = o ≡ quote_outcome k.prime (question_of k) (outcome usual_limits (number k.prime) (question_of k))

-- what the rule of a key gives when the questions that it asks have their outcomes
abbrev pub IsMade : Key → Outcome → Type 0
IsMade k o = o ≡ quote_outcome k.prime (question_of k) (made_with usual_limits (number k.prime) (outcome usual_limits (number k.prime)) (question_of k))

-- the same without the limits on its own cell and value
abbrev pub IsRead : Key → Outcome → Type 0
IsRead k o =
    o ≡ quote_outcome k.prime (question_of k) (outcome_with (outcome usual_limits (number k.prime)) (right_side (number k.prime) (question_of k)))

abbrev pub refusal_in : {A : Type 0} → Prime → OutcomeOf A → Option Over
refusal_in p (is_value v) = None
refusal_in p (is_over e) = Some (quote_over p e)

-- the refusal that a key meets
abbrev pub refusal_of : Key → Option Over
refusal_of k = refusal_in k.prime (outcome usual_limits (number k.prime) (question_of k))
