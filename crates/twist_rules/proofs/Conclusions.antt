-- The outcome of a key, from what the right side of its rule comes to.
use Rattle.std.proofs.Common.{◌≡◌, Option, Some, None, List, refl, sym, ◌∙◌, ap, subst}
use Rattle.std.proofs.lemmas.List.Elements.{recursion_from_All}
use Rattle.fp_field.specs.Field.{number}
use Rattle.term_lang.specs.SpaceOf.{space_of}
use Rattle.values.specs.Asks.{Ask, Answer}
use Rattle.values.specs.Outcomes.{usual_limits, outcome, outcome_with, limited, first_over, refused_or, is_value, is_over, Over as OverOf, Outcome as OutcomeOf}
use Rattle.values.specs.Values.{right_side, needs}
use Rattle.values.proofs.Readings.{made-first}
use Rattle.oracle_iface.specs.declared.keys.Key.{Key}
use Rattle.oracle_iface.specs.declared.bodies.Body.{Body}
use Rattle.oracle_iface.specs.declared.bodies.Over.{Over}
use Rattle.oracle_iface.specs.declared.bodies.Outcome.{Outcome}
use Rattle.oracle_iface.specs.declared.bodies.Outcome.TheVariants.{Value, Over as IsOver}
use Rattle.oracle_iface.specs.KeyLaws.{IsReadBack}
use Rattle.oracle_iface.specs.Keys.{question_of, needs_of, quote_body, IsValidKey}
use Rattle.oracle_iface.specs.Limits.{kind_past, limited_body}
use Rattle.oracle_iface.specs.Stands.{quote_outcome, quote_over, IsOutcome}
use Rattle.oracle_iface.proofs.CyclesNeeds.{key-space}
use Rattle.homology_rules.specs.Asking.{first_refusal}
use Rattle.homology_rules.proofs.CyclesRead.{quoted, quoted-none, quoted-some, refusals}
use Rattle.susp_rules.specs.Places.{size_at}
use Rattle.susp_rules.specs.Suspendable.{IsOutcomeBack}
use Rattle.susp_rules.proofs.RuleLimits.{limited-value, outcome-within}
use Rattle.twist_laws.specs.Assembled.{IsLoopless}
use Rattle.twist_laws.proofs.LooplessValues.{loopless-outcome_back}
use Rattle.part_asks.specs.declared.found.Found.TheVariants.{Value as FoundValue, Over as FoundOver}
use Rattle.part_asks.specs.Reading.{value_of}
use Rattle.twist_rules.specs.Concluded.{keys_needed, IsFoundFor, NeedsReadBack, IsUnrefused}

pub loopless-back : (k : Key) → IsLoopless (space_of k.term) → IsOutcomeBack k
loopless-back k u = loopless-outcome_back (number k.prime) usual_limits (question_of k) (subst IsLoopless (sym (key-space k)) u)

-- where none of the keys is refused, each outcome is one
pub unrefused : (ks : List Key) → first_refusal ks ≡ None → (o : Outcome) → IsUnrefused ks o
unrefused ks e (Value b) = e
unrefused ks e (IsOver w) = tt

module _ (k : Key) (is : IsValidKey k) (u : IsLoopless (space_of k.term)) (back : NeedsReadBack k) where
  abbrev q : Ask
  q = question_of k

  -- what reading the right side with outcomes gives
  abbrev made : OutcomeOf (Answer q)
  made = outcome_with (outcome usual_limits (number k.prime)) (right_side (number k.prime) q)

  abbrev refusal : Option OverOf
  refusal = first_over (outcome usual_limits (number k.prime)) (needs (number k.prime) q)

  refusal-is : first_refusal (keys_needed k) ≡ quoted k refusal
  refusal-is = refusals k (needs_of k) (recursion_from_All (IsReadBack k.prime) (needs_of k) back)

  made-is : quote_outcome k.prime q (refused_or refusal (value_of k.prime (right_side (number k.prime) q))) ≡ quote_outcome k.prime q made
  made-is = ap (quote_outcome k.prime q) (sym (made-first usual_limits (number k.prime) q))

  read-value : (b : Body) → IsFoundFor k (FoundValue b) → Value b ≡ quote_outcome k.prime q made
  read-value b h = ap (λ c. Value c) h.1 ∙ by refusal (sym refusal-is ∙ h.0) ∙ made-is
    where
      v : Answer q
      v = value_of k.prime (right_side (number k.prime) q)

      by : (r : Option OverOf) → quoted k r ≡ None → Value (quote_body k.prime q (value_of k.prime (right_side (number k.prime) q))) ≡ quote_outcome k.prime q (refused_or r (value_of k.prime (right_side (number k.prime) q)))
      by None e = refl
      by (Some w) e = absurd (let f : Some (quote_over k.prime w) ≡ None = sym (quoted-some k w) ∙ e in cc)

  read-over : (w : Over) → IsFoundFor k (FoundOver w) → IsOver w ≡ quote_outcome k.prime q made
  read-over w h = by refusal (sym refusal-is ∙ h) ∙ made-is
    where
      by : (r : Option OverOf) → quoted k r ≡ Some w → IsOver w ≡ quote_outcome k.prime q (refused_or r (value_of k.prime (right_side (number k.prime) q)))
      by None e = absurd (let f : None ≡ Some w = sym (quoted-none k) ∙ e in cc)
      by (Some x) e = let f : Some (quote_over k.prime x) ≡ Some w = sym (quoted-some k x) ∙ e in cc

  -- a refusal stays under the limits on values
  over-limited : (e : OutcomeOf (Answer q)) (w : Over) → IsOver w ≡ quote_outcome k.prime q e → IsOver w ≡ quote_outcome k.prime q (limited usual_limits q e)
  over-limited (is_value v) w h = absurd (cc)
  over-limited (is_over o) w h = h

  module _ (within : kind_past (size_at k.place) ≡ None) where
    pub conclude-value : (b : Body) (o : Outcome) → IsFoundFor k (FoundValue b) → o ≡ limited_body k b → IsOutcome k o
    conclude-value b o h e = outcome-within k is (loopless-back k u) within o (limited-value k is b (read-value b h) o e)

    pub conclude-over : (w : Over) → IsFoundFor k (FoundOver w) → IsOutcome k (IsOver w)
    conclude-over w h = outcome-within k is (loopless-back k u) within (IsOver w) (over-limited made w (read-over w h))
