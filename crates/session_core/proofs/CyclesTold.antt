-- The cell of the listed cycles of a degree, against what they are told as.
use Rattle.std.proofs.Common.{◌≡◌, ℕ, true, List, map, Some, sym, ◌∙◌, ap, subst}
use Rattle.fp_field.specs.declared.prime.Prime.{Prime}
use Rattle.fp_field.specs.Field.{number}
use Rattle.fp_field.specs.Chains.{Terms}
use Rattle.chain_core.specs.Formal.{Formal}
use Rattle.cells.specs.declared.cells.Cell.{Cell}
use Rattle.term_lang.specs.declared.terms.Term.{Term}
use Rattle.term_lang.specs.SpaceOf.{space_of}
use Rattle.values.specs.Asks.{cycles, Cell as GradedCell}
use Rattle.values.specs.Outcomes.{usual_limits, outcome, Outcome as OutcomeOf, is_value, is_over}
use Rattle.oracle_iface.specs.declared.keys.Key.{Key}
use Rattle.oracle_iface.specs.declared.bodies.Body.{Body}
use Rattle.oracle_iface.specs.declared.bodies.Body.TheVariants.{Many}
use Rattle.oracle_iface.specs.declared.bodies.Over.{Over}
use Rattle.oracle_iface.specs.declared.bodies.Outcome.{Outcome}
use Rattle.oracle_iface.specs.declared.bodies.Outcome.TheVariants.{Value, Over as IsOver}
use Rattle.oracle_iface.specs.Keys.{key_of}
use Rattle.oracle_iface.specs.Stands.{IsOutcome, quote_outcome, quote_over, quote_kind}
use Rattle.reply_text.specs.declared.refusals.Refusal.TheVariants as refusals
use Rattle.session_core.specs.Answer.{Told, told, refused, ◌>>◌, printed}
use Rattle.session_core.specs.Telling.{cycles_key, told_cycles, refused_by, is_many}

module _ (p : Prime) (t : Term) (n : ℕ) where
  abbrev Chains : Type 0
  Chains = List (Terms (GradedCell (space_of t)))

  -- what an outcome of the question is told as
  abbrev told_so : OutcomeOf Chains → Told (List (Formal Cell))
  told_so o =
      elim (elim o as (λ _. OutcomeOf Chains) [ is_value v ↦ is_value v | is_over e ↦ is_over e ]) as (λ _. Told Chains) [
        | is_value v ↦ told v
        | is_over e ↦ refused (refusals.Over (Some (key_of p e.question)) (quote_kind e.kind) e.size)
      ] >> λ zs. told (map (printed p t n) zs)

  abbrev the_outcome : OutcomeOf Chains
  the_outcome = outcome usual_limits (number p) (cycles (space_of t) n)

  value_so : (o : OutcomeOf Chains) (zs : List (Formal Cell)) → Value (Many zs) ≡ quote_outcome p (cycles (space_of t) n) o → told_so o ≡ told zs
  value_so (is_value v) zs e = let f : zs ≡ map (printed p t n) v = cc in ap told (sym f)
  value_so (is_over w) zs e = absurd (cc e)

  over_so : (o : OutcomeOf Chains) (w : Over) → IsOver w ≡ quote_outcome p (cycles (space_of t) n) o → told_so o ≡ refused (refused_by w)
  over_so (is_value v) w e = absurd (cc e)
  over_so (is_over x) w e = let f : w ≡ quote_over p x = cc in ap (λ u. refused (refused_by u)) (sym f)

  outcome_so : (k : Key) (body : Outcome) → k ≡ cycles_key p t n → IsOutcome k body → body ≡ quote_outcome p (cycles (space_of t) n) the_outcome
  outcome_so k body e is = subst (λ x. IsOutcome x body) e is

  pub cycles_told : (k : Key) (body : Outcome) (zs : List (Formal Cell)) → k ≡ cycles_key p t n → IsOutcome k body → body ≡ Value (Many zs) → told_cycles p t n ≡ told zs
  cycles_told k body zs e is f = value_so the_outcome zs (sym f ∙ outcome_so k body e is)

  pub cycles_over : (k : Key) (body : Outcome) (w : Over) → k ≡ cycles_key p t n → IsOutcome k body → body ≡ IsOver w → told_cycles p t n ≡ refused (refused_by w)
  cycles_over k body w e is f = over_so the_outcome w (sym f ∙ outcome_so k body e is)

  many_so : (o : OutcomeOf Chains) (b : Body) → Value b ≡ quote_outcome p (cycles (space_of t) n) o → is_many b ≡ true
  many_so (is_value v) b e = let f : b ≡ Many (map (printed p t n) v) = cc in ap is_many f
  many_so (is_over w) b e = absurd (cc e)

  pub cycles_many : (k : Key) (body : Outcome) (b : Body) → k ≡ cycles_key p t n → IsOutcome k body → body ≡ Value b → is_many b ≡ true
  cycles_many k body b e is f = many_so the_outcome b (sym f ∙ outcome_so k body e is)
