use Rattle.std.proofs.Common.{◌++◌, [], ◌∷◌, sym, ◌∙◌, ap, subst}
use Rattle.homology_rules.specs.Asking.{first_refusal, up_to_refusal, EachAnswered, IsAnswered}
use Rattle.homology_rules.proofs.Through.{whole-through}
use Rattle.session_core.specs.KeyedParts.{cycles_key_of}
use Rattle.session_core.proofs.keyed_parts.ask_cycles.Goals as goal

pub returns-in-Over-clause-answer : goal.returns-in-Over-clause-answer
returns-in-Over-clause-answer g c = (
  sym (ap first_refusal (c.deref.ensures.value ∙ c.in_ok-push.ensures.items ∙ (λ i. c.new-keys.ensures.items i ++ c.in_ok-cycles_key.ensures i ∷ []))) ∙ subst (λ x. IsAnswered g.F.Forcer.forces c.deref.result.now c.args.forcer.now c.ask_all.new.forcer x) c.in-Over.is c.in_ok-over.ensures.answers,
  subst (λ ks. EachAnswered g.F.Forcer.forces c.args.forcer.now (up_to_refusal ks) c.ask_all.new.forcer) (c.deref.ensures.value ∙ c.in_ok-push.ensures.items ∙ (λ i. c.new-keys.ensures.items i ++ c.in_ok-cycles_key.ensures i ∷ [])) c.in_ok-over.ensures.through,
)

pub returns-clause-answer : goal.returns-clause-answer
returns-clause-answer g c =
    let all = subst (λ x. IsAnswered g.F.Forcer.forces c.deref.result.now c.args.forcer.now c.ask_all.new.forcer x) c.in-Values.is c.in_ok-over.ensures.answers in
    let none = sym (ap first_refusal (c.deref.ensures.value ∙ c.in_ok-push.ensures.items ∙ (λ i. c.new-keys.ensures.items i ++ c.in_ok-cycles_key.ensures i ∷ []))) ∙ all.none_refused in (
      none,
      tt,
      whole-through g.F.Forcer.forces (cycles_key_of c.args.key.now c.args.n ∷ []) c.args.forcer.now c.ask_all.new.forcer none
          (subst (λ ks. EachAnswered g.F.Forcer.forces c.args.forcer.now (up_to_refusal ks) c.ask_all.new.forcer) (c.deref.ensures.value ∙ c.in_ok-push.ensures.items ∙ (λ i. c.new-keys.ensures.items i ++ c.in_ok-cycles_key.ensures i ∷ [])) c.in_ok-over.ensures.through),
    )
