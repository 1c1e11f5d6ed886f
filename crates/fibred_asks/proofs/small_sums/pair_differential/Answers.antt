use Rattle.std.proofs.Common.{◌++◌, ◌∙◌, ap, subst}
use Rattle.std.proofs.lemmas.Result.{IfOk-weaker}
use Rattle.fp_field.specs.Field.{number, sign, SameMod}
use Rattle.fp_field.specs.Chains.{scale}
use Rattle.chain_core.specs.Formal.{numbers}
use Rattle.cells.specs.Laws.{small_total}
use Rattle.cells.specs.Small.{small_cmp}
use Rattle.cells.proofs.OneSmall.{one_small}
use Rattle.ez_laws.specs.Sides.{on_keys}
use Rattle.tensor_red.proofs.AlikeChains.{alike_multiple, alike_normal, normal_of, itself}
use Rattle.fibred_asks.specs.Transferred.{with_left, with_right}
use Rattle.fibred_asks.proofs.SmallSteps.{three-alike}
use Rattle.fibred_asks.proofs.small_sums.pair_differential.Goals as goal

pub from_terms-requires-clause-one_key : goal.from_terms-requires-clause-one_key
from_terms-requires-clause-one_key c = one_small

pub returns-clause-sum : goal.returns-clause-sum
returns-clause-sum c = IfOk-weaker c.from_terms.result _ _ (λ r e.
    normal_of small_cmp one_small small_total c.args.of_left.prime r.terms (numbers c.push_with_left.new.pairs.items)
    (on_keys (with_right c.args.z.now) c.args.of_left.terms ++ scale (sign (number c.args.of_left.prime) c.args.degree) (on_keys (with_left c.args.y.now) c.args.of_right.terms) ++ c.args.twisted.terms)
    c.prime-p.result e c.prime-p.ensures (λ w.
    three-alike (number c.args.of_left.prime) (sign (number c.args.of_left.prime) c.args.degree) w (with_left c.args.y.now) (numbers c.push_with_left.new.pairs.items)
    (on_keys (with_right c.args.z.now) c.args.of_left.terms) c.args.twisted.terms c.scale.new.self.terms c.args.of_right.terms
    (c.in_ok-push_with_left.ensures.pairs ∙ ap (λ x. x ++ on_keys (with_left c.args.y.now) c.scale.new.self.terms)
    (c.in_ok-push_with_right.ensures.pairs ∙ ap (λ x. x ++ on_keys (with_right c.args.z.now) c.args.of_left.terms) c.into_terms-pairs.ensures.terms))
    (λ v.
    alike_normal small_cmp one_small c.args.of_left.prime c.args.of_right.prime c.scale.new.self.terms (scale c.sign_of.result.value c.args.of_right.terms) c.scale.ensures.terms c.requires.right_prime v
    ∙ alike_multiple (number c.args.of_left.prime) c.sign_of.result.value (sign (number c.args.of_left.prime) c.args.degree) c.args.of_right.terms c.args.of_right.terms
    (subst (λ q. SameMod (number q) c.sign_of.result.value (sign (number q) c.args.degree)) c.prime-p.ensures c.sign_of.ensures.value) (itself (number c.args.of_left.prime) c.args.of_right.terms) v)))
    c.from_terms.ensures.sum
