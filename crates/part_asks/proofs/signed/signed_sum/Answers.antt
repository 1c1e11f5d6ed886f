use Rattle.std.proofs.Common.{◌++◌, refl, ◌∙◌, subst}
use Rattle.std.proofs.lemmas.Result.{IfOk-weaker}
use Rattle.fp_field.specs.Field.{number, sign, SameMod}
use Rattle.fp_field.specs.Chains.{scale}
use Rattle.tensor_red.proofs.AlikeChains.{alike_sum, alike_multiple, alike_normal, normal_of, itself}
use Rattle.part_asks.proofs.signed.signed_sum.Goals as goal

pub returns-clause-sum : goal.returns-clause-sum
returns-clause-sum g c = IfOk-weaker c.sum_of.result _ _ (λ s e.
    normal_of g.K.Ord.cmp c.requires.one_key g.met.K.Ord.total c.args.first.prime s.terms (c.args.first.terms ++ c.scale.new.self.terms)
    (c.args.first.terms ++ scale (sign (number c.args.first.prime) c.args.degree) c.args.second.terms) c.args.first.prime e refl
    (alike_sum (number c.args.first.prime) c.args.first.terms c.scale.new.self.terms c.args.first.terms (scale (sign (number c.args.first.prime) c.args.degree) c.args.second.terms)
    (itself (number c.args.first.prime) c.args.first.terms) (λ w.
    alike_normal g.K.Ord.cmp c.requires.one_key c.args.first.prime c.args.second.prime c.scale.new.self.terms (scale c.sign_of.result.value c.args.second.terms) c.scale.ensures.terms c.requires.prime w
    ∙ alike_multiple (number c.args.first.prime) c.sign_of.result.value (sign (number c.args.first.prime) c.args.degree) c.args.second.terms c.args.second.terms
    (subst (λ q. SameMod (number q) c.sign_of.result.value (sign (number q) c.args.degree)) c.prime.ensures c.sign_of.ensures.value) (itself (number c.args.first.prime) c.args.second.terms) w))) c.sum_of.ensures.sum
