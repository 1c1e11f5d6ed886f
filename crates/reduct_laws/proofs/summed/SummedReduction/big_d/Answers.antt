use Rattle.std.proofs.Common.{refl, ◌∙◌, ap}
use Rattle.fp_field.specs.Field.{number}
use Rattle.fp_field.specs.Normal.{normal}
use Rattle.chain_core.proofs.AskLemmas.{part_of_whole}
use Rattle.reduct_laws.specs.declared.sides.Side.TheVariants.{Left, Right}
use Rattle.reduct_laws.proofs.AskSteps.{asked_exit}
use Rattle.reduct_laws.proofs.RelabelSteps.{relabel-is}
use Rattle.reduct_laws.proofs.SideOrder.{sides_total, sides_one_key}
use Rattle.reduct_laws.proofs.summed.SummedReduction.big_d.Goals as goal

pub returns-in_err-lefts-in-Left-clause-source : goal.returns-in_err-lefts-in-Left-clause-source
returns-in_err-lefts-in-Left-clause-source g c =
    asked_exit g.S.Source.can_ask g.S.Source.runs g.S.Source.refusal g.S.Source.runs_both g.A.Stop.Stops.refused _ _ _ c.from_residual-in_err-lefts-in-Left.result c.from_residual-in_err-lefts-in-Left.ensures.1 (λ e is.
    rw (g.met.A.Stop.Stops.memory _ _ is, c.in-Left.is) (part_of_whole g.S.Source.can_ask g.S.Source.runs g.S.Source.refusal g.S.Source.runs_both _ _ _ c.in_ok-big_d-in-Left.ensures.source))

pub returns-in_err-rights-in-Right-clause-source : goal.returns-in_err-rights-in-Right-clause-source
returns-in_err-rights-in-Right-clause-source g c =
    asked_exit g.S.Source.can_ask g.S.Source.runs g.S.Source.refusal g.S.Source.runs_both g.A.Stop.Stops.refused _ _ _ c.from_residual-in_err-rights-in-Right.result c.from_residual-in_err-rights-in-Right.ensures.1 (λ e is.
    rw (g.met.A.Stop.Stops.memory _ _ is, c.in-Right.is) (part_of_whole g.S.Source.can_ask g.S.Source.runs g.S.Source.refusal g.S.Source.runs_both _ _ _ c.in_ok-big_d-in-Right.ensures.source))

pub returns-in_ok-lefts-in-Left-clause-value : goal.returns-in_ok-lefts-in-Left-clause-value
returns-in_ok-lefts-in-Left-clause-value g c =
    rw c.in-Left.is
    (relabel-is Left _
    (sides_one_key _ g.A.Big.Ord.cmp g.B.Big.Ord.cmp (λ x y. refl) (λ x y. refl) (λ x y. refl) (λ x y. refl) g.met.A.Big.Ord.total g.met.B.Big.Ord.total g.met.A.Reduction.one_big g.met.B.Reduction.one_big)
    (sides_total _ g.A.Big.Ord.cmp g.B.Big.Ord.cmp (λ x y. refl) (λ x y. refl) (λ x y. refl) (λ x y. refl) g.met.A.Big.Ord.total g.met.B.Big.Ord.total)
    (g.A.Reduction.prime_of c.args.self.now.left) g.A.Big.Ord.cmp g.met.A.Reduction.one_big c.in_ok-lefts-in-Left.field-0.terms c.in_ok-big_d-in-Left.field-0.terms
    ((g.A.Reduction.maps c.args.self.now.left).big.d c.in-Left.x) c.in_ok-big_d-in-Left.field-0.prime c.in_ok-lefts-in-Left.ensures.terms c.in_ok-big_d-in-Left.ensures.prime c.in_ok-big_d-in-Left.ensures.value)

pub returns-in_ok-rights-in-Right-clause-value : goal.returns-in_ok-rights-in-Right-clause-value
returns-in_ok-rights-in-Right-clause-value g c =
    rw c.in-Right.is
    (relabel-is Right _
    (sides_one_key _ g.A.Big.Ord.cmp g.B.Big.Ord.cmp (λ x y. refl) (λ x y. refl) (λ x y. refl) (λ x y. refl) g.met.A.Big.Ord.total g.met.B.Big.Ord.total g.met.A.Reduction.one_big g.met.B.Reduction.one_big)
    (sides_total _ g.A.Big.Ord.cmp g.B.Big.Ord.cmp (λ x y. refl) (λ x y. refl) (λ x y. refl) (λ x y. refl) g.met.A.Big.Ord.total g.met.B.Big.Ord.total)
    (g.A.Reduction.prime_of c.args.self.now.left) g.B.Big.Ord.cmp g.met.B.Reduction.one_big c.in_ok-rights-in-Right.field-0.terms c.in_ok-big_d-in-Right.field-0.terms
    ((g.B.Reduction.maps c.args.self.now.right).big.d c.in-Right.x) c.in_ok-big_d-in-Right.field-0.prime c.in_ok-rights-in-Right.ensures.terms (c.in_ok-big_d-in-Right.ensures.prime ∙ c.requires.key.0)
    (c.in_ok-big_d-in-Right.ensures.value ∙ ap (λ q. normal g.B.Big.Ord.cmp (number q) ((g.B.Reduction.maps c.args.self.now.right).big.d c.in-Right.x)) c.requires.key.0))
