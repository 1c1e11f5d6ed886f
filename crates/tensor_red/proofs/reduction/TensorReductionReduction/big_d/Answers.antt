use Rattle.std.proofs.Common.{refl}
use Rattle.chain_core.proofs.AskLemmas.{MayAsk-rest, until_first, until_after, AskedAll-both, part_of_whole}
use Rattle.fp_field.specs.Field.{number}
use Rattle.fp_field.specs.Reduction.{one}
use Rattle.reduct_laws.proofs.AskSteps.{asked_exit}
use Rattle.tensor_red.specs.Tensors.{tensors}
use Rattle.tensor_red.specs.TensorOrder.{tensor_cmp, one_tensor, tensor_total}
use Rattle.tensor_red.proofs.AlikeChains.{alike_normal, products_are, itself}
use Rattle.tensor_red.proofs.reduction.TensorReductionReduction.big_d.Goals as goal

pub returns-in_err-left-clause-source : goal.returns-in_err-left-clause-source
returns-in_err-left-clause-source g c =
    asked_exit g.S.Source.can_ask g.S.Source.runs g.S.Source.refusal g.S.Source.runs_both g.A.Stop.Stops.refused _ _ _ c.from_residual.result c.from_residual.ensures.1 (λ e is.
    rw is (until_first g.S.Source.can_ask g.S.Source.runs g.S.Source.refusal g.S.Source.runs_both _ _ _ _ (g.A.Stop.Stops.refused c.in_err-left.field-0.0) c.in_err-left.ensures.source))

pub big_d-requires-2-clause-source : goal.big_d-requires-2-clause-source
big_d-requires-2-clause-source g c = MayAsk-rest g.S.Source.can_ask g.S.Source.runs g.S.Source.refusal g.S.Source.runs_both _ _ _ _ c.requires.source c.in_ok-left.ensures.source.ran

pub returns-in_err-right-clause-source : goal.returns-in_err-right-clause-source
returns-in_err-right-clause-source g c =
    asked_exit g.S.Source.can_ask g.S.Source.runs g.S.Source.refusal g.S.Source.runs_both g.A.Stop.Stops.refused _ _ _ c.from_residual-in_err-right.result c.from_residual-in_err-right.ensures.1 (λ e is.
    rw is (until_after g.S.Source.can_ask g.S.Source.runs g.S.Source.refusal g.S.Source.runs_both _ _ _ _ _ (g.A.Stop.Stops.refused c.in_err-right.field-0.0) c.in_ok-left.ensures.source c.in_err-right.ensures.source))

pub returns-in_err-boundary-clause-source : goal.returns-in_err-boundary-clause-source
returns-in_err-boundary-clause-source g c =
    asked_exit g.S.Source.can_ask g.S.Source.runs g.S.Source.refusal g.S.Source.runs_both g.A.Stop.Stops.refused _ _ _ c.from_residual-in_err-boundary.result c.from_residual-in_err-boundary.ensures.1 (λ e is.
    rw (g.met.A.Stop.Stops.memory _ _ is)
    (part_of_whole g.S.Source.can_ask g.S.Source.runs g.S.Source.refusal g.S.Source.runs_both _ _ _ (AskedAll-both g.S.Source.can_ask g.S.Source.runs g.S.Source.refusal g.S.Source.runs_both _ _ _ _ _ c.in_ok-left.ensures.source c.in_ok-right.ensures.source)))

pub returns-clause-source : goal.returns-clause-source
returns-clause-source g c = AskedAll-both g.S.Source.can_ask g.S.Source.runs g.S.Source.refusal g.S.Source.runs_both _ _ _ _ _ c.in_ok-left.ensures.source c.in_ok-right.ensures.source

pub returns-clause-value : goal.returns-clause-value
returns-clause-value g c =
    products_are (tensor_cmp g.A.Big.Ord.cmp g.B.Big.Ord.cmp) (one_tensor g.A.Big.Ord.cmp g.B.Big.Ord.cmp g.met.A.Reduction.one_big g.met.B.Reduction.one_big)
    (tensor_total g.A.Big.Ord.cmp g.B.Big.Ord.cmp g.met.A.Big.Ord.total g.met.B.Big.Ord.total) (g.A.Reduction.prime_of c.args.self.now.left) tensors
    c.in_ok-boundary.field-0.terms c.in_ok-left.left.prime (g.A.Reduction.degree_of c.args.self.now.left c.args.x.now.left)
    c.in_ok-left.left.terms ((g.A.Reduction.maps c.args.self.now.left).big.d c.args.x.now.left) (one c.args.x.now.left) (one c.args.x.now.left)
    (one c.args.x.now.right) (one c.args.x.now.right) c.in_ok-right.right.terms ((g.B.Reduction.maps c.args.self.now.right).big.d c.args.x.now.right)
    (rw c.degree.ensures at c.in_ok-boundary.ensures.sum) c.in_ok-left.ensures.prime
    (alike_normal g.A.Big.Ord.cmp g.met.A.Reduction.one_big (g.A.Reduction.prime_of c.args.self.now.left) (g.A.Reduction.prime_of c.args.self.now.left) c.in_ok-left.left.terms ((g.A.Reduction.maps c.args.self.now.left).big.d c.args.x.now.left) c.in_ok-left.ensures.value refl)
    (itself (number (g.A.Reduction.prime_of c.args.self.now.left)) (one c.args.x.now.right)) (itself (number (g.A.Reduction.prime_of c.args.self.now.left)) (one c.args.x.now.left))
    (alike_normal g.B.Big.Ord.cmp g.met.B.Reduction.one_big (g.A.Reduction.prime_of c.args.self.now.left) (g.B.Reduction.prime_of c.args.self.now.right) c.in_ok-right.right.terms ((g.B.Reduction.maps c.args.self.now.right).big.d c.args.x.now.right) c.in_ok-right.ensures.value c.requires.key.0)
