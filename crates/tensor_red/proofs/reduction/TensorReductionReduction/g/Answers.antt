use Rattle.std.proofs.Common.{refl}
use Rattle.chain_core.proofs.AskLemmas.{MayAsk-rest, until_first, until_after, AskedAll-both, part_of_whole}
use Rattle.reduct_laws.proofs.AskSteps.{asked_exit}
use Rattle.tensor_red.specs.Tensors.{tensors}
use Rattle.tensor_red.specs.TensorOrder.{tensor_cmp, one_tensor, tensor_total}
use Rattle.tensor_red.proofs.AlikeChains.{alike_normal, product_is}
use Rattle.tensor_red.proofs.reduction.TensorReductionReduction.g.Goals as goal

pub returns-in_err-left-clause-source : goal.returns-in_err-left-clause-source
returns-in_err-left-clause-source g c =
    asked_exit g.S.Source.can_ask g.S.Source.runs g.S.Source.refusal g.S.Source.runs_both g.A.Stop.Stops.refused _ _ _ c.from_residual.result c.from_residual.ensures.1 (λ e is.
    rw is (until_first g.S.Source.can_ask g.S.Source.runs g.S.Source.refusal g.S.Source.runs_both _ _ _ _ (g.A.Stop.Stops.refused c.in_err-left.field-0.0) c.in_err-left.ensures.source))

pub g-requires-2-clause-source : goal.g-requires-2-clause-source
g-requires-2-clause-source g c = MayAsk-rest g.S.Source.can_ask g.S.Source.runs g.S.Source.refusal g.S.Source.runs_both _ _ _ _ c.requires.source c.in_ok-left.ensures.source.ran

pub returns-in_err-right-clause-source : goal.returns-in_err-right-clause-source
returns-in_err-right-clause-source g c =
    asked_exit g.S.Source.can_ask g.S.Source.runs g.S.Source.refusal g.S.Source.runs_both g.A.Stop.Stops.refused _ _ _ c.from_residual-in_err-right.result c.from_residual-in_err-right.ensures.1 (λ e is.
    rw is (until_after g.S.Source.can_ask g.S.Source.runs g.S.Source.refusal g.S.Source.runs_both _ _ _ _ _ (g.A.Stop.Stops.refused c.in_err-right.field-0.0) c.in_ok-left.ensures.source c.in_err-right.ensures.source))

pub returns-in_err-product_of-clause-source : goal.returns-in_err-product_of-clause-source
returns-in_err-product_of-clause-source g c =
    asked_exit g.S.Source.can_ask g.S.Source.runs g.S.Source.refusal g.S.Source.runs_both g.A.Stop.Stops.refused _ _ _ c.from_residual-in_err-product_of.result c.from_residual-in_err-product_of.ensures.1 (λ e is.
    rw (g.met.A.Stop.Stops.memory _ _ is)
    (part_of_whole g.S.Source.can_ask g.S.Source.runs g.S.Source.refusal g.S.Source.runs_both _ _ _ (AskedAll-both g.S.Source.can_ask g.S.Source.runs g.S.Source.refusal g.S.Source.runs_both _ _ _ _ _ c.in_ok-left.ensures.source c.in_ok-right.ensures.source)))

pub returns-clause-source : goal.returns-clause-source
returns-clause-source g c = AskedAll-both g.S.Source.can_ask g.S.Source.runs g.S.Source.refusal g.S.Source.runs_both _ _ _ _ _ c.in_ok-left.ensures.source c.in_ok-right.ensures.source

pub returns-clause-value : goal.returns-clause-value
returns-clause-value g c =
    product_is (tensor_cmp g.A.Big.Ord.cmp g.B.Big.Ord.cmp) (one_tensor g.A.Big.Ord.cmp g.B.Big.Ord.cmp g.met.A.Reduction.one_big g.met.B.Reduction.one_big)
    (tensor_total g.A.Big.Ord.cmp g.B.Big.Ord.cmp g.met.A.Big.Ord.total g.met.B.Big.Ord.total) (g.A.Reduction.prime_of c.args.self.now.left) tensors
    c.in_ok-product_of.field-0.terms c.in_ok-left.left.prime c.in_ok-left.left.terms ((g.A.Reduction.maps c.args.self.now.left).g c.args.y.now.left) c.in_ok-right.right.terms ((g.B.Reduction.maps c.args.self.now.right).g c.args.y.now.right)
    c.in_ok-product_of.ensures.product c.in_ok-left.ensures.prime
    (alike_normal g.A.Big.Ord.cmp g.met.A.Reduction.one_big (g.A.Reduction.prime_of c.args.self.now.left) (g.A.Reduction.prime_of c.args.self.now.left) c.in_ok-left.left.terms ((g.A.Reduction.maps c.args.self.now.left).g c.args.y.now.left) c.in_ok-left.ensures.value refl)
    (alike_normal g.B.Big.Ord.cmp g.met.B.Reduction.one_big (g.A.Reduction.prime_of c.args.self.now.left) (g.B.Reduction.prime_of c.args.self.now.right) c.in_ok-right.right.terms ((g.B.Reduction.maps c.args.self.now.right).g c.args.y.now.right) c.in_ok-right.ensures.value c.requires.key.0)
