use Rattle.std.proofs.Common.{refl}
use Rattle.chain_core.proofs.AskLemmas.{MayAsk-rest, until_first, until_after, AskedAll-both, part_of_whole}
use Rattle.reduct_laws.proofs.AskSteps.{asked_exit}
use Rattle.tensor_red.specs.Tensors.{tensors}
use Rattle.tensor_red.specs.TensorOrder.{tensor_cmp, one_tensor, tensor_total}
use Rattle.tensor_red.proofs.AlikeChains.{alike_normal, product_is}
use Rattle.tensor_red.proofs.reduction.TensorReductionReduction.f.Goals as goal

pub returns-in_err-first-clause-source : goal.returns-in_err-first-clause-source
returns-in_err-first-clause-source g c =
    asked_exit g.S.Source.can_ask g.S.Source.runs g.S.Source.refusal g.S.Source.runs_both g.A.Stop.Stops.refused _ _ _ c.from_residual.result c.from_residual.ensures.1 (λ e is.
    rw is (until_first g.S.Source.can_ask g.S.Source.runs g.S.Source.refusal g.S.Source.runs_both _ _ _ _ (g.A.Stop.Stops.refused c.in_err-first.field-0.0) c.in_err-first.ensures.source))

pub f-requires-2-clause-source : goal.f-requires-2-clause-source
f-requires-2-clause-source g c = MayAsk-rest g.S.Source.can_ask g.S.Source.runs g.S.Source.refusal g.S.Source.runs_both _ _ _ _ c.requires.source c.in_ok-first.ensures.source.ran

pub returns-in_err-second-clause-source : goal.returns-in_err-second-clause-source
returns-in_err-second-clause-source g c =
    asked_exit g.S.Source.can_ask g.S.Source.runs g.S.Source.refusal g.S.Source.runs_both g.A.Stop.Stops.refused _ _ _ c.from_residual-in_err-second.result c.from_residual-in_err-second.ensures.1 (λ e is.
    rw is (until_after g.S.Source.can_ask g.S.Source.runs g.S.Source.refusal g.S.Source.runs_both _ _ _ _ _ (g.A.Stop.Stops.refused c.in_err-second.field-0.0) c.in_ok-first.ensures.source c.in_err-second.ensures.source))

pub returns-in_err-product_of-clause-source : goal.returns-in_err-product_of-clause-source
returns-in_err-product_of-clause-source g c =
    asked_exit g.S.Source.can_ask g.S.Source.runs g.S.Source.refusal g.S.Source.runs_both g.A.Stop.Stops.refused _ _ _ c.from_residual-in_err-product_of.result c.from_residual-in_err-product_of.ensures.1 (λ e is.
    rw (g.met.A.Stop.Stops.memory _ _ is)
    (part_of_whole g.S.Source.can_ask g.S.Source.runs g.S.Source.refusal g.S.Source.runs_both _ _ _ (AskedAll-both g.S.Source.can_ask g.S.Source.runs g.S.Source.refusal g.S.Source.runs_both _ _ _ _ _ c.in_ok-first.ensures.source c.in_ok-second.ensures.source)))

pub returns-clause-source : goal.returns-clause-source
returns-clause-source g c = AskedAll-both g.S.Source.can_ask g.S.Source.runs g.S.Source.refusal g.S.Source.runs_both _ _ _ _ _ c.in_ok-first.ensures.source c.in_ok-second.ensures.source

pub returns-clause-value : goal.returns-clause-value
returns-clause-value g c =
    product_is (tensor_cmp g.A.Small.Ord.cmp g.B.Small.Ord.cmp) (one_tensor g.A.Small.Ord.cmp g.B.Small.Ord.cmp g.met.A.Reduction.one_small g.met.B.Reduction.one_small)
    (tensor_total g.A.Small.Ord.cmp g.B.Small.Ord.cmp g.met.A.Small.Ord.total g.met.B.Small.Ord.total) (g.A.Reduction.prime_of c.args.self.now.left) tensors
    c.in_ok-product_of.field-0.terms c.in_ok-first.first.prime c.in_ok-first.first.terms ((g.A.Reduction.maps c.args.self.now.left).f c.args.x.now.left) c.in_ok-second.second.terms ((g.B.Reduction.maps c.args.self.now.right).f c.args.x.now.right)
    c.in_ok-product_of.ensures.product c.in_ok-first.ensures.prime
    (alike_normal g.A.Small.Ord.cmp g.met.A.Reduction.one_small (g.A.Reduction.prime_of c.args.self.now.left) (g.A.Reduction.prime_of c.args.self.now.left) c.in_ok-first.first.terms ((g.A.Reduction.maps c.args.self.now.left).f c.args.x.now.left) c.in_ok-first.ensures.value refl)
    (alike_normal g.B.Small.Ord.cmp g.met.B.Reduction.one_small (g.A.Reduction.prime_of c.args.self.now.left) (g.B.Reduction.prime_of c.args.self.now.right) c.in_ok-second.second.terms ((g.B.Reduction.maps c.args.self.now.right).f c.args.x.now.right) c.in_ok-second.ensures.value c.requires.key.0)
