use Rattle.std.proofs.Common.{refl}
use Rattle.fp_field.specs.Field.{number}
use Rattle.fp_field.specs.Reduction.{one, after}
use Rattle.chain_core.proofs.AskLemmas.{MayAsk-rest, MayAsk-first, until_first, until_after, AskedAll-both, part_of_whole}
use Rattle.reduct_laws.proofs.AskSteps.{asked_exit}
use Rattle.tensor_red.specs.Tensors.{tensors}
use Rattle.tensor_red.specs.TensorOrder.{tensor_cmp, one_tensor, tensor_total}
use Rattle.tensor_red.proofs.AlikeChains.{alike_normal, products_are, itself}
use Rattle.tensor_red.proofs.reduction.TensorReductionReduction.h.Goals as goal

pub returns-in_err-own-clause-source : goal.returns-in_err-own-clause-source
returns-in_err-own-clause-source g c =
    asked_exit g.S.Source.can_ask g.S.Source.runs g.S.Source.refusal g.S.Source.runs_both g.A.Stop.Stops.refused _ _ _ c.from_residual.result c.from_residual.ensures.1 (λ e is.
    rw is (until_first g.S.Source.can_ask g.S.Source.runs g.S.Source.refusal g.S.Source.runs_both _ _ _ _ (g.A.Stop.Stops.refused c.in_err-own.field-0.0) c.in_err-own.ensures.source))

pub there_and_back-requires-clause-source : goal.there_and_back-requires-clause-source
there_and_back-requires-clause-source g c =
    MayAsk-first g.S.Source.can_ask g.S.Source.runs g.S.Source.refusal g.S.Source.runs_both _ _ _ (MayAsk-rest g.S.Source.can_ask g.S.Source.runs g.S.Source.refusal g.S.Source.runs_both _ _ _ _ c.requires.source c.in_ok-own.ensures.source.ran)

pub returns-in_err-back-clause-source : goal.returns-in_err-back-clause-source
returns-in_err-back-clause-source g c =
    asked_exit g.S.Source.can_ask g.S.Source.runs g.S.Source.refusal g.S.Source.runs_both g.A.Stop.Stops.refused _ _ _ c.from_residual-in_err-back.result c.from_residual-in_err-back.ensures.1 (λ e is.
    rw is
    (until_after g.S.Source.can_ask g.S.Source.runs g.S.Source.refusal g.S.Source.runs_both _ _ _ _ _ (g.A.Stop.Stops.refused c.in_err-back.field-0.0) c.in_ok-own.ensures.source
    (until_first g.S.Source.can_ask g.S.Source.runs g.S.Source.refusal g.S.Source.runs_both _ _ _ _ (g.A.Stop.Stops.refused c.in_err-back.field-0.0) c.in_err-back.ensures.source)))

pub h-requires-2-clause-source : goal.h-requires-2-clause-source
h-requires-2-clause-source g c =
    MayAsk-rest g.S.Source.can_ask g.S.Source.runs g.S.Source.refusal g.S.Source.runs_both _ _ _ _ (MayAsk-rest g.S.Source.can_ask g.S.Source.runs g.S.Source.refusal g.S.Source.runs_both _ _ _ _ c.requires.source c.in_ok-own.ensures.source.ran) c.in_ok-back.ensures.source.ran

pub returns-in_err-other-clause-source : goal.returns-in_err-other-clause-source
returns-in_err-other-clause-source g c =
    asked_exit g.S.Source.can_ask g.S.Source.runs g.S.Source.refusal g.S.Source.runs_both g.A.Stop.Stops.refused _ _ _ c.from_residual-in_err-other.result c.from_residual-in_err-other.ensures.1 (λ e is.
    rw is
    (until_after g.S.Source.can_ask g.S.Source.runs g.S.Source.refusal g.S.Source.runs_both _ _ _ _ _ (g.A.Stop.Stops.refused c.in_err-other.field-0.0) c.in_ok-own.ensures.source
    (until_after g.S.Source.can_ask g.S.Source.runs g.S.Source.refusal g.S.Source.runs_both _ _ _ _ _ (g.A.Stop.Stops.refused c.in_err-other.field-0.0) c.in_ok-back.ensures.source c.in_err-other.ensures.source)))

pub returns-in_err-homotopy-clause-source : goal.returns-in_err-homotopy-clause-source
returns-in_err-homotopy-clause-source g c =
    asked_exit g.S.Source.can_ask g.S.Source.runs g.S.Source.refusal g.S.Source.runs_both g.A.Stop.Stops.refused _ _ _ c.from_residual-in_err-homotopy.result c.from_residual-in_err-homotopy.ensures.1 (λ e is.
    rw (g.met.A.Stop.Stops.memory _ _ is)
    (part_of_whole g.S.Source.can_ask g.S.Source.runs g.S.Source.refusal g.S.Source.runs_both _ _ _ (AskedAll-both g.S.Source.can_ask g.S.Source.runs g.S.Source.refusal g.S.Source.runs_both _ _ _ _ _ c.in_ok-own.ensures.source
    (AskedAll-both g.S.Source.can_ask g.S.Source.runs g.S.Source.refusal g.S.Source.runs_both _ _ _ _ _ c.in_ok-back.ensures.source c.in_ok-other.ensures.source))))

pub returns-clause-source : goal.returns-clause-source
returns-clause-source g c =
    AskedAll-both g.S.Source.can_ask g.S.Source.runs g.S.Source.refusal g.S.Source.runs_both _ _ _ _ _ c.in_ok-own.ensures.source (AskedAll-both g.S.Source.can_ask g.S.Source.runs g.S.Source.refusal g.S.Source.runs_both _ _ _ _ _ c.in_ok-back.ensures.source c.in_ok-other.ensures.source)

pub returns-clause-value : goal.returns-clause-value
returns-clause-value g c =
    products_are (tensor_cmp g.A.Big.Ord.cmp g.B.Big.Ord.cmp) (one_tensor g.A.Big.Ord.cmp g.B.Big.Ord.cmp g.met.A.Reduction.one_big g.met.B.Reduction.one_big)
    (tensor_total g.A.Big.Ord.cmp g.B.Big.Ord.cmp g.met.A.Big.Ord.total g.met.B.Big.Ord.total) (g.A.Reduction.prime_of c.args.self.now.left) tensors
    c.in_ok-homotopy.field-0.terms c.in_ok-own.own.prime (g.A.Reduction.degree_of c.args.self.now.left c.args.x.now.left)
    c.in_ok-own.own.terms ((g.A.Reduction.maps c.args.self.now.left).h c.args.x.now.left) c.in_ok-back.back.terms (after (g.A.Reduction.maps c.args.self.now.left).g (g.A.Reduction.maps c.args.self.now.left).f c.args.x.now.left)
    (one c.args.x.now.right) (one c.args.x.now.right) c.in_ok-other.other.terms ((g.B.Reduction.maps c.args.self.now.right).h c.args.x.now.right)
    (rw c.degree.ensures at c.in_ok-homotopy.ensures.sum) c.in_ok-own.ensures.prime
    (alike_normal g.A.Big.Ord.cmp g.met.A.Reduction.one_big (g.A.Reduction.prime_of c.args.self.now.left) (g.A.Reduction.prime_of c.args.self.now.left) c.in_ok-own.own.terms ((g.A.Reduction.maps c.args.self.now.left).h c.args.x.now.left) c.in_ok-own.ensures.value refl)
    (itself (number (g.A.Reduction.prime_of c.args.self.now.left)) (one c.args.x.now.right))
    (alike_normal g.A.Big.Ord.cmp g.met.A.Reduction.one_big (g.A.Reduction.prime_of c.args.self.now.left) (g.A.Reduction.prime_of c.args.self.now.left) c.in_ok-back.back.terms (after (g.A.Reduction.maps c.args.self.now.left).g (g.A.Reduction.maps c.args.self.now.left).f c.args.x.now.left) c.in_ok-back.ensures.value refl)
    (alike_normal g.B.Big.Ord.cmp g.met.B.Reduction.one_big (g.A.Reduction.prime_of c.args.self.now.left) (g.B.Reduction.prime_of c.args.self.now.right) c.in_ok-other.other.terms ((g.B.Reduction.maps c.args.self.now.right).h c.args.x.now.right) c.in_ok-other.ensures.value c.requires.key.0)

pub degree-requires : goal.degree-requires
degree-requires g c = g.met.A.Reduction.degree_asked _ _ c.requires.key.1.0
