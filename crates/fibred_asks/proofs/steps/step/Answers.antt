use Rattle.std.proofs.Common.{IfOk, sym, subst}
use Rattle.twist_chains.specs.Fibred.{room}
use Rattle.fibred_asks.specs.declared.steps.First.{First}
use Rattle.fibred_asks.specs.Parts.{IfFound, EachIn}
use Rattle.fibred_asks.specs.Asked.{values_of, IsTensorIn}
use Rattle.fibred_asks.specs.Steps.{top_of, end_of}
use Rattle.fibred_asks.proofs.steps.step.Goals as goal

pub returns-in-Difference-clause-tensors : goal.returns-in-Difference-clause-tensors
returns-in-Difference-clause-tensors g c = subst (λ (s : First). IfOk c.homotopy_of_difference.result (λ o. IfFound (EachIn (IsTensorIn c.args.m.now (room (values_of c.args.m.now) (top_of s c.args.n) c.args.most) (end_of s c.args.n))) o)) (sym c.in-Difference.is) c.homotopy_of_difference.ensures.tensors

pub returns-in-Homotopy-clause-tensors : goal.returns-in-Homotopy-clause-tensors
returns-in-Homotopy-clause-tensors g c = subst (λ (s : First). IfOk c.difference_of_homotopy.result (λ o. IfFound (EachIn (IsTensorIn c.args.m.now (room (values_of c.args.m.now) (top_of s c.args.n) c.args.most) (end_of s c.args.n))) o)) (sym c.in-Homotopy.is) c.difference_of_homotopy.ensures.tensors
