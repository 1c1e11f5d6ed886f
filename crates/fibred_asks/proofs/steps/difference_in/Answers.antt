use Rattle.std.proofs.Common.{◌-◌, sym, ◌∙◌}
use Rattle.std.proofs.lemmas.Result.{IfOk-weaker}
use Rattle.fibred_asks.proofs.DifferenceCalls.{call-values, call-room, call-tensors, call-terms, call-within}
use Rattle.fibred_asks.proofs.steps.difference_in.Goals as goal

pub difference-requires-clause-values : goal.difference-requires-clause-values
difference-requires-clause-values c = call-values c.args.m.now c.args.most c.fibred.result c.fibred.ensures.left c.fibred.ensures.right c.fibred.ensures.values c.fibred.ensures.prime c.fibred.ensures.most c.requires.values

pub difference-requires-clause-prime : goal.difference-requires-clause-prime
difference-requires-clause-prime c = c.requires.prime ∙ sym c.fibred.ensures.prime

pub difference-requires-clause-room : goal.difference-requires-clause-room
difference-requires-clause-room c = call-room c.args.m.now c.args.most c.fibred.result c.fibred.ensures.left c.fibred.ensures.right c.fibred.ensures.values c.fibred.ensures.prime c.fibred.ensures.most c.args.n c.requires.room

pub difference-requires-clause-tensors : goal.difference-requires-clause-tensors
difference-requires-clause-tensors c = call-tensors c.args.m.now c.args.most c.fibred.result c.fibred.ensures.left c.fibred.ensures.right c.fibred.ensures.values c.fibred.ensures.prime c.fibred.ensures.most c.args.n c.args.c.now.terms c.requires.tensors

pub returns-clause-prime : goal.returns-clause-prime
returns-clause-prime c = IfOk-weaker c.difference.result _ _ (λ d h. h ∙ c.fibred.ensures.prime) c.difference.ensures.prime

pub returns-clause-terms : goal.returns-clause-terms
returns-clause-terms c = IfOk-weaker c.difference.result _ _ (λ d h. call-terms c.args.m.now c.args.most c.fibred.result c.fibred.ensures.left c.fibred.ensures.right c.fibred.ensures.values c.fibred.ensures.prime c.fibred.ensures.most c.args.n c.args.c.now.terms d.terms h) c.difference.ensures.terms

pub returns-clause-tensors : goal.returns-clause-tensors
returns-clause-tensors c = IfOk-weaker c.difference.result _ _ (λ d h. call-within c.args.m.now c.args.most c.fibred.result c.fibred.ensures.left c.fibred.ensures.right c.fibred.ensures.values c.fibred.ensures.prime c.fibred.ensures.most c.args.n (c.args.n - 1) d.terms h) c.difference.ensures.tensors
