use Rattle.std.proofs.Common.{◌++◌, ◌<◌, ◌∙◌, ap}
use Rattle.std.proofs.lemmas.Result.{IfOk-weaker}
use Rattle.std.proofs.lemmas.List.Sorted.{All-permutation}
use Rattle.fp_field.specs.Field.{number}
use Rattle.fp_field.specs.Normal.{normal}
use Rattle.chain_core.specs.Formal.{numbers}
use Rattle.chain_core.proofs.ChainLemmas.{permuted, append-nil}
use Rattle.chain_core.proofs.chain.Chain.from_terms.Goals as goal

pub add_all-requires-clause-elements : goal.add_all-requires-clause-elements
add_all-requires-clause-elements g c =
    rw c.new.ensures.prime (All-permutation (λ t. t.1.value < number c.args.p) c.args.terms.items c.sort_by.new.self.items c.in_ok-sort_by.ensures.permutation c.requires.elements)

pub returns-clause-sum : goal.returns-clause-sum
returns-clause-sum g c = IfOk-weaker c.add_all.result _ _ (λ s e.
    e
    ∙ (λ i. normal g.K.Ord.cmp (number (c.new.ensures.prime i)) (numbers c.sort_by.new.self.items ++ c.new.ensures.zero i))
    ∙ ap (normal g.K.Ord.cmp (number c.args.p)) (append-nil (numbers c.sort_by.new.self.items))
    ∙ permuted g.K.Ord.cmp g.met.K.Ord.total c.args.p c.requires.one_key c.args.terms.items c.sort_by.new.self.items c.in_ok-sort_by.ensures.permutation) c.add_all.ensures.sum
