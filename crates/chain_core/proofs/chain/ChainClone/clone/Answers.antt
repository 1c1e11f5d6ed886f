use Rattle.std.proofs.Common.{take, ◌∷◌, ◌+◌, sym, ◌∙◌, ap}
use Rattle.fp_field.specs.Field.{number}
use Rattle.fp_field.specs.Normal.{normal}
use Rattle.chain_core.proofs.ChainLemmas.{next_copied}
use Rattle.chain_core.proofs.chain.ChainClone.clone.Goals as goal

pub loop-k-preserved : goal.loop-k-preserved
loop-k-preserved g c = record {
  prime = c.add_term.ensures.prime ∙ c.loop-k.invariant.prime;
  copied = λ clones.
      c.in_ok-add_term.ensures.sum
      ∙ (λ i. normal g.K.Ord.cmp (number (c.loop-k.invariant.prime i)) ((clones _ _ c.in_ok-clone.ensures.cases i, c.loop-k-item.result.1.value) ∷ c.loop-k.copy.terms))
      ∙ next_copied g.K.Ord.cmp g.met.K.Ord.total c.args.self.now.prime c.terms-k-items.result.now c.loop-k.k-index c.loop-k-item.result c.loop-k.copy.terms
      (rw c.terms-k-items.ensures.terms c.terms-k-items.ensures.normal) c.loop-k-test.true c.loop-k-item.is (c.loop-k.invariant.copied clones ∙ ap (take c.loop-k.k-index) (sym c.terms-k-items.ensures.terms))
      ∙ ap (take (c.loop-k.k-index + 1)) c.terms-k-items.ensures.terms;
}
