use Rattle.chain_core.proofs.ChainLemmas.{kept}
use Rattle.chain_core.proofs.chain.Chain.add_term.Goals as goal

pub invariant_of-self : goal.invariant_of-self
invariant_of-self g c =
    kept g.K.Ord.cmp g.met.K.Ord.total c.self.inside.prime c.add_to.result c.self.inside.terms.items c.add_to.new.terms.items c.args.k c.args.c.value c.add_to.ensures.sum c.add_to.ensures.err c.self.invariant
