use Rattle.fp_field.specs.Chains.{scale}
use Rattle.chain_core.specs.Formal.{numbers}
use Rattle.chain_core.proofs.ChainLemmas.{normal_again}
use Rattle.chain_core.proofs.chain.Chain.scale.Goals as goal

pub invariant_of-self : goal.invariant_of-self
invariant_of-self g c =
    normal_again g.K.Ord.cmp g.met.K.Ord.total c.self.inside.prime (numbers c.multiply.new.terms.items) (scale c.args.c.value (numbers c.self.inside.terms.items)) c.multiply.ensures
