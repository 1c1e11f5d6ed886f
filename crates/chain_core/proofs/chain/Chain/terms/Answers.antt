use Rattle.std.proofs.Common.{◌<◌, All, ap, subst}
use Rattle.fp_field.specs.Field.{number}
use Rattle.fp_field.proofs.Primes.{number_pos}
use Rattle.chain_core.proofs.Rising.{Rises-is, elements, all_nonzero}
use Rattle.chain_core.proofs.chain.Chain.terms.Goals as goal

pub returns-clause-elements : goal.returns-clause-elements
returns-clause-elements g c =
    rw c.deref.ensures.value
    (subst (λ q. All (λ t. t.1.value < number q) c.self.inside.terms.items) (ap (λ v. v.prime) c.self.view_is)
    (elements g.K.Ord.cmp (number c.self.inside.prime) c.self.inside.terms.items (Rises-is g.K.Ord.cmp (number c.self.inside.prime) g.met.K.Ord.total (number_pos _) _ c.self.invariant)))

pub returns-clause-nonzero : goal.returns-clause-nonzero
returns-clause-nonzero g c =
    rw c.deref.ensures.value
    (all_nonzero g.K.Ord.cmp g.met.K.Ord.total c.self.inside.prime c.self.inside.terms.items c.self.invariant)
