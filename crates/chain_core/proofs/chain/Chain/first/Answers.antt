use Rattle.std.proofs.Common.{◌<◌, subst}
use Rattle.fp_field.specs.Field.{number}
use Rattle.chain_core.proofs.Rising.{all_elements, all_nonzero}
use Rattle.chain_core.proofs.chain.Chain.first.Goals as goal

pub returns-clause-element : goal.returns-clause-element
returns-clause-element g c =
    let item = rw c.deref.ensures.value at c.in_ok-k.ensures.item in
    subst (λ v. c.in_ok-k.field-0.now.1.value < number v.prime) c.self.view_is
    (rw item.1 (all_elements g.K.Ord.cmp g.met.K.Ord.total c.self.inside.prime c.self.inside.terms.items c.self.invariant 0 _ item.3.0))

pub returns-clause-nonzero : goal.returns-clause-nonzero
returns-clause-nonzero g c =
    let item = rw c.deref.ensures.value at c.in_ok-k.ensures.item in
    rw item.1 (all_nonzero g.K.Ord.cmp g.met.K.Ord.total c.self.inside.prime c.self.inside.terms.items c.self.invariant 0 _ item.3.0)
