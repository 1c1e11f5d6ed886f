use Rattle.std.proofs.Common.{◌≡◌, ◌<◌, sym, subst}
use Rattle.std.specs.Ordering.{eq_by_cmp}
use Rattle.fp_field.specs.Field.{number}
use Rattle.fp_field.specs.Chains.{coeff}
use Rattle.chain_core.specs.Formal.{numbers}
use Rattle.chain_core.proofs.Rising.{ascends, all_elements}
use Rattle.chain_core.proofs.SumLemmas.{coeff_here, coeff-between}
use Rattle.chain_core.proofs.chain.Chain.coeff.Goals as goal

pub place_of-requires : goal.place_of-requires
place_of-requires g c = rw c.deref.ensures.value (ascends g.K.Ord.cmp g.met.K.Ord.total c.self.inside.prime (numbers c.self.inside.terms.items) c.self.invariant)

pub returns-in-Ok-clause-value : goal.returns-in-Ok-clause-value
returns-in-Ok-clause-value g c =
    subst (λ v. c.index.result.now.1.value ≡ coeff (eq_by_cmp g.K.Ord.cmp) v.terms c.args.k.now) c.self.view_is
    (coeff_here g.K.Ord.cmp g.met.K.Ord.total c.self.inside.terms.items c.args.k.now c.in-Ok.i c.index.result.now
    (rw c.deref.ensures.value at c.in-Ok.ensures.within) c.index.ensures (rw c.deref.ensures.value at c.in-Ok.ensures.place))

pub returns-in-Ok-clause-element : goal.returns-in-Ok-clause-element
returns-in-Ok-clause-element g c =
    subst (λ v. c.index.result.now.1.value < number v.prime) c.self.view_is
    (rw c.index.ensures (all_elements g.K.Ord.cmp g.met.K.Ord.total c.self.inside.prime c.self.inside.terms.items c.self.invariant c.in-Ok.i _ (rw c.deref.ensures.value at c.in-Ok.ensures.within)))

pub returns-in-Err-clause-value : goal.returns-in-Err-clause-value
returns-in-Err-clause-value g c =
    subst (λ v. 0 ≡ coeff (eq_by_cmp g.K.Ord.cmp) v.terms c.args.k.now) c.self.view_is
    (sym (coeff-between g.K.Ord.cmp 0 g.met.K.Ord.total (numbers c.self.inside.terms.items) c.args.k.now c.in-Err.field-0 (rw c.deref.ensures.value at c.in-Err.ensures.place)))
