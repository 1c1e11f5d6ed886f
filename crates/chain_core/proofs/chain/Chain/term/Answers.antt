use Rattle.std.proofs.Common.{◌<◌, length, sym, subst, arith}
use Rattle.fp_field.specs.Field.{number}
use Rattle.chain_core.specs.Formal.{numbers}
use Rattle.chain_core.proofs.Rising.{all_elements, all_nonzero}
use Rattle.chain_core.proofs.PlaceLemmas.{length-numbers}
use Rattle.chain_core.proofs.chain.Chain.term.Goals as goal

pub returns-clause-element : goal.returns-clause-element
returns-clause-element g c =
    let within : c.args.i < length (numbers c.self.inside.terms.items) = subst (λ v. c.args.i < length v.terms) (sym c.self.view_is) c.requires in
    subst (λ v. c.index.result.now.1.value < number v.prime) c.self.view_is
    (rw c.index.ensures
    (all_elements g.K.Ord.cmp g.met.K.Ord.total c.self.inside.prime c.self.inside.terms.items c.self.invariant c.args.i _
    (omega (arith, within, length-numbers g.K.Ord.cmp g.met.K.Ord.total c.self.inside.terms.items))))

pub returns-clause-nonzero : goal.returns-clause-nonzero
returns-clause-nonzero g c =
    let within : c.args.i < length (numbers c.self.inside.terms.items) = subst (λ v. c.args.i < length v.terms) (sym c.self.view_is) c.requires in
    rw c.index.ensures
    (all_nonzero g.K.Ord.cmp g.met.K.Ord.total c.self.inside.prime c.self.inside.terms.items c.self.invariant c.args.i _
    (omega (arith, within, length-numbers g.K.Ord.cmp g.met.K.Ord.total c.self.inside.terms.items)))
