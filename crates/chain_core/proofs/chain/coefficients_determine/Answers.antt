use Rattle.std.proofs.Common.{sym, subst}
use Rattle.fp_field.specs.Field.{number}
use Rattle.fp_field.specs.Normal.{IsNormal}
use Rattle.chain_core.proofs.ChainLemmas.{determined}
use Rattle.chain_core.proofs.chain.coefficients_determine.Goals as goal

pub returns : goal.returns
returns g c =
    let a : IsNormal g.K.Ord.cmp (number c.args.a.now.prime) c.args.a.now.terms = subst (λ v. IsNormal g.K.Ord.cmp (number v.prime) v.terms) c.a.view_is c.a.invariant in
    let b : IsNormal g.K.Ord.cmp (number c.args.b.now.prime) c.args.b.now.terms = subst (λ v. IsNormal g.K.Ord.cmp (number v.prime) v.terms) c.b.view_is c.b.invariant in
    let terms = determined g.K.Ord.cmp g.met.K.Ord.total c.args.a.now.prime c.requires.one_key c.args.a.now.terms c.args.b.now.terms a
    (subst (λ q. IsNormal g.K.Ord.cmp (number q) c.args.b.now.terms) c.requires.prime b) c.requires.coefficients in
    (λ i. record { prime = sym c.requires.prime i; terms = terms i })
