use Rattle.std.proofs.Common.{sym, ◌∙◌, ap, rules, arith}
use Rattle.std.proofs.lemmas.Fn.{always_returns_same}
use Rattle.chain_core.proofs.PlaceLemmas.{at_place, past_last, searched, flipped}
use Rattle.std.specs.declared.cmp.Ordering.TheVariants.{Equal}
use Rattle.chain_core.proofs.places.place_of.Goals as goal

pub returns-in-Equal-clause-place : goal.returns-in-Equal-clause-place
returns-in-Equal-clause-place g c =
    let last = c.in-Some.field-0.now in
    at_place g.K.Ord.cmp g.met.K.Ord.total c.args.terms.now c.args.k.now _ last (omega (arith, c.in-Some.ensures.item.3.0)) c.requires
    (ap (λ t. g.K.Ord.cmp t.0 c.args.k.now) (sym c.in-Some.ensures.item.1) ∙ flipped g.K.Ord.cmp g.met.K.Ord.total c.args.k.now last.0 Equal (sym c.in-Equal.ensures))

pub returns-in-Greater-clause-place : goal.returns-in-Greater-clause-place
returns-in-Greater-clause-place g c =
    let last = c.in-Some.field-0.now in
    past_last g.K.Ord.cmp g.met.K.Ord.total c.args.terms.now c.args.k.now last c.in-Some.ensures.item.3.0 c.requires
    (ap (λ t. g.K.Ord.cmp c.args.k.now t.0) (sym c.in-Some.ensures.item.1) ∙ sym c.in-Greater.ensures)

pub returns-clause-place : goal.returns-clause-place
returns-clause-place g c =
    searched g.K.Ord.cmp g.met.K.Ord.total c.args.terms.now c.args.k.now c.binary_search_by.result c.requires c.binary_search_by.ensures.bound
    (c.binary_search_by.ensures.position (λ y. g.K.Ord.cmp y.0 c.args.k.now) (always_returns_same _ _ _ (λ a r q h. (search rules, search rules))))
