use Rattle.std.proofs.Common.{◌≡◌, sym, subst}
use Rattle.fp_field.specs.Chains.{Each}
use Rattle.term_lang.specs.SpaceOf.{space_of}
use Rattle.oracle_iface.specs.KeyLaws.{IsShown}
use Rattle.space_faces.specs.Boundaries.{graded_chain}
use Rattle.session_core.specs.declared.asker.Asker.{Asker}
use Rattle.session_core.specs.Expressing.{keys_of_parts}
use Rattle.session_core.proofs.AskedThrough.{may_each, asks_through}
use Rattle.session_core.proofs.BoundaryReplies.{cells_low, graded_back}
use Rattle.session_core.proofs.ExpressKeys.{parts_askable}
use Rattle.session_core.proofs.express.ask_parts.Goals as goal

pub parts_by_asking-requires-clause-cells : goal.parts_by_asking-requires-clause-cells
parts_by_asking-requires-clause-cells g c =
    cells_low c.args.p (space_of c.args.posed.now.spot.term) c.requires.ready c.args.posed.now.cycle c.requires.cycle.chain c.requires.cycle.stands

pub parts_by_asking-requires-clause-degrees : goal.parts_by_asking-requires-clause-degrees
parts_by_asking-requires-clause-degrees g c =
    subst (Each (λ x. x.0 ≡ c.args.posed.now.spot.degree))
    (sym (graded_back c.args.p (space_of c.args.posed.now.spot.term) c.requires.ready c.args.posed.now.cycle c.requires.cycle.chain c.requires.cycle.stands)) c.requires.cycle.degrees

pub parts_by_asking-requires-clause-forcer : goal.parts_by_asking-requires-clause-forcer
parts_by_asking-requires-clause-forcer g c =
    let t = c.args.posed.now.spot.term in
    let n = c.args.posed.now.spot.degree in
    let X = space_of t in
    let z = graded_chain X c.args.posed.now.cycle.terms in
    let e : z ≡ c.requires.cycle.chain = graded_back c.args.p X c.requires.ready c.args.posed.now.cycle c.requires.cycle.chain c.requires.cycle.stands in
    may_each (λ (s : Asker g.row.A.Denot). s.answerer.now) (λ (s : Asker g.row.A.Denot). s.answerer.ghost_name) g.A.Answerer.may_answer g.A.Answerer.answers
    (keys_of_parts c.args.p t n z) _ c.requires.answerer
    (parts_askable c.args.p t c.requires.ready n c.requires.degree z (subst (Each (IsShown X)) (sym e) c.requires.cycle.stands.shown) (subst (Each (λ x. x.0 ≡ n)) (sym e) c.requires.cycle.degrees))

pub returns-clause-asked : goal.returns-clause-asked
returns-clause-asked g c =
    let t = c.args.posed.now.spot.term in
    let n = c.args.posed.now.spot.degree in
    asks_through (λ (s : Asker g.row.A.Denot). s.answerer.now) (λ (s : Asker g.row.A.Denot). s.answerer.ghost_name) g.A.Answerer.answers c.parts_by_asking.result
    (keys_of_parts c.args.p t n (graded_chain (space_of t) c.args.posed.now.cycle.terms)) _ c.parts_by_asking.new.forcer c.answerer-1.given.0
    c.answerer-1.given.1 c.parts_by_asking.ensures.through c.parts_by_asking.ensures.asked
