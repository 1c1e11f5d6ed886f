use Rattle.std.proofs.Common.{◌≡◌, sym, subst}
use Rattle.std.proofs.lemmas.Result.{err_from_is_err_and}
use Rattle.fp_field.specs.Field.{number}
use Rattle.fp_field.specs.Chains.{EachKey}
use Rattle.term_lang.specs.SpaceOf.{space_of}
use Rattle.oracle_iface.specs.Keys.{quote_chain, formal}
use Rattle.normal_forms.specs.Built.{IsBuilt}
use Rattle.space_faces.specs.Boundaries.{IsLowCell, graded_chain, boundary_of as d_of}
use Rattle.session_core.specs.Answer.{told_chain as chain_by}
use Rattle.session_core.specs.Posed.{told_posed as posed_by}
use Rattle.session_core.specs.Settings.{state_of}
use Rattle.session_core.specs.Telling.{Stops, IsToldChain}
use Rattle.session_core.proofs.Told.{stops_exit}
use Rattle.session_core.proofs.BoundaryReplies.{cells_low, boundary_stands}
use Rattle.session_core.proofs.PosedTold.{chain_stops, boundary_stops, is_posed}
use Rattle.session_core.proofs.posed.told_posed.Goals.{In_ok-cycle, In_ok-d}
use Rattle.session_core.proofs.posed.told_posed.Goals as goal

chain_is : (c : In_ok-cycle) → IsToldChain c.args.settings.now.prime (space_of c.in_ok-spot.spot.term) (chain_by c.args.settings.now.prime c.in_ok-spot.spot.term c.in_ok-spot.spot.degree c.args.text.now) c.in_ok-cycle.cycle
chain_is c =
    subst (λ t. IsToldChain c.args.settings.now.prime (space_of t) (chain_by c.args.settings.now.prime t c.in_ok-spot.spot.degree c.args.text.now) c.in_ok-cycle.cycle) c.get.ensures
    c.in_ok-cycle.ensures.told

boundary_is : (c : In_ok-d)
    → c.in_ok-d.d ≡ formal c.args.settings.now.prime (quote_chain (space_of c.in_ok-spot.spot.term) (d_of (number c.args.settings.now.prime) (space_of c.in_ok-spot.spot.term) (chain_is (goal.at.In_ok-d c).In_ok-cycle).0))
boundary_is c =
    let chain = chain_is (goal.at.In_ok-d c).In_ok-cycle in
    boundary_stands c.args.settings.now.prime (space_of c.in_ok-spot.spot.term) c.in_ok-spot.ensures.ready c.in_ok-cycle.cycle chain.0 chain.2 c.in_ok-d.d
    c.in_ok-d.ensures.prime
    (subst (λ t. c.in_ok-d.d.terms ≡ quote_chain (space_of t) (d_of (number c.in_ok-cycle.cycle.prime) (space_of t) (graded_chain (space_of t) c.in_ok-cycle.cycle.terms)))
    c.get-2.ensures c.in_ok-d.ensures.terms)

pub returns-in_err-cycle-clause-stops : goal.returns-in_err-cycle-clause-stops
returns-in_err-cycle-clause-stops c =
    let s = state_of c.args.settings.now in
    stops_exit c.from_residual-in_err-cycle.result c.in_err-cycle.field-0.0 (posed_by s c.args.e.now c.args.n c.args.text.now)
    (err_from_is_err_and c.from_residual-in_err-cycle.result c.from_residual-in_err-cycle.ensures.1)
    (chain_stops s c.args.e.now c.args.n c.args.text.now c.in_ok-spot.spot.term c.in_ok-spot.spot.degree c.in_ok-spot.ensures.told c.in_err-cycle.field-0.0
    (subst (λ t. Stops c.in_err-cycle.field-0.0 (chain_by s.prime t c.in_ok-spot.spot.degree c.args.text.now)) c.get.ensures c.in_err-cycle.ensures.stops))

pub boundary-requires-clause-built : goal.boundary-requires-clause-built
boundary-requires-clause-built c =
    subst (λ t. IsBuilt (space_of t)) (sym c.get-2.ensures) c.in_ok-spot.ensures.ready.1

pub boundary-requires-clause-cells : goal.boundary-requires-clause-cells
boundary-requires-clause-cells c =
    let chain = chain_is (goal.at.boundary-requires-clause-cells c).In_ok-cycle in
    subst (λ t. EachKey (IsLowCell (space_of t)) c.in_ok-cycle.cycle.terms) (sym c.get-2.ensures)
    (cells_low c.args.settings.now.prime (space_of c.in_ok-spot.spot.term) c.in_ok-spot.ensures.ready c.in_ok-cycle.cycle chain.0 chain.2)

pub returns-in_err-check_boundary-clause-stops : goal.returns-in_err-check_boundary-clause-stops
returns-in_err-check_boundary-clause-stops c =
    let s = state_of c.args.settings.now in
    let d = (goal.at.returns-in_err-check_boundary-clause-stops c).In_ok-d in
    stops_exit c.from_residual-in_err-check_boundary.result c.in_err-check_boundary.field-0.0 (posed_by s c.args.e.now c.args.n c.args.text.now)
    (err_from_is_err_and c.from_residual-in_err-check_boundary.result c.from_residual-in_err-check_boundary.ensures.1)
    (boundary_stops s c.args.e.now c.args.n c.args.text.now c.in_ok-spot.spot.term c.in_ok-spot.spot.degree c.in_ok-spot.ensures.told c.in_ok-cycle.cycle c.in_ok-d.d
    (chain_is (goal.at.In_ok-d d).In_ok-cycle) (boundary_is d) c.in_err-check_boundary.field-0.0 c.in_err-check_boundary.ensures.stops)

pub returns-clause-told : goal.returns-clause-told
returns-clause-told c =
    let s = state_of c.args.settings.now in
    let d = (goal.at.returns-clause-told c).In_ok-d in
    is_posed s c.args.e.now c.args.n c.args.text.now c.in_ok-spot.spot.term c.in_ok-spot.spot.degree c.in_ok-spot.ensures.told c.in_ok-cycle.cycle c.in_ok-d.d
    (chain_is (goal.at.In_ok-d d).In_ok-cycle) (boundary_is d) c.in_ok-check_boundary.ensures.zero
