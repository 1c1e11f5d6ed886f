use Rattle.std.proofs.Common.{◌≡◌, sym, subst}
use Rattle.std.proofs.lemmas.Result.{err_from_is_err_and}
use Rattle.fp_field.specs.Field.{number}
use Rattle.fp_field.specs.Chains.{EachKey}
use Rattle.term_lang.specs.SpaceOf.{space_of}
use Rattle.oracle_iface.specs.Keys.{quote_chain, formal}
use Rattle.normal_forms.specs.Built.{IsBuilt}
use Rattle.script_lang.specs.declared.commands.Command.TheVariants as commands
use Rattle.space_faces.specs.Boundaries.{IsLowCell, graded_chain, boundary_of as d_of}
use Rattle.session_core.specs.Answer.{told_chain as chain_by, told_reply}
use Rattle.session_core.specs.Settings.{state_of}
use Rattle.session_core.specs.Telling.{Stops, IsToldChain}
use Rattle.session_core.proofs.Told.{stops_exit}
use Rattle.session_core.proofs.BoundaryReplies.{cells_low, boundary_stands, chain_stops, printed_stops, boundary_told}
use Rattle.session_core.proofs.boundaries.boundary_reply.Goals.{In_ok-chain, In_ok-boundary}
use Rattle.session_core.proofs.boundaries.boundary_reply.Goals as goal

chain_is : (c : In_ok-chain) → IsToldChain c.args.settings.now.prime (space_of c.in_ok-term.term) (chain_by c.args.settings.now.prime c.in_ok-term.term c.in_ok-degree.degree c.args.text.now) c.in_ok-chain.chain
chain_is c =
    subst (λ t. IsToldChain c.args.settings.now.prime (space_of t) (chain_by c.args.settings.now.prime t c.in_ok-degree.degree c.args.text.now) c.in_ok-chain.chain) c.get.ensures
    c.in_ok-chain.ensures.told

boundary_is : (c : In_ok-boundary)
    → c.in_ok-boundary.field-0 ≡ formal c.args.settings.now.prime (quote_chain (space_of c.in_ok-term.term) (d_of (number c.args.settings.now.prime) (space_of c.in_ok-term.term) (chain_is (goal.at.In_ok-boundary c).In_ok-chain).0))
boundary_is c =
    let chain = chain_is (goal.at.In_ok-boundary c).In_ok-chain in
    boundary_stands c.args.settings.now.prime (space_of c.in_ok-term.term) c.in_ok-term.ensures.ready c.in_ok-chain.chain chain.0 chain.2 c.in_ok-boundary.field-0
    c.in_ok-boundary.ensures.prime
    (subst (λ t. c.in_ok-boundary.field-0.terms ≡ quote_chain (space_of t) (d_of (number c.in_ok-chain.chain.prime) (space_of t) (graded_chain (space_of t) c.in_ok-chain.chain.terms)))
    c.get-2.ensures c.in_ok-boundary.ensures.terms)

pub returns-in_err-chain-clause-stops : goal.returns-in_err-chain-clause-stops
returns-in_err-chain-clause-stops c =
    let s = state_of c.args.settings.now in
    stops_exit c.from_residual-in_err-chain.result c.in_err-chain.field-0.0 (told_reply s (commands.Boundary c.args.e.now c.args.n c.args.text.now))
    (err_from_is_err_and c.from_residual-in_err-chain.result c.from_residual-in_err-chain.ensures.1)
    (chain_stops s c.args.e.now c.args.n c.args.text.now c.in_ok-term.term c.in_ok-degree.degree c.in_ok-term.ensures.told c.in_ok-degree.ensures.told c.in_err-chain.field-0.0
    (subst (λ t. Stops c.in_err-chain.field-0.0 (chain_by s.prime t c.in_ok-degree.degree c.args.text.now)) c.get.ensures c.in_err-chain.ensures.stops))

pub boundary-requires-clause-built : goal.boundary-requires-clause-built
boundary-requires-clause-built c =
    subst (λ t. IsBuilt (space_of t)) (sym c.get-2.ensures) c.in_ok-term.ensures.ready.1

pub boundary-requires-clause-cells : goal.boundary-requires-clause-cells
boundary-requires-clause-cells c =
    let chain = chain_is (goal.at.boundary-requires-clause-cells c).In_ok-chain in
    subst (λ t. EachKey (IsLowCell (space_of t)) c.in_ok-chain.chain.terms) (sym c.get-2.ensures)
    (cells_low c.args.settings.now.prime (space_of c.in_ok-term.term) c.in_ok-term.ensures.ready c.in_ok-chain.chain chain.0 chain.2)

pub returns-in_err-printed-clause-stops : goal.returns-in_err-printed-clause-stops
returns-in_err-printed-clause-stops c =
    let s = state_of c.args.settings.now in
    let d = (goal.at.returns-in_err-printed-clause-stops c).In_ok-boundary in
    stops_exit c.from_residual-in_err-printed.result c.in_err-printed.field-0.0 (told_reply s (commands.Boundary c.args.e.now c.args.n c.args.text.now))
    (err_from_is_err_and c.from_residual-in_err-printed.result c.from_residual-in_err-printed.ensures.1)
    (printed_stops s c.args.e.now c.args.n c.args.text.now c.in_ok-term.term c.in_ok-degree.degree c.in_ok-term.ensures.told c.in_ok-degree.ensures.told c.in_ok-chain.chain c.in_ok-boundary.field-0
    (chain_is (goal.at.In_ok-boundary d).In_ok-chain) (boundary_is d) c.in_err-printed.field-0.0 c.in_err-printed.ensures.stops)

pub returns-clause-reply : goal.returns-clause-reply
returns-clause-reply c =
    let s = state_of c.args.settings.now in
    let d = (goal.at.returns-clause-reply c).In_ok-boundary in
    boundary_told s c.args.e.now c.args.n c.args.text.now c.in_ok-term.term c.in_ok-degree.degree c.in_ok-term.ensures.told c.in_ok-degree.ensures.told c.in_ok-chain.chain c.in_ok-boundary.field-0
    (chain_is (goal.at.In_ok-boundary d).In_ok-chain) (boundary_is d) c.in_ok-printed.printed c.in_ok-printed.ensures.told
