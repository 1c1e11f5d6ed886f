use Rattle.std.proofs.Common.{◌≡◌, sym, ◌∙◌, ap}
use Rattle.oracle_iface.specs.declared.bodies.Body.TheVariants.{Many}
use Rattle.oracle_iface.specs.declared.bodies.Outcome.TheVariants.{Value}
use Rattle.session_core.specs.Answer.{told, refused}
use Rattle.session_core.specs.Telling.{refused_by}
use Rattle.session_core.proofs.CyclesTold.{cycles_told, cycles_over, cycles_many}
use Rattle.session_core.proofs.homologies.cycles_in.Goals as goal

pub returns-in_ok-copy_over-in-Over-clause-stops : goal.returns-in_ok-copy_over-in-Over-clause-stops
returns-in_ok-copy_over-in-Over-clause-stops c =
    let cell = c.args.cell.now in
    cycles_over cell.key.prime cell.key.term c.args.n cell.key cell.outcome c.in-Over.over c.requires cell.right c.in-Over.is
    ∙ ap (λ w. refused (refused_by w)) (sym c.in_ok-copy_over-in-Over.ensures) ∙ ap (λ r. refused r) (sym c.refused_by.ensures)

pub returns-in_ok-copy_chains-in-Value-clause-told : goal.returns-in_ok-copy_chains-in-Value-clause-told
returns-in_ok-copy_chains-in-Value-clause-told c =
    let cell = c.args.cell.now in
    let e : cell.outcome ≡ Value (Many c.chains_in.result.now) = c.in-Value.is ∙ ap (λ b. Value b) c.chains_in.ensures in
    cycles_told cell.key.prime cell.key.term c.args.n cell.key cell.outcome c.chains_in.result.now c.requires cell.right e ∙ ap (λ zs. told zs) (sym c.in_ok-copy_chains-in-Value.ensures)

pub chains_in-requires : goal.chains_in-requires
chains_in-requires c =
    let cell = c.args.cell.now in
    cycles_many cell.key.prime cell.key.term c.args.n cell.key cell.outcome c.in-Value.body c.requires cell.right c.in-Value.is
