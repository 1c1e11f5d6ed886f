use Rattle.std.proofs.Common.{Ok, Err}
use Rattle.homology_rules.specs.Held.{HasBig, big_in}
use Rattle.part_asks.proofs.OneKeys.{one-asked, not-refused, over-found, holds, part-is}
use Rattle.part_asks.proofs.answers.big_answer.Goals as goal

pub returns-in_err-cell-clause-asked : goal.returns-in_err-cell-clause-asked
returns-in_err-cell-clause-asked g c = one-asked g.F.Forcer.forces c.args.key c.args.forcer.now c.force.new.self (Err c.in_err-cell.field-0.0) c.in_err-cell.ensures.call

pub returns-in_err-copy_over-in-Over-clause-asked : goal.returns-in_err-copy_over-in-Over-clause-asked
returns-in_err-copy_over-in-Over-clause-asked g c = one-asked g.F.Forcer.forces c.args.key c.args.forcer.now c.force.new.self (Ok c.in_ok-cell.cell) c.in_ok-cell.ensures.call

pub returns-in-Over-clause-asked : goal.returns-in-Over-clause-asked
returns-in-Over-clause-asked g c = one-asked g.F.Forcer.forces c.args.key c.args.forcer.now c.force.new.self (Ok c.in_ok-cell.cell) c.in_ok-cell.ensures.call

pub returns-in_err-clone-in-Value-clause-asked : goal.returns-in_err-clone-in-Value-clause-asked
returns-in_err-clone-in-Value-clause-asked g c = one-asked g.F.Forcer.forces c.args.key c.args.forcer.now c.force.new.self (Ok c.in_ok-cell.cell) c.in_ok-cell.ensures.call

pub returns-clause-asked : goal.returns-clause-asked
returns-clause-asked g c = one-asked g.F.Forcer.forces c.args.key c.args.forcer.now c.force.new.self (Ok c.in_ok-cell.cell) c.in_ok-cell.ensures.call

pub returns-in-Over-clause-found : goal.returns-in-Over-clause-found
returns-in-Over-clause-found g c =
    over-found c.args.key c.in_ok-cell.cell c.get.result.now c.in_ok-cell.ensures.key c.get.ensures c.in-Over.over c.in_ok-copy_over-in-Over.field-0 c.in-Over.is c.in_ok-copy_over-in-Over.ensures

pub big_chain-requires : goal.big_chain-requires
big_chain-requires g c =
    holds c.args.key c.in_ok-cell.cell c.get-in-Value.result.now c.in_ok-cell.ensures.key c.get-in-Value.ensures HasBig
    (c.requires.kind (not-refused c.args.key c.in_ok-cell.cell c.get.result.now c.in_ok-cell.ensures.key c.get.ensures c.in-Value.field-0 c.in-Value.is))

pub returns-clause-found : goal.returns-clause-found
returns-clause-found g c = (
  not-refused c.args.key c.in_ok-cell.cell c.get.result.now c.in_ok-cell.ensures.key c.get.ensures c.in-Value.field-0 c.in-Value.is,
  part-is c.args.key c.in_ok-cell.cell c.get-in-Value.result.now c.in_ok-cell.ensures.key c.get-in-Value.ensures big_in c.in_ok-clone-in-Value.field-0 c.big_chain.result.now
      (c.in_ok-clone-in-Value.ensures.cases (λ x y e. e)) c.big_chain.ensures,
)
