use Rattle.std.proofs.Common.{[], ◌∷◌, sym, subst}
use Rattle.std.specs.Prelude.{is_ok}
use Rattle.session_core.specs.Asked.{AsksKeys}
use Rattle.session_core.specs.Telling.{cycles_key}
use Rattle.session_core.proofs.NothingAsked.{asks_not_yet_at}
use Rattle.session_core.proofs.OneKeyAsked.{may_ask_cycles, asks_one}
use Rattle.session_core.proofs.homologies.ask_cycles.Goals as goal

pub returns-in_err-term-clause-asked : goal.returns-in_err-term-clause-asked
returns-in_err-term-clause-asked g c =
    asks_not_yet_at g.A.Answerer.answers (cycles_key c.args.p c.args.term.now c.args.degree ∷ []) c.args.answerer.now c.from_residual.result c.from_residual.ensures.0

pub cell-requires : goal.cell-requires
cell-requires g c =
    subst (λ t. g.A.Answerer.may_answer c.args.answerer.now (cycles_key c.args.p t c.args.degree)) (sym c.in_ok-term.ensures.cases)
    (may_ask_cycles c.args.p c.args.term.now c.args.degree g.A.Answerer.may_answer g.A.Answerer.answers c.args.answerer.now c.requires.answerer c.requires.ready c.requires.degree)

pub returns-clause-asked : goal.returns-clause-asked
returns-clause-asked g c =
    subst (λ t. AsksKeys g.A.Answerer.answers (cycles_key c.args.p t c.args.degree ∷ []) c.args.answerer.now c.cell.new.self (is_ok c.cell.result)) c.in_ok-term.ensures.cases
    (asks_one g.A.Answerer.answers (cycles_key c.args.p c.in_ok-term.term c.args.degree) c.args.answerer.now c.cell.new.self c.cell.result c.cell.ensures.call)
