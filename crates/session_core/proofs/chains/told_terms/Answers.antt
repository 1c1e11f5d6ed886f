use Rattle.std.proofs.lemmas.Result.{err_from_is_err_and}
use Rattle.session_core.specs.Answer.{told_terms as told_by}
use Rattle.session_core.proofs.Told.{stops_exit}
use Rattle.session_core.proofs.ToldTerms.{one_more_at, stops_at_place}
use Rattle.session_core.proofs.chains.told_terms.Goals as goal

pub returns-in_err-push_term-clause-stops : goal.returns-in_err-push_term-clause-stops
returns-in_err-push_term-clause-stops c =
    stops_exit c.from_residual.result c.in_err-push_term.field-0.0 (told_by c.args.p c.args.t.now c.args.n 1 c.args.texts.now)
    (err_from_is_err_and c.from_residual.result c.from_residual.ensures.1)
    (stops_at_place c.args.p c.args.t.now c.args.n c.args.texts.now c.loop-i.i c.index-texts-i.result c.loop-i.terms.items c.in_err-push_term.field-0.0 c.loop-i-test.true
    c.index-texts-i.is c.loop-i.invariant.so_far c.in_err-push_term.ensures.stops)

pub loop-i-preserved : goal.loop-i-preserved
loop-i-preserved c = record {
  elements = c.in_ok-push_term.ensures.elements;
  so_far =
      one_more_at c.args.p c.args.t.now c.args.n c.args.texts.now c.loop-i.i c.index-texts-i.result c.loop-i.terms.items c.push_term.new.terms.items c.loop-i-test.true
      c.index-texts-i.is c.loop-i.invariant.so_far c.in_ok-push_term.ensures.told;
}
