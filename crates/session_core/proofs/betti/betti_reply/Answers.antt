use Rattle.std.proofs.Common.{◌≡◌, sym, subst}
use Rattle.std.proofs.lemmas.Result.{IfOk-weaker}
use Rattle.script_lang.specs.declared.commands.Command.TheVariants as commands
use Rattle.reply_text.specs.declared.replies.Reply.{Reply}
use Rattle.session_core.specs.Answer.{told, told_reply}
use Rattle.session_core.specs.Asked.{AsksKeys, is_settled}
use Rattle.session_core.specs.Lines.{told_keys}
use Rattle.session_core.specs.Settings.{state_of, answered}
use Rattle.session_core.specs.Telling.{Stops, told_betti}
use Rattle.session_core.proofs.Told.{if_err}
use Rattle.session_core.proofs.SpotsTold.{asks_none_stopped}
use Rattle.session_core.proofs.RangesTold.{range_stops}
use Rattle.session_core.proofs.BettiReplies.{betti_told, betti_stops, betti_keys}
use Rattle.session_core.proofs.betti.betti_reply.Goals as goal

pub returns-in-Ok-clause-reply : goal.returns-in-Ok-clause-reply
returns-in-Ok-clause-reply g c =
    let s = state_of c.args.settings.now in
    let x = c.in-Ok.range in
    IfOk-weaker c.listed_numbers.result (λ r. told_betti s.prime x.term x.low x.high ≡ told r) (λ r. told_reply s (commands.Betti c.args.e.now c.args.low c.args.high) ≡ answered r s)
    (betti_told s c.args.e.now c.args.low c.args.high x.term x.low x.high c.in-Ok.ensures.told) c.listed_numbers.ensures.told

pub returns-in-Ok-clause-stops : goal.returns-in-Ok-clause-stops
returns-in-Ok-clause-stops g c =
    let s = state_of c.args.settings.now in
    let x = c.in-Ok.range in
    if_err c.listed_numbers.result (λ y. Stops y (told_betti s.prime x.term x.low x.high)) (λ y. Stops y (told_reply s (commands.Betti c.args.e.now c.args.low c.args.high)))
    (betti_stops s c.args.e.now c.args.low c.args.high x.term x.low x.high c.in-Ok.ensures.told) c.listed_numbers.ensures.stops

pub returns-in-Ok-clause-asked : goal.returns-in-Ok-clause-asked
returns-in-Ok-clause-asked g c =
    let s = state_of c.args.settings.now in
    let x = c.in-Ok.range in
    subst (λ ks. AsksKeys g.A.Answerer.answers ks c.args.answerer.now c.listed_numbers.new.answerer (is_settled c.listed_numbers.result))
    (sym (betti_keys s c.args.e.now c.args.low c.args.high x.term x.low x.high c.in-Ok.ensures.told)) c.listed_numbers.ensures.asked

pub returns-in-Err-clause-asked : goal.returns-in-Err-clause-asked
returns-in-Err-clause-asked g c =
    let s = state_of c.args.settings.now in
    asks_none_stopped Reply g.A.Answerer.answers s c.in-Err.stop (told_keys s (commands.Betti c.args.e.now c.args.low c.args.high)) c.args.answerer.now
    (range_stops s.names c.args.e.now c.args.low c.args.high _ c.in-Err.stop c.in-Err.ensures.stops)
