use Rattle.std.proofs.Common.{◌≡◌, sym, subst}
use Rattle.std.proofs.lemmas.Result.{IfOk-weaker}
use Rattle.script_lang.specs.declared.commands.Command.TheVariants as commands
use Rattle.reply_text.specs.declared.replies.Reply.{Reply}
use Rattle.session_core.specs.Answer.{told, told_reply}
use Rattle.session_core.specs.Asked.{AsksKeys, is_settled}
use Rattle.session_core.specs.Lines.{told_keys}
use Rattle.session_core.specs.Settings.{state_of, answered}
use Rattle.session_core.specs.Telling.{Stops, told_homology}
use Rattle.session_core.proofs.Told.{if_err}
use Rattle.session_core.proofs.SpotsTold.{spot_stops, asks_none_stopped}
use Rattle.session_core.proofs.HomologyReplies.{homology_told, homology_stops, homology_keys}
use Rattle.session_core.proofs.homologies.homology_reply.Goals as goal

pub returns-in-Ok-clause-reply : goal.returns-in-Ok-clause-reply
returns-in-Ok-clause-reply g c =
    let s = state_of c.args.settings.now in
    let t = c.in-Ok.spot.term in
    let m = c.in-Ok.spot.degree in
    IfOk-weaker c.listed_cycles.result (λ r. told_homology s.prime t m ≡ told r) (λ r. told_reply s (commands.Homology c.args.e.now c.args.n) ≡ answered r s)
    (homology_told s c.args.e.now c.args.n t m c.in-Ok.ensures.told) c.listed_cycles.ensures.told

pub returns-in-Ok-clause-stops : goal.returns-in-Ok-clause-stops
returns-in-Ok-clause-stops g c =
    let s = state_of c.args.settings.now in
    let t = c.in-Ok.spot.term in
    let m = c.in-Ok.spot.degree in
    if_err c.listed_cycles.result (λ x. Stops x (told_homology s.prime t m)) (λ x. Stops x (told_reply s (commands.Homology c.args.e.now c.args.n)))
    (homology_stops s c.args.e.now c.args.n t m c.in-Ok.ensures.told) c.listed_cycles.ensures.stops

pub returns-in-Ok-clause-asked : goal.returns-in-Ok-clause-asked
returns-in-Ok-clause-asked g c =
    let s = state_of c.args.settings.now in
    subst (λ ks. AsksKeys g.A.Answerer.answers ks c.args.answerer.now c.listed_cycles.new.answerer (is_settled c.listed_cycles.result))
    (sym (homology_keys s c.args.e.now c.args.n c.in-Ok.spot.term c.in-Ok.spot.degree c.in-Ok.ensures.told)) c.listed_cycles.ensures.asked

pub returns-in-Err-clause-asked : goal.returns-in-Err-clause-asked
returns-in-Err-clause-asked g c =
    let s = state_of c.args.settings.now in
    asks_none_stopped Reply g.A.Answerer.answers s c.in-Err.stop (told_keys s (commands.Homology c.args.e.now c.args.n)) c.args.answerer.now
    (spot_stops s.names c.args.e.now c.args.n _ c.in-Err.stop c.in-Err.ensures.stops)
