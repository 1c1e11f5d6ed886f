use Rattle.std.proofs.Common.{◌≡◌, sym, ◌∙◌, ap, subst}
use Rattle.std.proofs.lemmas.Result.{IfOk-weaker}
use Rattle.term_lang.specs.SpaceOf.{space_of}
use Rattle.space_faces.specs.Boundaries.{graded_chain}
use Rattle.script_lang.specs.declared.commands.Command.TheVariants as commands
use Rattle.reply_text.specs.declared.replies.Reply.{Reply}
use Rattle.session_core.specs.Answer.{told, told_reply}
use Rattle.session_core.specs.Asked.{AsksKeys, is_settled}
use Rattle.session_core.specs.Expressing.{keys_of_parts, told_express}
use Rattle.session_core.specs.Lines.{told_keys}
use Rattle.session_core.specs.Settings.{state_of, answered}
use Rattle.session_core.specs.Telling.{Stops}
use Rattle.session_core.proofs.Told.{if_err}
use Rattle.session_core.proofs.SpotsTold.{asks_none_stopped}
use Rattle.session_core.proofs.BoundaryReplies.{graded_back}
use Rattle.session_core.proofs.ToldDegrees.{chain_degrees}
use Rattle.session_core.proofs.ExpressReplies.{posed_stops, express_told, express_stops, express_keys}
use Rattle.session_core.proofs.express.express_reply.Goals.{In-Ok}
use Rattle.session_core.proofs.express.express_reply.Goals as goal

-- the chain of the code stands for the cycle that is told
same : (g : _) (c : In-Ok g) → graded_chain (space_of c.in-Ok.posed.spot.term) c.in-Ok.posed.cycle.terms ≡ c.in-Ok.ensures.told.cycle
same g c =
    graded_back c.args.settings.now.prime (space_of c.in-Ok.posed.spot.term) c.in-Ok.ensures.ready c.in-Ok.posed.cycle c.in-Ok.ensures.told.cycle c.in-Ok.ensures.told.stands

pub parts_reply-requires-clause-cycle : goal.parts_reply-requires-clause-cycle
parts_reply-requires-clause-cycle g c =
    let s = state_of c.args.settings.now in
    let h = c.in-Ok.ensures.told in
    record { chain = h.cycle; stands = h.stands; degrees = chain_degrees s.prime c.in-Ok.posed.spot.term c.in-Ok.posed.spot.degree c.args.text.now h.cycle h.chain_is }

pub returns-in-Ok-clause-reply : goal.returns-in-Ok-clause-reply
returns-in-Ok-clause-reply g c =
    let s = state_of c.args.settings.now in
    let x = c.in-Ok.posed.spot in
    let h = c.in-Ok.ensures.told in
    IfOk-weaker c.parts_reply.result (λ r. told_express s.prime x.term x.degree (graded_chain (space_of x.term) c.in-Ok.posed.cycle.terms) ≡ told r)
    (λ r. told_reply s (commands.Express c.args.e.now c.args.n c.args.text.now) ≡ answered r s)
    (λ r k.
    express_told s c.args.e.now c.args.n c.args.text.now x.term x.degree h.cycle h.told_is r
    (subst (λ z. told_express s.prime x.term x.degree z ≡ told r) (same g (goal.at.returns-in-Ok-clause-reply g c).In-Ok) k)) c.parts_reply.ensures.told

pub returns-in-Ok-clause-stops : goal.returns-in-Ok-clause-stops
returns-in-Ok-clause-stops g c =
    let s = state_of c.args.settings.now in
    let x = c.in-Ok.posed.spot in
    let h = c.in-Ok.ensures.told in
    if_err c.parts_reply.result (λ y. Stops y (told_express s.prime x.term x.degree (graded_chain (space_of x.term) c.in-Ok.posed.cycle.terms)))
    (λ y. Stops y (told_reply s (commands.Express c.args.e.now c.args.n c.args.text.now)))
    (λ y k.
    express_stops s c.args.e.now c.args.n c.args.text.now x.term x.degree h.cycle h.told_is y
    (subst (λ z. Stops y (told_express s.prime x.term x.degree z)) (same g (goal.at.returns-in-Ok-clause-stops g c).In-Ok) k)) c.parts_reply.ensures.stops

pub returns-in-Ok-clause-asked : goal.returns-in-Ok-clause-asked
returns-in-Ok-clause-asked g c =
    let s = state_of c.args.settings.now in
    let x = c.in-Ok.posed.spot in
    let h = c.in-Ok.ensures.told in
    subst (λ ks. AsksKeys g.A.Answerer.answers ks c.args.answerer.now c.parts_reply.new.answerer (is_settled c.parts_reply.result))
    (ap (keys_of_parts s.prime x.term x.degree) (same g (goal.at.returns-in-Ok-clause-asked g c).In-Ok) ∙ sym (express_keys s c.args.e.now c.args.n c.args.text.now x.term x.degree h.cycle h.told_is))
    c.parts_reply.ensures.asked

pub returns-in-Err-clause-stops : goal.returns-in-Err-clause-stops
returns-in-Err-clause-stops g c =
    posed_stops (state_of c.args.settings.now) c.args.e.now c.args.n c.args.text.now _ c.in-Err.stop c.in-Err.ensures.stops

pub returns-in-Err-clause-asked : goal.returns-in-Err-clause-asked
returns-in-Err-clause-asked g c =
    let s = state_of c.args.settings.now in
    asks_none_stopped Reply g.A.Answerer.answers s c.in-Err.stop (told_keys s (commands.Express c.args.e.now c.args.n c.args.text.now)) c.args.answerer.now
    (posed_stops s c.args.e.now c.args.n c.args.text.now _ c.in-Err.stop c.in-Err.ensures.stops)
