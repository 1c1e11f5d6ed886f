use Rattle.std.proofs.Common.{◌≡◌, [], cond, sym, ◌∙◌, ap, subst}
use Rattle.reply_text.specs.declared.replies.Reply.TheVariants as replies
use Rattle.session_core.specs.declared.stops.Stop.TheVariants as stops
use Rattle.session_core.specs.Answer.{told_reply}
use Rattle.session_core.specs.Telling.{Stops}
use Rattle.session_core.specs.Lines.{told_keys, keys_or_none, command_keys}
use Rattle.session_core.specs.Settings.{state_of, pair}
use Rattle.session_core.proofs.Layers.{answer-unbuilt, answer-refused}
use Rattle.session_core.proofs.ToldLines.{answer-told}
use Rattle.session_core.proofs.NothingAsked.{asks_none}
use Rattle.session_core.proofs.replies.answer.Goals as goal

pub returns-then-is_unbuilt_command-clause-reply : goal.returns-then-is_unbuilt_command-clause-reply
returns-then-is_unbuilt_command-clause-reply g c =
    answer-unbuilt (state_of c.args.settings.now) c.args.command.now (sym c.is_unbuilt_command.ensures ∙ c.if-is_unbuilt_command.true)

pub returns-then-is_unbuilt_command-clause-asked : goal.returns-then-is_unbuilt_command-clause-asked
returns-then-is_unbuilt_command-clause-asked g c =
    let s = state_of c.args.settings.now in
    asks_none g.A.Answerer.answers (command_keys s c.args.command.now) c.args.answerer.now _
    (ap (λ b. cond b ([]) (keys_or_none s (told_keys s c.args.command.now))) (sym c.is_unbuilt_command.ensures ∙ c.if-is_unbuilt_command.true))

pub returns-in-Ok-clause-reply : goal.returns-in-Ok-clause-reply
returns-in-Ok-clause-reply g c =
    answer-told (state_of c.args.settings.now) c.args.command.now (pair c.in-Ok.reply (state_of c.evaluate.new.settings)) (sym c.is_unbuilt_command.ensures ∙ c.if-is_unbuilt_command.false)
    c.in-Ok.ensures.reply

pub returns-in-Err-Refused-clause-reply : goal.returns-in-Err-Refused-clause-reply
returns-in-Err-Refused-clause-reply g c =
    let e : c.in-Err-Refused.field-0 ≡ stops.Refused c.in-Err-Refused.refusal = cc in
    answer-refused (state_of c.args.settings.now) c.args.command.now c.in-Err-Refused.refusal (sym c.is_unbuilt_command.ensures ∙ c.if-is_unbuilt_command.false)
    (subst (λ x. Stops x (told_reply (state_of c.args.settings.now) c.args.command.now)) e c.in-Err-Refused.ensures.stops) ∙ ap (λ x. pair (replies.Refused c.in-Err-Refused.refusal) (state_of x)) (sym c.in-Err-Refused.ensures.kept)
