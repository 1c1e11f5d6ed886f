use Rattle.std.proofs.Common.{sym, ◌∙◌, ap}
use Rattle.simp_ops.specs.PathWords.{event, matched}
use Rattle.path_words.specs.Events.{steps, event_is}
use Rattle.path_words.proofs.Steps.{event-matched, matched-matched, matched-critical}
use Rattle.path_words.proofs.events.matched.Goals as goal

pub returns-in-Source-clause-event : goal.returns-in-Source-clause-event
returns-in-Source-clause-event c = ap event c.target_at.ensures ∙ event-matched (steps c.args.w.now)

pub returns-in-Source-clause-back : goal.returns-in-Source-clause-back
returns-in-Source-clause-back c = ap matched c.target_at.ensures ∙ matched-matched (steps c.args.w.now)

pub returns-in-Target-clause-event : goal.returns-in-Target-clause-event
returns-in-Target-clause-event c = ap event c.source_at.ensures ∙ event-matched (steps c.args.w.now)

pub returns-in-Target-clause-back : goal.returns-in-Target-clause-back
returns-in-Target-clause-back c = ap matched c.source_at.ensures ∙ matched-matched (steps c.args.w.now)

pub returns-in-Critical-clause-word : goal.returns-in-Critical-clause-word
returns-in-Critical-clause-word c = sym (matched-critical (steps c.args.w.now) (sym c.event_of.ensures ∙ ap event_is c.in-Critical.is))

pub returns-in-Critical-clause-back : goal.returns-in-Critical-clause-back
returns-in-Critical-clause-back c = matched-critical (steps c.args.w.now) (sym c.event_of.ensures ∙ ap event_is c.in-Critical.is)
