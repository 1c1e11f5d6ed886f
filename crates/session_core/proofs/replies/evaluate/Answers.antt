use Rattle.std.proofs.Common.{ap}
use Rattle.session_core.specs.Asked.{is_settled}
use Rattle.session_core.specs.Lines.{told_keys, keys_or_none}
use Rattle.session_core.specs.Settings.{state_of}
use Rattle.session_core.proofs.NothingAsked.{asks_none}
use Rattle.session_core.proofs.replies.evaluate.Goals as goal

pub returns-in-Field-clause-asked : goal.returns-in-Field-clause-asked
returns-in-Field-clause-asked g c =
    let s = state_of c.args.settings.now in
    asks_none g.A.Answerer.answers (keys_or_none s (told_keys s c.args.command.now)) c.args.answerer.now (is_settled c.change_field.result) (ap (λ k. keys_or_none s (told_keys s k)) c.in-Field.is)

pub returns-in-Setf-clause-asked : goal.returns-in-Setf-clause-asked
returns-in-Setf-clause-asked g c =
    let s = state_of c.args.settings.now in
    asks_none g.A.Answerer.answers (keys_or_none s (told_keys s c.args.command.now)) c.args.answerer.now (is_settled c.name_space.result) (ap (λ k. keys_or_none s (told_keys s k)) c.in-Setf.is)

pub returns-in-Names-clause-asked : goal.returns-in-Names-clause-asked
returns-in-Names-clause-asked g c =
    let s = state_of c.args.settings.now in
    asks_none g.A.Answerer.answers (keys_or_none s (told_keys s c.args.command.now)) c.args.answerer.now (is_settled c.listed_names.result) (ap (λ k. keys_or_none s (told_keys s k)) c.in-Names.is)

pub returns-in-Boundary-clause-asked : goal.returns-in-Boundary-clause-asked
returns-in-Boundary-clause-asked g c =
    let s = state_of c.args.settings.now in
    asks_none g.A.Answerer.answers (keys_or_none s (told_keys s c.args.command.now)) c.args.answerer.now (is_settled c.boundary_reply.result) (ap (λ k. keys_or_none s (told_keys s k)) c.in-Boundary.is)
