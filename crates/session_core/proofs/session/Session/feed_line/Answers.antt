use Rattle.session_core.specs.Lines.{line_keys}
use Rattle.session_core.proofs.NothingAsked.{asks_not_yet}
use Rattle.session_core.proofs.session.Session.feed_line.Goals as goal

pub returns-then-self-clause-asked : goal.returns-then-self-clause-asked
returns-then-self-clause-asked g c = asks_not_yet g.A.Answerer.answers (line_keys c.args.self.now.state c.args.line.now) c.args.answerer.now
