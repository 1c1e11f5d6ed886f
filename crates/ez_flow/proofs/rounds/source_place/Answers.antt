use Rattle.std.proofs.Common.{sym, ◌∙◌, ap}
use Rattle.path_words.specs.Events.{event_is}
use Rattle.ez_flow.proofs.RoundWeights.{place-below}
use Rattle.ez_flow.proofs.rounds.source_place.Goals as goal

pub returns-clause-below : goal.returns-clause-below
returns-clause-below c = place-below c.args.n c.args.left.mask c.args.right.mask c.in-Source.j (sym c.event_of.ensures ∙ ap event_is c.in-Source.is)
