use Rattle.term_lang.proofs.SpacesOfTerms.{space_once}
use Rattle.term_lang.proofs.TermForests.{one_term}
use Rattle.term_lang.proofs.laws.one_term.Goals as goal

pub returns : goal.returns
returns c = record { order = one_term c.args.t.now; space = space_once c.args.t.now }
