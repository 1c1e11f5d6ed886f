use Rattle.fp_field.specs.Field.{number}
use Rattle.term_lang.specs.SpaceOf.{space_of}
use Rattle.session_core.specs.declared.asker.Asker.{Asker}
use Rattle.session_core.specs.Lines.{keys_asked}
use Rattle.session_core.specs.Questions.{dimensions}
use Rattle.session_core.proofs.AskableKeys.{dimensions_askable}
use Rattle.session_core.proofs.AskedThrough.{may_each, asks_through}
use Rattle.session_core.proofs.betti.ask_dimensions.Goals as goal

pub dimensions_by_asking-requires-clause-forcer : goal.dimensions_by_asking-requires-clause-forcer
dimensions_by_asking-requires-clause-forcer g c =
    let r = c.args.range.now in
    may_each (λ (s : Asker g.row.A.Denot). s.answerer.now) (λ (s : Asker g.row.A.Denot). s.answerer.ghost_name) g.A.Answerer.may_answer g.A.Answerer.answers
    (keys_asked c.args.p (dimensions (number c.args.p) (space_of r.term) r.low r.high)) _ c.requires.answerer
    (dimensions_askable c.args.p r.term c.requires.ready r.low r.high c.requires.low c.requires.high)

pub returns-clause-asked : goal.returns-clause-asked
returns-clause-asked g c =
    let r = c.args.range.now in
    asks_through (λ (s : Asker g.row.A.Denot). s.answerer.now) (λ (s : Asker g.row.A.Denot). s.answerer.ghost_name) g.A.Answerer.answers c.dimensions_by_asking.result
    (keys_asked c.args.p (dimensions (number c.args.p) (space_of r.term) r.low r.high)) _ c.dimensions_by_asking.new.forcer c.answerer-1.given.0 c.answerer-1.given.1
    c.dimensions_by_asking.ensures.through c.dimensions_by_asking.ensures.asked
