use Rattle.std.proofs.Common.{sym, ◌∙◌, ap}
use Rattle.std.specs.Prelude.{None}
use Rattle.term_lang.specs.declared.terms.Term.TheVariants.{Suspension}
use Rattle.susp_rules.proofs.Questions.{need-found, need-key}
use Rattle.susp_rules.proofs.keys.part_key.Goals as goal

pub returns-in-None : goal.returns-in-None
returns-in-None c =
    need-found c.args.key.now c.requires.valid c.requires.space.0 c.requires.space.1 c.requires.op None (sym c.in-None.is ∙ c.in_ok-part_place.ensures)

pub returns-in_ok-share-in-Some : goal.returns-in_ok-share-in-Some
returns-in_ok-share-in-Some c =
    need-key c.args.key.now c.requires.valid c.requires.space.0 c.requires.space.1 c.requires.op c.in-Some.place c.in_ok-share-in-Some.field-0
    (sym c.in-Some.is ∙ c.in_ok-part_place.ensures)
    (sym c.get.ensures ∙ c.part_of.ensures ∙ ap Suspension (sym c.in_ok-share-in-Some.ensures))
