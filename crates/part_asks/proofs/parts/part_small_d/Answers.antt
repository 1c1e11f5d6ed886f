use Rattle.std.proofs.Common.{refl}
use Rattle.term_lang.specs.SpaceOf.{space_of}
use Rattle.oracle_iface.specs.SmallForms.{small_form}
use Rattle.oracle_iface.specs.declared.keys.Op.TheVariants.{SmallD}
use Rattle.oracle_iface.specs.declared.keys.Place.TheVariants.{Small}
use Rattle.part_asks.proofs.PartKeys.{d_ask, d-key, d-read, d-kind, d-result, may-one, asked-one, through-one}
use Rattle.part_asks.proofs.parts.part_small_d.Goals as goal

pub small_answer-requires-clause-kind : goal.small_answer-requires-clause-kind
small_answer-requires-clause-kind g c =
    d-kind c.args.p (space_of c.args.term.now) (small_form c.args.y.now (space_of c.args.term.now)) (d-read c.args.p c.args.term.now c.args.y.now c.requires.cell) (record { op = SmallD; prime = c.args.p; place = Small c.in_ok-copy_small.field-0; term = c.in_ok-clone.field-0 })
    (d-key c.args.p c.args.term.now c.args.y.now c.requires.cell (record { op = SmallD; prime = c.args.p; place = Small c.in_ok-copy_small.field-0; term = c.in_ok-clone.field-0 }) c.in_ok-copy_small.field-0 c.in_ok-clone.field-0 c.in_ok-copy_small.ensures c.in_ok-clone.ensures.cases refl)

pub small_answer-requires-clause-may : goal.small_answer-requires-clause-may
small_answer-requires-clause-may g c =
    may-one c.args.p (d_ask c.args.p c.args.term.now c.args.y.now c.requires.cell) (record { op = SmallD; prime = c.args.p; place = Small c.in_ok-copy_small.field-0; term = c.in_ok-clone.field-0 })
    (d-key c.args.p c.args.term.now c.args.y.now c.requires.cell (record { op = SmallD; prime = c.args.p; place = Small c.in_ok-copy_small.field-0; term = c.in_ok-clone.field-0 }) c.in_ok-copy_small.field-0 c.in_ok-clone.field-0 c.in_ok-copy_small.ensures c.in_ok-clone.ensures.cases refl) g.F.Forcer.may_force g.F.Forcer.forces c.args.forcer.now c.args.forcer.now c.requires.asks

pub returns-clause-asked : goal.returns-clause-asked
returns-clause-asked g c =
    asked-one c.args.p (d_ask c.args.p c.args.term.now c.args.y.now c.requires.cell) (record { op = SmallD; prime = c.args.p; place = Small c.in_ok-copy_small.field-0; term = c.in_ok-clone.field-0 })
    (d-key c.args.p c.args.term.now c.args.y.now c.requires.cell (record { op = SmallD; prime = c.args.p; place = Small c.in_ok-copy_small.field-0; term = c.in_ok-clone.field-0 }) c.in_ok-copy_small.field-0 c.in_ok-clone.field-0 c.in_ok-copy_small.ensures c.in_ok-clone.ensures.cases refl) g.F.Forcer.may_force g.F.Forcer.forces c.args.forcer.now c.small_answer.new.forcer c.small_answer.ensures.asked

pub returns-clause-through : goal.returns-clause-through
returns-clause-through g c =
    through-one c.args.p (d_ask c.args.p c.args.term.now c.args.y.now c.requires.cell) (record { op = SmallD; prime = c.args.p; place = Small c.in_ok-copy_small.field-0; term = c.in_ok-clone.field-0 })
    (d-key c.args.p c.args.term.now c.args.y.now c.requires.cell (record { op = SmallD; prime = c.args.p; place = Small c.in_ok-copy_small.field-0; term = c.in_ok-clone.field-0 }) c.in_ok-copy_small.field-0 c.in_ok-clone.field-0 c.in_ok-copy_small.ensures c.in_ok-clone.ensures.cases refl) g.F.Forcer.may_force g.F.Forcer.forces c.args.forcer.now c.small_answer.new.forcer c.small_answer.result c.small_answer.ensures.through

pub returns-clause-found : goal.returns-clause-found
returns-clause-found g c =
    d-result c.args.p (space_of c.args.term.now) (small_form c.args.y.now (space_of c.args.term.now)) (d-read c.args.p c.args.term.now c.args.y.now c.requires.cell) (record { op = SmallD; prime = c.args.p; place = Small c.in_ok-copy_small.field-0; term = c.in_ok-clone.field-0 })
    (d-key c.args.p c.args.term.now c.args.y.now c.requires.cell (record { op = SmallD; prime = c.args.p; place = Small c.in_ok-copy_small.field-0; term = c.in_ok-clone.field-0 }) c.in_ok-copy_small.field-0 c.in_ok-clone.field-0 c.in_ok-copy_small.ensures c.in_ok-clone.ensures.cases refl) c.small_answer.result c.small_answer.ensures.found
