use Rattle.std.proofs.Common.{refl}
use Rattle.term_lang.specs.SpaceOf.{space_of}
use Rattle.oracle_iface.specs.SmallForms.{small_form}
use Rattle.oracle_iface.specs.declared.keys.Op.TheVariants.{G}
use Rattle.oracle_iface.specs.declared.keys.Place.TheVariants.{Small}
use Rattle.part_asks.proofs.PartKeys.{g_ask, g-key, g-read, g-kind, g-result, may-one, asked-one, through-one}
use Rattle.part_asks.proofs.parts.part_g.Goals as goal

pub big_answer-requires-clause-kind : goal.big_answer-requires-clause-kind
big_answer-requires-clause-kind g c =
    g-kind c.args.p (space_of c.args.term.now) (small_form c.args.y.now (space_of c.args.term.now)) (g-read c.args.p c.args.term.now c.args.y.now c.requires.cell) (record { op = G; prime = c.args.p; place = Small c.in_ok-copy_small.field-0; term = c.in_ok-clone.field-0 })
    (g-key c.args.p c.args.term.now c.args.y.now c.requires.cell (record { op = G; prime = c.args.p; place = Small c.in_ok-copy_small.field-0; term = c.in_ok-clone.field-0 }) c.in_ok-copy_small.field-0 c.in_ok-clone.field-0 c.in_ok-copy_small.ensures c.in_ok-clone.ensures.cases refl)

pub big_answer-requires-clause-may : goal.big_answer-requires-clause-may
big_answer-requires-clause-may g c =
    may-one c.args.p (g_ask c.args.p c.args.term.now c.args.y.now c.requires.cell) (record { op = G; prime = c.args.p; place = Small c.in_ok-copy_small.field-0; term = c.in_ok-clone.field-0 })
    (g-key c.args.p c.args.term.now c.args.y.now c.requires.cell (record { op = G; prime = c.args.p; place = Small c.in_ok-copy_small.field-0; term = c.in_ok-clone.field-0 }) c.in_ok-copy_small.field-0 c.in_ok-clone.field-0 c.in_ok-copy_small.ensures c.in_ok-clone.ensures.cases refl) g.F.Forcer.may_force g.F.Forcer.forces c.args.forcer.now c.args.forcer.now c.requires.asks

pub returns-clause-asked : goal.returns-clause-asked
returns-clause-asked g c =
    asked-one c.args.p (g_ask c.args.p c.args.term.now c.args.y.now c.requires.cell) (record { op = G; prime = c.args.p; place = Small c.in_ok-copy_small.field-0; term = c.in_ok-clone.field-0 })
    (g-key c.args.p c.args.term.now c.args.y.now c.requires.cell (record { op = G; prime = c.args.p; place = Small c.in_ok-copy_small.field-0; term = c.in_ok-clone.field-0 }) c.in_ok-copy_small.field-0 c.in_ok-clone.field-0 c.in_ok-copy_small.ensures c.in_ok-clone.ensures.cases refl) g.F.Forcer.may_force g.F.Forcer.forces c.args.forcer.now c.big_answer.new.forcer c.big_answer.ensures.asked

pub returns-clause-through : goal.returns-clause-through
returns-clause-through g c =
    through-one c.args.p (g_ask c.args.p c.args.term.now c.args.y.now c.requires.cell) (record { op = G; prime = c.args.p; place = Small c.in_ok-copy_small.field-0; term = c.in_ok-clone.field-0 })
    (g-key c.args.p c.args.term.now c.args.y.now c.requires.cell (record { op = G; prime = c.args.p; place = Small c.in_ok-copy_small.field-0; term = c.in_ok-clone.field-0 }) c.in_ok-copy_small.field-0 c.in_ok-clone.field-0 c.in_ok-copy_small.ensures c.in_ok-clone.ensures.cases refl) g.F.Forcer.may_force g.F.Forcer.forces c.args.forcer.now c.big_answer.new.forcer c.big_answer.result c.big_answer.ensures.through

pub returns-clause-found : goal.returns-clause-found
returns-clause-found g c =
    g-result c.args.p (space_of c.args.term.now) (small_form c.args.y.now (space_of c.args.term.now)) (g-read c.args.p c.args.term.now c.args.y.now c.requires.cell) (record { op = G; prime = c.args.p; place = Small c.in_ok-copy_small.field-0; term = c.in_ok-clone.field-0 })
    (g-key c.args.p c.args.term.now c.args.y.now c.requires.cell (record { op = G; prime = c.args.p; place = Small c.in_ok-copy_small.field-0; term = c.in_ok-clone.field-0 }) c.in_ok-copy_small.field-0 c.in_ok-clone.field-0 c.in_ok-copy_small.ensures c.in_ok-clone.ensures.cases refl) c.big_answer.result c.big_answer.ensures.found
