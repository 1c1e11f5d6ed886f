use Rattle.std.proofs.Common.{refl}
use Rattle.term_lang.specs.SpaceOf.{space_of}
use Rattle.cells.specs.Dim.{dim_of}
use Rattle.term_lang.specs.Forms.{cell_form}
use Rattle.oracle_iface.specs.declared.keys.Op.TheVariants.{F}
use Rattle.oracle_iface.specs.declared.keys.Place.TheVariants.{Big}
use Rattle.part_asks.proofs.PartKeys.{f_ask, f-key, f-read, f-kind, f-result, may-one, asked-one, through-one}
use Rattle.part_asks.proofs.parts.part_f.Goals as goal

pub small_answer-requires-clause-kind : goal.small_answer-requires-clause-kind
small_answer-requires-clause-kind g c =
    f-kind c.args.p (space_of c.args.term.now) (dim_of c.args.x.now) (cell_form c.args.x.now (space_of c.args.term.now)) (f-read c.args.p c.args.term.now c.args.x.now c.requires.cell) (record { op = F; prime = c.args.p; place = Big c.in_ok-copy_cell.field-0; term = c.in_ok-clone.field-0 })
    (f-key c.args.p c.args.term.now c.args.x.now c.requires.cell (record { op = F; prime = c.args.p; place = Big c.in_ok-copy_cell.field-0; term = c.in_ok-clone.field-0 }) c.in_ok-copy_cell.field-0 c.in_ok-clone.field-0 c.in_ok-copy_cell.ensures c.in_ok-clone.ensures.cases refl)

pub small_answer-requires-clause-may : goal.small_answer-requires-clause-may
small_answer-requires-clause-may g c =
    may-one c.args.p (f_ask c.args.p c.args.term.now c.args.x.now c.requires.cell) (record { op = F; prime = c.args.p; place = Big c.in_ok-copy_cell.field-0; term = c.in_ok-clone.field-0 })
    (f-key c.args.p c.args.term.now c.args.x.now c.requires.cell (record { op = F; prime = c.args.p; place = Big c.in_ok-copy_cell.field-0; term = c.in_ok-clone.field-0 }) c.in_ok-copy_cell.field-0 c.in_ok-clone.field-0 c.in_ok-copy_cell.ensures c.in_ok-clone.ensures.cases refl) g.F.Forcer.may_force g.F.Forcer.forces c.args.forcer.now c.args.forcer.now c.requires.asks

pub returns-clause-asked : goal.returns-clause-asked
returns-clause-asked g c =
    asked-one c.args.p (f_ask c.args.p c.args.term.now c.args.x.now c.requires.cell) (record { op = F; prime = c.args.p; place = Big c.in_ok-copy_cell.field-0; term = c.in_ok-clone.field-0 })
    (f-key c.args.p c.args.term.now c.args.x.now c.requires.cell (record { op = F; prime = c.args.p; place = Big c.in_ok-copy_cell.field-0; term = c.in_ok-clone.field-0 }) c.in_ok-copy_cell.field-0 c.in_ok-clone.field-0 c.in_ok-copy_cell.ensures c.in_ok-clone.ensures.cases refl) g.F.Forcer.may_force g.F.Forcer.forces c.args.forcer.now c.small_answer.new.forcer c.small_answer.ensures.asked

pub returns-clause-through : goal.returns-clause-through
returns-clause-through g c =
    through-one c.args.p (f_ask c.args.p c.args.term.now c.args.x.now c.requires.cell) (record { op = F; prime = c.args.p; place = Big c.in_ok-copy_cell.field-0; term = c.in_ok-clone.field-0 })
    (f-key c.args.p c.args.term.now c.args.x.now c.requires.cell (record { op = F; prime = c.args.p; place = Big c.in_ok-copy_cell.field-0; term = c.in_ok-clone.field-0 }) c.in_ok-copy_cell.field-0 c.in_ok-clone.field-0 c.in_ok-copy_cell.ensures c.in_ok-clone.ensures.cases refl) g.F.Forcer.may_force g.F.Forcer.forces c.args.forcer.now c.small_answer.new.forcer c.small_answer.result c.small_answer.ensures.through

pub returns-clause-found : goal.returns-clause-found
returns-clause-found g c =
    f-result c.args.p (space_of c.args.term.now) (dim_of c.args.x.now) (cell_form c.args.x.now (space_of c.args.term.now)) (f-read c.args.p c.args.term.now c.args.x.now c.requires.cell) (record { op = F; prime = c.args.p; place = Big c.in_ok-copy_cell.field-0; term = c.in_ok-clone.field-0 })
    (f-key c.args.p c.args.term.now c.args.x.now c.requires.cell (record { op = F; prime = c.args.p; place = Big c.in_ok-copy_cell.field-0; term = c.in_ok-clone.field-0 }) c.in_ok-copy_cell.field-0 c.in_ok-clone.field-0 c.in_ok-copy_cell.ensures c.in_ok-clone.ensures.cases refl) c.small_answer.result c.small_answer.ensures.found
