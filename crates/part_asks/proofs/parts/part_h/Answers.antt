use Rattle.std.proofs.Common.{refl}
use Rattle.term_lang.specs.SpaceOf.{space_of}
use Rattle.cells.specs.Dim.{dim_of}
use Rattle.term_lang.specs.Forms.{cell_form}
use Rattle.oracle_iface.specs.declared.keys.Op.TheVariants.{H}
use Rattle.oracle_iface.specs.declared.keys.Place.TheVariants.{Big}
use Rattle.part_asks.proofs.PartKeys.{h_ask, h-key, h-read, h-kind, h-result, may-one, asked-one, through-one}
use Rattle.part_asks.proofs.parts.part_h.Goals as goal

pub big_answer-requires-clause-kind : goal.big_answer-requires-clause-kind
big_answer-requires-clause-kind g c =
    h-kind c.args.p (space_of c.args.term.now) (dim_of c.args.x.now) (cell_form c.args.x.now (space_of c.args.term.now)) (h-read c.args.p c.args.term.now c.args.x.now c.requires.cell) (record { op = H; prime = c.args.p; place = Big c.in_ok-copy_cell.field-0; term = c.in_ok-clone.field-0 })
    (h-key c.args.p c.args.term.now c.args.x.now c.requires.cell (record { op = H; prime = c.args.p; place = Big c.in_ok-copy_cell.field-0; term = c.in_ok-clone.field-0 }) c.in_ok-copy_cell.field-0 c.in_ok-clone.field-0 c.in_ok-copy_cell.ensures c.in_ok-clone.ensures.cases refl)

pub big_answer-requires-clause-may : goal.big_answer-requires-clause-may
big_answer-requires-clause-may g c =
    may-one c.args.p (h_ask c.args.p c.args.term.now c.args.x.now c.requires.cell) (record { op = H; prime = c.args.p; place = Big c.in_ok-copy_cell.field-0; term = c.in_ok-clone.field-0 })
    (h-key c.args.p c.args.term.now c.args.x.now c.requires.cell (record { op = H; prime = c.args.p; place = Big c.in_ok-copy_cell.field-0; term = c.in_ok-clone.field-0 }) c.in_ok-copy_cell.field-0 c.in_ok-clone.field-0 c.in_ok-copy_cell.ensures c.in_ok-clone.ensures.cases refl) g.F.Forcer.may_force g.F.Forcer.forces c.args.forcer.now c.args.forcer.now c.requires.asks

pub returns-clause-asked : goal.returns-clause-asked
returns-clause-asked g c =
    asked-one c.args.p (h_ask c.args.p c.args.term.now c.args.x.now c.requires.cell) (record { op = H; prime = c.args.p; place = Big c.in_ok-copy_cell.field-0; term = c.in_ok-clone.field-0 })
    (h-key c.args.p c.args.term.now c.args.x.now c.requires.cell (record { op = H; prime = c.args.p; place = Big c.in_ok-copy_cell.field-0; term = c.in_ok-clone.field-0 }) c.in_ok-copy_cell.field-0 c.in_ok-clone.field-0 c.in_ok-copy_cell.ensures c.in_ok-clone.ensures.cases refl) g.F.Forcer.may_force g.F.Forcer.forces c.args.forcer.now c.big_answer.new.forcer c.big_answer.ensures.asked

pub returns-clause-through : goal.returns-clause-through
returns-clause-through g c =
    through-one c.args.p (h_ask c.args.p c.args.term.now c.args.x.now c.requires.cell) (record { op = H; prime = c.args.p; place = Big c.in_ok-copy_cell.field-0; term = c.in_ok-clone.field-0 })
    (h-key c.args.p c.args.term.now c.args.x.now c.requires.cell (record { op = H; prime = c.args.p; place = Big c.in_ok-copy_cell.field-0; term = c.in_ok-clone.field-0 }) c.in_ok-copy_cell.field-0 c.in_ok-clone.field-0 c.in_ok-copy_cell.ensures c.in_ok-clone.ensures.cases refl) g.F.Forcer.may_force g.F.Forcer.forces c.args.forcer.now c.big_answer.new.forcer c.big_answer.result c.big_answer.ensures.through

pub returns-clause-found : goal.returns-clause-found
returns-clause-found g c =
    h-result c.args.p (space_of c.args.term.now) (dim_of c.args.x.now) (cell_form c.args.x.now (space_of c.args.term.now)) (h-read c.args.p c.args.term.now c.args.x.now c.requires.cell) (record { op = H; prime = c.args.p; place = Big c.in_ok-copy_cell.field-0; term = c.in_ok-clone.field-0 })
    (h-key c.args.p c.args.term.now c.args.x.now c.requires.cell (record { op = H; prime = c.args.p; place = Big c.in_ok-copy_cell.field-0; term = c.in_ok-clone.field-0 }) c.in_ok-copy_cell.field-0 c.in_ok-clone.field-0 c.in_ok-copy_cell.ensures c.in_ok-clone.ensures.cases refl) c.big_answer.result c.big_answer.ensures.found
