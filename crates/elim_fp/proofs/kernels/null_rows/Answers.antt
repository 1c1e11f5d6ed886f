use Rattle.std.proofs.Common.{refl, length}
use Rattle.elim_fp.specs.Rows.{vectors_of}
use Rattle.elim_fp.proofs.Turning.{null-rows}
use Rattle.elim_fp.proofs.kernels.null_rows.Goals as goal

pub returns-clause-basis : goal.returns-clause-basis
returns-clause-basis c =
    (null-rows c.args.p c.args.width (length c.args.rows.now) (length c.deref.result.now) c.args.rows.now c.in_ok-columns.columns.items c.deref.result.now (vectors_of c.in_ok-basis.basis.items)
    c.requires.rows c.in_ok-columns.ensures.each c.in_ok-columns.ensures.columns c.deref.ensures.value refl refl c.in_ok-basis.ensures.echelon c.in_ok-basis.ensures.basis).1

pub returns-clause-echelon : goal.returns-clause-echelon
returns-clause-echelon c =
    (null-rows c.args.p c.args.width (length c.args.rows.now) (length c.deref.result.now) c.args.rows.now c.in_ok-columns.columns.items c.deref.result.now (vectors_of c.in_ok-basis.basis.items)
    c.requires.rows c.in_ok-columns.ensures.each c.in_ok-columns.ensures.columns c.deref.ensures.value refl refl c.in_ok-basis.ensures.echelon c.in_ok-basis.ensures.basis).0
