use Rattle.std.proofs.Common.{length, refl}
use Rattle.elim_fp.specs.Rows.{vectors_of}
use Rattle.elim_fp.proofs.TableSums.{table-basis}
use Rattle.elim_fp.proofs.eliminate.reduce_rows.Goals as goal

pub returns-clause-basis : goal.returns-clause-basis
returns-clause-basis c =
    (table-basis c.args.p c.args.width (length c.in_ok-table_of.field-0.items) (vectors_of c.args.rows.now) c.in_ok-table_of.field-0.items c.in_ok-table.table.items c.deref.result.now c.in_ok-basis.basis.items
    c.in_ok-table_of.ensures.table refl c.in_ok-table.ensures.table c.deref.ensures.value c.in_ok-basis.ensures c.in_ok-table_of.ensures.span c.in_ok-table.ensures.span c.in_ok-table.ensures.echelon).1

pub returns-clause-echelon : goal.returns-clause-echelon
returns-clause-echelon c =
    (table-basis c.args.p c.args.width (length c.in_ok-table_of.field-0.items) (vectors_of c.args.rows.now) c.in_ok-table_of.field-0.items c.in_ok-table.table.items c.deref.result.now c.in_ok-basis.basis.items
    c.in_ok-table_of.ensures.table refl c.in_ok-table.ensures.table c.deref.ensures.value c.in_ok-basis.ensures c.in_ok-table_of.ensures.span c.in_ok-table.ensures.span c.in_ok-table.ensures.echelon).0

pub returns-clause-primes : goal.returns-clause-primes
returns-clause-primes c =
    (table-basis c.args.p c.args.width (length c.in_ok-table_of.field-0.items) (vectors_of c.args.rows.now) c.in_ok-table_of.field-0.items c.in_ok-table.table.items c.deref.result.now c.in_ok-basis.basis.items
    c.in_ok-table_of.ensures.table refl c.in_ok-table.ensures.table c.deref.ensures.value c.in_ok-basis.ensures c.in_ok-table_of.ensures.span c.in_ok-table.ensures.span c.in_ok-table.ensures.echelon).2
