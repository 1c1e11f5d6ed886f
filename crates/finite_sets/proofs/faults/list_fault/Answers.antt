use Rattle.std.proofs.Common.{Some, sym, ◌∙◌, ap, arith}
use Rattle.finite_sets.specs.declared.faults.TableFault.TheVariants.{TooManyCells}
use Rattle.finite_sets.proofs.ListFault.{too_many, no_vertex, no_list_fault}
use Rattle.finite_sets.proofs.faults.list_fault.Goals as goal

pub returns-then-len-gt-MOST_ROWS : goal.returns-then-len-gt-MOST_ROWS
returns-then-len-gt-MOST_ROWS c = ap (λ n. Some (TooManyCells n)) c.len-then-len-gt-MOST_ROWS.ensures ∙ sym (too_many c.args.rows.now (omega arith))

pub returns-then-has_vertex : goal.returns-then-has_vertex
returns-then-has_vertex c = sym (no_list_fault c.args.rows.now (omega arith) (sym c.has_vertex.ensures ∙ c.if-has_vertex.true))

pub returns-else-has_vertex : goal.returns-else-has_vertex
returns-else-has_vertex c = sym (no_vertex c.args.rows.now (omega arith) (sym c.has_vertex.ensures ∙ c.if-has_vertex.false))
