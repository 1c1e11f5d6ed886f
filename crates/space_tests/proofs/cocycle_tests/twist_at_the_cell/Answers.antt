use Rattle.std.proofs.Common.{◌≤◌, sym, subst, lit≤}
use Rattle.term_lang.specs.Rows.{rows_of}
use Rattle.space_tests.proofs.SphereRows.{cell_degree, cell_at_degree}
use Rattle.space_tests.proofs.cocycle_tests.twist_at_the_cell.Goals as goal

pub cocycle_tau-requires-clause-simplex : goal.cocycle_tau-requires-clause-simplex
cocycle_tau-requires-clause-simplex c =
    cell_at_degree (rows_of c.in_ok-base.base) c.rows.ensures.form c.in_ok-base.ensures.rows_are c.cell_of_the_sphere.result c.cell_of_the_sphere.ensures.mask c.cell_of_the_sphere.ensures.cell

pub cocycle_tau-requires-clause-positive : goal.cocycle_tau-requires-clause-positive
cocycle_tau-requires-clause-positive c =
    subst (λ n. 1 ≤ n)
    (sym (cell_degree (rows_of c.in_ok-base.base) c.rows.ensures.form c.in_ok-base.ensures.rows_are c.cell_of_the_sphere.result c.cell_of_the_sphere.ensures.mask c.cell_of_the_sphere.ensures.cell))
    (lit≤ tt)

pub cocycle_tau-requires-clause-most : goal.cocycle_tau-requires-clause-most
cocycle_tau-requires-clause-most c =
    subst (λ n. n ≤ 32)
    (sym (cell_degree (rows_of c.in_ok-base.base) c.rows.ensures.form c.in_ok-base.ensures.rows_are c.cell_of_the_sphere.result c.cell_of_the_sphere.ensures.mask c.cell_of_the_sphere.ensures.cell))
    (lit≤ tt)
