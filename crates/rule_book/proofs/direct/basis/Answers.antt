use Rattle.std.proofs.Common.{sym, ◌∙◌}
use Rattle.rule_book.proofs.Kept.{kept}
use Rattle.rule_book.proofs.DirectValues.{basis-table, basis-sphere}
use Rattle.rule_book.proofs.direct.basis.Goals as goal

pub returns-in-Table : goal.returns-in-Table
returns-in-Table c =
    let k = c.args.key.now in
    kept c.rows_of_dim.result _ _ (λ ys e. basis-table k c.requires.key.0 c.in-Table.t c.degree_at-n.result ys (sym c.get.ensures ∙ c.in-Table.is) c.requires.op c.degree_at-n.ensures e) c.rows_of_dim.ensures

pub returns-in-Sphere : goal.returns-in-Sphere
returns-in-Sphere c =
    let k = c.args.key.now in
    kept c.sphere_cells.result _ _ (λ ys e. basis-sphere k c.requires.key.0 c.in-Sphere.m c.degree_at-n.result ys (sym c.get.ensures ∙ c.in-Sphere.is) c.requires.op c.degree_at-n.ensures e) c.sphere_cells.ensures
