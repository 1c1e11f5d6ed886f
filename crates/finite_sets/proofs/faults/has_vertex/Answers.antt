use Rattle.std.proofs.Common.{◌||◌, length, sym, ◌∙◌, arith}
use Rattle.std.proofs.lemmas.List.Folds.{list_any_more}
use Rattle.std.proofs.lemmas.Option.{get_or_from_slice_get}
use Rattle.simp_ops.proofs.PlacesOf.{is_eq, not_eq}
use Rattle.finite_sets.specs.Faults.{is_vertex}
use Rattle.finite_sets.proofs.Entries.{got, list_any-get}
use Rattle.finite_sets.proofs.faults.has_vertex.Goals as goal

pub returns-then-len-eq0 : goal.returns-then-len-eq0
returns-then-len-eq0 c =
    let row = c.unwrap.result.now in
    let e = got c.get.result c.unwrap.result _ c.get.ensures.value c.unwrap.ensures in
    sym (list_any-get is_vertex c.args.rows.now c.loop-r.r row e (is_eq (length row.faces) 0 (omega arith)))

pub loop-r-preserved : goal.loop-r-preserved
loop-r-preserved c =
    let rows = c.args.rows.now in
    let row = c.unwrap.result.now in
    let e = got c.get.result c.unwrap.result _ c.get.ensures.value c.unwrap.ensures in
    list_any_more is_vertex rows c.loop-r.r row (omega arith)
    ∙ (λ i. c.loop-r.invariant i || is_vertex (get_or_from_slice_get rows c.loop-r.r row row e i)) ∙ not_eq (length row.faces) 0 (λ q. omega (arith, q))
