use Rattle.std.proofs.Common.{◌≡◌, ◌++◌, ◌∷◌, [], sym, ◌∙◌, ap, subst, arith, slice_get, Some, refl, get_or, length, suc, ◌+◌}
use Rattle.std.proofs.lemmas.Option.{slice_get_read}
use Rattle.std.proofs.lemmas.Bool.Decides.{Decides-eqb}
use Rattle.std.proofs.lemmas.Bool.{ne_eqb}
use Rattle.term_lang.specs.declared.tables.Row.{Row}
use Rattle.oracle_iface.specs.SmallForms.{quote_row}
use Rattle.rule_book.proofs.RowCells.{cells_before, cell_there, cell_not_there}
use Rattle.rule_book.proofs.rows.rows_of_dim.Goals.{then-rows-i+in_ok-push, else-rows-i}
use Rattle.rule_book.proofs.rows.rows_of_dim.Goals as goal

pub loop-i-preserved : goal.loop-i-preserved
loop-i-preserved c = (cells, c.loop-i.invariant.1)
  where
    here : slice_get c.args.t.now c.loop-i.i ≡ Some c.index-rows-i.result
    here = subst (λ rows. slice_get rows c.loop-i.i ≡ Some c.index-rows-i.result) c.loop-i.invariant.1 (slice_get_read c.as_slice-rows.result.now (length c.as_slice-rows.result.now) c.loop-i.i c.index-rows-i.result refl c.loop-i-test.true c.index-rows-i.is)

    next : suc c.loop-i.i ≡ c.loop-i.i + 1
    next = omega arith

    dim : c.index-rows-i.result.dim ≡ (get_or c.as_slice-rows.result.now c.loop-i.i c.index-rows-i.result).dim
    dim = ap (λ (x : Row). x.dim) c.index-rows-i.is

    there : c.index-rows-i.result.dim ≡ c.args.n → cells_before c.args.t.now c.args.n c.loop-i.i ++ quote_row c.args.n c.loop-i.i ∷ [] ≡ cells_before c.args.t.now c.args.n (c.loop-i.i + 1)
    there e = sym (cell_there c.args.t.now c.args.n c.loop-i.i c.index-rows-i.result here ((Decides-eqb c.index-rows-i.result.dim c.args.n).1 e)) ∙ ap (cells_before c.args.t.now c.args.n) next

    not_there : (c.index-rows-i.result.dim ≡ c.args.n → ⊥) → cells_before c.args.t.now c.args.n c.loop-i.i ≡ cells_before c.args.t.now c.args.n (c.loop-i.i + 1)
    not_there h = sym (cell_not_there c.args.t.now c.args.n c.loop-i.i c.index-rows-i.result here (ne_eqb c.index-rows-i.result.dim c.args.n h)) ∙ ap (cells_before c.args.t.now c.args.n) next

    cells : c.if-rows-i.cells ≡ cells_before c.args.t.now c.args.n (c.loop-i.i + 1)
    cells = elim c.if-rows-i.branch [
      | then-rows-i+in_ok-push w ↦
          w.cells-is ∙ w.in_ok-push.ensures.ok ∙ ap (λ xs. xs ++ quote_row c.args.n c.loop-i.i ∷ []) c.loop-i.invariant.0 ∙ there (dim ∙ w.if-rows-i.true)
      | else-rows-i w ↦ w.cells-is ∙ c.loop-i.invariant.0 ∙ not_there (λ e. w.if-rows-i.false (sym dim ∙ e))
    ]
