use Rattle.std.proofs.Common.{◌≡◌, ◌<◌, ◌∙◌, ℤ, pos, Some, length, sym, ap, subst, arith, rules, SFits, w64, to_z, of_z}
use Rattle.std.proofs.lemmas.Int.{to_z-of_z}
use Rattle.std.proofs.lemmas.List.{length-map}
use Rattle.spaces.specs.Tables.{row_at}
use Rattle.term_lang.specs.declared.texts.NotCocycle.{NotCocycle}
use Rattle.term_lang.specs.Rows.{row_of, rows_of}
use Rattle.term_lang.specs.TermFaults.{face_sum}
use Rattle.term_lang.proofs.CocycleRows.{dim_read}
use Rattle.twist_maps.specs.Values.{is_open}
use Rattle.twist_maps.proofs.Opens.{open-found, none-open, seen-next, no_dimension, with_dimension, no_sum}
use Rattle.twist_maps.proofs.checks.check_cocycle.Goals.{then-rows-r-eq3+else-sum-ne0, else-rows-r-eq3}
use Rattle.twist_maps.proofs.checks.check_cocycle.Goals as goal

pub sum_on_faces-sum-requires-clause-dimension : goal.sum_on_faces-sum-requires-clause-dimension
sum_on_faces-sum-requires-clause-dimension c =
    let e = c.as_slice-rows.ensures ∙ c.rows.ensures.rows in
    sym (dim_read c.args.base.now c.as_slice-rows.result.now c.loop-r.r c.index-rows-r.result e (omega (arith, c.loop-r-test.true, ap length e))) ∙ c.if-rows-r-eq3.true

pub returns-then-sum-ne0 : goal.returns-then-sum-ne0
returns-then-sum-ne0 c =
    let e = c.as_slice-rows.ensures ∙ c.rows.ensures.rows in
    let f : SFits w64 c.sum_on_faces-sum.result = search rules in
    let found : ℤ → NotCocycle = λ s. record { row = c.loop-r.r; sum = s } in
    ap (λ s. Some (found s)) (to_z-of_z w64 c.sum_on_faces-sum.result f ∙ c.sum_on_faces-sum.ensures)
    ∙ open-found (rows_of c.args.base.now) c.args.values.now c.loop-r.r (omega (arith, c.loop-r-test.true, ap length e, length-map c.args.base.now row_of))
    (sym (dim_read c.args.base.now c.as_slice-rows.result.now c.loop-r.r c.index-rows-r.result e (omega (arith, c.loop-r-test.true, ap length e))) ∙ c.if-rows-r-eq3.true)
    (λ z. c.if-sum-ne0.true (ap (of_z w64) (c.sum_on_faces-sum.ensures ∙ z))) c.loop-r.invariant

pub loop-r-preserved : goal.loop-r-preserved
loop-r-preserved c =
    let e = c.as_slice-rows.ensures ∙ c.rows.ensures.rows in
    let d = dim_read c.args.base.now c.as_slice-rows.result.now c.loop-r.r c.index-rows-r.result e (omega (arith, c.loop-r-test.true, ap length e)) in
    seen-next (is_open (rows_of c.args.base.now) c.args.values.now) c.loop-r.r c.loop-r.invariant
    (elim c.if-rows-r-eq3.branch [
      | then-rows-r-eq3+else-sum-ne0 w ↦
          (let f : SFits w64 w.sum_on_faces-sum.result = search rules in
          with_dimension (rows_of c.args.base.now) c.args.values.now c.loop-r.r (sym d ∙ w.if-rows-r-eq3.true)
          ∙ no_sum (rows_of c.args.base.now) c.args.values.now c.loop-r.r
          (sym w.sum_on_faces-sum.ensures ∙ sym (to_z-of_z w64 w.sum_on_faces-sum.result f) ∙ ap (to_z w64) w.if-sum-ne0.false))
      | else-rows-r-eq3 w ↦ no_dimension (rows_of c.args.base.now) c.args.values.now c.loop-r.r (λ z. w.if-rows-r-eq3.false (d ∙ z))
    ])

pub returns : goal.returns
returns c =
    let e = c.as_slice-rows.ensures ∙ c.rows.ensures.rows in
    none-open (rows_of c.args.base.now) c.args.values.now
    (λ k l. c.loop-r.invariant k (omega (arith, l, c.loop-r-test.false, ap length e, length-map c.args.base.now row_of)))
