use Rattle.std.proofs.Common.{◌∙◌, sym, ap, get_or, arith, rules, SFits, w64, of_z}
use Rattle.std.specs.Prelude.{pos, nat_abs}
use Rattle.std.proofs.lemmas.Int.{to_z-of_z}
use Rattle.term_lang.specs.Rows.{rows_of}
use Rattle.term_lang.proofs.CocycleRows.{missing_bad, large_bad, elsewhere_bad, plain_read, elsewhere_either, test_closed, test_dim, dim_read}
use Rattle.term_lang.proofs.check.is_bad.Goals as goal

pub returns-then-r-len : goal.returns-then-r-len
returns-then-r-len c = missing_bad (rows_of c.args.base.now) c.args.values.now c.args.r (omega (arith, c.len.ensures, c.if-r-len.true))

pub returns-then-unsigned_abs-gt-MOST_MAGNITUDE : goal.returns-then-unsigned_abs-gt-MOST_MAGNITUDE
returns-then-unsigned_abs-gt-MOST_MAGNITUDE c =
    let v = get_or c.as_slice-2.result.now c.args.r (pos 0) in
    let f : SFits w64 v = search rules in
    large_bad (rows_of c.args.base.now) c.args.values.now c.args.r v (plain_read c.args.values.now c.as_slice-2.result.now c.args.r c.as_slice-2.ensures)
    (omega (arith, c.unsigned_abs.ensures.value, ap nat_abs (to_z-of_z w64 v f), c.if-unsigned_abs-gt-MOST_MAGNITUDE.true))

pub returns-then-value-ne0 : goal.returns-then-value-ne0
returns-then-value-ne0 c =
    let v = get_or c.as_slice-2.result.now c.args.r (pos 0) in
    elsewhere_bad (rows_of c.args.base.now) c.args.values.now c.args.r (get_or c.as_slice.result.now c.args.r c.index-as_slice-r.result).dim v
    (dim_read c.args.base.now c.as_slice.result.now c.args.r c.index-as_slice-r.result (c.as_slice.ensures ∙ c.rows.ensures.rows) c.requires.row_in)
    (plain_read c.args.values.now c.as_slice-2.result.now c.args.r c.as_slice-2.ensures) c.if-dim-ne2.true (λ z. c.if-value-ne0.true (ap (of_z w64) z))

pub sum_on_faces-requires-clause-dimension : goal.sum_on_faces-requires-clause-dimension
sum_on_faces-requires-clause-dimension c =
    sym (dim_read c.args.base.now c.as_slice.result.now c.args.r c.index-as_slice-r.result (c.as_slice.ensures ∙ c.rows.ensures.rows) c.requires.row_in) ∙ c.if-dim-eq3.true

pub returns-then-dim-eq3 : goal.returns-then-dim-eq3
returns-then-dim-eq3 c =
    let v = get_or c.as_slice-2.result.now c.args.r (pos 0) in
    let n = (get_or c.as_slice.result.now c.args.r c.index-as_slice-r.result).dim in
    let f : SFits w64 v = search rules in
    let g : SFits w64 c.sum_on_faces.result = search rules in
    test_closed (rows_of c.args.base.now) c.args.values.now c.args.r n v
    (dim_read c.args.base.now c.as_slice.result.now c.args.r c.index-as_slice-r.result (c.as_slice.ensures ∙ c.rows.ensures.rows) c.requires.row_in)
    (plain_read c.args.values.now c.as_slice-2.result.now c.args.r c.as_slice-2.ensures) (omega (arith, c.len.ensures, c.if-r-len.false))
    (omega (arith, c.unsigned_abs.ensures.value, ap nat_abs (to_z-of_z w64 v f), c.if-unsigned_abs-gt-MOST_MAGNITUDE.false)) (elsewhere_either n v f c.else-dim-ne2.either)
    c.sum_on_faces.result g c.sum_on_faces.ensures c.if-dim-eq3.true

pub returns-else-dim-eq3 : goal.returns-else-dim-eq3
returns-else-dim-eq3 c =
    let v = get_or c.as_slice-2.result.now c.args.r (pos 0) in
    let n = (get_or c.as_slice.result.now c.args.r c.index-as_slice-r.result).dim in
    let f : SFits w64 v = search rules in
    test_dim (rows_of c.args.base.now) c.args.values.now c.args.r n v
    (dim_read c.args.base.now c.as_slice.result.now c.args.r c.index-as_slice-r.result (c.as_slice.ensures ∙ c.rows.ensures.rows) c.requires.row_in)
    (plain_read c.args.values.now c.as_slice-2.result.now c.args.r c.as_slice-2.ensures) (omega (arith, c.len.ensures, c.if-r-len.false))
    (omega (arith, c.unsigned_abs.ensures.value, ap nat_abs (to_z-of_z w64 v f), c.if-unsigned_abs-gt-MOST_MAGNITUDE.false)) (elsewhere_either n v f c.else-dim-ne2.either)
    c.if-dim-eq3.false
