use Rattle.std.proofs.Common.{◌≡◌, ◌+◌, ◌-◌, ◌≤◌, ◌++◌, ◌∷◌, [], ℤ, ◌+ℤ◌, suc, ◌∙◌, sym, ap, subst, arith, rules, SFits, w64, to_z, of_z}
use Rattle.std.specs.Prelude.{nat_abs, neg_ℤ}
use Rattle.std.specs.List.{All}
use Rattle.std.proofs.lemmas.Int.{to_z-of_z}
use Rattle.std.proofs.lemmas.List.Elements.{All-append, All-cons, All-nil}
use Rattle.spaces.specs.Tables.{row_degree}
use Rattle.spaces.specs.Nerves.{integers}
use Rattle.spaces.specs.Cocycles.{at_vertex, differences}
use Rattle.spaces.specs.Spaces.{table}
use Rattle.term_lang.specs.Belongs.{IsSimplex}
use Rattle.term_lang.specs.Forms.{form}
use Rattle.term_lang.specs.Rows.{rows_of}
use Rattle.term_lang.proofs.RowFaces.{some_row}
use Rattle.twist_maps.proofs.Triangles.{differences-next, difference_held, sum_small}
use Rattle.twist_maps.proofs.twists.cocycle_tau.Goals as goal

pub loop-j-preserved : goal.loop-j-preserved
loop-j-preserved c =
    let t = rows_of c.args.base.now in
    let x = form c.args.b.now (table t) in
    let v : ℤ = c.in_ok-value.value in
    let b : ℤ = to_z w64 c.loop-j.before-bits in
    let f : SFits w64 v = search rules in
    let at = at_vertex integers t c.args.values.now c.degree-n.result in
    let back : to_z w64 (of_z w64 v) ≡ v = to_z-of_z w64 v f in
    let vs : nat_abs v ≤ 100000 = c.in_ok-value.ensures.small in
    let value : v ≡ at c.loop-j.j x = c.in_ok-value.ensures.value in
    let e : c.loop-j.j + 1 - 2 ≡ suc (c.loop-j.j - 2) = omega (arith, c.loop-j.auto.j) in
    let g : suc (1 + (c.loop-j.j - 2)) ≡ c.loop-j.j = omega (arith, c.loop-j.auto.j) in
    let k : 1 + (c.loop-j.j - 2) ≡ c.loop-j.j - 1 = omega (arith, c.loop-j.auto.j) in
    let m : c.loop-j.j ≡ c.loop-j.j + 1 - 1 = omega arith in (
      c.in_ok-push.ensures.ok
          ∙ (λ i. c.loop-j.invariant.0 i ++ difference_held v b vs c.loop-j.invariant.2 i ∷ [])
          ∙ (λ i. differences integers t c.args.values.now c.degree-n.result 1 (c.loop-j.j - 2) x ++ (value i +ℤ neg_ℤ (c.loop-j.invariant.1 i)) ∷ [])
          ∙ (λ i. differences integers t c.args.values.now c.degree-n.result 1 (c.loop-j.j - 2) x ++ (at (sym g i) x +ℤ neg_ℤ (at (sym k i) x)) ∷ [])
          ∙ sym (ap (λ j. differences integers t c.args.values.now c.degree-n.result 1 j x) e
          ∙ differences-next t c.args.values.now c.degree-n.result 1 (c.loop-j.j - 2) x),
      back ∙ value ∙ ap (λ j. at j x) m,
      subst (λ z. nat_abs z ≤ 100000) (sym back) vs,
      subst (All (λ a. nat_abs a ≤ 200000)) (sym c.in_ok-push.ensures.ok)
          (All-append (λ a. nat_abs a ≤ 200000) c.loop-j.list (_ ∷ []) c.loop-j.invariant.3
          (All-cons (λ a. nat_abs a ≤ 200000) _ [] (subst (λ z. nat_abs z ≤ 200000) (sym (difference_held v b vs c.loop-j.invariant.2)) (sum_small v b vs c.loop-j.invariant.2)) (All-nil (λ a. nat_abs a ≤ 200000)))),
    )

pub returns-clause-value : goal.returns-clause-value
returns-clause-value c =
    let t = rows_of c.args.base.now in
    let x = form c.args.b.now (table t) in
    let k = some_row t c.rows.ensures.form c.degree-n.result c.args.b.now (subst (λ n. IsSimplex (table t) n c.args.b.now) (sym c.degree-n.ensures) c.requires.simplex) in
    let d : row_degree t x ≡ c.degree-n.result = ap (row_degree t) k.1.plain_is ∙ k.1.simplex.degree in
    let e : c.loop-j.j - 2 ≡ c.degree-n.result - 1 = omega (arith, c.loop-j-test.false, c.loop-j.auto.j, c.loop-j.auto.j-end) in
    c.loop-j.invariant.0 ∙ ap (λ i. differences integers t c.args.values.now c.degree-n.result 1 i x) e
    ∙ sym (ap (λ n. differences integers t c.args.values.now n 1 (n - 1) x) d)
