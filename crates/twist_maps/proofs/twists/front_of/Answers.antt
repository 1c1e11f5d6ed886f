use Rattle.std.proofs.Common.{◌≡◌, ◌-◌, ◌≤◌, ◌∙◌, sym, ap, subst, arith}
use Rattle.spaces.specs.Nerves.{integers}
use Rattle.spaces.specs.Cocycles.{first_vertices}
use Rattle.spaces.specs.Spaces.{table}
use Rattle.term_lang.specs.Belongs.{IsSimplex}
use Rattle.term_lang.specs.Forms.{form}
use Rattle.term_lang.specs.Rows.{rows_of}
use Rattle.twist_maps.proofs.Triangles.{degree-is, at_degree, front-step}
use Rattle.twist_maps.proofs.twists.front_of.Goals as goal

pub table_face-x-requires-clause-simplex : goal.table_face-x-requires-clause-simplex
table_face-x-requires-clause-simplex c = at_degree (rows_of c.args.base.now) c.rows.ensures.form c.loop-i.i c.loop-i.invariant.1 c.loop-i.x c.loop-i.invariant.2

pub table_face-x-requires-clause-positive : goal.table_face-x-requires-clause-positive
table_face-x-requires-clause-positive c =
    subst (λ k. 1 ≤ k) (sym (degree-is (rows_of c.args.base.now) c.rows.ensures.form c.loop-i.i c.loop-i.invariant.1 c.loop-i.x c.loop-i.invariant.2)) (omega (arith, c.loop-i-test.true))

pub table_face-x-requires-clause-most : goal.table_face-x-requires-clause-most
table_face-x-requires-clause-most c =
    subst (λ k. k ≤ 32) (sym (degree-is (rows_of c.args.base.now) c.rows.ensures.form c.loop-i.i c.loop-i.invariant.1 c.loop-i.x c.loop-i.invariant.2)) c.loop-i.invariant.1

pub table_face-x-requires-clause-index : goal.table_face-x-requires-clause-index
table_face-x-requires-clause-index c =
    subst (λ k. c.loop-i.i ≤ k) (sym (degree-is (rows_of c.args.base.now) c.rows.ensures.form c.loop-i.i c.loop-i.invariant.1 c.loop-i.x c.loop-i.invariant.2)) (omega arith)

pub loop-i-preserved : goal.loop-i-preserved
loop-i-preserved c = (
  omega (arith, c.loop-i-test.true),
  omega (arith, c.loop-i.invariant.1),
  subst (λ k. IsSimplex (table (rows_of c.args.base.now)) (k - 1) c.table_face-x.result)
      (degree-is (rows_of c.args.base.now) c.rows.ensures.form c.loop-i.i c.loop-i.invariant.1 c.loop-i.x c.loop-i.invariant.2) c.table_face-x.ensures.simplex,
  λ d.
      ap (first_vertices integers (rows_of c.args.base.now) d c.args.j (c.loop-i.i - 1 - c.args.j)) c.table_face-x.ensures.form
      ∙ sym (front-step (rows_of c.args.base.now) d c.args.j c.loop-i.i (form c.loop-i.x (table (rows_of c.args.base.now))) c.loop-i-test.true)
      ∙ c.loop-i.invariant.3 d,
)

pub returns-clause-form : goal.returns-clause-form
returns-clause-form c d =
    let e : c.loop-i.i - c.args.j ≡ 0 = omega (arith, c.loop-i-test.false) in
    sym (ap (λ k. first_vertices integers (rows_of c.args.base.now) d c.args.j k (form c.loop-i.x (table (rows_of c.args.base.now)))) e) ∙ c.loop-i.invariant.3 d
