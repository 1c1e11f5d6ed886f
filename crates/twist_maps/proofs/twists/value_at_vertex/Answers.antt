use Rattle.std.proofs.Common.{◌-◌, ℤ, ◌∙◌, sym, ap, rules, SFits, w64}
use Rattle.std.proofs.lemmas.Int.{to_z-of_z}
use Rattle.spaces.specs.Nerves.{integers}
use Rattle.spaces.specs.Cocycles.{cocycle, first_vertices, face_times}
use Rattle.spaces.specs.Spaces.{table}
use Rattle.term_lang.specs.Forms.{form}
use Rattle.term_lang.specs.Rows.{rows_of}
use Rattle.twist_maps.proofs.Triangles.{at_vertex-is}
use Rattle.twist_maps.proofs.twists.value_at_vertex.Goals as goal

pub returns-clause-value : goal.returns-clause-value
returns-clause-value c =
    let f : SFits w64 c.value_on.result = search rules in
    to_z-of_z w64 c.value_on.result f ∙ c.value_on.ensures.value
    ∙ ap (cocycle integers (rows_of c.args.base.now) c.args.values.now) (c.first_triangle.ensures.form c.args.values.now)
    ∙ ap (λ x. cocycle integers (rows_of c.args.base.now) c.args.values.now (face_times integers (rows_of c.args.base.now) c.args.values.now (c.args.j - 2) 2 x)) (c.front_of-front.ensures.form c.args.values.now)
    ∙ ap (λ x. cocycle integers (rows_of c.args.base.now) c.args.values.now (face_times integers (rows_of c.args.base.now) c.args.values.now (c.args.j - 2) 2
    (first_vertices integers (rows_of c.args.base.now) c.args.values.now c.args.j (c.args.n - c.args.j) (form x (table (rows_of c.args.base.now)))))) c.in_ok-copy_simplex.ensures
    ∙ sym (at_vertex-is (rows_of c.args.base.now) c.args.values.now c.args.n c.args.j (form c.args.b.now (table (rows_of c.args.base.now))) c.requires.from)
