use Rattle.std.proofs.Common.{◌-◌, sym, ◌∙◌, ap}
use Rattle.spaces.specs.Spaces.{sphere}
use Rattle.spaces.specs.Tables.{row_at, on_row, sphere_rows, all_degeneracies}
use Rattle.cells.specs.Dim.{degree_of}
use Rattle.term_lang.specs.Forms.{cell_form}
use Rattle.term_lang.specs.Belongs.{is_cell}
use Rattle.space_faces.proofs.SphereFaces.{on_row_of, made, comes_through, vertex_form, vertex_test}
use Rattle.space_faces.proofs.spheres.sphere_face.Goals as goal

pub returns-in_ok-copy_cell-in-Absorbed-clause-form : goal.returns-in_ok-copy_cell-in-Absorbed-clause-form
returns-in_ok-copy_cell-in-Absorbed-clause-form c =
    let a = on_row_of c.args.m c.requires.dimension (degree_of c.args.x.now) c.args.x.now c.requires.simplex in
    let copied = c.in_ok-copy_cell-in-Absorbed.ensures in
    (made c.args.m c.requires.dimension (degree_of c.args.x.now) c.args.i a.row c.args.x.now
    (record { degens = c.in-Absorbed.degens; cell = c.in_ok-copy_cell-in-Absorbed.field-0 }) a c.requires.positive c.requires.index
    (ap (λ k. cell_form k (sphere c.args.m)) copied ∙ a.cell)
    (ap (λ k. is_cell k (sphere c.args.m) (row_at (sphere_rows c.args.m) a.row).dim) copied ∙ a.test)
    (ap (on_row (sphere_rows c.args.m) a.row) c.in-Absorbed.ensures)).plain_is

pub returns-in_ok-copy_cell-in-Absorbed-clause-simplex : goal.returns-in_ok-copy_cell-in-Absorbed-clause-simplex
returns-in_ok-copy_cell-in-Absorbed-clause-simplex c =
    let a = on_row_of c.args.m c.requires.dimension (degree_of c.args.x.now) c.args.x.now c.requires.simplex in
    let copied = c.in_ok-copy_cell-in-Absorbed.ensures in
    (made c.args.m c.requires.dimension (degree_of c.args.x.now) c.args.i a.row c.args.x.now
    (record { degens = c.in-Absorbed.degens; cell = c.in_ok-copy_cell-in-Absorbed.field-0 }) a c.requires.positive c.requires.index
    (ap (λ k. cell_form k (sphere c.args.m)) copied ∙ a.cell)
    (ap (λ k. is_cell k (sphere c.args.m) (row_at (sphere_rows c.args.m) a.row).dim) copied ∙ a.test)
    (ap (on_row (sphere_rows c.args.m) a.row) c.in-Absorbed.ensures)).simplex

pub returns-in-Through-clause-form : goal.returns-in-Through-clause-form
returns-in-Through-clause-form c =
    let a = on_row_of c.args.m c.requires.dimension (degree_of c.args.x.now) c.args.x.now c.requires.simplex in
    let word = c.degenerate_vertex.ensures.mask ∙ ap (λ k. all_degeneracies (k - 1)) c.degree.ensures in
    (made c.args.m c.requires.dimension (degree_of c.args.x.now) c.args.i 0 c.args.x.now c.degenerate_vertex.result a c.requires.positive c.requires.index
    (ap (λ k. cell_form k (sphere c.args.m)) c.degenerate_vertex.ensures.cell ∙ vertex_form c.args.m)
    (ap (λ k. is_cell k (sphere c.args.m) 0) c.degenerate_vertex.ensures.cell ∙ vertex_test c.args.m)
    (ap (λ w. (w, 0)) word
    ∙ comes_through c.args.m c.requires.dimension (degree_of c.args.x.now) c.args.i c.in-Through.field-0 a.row _ _ a.simplex c.requires.positive c.requires.index (sym c.in-Through.ensures))).plain_is

pub returns-in-Through-clause-simplex : goal.returns-in-Through-clause-simplex
returns-in-Through-clause-simplex c =
    let a = on_row_of c.args.m c.requires.dimension (degree_of c.args.x.now) c.args.x.now c.requires.simplex in
    let word = c.degenerate_vertex.ensures.mask ∙ ap (λ k. all_degeneracies (k - 1)) c.degree.ensures in
    (made c.args.m c.requires.dimension (degree_of c.args.x.now) c.args.i 0 c.args.x.now c.degenerate_vertex.result a c.requires.positive c.requires.index
    (ap (λ k. cell_form k (sphere c.args.m)) c.degenerate_vertex.ensures.cell ∙ vertex_form c.args.m)
    (ap (λ k. is_cell k (sphere c.args.m) 0) c.degenerate_vertex.ensures.cell ∙ vertex_test c.args.m)
    (ap (λ w. (w, 0)) word
    ∙ comes_through c.args.m c.requires.dimension (degree_of c.args.x.now) c.args.i c.in-Through.field-0 a.row _ _ a.simplex c.requires.positive c.requires.index (sym c.in-Through.ensures))).simplex
