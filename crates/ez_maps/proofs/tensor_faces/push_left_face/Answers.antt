use Rattle.std.proofs.Common.{ℕ, suc, ◌+◌, ◌*◌, ◌<◌, ◌==◌, Some, refl, sym, subst}
use Rattle.std.proofs.Math.Nat.{mod-lt}
use Rattle.std.proofs.lemmas.List.Elements.{All-pop}
use Rattle.fp_field.specs.Field.{number}
use Rattle.fp_field.proofs.Primes.{number_pos}
use Rattle.spaces.specs.Spaces.{Plain}
use Rattle.spaces.specs.Orders.{ordered}
use Rattle.spaces.specs.EilenbergZilber.{Tensor as PlainTensor}
use Rattle.cells.specs.declared.cells.Cell.{Cell}
use Rattle.ez_flow.specs.Parts.{left_of, left_in}
use Rattle.ez_flow.proofs.Bits.{eq_of}
use Rattle.ez_flow.proofs.Pushes.{each-pop, each-push, all-push, moved, none-left, all-moved}
use Rattle.ez_maps.specs.Tensors.{IsTensorOf, tensor_form}
use Rattle.tensor_red.specs.declared.tensors.Tensor.{Tensor}
use Rattle.ez_maps.proofs.CutSteps.{kept}
use Rattle.ez_maps.proofs.TensorForms.{cells-tensor, pushed-weight}
use Rattle.ez_maps.proofs.tensor_faces.push_left_face.Goals as goal

pub loop-z-preserved : goal.loop-z-preserved
loop-z-preserved g c =
    let x = c.args.x.now in
    let q : ℕ = number c.args.p in
    let pos = number_pos c.args.p in
    let L = left_of (g.X.FlowFaces.has_letters x) q (g.X.FlowFaces.left_space x) in
    let I = left_in (g.X.FlowFaces.has_letters x) (g.X.FlowFaces.left_space x) in
    let R = ordered (g.X.FlowFaces.right_space x) in
    let bound = g.X.FlowFaces.bound x in
    let sh = g.met.X.FlowFaces.short x in
    let il = g.X.FlowFaces.is_left x in
    let fl = g.X.FlowFaces.left_form x in
    let sl = g.X.FlowFaces.left_simplex x in
    let ir = g.X.FlowFaces.is_right x in
    let fr = g.X.FlowFaces.right_form x in
    let sr = g.X.FlowFaces.right_simplex x in
    let lf = g.met.X.FlowFaces.left_forms x q in
    let rf = g.met.X.FlowFaces.right_forms x in
    let lr = g.met.X.FlowFaces.left_read x q in
    let rr = g.met.X.FlowFaces.right_read x in
    let dg = g.X.FlowFaces.left_degree_of x in
    let gr = g.met.X.FlowFaces.graded x in
    let rg = g.met.X.FlowFaces.right_graded x in
    let W : (PlainTensor (Plain (g.X.FlowFaces.left_space x)) (Plain (g.X.FlowFaces.right_space x)) → ℕ) → Tensor Cell Cell → ℕ = λ w t. w (tensor_form dg fl fr t) in
    let i : ℕ = c.args.i in
    let k : ℕ = c.args.k in
    let y = c.args.right.now in
    let z = c.in-Some.z in
    let cut = each-pop (il i) c.loop-z.faces.items c.pop.new.self.items z c.in-Some.c c.in-Some.ensures.items c.loop-z.invariant.simplices in
    let b = z.degens.mask == 0 in
    let T : Tensor Cell Cell = record { left = z.cell; right = y.cell } in
    record {
      left = (All-pop (λ t. t.1.value < q) c.loop-z.faces.items c.pop.new.self.items (Some (z, c.in-Some.c)) c.in-Some.ensures.items c.loop-z.invariant.left).0;
      simplices = cut.0;
      pushed = all-push (λ t. t.1.value < q) b c.loop-z.into.items c.push_left_term.new.into.items (T, c.mul.result) c.in_ok-push_left_term.ensures
          (subst (λ v. v < q) (sym c.mul.ensures) (mod-lt (c.args.a.value * c.in-Some.c.value) pos)) c.loop-z.invariant.pushed;
      tensors = each-push (IsTensorOf il ir dg (i + k)) b c.loop-z.into.items c.push_left_term.new.into.items T c.mul.result c.in_ok-push_left_term.ensures
          (λ e. (cells-tensor q bound sh L I R il fl sl ir fr sr lf rf lr rr dg gr rg i k z y cut.1 c.requires.right (eq_of z.degens.mask 0 e) c.requires.right_plain).0) c.loop-z.invariant.tensors;
      sum = λ w. moved q c.args.a.value (λ z. kept q L R w (i, fl z, k, fr y)) (W w) b c.loop-z.into.items c.push_left_term.new.into.items c.loop-z.faces.items c.pop.new.self.items
          z T c.in-Some.c c.mul.result _ c.in-Some.ensures.items c.in_ok-push_left_term.ensures c.mul.ensures
          (sym (pushed-weight q bound sh L I R il fl sl ir fr sr lf rf lr rr dg gr rg i k z y cut.1 c.requires.right c.requires.right_plain w)) (c.loop-z.invariant.sum w);
    }

pub returns-clause-sum : goal.returns-clause-sum
returns-clause-sum g c =
    let x = c.args.x.now in
    let q : ℕ = number c.args.p in
    let pos = number_pos c.args.p in
    let L = left_of (g.X.FlowFaces.has_letters x) q (g.X.FlowFaces.left_space x) in
    let I = left_in (g.X.FlowFaces.has_letters x) (g.X.FlowFaces.left_space x) in
    let R = ordered (g.X.FlowFaces.right_space x) in
    let bound = g.X.FlowFaces.bound x in
    let sh = g.met.X.FlowFaces.short x in
    let il = g.X.FlowFaces.is_left x in
    let fl = g.X.FlowFaces.left_form x in
    let sl = g.X.FlowFaces.left_simplex x in
    let ir = g.X.FlowFaces.is_right x in
    let fr = g.X.FlowFaces.right_form x in
    let sr = g.X.FlowFaces.right_simplex x in
    let lf = g.met.X.FlowFaces.left_forms x q in
    let rf = g.met.X.FlowFaces.right_forms x in
    let lr = g.met.X.FlowFaces.left_read x q in
    let rr = g.met.X.FlowFaces.right_read x in
    let dg = g.X.FlowFaces.left_degree_of x in
    let gr = g.met.X.FlowFaces.graded x in
    let rg = g.met.X.FlowFaces.right_graded x in
    let W : (PlainTensor (Plain (g.X.FlowFaces.left_space x)) (Plain (g.X.FlowFaces.right_space x)) → ℕ) → Tensor Cell Cell → ℕ = λ w t. w (tensor_form dg fl fr t) in
    let i : ℕ = c.args.i in
    let k : ℕ = c.args.k in
    let y = c.args.right.now in
    λ w. all-moved q c.args.a.value (W w) (λ t. kept q L R w (i, t, k, fr y)) (λ t. kept q L R w (i, t, k, fr y)) fl c.args.into.now.items c.loop-z.into.items c.into_terms-faces.result.items c.loop-z.faces.items
    c.in_ok-left_face.field-0.terms (L.faces (suc i) c.args.j (fl c.args.left.now))
    (none-left c.loop-z.faces.items (λ l. c.in_default.ensures.variant.1 (subst (λ m. 0 < m) (sym c.loop-z.faces.ok.0) l)))
    c.into_terms-faces.ensures.terms (c.in_ok-left_face.ensures.faces i c.requires.left) (λ t. refl) (c.loop-z.invariant.sum w)
