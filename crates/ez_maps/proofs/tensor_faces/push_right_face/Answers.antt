use Rattle.std.proofs.Common.{ℕ, ◌+◌, ◌*◌, ◌%◌, ◌<◌, ◌==◌, ◌∙◌, ap}
use Rattle.std.proofs.lemmas.Result.{on_ok_weaker}
use Rattle.fp_field.specs.Field.{number}
use Rattle.fp_field.specs.Chains.{weigh}
use Rattle.fp_field.proofs.Primes.{number_pos}
use Rattle.spaces.specs.Spaces.{Plain}
use Rattle.spaces.specs.Orders.{ordered}
use Rattle.spaces.specs.EilenbergZilber.{Tensor as PlainTensor}
use Rattle.cells.specs.declared.cells.Cell.{Cell}
use Rattle.chain_core.specs.Formal.{numbers}
use Rattle.ez_flow.specs.Parts.{left_of, left_in}
use Rattle.ez_flow.proofs.Bits.{eq_of}
use Rattle.ez_flow.proofs.Pushes.{each-push, all-push, weigh-push}
use Rattle.ez_maps.specs.Tensors.{IsTensorOf, tensor_form}
use Rattle.tensor_red.specs.declared.tensors.Tensor.{Tensor}
use Rattle.ez_maps.proofs.CutSteps.{kept}
use Rattle.ez_maps.proofs.TensorForms.{cells-tensor, pushed-right}
use Rattle.ez_maps.proofs.tensor_faces.push_right_face.Goals as goal

pub returns-clause-tensors : goal.returns-clause-tensors
returns-clause-tensors g c =
    let x = c.args.x.now in
    let q : ℕ = number c.args.p in
    let pos = number_pos c.args.p in
    let L = left_of (g.X.FlowFaces.has_letters x) q (g.X.FlowFaces.left_space x) in
    let I = left_in (g.X.FlowFaces.has_letters x) (g.X.FlowFaces.left_space x) in
    let R = ordered (g.X.FlowFaces.right_space x) in
    let bound = g.X.FlowFaces.bound x in
    let sh = g.met.X.FlowFaces.short x in
    let il = g.X.FlowFaces.is_left x in
    let fl = g.X.FlowFaces.left_form x in
    let sl = g.X.FlowFaces.left_simplex x in
    let ir = g.X.FlowFaces.is_right x in
    let fr = g.X.FlowFaces.right_form x in
    let sr = g.X.FlowFaces.right_simplex x in
    let lf = g.met.X.FlowFaces.left_forms x q in
    let rf = g.met.X.FlowFaces.right_forms x in
    let lr = g.met.X.FlowFaces.left_read x q in
    let rr = g.met.X.FlowFaces.right_read x in
    let dg = g.X.FlowFaces.left_degree_of x in
    let gr = g.met.X.FlowFaces.graded x in
    let rg = g.met.X.FlowFaces.right_graded x in
    let i : ℕ = c.args.i in
    let k : ℕ = c.args.k in
    let a = c.args.left.now in
    let y = c.in_ok-face.face in
    let iy = c.in_ok-face.ensures.simplex k c.requires.right in
    let T : Tensor Cell Cell = record { left = a.cell; right = y.cell } in
    on_ok_weaker c.push_right_term.result (λ h.
    each-push (IsTensorOf il ir dg (i + k)) (y.degens.mask == 0) c.args.into.now.items c.push_right_term.new.into.items T c.args.a h
    (λ e. (cells-tensor q bound sh L I R il fl sl ir fr sr lf rf lr rr dg gr rg i k a y c.requires.left iy c.requires.left_plain (eq_of y.degens.mask 0 e)).0) c.requires.tensors) c.push_right_term.ensures

pub returns-clause-elements : goal.returns-clause-elements
returns-clause-elements g c =
    let x = c.args.x.now in
    let q : ℕ = number c.args.p in
    let pos = number_pos c.args.p in
    let L = left_of (g.X.FlowFaces.has_letters x) q (g.X.FlowFaces.left_space x) in
    let I = left_in (g.X.FlowFaces.has_letters x) (g.X.FlowFaces.left_space x) in
    let R = ordered (g.X.FlowFaces.right_space x) in
    let bound = g.X.FlowFaces.bound x in
    let sh = g.met.X.FlowFaces.short x in
    let il = g.X.FlowFaces.is_left x in
    let fl = g.X.FlowFaces.left_form x in
    let sl = g.X.FlowFaces.left_simplex x in
    let ir = g.X.FlowFaces.is_right x in
    let fr = g.X.FlowFaces.right_form x in
    let sr = g.X.FlowFaces.right_simplex x in
    let lf = g.met.X.FlowFaces.left_forms x q in
    let rf = g.met.X.FlowFaces.right_forms x in
    let lr = g.met.X.FlowFaces.left_read x q in
    let rr = g.met.X.FlowFaces.right_read x in
    let dg = g.X.FlowFaces.left_degree_of x in
    let gr = g.met.X.FlowFaces.graded x in
    let rg = g.met.X.FlowFaces.right_graded x in
    let a = c.args.left.now in
    let y = c.in_ok-face.face in
    let T : Tensor Cell Cell = record { left = a.cell; right = y.cell } in
    on_ok_weaker c.push_right_term.result (λ h.
    all-push (λ t. t.1.value < q) (y.degens.mask == 0) c.args.into.now.items c.push_right_term.new.into.items (T, c.args.a) h c.requires.element c.requires.elements) c.push_right_term.ensures

pub returns-clause-sum : goal.returns-clause-sum
returns-clause-sum g c =
    let x = c.args.x.now in
    let q : ℕ = number c.args.p in
    let pos = number_pos c.args.p in
    let L = left_of (g.X.FlowFaces.has_letters x) q (g.X.FlowFaces.left_space x) in
    let I = left_in (g.X.FlowFaces.has_letters x) (g.X.FlowFaces.left_space x) in
    let R = ordered (g.X.FlowFaces.right_space x) in
    let bound = g.X.FlowFaces.bound x in
    let sh = g.met.X.FlowFaces.short x in
    let il = g.X.FlowFaces.is_left x in
    let fl = g.X.FlowFaces.left_form x in
    let sl = g.X.FlowFaces.left_simplex x in
    let ir = g.X.FlowFaces.is_right x in
    let fr = g.X.FlowFaces.right_form x in
    let sr = g.X.FlowFaces.right_simplex x in
    let lf = g.met.X.FlowFaces.left_forms x q in
    let rf = g.met.X.FlowFaces.right_forms x in
    let lr = g.met.X.FlowFaces.left_read x q in
    let rr = g.met.X.FlowFaces.right_read x in
    let dg = g.X.FlowFaces.left_degree_of x in
    let gr = g.met.X.FlowFaces.graded x in
    let rg = g.met.X.FlowFaces.right_graded x in
    let W : (PlainTensor (Plain (g.X.FlowFaces.left_space x)) (Plain (g.X.FlowFaces.right_space x)) → ℕ) → Tensor Cell Cell → ℕ = λ w t. w (tensor_form dg fl fr t) in
    let i : ℕ = c.args.i in
    let k : ℕ = c.args.k in
    let a = c.args.left.now in
    let y = c.in_ok-face.face in
    let iy = c.in_ok-face.ensures.simplex k c.requires.right in
    let T : Tensor Cell Cell = record { left = a.cell; right = y.cell } in
    on_ok_weaker c.push_right_term.result (λ h w.
    ap (λ t. t % q)
    (weigh-push (W w) (y.degens.mask == 0) c.args.into.now.items c.push_right_term.new.into.items T c.args.a h
    ∙ ap (λ m. weigh (W w) (numbers c.args.into.now.items) + c.args.a.value * m)
    (pushed-right q bound sh L I R il fl sl ir fr sr lf rf lr rr dg gr rg i k a y c.requires.left iy c.requires.left_plain w ∙ ap (λ z. kept q L R w (i, fl a, k, z)) c.in_ok-face.ensures.form))) c.push_right_term.ensures
