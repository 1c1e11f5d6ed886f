use Rattle.std.proofs.Common.{◌≡◌, ℕ, suc, ◌+◌, ◌*◌, subst, arith}
use Rattle.fp_field.specs.Field.{number, SameMod}
use Rattle.fp_field.specs.Chains.{weigh}
use Rattle.fp_field.proofs.Primes.{number_pos}
use Rattle.spaces.specs.Spaces.{Plain}
use Rattle.spaces.specs.Orders.{ordered}
use Rattle.spaces.specs.EilenbergZilber.{Tensor as PlainTensor}
use Rattle.cells.specs.declared.cells.Cell.{Cell}
use Rattle.chain_core.specs.Formal.{numbers}
use Rattle.ez_laws.specs.Complexes.{right_faces}
use Rattle.ez_flow.specs.Parts.{left_of, left_in}
use Rattle.ez_maps.specs.Tensors.{tensor_form}
use Rattle.tensor_red.specs.declared.tensors.Tensor.{Tensor}
use Rattle.ez_maps.proofs.CutSteps.{kept}
use Rattle.ez_maps.proofs.TensorSteps.{right-added}
use Rattle.ez_maps.proofs.tensor_faces.push_right_faces.Goals as goal

pub loop-j-preserved : goal.loop-j-preserved
loop-j-preserved g c =
    let x = c.args.x.now in
    let q : ℕ = number c.args.p in
    let pos = number_pos c.args.p in
    let L = left_of (g.X.FlowFaces.has_letters x) q (g.X.FlowFaces.left_space x) in
    let I = left_in (g.X.FlowFaces.has_letters x) (g.X.FlowFaces.left_space x) in
    let R = ordered (g.X.FlowFaces.right_space x) in
    let bound = g.X.FlowFaces.bound x in
    let sh = g.met.X.FlowFaces.short x in
    let il = g.X.FlowFaces.is_left x in
    let fl = g.X.FlowFaces.left_form x in
    let sl = g.X.FlowFaces.left_simplex x in
    let ir = g.X.FlowFaces.is_right x in
    let fr = g.X.FlowFaces.right_form x in
    let sr = g.X.FlowFaces.right_simplex x in
    let lf = g.met.X.FlowFaces.left_forms x q in
    let rf = g.met.X.FlowFaces.right_forms x in
    let lr = g.met.X.FlowFaces.left_read x q in
    let rr = g.met.X.FlowFaces.right_read x in
    let dg = g.X.FlowFaces.left_degree_of x in
    let gr = g.met.X.FlowFaces.graded x in
    let rg = g.met.X.FlowFaces.right_graded x in
    let W : (PlainTensor (Plain (g.X.FlowFaces.left_space x)) (Plain (g.X.FlowFaces.right_space x)) → ℕ) → Tensor Cell Cell → ℕ = λ w t. w (tensor_form dg fl fr t) in
    let i : ℕ = c.args.i in
    let k : ℕ = c.args.k in
    let j : ℕ = c.loop-j.j in
    let xl = fl c.args.left.now in
    let yr = fr c.args.right.now in
    record {
      pushed = c.in_ok-push_right_face.ensures.elements;
      tensors = c.in_ok-push_right_face.ensures.tensors;
      sum = λ w. subst (λ m. SameMod q (weigh (W w) (numbers c.push_right_face.new.into.items)) (weigh (W w) (numbers c.args.into.now.items) + c.args.a.value * weigh (kept q L R w) (right_faces q L I R m (i, xl, suc k, yr))))
          (let e : suc j ≡ j + 1 = omega arith in e)
          (right-added q L I R (kept q L R w) j i k c.args.a.value c.signed.result.value (weigh (W w) (numbers c.args.into.now.items)) (weigh (W w) (numbers c.loop-j.into.items)) (weigh (W w) (numbers c.push_right_face.new.into.items))
          xl yr c.signed.ensures.value (c.in_ok-push_right_face.ensures.sum w) (c.loop-j.invariant.sum w));
    }

pub returns-clause-sum : goal.returns-clause-sum
returns-clause-sum g c =
    let x = c.args.x.now in
    let q : ℕ = number c.args.p in
    let pos = number_pos c.args.p in
    let L = left_of (g.X.FlowFaces.has_letters x) q (g.X.FlowFaces.left_space x) in
    let I = left_in (g.X.FlowFaces.has_letters x) (g.X.FlowFaces.left_space x) in
    let R = ordered (g.X.FlowFaces.right_space x) in
    let bound = g.X.FlowFaces.bound x in
    let sh = g.met.X.FlowFaces.short x in
    let il = g.X.FlowFaces.is_left x in
    let fl = g.X.FlowFaces.left_form x in
    let sl = g.X.FlowFaces.left_simplex x in
    let ir = g.X.FlowFaces.is_right x in
    let fr = g.X.FlowFaces.right_form x in
    let sr = g.X.FlowFaces.right_simplex x in
    let lf = g.met.X.FlowFaces.left_forms x q in
    let rf = g.met.X.FlowFaces.right_forms x in
    let lr = g.met.X.FlowFaces.left_read x q in
    let rr = g.met.X.FlowFaces.right_read x in
    let dg = g.X.FlowFaces.left_degree_of x in
    let gr = g.met.X.FlowFaces.graded x in
    let rg = g.met.X.FlowFaces.right_graded x in
    let W : (PlainTensor (Plain (g.X.FlowFaces.left_space x)) (Plain (g.X.FlowFaces.right_space x)) → ℕ) → Tensor Cell Cell → ℕ = λ w t. w (tensor_form dg fl fr t) in
    let k : ℕ = c.args.k in
    let lo = c.loop-j-test.false in
    let hi = c.loop-j.auto.j-end in
    λ w. subst (λ m. SameMod q (weigh (W w) (numbers c.loop-j.into.items)) (weigh (W w) (numbers c.args.into.now.items) + c.args.a.value * weigh (kept q L R w) (right_faces q L I R m (c.args.i, fl c.args.left.now, suc k, fr c.args.right.now))))
    (let e : c.loop-j.j ≡ suc (suc k) = omega (arith, lo, hi) in e) (c.loop-j.invariant.sum w)
