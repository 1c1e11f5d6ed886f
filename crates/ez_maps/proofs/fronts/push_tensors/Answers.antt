use Rattle.std.proofs.Common.{◌≡◌, ℕ, ◌+◌, ◌*◌, ◌<◌, ◌==◌, cond, add-one, Some, sym, ◌∙◌, ap, arith}
use Rattle.std.specs.Prelude.{slice_get}
use Rattle.fp_field.specs.Field.{number}
use Rattle.fp_field.specs.Chains.{weigh}
use Rattle.fp_field.proofs.Primes.{number_pos}
use Rattle.spaces.specs.Orders.{ordered}
use Rattle.spaces.specs.EilenbergZilber.{is_tensor_cell}
use Rattle.cells.specs.declared.cells.Cell.{Cell}
use Rattle.chain_core.specs.Formal.{numbers}
use Rattle.chain_core.proofs.MapSteps.{at_place, whole, Each-at}
use Rattle.ez_flow.specs.Parts.{left_of, left_in}
use Rattle.ez_flow.proofs.Bits.{eq_of}
use Rattle.ez_flow.proofs.Pushes.{each-push, all-push, weigh-push}
use Rattle.ez_maps.specs.Tensors.{IsTensorOf, tensor_form}
use Rattle.tensor_red.specs.declared.tensors.Tensor.{Tensor}
use Rattle.ez_maps.proofs.CutSteps.{pushed-if, taken-more, no-weights}
use Rattle.ez_maps.proofs.TensorForms.{cells-tensor, pushed-weight, right-test}
use Rattle.ez_maps.proofs.fronts.push_tensors.Goals as goal

pub returns-then-right-ne0-clause-sum : goal.returns-then-right-ne0-clause-sum
returns-then-right-ne0-clause-sum g c =
    let x = c.args.x.now in
    let q : ℕ = number c.args.p in
    let pos = number_pos c.args.p in
    let L = left_of (g.X.FlowFaces.has_letters x) q (g.X.FlowFaces.left_space x) in
    let I = left_in (g.X.FlowFaces.has_letters x) (g.X.FlowFaces.left_space x) in
    let R = ordered (g.X.FlowFaces.right_space x) in
    let bound = g.X.FlowFaces.bound x in
    let sh = g.met.X.FlowFaces.short x in
    let il = g.X.FlowFaces.is_left x in
    let fl = g.X.FlowFaces.left_form x in
    let sl = g.X.FlowFaces.left_simplex x in
    let ir = g.X.FlowFaces.is_right x in
    let fr = g.X.FlowFaces.right_form x in
    let sr = g.X.FlowFaces.right_simplex x in
    let lf = g.met.X.FlowFaces.left_forms x q in
    let rf = g.met.X.FlowFaces.right_forms x in
    let lr = g.met.X.FlowFaces.left_read x q in
    let rr = g.met.X.FlowFaces.right_read x in
    let dg = g.X.FlowFaces.left_degree_of x in
    let gr = g.met.X.FlowFaces.graded x in
    let rg = g.met.X.FlowFaces.right_graded x in
    let b = c.args.right.now in
    λ w.
    let W : ℕ = weigh (λ t. w (tensor_form dg fl fr t)) (numbers c.args.into.now.items) in
    let none = no-weights (λ s. cond (is_tensor_cell q L R (c.args.i, fl s, c.args.k, fr b)) (w (c.args.i, fl s, c.args.k, fr b)) 0)
    (λ s. ap (λ t. cond t (w (c.args.i, fl s, c.args.k, fr b)) 0) (right-test q bound sh L I R il fl sl ir fr sr lf rf lr rr dg gr rg c.args.i c.args.k (fl s) b c.requires.right c.if-right-ne0.true)) (numbers c.args.chain.now) in
    (let e : W ≡ W + 0 = omega arith in e) ∙ ap (λ m. W + m) (sym none)

pub loop-s-preserved : goal.loop-s-preserved
loop-s-preserved g c =
    let x = c.args.x.now in
    let q : ℕ = number c.args.p in
    let pos = number_pos c.args.p in
    let L = left_of (g.X.FlowFaces.has_letters x) q (g.X.FlowFaces.left_space x) in
    let I = left_in (g.X.FlowFaces.has_letters x) (g.X.FlowFaces.left_space x) in
    let R = ordered (g.X.FlowFaces.right_space x) in
    let bound = g.X.FlowFaces.bound x in
    let sh = g.met.X.FlowFaces.short x in
    let il = g.X.FlowFaces.is_left x in
    let fl = g.X.FlowFaces.left_form x in
    let sl = g.X.FlowFaces.left_simplex x in
    let ir = g.X.FlowFaces.is_right x in
    let fr = g.X.FlowFaces.right_form x in
    let sr = g.X.FlowFaces.right_simplex x in
    let lf = g.met.X.FlowFaces.left_forms x q in
    let rf = g.met.X.FlowFaces.right_forms x in
    let lr = g.met.X.FlowFaces.left_read x q in
    let rr = g.met.X.FlowFaces.right_read x in
    let dg = g.X.FlowFaces.left_degree_of x in
    let gr = g.met.X.FlowFaces.graded x in
    let rg = g.met.X.FlowFaces.right_graded x in
    let b = c.args.right.now in
    let s = c.loop-s-item.result.0 in
    let a = c.loop-s-item.result.1 in
    let here : slice_get (numbers c.args.chain.now) c.loop-s.s-index ≡ Some (s, a.value) = at_place c.args.chain.now c.loop-s.s-index c.loop-s-item.result c.loop-s-test.true c.loop-s-item.is in
    let hs = Each-at (il c.args.i) (numbers c.args.chain.now) c.loop-s.s-index (s, a.value) here c.requires.simplices in
    let T : Tensor Cell Cell = record { left = s.cell; right = b.cell } in
    let pushed = pushed-if (s.degens.mask == 0) c.loop-s.into.items c.push_tensor.new.into.items (T, a) c.in_ok-push_tensor.ensures in
    let none = c.if-right-ne0.false in
    record {
      elements = all-push (λ t. t.1.value < q) (s.degens.mask == 0) c.loop-s.into.items c.push_tensor.new.into.items (T, a) pushed
          (rw c.loop-s-item.is (c.requires.elements c.loop-s.s-index _ c.loop-s-test.true)) c.loop-s.invariant.elements;
      tensors = each-push (IsTensorOf il ir dg (c.args.i + c.args.k)) (s.degens.mask == 0) c.loop-s.into.items c.push_tensor.new.into.items T a pushed
          (λ e. (cells-tensor q bound sh L I R il fl sl ir fr sr lf rf lr rr dg gr rg c.args.i c.args.k s b hs c.requires.right (eq_of s.degens.mask 0 e) none).0) c.loop-s.invariant.tensors;
      sum = λ w. rw add-one
          (taken-more (λ s. cond (is_tensor_cell q L R (c.args.i, fl s, c.args.k, fr b)) (w (c.args.i, fl s, c.args.k, fr b)) 0) (numbers c.args.chain.now) c.loop-s.s-index (s, a.value)
          (weigh (λ t. w (tensor_form dg fl fr t)) (numbers c.loop-s.into.items)) (weigh (λ t. w (tensor_form dg fl fr t)) (numbers c.push_tensor.new.into.items))
          (weigh (λ t. w (tensor_form dg fl fr t)) (numbers c.args.into.now.items)) here (c.loop-s.invariant.sum w)
          (weigh-push (λ t. w (tensor_form dg fl fr t)) (s.degens.mask == 0) c.loop-s.into.items c.push_tensor.new.into.items T a pushed
          ∙ ap (λ m. weigh (λ t. w (tensor_form dg fl fr t)) (numbers c.loop-s.into.items) + a.value * m)
          (pushed-weight q bound sh L I R il fl sl ir fr sr lf rf lr rr dg gr rg c.args.i c.args.k s b hs c.requires.right none w)));
    }

pub returns-clause-sum : goal.returns-clause-sum
returns-clause-sum g c =
    let x = c.args.x.now in
    let q : ℕ = number c.args.p in
    let pos = number_pos c.args.p in
    let L = left_of (g.X.FlowFaces.has_letters x) q (g.X.FlowFaces.left_space x) in
    let I = left_in (g.X.FlowFaces.has_letters x) (g.X.FlowFaces.left_space x) in
    let R = ordered (g.X.FlowFaces.right_space x) in
    let bound = g.X.FlowFaces.bound x in
    let sh = g.met.X.FlowFaces.short x in
    let il = g.X.FlowFaces.is_left x in
    let fl = g.X.FlowFaces.left_form x in
    let sl = g.X.FlowFaces.left_simplex x in
    let ir = g.X.FlowFaces.is_right x in
    let fr = g.X.FlowFaces.right_form x in
    let sr = g.X.FlowFaces.right_simplex x in
    let lf = g.met.X.FlowFaces.left_forms x q in
    let rf = g.met.X.FlowFaces.right_forms x in
    let lr = g.met.X.FlowFaces.left_read x q in
    let rr = g.met.X.FlowFaces.right_read x in
    let dg = g.X.FlowFaces.left_degree_of x in
    let gr = g.met.X.FlowFaces.graded x in
    let rg = g.met.X.FlowFaces.right_graded x in
    let b = c.args.right.now in
    let all = whole c.args.chain.now c.loop-s.s-index c.loop-s-test.false in
    λ w. c.loop-s.invariant.sum w
    ∙ ap (λ l. weigh (λ t. w (tensor_form dg fl fr t)) (numbers c.args.into.now.items) + weigh (λ s. cond (is_tensor_cell q L R (c.args.i, fl s, c.args.k, fr b)) (w (c.args.i, fl s, c.args.k, fr b)) 0) l) all
