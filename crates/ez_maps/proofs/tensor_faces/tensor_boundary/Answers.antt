use Rattle.std.proofs.Common.{◌≡◌, ℕ, ◌+◌, ◌-◌, ◌≤◌, sym, ◌∙◌, ap, subst}
use Rattle.fp_field.specs.Field.{number, SameMod}
use Rattle.fp_field.specs.Chains.{weigh}
use Rattle.fp_field.specs.Normal.{normal}
use Rattle.fp_field.proofs.Primes.{number_pos}
use Rattle.spaces.specs.Spaces.{Plain}
use Rattle.spaces.specs.Orders.{ordered}
use Rattle.spaces.specs.EilenbergZilber.{Tensor as PlainTensor}
use Rattle.cells.specs.declared.cells.Cell.{Cell}
use Rattle.chain_core.specs.Formal.{numbers}
use Rattle.ez_laws.specs.Complexes.{tensor_d}
use Rattle.ez_flow.specs.Parts.{left_of, left_in}
use Rattle.ez_maps.specs.Tensors.{bare, tensor_cmp, tensor_form, tensor_for, on_tensors}
use Rattle.tensor_red.specs.declared.tensors.Tensor.{Tensor}
use Rattle.ez_maps.proofs.Oks.{if_ok}
use Rattle.ez_maps.specs.TensorOrder.{one_tensor}
use Rattle.ez_maps.proofs.TensorForms.{told-tensors}
use Rattle.ez_maps.proofs.TensorSteps.{d-sum}
use Rattle.ez_maps.proofs.tensor_faces.tensor_boundary.Goals as goal

pub push_left_part-requires-clause-degree : goal.push_left_part-requires-clause-degree
push_left_part-requires-clause-degree g c =
    let x = c.args.x.now in
    let q : ℕ = number c.args.p in
    let pos = number_pos c.args.p in
    let L = left_of (g.X.FlowFaces.has_letters x) q (g.X.FlowFaces.left_space x) in
    let I = left_in (g.X.FlowFaces.has_letters x) (g.X.FlowFaces.left_space x) in
    let R = ordered (g.X.FlowFaces.right_space x) in
    let bound = g.X.FlowFaces.bound x in
    let sh = g.met.X.FlowFaces.short x in
    let il = g.X.FlowFaces.is_left x in
    let fl = g.X.FlowFaces.left_form x in
    let sl = g.X.FlowFaces.left_simplex x in
    let ir = g.X.FlowFaces.is_right x in
    let fr = g.X.FlowFaces.right_form x in
    let sr = g.X.FlowFaces.right_simplex x in
    let lf = g.met.X.FlowFaces.left_forms x q in
    let rf = g.met.X.FlowFaces.right_forms x in
    let lr = g.met.X.FlowFaces.left_read x q in
    let rr = g.met.X.FlowFaces.right_read x in
    let dg = g.X.FlowFaces.left_degree_of x in
    let gr = g.met.X.FlowFaces.graded x in
    let rg = g.met.X.FlowFaces.right_graded x in
    let t = c.args.t.now in
    let n = c.requires.0 in
    let i : ℕ = c.left_degree-i.result in
    let k : ℕ = c.dim-k.result in
    let a = c.in_ok-left.left in
    let b = c.in_ok-right.right in
    let whole : i + k ≡ n = (λ j. c.left_degree-i.ensures j + c.dim-k.ensures j) ∙ c.requires.1.2 in
    subst (λ m. m ≤ bound) (sym whole) c.requires.2

pub push_left_part-requires-clause-left : goal.push_left_part-requires-clause-left
push_left_part-requires-clause-left g c =
    let x = c.args.x.now in
    let q : ℕ = number c.args.p in
    let pos = number_pos c.args.p in
    let L = left_of (g.X.FlowFaces.has_letters x) q (g.X.FlowFaces.left_space x) in
    let I = left_in (g.X.FlowFaces.has_letters x) (g.X.FlowFaces.left_space x) in
    let R = ordered (g.X.FlowFaces.right_space x) in
    let bound = g.X.FlowFaces.bound x in
    let sh = g.met.X.FlowFaces.short x in
    let il = g.X.FlowFaces.is_left x in
    let fl = g.X.FlowFaces.left_form x in
    let sl = g.X.FlowFaces.left_simplex x in
    let ir = g.X.FlowFaces.is_right x in
    let fr = g.X.FlowFaces.right_form x in
    let sr = g.X.FlowFaces.right_simplex x in
    let lf = g.met.X.FlowFaces.left_forms x q in
    let rf = g.met.X.FlowFaces.right_forms x in
    let lr = g.met.X.FlowFaces.left_read x q in
    let rr = g.met.X.FlowFaces.right_read x in
    let dg = g.X.FlowFaces.left_degree_of x in
    let gr = g.met.X.FlowFaces.graded x in
    let rg = g.met.X.FlowFaces.right_graded x in
    let t = c.args.t.now in
    let n = c.requires.0 in
    let i : ℕ = c.left_degree-i.result in
    let k : ℕ = c.dim-k.result in
    let a = c.in_ok-left.left in
    let b = c.in_ok-right.right in
    let whole : i + k ≡ n = (λ j. c.left_degree-i.ensures j + c.dim-k.ensures j) ∙ c.requires.1.2 in
    subst (il i) (sym c.in_ok-left.ensures) (subst (λ m. il m (bare t.left)) (sym c.left_degree-i.ensures) c.requires.1.0)

pub push_left_part-requires-clause-right : goal.push_left_part-requires-clause-right
push_left_part-requires-clause-right g c =
    let x = c.args.x.now in
    let q : ℕ = number c.args.p in
    let pos = number_pos c.args.p in
    let L = left_of (g.X.FlowFaces.has_letters x) q (g.X.FlowFaces.left_space x) in
    let I = left_in (g.X.FlowFaces.has_letters x) (g.X.FlowFaces.left_space x) in
    let R = ordered (g.X.FlowFaces.right_space x) in
    let bound = g.X.FlowFaces.bound x in
    let sh = g.met.X.FlowFaces.short x in
    let il = g.X.FlowFaces.is_left x in
    let fl = g.X.FlowFaces.left_form x in
    let sl = g.X.FlowFaces.left_simplex x in
    let ir = g.X.FlowFaces.is_right x in
    let fr = g.X.FlowFaces.right_form x in
    let sr = g.X.FlowFaces.right_simplex x in
    let lf = g.met.X.FlowFaces.left_forms x q in
    let rf = g.met.X.FlowFaces.right_forms x in
    let lr = g.met.X.FlowFaces.left_read x q in
    let rr = g.met.X.FlowFaces.right_read x in
    let dg = g.X.FlowFaces.left_degree_of x in
    let gr = g.met.X.FlowFaces.graded x in
    let rg = g.met.X.FlowFaces.right_graded x in
    let t = c.args.t.now in
    let n = c.requires.0 in
    let i : ℕ = c.left_degree-i.result in
    let k : ℕ = c.dim-k.result in
    let a = c.in_ok-left.left in
    let b = c.in_ok-right.right in
    let whole : i + k ≡ n = (λ j. c.left_degree-i.ensures j + c.dim-k.ensures j) ∙ c.requires.1.2 in
    subst (ir k) (sym c.in_ok-right.ensures) (subst (λ m. ir m (bare t.right)) (sym c.dim-k.ensures) c.requires.1.1)

pub push_left_part-requires-clause-right_plain : goal.push_left_part-requires-clause-right_plain
push_left_part-requires-clause-right_plain g c =
    let x = c.args.x.now in
    let q : ℕ = number c.args.p in
    let pos = number_pos c.args.p in
    let L = left_of (g.X.FlowFaces.has_letters x) q (g.X.FlowFaces.left_space x) in
    let I = left_in (g.X.FlowFaces.has_letters x) (g.X.FlowFaces.left_space x) in
    let R = ordered (g.X.FlowFaces.right_space x) in
    let bound = g.X.FlowFaces.bound x in
    let sh = g.met.X.FlowFaces.short x in
    let il = g.X.FlowFaces.is_left x in
    let fl = g.X.FlowFaces.left_form x in
    let sl = g.X.FlowFaces.left_simplex x in
    let ir = g.X.FlowFaces.is_right x in
    let fr = g.X.FlowFaces.right_form x in
    let sr = g.X.FlowFaces.right_simplex x in
    let lf = g.met.X.FlowFaces.left_forms x q in
    let rf = g.met.X.FlowFaces.right_forms x in
    let lr = g.met.X.FlowFaces.left_read x q in
    let rr = g.met.X.FlowFaces.right_read x in
    let dg = g.X.FlowFaces.left_degree_of x in
    let gr = g.met.X.FlowFaces.graded x in
    let rg = g.met.X.FlowFaces.right_graded x in
    let t = c.args.t.now in
    let n = c.requires.0 in
    let i : ℕ = c.left_degree-i.result in
    let k : ℕ = c.dim-k.result in
    let a = c.in_ok-left.left in
    let b = c.in_ok-right.right in
    let whole : i + k ≡ n = (λ j. c.left_degree-i.ensures j + c.dim-k.ensures j) ∙ c.requires.1.2 in
    ap (λ s. s.degens.mask) c.in_ok-right.ensures

pub push_right_part-requires-clause-degree : goal.push_right_part-requires-clause-degree
push_right_part-requires-clause-degree g c =
    let x = c.args.x.now in
    let q : ℕ = number c.args.p in
    let pos = number_pos c.args.p in
    let L = left_of (g.X.FlowFaces.has_letters x) q (g.X.FlowFaces.left_space x) in
    let I = left_in (g.X.FlowFaces.has_letters x) (g.X.FlowFaces.left_space x) in
    let R = ordered (g.X.FlowFaces.right_space x) in
    let bound = g.X.FlowFaces.bound x in
    let sh = g.met.X.FlowFaces.short x in
    let il = g.X.FlowFaces.is_left x in
    let fl = g.X.FlowFaces.left_form x in
    let sl = g.X.FlowFaces.left_simplex x in
    let ir = g.X.FlowFaces.is_right x in
    let fr = g.X.FlowFaces.right_form x in
    let sr = g.X.FlowFaces.right_simplex x in
    let lf = g.met.X.FlowFaces.left_forms x q in
    let rf = g.met.X.FlowFaces.right_forms x in
    let lr = g.met.X.FlowFaces.left_read x q in
    let rr = g.met.X.FlowFaces.right_read x in
    let dg = g.X.FlowFaces.left_degree_of x in
    let gr = g.met.X.FlowFaces.graded x in
    let rg = g.met.X.FlowFaces.right_graded x in
    let t = c.args.t.now in
    let n = c.requires.0 in
    let i : ℕ = c.left_degree-i.result in
    let k : ℕ = c.dim-k.result in
    let a = c.in_ok-left.left in
    let b = c.in_ok-right.right in
    let whole : i + k ≡ n = (λ j. c.left_degree-i.ensures j + c.dim-k.ensures j) ∙ c.requires.1.2 in
    subst (λ m. m ≤ bound) (sym whole) c.requires.2

pub push_right_part-requires-clause-left : goal.push_right_part-requires-clause-left
push_right_part-requires-clause-left g c =
    let x = c.args.x.now in
    let q : ℕ = number c.args.p in
    let pos = number_pos c.args.p in
    let L = left_of (g.X.FlowFaces.has_letters x) q (g.X.FlowFaces.left_space x) in
    let I = left_in (g.X.FlowFaces.has_letters x) (g.X.FlowFaces.left_space x) in
    let R = ordered (g.X.FlowFaces.right_space x) in
    let bound = g.X.FlowFaces.bound x in
    let sh = g.met.X.FlowFaces.short x in
    let il = g.X.FlowFaces.is_left x in
    let fl = g.X.FlowFaces.left_form x in
    let sl = g.X.FlowFaces.left_simplex x in
    let ir = g.X.FlowFaces.is_right x in
    let fr = g.X.FlowFaces.right_form x in
    let sr = g.X.FlowFaces.right_simplex x in
    let lf = g.met.X.FlowFaces.left_forms x q in
    let rf = g.met.X.FlowFaces.right_forms x in
    let lr = g.met.X.FlowFaces.left_read x q in
    let rr = g.met.X.FlowFaces.right_read x in
    let dg = g.X.FlowFaces.left_degree_of x in
    let gr = g.met.X.FlowFaces.graded x in
    let rg = g.met.X.FlowFaces.right_graded x in
    let t = c.args.t.now in
    let n = c.requires.0 in
    let i : ℕ = c.left_degree-i.result in
    let k : ℕ = c.dim-k.result in
    let a = c.in_ok-left.left in
    let b = c.in_ok-right.right in
    let whole : i + k ≡ n = (λ j. c.left_degree-i.ensures j + c.dim-k.ensures j) ∙ c.requires.1.2 in
    subst (il i) (sym c.in_ok-left.ensures) (subst (λ m. il m (bare t.left)) (sym c.left_degree-i.ensures) c.requires.1.0)

pub push_right_part-requires-clause-left_plain : goal.push_right_part-requires-clause-left_plain
push_right_part-requires-clause-left_plain g c =
    let x = c.args.x.now in
    let q : ℕ = number c.args.p in
    let pos = number_pos c.args.p in
    let L = left_of (g.X.FlowFaces.has_letters x) q (g.X.FlowFaces.left_space x) in
    let I = left_in (g.X.FlowFaces.has_letters x) (g.X.FlowFaces.left_space x) in
    let R = ordered (g.X.FlowFaces.right_space x) in
    let bound = g.X.FlowFaces.bound x in
    let sh = g.met.X.FlowFaces.short x in
    let il = g.X.FlowFaces.is_left x in
    let fl = g.X.FlowFaces.left_form x in
    let sl = g.X.FlowFaces.left_simplex x in
    let ir = g.X.FlowFaces.is_right x in
    let fr = g.X.FlowFaces.right_form x in
    let sr = g.X.FlowFaces.right_simplex x in
    let lf = g.met.X.FlowFaces.left_forms x q in
    let rf = g.met.X.FlowFaces.right_forms x in
    let lr = g.met.X.FlowFaces.left_read x q in
    let rr = g.met.X.FlowFaces.right_read x in
    let dg = g.X.FlowFaces.left_degree_of x in
    let gr = g.met.X.FlowFaces.graded x in
    let rg = g.met.X.FlowFaces.right_graded x in
    let t = c.args.t.now in
    let n = c.requires.0 in
    let i : ℕ = c.left_degree-i.result in
    let k : ℕ = c.dim-k.result in
    let a = c.in_ok-left.left in
    let b = c.in_ok-right.right in
    let whole : i + k ≡ n = (λ j. c.left_degree-i.ensures j + c.dim-k.ensures j) ∙ c.requires.1.2 in
    ap (λ s. s.degens.mask) c.in_ok-left.ensures

pub push_right_part-requires-clause-right : goal.push_right_part-requires-clause-right
push_right_part-requires-clause-right g c =
    let x = c.args.x.now in
    let q : ℕ = number c.args.p in
    let pos = number_pos c.args.p in
    let L = left_of (g.X.FlowFaces.has_letters x) q (g.X.FlowFaces.left_space x) in
    let I = left_in (g.X.FlowFaces.has_letters x) (g.X.FlowFaces.left_space x) in
    let R = ordered (g.X.FlowFaces.right_space x) in
    let bound = g.X.FlowFaces.bound x in
    let sh = g.met.X.FlowFaces.short x in
    let il = g.X.FlowFaces.is_left x in
    let fl = g.X.FlowFaces.left_form x in
    let sl = g.X.FlowFaces.left_simplex x in
    let ir = g.X.FlowFaces.is_right x in
    let fr = g.X.FlowFaces.right_form x in
    let sr = g.X.FlowFaces.right_simplex x in
    let lf = g.met.X.FlowFaces.left_forms x q in
    let rf = g.met.X.FlowFaces.right_forms x in
    let lr = g.met.X.FlowFaces.left_read x q in
    let rr = g.met.X.FlowFaces.right_read x in
    let dg = g.X.FlowFaces.left_degree_of x in
    let gr = g.met.X.FlowFaces.graded x in
    let rg = g.met.X.FlowFaces.right_graded x in
    let t = c.args.t.now in
    let n = c.requires.0 in
    let i : ℕ = c.left_degree-i.result in
    let k : ℕ = c.dim-k.result in
    let a = c.in_ok-left.left in
    let b = c.in_ok-right.right in
    let whole : i + k ≡ n = (λ j. c.left_degree-i.ensures j + c.dim-k.ensures j) ∙ c.requires.1.2 in
    subst (ir k) (sym c.in_ok-right.ensures) (subst (λ m. ir m (bare t.right)) (sym c.dim-k.ensures) c.requires.1.1)

pub from_terms-requires-clause-one_key : goal.from_terms-requires-clause-one_key
from_terms-requires-clause-one_key g c = one_tensor

pub returns-clause-terms : goal.returns-clause-terms
returns-clause-terms g c =
    let x = c.args.x.now in
    let q : ℕ = number c.args.p in
    let pos = number_pos c.args.p in
    let L = left_of (g.X.FlowFaces.has_letters x) q (g.X.FlowFaces.left_space x) in
    let I = left_in (g.X.FlowFaces.has_letters x) (g.X.FlowFaces.left_space x) in
    let R = ordered (g.X.FlowFaces.right_space x) in
    let bound = g.X.FlowFaces.bound x in
    let sh = g.met.X.FlowFaces.short x in
    let il = g.X.FlowFaces.is_left x in
    let fl = g.X.FlowFaces.left_form x in
    let sl = g.X.FlowFaces.left_simplex x in
    let ir = g.X.FlowFaces.is_right x in
    let fr = g.X.FlowFaces.right_form x in
    let sr = g.X.FlowFaces.right_simplex x in
    let lf = g.met.X.FlowFaces.left_forms x q in
    let rf = g.met.X.FlowFaces.right_forms x in
    let lr = g.met.X.FlowFaces.left_read x q in
    let rr = g.met.X.FlowFaces.right_read x in
    let dg = g.X.FlowFaces.left_degree_of x in
    let gr = g.met.X.FlowFaces.graded x in
    let rg = g.met.X.FlowFaces.right_graded x in
    let W : (PlainTensor (Plain (g.X.FlowFaces.left_space x)) (Plain (g.X.FlowFaces.right_space x)) → ℕ) → Tensor Cell Cell → ℕ = λ w t. w (tensor_form dg fl fr t) in
    let t = c.args.t.now in
    let n = c.requires.0 in
    let i : ℕ = c.left_degree-i.result in
    let k : ℕ = c.dim-k.result in
    let a = c.in_ok-left.left in
    let b = c.in_ok-right.right in
    let whole : i + k ≡ n = (λ j. c.left_degree-i.ensures j + c.dim-k.ensures j) ∙ c.requires.1.2 in
    let z : PlainTensor (Plain (g.X.FlowFaces.left_space x)) (Plain (g.X.FlowFaces.right_space x)) = (i, fl a, k, fr b) in
    let e : z ≡ tensor_form dg fl fr t = λ j. (c.left_degree-i.ensures j, fl (c.in_ok-left.ensures j), c.dim-k.ensures j, fr (c.in_ok-right.ensures j)) in
    let items = numbers c.push_right_part.new.into.items in
    let weights : (w : PlainTensor (Plain (g.X.FlowFaces.left_space x)) (Plain (g.X.FlowFaces.right_space x)) → ℕ) → SameMod q (weigh (W w) items) (weigh w (tensor_d q L I R (tensor_form dg fl fr t)))
    = λ w. d-sum q L I R w z (tensor_form dg fl fr t) c.signed-sign.result.value (weigh (W w) (numbers c.new-terms.result.items)) (weigh (W w) (numbers c.push_left_part.new.into.items)) (weigh (W w) items) e
    (ap (λ l. weigh (W w) (numbers l)) c.new-terms.ensures.items) c.signed-sign.ensures.value (c.in_ok-push_left_part.ensures.sum w) (c.in_ok-push_right_part.ensures.sum w) in
    if_ok c.from_terms.result (normal tensor_cmp q items) (normal tensor_cmp q (on_tensors dg fl fr (tensor_for sl sr) (tensor_d q L I R) t)) c.from_terms.ensures.sum
    (told-tensors q bound sh L I R il fl sl ir fr sr lf rf lr rr dg gr rg pos (i + k - 1) items (tensor_d q L I R (tensor_form dg fl fr t)) c.in_ok-push_right_part.ensures.tensors weights)
