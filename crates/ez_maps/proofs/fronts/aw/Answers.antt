use Rattle.std.proofs.Common.{◌≡◌, ℕ, ◌+◌, ◌%◌, refl, sym, ◌∙◌, ap, subst, bit_and}
use Rattle.std.specs.Prelude.{count_ones}
use Rattle.std.proofs.lemmas.Result.{IfOk-weaker}
use Rattle.fp_field.specs.Field.{number, SameMod}
use Rattle.fp_field.specs.Chains.{weigh, Each}
use Rattle.fp_field.specs.Normal.{normal}
use Rattle.fp_field.proofs.Primes.{number_pos}
use Rattle.fp_field.proofs.Normals.{weigh-normal}
use Rattle.fp_field.proofs.FlowLaws.{Each-normal}
use Rattle.spaces.specs.Spaces.{Plain}
use Rattle.spaces.specs.Orders.{ordered}
use Rattle.spaces.specs.EilenbergZilber.{Tensor as PlainTensor, aw as aw_of}
use Rattle.chain_core.specs.Formal.{numbers}
use Rattle.ez_flow.specs.Parts.{left_of, left_in, IsPairOf}
use Rattle.ez_flow.specs.CodeMaps.{on_cells}
use Rattle.ez_flow.proofs.PairCells.{with-pair}
use Rattle.ez_maps.specs.Tensors.{tensor_cmp, IsTensorOf, tensor_form, tensor_for}
use Rattle.ez_maps.proofs.Oks.{if_ok}
use Rattle.ez_maps.specs.TensorOrder.{one_tensor}
use Rattle.ez_maps.proofs.AwTerms.{aw-weights, pair-weight, aw-terms, aw-lefts}
use Rattle.ez_maps.proofs.fronts.aw.Goals as goal

pub from_terms-requires-clause-one_key : goal.from_terms-requires-clause-one_key
from_terms-requires-clause-one_key g c = one_tensor

pub returns-clause-tensors : goal.returns-clause-tensors
returns-clause-tensors g c =
    let x = c.args.x.now in
    let q : ℕ = number c.args.p in
    let pos = number_pos c.args.p in
    let L = left_of (g.X.FlowFaces.has_letters x) q (g.X.FlowFaces.left_space x) in
    let I = left_in (g.X.FlowFaces.has_letters x) (g.X.FlowFaces.left_space x) in
    let R = ordered (g.X.FlowFaces.right_space x) in
    let bound = g.X.FlowFaces.bound x in
    let sh = g.met.X.FlowFaces.short x in
    let il = g.X.FlowFaces.is_left x in
    let fl = g.X.FlowFaces.left_form x in
    let sl = g.X.FlowFaces.left_simplex x in
    let ir = g.X.FlowFaces.is_right x in
    let fr = g.X.FlowFaces.right_form x in
    let sr = g.X.FlowFaces.right_simplex x in
    let lf = g.met.X.FlowFaces.left_forms x q in
    let rf = g.met.X.FlowFaces.right_forms x in
    let lr = g.met.X.FlowFaces.left_read x q in
    let rr = g.met.X.FlowFaces.right_read x in
    let dg = g.X.FlowFaces.left_degree_of x in
    let gr = g.met.X.FlowFaces.graded x in
    let rg = g.met.X.FlowFaces.right_graded x in
    let a = c.parts.result.0.now in
    let b = c.parts.result.1.now in
    let e = c.parts.ensures in
    let m : ℕ = count_ones a.degens.mask + c.left_degree.result in
    let items = numbers c.push_cuts.new.into.items in
    IfOk-weaker c.from_terms.result _ _ (λ r h n pair.
    let are = with-pair (λ a b. il n a × ir n b × (bit_and a.degens.mask b.degens.mask ≡ 0)) a b (subst (IsPairOf il ir n) e pair) in
    let same : m ≡ n = ap (λ t. count_ones a.degens.mask + t) c.left_degree.ensures ∙ gr n a are.0 in
    let each : Each (IsTensorOf il ir dg n) items = subst (λ k. Each (IsTensorOf il ir dg k) items) same c.in_ok-push_cuts.ensures.tensors in
    subst (Each (IsTensorOf il ir dg n)) (sym h) (Each-normal (IsTensorOf il ir dg n) tensor_cmp q items each)) c.from_terms.ensures.sum

pub returns-clause-aw : goal.returns-clause-aw
returns-clause-aw g c =
    let x = c.args.x.now in
    let q : ℕ = number c.args.p in
    let pos = number_pos c.args.p in
    let L = left_of (g.X.FlowFaces.has_letters x) q (g.X.FlowFaces.left_space x) in
    let I = left_in (g.X.FlowFaces.has_letters x) (g.X.FlowFaces.left_space x) in
    let R = ordered (g.X.FlowFaces.right_space x) in
    let bound = g.X.FlowFaces.bound x in
    let sh = g.met.X.FlowFaces.short x in
    let il = g.X.FlowFaces.is_left x in
    let fl = g.X.FlowFaces.left_form x in
    let sl = g.X.FlowFaces.left_simplex x in
    let ir = g.X.FlowFaces.is_right x in
    let fr = g.X.FlowFaces.right_form x in
    let sr = g.X.FlowFaces.right_simplex x in
    let lf = g.met.X.FlowFaces.left_forms x q in
    let rf = g.met.X.FlowFaces.right_forms x in
    let lr = g.met.X.FlowFaces.left_read x q in
    let rr = g.met.X.FlowFaces.right_read x in
    let dg = g.X.FlowFaces.left_degree_of x in
    let gr = g.met.X.FlowFaces.graded x in
    let rg = g.met.X.FlowFaces.right_graded x in
    let a = c.parts.result.0.now in
    let b = c.parts.result.1.now in
    let e = c.parts.ensures in
    let m : ℕ = count_ones a.degens.mask + c.left_degree.result in
    let items = numbers c.push_cuts.new.into.items in
    IfOk-weaker c.from_terms.result _ _ (λ r h n pair w.
    let are = with-pair (λ a b. il n a × ir n b × (bit_and a.degens.mask b.degens.mask ≡ 0)) a b (subst (IsPairOf il ir n) e pair) in
    let same : m ≡ n = ap (λ t. count_ones a.degens.mask + t) c.left_degree.ensures ∙ gr n a are.0 in
    let each : Each (IsTensorOf il ir dg n) items = subst (λ k. Each (IsTensorOf il ir dg k) items) same c.in_ok-push_cuts.ensures.tensors in
    let weights : (w : PlainTensor (Plain (g.X.FlowFaces.left_space x)) (Plain (g.X.FlowFaces.right_space x)) → ℕ) → SameMod q (weigh (λ t. w (tensor_form dg fl fr t)) items) (weigh w (aw_of q L R (n, fl a, fr b)))
    = λ w. aw-weights q bound pos sh L I R il fl sl ir fr sr lf rf lr rr dg gr rg w n m (fl a) (fr b) (weigh (λ t. w (tensor_form dg fl fr t)) (numbers c.new-terms.result.items)) (weigh (λ t. w (tensor_form dg fl fr t)) items) same
    (ap (λ l. weigh (λ t. w (tensor_form dg fl fr t)) (numbers l)) c.new-terms.ensures.items) (c.in_ok-push_cuts.ensures.cuts (fr b) refl w) in
    ap (λ l. weigh (λ t. w (tensor_form dg fl fr t)) l % q) h ∙ weigh-normal tensor_cmp q one_tensor (λ t. w (tensor_form dg fl fr t)) items ∙ weights w
    ∙ ap (λ k. k % q) (sym (pair-weight q bound pos sh L I R il fl sl ir fr sr lf rf lr rr dg gr rg n c.args.c.now a b e pair are.0 (λ s. weigh w (aw_of q L R s))))) c.from_terms.ensures.sum

pub returns-clause-terms : goal.returns-clause-terms
returns-clause-terms g c =
    let x = c.args.x.now in
    let q : ℕ = number c.args.p in
    let pos = number_pos c.args.p in
    let L = left_of (g.X.FlowFaces.has_letters x) q (g.X.FlowFaces.left_space x) in
    let I = left_in (g.X.FlowFaces.has_letters x) (g.X.FlowFaces.left_space x) in
    let R = ordered (g.X.FlowFaces.right_space x) in
    let bound = g.X.FlowFaces.bound x in
    let sh = g.met.X.FlowFaces.short x in
    let il = g.X.FlowFaces.is_left x in
    let fl = g.X.FlowFaces.left_form x in
    let sl = g.X.FlowFaces.left_simplex x in
    let ir = g.X.FlowFaces.is_right x in
    let fr = g.X.FlowFaces.right_form x in
    let sr = g.X.FlowFaces.right_simplex x in
    let lf = g.met.X.FlowFaces.left_forms x q in
    let rf = g.met.X.FlowFaces.right_forms x in
    let lr = g.met.X.FlowFaces.left_read x q in
    let rr = g.met.X.FlowFaces.right_read x in
    let dg = g.X.FlowFaces.left_degree_of x in
    let gr = g.met.X.FlowFaces.graded x in
    let rg = g.met.X.FlowFaces.right_graded x in
    let a = c.parts.result.0.now in
    let b = c.parts.result.1.now in
    let e = c.parts.ensures in
    let m : ℕ = count_ones a.degens.mask + c.left_degree.result in
    let items = numbers c.push_cuts.new.into.items in
    let n = c.requires.0 in
    let are = with-pair (λ a b. il n a × ir n b × (bit_and a.degens.mask b.degens.mask ≡ 0)) a b (subst (IsPairOf il ir n) e c.requires.1) in
    let same : m ≡ n = ap (λ t. count_ones a.degens.mask + t) c.left_degree.ensures ∙ gr n a are.0 in
    let each : Each (IsTensorOf il ir dg n) items = subst (λ k. Each (IsTensorOf il ir dg k) items) same c.in_ok-push_cuts.ensures.tensors in
    let weights : (w : PlainTensor (Plain (g.X.FlowFaces.left_space x)) (Plain (g.X.FlowFaces.right_space x)) → ℕ) → SameMod q (weigh (λ t. w (tensor_form dg fl fr t)) items) (weigh w (aw_of q L R (n, fl a, fr b)))
    = λ w. aw-weights q bound pos sh L I R il fl sl ir fr sr lf rf lr rr dg gr rg w n m (fl a) (fr b) (weigh (λ t. w (tensor_form dg fl fr t)) (numbers c.new-terms.result.items)) (weigh (λ t. w (tensor_form dg fl fr t)) items) same
    (ap (λ l. weigh (λ t. w (tensor_form dg fl fr t)) (numbers l)) c.new-terms.ensures.items) (c.in_ok-push_cuts.ensures.cuts (fr b) refl w) in
    if_ok c.from_terms.result (normal tensor_cmp q items) (normal tensor_cmp q (on_cells dg fl fr (tensor_for sl sr) (aw_of q L R) c.args.c.now)) c.from_terms.ensures.sum
    (aw-terms q bound pos sh L I R il fl sl ir fr sr lf rf lr rr dg gr rg n c.args.c.now a b e c.requires.1 are.0 items each weights)

pub returns-clause-left_cells : goal.returns-clause-left_cells
returns-clause-left_cells g c =
    let x = c.args.x.now in
    let q : ℕ = number c.args.p in
    let pos = number_pos c.args.p in
    let L = left_of (g.X.FlowFaces.has_letters x) q (g.X.FlowFaces.left_space x) in
    let I = left_in (g.X.FlowFaces.has_letters x) (g.X.FlowFaces.left_space x) in
    let R = ordered (g.X.FlowFaces.right_space x) in
    let bound = g.X.FlowFaces.bound x in
    let sh = g.met.X.FlowFaces.short x in
    let il = g.X.FlowFaces.is_left x in
    let fl = g.X.FlowFaces.left_form x in
    let sl = g.X.FlowFaces.left_simplex x in
    let ir = g.X.FlowFaces.is_right x in
    let fr = g.X.FlowFaces.right_form x in
    let sr = g.X.FlowFaces.right_simplex x in
    let lf = g.met.X.FlowFaces.left_forms x q in
    let rf = g.met.X.FlowFaces.right_forms x in
    let lr = g.met.X.FlowFaces.left_read x q in
    let rr = g.met.X.FlowFaces.right_read x in
    let dg = g.X.FlowFaces.left_degree_of x in
    let gr = g.met.X.FlowFaces.graded x in
    let rg = g.met.X.FlowFaces.right_graded x in
    let a = c.parts.result.0.now in
    let b = c.parts.result.1.now in
    let e = c.parts.ensures in
    let n = c.requires.0 in
    let are = with-pair (λ a b. il n a × ir n b × (bit_and a.degens.mask b.degens.mask ≡ 0)) a b (subst (IsPairOf il ir n) e c.requires.1) in
    IfOk-weaker c.from_terms.result _ _
    (λ r h. aw-lefts q bound pos sh L I R il fl sl ir fr sr lf rf lr rr dg gr rg n c.args.c.now a b e c.requires.1 are.0 (g.met.X.FlowFaces.left_identities x q pos) (g.met.X.FlowFaces.right_identities x) are.1 c.requires.2 r.terms h)
    (returns-clause-terms g c)
