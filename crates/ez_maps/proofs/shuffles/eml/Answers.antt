use Rattle.std.proofs.Common.{◌≡◌, ℕ, ◌+◌, ◌%◌, refl, sym, ◌∙◌, ap, subst, arith}
use Rattle.std.proofs.lemmas.Result.{IfOk-weaker}
use Rattle.fp_field.specs.Field.{number, SameMod}
use Rattle.fp_field.specs.Chains.{weigh, Each}
use Rattle.fp_field.proofs.Primes.{number_pos}
use Rattle.fp_field.proofs.Normals.{weigh-normal}
use Rattle.fp_field.proofs.FlowLaws.{Each-normal}
use Rattle.spaces.specs.Orders.{ordered}
use Rattle.spaces.specs.Spaces.{Plain}
use Rattle.spaces.specs.EilenbergZilber.{Pair, eml as eml_of}
use Rattle.chain_core.specs.Formal.{numbers}
use Rattle.cells.specs.Dim.{dim_of}
use Rattle.cells.specs.Order.{cell_cmp}
use Rattle.cells.proofs.OneKey.{one_cell}
use Rattle.ez_flow.specs.Parts.{left_of, left_in, IsPairOf, form_weight}
use Rattle.fp_field.specs.Normal.{normal}
use Rattle.ez_flow.specs.CodeMaps.{cell_for}
use Rattle.ez_maps.specs.Tensors.{bare, tensor_form, on_tensors}
use Rattle.ez_maps.proofs.Oks.{if_ok}
use Rattle.ez_maps.proofs.Apart.{none-apart}
use Rattle.ez_maps.proofs.TensorForms.{bare-is}
use Rattle.ez_maps.proofs.EmlTerms.{told-pairs, eml-weights, eml-lefts}
use Rattle.ez_maps.proofs.shuffles.eml.Goals as goal

pub push_shuffles-requires-clause-left : goal.push_shuffles-requires-clause-left
push_shuffles-requires-clause-left g c =
    let x = c.args.x.now in
    let q : ℕ = number c.args.p in
    let pos = number_pos c.args.p in
    let L = left_of (g.X.FlowFaces.has_letters x) q (g.X.FlowFaces.left_space x) in
    let I = left_in (g.X.FlowFaces.has_letters x) (g.X.FlowFaces.left_space x) in
    let R = ordered (g.X.FlowFaces.right_space x) in
    let bound = g.X.FlowFaces.bound x in
    let sh = g.met.X.FlowFaces.short x in
    let il = g.X.FlowFaces.is_left x in
    let fl = g.X.FlowFaces.left_form x in
    let sl = g.X.FlowFaces.left_simplex x in
    let ir = g.X.FlowFaces.is_right x in
    let fr = g.X.FlowFaces.right_form x in
    let sr = g.X.FlowFaces.right_simplex x in
    let lf = g.met.X.FlowFaces.left_forms x q in
    let rf = g.met.X.FlowFaces.right_forms x in
    let lr = g.met.X.FlowFaces.left_read x q in
    let rr = g.met.X.FlowFaces.right_read x in
    let dg = g.X.FlowFaces.left_degree_of x in
    let gr = g.met.X.FlowFaces.graded x in
    let rg = g.met.X.FlowFaces.right_graded x in
    subst (il (0 + c.left_degree.result)) (sym (bare-is _ refl))
    (subst (λ k. il k (bare c.args.t.now.left)) (let e : c.left_degree.result ≡ 0 + c.left_degree.result = omega arith in sym c.left_degree.ensures ∙ e) c.requires.1.0)

pub push_shuffles-requires-clause-right : goal.push_shuffles-requires-clause-right
push_shuffles-requires-clause-right g c =
    let x = c.args.x.now in
    let q : ℕ = number c.args.p in
    let pos = number_pos c.args.p in
    let L = left_of (g.X.FlowFaces.has_letters x) q (g.X.FlowFaces.left_space x) in
    let I = left_in (g.X.FlowFaces.has_letters x) (g.X.FlowFaces.left_space x) in
    let R = ordered (g.X.FlowFaces.right_space x) in
    let bound = g.X.FlowFaces.bound x in
    let sh = g.met.X.FlowFaces.short x in
    let il = g.X.FlowFaces.is_left x in
    let fl = g.X.FlowFaces.left_form x in
    let sl = g.X.FlowFaces.left_simplex x in
    let ir = g.X.FlowFaces.is_right x in
    let fr = g.X.FlowFaces.right_form x in
    let sr = g.X.FlowFaces.right_simplex x in
    let lf = g.met.X.FlowFaces.left_forms x q in
    let rf = g.met.X.FlowFaces.right_forms x in
    let lr = g.met.X.FlowFaces.left_read x q in
    let rr = g.met.X.FlowFaces.right_read x in
    let dg = g.X.FlowFaces.left_degree_of x in
    let gr = g.met.X.FlowFaces.graded x in
    let rg = g.met.X.FlowFaces.right_graded x in
    subst (ir (0 + c.dim.result)) (sym (bare-is _ refl))
    (subst (λ k. ir k (bare c.args.t.now.right)) (let e : c.dim.result ≡ 0 + c.dim.result = omega arith in sym c.dim.ensures ∙ e) c.requires.1.1)

pub push_shuffles-requires-clause-apart : goal.push_shuffles-requires-clause-apart
push_shuffles-requires-clause-apart g c = none-apart

pub from_terms-requires-clause-one_key : goal.from_terms-requires-clause-one_key
from_terms-requires-clause-one_key g c = one_cell

pub returns-clause-pairs : goal.returns-clause-pairs
returns-clause-pairs g c =
    let x = c.args.x.now in
    let q : ℕ = number c.args.p in
    let pos = number_pos c.args.p in
    let L = left_of (g.X.FlowFaces.has_letters x) q (g.X.FlowFaces.left_space x) in
    let I = left_in (g.X.FlowFaces.has_letters x) (g.X.FlowFaces.left_space x) in
    let R = ordered (g.X.FlowFaces.right_space x) in
    let bound = g.X.FlowFaces.bound x in
    let sh = g.met.X.FlowFaces.short x in
    let il = g.X.FlowFaces.is_left x in
    let fl = g.X.FlowFaces.left_form x in
    let sl = g.X.FlowFaces.left_simplex x in
    let ir = g.X.FlowFaces.is_right x in
    let fr = g.X.FlowFaces.right_form x in
    let sr = g.X.FlowFaces.right_simplex x in
    let lf = g.met.X.FlowFaces.left_forms x q in
    let rf = g.met.X.FlowFaces.right_forms x in
    let lr = g.met.X.FlowFaces.left_read x q in
    let rr = g.met.X.FlowFaces.right_read x in
    let dg = g.X.FlowFaces.left_degree_of x in
    let gr = g.met.X.FlowFaces.graded x in
    let rg = g.met.X.FlowFaces.right_graded x in
    let t = c.args.t.now in
    let N : ℕ = dg t.left + dim_of t.right in
    let items = numbers c.push_shuffles.new.into.items in
    let same : 0 + c.left_degree.result + c.dim.result ≡ N = let e : 0 + c.left_degree.result + c.dim.result ≡ c.left_degree.result + c.dim.result = omega arith in e ∙ (λ i. c.left_degree.ensures i + c.dim.ensures i) in
    let pairs : Each (IsPairOf il ir N) items = subst (λ k. Each (IsPairOf il ir k) items) same c.in_ok-push_shuffles.ensures.pairs in
    IfOk-weaker c.from_terms.result _ _ (λ r e. subst (Each (IsPairOf il ir N)) (sym e) (Each-normal (IsPairOf il ir N) cell_cmp q items pairs)) c.from_terms.ensures.sum

pub returns-clause-eml : goal.returns-clause-eml
returns-clause-eml g c =
    let x = c.args.x.now in
    let q : ℕ = number c.args.p in
    let pos = number_pos c.args.p in
    let L = left_of (g.X.FlowFaces.has_letters x) q (g.X.FlowFaces.left_space x) in
    let I = left_in (g.X.FlowFaces.has_letters x) (g.X.FlowFaces.left_space x) in
    let R = ordered (g.X.FlowFaces.right_space x) in
    let bound = g.X.FlowFaces.bound x in
    let sh = g.met.X.FlowFaces.short x in
    let il = g.X.FlowFaces.is_left x in
    let fl = g.X.FlowFaces.left_form x in
    let sl = g.X.FlowFaces.left_simplex x in
    let ir = g.X.FlowFaces.is_right x in
    let fr = g.X.FlowFaces.right_form x in
    let sr = g.X.FlowFaces.right_simplex x in
    let lf = g.met.X.FlowFaces.left_forms x q in
    let rf = g.met.X.FlowFaces.right_forms x in
    let lr = g.met.X.FlowFaces.left_read x q in
    let rr = g.met.X.FlowFaces.right_read x in
    let dg = g.X.FlowFaces.left_degree_of x in
    let gr = g.met.X.FlowFaces.graded x in
    let rg = g.met.X.FlowFaces.right_graded x in
    let t = c.args.t.now in
    let N : ℕ = dg t.left + dim_of t.right in
    let items = numbers c.push_shuffles.new.into.items in
    let same : 0 + c.left_degree.result + c.dim.result ≡ N = let e : 0 + c.left_degree.result + c.dim.result ≡ c.left_degree.result + c.dim.result = omega arith in e ∙ (λ i. c.left_degree.ensures i + c.dim.ensures i) in
    let pairs : Each (IsPairOf il ir N) items = subst (λ k. Each (IsPairOf il ir k) items) same c.in_ok-push_shuffles.ensures.pairs in
    let weights : (w : Pair (Plain (g.X.FlowFaces.left_space x)) (Plain (g.X.FlowFaces.right_space x)) → ℕ) → SameMod q (weigh (form_weight fl fr N w) items) (weigh w (eml_of q L R (tensor_form dg fl fr t)))
    = λ w. eml-weights q bound pos sh L I R il fl sl ir fr sr lf rf lr rr dg gr rg t c.left_degree.result c.dim.result _ _ w (weigh (form_weight fl fr (0 + c.left_degree.result + c.dim.result) w) (numbers c.new-terms.result.items)) (λ k. weigh (form_weight fl fr k w) items)
    c.left_degree.ensures c.dim.ensures (bare-is _ refl) (bare-is _ refl) (ap (λ l. weigh (form_weight fl fr (0 + c.left_degree.result + c.dim.result) w) (numbers l)) c.new-terms.ensures.items) (c.in_ok-push_shuffles.ensures.sum w) in
    IfOk-weaker c.from_terms.result _ _ (λ r e w. ap (λ l. weigh (form_weight fl fr N w) l % q) e ∙ weigh-normal cell_cmp q one_cell (form_weight fl fr N w) items ∙ weights w) c.from_terms.ensures.sum

pub returns-clause-terms : goal.returns-clause-terms
returns-clause-terms g c =
    let x = c.args.x.now in
    let q : ℕ = number c.args.p in
    let pos = number_pos c.args.p in
    let L = left_of (g.X.FlowFaces.has_letters x) q (g.X.FlowFaces.left_space x) in
    let I = left_in (g.X.FlowFaces.has_letters x) (g.X.FlowFaces.left_space x) in
    let R = ordered (g.X.FlowFaces.right_space x) in
    let bound = g.X.FlowFaces.bound x in
    let sh = g.met.X.FlowFaces.short x in
    let il = g.X.FlowFaces.is_left x in
    let fl = g.X.FlowFaces.left_form x in
    let sl = g.X.FlowFaces.left_simplex x in
    let ir = g.X.FlowFaces.is_right x in
    let fr = g.X.FlowFaces.right_form x in
    let sr = g.X.FlowFaces.right_simplex x in
    let lf = g.met.X.FlowFaces.left_forms x q in
    let rf = g.met.X.FlowFaces.right_forms x in
    let lr = g.met.X.FlowFaces.left_read x q in
    let rr = g.met.X.FlowFaces.right_read x in
    let dg = g.X.FlowFaces.left_degree_of x in
    let gr = g.met.X.FlowFaces.graded x in
    let rg = g.met.X.FlowFaces.right_graded x in
    let t = c.args.t.now in
    let N : ℕ = dg t.left + dim_of t.right in
    let items = numbers c.push_shuffles.new.into.items in
    let same : 0 + c.left_degree.result + c.dim.result ≡ N = let e : 0 + c.left_degree.result + c.dim.result ≡ c.left_degree.result + c.dim.result = omega arith in e ∙ (λ i. c.left_degree.ensures i + c.dim.ensures i) in
    let pairs : Each (IsPairOf il ir N) items = subst (λ k. Each (IsPairOf il ir k) items) same c.in_ok-push_shuffles.ensures.pairs in
    let weights : (w : Pair (Plain (g.X.FlowFaces.left_space x)) (Plain (g.X.FlowFaces.right_space x)) → ℕ) → SameMod q (weigh (form_weight fl fr N w) items) (weigh w (eml_of q L R (tensor_form dg fl fr t)))
    = λ w. eml-weights q bound pos sh L I R il fl sl ir fr sr lf rf lr rr dg gr rg t c.left_degree.result c.dim.result _ _ w (weigh (form_weight fl fr (0 + c.left_degree.result + c.dim.result) w) (numbers c.new-terms.result.items)) (λ k. weigh (form_weight fl fr k w) items)
    c.left_degree.ensures c.dim.ensures (bare-is _ refl) (bare-is _ refl) (ap (λ l. weigh (form_weight fl fr (0 + c.left_degree.result + c.dim.result) w) (numbers l)) c.new-terms.ensures.items) (c.in_ok-push_shuffles.ensures.sum w) in
    if_ok c.from_terms.result (normal cell_cmp q items) (normal cell_cmp q (on_tensors dg fl fr (cell_for sl sr) (eml_of q L R) t)) c.from_terms.ensures.sum
    (told-pairs q bound pos sh L I R il fl sl ir fr sr lf rf lr rr dg gr rg N items (eml_of q L R (tensor_form dg fl fr t)) pairs weights)

pub returns-clause-left_cells : goal.returns-clause-left_cells
returns-clause-left_cells g c =
    let x = c.args.x.now in
    let q : ℕ = number c.args.p in
    let pos = number_pos c.args.p in
    let L = left_of (g.X.FlowFaces.has_letters x) q (g.X.FlowFaces.left_space x) in
    let I = left_in (g.X.FlowFaces.has_letters x) (g.X.FlowFaces.left_space x) in
    let R = ordered (g.X.FlowFaces.right_space x) in
    let bound = g.X.FlowFaces.bound x in
    let sh = g.met.X.FlowFaces.short x in
    let il = g.X.FlowFaces.is_left x in
    let fl = g.X.FlowFaces.left_form x in
    let sl = g.X.FlowFaces.left_simplex x in
    let ir = g.X.FlowFaces.is_right x in
    let fr = g.X.FlowFaces.right_form x in
    let sr = g.X.FlowFaces.right_simplex x in
    let lf = g.met.X.FlowFaces.left_forms x q in
    let rf = g.met.X.FlowFaces.right_forms x in
    let lr = g.met.X.FlowFaces.left_read x q in
    let rr = g.met.X.FlowFaces.right_read x in
    let dg = g.X.FlowFaces.left_degree_of x in
    let gr = g.met.X.FlowFaces.graded x in
    let rg = g.met.X.FlowFaces.right_graded x in
    let t = c.args.t.now in
    let N : ℕ = dg t.left + dim_of t.right in
    let items = numbers c.push_shuffles.new.into.items in
    let same : 0 + c.left_degree.result + c.dim.result ≡ N = let e : 0 + c.left_degree.result + c.dim.result ≡ c.left_degree.result + c.dim.result = omega arith in e ∙ (λ i. c.left_degree.ensures i + c.dim.ensures i) in
    let pairs : Each (IsPairOf il ir N) items = subst (λ k. Each (IsPairOf il ir k) items) same c.in_ok-push_shuffles.ensures.pairs in
    IfOk-weaker c.from_terms.result _ _
    (λ r e. eml-lefts q bound pos sh L I R il fl sl ir fr sr lf rf lr rr dg gr rg t (g.met.X.FlowFaces.left_identities x q pos) (g.met.X.FlowFaces.right_identities x) c.requires.0 c.requires.1 c.requires.2 r.terms e)
    (returns-clause-terms g c)
