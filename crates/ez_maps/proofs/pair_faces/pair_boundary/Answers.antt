use Rattle.std.proofs.Common.{◌≡◌, ℕ, zero, suc, ◌+◌, ◌-◌, ◌≤◌, refl, sym, ◌∙◌, ap, subst, arith, bit_and}
use Rattle.std.specs.Prelude.{count_ones}
use Rattle.fp_field.specs.Field.{number, SameMod}
use Rattle.fp_field.specs.Chains.{weigh}
use Rattle.fp_field.specs.Normal.{normal}
use Rattle.fp_field.proofs.Primes.{number_pos}
use Rattle.spaces.specs.Spaces.{Plain}
use Rattle.spaces.specs.Orders.{ordered}
use Rattle.spaces.specs.EilenbergZilber.{Pair, pair_d}
use Rattle.cells.specs.Order.{cell_cmp}
use Rattle.cells.proofs.OneKey.{one_cell}
use Rattle.chain_core.specs.Formal.{numbers}
use Rattle.ez_flow.specs.Parts.{left_of, left_in, IsPairOf, form_weight}
use Rattle.ez_flow.specs.CodeMaps.{on_cells, cell_for}
use Rattle.ez_flow.proofs.PairCells.{with-pair}
use Rattle.ez_maps.proofs.Oks.{if_ok}
use Rattle.ez_maps.proofs.PairSteps.{d-weight, d-terms, d-zero}
use Rattle.ez_maps.proofs.pair_faces.pair_boundary.Goals as goal

positive : (m : ℕ) → (m ≡ 0 → ⊥) → suc (m - 1) ≡ m
positive zero h = absurd (h refl)
positive (suc m) h = omega arith

pub returns-then-n-eq0-clause-terms : goal.returns-then-n-eq0-clause-terms
returns-then-n-eq0-clause-terms g c =
    let x = c.args.x.now in
    let q : ℕ = number c.args.p in
    let pos = number_pos c.args.p in
    let L = left_of (g.X.FlowFaces.has_letters x) q (g.X.FlowFaces.left_space x) in
    let I = left_in (g.X.FlowFaces.has_letters x) (g.X.FlowFaces.left_space x) in
    let R = ordered (g.X.FlowFaces.right_space x) in
    let bound = g.X.FlowFaces.bound x in
    let sh = g.met.X.FlowFaces.short x in
    let il = g.X.FlowFaces.is_left x in
    let fl = g.X.FlowFaces.left_form x in
    let sl = g.X.FlowFaces.left_simplex x in
    let ir = g.X.FlowFaces.is_right x in
    let fr = g.X.FlowFaces.right_form x in
    let sr = g.X.FlowFaces.right_simplex x in
    let lf = g.met.X.FlowFaces.left_forms x q in
    let rf = g.met.X.FlowFaces.right_forms x in
    let lr = g.met.X.FlowFaces.left_read x q in
    let rr = g.met.X.FlowFaces.right_read x in
    let dg = g.X.FlowFaces.left_degree_of x in
    let gr = g.met.X.FlowFaces.graded x in
    let rg = g.met.X.FlowFaces.right_graded x in
    let a = c.parts.result.0.now in
    let b = c.parts.result.1.now in
    let e = c.parts.ensures in
    let n = c.requires.0 in
    let m : ℕ = count_ones a.degens.mask + c.left_degree.result in
    let are = with-pair (λ a b. il n a × ir n b × (bit_and a.degens.mask b.degens.mask ≡ 0)) a b (subst (IsPairOf il ir n) e c.requires.1) in
    let same : m ≡ n = ap (λ t. count_ones a.degens.mask + t) c.left_degree.ensures ∙ gr n a are.0 in
    c.new.ensures.zero ∙ d-zero q bound pos sh L I R il fl sl ir fr sr lf rf lr rr dg gr rg n c.args.c.now a b e are.0 (sym same ∙ c.if-n-eq0.true)

pub push_faces-requires-clause-degree : goal.push_faces-requires-clause-degree
push_faces-requires-clause-degree g c =
    let x = c.args.x.now in
    let q : ℕ = number c.args.p in
    let pos = number_pos c.args.p in
    let L = left_of (g.X.FlowFaces.has_letters x) q (g.X.FlowFaces.left_space x) in
    let I = left_in (g.X.FlowFaces.has_letters x) (g.X.FlowFaces.left_space x) in
    let R = ordered (g.X.FlowFaces.right_space x) in
    let bound = g.X.FlowFaces.bound x in
    let sh = g.met.X.FlowFaces.short x in
    let il = g.X.FlowFaces.is_left x in
    let fl = g.X.FlowFaces.left_form x in
    let sl = g.X.FlowFaces.left_simplex x in
    let ir = g.X.FlowFaces.is_right x in
    let fr = g.X.FlowFaces.right_form x in
    let sr = g.X.FlowFaces.right_simplex x in
    let lf = g.met.X.FlowFaces.left_forms x q in
    let rf = g.met.X.FlowFaces.right_forms x in
    let lr = g.met.X.FlowFaces.left_read x q in
    let rr = g.met.X.FlowFaces.right_read x in
    let dg = g.X.FlowFaces.left_degree_of x in
    let gr = g.met.X.FlowFaces.graded x in
    let rg = g.met.X.FlowFaces.right_graded x in
    let a = c.parts.result.0.now in
    let b = c.parts.result.1.now in
    let e = c.parts.ensures in
    let n = c.requires.0 in
    let m : ℕ = count_ones a.degens.mask + c.left_degree.result in
    let are = with-pair (λ a b. il n a × ir n b × (bit_and a.degens.mask b.degens.mask ≡ 0)) a b (subst (IsPairOf il ir n) e c.requires.1) in
    let same : m ≡ n = ap (λ t. count_ones a.degens.mask + t) c.left_degree.ensures ∙ gr n a are.0 in
    let low : suc (m - 1) ≡ n = positive m c.if-n-eq0.false ∙ same in
    subst (λ k. k ≤ bound) (sym low) c.requires.2

pub push_faces-requires-clause-left : goal.push_faces-requires-clause-left
push_faces-requires-clause-left g c =
    let x = c.args.x.now in
    let q : ℕ = number c.args.p in
    let pos = number_pos c.args.p in
    let L = left_of (g.X.FlowFaces.has_letters x) q (g.X.FlowFaces.left_space x) in
    let I = left_in (g.X.FlowFaces.has_letters x) (g.X.FlowFaces.left_space x) in
    let R = ordered (g.X.FlowFaces.right_space x) in
    let bound = g.X.FlowFaces.bound x in
    let sh = g.met.X.FlowFaces.short x in
    let il = g.X.FlowFaces.is_left x in
    let fl = g.X.FlowFaces.left_form x in
    let sl = g.X.FlowFaces.left_simplex x in
    let ir = g.X.FlowFaces.is_right x in
    let fr = g.X.FlowFaces.right_form x in
    let sr = g.X.FlowFaces.right_simplex x in
    let lf = g.met.X.FlowFaces.left_forms x q in
    let rf = g.met.X.FlowFaces.right_forms x in
    let lr = g.met.X.FlowFaces.left_read x q in
    let rr = g.met.X.FlowFaces.right_read x in
    let dg = g.X.FlowFaces.left_degree_of x in
    let gr = g.met.X.FlowFaces.graded x in
    let rg = g.met.X.FlowFaces.right_graded x in
    let a = c.parts.result.0.now in
    let b = c.parts.result.1.now in
    let e = c.parts.ensures in
    let n = c.requires.0 in
    let m : ℕ = count_ones a.degens.mask + c.left_degree.result in
    let are = with-pair (λ a b. il n a × ir n b × (bit_and a.degens.mask b.degens.mask ≡ 0)) a b (subst (IsPairOf il ir n) e c.requires.1) in
    let same : m ≡ n = ap (λ t. count_ones a.degens.mask + t) c.left_degree.ensures ∙ gr n a are.0 in
    let low : suc (m - 1) ≡ n = positive m c.if-n-eq0.false ∙ same in
    subst (λ k. il k a) (sym low) are.0

pub push_faces-requires-clause-right : goal.push_faces-requires-clause-right
push_faces-requires-clause-right g c =
    let x = c.args.x.now in
    let q : ℕ = number c.args.p in
    let pos = number_pos c.args.p in
    let L = left_of (g.X.FlowFaces.has_letters x) q (g.X.FlowFaces.left_space x) in
    let I = left_in (g.X.FlowFaces.has_letters x) (g.X.FlowFaces.left_space x) in
    let R = ordered (g.X.FlowFaces.right_space x) in
    let bound = g.X.FlowFaces.bound x in
    let sh = g.met.X.FlowFaces.short x in
    let il = g.X.FlowFaces.is_left x in
    let fl = g.X.FlowFaces.left_form x in
    let sl = g.X.FlowFaces.left_simplex x in
    let ir = g.X.FlowFaces.is_right x in
    let fr = g.X.FlowFaces.right_form x in
    let sr = g.X.FlowFaces.right_simplex x in
    let lf = g.met.X.FlowFaces.left_forms x q in
    let rf = g.met.X.FlowFaces.right_forms x in
    let lr = g.met.X.FlowFaces.left_read x q in
    let rr = g.met.X.FlowFaces.right_read x in
    let dg = g.X.FlowFaces.left_degree_of x in
    let gr = g.met.X.FlowFaces.graded x in
    let rg = g.met.X.FlowFaces.right_graded x in
    let a = c.parts.result.0.now in
    let b = c.parts.result.1.now in
    let e = c.parts.ensures in
    let n = c.requires.0 in
    let m : ℕ = count_ones a.degens.mask + c.left_degree.result in
    let are = with-pair (λ a b. il n a × ir n b × (bit_and a.degens.mask b.degens.mask ≡ 0)) a b (subst (IsPairOf il ir n) e c.requires.1) in
    let same : m ≡ n = ap (λ t. count_ones a.degens.mask + t) c.left_degree.ensures ∙ gr n a are.0 in
    let low : suc (m - 1) ≡ n = positive m c.if-n-eq0.false ∙ same in
    subst (λ k. ir k b) (sym low) are.1

pub from_terms-requires-clause-one_key : goal.from_terms-requires-clause-one_key
from_terms-requires-clause-one_key g c = one_cell

pub returns-clause-terms : goal.returns-clause-terms
returns-clause-terms g c =
    let x = c.args.x.now in
    let q : ℕ = number c.args.p in
    let pos = number_pos c.args.p in
    let L = left_of (g.X.FlowFaces.has_letters x) q (g.X.FlowFaces.left_space x) in
    let I = left_in (g.X.FlowFaces.has_letters x) (g.X.FlowFaces.left_space x) in
    let R = ordered (g.X.FlowFaces.right_space x) in
    let bound = g.X.FlowFaces.bound x in
    let sh = g.met.X.FlowFaces.short x in
    let il = g.X.FlowFaces.is_left x in
    let fl = g.X.FlowFaces.left_form x in
    let sl = g.X.FlowFaces.left_simplex x in
    let ir = g.X.FlowFaces.is_right x in
    let fr = g.X.FlowFaces.right_form x in
    let sr = g.X.FlowFaces.right_simplex x in
    let lf = g.met.X.FlowFaces.left_forms x q in
    let rf = g.met.X.FlowFaces.right_forms x in
    let lr = g.met.X.FlowFaces.left_read x q in
    let rr = g.met.X.FlowFaces.right_read x in
    let dg = g.X.FlowFaces.left_degree_of x in
    let gr = g.met.X.FlowFaces.graded x in
    let rg = g.met.X.FlowFaces.right_graded x in
    let a = c.parts.result.0.now in
    let b = c.parts.result.1.now in
    let e = c.parts.ensures in
    let n = c.requires.0 in
    let m : ℕ = count_ones a.degens.mask + c.left_degree.result in
    let are = with-pair (λ a b. il n a × ir n b × (bit_and a.degens.mask b.degens.mask ≡ 0)) a b (subst (IsPairOf il ir n) e c.requires.1) in
    let same : m ≡ n = ap (λ t. count_ones a.degens.mask + t) c.left_degree.ensures ∙ gr n a are.0 in
    let low : suc (m - 1) ≡ n = positive m c.if-n-eq0.false ∙ same in
    let items = numbers c.push_faces.new.into.items in
    let weights : (w : Pair (Plain (g.X.FlowFaces.left_space x)) (Plain (g.X.FlowFaces.right_space x)) → ℕ) → SameMod q (weigh (form_weight fl fr (m - 1) w) items) (weigh w (pair_d q L R (n, fl a, fr b)))
    = λ w. d-weight q L R w n (m - 1) (fl a) (fr b) (weigh (form_weight fl fr (m - 1) w) (numbers c.new-terms.result.items)) (weigh (form_weight fl fr (m - 1) w) items) low
    (ap (λ l. weigh (form_weight fl fr (m - 1) w) (numbers l)) c.new-terms.ensures.items) (c.in_ok-push_faces.ensures.sum w) in
    if_ok c.from_terms.result (normal cell_cmp q items) (normal cell_cmp q (on_cells dg fl fr (cell_for sl sr) (pair_d q L R) c.args.c.now)) c.from_terms.ensures.sum
    (d-terms q bound pos sh L I R il fl sl ir fr sr lf rf lr rr dg gr rg n c.args.c.now a b e are.0 (m - 1) items c.in_ok-push_faces.ensures.pairs weights)
