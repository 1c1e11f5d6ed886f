use Rattle.std.proofs.Common.{◌≡◌, ℕ, suc, ◌+◌, ◌∙◌, ap, subst, bit_and}
use Rattle.std.specs.Prelude.{count_ones}
use Rattle.fp_field.specs.Field.{number, SameMod}
use Rattle.fp_field.specs.Chains.{weigh, Each}
use Rattle.spaces.specs.Orders.{ordered}
use Rattle.spaces.specs.EilenbergZilber.{flow as flow_of}
use Rattle.fp_field.proofs.Primes.{number_pos}
use Rattle.ez_flow.specs.Parts.{left_of, left_in, IsPairOf, form_weight}
use Rattle.ez_flow.proofs.PairCells.{with-pair}
use Rattle.ez_flow.proofs.CodeTerms.{told, flow-lefts}
use Rattle.ez_flow.proofs.sums.flow.Goals as goal

pub returns-clause-flow : goal.returns-clause-flow
returns-clause-flow g c = λ n pair w.
    let x = c.args.x.now in
    let q : ℕ = number c.args.p in
    let L = left_of (g.X.FlowFaces.has_letters x) q (g.X.FlowFaces.left_space x) in
    let R = ordered (g.X.FlowFaces.right_space x) in
    let il = g.X.FlowFaces.is_left x in
    let ir = g.X.FlowFaces.is_right x in
    let fl = g.X.FlowFaces.left_form x in
    let fr = g.X.FlowFaces.right_form x in
    let a = c.parts.result.0.now in
    let b = c.parts.result.1.now in
    let are = with-pair (λ a b. il n a × ir n b × (bit_and a.degens.mask b.degens.mask ≡ 0)) a b (subst (IsPairOf il ir n) c.parts.ensures pair) in
    let same : count_ones a.degens.mask + c.left_degree.result ≡ n = ap (λ t. count_ones a.degens.mask + t) c.left_degree.ensures ∙ g.met.X.FlowFaces.graded x n a are.0 in
    subst (λ m. SameMod q (weigh (form_weight fl fr (suc m) w) c.in_ok-flow.flow.terms) (form_weight fl fr m (λ s. weigh w (flow_of q L R s)) c.args.c.now)) same
    (c.in_ok-flow.ensures.flow w)

pub returns-clause-terms : goal.returns-clause-terms
returns-clause-terms g c =
    let x = c.args.x.now in
    let q : ℕ = number c.args.p in
    let L = left_of (g.X.FlowFaces.has_letters x) q (g.X.FlowFaces.left_space x) in
    let I = left_in (g.X.FlowFaces.has_letters x) (g.X.FlowFaces.left_space x) in
    let R = ordered (g.X.FlowFaces.right_space x) in
    let n = c.requires.0 in
    let il = g.X.FlowFaces.is_left x in
    let ir = g.X.FlowFaces.is_right x in
    let a = c.parts.result.0.now in
    let b = c.parts.result.1.now in
    let are = with-pair (λ a b. il n a × ir n b × (bit_and a.degens.mask b.degens.mask ≡ 0)) a b (subst (IsPairOf il ir n) c.parts.ensures c.requires.1) in
    let same : count_ones a.degens.mask + c.left_degree.result ≡ n = ap (λ t. count_ones a.degens.mask + t) c.left_degree.ensures ∙ g.met.X.FlowFaces.graded x n a are.0 in
    told q (g.X.FlowFaces.bound x) (number_pos c.args.p) (g.met.X.FlowFaces.short x) L I R
    (g.X.FlowFaces.is_left x) (g.X.FlowFaces.left_form x) (g.X.FlowFaces.left_simplex x) (g.X.FlowFaces.is_right x) (g.X.FlowFaces.right_form x) (g.X.FlowFaces.right_simplex x)
    (g.met.X.FlowFaces.left_forms x q) (g.met.X.FlowFaces.right_forms x) (g.met.X.FlowFaces.left_read x q) (g.met.X.FlowFaces.right_read x)
    (g.X.FlowFaces.left_degree_of x) (g.met.X.FlowFaces.graded x) n (suc n) (flow_of q L R) c.args.c.now c.requires.1 c.in_ok-flow.flow.terms c.in_ok-flow.ensures.normal
    (subst (λ m. Each (IsPairOf (g.X.FlowFaces.is_left x) (g.X.FlowFaces.is_right x) (suc m)) c.in_ok-flow.flow.terms) same c.in_ok-flow.ensures.pairs) (returns-clause-flow g c n c.requires.1)

pub returns-clause-left_cells : goal.returns-clause-left_cells
returns-clause-left_cells g c =
    let x = c.args.x.now in
    let q : ℕ = number c.args.p in
    let L = left_of (g.X.FlowFaces.has_letters x) q (g.X.FlowFaces.left_space x) in
    let I = left_in (g.X.FlowFaces.has_letters x) (g.X.FlowFaces.left_space x) in
    let R = ordered (g.X.FlowFaces.right_space x) in
    let n = c.requires.0 in
    flow-lefts q (g.X.FlowFaces.bound x) (number_pos c.args.p) (g.met.X.FlowFaces.short x) L I R
    (g.X.FlowFaces.is_left x) (g.X.FlowFaces.left_form x) (g.X.FlowFaces.left_simplex x) (g.X.FlowFaces.is_right x) (g.X.FlowFaces.right_form x) (g.X.FlowFaces.right_simplex x)
    (g.met.X.FlowFaces.left_forms x q) (g.met.X.FlowFaces.right_forms x) (g.met.X.FlowFaces.left_read x q) (g.met.X.FlowFaces.right_read x)
    (g.X.FlowFaces.left_degree_of x) (g.met.X.FlowFaces.graded x) (g.met.X.FlowFaces.left_identities x q (number_pos c.args.p)) (g.met.X.FlowFaces.right_identities x)
    n c.args.c.now c.requires.1 c.requires.2 c.in_ok-flow.flow.terms (returns-clause-terms g c)
