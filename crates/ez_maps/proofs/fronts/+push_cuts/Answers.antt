use Rattle.std.proofs.Common.{◌≡◌, ℕ, zero, suc, ◌+◌, ◌-◌, ◌%◌, ◌<◌, ◌≤◌, refl, sym, ◌∙◌, ap, subst, arith}
use Rattle.fp_field.specs.Field.{number, SameMod}
use Rattle.fp_field.specs.Chains.{weigh}
use Rattle.fp_field.proofs.Primes.{number_pos}
use Rattle.spaces.specs.Spaces.{Plain}
use Rattle.spaces.specs.Orders.{ordered}
use Rattle.spaces.specs.EilenbergZilber.{Tensor as PlainTensor, front, back as back_of, cuts}
use Rattle.chain_core.specs.Formal.{numbers}
use Rattle.ez_flow.specs.Parts.{left_of, left_in}
use Rattle.cells.specs.declared.cells.Cell.{Cell}
use Rattle.ez_maps.specs.Tensors.{tensor_form}
use Rattle.tensor_red.specs.declared.tensors.Tensor.{Tensor}
use Rattle.ez_maps.proofs.CutSteps.{kept, cut-step, back-step, whole-front, lower-front}
use Rattle.ez_maps.proofs.fronts.+push_cuts.Goals as goal

-- two numbers that are different and in order
less : (i n : ℕ) → i ≤ n → (i ≡ n → ⊥) → i < n
less zero zero l h = absurd (h refl)
less zero (suc n) l h = omega arith
less (suc i) zero l h = absurd (omega (arith, l))
less (suc i) (suc n) l h = let q = less i n (omega (arith, l)) (λ e. h (ap suc e)) in omega (arith, q)

pub returns-then-i-n-clause-cuts : goal.returns-then-i-n-clause-cuts
returns-then-i-n-clause-cuts g t c =
    let x = c.args.x.now in
    let q : ℕ = number c.args.p in
    let pos = number_pos c.args.p in
    let L = left_of (g.X.FlowFaces.has_letters x) q (g.X.FlowFaces.left_space x) in
    let I = left_in (g.X.FlowFaces.has_letters x) (g.X.FlowFaces.left_space x) in
    let R = ordered (g.X.FlowFaces.right_space x) in
    let bound = g.X.FlowFaces.bound x in
    let sh = g.met.X.FlowFaces.short x in
    let il = g.X.FlowFaces.is_left x in
    let fl = g.X.FlowFaces.left_form x in
    let ir = g.X.FlowFaces.is_right x in
    let fr = g.X.FlowFaces.right_form x in
    let dg = g.X.FlowFaces.left_degree_of x in
    let i : ℕ = c.args.i in
    let n : ℕ = c.args.n in
    let a = c.args.a.now in
    let b = c.args.back.now in
    let W : (PlainTensor (Plain (g.X.FlowFaces.left_space x)) (Plain (g.X.FlowFaces.right_space x)) → ℕ) → Tensor Cell Cell → ℕ = λ w t. w (tensor_form dg fl fr t) in
    let same : i ≡ n = c.if-i-n.true in
    let none : 0 ≡ n - i = omega (arith, same) in
    λ y e w.
    let old : ℕ = weigh (W w) (numbers c.args.into.now.items) in
    cut-step q L R w (λ u. weigh (λ t. u (fl t)) (numbers c.in_ok-whole.whole.items)) i n (fl a) y (fr b) old (weigh (W w) (numbers c.push_tensors.new.into.items))
    (old + weigh (kept q L R w) (cuts q L R (suc n) (n, fl a, y)))
    (λ v. ap (λ l. weigh (λ t. v (fl t)) (numbers l) % q) c.in_ok-whole.ensures ∙ ap (λ m. m % q) (whole-front q L R v i n (fl a) same))
    (subst (λ k. weigh (W w) (numbers c.push_tensors.new.into.items) ≡ old + weigh (λ s. kept q L R w (i, fl s, k, fr b)) (numbers c.in_ok-whole.whole.items)) none
    (subst (λ l. weigh (W w) (numbers c.push_tensors.new.into.items) ≡ old + weigh (λ s. kept q L R w (i, fl s, 0, fr b)) (numbers l)) c.deref.ensures.value (c.in_ok-push_tensors.ensures.sum w)))
    e (ap (λ k. (old + weigh (kept q L R w) (cuts q L R (suc k) (n, fl a, y))) % q) same)

pub right_face-requires : goal.right_face-requires
right_face-requires g t c =
    let x = c.args.x.now in
    let q : ℕ = number c.args.p in
    let pos = number_pos c.args.p in
    let L = left_of (g.X.FlowFaces.has_letters x) q (g.X.FlowFaces.left_space x) in
    let I = left_in (g.X.FlowFaces.has_letters x) (g.X.FlowFaces.left_space x) in
    let R = ordered (g.X.FlowFaces.right_space x) in
    let bound = g.X.FlowFaces.bound x in
    let sh = g.met.X.FlowFaces.short x in
    let il = g.X.FlowFaces.is_left x in
    let fl = g.X.FlowFaces.left_form x in
    let ir = g.X.FlowFaces.is_right x in
    let fr = g.X.FlowFaces.right_form x in
    let dg = g.X.FlowFaces.left_degree_of x in
    let i : ℕ = c.args.i in
    let n : ℕ = c.args.n in
    let a = c.args.a.now in
    let b = c.args.back.now in
    let l : i < n = less i n c.requires.place c.if-i-n.false in
    let e : n - i ≡ suc (n - suc i) = omega (arith, l) in
    (n - suc i, subst (λ k. ir k b) e c.requires.right, omega (arith, e, l, c.requires.degree), omega arith)

pub returns-clause-front : goal.returns-clause-front
returns-clause-front g t c =
    let x = c.args.x.now in
    let q : ℕ = number c.args.p in
    let pos = number_pos c.args.p in
    let L = left_of (g.X.FlowFaces.has_letters x) q (g.X.FlowFaces.left_space x) in
    let I = left_in (g.X.FlowFaces.has_letters x) (g.X.FlowFaces.left_space x) in
    let R = ordered (g.X.FlowFaces.right_space x) in
    let bound = g.X.FlowFaces.bound x in
    let sh = g.met.X.FlowFaces.short x in
    let il = g.X.FlowFaces.is_left x in
    let fl = g.X.FlowFaces.left_form x in
    let ir = g.X.FlowFaces.is_right x in
    let fr = g.X.FlowFaces.right_form x in
    let dg = g.X.FlowFaces.left_degree_of x in
    let i : ℕ = c.args.i in
    let n : ℕ = c.args.n in
    let a = c.args.a.now in
    let b = c.args.back.now in
    let l : i < n = less i n c.requires.place c.if-i-n.false in
    let one_more : i + 1 ≡ suc i = omega arith in
    λ w. lower-front q L R w (λ u. weigh (λ t. u (fl t)) (numbers c.in_ok-upper.upper.items)) i n (weigh (λ t. w (fl t)) (numbers c.in_ok-front.front.items)) (fl a) l
    (c.in_ok-front.ensures.sum w)
    (λ u. subst (λ k. SameMod q (weigh (λ t. u (fl t)) (numbers c.in_ok-upper.upper.items)) (weigh u (front q L R k (n - k) (fl a)))) one_more (c.in_ok-upper.ensures.front u))

pub returns-clause-cuts : goal.returns-clause-cuts
returns-clause-cuts g t c =
    let x = c.args.x.now in
    let q : ℕ = number c.args.p in
    let pos = number_pos c.args.p in
    let L = left_of (g.X.FlowFaces.has_letters x) q (g.X.FlowFaces.left_space x) in
    let I = left_in (g.X.FlowFaces.has_letters x) (g.X.FlowFaces.left_space x) in
    let R = ordered (g.X.FlowFaces.right_space x) in
    let bound = g.X.FlowFaces.bound x in
    let sh = g.met.X.FlowFaces.short x in
    let il = g.X.FlowFaces.is_left x in
    let fl = g.X.FlowFaces.left_form x in
    let ir = g.X.FlowFaces.is_right x in
    let fr = g.X.FlowFaces.right_form x in
    let dg = g.X.FlowFaces.left_degree_of x in
    let i : ℕ = c.args.i in
    let n : ℕ = c.args.n in
    let a = c.args.a.now in
    let b = c.args.back.now in
    let W : (PlainTensor (Plain (g.X.FlowFaces.left_space x)) (Plain (g.X.FlowFaces.right_space x)) → ℕ) → Tensor Cell Cell → ℕ = λ w t. w (tensor_form dg fl fr t) in
    let one_more : i + 1 ≡ suc i = omega arith in
    λ y e w.
    let old : ℕ = weigh (W w) (numbers c.args.into.now.items) in
    let mid : ℕ = weigh (W w) (numbers c.push_cuts.new.into.items) in
    let goal_is : ℕ = old + weigh (kept q L R w) (cuts q L R (suc n) (n, fl a, y)) in
    let next : fr c.in_ok-next.next ≡ back_of q L R (i + 1) y = c.in_ok-next.ensures.form ∙ ap (λ z. R.set.face 0 z) e ∙ back-step q L R i y ∙ ap (λ k. back_of q L R k y) (sym one_more) in
    cut-step q L R w (λ u. weigh (λ t. u (fl t)) (numbers c.in_ok-front.front.items)) i n (fl a) y (fr b) mid (weigh (W w) (numbers c.push_tensors-2.new.into.items)) goal_is
    (returns-clause-front g t c)
    (subst (λ l. weigh (W w) (numbers c.push_tensors-2.new.into.items) ≡ mid + weigh (λ s. kept q L R w (i, fl s, n - i, fr b)) (numbers l)) c.deref-2.ensures.value (c.in_ok-push_tensors-2.ensures.sum w)) e
    (subst (λ k. SameMod q (mid + weigh (kept q L R w) (cuts q L R k (n, fl a, y))) goal_is) one_more (c.in_ok-upper.ensures.cuts y next w))
