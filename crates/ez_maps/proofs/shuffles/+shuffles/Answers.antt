use Rattle.std.proofs.Common.{◌≡◌, ℕ, zero, suc, ◌+◌, ◌-◌, ◌*◌, ◌<◌, ◌^◌, true, refl, sym, ◌∙◌, ap, subst, arith, bit_and}
use Rattle.std.proofs.lemmas.Result.{on_ok_weaker}
use Rattle.fp_field.specs.Field.{number}
use Rattle.fp_field.specs.Chains.{weigh, EachKey}
use Rattle.spaces.specs.Orders.{ordered}
use Rattle.chain_core.specs.Formal.{numbers}
use Rattle.cells.specs.declared.cells.Cell.TheVariants.{Pair as PairCell}
use Rattle.cells.specs.declared.cells.Simplex.{Simplex}
use Rattle.ez_flow.specs.Parts.{left_of, IsPairOf, form_weight}
use Rattle.ez_flow.proofs.PairCells.{pair-with, weight-pair}
use Rattle.ez_flow.proofs.Pushes.{each-push, weigh-push}
use Rattle.ez_maps.proofs.Apart.{none-common}
use Rattle.ez_maps.proofs.ShuffleSteps.{left-sum, right-sum, both-sums, no-steps}
use Rattle.ez_maps.proofs.shuffles.+shuffles.Goals as goal

positive : (m : ℕ) → (m ≡ 0 → ⊥) → m ≡ suc (m - 1)
positive zero h = absurd (h refl)
positive (suc m) h = omega arith

pub push_after_left-push_shuffles-requires : goal.push_after_left-push_shuffles-requires
push_after_left-push_shuffles-requires g t c κs within =
    let x = c.args.x.now in
    let q : ℕ = number c.args.p in
    let L = left_of (g.X.FlowFaces.has_letters x) q (g.X.FlowFaces.left_space x) in
    let R = ordered (g.X.FlowFaces.right_space x) in
    let il = g.X.FlowFaces.is_left x in
    let fl = g.X.FlowFaces.left_form x in
    let ir = g.X.FlowFaces.is_right x in
    let fr = g.X.FlowFaces.right_form x in
    let word = c.args.word in
    let n : ℕ = word.place + word.lefts + word.rights in
    let v = c.after_left.result in
    let e = c.after_left.ensures in
    let m : ℕ = v.place + v.lefts + v.rights in
    let same : n ≡ m = omega (arith, e.place, e.lefts, e.rights) in
    let el : word.place + word.lefts ≡ v.place + v.lefts = omega (arith, e.place, e.lefts) in
    let er : suc (word.place + word.rights) ≡ v.place + v.rights = omega (arith, e.place, e.rights) in
    let raised = (g.met.X.FlowFaces.right_forms x).raised (word.place + word.rights) word.place (record { degens = word.right; cell = c.args.t.now.right })
    (record { degens = v.right; cell = c.args.t.now.right }) c.requires.right (omega arith) (omega (arith, c.requires.degree, e.lefts)) refl e.right in (
      omega (arith, c.decreases, e.lefts, e.rights),
      (
        within,
        (
          omega (arith, same, c.requires.degree),
          (
            subst (λ k. il k (record { degens = v.left; cell = c.args.t.now.left })) el (subst (λ d. il (word.place + word.lefts) (record { degens = d; cell = c.args.t.now.left })) (sym e.left) c.requires.left),
            (
              subst (λ k. ir k (record { degens = v.right; cell = c.args.t.now.right })) er raised.0,
              (
                e.apart,
                (
                  subst (λ a. a.value < q) (sym e.sign) c.requires.element,
                  (c.requires.elements, subst (λ k. EachKey (IsPairOf il ir k) (numbers c.args.into.now.items)) same c.requires.pairs),
                ),
              ),
            ),
          ),
        ),
      ),
    )

pub push_after_left-returns-clause-sum : goal.push_after_left-returns-clause-sum
push_after_left-returns-clause-sum g t c =
    let x = c.args.x.now in
    let q : ℕ = number c.args.p in
    let L = left_of (g.X.FlowFaces.has_letters x) q (g.X.FlowFaces.left_space x) in
    let R = ordered (g.X.FlowFaces.right_space x) in
    let il = g.X.FlowFaces.is_left x in
    let fl = g.X.FlowFaces.left_form x in
    let ir = g.X.FlowFaces.is_right x in
    let fr = g.X.FlowFaces.right_form x in
    let word = c.args.word in
    let n : ℕ = word.place + word.lefts + word.rights in
    let v = c.after_left.result in
    let e = c.after_left.ensures in
    let m : ℕ = v.place + v.lefts + v.rights in
    let same : m ≡ n = omega (arith, e.place, e.lefts, e.rights) in
    let raised = (g.met.X.FlowFaces.right_forms x).raised (word.place + word.rights) word.place (record { degens = word.right; cell = c.args.t.now.right })
    (record { degens = v.right; cell = c.args.t.now.right }) c.requires.right (omega arith) (omega (arith, c.requires.degree, e.lefts)) refl e.right in
    on_ok_weaker c.push_shuffles.result (λ h w.
    left-sum q L R w n m word.place v.place word.lefts v.lefts word.rights v.rights
    (fl (record { degens = word.left; cell = c.args.t.now.left })) (fl (record { degens = v.left; cell = c.args.t.now.left }))
    (fr (record { degens = word.right; cell = c.args.t.now.right })) (fr (record { degens = v.right; cell = c.args.t.now.right }))
    word.sign.value v.sign.value (λ k. weigh (form_weight fl fr k w) (numbers c.args.into.now.items)) (λ k. weigh (form_weight fl fr k w) (numbers c.push_shuffles.new.into.items))
    same e.place e.lefts e.rights (ap (λ d. fl (record { degens = d; cell = c.args.t.now.left })) e.left) raised.1 (ap (λ a. a.value) e.sign)
    (h w))
    c.push_shuffles.ensures.sum

pub push_after_right-push_shuffles-requires : goal.push_after_right-push_shuffles-requires
push_after_right-push_shuffles-requires g t c κs within =
    let x = c.args.x.now in
    let q : ℕ = number c.args.p in
    let L = left_of (g.X.FlowFaces.has_letters x) q (g.X.FlowFaces.left_space x) in
    let R = ordered (g.X.FlowFaces.right_space x) in
    let il = g.X.FlowFaces.is_left x in
    let fl = g.X.FlowFaces.left_form x in
    let ir = g.X.FlowFaces.is_right x in
    let fr = g.X.FlowFaces.right_form x in
    let word = c.args.word in
    let n : ℕ = word.place + word.lefts + word.rights in
    let v = c.after_right.result in
    let e = c.after_right.ensures in
    let m : ℕ = v.place + v.lefts + v.rights in
    let same : n ≡ m = omega (arith, e.place, e.lefts, e.rights) in
    let el : suc (word.place + word.lefts) ≡ v.place + v.lefts = omega (arith, e.place, e.lefts) in
    let er : word.place + word.rights ≡ v.place + v.rights = omega (arith, e.place, e.rights) in
    let raised = (g.met.X.FlowFaces.left_forms x q).raised (word.place + word.lefts) word.place (record { degens = word.left; cell = c.args.t.now.left })
    (record { degens = v.left; cell = c.args.t.now.left }) c.requires.left (omega arith) (omega (arith, c.requires.degree, e.rights)) refl e.left in (
      omega (arith, c.decreases, e.lefts, e.rights),
      (
        within,
        (
          omega (arith, same, c.requires.degree),
          (
            subst (λ k. il k (record { degens = v.left; cell = c.args.t.now.left })) el raised.0,
            (
              subst (λ k. ir k (record { degens = v.right; cell = c.args.t.now.right })) er (subst (λ d. ir (word.place + word.rights) (record { degens = d; cell = c.args.t.now.right })) (sym e.right) c.requires.right),
              (
                e.apart,
                (e.element, (c.requires.elements, subst (λ k. EachKey (IsPairOf il ir k) (numbers c.args.into.now.items)) same c.requires.pairs)),
              ),
            ),
          ),
        ),
      ),
    )

pub push_after_right-returns-clause-sum : goal.push_after_right-returns-clause-sum
push_after_right-returns-clause-sum g t c =
    let x = c.args.x.now in
    let q : ℕ = number c.args.p in
    let L = left_of (g.X.FlowFaces.has_letters x) q (g.X.FlowFaces.left_space x) in
    let R = ordered (g.X.FlowFaces.right_space x) in
    let il = g.X.FlowFaces.is_left x in
    let fl = g.X.FlowFaces.left_form x in
    let ir = g.X.FlowFaces.is_right x in
    let fr = g.X.FlowFaces.right_form x in
    let word = c.args.word in
    let n : ℕ = word.place + word.lefts + word.rights in
    let v = c.after_right.result in
    let e = c.after_right.ensures in
    let m : ℕ = v.place + v.lefts + v.rights in
    let same : m ≡ n = omega (arith, e.place, e.lefts, e.rights) in
    let raised = (g.met.X.FlowFaces.left_forms x q).raised (word.place + word.lefts) word.place (record { degens = word.left; cell = c.args.t.now.left })
    (record { degens = v.left; cell = c.args.t.now.left }) c.requires.left (omega arith) (omega (arith, c.requires.degree, e.rights)) refl e.left in
    on_ok_weaker c.push_shuffles.result (λ h w.
    right-sum q L R w n m word.place v.place word.lefts v.lefts word.rights v.rights
    (fl (record { degens = word.left; cell = c.args.t.now.left })) (fl (record { degens = v.left; cell = c.args.t.now.left }))
    (fr (record { degens = word.right; cell = c.args.t.now.right })) (fr (record { degens = v.right; cell = c.args.t.now.right }))
    word.sign.value v.sign.value (λ k. weigh (form_weight fl fr k w) (numbers c.args.into.now.items)) (λ k. weigh (form_weight fl fr k w) (numbers c.push_shuffles.new.into.items))
    same e.place e.lefts e.rights raised.1 (ap (λ d. fr (record { degens = d; cell = c.args.t.now.right })) e.right) e.sign
    (h w))
    c.push_shuffles.ensures.sum

pub push_shuffles-returns-then-word-eq0-clause-pairs : goal.push_shuffles-returns-then-word-eq0-clause-pairs
push_shuffles-returns-then-word-eq0-clause-pairs g t c =
    let x = c.args.x.now in
    let q : ℕ = number c.args.p in
    let L = left_of (g.X.FlowFaces.has_letters x) q (g.X.FlowFaces.left_space x) in
    let R = ordered (g.X.FlowFaces.right_space x) in
    let il = g.X.FlowFaces.is_left x in
    let fl = g.X.FlowFaces.left_form x in
    let ir = g.X.FlowFaces.is_right x in
    let fr = g.X.FlowFaces.right_form x in
    let word = c.args.word in
    let n : ℕ = word.place + word.lefts + word.rights in
    let a : Simplex = record { degens = word.left; cell = c.args.t.now.left } in
    let b : Simplex = record { degens = word.right; cell = c.args.t.now.right } in
    let none : word.lefts + word.rights ≡ 0 = c.if-word-eq0.true in
    let el : word.place + word.lefts ≡ n = omega (arith, none) in
    let er : word.place + word.rights ≡ n = omega (arith, none) in
    let e0 : word.place ≡ n = omega (arith, none) in
    let apart : bit_and word.left.mask word.right.mask ≡ 0 = none-common word.place word.left.mask word.right.mask c.requires.apart
    (subst (λ k. word.left.mask < 2 ^ k) (el ∙ sym e0) ((g.met.X.FlowFaces.left_forms x q).mask (word.place + word.lefts) a c.requires.left)) in
    on_ok_weaker c.push_shuffle.result (λ h.
    each-push (IsPairOf il ir n) true c.args.into.now.items c.push_shuffle.new.into.items (PairCell a b) word.sign h
    (λ u. pair-with (λ a b. il n a × ir n b × (bit_and a.degens.mask b.degens.mask ≡ 0)) a b (subst (λ k. il k a) el c.requires.left, subst (λ k. ir k b) er c.requires.right, apart)) c.requires.pairs)
    c.push_shuffle.ensures

pub push_shuffles-returns-then-word-eq0-clause-sum : goal.push_shuffles-returns-then-word-eq0-clause-sum
push_shuffles-returns-then-word-eq0-clause-sum g t c =
    let x = c.args.x.now in
    let q : ℕ = number c.args.p in
    let L = left_of (g.X.FlowFaces.has_letters x) q (g.X.FlowFaces.left_space x) in
    let R = ordered (g.X.FlowFaces.right_space x) in
    let il = g.X.FlowFaces.is_left x in
    let fl = g.X.FlowFaces.left_form x in
    let ir = g.X.FlowFaces.is_right x in
    let fr = g.X.FlowFaces.right_form x in
    let word = c.args.word in
    let n : ℕ = word.place + word.lefts + word.rights in
    let a : Simplex = record { degens = word.left; cell = c.args.t.now.left } in
    let b : Simplex = record { degens = word.right; cell = c.args.t.now.right } in
    let none : word.lefts + word.rights ≡ 0 = c.if-word-eq0.true in
    on_ok_weaker c.push_shuffle.result (λ h w.
    no-steps q L R w n word.place word.lefts word.rights (fl a) (fr b) word.sign.value (weigh (form_weight fl fr n w) (numbers c.args.into.now.items)) (weigh (form_weight fl fr n w) (numbers c.push_shuffle.new.into.items)) none
    (weigh-push (form_weight fl fr n w) true c.args.into.now.items c.push_shuffle.new.into.items (PairCell a b) word.sign h
    ∙ ap (λ m. weigh (form_weight fl fr n w) (numbers c.args.into.now.items) + word.sign.value * m) (weight-pair (λ a b. w (n, fl a, fr b)) a b)))
    c.push_shuffle.ensures

pub push_shuffles-returns-clause-sum : goal.push_shuffles-returns-clause-sum
push_shuffles-returns-clause-sum g t c =
    let x = c.args.x.now in
    let q : ℕ = number c.args.p in
    let L = left_of (g.X.FlowFaces.has_letters x) q (g.X.FlowFaces.left_space x) in
    let R = ordered (g.X.FlowFaces.right_space x) in
    let il = g.X.FlowFaces.is_left x in
    let fl = g.X.FlowFaces.left_form x in
    let ir = g.X.FlowFaces.is_right x in
    let fr = g.X.FlowFaces.right_form x in
    let word = c.args.word in
    let n : ℕ = word.place + word.lefts + word.rights in
    let a : Simplex = record { degens = word.left; cell = c.args.t.now.left } in
    let b : Simplex = record { degens = word.right; cell = c.args.t.now.right } in
    let some : word.lefts + word.rights ≡ suc (word.lefts + word.rights - 1) = positive (word.lefts + word.rights) c.if-word-eq0.false in
    on_ok_weaker c.push_after_right.result (λ h w.
    both-sums q L R w n word.place word.lefts word.rights (word.lefts + word.rights - 1) (fl a) (fr b) word.sign.value
    (weigh (form_weight fl fr n w) (numbers c.args.into.now.items)) (weigh (form_weight fl fr n w) (numbers c.push_after_left.new.into.items)) (weigh (form_weight fl fr n w) (numbers c.push_after_right.new.into.items)) some
    (c.in_ok-push_after_left.ensures.sum w) (h w))
    c.push_after_right.ensures.sum
