-- Alexander-Whitney after the twist: on a pair of left dimension m its terms have left degree at most m - 2.
use Rattle.std.proofs.Common.{◌≡◌, ℕ, zero, suc, ◌+◌, ◌-◌, ◌<◌, ◌≤◌, Bool, true, false, not, ◌&&◌, inl, inr, refl, sym, ◌∙◌, ap, subst, arith, true≢false}
use Rattle.fp_field.specs.Chains.{Terms}
use Rattle.fp_field.specs.Reduction.{one, after}
use Rattle.spaces.specs.Simplicial.{has_degeneracy, is_degenerate, some_below}
use Rattle.spaces.specs.Orders.{Ordered}
use Rattle.spaces.specs.Products.{IsTwisting}
use Rattle.spaces.specs.EilenbergZilber.{Linear, linear, Pair, Tensor, is_pair_cell, is_tensor_cell, front, cuts, aw}
use Rattle.ez_laws.specs.Sides.{IsRight, on_keys}
use Rattle.ez_laws.proofs.Matches.{two}
use Rattle.ez_laws.proofs.PairComplex.{order}
use Rattle.ez_laws.proofs.Functionals.{Coefficients, Ch}
use Rattle.ez_laws.proofs.ChainLaws.{o, add, neg, eta, lin, tot, sg, All, comm, inverse, lin-eta, lin-lin, lin-add, lin-neg, lin-o, tot-add, tot-o, sg-tot, all-o, all-eta, all-add, all-neg, all-tot}
use Rattle.ez_laws.proofs.Values.{field, val, val-one, val-extend, lin-append, lin-nil, lin-keys}
use Rattle.ez_laws.proofs.PairKeys.{none-below, found-below, not_false}
use Rattle.std.proofs.lemmas.Bool.{and_parts}
use Rattle.twist_laws.proofs.Supports.{kept_key, kept-true, kept-false, val-keep}
use Rattle.twist_laws.proofs.Places.{some-so, count, count-least, count-full, low-has, cut_front, front-has}
use Rattle.twist_laws.proofs.Late.{behind, behind-has, late-same}
use Rattle.twist_laws.proofs.TwistedPairs as TP

and-first : (a b : Bool) → a ≡ true → (not a && b) ≡ false
and-first true b e = refl
and-first false b e = absurd (true≢false (sym e))

and-second : (a b : Bool) → b ≡ true → (a && not b) ≡ false
and-second a false e = absurd (true≢false (sym e))
and-second true true e = refl
and-second false true e = refl

not-true-false : (b : Bool) → (b ≡ true → ⊥) → b ≡ false
not-true-false true h = absurd (h refl)
not-true-false false h = refl

module _ (p : ℕ) (pos : 0 < p) {K J : Type 0} (Bo : Ordered K) (Fo : Ordered J) (base : IsRight Bo) (fibre : IsRight Fo)
    (t : K → J) (times : J → J → J) (w : IsTwisting Bo.set Fo.set t times) where
  abbrev S : Coefficients
  S = field p pos

  abbrev L : Linear K
  L = linear Bo

  abbrev Te : Type 0
  Te = Tensor K J

  abbrev tc : Te → Bool
  tc z = is_tensor_cell p L Fo z

  abbrev pc : Pair K J → Bool
  pc s = is_pair_cell p L Fo s

  abbrev pub Is : Pair K J → Type 0
  Is s = TP.Is p pos Bo Fo base fibre t times w s

  abbrev pub dim : Pair K J → ℕ
  dim s = TP.dim p pos Bo Fo base fibre t times w s

  abbrev pub q : Pair K J → Terms (Pair K J)
  q s = TP.q p pos Bo Fo base fibre t times w s

  abbrev pub f : Pair K J → Terms Te
  f s = aw p L Fo s

  -- the parts of a cut
  abbrev tail : ℕ → J → J
  tail i y = behind p Bo Fo base fibre t times w i y

  abbrev cut : ℕ → ℕ → K → J → Te
  cut i n x y = (i, cut_front Bo.set base.simplicial i (n - i) x, n - i, tail i y)

  -- a summand of Alexander-Whitney
  abbrev pub summand : ℕ → K → J → ℕ → Ch S Te
  summand n x y i = kept_key p pos tc (cut i n x y)

  front-val : (i k : ℕ) (x : K) → val p pos (front p L Fo i k x) ≡ eta S (cut_front Bo.set base.simplicial i k x)
  front-val i zero x = val-one p pos x
  front-val i (suc k) x =
      val-extend p pos (front p L Fo i k) (one (Bo.set.face (i + suc k) x))
      ∙ ap (lin S (λ z. val p pos (front p L Fo i k z))) (val-one p pos (Bo.set.face (i + suc k) x))
      ∙ lin-eta S (λ z. val p pos (front p L Fo i k z)) (Bo.set.face (i + suc k) x)
      ∙ front-val i k (Bo.set.face (i + suc k) x)

  cuts-val : (m n : ℕ) (x : K) (y : J) → lin S (kept_key p pos tc) (val p pos (cuts p L Fo m (n, x, y))) ≡ tot S m (summand n x y)
  unfolding tot
  cuts-val zero n x y = lin-nil p pos (kept_key p pos tc)
  cuts-val (suc m) n x y =
      let g : K → Te = λ z. (m, z, n - m, tail m y) in
      lin-append p pos (kept_key p pos tc) (on_keys g (front p L Fo m (n - m) x)) (cuts p L Fo m (n, x, y))
      ∙ ap (λ v. add S v (lin S (kept_key p pos tc) (val p pos (cuts p L Fo m (n, x, y)))))
      (lin-keys p pos (kept_key p pos tc) g (front p L Fo m (n - m) x)
      ∙ ap (lin S (λ z. kept_key p pos tc (g z))) (front-val m (n - m) x)
      ∙ lin-eta S (λ z. kept_key p pos tc (g z)) (cut_front Bo.set base.simplicial m (n - m) x))
      ∙ ap (add S (summand n x y m)) (cuts-val m n x y)
      ∙ comm S (summand n x y m) (tot S m (summand n x y))

  pub aw-val : (n : ℕ) (x : K) (y : J) → val p pos (f (n, x, y)) ≡ tot S (suc n) (summand n x y)
  aw-val n x y = val-keep p pos tc (cuts p L Fo (suc n) (n, x, y)) ∙ cuts-val (suc n) n x y

  -- ---- summands with a degenerate part

  summand-left : (i j n : ℕ) (x : K) (y : J) → j < i → has_degeneracy Bo.set j (cut_front Bo.set base.simplicial i (n - i) x) ≡ true → summand n x y i ≡ o S
  summand-left i j n x y l e =
      kept-false p pos tc (cut i n x y)
      (and-first (some_below i (λ j. has_degeneracy Bo.set j (cut_front Bo.set base.simplicial i (n - i) x))) (not (is_degenerate Fo.set (n - i) (tail i y)))
      (some-so i (λ j. has_degeneracy Bo.set j (cut_front Bo.set base.simplicial i (n - i) x)) j l e))

  summand-right : (i j n : ℕ) (x : K) (y : J) → j < n - i → has_degeneracy Fo.set j (tail i y) ≡ true → summand n x y i ≡ o S
  summand-right i j n x y l e =
      kept-false p pos tc (cut i n x y)
      (and-second (not (some_below i (λ j. has_degeneracy Bo.set j (cut_front Bo.set base.simplicial i (n - i) x)))) (is_degenerate Fo.set (n - i) (tail i y))
      (some-so (n - i) (λ j. has_degeneracy Fo.set j (tail i y)) j l e))

  -- Alexander-Whitney is 0 on a degenerate pair
  pub aw-none : (n : ℕ) (x : K) (y : J) → Bo.set.In n x → Fo.set.In n y → pc (n, x, y) ≡ false → val p pos (f (n, x, y)) ≡ o S
  aw-none n x y ix iy e =
      let r = found-below n (λ j. has_degeneracy Bo.set j x && has_degeneracy Fo.set j y) (not_false (some_below n (λ j. has_degeneracy Bo.set j x && has_degeneracy Fo.set j y)) e) in
      let b = and_parts (has_degeneracy Bo.set r.0 x) (has_degeneracy Fo.set r.0 y) r.2 in
      aw-val n x y ∙ tot-o S (suc n) (summand n x y) (λ i l. elim (order i r.0) as (λ v. summand n x y i ≡ o S) [
        | inl v ↦
            let m : n ≡ i + (n - i) = omega (arith, l) in
            let j : ℕ = r.0 - i in
            summand-right i j n x y (omega (arith, r.1, v))
            (behind-has p Bo Fo base fibre t times w i (n - i) n j y m (omega (arith, r.1, v)) iy (subst (λ a. has_degeneracy Fo.set a y ≡ true) (let q : r.0 ≡ i + j = omega (arith, v) in q) b.1))
        | inr v ↦ summand-left i r.0 n x y v
            (front-has Bo.set base.simplicial i (n - i) n r.0 x (omega (arith, l)) ix v b.0)
      ])

  -- ---- after the twist

  abbrev x0 : K → K
  x0 x = Bo.set.face 0 x

  abbrev y0 : J → J
  y0 y = Fo.set.face 0 y

  abbrev y1 : K → J → J
  y1 x y = times (t x) (Fo.set.face 0 y)

  on-kept : (n : ℕ) (x : K) (y : J) → Bo.set.In n x → Fo.set.In n y → lin S (λ z. val p pos (f z)) (kept_key p pos pc (n, x, y)) ≡ val p pos (f (n, x, y))
  on-kept n x y ix iy = elim (two (pc (n, x, y))) as (λ v. lin S (λ z. val p pos (f z)) (kept_key p pos pc (n, x, y)) ≡ val p pos (f (n, x, y))) [
    | inl v ↦ ap (lin S (λ z. val p pos (f z))) (kept-true p pos pc (n, x, y) v) ∙ lin-eta S (λ z. val p pos (f z)) (n, x, y)
    | inr v ↦ ap (lin S (λ z. val p pos (f z))) (kept-false p pos pc (n, x, y) v) ∙ lin-o S (λ z. val p pos (f z)) ∙ sym (aw-none n x y ix iy v)
  ]

  aw-q : (n : ℕ) (x : K) (y : J) → Bo.set.In (suc n) x → Fo.set.In (suc n) y
      → val p pos (after f q (suc n, x, y)) ≡ add S (val p pos (f (n, x0 x, y1 x y))) (neg S (val p pos (f (n, x0 x, y0 y))))
  aw-q n x y ix iy =
      let T : Pair K J → Ch S Te = λ z. val p pos (f z) in
      let U : Pair K J → Ch S Te = λ z. lin S T (kept_key p pos pc z) in
      let a : Pair K J = (n, x0 x, y1 x y) in
      let b : Pair K J = (n, x0 x, y0 y) in
      let i0 : Bo.set.In n (x0 x) = TP.base-in p pos Bo Fo base fibre t times w n x ix in
      val-extend p pos f (q (suc n, x, y))
      ∙ ap (lin S T) (TP.val-q p pos Bo Fo base fibre t times w n x y)
      ∙ lin-lin S (kept_key p pos pc) T (add S (eta S a) (neg S (eta S b)))
      ∙ lin-add S U (eta S a) (neg S (eta S b))
      ∙ ap (λ v. add S v (lin S U (neg S (eta S b)))) (lin-eta S U a ∙ on-kept n (x0 x) (y1 x y) i0 (TP.twisted-in p pos Bo Fo base fibre t times w n x y ix iy))
      ∙ ap (add S (T a)) (lin-neg S U (eta S b) ∙ ap (neg S) (lin-eta S U b ∙ on-kept n (x0 x) (y0 y) i0 (TP.fibre-in p pos Bo Fo base fibre t times w n y iy)))

  tot-diff : {M : Type 0} (n : ℕ) (g h : ℕ → Ch S M) → add S (tot S n g) (neg S (tot S n h)) ≡ tot S n (λ i. add S (g i) (neg S (h i)))
  unfolding sg
  tot-diff n g h = ap (λ v. add S (tot S n g) v) (sg-tot S 1 n h) ∙ sym (tot-add S n g (λ i. neg S (h i)))

  abbrev pub Two : ℕ → Te → Type 0
  Two m z = z.0 + 2 ≤ m

  summand-all : (i m n : ℕ) (x : K) (y : J) → i + 2 ≤ m → All S (Two m) (summand n x y i)
  summand-all i m n x y l = elim (two (tc (cut i n x y))) as (λ v. All S (Two m) (summand n x y i)) [
    | inl v ↦ subst (All S (Two m)) (sym (kept-true p pos tc (cut i n x y) v)) (all-eta S (Two m) (cut i n x y) l)
    | inr v ↦ subst (All S (Two m)) (sym (kept-false p pos tc (cut i n x y) v)) (all-o S (Two m))
  ]

  module _ (alone : (a b : J) → Fo.set.In 0 a → Fo.set.In 0 b → a ≡ b) where
    module _ (n : ℕ) (x : K) (y : J) (ix : Bo.set.In (suc n) x) (iy : Fo.set.In (suc n) y) (e : has_degeneracy Bo.set 0 x ≡ false) where
      abbrev m : ℕ
      m = dim (suc n, x, y)

      abbrev left_of : ℕ → ℕ → Bool
      left_of i j = has_degeneracy Bo.set j (cut_front Bo.set base.simplicial i (n - i) (x0 x))

      -- where the front is no degeneracy, x moves at the places up to i
      moves-at : (i : ℕ) → i ≤ n → some_below i (left_of i) ≡ false → (j : ℕ) → j < suc i → has_degeneracy Bo.set j x ≡ false
      moves-at i l h zero b = e
      moves-at i l h (suc j) b =
          not-true-false (has_degeneracy Bo.set (suc j) x) (λ v.
          true≢false (sym (front-has Bo.set base.simplicial i (n - i) n j (x0 x) (omega (arith, l)) (TP.base-in p pos Bo Fo base fibre t times w n x ix) (omega (arith, b))
          (low-has Bo.set base.simplicial n 0 j x ix (omega arith) (omega (arith, b, l)) v)) ∙ none-below i (left_of i) h j (omega (arith, b))))

      abbrev difference : ℕ → Ch S Te
      difference i = add S (summand n (x0 x) (y1 x y) i) (neg S (summand n (x0 x) (y0 y) i))

      dim-count : m ≡ count (suc n) (λ j. has_degeneracy Bo.set j x)
      dim-count = TP.moves-count p pos Bo Fo base fibre t times w (suc n) x

      -- the two parts cancel, or both are 0
      cancels : (i : ℕ) → i ≤ n → m < i + 2 → difference i ≡ o S
      cancels i l b = elim (two (some_below i (left_of i))) as (λ v. difference i ≡ o S) [
        | inl v ↦
            let r = found-below i (left_of i) v in
            ap (λ z. add S z (neg S (summand n (x0 x) (y0 y) i))) (summand-left i r.0 n (x0 x) (y1 x y) r.1 r.2)
            ∙ ap (λ z. add S (o S) (neg S z)) (summand-left i r.0 n (x0 x) (y0 y) r.1 r.2)
            ∙ inverse S (o S)
        | inr v ↦
            let h = moves-at i l v in
            let least = count-least (suc n) (suc i) (λ j. has_degeneracy Bo.set j x) (omega (arith, l)) h in
            let full = count-full (suc n) (suc i) (λ j. has_degeneracy Bo.set j x) (omega (arith, l)) h (omega (arith, b, dim-count)) in
            let same : tail i (y1 x y) ≡ tail i (y0 y)
            = late-same p Bo Fo base fibre t times w alone i n (n - i) x (y0 y) (omega (arith, l)) ix (TP.fibre-in p pos Bo Fo base fibre t times w n y iy) full in
            ap (λ z. add S (kept_key p pos tc (i, cut_front Bo.set base.simplicial i (n - i) (x0 x), n - i, z)) (neg S (summand n (x0 x) (y0 y) i))) same
            ∙ inverse S (summand n (x0 x) (y0 y) i)
      ]

      difference-all : (i : ℕ) → i < suc n → All S (Two m) (difference i)
      difference-all i l = elim (order (i + 2) m) as (λ v. All S (Two m) (difference i)) [
        | inl v ↦ all-add S (Two m) (summand n (x0 x) (y1 x y) i) (neg S (summand n (x0 x) (y0 y) i)) (summand-all i m n (x0 x) (y1 x y) v)
            (all-neg S (Two m) (summand n (x0 x) (y0 y) i) (summand-all i m n (x0 x) (y0 y) v))
        | inr v ↦ subst (All S (Two m)) (sym (cancels i (omega (arith, l)) v)) (all-o S (Two m))
      ]

      all-moving : All S (Two m) (val p pos (after f q (suc n, x, y)))
      all-moving =
          subst (All S (Two m))
          (sym (aw-q n x y ix iy
          ∙ ap (λ v. add S v (neg S (val p pos (f (n, x0 x, y0 y))))) (aw-val n (x0 x) (y1 x y))
          ∙ ap (λ v. add S (tot S (suc n) (summand n (x0 x) (y1 x y))) (neg S v)) (aw-val n (x0 x) (y0 y))
          ∙ tot-diff (suc n) (summand n (x0 x) (y1 x y)) (summand n (x0 x) (y0 y))))
          (all-tot S (suc n) (Two m) difference difference-all)

    -- on every pair
    pub aw-q-low : (n : ℕ) (s : Pair K J) → s.0 ≡ suc n → Is s → All S (Two (dim s)) (val p pos (after f q s))
    aw-q-low n (zero, x, y) e i = absurd (omega (arith, e))
    aw-q-low n (suc k, x, y) e i = elim (two (has_degeneracy Bo.set 0 x)) as (λ v. All S (Two (dim (suc k, x, y))) (val p pos (after f q (suc k, x, y)))) [
      | inl v ↦ subst (All S (Two (dim (suc k, x, y))))
          (sym (val-extend p pos f (q (suc k, x, y)) ∙ ap (lin S (λ z. val p pos (f z))) (TP.q-degenerate p pos Bo Fo base fibre t times w k x y i.0 i.1 v) ∙ lin-o S (λ z. val p pos (f z))))
          (all-o S (Two (dim (suc k, x, y))))
      | inr v ↦ all-moving k x y i.0 i.1 v
    ]
