-- The twist of a twisted product on pairs: its terms, and that it lowers the left dimension.
use Rattle.std.proofs.Common.{◌≡◌, ℕ, zero, suc, ◌+◌, ◌-◌, ◌*◌, ◌<◌, ◌≤◌, [], ◌∷◌, true, false, inl, inr, refl, sym, ◌∙◌, ap, subst, arith}
use Rattle.fp_field.specs.Chains.{Terms, extend, keep, Each}
use Rattle.fp_field.specs.Reduction.{Respects, one, after}
use Rattle.fp_field.proofs.Weights.{Each-extend}
use Rattle.spaces.specs.Simplicial.{has_degeneracy}
use Rattle.spaces.specs.Orders.{Ordered}
use Rattle.spaces.specs.Products.{IsTwisting}
use Rattle.spaces.specs.EilenbergZilber.{Linear, linear, Pair, is_pair_cell, same_pair, pair_order, flow}
use Rattle.values.specs.Twists.{twisted}
use Rattle.ez_laws.specs.Sides.{IsLeft, IsRight}
use Rattle.ez_laws.specs.Complexes.{IsPair, pair_complex}
use Rattle.ez_laws.specs.FlowEquations.{moves, left_dim}
use Rattle.ez_laws.proofs.Matches.{two}
use Rattle.ez_laws.proofs.Functionals.{Coefficients}
use Rattle.ez_laws.proofs.ChainLaws.{o, add, neg, eta, lin, All, inverse, lin-o, all-o, all-lin, all-mono}
use Rattle.ez_laws.proofs.Values.{field, val, all-val, val-append, val-one, val-neg, val-extend}
use Rattle.ez_laws.proofs.Eaches.{each-so, each-and, each-keep}
use Rattle.ez_laws.proofs.SimplicialSides.{as_left, over-of}
use Rattle.ez_laws.proofs.PairOrders.{same-is, pairs-apart}
use Rattle.ez_laws.proofs.LeftDims.{keeps-left}
use Rattle.ez_laws.proofs.FlowKeys.{flow-pairs}
use Rattle.twist_laws.specs.LeftDegrees.{AmountsTo, Pairs, Lower, LowersLeft}
use Rattle.twist_laws.proofs.Supports.{below, below-is, is-below, kept_key, val-keep, amounts}
use Rattle.twist_laws.proofs.Places.{count, misses, count-front, count-so, low-has}

module _ (p : ℕ) (pos : 0 < p) where
  -- a difference of two keys
  pub val-difference : {K : Type 0} (a b : K) → val p pos ((a, 1) ∷ ((b, p - 1) ∷ [])) ≡ add (field p pos) (eta (field p pos) a) (neg (field p pos) (eta (field p pos) b))
  val-difference a b =
      val-append p pos (one a) ((b, p - 1) ∷ [])
      ∙ ap (λ v. add (field p pos) v (val p pos ((b, p - 1) ∷ []))) (val-one p pos a)
      ∙ ap (add (field p pos) (eta (field p pos) a))
      (ap (λ n. val p pos ((b, n) ∷ [])) (let q : p - 1 ≡ (p - 1) * 1 = omega arith in q) ∙ val-neg p pos (one b) ∙ ap (neg (field p pos)) (val-one p pos b))

module _ (p : ℕ) (pos : 0 < p) {K J : Type 0} (Bo : Ordered K) (Fo : Ordered J) (base : IsRight Bo) (fibre : IsRight Fo)
    (t : K → J) (times : J → J → J) (w : IsTwisting Bo.set Fo.set t times) where
  abbrev S : Coefficients
  S = field p pos

  abbrev pub L : Linear K
  L = linear Bo

  abbrev pub left : IsLeft p (linear Bo) Bo.set.In
  left = as_left p pos Bo base

  abbrev pub Is : Pair K J → Type 0
  Is s = IsPair p L Bo.set.In Fo s

  abbrev pub dim : Pair K J → ℕ
  dim s = left_dim p L Bo.set.In Fo s

  abbrev pub q : Pair K J → Terms (Pair K J)
  q s = twisted p Bo Fo t times s

  -- the fibre part of the twisted and of the plain first face
  abbrev pub twisted_part : K → J → J
  twisted_part x y = times (t x) (Fo.set.face 0 y)

  abbrev pub both_terms : ℕ → K → J → Terms (Pair K J)
  both_terms n x y = ((n, Bo.set.face 0 x, twisted_part x y), 1) ∷ (((n, Bo.set.face 0 x, Fo.set.face 0 y), p - 1) ∷ [])

  pub base-in : (n : ℕ) (x : K) → Bo.set.In (suc n) x → Bo.set.In n (Bo.set.face 0 x)
  base-in n x is = base.simplicial.face_in n 0 x is (omega arith)

  pub fibre-in : (n : ℕ) (y : J) → Fo.set.In (suc n) y → Fo.set.In n (Fo.set.face 0 y)
  fibre-in n y is = fibre.simplicial.face_in n 0 y is (omega arith)

  pub twisted-in : (n : ℕ) (x : K) (y : J) → Bo.set.In (suc n) x → Fo.set.In (suc n) y → Fo.set.In n (twisted_part x y)
  twisted-in n x y ix iy = w.times_in n (t x) (Fo.set.face 0 y) (w.t_in n x ix) (fibre-in n y iy)

  -- t(x) is a unit where x is an s_0
  pub no-twist : (n : ℕ) (x : K) (y : J) → Bo.set.In (suc n) x → Fo.set.In (suc n) y → has_degeneracy Bo.set 0 x ≡ true → twisted_part x y ≡ Fo.set.face 0 y
  no-twist n x y ix iy e =
      ap (λ z. times (t z) (Fo.set.face 0 y)) (sym (over-of Bo.set base.simplicial 0 x e))
      ∙ w.unit n (Bo.set.face 0 x) (Fo.set.face 0 y) (base-in n x ix) (fibre-in n y iy)

  pub q-pairs : (n : ℕ) (s : Pair K J) → s.0 ≡ suc n → Is s → Each (λ z. (z.0 ≡ n) × Is z) (q s)
  q-pairs n (zero, x, y) e i = absurd (omega (arith, e))
  q-pairs n (suc m, x, y) e i =
      let l : m ≡ n = omega (arith, e) in
      each-so (q (suc m, x, y)) (λ z u. (u.0.0, (u.0.1.0, u.0.1.1, u.1)))
      (each-keep (λ z. (z.0 ≡ n) × (Bo.set.In z.0 z.1 × Fo.set.In z.0 z.2)) (is_pair_cell p L Fo) (both_terms m x y)
      ((l, (base-in m x i.0, twisted-in m x y i.0 i.1)), ((l, (base-in m x i.0, fibre-in m y i.1)), tt)))

  pub q-ends : (s : Pair K J) → s.0 ≡ 0 → q s ≡ []
  q-ends (zero, x, y) e = refl
  q-ends (suc n, x, y) e = absurd (omega (arith, e))

  pub q-respects : Respects p (pair_complex p L Bo.set.In Fo) (pair_complex p L Bo.set.In Fo) q
  q-respects x y e k =
      ap (λ z. Rattle.std.specs.Prelude.◌%◌ (Rattle.fp_field.specs.Chains.coeff (same_pair p L Fo) (q z) k) p)
      (same-is (pair_order p L Fo) (pairs-apart p L Bo.set.In Fo left fibre) x y e)

  -- the two parts of q, cells or not
  pub val-q : (n : ℕ) (x : K) (y : J) → val p pos (q (suc n, x, y))
      ≡ lin S (kept_key p pos (is_pair_cell p L Fo)) (add S (eta S (n, Bo.set.face 0 x, twisted_part x y)) (neg S (eta S (n, Bo.set.face 0 x, Fo.set.face 0 y))))
  val-q n x y =
      val-keep p pos (is_pair_cell p L Fo) (both_terms n x y)
      ∙ ap (lin S (kept_key p pos (is_pair_cell p L Fo))) (val-difference p pos (n, Bo.set.face 0 x, twisted_part x y) (n, Bo.set.face 0 x, Fo.set.face 0 y))

  pub q-degenerate : (n : ℕ) (x : K) (y : J) → Bo.set.In (suc n) x → Fo.set.In (suc n) y → has_degeneracy Bo.set 0 x ≡ true → val p pos (q (suc n, x, y)) ≡ o S
  q-degenerate n x y ix iy e =
      val-q n x y
      ∙ ap (λ z. lin S (kept_key p pos (is_pair_cell p L Fo)) (add S (eta S (n, Bo.set.face 0 x, z)) (neg S (eta S (n, Bo.set.face 0 x, Fo.set.face 0 y))))) (no-twist n x y ix iy e)
      ∙ ap (lin S (kept_key p pos (is_pair_cell p L Fo))) (inverse S (eta S (n, Bo.set.face 0 x, Fo.set.face 0 y)))
      ∙ lin-o S (kept_key p pos (is_pair_cell p L Fo))

  -- ---- the left dimension

  pub moves-count : (n : ℕ) (x : K) → moves p L Bo.set.In Fo n x ≡ count n (λ j. has_degeneracy Bo.set j x)
  moves-count zero x = refl
  moves-count (suc n) x = ap (λ m. m + misses (has_degeneracy Bo.set n x)) (moves-count n x)

  pub first-lower : (n : ℕ) (x : K) → Bo.set.In (suc n) x → has_degeneracy Bo.set 0 x ≡ false → moves p L Bo.set.In Fo n (Bo.set.face 0 x) < moves p L Bo.set.In Fo (suc n) x
  first-lower n x ix e =
      let a = moves-count n (Bo.set.face 0 x) in
      let b = moves-count (suc n) x ∙ count-front n (λ j. has_degeneracy Bo.set j x) in
      let c = count-so n (λ j. has_degeneracy Bo.set (suc j) x) (λ j. has_degeneracy Bo.set j (Bo.set.face 0 x))
      (λ j l h. low-has Bo.set base.simplicial n 0 j x ix (omega arith) l h) in
      let d : misses (has_degeneracy Bo.set 0 x) ≡ 1 = ap misses e in
      omega (arith, a, b, c, d)

  abbrev pub Below : ℕ → Pair K J → Pair K J → Type 0
  Below n s z = Lower p L Bo.set.In Fo n s z

  pub q-lower : (n : ℕ) (s : Pair K J) → s.0 ≡ suc n → Is s → All S (Below n s) (val p pos (q s))
  q-lower n (zero, x, y) e i = absurd (omega (arith, e))
  q-lower n (suc m, x, y) e i = elim (two (has_degeneracy Bo.set 0 x)) as (λ v. All S (Below n (suc m, x, y)) (val p pos (q (suc m, x, y)))) [
    | inl v ↦ subst (All S (Below n (suc m, x, y))) (sym (q-degenerate m x y i.0 i.1 v)) (all-o S (Below n (suc m, x, y)))
    | inr v ↦ all-val p pos (Below n (suc m, x, y)) (q (suc m, x, y))
        (each-so (q (suc m, x, y)) (λ z u. (u.0, u.1.0))
        (each-and (λ z. (z.0 ≡ n) × Is z) (λ z. (dim z < dim (suc m, x, y)) × Rattle.std.specs.Prelude.◌≡◌ (is_pair_cell p L Fo z) true) (q (suc m, x, y))
        (q-pairs n (suc m, x, y) e i)
        (each-keep (λ z. dim z < dim (suc m, x, y)) (is_pair_cell p L Fo) (both_terms m x y) (first-lower m x i.0 v, (first-lower m x i.0 v, tt)))))
  ]

  pub amounts-lower : (n : ℕ) (s : Pair K J) (c : Terms (Pair K J)) → Each (λ z. (z.0 ≡ n) × Is z) c → All S (Below n s) (val p pos c)
      → AmountsTo p (same_pair p L Fo) (Below n s) c
  amounts-lower n s c e h =
      amounts p pos (same_pair p L Fo) (λ z. (z.0 ≡ n) × Is z) (Below n s) (λ z. below (dim z) (dim s)) c e
      (all-mono S (Below n s) (λ z. below (dim z) (dim s) ≡ true) (val p pos c) h (λ z u. is-below (dim z) (dim s) u.1))
      (λ z u v. (u, below-is (dim z) (dim s) v))

  -- ---- with the flow

  abbrev pub k : Pair K J → Terms (Pair K J)
  k s = flow p L Fo s

  abbrev pub Raised : Pair K J → Pair K J → Type 0
  Raised s z = ((z.0 ≡ suc s.0) × Is z) × (dim z ≤ dim s)

  pub k-raised : (s : Pair K J) → Is s → Each (Raised s) (k s)
  k-raised s i =
      each-and (λ z. (z.0 ≡ suc s.0) × Is z) (λ z. dim z ≤ dim s) (k s) (flow-pairs p pos L Bo.set.In Fo left fibre s i)
      ((keeps-left p pos L Bo.set.In Fo left fibre).flow_keeps s i)

  pub qk-lower : (s : Pair K J) → Is s → All S (Below s.0 s) (val p pos (after q k s))
  qk-lower s i =
      subst (All S (Below s.0 s)) (sym (val-extend p pos q (k s)))
      (all-lin S (Raised s) (Below s.0 s) (λ z. val p pos (q z)) (val p pos (k s)) (all-val p pos (Raised s) (k s) (k-raised s i))
      (λ z u. all-mono S (Below s.0 z) (Below s.0 s) (val p pos (q z)) (q-lower s.0 z u.0.0 u.0.1) (λ v h. (h.0, omega (arith, h.1, u.1)))))

  pub qk-pairs : (s : Pair K J) → Is s → Each (λ z. (z.0 ≡ s.0) × Is z) (after q k s)
  qk-pairs s i = Each-extend (λ z. (z.0 ≡ s.0) × Is z) (Raised s) q (λ z u. q-pairs s.0 z u.0.0 u.0.1) (k s) (k-raised s i)

  pub kq-lower : (n : ℕ) (s : Pair K J) → s.0 ≡ suc n → Is s → All S (Below (suc n) s) (val p pos (after k q s))
  kq-lower n s e i =
      subst (All S (Below (suc n) s)) (sym (val-extend p pos k (q s)))
      (all-lin S (Below n s) (Below (suc n) s) (λ z. val p pos (k z)) (val p pos (q s)) (q-lower n s e i)
      (λ z u. all-val p pos (Below (suc n) s) (k z) (each-so (k z) (λ v h. ((h.0.0 ∙ ap suc u.0.0, h.0.1), omega (arith, h.1, u.1))) (k-raised z u.0.1))))

  pub kq-pairs : (n : ℕ) (s : Pair K J) → s.0 ≡ suc n → Is s → Each (λ z. (z.0 ≡ suc n) × Is z) (after k q s)
  kq-pairs n s e i =
      Each-extend (λ z. (z.0 ≡ suc n) × Is z) (λ z. (z.0 ≡ n) × Is z) k (λ z u. each-so (k z) (λ v h. (h.0.0 ∙ ap suc u.0, h.0.1)) (k-raised z u.1)) (q s) (q-pairs n s e i)

  kq-ends : (s : Pair K J) → s.0 ≡ 0 → after k q s ≡ []
  kq-ends s e = ap (extend k) (q-ends s e)

  kq-falls : (n : ℕ) (s : Pair K J) → Pairs p L Bo.set.In Fo n s → AmountsTo p (same_pair p L Fo) (Below n s) (after k q s)
  kq-falls zero s i = ([], λ j. ap (λ c. Rattle.std.specs.Prelude.◌%◌ (Rattle.fp_field.specs.Chains.coeff (same_pair p L Fo) c j) p) (kq-ends s i.0), tt)
  kq-falls (suc n) s i = amounts-lower (suc n) s (after k q s) (kq-pairs n s i.0 i.1) (kq-lower n s i.0 i.1)

  qk-falls : (n : ℕ) (s : Pair K J) → Pairs p L Bo.set.In Fo n s → AmountsTo p (same_pair p L Fo) (Below n s) (after q k s)
  qk-falls n s i = subst (λ m. AmountsTo p (same_pair p L Fo) (Below m s) (after q k s)) i.0 (amounts-lower s.0 s (after q k s) (qk-pairs s i.1) (qk-lower s i.1))

  pub lowers-left : LowersLeft p L Bo.set.In Fo q
  lowers-left = record {
    lowers = λ n s i. q-pairs n s i.0 i.1;
    ends = λ s i. q-ends s i.0;
    respects = q-respects;
    falls = λ n s i. amounts-lower n s (q s) (q-pairs n s i.0 i.1) (q-lower n s i.0 i.1);
    after_flow = qk-falls;
    before_flow = kq-falls;
  }
