-- The transferred difference AW q P EML lowers the left degree by 2 at least: P = 1 - k q P, AW q does so by the summands of
-- Alexander-Whitney, and in AW q k q P the twist comes twice (Shih 1962).
use Rattle.std.proofs.Common.{◌≡◌, ℕ, zero, suc, ◌+◌, ◌%◌, ◌<◌, ◌≤◌, [], ◌∷◌, ◌++◌, Bool, true, false, refl, sym, ◌∙◌, ap, subst, arith}
use Rattle.fp_field.specs.Chains.{Terms, scale, extend, coeff, Each}
use Rattle.fp_field.specs.Reduction.{Respects, one, after}
use Rattle.fp_field.proofs.Weights.{Each-extend}
use Rattle.spaces.specs.Simplicial.{has_degeneracy}
use Rattle.spaces.specs.Orders.{Ordered}
use Rattle.spaces.specs.Products.{IsTwisting}
use Rattle.spaces.specs.EilenbergZilber.{Linear, linear, Pair, Tensor, pair_order, tensor_order, same_pair, eml}
use Rattle.ez_laws.specs.Sides.{IsLeft, IsRight}
use Rattle.ez_laws.specs.Complexes.{IsTensor, tensor_complex, same_tensor}
use Rattle.ez_laws.proofs.Functionals.{Coefficients, Ch}
use Rattle.ez_laws.proofs.ChainLaws.{add, neg, eta, lin, All, assoc, unit, inverse, lin-lin, lin-eta, lin-add, lin-neg, all-eta, all-add, all-neg, all-lin, all-mono}
use Rattle.ez_laws.proofs.Values.{field, val, all-val, val-append, val-one, val-extend}
use Rattle.ez_laws.proofs.Eaches.{each-so, each-and}
use Rattle.ez_laws.proofs.SimplicialSides.{as_left}
use Rattle.ez_laws.proofs.PairOrders.{same-is, tells-equivalence, pairs-apart, tensors-apart}
use Rattle.ez_laws.proofs.LeftDims.{keeps-left}
use Rattle.ez_laws.proofs.TensorKeys.{aw-tensors}
use Rattle.ez_laws.proofs.ShuffleKeys.{eml-pairs}
use Rattle.twist_laws.specs.LeftDegrees.{Pairs, Tensors, IsSeriesOf, transferred, LowersByTwo}
use Rattle.twist_laws.proofs.Supports.{below, below-is, is-below, val-terms, amounts}
use Rattle.twist_laws.proofs.Places.{count, misses}
use Rattle.twist_laws.proofs.TwistedPairs as TP
use Rattle.twist_laws.proofs.Cuts.{aw-q-low}

-- at most all places are counted
count-most : (n : ℕ) (f : ℕ → Bool) → count n f ≤ n
count-most zero f = omega arith
count-most (suc n) f = let r = count-most n f in let b = most (f n) in omega (arith, r, b)
  where
    most : (b : Bool) → misses b ≤ 1
    most true = omega arith
    most false = omega arith

-- a map that is [] on each term
pub extend-nil : {K J : Type 0} (f : K → Terms J) (c : Terms K) → Each (λ k. f k ≡ []) c → extend f c ≡ []
extend-nil f [] h = refl
extend-nil f (t ∷ c) h = ap (λ e. scale t.1 e ++ extend f c) h.0 ∙ extend-nil f c h.1

module _ (p : ℕ) (pos : 0 < p) {K J : Type 0} (Bo : Ordered K) (Fo : Ordered J) (base : IsRight Bo) (fibre : IsRight Fo)
    (t : K → J) (times : J → J → J) (w : IsTwisting Bo.set Fo.set t times) (alone : (a b : J) → Fo.set.In 0 a → Fo.set.In 0 b → a ≡ b) where
  abbrev S : Coefficients
  S = field p pos

  abbrev L : Linear K
  L = linear Bo

  abbrev left : IsLeft p (linear Bo) Bo.set.In
  left = as_left p pos Bo base

  abbrev Te : Type 0
  Te = Tensor K J

  abbrev dim : Pair K J → ℕ
  dim s = TP.dim p pos Bo Fo base fibre t times w s

  abbrev q : Pair K J → Terms (Pair K J)
  q s = TP.q p pos Bo Fo base fibre t times w s

  abbrev k : Pair K J → Terms (Pair K J)
  k s = TP.k p pos Bo Fo base fibre t times w s

  abbrev f : Pair K J → Terms Te
  f s = Rattle.spaces.specs.EilenbergZilber.aw p L Fo s

  abbrev g : Te → Terms (Pair K J)
  g z = eml p L Fo z

  -- pairs of degree n, of left dimension at most m
  abbrev Ps : ℕ → Pair K J → Type 0
  Ps n s = Pairs p L Bo.set.In Fo n s

  abbrev Low : ℕ → ℕ → Pair K J → Type 0
  Low n m s = Ps n s × (dim s ≤ m)

  abbrev Two : ℕ → Te → Type 0
  Two m z = z.0 + 2 ≤ m

  -- the maps on chains
  abbrev vq : Pair K J → Ch S (Pair K J)
  vq s = val p pos (q s)

  abbrev vk : Pair K J → Ch S (Pair K J)
  vk s = val p pos (k s)

  abbrev vf : Pair K J → Ch S Te
  vf s = val p pos (f s)

  abbrev kq : Ch S (Pair K J) → Ch S (Pair K J)
  kq c = lin S vk (lin S vq c)

  dim-most : (s : Pair K J) → dim s ≤ s.0
  dim-most s = let a = TP.moves-count p pos Bo Fo base fibre t times w s.0 s.1 in let b = count-most s.0 (λ j. has_degeneracy Bo.set j s.1) in omega (arith, a, b)

  -- k q lowers the left dimension by 1 at least
  kq-low : (n m : ℕ) (c : Ch S (Pair K J)) → All S (Low (suc n) (suc m)) c → All S (Low (suc n) m) (kq c)
  kq-low n m c h =
      subst (All S (Low (suc n) m)) (sym (lin-lin S vq vk c))
      (all-lin S (Low (suc n) (suc m)) (Low (suc n) m) (λ s. lin S vk (vq s)) c h
      (λ s u. subst (All S (Low (suc n) m)) (val-extend p pos k (q s))
      (all-mono S (TP.Below p pos Bo Fo base fibre t times w (suc n) s) (Low (suc n) m) (val p pos (after k q s)) (TP.kq-lower p pos Bo Fo base fibre t times w n s u.0.0 u.0.1)
      (λ z v. (v.0, omega (arith, v.1, u.1))))))

  kq-zero : (n : ℕ) (c : Ch S (Pair K J)) → All S (Low (suc n) 0) c → All S (λ s. ⊥) (kq c)
  kq-zero n c h =
      subst (All S (λ s. ⊥)) (sym (lin-lin S vq vk c))
      (all-lin S (Low (suc n) 0) (λ s. ⊥) (λ s. lin S vk (vq s)) c h
      (λ s u. subst (All S (λ s. ⊥)) (val-extend p pos k (q s))
      (all-mono S (TP.Below p pos Bo Fo base fibre t times w (suc n) s) (λ s. ⊥) (val p pos (after k q s)) (TP.kq-lower p pos Bo Fo base fibre t times w n s u.0.0 u.0.1)
      (λ z v. omega (arith, v.1, u.1)))))

  -- AW does not raise it, so after two twists it has fallen by 2
  q-f-low : (n m : ℕ) (c : Ch S (Pair K J)) → All S (λ s. Ps (suc n) s × (suc (dim s) ≤ m)) c → All S (Two m) (lin S vf (lin S vq c))
  q-f-low n m c h =
      all-lin S (λ s. Ps n s × (dim s + 2 ≤ m)) (Two m) vf (lin S vq c)
      (all-lin S (λ s. Ps (suc n) s × (suc (dim s) ≤ m)) (λ s. Ps n s × (dim s + 2 ≤ m)) vq c h
      (λ s u. all-mono S (TP.Below p pos Bo Fo base fibre t times w n s) (λ z. Ps n z × (dim z + 2 ≤ m)) (vq s) (TP.q-lower p pos Bo Fo base fibre t times w n s u.0.0 u.0.1)
      (λ z v. (v.0, omega (arith, v.1, u.1)))))
      (λ s u. all-val p pos (Two m) (f s) (each-so (f s) (λ z v. omega (arith, v, u.1)) ((keeps-left p pos L Bo.set.In Fo left fibre).aw_keeps s u.0.1)))

  module _ (P : Pair K J → Terms (Pair K J)) (is : IsSeriesOf p L Bo.set.In Fo q P) where
    abbrev r : Te → Terms Te
    r z = transferred p L Bo.set.In Fo q P z

    -- P = 1 - k q P
    series-at : (n : ℕ) (s : Pair K J) → Ps n s → val p pos (P s) ≡ add S (eta S s) (neg S (kq (val p pos (P s))))
    series-at n s i =
        let c : Ch S (Pair K J) = val p pos (P s) in
        let e : add S c (kq c) ≡ eta S s
        = sym (val-append p pos (P s) (after k (after q P) s)
        ∙ ap (add S c) (val-extend p pos k (after q P s) ∙ ap (lin S vk) (val-extend p pos q (P s))))
        ∙ val-terms p pos (same_pair p L Fo) (tells-equivalence (pair_order p L Fo) (pairs-apart p L Bo.set.In Fo left fibre))
        (same-is (pair_order p L Fo) (pairs-apart p L Bo.set.In Fo left fibre)) (P s ++ after k (after q P) s) (one s) (is.sums n s i)
        ∙ val-one p pos s in
        sym (ap (λ v. add S v (neg S (kq c))) (sym e) ∙ assoc S c (kq c) (neg S (kq c)) ∙ ap (add S c) (inverse S (kq c)) ∙ unit S c)

    -- it does not raise the left dimension
    descends : (m n : ℕ) (s : Pair K J) → Ps (suc n) s → All S (Low (suc n) (dim s + m)) (val p pos (P s)) → All S (Low (suc n) (dim s)) (val p pos (P s))
    descends zero n s i h = all-mono S (Low (suc n) (dim s + 0)) (Low (suc n) (dim s)) (val p pos (P s)) h (λ z u. (u.0, omega (arith, u.1)))
    descends (suc m) n s i h =
        descends m n s i
        (subst (All S (Low (suc n) (dim s + m))) (sym (series-at (suc n) s i))
        (all-add S (Low (suc n) (dim s + m)) (eta S s) (neg S (kq (val p pos (P s)))) (all-eta S (Low (suc n) (dim s + m)) s (i, omega arith))
        (all-neg S (Low (suc n) (dim s + m)) (kq (val p pos (P s)))
        (kq-low n (dim s + m) (val p pos (P s)) (all-mono S (Low (suc n) (dim s + suc m)) (Low (suc n) (suc (dim s + m))) (val p pos (P s)) h (λ z u. (u.0, omega (arith, u.1))))))))

    P-low : (n : ℕ) (s : Pair K J) → Ps (suc n) s → All S (Low (suc n) (dim s)) (val p pos (P s))
    P-low n s i =
        descends (suc n) n s i
        (all-val p pos (Low (suc n) (dim s + suc n)) (P s) (each-so (P s) (λ z u. (u, (let d = dim-most z in omega (arith, d, u.0)))) (is.keeps (suc n) s i)))

    -- k q P lowers it
    kqP-low : (n : ℕ) (s : Pair K J) → Ps (suc n) s → All S (λ z. Ps (suc n) z × (suc (dim z) ≤ dim s)) (kq (val p pos (P s)))
    kqP-low n s i = at (dim s) refl
      where
        at : (m : ℕ) → dim s ≡ m → All S (λ z. Ps (suc n) z × (suc (dim z) ≤ dim s)) (kq (val p pos (P s)))
        at zero e =
            all-mono S (λ z. ⊥) (λ z. Ps (suc n) z × (suc (dim z) ≤ dim s)) (kq (val p pos (P s)))
            (kq-zero n (val p pos (P s)) (subst (λ m. All S (Low (suc n) m) (val p pos (P s))) e (P-low n s i))) (λ z u. absurd u)
        at (suc m) e =
            all-mono S (Low (suc n) m) (λ z. Ps (suc n) z × (suc (dim z) ≤ dim s)) (kq (val p pos (P s)))
            (kq-low n m (val p pos (P s)) (subst (λ m. All S (Low (suc n) m) (val p pos (P s))) e (P-low n s i))) (λ z u. (u.0, omega (arith, u.1, e)))

    -- AW q P on one pair
    pair-low : (n : ℕ) (s : Pair K J) → Ps (suc n) s → All S (Two (dim s)) (lin S vf (lin S vq (val p pos (P s))))
    pair-low n s i =
        let c : Ch S (Pair K J) = kq (val p pos (P s)) in
        subst (All S (Two (dim s)))
        (sym (ap (λ v. lin S vf (lin S vq v)) (series-at (suc n) s i)
        ∙ ap (lin S vf) (lin-add S vq (eta S s) (neg S c))
        ∙ lin-add S vf (lin S vq (eta S s)) (lin S vq (neg S c))
        ∙ ap (λ v. add S v (lin S vf (lin S vq (neg S c)))) (ap (lin S vf) (lin-eta S vq s))
        ∙ ap (add S (lin S vf (vq s))) (ap (lin S vf) (lin-neg S vq c) ∙ lin-neg S vf (lin S vq c))))
        (all-add S (Two (dim s)) (lin S vf (vq s)) (neg S (lin S vf (lin S vq c)))
        (subst (All S (Two (dim s))) (val-extend p pos f (q s)) (aw-q-low p pos Bo Fo base fibre t times w alone n s i.0 i.1))
        (all-neg S (Two (dim s)) (lin S vf (lin S vq c)) (q-f-low n (dim s) c (kqP-low n s i))))

    Shuffled : Te → Pair K J → Type 0
    Shuffled z s = Ps (z.0 + z.2) s × (dim s ≤ z.0)

    eml-each : (z : Te) → IsTensor p L Bo.set.In Fo z → Each (λ s. Ps (z.0 + z.2) s × (dim s ≤ z.0)) (g z)
    eml-each z i = each-and (λ s. Ps (z.0 + z.2) s) (λ s. dim s ≤ z.0) (g z) (eml-pairs p pos L Bo.set.In Fo left fibre z i) ((keeps-left p pos L Bo.set.In Fo left fibre).eml_keeps z i)

    r-low : (n : ℕ) (z : Te) → Tensors p L Bo.set.In Fo (suc n) z → All S (Two z.0) (val p pos (r z))
    r-low n z i =
        subst (All S (Two z.0))
        (sym (val-extend p pos f (after q (after P g) z)
        ∙ ap (lin S vf) (val-extend p pos q (after P g z) ∙ ap (lin S vq) (val-extend p pos P (g z)) ∙ lin-lin S (λ s. val p pos (P s)) vq (val p pos (g z)))
        ∙ lin-lin S (λ s. lin S vq (val p pos (P s))) vf (val p pos (g z))))
        (all-lin S (λ s. Ps (z.0 + z.2) s × (dim s ≤ z.0)) (Two z.0) (λ s. lin S vf (lin S vq (val p pos (P s)))) (val p pos (g z))
        (all-val p pos (λ s. Ps (z.0 + z.2) s × (dim s ≤ z.0)) (g z) (eml-each z i.1))
        (λ s u. all-mono S (Two (dim s)) (Two z.0) (lin S vf (lin S vq (val p pos (P s)))) (pair-low n s (u.0.0 ∙ i.0, u.0.1)) (λ x v. omega (arith, v, u.1))))

    Pg-each : (z : Te) → IsTensor p L Bo.set.In Fo z → Each (Ps (z.0 + z.2)) (after P g z)
    Pg-each z i = Each-extend (Ps (z.0 + z.2)) (λ s. Ps (z.0 + z.2) s × (dim s ≤ z.0)) P (λ s u. is.keeps (z.0 + z.2) s u.0) (g z) (eml-each z i)

    r-each : (n : ℕ) (z : Te) → Tensors p L Bo.set.In Fo (suc n) z → Each (Tensors p L Bo.set.In Fo n) (r z)
    r-each n z i =
        Each-extend (Tensors p L Bo.set.In Fo n) (Ps n) f (λ s u. each-so (f s) (λ x v. (v.0 ∙ u.0, v.1)) (aw-tensors p pos L Bo.set.In Fo left fibre s u.1))
        (after q (after P g) z)
        (Each-extend (Ps n) (Ps (z.0 + z.2)) q (λ s u. TP.q-pairs p pos Bo Fo base fibre t times w n s (u.0 ∙ i.0) u.1) (after P g z) (Pg-each z i.1))

    r-ends : (z : Te) → Tensors p L Bo.set.In Fo zero z → r z ≡ []
    r-ends z i =
        ap (extend f) (extend-nil q (after P g z) (each-so (after P g z) (λ s u. TP.q-ends p pos Bo Fo base fibre t times w s (u.0 ∙ i.0)) (Pg-each z i.1)))

    r-respects : Respects p (tensor_complex p L Bo.set.In Fo) (tensor_complex p L Bo.set.In Fo) r
    r-respects x y e j =
        ap (λ z. coeff (same_tensor p L Bo.set.In Fo) (r z) j % p) (same-is (tensor_order p L Fo) (tensors-apart p L Bo.set.In Fo left fibre) x y e)

    pub lowers-by-two : LowersByTwo p L Bo.set.In Fo r
    lowers-by-two = record {
      lowers = r-each;
      ends = r-ends;
      respects = r-respects;
      falls = λ n z i.
          amounts p pos (same_tensor p L Bo.set.In Fo) (Tensors p L Bo.set.In Fo n) (λ x. Tensors p L Bo.set.In Fo n x × Two z.0 x) (λ x. below (suc x.0) z.0) (r z) (r-each n z i)
          (all-mono S (Two z.0) (λ x. below (suc x.0) z.0 ≡ true) (val p pos (r z)) (r-low n z i) (λ x u. is-below (suc x.0) z.0 (omega (arith, u))))
          (λ x u v. (u, (let b = below-is (suc x.0) z.0 v in omega (arith, b))));
    }
