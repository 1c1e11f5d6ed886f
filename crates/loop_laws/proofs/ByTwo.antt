-- The transferred difference AW q P EML lowers the left degree by 2 at least, for any twist q that lowers the left dimension and for which
-- AW q does so by 2: P = 1 - k q P, and in AW q k q P the twist comes twice (Shih 1962).
use Rattle.std.proofs.Common.{◌≡◌, ℕ, zero, suc, ◌+◌, ◌%◌, ◌<◌, ◌≤◌, [], ◌++◌, Bool, true, false, refl, sym, ◌∙◌, ap, subst, arith}
use Rattle.fp_field.specs.Chains.{Terms, extend, coeff, Each}
use Rattle.fp_field.specs.Reduction.{Respects, one, after}
use Rattle.fp_field.proofs.Weights.{Each-extend}
use Rattle.spaces.specs.Orders.{Ordered}
use Rattle.spaces.specs.EilenbergZilber.{Linear, Pair, Tensor, pair_order, tensor_order, same_pair, aw, eml, flow}
use Rattle.ez_laws.specs.Sides.{IsLeft, IsRight}
use Rattle.ez_laws.specs.Complexes.{IsTensor, tensor_complex, same_tensor}
use Rattle.ez_laws.specs.FlowEquations.{moves, left_dim}
use Rattle.ez_laws.proofs.Functionals.{Coefficients, Ch}
use Rattle.ez_laws.proofs.ChainLaws.{add, neg, eta, lin, All, assoc, unit, inverse, lin-lin, lin-eta, lin-add, lin-neg, all-eta, all-add, all-neg, all-lin, all-mono}
use Rattle.ez_laws.proofs.Values.{field, val, all-val, val-append, val-one, val-extend}
use Rattle.ez_laws.proofs.Eaches.{each-so, each-and}
use Rattle.ez_laws.proofs.PairOrders.{same-is, tells-equivalence, pairs-apart, tensors-apart}
use Rattle.ez_laws.proofs.LeftDims.{keeps-left}
use Rattle.ez_laws.proofs.TensorKeys.{aw-tensors}
use Rattle.ez_laws.proofs.ShuffleKeys.{eml-pairs}
use Rattle.twist_laws.specs.LeftDegrees.{AmountsTo, Pairs, Tensors, Lower, LowersLeft, IsSeriesOf, transferred, LowersByTwo}
use Rattle.twist_laws.proofs.Supports.{below, below-is, is-below, val-terms, amounts}
use Rattle.twist_laws.proofs.Places.{misses}
use Rattle.twist_laws.proofs.Transferred.{extend-nil}

misses-most : (b : Bool) → misses b ≤ 1
misses-most true = omega arith
misses-most false = omega arith

module _ (p : ℕ) (pos : 0 < p) {K J : Type 0} (L : Linear K) (In : ℕ → K → Type 0) (R : Ordered J) (left : IsLeft p L In) (right : IsRight R) where
  abbrev S : Coefficients
  S = field p pos

  abbrev TwoParts : Type 0
  TwoParts = Pair K J

  abbrev dimension : TwoParts → ℕ
  dimension s = left_dim p L In R s

  abbrev f : TwoParts → Terms (Tensor K J)
  f s = aw p L R s

  abbrev g : Tensor K J → Terms TwoParts
  g z = eml p L R z

  abbrev k : TwoParts → Terms TwoParts
  k s = flow p L R s

  -- pairs of degree n, and those of left dimension at most m
  abbrev PairOf : ℕ → TwoParts → Type 0
  PairOf n s = Pairs p L In R n s

  abbrev Low : ℕ → ℕ → TwoParts → Type 0
  Low n m s = PairOf n s × (dimension s ≤ m)

  abbrev Lowered : ℕ → ℕ → TwoParts → Type 0
  Lowered n m s = PairOf n s × (suc (dimension s) ≤ m)

  -- tensors of left degree at most m - 2
  abbrev pub LowTensor : ℕ → Tensor K J → Type 0
  LowTensor m z = z.0 + 2 ≤ m

  moves-most : (n : ℕ) (x : K) → moves p L In R n x ≤ n
  moves-most zero x = omega arith
  moves-most (suc n) x = let r = moves-most n x in let b = misses-most (L.has_degeneracy n x) in omega (arith, r, b)

  -- a chain that amounts to one with a property has it
  amounted : (P : TwoParts → Type 0) (c : Terms TwoParts) → AmountsTo p (same_pair p L R) P c → All S P (val p pos c)
  amounted P c h =
      subst (All S P)
      (sym (val-terms p pos (same_pair p L R) (tells-equivalence (pair_order p L R) (pairs-apart p L In R left right))
      (same-is (pair_order p L R) (pairs-apart p L In R left right)) c h.0 h.1))
      (all-val p pos P h.0 h.2)

  module _ (q : TwoParts → Terms TwoParts) (lowers : LowersLeft p L In R q)
      (aw-low : (n : ℕ) (s : TwoParts) → PairOf (suc n) s → All S (LowTensor (dimension s)) (val p pos (after f q s))) where
    abbrev vq : TwoParts → Ch S TwoParts
    vq s = val p pos (q s)

    abbrev vk : TwoParts → Ch S TwoParts
    vk s = val p pos (k s)

    abbrev vf : TwoParts → Ch S (Tensor K J)
    vf s = val p pos (f s)

    abbrev kq : Ch S TwoParts → Ch S TwoParts
    kq c = lin S vk (lin S vq c)

    kq-below : (n : ℕ) (s : TwoParts) → PairOf (suc n) s → All S (Lower p L In R (suc n) s) (lin S vk (vq s))
    kq-below n s i =
        subst (All S (Lower p L In R (suc n) s)) (val-extend p pos k (q s))
        (amounted (Lower p L In R (suc n) s) (after k q s) (lowers.before_flow (suc n) s i))

    -- k q lowers the left dimension by 1 at least, and is 0 where it is 0
    kq-low : (n m : ℕ) (c : Ch S TwoParts) → All S (Low (suc n) (suc m)) c → All S (Low (suc n) m) (kq c)
    kq-low n m c h =
        subst (All S (Low (suc n) m)) (sym (lin-lin S vq vk c))
        (all-lin S (Low (suc n) (suc m)) (Low (suc n) m) (λ s. lin S vk (vq s)) c h
        (λ s u. all-mono S (Lower p L In R (suc n) s) (Low (suc n) m) (lin S vk (vq s)) (kq-below n s u.0) (λ z v. (v.0, omega (arith, v.1, u.1)))))

    kq-zero : (n : ℕ) (c : Ch S TwoParts) → All S (Low (suc n) 0) c → All S (λ s. ⊥) (kq c)
    kq-zero n c h =
        subst (All S (λ s. ⊥)) (sym (lin-lin S vq vk c))
        (all-lin S (Low (suc n) 0) (λ s. ⊥) (λ s. lin S vk (vq s)) c h
        (λ s u. all-mono S (Lower p L In R (suc n) s) (λ s. ⊥) (lin S vk (vq s)) (kq-below n s u.0) (λ z v. omega (arith, v.1, u.1))))

    -- AW does not raise it, so after two twists it has fallen by 2
    twice-low : (n m : ℕ) (c : Ch S TwoParts) → All S (Lowered (suc n) m) c → All S (LowTensor m) (lin S vf (lin S vq c))
    twice-low n m c h =
        all-lin S (λ s. PairOf n s × (dimension s + 2 ≤ m)) (LowTensor m) vf (lin S vq c)
        (all-lin S (Lowered (suc n) m) (λ s. PairOf n s × (dimension s + 2 ≤ m)) vq c h
        (λ s u. all-mono S (Lower p L In R n s) (λ z. PairOf n z × (dimension z + 2 ≤ m)) (vq s)
        (amounted (Lower p L In R n s) (q s) (lowers.falls n s u.0)) (λ z v. (v.0, omega (arith, v.1, u.1)))))
        (λ s u. all-val p pos (LowTensor m) (f s)
        (each-so (f s) (λ z v. omega (arith, v, u.1)) ((keeps-left p pos L In R left right).aw_keeps s u.0.1)))

    module _ (P : TwoParts → Terms TwoParts) (is : IsSeriesOf p L In R q P) where
      abbrev r : Tensor K J → Terms (Tensor K J)
      r z = transferred p L In R q P z

      abbrev vP : TwoParts → Ch S TwoParts
      vP s = val p pos (P s)

      -- P = 1 - k q P
      series-at : (n : ℕ) (s : TwoParts) → PairOf n s → vP s ≡ add S (eta S s) (neg S (kq (vP s)))
      series-at n s i =
          let c : Ch S TwoParts = vP s in
          let e : add S c (kq c) ≡ eta S s
          = sym (val-append p pos (P s) (after k (after q P) s)
          ∙ ap (add S c) (val-extend p pos k (after q P s) ∙ ap (lin S vk) (val-extend p pos q (P s))))
          ∙ val-terms p pos (same_pair p L R) (tells-equivalence (pair_order p L R) (pairs-apart p L In R left right))
          (same-is (pair_order p L R) (pairs-apart p L In R left right)) (P s ++ after k (after q P) s) (one s) (is.sums n s i)
          ∙ val-one p pos s in
          sym (ap (λ v. add S v (neg S (kq c))) (sym e) ∙ assoc S c (kq c) (neg S (kq c)) ∙ ap (add S c) (inverse S (kq c)) ∙ unit S c)

      -- it does not raise the left dimension
      descends : (m n : ℕ) (s : TwoParts) → PairOf (suc n) s → All S (Low (suc n) (dimension s + m)) (vP s) → All S (Low (suc n) (dimension s)) (vP s)
      descends zero n s i h = all-mono S (Low (suc n) (dimension s + 0)) (Low (suc n) (dimension s)) (vP s) h (λ z u. (u.0, omega (arith, u.1)))
      descends (suc m) n s i h =
          let Q : TwoParts → Type 0 = Low (suc n) (dimension s + m) in
          descends m n s i
          (subst (All S Q) (sym (series-at (suc n) s i))
          (all-add S Q (eta S s) (neg S (kq (vP s))) (all-eta S Q s (i, omega arith))
          (all-neg S Q (kq (vP s))
          (kq-low n (dimension s + m) (vP s)
          (all-mono S (Low (suc n) (dimension s + suc m)) (Low (suc n) (suc (dimension s + m))) (vP s) h (λ z u. (u.0, omega (arith, u.1))))))))

      P-low : (n : ℕ) (s : TwoParts) → PairOf (suc n) s → All S (Low (suc n) (dimension s)) (vP s)
      P-low n s i =
          descends (suc n) n s i
          (all-val p pos (Low (suc n) (dimension s + suc n)) (P s)
          (each-so (P s) (λ z u. (u, (let e = moves-most z.0 z.1 in omega (arith, e, u.0)))) (is.keeps (suc n) s i)))

      -- k q P lowers it
      kqP-low : (n : ℕ) (s : TwoParts) → PairOf (suc n) s → All S (Lowered (suc n) (dimension s)) (kq (vP s))
      kqP-low n s i = at (dimension s) refl
        where
          at : (m : ℕ) → dimension s ≡ m → All S (Lowered (suc n) (dimension s)) (kq (vP s))
          at zero e =
              all-mono S (λ z. ⊥) (Lowered (suc n) (dimension s)) (kq (vP s))
              (kq-zero n (vP s) (subst (λ m. All S (Low (suc n) m) (vP s)) e (P-low n s i))) (λ z u. absurd u)
          at (suc m) e =
              all-mono S (Low (suc n) m) (Lowered (suc n) (dimension s)) (kq (vP s))
              (kq-low n m (vP s) (subst (λ m. All S (Low (suc n) m) (vP s)) e (P-low n s i))) (λ z u. (u.0, omega (arith, u.1, e)))

      -- AW q P on one pair
      pair-low : (n : ℕ) (s : TwoParts) → PairOf (suc n) s → All S (LowTensor (dimension s)) (lin S vf (lin S vq (vP s)))
      pair-low n s i =
          let c : Ch S TwoParts = kq (vP s) in
          subst (All S (LowTensor (dimension s)))
          (sym (ap (λ v. lin S vf (lin S vq v)) (series-at (suc n) s i)
          ∙ ap (lin S vf) (lin-add S vq (eta S s) (neg S c))
          ∙ lin-add S vf (lin S vq (eta S s)) (lin S vq (neg S c))
          ∙ ap (λ v. add S v (lin S vf (lin S vq (neg S c)))) (ap (lin S vf) (lin-eta S vq s))
          ∙ ap (add S (lin S vf (vq s))) (ap (lin S vf) (lin-neg S vq c) ∙ lin-neg S vf (lin S vq c))))
          (all-add S (LowTensor (dimension s)) (lin S vf (vq s)) (neg S (lin S vf (lin S vq c)))
          (subst (All S (LowTensor (dimension s))) (val-extend p pos f (q s)) (aw-low n s i))
          (all-neg S (LowTensor (dimension s)) (lin S vf (lin S vq c)) (twice-low n (dimension s) c (kqP-low n s i))))

      -- the pairs of a tensor
      eml-each : (z : Tensor K J) → IsTensor p L In R z → Each (Low (z.0 + z.2) z.0) (g z)
      eml-each z i =
          each-and (PairOf (z.0 + z.2)) (λ s. dimension s ≤ z.0) (g z) (eml-pairs p pos L In R left right z i)
          ((keeps-left p pos L In R left right).eml_keeps z i)

      r-low : (n : ℕ) (z : Tensor K J) → Tensors p L In R (suc n) z → All S (LowTensor z.0) (val p pos (r z))
      r-low n z i =
          subst (All S (LowTensor z.0))
          (sym (val-extend p pos f (after q (after P g) z)
          ∙ ap (lin S vf) (val-extend p pos q (after P g z) ∙ ap (lin S vq) (val-extend p pos P (g z)) ∙ lin-lin S vP vq (val p pos (g z)))
          ∙ lin-lin S (λ s. lin S vq (vP s)) vf (val p pos (g z))))
          (all-lin S (Low (z.0 + z.2) z.0) (LowTensor z.0) (λ s. lin S vf (lin S vq (vP s))) (val p pos (g z))
          (all-val p pos (Low (z.0 + z.2) z.0) (g z) (eml-each z i.1))
          (λ s u. all-mono S (LowTensor (dimension s)) (LowTensor z.0) (lin S vf (lin S vq (vP s)))
          (pair-low n s (u.0.0 ∙ i.0, u.0.1)) (λ x v. omega (arith, v, u.1))))

      -- ---- its degree

      Pg-each : (z : Tensor K J) → IsTensor p L In R z → Each (PairOf (z.0 + z.2)) (after P g z)
      Pg-each z i = Each-extend (PairOf (z.0 + z.2)) (Low (z.0 + z.2) z.0) P (λ s u. is.keeps (z.0 + z.2) s u.0) (g z) (eml-each z i)

      r-each : (n : ℕ) (z : Tensor K J) → Tensors p L In R (suc n) z → Each (Tensors p L In R n) (r z)
      r-each n z i =
          Each-extend (Tensors p L In R n) (PairOf n) f
          (λ s u. each-so (f s) (λ x v. (v.0 ∙ u.0, v.1)) (aw-tensors p pos L In R left right s u.1)) (after q (after P g) z)
          (Each-extend (PairOf n) (PairOf (z.0 + z.2)) q (λ s u. lowers.lowers n s (u.0 ∙ i.0, u.1)) (after P g z) (Pg-each z i.1))

      r-ends : (z : Tensor K J) → Tensors p L In R zero z → r z ≡ []
      r-ends z i =
          ap (extend f) (extend-nil q (after P g z) (each-so (after P g z) (λ s u. lowers.ends s (u.0 ∙ i.0, u.1)) (Pg-each z i.1)))

      r-respects : Respects p (tensor_complex p L In R) (tensor_complex p L In R) r
      r-respects x y e j =
          ap (λ z. coeff (same_tensor p L In R) (r z) j % p) (same-is (tensor_order p L R) (tensors-apart p L In R left right) x y e)

      pub lowers-by-two : LowersByTwo p L In R r
      lowers-by-two = record {
        lowers = r-each;
        ends = r-ends;
        respects = r-respects;
        falls = λ n z i.
            amounts p pos (same_tensor p L In R) (Tensors p L In R n) (λ x. Tensors p L In R n x × LowTensor z.0 x) (λ x. below (suc x.0) z.0) (r z)
            (r-each n z i)
            (all-mono S (LowTensor z.0) (λ x. below (suc x.0) z.0 ≡ true) (val p pos (r z)) (r-low n z i)
            (λ x u. is-below (suc x.0) z.0 (omega (arith, u))))
            (λ x u v. (u, (let b = below-is (suc x.0) z.0 v in omega (arith, b))));
      }
