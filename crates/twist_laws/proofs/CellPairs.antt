-- The cells of a product and of a twisted product are the pairs, and their differential is that of the pairs and the twist.
use Rattle.std.proofs.Common.{◌≡◌, ℕ, zero, suc, ◌-◌, ◌*◌, ◌%◌, ◌<◌, ◌≤◌, [], ◌∷◌, ◌++◌, Bool, true, false, not, ◌&&◌, cond, refl, sym, ◌∙◌, ap, subst, arith, true≢false}
use Rattle.std.specs.Prelude.{map}
use Rattle.fp_field.specs.Field.{sign}
use Rattle.fp_field.specs.Chains.{Terms, extend, keep, faces_sum, coeff, Each}
use Rattle.fp_field.specs.Reduction.{SameTerms, Complex, IsGraded, IsComplex, IsSameComplex, one}
use Rattle.spaces.specs.Simplicial.{Simplicial, IsSimplicial, has_degeneracy, is_degenerate, some_below}
use Rattle.spaces.specs.Orders.{Ordered}
use Rattle.spaces.specs.Products.{product_set, twisted_set, IsTwisting}
use Rattle.spaces.specs.EilenbergZilber.{Linear, linear, Pair, is_pair_cell, pair_order, pair_d, first_faces}
use Rattle.spaces.proofs.Products.{product_set_laws}
use Rattle.spaces.proofs.Twisted.{twisted_laws}
use Rattle.values.specs.Twists.{twisted, untwisted}
use Rattle.ez_laws.specs.Sides.{IsLeft, IsRight, on_keys}
use Rattle.ez_laws.specs.Complexes.{IsPair}
use Rattle.ez_laws.proofs.Functionals.{Coefficients, Ch}
use Rattle.ez_laws.proofs.ChainLaws.{o, add, neg, eta, lin, assoc, lcomm, unit, inverse, lin-add, lin-id, lin-lin, lin-o, lin-on}
use Rattle.ez_laws.proofs.Values.{field, val, same-val, all-val, val-append, val-one, val-nil, val-extend, lin-keys}
use Rattle.ez_laws.proofs.Joined.{same-terms}
use Rattle.ez_laws.proofs.PairKeys.{not_true}
use Rattle.ez_laws.proofs.PairOrders.{same-is, is-same, tells-equivalence, pairs-apart}
use Rattle.ez_laws.proofs.PairKeys as PK
use Rattle.ez_laws.proofs.Eaches.{each-so, each-keys}
use Rattle.fp_field.proofs.Weights.{Each-append}
use Rattle.ez_laws.proofs.SimplicialSides.{both_ways, as_left, has-of}
use Rattle.homology_laws.proofs.CellChains.{cells_of, cells-same, cells-graded, cells-complex}
use Rattle.twist_laws.specs.TwistedComplexes.{as_cell, as_pair, on_pairs, twisted_complex}
use Rattle.twist_laws.proofs.Supports.{kept_key, val-keep, val-terms}
use Rattle.twist_laws.proofs.Places.{some-same}
use Rattle.twist_laws.proofs.TwistedPairs as TP

pub not-false-is : (b : Bool) → b ≡ false → not b ≡ true
not-false-is b e = ap not e

-- terms kept by one test, then renamed, are the renamed ones kept by another
kept-renamed : {K J I : Type 0} (h : K → J) (g : J → I) (test : K → Bool) (kept : I → Bool) (c : Terms K) → Each (λ k. test k ≡ kept (g (h k))) c
    → on_keys g (map (λ t. (h t.0, t.1)) (keep test c)) ≡ keep kept (on_keys (λ k. g (h k)) c)
kept-renamed h g test kept [] e = refl
kept-renamed h g test kept (t ∷ c) e = at (test t.0) (kept (g (h t.0))) e.0 (kept-renamed h g test kept c e.1)
  where
    at : (a b : Bool) → a ≡ b → on_keys g (map (λ t. (h t.0, t.1)) (keep test c)) ≡ keep kept (on_keys (λ k. g (h k)) c)
        → on_keys g (map (λ t. (h t.0, t.1)) (cond a (t ∷ keep test c) (keep test c))) ≡ cond b ((g (h t.0), t.1) ∷ keep kept (on_keys (λ k. g (h k)) c)) (keep kept (on_keys (λ k. g (h k)) c))
    at true true q r = ap (λ x. (g (h t.0), t.1) ∷ x) r
    at true false q r = absurd (true≢false q)
    at false true q r = absurd (true≢false (sym q))
    at false false q r = r

module _ (p : ℕ) (pos : 0 < p) {K J : Type 0} (Bo : Ordered K) (Fo : Ordered J) (base : IsRight Bo) (fibre : IsRight Fo) where
  abbrev S : Coefficients
  S = field p pos

  abbrev L : Linear K
  L = linear Bo

  abbrev left : IsLeft p (linear Bo) Bo.set.In
  left = as_left p pos Bo base

  abbrev is_cell : Pair K J → Bool
  is_cell s = is_pair_cell p L Fo s

  -- what is asked of the simplicial set on the pairs
  pub record IsOnPairs (X : Simplicial (K × J)) (q : Pair K J → Terms (Pair K J)) : Type 0 where
    pub laws : IsSimplicial X
    pub there : (n : ℕ) (z : K × J) → X.In n z → Bo.set.In n z.0 × Fo.set.In n z.1
    pub back : (n : ℕ) (z : K × J) → Bo.set.In n z.0 → Fo.set.In n z.1 → X.In n z
    pub degenerate : (n : ℕ) (z : K × J) → X.In n z → is_degenerate X n z ≡ some_below n (λ j. has_degeneracy Bo.set j z.0 && has_degeneracy Fo.set j z.1)
    pub d : (n : ℕ) (z : K × J) → X.In (suc n) z
        → val p pos (keep is_cell (on_keys (λ y. (n, y.0, y.1)) (faces_sum p X.face (suc (suc n)) z))) ≡ val p pos (pair_d p L Fo (suc n, z.0, z.1) ++ q (suc n, z.0, z.1))
    pub ends : (x : K) (y : J) → q (zero, x, y) ≡ []

  module _ (X : Simplicial (K × J)) (q : Pair K J → Terms (Pair K J)) (on : IsOnPairs X q) where
    abbrev C : Complex (ℕ × (K × J))
    C = cells_of X p

    abbrev P : Complex (Pair K J)
    P = on_pairs C

    abbrev Q : Complex (Pair K J)
    Q = twisted_complex p L Bo.set.In Fo q

    there : (n : ℕ) (s : Pair K J) → P.generator n s → Q.generator n s
    there n (m, x, y) g =
        let i = on.there n (x, y) g.1.0 in
        let e : m ≡ n = g.0 in (
          g.0,
          (
            subst (λ j. Bo.set.In j x) (sym e) i.0,
            subst (λ j. Fo.set.In j y) (sym e) i.1,
            not-false-is (some_below m (λ j. has_degeneracy Bo.set j x && has_degeneracy Fo.set j y))
                (ap (λ m. some_below m (λ j. has_degeneracy Bo.set j x && has_degeneracy Fo.set j y)) e ∙ sym (on.degenerate n (x, y) g.1.0) ∙ g.1.1),
          ),
        )

    back : (n : ℕ) (s : Pair K J) → Q.generator n s → P.generator n s
    back n (m, x, y) g =
        let e : m ≡ n = g.0 in
        let i : X.In n (x, y) = on.back n (x, y) (subst (λ j. Bo.set.In j x) e g.1.0) (subst (λ j. Fo.set.In j y) e g.1.1) in (
          g.0,
          (
            i,
            on.degenerate n (x, y) i ∙ ap (λ m. some_below m (λ j. has_degeneracy Bo.set j x && has_degeneracy Fo.set j y)) (sym e)
                ∙ not_true (some_below m (λ j. has_degeneracy Bo.set j x && has_degeneracy Fo.set j y)) g.1.2,
          ),
        )

    pub graded : IsGraded p C
    graded = cells-graded X on.laws p pos

    same : (s u : Pair K J) → P.same s u ≡ Q.same s u
    same s u =
        both_ways (P.same s u) (Q.same s u)
        (λ h. is-same (pair_order p L Fo) (pairs-apart p L Bo.set.In Fo left fibre) s u (ap as_pair (cells-same X on.laws p pos (as_cell s) (as_cell u) h)))
        (λ h. ap (λ z. P.same s z) (sym (same-is (pair_order p L Fo) (pairs-apart p L Bo.set.In Fo left fibre) s u h)) ∙ graded.equivalence.refl (as_cell s))

    each-face : (m n : ℕ) (z : K × J) → m ≤ suc (suc n) → X.In (suc n) z → Each (λ y. not (is_degenerate X n y) ≡ is_cell (n, y.0, y.1)) (faces_sum p X.face m z)
    each-face zero n z l i = tt
    each-face (suc m) n z l i =
        (ap not (on.degenerate n (X.face m z) (on.laws.face_in n m z i (omega (arith, l)))), each-face m n z (omega (arith, l)) i)

    pub d-val : (s : Pair K J) → P.generator s.0 s → val p pos (P.d s) ≡ val p pos (Q.d s)
    d-val (zero, x, y) g = ap (val p pos) (sym (on.ends x y))
    d-val (suc n, x, y) g =
        ap (val p pos) (kept-renamed (λ (z : K × J). (n, z)) as_pair (λ y. not (is_degenerate X n y)) is_cell (faces_sum p X.face (suc (suc n)) (x, y)) (each-face (suc (suc n)) n (x, y) (omega arith) g.1.0))
        ∙ on.d n (x, y) g.1.0

    d-same : (n : ℕ) (s : Pair K J) → P.generator n s → SameTerms p P.same (P.d s) (Q.d s)
    d-same n s g =
        same-terms p P.same (P.d s) (Q.d s) (same-val p pos (P.d s) (Q.d s) (d-val s (subst (λ m. P.generator m s) (sym g.0) g)))

    -- the cells, on pairs, are the pairs with d + q
    pub same-complex : IsSameComplex p P Q
    same-complex = record { there = there; back = back; same = same; d = d-same }

    -- ---- it is a complex

    val-renamed : (c : Terms (ℕ × (K × J))) → val p pos (on_keys as_pair c) ≡ lin S (λ x. eta S (as_pair x)) (val p pos c)
    val-renamed c = sym (lin-id S (val p pos (on_keys as_pair c))) ∙ lin-keys p pos (eta S) as_pair c

    cells-twice : (s : Pair K J) → P.generator s.0 s → val p pos (extend P.d (P.d s)) ≡ o S
    cells-twice s g =
        let c : Terms (ℕ × (K × J)) = C.d (as_cell s) in
        val-extend p pos P.d (P.d s)
        ∙ lin-keys p pos (λ z. val p pos (P.d z)) as_pair c
        ∙ ap (λ (T : ℕ × (K × J) → Ch S (Pair K J)). lin S T (val p pos c)) (λ j x. val-renamed (C.d x) j)
        ∙ sym (lin-lin S (λ x. val p pos (C.d x)) (λ x. eta S (as_pair x)) (val p pos c))
        ∙ ap (lin S (λ x. eta S (as_pair x)))
        (sym (val-extend p pos C.d c)
        ∙ val-terms p pos C.same graded.equivalence (cells-same X on.laws p pos) (extend C.d c) [] ((cells-complex X on.laws p pos).twice s.0 (as_cell s) g)
        ∙ val-nil p pos)
        ∙ lin-o S (λ x. eta S (as_pair x))

    d-pairs : (n : ℕ) (s : Pair K J) → Q.generator (suc n) s → Each (Q.generator n) (P.d s)
    d-pairs n s g = each-keys (Q.generator n) as_pair (C.d (as_cell s)) (each-so (C.d (as_cell s)) (λ x u. there n (as_pair x) u) (graded.lowers n (as_cell s) (back (suc n) s g)))

    module _ (q-pairs : (n : ℕ) (s : Pair K J) → s.0 ≡ suc n → IsPair p L Bo.set.In Fo s → Each (λ z. (z.0 ≡ n) × IsPair p L Bo.set.In Fo z) (q s)) where
      q-each : (n : ℕ) (s : Pair K J) → Q.generator (suc n) s → Each (Q.generator n) (Q.d s)
      q-each n s g = Each-append (Q.generator n) (pair_d p L Fo s) (q s) (PK.d-pairs p pos L Bo.set.In Fo left fibre n s g.0 g.1) (q-pairs n s g.0 g.1)

      ends : (s : Pair K J) → s.0 ≡ 0 → Q.d s ≡ []
      ends (zero, x, y) e = on.ends x y
      ends (suc n, x, y) e = absurd (omega (arith, e))

      d-val-at : (n : ℕ) (s : Pair K J) → Q.generator n s → val p pos (P.d s) ≡ val p pos (Q.d s)
      d-val-at n s g = d-val s (subst (λ m. P.generator m s) (sym g.0) (back n s g))

      q-twice : (n : ℕ) (s : Pair K J) → Q.generator n s → SameTerms p Q.same (extend Q.d (Q.d s)) []
      q-twice zero s g = λ k. ap (λ c. coeff Q.same (extend Q.d c) k % p) (ends s g.0)
      q-twice (suc n) s g =
          same-terms p Q.same (extend Q.d (Q.d s)) [] (same-val p pos (extend Q.d (Q.d s)) []
          (val-extend p pos Q.d (Q.d s)
          ∙ lin-on S (Q.generator n) (λ z. val p pos (Q.d z)) (λ z. val p pos (P.d z)) (val p pos (Q.d s)) (all-val p pos (Q.generator n) (Q.d s) (q-each n s g)) (λ z u. sym (d-val-at n z u))
          ∙ ap (lin S (λ z. val p pos (P.d z))) (sym (d-val-at (suc n) s g))
          ∙ sym (val-extend p pos P.d (P.d s))
          ∙ cells-twice s (subst (λ m. P.generator m s) (sym g.0) (back (suc n) s g))
          ∙ sym (val-nil p pos)))

      -- (d + q)(d + q) = 0
      pub twisted-complex : IsComplex p Q
      twisted-complex = record {
        graded = record {
          equivalence = tells-equivalence (pair_order p L Fo) (pairs-apart p L Bo.set.In Fo left fibre);
          lowers = q-each;
          ends = λ s g. ends s g.0;
          respects = λ x y e k. ap (λ z. coeff Q.same (Q.d z) k % p) (same-is (pair_order p L Fo) (pairs-apart p L Bo.set.In Fo left fibre) x y e);
        };
        twice = q-twice;
      }

  -- ---- products

  product-faces : (m n : ℕ) (x : K) (y : J) → on_keys (λ z. (n, z.0, z.1)) (faces_sum p (product_set Bo.set Fo.set).face m (x, y)) ≡ first_faces p L Fo m (suc n, x, y)
  product-faces zero n x y = refl
  product-faces (suc m) n x y =
      λ i. (((let e : n ≡ suc n - 1 = omega arith in e) i, Bo.set.face m x, Fo.set.face m y), (let e : sign p m ≡ sign p m * 1 = omega arith in e) i) ∷ product-faces m n x y i

  append-nil : {M : Type 0} (c : Terms M) → c ≡ c ++ []
  append-nil [] = refl
  append-nil (t ∷ c) = ap (λ x. t ∷ x) (append-nil c)

  pub products-on-pairs : IsOnPairs (product_set Bo.set Fo.set) untwisted
  products-on-pairs = record {
    laws = product_set_laws Bo.set Fo.set base.simplicial fibre.simplicial;
    there = λ n z i. i;
    back = λ n z i k. (i, k);
    degenerate = λ n z i. refl;
    d = λ n z i. ap (λ c. val p pos (keep is_cell c)) (product-faces (suc (suc n)) n z.0 z.1) ∙ ap (val p pos) (append-nil (pair_d p L Fo (suc n, z.0, z.1)));
    ends = λ x y. refl;
  }

  -- ---- twisted products

  module _ (t : K → J) (times : J → J → J) (w : IsTwisting Bo.set Fo.set t times) where
    abbrev pub X : Simplicial (K × J)
    X = twisted_set Bo.set Fo.set t times

    abbrev q : Pair K J → Terms (Pair K J)
    q s = twisted p Bo Fo t times s

    first-place : (n : ℕ) (x : K) (y : J) → Bo.set.In (suc n) x → Fo.set.In (suc n) y
        → has_degeneracy X 0 (x, y) ≡ has_degeneracy Bo.set 0 x && has_degeneracy Fo.set 0 y
    first-place n x y ix iy =
        both_ways (has_degeneracy X 0 (x, y)) (has_degeneracy Bo.set 0 x && has_degeneracy Fo.set 0 y)
        (λ h.
        let b = Rattle.std.proofs.lemmas.Bool.and_parts (has_degeneracy Bo.set 0 x) (Fo.set.same y (Fo.set.degeneracy 0 (TP.twisted_part p pos Bo Fo base fibre t times w x y))) h in
        both_true (has_degeneracy Bo.set 0 x) (has_degeneracy Fo.set 0 y) b.0
        (has-of Fo.set fibre.simplicial n 0 y (TP.twisted_part p pos Bo Fo base fibre t times w x y) (TP.twisted-in p pos Bo Fo base fibre t times w n x y ix iy) (omega arith)
        (fibre.simplicial.same_is y (Fo.set.degeneracy 0 (TP.twisted_part p pos Bo Fo base fibre t times w x y)) b.1)))
        (λ h.
        let b = Rattle.std.proofs.lemmas.Bool.and_parts (has_degeneracy Bo.set 0 x) (has_degeneracy Fo.set 0 y) h in
        both_true (has_degeneracy Bo.set 0 x) (Fo.set.same y (Fo.set.degeneracy 0 (TP.twisted_part p pos Bo Fo base fibre t times w x y))) b.0
        (ap (λ z. Fo.set.same y (Fo.set.degeneracy 0 z)) (TP.no-twist p pos Bo Fo base fibre t times w n x y ix iy b.0) ∙ b.1))
      where
        both_true : (a b : Bool) → a ≡ true → b ≡ true → (a && b) ≡ true
        both_true true b e f = f
        both_true false b e f = absurd (true≢false (sym e))

    places : (n : ℕ) (z : K × J) → X.In n z → (j : ℕ) → j < n → has_degeneracy X j z ≡ has_degeneracy Bo.set j z.0 && has_degeneracy Fo.set j z.1
    places zero z i j l = absurd (omega (arith, l))
    places (suc n) z i zero l = first-place n z.0 z.1 i.0 i.1
    places (suc n) z i (suc j) l = refl

    -- the first face is the twisted one, so it differs from the plain one by q
    twisted-faces : (m n : ℕ) (x : K) (y : J) → val p pos (on_keys (λ z. (n, z.0, z.1)) (faces_sum p X.face (suc m) (x, y)))
        ≡ add S (val p pos (first_faces p L Fo (suc m) (suc n, x, y))) (val p pos (TP.both_terms p pos Bo Fo base fibre t times w n x y))
    twisted-faces zero n x y =
        let a : Pair K J = (n, Bo.set.face 0 x, TP.twisted_part p pos Bo Fo base fibre t times w x y) in
        let b : Pair K J = (n, Bo.set.face 0 x, Fo.set.face 0 y) in
        let e : first_faces p L Fo 1 (suc n, x, y) ≡ one b
        = λ i. (((let e : suc n - 1 ≡ n = omega arith in e) i, Bo.set.face 0 x, Fo.set.face 0 y), (let e : 1 * 1 ≡ 1 = omega arith in e) i) ∷ [] in
        val-one p pos a
        ∙ sym (ap (λ c. add S (val p pos c) (val p pos (TP.both_terms p pos Bo Fo base fibre t times w n x y))) e
        ∙ ap (λ v. add S v (val p pos (TP.both_terms p pos Bo Fo base fibre t times w n x y))) (val-one p pos b)
        ∙ ap (add S (eta S b)) (TP.val-difference p pos a b)
        ∙ lcomm S (eta S b) (eta S a) (neg S (eta S b))
        ∙ ap (add S (eta S a)) (inverse S (eta S b))
        ∙ unit S (eta S a))
    twisted-faces (suc m) n x y =
        let f : Terms (Pair K J) = ((n, Bo.set.face (suc m) x, Fo.set.face (suc m) y), sign p (suc m)) ∷ [] in
        let r : Terms (Pair K J) = on_keys (λ z. (n, z.0, z.1)) (faces_sum p X.face (suc m) (x, y)) in
        let e : f ++ first_faces p L Fo (suc m) (suc n, x, y) ≡ first_faces p L Fo (suc (suc m)) (suc n, x, y)
        = λ i. (((let e : n ≡ suc n - 1 = omega arith in e) i, Bo.set.face (suc m) x, Fo.set.face (suc m) y), (let e : sign p (suc m) ≡ sign p (suc m) * 1 = omega arith in e) i)
        ∷ first_faces p L Fo (suc m) (suc n, x, y) in
        val-append p pos f r
        ∙ ap (add S (val p pos f)) (twisted-faces m n x y)
        ∙ sym (assoc S (val p pos f) (val p pos (first_faces p L Fo (suc m) (suc n, x, y))) (val p pos (TP.both_terms p pos Bo Fo base fibre t times w n x y)))
        ∙ ap (λ v. add S v (val p pos (TP.both_terms p pos Bo Fo base fibre t times w n x y)))
        (sym (val-append p pos f (first_faces p L Fo (suc m) (suc n, x, y))) ∙ ap (val p pos) e)

    twisted-d : (n : ℕ) (z : K × J) → X.In (suc n) z
        → val p pos (keep is_cell (on_keys (λ y. (n, y.0, y.1)) (faces_sum p X.face (suc (suc n)) z))) ≡ val p pos (pair_d p L Fo (suc n, z.0, z.1) ++ q (suc n, z.0, z.1))
    twisted-d n (x, y) i =
        let ff : Terms (Pair K J) = first_faces p L Fo (suc (suc n)) (suc n, x, y) in
        let b : Terms (Pair K J) = TP.both_terms p pos Bo Fo base fibre t times w n x y in
        val-keep p pos is_cell (on_keys (λ y. (n, y.0, y.1)) (faces_sum p X.face (suc (suc n)) (x, y)))
        ∙ ap (lin S (kept_key p pos is_cell)) (twisted-faces (suc n) n x y)
        ∙ lin-add S (kept_key p pos is_cell) (val p pos ff) (val p pos b)
        ∙ sym (val-append p pos (keep is_cell ff) (keep is_cell b)
        ∙ ap (λ v. add S v (val p pos (keep is_cell b))) (val-keep p pos is_cell ff)
        ∙ ap (add S (lin S (kept_key p pos is_cell) (val p pos ff))) (val-keep p pos is_cell b))

    pub twisted-on-pairs : IsOnPairs X q
    twisted-on-pairs = record {
      laws = twisted_laws Bo.set Fo.set base.simplicial fibre.simplicial t times w;
      there = λ n z i. i;
      back = λ n z i k. (i, k);
      degenerate = λ n z i. some-same n (λ j. has_degeneracy X j z) (λ j. has_degeneracy Bo.set j z.0 && has_degeneracy Fo.set j z.1) (places n z i);
      d = twisted-d;
      ends = λ x y. refl;
    }
