-- The maps of Eilenberg and Zilber are a reduction of the complex of pairs to the tensor complex.
use Rattle.std.proofs.Common.{◌≡◌, ℕ, zero, suc, ◌+◌, ◌%◌, ◌<◌, [], ◌++◌, Bool, true, cond, inl, inr, refl, sym, ◌∙◌, ap, subst, arith}
use Rattle.fp_field.specs.Chains.{Terms, extend, Each}
use Rattle.fp_field.specs.Reduction.{one, SameTerms, IsGraded, IsComplex, HasDegrees, HasEquations, IsReduction}
use Rattle.fp_field.proofs.Weights.{Each-append, Each-extend}
use Rattle.spaces.specs.Orders.{Ordered}
use Rattle.spaces.specs.EilenbergZilber.{Linear, Pair, Tensor, pair_order, tensor_order, same_pair, pair_d, moved, aw, eml, flow}
use Rattle.ez_laws.specs.Weights.{SameWeights}
use Rattle.ez_laws.specs.Sides.{IsLeft, IsRight}
use Rattle.ez_laws.specs.Complexes.{IsPair, IsTensor, pair_complex, tensor_complex, tensor_d, same_tensor, eilenberg_zilber}
use Rattle.ez_laws.proofs.Matches.{src}
use Rattle.ez_laws.proofs.WordRanks.{ev}
use Rattle.ez_laws.proofs.Functionals.{Coefficients, Ch}
use Rattle.ez_laws.proofs.ChainLaws.{add, eta, lin, sg, sg-o, lin-sg, lin-eta, lin-lin, lin-on}
use Rattle.ez_laws.proofs.PairFaces.{LeftSystem, RightSystem, K as Key, Ok, up}
use Rattle.ez_laws.proofs.PairComplex as PC
use Rattle.ez_laws.proofs.EilenbergMacLane.{AW-up}
use Rattle.ez_laws.proofs.AbstractReduction.{Reduction, ez}
use Rattle.ez_laws.proofs.Flow as Fl
use Rattle.ez_laws.proofs.Values.{field, val, all-val, lin-append, lin-nil, lin-one, lin-extend}
use Rattle.ez_laws.proofs.Eaches.{each-so}
use Rattle.ez_laws.proofs.LeftSystems.{left_system, cases}
use Rattle.ez_laws.proofs.SimplicialSides.{right_system}
use Rattle.ez_laws.proofs.PairKeys as PK
use Rattle.ez_laws.proofs.TensorKeys as TK
use Rattle.ez_laws.proofs.ShuffleKeys as SK
use Rattle.ez_laws.proofs.FlowKeys as FK
use Rattle.ez_laws.proofs.PairOrders.{tells-equivalence, same-is, pairs-apart, tensors-apart}

-- the same weights are the same numbers
pub same-terms : {K : Type 0} (p : ℕ) (same : K → K → Bool) (c d : Terms K) → SameWeights p c d → SameTerms p same c d
same-terms p same c d h k = h (λ x. cond (same x k) 1 0)

module _ (p : ℕ) (pos : 0 < p) {K J X Y : Type 0} (P : K → Type 0) (T : K → Ch (field p pos) X) (key : K → X) (keyed : (s : K) → P s → T s ≡ eta (field p pos) (key s))
    (U : J → Ch (field p pos) Y) (f : K → Terms J) (F : X → Ch (field p pos) Y) (mapped : (s : K) → P s → lin (field p pos) U (val p pos (f s)) ≡ F (key s)) where
  -- a map that is known on keys is known on chains
  pub on-chains : (c : Terms K) → Each P c → lin (field p pos) U (val p pos (extend f c)) ≡ lin (field p pos) F (lin (field p pos) T (val p pos c))
  on-chains c h =
      lin-extend p pos U f c
      ∙ lin-on (field p pos) P (λ s. lin (field p pos) U (val p pos (f s))) (λ s. lin (field p pos) F (T s)) (val p pos c) (all-val p pos P c h)
      (λ s i. mapped s i ∙ sym (ap (lin (field p pos) F) (keyed s i) ∙ lin-eta (field p pos) F (key s)))
      ∙ sym (lin-lin (field p pos) T F (val p pos c))

module _ (p : ℕ) (pos : 0 < p) {K J : Type 0} (L : Linear K) (In : ℕ → K → Type 0) (R : Ordered J) (left : IsLeft p L In) (right : IsRight R) where
  abbrev S : Coefficients
  S = field p pos

  abbrev A : LeftSystem S
  A = left_system p pos L In left

  abbrev B : RightSystem
  B = right_system p pos R right

  abbrev KK : Type 0
  KK = Key S A B

  abbrev Te : Type 0
  Te = A.X × B.X

  abbrev E : Reduction S KK Te
  E = ez S A B

  abbrev Is : Pair K J → Type 0
  Is s = IsPair p L In R s

  abbrev IsT : Tensor K J → Type 0
  IsT z = IsTensor p L In R z

  abbrev key : Pair K J → KK
  key s = PK.key p pos L In R left right s

  abbrev keys : Pair K J → Ch S KK
  keys s = PK.keys p pos L In R left right s

  abbrev tkey : Tensor K J → Te
  tkey z = TK.tkey p pos L In R left right z

  abbrev tkeys : Tensor K J → Ch S Te
  tkeys z = TK.tkeys p pos L In R left right z

  abbrev d : Pair K J → Terms (Pair K J)
  d s = pair_d p L R s

  abbrev b : Tensor K J → Terms (Tensor K J)
  b z = tensor_d p L In R z

  abbrev f : Pair K J → Terms (Tensor K J)
  f s = aw p L R s

  abbrev g : Tensor K J → Terms (Pair K J)
  g z = eml p L R z

  abbrev h : Pair K J → Terms (Pair K J)
  h s = flow p L R s

  -- ---- degrees

  d-each : (s : Pair K J) → Is s → Each Is (d s)
  d-each (zero, x, y) i = tt
  d-each (suc n, x, y) i = each-so (d (suc n, x, y)) (λ t u. u.1) (PK.d-pairs p pos L In R left right n (suc n, x, y) refl i)

  b-each : (z : Tensor K J) → IsT z → Each IsT (b z)
  b-each z i = elim (cases (z.0 + z.2)) as (λ v. Each IsT (b z)) [
    | inl e ↦ subst (Each IsT) (sym (TK.d-ends p pos L In R left right z e)) tt
    | inr e ↦ each-so (b z) (λ t u. u.1) (TK.d-tensors p pos L In R left right e.0 z e.1 i)
  ]

  f-each : (s : Pair K J) → Is s → Each IsT (f s)
  f-each s i = each-so (f s) (λ t u. u.1) (TK.aw-tensors p pos L In R left right s i)

  g-each : (z : Tensor K J) → IsT z → Each Is (g z)
  g-each z i = each-so (g z) (λ t u. u.1) (SK.eml-pairs p pos L In R left right z i)

  h-each : (s : Pair K J) → Is s → Each Is (h s)
  h-each s i = each-so (h s) (λ t u. u.1) (FK.flow-pairs p pos L In R left right s i)

  -- ---- the maps on chains, by their keys

  keyed : (s : Pair K J) → Is s → keys s ≡ eta S (key s)
  keyed s i = PK.keys-key p pos L In R left right s i

  tkeyed : (z : Tensor K J) → IsT z → tkeys z ≡ eta S (tkey z)
  tkeyed z i = TK.tkeys-key p pos L In R left right z i

  d-chain : (c : Terms (Pair K J)) → Each Is c → lin S keys (val p pos (extend d c)) ≡ lin S E.d (lin S keys (val p pos c))
  d-chain = on-chains p pos Is keys key keyed keys d E.d (λ s i. PK.d-keys p pos L In R left right s i)

  f-chain : (c : Terms (Pair K J)) → Each Is c → lin S tkeys (val p pos (extend f c)) ≡ lin S E.f (lin S keys (val p pos c))
  f-chain = on-chains p pos Is keys key keyed tkeys f E.f (λ s i. TK.aw-keys p pos L In R left right s i)

  h-chain : (c : Terms (Pair K J)) → Each Is c → lin S keys (val p pos (extend h c)) ≡ lin S E.h (lin S keys (val p pos c))
  h-chain = on-chains p pos Is keys key keyed keys h E.h (λ s i. FK.flow-keys p pos L In R left right s i)

  b-chain : (c : Terms (Tensor K J)) → Each IsT c → lin S tkeys (val p pos (extend b c)) ≡ lin S E.b (lin S tkeys (val p pos c))
  b-chain = on-chains p pos IsT tkeys tkey tkeyed tkeys b E.b (λ z i. TK.d-tkeys p pos L In R left right z i)

  g-chain : (c : Terms (Tensor K J)) → Each IsT c → lin S keys (val p pos (extend g c)) ≡ lin S E.g (lin S tkeys (val p pos c))
  g-chain = on-chains p pos IsT tkeys tkey tkeyed keys g E.g (λ z i. SK.eml-keys p pos L In R left right z i)

  -- two maps after one another
  dk : (s : Pair K J) → Is s → lin S keys (val p pos (d s)) ≡ E.d (key s)
  dk s i = PK.d-keys p pos L In R left right s i

  fk : (s : Pair K J) → Is s → lin S tkeys (val p pos (f s)) ≡ E.f (key s)
  fk s i = TK.aw-keys p pos L In R left right s i

  hk : (s : Pair K J) → Is s → lin S keys (val p pos (h s)) ≡ E.h (key s)
  hk s i = FK.flow-keys p pos L In R left right s i

  bk : (z : Tensor K J) → IsT z → lin S tkeys (val p pos (b z)) ≡ E.b (tkey z)
  bk z i = TK.d-tkeys p pos L In R left right z i

  gk : (z : Tensor K J) → IsT z → lin S keys (val p pos (g z)) ≡ E.g (tkey z)
  gk z i = SK.eml-keys p pos L In R left right z i

  ok : (s : Pair K J) → Is s → Ok S A B (key s)
  ok s i = PK.key-ok p pos L In R left right s i

  tok : (z : Tensor K J) → IsT z → A.Is (tkey z).0 × B.Is (tkey z).1
  tok z i = TK.tkey-ok p pos L In R left right z i

  pairs : (c e : Terms (Pair K J)) → Each Is c → Each Is e → lin S keys (val p pos c) ≡ lin S keys (val p pos e) → SameTerms p (same_pair p L R) c e
  pairs c e u v q = same-terms p (same_pair p L R) c e (PK.pairs-same p pos L In R left right c e u v q)

  tensors : (c e : Terms (Tensor K J)) → Each IsT c → Each IsT e → lin S tkeys (val p pos c) ≡ lin S tkeys (val p pos e) → SameTerms p (same_tensor p L In R) c e
  tensors c e u v q = same-terms p (same_tensor p L In R) c e (TK.tensors-same p pos L In R left right c e u v q)

  ext-d : (c : Terms (Pair K J)) → Each Is c → Each Is (extend d c)
  ext-d c u = Each-extend Is Is d d-each c u

  ext-f : (c : Terms (Pair K J)) → Each Is c → Each IsT (extend f c)
  ext-f c u = Each-extend IsT Is f f-each c u

  ext-h : (c : Terms (Pair K J)) → Each Is c → Each Is (extend h c)
  ext-h c u = Each-extend Is Is h h-each c u

  ext-b : (c : Terms (Tensor K J)) → Each IsT c → Each IsT (extend b c)
  ext-b c u = Each-extend IsT IsT b b-each c u

  ext-g : (c : Terms (Tensor K J)) → Each IsT c → Each Is (extend g c)
  ext-g c u = Each-extend Is IsT g g-each c u

  -- ---- the equations

  pub d-twice : (s : Pair K J) → Is s → SameTerms p (same_pair p L R) (extend d (d s)) []
  d-twice s i = pairs (extend d (d s)) [] (ext-d (d s) (d-each s i)) tt (d-chain (d s) (d-each s i) ∙ (ap (lin S E.d) (dk s i) ∙ (E.dd (key s) (ok s i) ∙ sym (lin-nil p pos keys))))

  pub f-commutes : (s : Pair K J) → Is s → SameTerms p (same_tensor p L In R) (extend b (f s)) (extend f (d s))
  f-commutes s i =
      tensors (extend b (f s)) (extend f (d s)) (ext-b (f s) (f-each s i)) (ext-f (d s) (d-each s i))
      (b-chain (f s) (f-each s i) ∙ (ap (lin S E.b) (fk s i) ∙ (sym (E.fd (key s) (ok s i)) ∙ sym (f-chain (d s) (d-each s i) ∙ ap (lin S E.f) (dk s i)))))

  pub g-commutes : (z : Tensor K J) → IsT z → SameTerms p (same_pair p L R) (extend d (g z)) (extend g (b z))
  g-commutes z i =
      pairs (extend d (g z)) (extend g (b z)) (ext-d (g z) (g-each z i)) (ext-g (b z) (b-each z i))
      (d-chain (g z) (g-each z i) ∙ (ap (lin S E.d) (gk z i) ∙ (E.dg (tkey z) (tok z i) ∙ sym (g-chain (b z) (b-each z i) ∙ ap (lin S E.g) (bk z i)))))

  pub b-twice : (z : Tensor K J) → IsT z → SameTerms p (same_tensor p L In R) (extend b (b z)) []
  b-twice z i = tensors (extend b (b z)) [] (ext-b (b z) (b-each z i)) tt (b-chain (b z) (b-each z i) ∙ (ap (lin S E.b) (bk z i) ∙ (E.bb (tkey z) (tok z i) ∙ sym (lin-nil p pos tkeys))))

  pub f-g : (z : Tensor K J) → IsT z → SameTerms p (same_tensor p L In R) (extend f (g z)) (one z)
  f-g z i =
      tensors (extend f (g z)) (one z) (ext-f (g z) (g-each z i)) (i, tt)
      (f-chain (g z) (g-each z i) ∙ (ap (lin S E.f) (gk z i) ∙ (E.fg (tkey z) (tok z i) ∙ sym (lin-one p pos tkeys z ∙ tkeyed z i))))

  pub homotopy : (s : Pair K J) → Is s → SameTerms p (same_pair p L R) (extend d (h s) ++ (extend h (d s) ++ extend g (f s))) (one s)
  homotopy s i =
      pairs (extend d (h s) ++ (extend h (d s) ++ extend g (f s))) (one s)
      (Each-append Is (extend d (h s)) (extend h (d s) ++ extend g (f s)) (ext-d (h s) (h-each s i))
      (Each-append Is (extend h (d s)) (extend g (f s)) (ext-h (d s) (d-each s i)) (ext-g (f s) (f-each s i)))) (i, tt)
      (lin-append p pos keys (extend d (h s)) (extend h (d s) ++ extend g (f s))
      ∙ (ap (λ v. add S v (lin S keys (val p pos (extend h (d s) ++ extend g (f s))))) (d-chain (h s) (h-each s i) ∙ ap (lin S E.d) (hk s i))
      ∙ (ap (add S (lin S E.d (E.h (key s)))) (lin-append p pos keys (extend h (d s)) (extend g (f s))
      ∙ (ap (λ v. add S v (lin S keys (val p pos (extend g (f s))))) (h-chain (d s) (d-each s i) ∙ ap (lin S E.h) (dk s i))
      ∙ ap (add S (lin S E.h (E.d (key s)))) (g-chain (f s) (f-each s i) ∙ ap (lin S E.g) (fk s i))))
      ∙ (E.hom (key s) (ok s i) ∙ sym (lin-one p pos keys s ∙ keyed s i)))))

  pub f-h : (s : Pair K J) → Is s → SameTerms p (same_tensor p L In R) (extend f (h s)) []
  f-h s i = tensors (extend f (h s)) [] (ext-f (h s) (h-each s i)) tt (f-chain (h s) (h-each s i) ∙ (ap (lin S E.f) (hk s i) ∙ (E.fh (key s) (ok s i) ∙ sym (lin-nil p pos tkeys))))

  pub h-g : (z : Tensor K J) → IsT z → SameTerms p (same_pair p L R) (extend h (g z)) []
  h-g z i = pairs (extend h (g z)) [] (ext-h (g z) (g-each z i)) tt (h-chain (g z) (g-each z i) ∙ (ap (lin S E.h) (gk z i) ∙ (E.hg (tkey z) (tok z i) ∙ sym (lin-nil p pos keys))))

  pub h-h : (s : Pair K J) → Is s → SameTerms p (same_pair p L R) (extend h (h s)) []
  h-h s i = pairs (extend h (h s)) [] (ext-h (h s) (h-each s i)) tt (h-chain (h s) (h-each s i) ∙ (ap (lin S E.h) (hk s i) ∙ (E.hh (key s) (ok s i) ∙ sym (lin-nil p pos keys))))

  -- h d h = h
  pub h-d-h : (s : Pair K J) → Is s → SameTerms p (same_pair p L R) (extend h (extend d (h s))) (h s)
  h-d-h s i =
      pairs (extend h (extend d (h s))) (h s) (ext-h (extend d (h s)) (ext-d (h s) (h-each s i))) (h-each s i)
      (h-chain (extend d (h s)) (ext-d (h s) (h-each s i)) ∙ (ap (lin S E.h) (d-chain (h s) (h-each s i) ∙ ap (lin S E.d) (hk s i))
      ∙ (Fl.kdk S KK (PC.matching S A B) (key s) (ok s i) ∙ sym (hk s i))))

  -- f is 0 on targets
  pub f-target : (s : Pair K J) → Is s → src (key s).0 ≡ true → SameTerms p (same_tensor p L In R) (extend f (moved p L R s)) []
  f-target s i q =
      let j : ℕ = suc (ev (key s).0) in
      let e : Each Is (moved p L R s) = each-so (moved p L R s) (λ t u. u.1) (FK.moved-pairs p pos L In R left right s i q) in
      tensors (extend f (moved p L R s)) [] (ext-f (moved p L R s) e) tt
      (f-chain (moved p L R s) e ∙ (ap (lin S E.f) (FK.moved-keys p pos L In R left right s i q) ∙ (lin-sg S j E.f (eta S (up S A B (key s)))
      ∙ (ap (sg S j) (lin-eta S E.f (up S A B (key s)) ∙ AW-up S A B (key s) (ok s i) q) ∙ (sg-o S j ∙ sym (lin-nil p pos tkeys))))))

  -- ---- the records

  same_terms_refl : {M : Type 0} (same : M → M → Bool) (c e : Terms M) → c ≡ e → SameTerms p same c e
  same_terms_refl same c e q k = ap (λ x. Rattle.fp_field.specs.Chains.coeff same x k % p) q

  pair_ends : (s : Pair K J) → s.0 ≡ 0 → d s ≡ []
  pair_ends (zero, x, y) e = refl
  pair_ends (suc n, x, y) e = absurd (omega (arith, e))

  pair-respects : {N : Type 0} (same : N → N → Bool) (m : Pair K J → Terms N) (x y : Pair K J) → same_pair p L R x y ≡ true → SameTerms p same (m x) (m y)
  pair-respects same m x y e = same_terms_refl same (m x) (m y) (ap m (same-is (pair_order p L R) (pairs-apart p L In R left right) x y e))

  tensor-respects : {N : Type 0} (same : N → N → Bool) (m : Tensor K J → Terms N) (x y : Tensor K J) → same_tensor p L In R x y ≡ true → SameTerms p same (m x) (m y)
  tensor-respects same m x y e = same_terms_refl same (m x) (m y) (ap m (same-is (tensor_order p L R) (tensors-apart p L In R left right) x y e))

  pub pair-graded : IsGraded p (pair_complex p L In R)
  pair-graded = record {
    equivalence = tells-equivalence (pair_order p L R) (pairs-apart p L In R left right);
    lowers = λ n x i. PK.d-pairs p pos L In R left right n x i.0 i.1;
    ends = λ x i. pair_ends x i.0;
    respects = λ x y e. pair-respects (same_pair p L R) d x y e;
  }

  pub pair-is-complex : IsComplex p (pair_complex p L In R)
  pair-is-complex = record { graded = pair-graded; twice = λ n x i. d-twice x i.1 }

  pub tensor-graded : IsGraded p (tensor_complex p L In R)
  tensor-graded = record {
    equivalence = tells-equivalence (tensor_order p L R) (tensors-apart p L In R left right);
    lowers = λ n z i. TK.d-tensors p pos L In R left right n z i.0 i.1;
    ends = λ z i. TK.d-ends p pos L In R left right z i.0;
    respects = λ x y e. tensor-respects (same_tensor p L In R) b x y e;
  }

  pub degrees : HasDegrees p (eilenberg_zilber p L In R)
  degrees = record {
    big = pair-is-complex;
    small = tensor-graded;
    f = record {
      keeps = λ n x i. each-so (f x) (λ t u. (u.0 ∙ i.0, u.1)) (TK.aw-tensors p pos L In R left right x i.1);
      respects = λ x y e. pair-respects (same_tensor p L In R) f x y e;
    };
    g = record {
      keeps = λ n z i. each-so (g z) (λ t u. (u.0 ∙ i.0, u.1)) (SK.eml-pairs p pos L In R left right z i.1);
      respects = λ x y e. tensor-respects (same_pair p L R) g x y e;
    };
    h = record {
      raises = λ n x i. each-so (h x) (λ t u. (u.0 ∙ ap suc i.0, u.1)) (FK.flow-pairs p pos L In R left right x i.1);
      respects = λ x y e. pair-respects (same_pair p L R) h x y e;
    };
  }

  pub equations : (N : ℕ) → HasEquations p N (eilenberg_zilber p L In R)
  equations N = record {
    f_commutes = λ n x l i. f-commutes x i.1;
    g_commutes = λ n y l i. g-commutes y i.1;
    twice = λ n y l i. b-twice y i.1;
    fg = λ n y l i. f-g y i.1;
    homotopy = λ n x l i. homotopy x i.1;
    fh = λ n x l i. f-h x i.1;
    hg = λ n y l i. h-g y i.1;
    hh = λ n x l i. h-h x i.1;
  }

  -- Alexander-Whitney, Eilenberg-Mac Lane and the flow are a reduction
  pub is-reduction : IsReduction p (eilenberg_zilber p L In R)
  is-reduction N = record { degrees = degrees; equations = equations N }
