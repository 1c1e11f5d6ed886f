-- Normalised chains by their cells: a chain of simplices is, up to degenerate ones, one chain of cells, and d agrees.
use Rattle.std.proofs.Common.{◌≡◌, ℕ, zero, suc, ◌+◌, ◌*◌, ◌-◌, ◌%◌, ◌<◌, ◌≤◌, Bool, true, false, not, ◌&&◌, ◌==◌, cond, ◌⊎◌, inl, inr, ◌≢◌, List, [], ◌∷◌, ◌++◌, map, refl, sym, ◌∙◌, ap, subst, arith, true≢false}
use Rattle.std.proofs.Math.ListN.{length-map}
use Rattle.std.proofs.lemmas.Bool.{cases_eq, eqb-true, eq-eqb, and_parts}
use Rattle.std.proofs.lemmas.List.Elements.{All-from_recursion, recursion_from_All}
use Rattle.std.specs.Cmp.{IsEquivalence, nat_eq_equiv, on_equiv, and_equiv}
use Rattle.std.specs.List.{AllByRecursion as EachOf}
use Rattle.fp_field.specs.Field.{SameMod}
use Rattle.fp_field.specs.Chains.{Terms, weigh, coeff, scale, extend, combination, keep, faces_sum, Each}
use Rattle.fp_field.specs.Reduction.{SameTerms, Complex, IsGraded, IsComplex}
use Rattle.fp_field.proofs.Mod.{same-plus}
use Rattle.fp_field.proofs.Weights.{weigh-append, weigh-scale, weigh-extend, weigh-along, Each-append, Each-scale, Each-extend}
use Rattle.spaces.specs.Simplicial.{Simplicial, IsSimplicial, is_degenerate}
use Rattle.spaces.specs.Homology.{boundary_of, boundary, IsChain, Same, IsClosed, IsCycle, IsExpressed, HomologyList}
use Rattle.spaces.proofs.Boundary.{twice_under, boundary-same}
use Rattle.homology_laws.specs.Lists.{IsCycleOf, IsExpressedOf, HomologyListOf}

-- ---- the complex of the cells of a simplicial set

module _ {K : Type 0} (X : Simplicial K) (p : ℕ) where
  abbrev pub cell_d_of : ℕ × K → Terms (ℕ × K)
  cell_d_of (zero, x) = []
  cell_d_of (suc n, x) = map (λ t. ((n, t.0), t.1)) (keep (λ y. not (is_degenerate X n y)) (boundary_of X p (suc n) x))

  abbrev pub cells_of : Complex (ℕ × K)
  cells_of = record {
    generator = λ n x. (x.0 ≡ n) × (X.In n x.1 × (is_degenerate X n x.1 ≡ false));
    same = λ x y. (x.0 == y.0) && X.same x.1 y.1;
    d = cell_d_of;
  }

-- the simplices of the cells
abbrev pub plain : {K : Type 0} → Terms (ℕ × K) → Terms K
plain c = map (λ t. (t.0.1, t.1)) c

-- ---- the simplices of a chain of cells

module _ {K : Type 0} where
  pub weigh-plain : (w : K → ℕ) (c : Terms (ℕ × K)) → weigh w (plain c) ≡ weigh (λ x. w x.1) c
  weigh-plain w [] = refl
  weigh-plain w (t ∷ c) = ap (λ n. t.1 * w t.0.1 + n) (weigh-plain w c)

  pub plain-append : (c d : Terms (ℕ × K)) → plain (c ++ d) ≡ plain c ++ plain d
  plain-append [] d = refl
  plain-append (t ∷ c) d = ap (λ e. (t.0.1, t.1) ∷ e) (plain-append c d)

  pub plain-scale : (a : ℕ) (c : Terms (ℕ × K)) → plain (scale a c) ≡ scale a (plain c)
  plain-scale a [] = refl
  plain-scale a (t ∷ c) = ap (λ e. (t.0.1, a * t.1) ∷ e) (plain-scale a c)

  pub plain-combination : (cs : List ℕ) (zs : List (Terms (ℕ × K))) → plain (combination cs zs) ≡ combination cs (map plain zs)
  plain-combination [] zs = refl
  plain-combination (c ∷ cs) [] = refl
  plain-combination (c ∷ cs) (z ∷ zs) =
      plain-append (scale c z) (combination cs zs) ∙ λ i. plain-scale c z i ++ plain-combination cs zs i

  -- the terms that pass, where the others weigh nothing
  pub weigh-keep : (w : K → ℕ) (test : K → Bool) → ((x : K) → test x ≡ false → w x ≡ 0) → (c : Terms K) → weigh w (keep test c) ≡ weigh w c
  weigh-keep w test e [] = refl
  weigh-keep w test e (t ∷ c) = by (test t.0) refl (weigh-keep w test e c)
    where
      by : (b : Bool) → test t.0 ≡ b → weigh w (keep test c) ≡ weigh w c → weigh w (cond b (t ∷ keep test c) (keep test c)) ≡ t.1 * w t.0 + weigh w c
      by true g r = ap (λ n. t.1 * w t.0 + n) r
      by false g r = rw (e t.0 g) (omega (arith, r))

  -- the cells of a chain, in a degree
  abbrev pub placed : ℕ → Terms K → Terms (ℕ × K)
  placed n c = map (λ t. ((n, t.0), t.1)) c

  pub plain-placed : (n : ℕ) (c : Terms K) → plain (placed n c) ≡ c
  plain-placed n [] = refl
  plain-placed n (t ∷ c) = ap (λ e. t ∷ e) (plain-placed n c)

module _ {K : Type 0} (X : Simplicial K) (laws : IsSimplicial X) (p : ℕ) (pos : 0 < p) where
  abbrev C : Complex (ℕ × K)
  C = cells_of X p

  abbrev Cells : ℕ → Terms (ℕ × K) → Type 0
  Cells n c = Each (C.generator n) c

  -- the cells of a chain of simplices
  abbrev pub up : ℕ → Terms K → Terms (ℕ × K)
  up n z = placed n (keep (λ y. not (is_degenerate X n y)) z)

  abbrev count : K → K → ℕ
  count k x = cond (X.same x k) 1 0

  -- a degenerate simplex is none that is not
  count-degenerate : (n : ℕ) (k : K) → is_degenerate X n k ≡ false → (x : K) → not (is_degenerate X n x) ≡ false → count k x ≡ 0
  count-degenerate n k g x e = by (X.same x k) (laws.same_is x k)
    where
      not_false : (b : Bool) → not b ≡ false → b ≡ true
      not_false true h = refl
      not_false false h = absurd (true≢false h)

      by : (b : Bool) → (b ≡ true → x ≡ k) → cond {A = ℕ} b 1 0 ≡ 0
      by true h = absurd (true≢false (sym (not_false (is_degenerate X n x) e) ∙ ap (is_degenerate X n) (h refl) ∙ g))
      by false h = refl

  -- ---- degrees

  pub keep-cells : (n : ℕ) (c : Terms K) → IsChain X p n c → Cells n (up n c)
  keep-cells n [] h = tt
  keep-cells n (t ∷ c) h = by (is_degenerate X n t.0) refl (keep-cells n c h.1)
    where
      by : (b : Bool) → is_degenerate X n t.0 ≡ b → Cells n (up n c) → Cells n (placed n (cond (not b) (t ∷ keep (λ y. not (is_degenerate X n y)) c) (keep (λ y. not (is_degenerate X n y)) c)))
      by true e r = r
      by false e r = ((refl, (h.0, e)), r)

  pub plain-chain : (n : ℕ) (c : Terms (ℕ × K)) → Cells n c → IsChain X p n (plain c)
  plain-chain n [] h = tt
  plain-chain n (t ∷ c) h = (h.0.1.0, plain-chain n c h.1)

  faces-in : (n : ℕ) (x : K) → X.In (suc n) x → (i : ℕ) → i ≤ suc (suc n) → Each (X.In n) (faces_sum p X.face i x)
  faces-in n x is zero l = tt
  faces-in n x is (suc i) l = (laws.face_in n i x is (omega arith), faces-in n x is i (omega arith))

  pub boundary-in : (n : ℕ) (x : K) → X.In (suc n) x → IsChain X p n (boundary_of X p (suc n) x)
  boundary-in n x is = faces-in n x is (suc (suc n)) (omega arith)

  pub lowers : (n : ℕ) (x : ℕ × K) → C.generator (suc n) x → Cells n (C.d x)
  lowers n x h =
      subst (λ j. Cells n (cell_d_of X p (j, x.1))) (sym h.0) (keep-cells n (boundary_of X p (suc n) x.1) (boundary-in n x.1 h.1.0))

  pub ends : (x : ℕ × K) → C.generator zero x → C.d x ≡ []
  ends x h = ap (λ j. cell_d_of X p (j, x.1)) h.0

  pub d-cells : (n : ℕ) (w : Terms (ℕ × K)) → Cells (suc n) w → Cells n (extend C.d w)
  d-cells n w h = Each-extend (C.generator n) (C.generator (suc n)) C.d (λ x g. lowers n x g) w h

  -- ---- coefficients

  at-degree : (n : ℕ) (c : Terms (ℕ × K)) → Cells n c → (k : K) → coeff C.same c (n, k) ≡ coeff X.same (plain c) k
  at-degree n c h k =
      weigh-along (C.generator n) (λ x. cond ((x.0 == n) && X.same x.1 k) 1 0) (λ x. count k x.1) (λ x g. ap (λ b. cond (b && X.same x.1 k) 1 0) (eq-eqb x.0 n g.0)) c h
      ∙ sym (weigh-plain (count k) c)

  weigh-nothing : {J : Type 0} (c : Terms J) → weigh (λ x. 0) c ≡ 0
  weigh-nothing [] = refl
  weigh-nothing (t ∷ c) = omega (arith, weigh-nothing c)

  other-degree : (n j : ℕ) → j ≢ n → (c : Terms (ℕ × K)) → Cells n c → (k : K) → coeff C.same c (j, k) ≡ 0
  other-degree n j d c h k =
      weigh-along (C.generator n) (λ x. cond ((x.0 == j) && X.same x.1 k) 1 0) (λ x. 0) (λ x g. miss x g.0 (x.0 == j) refl) c h ∙ weigh-nothing c
    where
      miss : (x : ℕ × K) → x.0 ≡ n → (b : Bool) → (x.0 == j) ≡ b → cond {A = ℕ} (b && X.same x.1 k) 1 0 ≡ 0
      miss x e true q = absurd (d (sym (eqb-true x.0 j q) ∙ e))
      miss x e false q = refl

  at-degenerate : (n : ℕ) (c : Terms (ℕ × K)) → Cells n c → (k : K) → is_degenerate X n k ≡ true → coeff X.same (plain c) k ≡ 0
  at-degenerate n c h k e =
      weigh-plain (count k) c ∙ weigh-along (C.generator n) (λ x. count k x.1) (λ x. 0) (λ x g. by x g.1.1 (X.same x.1 k) (laws.same_is x.1 k)) c h ∙ weigh-nothing c
    where
      by : (x : ℕ × K) → is_degenerate X n x.1 ≡ false → (b : Bool) → (b ≡ true → x.1 ≡ k) → cond {A = ℕ} b 1 0 ≡ 0
      by x g true q = absurd (true≢false (sym e ∙ ap (is_degenerate X n) (sym (q refl)) ∙ g))
      by x g false q = refl

  -- chains of cells are the same where their simplices count as one
  pub to-cells : (n : ℕ) (c d : Terms (ℕ × K)) → Cells n c → Cells n d → Same X p n (plain c) (plain d) → SameTerms p C.same c d
  to-cells n c d g h e (j, k) = by (cases_eq j n)
    where
      here : (b : Bool) → is_degenerate X n k ≡ b → SameMod p (coeff C.same c (n, k)) (coeff C.same d (n, k))
      here true q = ap (λ m. m % p) (at-degree n c g k ∙ at-degenerate n c g k q ∙ sym (at-degree n d h k ∙ at-degenerate n d h k q))
      here false q = ap (λ m. m % p) (at-degree n c g k) ∙ e k q ∙ ap (λ m. m % p) (sym (at-degree n d h k))

      by : (j ≡ n) ⊎ (j ≢ n) → SameMod p (coeff C.same c (j, k)) (coeff C.same d (j, k))
      by (inl q) = subst (λ i. SameMod p (coeff C.same c (i, k)) (coeff C.same d (i, k))) (sym q) (here (is_degenerate X n k) refl)
      by (inr q) = ap (λ m. m % p) (other-degree n j q c g k ∙ sym (other-degree n j q d h k))

  pub to-plain : (n : ℕ) (c d : Terms (ℕ × K)) → Cells n c → Cells n d → SameTerms p C.same c d → Same X p n (plain c) (plain d)
  to-plain n c d g h e k q = ap (λ m. m % p) (sym (at-degree n c g k)) ∙ e (n, k) ∙ ap (λ m. m % p) (at-degree n d h k)

  -- ---- the differential

  pub plain-up : (n : ℕ) (z : Terms K) → Same X p n (plain (up n z)) z
  plain-up n z k g =
      ap (λ c. coeff X.same c k % p) (plain-placed n (keep (λ y. not (is_degenerate X n y)) z))
      ∙ ap (λ m. m % p) (weigh-keep (count k) (λ y. not (is_degenerate X n y)) (count-degenerate n k g) z)

  pub plain-d : (n : ℕ) (w : Terms (ℕ × K)) → Cells (suc n) w → Same X p n (plain (extend C.d w)) (boundary X p (suc n) (plain w))
  plain-d n w h k g = ap (λ m. m % p)
      (weigh-plain (count k) (extend C.d w) ∙ weigh-extend (λ x. count k x.1) C.d w
      ∙ weigh-along (C.generator (suc n)) (λ x. weigh (λ y. count k y.1) (C.d x)) (λ x. weigh (count k) (boundary_of X p (suc n) x.1)) (λ x e. at x e.0) w h
      ∙ sym (weigh-plain (λ x. weigh (count k) (boundary_of X p (suc n) x)) w) ∙ sym (weigh-extend (count k) (boundary_of X p (suc n)) (plain w)))
    where
      here : (x : K) → weigh (λ y. count k y.1) (cell_d_of X p (suc n, x)) ≡ weigh (count k) (boundary_of X p (suc n) x)
      here x =
          sym (weigh-plain (count k) (up n (boundary_of X p (suc n) x)))
          ∙ ap (weigh (count k)) (plain-placed n (keep (λ y. not (is_degenerate X n y)) (boundary_of X p (suc n) x)))
          ∙ weigh-keep (count k) (λ y. not (is_degenerate X n y)) (count-degenerate n k g) (boundary_of X p (suc n) x)

      at : (x : ℕ × K) → x.0 ≡ suc n → weigh (λ y. count k y.1) (C.d x) ≡ weigh (count k) (boundary_of X p (suc n) x.1)
      at x e = subst (λ j. weigh (λ y. count k y.1) (cell_d_of X p (j, x.1)) ≡ weigh (count k) (boundary_of X p (suc n) x.1)) (sym e) (here x.1)

  -- a chain of simplices and its cells have one boundary
  pub boundary-up : (n : ℕ) (w : Terms K) → IsChain X p (suc n) w → Same X p n (plain (extend C.d (up (suc n) w))) (boundary X p (suc n) w)
  boundary-up n w h k g =
      plain-d n (up (suc n) w) (keep-cells (suc n) w h) k g
      ∙ boundary-same X laws p pos n (plain (up (suc n) w)) w (plain-chain (suc n) (up (suc n) w) (keep-cells (suc n) w h)) h (plain-up (suc n) w) k g

  -- a chain of simplices counts as one chain of cells
  pub one-chain : (n : ℕ) (z : Terms K) → IsChain X p n z
      → (c : Terms (ℕ × K)) × Cells n c × Same X p n (plain c) z × ((d : Terms (ℕ × K)) → Cells n d → Same X p n (plain d) z → SameTerms p C.same c d)
  one-chain n z is = (
    up n z,
    keep-cells n z is,
    plain-up n z,
    λ d h e. to-cells n (up n z) d (keep-cells n z is) h (λ k g. plain-up n z k g ∙ sym (e k g)),
  )

  -- ---- cycles

  pub plain-cycle : (n : ℕ) (z : Terms (ℕ × K)) → IsCycleOf p C n z → IsCycle X p n (plain z)
  plain-cycle zero z c = record { chain = plain-chain zero z c.chain; closed = tt }
  plain-cycle (suc n) z c = record {
    chain = plain-chain (suc n) z c.chain;
    closed = λ k g. sym (plain-d n z c.chain k g) ∙ to-plain n (extend C.d z) [] (d-cells n z c.chain) tt c.closed k g;
  }

  pub no-boundary : (z : Terms (ℕ × K)) → Cells zero z → extend C.d z ≡ []
  no-boundary [] h = refl
  no-boundary (t ∷ z) h = (λ i. scale t.1 (ends t.0 h.0 i) ++ extend C.d z) ∙ no-boundary z h.1

  pub up-cycle : (n : ℕ) (z : Terms K) → IsCycle X p n z → IsCycleOf p C n (up n z)
  up-cycle zero z c = record {
    chain = keep-cells zero z c.chain;
    closed = λ k. ap (λ e. coeff C.same e k % p) (no-boundary (up zero z) (keep-cells zero z c.chain));
  }
  up-cycle (suc n) z c = record {
    chain = keep-cells (suc n) z c.chain;
    closed = to-cells n (extend C.d (up (suc n) z)) [] (d-cells n (up (suc n) z) (keep-cells (suc n) z c.chain)) tt
        (λ k g. boundary-up n z c.chain k g ∙ c.closed k g);
  }

  -- and the other way round
  pub cell-cycle : (n : ℕ) (c : Terms (ℕ × K)) → Cells n c → IsCycle X p n (plain c) → IsCycleOf p C n c
  cell-cycle zero c h z = record { chain = h; closed = λ k. ap (λ e. coeff C.same e k % p) (no-boundary c h) }
  cell-cycle (suc n) c h z = record {
    chain = h;
    closed = to-cells n (extend C.d c) [] (d-cells n c h) tt (λ k g. plain-d n c h k g ∙ z.closed k g);
  }

  -- ---- the complex

  cells-equivalence : IsEquivalence C.same
  cells-equivalence = and_equiv (on_equiv (λ (x : ℕ × K). x.0) nat_eq_equiv) (on_equiv (λ (x : ℕ × K). x.1) laws.same_equivalence)

  pub cells-same : (x y : ℕ × K) → C.same x y ≡ true → x ≡ y
  cells-same x y h = let b = and_parts (x.0 == y.0) (X.same x.1 y.1) h in λ i. (eqb-true x.0 y.0 b.0 i, laws.same_is x.1 y.1 b.1 i)

  twice-closed : (n : ℕ) (x : K) → X.In (suc n) x → IsClosed X p n (boundary_of X p (suc n) x)
  twice-closed zero x is = tt
  twice-closed (suc n) x is = λ k g.
      ap (λ m. m % p) (weigh-extend (count k) (boundary_of X p (suc n)) (boundary_of X p (suc (suc n)) x) ∙ sym (once k (boundary_of X p (suc (suc n)) x))
      ∙ sym (weigh-extend (count k) (boundary_of X p (suc n)) (boundary X p (suc (suc n)) ((x, 1) ∷ []))))
      ∙ twice_under X laws p pos (count k) (suc n) ((x, 1) ∷ []) (is, tt)
    where
      once : (k : K) (b : Terms K) → weigh (λ y. weigh (count k) (boundary_of X p (suc n) y)) (scale 1 b ++ []) ≡ weigh (λ y. weigh (count k) (boundary_of X p (suc n) y)) b
      once k b =
          weigh-append (λ y. weigh (count k) (boundary_of X p (suc n) y)) (scale 1 b) []
          ∙ omega (arith, weigh-scale (λ y. weigh (count k) (boundary_of X p (suc n) y)) 1 b)

  cells-twice : (n : ℕ) (x : ℕ × K) → C.generator n x → SameTerms p C.same (extend C.d (C.d x)) []
  cells-twice zero x h = λ k. ap (λ c. coeff C.same (extend C.d c) k % p) (ends x h)
  cells-twice (suc n) x h =
      subst (λ j. SameTerms p C.same (extend C.d (cell_d_of X p (j, x.1))) []) (sym h.0)
      (up-cycle n (boundary_of X p (suc n) x.1) (record { chain = boundary-in n x.1 h.1.0; closed = twice-closed n x.1 h.1.0 })).closed

  pub cells-graded : IsGraded p C
  cells-graded = record {
    equivalence = cells-equivalence;
    lowers = lowers;
    ends = ends;
    respects = λ x y h k. ap (λ z. coeff C.same (C.d z) k % p) (cells-same x y h);
  }

  pub cells-complex : IsComplex p C
  cells-complex = record { graded = cells-graded; twice = cells-twice }

  -- ---- homology lists

  module _ (n : ℕ) (zs : List (Terms (ℕ × K))) (list : HomologyListOf p C n zs) where
    chains : EachOf (IsCycleOf p C n) zs
    chains = recursion_from_All (IsCycleOf p C n) zs list.cycles

    combination-cells : (cs : List ℕ) (xs : List (Terms (ℕ × K))) → EachOf (IsCycleOf p C n) xs → Cells n (combination cs xs)
    combination-cells [] xs h = tt
    combination-cells (c ∷ cs) [] h = tt
    combination-cells (c ∷ cs) (x ∷ xs) h =
        Each-append (C.generator n) (scale c x) (combination cs xs) (Each-scale (C.generator n) c x h.0.chain) (combination-cells cs xs h.1)

    abbrev left : List ℕ → Terms K → Terms (ℕ × K)
    left cs z = up n z ++ scale (p - 1) (combination cs zs)

    left-cells : (cs : List ℕ) (z : Terms K) → IsChain X p n z → Cells n (left cs z)
    left-cells cs z h =
        Each-append (C.generator n) (up n z) (scale (p - 1) (combination cs zs)) (keep-cells n z h)
        (Each-scale (C.generator n) (p - 1) (combination cs zs) (combination-cells cs zs chains))

    left-plain : (cs : List ℕ) (z : Terms K) → Same X p n (plain (left cs z)) (z ++ scale (p - 1) (combination cs (map plain zs)))
    left-plain cs z k g =
        ap (λ c. coeff X.same c k % p) (plain-append (up n z) (scale (p - 1) (combination cs zs))
        ∙ ap (λ c. plain (up n z) ++ c) (plain-scale (p - 1) (combination cs zs) ∙ ap (scale (p - 1)) (plain-combination cs zs)))
        ∙ ap (λ m. m % p) (weigh-append (count k) (plain (up n z)) (scale (p - 1) (combination cs (map plain zs))))
        ∙ same-plus p _ _ _ _ (plain-up n z k g) refl
        ∙ ap (λ m. m % p) (sym (weigh-append (count k) z (scale (p - 1) (combination cs (map plain zs)))))

    to-expressed : (z : Terms K) (cs : List ℕ) → IsChain X p n z → IsExpressedOf p C n zs (up n z) cs → IsExpressed X p n (map plain zs) z cs
    to-expressed z cs is e = record {
      as_long = e.as_long ∙ sym (length-map zs plain);
      reduced = e.reduced;
      rest = (
        plain e.rest.0,
        plain-chain (suc n) e.rest.0 e.rest.1,
        λ k g. sym (left-plain cs z k g)
            ∙ to-plain n (left cs z) (extend C.d e.rest.0) (left-cells cs z is) (d-cells n e.rest.0 e.rest.1) e.rest.2 k g
            ∙ plain-d n e.rest.0 e.rest.1 k g,
      );
    }

    from-expressed : (z : Terms K) (cs : List ℕ) → IsChain X p n z → IsExpressed X p n (map plain zs) z cs → IsExpressedOf p C n zs (up n z) cs
    from-expressed z cs is e = record {
      as_long = e.as_long ∙ length-map zs plain;
      reduced = e.reduced;
      rest = (
        up (suc n) e.rest.0,
        keep-cells (suc n) e.rest.0 e.rest.1,
        to-cells n (left cs z) (extend C.d (up (suc n) e.rest.0)) (left-cells cs z is) (d-cells n (up (suc n) e.rest.0) (keep-cells (suc n) e.rest.0 e.rest.1))
            (λ k g. left-plain cs z k g ∙ e.rest.2 k g ∙ sym (boundary-up n e.rest.0 e.rest.1 k g)),
      );
    }

    plain-cycles : (xs : List (Terms (ℕ × K))) → EachOf (IsCycleOf p C n) xs → EachOf (IsCycle X p n) (map plain xs)
    plain-cycles [] h = tt
    plain-cycles (x ∷ xs) h = (plain-cycle n x h.0, plain-cycles xs h.1)

    pub plain-homology : HomologyList X p n (map plain zs)
    plain-homology = record {
      cycles = All-from_recursion (IsCycle X p n) (map plain zs) (plain-cycles zs chains);
      spans = λ z c. let e = list.spans (up n z) (up-cycle n z c) in (e.0, to-expressed z e.0 c.chain e.1);
      once = λ z a b c e f. list.once (up n z) a b (up-cycle n z c) (from-expressed z a c.chain e) (from-expressed z b c.chain f);
    }
