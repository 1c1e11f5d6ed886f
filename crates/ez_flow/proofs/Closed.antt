-- The terms of the flow on forms of pairs of the code are forms of pairs of the code, and so are those of the differential.
use Rattle.std.proofs.Common.{◌≡◌, ℕ, zero, suc, ◌+◌, ◌-◌, ◌*◌, ◌<◌, ◌≤◌, ◌^◌, [], ◌∷◌, ◌++◌, map, Bool, true, false, cond, refl, sym, ◌∙◌, ap, subst, arith}
use Rattle.fp_field.specs.Field.{sign}
use Rattle.fp_field.specs.Chains.{Terms, scale, extend, keep, Each}
use Rattle.fp_field.specs.Normal.{normal}
use Rattle.fp_field.specs.Reduction.{one}
use Rattle.fp_field.specs.Flows.{flow_in}
use Rattle.fp_field.proofs.Weights.{Each-append, Each-scale, Each-extend}
use Rattle.fp_field.proofs.FlowLaws.{Each-normal, Each-keep}
use Rattle.simp_ops.specs.PathWords.{path_word, Event, source, target, critical}
use Rattle.simp_ops.proofs.Numbers.{put_in, put_in-lt, bit-put_in, no_top}
use Rattle.spaces.specs.Simplicial.{has_degeneracy}
use Rattle.spaces.specs.Orders.{Ordered}
use Rattle.spaces.specs.EilenbergZilber.{Linear, linear, Pair, pair_order, is_pair_cell, first_faces, pair_d, target_of, event_of, moved, left_over, is_source, enough_rounds, flow}
use Rattle.cells.specs.declared.cells.Simplex.{Simplex}
use Rattle.ez_laws.proofs.Eaches.{each-so}
use Rattle.ez_laws.proofs.PairKeys.{len-path}
use Rattle.ez_flow.specs.Parts.{IsForm, HasSimplex, AreRead}
use Rattle.ez_flow.proofs.RoundWeights.{source-below, no-last}

-- ---- one part

module _ {K : Type 0} (bound : ℕ) (short : bound ≤ 32) (In : ℕ → K → Type 0) (degeneracy : ℕ → K → K) (has : ℕ → K → Bool) (faces : ℕ → ℕ → K → Terms K)
    (belongs : ℕ → Simplex → Type 0) (form : Simplex → K) (simplex : ℕ → K → Simplex)
    (forms : IsForm bound In degeneracy has belongs form) (read : AreRead bound faces belongs form simplex) where
  abbrev pub Has : ℕ → K → Type 0
  Has n x = HasSimplex belongs form simplex n x

  pub own-form : (n : ℕ) (s : Simplex) → belongs n s → Has n (form s)
  own-form n s b = let e = read.own n s b in (subst (belongs n) (sym e) b, ap form e)

  pub has-faces : (n i : ℕ) (x : K) → Has (suc n) x → suc n ≤ bound → i ≤ suc n → Each (Has n) (faces (suc n) i x)
  has-faces n i x h l j = subst (λ t. Each (Has n) (faces (suc n) i t)) h.1 (read.closed n i (simplex (suc n) x) h.0 l j)

  pub has-degeneracy : (n j : ℕ) (x : K) → Has n x → j ≤ n → suc n ≤ bound → Has (suc n) (degeneracy j x)
  has-degeneracy n j x h l b =
      let s : Simplex = simplex n x in
      let m : ℕ = s.degens.mask in
      let small : m < 2 ^ 31 = no_top m s.degens.below_32 (no-last m n (omega (arith, b, short)) (forms.mask n s h.0)) in
      let e : 31 - j + j ≡ 31 = omega (arith, l, b, short) in
      let f : 31 - j + 1 + j ≡ 32 = omega (arith, l, b, short) in
      let k : put_in m j < 2 ^ 32 = subst (λ n. put_in m j < 2 ^ n) f (put_in-lt m j (31 - j) (subst (λ n. m < 2 ^ n) (sym e) small)) in
      let t : Simplex = record { degens = record { mask = put_in m j; below_32 = k }; cell = s.cell } in
      let r = forms.raised n j s t h.0 l b refl (bit-put_in m j) in
      subst (Has (suc n)) (r.1 ∙ ap (degeneracy j) h.1) (own-form (suc n) t r.0)

-- ---- pairs

module _ {K J : Type 0} (p bound : ℕ) (short : bound ≤ 32) (L : Linear K) (In : ℕ → K → Type 0) (R : Ordered J)
    (il : ℕ → Simplex → Type 0) (fl : Simplex → K) (sl : ℕ → K → Simplex) (ir : ℕ → Simplex → Type 0) (fr : Simplex → J) (sr : ℕ → J → Simplex)
    (lefts : IsForm bound In L.degeneracy L.has_degeneracy il fl) (rights : IsForm bound R.set.In R.set.degeneracy (has_degeneracy R.set) ir fr)
    (lr : AreRead bound L.faces il fl sl) (rr : AreRead bound (linear R).faces ir fr sr) where
  abbrev pub HasL : ℕ → K → Type 0
  HasL n x = HasSimplex il fl sl n x

  abbrev pub HasR : ℕ → J → Type 0
  HasR n y = HasSimplex ir fr sr n y

  pub left-faces : (n i : ℕ) (x : K) → HasL (suc n) x → suc n ≤ bound → i ≤ suc n → Each (HasL n) (L.faces (suc n) i x)
  left-faces n i x h l j = has-faces bound short In L.degeneracy L.has_degeneracy L.faces il fl sl lefts lr n i x h l j

  pub right-face : (n i : ℕ) (y : J) → HasR (suc n) y → suc n ≤ bound → i ≤ suc n → HasR n (R.set.face i y)
  right-face n i y h l j = (has-faces bound short R.set.In R.set.degeneracy (has_degeneracy R.set) (linear R).faces ir fr sr rights rr n i y h l j).0

  pub left-degeneracy : (n j : ℕ) (x : K) → HasL n x → j ≤ n → suc n ≤ bound → HasL (suc n) (L.degeneracy j x)
  left-degeneracy n j x h l b = has-degeneracy bound short In L.degeneracy L.has_degeneracy L.faces il fl sl lefts lr n j x h l b

  pub right-degeneracy : (n j : ℕ) (y : J) → HasR n y → j ≤ n → suc n ≤ bound → HasR (suc n) (R.set.degeneracy j y)
  right-degeneracy n j y h l b = has-degeneracy bound short R.set.In R.set.degeneracy (has_degeneracy R.set) (linear R).faces ir fr sr rights rr n j y h l b

  -- a pair of degree n of two forms
  abbrev pub HasPair : ℕ → Pair K J → Type 0
  HasPair n t = (t.0 ≡ n) × HasL n t.1 × HasR n t.2

  faces-have : (c n : ℕ) (x : K) (y : J) → c ≤ suc (suc n) → suc n ≤ bound → HasL (suc n) x → HasR (suc n) y → Each (HasPair n) (first_faces p L R c (suc n, x, y))
  faces-have zero n x y l b hx hy = tt
  faces-have (suc c) n x y l b hx hy =
      Each-append (HasPair n) (map (λ t. ((suc n - 1, t.0, R.set.face c y), sign p c * t.1)) (L.faces (suc n) c x)) (first_faces p L R c (suc n, x, y))
      (each_made (L.faces (suc n) c x) (left-faces n c x hx b (omega (arith, l)))) (faces-have c n x y (omega (arith, l)) b hx hy)
    where
      each_made : (d : Terms K) → Each (HasL n) d → Each (HasPair n) (map (λ t. ((suc n - 1, t.0, R.set.face c y), sign p c * t.1)) d)
      each_made [] h = tt
      each_made (t ∷ d) h = ((omega arith, h.0, right-face n c y hy b (omega (arith, l))), each_made d h.1)

  pub d-has : (n : ℕ) (s : Pair K J) → HasPair (suc n) s → suc n ≤ bound → Each (HasPair n) (pair_d p L R s)
  d-has n (zero, x, y) h b = tt
  d-has n (suc m, x, y) h b =
      let e : m ≡ n = let q : suc m ≡ suc n = h.0 in omega (arith, q) in
      let g : HasPair (suc m) (suc m, x, y) = subst (λ k. HasPair (suc k) (suc m, x, y)) (sym e) h in
      subst (λ k. Each (HasPair k) (pair_d p L R (suc m, x, y))) e
      (each-so (keep (is_pair_cell p L R) (first_faces p L R (suc (suc m)) (suc m, x, y))) (λ t u. u.0)
      (Each-keep (HasPair m) (is_pair_cell p L R) (first_faces p L R (suc (suc m)) (suc m, x, y))
      (faces-have (suc (suc m)) m x y (omega arith) (subst (λ k. suc k ≤ bound) (sym e) b) g.1 g.2)))

  moved-has : (n : ℕ) (s : Pair K J) → HasPair n s → suc n ≤ bound → Each (HasPair (suc n)) (moved p L R s)
  moved-has n s h b = by (event_of p L R s) refl
    where
      low : (j : ℕ) → event_of p L R s ≡ source j → j < n
      low j e =
          let l = source-below (path_word s.0 0 (λ j. L.has_degeneracy j s.1) (λ j. has_degeneracy R.set j s.2)) j e in
          omega (arith, l, len-path s.0 0 (λ j. L.has_degeneracy j s.1) (λ j. has_degeneracy R.set j s.2), h.0)

      by : (e : Event) → event_of p L R s ≡ e
          → Each (HasPair (suc n)) (elim e as (λ x. Terms (Pair K J)) [ source j ↦ (target_of p L R s j, sign p (suc j)) ∷ [] | target j ↦ [] | critical ↦ [] ])
      by (source j) e =
          let l = low j e in
          ((ap suc h.0, left-degeneracy n j s.1 h.1 (omega (arith, l)) b, right-degeneracy n (suc j) s.2 h.2 (omega (arith, l)) b), tt)
      by (target j) e = tt
      by critical e = tt

  left-over-has : (n : ℕ) (s : Pair K J) → HasPair n s → suc n ≤ bound → Each (HasPair n) (left_over p L R s)
  left-over-has n s h b =
      Each-normal (HasPair n) (pair_order p L R) p (one s ++ scale (p - 1) (extend (pair_d p L R) (moved p L R s))) (
        h,
        Each-scale (HasPair n) (p - 1) (extend (pair_d p L R) (moved p L R s))
            (Each-extend (HasPair n) (HasPair (suc n)) (pair_d p L R) (λ t u. d-has n t u b) (moved p L R s) (moved-has n s h b)),
      )

  rounds-have : (r n : ℕ) (c : Terms (Pair K J)) → Each (HasPair n) c → suc n ≤ bound
      → Each (HasPair (suc n)) (flow_in p (is_source p L R) (moved p L R) (left_over p L R) (pair_order p L R) r c)
  rounds-have zero n c h b = tt
  rounds-have (suc r) n [] h b = tt
  rounds-have (suc r) n (t ∷ c) h b =
      let d : Terms (Pair K J) = normal (pair_order p L R) p (keep (is_source p L R) (extend (left_over p L R) (t ∷ c))) in
      Each-append (HasPair (suc n)) (extend (moved p L R) (t ∷ c)) (flow_in p (is_source p L R) (moved p L R) (left_over p L R) (pair_order p L R) r d)
      (Each-extend (HasPair (suc n)) (HasPair n) (moved p L R) (λ s u. moved-has n s u b) (t ∷ c) h)
      (rounds-have r n d
      (Each-normal (HasPair n) (pair_order p L R) p (keep (is_source p L R) (extend (left_over p L R) (t ∷ c)))
      (each-so (keep (is_source p L R) (extend (left_over p L R) (t ∷ c))) (λ t u. u.0)
      (Each-keep (HasPair n) (is_source p L R) (extend (left_over p L R) (t ∷ c))
      (Each-extend (HasPair n) (HasPair n) (left_over p L R) (λ s u. left-over-has n s u b) (t ∷ c) h)))) b)

  pub flow-has : (n : ℕ) (s : Pair K J) → HasPair n s → suc n ≤ bound → Each (HasPair (suc n)) (flow p L R s)
  flow-has n s h b = by (is_source p L R s)
    where
      by : (t : Bool) → Each (HasPair (suc n))
          (cond t (normal (pair_order p L R) p (flow_in p (is_source p L R) (moved p L R) (left_over p L R) (pair_order p L R) (enough_rounds p L R s.0) (one s))) [])
      by true = Each-normal (HasPair (suc n)) (pair_order p L R) p (flow_in p (is_source p L R) (moved p L R) (left_over p L R) (pair_order p L R) (enough_rounds p L R s.0) (one s))
          (rounds-have (enough_rounds p L R s.0) n (one s) (h, tt) b)
      by false = tt
