-- No map of Eilenberg and Zilber raises the dimension of the left cell.
use Rattle.std.proofs.Common.{◌≡◌, ℕ, zero, suc, ◌+◌, ◌-◌, ◌<◌, ◌≤◌, List, [], ◌∷◌, ◌++◌, Bool, true, false, cond, inl, inr, refl, sym, ◌∙◌, ap, subst, arith}
use Rattle.fp_field.specs.Chains.{Terms, scale, extend, keep, Each}
use Rattle.fp_field.specs.Field.{sign}
use Rattle.fp_field.specs.Normal.{normal}
use Rattle.fp_field.specs.Reduction.{one}
use Rattle.fp_field.proofs.Weights.{Each-append, Each-scale, Each-extend}
use Rattle.fp_field.proofs.FlowLaws.{Each-normal}
use Rattle.spaces.specs.Orders.{Ordered}
use Rattle.spaces.specs.EilenbergZilber.{Linear, Pair, Tensor, pair_order, is_pair_cell, is_tensor_cell, first_faces, pair_d, front, back, cuts, aw, eml, shuffled, moved, left_over, is_source, enough_rounds, flow}
use Rattle.ez_laws.specs.Sides.{IsLeft, IsRight, on_keys}
use Rattle.ez_laws.specs.Complexes.{IsPair, IsTensor}
use Rattle.ez_laws.specs.FlowEquations.{moves, left_dim, KeepsLeft}
use Rattle.simp_ops.specs.PathWords.{shuffles}
use Rattle.ez_laws.proofs.Matches.{src, two}
use Rattle.ez_laws.proofs.WordFaces.{face, len, isV, bits}
use Rattle.ez_laws.proofs.WordRanks.{fls, Above, ev}
use Rattle.ez_laws.proofs.WordPlaces.{at}
use Rattle.ez_laws.proofs.PairFaces.{side, up-fls, up}
use Rattle.ez_laws.proofs.Shuffles.{ltr-fls}
use Rattle.ez_laws.proofs.EilenbergMacLane.{kw, kw-ok}
use Rattle.ez_laws.proofs.Values.{moved_terms}
use Rattle.ez_laws.proofs.Eaches.{each-so, each-and, each-keep, each-keys}
use Rattle.ez_laws.proofs.LeftSystems.{nf-valid, nf-at, nf-termed, face-terms}
use Rattle.ez_laws.proofs.PairKeys as PK
use Rattle.ez_laws.proofs.TensorKeys as TK
use Rattle.ez_laws.proofs.ShuffleKeys as SK
use Rattle.ez_laws.proofs.FlowKeys as FK

-- the places below n where a test fails
abbrev count : ℕ → (ℕ → Bool) → ℕ
count zero f = 0
count (suc n) f = count n f + cond (f n) 0 1

count-front : (n : ℕ) (f : ℕ → Bool) → count (suc n) f ≡ cond (f 0) 0 1 + count n (λ t. f (suc t))
count-front zero f = let e : 0 + cond {A = ℕ} (f 0) 0 1 ≡ cond (f 0) 0 1 + 0 = omega arith in e
count-front (suc n) f = ap (λ m. m + cond (f (suc n)) 0 1) (count-front n f) ∙ (let e : cond {A = ℕ} (f 0) 0 1 + count n (λ t. f (suc t)) + cond (f (suc n)) 0 1 ≡ cond (f 0) 0 1 + (count n (λ t. f (suc t)) + cond (f (suc n)) 0 1) = omega arith in e)

fls-count : (w : List Bool) (f : ℕ → Bool) → ((t : ℕ) → t < len w → at t w ≡ f t) → fls w ≡ count (len w) f
unfolding fls len at
fls-count [] f h = refl
fls-count (true ∷ w) f h =
    let r = fls-count w (λ t. f (suc t)) (λ t l. h (suc t) (omega (arith, l))) in
    let e : cond {A = ℕ} (f 0) 0 1 ≡ 0 = ap (λ b. cond b 0 1) (sym (h zero (omega arith))) in
    omega (arith, r, e, count-front (len w) f)
fls-count (false ∷ w) f h =
    let r = fls-count w (λ t. f (suc t)) (λ t l. h (suc t) (omega (arith, l))) in
    let e : cond {A = ℕ} (f 0) 0 1 ≡ 1 = ap (λ b. cond b 0 1) (sym (h zero (omega arith))) in
    omega (arith, r, e, count-front (len w) f)

count-none : (n : ℕ) (f : ℕ → Bool) → ((t : ℕ) → t < n → f t ≡ false) → count n f ≡ n
count-none zero f h = refl
count-none (suc n) f h =
    let r = count-none n f (λ t l. h t (omega (arith, l))) in
    let e : cond {A = ℕ} (f n) 0 1 ≡ 1 = ap (λ b. cond b 0 1) (h n (omega arith)) in
    omega (arith, r, e)

module _ (p : ℕ) (pos : 0 < p) {K J : Type 0} (L : Linear K) (In : ℕ → K → Type 0) (R : Ordered J) (left : IsLeft p L In) (right : IsRight R) where
  abbrev Is : Pair K J → Type 0
  Is s = IsPair p L In R s

  moves-count : (n : ℕ) (x : K) → moves p L In R n x ≡ count n (λ t. L.has_degeneracy t x)
  moves-count zero x = refl
  moves-count (suc n) x = ap (λ m. m + cond (L.has_degeneracy n x) 0 1) (moves-count n x)

  -- the dimension by the normal form
  pub moves-fls : (n : ℕ) (x : K) → In n x → moves p L In R n x ≡ fls (PK.nfl p pos L In R left right n x).0
  moves-fls n x is =
      let r = PK.nfl-ok p pos L In R left right n x is in
      moves-count n x ∙ ap (λ t. count t (λ t. L.has_degeneracy t x)) (sym r.0)
      ∙ sym (fls-count (PK.nfl p pos L In R left right n x).0 (λ t. L.has_degeneracy t x) (λ t l. nf-at p pos L In left n t x is (omega (arith, l, r.0))))

  -- faces do not raise it
  pub faces-lower : (n i : ℕ) (x : K) → In (suc n) x → i ≤ suc n → Each (λ z. In n z × (moves p L In R n z ≤ moves p L In R (suc n) x)) (L.faces (suc n) i x)
  faces-lower n i x is b =
      let r = nf-valid p pos L In left (suc n) x is in
      let u : List Bool = (PK.nfl p pos L In R left right (suc n) x).0 in
      subst (λ y. Each (λ z. In n z × (moves p L In R n z ≤ moves p L In R (suc n) x)) (L.faces (suc n) i y)) r.1
      (each-so (L.faces (suc n) i (PK.simplex_l p pos L In R left right (PK.nfl p pos L In R left right (suc n) x)))
      (λ z h.
      let lf = Rattle.ez_laws.proofs.WordRanks.len-face i u (omega (arith, r.0.0, b)) (omega (arith, r.0.0)) in
      let t = nf-termed p pos L In left n (face i u) z (omega (arith, lf, r.0.0)) h in
      (h.0, omega (arith, moves-fls n z h.0, moves-fls (suc n) x is, word-side i n u (PK.nfl p pos L In R left right n z).0 r.0.0 b t.1)))
      (face-terms p pos L In left i n (PK.nfl p pos L In R left right (suc n) x) r.0 b))
    where
      word-side : (i n : ℕ) (w v : List Bool) → len w ≡ suc n → i ≤ suc n → Above (face i w) v → fls v ≤ fls w
      word-side = side (PK.S p pos L In R left right) (PK.A p pos L In R left right) (PK.B p pos L In R left right)

  -- ---- Alexander-Whitney

  front-lower : (m i k n : ℕ) (x : K) → n ≡ i + k → In n x → moves p L In R n x ≤ m → Each (λ z. moves p L In R i z ≤ m) (front p L R i k x)
  front-lower m i zero n x e is l = (subst (λ t. moves p L In R t x ≤ m) (let q : n ≡ i = omega (arith, e) in q) l, tt)
  front-lower m i (suc k) zero x e is l = absurd (omega (arith, e))
  front-lower m i (suc k) (suc n) x e is l =
      Each-extend (λ z. moves p L In R i z ≤ m) (λ z. In n z × (moves p L In R n z ≤ moves p L In R (suc n) x)) (front p L R i k)
      (λ z u. front-lower m i k n z (omega (arith, e)) u.0 (omega (arith, u.1, l))) (L.faces (i + suc k) (i + suc k) x)
      (subst (λ t. Each (λ z. In n z × (moves p L In R n z ≤ moves p L In R (suc n) x)) (L.faces t t x)) (let q : suc n ≡ i + suc k = omega (arith, e) in q) (faces-lower n (suc n) x is (omega arith)))

  abbrev Low : ℕ → Tensor K J → Type 0
  Low m t = (In t.0 t.1 × R.set.In t.2 t.3) × (moves p L In R t.0 t.1 ≤ m)

  cuts-lower : (m c n : ℕ) (x : K) (y : J) → c ≤ suc n → In n x → R.set.In n y → moves p L In R n x ≤ m → Each (Low m) (cuts p L R c (n, x, y))
  cuts-lower m zero n x y l ix iy b = tt
  cuts-lower m (suc c) n x y l ix iy b =
      let e : n ≡ c + (n - c) = omega (arith, l) in
      Each-append (Low m) (on_keys (λ t. (c, t, n - c, back p L R c y)) (front p L R c (n - c) x)) (cuts p L R c (n, x, y))
      (each-keys (Low m) (λ t. (c, t, n - c, back p L R c y)) (front p L R c (n - c) x)
      (each-so (front p L R c (n - c) x) (λ t u. ((u.0, TK.back-in p pos L In R left right c (n - c) n y e iy), u.1))
      (each-and (In c) (λ z. moves p L In R c z ≤ m) (front p L R c (n - c) x) (TK.front-in p pos L In R left right c (n - c) n x e ix) (front-lower m c (n - c) n x e ix b))))
      (cuts-lower m c n x y (omega (arith, l)) ix iy b)

  aw-lower : (s : Pair K J) → Is s → Each (λ t. t.0 ≤ left_dim p L In R s) (aw p L R s)
  aw-lower s i =
      each-so (aw p L R s)
      (λ t h.
      let full = count-none t.0 (λ j. L.has_degeneracy j t.1) (TK.no-left p pos L In R left right t (h.0.0.0, h.0.0.1, h.1)) in
      omega (arith, full, moves-count t.0 t.1, h.0.1))
      (each-keep (Low (left_dim p L In R s)) (is_tensor_cell p L R) (cuts p L R (suc s.0) s)
      (cuts-lower (left_dim p L In R s) (suc s.0) s.0 s.1 s.2 (omega arith) i.0 i.1 (omega arith)))

  -- ---- the dimension by the key

  pub dim-key : (s : Pair K J) → Is s → left_dim p L In R s ≡ fls (bits isV (PK.key p pos L In R left right s).0)
  dim-key s i = moves-fls s.0 s.1 i.0 ∙ ap (λ q. fls q.0.0) (sym (PK.raw-key p pos L In R left right s i))

  pub dim-unkey : (k : PK.KK p pos L In R left right) → Rattle.ez_laws.proofs.PairFaces.Ok (PK.S p pos L In R left right) (PK.A p pos L In R left right) (PK.B p pos L In R left right) k
      → left_dim p L In R (PK.unkey p pos L In R left right k) ≡ fls (bits isV k.0)
  dim-unkey k ok = dim-key (PK.unkey p pos L In R left right k) (PK.unkey-pair p pos L In R left right k ok) ∙ ap (λ q. fls (bits isV q.0)) (PK.key-unkey p pos L In R left right k ok)

  -- ---- Eilenberg-Mac Lane

  eml-lower : (z : Tensor K J) → IsTensor p L In R z → Each (λ t. left_dim p L In R t ≤ z.0) (eml p L R z)
  eml-lower z i =
      SK.each-words p (λ t. left_dim p L In R t ≤ z.0) (SK.IsShuffle (z.0 + z.2) z.0) (λ w. (shuffled p L R z w).0)
      (λ w h.
      let k : PK.KK p pos L In R left right = kw (PK.S p pos L In R left right) (PK.A p pos L In R left right) (PK.B p pos L In R left right) (TK.tkey p pos L In R left right z) h.0 in
      let ok = kw-ok (PK.S p pos L In R left right) (PK.A p pos L In R left right) (PK.B p pos L In R left right) (TK.tkey p pos L In R left right z) (TK.tkey-ok p pos L In R left right z i) h.0 h.2 in
      let e : (shuffled p L R z w).0 ≡ PK.unkey p pos L In R left right k = ap (λ v. (shuffled p L R z v).0) h.1 ∙ SK.shuffled-key p pos L In R left right z i h.0 h.2 in
      let f = ap (left_dim p L In R) e ∙ dim-unkey k ok in
      omega (arith, f, (ltr-fls h.0).0, h.2.1))
      (shuffles (z.0 + z.2) z.0) (SK.shuffles-are (z.0 + z.2) z.0)

  -- ---- the flow

  abbrev Bound : ℕ → Pair K J → Type 0
  Bound m t = left_dim p L In R t ≤ m

  faces-pairs : (m c n : ℕ) (x : K) (y : J) → c ≤ suc (suc n) → In (suc n) x → moves p L In R (suc n) x ≤ m → Each (Bound m) (first_faces p L R c (suc n, x, y))
  faces-pairs m zero n x y l ix b = tt
  faces-pairs m (suc c) n x y l ix b =
      Each-append (Bound m) (moved_terms p pos (λ t. (suc n - 1, t, R.set.face c y)) (sign p c) (L.faces (suc n) c x)) (first_faces p L R c (suc n, x, y))
      (each_moved (L.faces (suc n) c x) (faces-lower n c x ix (omega (arith, l)))) (faces-pairs m c n x y (omega (arith, l)) ix b)
    where
      q : suc n - 1 ≡ n
      q = omega arith

      each_moved : (d : Terms K) → Each (λ z. In n z × (moves p L In R n z ≤ moves p L In R (suc n) x)) d → Each (Bound m) (moved_terms p pos (λ t. (suc n - 1, t, R.set.face c y)) (sign p c) d)
      each_moved [] h = tt
      each_moved (t ∷ d) h = (subst (λ k. moves p L In R k t.0 ≤ m) (sym q) (omega (arith, h.0.1, b)), each_moved d h.1)

  keep_bound : (m : ℕ) (test : Pair K J → Bool) (c : Terms (Pair K J)) → Each (Bound m) c → Each (Bound m) (keep test c)
  keep_bound m test c h = each-so (keep test c) (λ t u. u.0) (each-keep (Bound m) test c h)

  d-lower : (m : ℕ) (s : Pair K J) → Is s → left_dim p L In R s ≤ m → Each (Bound m) (pair_d p L R s)
  d-lower m (zero, x, y) i b = tt
  d-lower m (suc n, x, y) i b = keep_bound m (is_pair_cell p L R) (first_faces p L R (suc (suc n)) (suc n, x, y)) (faces-pairs m (suc (suc n)) n x y (omega arith) i.0 b)

  moved-bound : (m : ℕ) (s : Pair K J) → Is s → src (PK.steps p pos L In R left right s) ≡ true → left_dim p L In R s ≤ m → Each (λ t. Is t × Bound m t) (moved p L R s)
  moved-bound m s i q b =
      let k : PK.KK p pos L In R left right = PK.key p pos L In R left right s in
      let ok = Rattle.ez_laws.proofs.PairFaces.up-ok (PK.S p pos L In R left right) (PK.A p pos L In R left right) (PK.B p pos L In R left right) k q (PK.key-ok p pos L In R left right s i) in
      let e = ap (left_dim p L In R) (FK.target-key p pos L In R left right s i q)
      ∙ dim-unkey (up (PK.S p pos L In R left right) (PK.A p pos L In R left right) (PK.B p pos L In R left right) k) ok in
      let f = (up-fls (PK.S p pos L In R left right) (PK.A p pos L In R left right) (PK.B p pos L In R left right) k.0 q).0 in
      subst (Each (λ t. Is t × Bound m t)) (sym (FK.moved-at p pos L In R left right s q))
      ((FK.up-pair p pos L In R left right s i q, omega (arith, e, f, dim-key s i, b)), tt)

  left-over-bound : (m : ℕ) (s : Pair K J) → Is s → src (PK.steps p pos L In R left right s) ≡ true → left_dim p L In R s ≤ m → Each (Bound m) (left_over p L R s)
  left-over-bound m s i q b =
      Each-normal (Bound m) (pair_order p L R) p (one s ++ scale (p - 1) (extend (pair_d p L R) (moved p L R s))) (
        b,
        Each-scale (Bound m) (p - 1) (extend (pair_d p L R) (moved p L R s))
            (Each-extend (Bound m) (λ t. Is t × Bound m t) (pair_d p L R) (λ t u. d-lower m t u.0 u.1) (moved p L R s) (moved-bound m s i q b)),
      )

  rounds-lower : (m n d : ℕ) (c : Terms (Pair K J)) → Each (FK.Sources p pos L In R left right d) c → Each (Bound m) c → Each (Bound m) (FK.rounds p pos L In R left right n c)
  rounds-lower m zero d c h g = tt
  rounds-lower m (suc n) d [] h g = tt
  rounds-lower m (suc n) d (t ∷ c) h g =
      let e : Terms (Pair K J) = t ∷ c in
      let hg : Each (λ s. FK.Sources p pos L In R left right d s × Bound m s) e = each-and (FK.Sources p pos L In R left right d) (Bound m) e h g in
      Each-append (Bound m) (extend (moved p L R) e) (FK.rounds p pos L In R left right n (FK.next p pos L In R left right e))
      (Each-extend (Bound m) (λ s. FK.Sources p pos L In R left right d s × Bound m s) (moved p L R)
      (λ s u. each-so (moved p L R s) (λ t v. v.1) (moved-bound m s u.0.0.1 (sym (FK.source-src p pos L In R left right s) ∙ u.0.1) u.1)) e hg)
      (rounds-lower m n d (FK.next p pos L In R left right e) (FK.next-each p pos L In R left right d e h)
      (Each-normal (Bound m) (pair_order p L R) p (keep (is_source p L R) (extend (left_over p L R) e))
      (keep_bound m (is_source p L R) (extend (left_over p L R) e)
      (Each-extend (Bound m) (λ s. FK.Sources p pos L In R left right d s × Bound m s) (left_over p L R)
      (λ s u. left-over-bound m s u.0.0.1 (sym (FK.source-src p pos L In R left right s) ∙ u.0.1) u.1) e hg))))

  flow-lower : (s : Pair K J) → Is s → Each (Bound (left_dim p L In R s)) (flow p L R s)
  flow-lower s i = elim (two (src (PK.steps p pos L In R left right s))) as (λ v. Each (Bound (left_dim p L In R s)) (flow p L R s)) [
    | inr q ↦ subst (λ b. Each (Bound (left_dim p L In R s)) (cond b (normal (pair_order p L R) p (FK.rounds p pos L In R left right (enough_rounds p L R s.0) (one s))) []))
        (sym (FK.source-src p pos L In R left right s ∙ q)) tt
    | inl q ↦ subst (λ b. Each (Bound (left_dim p L In R s)) (cond b (normal (pair_order p L R) p (FK.rounds p pos L In R left right (enough_rounds p L R s.0) (one s))) []))
        (sym (FK.source-src p pos L In R left right s ∙ q))
        (Each-normal (Bound (left_dim p L In R s)) (pair_order p L R) p (FK.rounds p pos L In R left right (enough_rounds p L R s.0) (one s))
        (rounds-lower (left_dim p L In R s) (enough_rounds p L R s.0) s.0 (one s) (((refl, i), FK.source-src p pos L In R left right s ∙ q), tt) (omega arith, tt)))
  ]

  pub keeps-left : KeepsLeft p L In R
  keeps-left = record { aw_keeps = aw-lower; eml_keeps = eml-lower; flow_keeps = flow-lower }
