-- Front and back of a simplex; the Alexander-Whitney sum is a chain map before any normalisation.
use Rattle.std.specs.Prelude.{◌≡◌, refl, ℕ, ◌<◌, ◌≤◌, ◌+◌, ◌-◌, List, Bool, true}
use Rattle.std.proofs.Common.{sym, ◌∙◌, ap, inl, inr, arith, zero, suc}
use Rattle.ez_laws.proofs.WordFaces.{face, len}
use Rattle.ez_laws.proofs.WordRanks.{fls, Above, len-face, above-len}
use Rattle.ez_laws.proofs.WordPlaces.{at, at-above, at-lo, at-hi}
use Rattle.ez_laws.proofs.Functionals.{Coefficients, Ch}
use Rattle.ez_laws.proofs.ChainLaws.{o, add, neg, eta, lin, sg, tot, All, assoc, comm, unit, unit-l, inverse, lin-eta, lin-id, lin-lin, lin-sum, lin-tot, lin-tots, lin-sgs, lin-os, lin-on, all-eta, all-lin, all-mono, tot-on, tot-add, sg-tot, sg-o, sg-add, sg-plus}
use Rattle.ez_laws.proofs.PairFaces.{LeftSystem, RightSystem, P, pf, Good}
use Rattle.ez_laws.proofs.PairComplex.{dec, tot-swap, bd, lin-of-bd}

module _ (S : Coefficients) (M : Type 0) where
  pub tot-app : (m k : ℕ) (f : ℕ → Ch S M) → tot S (m + k) f ≡ add S (tot S m f) (tot S k (λ j. f (m + j)))
  unfolding tot
  tot-app m zero f = let e : m + 0 ≡ m = omega arith in ap (λ t. tot S t f) e ∙ sym (unit S (tot S m f))
  tot-app m (suc k) f =
      let e : m + suc k ≡ suc (m + k) = omega arith in
      ap (λ t. tot S t f) e ∙ (ap (λ x. add S x (f (m + k))) (tot-app m k f) ∙ assoc S (tot S m f) (tot S k (λ j. f (m + j))) (f (m + k)))

  pub tot-first : (n : ℕ) (f : ℕ → Ch S M) → tot S (suc n) f ≡ add S (f 0) (tot S n (λ i. f (suc i)))
  unfolding tot
  tot-first zero f = comm S (o S) (f 0)
  tot-first (suc n) f = ap (λ x. add S x (f (suc n))) (tot-first n f) ∙ assoc S (f 0) (tot S n (λ i. f (suc i))) (f (suc n))

module _ (S : Coefficients) (A : LeftSystem S) (B : RightSystem) where
  abbrev pub SX : Type 0
  SX = List Bool × A.X

  abbrev pub SY : Type 0
  SY = List Bool × B.X

  abbrev pub Q2 : Type 0
  Q2 = P S A B

  abbrev pub SimX : ℕ → SX → Type 0
  SimX n x = (len x.0 ≡ n) × (fls x.0 ≡ A.dim x.1) × A.Is x.1

  abbrev pub SimY : ℕ → SY → Type 0
  SimY n y = (len y.0 ≡ n) × (fls y.0 ≡ B.dim y.1) × B.Is y.1

  -- the last r faces, from degree n; the first faces, i times
  unfoldable pub fr : ℕ → ℕ → SX → Ch S SX
  fr zero n x = eta S x
  fr (suc r) zero x = o S
  fr (suc r) (suc n) x = lin S (fr r n) (A.face (suc n) x)

  unfoldable pub bk : ℕ → SY → SY
  bk zero y = y
  bk (suc i) y = bk i (B.face 0 y)

  abbrev pub Stepped : ℕ → ℕ → SX → SX → Type 0
  Stepped i n x z = SimX n z × Above (face i x.0) z.0

  pub x-terms : (i n : ℕ) (x : SX) → SimX (suc n) x → i ≤ suc n → All S (Stepped i n x) (A.face i x)
  x-terms i n x s l = all-mono S (λ y. (fls y.0 ≡ A.dim y.1) × Above (face i x.0) y.0 × A.Is y.1) (Stepped i n x) (A.face i x) (A.terms i n x s.0 s.1 s.2 l)
      (λ z w. let e = len-face i x.0 (omega (arith, s.0, l)) (omega (arith, s.0)) in ((omega (arith, e, s.0, above-len (face i x.0) z.0 w.1), w.0, w.2), w.1))

  pub y-terms : (i n : ℕ) (y : SY) → SimY (suc n) y → i ≤ suc n → SimY n (B.face i y) × Above (face i y.0) (B.face i y).0
  y-terms i n y s l =
      let w = B.terms i n y s.0 s.1 s.2 l in let e = len-face i y.0 (omega (arith, s.0, l)) (omega (arith, s.0)) in
      ((omega (arith, e, s.0, above-len (face i y.0) (B.face i y).0 w.1), w.0, w.2), w.1)

  -- front after a face
  pub fr-low : (a r n : ℕ) (x : SX) → SimX (suc n) x → a + r ≤ n → lin S (fr r n) (A.face a x) ≡ lin S (A.face a) (fr r (suc n) x)
  unfolding fr
  fr-low a zero n x s l = lin-id S (A.face a x) ∙ sym (lin-eta S (A.face a) x)
  fr-low a (suc r) zero x s l = absurd (omega (arith, l))
  fr-low a (suc r) (suc n) x s l =
      sym (lin-lin S (A.face (suc n)) (fr r n) (A.face a x)) ∙
      (ap (lin S (fr r n)) (sym (A.twice a (suc n) n x s.0 s.1 s.2 (omega (arith, l)) (omega arith))) ∙
      (lin-lin S (A.face a) (fr r n) (A.face (suc (suc n)) x) ∙
      (lin-on S (Stepped (suc (suc n)) (suc n) x) (λ z. lin S (fr r n) (A.face a z)) (λ z. lin S (A.face a) (fr r (suc n) z)) (A.face (suc (suc n)) x)
      (x-terms (suc (suc n)) (suc n) x s (omega arith)) (λ z w. fr-low a r n z w.0 (omega (arith, l))) ∙
      sym (lin-lin S (fr r (suc n)) (A.face a) (A.face (suc (suc n)) x)))))

  pub fr-high : (a r n : ℕ) (x : SX) → SimX (suc n) x → n < a + r → r ≤ n → a ≤ suc n → lin S (fr r n) (A.face a x) ≡ fr (suc r) (suc n) x
  unfolding fr
  fr-high a zero n x s l k b = let e : a ≡ suc n = omega (arith, l, b) in ap (λ t. lin S (eta S) (A.face t x)) e
  fr-high a (suc r) zero x s l k b = absurd (omega (arith, k))
  fr-high a (suc r) (suc n) x s l k b = elim (dec a (suc (suc n))) as (λ v. lin S (fr (suc r) (suc n)) (A.face a x) ≡ fr (suc (suc r)) (suc (suc n)) x) [
    | inl e ↦ ap (λ t. lin S (λ z. lin S (fr r n) (A.face (suc n) z)) (A.face t x)) e
    | inr q ↦
        sym (lin-lin S (A.face (suc n)) (fr r n) (A.face a x)) ∙
        (ap (lin S (fr r n)) (sym (A.twice a (suc n) n x s.0 s.1 s.2 (omega (arith, q, b)) (omega arith))) ∙
        (lin-lin S (A.face a) (fr r n) (A.face (suc (suc n)) x) ∙
        lin-on S (Stepped (suc (suc n)) (suc n) x) (λ z. lin S (fr r n) (A.face a z)) (λ z. fr (suc r) (suc n) z) (A.face (suc (suc n)) x)
        (x-terms (suc (suc n)) (suc n) x s (omega arith)) (λ z w. fr-high a r n z w.0 (omega (arith, l)) (omega (arith, k)) (omega (arith, q, b)))))
  ]

  pub fr-top : (i r n : ℕ) (x : SX) → suc i + r ≡ n → lin S (A.face (suc i)) (fr r n x) ≡ fr (suc r) n x
  unfolding fr
  fr-top i zero zero x e = absurd (omega (arith, e))
  fr-top i zero (suc n) x e = let q : suc i ≡ suc n = omega (arith, e) in ap (λ t. lin S (A.face t) (eta S x)) q ∙ (lin-eta S (A.face (suc n)) x ∙ sym (lin-id S (A.face (suc n) x)))
  fr-top i (suc r) zero x e = absurd (omega (arith, e))
  fr-top i (suc r) (suc n) x e = lin-lin S (fr r n) (A.face (suc i)) (A.face (suc n) x) ∙
      ap (λ T. lin S T (A.face (suc n) x)) (λ t z. fr-top i r n z (omega (arith, e)) t)

  -- back after a face
  pub bk-low : (a i n : ℕ) (y : SY) → SimY (suc n) y → a ≤ i → i ≤ n → bk i (B.face a y) ≡ bk (suc i) y
  unfolding bk
  bk-low zero i n y s l b = refl
  bk-low (suc a) zero n y s l b = absurd (omega (arith, l))
  bk-low (suc a) (suc i) zero y s l b = absurd (omega (arith, b))
  bk-low (suc a) (suc i) (suc n) y s l b = ap (bk i) (B.twice 0 a n y s.0 s.1 s.2 (omega arith) (omega (arith, l, b))) ∙
      bk-low a i n (B.face 0 y) (y-terms 0 (suc n) y s (omega arith)).0 (omega (arith, l)) (omega (arith, b))

  pub bk-high : (a i c n : ℕ) (y : SY) → SimY (suc n) y → a ≡ i + c → 1 ≤ c → a ≤ suc n → bk i (B.face a y) ≡ B.face c (bk i y)
  unfolding bk
  bk-high a zero c n y s e l b = let q : a ≡ c = omega (arith, e) in ap (λ t. B.face t y) q
  bk-high zero (suc i) c n y s e l b = absurd (omega (arith, e))
  bk-high (suc a) (suc i) c zero y s e l b = absurd (omega (arith, b, e, l))
  bk-high (suc a) (suc i) c (suc n) y s e l b = ap (bk i) (B.twice 0 a n y s.0 s.1 s.2 (omega arith) (omega (arith, b))) ∙
      bk-high a i c n (B.face 0 y) (y-terms 0 (suc n) y s (omega arith)).0 (omega (arith, e)) l (omega (arith, b))

  pub bk-zero : (i : ℕ) (y : SY) → B.face 0 (bk i y) ≡ bk (suc i) y
  unfolding bk
  bk-zero zero y = refl
  bk-zero (suc i) y = bk-zero i (B.face 0 y)

  -- what the steps keep
  pub fr-all : (Q : SX → Type 0) (b : ℕ)
      → ((n : ℕ) (x z : SX) → b ≤ n → SimX (suc n) x → Q x → SimX n z → Above (face (suc n) x.0) z.0 → Q z)
      → (r n : ℕ) (x : SX) → b + r ≤ n → SimX n x → Q x → All S (λ z. (len z.0 + r ≡ n) × (fls z.0 ≡ A.dim z.1) × Q z × A.Is z.1) (fr r n x)
  unfolding fr
  fr-all Q b h zero n x l s q = all-eta S (λ z. (len z.0 + 0 ≡ n) × (fls z.0 ≡ A.dim z.1) × Q z × A.Is z.1) x (omega (arith, s.0), s.1, q, s.2)
  fr-all Q b h (suc r) zero x l s q = absurd (omega (arith, l))
  fr-all Q b h (suc r) (suc n) x l s q =
      all-lin S (Stepped (suc n) n x) (λ z. (len z.0 + suc r ≡ suc n) × (fls z.0 ≡ A.dim z.1) × Q z × A.Is z.1) (fr r n) (A.face (suc n) x) (x-terms (suc n) n x s (omega arith))
      (λ z w. all-mono S (λ z. (len z.0 + r ≡ n) × (fls z.0 ≡ A.dim z.1) × Q z × A.Is z.1) (λ z. (len z.0 + suc r ≡ suc n) × (fls z.0 ≡ A.dim z.1) × Q z × A.Is z.1) (fr r n z)
      (fr-all Q b h r n z (omega (arith, l)) w.0 (h n x z (omega (arith, l)) s q w.0 w.1))
      (λ v t. (omega (arith, t.0), t.1, t.2, t.3)))

  pub fr-sim : (r n : ℕ) (x : SX) → r ≤ n → SimX n x → All S (λ z. (len z.0 + r ≡ n) × (fls z.0 ≡ A.dim z.1) × A.Is z.1) (fr r n x)
  fr-sim r n x l s = all-mono S (λ z. (len z.0 + r ≡ n) × (fls z.0 ≡ A.dim z.1) × Unit {0} × A.Is z.1) (λ z. (len z.0 + r ≡ n) × (fls z.0 ≡ A.dim z.1) × A.Is z.1) (fr r n x)
      (fr-all (λ z. Unit {0}) 0 (λ n x z b s q t a. tt) r n x (omega (arith, l)) s tt) (λ z w. (w.0, w.1, w.3))

  pub fr-at : (j r n : ℕ) (x : SX) → suc j + r ≤ n → SimX n x → at j x.0 ≡ true
      → All S (λ z. (len z.0 + r ≡ n) × (fls z.0 ≡ A.dim z.1) × (at j z.0 ≡ true) × A.Is z.1) (fr r n x)
  fr-at j r n x l s q = fr-all (λ z. at j z.0 ≡ true) (suc j)
      (λ n x z b s q t a. at-above j (face (suc n) x.0) z.0 a (at-hi (suc n) j x.0 (omega (arith, b)) q)) r n x l s q

  pub bk-sim : (i n : ℕ) (y : SY) → i ≤ n → SimY n y → (len (bk i y).0 + i ≡ n) × (fls (bk i y).0 ≡ B.dim (bk i y).1) × B.Is (bk i y).1
  unfolding bk
  bk-sim zero n y l s = (omega (arith, s.0), s.1, s.2)
  bk-sim (suc i) zero y l s = absurd (omega (arith, l))
  bk-sim (suc i) (suc n) y l s = let w = bk-sim i n (B.face 0 y) (omega (arith, l)) (y-terms 0 n y s (omega arith)).0 in (omega (arith, w.0), w.1, w.2)

  pub bk-at : (j i n : ℕ) (y : SY) → i ≤ n → SimY n y → at (i + j) y.0 ≡ true → at j (bk i y).0 ≡ true
  unfolding bk
  bk-at j zero n y l s e = let q : 0 + j ≡ j = omega arith in ap (λ t. at t y.0) (sym q) ∙ e
  bk-at j (suc i) zero y l s e = absurd (omega (arith, l))
  bk-at j (suc i) (suc n) y l s e =
      let w = y-terms 0 n y s (omega arith) in
      let q : suc i + j ≡ suc (i + j) = omega arith in
      bk-at j i n (B.face 0 y) (omega (arith, l)) w.0 (at-above (i + j) (face 0 y.0) (B.face 0 y).0 w.1 (at-lo 0 (i + j) y.0 (omega arith) (ap (λ t. at t y.0) (sym q) ∙ e)))

  -- the summands of AW, and the two kinds of face on a tensor of simplices
  unfoldable pub aws : ℕ → ℕ → ℕ → Q2 → Ch S Q2
  aws i r n p = lin S (λ z. eta S (z, bk i p.1)) (fr r n p.0)

  unfoldable pub AWs : ℕ → Q2 → Ch S Q2
  AWs n p = tot S (suc n) (λ i. aws i (n - i) n p)

  unfoldable pub Lf : ℕ → Q2 → Ch S Q2
  Lf a q = lin S (λ z. eta S (z, q.1)) (A.face a q.0)

  unfoldable pub Rf : ℕ → Q2 → Ch S Q2
  Rf b q = eta S (q.0, B.face b q.1)

  pub aws-pf : (i r n a : ℕ) (p : Q2) → lin S (aws i r n) (pf S A B a p) ≡ lin S (λ z. eta S (z, bk i (B.face a p.1))) (lin S (fr r n) (A.face a p.0))
  unfolding aws pf
  aws-pf i r n a p =
      lin-lin S (λ x. eta S (x, B.face a p.1)) (aws i r n) (A.face a p.0) ∙
      (ap (λ T. lin S T (A.face a p.0)) (λ t x. lin-eta S (aws i r n) (x, B.face a p.1) t) ∙
      sym (lin-lin S (fr r n) (λ z. eta S (z, bk i (B.face a p.1))) (A.face a p.0)))

  pub Lf-aws : (a i r n : ℕ) (p : Q2) → lin S (Lf a) (aws i r n p) ≡ lin S (λ z. eta S (z, bk i p.1)) (lin S (A.face a) (fr r n p.0))
  unfolding aws Lf
  Lf-aws a i r n p =
      lin-lin S (λ z. eta S (z, bk i p.1)) (Lf a) (fr r n p.0) ∙
      (ap (λ T. lin S T (fr r n p.0)) (λ t x. lin-eta S (Lf a) (x, bk i p.1) t) ∙
      sym (lin-lin S (A.face a) (λ z. eta S (z, bk i p.1)) (fr r n p.0)))

  pub Rf-aws : (b i r n : ℕ) (p : Q2) → lin S (Rf b) (aws i r n p) ≡ lin S (λ z. eta S (z, B.face b (bk i p.1))) (fr r n p.0)
  unfolding aws Rf
  Rf-aws b i r n p =
      lin-lin S (λ z. eta S (z, bk i p.1)) (Rf b) (fr r n p.0) ∙
      ap (λ T. lin S T (fr r n p.0)) (λ t x. lin-eta S (Rf b) (x, bk i p.1) t)

  -- the four equations
  pub aw-low : (a i n : ℕ) (p : Q2) → Good S A B (suc n) p → a ≤ i → i ≤ n
      → lin S (aws i (n - i) n) (pf S A B a p) ≡ lin S (Lf a) (aws (suc i) (n - i) (suc n) p)
  aw-low a i n p g l b =
      aws-pf i (n - i) n a p ∙ (ap (λ y. lin S (λ z. eta S (z, y)) (lin S (fr (n - i) n) (A.face a p.0))) (bk-low a i n p.1 (g.2, g.3, g.5) l b) ∙
      (ap (lin S (λ z. eta S (z, bk (suc i) p.1))) (fr-low a (n - i) n p.0 (g.0, g.1, g.4) (omega (arith, l, b))) ∙ sym (Lf-aws a (suc i) (n - i) (suc n) p)))

  pub aw-high : (a i c n : ℕ) (p : Q2) → Good S A B (suc n) p → a ≡ i + suc c → i ≤ n → a ≤ suc n
      → lin S (aws i (n - i) n) (pf S A B a p) ≡ lin S (Rf (suc c)) (aws i (suc (n - i)) (suc n) p)
  aw-high a i c n p g e b l =
      aws-pf i (n - i) n a p ∙ (ap (λ y. lin S (λ z. eta S (z, y)) (lin S (fr (n - i) n) (A.face a p.0))) (bk-high a i (suc c) n p.1 (g.2, g.3, g.5) e (omega arith) l) ∙
      (ap (lin S (λ z. eta S (z, B.face (suc c) (bk i p.1)))) (fr-high a (n - i) n p.0 (g.0, g.1, g.4) (omega (arith, e, b)) (omega arith) l) ∙ sym (Rf-aws (suc c) i (suc (n - i)) (suc n) p)))

  pub aw-mid : (i n : ℕ) (p : Q2) → i ≤ n → lin S (Lf (suc i)) (aws (suc i) (n - i) (suc n) p) ≡ lin S (Rf 0) (aws i (suc (n - i)) (suc n) p)
  aw-mid i n p b =
      Lf-aws (suc i) (suc i) (n - i) (suc n) p ∙ (ap (lin S (λ z. eta S (z, bk (suc i) p.1))) (fr-top i (n - i) (suc n) p.0 (omega (arith, b))) ∙
      (ap (λ y. lin S (λ z. eta S (z, y)) (fr (suc (n - i)) (suc n) p.0)) (sym (bk-zero i p.1)) ∙ sym (Rf-aws 0 i (suc (n - i)) (suc n) p)))

  -- the differential of tensors of simplices
  unfoldable pub dL : ℕ → Q2 → Ch S Q2
  dL zero q = o S
  dL (suc n) q = tot S (suc (suc n)) (λ a. sg S a (Lf a q))

  unfoldable pub dR : ℕ → Q2 → Ch S Q2
  dR zero q = o S
  dR (suc n) q = tot S (suc (suc n)) (λ a. sg S a (Rf a q))

  unfoldable pub dT : Q2 → Ch S Q2
  dT q = add S (dL (len q.0.0) q) (sg S (len q.0.0) (dR (len q.1.0) q))

  abbrev pub Ten : ℕ → ℕ → Q2 → Type 0
  Ten i j q = (len q.0.0 ≡ i) × (fls q.0.0 ≡ A.dim q.0.1) × (len q.1.0 ≡ j) × (fls q.1.0 ≡ B.dim q.1.1) × A.Is q.0.1 × B.Is q.1.1

  pub aws-ten : (i n : ℕ) (p : Q2) → Good S A B n p → i ≤ n → All S (Ten i (n - i)) (aws i (n - i) n p)
  unfolding aws
  aws-ten i n p g l = all-lin S (λ z. (len z.0 + (n - i) ≡ n) × (fls z.0 ≡ A.dim z.1) × A.Is z.1) (Ten i (n - i)) (λ z. eta S (z, bk i p.1)) (fr (n - i) n p.0)
      (fr-sim (n - i) n p.0 (omega arith) (g.0, g.1, g.4))
      (λ z w. let b = bk-sim i n p.1 l (g.2, g.3, g.5) in all-eta S (Ten i (n - i)) (z, bk i p.1) (omega (arith, w.0, l), w.1, omega (arith, b.0), b.1, w.2, b.2))

  pub lin-dL : (n : ℕ) (c : Ch S Q2) → lin S (dL (suc n)) c ≡ tot S (suc (suc n)) (λ a. sg S a (lin S (Lf a) c))
  unfolding dL
  lin-dL n c = lin-tots S (suc (suc n)) (λ a q. sg S a (Lf a q)) c ∙
      tot-on S (suc (suc n)) (λ a. lin S (λ q. sg S a (Lf a q)) c) (λ a. sg S a (lin S (Lf a) c)) (λ a l. lin-sgs S a (Lf a) c)

  pub lin-dR : (n : ℕ) (c : Ch S Q2) → lin S (dR (suc n)) c ≡ tot S (suc (suc n)) (λ a. sg S a (lin S (Rf a) c))
  unfolding dR
  lin-dR n c = lin-tots S (suc (suc n)) (λ a q. sg S a (Rf a q)) c ∙
      tot-on S (suc (suc n)) (λ a. lin S (λ q. sg S a (Rf a q)) c) (λ a. sg S a (lin S (Rf a) c)) (λ a l. lin-sgs S a (Rf a) c)

  pub lin-dT : (i j : ℕ) (c : Ch S Q2) → All S (Ten i j) c → lin S dT c ≡ add S (lin S (dL i) c) (sg S i (lin S (dR j) c))
  unfolding dT
  lin-dT i j c a =
      lin-on S (Ten i j) dT (λ q. add S (dL i q) (sg S i (dR j q))) c a
      (λ q w. ap (λ t. add S (dL t q) (sg S t (dR (len q.1.0) q))) w.0 ∙ ap (λ t. add S (dL i q) (sg S i (dR t q))) w.2) ∙
      (lin-sum S (dL i) (λ q. sg S i (dR j q)) c ∙ ap (λ v. add S (lin S (dL i) c) v) (lin-sgs S i (dR j) c))

  pub lin-os-at : (c : Ch S Q2) → lin S (λ (q : Q2). o S {K = Q2}) c ≡ o S
  lin-os-at c = lin-os S c

  pub four : (u v x : Ch S Q2) → add S (add S u (neg S x)) (add S x v) ≡ add S u v
  four u v x = assoc S u (neg S x) (add S x v) ∙ ap (λ t. add S u t) (sym (assoc S (neg S x) x v) ∙ (ap (λ t. add S t v) (comm S (neg S x) x ∙ inverse S x) ∙ unit-l S v))

  module _ (n : ℕ) (p : Q2) (g : Good S A B (suc n) p) where
    abbrev pub aw : ℕ → Ch S Q2
    aw i = aws i (suc n - i) (suc n) p

    abbrev pub Us : ℕ → Ch S Q2
    Us i = tot S (suc i) (λ a. sg S a (lin S (Lf a) (aw (suc i))))

    abbrev pub Vs : ℕ → Ch S Q2
    Vs i = tot S (suc (n - i)) (λ b. sg S (suc i + b) (lin S (Rf (suc b)) (aw i)))

    abbrev pub Xs : ℕ → Ch S Q2
    Xs i = lin S (Rf 0) (aw i)

    pub aw-suc : (i : ℕ) → i ≤ n → aw (suc i) ≡ aws (suc i) (n - i) (suc n) p
    aw-suc i l = let e : suc n - suc i ≡ n - i = omega arith in ap (λ t. aws (suc i) t (suc n) p) e

    pub aw-at : (i : ℕ) → i ≤ n → aw i ≡ aws i (suc (n - i)) (suc n) p
    aw-at i l = let e : suc n - i ≡ suc (n - i) = omega (arith, l) in ap (λ t. aws i t (suc n) p) e

    pub inner : (i : ℕ) → i ≤ n → tot S (suc (suc n)) (λ a. sg S a (lin S (aws i (n - i) n) (pf S A B a p))) ≡ add S (Us i) (Vs i)
    inner i l =
        let e : suc (suc n) ≡ suc i + suc (n - i) = omega (arith, l) in
        let f : ℕ → Ch S Q2 = λ a. sg S a (lin S (aws i (n - i) n) (pf S A B a p)) in
        ap (λ t. tot S t f) e ∙ (tot-app S Q2 (suc i) (suc (n - i)) f ∙
        (ap (λ v. add S v (tot S (suc (n - i)) (λ b. f (suc i + b))))
        (tot-on S (suc i) f (λ a. sg S a (lin S (Lf a) (aw (suc i))))
        (λ a b. ap (sg S a) (aw-low a i n p g (omega (arith, b)) l ∙ ap (lin S (Lf a)) (sym (aw-suc i l))))) ∙
        ap (λ v. add S (Us i) v)
        (tot-on S (suc (n - i)) (λ b. f (suc i + b)) (λ b. sg S (suc i + b) (lin S (Rf (suc b)) (aw i)))
        (λ b m. ap (sg S (suc i + b)) (aw-high (suc i + b) i b n p g (omega arith) l (omega (arith, m, l)) ∙ ap (lin S (Rf (suc b))) (sym (aw-at i l)))))))

    pub left-side : lin S (AWs n) (bd S A B (suc n) p) ≡ tot S (suc n) (λ i. add S (Us i) (Vs i))
    unfolding AWs
    left-side =
        let G : ℕ → ℕ → Ch S Q2 = λ i a. lin S (aws i (n - i) n) (pf S A B a p) in
        lin-of-bd S A B n (AWs n) p ∙
        (tot-on S (suc (suc n)) (λ a. sg S a (lin S (AWs n) (pf S A B a p))) (λ a. tot S (suc n) (λ i. sg S a (G i a)))
        (λ a l. ap (sg S a) (lin-tots S (suc n) (λ i. aws i (n - i) n) (pf S A B a p)) ∙ sg-tot S a (suc n) (λ i. G i a)) ∙
        (tot-swap S Q2 (suc (suc n)) (suc n) (λ i a. sg S a (G i a)) ∙
        tot-on S (suc n) (λ i. tot S (suc (suc n)) (λ a. sg S a (G i a))) (λ i. add S (Us i) (Vs i)) (λ i l. inner i (omega (arith, l)))))

    abbrev pub Lp : ℕ → Ch S Q2
    Lp i = lin S (dL i) (aw i)

    abbrev pub Rp : ℕ → Ch S Q2
    Rp i = sg S i (lin S (dR (suc n - i)) (aw i))

    pub Lp-suc : (i : ℕ) → i ≤ n → Lp (suc i) ≡ add S (Us i) (neg S (sg S i (Xs i)))
    unfolding tot sg
    Lp-suc i l = lin-dL i (aw (suc i)) ∙
        ap (λ v. add S (Us i) (neg S (sg S i v))) (ap (lin S (Lf (suc i))) (aw-suc i l) ∙ (aw-mid i n p l ∙ ap (lin S (Rf 0)) (sym (aw-at i l))))

    pub Rp-at : (i : ℕ) → i ≤ n → Rp i ≡ add S (sg S i (Xs i)) (Vs i)
    unfolding sg
    Rp-at i l =
        let e : suc n - i ≡ suc (n - i) = omega (arith, l) in
        let c : Ch S Q2 = aw i in
        let f : ℕ → Ch S Q2 = λ a. sg S a (lin S (Rf a) c) in
        ap (λ t. sg S i (lin S (dR t) c)) e ∙ (ap (sg S i) (lin-dR (n - i) c ∙ tot-first S Q2 (suc (n - i)) f) ∙
        (sg-add S i (Xs i) (tot S (suc (n - i)) (λ b. f (suc b))) ∙ ap (λ v. add S (sg S i (Xs i)) v)
        (sg-tot S i (suc (n - i)) (λ b. f (suc b)) ∙ tot-on S (suc (n - i)) (λ b. sg S i (f (suc b))) (λ b. sg S (suc i + b) (lin S (Rf (suc b)) c))
        (λ b m. let q : suc i + b ≡ i + suc b = omega arith in sym (ap (λ t. sg S t (lin S (Rf (suc b)) c)) q ∙ sg-plus S i (suc b) (lin S (Rf (suc b)) c))))))

    pub right-side : lin S dT (AWs (suc n) p) ≡ tot S (suc n) (λ i. add S (Us i) (Vs i))
    unfolding AWs tot dL dR
    right-side =
        let z1 : tot S (suc (suc n)) Lp ≡ tot S (suc n) (λ i. add S (Us i) (neg S (sg S i (Xs i))))
        = tot-first S Q2 (suc n) Lp ∙ (ap (λ v. add S v (tot S (suc n) (λ i. Lp (suc i)))) (lin-os-at (aw 0)) ∙ (unit-l S (tot S (suc n) (λ i. Lp (suc i))) ∙
        tot-on S (suc n) (λ i. Lp (suc i)) (λ i. add S (Us i) (neg S (sg S i (Xs i)))) (λ i l. Lp-suc i (omega (arith, l))))) in
        let e : suc n - suc n ≡ 0 = omega arith in
        let z2 : tot S (suc (suc n)) Rp ≡ tot S (suc n) (λ i. add S (sg S i (Xs i)) (Vs i))
        = ap (λ v. add S (tot S (suc n) Rp) v) (ap (λ t. sg S (suc n) (lin S (dR t) (aw (suc n)))) e ∙ (ap (sg S (suc n)) (lin-os-at (aw (suc n))) ∙ sg-o S (suc n))) ∙
        (unit S (tot S (suc n) Rp) ∙ tot-on S (suc n) Rp (λ i. add S (sg S i (Xs i)) (Vs i)) (λ i l. Rp-at i (omega (arith, l)))) in
        lin-tot S (suc (suc n)) dT aw ∙
        (tot-on S (suc (suc n)) (λ i. lin S dT (aw i)) (λ i. add S (Lp i) (Rp i)) (λ i l. lin-dT i (suc n - i) (aw i) (aws-ten i (suc n) p g (omega (arith, l)))) ∙
        (tot-add S (suc (suc n)) Lp Rp ∙
        (ap (λ v. add S v (tot S (suc (suc n)) Rp)) z1 ∙ (ap (λ v. add S (tot S (suc n) (λ i. add S (Us i) (neg S (sg S i (Xs i))))) v) z2 ∙
        (sym (tot-add S (suc n) (λ i. add S (Us i) (neg S (sg S i (Xs i)))) (λ i. add S (sg S i (Xs i)) (Vs i))) ∙
        tot-on S (suc n) (λ i. add S (add S (Us i) (neg S (sg S i (Xs i)))) (add S (sg S i (Xs i)) (Vs i))) (λ i. add S (Us i) (Vs i))
        (λ i l. four (Us i) (Vs i) (sg S i (Xs i))))))))

    pub aw-faces : lin S (AWs n) (bd S A B (suc n) p) ≡ lin S dT (AWs (suc n) p)
    aw-faces = left-side ∙ sym right-side
