-- The Alexander-Whitney map on normalised chains.
use Rattle.std.specs.Prelude.{◌≡◌, refl, ℕ, ◌<◌, ◌≤◌, ◌+◌, ◌-◌, List, [], ◌∷◌, Bool, true, false, cond, ◌++◌}
use Rattle.std.proofs.Common.{sym, ◌∙◌, ap, inl, inr, arith, zero, suc}
use Rattle.simp_ops.specs.PathWords.{Step, left as H, right as V}
use Rattle.ez_laws.proofs.Matches.{two}
use Rattle.ez_laws.proofs.WordFaces.{face, len, isV, isH, bits, len-bits, absd-true}
use Rattle.ez_laws.proofs.WordRanks.{fls}
use Rattle.ez_laws.proofs.WordPlaces.{at, at-above, at-lo, at-hi, at-len, face-same, absd-at, absd-at-suc, Common, none-common, view}
use Rattle.ez_laws.proofs.Functionals.{Coefficients, Ch}
use Rattle.ez_laws.proofs.ChainLaws.{o, add, neg, eta, lin, sg, tot, All, unit, unit-l, lin-eta, lin-lin, lin-o, lin-os, lin-add, lin-sg, lin-tot, lin-on, lin-on-o, all-tot, all-mono, tot-on, tot-o, sg-o}
use Rattle.ez_laws.proofs.PairFaces.{LeftSystem, RightSystem, K, P, raw, nu, nu-raw, Good, Ok, good-raw}
use Rattle.ez_laws.proofs.PairComplex.{order, tot-two, bd, bd-good, d, dk, dk-nu, d-zero, nu-none, cases}
use Rattle.ez_laws.proofs.Fronts.{SimX, SimY, Stepped, x-terms, y-terms, fr, bk, fr-at, bk-at, aws, AWs, Lf, Rf, dL, dR, dT, Ten, aws-ten, aw-faces}

unfoldable pub plain : List Bool → Bool
plain [] = true
plain (true ∷ w) = false
plain (false ∷ w) = plain w

unfoldable pub falses : ℕ → List Bool
falses zero = []
falses (suc n) = false ∷ falses n

pub plain-falses : (w : List Bool) → plain w ≡ true → w ≡ falses (fls w)
unfolding plain falses fls
plain-falses [] e = refl
plain-falses (true ∷ w) e = absd-true (sym e)
plain-falses (false ∷ w) e = ap (λ x. false ∷ x) (plain-falses w e)

pub falses-plain : (n : ℕ) → (plain (falses n) ≡ true) × (fls (falses n) ≡ n) × (len (falses n) ≡ n)
unfolding plain falses fls len
falses-plain zero = (refl, refl, refl)
falses-plain (suc n) = let w = falses-plain n in (w.0, ap suc w.1, ap suc w.2)

pub not-plain : (w : List Bool) → plain w ≡ false → (j : ℕ) × (at j w ≡ true)
unfolding plain at
not-plain [] e = absd-true e
not-plain (true ∷ w) e = (zero, refl)
not-plain (false ∷ w) e = let r = not-plain w e in (suc r.0, r.1)

pub at-not-plain : (j : ℕ) (w : List Bool) → at j w ≡ true → plain w ≡ false
unfolding plain at
at-not-plain j [] e = absd-true (sym e)
at-not-plain j (true ∷ w) e = refl
at-not-plain zero (false ∷ w) e = absd-true (sym e)
at-not-plain (suc j) (false ∷ w) e = at-not-plain j w e

pub far-at : (i t : ℕ) (w : List Bool) → (i ≡ t → ⊥) → (i ≡ suc t → ⊥) → at t w ≡ true → (s : ℕ) × (at s (face i w) ≡ true)
far-at i zero w n1 n2 e = let l : suc zero < i = omega (arith, n1, n2) in (zero, at-hi i zero w l e)
far-at i (suc t) w n1 n2 e = elim (order i t) as (λ x. (s : ℕ) × (at s (face i w) ≡ true)) [
  | inl l ↦ (t, at-lo i t w l e)
  | inr l ↦ (let h : suc (suc t) < i = omega (arith, l, n1, n2) in (suc t, at-hi i (suc t) w h e))
]

pub at-bits : (f : Step → Bool) (u r : List Step) (a : Step) → at (len u) (bits f (u ++ (a ∷ r))) ≡ f a
unfolding at bits len
at-bits f [] r a = refl
at-bits f (c ∷ u) r a = at-bits f u r a

pub at-bits-suc : (f : Step → Bool) (u r : List Step) (a b : Step) → at (suc (len u)) (bits f (u ++ (a ∷ (b ∷ r)))) ≡ f b
unfolding at bits len
at-bits-suc f [] r a b = refl
at-bits-suc f (c ∷ u) r a b = at-bits-suc f u r a b

module _ (S : Coefficients) (A : LeftSystem S) (B : RightSystem) where
  abbrev pub Te : Type 0
  Te = A.X × B.X

  abbrev pub Q2 : Type 0
  Q2 = P S A B

  abbrev pub KK : Type 0
  KK = K S A B

  unfoldable pub nut : Q2 → Ch S Te
  nut q = cond (plain q.0.0) (cond (plain q.1.0) (eta S (q.0.1, q.1.1)) (o S)) (o S)

  pub nut-left : (j : ℕ) (q : Q2) → at j q.0.0 ≡ true → nut q ≡ o S
  unfolding nut
  nut-left j q e = let f : plain q.0.0 ≡ false = at-not-plain j q.0.0 e in rw f refl

  pub cond-same : (b : Bool) (x : Ch S Te) → cond b x x ≡ x
  cond-same true x = refl
  cond-same false x = refl

  pub nut-right : (j : ℕ) (q : Q2) → at j q.1.0 ≡ true → nut q ≡ o S
  unfolding nut
  nut-right j q e = let f : plain q.1.0 ≡ false = at-not-plain j q.1.0 e in rw f (cond-same (plain q.0.0) (o S))

  pub nut-plain : (q : Q2) → plain q.0.0 ≡ true → plain q.1.0 ≡ true → nut q ≡ eta S (q.0.1, q.1.1)
  unfolding nut
  nut-plain q e f = rw (e, f) refl

  abbrev pub raw2 : Te → Q2
  raw2 z = ((falses (A.dim z.0), z.0), (falses (B.dim z.1), z.1))

  -- the differential of the tensor product of normalised chains
  unfoldable pub bT : Te → Ch S Te
  bT z = lin S nut (dT S A B (raw2 z))

  -- both parts are simplices
  abbrev pub Two : Q2 → Type 0
  Two q = (fls q.0.0 ≡ A.dim q.0.1) × (fls q.1.0 ≡ B.dim q.1.1) × A.Is q.0.1 × B.Is q.1.1

  pub nut-dL : (n : ℕ) (q : Q2) → lin S nut (dL S A B (suc n) q) ≡ tot S (suc (suc n)) (λ a. sg S a (lin S nut (Lf S A B a q)))
  unfolding dL
  nut-dL n q = lin-tot S (suc (suc n)) nut (λ a. sg S a (Lf S A B a q)) ∙
      tot-on S (suc (suc n)) (λ a. lin S nut (sg S a (Lf S A B a q))) (λ a. sg S a (lin S nut (Lf S A B a q))) (λ a l. lin-sg S a nut (Lf S A B a q))

  pub nut-dR : (n : ℕ) (q : Q2) → lin S nut (dR S A B (suc n) q) ≡ tot S (suc (suc n)) (λ a. sg S a (lin S nut (Rf S A B a q)))
  unfolding dR
  nut-dR n q = lin-tot S (suc (suc n)) nut (λ a. sg S a (Rf S A B a q)) ∙
      tot-on S (suc (suc n)) (λ a. lin S nut (sg S a (Rf S A B a q))) (λ a. sg S a (lin S nut (Rf S A B a q))) (λ a l. lin-sg S a nut (Rf S A B a q))

  pub tot-sg-o : (n : ℕ) (f : ℕ → Ch S Te) → ((a : ℕ) → a < n → f a ≡ o S) → tot S n (λ a. sg S a (f a)) ≡ o S
  tot-sg-o n f h = tot-o S n (λ a. sg S a (f a)) (λ a l. ap (sg S a) (h a l) ∙ sg-o S a)

  pub nut-Lf-right : (a t : ℕ) (q : Q2) → at t q.1.0 ≡ true → lin S nut (Lf S A B a q) ≡ o S
  unfolding Lf
  nut-Lf-right a t q e = lin-lin S (λ z. eta S (z, q.1)) nut (A.face a q.0) ∙
      (ap (λ T. lin S T (A.face a q.0)) (λ i z. (lin-eta S nut (z, q.1) ∙ nut-right t (z, q.1) e) i) ∙ lin-os S (A.face a q.0))

  pub nut-Rf-left : (a t : ℕ) (q : Q2) → at t q.0.0 ≡ true → lin S nut (Rf S A B a q) ≡ o S
  unfolding Rf
  nut-Rf-left a t q e = lin-eta S nut (q.0, B.face a q.1) ∙ nut-left t (q.0, B.face a q.1) e

  -- the left part of the differential of a tensor with a degenerate part
  pub dL-right : (n t : ℕ) (q : Q2) → at t q.1.0 ≡ true → lin S nut (dL S A B n q) ≡ o S
  unfolding dL
  dL-right zero t q e = lin-o S nut
  dL-right (suc n) t q e = nut-dL n q ∙ tot-sg-o (suc (suc n)) (λ a. lin S nut (Lf S A B a q)) (λ a l. nut-Lf-right a t q e)

  pub dR-left : (n t : ℕ) (q : Q2) → at t q.0.0 ≡ true → lin S nut (dR S A B n q) ≡ o S
  unfolding dR
  dR-left zero t q e = lin-o S nut
  dR-left (suc n) t q e = nut-dR n q ∙ tot-sg-o (suc (suc n)) (λ a. lin S nut (Rf S A B a q)) (λ a l. nut-Rf-left a t q e)

  pub dL-left : (n t : ℕ) (q : Q2) → SimX S A B n q.0 → at t q.0.0 ≡ true → lin S nut (dL S A B n q) ≡ o S
  unfolding dL Lf sg
  dL-left zero t q s e = lin-o S nut
  dL-left (suc n) t q s e =
      let l = at-len t q.0.0 e in
      let same : Lf S A B (suc t) q ≡ Lf S A B t q
      = ap (lin S (λ z. eta S (z, q.1))) (A.absorbed (suc t) n q.0 s.0 s.1 s.2 (omega (arith, l, s.0)) (absd-at-suc t q.0.0 e) ∙
      (ap (λ w. eta S (w, q.0.1)) (sym (face-same t q.0.0 e)) ∙ sym (A.absorbed t n q.0 s.0 s.1 s.2 (omega (arith, l, s.0)) (absd-at t q.0.0 e)))) in
      nut-dL n q ∙ tot-two S Te (suc (suc n)) t (λ a. sg S a (lin S nut (Lf S A B a q))) (omega (arith, l, s.0))
      (ap (λ x. neg S (sg S t (lin S nut x))) same)
      (λ a b n1 n2. ap (sg S a) (
      let r = far-at a t q.0.0 n1 n2 e in
      lin-lin S (λ z. eta S (z, q.1)) nut (A.face a q.0) ∙
      lin-on-o S (Stepped S A B a n q.0) (λ z. lin S nut (eta S (z, q.1))) (A.face a q.0) (x-terms S A B a n q.0 s (omega (arith, b)))
      (λ z w. lin-eta S nut (z, q.1) ∙ nut-left r.0 (z, q.1) (at-above r.0 (face a q.0.0) z.0 w.1 r.1))) ∙ sg-o S a)

  pub dR-right : (n t : ℕ) (q : Q2) → SimY S A B n q.1 → at t q.1.0 ≡ true → lin S nut (dR S A B n q) ≡ o S
  unfolding dR Rf sg
  dR-right zero t q s e = lin-o S nut
  dR-right (suc n) t q s e =
      let l = at-len t q.1.0 e in
      let same : Rf S A B (suc t) q ≡ Rf S A B t q
      = ap (λ y. eta S (q.0, y)) (B.absorbed (suc t) n q.1 s.0 s.1 s.2 (omega (arith, l, s.0)) (absd-at-suc t q.1.0 e) ∙
      (ap (λ w. (w, q.1.1)) (sym (face-same t q.1.0 e)) ∙ sym (B.absorbed t n q.1 s.0 s.1 s.2 (omega (arith, l, s.0)) (absd-at t q.1.0 e)))) in
      nut-dR n q ∙ tot-two S Te (suc (suc n)) t (λ a. sg S a (lin S nut (Rf S A B a q))) (omega (arith, l, s.0))
      (ap (λ x. neg S (sg S t (lin S nut x))) same)
      (λ a b n1 n2. ap (sg S a) (
      let r = far-at a t q.1.0 n1 n2 e in
      let w = y-terms S A B a n q.1 s (omega (arith, b)) in
      lin-eta S nut (q.0, B.face a q.1) ∙ nut-right r.0 (q.0, B.face a q.1) (at-above r.0 (face a q.1.0) (B.face a q.1).0 w.1 r.1)) ∙ sg-o S a)

  pub nut-dT : (q : Q2) → lin S nut (dT S A B q) ≡ add S (lin S nut (dL S A B (len q.0.0) q)) (sg S (len q.0.0) (lin S nut (dR S A B (len q.1.0) q)))
  unfolding dT
  nut-dT q = lin-add S nut (dL S A B (len q.0.0) q) (sg S (len q.0.0) (dR S A B (len q.1.0) q)) ∙
      ap (λ v. add S (lin S nut (dL S A B (len q.0.0) q)) v) (lin-sg S (len q.0.0) nut (dR S A B (len q.1.0) q))

  pub dT-none : (q : Q2) → lin S nut (dL S A B (len q.0.0) q) ≡ o S → lin S nut (dR S A B (len q.1.0) q) ≡ o S → lin S nut (dT S A B q) ≡ o S
  dT-none q a b = nut-dT q ∙ (ap (λ v. add S v (sg S (len q.0.0) (lin S nut (dR S A B (len q.1.0) q)))) a ∙
      (ap (λ v. add S (o S) (sg S (len q.0.0) v)) b ∙ (ap (λ v. add S (o S) v) (sg-o S (len q.0.0)) ∙ unit S (o S))))

  -- a chain of tensors may be normalised before or after the differential
  pub bT-nut : (q : Q2) → Two q → lin S bT (nut q) ≡ lin S nut (dT S A B q)
  unfolding bT
  bT-nut q g = elim (two (plain q.0.0)) as (λ x. lin S bT (nut q) ≡ lin S nut (dT S A B q)) [
    | inr e ↦
        let j = not-plain q.0.0 e in
        ap (lin S bT) (nut-left j.0 q j.1) ∙ (lin-o S bT ∙ sym (dT-none q (dL-left (len q.0.0) j.0 q (refl, g.0, g.2) j.1) (dR-left (len q.1.0) j.0 q j.1)))
    | inl e ↦ elim (two (plain q.1.0)) as (λ x. lin S bT (nut q) ≡ lin S nut (dT S A B q)) [
      | inr f ↦
          let j = not-plain q.1.0 f in
          ap (lin S bT) (nut-right j.0 q j.1) ∙ (lin-o S bT ∙ sym (dT-none q (dL-right (len q.0.0) j.0 q j.1) (dR-right (len q.1.0) j.0 q (refl, g.1, g.3) j.1)))
      | inl f ↦
          let a : q.0.0 ≡ falses (A.dim q.0.1) = plain-falses q.0.0 e ∙ ap falses g.0 in
          let b : q.1.0 ≡ falses (B.dim q.1.1) = plain-falses q.1.0 f ∙ ap falses g.1 in
          let r : raw2 (q.0.1, q.1.1) ≡ q = λ i. ((sym a i, q.0.1), (sym b i, q.1.1)) in
          ap (lin S bT) (nut-plain q e f) ∙ (lin-eta S bT (q.0.1, q.1.1) ∙ ap (λ x. lin S nut (dT S A B x)) r)
    ]
  ]

  pub bT-nut-ch : (c : Ch S Q2) → All S Two c → lin S bT (lin S nut c) ≡ lin S nut (lin S (dT S A B) c)
  bT-nut-ch c a = lin-lin S nut bT c ∙ (lin-on S Two (λ q. lin S bT (nut q)) (λ q. lin S nut (dT S A B q)) c a bT-nut ∙ sym (lin-lin S (dT S A B) nut c))

  -- summands of AW that vanish
  pub aws-left : (i n j : ℕ) (p : Q2) → Good S A B n p → i ≤ n → j < i → at j p.0.0 ≡ true → lin S nut (aws S A B i (n - i) n p) ≡ o S
  unfolding aws
  aws-left i n j p g b l e =
      lin-lin S (λ z. eta S (z, bk S A B i p.1)) nut (fr S A B (n - i) n p.0) ∙
      lin-on-o S (λ z. (len z.0 + (n - i) ≡ n) × (fls z.0 ≡ A.dim z.1) × (at j z.0 ≡ true) × A.Is z.1) (λ z. lin S nut (eta S (z, bk S A B i p.1))) (fr S A B (n - i) n p.0)
      (fr-at S A B j (n - i) n p.0 (omega (arith, b, l)) (g.0, g.1, g.4) e)
      (λ z w. lin-eta S nut (z, bk S A B i p.1) ∙ nut-left j (z, bk S A B i p.1) w.2)

  pub aws-right : (i n j : ℕ) (p : Q2) → Good S A B n p → i ≤ n → i ≤ j → at j p.1.0 ≡ true → lin S nut (aws S A B i (n - i) n p) ≡ o S
  unfolding aws
  aws-right i n j p g b l e =
      let q : i + (j - i) ≡ j = omega (arith, l) in
      let y : at (j - i) (bk S A B i p.1).0 ≡ true = bk-at S A B (j - i) i n p.1 b (g.2, g.3, g.5) (ap (λ t. at t p.1.0) q ∙ e) in
      lin-lin S (λ z. eta S (z, bk S A B i p.1)) nut (fr S A B (n - i) n p.0) ∙
      (ap (λ T. lin S T (fr S A B (n - i) n p.0)) (λ t z. (lin-eta S nut (z, bk S A B i p.1) ∙ nut-right (j - i) (z, bk S A B i p.1) y) t) ∙ lin-os S (fr S A B (n - i) n p.0))

  pub nut-AWs : (n : ℕ) (p : Q2) → lin S nut (AWs S A B n p) ≡ tot S (suc n) (λ i. lin S nut (aws S A B i (n - i) n p))
  unfolding AWs
  nut-AWs n p = lin-tot S (suc n) nut (λ i. aws S A B i (n - i) n p)

  -- a left place j and a right place at or after j (or before it, by one)
  pub AWs-none : (n j k : ℕ) (p : Q2) → Good S A B n p → at j p.0.0 ≡ true → at k p.1.0 ≡ true → j ≤ k → lin S nut (AWs S A B n p) ≡ o S
  AWs-none n j k p g e f l = nut-AWs n p ∙ tot-o S (suc n) (λ i. lin S nut (aws S A B i (n - i) n p)) (λ i b.
      elim (order i j) as (λ x. lin S nut (aws S A B i (n - i) n p) ≡ o S) [
        | inl m ↦ aws-right i n k p g (omega (arith, b)) (omega (arith, m, l)) f
        | inr m ↦ aws-left i n j p g (omega (arith, b)) m e
      ])

  unfoldable pub AW : KK → Ch S Te
  AW k = lin S nut (AWs S A B (len k.0) (raw S A B k))

  -- AW respects degenerates
  pub AW-nu : (n : ℕ) (p : Q2) → Good S A B n p → lin S AW (nu S A B p) ≡ lin S nut (AWs S A B n p)
  unfolding AW
  AW-nu n p g = elim (view p.0.0 p.1.0) as (λ x. lin S AW (nu S A B p) ≡ lin S nut (AWs S A B n p)) [
    | inr e ↦
        let c : Common p.0.0 p.1.0 = none-common p.0.0 p.1.0 (g.0 ∙ sym g.2) e in
        ap (lin S AW) (nu-none S A B p e) ∙ (lin-o S AW ∙ sym (AWs-none n c.j c.j p g c.left c.right (omega arith)))
    | inl z ↦
        let k : KK = (z.0, p.0.1, p.1.1) in
        let r : p ≡ raw S A B k = λ i. ((z.1.0 i, p.0.1), (z.1.1 i, p.1.1)) in
        let l : len z.0 ≡ n = sym (len-bits isV z.0) ∙ (ap len (sym z.1.0) ∙ g.0) in
        ap (λ x. lin S AW (nu S A B x)) r ∙ (ap (lin S AW) (nu-raw S A B k) ∙ (lin-eta S AW k ∙
        (ap (λ t. lin S nut (AWs S A B t (raw S A B k))) l ∙ ap (λ x. lin S nut (AWs S A B n x)) (sym r))))
  ]

  pub dT-point : (q : Q2) → len q.0.0 ≡ 0 → len q.1.0 ≡ 0 → dT S A B q ≡ o S
  unfolding dT dL dR sg
  dT-point q a b = ap (λ t. add S (dL S A B t q) (sg S t (dR S A B (len q.1.0) q))) a ∙ (ap (λ t. add S (o S) (dR S A B t q)) b ∙ unit S (o S))

  pub AWs-two : (n : ℕ) (p : Q2) → Good S A B n p → All S Two (AWs S A B n p)
  unfolding AWs
  AWs-two n p g = all-tot S (suc n) Two (λ i. aws S A B i (n - i) n p) (λ i l.
      all-mono S (Ten S A B i (n - i)) Two (aws S A B i (n - i) n p) (aws-ten S A B i n p g (omega (arith, l))) (λ q w. (w.1, w.3, w.4, w.5)))

  pub dT-zero : (p : Q2) → Good S A B 0 p → lin S (dT S A B) (AWs S A B 0 p) ≡ o S
  unfolding AWs tot
  dT-zero p g =
      let c : Ch S Q2 = aws S A B 0 (0 - 0) 0 p in
      ap (lin S (dT S A B)) (unit-l S c) ∙ lin-on-o S (Ten S A B 0 (0 - 0)) (dT S A B) c (aws-ten S A B 0 0 p g (omega arith)) (λ q w. dT-point q w.0 w.2)

  -- AW is a chain map
  pub AW-d : (k : KK) → Ok S A B k → lin S AW (d S A B k) ≡ lin S bT (AW k)
  unfolding AW d
  AW-d k ok = elim (cases S A B (len k.0)) as (λ x. lin S AW (d S A B k) ≡ lin S bT (AW k)) [
    | inl e ↦
        let g : Good S A B 0 (raw S A B k) = good-raw S A B 0 k e ok in
        ap (lin S AW) (d-zero S A B k e) ∙ (lin-o S AW ∙ sym (
        ap (λ t. lin S bT (lin S nut (AWs S A B t (raw S A B k)))) e ∙ (bT-nut-ch (AWs S A B 0 (raw S A B k)) (AWs-two 0 (raw S A B k) g) ∙
        (ap (lin S nut) (dT-zero (raw S A B k) g) ∙ lin-o S nut))))
    | inr e ↦
        let n : ℕ = e.0 in
        let p : Q2 = raw S A B k in
        let g : Good S A B (suc n) p = good-raw S A B (suc n) k e.1 ok in
        let c : Ch S Q2 = bd S A B (suc n) p in
        ap (λ t. lin S AW (dk S A B t k)) e.1 ∙ (ap (lin S AW) (dk-nu S A B n k) ∙
        (lin-lin S (nu S A B) AW c ∙ (lin-on S (Good S A B n) (λ q. lin S AW (nu S A B q)) (λ q. lin S nut (AWs S A B n q)) c (bd-good S A B n p g) (AW-nu n) ∙
        (sym (lin-lin S (AWs S A B n) nut c) ∙ (ap (lin S nut) (aw-faces S A B n p g) ∙ (sym (bT-nut-ch (AWs S A B (suc n) p) (AWs-two (suc n) p g)) ∙
        ap (λ t. lin S bT (lin S nut (AWs S A B t p))) (sym e.1)))))))
  ]

  -- AW of a target
  pub AW-target : (k : KK) (u r : List Step) → Ok S A B k → k.0 ≡ u ++ (V ∷ (H ∷ r)) → AW k ≡ o S
  unfolding AW isV isH
  AW-target k u r ok e = AWs-none (len k.0) (len u) (suc (len u)) (raw S A B k) (good-raw S A B (len k.0) k refl ok)
      (ap (λ x. at (len u) (bits isV x)) e ∙ at-bits isV u (H ∷ r) V) (ap (λ x. at (suc (len u)) (bits isH x)) e ∙ at-bits-suc isH u r V H) (omega arith)
