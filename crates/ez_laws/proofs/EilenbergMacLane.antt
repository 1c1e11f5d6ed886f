-- The Eilenberg-Mac Lane map: it is the critical pair and targets, a right inverse of AW, and the flow vanishes on its boundary.
use Rattle.std.specs.Prelude.{◌≡◌, refl, ℕ, ◌<◌, ◌≤◌, ◌+◌, ◌-◌, List, [], ◌∷◌, Bool, true, false, ◌++◌, ◌||◌, ◌⊎◌}
use Rattle.std.proofs.Common.{sym, ◌∙◌, ap, subst, inl, inr, arith, zero, suc}
use Rattle.simp_ops.specs.PathWords.{Step, left as H, right as V, both as D}
use Rattle.ez_laws.proofs.Matches.{m, src, crit, crit-in, inv, two}
use Rattle.ez_laws.proofs.WordFaces.{face, absd, len, isV, isH, bits, len-bits, hv-abs}
use Rattle.ez_laws.proofs.WordRanks.{fls, Split, both, Source, source, noD, noD-src, len-app}
use Rattle.ez_laws.proofs.WordPlaces.{at}
use Rattle.ez_laws.proofs.Functionals.{Coefficients, Ch}
use Rattle.ez_laws.proofs.SignedSums.{sum}
use Rattle.ez_laws.proofs.ChainLaws.{o, add, eta, lin, sg, tot, grp, All, unit, lin-eta, lin-lin, lin-o, lin-add, lin-sg, lin-sgs, lin-tot, lin-tots, lin-on, lin-on-o, all-eta, tot-on, tot-o, sg-o}
use Rattle.ez_laws.proofs.PairFaces.{LeftSystem, RightSystem, K, P, raw, kf, kf-noD, kf-merge, Good, Ok, good-raw, up, up-ok, down-ok}
use Rattle.ez_laws.proofs.PairComplex.{dec, order, omit, split-at, omit-off, d, dk, d-zero, d-ok, d-d, cases, matching}
use Rattle.ez_laws.proofs.Fronts.{fr, bk, aws}
use Rattle.ez_laws.proofs.AlexanderWhitney.{plain, falses, falses-plain, nut, nut-plain, aws-left, aws-right, nut-AWs, AW, AW-target}
use Rattle.ez_laws.proofs.Shuffles.{hc, Wd, sum-o, swap, ltr, ltr-app, ltr-len, ltr-noD, ltr-fls, cb, cb-wd, target-match, tail, sum-tail, all-sum, all-tail, lin-of-sum}
use Rattle.ez_laws.proofs.Flow as Fl

pub at-left : (n p j : ℕ) → p ≤ j → j < n → at j (bits isV (ltr (cb n p))) ≡ true
unfolding at bits isV ltr cb
at-left zero p j a b = absurd (omega (arith, b))
at-left (suc n) zero zero a b = refl
at-left (suc n) zero (suc j) a b = at-left n zero j (omega arith) (omega (arith, b))
at-left (suc n) (suc p) zero a b = absurd (omega (arith, a))
at-left (suc n) (suc p) (suc j) a b = at-left n p j (omega (arith, a)) (omega (arith, b))

pub at-right : (n p j : ℕ) → j < p → p ≤ n → at j (bits isH (ltr (cb n p))) ≡ true
unfolding at bits isH ltr cb
at-right n zero j a b = absurd (omega (arith, a))
at-right zero (suc p) j a b = absurd (omega (arith, b))
at-right (suc n) (suc p) zero a b = refl
at-right (suc n) (suc p) (suc j) a b = at-right n p j (omega (arith, a)) (omega (arith, b))

pub last-face : (n p : ℕ) → p ≤ n → (face (suc n) (bits isV (ltr (cb (suc n) p))) ≡ bits isV (ltr (cb n p))) × (absd (suc n) (bits isV (ltr (cb (suc n) p))) ≡ true)
unfolding face absd bits isV ltr cb
last-face zero zero l = (refl, refl)
last-face zero (suc p) l = absurd (omega (arith, l))
last-face (suc n) zero l = let r = last-face n zero (omega arith) in (ap (λ x. true ∷ x) r.0, r.1)
last-face (suc n) (suc p) l = let r = last-face n p (omega (arith, l)) in (ap (λ x. false ∷ x) r.0, r.1)

pub left-full : (p : ℕ) → bits isV (ltr (cb p p)) ≡ falses p
unfolding bits isV ltr cb falses
left-full zero = refl
left-full (suc p) = ap (λ x. false ∷ x) (left-full p)

pub right-plain : (n : ℕ) → plain (bits isH (ltr (cb n 0))) ≡ true
unfolding plain bits isH ltr cb
right-plain zero = refl
right-plain (suc n) = right-plain n

pub len-swap : (u v : List Bool) → len (u ++ (true ∷ (false ∷ v))) ≡ len (u ++ (false ∷ (true ∷ v)))
unfolding len
len-swap [] v = refl
len-swap (b ∷ u) v = ap suc (len-swap u v)

pub hc-swap : (u v : List Bool) → hc (u ++ (true ∷ (false ∷ v))) ≡ hc (u ++ (false ∷ (true ∷ v)))
unfolding hc
hc-swap [] v = refl
hc-swap (true ∷ u) v = ap suc (hc-swap u v)
hc-swap (false ∷ u) v = hc-swap u v

pub wd-swap : (u v : List Bool) (n p : ℕ) → Wd n p (u ++ (true ∷ (false ∷ v))) → Wd n p (u ++ (false ∷ (true ∷ v)))
wd-swap u v n p t = (sym (len-swap u v) ∙ t.0, sym (hc-swap u v) ∙ t.1)

module _ (S : Coefficients) (A : LeftSystem S) (B : RightSystem) where
  abbrev pub Te : Type 0
  Te = A.X × B.X

  abbrev pub KK : Type 0
  KK = K S A B

  pub cb-left : (n p : ℕ) → p ≤ n → (len (bits isV (ltr (cb n p))) ≡ n) × (fls (bits isV (ltr (cb n p))) ≡ p)
  cb-left n p l = let w = cb-wd n p l in (len-bits isV (ltr (cb n p)) ∙ (ltr-len (cb n p) ∙ w.0), (ltr-fls (cb n p)).0 ∙ w.1)

  -- the front of a critical pair is its left cell
  pub fr-crit : (r n p : ℕ) (c : A.X) → A.Is c → p + r ≡ n → A.dim c ≡ p → fr S A B r n (bits isV (ltr (cb n p)), c) ≡ eta S (falses p, c)
  unfolding fr
  fr-crit zero n p c is e h = let q : n ≡ p = omega (arith, e) in ap (λ t. eta S (bits isV (ltr (cb t p)), c)) q ∙ ap (λ w. eta S (w, c)) (left-full p)
  fr-crit (suc r) zero p c is e h = absurd (omega (arith, e))
  fr-crit (suc r) (suc n) p c is e h =
      let l : p ≤ n = omega (arith, e) in
      let s = cb-left (suc n) p (omega (arith, l)) in
      let f = last-face n p l in
      ap (lin S (fr S A B r n)) (A.absorbed (suc n) n (bits isV (ltr (cb (suc n) p)), c) s.0 (s.1 ∙ sym h) is (omega arith) f.1 ∙ ap (λ w. eta S (w, c)) f.0) ∙
      (lin-eta S (fr S A B r n) (bits isV (ltr (cb n p)), c) ∙ fr-crit r n p c is (omega (arith, e)) h)

  -- its back is its right cell
  pub bk-crit : (n p : ℕ) (e : B.X) → B.Is e → p ≤ n → fls (bits isH (ltr (cb n p))) ≡ B.dim e
      → (w : List Bool) × (bk S A B p (bits isH (ltr (cb n p)), e) ≡ (w, e)) × (plain w ≡ true)
  unfolding bk ltr cb bits isH face absd fls len
  bk-crit n zero e is l h = (bits isH (ltr (cb n 0)), refl, right-plain n)
  bk-crit zero (suc p) e is l h = absurd (omega (arith, l))
  bk-crit (suc n) (suc p) e is l h =
      let r = bk-crit n p e is (omega (arith, l)) h in
      let k : len (bits isH (ltr (cb n p))) ≡ n = len-bits isH (ltr (cb n p)) ∙ (ltr-len (cb n p) ∙ (cb-wd n p (omega (arith, l))).0) in
      (r.0, ap (bk S A B p) (B.absorbed 0 n (true ∷ bits isH (ltr (cb n p)), e) (ap suc k) h is (omega arith) refl) ∙ r.1, r.2)

  pub tot-one : {M : Type 0} (n j : ℕ) (f : ℕ → Ch S M) → j < n → ((i : ℕ) → i < n → (i ≡ j → ⊥) → f i ≡ o S) → tot S n f ≡ f j
  tot-one {M} n j f l h =
      split-at S M n j f l ∙ (ap (λ x. add S (f j) x) (tot-o S n (omit S M j f) (λ i b. elim (dec i j) as (λ x. omit S M j f i ≡ o S)
      [ inl q ↦ ap (omit S M j f) q ∙ Rattle.ez_laws.proofs.PairComplex.omit-at S M j f | inr q ↦ omit-off S M j i f q ∙ h i b q ])) ∙ unit S (f j))

  pub aw-critical : (n p : ℕ) (c : A.X) (e : B.X) → A.Is c → B.Is e → A.dim c ≡ p → p + B.dim e ≡ n → AW S A B (ltr (cb n p), c, e) ≡ eta S (c, e)
  unfolding AW aws
  aw-critical n p c e ic ie hc he =
      let k : KK = (ltr (cb n p), c, e) in
      let l : p ≤ n = omega (arith, he) in
      let w = cb-wd n p l in
      let f = ltr-fls (cb n p) in
      let ln : len k.0 ≡ n = ltr-len (cb n p) ∙ w.0 in
      let ok : Ok S A B k = (f.0 ∙ (w.1 ∙ sym hc), omega (arith, f.1, w.0, w.1, he), ic, ie) in
      let x : P S A B = raw S A B k in
      let g : Good S A B n x = good-raw S A B n k ln ok in
      let b = bk-crit n p e ie l ok.1 in
      ap (λ t. lin S (nut S A B) (Rattle.ez_laws.proofs.Fronts.AWs S A B t x)) ln ∙ (nut-AWs S A B n x ∙
      (tot-one (suc n) p (λ i. lin S (nut S A B) (aws S A B i (n - i) n x)) (omega (arith, l))
      (λ i m q. elim (order i p) as (λ y. lin S (nut S A B) (aws S A B i (n - i) n x) ≡ o S) [
        | inl y ↦ aws-right S A B i n i x g (omega (arith, m)) (omega arith) (at-right n p i (omega (arith, y, q)) l)
        | inr y ↦ aws-left S A B i n p x g (omega (arith, m)) y (at-left n p p (omega arith) (omega (arith, y, m)))
      ]) ∙
      (ap (λ v. lin S (nut S A B) (lin S (λ z. eta S (z, bk S A B p x.1)) v)) (fr-crit (n - p) n p c ic (omega (arith, l)) hc) ∙
      (ap (lin S (nut S A B)) (lin-eta S (λ z. eta S (z, bk S A B p x.1)) (falses p, c)) ∙
      (lin-eta S (nut S A B) ((falses p, c), bk S A B p x.1) ∙
      (ap (λ y. nut S A B ((falses p, c), y)) b.1 ∙ nut-plain S A B ((falses p, c), (b.0, e)) (falses-plain p).0 b.2))))))

  -- EML
  abbrev pub kw : Te → List Bool → KK
  kw z w = (ltr w, z.0, z.1)

  abbrev pub OkT : Te → Type 0
  OkT z = A.Is z.0 × B.Is z.1

  abbrev pub size : Te → ℕ
  size z = A.dim z.0 + B.dim z.1

  unfoldable pub EML : Te → Ch S KK
  EML z = sum (grp S KK) (size z) (A.dim z.0) (λ w. eta S (kw z w))

  pub kw-ok : (z : Te) → OkT z → (w : List Bool) → Wd (size z) (A.dim z.0) w → Ok S A B (kw z w)
  kw-ok z oz w t = let f = ltr-fls w in (f.0 ∙ t.1, omega (arith, f.1, t.0, t.1), oz.0, oz.1)

  abbrev pub k : KK → Ch S KK
  k = Fl.k S KK (matching S A B)

  abbrev pub Target : KK → Type 0
  Target = Fl.Target S KK (matching S A B)

  -- a generator that is no source and not critical is a target
  pub is-target : (x : KK) → Ok S A B x → src x.0 ≡ false → crit x.0 ≡ false → Target x
  unfolding Fl.Target
  is-target x ok a b =
      let s : KK = (m x.0, x.1, x.2) in
      let e : src s.0 ≡ true = target-match x.0 a b in
      let q : up S A B s ≡ x = ap (λ W. (W, x.1, x.2)) (inv x.0) in
      (s, down-ok S A B s e (subst (Ok S A B) (sym q) ok), e, q)

  abbrev pub crit-of : Te → KK
  crit-of z = kw z (cb (size z) (A.dim z.0))

  unfoldable pub rest-of : Te → Ch S KK
  rest-of z = tail S KK (size z) (A.dim z.0) (λ w. eta S (kw z w))

  -- EML is the critical pair and targets
  pub EML-split : (z : Te) → EML z ≡ add S (eta S (crit-of z)) (rest-of z)
  unfolding EML rest-of
  EML-split z = sum-tail S KK (size z) (A.dim z.0) (λ w. eta S (kw z w)) (omega arith)

  pub rest-targets : (z : Te) → OkT z → All S Target (rest-of z)
  unfolding rest-of
  rest-targets z oz = all-tail S KK Target (size z) (A.dim z.0) (λ w. eta S (kw z w)) (λ w t c.
      all-eta S Target (kw z w) (is-target (kw z w) (kw-ok z oz w t) (noD-src (ltr w) (ltr-noD w)) c))

  abbrev pub Shuffle : Te → KK → Type 0
  Shuffle z q = (len q.0 ≡ size z) × Ok S A B q × (q.1 ≡ z.0) × (q.2 ≡ z.1)

  pub EML-terms : (z : Te) → OkT z → All S (Shuffle z) (EML z)
  unfolding EML
  EML-terms z oz = all-sum S KK (Shuffle z) (size z) (A.dim z.0) (λ w. eta S (kw z w)) (λ w t. all-eta S (Shuffle z) (kw z w) (ltr-len w ∙ t.0, kw-ok z oz w t, refl, refl))

  pub AW-up : (s : KK) → Ok S A B s → src s.0 ≡ true → AW S A B (up S A B s) ≡ o S
  AW-up s ok e =
      let q : Source s.0 = source s.0 e in
      AW-target S A B (up S A B s) q.u q.r (up-ok S A B s e ok) (ap m q.eq ∙ crit-in q.u q.r q.quiet)

  -- AW EML = 1
  pub AW-EML : (z : Te) → OkT z → lin S (AW S A B) (EML z) ≡ eta S z
  unfolding Fl.Target
  AW-EML z oz =
      ap (lin S (AW S A B)) (EML-split z) ∙ (lin-add S (AW S A B) (eta S (crit-of z)) (rest-of z) ∙
      (ap (λ v. add S (lin S (AW S A B) (eta S (crit-of z))) v)
      (lin-on-o S Target (AW S A B) (rest-of z) (rest-targets z oz) (λ t w. ap (AW S A B) (sym w.3) ∙ AW-up w.0 w.1 w.2)) ∙
      (unit S (lin S (AW S A B) (eta S (crit-of z))) ∙ (lin-eta S (AW S A B) (crit-of z) ∙ aw-critical (size z) (A.dim z.0) z.0 z.1 oz.0 oz.1 refl refl))))

  pub k-noD : (c : Ch S KK) → All S (λ q. noD q.0 ≡ true) c → lin S k c ≡ o S
  k-noD c a = lin-on-o S (λ q. noD q.0 ≡ true) k c a (λ q w. Fl.k-off S KK (matching S A B) q (noD-src q.0 w))

  pub face-alike : (z : Te) → OkT z → (n i : ℕ) (w : List Bool) → size z ≡ suc n → i ≤ suc n → Wd (size z) (A.dim z.0) w
      → (absd i (bits isV (ltr w)) ≡ false) ⊎ (absd i (bits isH (ltr w)) ≡ false) → lin S k (kf S A B i (kw z w)) ≡ o S
  face-alike z oz n i w e l t x = k-noD (kf S A B i (kw z w)) (kf-noD S A B i n (kw z w) (ltr-len w ∙ (t.0 ∙ e)) (kw-ok z oz w t) l (ltr-noD w) x)

  -- the first and the last face of a shuffle
  pub face-end : (n i : ℕ) (W : List Step) → len W ≡ n → (i ≡ 0) ⊎ (i ≡ n) → (absd i (bits isV W) ≡ false) ⊎ (absd i (bits isH W) ≡ false)
  unfolding len
  face-end n i W e x = elim (two (absd i (bits isV W))) as (λ y. (absd i (bits isV W) ≡ false) ⊎ (absd i (bits isH W) ≡ false)) [
    | inr y ↦ inl y
    | inl y ↦ elim (two (absd i (bits isH W))) as (λ y. (absd i (bits isV W) ≡ false) ⊎ (absd i (bits isH W) ≡ false)) [
      | inr v ↦ inr v
      | inl v ↦
          let s : Split i W = both i W y v in
          let l : len W ≡ len s.u + suc (suc (len s.r)) = ap len s.eq ∙ len-app s.u (s.a ∷ (s.b ∷ s.r)) in
          absurd (elim x as (λ y. ⊥) [ inl h ↦ omega (arith, h, s.pos) | inr h ↦ omega (arith, h, s.pos, l, e) ])
    ]
  ]

  pub face-mid : (z : Te) → OkT z → (n j : ℕ) → size z ≡ suc n → suc j ≤ n
      → sum (grp S KK) (size z) (A.dim z.0) (λ w. lin S k (kf S A B (suc j) (kw z w))) ≡ o S
  unfolding ltr len isV isH
  face-mid z oz n j e l = swap (grp S KK) j (size z) (A.dim z.0) (λ w. lin S k (kf S A B (suc j) (kw z w))) (omega (arith, e, l)) (λ u v q.
      let p : suc j ≡ suc (len (ltr u)) = ap suc (sym q ∙ sym (ltr-len u)) in
      let ab : (f : Step → Bool) (a b : Bool) (x : Step) (y : Step) (t : Bool) → ltr (u ++ (a ∷ (b ∷ v))) ≡ ltr u ++ (x ∷ (y ∷ ltr v)) → (f x || f y) ≡ t
      → absd (suc j) (bits f (ltr (u ++ (a ∷ (b ∷ v))))) ≡ t
      = λ f a b x y t h g. ap (λ i. absd i (bits f (ltr (u ++ (a ∷ (b ∷ v)))))) p ∙ (ap (λ W. absd (suc (len (ltr u))) (bits f W)) h ∙ (hv-abs f (ltr u) (ltr v) x y ∙ g)) in
      let mg : (a b : Bool) (x y : Step) → Wd (size z) (A.dim z.0) (u ++ (a ∷ (b ∷ v))) → ltr (u ++ (a ∷ (b ∷ v))) ≡ ltr u ++ (x ∷ (y ∷ ltr v))
      → ((x ≡ H) × (y ≡ V)) ⊎ ((x ≡ V) × (y ≡ H)) → kf S A B (suc j) (kw z (u ++ (a ∷ (b ∷ v)))) ≡ eta S (ltr u ++ (D ∷ ltr v), z.0, z.1)
      = λ a b x y t h s. ap (λ i. kf S A B i (kw z (u ++ (a ∷ (b ∷ v))))) p ∙
      kf-merge S A B n (ltr (u ++ (a ∷ (b ∷ v)))) (ltr u) (ltr v) x y z.0 z.1 (ltr-len (u ++ (a ∷ (b ∷ v))) ∙ (t.0 ∙ e)) (kw-ok z oz (u ++ (a ∷ (b ∷ v))) t) h s in (
        λ t. ap (lin S k) (mg true false H V t (ltr-app u (true ∷ (false ∷ v))) (inl (refl, refl)) ∙
            sym (mg false true V H (wd-swap u v (size z) (A.dim z.0) t) (ltr-app u (false ∷ (true ∷ v))) (inr (refl, refl)))),
        λ t. face-alike z oz n (suc j) (u ++ (true ∷ (true ∷ v))) e (omega (arith, l)) t (inl (ab isV true true H H false (ltr-app u (true ∷ (true ∷ v))) refl)),
        λ t. face-alike z oz n (suc j) (u ++ (false ∷ (false ∷ v))) e (omega (arith, l)) t (inr (ab isH false false V V false (ltr-app u (false ∷ (false ∷ v))) refl)),
      ))

  pub face-any : (z : Te) → OkT z → (n i : ℕ) → size z ≡ suc n → i ≤ suc n → sum (grp S KK) (size z) (A.dim z.0) (λ w. lin S k (kf S A B i (kw z w))) ≡ o S
  face-any z oz n zero e l = sum-o (grp S KK) (size z) (A.dim z.0) (λ w. lin S k (kf S A B zero (kw z w)))
      (λ w t. face-alike z oz n zero w e l t (face-end (size z) zero (ltr w) (ltr-len w ∙ t.0) (inl refl)))
  face-any z oz n (suc j) e l = elim (dec (suc j) (suc n)) as (λ x. sum (grp S KK) (size z) (A.dim z.0) (λ w. lin S k (kf S A B (suc j) (kw z w))) ≡ o S) [
    | inl q ↦ sum-o (grp S KK) (size z) (A.dim z.0) (λ w. lin S k (kf S A B (suc j) (kw z w)))
        (λ w t. face-alike z oz n (suc j) w e l t (face-end (size z) (suc j) (ltr w) (ltr-len w ∙ t.0) (inr (q ∙ sym e))))
    | inr q ↦ face-mid z oz n j e (omega (arith, l, q))
  ]

  pub face-all : (z : Te) → OkT z → (n i : ℕ) → size z ≡ suc n → i ≤ suc n → lin S k (lin S (kf S A B i) (EML z)) ≡ o S
  unfolding EML
  face-all z oz n i e l =
      let F : List Bool → Ch S KK = λ w. lin S k (kf S A B i (kw z w)) in
      lin-lin S (kf S A B i) k (sum (grp S KK) (size z) (A.dim z.0) (λ w. eta S (kw z w))) ∙
      (lin-of-sum S KK (size z) (A.dim z.0) (λ q. lin S k (kf S A B i q)) (λ w. eta S (kw z w)) ∙
      (ap (sum (grp S KK) (size z) (A.dim z.0)) (λ t w. lin-eta S (λ q. lin S k (kf S A B i q)) (kw z w) t) ∙
      face-any z oz n i e l))

  pub flow-ends : (z : Te) → OkT z → lin S k (lin S (d S A B) (EML z)) ≡ o S
  unfolding d dk
  flow-ends z oz = elim (cases S A B (size z)) as (λ x. lin S k (lin S (d S A B) (EML z)) ≡ o S) [
    | inl e ↦ ap (lin S k) (lin-on-o S (Shuffle z) (d S A B) (EML z) (EML-terms z oz) (λ q w. d-zero S A B q (w.0 ∙ e))) ∙ lin-o S k
    | inr e ↦
        let n : ℕ = e.0 in
        let c : Ch S KK = EML z in
        let step : lin S (d S A B) c ≡ tot S (suc (suc n)) (λ i. sg S i (lin S (kf S A B i) c))
        = lin-on S (Shuffle z) (d S A B) (dk S A B (suc n)) c (EML-terms z oz) (λ q w. ap (λ t. dk S A B t q) (w.0 ∙ e.1)) ∙
        (lin-tots S (suc (suc n)) (λ i q. sg S i (kf S A B i q)) c ∙
        tot-on S (suc (suc n)) (λ i. lin S (λ q. sg S i (kf S A B i q)) c) (λ i. sg S i (lin S (kf S A B i) c)) (λ i l. lin-sgs S i (kf S A B i) c)) in
        ap (lin S k) step ∙ (lin-tot S (suc (suc n)) k (λ i. sg S i (lin S (kf S A B i) c)) ∙
        tot-o S (suc (suc n)) (λ i. lin S k (sg S i (lin S (kf S A B i) c))) (λ i l.
        lin-sg S i k (lin S (kf S A B i) c) ∙ (ap (sg S i) (face-all z oz n i e.1 (omega (arith, l))) ∙ sg-o S i)))
  ]
