-- The complex of pairs: the boundary squares to zero, respects degenerate pairs, and carries the matching.
use Rattle.std.specs.Prelude.{◌≡◌, refl, ℕ, ◌<◌, ◌≤◌, ◌∷◌, true, ◌++◌, ◌⊎◌}
use Rattle.std.proofs.Common.{sym, ◌∙◌, ap, subst, inl, inr, arith, zero, suc}
use Rattle.simp_ops.specs.PathWords.{left as H, right as V, both as D}
use Rattle.ez_laws.proofs.Matches.{m, src, crit-in}
use Rattle.ez_laws.proofs.WordFaces.{face, absd, len, isV, len-bits}
use Rattle.ez_laws.proofs.WordRanks.{none, zip, ev, ev-D, Source, source, len-app}
use Rattle.ez_laws.proofs.WordPlaces.{at, at-above, at-lo, at-hi, face-same, absd-at, absd-at-suc, at-len, Common, none-common, common-none, view}
use Rattle.ez_laws.proofs.Functionals.{Coefficients, Ch}
use Rattle.ez_laws.proofs.SignedSums.{sgn, to, term, to-on, double}
use Rattle.ez_laws.proofs.ChainLaws.{o, add, neg, eta, lin, sg, tot, grp, All, assoc, comm, lcomm, unit, inverse, lin-eta, lin-lin, lin-o, lin-sg, lin-tot, lin-tots, lin-sgs, lin-on, lin-on-o, all-o, all-neg, all-sg, all-tot, all-mono, tot-on, tot-o, tot-add, sg-tot, sg-sg, sg-o, sg-add, sg-comm}
use Rattle.ez_laws.proofs.PairFaces.{LeftSystem, RightSystem, K, P, raw, nu, nu-raw, back, pf, kf, Good, Ok, good-raw, Faced, pf-terms, kf-all, kf-merge, rank-falls, up-ok, src-m, rank, Small, Near, up}
use Rattle.ez_laws.proofs.Flow.{Matching}

pub dec : (i j : ℕ) → (i ≡ j) ⊎ (i ≡ j → ⊥)
dec zero zero = inl refl
dec zero (suc j) = inr (λ e. omega (arith, e))
dec (suc i) zero = inr (λ e. omega (arith, e))
dec (suc i) (suc j) = elim (dec i j) as (λ x. (suc i ≡ suc j) ⊎ (suc i ≡ suc j → ⊥))
    [ inl e ↦ inl (ap suc e) | inr n ↦ inr (λ e. n (omega (arith, e))) ]

pub order : (i j : ℕ) → (i ≤ j) ⊎ (j < i)
order zero j = inl (omega arith)
order (suc i) zero = inr (omega arith)
order (suc i) (suc j) = elim (order i j) as (λ x. (suc i ≤ suc j) ⊎ (suc j < suc i)) [ inl l ↦ inl (omega (arith, l)) | inr l ↦ inr (omega (arith, l)) ]

module _ (S : Coefficients) (M : Type 0) where
  -- a sum with one place left out
  unfoldable pub omit : ℕ → (ℕ → Ch S M) → ℕ → Ch S M
  omit zero f zero = o S
  omit zero f (suc i) = f (suc i)
  omit (suc j) f zero = f zero
  omit (suc j) f (suc i) = omit j (λ n. f (suc n)) i

  pub omit-at : (j : ℕ) (f : ℕ → Ch S M) → omit j f j ≡ o S
  unfolding omit
  omit-at zero f = refl
  omit-at (suc j) f = omit-at j (λ n. f (suc n))

  pub omit-off : (j i : ℕ) (f : ℕ → Ch S M) → (i ≡ j → ⊥) → omit j f i ≡ f i
  unfolding omit
  omit-off zero zero f n = absurd (n refl)
  omit-off zero (suc i) f n = refl
  omit-off (suc j) zero f n = refl
  omit-off (suc j) (suc i) f n = omit-off j i (λ n. f (suc n)) (λ e. n (ap suc e))

  pub split-at : (n j : ℕ) (f : ℕ → Ch S M) → j < n → tot S n f ≡ add S (f j) (tot S n (omit j f))
  unfolding tot
  split-at zero j f l = absurd (omega (arith, l))
  split-at (suc n) j f l = elim (dec j n) as (λ x. add S (tot S n f) (f n) ≡ add S (f j) (add S (tot S n (omit j f)) (omit j f n))) [
    | inl e ↦
        let a : tot S n (omit j f) ≡ tot S n f = tot-on S n (omit j f) f (λ i b. omit-off j i f (λ q. omega (arith, q, e, b))) in
        let b : omit j f n ≡ o S = ap (omit j f) (sym e) ∙ omit-at j f in
        comm S (tot S n f) (f n) ∙ (ap (λ x. add S (f x) (tot S n f)) (sym e) ∙ ap (λ x. add S (f j) x) (sym (ap (λ x. add S (tot S n (omit j f)) x) b ∙ (unit S (tot S n (omit j f)) ∙ a))))
    | inr q ↦
        ap (λ x. add S x (f n)) (split-at n j f (omega (arith, l, q))) ∙ (assoc S (f j) (tot S n (omit j f)) (f n) ∙
        ap (λ x. add S (f j) (add S (tot S n (omit j f)) x)) (sym (omit-off j n f (λ e. q (sym e)))))
  ]

  -- two neighbours that cancel
  pub tot-two : (n j : ℕ) (f : ℕ → Ch S M) → suc j < n → f (suc j) ≡ neg S (f j)
      → ((i : ℕ) → i < n → (i ≡ j → ⊥) → (i ≡ suc j → ⊥) → f i ≡ o S) → tot S n f ≡ o S
  tot-two n j f l e h =
      let z : tot S n (omit (suc j) (omit j f)) ≡ o S = tot-o S n (omit (suc j) (omit j f)) (λ i b.
      elim (dec i (suc j)) as (λ x. omit (suc j) (omit j f) i ≡ o S) [
        | inl q ↦ ap (omit (suc j) (omit j f)) q ∙ omit-at (suc j) (omit j f)
        | inr q ↦ omit-off (suc j) i (omit j f) q ∙ (elim (dec i j) as (λ x. omit j f i ≡ o S)
            [ inl r ↦ ap (omit j f) r ∙ omit-at j f | inr r ↦ omit-off j i f r ∙ h i b r q ])
      ]) in
      split-at n j f (omega (arith, l)) ∙ (ap (λ x. add S (f j) x) (split-at n (suc j) (omit j f) l ∙
      (ap (λ x. add S (omit j f (suc j)) x) z ∙ (unit S (omit j f (suc j)) ∙ (omit-off j (suc j) f (λ q. omega (arith, q)) ∙ e)))) ∙ inverse S (f j))

  pub tot-swap : (a b : ℕ) (f : ℕ → ℕ → Ch S M) → tot S a (λ j. tot S b (λ i. f i j)) ≡ tot S b (λ i. tot S a (λ j. f i j))
  unfolding tot
  tot-swap zero b f = sym (tot-o S b (λ i. o S) (λ i l. refl))
  tot-swap (suc a) b f = ap (λ x. add S x (tot S b (λ i. f i a))) (tot-swap a b f) ∙ sym (tot-add S b (λ i. tot S a (λ j. f i j)) (λ i. f i a))

  pub sg-sgn : (n : ℕ) (x : Ch S M) → sg S n x ≡ sgn (grp S M) n x
  unfolding sg sgn
  sg-sgn zero x = refl
  sg-sgn (suc n) x = ap (neg S) (sg-sgn n x)

  pub tot-to : (n : ℕ) (f : ℕ → Ch S M) → tot S n f ≡ to (grp S M) n f
  unfolding tot to
  tot-to zero f = refl
  tot-to (suc n) f = ap (λ x. add S x (f n)) (tot-to n f)

  pub term-of : (i j : ℕ) (F : ℕ → ℕ → Ch S M) → sg S i (sg S j (F i j)) ≡ term (grp S M) F i j
  unfolding term
  term-of i j F = sg-sgn i (sg S j (F i j)) ∙ ap (sgn (grp S M) i) (sg-sgn j (F i j))

  -- the double sum for chains
  pub double-sum : (n : ℕ) (F : ℕ → ℕ → Ch S M) → ((i k : ℕ) → i ≤ k → k < n → F i (suc k) ≡ F k i)
      → tot S (suc n) (λ j. sg S j (tot S n (λ i. sg S i (F i j)))) ≡ o S
  double-sum n F e =
      tot-on S (suc n) (λ j. sg S j (tot S n (λ i. sg S i (F i j)))) (λ j. tot S n (λ i. sg S i (sg S j (F i j))))
      (λ j l. sg-tot S j n (λ i. sg S i (F i j)) ∙ tot-on S n (λ i. sg S j (sg S i (F i j))) (λ i. sg S i (sg S j (F i j))) (λ i b. sg-comm S j i (F i j))) ∙
      (tot-swap (suc n) n (λ i j. sg S i (sg S j (F i j))) ∙
      (tot-to n (λ i. tot S (suc n) (λ j. sg S i (sg S j (F i j)))) ∙
      (to-on (grp S M) n (λ i. tot S (suc n) (λ j. sg S i (sg S j (F i j)))) (λ i. to (grp S M) (suc n) (λ j. term (grp S M) F i j))
      (λ i l. tot-to (suc n) (λ j. sg S i (sg S j (F i j))) ∙ to-on (grp S M) (suc n) (λ j. sg S i (sg S j (F i j))) (λ j. term (grp S M) F i j)
      (λ j b. term-of i j F)) ∙
      double (grp S M) n F e)))

module _ (S : Coefficients) (A : LeftSystem S) (B : RightSystem) where
  abbrev pub KK : Type 0
  KK = K S A B

  abbrev pub PP : Type 0
  PP = P S A B

  pub pf-pf : (i j : ℕ) (p : PP) → lin S (pf S A B i) (pf S A B j p) ≡ lin S (λ x. eta S (x, B.face i (B.face j p.1))) (lin S (A.face i) (A.face j p.0))
  unfolding pf
  pf-pf i j p =
      lin-lin S (λ x. eta S (x, B.face j p.1)) (pf S A B i) (A.face j p.0) ∙
      (ap (λ T. lin S T (A.face j p.0)) (λ t x. lin-eta S (pf S A B i) (x, B.face j p.1) t) ∙
      sym (lin-lin S (A.face i) (λ x. eta S (x, B.face i (B.face j p.1))) (A.face j p.0)))

  -- the face law on pairs
  pub pf-twice : (i k n : ℕ) (p : PP) → Good S A B (suc (suc n)) p → i ≤ k → k ≤ suc n → lin S (pf S A B i) (pf S A B (suc k) p) ≡ lin S (pf S A B k) (pf S A B i p)
  pf-twice i k n p g a b =
      pf-pf i (suc k) p ∙ (ap (λ y. lin S (λ x. eta S (x, y)) (lin S (A.face i) (A.face (suc k) p.0))) (B.twice i k n p.1 g.2 g.3 g.5 a b) ∙
      (ap (lin S (λ x. eta S (x, B.face k (B.face i p.1)))) (A.twice i k n p.0 g.0 g.1 g.4 a b) ∙ sym (pf-pf k i p)))

  -- the boundary of pairs of degree n
  unfoldable pub bd : ℕ → PP → Ch S PP
  bd zero p = o S
  bd (suc n) p = tot S (suc (suc n)) (λ i. sg S i (pf S A B i p))

  unfoldable pub dk : ℕ → KK → Ch S KK
  dk zero k = o S
  dk (suc n) k = tot S (suc (suc n)) (λ i. sg S i (kf S A B i k))

  unfoldable pub d : KK → Ch S KK
  d k = dk (len k.0) k

  pub lin-bd : (n : ℕ) (c : Ch S PP) → lin S (bd (suc n)) c ≡ tot S (suc (suc n)) (λ i. sg S i (lin S (pf S A B i) c))
  unfolding bd
  lin-bd n c = lin-tots S (suc (suc n)) (λ i p. sg S i (pf S A B i p)) c ∙
      tot-on S (suc (suc n)) (λ i. lin S (λ p. sg S i (pf S A B i p)) c) (λ i. sg S i (lin S (pf S A B i) c)) (λ i l. lin-sgs S i (pf S A B i) c)

  pub lin-of-bd : {M : Type 0} (n : ℕ) (T : PP → Ch S M) (p : PP) → lin S T (bd (suc n) p) ≡ tot S (suc (suc n)) (λ i. sg S i (lin S T (pf S A B i p)))
  unfolding bd
  lin-of-bd n T p = lin-tot S (suc (suc n)) T (λ i. sg S i (pf S A B i p)) ∙
      tot-on S (suc (suc n)) (λ i. lin S T (sg S i (pf S A B i p))) (λ i. sg S i (lin S T (pf S A B i p))) (λ i l. lin-sg S i T (pf S A B i p))

  -- the boundary of a boundary is 0
  pub bd-bd : (n : ℕ) (p : PP) → Good S A B (suc (suc n)) p → lin S (bd (suc n)) (bd (suc (suc n)) p) ≡ o S
  bd-bd n p g =
      lin-of-bd (suc n) (bd (suc n)) p ∙
      (tot-on S (suc (suc (suc n))) (λ j. sg S j (lin S (bd (suc n)) (pf S A B j p))) (λ j. sg S j (tot S (suc (suc n)) (λ i. sg S i (lin S (pf S A B i) (pf S A B j p)))))
      (λ j l. ap (sg S j) (lin-bd n (pf S A B j p))) ∙
      double-sum S PP (suc (suc n)) (λ i j. lin S (pf S A B i) (pf S A B j p)) (λ i k a b. pf-twice i k n p g a (omega (arith, b))))

  pub bd-good : (n : ℕ) (p : PP) → Good S A B (suc n) p → All S (Good S A B n) (bd (suc n) p)
  unfolding bd
  bd-good n p g = all-tot S (suc (suc n)) (Good S A B n) (λ i. sg S i (pf S A B i p)) (λ i l.
      all-sg S i (Good S A B n) (pf S A B i p) (all-mono S (Faced S A B i n p) (Good S A B n) (pf S A B i p) (pf-terms S A B i n p g (omega (arith, l))) (λ q w. w.0)))

  pub dk-nu : (n : ℕ) (k : KK) → dk (suc n) k ≡ lin S (nu S A B) (bd (suc n) (raw S A B k))
  unfolding dk kf
  dk-nu n k = sym (lin-of-bd n (nu S A B) (raw S A B k))

  -- degenerate pairs
  pub nu-none : (p : PP) → zip p.0.0 p.1.0 ≡ none → nu S A B p ≡ o S
  unfolding nu back
  nu-none p e = rw e refl

  pub kill : (i n t : ℕ) (p : PP) → Good S A B (suc n) p → i ≤ suc n → at t (face i p.0.0) ≡ true → at t (face i p.1.0) ≡ true → lin S (nu S A B) (pf S A B i p) ≡ o S
  kill i n t p g l e f = lin-on-o S (Faced S A B i n p) (nu S A B) (pf S A B i p) (pf-terms S A B i n p g l)
      (λ q w. nu-none q (common-none t q.0.0 q.1.0 (at-above t (face i p.0.0) q.0.0 w.1 e) (at-above t (face i p.1.0) q.1.0 w.2 f)))

  pub pf-abs : (i n : ℕ) (p : PP) → Good S A B (suc n) p → i ≤ suc n → absd i p.0.0 ≡ true → absd i p.1.0 ≡ true
      → pf S A B i p ≡ eta S ((face i p.0.0, p.0.1), (face i p.1.0, p.1.1))
  unfolding pf
  pf-abs i n p g l e f =
      ap (lin S (λ x. eta S (x, B.face i p.1))) (A.absorbed i n p.0 g.0 g.1 g.4 l e) ∙
      (lin-eta S (λ x. eta S (x, B.face i p.1)) (face i p.0.0, p.0.1) ∙ ap (λ y. eta S ((face i p.0.0, p.0.1), y)) (B.absorbed i n p.1 g.2 g.3 g.5 l f))

  pub far : (i n j : ℕ) (p : PP) → Good S A B (suc n) p → i ≤ suc n → (i ≡ j → ⊥) → (i ≡ suc j → ⊥) → at j p.0.0 ≡ true → at j p.1.0 ≡ true
      → lin S (nu S A B) (pf S A B i p) ≡ o S
  far i n zero p g b n1 n2 e f =
      let l : suc zero < i = omega (arith, n1, n2) in
      kill i n zero p g b (at-hi i zero p.0.0 l e) (at-hi i zero p.1.0 l f)
  far i n (suc j) p g b n1 n2 e f = elim (order i j) as (λ x. lin S (nu S A B) (pf S A B i p) ≡ o S) [
    | inl l ↦ kill i n j p g b (at-lo i j p.0.0 l e) (at-lo i j p.1.0 l f)
    | inr l ↦
        let h : suc (suc j) < i = omega (arith, l, n1, n2) in
        kill i n (suc j) p g b (at-hi i (suc j) p.0.0 h e) (at-hi i (suc j) p.1.0 h f)
  ]

  -- the boundary of a degenerate pair is degenerate
  pub bd-degenerate : (n : ℕ) (p : PP) → Good S A B (suc n) p → zip p.0.0 p.1.0 ≡ none → lin S (nu S A B) (bd (suc n) p) ≡ o S
  unfolding sg
  bd-degenerate n p g e =
      let c : Common p.0.0 p.1.0 = none-common p.0.0 p.1.0 (g.0 ∙ sym g.2) e in
      let j : ℕ = c.j in
      let l = at-len j p.0.0 c.left in
      let same : pf S A B (suc j) p ≡ pf S A B j p
      = pf-abs (suc j) n p g (omega (arith, l, g.0)) (absd-at-suc j p.0.0 c.left) (absd-at-suc j p.1.0 c.right) ∙
      (ap (λ w. eta S ((w, p.0.1), (face (suc j) p.1.0, p.1.1))) (sym (face-same j p.0.0 c.left)) ∙
      (ap (λ w. eta S ((face j p.0.0, p.0.1), (w, p.1.1))) (sym (face-same j p.1.0 c.right)) ∙
      sym (pf-abs j n p g (omega (arith, l, g.0)) (absd-at j p.0.0 c.left) (absd-at j p.1.0 c.right)))) in
      lin-of-bd n (nu S A B) p ∙
      tot-two S KK (suc (suc n)) j (λ i. sg S i (lin S (nu S A B) (pf S A B i p))) (omega (arith, l, g.0))
      (ap (λ x. neg S (sg S j (lin S (nu S A B) x))) same)
      (λ i b n1 n2. ap (sg S i) (far i n j p g (omega (arith, b)) n1 n2 c.left c.right) ∙ sg-o S i)

  -- a chain of pairs may be normalised before or after the boundary
  pub d-nu-at : (n : ℕ) (q : PP) → Good S A B (suc n) q → lin S d (nu S A B q) ≡ lin S (nu S A B) (bd (suc n) q)
  unfolding d
  d-nu-at n q g = elim (view q.0.0 q.1.0) as (λ x. lin S d (nu S A B q) ≡ lin S (nu S A B) (bd (suc n) q)) [
    | inr e ↦ ap (lin S d) (nu-none q e) ∙ (lin-o S d ∙ sym (bd-degenerate n q g e))
    | inl z ↦
        let k : KK = (z.0, q.0.1, q.1.1) in
        let r : q ≡ raw S A B k = λ i. ((z.1.0 i, q.0.1), (z.1.1 i, q.1.1)) in
        let l : len z.0 ≡ suc n = sym (len-bits isV z.0) ∙ (ap len (sym z.1.0) ∙ g.0) in
        ap (λ x. lin S d (nu S A B x)) r ∙ (ap (lin S d) (nu-raw S A B k) ∙ (lin-eta S d k ∙ (ap (λ t. dk t k) l ∙ (dk-nu n k ∙ ap (λ x. lin S (nu S A B) (bd (suc n) x)) (sym r)))))
  ]

  pub d-nu : (n : ℕ) (c : Ch S PP) → All S (Good S A B (suc n)) c → lin S d (lin S (nu S A B) c) ≡ lin S (nu S A B) (lin S (bd (suc n)) c)
  d-nu n c a = lin-lin S (nu S A B) d c ∙ (lin-on S (Good S A B (suc n)) (λ q. lin S d (nu S A B q)) (λ q. lin S (nu S A B) (bd (suc n) q)) c a (d-nu-at n) ∙
      sym (lin-lin S (bd (suc n)) (nu S A B) c))

  -- the generators of d k
  pub d-terms : (n : ℕ) (k : KK) → len k.0 ≡ suc n → Ok S A B k → All S (λ q. (len q.0 ≡ n) × Ok S A B q) (d k)
  unfolding d dk
  d-terms n k l ok = subst (λ t. All S (λ q. (len q.0 ≡ n) × Ok S A B q) (dk t k)) (sym l)
      (all-tot S (suc (suc n)) (λ q. (len q.0 ≡ n) × Ok S A B q) (λ i. sg S i (kf S A B i k)) (λ i b.
      all-sg S i (λ q. (len q.0 ≡ n) × Ok S A B q) (kf S A B i k) (kf-all S A B i n k l ok (omega (arith, b)) (λ q. (len q.0 ≡ n) × Ok S A B q) (λ q dq oq av ah. (dq, oq)))))

  pub d-zero : (k : KK) → len k.0 ≡ 0 → d k ≡ o S
  unfolding d dk
  d-zero k l = ap (λ t. dk t k) l

  pub cases : (n : ℕ) → (n ≡ 0) ⊎ ((i : ℕ) × (n ≡ suc i))
  cases zero = inl refl
  cases (suc n) = inr (n, refl)

  pub d-ok : (k : KK) → Ok S A B k → All S (Ok S A B) (d k)
  d-ok k ok = elim (cases (len k.0)) as (λ x. All S (Ok S A B) (d k)) [
    | inl e ↦ subst (All S (Ok S A B)) (sym (d-zero k e)) (all-o S (Ok S A B))
    | inr e ↦ all-mono S (λ q. (len q.0 ≡ e.0) × Ok S A B q) (Ok S A B) (d k) (d-terms e.0 k e.1 ok) (λ q w. w.1)
  ]

  pub d-d : (k : KK) → Ok S A B k → lin S d (d k) ≡ o S
  unfolding d
  d-d k ok = elim (cases (len k.0)) as (λ x. lin S d (d k) ≡ o S) [
    | inl e ↦ ap (lin S d) (d-zero k e) ∙ lin-o S d
    | inr e ↦ elim (cases e.0) as (λ x. lin S d (d k) ≡ o S) [
      | inl f ↦ lin-on-o S (λ q. (len q.0 ≡ e.0) × Ok S A B q) d (d k) (d-terms e.0 k e.1 ok) (λ q w. d-zero q (w.0 ∙ f))
      | inr f ↦
          let l : len k.0 ≡ suc (suc f.0) = e.1 ∙ ap suc f.1 in
          let g : Good S A B (suc (suc f.0)) (raw S A B k) = good-raw S A B (suc (suc f.0)) k l ok in
          ap (λ t. lin S d (dk t k)) l ∙ (ap (lin S d) (dk-nu (suc f.0) k) ∙ (d-nu f.0 (bd (suc (suc f.0)) (raw S A B k)) (bd-good (suc f.0) (raw S A B k) g) ∙
          (ap (lin S (nu S A B)) (bd-bd f.0 (raw S A B k) g) ∙ lin-o S (nu S A B))))
    ]
  ]

  pub source-face : (s : KK) → src s.0 ≡ true → Ok S A B s → kf S A B (suc (ev s.0)) (up S A B s) ≡ eta S s
  source-face s e ok =
      let q : Source s.0 = source s.0 e in
      let a : m s.0 ≡ q.u ++ (V ∷ (H ∷ q.r)) = ap m q.eq ∙ crit-in q.u q.r q.quiet in
      let j : ev s.0 ≡ len q.u = ap ev q.eq ∙ ev-D q.u q.r q.quiet in
      ap (λ t. kf S A B (suc t) (up S A B s)) j ∙
      (kf-merge S A B (len s.0) (m s.0) q.u q.r V H s.1 s.2 (src-m S A B s.0 e).1 (up-ok S A B s e ok) a (inr (refl, refl)) ∙ ap (λ w. eta S (w, s.1, s.2)) (sym q.eq))

  pub ev-le : (s : KK) → src s.0 ≡ true → suc (ev s.0) < suc (suc (len s.0))
  unfolding len
  ev-le s e =
      let q : Source s.0 = source s.0 e in
      let j : ev s.0 ≡ len q.u = ap ev q.eq ∙ ev-D q.u q.r q.quiet in
      let l = ap len q.eq ∙ len-app q.u (D ∷ q.r) in
      omega (arith, j, l)

  -- the matching of Eilenberg and Zilber
  unfoldable pub others : KK → Ch S KK
  others s = tot S (suc (suc (len s.0))) (omit S KK (suc (ev s.0)) (λ i. sg S i (kf S A B i (up S A B s))))

  unfoldable pub rest : KK → Ch S KK
  rest s = neg S (sg S (suc (ev s.0)) (others s))

  pub d-up : (s : KK) → src s.0 ≡ true → Ok S A B s → d (up S A B s) ≡ add S (sg S (suc (ev s.0)) (eta S s)) (others s)
  unfolding d dk others
  d-up s e ok =
      let f : ℕ → Ch S KK = λ i. sg S i (kf S A B i (up S A B s)) in
      let j : ℕ = suc (ev s.0) in
      ap (λ t. dk t (up S A B s)) (src-m S A B s.0 e).1 ∙
      (split-at S KK (suc (suc (len s.0))) j f (ev-le s e) ∙ ap (λ x. add S (sg S j x) (tot S (suc (suc (len s.0))) (omit S KK j f))) (source-face s e ok))

  pub split : (s : KK) → Ok S A B s → src s.0 ≡ true → eta S s ≡ add S (rest s) (sg S (suc (ev s.0)) (d (up S A B s)))
  unfolding rest
  split s ok e =
      let j : ℕ = suc (ev s.0) in
      let R : Ch S KK = sg S j (others s) in
      let a : sg S j (d (up S A B s)) ≡ add S (eta S s) R
      = ap (sg S j) (d-up s e ok) ∙ (sg-add S j (sg S j (eta S s)) (others s) ∙ ap (λ x. add S x R) (sg-sg S j (eta S s))) in
      sym (ap (λ x. add S (neg S R) x) a ∙ (lcomm S (neg S R) (eta S s) R ∙ (ap (λ x. add S (eta S s) x) (comm S (neg S R) R ∙ inverse S R) ∙ unit S (eta S s))))

  pub small : (s : KK) → Ok S A B s → src s.0 ≡ true → All S (Small S A B s) (rest s)
  unfolding rest others
  small s ok e =
      let j : ℕ = suc (ev s.0) in
      let Q : KK → Type 0 = Small S A B s in
      let f : ℕ → Ch S KK = λ i. sg S i (kf S A B i (up S A B s)) in
      all-neg S Q (sg S j (others s)) (all-sg S j Q (others s) (all-tot S (suc (suc (len s.0))) Q (omit S KK j f) (λ i b.
      elim (dec i j) as (λ x. All S Q (omit S KK j f i)) [
        | inl q ↦ subst (All S Q) (sym (ap (omit S KK j f) q ∙ omit-at S KK j f)) (all-o S Q)
        | inr q ↦ subst (All S Q) (sym (omit-off S KK j i f q)) (all-sg S i Q (kf S A B i (up S A B s)) (rank-falls S A B i s e ok (omega (arith, b)) q))
      ])))

  abbrev pub matching : Matching S KK
  matching = record {
    Ok = Ok S A B;
    src = λ k. src k.0;
    up = up S A B;
    u = λ k. suc (ev k.0);
    rank = rank S A B;
    d = d;
    rest = rest;
    Near = Near S A B;
    split = split;
    small = small;
    up-ok = λ s ok e. up-ok S A B s e ok;
    up-src = λ s ok e. (src-m S A B s.0 e).0;
    d-ok = d-ok;
    dd = d-d;
  }
