-- Chains as additive functionals on test functions: the group, linear extension between different keys, signs, sums, support.
use Rattle.std.specs.Prelude.{◌≡◌, refl, ℕ, ◌<◌, ◌+◌}
use Rattle.std.proofs.Common.{sym, ◌∙◌, ap, arith, zero, suc}
use Rattle.ez_laws.proofs.Functionals.{Coefficients, Ch, ch-ext, cancel-F}
use Rattle.ez_laws.proofs.SignedSums.{Grp}

-- chains over a ring: the group, linear extension between different generators, sums, support
module _ (S : Coefficients) where
  pub F-neg-o : S.neg S.o ≡ S.o
  F-neg-o = sym (S.unit (S.neg S.o)) ∙ (S.comm (S.neg S.o) S.o ∙ S.inverse S.o)

  pub F-neg-neg : (x : S.F) → S.neg (S.neg x) ≡ x
  F-neg-neg x = cancel-F S (S.neg (S.neg x)) x (S.neg x) (S.comm (S.neg (S.neg x)) (S.neg x) ∙ (S.inverse (S.neg x) ∙ sym (S.inverse x)))

  pub F-neg-add : (x y : S.F) → S.neg (S.add x y) ≡ S.add (S.neg x) (S.neg y)
  F-neg-add x y =
      let e : S.add (S.add (S.neg x) (S.neg y)) (S.add x y) ≡ S.add (S.add x (S.neg x)) (S.add y (S.neg y)) = simp (S.assoc, S.comm, S.lcomm) refl in
      let z : S.add (S.add x (S.neg x)) (S.add y (S.neg y)) ≡ S.o = ap (λ v. S.add v (S.add y (S.neg y))) (S.inverse x) ∙ (ap (λ v. S.add S.o v) (S.inverse y) ∙ S.unit S.o) in
      cancel-F S (S.neg (S.add x y)) (S.add (S.neg x) (S.neg y)) (S.add x y)
      (S.comm (S.neg (S.add x y)) (S.add x y) ∙ (S.inverse (S.add x y) ∙ sym (e ∙ z)))

  unfoldable pub o : {K : Type 0} → Ch S K
  o = record { run = λ f. S.o; additive = λ f g. sym (S.unit S.o) }

  unfoldable pub add : {K : Type 0} → Ch S K → Ch S K → Ch S K
  add c d = record {
    run = λ f. S.add (c.run f) (d.run f);
    additive = λ f g. rw (c.additive f g, d.additive f g) (simp (S.assoc, S.lcomm) refl);
  }

  unfoldable pub neg : {K : Type 0} → Ch S K → Ch S K
  neg c = record {
    run = λ f. S.neg (c.run f);
    additive = λ f g. ap S.neg (c.additive f g) ∙ F-neg-add (c.run f) (c.run g);
  }

  unfoldable pub eta : {K : Type 0} → K → Ch S K
  eta k = record { run = λ f. f k; additive = λ f g. refl }

  unfoldable pub lin : {K M : Type 0} → (K → Ch S M) → Ch S K → Ch S M
  lin T c = record {
    run = λ f. c.run (λ k. (T k).run f);
    additive = λ f g. ap c.run (λ i k. (T k).additive f g i) ∙ c.additive (λ k. (T k).run f) (λ k. (T k).run g);
  }

  -- the laws
  pub assoc : {K : Type 0} (x y z : Ch S K) → add (add x y) z ≡ add x (add y z)
  unfolding add
  assoc {K} x y z = ch-ext S K (add (add x y) z) (add x (add y z)) (λ f. S.assoc (x.run f) (y.run f) (z.run f))

  pub comm : {K : Type 0} (x y : Ch S K) → add x y ≡ add y x
  unfolding add
  comm {K} x y = ch-ext S K (add x y) (add y x) (λ f. S.comm (x.run f) (y.run f))

  pub lcomm : {K : Type 0} (x y z : Ch S K) → add x (add y z) ≡ add y (add x z)
  unfolding add
  lcomm {K} x y z = ch-ext S K (add x (add y z)) (add y (add x z)) (λ f. S.lcomm (x.run f) (y.run f) (z.run f))

  pub unit : {K : Type 0} (x : Ch S K) → add x o ≡ x
  unfolding add o
  unit {K} x = ch-ext S K (add x o) x (λ f. S.unit (x.run f))

  pub unit-l : {K : Type 0} (x : Ch S K) → add o x ≡ x
  unit-l x = comm o x ∙ unit x

  pub inverse : {K : Type 0} (x : Ch S K) → add x (neg x) ≡ o
  unfolding add neg o
  inverse {K} x = ch-ext S K (add x (neg x)) o (λ f. S.inverse (x.run f))

  pub neg-add : {K : Type 0} (x y : Ch S K) → neg (add x y) ≡ add (neg x) (neg y)
  unfolding add neg
  neg-add {K} x y = ch-ext S K (neg (add x y)) (add (neg x) (neg y)) (λ f. F-neg-add (x.run f) (y.run f))

  pub neg-o : {K : Type 0} → neg (o {K = K}) ≡ o
  unfolding neg o
  neg-o {K} = ch-ext S K (neg o) o (λ f. F-neg-o)

  pub neg-neg : {K : Type 0} (x : Ch S K) → neg (neg x) ≡ x
  unfolding neg
  neg-neg {K} x = ch-ext S K (neg (neg x)) x (λ f. F-neg-neg (x.run f))

  abbrev pub grp : Type 0 → Grp
  grp K = record {
    C = Ch S K;
    o = o;
    add = add;
    neg = neg;
    assoc = assoc;
    comm = comm;
    lcomm = lcomm;
    unit = unit;
    inverse = inverse;
    neg-add = neg-add;
    neg-o = neg-o;
    neg-neg = neg-neg;
  }

  pub cancel : {K : Type 0} (x y z : Ch S K) → add x z ≡ add y z → x ≡ y
  cancel x y z h =
      let g : (w : Ch S _) → add (add w z) (neg z) ≡ w = λ w. assoc w z (neg z) ∙ (ap (λ v. add w v) (inverse z) ∙ unit w) in
      sym (g x) ∙ (ap (λ v. add v (neg z)) h ∙ g y)

  -- signs and sums from 0 to n - 1
  unfoldable pub sg : {K : Type 0} → ℕ → Ch S K → Ch S K
  sg zero x = x
  sg (suc n) x = neg (sg n x)

  unfoldable pub tot : {K : Type 0} → ℕ → (ℕ → Ch S K) → Ch S K
  tot zero f = o
  tot (suc n) f = add (tot n f) (f n)

  -- linear extension
  pub run-o : {K : Type 0} (c : Ch S K) → c.run (λ k. S.o) ≡ S.o
  run-o c =
      let e : c.run (λ k. S.o) ≡ S.add (c.run (λ k. S.o)) (c.run (λ k. S.o))
      = ap c.run (λ i k. sym (S.unit S.o) i) ∙ c.additive (λ k. S.o) (λ k. S.o) in
      cancel-F S (c.run (λ k. S.o)) S.o (c.run (λ k. S.o)) (sym e ∙ (sym (S.unit (c.run (λ k. S.o))) ∙ S.comm (c.run (λ k. S.o)) S.o))

  pub run-neg : {K : Type 0} (c : Ch S K) (f : K → S.F) → c.run (λ k. S.neg (f k)) ≡ S.neg (c.run f)
  run-neg c f =
      cancel-F S (c.run (λ k. S.neg (f k))) (S.neg (c.run f)) (c.run f)
      (S.comm (c.run (λ k. S.neg (f k))) (c.run f) ∙ (sym (c.additive f (λ k. S.neg (f k))) ∙
      (ap c.run (λ i k. S.inverse (f k) i) ∙ (run-o c ∙ (sym (S.inverse (c.run f)) ∙ S.comm (c.run f) (S.neg (c.run f)))))))

  pub lin-eta : {K M : Type 0} (T : K → Ch S M) (k : K) → lin T (eta k) ≡ T k
  unfolding lin eta
  lin-eta {M} T k = ch-ext S M (lin T (eta k)) (T k) (λ f. refl)

  pub lin-id : {K : Type 0} (c : Ch S K) → lin eta c ≡ c
  unfolding lin eta
  lin-id {K} c = ch-ext S K (lin eta c) c (λ f. refl)

  pub lin-lin : {K M N : Type 0} (T : K → Ch S M) (U : M → Ch S N) (c : Ch S K) → lin U (lin T c) ≡ lin (λ k. lin U (T k)) c
  unfolding lin
  lin-lin {N} T U c = ch-ext S N (lin U (lin T c)) (lin (λ k. lin U (T k)) c) (λ f. refl)

  pub lin-add : {K M : Type 0} (T : K → Ch S M) (x y : Ch S K) → lin T (add x y) ≡ add (lin T x) (lin T y)
  unfolding lin add
  lin-add {M} T x y = ch-ext S M (lin T (add x y)) (add (lin T x) (lin T y)) (λ f. refl)

  pub lin-sum : {K M : Type 0} (T U : K → Ch S M) (c : Ch S K) → lin (λ k. add (T k) (U k)) c ≡ add (lin T c) (lin U c)
  unfolding lin add
  lin-sum {M} T U c = ch-ext S M (lin (λ k. add (T k) (U k)) c) (add (lin T c) (lin U c)) (λ f. c.additive (λ k. (T k).run f) (λ k. (U k).run f))

  pub lin-o : {K M : Type 0} (T : K → Ch S M) → lin T o ≡ o
  unfolding lin o
  lin-o {M} T = ch-ext S M (lin T o) o (λ f. refl)

  pub lin-os : {K M : Type 0} (c : Ch S K) → lin (λ (k : K). o {K = M}) c ≡ o
  unfolding lin o
  lin-os {K} {M} c = ch-ext S M (lin (λ (k : K). o) c) o (λ f. run-o c)

  pub lin-neg : {K M : Type 0} (T : K → Ch S M) (x : Ch S K) → lin T (neg x) ≡ neg (lin T x)
  unfolding lin neg
  lin-neg {M} T x = ch-ext S M (lin T (neg x)) (neg (lin T x)) (λ f. refl)

  pub lin-negs : {K M : Type 0} (T : K → Ch S M) (c : Ch S K) → lin (λ k. neg (T k)) c ≡ neg (lin T c)
  unfolding lin neg
  lin-negs {M} T c = ch-ext S M (lin (λ k. neg (T k)) c) (neg (lin T c)) (λ f. run-neg c (λ k. (T k).run f))

  pub lin-sg : {K M : Type 0} (n : ℕ) (T : K → Ch S M) (x : Ch S K) → lin T (sg n x) ≡ sg n (lin T x)
  unfolding sg
  lin-sg zero T x = refl
  lin-sg (suc n) T x = lin-neg T (sg n x) ∙ ap neg (lin-sg n T x)

  pub lin-sgs : {K M : Type 0} (n : ℕ) (T : K → Ch S M) (c : Ch S K) → lin (λ k. sg n (T k)) c ≡ sg n (lin T c)
  unfolding sg
  lin-sgs zero T c = refl
  lin-sgs (suc n) T c = lin-negs (λ k. sg n (T k)) c ∙ ap neg (lin-sgs n T c)

  pub lin-tot : {K M : Type 0} (n : ℕ) (T : K → Ch S M) (f : ℕ → Ch S K) → lin T (tot n f) ≡ tot n (λ i. lin T (f i))
  unfolding tot
  lin-tot zero T f = lin-o T
  lin-tot (suc n) T f = lin-add T (tot n f) (f n) ∙ ap (λ v. add v (lin T (f n))) (lin-tot n T f)

  pub lin-tots : {K M : Type 0} (n : ℕ) (T : ℕ → K → Ch S M) (c : Ch S K) → lin (λ k. tot n (λ i. T i k)) c ≡ tot n (λ i. lin (T i) c)
  unfolding tot
  lin-tots zero T c = lin-os c
  lin-tots (suc n) T c = lin-sum (λ k. tot n (λ i. T i k)) (T n) c ∙ ap (λ v. add v (lin (T n) c)) (lin-tots n T c)

  -- support
  unfoldable pub All : {K : Type 0} → (K → Type 0) → Ch S K → Type 0
  All {K} Q c = (f g : K → S.F) → ((k : K) → Q k → f k ≡ g k) → c.run f ≡ c.run g

  pub lin-on : {K M : Type 0} (Q : K → Type 0) (T U : K → Ch S M) (c : Ch S K) → All Q c → ((k : K) → Q k → T k ≡ U k) → lin T c ≡ lin U c
  unfolding lin All
  lin-on {M} Q T U c q e = ch-ext S M (lin T c) (lin U c) (λ f. q (λ k. (T k).run f) (λ k. (U k).run f) (λ k w. ap (λ x. x.run f) (e k w)))

  pub lin-on-o : {K M : Type 0} (Q : K → Type 0) (T : K → Ch S M) (c : Ch S K) → All Q c → ((k : K) → Q k → T k ≡ o) → lin T c ≡ o
  lin-on-o Q T c q e = lin-on Q T (λ k. o) c q e ∙ lin-os c

  pub all-eta : {K : Type 0} (Q : K → Type 0) (k : K) → Q k → All Q (eta k)
  unfolding All eta
  all-eta Q k q = λ f g h. h k q

  pub all-o : {K : Type 0} (Q : K → Type 0) → All Q o
  unfolding All o
  all-o Q = λ f g h. refl

  pub all-add : {K : Type 0} (Q : K → Type 0) (x y : Ch S K) → All Q x → All Q y → All Q (add x y)
  unfolding All add
  all-add Q x y a b = λ f g h. ap (λ v. S.add v (y.run f)) (a f g h) ∙ ap (λ v. S.add (x.run g) v) (b f g h)

  pub all-neg : {K : Type 0} (Q : K → Type 0) (x : Ch S K) → All Q x → All Q (neg x)
  unfolding All neg
  all-neg Q x a = λ f g h. ap S.neg (a f g h)

  pub all-sg : {K : Type 0} (n : ℕ) (Q : K → Type 0) (x : Ch S K) → All Q x → All Q (sg n x)
  unfolding sg
  all-sg zero Q x a = a
  all-sg (suc n) Q x a = all-neg Q (sg n x) (all-sg n Q x a)

  pub all-tot : {K : Type 0} (n : ℕ) (Q : K → Type 0) (f : ℕ → Ch S K) → ((i : ℕ) → i < n → All Q (f i)) → All Q (tot n f)
  unfolding tot
  all-tot zero Q f a = all-o Q
  all-tot (suc n) Q f a = all-add Q (tot n f) (f n) (all-tot n Q f (λ i l. a i (omega (arith, l)))) (a n (omega arith))

  pub all-lin : {K M : Type 0} (Q : K → Type 0) (R : M → Type 0) (T : K → Ch S M) (c : Ch S K) → All Q c → ((k : K) → Q k → All R (T k)) → All R (lin T c)
  unfolding lin All
  all-lin Q R T c q e = λ f g h. q (λ k. (T k).run f) (λ k. (T k).run g) (λ k w. e k w f g h)

  pub all-mono : {K : Type 0} (Q R : K → Type 0) (c : Ch S K) → All Q c → ((k : K) → Q k → R k) → All R c
  unfolding All
  all-mono Q R c q e = λ f g h. q f g (λ k w. h k (e k w))

  -- sums and signs
  pub sg-o : {K : Type 0} (n : ℕ) → sg n (o {K = K}) ≡ o
  unfolding sg
  sg-o zero = refl
  sg-o (suc n) = ap neg (sg-o n) ∙ neg-o

  pub sg-add : {K : Type 0} (n : ℕ) (x y : Ch S K) → sg n (add x y) ≡ add (sg n x) (sg n y)
  unfolding sg
  sg-add zero x y = refl
  sg-add (suc n) x y = ap neg (sg-add n x y) ∙ neg-add (sg n x) (sg n y)

  pub sg-neg : {K : Type 0} (n : ℕ) (x : Ch S K) → sg n (neg x) ≡ neg (sg n x)
  unfolding sg
  sg-neg zero x = refl
  sg-neg (suc n) x = ap neg (sg-neg n x)

  pub sg-sg : {K : Type 0} (n : ℕ) (x : Ch S K) → sg n (sg n x) ≡ x
  unfolding sg
  sg-sg zero x = refl
  sg-sg (suc n) x = ap neg (sg-neg n (sg n x)) ∙ (neg-neg (sg n (sg n x)) ∙ sg-sg n x)

  pub sg-inj : {K : Type 0} (n : ℕ) (x y : Ch S K) → sg n x ≡ sg n y → x ≡ y
  sg-inj n x y e = sym (sg-sg n x) ∙ (ap (sg n) e ∙ sg-sg n y)

  pub sg-comm : {K : Type 0} (i j : ℕ) (x : Ch S K) → sg i (sg j x) ≡ sg j (sg i x)
  unfolding sg
  sg-comm zero j x = refl
  sg-comm (suc i) j x = ap neg (sg-comm i j x) ∙ sym (sg-neg j (sg i x))

  pub sg-plus : {K : Type 0} (i j : ℕ) (x : Ch S K) → sg (i + j) x ≡ sg i (sg j x)
  unfolding sg
  sg-plus zero j x = let e : 0 + j ≡ j = omega arith in rw e refl
  sg-plus (suc i) j x = let e : suc i + j ≡ suc (i + j) = omega arith in rw e (ap neg (sg-plus i j x))

  pub tot-on : {K : Type 0} (n : ℕ) (f g : ℕ → Ch S K) → ((i : ℕ) → i < n → f i ≡ g i) → tot n f ≡ tot n g
  unfolding tot
  tot-on zero f g e = refl
  tot-on (suc n) f g e = ap (λ v. add v (f n)) (tot-on n f g (λ i l. e i (omega (arith, l)))) ∙ ap (λ v. add (tot n g) v) (e n (omega arith))

  pub tot-o : {K : Type 0} (n : ℕ) (f : ℕ → Ch S K) → ((i : ℕ) → i < n → f i ≡ o) → tot n f ≡ o
  unfolding tot
  tot-o zero f e = refl
  tot-o (suc n) f e = ap (λ v. add v (f n)) (tot-o n f (λ i l. e i (omega (arith, l)))) ∙ (ap (λ v. add o v) (e n (omega arith)) ∙ unit o)

  pub tot-add : {K : Type 0} (n : ℕ) (f g : ℕ → Ch S K) → tot n (λ i. add (f i) (g i)) ≡ add (tot n f) (tot n g)
  unfolding tot
  tot-add zero f g = sym (unit o)
  tot-add (suc n) f g = ap (λ v. add v (add (f n) (g n))) (tot-add n f g) ∙ simp (assoc, comm, lcomm) refl

  pub sg-tot : {K : Type 0} (j n : ℕ) (f : ℕ → Ch S K) → sg j (tot n f) ≡ tot n (λ i. sg j (f i))
  unfolding tot
  sg-tot j zero f = sg-o j
  sg-tot j (suc n) f = sg-add j (tot n f) (f n) ∙ ap (λ v. add v (sg j (f n))) (sg-tot j n f)
