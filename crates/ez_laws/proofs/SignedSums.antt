-- Sums in an abelian group: over words of Booleans, with the sign of the pairs of a false before a true, and double sums whose terms
-- cancel in pairs.
use Rattle.std.specs.Prelude.{◌≡◌, refl, ℕ, ◌<◌, ◌≤◌, List, [], ◌∷◌, Bool, true, false}
use Rattle.std.proofs.Common.{sym, ◌∙◌, ap, arith, zero, suc}

pub record Grp : Type 1 where
  pub C : Type 0
  pub o : C
  pub add : C → C → C
  pub neg : C → C
  pub assoc : (x y z : C) → add (add x y) z ≡ add x (add y z)
  pub comm : (x y : C) → add x y ≡ add y x
  pub lcomm : (x y z : C) → add x (add y z) ≡ add y (add x z)
  pub unit : (x : C) → add x o ≡ x
  pub inverse : (x : C) → add x (neg x) ≡ o
  pub neg-add : (x y : C) → neg (add x y) ≡ add (neg x) (neg y)
  pub neg-o : neg o ≡ o
  pub neg-neg : (x : C) → neg (neg x) ≡ x

module _ (G : Grp) where
  unfoldable pub sgn : ℕ → G.C → G.C
  sgn zero x = x
  sgn (suc n) x = G.neg (sgn n x)

  pub sgn-o : (n : ℕ) → sgn n G.o ≡ G.o
  unfolding sgn
  sgn-o zero = refl
  sgn-o (suc n) = ap G.neg (sgn-o n) ∙ G.neg-o

  pub sgn-add : (n : ℕ) (x y : G.C) → sgn n (G.add x y) ≡ G.add (sgn n x) (sgn n y)
  unfolding sgn
  sgn-add zero x y = refl
  sgn-add (suc n) x y = ap G.neg (sgn-add n x y) ∙ G.neg-add (sgn n x) (sgn n y)

  -- words: true is H, false is V. The sum over the words of length n with p letters H,
  -- with sign -1 to the number of pairs V before H
  unfoldable pub sum : ℕ → ℕ → (List Bool → G.C) → G.C
  sum zero zero F = F []
  sum zero (suc p) F = G.o
  sum (suc n) zero F = sum n zero (λ w. F (false ∷ w))
  sum (suc n) (suc p) F = G.add (sum n p (λ w. F (true ∷ w))) (sgn (suc p) (sum n (suc p) (λ w. F (false ∷ w))))

  pub sum-zero : (n p : ℕ) → sum n p (λ w. G.o) ≡ G.o
  unfolding sum
  sum-zero zero zero = refl
  sum-zero zero (suc p) = refl
  sum-zero (suc n) zero = sum-zero n zero
  sum-zero (suc n) (suc p) =
      ap (λ x. G.add x (sgn (suc p) (sum n (suc p) (λ w. G.o)))) (sum-zero n p) ∙
      (ap (λ x. G.add G.o (sgn (suc p) x)) (sum-zero n (suc p)) ∙ (ap (λ x. G.add G.o x) (sgn-o (suc p)) ∙ G.unit G.o))

  -- plain sums and the double sum
  unfoldable pub to : ℕ → (ℕ → G.C) → G.C
  to zero f = G.o
  to (suc n) f = G.add (to n f) (f n)

  pub to-on : (n : ℕ) (f g : ℕ → G.C) → ((i : ℕ) → i < n → f i ≡ g i) → to n f ≡ to n g
  unfolding to
  to-on zero f g e = refl
  to-on (suc n) f g e = ap (λ x. G.add x (f n)) (to-on n f g (λ i l. e i (omega (arith, l)))) ∙ ap (λ x. G.add (to n g) x) (e n (omega arith))

  pub to-add : (n : ℕ) (f g : ℕ → G.C) → to n (λ i. G.add (f i) (g i)) ≡ G.add (to n f) (to n g)
  unfolding to
  to-add zero f g = sym (G.unit G.o)
  to-add (suc n) f g = ap (λ x. G.add x (G.add (f n) (g n))) (to-add n f g) ∙ simp (G.assoc, G.comm, G.lcomm) refl

  pub to-zero : (n : ℕ) (f : ℕ → G.C) → ((i : ℕ) → i < n → f i ≡ G.o) → to n f ≡ G.o
  unfolding to
  to-zero zero f e = refl
  to-zero (suc n) f e = ap (λ x. G.add x (f n)) (to-zero n f (λ i l. e i (omega (arith, l)))) ∙ (ap (λ x. G.add G.o x) (e n (omega arith)) ∙ G.unit G.o)

  unfoldable pub term : (ℕ → ℕ → G.C) → ℕ → ℕ → G.C
  term M i j = sgn i (sgn j (M i j))

  pub sgn-neg : (n : ℕ) (x : G.C) → sgn n (G.neg x) ≡ G.neg (sgn n x)
  unfolding sgn
  sgn-neg zero x = refl
  sgn-neg (suc n) x = ap G.neg (sgn-neg n x)

  pub sgn-comm : (i j : ℕ) (x : G.C) → sgn i (sgn j x) ≡ sgn j (sgn i x)
  unfolding sgn
  sgn-comm zero j x = refl
  sgn-comm (suc i) j x = ap G.neg (sgn-comm i j x) ∙ sym (sgn-neg j (sgn i x))

  pub cancel : (i j : ℕ) (x : G.C) → G.add (sgn i (sgn (suc j) x)) (sgn j (sgn i x)) ≡ G.o
  unfolding sgn
  cancel i j x =
      let y : G.C = sgn j (sgn i x) in
      ap (λ v. G.add v y) (sgn-neg i (sgn j x) ∙ ap G.neg (sgn-comm i j x)) ∙ (G.comm (G.neg y) y ∙ G.inverse y)

  -- M i j = M (j-1) i for i < j, j = k+1
  pub double : (n : ℕ) (M : ℕ → ℕ → G.C) → ((i k : ℕ) → i ≤ k → k < n → M i (suc k) ≡ M k i)
      → to n (λ i. to (suc n) (λ j. term M i j)) ≡ G.o
  unfolding to term
  double zero M e = refl
  double (suc n) M e =
      let S : G.C = to n (λ i. to (suc n) (λ j. term M i j)) in
      let col : G.C = to n (λ i. term M i (suc n)) in
      let row : G.C = to (suc n) (λ j. term M n j) in
      let c : G.C = term M n (suc n) in
      let s1 : to n (λ i. G.add (to (suc n) (λ j. term M i j)) (term M i (suc n))) ≡ G.add S col
      = to-add n (λ i. to (suc n) (λ j. term M i j)) (λ i. term M i (suc n)) in
      let s2 : G.add (to (suc n) (λ i. term M i (suc n))) row ≡ G.o
      = sym (to-add (suc n) (λ i. term M i (suc n)) (λ i. term M n i)) ∙
      to-zero (suc n) (λ i. G.add (term M i (suc n)) (term M n i))
      (λ i l. ap (λ x. G.add (sgn i (sgn (suc n) x)) (sgn n (sgn i (M n i)))) (e i n (omega (arith, l)) (omega arith)) ∙ cancel i n (M n i)) in
      ap (λ x. G.add x (G.add row c)) s1 ∙
      (let g : G.add (G.add S col) (G.add row c) ≡ G.add S (G.add (G.add col c) row) = simp (G.assoc, G.comm, G.lcomm) refl in
      g ∙ (ap (λ x. G.add S x) s2 ∙ (G.unit S ∙ double n M (λ i k a b. e i k a (omega (arith, b))))))
