-- The twist of the letters lowers the left dimension, and so it does before and after the flow.
use Rattle.std.proofs.Common.{◌≡◌, ℕ, zero, suc, ◌+◌, ◌-◌, ◌<◌, ◌≤◌, List, [], ◌∷◌, Bool, false, cond, inl, inr, refl, sym, ◌∙◌, ap, subst, arith, true≢false}
use Rattle.std.specs.declared.cmp.Ordering.{Ordering}
use Rattle.fp_field.specs.Chains.{Terms, extend, keep, Each, coeff}
use Rattle.fp_field.specs.Reduction.{Respects, after}
use Rattle.fp_field.proofs.Weights.{Each-extend}
use Rattle.spaces.specs.Simplicial.{Simplicial, has_degeneracy}
use Rattle.spaces.specs.Orders.{Ordered}
use Rattle.spaces.specs.LoopGroups.{Letter, word_times, letter_word, loop_set}
use Rattle.spaces.specs.EilenbergZilber.{Linear, Pair, same_pair, pair_order, flow}
use Rattle.values.specs.Twists.{letters, is_letter_pair, letter_twist}
use Rattle.ez_laws.specs.Sides.{IsLeft, IsRight}
use Rattle.ez_laws.specs.LetterSides.{IsLetter}
use Rattle.ez_laws.specs.Complexes.{IsPair, pair_complex}
use Rattle.ez_laws.specs.FlowEquations.{moves, left_dim}
use Rattle.ez_laws.proofs.Matches.{two}
use Rattle.ez_laws.proofs.Eaches.{each-so, each-and, each-keep}
use Rattle.ez_laws.proofs.LetterFaces.{letters-left}
use Rattle.ez_laws.proofs.PairOrders.{same-is, pairs-apart}
use Rattle.ez_laws.proofs.LeftDims.{keeps-left}
use Rattle.ez_laws.proofs.FlowKeys.{flow-pairs}
use Rattle.twist_laws.proofs.Places.{count, misses, count-front, count-so, low-has}
use Rattle.twist_laws.specs.LeftDegrees.{AmountsTo, Lower, LowersLeft}
use Rattle.loop_laws.proofs.FoxWords.{words_with}
use Rattle.loop_laws.proofs.FoxComplex as FC

module _ (p : ℕ) (pos : 0 < p) {K : Type 0} (A : Ordered K) (base : IsRight A)
    (cmp : ℕ → List (Letter A.set) → List (Letter A.set) → Ordering) (fibre : IsRight (words_with A cmp)) where
  abbrev X : Simplicial K
  X = A.set

  abbrev Word : Type 0
  Word = List (Letter A.set)

  abbrev words : Ordered (List (Letter A.set))
  words = words_with A cmp

  abbrev L : Linear K
  L = letters p A

  abbrev left : IsLeft p (letters p A) (IsLetter A.set)
  left = letters-left p pos A base

  abbrev LetterPair : Type 0
  LetterPair = Pair K Word

  abbrev IsPairOf : ℕ → LetterPair → Type 0
  IsPairOf n s = (s.0 ≡ n) × IsPair p L (IsLetter A.set) words s

  abbrev dimension : LetterPair → ℕ
  dimension s = left_dim p L (IsLetter A.set) words s

  abbrev twist : LetterPair → Terms LetterPair
  twist s = letter_twist p A words s

  abbrev Below : ℕ → LetterPair → LetterPair → Type 0
  Below n s z = Lower p L (IsLetter A.set) words n s z

  -- the dimension of a letter counts the places from the second on at which its simplex moves
  pub moves-count : (n : ℕ) (x : K) → moves p L (IsLetter A.set) words n x ≡ count n (λ j. has_degeneracy X (suc j) x)
  moves-count zero x = refl
  moves-count (suc n) x = ap (λ m. m + misses (has_degeneracy X (suc n) x)) (moves-count n x)

  -- where d_0 y is no s_0, y moves at its second place
  pub second-place : (n : ℕ) (y : K) → X.In (suc (suc n)) y → has_degeneracy X 0 (X.face 0 y) ≡ false → has_degeneracy X 1 y ≡ false
  second-place n y iy e = elim (two (has_degeneracy X 1 y)) as (λ v. has_degeneracy X 1 y ≡ false)
      [ inr v ↦ v | inl v ↦ absurd (true≢false (sym (low-has X base.simplicial (suc n) 0 0 y iy (omega arith) (omega arith) v) ∙ e)) ]

  first-lower : (n : ℕ) (y : K) → X.In (suc (suc n)) y → has_degeneracy X 0 (X.face 0 y) ≡ false
      → moves p L (IsLetter A.set) words n (X.face 0 y) < moves p L (IsLetter A.set) words (suc n) y
  first-lower n y iy e =
      let a = moves-count n (X.face 0 y) in
      let b = moves-count (suc n) y ∙ count-front n (λ j. has_degeneracy X (suc j) y) in
      let c = count-so n (λ j. has_degeneracy X (suc (suc j)) y) (λ j. has_degeneracy X (suc j) (X.face 0 y))
      (λ j l h. low-has X base.simplicial (suc n) 0 (suc j) y iy (omega arith) (omega (arith, l)) h) in
      let d : misses (has_degeneracy X 1 y) ≡ 1 = ap misses (second-place n y iy e) in
      omega (arith, a, b, c, d)

  below-at : (n : ℕ) (y : K) (g : Word) → X.In (suc (suc n)) y → Each (λ z. dimension z < dimension (suc n, y, g)) (twist (suc n, y, g))
  below-at n y g iy =
      let z : K = X.face 0 y in
      let a : LetterPair = (n, z, (loop_set X).face 0 g) in
      let b : LetterPair = (n, z, word_times X ((loop_set X).face 0 (letter_word X y)) ((loop_set X).face 0 g)) in
      let c : Terms LetterPair = (a, 1) ∷ ((b, p - 1) ∷ []) in
      let is_pair : LetterPair → Bool = λ s. is_letter_pair p A words s in
      let Q : LetterPair → Type 0 = λ s. dimension s < dimension (suc n, y, g) in
      elim (two (has_degeneracy X 0 z)) as (λ v. Each Q (cond (has_degeneracy X 0 z) [] (keep is_pair c))) [
        | inl e ↦ subst (λ v. Each Q (cond v [] (keep is_pair c))) (sym e) tt
        | inr e ↦ subst (λ v. Each Q (cond v [] (keep is_pair c))) (sym e)
            (each-so (keep is_pair c) (λ s u. u.0) (each-keep Q is_pair c (first-lower n y iy e, (first-lower n y iy e, tt))))
      ]

  -- each term of the twist has a letter of lower dimension, and so has each after and before the flow
  pub twist-below : (n : ℕ) (s : LetterPair) → IsPairOf (suc n) s → Each (Below n s) (twist s)
  twist-below n (zero, y, g) i = absurd (omega (arith, i.0))
  twist-below n (suc m, y, g) i =
      each-and (IsPairOf n) (λ z. dimension z < dimension (suc m, y, g)) (twist (suc m, y, g))
      (FC.twist-pairs p pos A base cmp fibre n (suc m, y, g) i) (below-at m y g i.1.0.0)

  pub twist-ends : (s : LetterPair) → s.0 ≡ 0 → twist s ≡ []
  twist-ends (zero, y, g) e = refl
  twist-ends (suc n, y, g) e = absurd (omega (arith, e))

  abbrev flow_of : LetterPair → Terms LetterPair
  flow_of s = flow p L words s

  abbrev Raised : LetterPair → LetterPair → Type 0
  Raised s z = ((z.0 ≡ suc s.0) × IsPair p L (IsLetter A.set) words z) × (dimension z ≤ dimension s)

  flow-raised : (s : LetterPair) → IsPair p L (IsLetter A.set) words s → Each (Raised s) (flow_of s)
  flow-raised s i =
      each-and (λ z. (z.0 ≡ suc s.0) × IsPair p L (IsLetter A.set) words z) (λ z. dimension z ≤ dimension s) (flow_of s)
      (flow-pairs p pos L (IsLetter A.set) words left fibre s i)
      ((keeps-left p pos L (IsLetter A.set) words left fibre).flow_keeps s i)

  twist-flow-below : (n : ℕ) (s : LetterPair) → IsPairOf n s → Each (Below n s) (after twist flow_of s)
  twist-flow-below n s i =
      Each-extend (Below n s) (Raised s) twist
      (λ z u. each-so (twist z) (λ v h. (h.0, omega (arith, h.1, u.1))) (twist-below n z (u.0.0 ∙ ap suc i.0, u.0.1))) (flow_of s) (flow-raised s i.1)

  flow-twist-below : (n : ℕ) (s : LetterPair) → IsPairOf n s → Each (Below n s) (after flow_of twist s)
  flow-twist-below zero s i = subst (λ c. Each (Below zero s) (extend flow_of c)) (sym (twist-ends s i.0)) tt
  flow-twist-below (suc n) s i =
      Each-extend (Below (suc n) s) (Below n s) flow_of
      (λ z u. each-so (flow_of z) (λ v h. ((h.0.0 ∙ ap suc u.0.0, h.0.1), omega (arith, h.1, u.1))) (flow-raised z u.0.1)) (twist s) (twist-below n s i)

  amounts : (n : ℕ) (s : LetterPair) (c : Terms LetterPair) → Each (Below n s) c → AmountsTo p (same_pair p L words) (Below n s) c
  amounts n s c h = (c, λ j. refl, h)

  twist-respects : Respects p (pair_complex p L (IsLetter A.set) words) (pair_complex p L (IsLetter A.set) words) twist
  twist-respects x y e j =
      ap (λ z. Rattle.std.specs.Prelude.◌%◌ (coeff (same_pair p L words) (twist z) j) p)
      (same-is (pair_order p L words) (pairs-apart p L (IsLetter A.set) words left fibre) x y e)

  pub letters-lower : LowersLeft p L (IsLetter A.set) words twist
  letters-lower = record {
    lowers = λ n s i. FC.twist-pairs p pos A base cmp fibre n s i;
    ends = λ s i. twist-ends s i.0;
    respects = twist-respects;
    falls = λ n s i. amounts n s (twist s) (twist-below n s i);
    after_flow = λ n s i. amounts n s (after twist flow_of s) (twist-flow-below n s i);
    before_flow = λ n s i. amounts n s (after flow_of twist s) (flow-twist-below n s i);
  }
