-- Alexander-Whitney after the twist of the letters: on a pair of left dimension m its terms have left degree at most m - 2, where the loop
-- group has one vertex.
--
-- The front of a letter is a chain of one term at most, since a face that is an s_0 is 0. A summand of Alexander-Whitney that the twist
-- leaves at place i has a front that moves at i places. So the letter moves at i + 1 places; if these are all at which it moves, the twist
-- is not seen after i faces.
use Rattle.std.proofs.Common.{◌≡◌, ℕ, zero, suc, ◌+◌, ◌-◌, ◌<◌, ◌≤◌, List, [], ◌∷◌, Bool, true, false, not, ◌&&◌, cond, inl, inr, refl, sym, ◌∙◌, ap, subst, arith, true≢false}
use Rattle.std.proofs.lemmas.Bool.{not-false, and_parts, false_from_ne_true}
use Rattle.std.specs.declared.cmp.Ordering.{Ordering}
use Rattle.fp_field.specs.Chains.{Terms, keep}
use Rattle.fp_field.specs.Reduction.{one, after}
use Rattle.spaces.specs.Simplicial.{Simplicial, IsSimplicial, has_degeneracy, is_degenerate, some_below}
use Rattle.spaces.specs.Orders.{Ordered}
use Rattle.spaces.specs.Products.{IsTwisting}
use Rattle.spaces.specs.LoopGroups.{Letter, word_times, letter_word, loop_set}
use Rattle.spaces.specs.EilenbergZilber.{Linear, Pair, Tensor, is_tensor_cell, front, back, cuts, aw}
use Rattle.spaces.proofs.LetterTwist.{letter_twisting}
use Rattle.values.specs.Twists.{not_first, letters, is_letter_pair, letter_twist}
use Rattle.ez_laws.specs.Sides.{IsRight, on_keys}
use Rattle.ez_laws.specs.LetterSides.{IsLetter}
use Rattle.ez_laws.specs.Complexes.{IsPair}
use Rattle.ez_laws.specs.FlowEquations.{left_dim}
use Rattle.ez_laws.proofs.Matches.{two}
use Rattle.ez_laws.proofs.PairComplex.{order}
use Rattle.ez_laws.proofs.Functionals.{Coefficients, Ch}
use Rattle.ez_laws.proofs.ChainLaws.{o, add, neg, eta, lin, tot, All, comm, inverse, lin-eta, lin-lin, lin-add, lin-neg, lin-o, tot-o, all-o, all-eta, all-add, all-neg, all-lin, all-tot}
use Rattle.ez_laws.proofs.Values.{field, val, val-one, val-nil, val-extend, lin-append, lin-nil, lin-keys, lin-one}
use Rattle.ez_laws.proofs.PairKeys.{none-below, found-below}
use Rattle.twist_laws.proofs.Supports.{kept_key, kept-true, kept-false, val-keep}
use Rattle.twist_laws.proofs.TwistedPairs.{val-difference}
use Rattle.twist_laws.proofs.Places.{some-so, count, count-full, low-has, cut_front, front-has}
use Rattle.twist_laws.proofs.Late.{behind, behind-has}
use Rattle.loop_laws.proofs.Differences.{tot-less}
use Rattle.loop_laws.proofs.FoxWords.{words_with}
use Rattle.loop_laws.proofs.LateLetters.{late-letters}
use Rattle.loop_laws.proofs.FoxComplex as FC
use Rattle.loop_laws.proofs.LetterLowers as LL

and-first : (a b : Bool) → a ≡ true → (not a && b) ≡ false
and-first true b e = refl
and-first false b e = absurd (true≢false (sym e))

and-second : (a b : Bool) → b ≡ true → (a && not b) ≡ false
and-second a false e = absurd (true≢false (sym e))
and-second true true e = refl
and-second false true e = refl

module _ (p : ℕ) (pos : 0 < p) {K : Type 0} (A : Ordered K) (base : IsRight A)
    (cmp : ℕ → List (Letter A.set) → List (Letter A.set) → Ordering) (fibre : IsRight (words_with A cmp)) where
  abbrev S : Coefficients
  S = field p pos

  abbrev X : Simplicial K
  X = A.set

  abbrev base_laws : IsSimplicial A.set
  base_laws = base.simplicial

  abbrev Word : Type 0
  Word = List (Letter A.set)

  abbrev words : Ordered (List (Letter A.set))
  words = words_with A cmp

  abbrev G : Simplicial (List (Letter A.set))
  G = loop_set A.set

  abbrev laws : IsSimplicial (loop_set A.set)
  laws = fibre.simplicial

  abbrev t : K → List (Letter A.set)
  t y = letter_word A.set y

  abbrev times : List (Letter A.set) → List (Letter A.set) → List (Letter A.set)
  times u v = word_times A.set u v

  abbrev twisting : IsTwisting A.set (loop_set A.set) (λ y. letter_word A.set y) (λ u v. word_times A.set u v)
  twisting = letter_twisting A.set base.simplicial

  abbrev L : Linear K
  L = letters p A

  abbrev LetterPair : Type 0
  LetterPair = Pair K Word

  abbrev LetterTensor : Type 0
  LetterTensor = Tensor K Word

  abbrev IsPairOf : ℕ → LetterPair → Type 0
  IsPairOf n s = (s.0 ≡ n) × IsPair p L (IsLetter A.set) words s

  abbrev is_tensor : LetterTensor → Bool
  is_tensor z = is_tensor_cell p L words z

  abbrev is_pair : LetterPair → Bool
  is_pair s = is_letter_pair p A words s

  abbrev is_free : K → Bool
  is_free z = not_first p A z

  abbrev dimension : LetterPair → ℕ
  dimension s = left_dim p L (IsLetter A.set) words s

  abbrev f : LetterPair → Terms LetterTensor
  f s = aw p L words s

  abbrev q : LetterPair → Terms LetterPair
  q s = letter_twist p A words s

  -- ---- the parts of a cut

  abbrev front_of : ℕ → ℕ → K → K
  front_of i n y = cut_front X base_laws (suc i) (n - i) y

  abbrev tail : ℕ → Word → Word
  tail i g = back p L words i g

  tail-is : (i : ℕ) (g : Word) → tail i g ≡ behind p A words base fibre t times twisting i g
  tail-is zero g = refl
  tail-is (suc i) g = tail-is i (G.face 0 g)

  -- the last face of a letter
  last-face : (n : ℕ) (y : K) → val p pos (L.faces (suc n) (suc n) y) ≡ kept_key p pos is_free (X.face (suc (suc n)) y)
  last-face n y = val-keep p pos is_free (one (X.face (suc (suc n)) y)) ∙ lin-one p pos (kept_key p pos is_free) (X.face (suc (suc n)) y)

  front-val : (i k n : ℕ) (y : K) → n ≡ i + k → IsLetter X n y
      → val p pos (front p L words i k y) ≡ kept_key p pos is_free (cut_front X base_laws (suc i) k y)
  front-val i zero n y e iy = val-one p pos y ∙ sym (kept-true p pos is_free y (ap not iy.1))
  front-val i (suc k) zero y e iy = absurd (omega (arith, e))
  front-val i (suc k) (suc n) y e iy =
      let l : n ≡ i + k = omega (arith, e) in
      let z : K = X.face (suc (suc n)) y in
      let iz : X.In (suc n) z = base_laws.face_in (suc n) (suc (suc n)) y iy.0 (omega arith) in
      let F : K → Ch S K = λ x. val p pos (front p L words i k x) in
      let rest : Ch S K = kept_key p pos is_free (cut_front X base_laws (suc i) k z) in
      val-extend p pos (front p L words i k) (L.faces (i + suc k) (i + suc k) y)
      ∙ ap (λ m. lin S F (val p pos (L.faces m m y))) (sym e)
      ∙ ap (lin S F) (last-face n y)
      ∙ elim (two (has_degeneracy X 0 z)) as (λ v. lin S F (kept_key p pos is_free z) ≡ rest) [
        | inl v ↦ ap (lin S F) (kept-false p pos is_free z (ap not v)) ∙ lin-o S F
            ∙ sym (kept-false p pos is_free (cut_front X base_laws (suc i) k z)
            (ap not (front-has X base_laws (suc i) k (suc n) 0 z (omega (arith, l)) iz (omega arith) v)))
        | inr v ↦ ap (lin S F) (kept-true p pos is_free z (ap not v)) ∙ lin-eta S F z ∙ front-val i k n z l (iz, v)
      ]
      ∙ ap (λ m. kept_key p pos is_free (cut_front X base_laws (suc i) k (X.face m y))) (let a : suc (suc n) ≡ suc i + suc k = omega (arith, e) in a)

  -- a summand of Alexander-Whitney
  abbrev cut : ℕ → ℕ → Word → K → LetterTensor
  cut i n g z = (i, z, n - i, tail i g)

  abbrev cut_key : ℕ → ℕ → Word → K → Ch S LetterTensor
  cut_key i n g z = kept_key p pos is_tensor (cut i n g z)

  abbrev summand : ℕ → K → Word → ℕ → Ch S LetterTensor
  summand n y g i = lin S (cut_key i n g) (kept_key p pos is_free (front_of i n y))

  cuts-val : (m n : ℕ) (y : K) (g : Word) → IsLetter X n y → m ≤ suc n
      → lin S (kept_key p pos is_tensor) (val p pos (cuts p L words m (n, y, g))) ≡ tot S m (summand n y g)
  unfolding tot
  cuts-val zero n y g iy l = lin-nil p pos (kept_key p pos is_tensor)
  cuts-val (suc m) n y g iy l =
      lin-append p pos (kept_key p pos is_tensor) (on_keys (cut m n g) (front p L words m (n - m) y)) (cuts p L words m (n, y, g))
      ∙ ap (λ v. add S v (lin S (kept_key p pos is_tensor) (val p pos (cuts p L words m (n, y, g)))))
      (lin-keys p pos (kept_key p pos is_tensor) (cut m n g) (front p L words m (n - m) y)
      ∙ ap (lin S (cut_key m n g)) (front-val m (n - m) n y (omega (arith, l)) iy))
      ∙ ap (add S (summand n y g m)) (cuts-val m n y g iy (omega (arith, l)))
      ∙ comm S (summand n y g m) (tot S m (summand n y g))

  aw-val : (n : ℕ) (y : K) (g : Word) → IsLetter X n y → val p pos (f (n, y, g)) ≡ tot S (suc n) (summand n y g)
  aw-val n y g iy = val-keep p pos is_tensor (cuts p L words (suc n) (n, y, g)) ∙ cuts-val (suc n) n y g iy (omega arith)

  -- ---- summands with a degenerate part

  summand-none : (i n : ℕ) (y : K) (g : Word) → is_tensor (cut i n g (front_of i n y)) ≡ false → summand n y g i ≡ o S
  summand-none i n y g e = elim (two (is_free (front_of i n y))) as (λ v. summand n y g i ≡ o S) [
    | inl v ↦
        ap (lin S (cut_key i n g)) (kept-true p pos is_free (front_of i n y) v) ∙ lin-eta S (cut_key i n g) (front_of i n y)
        ∙ kept-false p pos is_tensor (cut i n g (front_of i n y)) e
    | inr v ↦ ap (lin S (cut_key i n g)) (kept-false p pos is_free (front_of i n y) v) ∙ lin-o S (cut_key i n g)
  ]

  abbrev front_has : ℕ → ℕ → K → ℕ → Bool
  front_has i n y j = has_degeneracy X (suc j) (front_of i n y)

  summand-left : (i j n : ℕ) (y : K) (g : Word) → j < i → front_has i n y j ≡ true → summand n y g i ≡ o S
  summand-left i j n y g l e =
      summand-none i n y g
      (and-first (some_below i (front_has i n y)) (not (is_degenerate G (n - i) (tail i g))) (some-so i (front_has i n y) j l e))

  summand-right : (i j n : ℕ) (y : K) (g : Word) → j < n - i → has_degeneracy G j (tail i g) ≡ true → summand n y g i ≡ o S
  summand-right i j n y g l e =
      summand-none i n y g
      (and-second (not (some_below i (front_has i n y))) (is_degenerate G (n - i) (tail i g))
      (some-so (n - i) (λ j. has_degeneracy G j (tail i g)) j l e))

  -- Alexander-Whitney is 0 on a degenerate pair
  aw-none : (n : ℕ) (y : K) (g : Word) → IsLetter X n y → G.In n g → is_pair (n, y, g) ≡ false → val p pos (f (n, y, g)) ≡ o S
  aw-none n y g iy ig e =
      let both : ℕ → Bool = λ j. has_degeneracy X (suc j) y && has_degeneracy G j g in
      let r = found-below n both (not-false (some_below n both) e) in
      let b = and_parts (has_degeneracy X (suc r.0) y) (has_degeneracy G r.0 g) r.2 in
      aw-val n y g iy ∙ tot-o S (suc n) (summand n y g) (λ i l. elim (order i r.0) as (λ v. summand n y g i ≡ o S) [
        | inl v ↦
            let m : n ≡ i + (n - i) = omega (arith, l) in
            let j : ℕ = r.0 - i in
            let a : has_degeneracy G (i + j) g ≡ true = subst (λ a. has_degeneracy G a g ≡ true) (let c : r.0 ≡ i + j = omega (arith, v) in c) b.1 in
            summand-right i j n y g (omega (arith, r.1, v))
            (ap (has_degeneracy G j) (tail-is i g)
            ∙ behind-has p A words base fibre t times twisting i (n - i) n j g m (omega (arith, r.1, v)) ig a)
        | inr v ↦ summand-left i r.0 n y g v (front-has X base_laws (suc i) (n - i) (suc n) (suc r.0) y (omega (arith, l)) iy.0 (omega (arith, v)) b.0)
      ])

  -- ---- after the twist

  aw-kept : (n : ℕ) (y : K) (g : Word) → IsLetter X n y → G.In n g
      → lin S (λ s. val p pos (f s)) (kept_key p pos is_pair (n, y, g)) ≡ val p pos (f (n, y, g))
  aw-kept n y g iy ig =
      let F : LetterPair → Ch S LetterTensor = λ s. val p pos (f s) in
      elim (two (is_pair (n, y, g))) as (λ v. lin S F (kept_key p pos is_pair (n, y, g)) ≡ F (n, y, g)) [
        | inl v ↦ ap (lin S F) (kept-true p pos is_pair (n, y, g) v) ∙ lin-eta S F (n, y, g)
        | inr v ↦ ap (lin S F) (kept-false p pos is_pair (n, y, g) v) ∙ lin-o S F ∙ sym (aw-none n y g iy ig v)
      ]

  -- on the words of the two terms of the twist
  aw-difference : (n : ℕ) (z : K) (a b : Word) → IsLetter X n z → G.In n a → G.In n b
      → lin S (λ s. val p pos (f s)) (val p pos (keep is_pair (((n, z, a), 1) ∷ (((n, z, b), p - 1) ∷ []))))
      ≡ add S (val p pos (f (n, z, a))) (neg S (val p pos (f (n, z, b))))
  aw-difference n z a b iz ia ib =
      let F : LetterPair → Ch S LetterTensor = λ s. val p pos (f s) in
      let U : LetterPair → Ch S LetterTensor = λ s. lin S F (kept_key p pos is_pair s) in
      let s : LetterPair = (n, z, a) in
      let u : LetterPair = (n, z, b) in
      ap (lin S F) (val-keep p pos is_pair ((s, 1) ∷ ((u, p - 1) ∷ [])) ∙ ap (lin S (kept_key p pos is_pair)) (val-difference p pos s u))
      ∙ lin-lin S (kept_key p pos is_pair) F (add S (eta S s) (neg S (eta S u)))
      ∙ lin-add S U (eta S s) (neg S (eta S u))
      ∙ ap (λ v. add S v (lin S U (neg S (eta S u)))) (lin-eta S U s ∙ aw-kept n z a iz ia)
      ∙ ap (add S (F s)) (lin-neg S U (eta S u) ∙ ap (neg S) (lin-eta S U u ∙ aw-kept n z b iz ib))

  abbrev LowTensor : ℕ → LetterTensor → Type 0
  LowTensor m z = z.0 + 2 ≤ m

  key-all : {I : Type 0} (Q : I → Type 0) (test : I → Bool) (k : I) → Q k → All S Q (kept_key p pos test k)
  key-all Q test k h = elim (two (test k)) as (λ v. All S Q (kept_key p pos test k)) [
    | inl v ↦ subst (All S Q) (sym (kept-true p pos test k v)) (all-eta S Q k h)
    | inr v ↦ subst (All S Q) (sym (kept-false p pos test k v)) (all-o S Q)
  ]

  summand-all : (i m n : ℕ) (y : K) (g : Word) → i + 2 ≤ m → All S (LowTensor m) (summand n y g i)
  summand-all i m n y g l =
      all-lin S (λ x. Unit {0}) (LowTensor m) (cut_key i n g) (kept_key p pos is_free (front_of i n y))
      (key-all (λ x. Unit {0}) is_free (front_of i n y) tt) (λ x u. key-all (LowTensor m) is_tensor (cut i n g x) l)

  module _ (alone : (u v : Word) → G.In 0 u → G.In 0 v → u ≡ v) where
    module _ (n : ℕ) (y : K) (g : Word) (iy : IsLetter X (suc n) y) (ig : G.In (suc n) g) (e : has_degeneracy X 0 (X.face 0 y) ≡ false) where
      abbrev z : K
      z = X.face 0 y

      abbrev a : Word
      a = G.face 0 g

      abbrev b : Word
      b = times (G.face 0 (t y)) (G.face 0 g)

      abbrev m : ℕ
      m = dimension (suc n, y, g)

      iz : IsLetter X n z
      iz = (base_laws.face_in (suc n) 0 y iy.0 (omega arith), e)

      -- where the front is no degeneracy, the letter moves at the places up to i
      moves-at : (i : ℕ) → i ≤ n → some_below i (front_has i n z) ≡ false → (j : ℕ) → j < suc i → has_degeneracy X (suc j) y ≡ false
      moves-at i l h zero k = LL.second-place p pos A base cmp fibre n y iy.0 e
      moves-at i l h (suc j) k =
          false_from_ne_true (has_degeneracy X (suc (suc j)) y) (λ v.
          true≢false (sym (front-has X base_laws (suc i) (n - i) (suc n) (suc j) z (omega (arith, l)) iz.0 (omega (arith, k))
          (low-has X base_laws (suc n) 0 (suc j) y iy.0 (omega arith) (omega (arith, k, l)) v)) ∙ none-below i (front_has i n z) h j (omega (arith, k))))

      abbrev part : ℕ → Ch S LetterTensor
      part i = add S (summand n z a i) (neg S (summand n z b i))

      moves-count : m ≡ count (suc n) (λ j. has_degeneracy X (suc j) y)
      moves-count = LL.moves-count p pos A base cmp fibre (suc n) y

      -- the two summands cancel, or both are 0
      cancels : (i : ℕ) → i ≤ n → m < i + 2 → part i ≡ o S
      cancels i l c = elim (two (some_below i (front_has i n z))) as (λ v. part i ≡ o S) [
        | inl v ↦
            let r = found-below i (front_has i n z) v in
            ap (λ u. add S u (neg S (summand n z b i))) (summand-left i r.0 n z a r.1 r.2)
            ∙ ap (λ u. add S (o S) (neg S u)) (summand-left i r.0 n z b r.1 r.2)
            ∙ inverse S (o S)
        | inr v ↦
            let h = moves-at i l v in
            let full = count-full (suc n) (suc i) (λ j. has_degeneracy X (suc j) y) (omega (arith, l)) h (omega (arith, c, moves-count)) in
            let same : tail i b ≡ tail i a
            = tail-is i b
            ∙ late-letters p A words base fibre t times twisting alone i n (n - i) y g (omega (arith, l)) iy.0 ig full
            ∙ sym (tail-is i a) in
            ap (λ u. add S (summand n z a i) (neg S (lin S (λ x. kept_key p pos is_tensor (i, x, n - i, u)) (kept_key p pos is_free (front_of i n z))))) same
            ∙ inverse S (summand n z a i)
      ]

      part-all : (i : ℕ) → i < suc n → All S (LowTensor m) (part i)
      part-all i l = elim (order (i + 2) m) as (λ v. All S (LowTensor m) (part i)) [
        | inl v ↦
            all-add S (LowTensor m) (summand n z a i) (neg S (summand n z b i)) (summand-all i m n z a v)
            (all-neg S (LowTensor m) (summand n z b i) (summand-all i m n z b v))
        | inr v ↦ subst (All S (LowTensor m)) (sym (cancels i (omega (arith, l)) v)) (all-o S (LowTensor m))
      ]

      all-moving : All S (LowTensor m) (add S (val p pos (f (n, z, a))) (neg S (val p pos (f (n, z, b)))))
      all-moving =
          subst (All S (LowTensor m))
          (sym (ap (λ v. add S v (neg S (val p pos (f (n, z, b))))) (aw-val n z a iz)
          ∙ ap (λ v. add S (tot S (suc n) (summand n z a)) (neg S v)) (aw-val n z b iz)
          ∙ tot-less S (suc n) (summand n z a) (summand n z b)))
          (all-tot S (suc n) (LowTensor m) part part-all)

    at-letter : (n : ℕ) (y : K) (g : Word) → IsLetter X (suc n) y → G.In (suc n) g
        → All S (LowTensor (dimension (suc n, y, g))) (val p pos (after f q (suc n, y, g)))
    at-letter n y g iy ig =
        let z : K = X.face 0 y in
        let a : Word = G.face 0 g in
        let b : Word = times (G.face 0 (t y)) (G.face 0 g) in
        let c : Terms LetterPair = ((n, z, a), 1) ∷ (((n, z, b), p - 1) ∷ []) in
        let F : LetterPair → Ch S LetterTensor = λ s. val p pos (f s) in
        let at : Bool → Ch S LetterTensor = λ v. lin S F (val p pos (cond v [] (keep is_pair c))) in
        let Q : LetterTensor → Type 0 = LowTensor (dimension (suc n, y, g)) in
        subst (All S Q) (sym (val-extend p pos f (q (suc n, y, g))))
        (elim (two (has_degeneracy X 0 z)) as (λ v. All S Q (at (has_degeneracy X 0 z))) [
          | inl v ↦ subst (All S Q) (sym (ap at v ∙ ap (lin S F) (val-nil p pos) ∙ lin-o S F)) (all-o S Q)
          | inr v ↦
              subst (All S Q)
              (sym (ap at v ∙ aw-difference n z a b (base_laws.face_in (suc n) 0 y iy.0 (omega arith), v) (laws.face_in n 0 g ig (omega arith))
              (FC.moved-in p pos A base cmp fibre n y g iy.0 ig)))
              (all-moving n y g iy ig v)
        ])

    -- on every pair
    pub aw-low : (n : ℕ) (s : LetterPair) → IsPairOf (suc n) s → All S (LowTensor (dimension s)) (val p pos (after f q s))
    aw-low n (zero, y, g) i = absurd (omega (arith, i.0))
    aw-low n (suc m, y, g) i = at-letter m y g i.1.0 i.1.1
