-- Fox carries the differential of words to that of pairs with the twist, in degrees of at least 1, and the square of the latter is 0. Both
-- follow from the laws of unfox, and no twisting identity is used here.
use Rattle.std.proofs.Common.{◌≡◌, ℕ, zero, suc, ◌-◌, ◌<◌, List, [], ◌∷◌, ◌++◌, Bool, true, false, not, cond, inl, inr, refl, sym, ◌∙◌, ap, subst, arith}
use Rattle.std.proofs.lemmas.Bool.{not-true}
use Rattle.std.specs.declared.cmp.Ordering.{Ordering}
use Rattle.fp_field.specs.Chains.{Terms, extend, keep, Each}
use Rattle.fp_field.specs.Reduction.{SameTerms}
use Rattle.fp_field.proofs.Weights.{Each-append}
use Rattle.spaces.specs.Simplicial.{Simplicial, IsSimplicial, has_degeneracy, is_degenerate}
use Rattle.spaces.specs.Orders.{Ordered}
use Rattle.spaces.specs.Products.{IsTwisting}
use Rattle.spaces.specs.LoopGroups.{Letter, word_times, letter_word, loop_set, InLoop}
use Rattle.spaces.specs.EilenbergZilber.{Linear, Pair, pair_d, same_pair}
use Rattle.spaces.proofs.Reduced.{Irreducible, irreducible_is, reduce-irreducible}
use Rattle.spaces.proofs.LetterTwist.{letter_twisting}
use Rattle.values.specs.Twists.{letters, is_letter_pair, letter_twist, derivatives, fox, unfox}
use Rattle.homology_laws.proofs.CellChains.{cell_d_of, cells_of, cells-same, cells-complex}
use Rattle.ez_laws.specs.Sides.{IsRight}
use Rattle.ez_laws.specs.LetterSides.{IsLetter}
use Rattle.ez_laws.specs.Complexes.{IsPair}
use Rattle.ez_laws.proofs.Matches.{two}
use Rattle.ez_laws.proofs.Functionals.{Coefficients, Ch}
use Rattle.ez_laws.proofs.ChainLaws.{o, eta, lin, All, lin-eta, lin-id, lin-lin, lin-o, lin-on, lin-on-o, all-lin}
use Rattle.ez_laws.proofs.Values.{field, val, val-nil, val-extend, all-val, same-val}
use Rattle.ez_laws.proofs.Eaches.{each-so, each-keep}
use Rattle.ez_laws.proofs.Joined.{same-terms}
use Rattle.ez_laws.proofs.LetterFaces.{letters-left}
use Rattle.ez_laws.proofs.PairKeys as PK
use Rattle.twist_laws.proofs.Supports.{val-terms}
use Rattle.loop_laws.proofs.UnfoxPairs as UP
use Rattle.loop_laws.proofs.FoxWords.{words_with}
use Rattle.loop_laws.proofs.FoxWords as FW

module _ (p : ℕ) (pos : 0 < p) {K : Type 0} (A : Ordered K) (base : IsRight A)
    (cmp : ℕ → List (Letter A.set) → List (Letter A.set) → Ordering) (fibre : IsRight (words_with A cmp)) where
  abbrev S : Coefficients
  S = field p pos

  abbrev X : Simplicial K
  X = A.set

  abbrev Word : Type 0
  Word = List (Letter A.set)

  abbrev words : Ordered (List (Letter A.set))
  words = words_with A cmp

  abbrev G : Simplicial (List (Letter A.set))
  G = loop_set A.set

  abbrev laws : IsSimplicial (loop_set A.set)
  laws = fibre.simplicial

  abbrev twisting : IsTwisting A.set (loop_set A.set) (λ y. letter_word A.set y) (λ u v. word_times A.set u v)
  twisting = letter_twisting A.set base.simplicial

  abbrev L : Linear K
  L = letters p A

  abbrev Cell : Type 0
  Cell = ℕ × Word

  abbrev LetterPair : Type 0
  LetterPair = Pair K Word

  abbrev is_pair : LetterPair → Bool
  is_pair s = is_letter_pair p A words s

  -- the pairs and the cells of a degree
  abbrev IsPairOf : ℕ → LetterPair → Type 0
  IsPairOf n s = (s.0 ≡ n) × IsPair p L (IsLetter A.set) words s

  abbrev IsCellOf : ℕ → Cell → Type 0
  IsCellOf n c = (c.0 ≡ n) × (G.In n c.1 × (is_degenerate G n c.1 ≡ false))

  abbrev pub twisted_d : LetterPair → Terms LetterPair
  twisted_d s = pair_d p L words s ++ letter_twist p A words s

  abbrev word_d : Cell → Terms Cell
  word_d c = cell_d_of G p c

  abbrev unfox_value : LetterPair → Ch S Cell
  unfox_value s = val p pos (unfox p A words s)

  abbrev fox_value : Cell → Ch S LetterPair
  fox_value c = val p pos (fox p A words c.0 c.1)

  abbrev twisted_value : LetterPair → Ch S LetterPair
  twisted_value s = val p pos (twisted_d s)

  abbrev word_value : Cell → Ch S Cell
  word_value c = val p pos (word_d c)

  -- pairs of a degree, degenerate or not
  abbrev IsLetterAndWord : ℕ → LetterPair → Type 0
  IsLetterAndWord n s = (s.0 ≡ n) × (IsLetter X s.0 s.1 × G.In s.0 s.2)

  kept-pairs : (n : ℕ) (c : Terms LetterPair) → Each (IsLetterAndWord n) c → Each (IsPairOf n) (keep is_pair c)
  kept-pairs n c e = each-so (keep is_pair c) (λ s u. (u.0.0, (u.0.1.0, u.0.1.1, u.1))) (each-keep (IsLetterAndWord n) is_pair c e)

  -- the first face of the letter's word times that of g
  abbrev moved_by : K → Word → Word
  moved_by y g = word_times X (G.face 0 (letter_word X y)) (G.face 0 g)

  pub moved-in : (n : ℕ) (y : K) (g : Word) → X.In (suc (suc n)) y → G.In (suc n) g → G.In n (moved_by y g)
  moved-in n y g iy ig = UP.moved-in p pos A words base fibre (λ v. letter_word X v) (λ u v. word_times X u v) twisting n y g iy ig

  twist-pairs-at : (n : ℕ) (y : K) (g : Word) → IsLetter X (suc n) y → G.In (suc n) g → Each (IsPairOf n) (letter_twist p A words (suc n, y, g))
  twist-pairs-at n y g iy ig =
      let z : K = X.face 0 y in
      let c : Terms LetterPair = ((n, z, G.face 0 g), 1) ∷ (((n, z, moved_by y g), p - 1) ∷ []) in
      let iz : X.In (suc n) z = base.simplicial.face_in (suc n) 0 y iy.0 (omega arith) in
      elim (two (has_degeneracy X 0 z)) as (λ v. Each (IsPairOf n) (cond (has_degeneracy X 0 z) [] (keep is_pair c))) [
        | inl e ↦ subst (λ v. Each (IsPairOf n) (cond v [] (keep is_pair c))) (sym e) tt
        | inr e ↦ subst (λ v. Each (IsPairOf n) (cond v [] (keep is_pair c))) (sym e)
            (kept-pairs n c
            ((refl, ((iz, e), laws.face_in n 0 g ig (omega arith))), ((refl, ((iz, e), moved-in n y g iy.0 ig)), tt)))
      ]

  pub twist-pairs : (n : ℕ) (s : LetterPair) → IsPairOf (suc n) s → Each (IsPairOf n) (letter_twist p A words s)
  twist-pairs n (zero, y, g) i = absurd (omega (arith, i.0))
  twist-pairs n (suc m, y, g) i =
      let l : m ≡ n = omega (arith, i.0) in
      subst (λ k. Each (IsPairOf k) (letter_twist p A words (suc m, y, g))) l (twist-pairs-at m y g i.1.0 i.1.1)

  pub twisted_d-pairs : (n : ℕ) (s : LetterPair) → IsPairOf (suc n) s → Each (IsPairOf n) (twisted_d s)
  twisted_d-pairs n s i =
      Each-append (IsPairOf n) (pair_d p L words s) (letter_twist p A words s)
      (PK.d-pairs p pos L (IsLetter A.set) words (letters-left p pos A base) fibre n s i.0 i.1) (twist-pairs n s i)

  pub twisted_d-ends : (s : LetterPair) → s.0 ≡ 0 → twisted_d s ≡ []
  twisted_d-ends (zero, y, g) e = refl
  twisted_d-ends (suc n, y, g) e = absurd (omega (arith, e))

  derived-each : (n : ℕ) (w : Word) → InLoop X n w → Irreducible X w → Each (IsLetterAndWord n) (derivatives p A words n w)
  derived-each n [] i h = tt
  derived-each n ((false, y) ∷ r) i h = ((refl, ((i.0, h.0), (i.1, reduce-irreducible X r h.2))), derived-each n r i.1 h.2)
  derived-each n ((true, y) ∷ r) i h = ((refl, ((i.0, h.0), (i, reduce-irreducible X ((true, y) ∷ r) h))), derived-each n r i.1 h.2)

  -- fox and unfox keep the degree
  pub fox-pairs : (n : ℕ) (w : Word) → G.In n w → Each (IsPairOf n) (fox p A words n w)
  fox-pairs n w i = kept-pairs n (derivatives p A words n w) (derived-each n w i.0 (irreducible_is X w i.1))

  unfox-cells-at : (n : ℕ) (y : K) (g : Word) → IsLetter X n y → G.In n g → Each (IsCellOf n) (unfox p A words (n, y, g))
  unfox-cells-at n y g iy ig =
      let a : Word = word_times X (letter_word X y) g in
      let c : Terms Cell = ((n, a), 1) ∷ (((n, g), p - 1) ∷ []) in
      let Q : Cell → Type 0 = λ c. (c.0 ≡ n) × G.In n c.1 in
      each-so (unfox p A words (n, y, g))
      (λ c u. (u.0.0, (u.0.1, not-true (is_degenerate G n c.1) (ap (λ k. not (is_degenerate G k c.1)) (sym u.0.0) ∙ u.1))))
      (each-keep Q (λ c. not (is_degenerate G c.0 c.1)) c
      ((refl, twisting.times_in n (letter_word X y) g (twisting.t_in n y iy.0) ig), ((refl, ig), tt)))

  pub unfox-cells : (n : ℕ) (s : LetterPair) → IsPairOf n s → Each (IsCellOf n) (unfox p A words s)
  unfox-cells n s i = subst (λ k. Each (IsCellOf k) (unfox p A words s)) i.0 (unfox-cells-at s.0 s.1 s.2 i.1.0 i.1.1)

  fox-unfox-pair : (n : ℕ) (s : LetterPair) → IsPairOf n s → lin S fox_value (unfox_value s) ≡ eta S s
  fox-unfox-pair n s i =
      sym (val-extend p pos (λ c. fox p A words c.0 c.1) (unfox p A words s))
      ∙ FW.fox-unfox p pos A base cmp fibre s.0 s.1 s.2 i.1.0 i.1.1 i.1.2

  fox-unfox-chain : (n : ℕ) (c : Ch S LetterPair) → All S (IsPairOf n) c → lin S fox_value (lin S unfox_value c) ≡ c
  fox-unfox-chain n c a =
      lin-lin S unfox_value fox_value c
      ∙ lin-on S (IsPairOf n) (λ s. lin S fox_value (unfox_value s)) (eta S) c a (fox-unfox-pair n) ∙ lin-id S c

  -- the law of unfox, on each pair of positive degree and on chains of such
  pub unfox-pair : (n : ℕ) (s : LetterPair) → IsPairOf (suc n) s → lin S unfox_value (twisted_value s) ≡ lin S word_value (unfox_value s)
  unfox-pair n (zero, y, g) i = absurd (omega (arith, i.0))
  unfox-pair n (suc m, y, g) i =
      sym (val-extend p pos (unfox p A words) (twisted_d (suc m, y, g)))
      ∙ FW.unfox-d p pos A base cmp fibre m y g i.1.0 i.1.1
      ∙ val-extend p pos word_d (unfox p A words (suc m, y, g))

  unfox-chain : (n : ℕ) (c : Ch S LetterPair) → All S (IsPairOf (suc n)) c
      → lin S unfox_value (lin S twisted_value c) ≡ lin S word_value (lin S unfox_value c)
  unfox-chain n c a =
      lin-lin S twisted_value unfox_value c
      ∙ lin-on S (IsPairOf (suc n)) (λ s. lin S unfox_value (twisted_value s)) (λ s. lin S word_value (unfox_value s)) c a (unfox-pair n)
      ∙ sym (lin-lin S unfox_value word_value c)

  twisted-chain : (n : ℕ) (c : Ch S LetterPair) → All S (IsPairOf (suc n)) c → All S (IsPairOf n) (lin S twisted_value c)
  twisted-chain n c a =
      all-lin S (IsPairOf (suc n)) (IsPairOf n) twisted_value c a (λ s i. all-val p pos (IsPairOf n) (twisted_d s) (twisted_d-pairs n s i))

  -- d of a word is what comes back of d of its pairs
  word-by-pairs : (n : ℕ) (w : Word) → G.In (suc n) w → is_degenerate G (suc n) w ≡ false
      → word_value (suc n, w) ≡ lin S unfox_value (lin S twisted_value (fox_value (suc n, w)))
  word-by-pairs n w i d =
      sym (lin-eta S word_value (suc n, w))
      ∙ ap (lin S word_value)
      (sym (FW.unfox-fox p pos A base cmp fibre n w i d) ∙ val-extend p pos (unfox p A words) (fox p A words (suc n) w))
      ∙ sym (unfox-chain n (fox_value (suc n, w)) (all-val p pos (IsPairOf (suc n)) (fox p A words (suc n) w) (fox-pairs (suc n) w i)))

  -- fox carries the differential
  pub fox-d : (n : ℕ) (w : Word) → G.In (suc n) w → is_degenerate G (suc n) w ≡ false
      → val p pos (extend (λ c. fox p A words c.0 c.1) (word_d (suc n, w))) ≡ val p pos (extend twisted_d (fox p A words (suc n) w))
  fox-d n w i d =
      let c : Ch S LetterPair = fox_value (suc n, w) in
      let a : All S (IsPairOf (suc n)) c = all-val p pos (IsPairOf (suc n)) (fox p A words (suc n) w) (fox-pairs (suc n) w i) in
      val-extend p pos (λ c. fox p A words c.0 c.1) (word_d (suc n, w))
      ∙ ap (lin S fox_value) (word-by-pairs n w i d) ∙ fox-unfox-chain n (lin S twisted_value c) (twisted-chain n c a)
      ∙ sym (val-extend p pos twisted_d (fox p A words (suc n) w))

  -- where d is 0 on pairs of degree 1, so it is on words
  pub lowest-word : ((s : LetterPair) → IsPairOf 1 s → twisted_d s ≡ []) → (w : Word) → G.In 1 w → is_degenerate G 1 w ≡ false
      → val p pos (word_d (1, w)) ≡ o S
  lowest-word flat w i d =
      word-by-pairs 0 w i d
      ∙ ap (lin S unfox_value)
      (lin-on-o S (IsPairOf 1) twisted_value (fox_value (1, w)) (all-val p pos (IsPairOf 1) (fox p A words 1 w) (fox-pairs 1 w i))
      (λ s u. ap (val p pos) (flat s u) ∙ val-nil p pos))
      ∙ lin-o S unfox_value

  word_d-twice : (n : ℕ) (c : Cell) → IsCellOf n c → lin S word_value (word_value c) ≡ o S
  word_d-twice n c i =
      sym (val-extend p pos word_d (word_d c))
      ∙ val-terms p pos (cells_of G p).same (cells-complex G laws p pos).graded.equivalence (cells-same G laws p pos)
      (extend word_d (word_d c)) [] ((cells-complex G laws p pos).twice n c i)
      ∙ val-nil p pos

  -- the square is 0
  pub twisted_d-square : (n : ℕ) (s : LetterPair) → IsPairOf n s → val p pos (extend twisted_d (twisted_d s)) ≡ o S
  twisted_d-square zero s i = ap (λ c. val p pos (extend twisted_d c)) (twisted_d-ends s i.0) ∙ val-nil p pos
  twisted_d-square (suc zero) s i =
      val-extend p pos twisted_d (twisted_d s)
      ∙ lin-on-o S (IsPairOf 0) twisted_value (twisted_value s) (all-val p pos (IsPairOf 0) (twisted_d s) (twisted_d-pairs 0 s i))
      (λ z u. ap (val p pos) (twisted_d-ends z u.0) ∙ val-nil p pos)
  twisted_d-square (suc (suc n)) s i =
      let c : Ch S LetterPair = twisted_value s in
      let a : All S (IsPairOf (suc n)) c = all-val p pos (IsPairOf (suc n)) (twisted_d s) (twisted_d-pairs (suc n) s i) in
      val-extend p pos twisted_d (twisted_d s)
      ∙ sym (fox-unfox-chain n (lin S twisted_value c) (twisted-chain n c a))
      ∙ ap (lin S fox_value) (unfox-chain n c a ∙ ap (lin S word_value) (unfox-pair (suc n) s i) ∙ lin-lin S word_value word_value (unfox_value s)
      ∙ lin-on-o S (IsCellOf (suc (suc n))) (λ k. lin S word_value (word_value k)) (unfox_value s)
      (all-val p pos (IsCellOf (suc (suc n))) (unfox p A words s) (unfox-cells (suc (suc n)) s i)) (word_d-twice (suc (suc n))))
      ∙ lin-o S fox_value

  pub twisted_d-twice : (n : ℕ) (s : LetterPair) → IsPairOf n s → SameTerms p (same_pair p L words) (extend twisted_d (twisted_d s)) []
  twisted_d-twice n s i =
      same-terms p (same_pair p L words) (extend twisted_d (twisted_d s)) []
      (same-val p pos (extend twisted_d (twisted_d s)) [] (twisted_d-square n s i ∙ sym (val-nil p pos)))
