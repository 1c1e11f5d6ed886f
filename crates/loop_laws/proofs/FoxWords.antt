-- Fox's expansion of words of letters (Fox, Free differential calculus I, 1953): fox and unfox respect degenerate words and pairs and are
-- inverse to each other on cells, and unfox carries the differential of pairs with the twist to that of words.
use Rattle.std.proofs.Common.{◌≡◌, ℕ, zero, suc, ◌-◌, ◌*◌, ◌<◌, ◌≤◌, List, [], ◌∷◌, ◌++◌, Bool, true, false, not, ◌&&◌, inl, inr, refl, sym, ◌∙◌, ap, subst, arith, true≢false}
use Rattle.std.specs.declared.cmp.Ordering.{Ordering}
use Rattle.fp_field.specs.Chains.{extend}
use Rattle.fp_field.specs.Reduction.{one}
use Rattle.spaces.specs.Simplicial.{Simplicial, IsSimplicial, has_degeneracy, is_degenerate}
use Rattle.spaces.specs.Orders.{Ordered}
use Rattle.spaces.specs.Products.{IsTwisting}
use Rattle.spaces.specs.LoopGroups.{Letter, before, reduce, cancels, word_times, letter_word, loop_degeneracy, loop_set, InLoop, IsReduced}
use Rattle.spaces.specs.EilenbergZilber.{Pair, pair_d}
use Rattle.spaces.proofs.Degenerate.{degenerate_is}
use Rattle.spaces.proofs.Reduced.{before-none, before-cancels, before-kept, before-irreducible, Irreducible, irreducible_is, reduce-irreducible, cancels_is, cancels-flip}
use Rattle.spaces.proofs.LetterTwist.{letter_twisting}
use Rattle.values.specs.Twists.{letters, is_letter_pair, letter_twist, derivatives, fox, unfox}
use Rattle.homology_laws.proofs.CellChains.{cell_d_of}
use Rattle.ez_laws.specs.Sides.{IsRight}
use Rattle.ez_laws.specs.LetterSides.{IsLetter}
use Rattle.ez_laws.proofs.Matches.{two}
use Rattle.ez_laws.proofs.Functionals.{Coefficients, Ch}
use Rattle.ez_laws.proofs.ChainLaws.{o, add, neg, eta, lin, All, unit, inverse, neg-o, lin-eta, lin-lin, lin-o, lin-add, lin-neg, lin-on, all-eta, all-o, all-add, all-neg}
use Rattle.ez_laws.proofs.Values.{field, val, val-append, val-one, val-neg, val-nil, val-extend}
use Rattle.ez_laws.proofs.SimplicialSides.{degeneracies}
use Rattle.twist_laws.proofs.Supports.{kept_key, kept-true, kept-false, val-keep}
use Rattle.twist_laws.proofs.Places.{some-so}
use Rattle.loop_laws.proofs.Differences.{telescope, neg-less, plus-less, less-plus}
use Rattle.loop_laws.proofs.CellBoundaries.{kept_cell, degenerate-cell}
use Rattle.loop_laws.proofs.UnfoxPairs as UP

-- the words of the letters of A, in any order
abbrev pub words_with : {K : Type 0} (A : Ordered K) → (ℕ → List (Letter A.set) → List (Letter A.set) → Ordering) → Ordered (List (Letter A.set))
words_with A cmp = record { set = loop_set A.set; cmp = cmp }

module _ (p : ℕ) (pos : 0 < p) {K : Type 0} (A : Ordered K) (base : IsRight A)
    (cmp : ℕ → List (Letter A.set) → List (Letter A.set) → Ordering) (fibre : IsRight (words_with A cmp)) where
  abbrev S : Coefficients
  S = field p pos

  abbrev X : Simplicial K
  X = A.set

  abbrev Word : Type 0
  Word = List (Letter A.set)

  abbrev words : Ordered (List (Letter A.set))
  words = words_with A cmp

  abbrev G : Simplicial (List (Letter A.set))
  G = loop_set A.set

  abbrev laws : IsSimplicial (loop_set A.set)
  laws = fibre.simplicial

  abbrev t : K → List (Letter A.set)
  t y = letter_word A.set y

  abbrev times : List (Letter A.set) → List (Letter A.set) → List (Letter A.set)
  times u v = word_times A.set u v

  abbrev twisting : IsTwisting A.set (loop_set A.set) (λ y. letter_word A.set y) (λ u v. word_times A.set u v)
  twisting = letter_twisting A.set base.simplicial

  abbrev Cell : Type 0
  Cell = ℕ × Word

  abbrev LetterPair : Type 0
  LetterPair = Pair K Word

  abbrev is_pair : LetterPair → Bool
  is_pair s = is_letter_pair p A words s

  abbrev kept_pair : LetterPair → Ch S LetterPair
  kept_pair s = kept_key p pos is_pair s

  abbrev kept : Cell → Ch S Cell
  kept c = kept_cell p pos G laws c

  abbrev difference : LetterPair → Ch S Cell
  difference s = UP.difference p pos A words base fibre t times twisting s

  -- the law of UnfoxPairs, for words
  pub unfox-d : (n : ℕ) (y : K) (g : Word) → IsLetter X (suc n) y → G.In (suc n) g
      → val p pos (extend (unfox p A words) (pair_d p (letters p A) words (suc n, y, g) ++ letter_twist p A words (suc n, y, g)))
      ≡ val p pos (extend (cell_d_of G p) (unfox p A words (suc n, y, g)))
  unfox-d n y g iy ig = UP.unfox-d p pos A words base fibre t times twisting n y g iy ig

  -- unfox is 0 on degenerate pairs, and where the letter is an s_0
  pub unfox-degenerate : (n : ℕ) (y : K) (g : Word) → X.In (suc n) y → G.In n g → is_letter_pair p A words (n, y, g) ≡ false
      → val p pos (unfox p A words (n, y, g)) ≡ o S
  unfox-degenerate n y g iy ig e = UP.unfox-degenerate p pos A words base fibre t times twisting n y g iy ig e

  pub unfox-unit : (n : ℕ) (y : K) (g : Word) → X.In (suc n) y → G.In n g → has_degeneracy X 0 y ≡ true
      → val p pos (unfox p A words (n, y, g)) ≡ o S
  unfox-unit n y g iy ig e = UP.unfox-unit p pos A words base fibre t times twisting n y g iy ig e

  abbrev derived : ℕ → Word → Ch S LetterPair
  derived n w = val p pos (derivatives p A words n w)

  -- the derivative by a letter, and by an inverse one
  derived-letter : (n : ℕ) (y : K) (r : Word) → derived n ((false, y) ∷ r) ≡ add S (eta S (n, y, r)) (derived n r)
  derived-letter n y r = val-append p pos (one (n, y, r)) (derivatives p A words n r) ∙ ap (λ v. add S v (derived n r)) (val-one p pos (n, y, r))

  derived-inverse : (n : ℕ) (y : K) (r : Word) → derived n ((true, y) ∷ r) ≡ add S (neg S (eta S (n, y, (true, y) ∷ r))) (derived n r)
  derived-inverse n y r =
      let k : LetterPair = (n, y, (true, y) ∷ r) in
      val-append p pos ((k, p - 1) ∷ []) (derivatives p A words n r)
      ∙ ap (λ v. add S v (derived n r))
      (ap (λ a. val p pos ((k, a) ∷ [])) (let q : p - 1 ≡ (p - 1) * 1 = omega arith in q) ∙ val-neg p pos (one k) ∙ ap (neg S) (val-one p pos k))

  pub times-letter : (y : K) (g : Word) → has_degeneracy X 0 y ≡ false → IsReduced X g → times (t y) g ≡ before X (false, y) g
  times-letter y g h r = ap (λ v. reduce X (v ++ g)) (before-none X (false, y) h) ∙ ap (before X (false, y)) r

  before-derived : (n : ℕ) (y : K) (g : Word) → has_degeneracy X 0 y ≡ false
      → derived n (before X (false, y) g) ≡ add S (eta S (n, y, g)) (derived n g)
  before-derived n y [] h = ap (derived n) (before-none X (false, y) h) ∙ derived-letter n y []
  before-derived n y (m ∷ r) h =
      let beside : Letter X → Ch S LetterPair = λ l. add S (eta S (n, y, l ∷ r)) (derived n (l ∷ r)) in
      elim (two (cancels X (false, y) m)) as (λ v. derived n (before X (false, y) (m ∷ r)) ≡ beside m) [
        | inl c ↦
            let e : m ≡ (true, y) = cancels_is X base.simplicial (false, y) m c in
            let k : LetterPair = (n, y, (true, y) ∷ r) in
            ap (derived n) (before-cancels X (false, y) m r h c)
            ∙ sym (ap beside e ∙ ap (add S (eta S k)) (derived-inverse n y r) ∙ plus-less S (eta S k) (derived n r))
        | inr c ↦ ap (derived n) (before-kept X (false, y) m r h c) ∙ derived-letter n y (m ∷ r)
      ]

  -- the derivative of the product of a letter and a word
  pub derived-times : (n : ℕ) (y : K) (g : Word) → has_degeneracy X 0 y ≡ false → IsReduced X g
      → derived n (times (t y) g) ≡ add S (eta S (n, y, g)) (derived n g)
  derived-times n y g h r = ap (derived n) (times-letter y g h r) ∙ before-derived n y g h

  -- the difference of a letter before an irreducible word, and of an inverse letter that the word begins with
  difference-letter : (n : ℕ) (y : K) (r : Word) → Irreducible X ((false, y) ∷ r)
      → difference (n, y, r) ≡ add S (eta S (n, (false, y) ∷ r)) (neg S (eta S (n, r)))
  difference-letter n y r h =
      UP.difference-is p pos A words base fibre t times twisting n y r
      ∙ ap (λ v. add S (eta S (n, v)) (neg S (eta S (n, r))))
      (times-letter y r h.0 (reduce-irreducible X r h.2) ∙ before-irreducible X (false, y) r h)

  difference-inverse : (n : ℕ) (y : K) (r : Word) → Irreducible X ((true, y) ∷ r)
      → neg S (difference (n, y, (true, y) ∷ r)) ≡ add S (eta S (n, (true, y) ∷ r)) (neg S (eta S (n, r)))
  difference-inverse n y r h =
      let w : Word = (true, y) ∷ r in
      ap (neg S)
      (UP.difference-is p pos A words base fibre t times twisting n y w
      ∙ ap (λ v. add S (eta S (n, v)) (neg S (eta S (n, w))))
      (times-letter y w h.0 (reduce-irreducible X w h) ∙ before-cancels X (false, y) (true, y) r h.0 (cancels-flip X base.simplicial (false, y))))
      ∙ neg-less S (eta S (n, r)) (eta S (n, w))

  -- what is derived from a word comes back as the word less the empty one
  pub difference-derived : (n : ℕ) (w : Word) → Irreducible X w → lin S difference (derived n w) ≡ add S (eta S (n, w)) (neg S (eta S (n, [])))
  difference-derived n [] h = ap (lin S difference) (val-nil p pos) ∙ lin-o S difference ∙ sym (inverse S (eta S (n, [])))
  difference-derived n ((false, y) ∷ r) h =
      let w : Word = (false, y) ∷ r in
      ap (lin S difference) (derived-letter n y r) ∙ lin-add S difference (eta S (n, y, r)) (derived n r)
      ∙ ap (λ v. add S v (lin S difference (derived n r))) (lin-eta S difference (n, y, r) ∙ difference-letter n y r h)
      ∙ ap (add S (add S (eta S (n, w)) (neg S (eta S (n, r))))) (difference-derived n r h.2)
      ∙ telescope S (eta S (n, w)) (eta S (n, r)) (eta S (n, []))
  difference-derived n ((true, y) ∷ r) h =
      let w : Word = (true, y) ∷ r in
      let k : LetterPair = (n, y, w) in
      ap (lin S difference) (derived-inverse n y r) ∙ lin-add S difference (neg S (eta S k)) (derived n r)
      ∙ ap (λ v. add S v (lin S difference (derived n r)))
      (lin-neg S difference (eta S k) ∙ ap (neg S) (lin-eta S difference k) ∙ difference-inverse n y r h)
      ∙ ap (add S (add S (eta S (n, w)) (neg S (eta S (n, r))))) (difference-derived n r h.2)
      ∙ telescope S (eta S (n, w)) (eta S (n, r)) (eta S (n, []))

  -- pairs of a simplex and a word, degenerate or not
  abbrev IsPlaced : ℕ → LetterPair → Type 0
  IsPlaced n s = (s.0 ≡ n) × X.In (suc n) s.1 × G.In n s.2

  derived-placed : (n : ℕ) (w : Word) → InLoop X n w → Irreducible X w → All S (IsPlaced n) (derived n w)
  derived-placed n [] i h = subst (All S (IsPlaced n)) (sym (val-nil p pos)) (all-o S (IsPlaced n))
  derived-placed n ((false, y) ∷ r) i h =
      subst (All S (IsPlaced n)) (sym (derived-letter n y r))
      (all-add S (IsPlaced n) (eta S (n, y, r)) (derived n r)
      (all-eta S (IsPlaced n) (n, y, r) (refl, i.0, (i.1, reduce-irreducible X r h.2))) (derived-placed n r i.1 h.2))
  derived-placed n ((true, y) ∷ r) i h =
      let k : LetterPair = (n, y, (true, y) ∷ r) in
      subst (All S (IsPlaced n)) (sym (derived-inverse n y r))
      (all-add S (IsPlaced n) (neg S (eta S k)) (derived n r)
      (all-neg S (IsPlaced n) (eta S k) (all-eta S (IsPlaced n) k (refl, i.0, (i, reduce-irreducible X ((true, y) ∷ r) h))))
      (derived-placed n r i.1 h.2))

  abbrev unfox_value : LetterPair → Ch S Cell
  unfox_value s = val p pos (unfox p A words s)

  abbrev is_cell : Cell → Bool
  is_cell c = not (is_degenerate G c.0 c.1)

  -- in positive degrees the empty word is degenerate
  kept-empty : (m : ℕ) → lin S kept (neg S (eta S (suc m, []))) ≡ o S
  kept-empty m =
      lin-neg S kept (eta S (suc m, []))
      ∙ ap (neg S) (lin-eta S kept (suc m, []) ∙ degenerate-cell p pos G laws m 0 [] (tt, refl) (omega arith)) ∙ neg-o S

  -- unfox fox = 1 on cells of positive degree
  pub unfox-fox : (m : ℕ) (w : Word) → G.In (suc m) w → is_degenerate G (suc m) w ≡ false
      → val p pos (extend (unfox p A words) (fox p A words (suc m) w)) ≡ eta S (suc m, w)
  unfox-fox m w i d =
      let n : ℕ = suc m in
      let h : Irreducible X w = irreducible_is X w i.1 in
      val-extend p pos (unfox p A words) (fox p A words n w)
      ∙ ap (lin S unfox_value) (val-keep p pos is_pair (derivatives p A words n w))
      ∙ lin-lin S kept_pair unfox_value (derived n w)
      ∙ lin-on S (IsPlaced n) (λ s. lin S unfox_value (kept_pair s)) (λ s. lin S kept (difference s)) (derived n w) (derived-placed n w i.0 h)
      (λ s u. UP.unfox_kept-is p pos A words base fibre t times twisting s.0 s.1 s.2
      (subst (λ k. X.In (suc k) s.1) (sym u.0) u.1) (subst (λ k. G.In k s.2) (sym u.0) u.2))
      ∙ sym (lin-lin S difference kept (derived n w))
      ∙ ap (lin S kept) (difference-derived n w h)
      ∙ lin-add S kept (eta S (n, w)) (neg S (eta S (n, [])))
      ∙ ap (λ v. add S v (lin S kept (neg S (eta S (n, []))))) (lin-eta S kept (n, w) ∙ kept-true p pos is_cell (n, w) (ap not d))
      ∙ ap (add S (eta S (n, w))) (kept-empty m)
      ∙ unit S (eta S (n, w))

  -- the pairs of a degenerate word are degenerate
  degenerate-pair : (m j : ℕ) (y : K) (r : Word) → X.In (suc m) y → G.In m r → j ≤ m
      → kept_pair (suc m, X.degeneracy (suc j) y, loop_degeneracy X j r) ≡ o S
  degenerate-pair m j y r iy ir l =
      let s : LetterPair = (suc m, X.degeneracy (suc j) y, loop_degeneracy X j r) in
      let a : has_degeneracy X (suc j) s.1 ≡ true = (degeneracies X base.simplicial).own (suc m) (suc j) y iy (omega (arith, l)) in
      let b : has_degeneracy G j s.2 ≡ true = (degeneracies G laws).own m j r ir l in
      let both : ℕ → Bool = λ i. has_degeneracy X (suc i) s.1 && has_degeneracy G i s.2 in
      kept-false p pos is_pair s (ap not (some-so (suc m) both j (omega (arith, l)) (ap (λ c. c && has_degeneracy G j s.2) a ∙ b)))

  derived-degenerate : (m j : ℕ) (v : Word) → InLoop X m v → Irreducible X v → j ≤ m
      → lin S kept_pair (derived (suc m) (loop_degeneracy X j v)) ≡ o S
  derived-degenerate m j [] i h l = ap (lin S kept_pair) (val-nil p pos) ∙ lin-o S kept_pair
  derived-degenerate m j ((false, y) ∷ r) i h l =
      let z : K = X.degeneracy (suc j) y in
      let q : Word = loop_degeneracy X j r in
      let k : LetterPair = (suc m, z, q) in
      ap (lin S kept_pair) (derived-letter (suc m) z q) ∙ lin-add S kept_pair (eta S k) (derived (suc m) q)
      ∙ ap (λ v. add S v (lin S kept_pair (derived (suc m) q)))
      (lin-eta S kept_pair k ∙ degenerate-pair m j y r i.0 (i.1, reduce-irreducible X r h.2) l)
      ∙ ap (add S (o S)) (derived-degenerate m j r i.1 h.2 l) ∙ unit S (o S)
  derived-degenerate m j ((true, y) ∷ r) i h l =
      let z : K = X.degeneracy (suc j) y in
      let q : Word = loop_degeneracy X j r in
      let k : LetterPair = (suc m, z, (true, z) ∷ q) in
      ap (lin S kept_pair) (derived-inverse (suc m) z q) ∙ lin-add S kept_pair (neg S (eta S k)) (derived (suc m) q)
      ∙ ap (λ v. add S v (lin S kept_pair (derived (suc m) q)))
      (lin-neg S kept_pair (eta S k)
      ∙ ap (neg S) (lin-eta S kept_pair k ∙ degenerate-pair m j y ((true, y) ∷ r) i.0 (i, reduce-irreducible X ((true, y) ∷ r) h) l)
      ∙ neg-o S)
      ∙ ap (add S (o S)) (derived-degenerate m j r i.1 h.2 l) ∙ unit S (o S)

  abbrev fox_value : Cell → Ch S LetterPair
  fox_value c = val p pos (fox p A words c.0 c.1)

  -- fox is 0 on degenerate words
  pub fox-degenerate : (m : ℕ) (w : Word) → G.In (suc m) w → is_degenerate G (suc m) w ≡ true → val p pos (fox p A words (suc m) w) ≡ o S
  fox-degenerate m w i e =
      let r = degenerate_is G laws m w i e in
      val-keep p pos is_pair (derivatives p A words (suc m) w)
      ∙ ap (λ v. lin S kept_pair (derived (suc m) v)) r.4 ∙ derived-degenerate m r.0 r.1 r.3.0 (irreducible_is X r.1 r.3.1) r.2

  -- fox of a word that may be degenerate
  fox-kept : (n : ℕ) (w : Word) → G.In n w → lin S fox_value (kept (n, w)) ≡ lin S kept_pair (derived n w)
  fox-kept n w i = elim (two (is_degenerate G n w)) as (λ v. lin S fox_value (kept (n, w)) ≡ lin S kept_pair (derived n w)) [
    | inr e ↦
        ap (lin S fox_value) (kept-true p pos is_cell (n, w) (ap not e)) ∙ lin-eta S fox_value (n, w)
        ∙ val-keep p pos is_pair (derivatives p A words n w)
    | inl e ↦ at n i e
  ]
    where
      at : (k : ℕ) → G.In k w → is_degenerate G k w ≡ true → lin S fox_value (kept (k, w)) ≡ lin S kept_pair (derived k w)
      at zero i e = absurd (true≢false (sym e))
      at (suc m) i e =
          ap (lin S fox_value) (kept-false p pos is_cell (suc m, w) (ap not e)) ∙ lin-o S fox_value
          ∙ sym (fox-degenerate m w i e) ∙ val-keep p pos is_pair (derivatives p A words (suc m) w)

  -- fox unfox = 1 on cells
  pub fox-unfox : (n : ℕ) (y : K) (g : Word) → IsLetter X n y → G.In n g → is_letter_pair p A words (n, y, g) ≡ true
      → val p pos (extend (λ c. fox p A words c.0 c.1) (unfox p A words (n, y, g))) ≡ eta S (n, y, g)
  fox-unfox n y g iy ig c =
      let s : LetterPair = (n, y, g) in
      let a : Word = times (t y) g in
      let D : Cell → Ch S LetterPair = λ c. lin S kept_pair (derived c.0 c.1) in
      val-extend p pos (λ c. fox p A words c.0 c.1) (unfox p A words s)
      ∙ ap (lin S fox_value) (UP.val-unfox p pos A words base fibre t times twisting n y g)
      ∙ lin-lin S kept fox_value (difference s)
      ∙ lin-on S (λ c. (c.0 ≡ n) × G.In n c.1) (λ c. lin S fox_value (kept c)) D (difference s)
      (UP.difference-in p pos A words base fibre t times twisting n y g iy.0 ig)
      (λ c u. fox-kept c.0 c.1 (subst (λ m. G.In m c.1) (sym u.0) u.1))
      ∙ ap (lin S D) (UP.difference-is p pos A words base fibre t times twisting n y g)
      ∙ lin-add S D (eta S (n, a)) (neg S (eta S (n, g)))
      ∙ ap (λ v. add S v (lin S D (neg S (eta S (n, g)))))
      (lin-eta S D (n, a) ∙ ap (lin S kept_pair) (derived-times n y g iy.1 ig.1) ∙ lin-add S kept_pair (eta S s) (derived n g))
      ∙ ap (add S (add S (lin S kept_pair (eta S s)) (lin S kept_pair (derived n g))))
      (lin-neg S D (eta S (n, g)) ∙ ap (neg S) (lin-eta S D (n, g)))
      ∙ less-plus S (lin S kept_pair (eta S s)) (lin S kept_pair (derived n g))
      ∙ lin-eta S kept_pair s ∙ kept-true p pos is_pair s c
