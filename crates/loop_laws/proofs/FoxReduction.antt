-- The words of positive degree of a loop group and the pairs of a letter and a word: fox, unfox and 0 are a reduction.
use Rattle.std.proofs.Common.{◌≡◌, ℕ, zero, suc, ◌%◌, ◌<◌, [], ◌∷◌, ◌++◌, Bool, true, refl, sym, ◌∙◌, ap, subst, arith}
use Rattle.fp_field.specs.Chains.{Terms, scale, extend, Each, coeff}
use Rattle.fp_field.specs.Reduction.{Complex, SameTerms, IsComplex, IsReduction, one}
use Rattle.spaces.specs.Simplicial.{IsSimplicial}
use Rattle.spaces.specs.Spaces.{Space, loops, set_of}
use Rattle.spaces.specs.Allowed.{Admits}
use Rattle.values.specs.Asks.{Cell}
use Rattle.homology_laws.proofs.CellChains.{cells_of, cells-same, cells-complex}
use Rattle.ez_laws.proofs.Eaches.{each-so}
use Rattle.loop_laws.specs.FoxComplexes.{LetterPair, letter_pairs, fox_of, unfox_of, positive_d, positive_words, fox_maps}
use Rattle.loop_laws.specs.FoxLaws.{FoxIsInverse}
use Rattle.loop_laws.proofs.LoopSpaces as LS

-- two maps that agree on the generators of a chain
along : {K J : Type 0} (Q : K → Type 0) (u v : K → Terms J) (c : Terms K) → Each Q c → ((k : K) → Q k → u k ≡ v k) → extend u c ≡ extend v c
along Q u v [] e h = refl
along Q u v (t ∷ c) e h = λ i. scale t.1 (h t.0 e.0 i) ++ along Q u v c e.1 h i

abbrev nothing : {K J : Type 0} → K → Terms J
nothing k = []

none : {K J : Type 0} (c : Terms K) → extend (nothing {K = K} {J = J}) c ≡ []
none [] = refl
none (t ∷ c) = none c

-- equal chains are the same
equal : {K : Type 0} (p : ℕ) (same : K → K → Bool) (c e : Terms K) → c ≡ e → SameTerms p same c e
equal p same c e h k = ap (λ z. coeff same z k % p) h

module _ (p : ℕ) (pos : 0 < p) (a : Space) (ad : Admits (loops a)) where
  abbrev P : Complex (LetterPair p a)
  P = letter_pairs p a

  abbrev G : Complex (Cell (loops a))
  G = cells_of (set_of (loops a)) p

  abbrev W : Complex (Cell (loops a))
  W = positive_words p a

  abbrev laws : IsSimplicial (set_of (loops a))
  laws = (LS.fibre p pos a ad).simplicial

  abbrev f : Cell (loops a) → Terms (LetterPair p a)
  f w = fox_of p a w

  abbrev g : LetterPair p a → Terms (Cell (loops a))
  g s = unfox_of p a s

  abbrev d : Cell (loops a) → Terms (Cell (loops a))
  d w = positive_d p a w

  words : IsComplex p G
  words = cells-complex (set_of (loops a)) laws p pos

  low : (n : ℕ) (s : LetterPair p a) → P.generator n s → 0 < n
  low zero s i = absurd (LS.no-pair p pos a ad s i)
  low (suc n) s i = omega arith

  -- ---- the words of positive degree are a complex

  d-one : (w : Cell (loops a)) → w.0 ≡ 1 → d w ≡ []
  d-one (zero, w) e = refl
  d-one (suc zero, w) e = refl
  d-one (suc (suc n), w) e = absurd (omega (arith, e))

  d-more : (n : ℕ) (w : Cell (loops a)) → w.0 ≡ suc (suc n) → d w ≡ G.d w
  d-more n (zero, w) e = refl
  d-more n (suc zero, w) e = absurd (omega (arith, e))
  d-more n (suc (suc m), w) e = refl

  lowers : (n : ℕ) (w : Cell (loops a)) → W.generator (suc n) w → Each (W.generator n) (d w)
  lowers zero w i = subst (Each (W.generator 0)) (sym (d-one w i.1.0)) tt
  lowers (suc n) w i =
      subst (Each (W.generator (suc n))) (sym (d-more n w i.1.0))
      (each-so (G.d w) (λ c u. (omega arith, u)) (words.graded.lowers (suc n) w i.1))

  twice : (n : ℕ) (w : Cell (loops a)) → W.generator n w → SameTerms p G.same (extend d (d w)) []
  twice zero w i = absurd (omega (arith, i.0))
  twice (suc zero) w i = equal p G.same (extend d (d w)) [] (ap (extend d) (d-one w i.1.0))
  twice (suc (suc zero)) w i =
      equal p G.same (extend d (d w)) [] (along (W.generator 1) d nothing (d w) (lowers 1 w i) (λ c u. d-one c u.1.0) ∙ none (d w))
  twice (suc (suc (suc n))) w i =
      λ k. equal p G.same (extend d (d w)) (extend G.d (G.d w))
      (along (W.generator (suc (suc n))) d G.d (d w) (lowers (suc (suc n)) w i) (λ c u. d-more n c u.1.0)
      ∙ ap (extend G.d) (d-more (suc n) w i.1.0)) k
      ∙ words.twice (suc (suc (suc n))) w i.1 k

  same-words : (x y : Cell (loops a)) → G.same x y ≡ true → x ≡ y
  same-words = cells-same (set_of (loops a)) laws p pos

  pub positive-complex : IsComplex p W
  positive-complex = record {
    graded = record {
      equivalence = words.graded.equivalence;
      lowers = lowers;
      ends = λ w i. absurd (omega (arith, i.0));
      respects = λ x y e k. ap (λ z. coeff G.same (d z) k % p) (same-words x y e);
    };
    twice = twice;
  }

  -- ---- fox and unfox carry its differential

  fox-keeps : (n : ℕ) (w : Cell (loops a)) → W.generator n w → Each (P.generator n) (f w)
  fox-keeps n w i =
      subst (λ m. Each (P.generator m) (f w)) i.1.0
      (LS.fox-keeps p pos a ad w.0 w.1 (subst (λ m. (set_of (loops a)).In m w.1) (sym i.1.0) i.1.1.0))

  unfox-keeps : (n : ℕ) (s : LetterPair p a) → P.generator n s → Each (W.generator n) (g s)
  unfox-keeps n s i = each-so (g s) (λ c u. (low n s i, u)) (LS.unfox-keeps p pos a ad n s i)

  f-commutes : (n : ℕ) (w : Cell (loops a)) → W.generator n w → SameTerms p P.same (extend P.d (f w)) (extend f (d w))
  f-commutes zero w i = absurd (omega (arith, i.0))
  f-commutes (suc zero) w i =
      equal p P.same (extend P.d (f w)) (extend f (d w))
      (along (P.generator 1) P.d nothing (f w) (fox-keeps 1 w i) (LS.lowest-pair p pos a ad)
      ∙ none (f w) ∙ sym (ap (extend f) (d-one w i.1.0)))
  f-commutes (suc (suc n)) w i =
      λ k. sym (equal p P.same (extend f (d w)) (extend f (G.d w)) (ap (extend f) (d-more n w i.1.0)) k
      ∙ (LS.fox-differentials p pos a ad).fox_d (suc n) w i.1 k)

  g-commutes : (n : ℕ) (s : LetterPair p a) → P.generator n s → SameTerms p G.same (extend d (g s)) (extend g (P.d s))
  g-commutes zero s i = absurd (LS.no-pair p pos a ad s i)
  g-commutes (suc zero) s i =
      equal p G.same (extend d (g s)) (extend g (P.d s))
      (along (W.generator 1) d nothing (g s) (unfox-keeps 1 s i) (λ c u. d-one c u.1.0)
      ∙ none (g s) ∙ sym (ap (extend g) (LS.lowest-pair p pos a ad s i)))
  g-commutes (suc (suc n)) s i =
      λ k. equal p G.same (extend d (g s)) (extend G.d (g s))
      (along (W.generator (suc (suc n))) d G.d (g s) (unfox-keeps (suc (suc n)) s i) (λ c u. d-more n c u.1.0)) k
      ∙ sym ((LS.fox-differentials p pos a ad).unfox_d (suc n) s i k)

  -- ---- they are inverse to each other

  pub fox-inverse : FoxIsInverse p a
  fox-inverse = record { unfox_fox = unfox-fox; fox_unfox = LS.fox-unfox p pos a ad }
    where
      unfox-fox : (n : ℕ) (w : Cell (loops a)) → W.generator n w → SameTerms p G.same (extend g (f w)) (one w)
      unfox-fox zero w i = absurd (omega (arith, i.0))
      unfox-fox (suc n) w i =
          subst (λ m. SameTerms p G.same (extend g (f (m, w.1))) (one (m, w.1))) (sym i.1.0) (LS.unfox-fox p pos a ad n w.1 i.1.1.0 i.1.1.1)

  homotopy : (n : ℕ) (w : Cell (loops a)) → W.generator n w → SameTerms p G.same (extend nothing (d w) ++ extend g (f w)) (one w)
  homotopy n w i =
      λ k. equal p G.same (extend nothing (d w) ++ extend g (f w)) (extend g (f w)) (ap (λ c. c ++ extend g (f w)) (none (d w))) k
      ∙ fox-inverse.unfox_fox n w i k

  -- an isomorphism as a reduction
  pub fox-reduction : IsReduction p (fox_maps p a)
  fox-reduction N = record {
    degrees = record {
      big = positive-complex;
      small = (LS.pairs-complex p pos a ad).graded;
      f = record { keeps = fox-keeps; respects = λ x y e k. ap (λ z. coeff P.same (f z) k % p) (same-words x y e) };
      g = record { keeps = unfox-keeps; respects = λ x y e k. ap (λ z. coeff G.same (g z) k % p) (LS.pairs-same p pos a ad x y e) };
      h = record { raises = λ n w i. tt; respects = λ x y e k. refl };
    };
    equations = record {
      f_commutes = λ n w l i. f-commutes n w i;
      g_commutes = λ n s l i. g-commutes n s i;
      twice = λ n s l i. LS.pairs-twice p pos a ad n s i;
      fg = λ n s l i. LS.fox-unfox p pos a ad n s i;
      homotopy = λ n w l i. homotopy n w i;
      fh = λ n w l i k. refl;
      hg = λ n s l i. equal p G.same (extend nothing (g s)) [] (none (g s));
      hh = λ n w l i k. refl;
    };
  }
