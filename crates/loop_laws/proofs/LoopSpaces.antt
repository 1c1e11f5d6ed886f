-- The laws of Fox's expansion for the loop group of a space.
use Rattle.std.proofs.Common.{◌≡◌, ℕ, suc, ◌%◌, ◌<◌, [], ◌∷◌, true, false, refl, sym, ◌∙◌, ap, subst, true≢false}
use Rattle.fp_field.specs.Chains.{Terms, extend, Each, coeff}
use Rattle.fp_field.specs.Reduction.{SameTerms, IsComplex, one}
use Rattle.spaces.specs.Simplicial.{is_degenerate}
use Rattle.spaces.specs.Spaces.{Space, loops, Plain, set_of}
use Rattle.spaces.specs.Allowed.{Admits, HasOneVertex}
use Rattle.spaces.specs.Orders.{ordered}
use Rattle.spaces.specs.EilenbergZilber.{pair_order}
use Rattle.spaces.proofs.SpaceVertices.{one_vertex}
use Rattle.values.specs.Asks.{Cell}
use Rattle.values.specs.Laws.{cells, cell_d}
use Rattle.ez_laws.specs.Sides.{IsLeft, IsRight}
use Rattle.ez_laws.specs.LetterSides.{IsLetter}
use Rattle.ez_laws.proofs.Orderings.{ordered-right}
use Rattle.ez_laws.proofs.PairOrders.{same-is, tells-equivalence, pairs-apart}
use Rattle.ez_laws.proofs.Values.{val, same-val, val-one, val-nil, val-extend}
use Rattle.ez_laws.proofs.Joined.{same-terms}
use Rattle.ez_laws.proofs.LetterFaces.{letters-left}
use Rattle.twist_laws.specs.LeftDegrees.{LowersLeft, IsSeriesOf, transferred, LowersByTwo}
use Rattle.loop_laws.specs.FoxComplexes.{LetterPair, letters_of, twist_of, letter_pairs, fox_of, unfox_of}
use Rattle.loop_laws.specs.FoxLaws.{FoxRespectsDegeneracies, FoxCarriesDifferentials}
use Rattle.loop_laws.proofs.LetterLowers.{letters-lower}
use Rattle.loop_laws.proofs.LetterCuts.{aw-low}
use Rattle.loop_laws.proofs.ByTwo.{lowers-by-two}
use Rattle.loop_laws.proofs.FoxWords as FW
use Rattle.loop_laws.proofs.FoxComplex as FC

module _ (p : ℕ) (pos : 0 < p) (a : Space) (ad : Admits (loops a)) where
  abbrev Pairs : ℕ → LetterPair p a → Type 0
  Pairs n s = (letter_pairs p a).generator n s

  abbrev Cells : ℕ → Cell (loops a) → Type 0
  Cells n w = (cells p (loops a)).generator n w

  abbrev d : LetterPair p a → Terms (LetterPair p a)
  d s = (letter_pairs p a).d s

  pub base : IsRight (ordered a)
  base = ordered-right a ad.0

  pub fibre : IsRight (ordered (loops a))
  fibre = ordered-right (loops a) ad

  left : IsLeft p (letters_of p a) (IsLetter (set_of a))
  left = letters-left p pos (ordered a) base

  pub pairs-same : (s u : LetterPair p a) → (letter_pairs p a).same s u ≡ true → s ≡ u
  pairs-same =
      same-is (pair_order p (letters_of p a) (ordered (loops a)))
      (pairs-apart p (letters_of p a) (IsLetter (set_of a)) (ordered (loops a)) left fibre)

  -- chains with the same values
  same-pairs : (c e : Terms (LetterPair p a)) → val p pos c ≡ val p pos e → SameTerms p (letter_pairs p a).same c e
  same-pairs c e h = same-terms p (letter_pairs p a).same c e (same-val p pos c e h)

  same-cells : (c e : Terms (Cell (loops a))) → val p pos c ≡ val p pos e → SameTerms p (cells p (loops a)).same c e
  same-cells c e h = same-terms p (cells p (loops a)).same c e (same-val p pos c e h)

  -- ---- the two maps are inverse, and have their degrees

  pub unfox-fox : (n : ℕ) (w : Plain (loops a)) → (set_of (loops a)).In (suc n) w → is_degenerate (set_of (loops a)) (suc n) w ≡ false
      → SameTerms p (cells p (loops a)).same (extend (unfox_of p a) (fox_of p a (suc n, w))) (one (suc n, w))
  unfox-fox n w i e =
      same-cells (extend (unfox_of p a) (fox_of p a (suc n, w))) (one (suc n, w))
      (FW.unfox-fox p pos (ordered a) base (ordered (loops a)).cmp fibre n w i e ∙ sym (val-one p pos (suc n, w)))

  pub fox-unfox : (n : ℕ) (s : LetterPair p a) → Pairs n s
      → SameTerms p (letter_pairs p a).same (extend (fox_of p a) (unfox_of p a s)) (one s)
  fox-unfox n s i =
      same-pairs (extend (fox_of p a) (unfox_of p a s)) (one s)
      (FW.fox-unfox p pos (ordered a) base (ordered (loops a)).cmp fibre s.0 s.1 s.2 i.1.0 i.1.1 i.1.2 ∙ sym (val-one p pos s))

  pub fox-keeps : (n : ℕ) (w : Plain (loops a)) → (set_of (loops a)).In n w → Each (Pairs n) (fox_of p a (n, w))
  fox-keeps n w i = FC.fox-pairs p pos (ordered a) base (ordered (loops a)).cmp fibre n w i

  pub unfox-keeps : (n : ℕ) (s : LetterPair p a) → Pairs n s → Each (Cells n) (unfox_of p a s)
  unfox-keeps n s i = FC.unfox-cells p pos (ordered a) base (ordered (loops a)).cmp fibre n s i

  -- ---- they respect what is degenerate

  pub fox-respects : FoxRespectsDegeneracies p a
  fox-respects = record {
    words = λ n w i e. same-pairs (fox_of p a (suc n, w)) []
        (FW.fox-degenerate p pos (ordered a) base (ordered (loops a)).cmp fibre n w i e ∙ sym (val-nil p pos));
    pairs = λ n y g iy ig e. same-cells (unfox_of p a (n, y, g)) []
        (FW.unfox-degenerate p pos (ordered a) base (ordered (loops a)).cmp fibre n y g iy ig e ∙ sym (val-nil p pos));
    units = λ n y g iy ig e. same-cells (unfox_of p a (n, y, g)) []
        (FW.unfox-unit p pos (ordered a) base (ordered (loops a)).cmp fibre n y g iy ig e ∙ sym (val-nil p pos));
  }

  -- ---- the pairs with the twist are a complex

  pub pairs-twice : (n : ℕ) (s : LetterPair p a) → Pairs n s → SameTerms p (letter_pairs p a).same (extend d (d s)) []
  pairs-twice n s i = FC.twisted_d-twice p pos (ordered a) base (ordered (loops a)).cmp fibre n s i

  pub pairs-complex : IsComplex p (letter_pairs p a)
  pairs-complex = record {
    graded = record {
      equivalence =
          tells-equivalence (pair_order p (letters_of p a) (ordered (loops a)))
          (pairs-apart p (letters_of p a) (IsLetter (set_of a)) (ordered (loops a)) left fibre);
      lowers = λ n s i. FC.twisted_d-pairs p pos (ordered a) base (ordered (loops a)).cmp fibre n s i;
      ends = λ s i. FC.twisted_d-ends p pos (ordered a) base (ordered (loops a)).cmp fibre s i.0;
      respects = λ s u e k. ap (λ z. coeff (letter_pairs p a).same (d z) k % p) (pairs-same s u e);
    };
    twice = pairs-twice;
  }

  pub letters-lower-left : LowersLeft p (letters_of p a) (IsLetter (set_of a)) (ordered (loops a)) (twist_of p a)
  letters-lower-left = letters-lower p pos (ordered a) base (ordered (loops a)).cmp fibre

  pub only-word : (u v : Plain (loops a)) → (set_of (loops a)).In 0 u → (set_of (loops a)).In 0 v → u ≡ v
  only-word u v i k =
      let one : HasOneVertex (set_of (loops a)) = (one_vertex (loops a) ad).1 refl in
      one.2 u i ∙ sym (one.2 v k)

  pub letters-transfer : (P : LetterPair p a → Terms (LetterPair p a))
      → IsSeriesOf p (letters_of p a) (IsLetter (set_of a)) (ordered (loops a)) (twist_of p a) P
      → LowersByTwo p (letters_of p a) (IsLetter (set_of a)) (ordered (loops a))
      (transferred p (letters_of p a) (IsLetter (set_of a)) (ordered (loops a)) (twist_of p a) P)
  letters-transfer =
      lowers-by-two p pos (letters_of p a) (IsLetter (set_of a)) (ordered (loops a)) left fibre (twist_of p a) letters-lower-left
      (aw-low p pos (ordered a) base (ordered (loops a)).cmp fibre only-word)

  -- ---- there is no pair of degree 0, since all edges of the space are degenerate

  pub no-pair : (s : LetterPair p a) → Pairs 0 s → ⊥
  no-pair s i = true≢false (sym (ad.2 s.1 (subst (λ m. (set_of a).In (suc m) s.1) i.0 i.1.0.0)) ∙ i.1.0.1)

  no-terms : (c : Terms (LetterPair p a)) → Each (Pairs 0) c → c ≡ []
  no-terms [] e = refl
  no-terms (t ∷ c) e = absurd (no-pair t.0 e.0)

  pub lowest-pair : (s : LetterPair p a) → Pairs 1 s → d s ≡ []
  lowest-pair s i = no-terms (d s) (pairs-complex.graded.lowers 0 s i)

  -- ---- the differentials

  pub fox-carries : (n : ℕ) (w : Plain (loops a)) → (set_of (loops a)).In (suc n) w → is_degenerate (set_of (loops a)) (suc n) w ≡ false
      → SameTerms p (letter_pairs p a).same (extend (fox_of p a) (cell_d p (loops a) (suc n, w))) (extend d (fox_of p a (suc n, w)))
  fox-carries n w i e =
      same-pairs (extend (fox_of p a) (cell_d p (loops a) (suc n, w))) (extend d (fox_of p a (suc n, w)))
      (FC.fox-d p pos (ordered a) base (ordered (loops a)).cmp fibre n w i e)

  pub unfox-carries : (n : ℕ) (s : LetterPair p a) → Pairs (suc n) s
      → SameTerms p (cells p (loops a)).same (extend (unfox_of p a) (d s)) (extend (cell_d p (loops a)) (unfox_of p a s))
  unfox-carries n s i =
      same-cells (extend (unfox_of p a) (d s)) (extend (cell_d p (loops a)) (unfox_of p a s))
      (val-extend p pos (unfox_of p a) (d s)
      ∙ FC.unfox-pair p pos (ordered a) base (ordered (loops a)).cmp fibre n s i
      ∙ sym (val-extend p pos (cell_d p (loops a)) (unfox_of p a s)))

  lowest-word : (w : Plain (loops a)) → (set_of (loops a)).In 1 w → is_degenerate (set_of (loops a)) 1 w ≡ false
      → SameTerms p (cells p (loops a)).same (cell_d p (loops a) (1, w)) []
  lowest-word w i e =
      same-cells (cell_d p (loops a) (1, w)) []
      (FC.lowest-word p pos (ordered a) base (ordered (loops a)).cmp fibre lowest-pair w i e ∙ sym (val-nil p pos))

  pub fox-differentials : FoxCarriesDifferentials p a
  fox-differentials = record {
    fox_d = λ n w i. subst
        (λ m. SameTerms p (letter_pairs p a).same (extend (fox_of p a) (cell_d p (loops a) (m, w.1))) (extend d (fox_of p a (m, w.1))))
        (sym i.0) (fox-carries n w.1 i.1.0 i.1.1);
    unfox_d = unfox-carries;
    lowest_words = λ w i. subst (λ m. SameTerms p (cells p (loops a)).same (cell_d p (loops a) (m, w.1)) []) (sym i.0) (lowest-word w.1 i.1.0 i.1.1);
    lowest_pairs = lowest-pair;
  }
