-- Pairs of keys: which count as one, their generators, and weights of them as grids.
use Rattle.std.proofs.Common.{◌≡◌, ℕ, zero, suc, ◌+◌, ◌*◌, ◌%◌, ◌<◌, Bool, true, false, true≢false, ◌&&◌, [], ◌++◌, refl, sym, ◌∙◌, ap, subst, arith}
use Rattle.std.specs.Cmp.{IsEquivalence}
use Rattle.std.proofs.lemmas.Cmp.{on_equiv, and_equiv}
use Rattle.fp_field.specs.Field.{SameMod, sign}
use Rattle.fp_field.specs.Chains.{weigh, scale, Each}
use Rattle.fp_field.specs.Reduction.{Complex, IsGraded, one}
use Rattle.fp_field.proofs.Weights.{weigh-append, weigh-scale, Each-append, Each-scale}
use Rattle.fp_field.proofs.Fair.{Fair, from_weights}
use Rattle.tensor_red.specs.Products.{Pairs, product_in, complex_in}
use Rattle.tensor_red.proofs.Doubles.{each_weaker, weigh-product, each-product, weigh-single}
use Rattle.tensor_red.proofs.Grids.{Grid, sum, signed, on_left, on_right, by_left, by_right}

first_so : (a b : Bool) → (a && b) ≡ true → a ≡ true
first_so true b e = refl
first_so false b e = e

second_so : (a b : Bool) → (a && b) ≡ true → b ≡ true
second_so true b e = e
second_so false b e = absurd (true≢false (sym e))

-- a pair is made of its parts
pub record IsPairing {X Y T : Type 0} (P : Pairs X Y T) : Type 0 where
  pub left_of : (x : X) (y : Y) → P.left (P.pair x y) ≡ x
  pub right_of : (x : X) (y : Y) → P.right (P.pair x y) ≡ y
  pub whole : (z : T) → P.pair (P.left z) (P.right z) ≡ z

-- the generators below one of degree i
abbrev pub Below : {X : Type 0} → Complex X → ℕ → X → Type 0
Below C i x = (k : ℕ) × C.generator k x × (suc k ≡ i)

module _ {X Y T : Type 0} (P : Pairs X Y T) (ok : IsPairing P) where
  module _ (s : X → X → Bool) (t : Y → Y → Bool) where
    abbrev pub same_pair : T → T → Bool
    same_pair z w = s (P.left z) (P.left w) && t (P.right z) (P.right w)

    pub pair_equivalence : IsEquivalence s → IsEquivalence t → IsEquivalence same_pair
    pair_equivalence es et = and_equiv (on_equiv P.left es) (on_equiv P.right et)

    module _ (p : ℕ) (pos : 0 < p) where
      -- a weight of pairs as a grid
      abbrev pub grid_of : IsEquivalence s → IsEquivalence t → (w : T → ℕ) → Fair p pos same_pair w → Grid p pos s t
      grid_of es et w fair = record {
        at = λ x y. w (P.pair x y);
        left = λ y a b e. fair (P.pair a y) (P.pair b y) ((λ k. s (ok.left_of a y k) (ok.left_of b y k) && t (ok.right_of a y k) (ok.right_of b y k)) ∙ (λ k. e k && et.refl y k));
        right = λ x a b e. fair (P.pair x a) (P.pair x b) ((λ k. s (ok.left_of x a k) (ok.left_of x b k) && t (ok.right_of x a k) (ok.right_of x b k)) ∙ (λ k. es.refl x k && e k));
      }

      pub grid_fair : (W : Grid p pos s t) (z w : T) → same_pair z w ≡ true → SameMod p (W.at (P.left z) (P.right z)) (W.at (P.left w) (P.right w))
      grid_fair W z w e =
          W.left (P.right z) (P.left z) (P.left w) (first_so (s (P.left z) (P.left w)) (t (P.right z) (P.right w)) e)
          ∙ W.right (P.left w) (P.right z) (P.right w) (second_so (s (P.left z) (P.left w)) (t (P.right z) (P.right w)) e)

  module _ (p : ℕ) (degree : X → ℕ) (C : Complex X) (D : Complex Y) where
    -- a pair of generators
    pub pair_generator : (i j k : ℕ) (x : X) (y : Y) → C.generator i x → D.generator j y → i + j ≡ k → (complex_in P p degree C D).generator k (P.pair x y)
    pair_generator i j k x y gx gy e = (i, j, subst (C.generator i) (sym (ok.left_of x y)) gx, subst (D.generator j) (sym (ok.right_of x y)) gy, e)

    -- d on weights
    abbrev pub d_on : (X → Y → ℕ) → X → Y → ℕ
    d_on V x y = by_left C.d V x y + sign p (degree x) * by_right D.d V x y

    pub value_d : (w : T → ℕ) (z : T) → weigh w ((complex_in P p degree C D).d z) ≡ d_on (λ x y. w (P.pair x y)) (P.left z) (P.right z)
    value_d w z =
        weigh-append w (product_in P (C.d (P.left z)) (one (P.right z))) (scale (sign p (degree (P.left z))) (product_in P (one (P.left z)) (D.d (P.right z))))
        ∙ (λ k. (weigh-product P w (C.d (P.left z)) (one (P.right z)) ∙ ap (λ V. weigh V (C.d (P.left z))) (λ l a. weigh-single (λ y. w (P.pair a y)) (P.right z) l)) k
        + (weigh-scale w (sign p (degree (P.left z))) (product_in P (one (P.left z)) (D.d (P.right z)))
        ∙ ap (λ r. sign p (degree (P.left z)) * r) (weigh-product P w (one (P.left z)) (D.d (P.right z)) ∙ weigh-single (λ x. weigh (λ y. w (P.pair x y)) (D.d (P.right z))) (P.left z))) k)

    module _ (pos : 0 < p) (gc : IsGraded p C) (gd : IsGraded p D) (alike : (x y : X) → C.same x y ≡ true → degree x ≡ degree y) where
      abbrev pub d_grid : Grid p pos C.same D.same → Grid p pos C.same D.same
      d_grid W =
          sum p pos (on_left p pos C C gc.equivalence C.d gc.respects W)
          (signed p pos degree alike (on_right p pos D D gd.equivalence D.d gd.respects W))

      below_left : (i : ℕ) (x : X) → C.generator i x → Each (Below C i) (C.d x)
      below_left zero x g = subst (λ c. Each (Below C zero) c) (sym (gc.ends x g)) tt
      below_left (suc i) x g = each_weaker (C.generator i) (Below C (suc i)) (λ a q. (i, q, refl)) (C.d x) (gc.lowers i x g)

      below_right : (j : ℕ) (y : Y) → D.generator j y → Each (Below D j) (D.d y)
      below_right zero y g = subst (λ c. Each (Below D zero) c) (sym (gd.ends y g)) tt
      below_right (suc j) y g = each_weaker (D.generator j) (Below D (suc j)) (λ a q. (j, q, refl)) (D.d y) (gd.lowers j y g)

      abbrev whole_complex : Complex T
      whole_complex = complex_in P p degree C D

      lowers : (k : ℕ) (z : T) → whole_complex.generator (suc k) z → Each (whole_complex.generator k) (whole_complex.d z)
      lowers k z g =
          Each-append (whole_complex.generator k) (product_in P (C.d (P.left z)) (one (P.right z))) (scale (sign p (degree (P.left z))) (product_in P (one (P.left z)) (D.d (P.right z))))
          (each-product P (Below C g.0) (D.generator g.1) (whole_complex.generator k) (λ x y b q. pair_generator b.0 g.1 k x y b.1 q (omega (arith, b.2, g.4)))
          (C.d (P.left z)) (one (P.right z)) (below_left g.0 (P.left z) g.2) (g.3, tt))
          (Each-scale (whole_complex.generator k) (sign p (degree (P.left z))) (product_in P (one (P.left z)) (D.d (P.right z)))
          (each-product P (C.generator g.0) (Below D g.1) (whole_complex.generator k) (λ x y q b. pair_generator g.0 b.0 k x y q b.1 (omega (arith, b.2, g.4)))
          (one (P.left z)) (D.d (P.right z)) (g.2, tt) (below_right g.1 (P.right z) g.3)))

      ends : (z : T) → whole_complex.generator zero z → whole_complex.d z ≡ []
      ends z g =
          let i : g.0 ≡ zero = omega (arith, g.4) in
          let j : g.1 ≡ zero = omega (arith, g.4) in
          let l : C.d (P.left z) ≡ [] = gc.ends (P.left z) (subst (λ k. C.generator k (P.left z)) i g.2) in
          let r : D.d (P.right z) ≡ [] = gd.ends (P.right z) (subst (λ k. D.generator k (P.right z)) j g.3) in
          λ k. product_in P (l k) (one (P.right z)) ++ scale (sign p (degree (P.left z))) (product_in P (one (P.left z)) (r k))

      pub pair_graded : IsGraded p whole_complex
      pair_graded = record {
        equivalence = pair_equivalence C.same D.same gc.equivalence gd.equivalence;
        lowers = lowers;
        ends = ends;
        respects = λ z w e. from_weights p pos (same_pair C.same D.same) (pair_equivalence C.same D.same gc.equivalence gd.equivalence) (whole_complex.d z) (whole_complex.d w) (λ v fair.
            ap (λ r. r % p) (value_d v z)
            ∙ grid_fair C.same D.same p pos (d_grid (grid_of C.same D.same p pos gc.equivalence gd.equivalence v fair)) z w e ∙ ap (λ r. r % p) (sym (value_d v w)));
      }
