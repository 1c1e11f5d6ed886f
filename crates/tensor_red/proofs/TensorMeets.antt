-- The tensor product of two reductions is a reduction: one as far as degree N where the left part is one as far as degree N, the right part
-- as far as degree M, and all generators on the left have degree at least L with N <= L + M.
use Rattle.std.proofs.Common.{◌≡◌, ℕ, suc, ◌+◌, ◌*◌, ◌%◌, ◌<◌, ◌≤◌, true, [], refl, sym, ◌∙◌, ap, arith}
use Rattle.fp_field.specs.Field.{sign}
use Rattle.fp_field.specs.Chains.{weigh, scale}
use Rattle.fp_field.specs.Reduction.{Maps, HasDegrees, IsReductionTo, one, after}
use Rattle.fp_field.proofs.Weights.{weigh-append, weigh-scale, weigh-extend, Each-append, Each-scale, Each-extend}
use Rattle.fp_field.proofs.Fair.{Fair, from_weights}
use Rattle.reduct_laws.proofs.SixLaws.{Laws}
use Rattle.reduct_laws.proofs.Equations.{to_laws, is_reduction}
use Rattle.tensor_red.specs.Products.{Pairs, plain, product_in, tensor_in, tensor}
use Rattle.tensor_red.proofs.Doubles.{weigh-product, each-product, weigh-single}
use Rattle.tensor_red.proofs.Grids.{Grid, by_left, by_right}
use Rattle.tensor_red.proofs.SixOfParts.{FT, GT, HT, fg_at, small_at, hg_at, fh_at, hh_at, homotopy_at, twice_at}
use Rattle.tensor_red.proofs.PairKeys.{IsPairing, pair_equivalence, grid_of, grid_fair, pair_generator, d_on, value_d, pair_graded}

-- a map on weights of pairs, at a pair of the parts
at_parts : {X Y T : Type 0} (P : Pairs X Y T) → IsPairing P → (U : X → Y → ℕ) (x : X) (y : Y) → U (P.left (P.pair x y)) (P.right (P.pair x y)) ≡ U x y
at_parts P ok U x y i = U (ok.left_of x y i) (ok.right_of x y i)

module _ (p : ℕ) (pos : 0 < p) {A1 A2 S1 S2 A S : Type 0} (P : Pairs A1 A2 A) (Q : Pairs S1 S2 S) (pairs : IsPairing P) (small_pairs : IsPairing Q)
    (m : Maps A1 S1) (n : Maps A2 S2) (degree : A1 → ℕ) (small_degree : S1 → ℕ) where
  abbrev T : Maps A S
  T = tensor_in P Q p degree small_degree m n

  -- the maps on weights
  abbrev f_on : (S1 → S2 → ℕ) → A1 → A2 → ℕ
  f_on V = by_left m.f (by_right n.f V)

  abbrev g_on : (A1 → A2 → ℕ) → S1 → S2 → ℕ
  g_on V = by_left m.g (by_right n.g V)

  abbrev h_on : (A1 → A2 → ℕ) → A1 → A2 → ℕ
  h_on V x y = by_left m.h V x y + sign p (degree x) * by_left m.f (by_left m.g (by_right n.h V)) x y

  abbrev D_on : (A1 → A2 → ℕ) → A1 → A2 → ℕ
  D_on V = d_on P pairs p degree m.big n.big V

  value_f : (w : S → ℕ) (z : A) → weigh w (T.f z) ≡ f_on (λ x y. w (Q.pair x y)) (P.left z) (P.right z)
  value_f w z = weigh-product Q w (m.f (P.left z)) (n.f (P.right z))

  value_g : (w : A → ℕ) (z : S) → weigh w (T.g z) ≡ g_on (λ x y. w (P.pair x y)) (Q.left z) (Q.right z)
  value_g w z = weigh-product P w (m.g (Q.left z)) (n.g (Q.right z))

  value_D : (w : A → ℕ) (z : A) → weigh w (T.big.d z) ≡ D_on (λ x y. w (P.pair x y)) (P.left z) (P.right z)
  value_D w z = value_d P pairs p degree m.big n.big w z

  value_h : (w : A → ℕ) (z : A) → weigh w (T.h z) ≡ h_on (λ x y. w (P.pair x y)) (P.left z) (P.right z)
  value_h w z =
      weigh-append w (product_in P (m.h x) (one y)) (scale (sign p (degree x)) (product_in P (after m.g m.f x) (n.h y)))
      ∙ (λ k. (weigh-product P w (m.h x) (one y) ∙ ap (λ V. weigh V (m.h x)) (λ l a. weigh-single (λ b. w (P.pair a b)) y l)) k
      + (weigh-scale w (sign p (degree x)) (product_in P (after m.g m.f x) (n.h y))
      ∙ ap (λ r. sign p (degree x) * r) (weigh-product P w (after m.g m.f x) (n.h y) ∙ weigh-extend (λ a. weigh (λ b. w (P.pair a b)) (n.h y)) m.g (m.f x))) k)
    where
      x : A1
      x = P.left z

      y : A2
      y = P.right z

  -- the same at a pair
  pair_f : (w : S → ℕ) (x : A1) (y : A2) → weigh w (T.f (P.pair x y)) ≡ f_on (λ x y. w (Q.pair x y)) x y
  pair_f w x y = value_f w (P.pair x y) ∙ at_parts P pairs (f_on (λ x y. w (Q.pair x y))) x y

  pair_g : (w : A → ℕ) (x : S1) (y : S2) → weigh w (T.g (Q.pair x y)) ≡ g_on (λ x y. w (P.pair x y)) x y
  pair_g w x y = value_g w (Q.pair x y) ∙ at_parts Q small_pairs (g_on (λ x y. w (P.pair x y))) x y

  pair_D : (w : A → ℕ) (x : A1) (y : A2) → weigh w (T.big.d (P.pair x y)) ≡ D_on (λ x y. w (P.pair x y)) x y
  pair_D w x y = value_D w (P.pair x y) ∙ at_parts P pairs (D_on (λ x y. w (P.pair x y))) x y

  pair_h : (w : A → ℕ) (x : A1) (y : A2) → weigh w (T.h (P.pair x y)) ≡ h_on (λ x y. w (P.pair x y)) x y
  pair_h w x y = value_h w (P.pair x y) ∙ at_parts P pairs (h_on (λ x y. w (P.pair x y))) x y

  module _ (dm : HasDegrees p m) (dn : HasDegrees p n)
      (alike : (x y : A1) → m.big.same x y ≡ true → degree x ≡ degree y) (small_alike : (x y : S1) → m.small.same x y ≡ true → small_degree x ≡ small_degree y)
      (graded : (k : ℕ) (x : A1) → m.big.generator k x → degree x ≡ k) (small_graded : (k : ℕ) (x : S1) → m.small.generator k x → small_degree x ≡ k) where
    abbrev bigs : (w : A → ℕ) → Fair p pos T.big.same w → Grid p pos m.big.same n.big.same
    bigs w fair = grid_of P pairs m.big.same n.big.same p pos dm.big.graded.equivalence dn.big.graded.equivalence w fair

    abbrev smalls : (w : S → ℕ) → Fair p pos T.small.same w → Grid p pos m.small.same n.small.same
    smalls w fair = grid_of Q small_pairs m.small.same n.small.same p pos dm.small.equivalence dn.small.equivalence w fair

    abbrev degrees : HasDegrees p T
    degrees = record {
      big = record {
        graded = pair_graded P pairs p degree m.big n.big pos dm.big.graded dn.big.graded alike;
        twice = λ k z g. from_weights p pos T.big.same (pair_equivalence P pairs m.big.same n.big.same dm.big.graded.equivalence dn.big.graded.equivalence) (after T.big.d T.big.d z) [] (λ w fair.
            ap (λ r. r % p) (weigh-extend w T.big.d (T.big.d z) ∙ value_D (λ u. weigh w (T.big.d u)) z
            ∙ ap (λ U. D_on U (P.left z) (P.right z)) (λ l x y. pair_D w x y l))
            ∙ twice_at p pos m n dm dn degree small_degree alike small_alike graded (bigs w fair) g.0 g.1 (P.left z) (P.right z) g.2 g.3);
      };
      small = pair_graded Q small_pairs p small_degree m.small n.small pos dm.small dn.small small_alike;
      f = record {
        keeps = λ k z g. each-product Q (m.small.generator g.0) (n.small.generator g.1) (T.small.generator k)
            (λ x y a b. pair_generator Q small_pairs p small_degree m.small n.small g.0 g.1 k x y a b g.4)
            (m.f (P.left z)) (n.f (P.right z)) (dm.f.keeps g.0 (P.left z) g.2) (dn.f.keeps g.1 (P.right z) g.3);
        respects = λ z u e. from_weights p pos T.small.same (pair_equivalence Q small_pairs m.small.same n.small.same dm.small.equivalence dn.small.equivalence) (T.f z) (T.f u) (λ w fair.
            ap (λ r. r % p) (value_f w z)
            ∙ grid_fair P pairs m.big.same n.big.same p pos (FT p pos m n dm dn degree small_degree alike small_alike (smalls w fair)) z u e
            ∙ ap (λ r. r % p) (sym (value_f w u)));
      };
      g = record {
        keeps = λ k z g. each-product P (m.big.generator g.0) (n.big.generator g.1) (T.big.generator k)
            (λ x y a b. pair_generator P pairs p degree m.big n.big g.0 g.1 k x y a b g.4)
            (m.g (Q.left z)) (n.g (Q.right z)) (dm.g.keeps g.0 (Q.left z) g.2) (dn.g.keeps g.1 (Q.right z) g.3);
        respects = λ z u e. from_weights p pos T.big.same (pair_equivalence P pairs m.big.same n.big.same dm.big.graded.equivalence dn.big.graded.equivalence) (T.g z) (T.g u) (λ w fair.
            ap (λ r. r % p) (value_g w z)
            ∙ grid_fair Q small_pairs m.small.same n.small.same p pos (GT p pos m n dm dn degree small_degree alike small_alike (bigs w fair)) z u e
            ∙ ap (λ r. r % p) (sym (value_g w u)));
      };
      h = record {
        raises = λ k z g. Each-append (T.big.generator (suc k)) (product_in P (m.h (P.left z)) (one (P.right z))) (scale (sign p (degree (P.left z))) (product_in P (after m.g m.f (P.left z)) (n.h (P.right z))))
            (each-product P (m.big.generator (suc g.0)) (n.big.generator g.1) (T.big.generator (suc k))
            (λ x y a b. pair_generator P pairs p degree m.big n.big (suc g.0) g.1 (suc k) x y a b (omega (arith, g.4)))
            (m.h (P.left z)) (one (P.right z)) (dm.h.raises g.0 (P.left z) g.2) (g.3, tt))
            (Each-scale (T.big.generator (suc k)) (sign p (degree (P.left z))) (product_in P (after m.g m.f (P.left z)) (n.h (P.right z)))
            (each-product P (m.big.generator g.0) (n.big.generator (suc g.1)) (T.big.generator (suc k))
            (λ x y a b. pair_generator P pairs p degree m.big n.big g.0 (suc g.1) (suc k) x y a b (omega (arith, g.4)))
            (after m.g m.f (P.left z)) (n.h (P.right z))
            (Each-extend (m.big.generator g.0) (m.small.generator g.0) m.g (dm.g.keeps g.0) (m.f (P.left z)) (dm.f.keeps g.0 (P.left z) g.2))
            (dn.h.raises g.1 (P.right z) g.3)));
        respects = λ z u e. from_weights p pos T.big.same (pair_equivalence P pairs m.big.same n.big.same dm.big.graded.equivalence dn.big.graded.equivalence) (T.h z) (T.h u) (λ w fair.
            ap (λ r. r % p) (value_h w z)
            ∙ grid_fair P pairs m.big.same n.big.same p pos (HT p pos m n dm dn degree small_degree alike small_alike (bigs w fair)) z u e
            ∙ ap (λ r. r % p) (sym (value_h w u)));
      };
    }

    module _ (N M L : ℕ) (within : N ≤ L + M) (least : (k : ℕ) (x : A1) → m.big.generator k x → L ≤ k) (small_least : (k : ℕ) (x : S1) → m.small.generator k x → L ≤ k)
        (lm : Laws p pos m dm N) (ln : Laws p pos n dn M) where
      laws : Laws p pos T degrees N
      laws = record {
        small = λ w. record {
          at = λ k z l g.
              ap (λ r. r % p) (value_d Q small_pairs p small_degree m.small n.small w.at z)
              ∙ small_at p pos m n dm dn degree small_degree alike small_alike N M lm ln graded small_graded g.0 g.1 (Q.left z) (Q.right z) (left_in k z l g) (right_in_small k z l g) g.2 g.3 (smalls w.at w.fair)
              ∙ ap (λ r. r % p) (sym (value_g (λ u. weigh (λ v. weigh w.at (T.f v)) (T.big.d u)) z
              ∙ ap (λ U. g_on U (Q.left z) (Q.right z)) (λ i x y. (pair_D (λ v. weigh w.at (T.f v)) x y ∙ ap (λ U. D_on U x y) (λ j a b. pair_f w.at a b j)) i)));
        };
        fg = λ w. record {
          at = λ k z l g.
              ap (λ r. r % p) (value_g (λ v. weigh w.at (T.f v)) z ∙ ap (λ U. g_on U (Q.left z) (Q.right z)) (λ i x y. pair_f w.at x y i))
              ∙ fg_at p pos m n dm dn degree small_degree alike small_alike N M lm ln graded small_graded g.0 g.1 (Q.left z) (Q.right z) (left_in k z l g) (right_in_small k z l g) g.2 g.3 (smalls w.at w.fair)
              ∙ ap (λ u. w.at u % p) (small_pairs.whole z);
        };
        homotopy = λ w. record {
          at = λ k z l g.
              ap (λ r. r % p) (λ i. (value_h (λ v. weigh w.at (T.big.d v)) z ∙ ap (λ U. h_on U (P.left z) (P.right z)) (λ i x y. pair_D w.at x y i)) i
              + ((value_D (λ v. weigh w.at (T.h v)) z ∙ ap (λ U. D_on U (P.left z) (P.right z)) (λ i x y. pair_h w.at x y i)) i
              + (value_f (λ v. weigh w.at (T.g v)) z ∙ ap (λ U. f_on U (P.left z) (P.right z)) (λ i x y. pair_g w.at x y i)) i))
              ∙ homotopy_at p pos m n dm dn degree small_degree alike small_alike N M lm ln graded small_graded g.0 g.1 (P.left z) (P.right z) (big_left_in k z l g) (right_in k z l g) g.2 g.3 (bigs w.at w.fair)
              ∙ ap (λ u. w.at u % p) (pairs.whole z);
        };
        fh = λ w. record {
          at = λ k z l g.
              ap (λ r. r % p) (value_h (λ v. weigh w.at (T.f v)) z ∙ ap (λ U. h_on U (P.left z) (P.right z)) (λ i x y. pair_f w.at x y i))
              ∙ fh_at p pos m n dm dn degree small_degree alike small_alike N M lm ln graded small_graded g.0 g.1 (P.left z) (P.right z) (big_left_in k z l g) (right_in k z l g) g.2 g.3 (smalls w.at w.fair);
        };
        hg = λ w. record {
          at = λ k z l g.
              ap (λ r. r % p) (value_g (λ v. weigh w.at (T.h v)) z ∙ ap (λ U. g_on U (Q.left z) (Q.right z)) (λ i x y. pair_h w.at x y i))
              ∙ hg_at p pos m n dm dn degree small_degree alike small_alike N M lm ln graded small_graded g.0 g.1 (Q.left z) (Q.right z) (left_in k z l g) (right_in_small k z l g) g.2 g.3 (bigs w.at w.fair);
        };
        hh = λ w. record {
          at = λ k z l g.
              ap (λ r. r % p) (value_h (λ v. weigh w.at (T.h v)) z ∙ ap (λ U. h_on U (P.left z) (P.right z)) (λ i x y. pair_h w.at x y i))
              ∙ hh_at p pos m n dm dn degree small_degree alike small_alike N M lm ln graded small_graded g.0 g.1 (P.left z) (P.right z) (big_left_in k z l g) (right_in k z l g) g.2 g.3 (bigs w.at w.fair);
        };
      }
        where
          left_in : (k : ℕ) (z : S) → k ≤ N → (g : T.small.generator k z) → g.0 ≤ N
          left_in k z l g = omega (arith, l, g.4)

          right_in_small : (k : ℕ) (z : S) → k ≤ N → (g : T.small.generator k z) → g.1 ≤ M
          right_in_small k z l g = omega (arith, l, g.4, within, small_least g.0 (Q.left z) g.2)

          big_left_in : (k : ℕ) (z : A) → k ≤ N → (g : T.big.generator k z) → g.0 ≤ N
          big_left_in k z l g = omega (arith, l, g.4)

          right_in : (k : ℕ) (z : A) → k ≤ N → (g : T.big.generator k z) → g.1 ≤ M
          right_in k z l g = omega (arith, l, g.4, within, least g.0 (P.left z) g.2)

  pub tensor_in_meets : (alike : (x y : A1) → m.big.same x y ≡ true → degree x ≡ degree y) (small_alike : (x y : S1) → m.small.same x y ≡ true → small_degree x ≡ small_degree y)
      (graded : (k : ℕ) (x : A1) → m.big.generator k x → degree x ≡ k) (small_graded : (k : ℕ) (x : S1) → m.small.generator k x → small_degree x ≡ k)
      (N M L : ℕ) → N ≤ L + M → ((k : ℕ) (x : A1) → m.big.generator k x → L ≤ k) → ((k : ℕ) (x : S1) → m.small.generator k x → L ≤ k)
      → IsReductionTo p N m → IsReductionTo p M n → IsReductionTo p N (tensor_in P Q p degree small_degree m n)
  tensor_in_meets alike small_alike graded small_graded N M L within least small_least first second =
      is_reduction p pos T (degrees first.degrees second.degrees alike small_alike graded small_graded) N
      (laws first.degrees second.degrees alike small_alike graded small_graded N M L within least small_least
      (to_laws p pos m first.degrees N first.equations) (to_laws p pos n second.degrees M second.equations))

pub plain_pairs : {X Y : Type 0} → IsPairing (plain {X = X} {Y = Y})
plain_pairs = record { left_of = λ x y. refl; right_of = λ x y. refl; whole = λ z. refl }

-- the theorem on plain pairs
pub tensor_meets : (p : ℕ) (pos : 0 < p) {A1 A2 S1 S2 : Type 0} (m : Maps A1 S1) (n : Maps A2 S2) (degree : A1 → ℕ) (small_degree : S1 → ℕ)
    (alike : (x y : A1) → m.big.same x y ≡ true → degree x ≡ degree y) (small_alike : (x y : S1) → m.small.same x y ≡ true → small_degree x ≡ small_degree y)
    (graded : (k : ℕ) (x : A1) → m.big.generator k x → degree x ≡ k) (small_graded : (k : ℕ) (x : S1) → m.small.generator k x → small_degree x ≡ k)
    (N M L : ℕ) → N ≤ L + M → ((k : ℕ) (x : A1) → m.big.generator k x → L ≤ k) → ((k : ℕ) (x : S1) → m.small.generator k x → L ≤ k)
    → IsReductionTo p N m → IsReductionTo p M n → IsReductionTo p N (tensor p degree small_degree m n)
tensor_meets p pos m n degree small_degree = tensor_in_meets p pos plain plain plain_pairs plain_pairs m n degree small_degree
