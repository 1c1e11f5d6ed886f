-- The laws for products, for any twisting operator, and for the bundles of K(Z,1).
use Rattle.std.proofs.Common.{◌≡◌, ℕ, ◌%◌, ◌<◌, Bool, List, [], ◌∷◌, refl, sym, ◌∙◌, ap, arith}
use Rattle.std.specs.Prelude.{ℤ}
use Rattle.fp_field.specs.Chains.{Terms, extend, coeff, Each}
use Rattle.fp_field.specs.Reduction.{after, IsComplex, IsSameComplex}
use Rattle.spaces.specs.Tables.{Table, RowSimplex}
use Rattle.spaces.specs.Nerves.{integers, nerve_times}
use Rattle.spaces.specs.Products.{IsTwisting}
use Rattle.spaces.specs.Cocycles.{cocycle_twisting}
use Rattle.spaces.specs.Spaces.{Space, table, product, kz1, bundle, Plain, set_of}
use Rattle.spaces.specs.Allowed.{Admits, HasOneVertex}
use Rattle.spaces.specs.Orders.{ordered}
use Rattle.spaces.specs.EilenbergZilber.{linear, Pair, Tensor, same_pair, aw, eml, flow}
use Rattle.spaces.proofs.Integers.{integers_abelian}
use Rattle.spaces.proofs.TableLaws.{table_set_laws}
use Rattle.spaces.proofs.CocycleTwist.{cocycle_is_twisting}
use Rattle.values.specs.Laws.{cells}
use Rattle.values.specs.Rules.{bundle_twist}
use Rattle.values.specs.Twists.{twisted, untwisted}
use Rattle.ez_laws.specs.Sides.{IsRight}
use Rattle.ez_laws.proofs.Orderings.{ordered-right}
use Rattle.twist_laws.specs.TwistedComplexes.{on_pairs}
use Rattle.twist_laws.specs.TwistedProducts.{product_pairs, bundle_pairs}
use Rattle.twist_laws.specs.LeftDegrees.{AmountsTo, Lower, LowersLeft, IsSeriesOf, transferred, LowersByTwo}
use Rattle.twist_laws.proofs.Transferred.{extend-nil, lowers-by-two}
use Rattle.twist_laws.proofs.CellPairs as CP
use Rattle.twist_laws.proofs.TwistedPairs as TP

module _ (p : ℕ) (pos : 0 < p) where
  pub products-same : (a b : Space) → Admits a → Admits b → IsSameComplex p (on_pairs (cells p (product a b))) (product_pairs p a b)
  products-same a b ad bd =
      let l : IsRight (ordered a) = ordered-right a ad in
      let r : IsRight (ordered b) = ordered-right b bd in
      CP.same-complex p pos (ordered a) (ordered b) l r (set_of (product a b)) untwisted (CP.products-on-pairs p pos (ordered a) (ordered b) l r)

  pub products-complex : (a b : Space) → Admits a → Admits b → IsComplex p (product_pairs p a b)
  products-complex a b ad bd =
      let l : IsRight (ordered a) = ordered-right a ad in
      let r : IsRight (ordered b) = ordered-right b bd in
      CP.twisted-complex p pos (ordered a) (ordered b) l r (set_of (product a b)) untwisted (CP.products-on-pairs p pos (ordered a) (ordered b) l r)
      (λ n s e i. tt)

  -- ---- any twisting operator

  module _ (a b : Space) (ad : Admits a) (bd : Admits b) (t : Plain a → Plain b) (times : Plain b → Plain b → Plain b) (w : IsTwisting (set_of a) (set_of b) t times) where
    pub twists-lower : LowersLeft p (linear (ordered a)) (set_of a).In (ordered b) (twisted p (ordered a) (ordered b) t times)
    twists-lower = TP.lowers-left p pos (ordered a) (ordered b) (ordered-right a ad) (ordered-right b bd) t times w

    pub twists-transfer : HasOneVertex (set_of b) → (P : Pair (Plain a) (Plain b) → Terms (Pair (Plain a) (Plain b)))
        → IsSeriesOf p (linear (ordered a)) (set_of a).In (ordered b) (twisted p (ordered a) (ordered b) t times) P
        → LowersByTwo p (linear (ordered a)) (set_of a).In (ordered b) (transferred p (linear (ordered a)) (set_of a).In (ordered b) (twisted p (ordered a) (ordered b) t times) P)
    twists-transfer one P is =
        lowers-by-two p pos (ordered a) (ordered b) (ordered-right a ad) (ordered-right b bd) t times w (λ x y i k. one.2 x i ∙ sym (one.2 y k)) P is

  -- ---- no twist

  module _ (a b : Space) where
    abbrev Two : Type 0
    Two = Pair (Plain a) (Plain b)

    no-terms : {M : Type 0} (c : Terms Two) (f : Terms Two → Terms M) → f [] ≡ [] → f (extend untwisted c) ≡ []
    no-terms c f e = ap f (extend-nil untwisted c (all c)) ∙ e
      where
        all : (c : Terms Two) → Each (λ s. untwisted s ≡ []) c
        all [] = tt
        all (x ∷ c) = (refl, all c)

    no-more : {M : Type 0} (same : M → M → Bool) (Q : M → Type 0) (c : Terms M) → c ≡ [] → AmountsTo p same Q c
    no-more same Q c e = ([], λ k. ap (λ x. coeff same x k % p) e, tt)

    pub products-lower : LowersLeft p (linear (ordered a)) (set_of a).In (ordered b) untwisted
    products-lower = record {
      lowers = λ n s i. tt;
      ends = λ s i. refl;
      respects = λ x y e k. refl;
      falls = λ n s i. no-more (same_pair p (linear (ordered a)) (ordered b)) (Lower p (linear (ordered a)) (set_of a).In (ordered b) n s) [] refl;
      after_flow = λ n s i. no-more (same_pair p (linear (ordered a)) (ordered b)) (Lower p (linear (ordered a)) (set_of a).In (ordered b) n s)
          (after untwisted (flow p (linear (ordered a)) (ordered b)) s) (no-terms (flow p (linear (ordered a)) (ordered b) s) (λ c. c) refl);
      before_flow = λ n s i. no-more (same_pair p (linear (ordered a)) (ordered b)) (Lower p (linear (ordered a)) (set_of a).In (ordered b) n s) [] refl;
    }

    pub products-transfer : (P : Two → Terms Two) (z : Tensor (Plain a) (Plain b)) → transferred p (linear (ordered a)) (set_of a).In (ordered b) untwisted P z ≡ []
    products-transfer P z =
        no-terms (after P (eml p (linear (ordered a)) (ordered b)) z) (extend (aw p (linear (ordered a)) (ordered b))) refl

  -- ---- bundles of K(Z,1)

  module _ (t : Table) (c : List ℤ) (ad : Admits (bundle t c)) where
    abbrev base : IsRight (ordered (table t))
    base = ordered-right (table t) ad.0

    abbrev fibre : IsRight (ordered kz1)
    fibre = ordered-right kz1 tt

    pub twisting : IsTwisting (set_of (table t)) (set_of kz1) (cocycle_twisting integers t c) (nerve_times integers)
    twisting = cocycle_is_twisting integers t c (table_set_laws t ad.0.faces) integers_abelian ad.1

    pub bundles-same : IsSameComplex p (on_pairs (cells p (bundle t c))) (bundle_pairs p t c)
    bundles-same =
        CP.same-complex p pos (ordered (table t)) (ordered kz1) base fibre (set_of (bundle t c)) (bundle_twist p t c)
        (CP.twisted-on-pairs p pos (ordered (table t)) (ordered kz1) base fibre (cocycle_twisting integers t c) (nerve_times integers) twisting)

    pub bundles-complex : IsComplex p (bundle_pairs p t c)
    bundles-complex =
        CP.twisted-complex p pos (ordered (table t)) (ordered kz1) base fibre (set_of (bundle t c)) (bundle_twist p t c)
        (CP.twisted-on-pairs p pos (ordered (table t)) (ordered kz1) base fibre (cocycle_twisting integers t c) (nerve_times integers) twisting)
        (TP.q-pairs p pos (ordered (table t)) (ordered kz1) base fibre (cocycle_twisting integers t c) (nerve_times integers) twisting)

    pub bundles-lower : LowersLeft p (linear (ordered (table t))) (set_of (table t)).In (ordered kz1) (bundle_twist p t c)
    bundles-lower = TP.lowers-left p pos (ordered (table t)) (ordered kz1) base fibre (cocycle_twisting integers t c) (nerve_times integers) twisting

    only-vertex : (x y : List ℤ) → (set_of kz1).In 0 x → (set_of kz1).In 0 y → x ≡ y
    only-vertex [] [] i k = refl
    only-vertex [] (a ∷ y) i k = absurd (omega (arith, k.0))
    only-vertex (a ∷ x) y i k = absurd (omega (arith, i.0))

    pub bundles-transfer : (P : Pair RowSimplex (List ℤ) → Terms (Pair RowSimplex (List ℤ)))
        → IsSeriesOf p (linear (ordered (table t))) (set_of (table t)).In (ordered kz1) (bundle_twist p t c) P
        → LowersByTwo p (linear (ordered (table t))) (set_of (table t)).In (ordered kz1)
        (transferred p (linear (ordered (table t))) (set_of (table t)).In (ordered kz1) (bundle_twist p t c) P)
    bundles-transfer P is =
        lowers-by-two p pos (ordered (table t)) (ordered kz1) base fibre (cocycle_twisting integers t c) (nerve_times integers) twisting only-vertex P is
