-- Products and bundles are reductions where their parts are.
use Rattle.std.proofs.Common.{ℕ, ◌<◌, List, [], sym, ◌∙◌, ap, subst, arith, ◌%◌}
use Rattle.std.specs.Prelude.{ℤ}
use Rattle.fp_field.specs.Field.{IsField}
use Rattle.fp_field.specs.Chains.{coeff, Each}
use Rattle.fp_field.specs.Reduction.{IsReduction, IsReductionTo}
use Rattle.spaces.specs.Tables.{Table}
use Rattle.spaces.specs.Spaces.{Space, table, kz1, product, bundle, set_of}
use Rattle.spaces.specs.Orders.{ordered}
use Rattle.spaces.specs.Allowed.{Admits}
use Rattle.spaces.specs.EilenbergZilber.{linear}
use Rattle.values.specs.Rules.{bundle_twist}
use Rattle.values.specs.Twists.{untwisted}
use Rattle.values.specs.Laws.{maps_of}
use Rattle.ez_laws.specs.Complexes.{same_tensor}
use Rattle.homology_laws.specs.Suspended.{IsGivenBack}
use Rattle.homology_laws.proofs.TableLists.{table-reduction}
use Rattle.homology_laws.proofs.IntegersLists.{circle-reduction}
use Rattle.twist_laws.specs.LeftDegrees.{Tensors}
use Rattle.twist_laws.proofs.Instances.{products-complex, products-lower, products-transfer, bundles-complex, bundles-lower, bundles-transfer}
use Rattle.twist_laws.proofs.Fibred.{fibred, FallsByTwo}
use Rattle.twist_laws.proofs.FibredSpaces.{product-fibred, bundle-fibred}

module _ (p : ℕ) (pos : 0 < p) where
  module _ (a b : Space) (ad : Admits a) (bd : Admits b) where
    -- without a twist there is no difference
    pub no-difference : FallsByTwo p pos a b ad bd untwisted
    no-difference P is = record {
      lowers = λ n z h. subst (Each (Tensors p (linear (ordered a)) (set_of a).In (ordered b) n)) (sym (products-transfer p pos a b P z)) tt;
      ends = λ z h. products-transfer p pos a b P z;
      respects = λ x y e k. ap (λ c. coeff (same_tensor p (linear (ordered a)) (set_of a).In (ordered b)) c k % p)
          (products-transfer p pos a b P x ∙ sym (products-transfer p pos a b P y));
      falls = λ n z h. (
        [],
        (λ k. ap (λ c. coeff (same_tensor p (linear (ordered a)) (set_of a).In (ordered b)) c k % p)
            (products-transfer p pos a b P z)),
        tt,
      );
    }

    pub product-reduction_to : IsGivenBack p (product a b) → (N : ℕ) → IsReductionTo p N (maps_of p a) → IsReductionTo p N (maps_of p b)
        → IsReductionTo p N (maps_of p (product a b))
    product-reduction_to given N r s =
        fibred p pos a b ad bd untwisted (products-lower p pos a b) (products-complex p pos a b ad bd).twice no-difference (maps_of p (product a b))
        (product-fibred p pos a b ad bd given) N r s

  module _ (t : Table) (c : List ℤ) (ad : Admits (bundle t c)) where
    pub bundle-reduction_to : IsGivenBack p (bundle t c) → (N : ℕ) → IsReductionTo p N (maps_of p (table t)) → IsReductionTo p N (maps_of p kz1)
        → IsReductionTo p N (maps_of p (bundle t c))
    bundle-reduction_to given N r s =
        fibred p pos (table t) kz1 ad.0 tt (bundle_twist p t c) (bundles-lower p pos t c ad) (bundles-complex p pos t c ad).twice (bundles-transfer p pos t c ad)
        (maps_of p (bundle t c)) (bundle-fibred p pos t c ad given) N r s

module _ (p : ℕ) (field : IsField p) where
  pos : 0 < p
  pos = let l : 1 < p = field.one_is_not_zero in omega arith

  pub product-reduction : (a b : Space) → Admits (product a b) → IsGivenBack p (product a b) → IsReduction p (maps_of p a) → IsReduction p (maps_of p b)
      → IsReduction p (maps_of p (product a b))
  product-reduction a b ad given r s N = product-reduction_to p pos a b ad.0 ad.1 given N (r N) (s N)

  pub bundle-reduction : (t : Table) (c : List ℤ) → Admits (bundle t c) → IsGivenBack p (bundle t c) → IsReduction p (maps_of p (bundle t c))
  bundle-reduction t c ad given N = bundle-reduction_to p pos t c ad given N (table-reduction p field t ad.0 N) (circle-reduction p field N)
