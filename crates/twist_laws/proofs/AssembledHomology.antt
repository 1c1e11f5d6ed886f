-- Tables, spheres, K(Z,1) and its bundles, and products and suspensions of such: their maps are reductions, their cycles homology lists.
use Rattle.std.proofs.Common.{ℕ, suc, ◌<◌, List, arith}
use Rattle.std.specs.Prelude.{ℤ}
use Rattle.fp_field.specs.Field.{IsField}
use Rattle.fp_field.specs.Reduction.{IsReduction, IsReductionTo}
use Rattle.spaces.specs.Tables.{Table}
use Rattle.spaces.specs.Spaces.{Space, table, sphere, product, suspension, kz1, bundle, loops, paths, kzm1, cyclic_bundle}
use Rattle.spaces.specs.Allowed.{IsAllowed}
use Rattle.values.specs.Asks.{cycles}
use Rattle.values.specs.Laws.{maps_of, ListsHomology, ValuesAreGivenBack}
use Rattle.values.proofs.BasesCells.{basis-degree, basis-rising}
use Rattle.homology_laws.specs.Kernel.{BasisRises, CyclesAreGiven}
use Rattle.homology_laws.specs.Suspended.{IsGivenBack}
use Rattle.homology_laws.proofs.Kernel.{listed-homology}
use Rattle.homology_laws.proofs.TableLists.{table-reduction, sphere-reduction}
use Rattle.homology_laws.proofs.IntegersLists.{circle-reduction}
use Rattle.homology_laws.proofs.SuspendedLists.{suspension-reduction}
use Rattle.twist_laws.specs.Assembled.{IsLoopless, IsAssembled}
use Rattle.twist_laws.proofs.ProductReductions.{product-reduction_to, product-reduction, bundle-reduction}
use Rattle.twist_laws.proofs.TwistedSpaces.{cyclic-reduction_to}
use Rattle.twist_laws.proofs.LooplessValues.{loopless-back, loopless-given}

no-loops : (a : Space) → IsAssembled a → IsLoopless a
no-loops (table t) u = tt
no-loops (sphere m) u = tt
no-loops (product a b) u = (no-loops a u.0, no-loops b u.1)
no-loops (suspension a) u = no-loops a u
no-loops kz1 u = tt
no-loops (bundle t c) u = tt
no-loops (loops a) u = absurd u
no-loops (paths a) u = absurd u
no-loops (kzm1 m) u = absurd u
no-loops (cyclic_bundle t m c) u = absurd u

module _ (p : ℕ) (field : IsField p) where
  pub pos : 0 < p
  pos = let l : 1 < p = field.one_is_not_zero in omega arith

  rises : (a : Space) (n : ℕ) → BasisRises p a n
  rises a n = record { degrees = basis-degree p a n; rises = basis-rising p a n }

  lists-of : (a : Space) (n : ℕ) → IsAllowed a → IsReductionTo p (suc n) (maps_of p a) → CyclesAreGiven p a n → ListsHomology p a n
  lists-of a n is r given valid = listed-homology p field a n (record { allowed = is; reduction = r; here = rises a n; above = rises a (suc n); given = given })

  pub product-lists : (a b : Space) (n : ℕ) → IsGivenBack p (product a b) → ValuesAreGivenBack p → IsReductionTo p (suc n) (maps_of p a) → IsReductionTo p (suc n) (maps_of p b)
      → ListsHomology p (product a b) n
  product-lists a b n given back r s valid =
      lists-of (product a b) n valid.0 (product-reduction_to p pos a b valid.0.0.0 valid.0.0.1 given (suc n) r s) (back (cycles (product a b) n) valid) valid

  pub bundle-whole : (t : Table) (c : List ℤ) → IsAllowed (bundle t c) → IsReduction p (maps_of p (bundle t c))
  bundle-whole t c is = bundle-reduction p field t c is.0 (loopless-given p (bundle t c) tt)

  pub bundle-lists : (t : Table) (c : List ℤ) (n : ℕ) → ListsHomology p (bundle t c) n
  bundle-lists t c n valid = lists-of (bundle t c) n valid.0 (bundle-whole t c valid.0 (suc n)) (loopless-back p (cycles (bundle t c) n) tt) valid

  pub assembled-reduction : (a : Space) → IsAllowed a → IsAssembled a → IsReduction p (maps_of p a)
  assembled-reduction (table t) is u = table-reduction p field t is.0
  assembled-reduction (sphere m) is u = sphere-reduction p field m is.0.0
  assembled-reduction (product a b) is u =
      product-reduction p field a b is.0 (loopless-given p (product a b) (no-loops (product a b) u))
      (assembled-reduction a (is.0.0, omega (arith, is.1)) u.0) (assembled-reduction b (is.0.1, omega (arith, is.1)) u.1)
  assembled-reduction (suspension a) is u =
      suspension-reduction p field a is (loopless-given p (suspension a) (no-loops a u)) (assembled-reduction a (is.0.0, omega (arith, is.1)) u)
  assembled-reduction kz1 is u = circle-reduction p field
  assembled-reduction (bundle t c) is u = bundle-whole t c is
  assembled-reduction (loops a) is u = absurd u
  assembled-reduction (paths a) is u = absurd u
  assembled-reduction (kzm1 m) is u = absurd u
  assembled-reduction (cyclic_bundle t m c) is u = absurd u

  pub assembled-lists : (a : Space) (n : ℕ) → IsAssembled a → ListsHomology p a n
  assembled-lists a n u valid = lists-of a n valid.0 (assembled-reduction a valid.0 u (suc n)) (loopless-back p (cycles a n) (no-loops a u)) valid

  -- ---- bundles of K(Z/m,1)

  pub cyclic-to : (t : Table) (m : ℕ) (c : List ℕ) (n : ℕ) → IsAllowed (cyclic_bundle t m c) → IsReductionTo p n (maps_of p (kzm1 m))
      → IsReductionTo p n (maps_of p (cyclic_bundle t m c))
  cyclic-to t m c n is r = cyclic-reduction_to p pos t m c is.0 (loopless-given p (cyclic_bundle t m c) tt) n (table-reduction p field t is.0.0 n) r

  pub cyclic-lists : (t : Table) (m : ℕ) (c : List ℕ) (n : ℕ) → IsReductionTo p (suc n) (maps_of p (kzm1 m)) → ListsHomology p (cyclic_bundle t m c) n
  cyclic-lists t m c n r valid =
      lists-of (cyclic_bundle t m c) n valid.0 (cyclic-to t m c (suc n) valid.0 r) (loopless-back p (cycles (cyclic_bundle t m c) n) tt) valid

  -- ---- all spaces without loops, where K(Z/m,1) are known

  module _ (cyclic : (m : ℕ) → IsAllowed (kzm1 m) → IsReduction p (maps_of p (kzm1 m))) where
    pub loopless-reduction : (a : Space) → IsAllowed a → IsLoopless a → IsReduction p (maps_of p a)
    loopless-reduction (table t) is u = table-reduction p field t is.0
    loopless-reduction (sphere m) is u = sphere-reduction p field m is.0.0
    loopless-reduction (product a b) is u =
        product-reduction p field a b is.0 (loopless-given p (product a b) u) (loopless-reduction a (is.0.0, omega (arith, is.1)) u.0)
        (loopless-reduction b (is.0.1, omega (arith, is.1)) u.1)
    loopless-reduction (suspension a) is u =
        suspension-reduction p field a is (loopless-given p (suspension a) u) (loopless-reduction a (is.0.0, omega (arith, is.1)) u)
    loopless-reduction kz1 is u = circle-reduction p field
    loopless-reduction (bundle t c) is u = bundle-whole t c is
    loopless-reduction (loops a) is u = absurd u
    loopless-reduction (paths a) is u = absurd u
    loopless-reduction (kzm1 m) is u = cyclic m is
    loopless-reduction (cyclic_bundle t m c) is u = λ n. cyclic-to t m c n is (cyclic m ((is.0.2, is.0.3), omega arith) n)

    pub loopless-lists : (a : Space) (n : ℕ) → IsLoopless a → ListsHomology p a n
    loopless-lists a n u valid = lists-of a n valid.0 (loopless-reduction a valid.0 u (suc n)) (loopless-back p (cycles a n) u) valid
