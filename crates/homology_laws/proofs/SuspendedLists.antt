-- Suspensions, taken any number of times: their maps are a reduction, and their cycles homology lists.
use Rattle.std.proofs.Common.{◌≡◌, ℕ, suc, ◌≤◌, sym, subst, arith}
use Rattle.fp_field.specs.Field.{IsField}
use Rattle.fp_field.specs.Reduction.{Maps, IsReductionTo, IsReduction}
use Rattle.spaces.specs.Spaces.{Space, table, sphere, product, suspension, kz1, bundle, loops, paths, kzm1, cyclic_bundle}
use Rattle.spaces.specs.Allowed.{IsAllowed}
use Rattle.values.specs.Asks.{cycles, value_with}
use Rattle.values.specs.BaseLaws.{IsSimple}
use Rattle.values.specs.Cycles.{rule_cycles}
use Rattle.values.specs.Laws.{maps_of, ListsHomology, ValuesAreGivenBack}
use Rattle.values.specs.Values.{value}
use Rattle.values.proofs.BasesCells.{basis-degree, basis-rising}
use Rattle.values.proofs.BasesRows.{simple-given_back}
use Rattle.homology_laws.specs.Kernel.{BasisRises, CyclesAreGiven}
use Rattle.homology_laws.specs.Suspended.{innermost, IsGivenBack}
use Rattle.homology_laws.proofs.Kernel.{listed-homology}
use Rattle.homology_laws.proofs.SuspendedMaps.{suspension-reduction_to}

-- a reduction as far as a degree is one as far as a lower degree
up_to : {B S : Type 0} (p M N : ℕ) (m : Maps B S) → M ≤ N → IsReductionTo p N m → IsReductionTo p M m
up_to p M N m l r = record {
  degrees = r.degrees;
  equations = record {
    f_commutes = λ n x i. r.equations.f_commutes n x (omega arith);
    g_commutes = λ n y i. r.equations.g_commutes n y (omega arith);
    twice = λ n y i. r.equations.twice n y (omega arith);
    fg = λ n y i. r.equations.fg n y (omega arith);
    homotopy = λ n x i. r.equations.homotopy n x (omega arith);
    fh = λ n x i. r.equations.fh n x (omega arith);
    hg = λ n y i. r.equations.hg n y (omega arith);
    hh = λ n x i. r.equations.hh n x (omega arith);
  };
}

basis-rises : (p : ℕ) (a : Space) (n : ℕ) → BasisRises p a n
basis-rises p a n = record { degrees = basis-degree p a n; rises = basis-rising p a n }

module _ (p : ℕ) (field : IsField p) where
  pub suspension-reduction : (a : Space) → IsAllowed (suspension a) → IsGivenBack p (suspension a) → IsReduction p (maps_of p a) → IsReduction p (maps_of p (suspension a))
  suspension-reduction a is given r N =
      up_to p N (suc (suc N)) (maps_of p (suspension a)) (omega arith) (suspension-reduction_to p field a is given N (r (suc N)))

  lists-of : (a : Space) (n : ℕ) → IsAllowed a → IsReductionTo p (suc n) (maps_of p a) → CyclesAreGiven p a n → ListsHomology p a n
  lists-of a n is r given valid =
      listed-homology p field a n (record { allowed = is; reduction = r; here = basis-rises p a n; above = basis-rises p a (suc n); given = given })

  pub suspension-lists : (a : Space) (n : ℕ) → IsGivenBack p (suspension a) → ValuesAreGivenBack p → IsReductionTo p (suc n) (maps_of p a) → ListsHomology p (suspension a) n
  suspension-lists a n given back r valid =
      lists-of (suspension a) n valid.0
      (up_to p (suc n) (suc (suc n)) (maps_of p (suspension a)) (omega arith) (suspension-reduction_to p field a valid.0 given n r)) (back (cycles (suspension a) n) valid) valid

  -- ---- suspended any number of times

  pub simple-back : (a : Space) → IsSimple a → IsGivenBack p a
  simple-back a u k e c is = simple-given_back p k (subst IsSimple (sym e) u)

  pub simple-reduction : (a : Space) → IsAllowed a → IsSimple a → IsReduction p (maps_of p (innermost a)) → IsReduction p (maps_of p a)
  simple-reduction (table t) is u r = r
  simple-reduction (sphere m) is u r = r
  simple-reduction (product a b) is u r = r
  simple-reduction (suspension a) is u r = suspension-reduction a is (simple-back (suspension a) u) (simple-reduction a (is.0.0, omega (arith, is.1)) u r)
  simple-reduction kz1 is u r = r
  simple-reduction (bundle t c) is u r = r
  simple-reduction (loops a) is u r = r
  simple-reduction (paths a) is u r = r
  simple-reduction (kzm1 m) is u r = r
  simple-reduction (cyclic_bundle t m c) is u r = r

  pub simple-lists : (a : Space) (n : ℕ) → IsSimple a → IsReduction p (maps_of p (innermost a)) → ListsHomology p a n
  simple-lists a n u r valid = lists-of a n valid.0 (simple-reduction a valid.0 u r (suc n)) (simple-given_back p (cycles a n) u) valid
