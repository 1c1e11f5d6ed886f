-- The values of a space whose maps have their degrees have only cells that the code has.
use Rattle.std.proofs.Common.{◌≡◌, ℕ, zero, suc, ◌+◌, ◌≤◌, [], ◌∷◌, sym, subst, arith, refl}
use Rattle.std.specs.Prelude.{Contains}
use Rattle.fp_field.specs.Field.{IsField}
use Rattle.fp_field.specs.Chains.{Terms, Each}
use Rattle.fp_field.specs.Reduction.{HasDegrees, IsReduction, IsReductionTo}
use Rattle.spaces.specs.Spaces.{Space, suspension}
use Rattle.spaces.specs.SmallCells.{Small, small_degree}
use Rattle.spaces.specs.Allowed.{IsAllowed}
use Rattle.values.specs.Asks.{Cell, basis, small_d}
use Rattle.values.specs.BaseLaws.{IsSimple}
use Rattle.values.specs.Values.{value}
use Rattle.values.specs.Ranks.{IsCell, loopings}
use Rattle.values.specs.Laws.{maps_of}
use Rattle.oracle_iface.specs.KeyLaws.{HasCells, IsShown}
use Rattle.oracle_iface.proofs.ProperBases.{listed-proper}
use Rattle.homology_laws.specs.Suspended.{innermost, IsGivenBack}
use Rattle.homology_laws.proofs.SuspendedMaps.{suspension-reduction_to}
use Rattle.homology_laws.proofs.SuspendedLists.{simple-reduction}
use Rattle.homology_rules.specs.Shown.{IsSmallShown, HasShownValues}

module _ (p : ℕ) (a : Space) (is : IsAllowed a) (cells : HasCells a) (degrees : HasDegrees p (maps_of p a)) where
  smalls-shown : (c : Terms (Small a)) (n : ℕ) → n + loopings a ≤ 24 → Each ((maps_of p a).small.generator n) c → Each (IsSmallShown a) c
  smalls-shown [] n l e = tt
  smalls-shown (t ∷ c) n l e = ((listed-proper p a n t.0 is.0 e.0.1, omega (arith, e.0.0, l)), smalls-shown c n l e.1)

  cells-shown : (c : Terms (Cell a)) (n : ℕ) → n ≤ 25 → Each ((maps_of p a).big.generator n) c → Each (IsShown a) c
  cells-shown [] n l e = tt
  cells-shown (t ∷ c) n l e = ((omega (arith, e.0.0, l), subst (λ m. IsCell a m t.0.1) (sym e.0.0) e.0.1), cells-shown c n l e.1)

  d-shown : (n : ℕ) (y : Small a) → small_degree a y ≡ n → Contains (value p (basis a (small_degree a y))) y → small_degree a y + loopings a ≤ 24
      → Each (IsSmallShown a) (value p (small_d a y))
  d-shown zero y e m l = subst (Each (IsSmallShown a)) (sym (degrees.small.ends y (e, subst (λ n. Contains (value p (basis a n)) y) e m))) tt
  d-shown (suc n) y e m l =
      smalls-shown (value p (small_d a y)) n (omega (arith, e, l)) (degrees.small.lowers n y (e, subst (λ n. Contains (value p (basis a n)) y) e m))

  pub degrees-shown : HasShownValues p a
  degrees-shown = record {
    cells = cells;
    in_small_d = λ y v. d-shown (small_degree a y) y refl v.1 v.2;
    in_f = λ n x v. smalls-shown _ n v.2 (degrees.f.keeps n (n, x) (refl, v.1));
    in_g = λ y v. cells-shown _ (small_degree a y) (omega (arith, v.2)) (degrees.g.keeps (small_degree a y) y (refl, v.1));
    in_h = λ n x v. cells-shown _ (suc n) (omega (arith, v.2)) (degrees.h.raises n (n, x) (refl, v.1));
  }

module _ (p : ℕ) (field : IsField p) where
  pub suspension-shown : (a : Space) → IsAllowed (suspension a) → HasCells (suspension a) → IsGivenBack p (suspension a) → IsReductionTo p 1 (maps_of p a)
      → HasShownValues p (suspension a)
  suspension-shown a is cells given r = degrees-shown p (suspension a) is cells (suspension-reduction_to p field a is given 0 r).degrees

  pub simple-shown : (a : Space) → IsAllowed a → IsSimple a → HasCells a → IsReduction p (maps_of p (innermost a)) → HasShownValues p a
  simple-shown a is u cells r = degrees-shown p a is cells (simple-reduction p field a is u r 0).degrees
