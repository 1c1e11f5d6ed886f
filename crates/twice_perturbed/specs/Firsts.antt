-- What becomes of whole chains under the maps of a reduction to whose big differential a twist is added (the basic perturbation lemma: Shih
-- 1962; Rubio and Sergeraert, Constructive Homological Algebra and Applications, 2.4). Each series has a stated number of terms, and nothing
-- is asked.
--
--   where the twist is 0, a chain goes down by f, up by g and is raised by h, and the difference is 0
use Rattle.std.specs.Prelude.{ℕ, zero, suc}
use Rattle.std.specs.declared.cmp.Ordering.{Ordering}
use Rattle.fp_field.specs.declared.prime.Prime.{Prime}
use Rattle.fp_field.specs.Field.{number}
use Rattle.fp_field.specs.Chains.{Terms, Each}
use Rattle.fp_field.specs.Normal.{normal, apply}
use Rattle.fp_field.specs.Reduction.{after, Maps}
use Rattle.fp_field.specs.Series.{series}
use Rattle.perturb.specs.Perturbation.{perturbed_by}
use Rattle.perturb.specs.PerturbedLists.{next_term}

-- the chains from which the first n steps of a series call its two maps only where these may be asked
module _ {K : Type 0} (cmp : K → K → Ordering) (p : ℕ) (first second : K → Terms K) (may_first may_second : K → Type 0) where
  abbrev pub SeriesWithin : ℕ → Terms K → Type 0
  SeriesWithin zero c = Unit {0}
  SeriesWithin (suc n) c = Each may_first c × (Each may_second (apply cmp p first c) × SeriesWithin n (next_term cmp p first second c))

-- A reduction and its twist, the generators on which the maps may be asked, and the condition that both are over one field.
pub record First (B M : Type 0) : Type 1 where
  pub prime : Prime
  pub maps : Maps B M
  pub twist : B → Terms B
  pub may_big : B → Type 0
  pub may_middle : M → Type 0
  pub may_twist : B → Type 0
  pub whole : Type 0

module _ {B M : Type 0} (by_big : B → B → Ordering) (by_middle : M → M → Ordering) (a : First B M) (n : ℕ) where
  abbrev p : ℕ
  p = number a.prime

  -- f S
  abbrev pub lowered : Terms B → Terms M
  lowered c = apply by_middle p a.maps.f (series by_big p n (after a.twist a.maps.h) c)

  -- P g
  abbrev pub lifted : Terms M → Terms B
  lifted c = series by_big p n (after a.maps.h a.twist) (apply by_big p a.maps.g c)

  -- P h
  abbrev pub raised : Terms B → Terms B
  raised c = series by_big p n (after a.maps.h a.twist) (apply by_big p a.maps.h c)

  -- f q P g of a generator: what the twist adds to the differential of the small complex
  abbrev pub difference : M → Terms M
  difference x = after a.maps.f (after a.twist (perturbed_by by_big p (λ z. n) a.maps a.twist).g) x

  -- the same of a whole chain
  abbrev pub difference_along : Terms M → Terms M
  difference_along c = apply by_middle p a.maps.f (apply by_big p a.twist (lifted c))

  -- ---- where they may be asked

  abbrev pub MayLower : Terms B → Type 0
  MayLower c = SeriesWithin by_big p a.maps.h a.twist a.may_big a.may_twist n c

  abbrev pub MayLift : M → Type 0
  MayLift x = a.may_middle x × SeriesWithin by_big p a.twist a.maps.h a.may_twist a.may_big n (normal by_big p (a.maps.g x))

  abbrev pub MayRaise : Terms B → Type 0
  MayRaise c = Each a.may_big c × SeriesWithin by_big p a.twist a.maps.h a.may_twist a.may_big n (apply by_big p a.maps.h c)

  abbrev pub MayDiffer : M → Type 0
  MayDiffer x = a.whole × MayLift x
