-- A reduction with its degrees shifted by one (Rubio and Sergeraert, Constructive Homological Algebra and Applications, chapter 2; the
-- suspension of a chain complex in May, Simplicial Objects in Algebraic Topology, chapter VI).
--
-- The maps are f, g and -h, and the differentials -d. A shift down has the generators of degree at least 1, and its differentials are 0 on
-- those that had degree 1.
--
--   over 3, with d(a) = b, the shift up has d(a) = 2 b
use Rattle.std.specs.Prelude.{◌≤◌, ℕ, zero, suc, ◌-◌, [], Bool, true, false, cond}
use Rattle.fp_field.specs.Chains.{Terms, scale}
use Rattle.fp_field.specs.Reduction.{Complex, Maps}
use Rattle.reduct_laws.specs.Lists.{Lists}

-- the generators of each degree after a shift up, and after one down
abbrev pub shifted_generator : {K : Type 0} → Bool → (ℕ → K → Type 0) → ℕ → K → Type 0
shifted_generator true G zero x = ⊥
shifted_generator true G (suc n) x = G n x
shifted_generator false G n x = G (suc n) x

abbrev pub shifted_degree : Bool → ℕ → ℕ
shifted_degree true n = suc n
shifted_degree false zero = zero
shifted_degree false (suc n) = n

-- which degrees have generators after the shift
abbrev pub HasShift : Bool → ℕ → Type 0
HasShift true n = Unit {0}
HasShift false n = 1 ≤ n

-- whether a generator of this degree is one of degree 0 after a shift down
abbrev pub is_last : Bool → ℕ → Bool
is_last true n = false
is_last false zero = false
is_last false (suc zero) = true
is_last false (suc (suc n)) = false

module _ {K : Type 0} (p : ℕ) (up : Bool) (degree : K → ℕ) where
  abbrev pub shifted_d : (K → Terms K) → K → Terms K
  shifted_d d x = cond (is_last up (degree x)) [] (scale (p - 1) (d x))

  abbrev pub shifted_complex : Complex K → Complex K
  shifted_complex C = record { generator = shifted_generator up C.generator; same = C.same; d = shifted_d C.d }

module _ {B S : Type 0} (p : ℕ) (up : Bool) (degree : B → ℕ) (small_degree : S → ℕ) where
  abbrev pub shifted : Maps B S → Maps B S
  shifted m = record {
    big = shifted_complex p up degree m.big;
    small = shifted_complex p up small_degree m.small;
    f = m.f;
    g = m.g;
    h = λ x. scale (p - 1) (m.h x);
  }

-- a differential that is 0 asks nothing
module _ {B S : Type 0} (up : Bool) (degree : B → ℕ) (small_degree : S → ℕ) where
  abbrev pub shifted_lists : {A : Type 0} → Lists B S A → Lists B S A
  shifted_lists a = record {
    big_d = λ x. cond (is_last up (degree x)) [] (a.big_d x);
    small_d = λ y. cond (is_last up (small_degree y)) [] (a.small_d y);
    f = a.f;
    g = a.g;
    h = a.h;
  }
