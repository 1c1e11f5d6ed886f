-- Reductions of chain complexes over F_p, by what the maps do to generators (Rubio and Sergeraert, Constructive Homological Algebra
-- and Applications, chapter 2).
--
-- A reduction of a big complex to a small one is two chain maps f and g and a homotopy h with f g = 1, d h + h d = 1 - g f, f h = 0,
-- h g = 0 and h h = 0. The maps and their degrees are given on all generators, and the equations are stated up to a degree N, on the
-- generators of degree at most N: loop groups know the equations of their right part in lower degrees only. A reduction meets them up
-- to every degree.
--
--   the identity on a complex, with h = 0; the circle in K(Z,1), with f(|a|) = a |1|
use Rattle.std.specs.Prelude.{◌≡◌, ◌≤◌, ℕ, zero, suc, [], ◌∷◌, ◌++◌, Bool, true}
use Rattle.std.specs.Cmp.{IsEquivalence}
use Rattle.fp_field.specs.Field.{SameMod}
use Rattle.fp_field.specs.Chains.{Terms, coeff, extend, Each}

-- the same number, in F_p, at each key
abbrev pub SameTerms : {K : Type 0} → ℕ → (K → K → Bool) → Terms K → Terms K → Type 0
SameTerms {K} p same c d = (k : K) → SameMod p (coeff same c k) (coeff same d k)

abbrev pub one : {K : Type 0} → K → Terms K
one k = (k, 1) ∷ []

-- maps after one another, as maps of generators
abbrev pub after : {K J I : Type 0} → (J → Terms I) → (K → Terms J) → K → Terms I
after f g k = extend f (g k)

-- A complex by its generators of each degree, the test for equal generators, and d on generators.
pub record Complex (K : Type 0) : Type 1 where
  pub generator : ℕ → K → Type 0
  pub same : K → K → Bool
  pub d : K → Terms K

-- the maps of a reduction of the big complex to the small one
pub record Maps (B S : Type 0) : Type 1 where
  pub big : Complex B
  pub small : Complex S
  pub f : B → Terms S
  pub g : S → Terms B
  pub h : B → Terms B

-- equal generators go to equal chains
abbrev pub Respects : {K J : Type 0} → ℕ → Complex K → Complex J → (K → Terms J) → Type 0
Respects {K} p C D f = (x y : K) → C.same x y ≡ true → SameTerms p D.same (f x) (f y)

-- generators with their degrees, and a map that lowers the degree by 1
pub record IsGraded {K : Type 0} (p : ℕ) (C : Complex K) : Type 0 where
  pub equivalence : IsEquivalence C.same
  pub lowers : (n : ℕ) (x : K) → C.generator (suc n) x → Each (C.generator n) (C.d x)
  pub ends : (x : K) → C.generator zero x → C.d x ≡ []
  pub respects : Respects p C C C.d

-- the square of d is 0
abbrev pub IsDifferential : {K : Type 0} → ℕ → Complex K → Type 0
IsDifferential {K} p C = (n : ℕ) (x : K) → C.generator n x → SameTerms p C.same (after C.d C.d x) []

pub record IsComplex {K : Type 0} (p : ℕ) (C : Complex K) : Type 0 where
  pub graded : IsGraded p C
  pub open graded use *
  pub twice : IsDifferential p C

-- a map of degree 0
pub record KeepsDegrees {K J : Type 0} (p : ℕ) (C : Complex K) (D : Complex J) (f : K → Terms J) : Type 0 where
  pub keeps : (n : ℕ) (x : K) → C.generator n x → Each (D.generator n) (f x)
  pub respects : Respects p C D f

-- a map of degree 1
pub record RaisesDegrees {K : Type 0} (p : ℕ) (C : Complex K) (h : K → Terms K) : Type 0 where
  pub raises : (n : ℕ) (x : K) → C.generator n x → Each (C.generator (suc n)) (h x)
  pub respects : Respects p C C h

-- the degrees of the maps, and a big complex; the small one has a map of degree -1
pub record HasDegrees {B S : Type 0} (p : ℕ) (m : Maps B S) : Type 0 where
  pub big : IsComplex p m.big
  pub small : IsGraded p m.small
  pub f : KeepsDegrees p m.big m.small m.f
  pub g : KeepsDegrees p m.small m.big m.g
  pub h : RaisesDegrees p m.big m.h

-- the equations, up to a degree
pub record HasEquations {B S : Type 0} (p N : ℕ) (m : Maps B S) : Type 0 where
  -- d f = f d and d g = g d
  pub f_commutes : (n : ℕ) (x : B) → n ≤ N → m.big.generator n x → SameTerms p m.small.same (after m.small.d m.f x) (after m.f m.big.d x)
  pub g_commutes : (n : ℕ) (y : S) → n ≤ N → m.small.generator n y → SameTerms p m.big.same (after m.big.d m.g y) (after m.g m.small.d y)
  -- the square of the small d is 0
  pub twice : (n : ℕ) (y : S) → n ≤ N → m.small.generator n y → SameTerms p m.small.same (after m.small.d m.small.d y) []
  -- f g = 1
  pub fg : (n : ℕ) (y : S) → n ≤ N → m.small.generator n y → SameTerms p m.small.same (after m.f m.g y) (one y)
  -- d h + h d + g f = 1
  pub homotopy : (n : ℕ) (x : B) → n ≤ N → m.big.generator n x
      → SameTerms p m.big.same (after m.big.d m.h x ++ (after m.h m.big.d x ++ after m.g m.f x)) (one x)
  pub fh : (n : ℕ) (x : B) → n ≤ N → m.big.generator n x → SameTerms p m.small.same (after m.f m.h x) []
  pub hg : (n : ℕ) (y : S) → n ≤ N → m.small.generator n y → SameTerms p m.big.same (after m.h m.g y) []
  pub hh : (n : ℕ) (x : B) → n ≤ N → m.big.generator n x → SameTerms p m.big.same (after m.h m.h x) []

-- a reduction as far as degree N
pub record IsReductionTo {B S : Type 0} (p N : ℕ) (m : Maps B S) : Type 0 where
  pub degrees : HasDegrees p m
  pub open degrees use *
  pub equations : HasEquations p N m
  pub open equations use *

-- a reduction
abbrev pub IsReduction : {B S : Type 0} → ℕ → Maps B S → Type 0
IsReduction p m = (N : ℕ) → IsReductionTo p N m

-- two complexes on one type of keys that are the same complex
pub record IsSameComplex {K : Type 0} (p : ℕ) (C D : Complex K) : Type 0 where
  pub there : (n : ℕ) (x : K) → C.generator n x → D.generator n x
  pub back : (n : ℕ) (x : K) → D.generator n x → C.generator n x
  pub same : (x y : K) → C.same x y ≡ D.same x y
  pub d : (n : ℕ) (x : K) → C.generator n x → SameTerms p C.same (C.d x) (D.d x)
