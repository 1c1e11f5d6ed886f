-- The laws of the two parts of the Eilenberg-Zilber maps (May, Simplicial Objects, chapter I, 1).
--
-- The right part is a simplicial set. The left part has degeneracies as a simplicial set has, but its faces are chains; the
-- simplicial identities between faces and degeneracies hold term by term, those between two faces in the sum, over F_p.
--
--   each simplicial set is a left part, with one term to each face; for loop groups the left part is that of the letters, whose
--   first face is d_1 - d_0 of the space
use Rattle.std.specs.Prelude.{◌≡◌, ℕ, suc, ◌<◌, ◌≤◌, Bool, true, map}
use Rattle.std.specs.declared.cmp.Ordering.{Ordering}
use Rattle.std.specs.declared.cmp.Ordering.TheVariants.{Equal}
use Rattle.fp_field.specs.Chains.{Terms, extend, Each}
use Rattle.fp_field.specs.Reduction.{one}
use Rattle.spaces.specs.Simplicial.{IsSimplicial}
use Rattle.spaces.specs.Orders.{Ordered}
use Rattle.spaces.specs.EilenbergZilber.{Linear}
use Rattle.ez_laws.specs.Weights.{SameWeights}

-- an order in which the equal ones are the same
pub record TellsApart {K : Type 0} (cmp : K → K → Ordering) : Type 0 where
  pub alike : (x : K) → cmp x x ≡ Equal
  pub apart : (x y : K) → cmp x y ≡ Equal → x ≡ y

-- Degeneracies of simplices of each degree, with a test for those that are an s_j, and `under`, which undoes s_j.
pub record HasDegeneracies {K : Type 0} (In : ℕ → K → Type 0) (degeneracy : ℕ → K → K) (has : ℕ → K → Bool) : Type 0 where
  pub under : ℕ → K → K
  pub degeneracy_in : (n j : ℕ) (x : K) → In n x → j ≤ n → In (suc n) (degeneracy j x)
  pub under_in : (n j : ℕ) (x : K) → In (suc n) x → j ≤ n → has j x ≡ true → In n (under j x)
  pub over : (n j : ℕ) (x : K) → In (suc n) x → j ≤ n → has j x ≡ true → degeneracy j (under j x) ≡ x
  pub own : (n j : ℕ) (x : K) → In n x → j ≤ n → has j (degeneracy j x) ≡ true
  pub undone : (n j : ℕ) (x : K) → In n x → j ≤ n → under j (degeneracy j x) ≡ x
  pub before : (n i j : ℕ) (x : K) → In n x → i < j → j ≤ n → has i (degeneracy j x) ≡ has i x
  pub after : (n i j : ℕ) (x : K) → In n x → j ≤ i → i < n → has (suc i) (degeneracy j x) ≡ has i x
  pub twice : (n i j : ℕ) (x : K) → In n x → i ≤ j → j ≤ n → degeneracy i (degeneracy j x) ≡ degeneracy (suc j) (degeneracy i x)

-- the keys changed
abbrev pub on_keys : {K J : Type 0} → (K → J) → Terms K → Terms J
on_keys g c = map (λ t. (g t.0, t.1)) c

-- a left part with the simplices `In`
pub record IsLeft {K : Type 0} (p : ℕ) (L : Linear K) (In : ℕ → K → Type 0) : Type 0 where
  pub degeneracies : HasDegeneracies In L.degeneracy L.has_degeneracy
  pub faces_in : (n i : ℕ) (x : K) → In (suc n) x → i ≤ suc n → Each (In n) (L.faces (suc n) i x)
  -- d_j s_j = d_{j+1} s_j = 1
  pub face_here : (n j : ℕ) (x : K) → In n x → j ≤ n → L.faces (suc n) j (L.degeneracy j x) ≡ one x
  pub face_next : (n j : ℕ) (x : K) → In n x → j ≤ n → L.faces (suc n) (suc j) (L.degeneracy j x) ≡ one x
  -- d_i s_{j+1} = s_j d_i for i ≤ j, d_{i+1} s_j = s_j d_i for j < i
  pub face_below : (n i j : ℕ) (x : K) → In n x → i ≤ j → j < n → L.faces (suc n) i (L.degeneracy (suc j) x) ≡ on_keys (L.degeneracy j) (L.faces n i x)
  pub face_above : (n i j : ℕ) (x : K) → In n x → j < i → i ≤ n → L.faces (suc n) (suc i) (L.degeneracy j x) ≡ on_keys (L.degeneracy j) (L.faces n i x)
  -- d_i d_{k+1} = d_k d_i for i ≤ k
  pub face_face : (n i k : ℕ) (x : K) → In (suc (suc n)) x → i ≤ k → k ≤ suc n
      → SameWeights p (extend (L.faces (suc n) i) (L.faces (suc (suc n)) (suc k) x)) (extend (L.faces (suc n) k) (L.faces (suc (suc n)) i x))
  pub order : (n : ℕ) → TellsApart (L.cmp n)

-- a right part
pub record IsRight {K : Type 0} (R : Ordered K) : Type 0 where
  pub simplicial : IsSimplicial R.set
  pub order : (n : ℕ) → TellsApart (R.cmp n)
