-- Abelian groups by their operations, and simplicial groups (May, Simplicial Objects, chapter IV, 17).
--
-- The laws of an abelian group are those of its elements; what is no element is not spoken of. A simplicial group is a simplicial set
-- with a group on the simplices of each degree, such that faces and degeneracies are homomorphisms.
--
--   in the nerve of the integers |2|3| times |1|-3| is |3|0|, and the unit of degree 2 is |0|0|
use Rattle.std.specs.Prelude.{◌≡◌, ℕ, suc, ◌≤◌, true}
use Rattle.std.specs.Cmp.{IsEquivalence}
use Rattle.spaces.specs.Simplicial.{Simplicial}
use Rattle.spaces.specs.Nerves.{Abelian}

pub record IsAbelian {G : Type 0} (group : Abelian G) : Type 0 where
  pub none_in : group.Is group.none
  pub plus_in : (a b : G) → group.Is a → group.Is b → group.Is (group.plus a b)
  pub negative_in : (a : G) → group.Is a → group.Is (group.negative a)
  pub associates : (a b c : G) → group.Is a → group.Is b → group.Is c → group.plus (group.plus a b) c ≡ group.plus a (group.plus b c)
  pub commutes : (a b : G) → group.Is a → group.Is b → group.plus a b ≡ group.plus b a
  pub unit : (a : G) → group.Is a → group.plus group.none a ≡ a
  pub inverse : (a : G) → group.Is a → group.plus (group.negative a) a ≡ group.none
  pub same_is : (a b : G) → group.same a b ≡ true → a ≡ b
  pub same_equivalence : IsEquivalence group.same

-- products, the unit of each degree, and inverses
pub record IsSimplicialGroup {K : Type 0} (X : Simplicial K) (times : K → K → K) (unit : ℕ → K) (inverse : K → K) : Type 0 where
  pub times_in : (n : ℕ) (x y : K) → X.In n x → X.In n y → X.In n (times x y)
  pub unit_in : (n : ℕ) → X.In n (unit n)
  pub inverse_in : (n : ℕ) (x : K) → X.In n x → X.In n (inverse x)
  pub associates : (n : ℕ) (x y z : K) → X.In n x → X.In n y → X.In n z → times (times x y) z ≡ times x (times y z)
  pub unit_left : (n : ℕ) (x : K) → X.In n x → times (unit n) x ≡ x
  pub unit_right : (n : ℕ) (x : K) → X.In n x → times x (unit n) ≡ x
  pub inverse_left : (n : ℕ) (x : K) → X.In n x → times (inverse x) x ≡ unit n
  pub inverse_right : (n : ℕ) (x : K) → X.In n x → times x (inverse x) ≡ unit n
  pub face_times : (n i : ℕ) (x y : K) → X.In (suc n) x → X.In (suc n) y → i ≤ suc n → X.face i (times x y) ≡ times (X.face i x) (X.face i y)
  pub degeneracy_times : (n i : ℕ) (x y : K) → X.In n x → X.In n y → i ≤ n → X.degeneracy i (times x y) ≡ times (X.degeneracy i x) (X.degeneracy i y)
