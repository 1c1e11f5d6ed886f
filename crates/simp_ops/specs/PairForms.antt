-- The normal forms of pairs of words. A pair of simplices of degree n, of two simplicial sets, is in exactly one way a word of common
-- degeneracies before a pair that has none in common (May, Simplicial Objects in Algebraic Topology, on products; Rubio and Sergeraert,
-- Constructive Homological Algebra and Applications, on Eilenberg-Zilber).
--
--   the words 1 ∷ 0 ∷ [] and 1 ∷ [] have the form with common word 1 ∷ [], left word 0 ∷ [] and right word []
use Rattle.std.specs.Prelude.{◌≡◌, ℕ, ◌-◌, true, List, length}
use Rattle.simp_ops.specs.Words.{IsWord, compose_words, has}

pub record PairForm : Type 0 where
  pub common : List ℕ
  pub left : List ℕ
  pub right : List ℕ

-- words for a pair of degree n
pub record IsPairForm (n : ℕ) (f : PairForm) : Type 0 where
  pub common : IsWord n f.common
  pub left : IsWord (n - length f.common) f.left
  pub right : IsWord (n - length f.common) f.right
  pub apart : (k : ℕ) → has f.left k ≡ true → has f.right k ≡ true → ⊥

-- the form stands for the pair of words u and v
pub record Stands (f : PairForm) (u v : List ℕ) : Type 0 where
  pub left : compose_words f.common f.left ≡ u
  pub right : compose_words f.common f.right ≡ v

pub record ArePairForms (n : ℕ) : Type 0 where
  pub onto : (u v : List ℕ) → IsWord n u → IsWord n v → (f : PairForm) × IsPairForm n f × Stands f u v
  pub once : (f g : PairForm) (u v : List ℕ) → IsPairForm n f → IsPairForm n g → Stands f u v → Stands g u v → f ≡ g
