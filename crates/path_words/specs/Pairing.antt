-- The matching of path words is a pairing of sources with targets, and which moves gain a pair (Romero and Sergeraert, Discrete Vector
-- Fields and Fundamental Algebraic Topology, part II: the vector field of a product is admissible).
--
--   left, both, right is a source at 1 and its match left, right, left, right a target at 1; matched again it is the source
use Rattle.std.specs.Prelude.{◌≡◌, ℕ, suc, ◌≤◌, true, List, ◌∷◌, ◌++◌, ◌⊎◌}
use Rattle.simp_ops.specs.Words.{IsWord, has, face_word, absorbed}
use Rattle.simp_ops.specs.PathWords.{Step, both, left, right, path_word, Event, source, target, critical, event, matched, pairs}
use Rattle.path_words.specs.MaskPaths.{IsSource}

-- the event of the match
abbrev pub partner : Event → Event
partner (source j) = target j
partner (target j) = source j
partner critical = critical

pub record IsPairing (w : List Step) : Type 0 where
  pub event : event (matched w) ≡ partner (event w)
  pub back : matched (matched w) ≡ w

-- A face that keeps both cells joins two neighbours, left and right, to one `both`. From a word that is no source it leads to no source,
-- or back to the source whose match the word is, or to a source whose match has one pair more than the word.
pub record Moves (u r : List Step) : Type 0 where
  pub own : (IsSource (u ++ right ∷ (left ∷ r)) → ⊥) → IsSource (u ++ both ∷ r) → matched (u ++ both ∷ r) ≡ u ++ right ∷ (left ∷ r)
  pub gains : (IsSource (u ++ left ∷ (right ∷ r)) → ⊥) → IsSource (u ++ both ∷ r) → pairs (matched (u ++ both ∷ r)) ≡ suc (pairs (u ++ left ∷ (right ∷ r)))

-- ---- the same on the words of degeneracies of a pair

-- the path word of a pair of degree n
abbrev pub degens_path : ℕ → List ℕ → List ℕ → List Step
degens_path n u v = path_word n 0 (has u) (has v)

-- the pair of words u, v of degree n + 1 without a common place has as its face i the pair u', v' on the same two cells
pub record Joins (n i : ℕ) (u v u' v' : List ℕ) : Type 0 where
  pub left : IsWord (suc n) u
  pub right : IsWord (suc n) v
  pub apart : (k : ℕ) → has u k ≡ true → has v k ≡ true → ⊥
  pub index : i ≤ suc n
  pub left_face : face_word i u ≡ absorbed u'
  pub right_face : face_word i v ≡ absorbed v'

-- a move from v to w goes back to the source of v, or to a source whose target has one pair more than v
abbrev pub GainsOrOwn : List Step → List Step → Type 0
GainsOrOwn v w = (matched w ≡ v) ⊎ (pairs (matched w) ≡ suc (pairs v))

pub record FaceMoves (n i : ℕ) (u v u' v' : List ℕ) : Type 0 where
  pub move : Joins n i u v u' v' → (IsSource (degens_path (suc n) u v) → ⊥) → IsSource (degens_path n u' v') → GainsOrOwn (degens_path (suc n) u v) (degens_path n u' v')
