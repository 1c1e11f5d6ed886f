-- The path word of two masks (Romero and Sergeraert, Discrete Vector Fields and Fundamental Algebraic Topology, part II).
--
-- A bit j of the left mask says that the left part stays at step j, so only the right part moves there; likewise on the right.
--
--   of length 3, the masks 4 and 1: left, both, right
use Rattle.std.specs.Prelude.{ℕ, Bool, true, false, IsTrue, List}
use Rattle.simp_ops.specs.Bits.{bit}
use Rattle.simp_ops.specs.PathWords.{Step, Event, source, event, path_word}

unfoldable pub mask_path : ℕ → ℕ → ℕ → List Step
mask_path len left right = path_word len 0 (bit left) (bit right)

abbrev pub is_source : Event → Bool
is_source (source j) = true
is_source e = false

abbrev pub IsSource : List Step → Type 0
IsSource w = IsTrue (is_source (event w))
