-- Which pairs of masks are sources, and the weight of sources alone.
use Rattle.std.specs.Prelude.{ℕ, Bool, false, ◌==◌, cond, bit_and}
use Rattle.simp_ops.specs.PathWords.{event}
use Rattle.path_words.specs.MaskPaths.{mask_path, is_source as is_source_event}
use Rattle.spaces.specs.Orders.{Ordered}
use Rattle.spaces.specs.EilenbergZilber.{Linear, Pair, is_pair_cell, is_source}

-- two masks of degree n have no common place and are a source
abbrev pub are_source : ℕ → ℕ → ℕ → Bool
are_source n a b = cond (bit_and a b == 0) (is_source_event (event (mask_path n a b))) false

-- a weight on the sources alone
abbrev pub source_weight : {K J : Type 0} → ℕ → Linear K → Ordered J → (Pair K J → ℕ) → Pair K J → ℕ
source_weight p L R w s = cond (is_pair_cell p L R s) (cond (is_source p L R s) (w s) 0) 0
