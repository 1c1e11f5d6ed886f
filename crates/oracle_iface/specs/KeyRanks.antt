-- The rank of a question as a number: by the weight of the space, then cycles after all others, then the degree. A valid question of
-- lower rank has a lower number, since its degree is at most 24.
--
--   the cycles of degree 2 of a sphere have the number (2 * 1 + 1) * 64 + 2, and its small cells of degree 3 the number (2 * 1) * 64 + 3
use Rattle.std.specs.Prelude.{ℕ, ◌+◌, ◌*◌, cond}
use Rattle.values.specs.Asks.{Ask}
use Rattle.values.specs.Values.{degree_of}
use Rattle.values.specs.Ranks.{weight, space_of, is_cycles}

abbrev pub rank_of : Ask → ℕ
rank_of q = (2 * weight (space_of q) + cond (is_cycles q) 1 0) * 64 + degree_of q
