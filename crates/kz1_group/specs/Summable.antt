-- Lists of integers that the code can add.
--
-- The definitions know integers of any size (K(Z,1) is the nerve of the integers: May, Simplicial Objects in Algebraic Topology, chapter
-- IV, 21); the code holds them in 64 bits, so that what is added is bounded. Of a cell of any space it is the greatest magnitude at any
-- depth that is bounded, `cell_integer`: the faces of a simplex of K(Z,1) are made where it is at most 2 ^ 40.
--
--   |2|-3| is summable, and |4611686018427387904|, whose integer is 2 ^ 62, is not
use Rattle.std.specs.Prelude.{◌<◌, ◌^◌, List, ℤ, nat_abs}
use Rattle.std.specs.List.{All}

-- the sum of two such integers fits in 64 bits
abbrev pub IsSummable : List ℤ → Type 0
IsSummable x = All (λ a. nat_abs a < 2 ^ 62) x
