-- The pair of two simplices of one degree in its normal form: their common degeneracies before the pair of what is left of the two (Eilenberg
-- and Zilber; May, Simplicial Objects in Algebraic Topology, chapter I, on products).
--
-- A simplex of the code is a mask before a cell. The cell of the pair is a pair of two simplices without a common place, and the mask of the
-- pair before the mask of each is that of the simplex itself. So it is in products, and in bundles, whose degeneracies are those of products.
--
--   of 1-0:v, the degeneracy s_1 s_0 of a vertex v, and 0:e, the degeneracy s_0 of an edge e, the pair is 0:<0:v,e>, since s_0 is common
use Rattle.std.specs.Prelude.{◌≡◌, bit_and}
use Rattle.simp_ops.specs.Words.{IsWord, compose_words}
use Rattle.simp_ops.specs.Bits.{mask_word}
use Rattle.cells.specs.declared.cells.Cell.TheVariants.{Pair}
use Rattle.cells.specs.declared.cells.Simplex.{Simplex}

-- z is the pair of x and y
pub record IsPaired (x y z : Simplex) : Type 0 where
  pub left : Simplex
  pub right : Simplex
  pub is : z.cell ≡ Pair left right
  pub left_cell : left.cell ≡ x.cell
  pub right_cell : right.cell ≡ y.cell
  pub left_word : compose_words (mask_word z.degens.mask) (mask_word left.degens.mask) ≡ mask_word x.degens.mask
  pub right_word : compose_words (mask_word z.degens.mask) (mask_word right.degens.mask) ≡ mask_word y.degens.mask
  pub apart : bit_and left.degens.mask right.degens.mask ≡ 0

-- a mask before a pair of two simplices without a common place, before whose masks it can be put
pub record HasParts (z : Simplex) : Type 0 where
  pub left : Simplex
  pub right : Simplex
  pub is : z.cell ≡ Pair left right
  pub left_fits : IsWord 32 (compose_words (mask_word z.degens.mask) (mask_word left.degens.mask))
  pub right_fits : IsWord 32 (compose_words (mask_word z.degens.mask) (mask_word right.degens.mask))
  pub apart : bit_and left.degens.mask right.degens.mask ≡ 0
