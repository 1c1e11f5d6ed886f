-- The pairs of the code of a circle bundle, and the twist of the bundle on them (Rubio and Sergeraert, Constructive Homological Algebra
-- and Applications, chapter 3; May, Simplicial Objects in Algebraic Topology, chapter IV, 18).
--
-- A pair of degree n has a simplex of the table and one of K(Z,1), both of degree n, with no common place in their masks. What is made
-- from a pair on plain simplices is read on the pair of the code, and its terms become cells of the code.
--
--   over the sphere of dimension 2 with the value 1 on its cell t, the pair <t,0:|5|> has the first faces s_0 of the vertex v and |5|, and t
--   twists by |1|: so the twist is <0:v,|6|> - <0:v,|5|>. That of <t,1:|5|> is <0:v,|1|> alone, since s_0 is on both parts of the other pair
use Rattle.std.specs.Prelude.{ℕ, ◌==◌, cond, List, [], ◌∷◌, ℤ, bit_and}
use Rattle.fp_field.specs.declared.element.Fp.{Fp}
use Rattle.fp_field.specs.Chains.{Terms}
use Rattle.spaces.specs.Tables.{Table}
use Rattle.spaces.specs.Spaces.{table, kz1}
use Rattle.values.specs.Rules.{bundle_twist}
use Rattle.cells.specs.declared.cells.Cell.{Cell}
use Rattle.cells.specs.declared.cells.Cell.TheVariants.{Pair}
use Rattle.cells.specs.declared.cells.Simplex.{Simplex}
use Rattle.cells.specs.Dim.{dim_of}
use Rattle.ez_flow.specs.Parts.{IsPairOf, pair_weight}
use Rattle.ez_flow.specs.CodeMaps.{cell_for, on_cells}
use Rattle.oracle_iface.specs.CodeSizes.{cell_integer}
use Rattle.term_lang.specs.Belongs.{IsSimplex}
use Rattle.term_lang.specs.Forms.{form}
use Rattle.term_lang.specs.Quote.{quote}

-- a simplex of the base and one of the fibre, of degree n, with no common place
abbrev pub IsBundlePair : Table → ℕ → Cell → Type 0
IsBundlePair t n c = IsPairOf (IsSimplex (table t)) (IsSimplex kz1) n c

-- the greatest magnitude of an integer of the fibre's simplex
abbrev pub fibre_integer : Cell → ℕ
fibre_integer c = pair_weight (λ b f. cell_integer f.cell) c

-- the twist, on a pair of the code
abbrev pub twist_on : ℕ → Table → List ℤ → Cell → Terms Cell
twist_on p t values c =
    on_cells dim_of (λ s. form s (table t)) (λ s. form s kz1) (cell_for (quote (table t)) (quote kz1)) (bundle_twist p t values) c

-- the cell of two simplices with this number, unless they have a common place
abbrev pub kept_pair : Simplex → Simplex → Fp → List (Cell × Fp)
kept_pair b f a = cond (bit_and b.degens.mask f.degens.mask == 0) ((Pair b f, a) ∷ []) []
