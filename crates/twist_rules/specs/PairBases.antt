-- The small cells of a degree of a product or a circle bundle, from those of base and fibre (Eilenberg and Zilber 1953; Rubio and
-- Sergeraert, Constructive Homological Algebra and Applications, chapter 3).
--
-- For i from 0 to n the small cells of degree i of the base are asked for, and then those of degree n - i of the fibre; each of the first
-- makes a pair with each of the second, the first slowest.
--
--   for the product of two spheres of dimension 1 in degree 1 the keys are those of the degrees 0, 1, 1, 0 of the left, the right, the left
--   and the right sphere, and the pairs are <Base, Top(1)> and <Top(1), Base>
use Rattle.std.specs.Prelude.{ℕ, ◌-◌, List, [], ◌∷◌, ◌++◌, map}
use Rattle.fp_field.specs.declared.prime.Prime.{Prime}
use Rattle.spaces.specs.Spaces.{Space}
use Rattle.spaces.specs.SmallCells.{Small}
use Rattle.values.specs.Rules.{joined}
use Rattle.cells.specs.declared.cells.SmallCell.{SmallCell}
use Rattle.cells.specs.declared.cells.SmallCell.TheVariants.{Pair}
use Rattle.term_lang.specs.declared.terms.Term.{Term}
use Rattle.oracle_iface.specs.declared.keys.Key.{Key}
use Rattle.oracle_iface.specs.declared.keys.Op.TheVariants.{Basis}
use Rattle.oracle_iface.specs.declared.keys.Place.TheVariants.{Degree}
use Rattle.oracle_iface.specs.declared.cell_values.CellValue.{CellValue}
use Rattle.oracle_iface.specs.SmallForms.{quote_small}
use Rattle.homology_rules.specs.Degrees.{cells_held}

-- the key of the small cells of a degree
abbrev pub basis_key : Prime → Term → ℕ → Key
basis_key p t n = record { op = Basis; prime = p; place = Degree n; term = t }

-- the keys of base and fibre, for these degrees of the base
abbrev pub basis_keys : Prime → Term → Term → ℕ → List ℕ → List Key
basis_keys p s t n [] = []
basis_keys p s t n (i ∷ is) = basis_key p s i ∷ (basis_key p t (n - i) ∷ basis_keys p s t n is)

-- the pairs of one small cell with each of a list
abbrev pub pairs_with : SmallCell → List SmallCell → List SmallCell
pairs_with x ys = map (λ y. Pair x y) ys

-- the pairs of each of a list with each of another
abbrev pub cell_pairs : List SmallCell → List SmallCell → List SmallCell
cell_pairs xs ys = joined (map (λ x. pairs_with x ys) xs)

-- the pairs of the small cells that cells of the table hold: of the first with the second, of the third with the fourth, and so on
abbrev pub pairs_held : List CellValue → List SmallCell
pairs_held [] = []
pairs_held (v ∷ []) = []
pairs_held (v ∷ (w ∷ vs)) = cell_pairs (cells_held v.outcome) (cells_held w.outcome) ++ pairs_held vs

-- pairs of small cells, as the code has them
abbrev pub quote_pairs : (a b : Space) → List (Small a × Small b) → List SmallCell
quote_pairs a b ys = map (λ y. Pair (quote_small a y.0) (quote_small b y.1)) ys
