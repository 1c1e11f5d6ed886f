-- The boundary of a chain of cells of the code.
--
-- A cell of the code stands for a non-degenerate simplex, so a chain of cells stands for a chain of the space: each cell for its
-- dimension and its plain form. The boundary is the alternating sum of the faces, where degenerate faces count as 0 (May, Simplicial
-- Objects in Algebraic Topology, chapter V, 22, on normalised chains), again as a chain of cells.
--
--   in the projective plane with the edge e and the triangle t, whose faces are e, a degenerate edge and e, the boundary of t is 2 e
use Rattle.std.specs.Prelude.{ℕ, ◌≤◌, ◌^◌, map}
use Rattle.fp_field.specs.Chains.{Terms, extend}
use Rattle.fp_field.specs.Normal.{normal}
use Rattle.spaces.specs.Spaces.{Space}
use Rattle.spaces.specs.Orders.{ordered, by_degree}
use Rattle.cells.specs.declared.cells.Cell.{Cell}
use Rattle.cells.specs.Dim.{dim_of}
use Rattle.term_lang.specs.Forms.{cell_form}
use Rattle.term_lang.specs.Belongs.{IsCell}
use Rattle.values.specs.Asks.{Cell as GradedCell}
use Rattle.values.specs.Laws.{cell_d}
use Rattle.values.specs.Sizes.{integer}
use Rattle.oracle_iface.specs.CodeSizes.{cell_integer}

-- a cell of the space, of a dimension that masks of the code reach and with integers that the code adds
abbrev pub IsLowCell : Space → Cell → Type 0
IsLowCell X c = (dim_of c ≤ 32) × IsCell X (dim_of c) c × (cell_integer c ≤ 2 ^ 40)

-- a simplex with such integers
abbrev pub IsBounded : (X : Space) → GradedCell X → Type 0
IsBounded X x = integer X x.1 ≤ 2 ^ 40

-- the cell as its dimension and plain form
abbrev pub graded : (X : Space) → Cell → GradedCell X
graded X c = (dim_of c, cell_form c X)

-- the chain of the space that a chain of cells of the code stands for
abbrev pub graded_chain : (X : Space) → Terms Cell → Terms (GradedCell X)
graded_chain X z = map (λ t. (graded X t.0, t.1)) z

-- d of a chain over F_p, in normal form
abbrev pub boundary_of : ℕ → (X : Space) → Terms (GradedCell X) → Terms (GradedCell X)
boundary_of p X c = normal (by_degree (ordered X).cmp) p (extend (cell_d p X) c)
