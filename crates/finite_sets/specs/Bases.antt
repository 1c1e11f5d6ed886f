-- Which table is the base that a term names: a table itself, and for a sphere its table (bundles over a finite base: May, Simplicial
-- Objects in Algebraic Topology, chapter IV; Kenzo documentation, 1999, on fibrations).
--
--   Sphere(2) names the table with the rows `*` and `S2`; KZ1 names none
use Rattle.std.specs.Prelude.{◌≡◌, ◌⊎◌, ℕ, List}
use Rattle.term_lang.specs.declared.tables.Row.{Row}
use Rattle.term_lang.specs.declared.terms.Term.{Term}
use Rattle.term_lang.specs.declared.terms.Term.TheVariants.{Table, Sphere}
use Rattle.finite_sets.specs.Spheres.{IsSphereTable}

-- the term is this very table, or a sphere with this table
abbrev pub IsBaseTable : Term → List Row → Type 0
IsBaseTable t rows = (t ≡ Table rows) ⊎ ((n : ℕ) × (t ≡ Sphere n) × IsSphereTable n rows)

-- the term is neither a table nor a sphere
pub record HasNoTable (t : Term) : Type 0 where
  pub no_table : (rows : List Row) → t ≡ Table rows → ⊥
  pub no_sphere : (n : ℕ) → t ≡ Sphere n → ⊥
