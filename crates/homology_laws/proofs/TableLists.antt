-- Tables and spheres: their maps are reductions, and their cycles are homology lists.
use Rattle.std.proofs.Common.{◌≡◌, ℕ, suc, ◌<◌, map, sym, ◌∙◌, arith}
use Rattle.std.proofs.lemmas.List.Elements.{All-contains}
use Rattle.spaces.specs.SmallCells.{row_dim}
use Rattle.values.specs.Rules.{rows_of_dim}
use Rattle.fp_field.specs.Field.{IsField}
use Rattle.fp_field.specs.Reduction.{IsReduction}
use Rattle.spaces.specs.Homology.{HomologyList}
use Rattle.spaces.specs.Tables.{Table, sphere_rows}
use Rattle.spaces.specs.Spaces.{table, sphere, set_of}
use Rattle.spaces.specs.Allowed.{IsTable, IsAllowed}
use Rattle.spaces.proofs.SphereTable.{sphere_faces}
use Rattle.spaces.proofs.TableLaws.{table_set_laws}
use Rattle.values.specs.Asks.{cycles}
use Rattle.values.specs.Values.{value, value_at}
use Rattle.values.specs.Laws.{maps_of, plain_chain, ListsHomology}
use Rattle.homology_laws.specs.Kernel.{BasisRises, CyclesAreGiven, IsListable}
use Rattle.homology_laws.proofs.Kernel.{read-cycles, listed-homology}
use Rattle.homology_laws.proofs.TableMaps.{rows-dim, rows-rise, row-reduction}

module _ (p : ℕ) (field : IsField p) where
  pos : 0 < p
  pos = let l : 1 < p = field.one_is_not_zero in omega arith

  pub table-reduction : (t : Table) → IsTable t → IsReduction p (maps_of p (table t))
  table-reduction t is = row-reduction t (table_set_laws t is.faces) p pos

  pub sphere-reduction : (m : ℕ) → 0 < m → IsReduction p (maps_of p (sphere m))
  sphere-reduction m l = row-reduction (sphere_rows m) (table_set_laws (sphere_rows m) (sphere_faces m l)) p pos

  table-basis : (t : Table) (n : ℕ) → BasisRises p (table t) n
  table-basis t n = record { degrees = λ r c. All-contains (λ r. row_dim t r ≡ n) (rows_of_dim t n) r (rows-dim t n) c; rises = rows-rise t n }

  sphere-basis : (m n : ℕ) → BasisRises p (sphere m) n
  sphere-basis m n = record { degrees = λ r c. All-contains (λ r. row_dim (sphere_rows m) r ≡ n) (rows_of_dim (sphere_rows m) n) r (rows-dim (sphere_rows m) n) c; rises = rows-rise (sphere_rows m) n }

  table-given : (t : Table) (n : ℕ) → CyclesAreGiven p (table t) n
  table-given t n = read-cycles p (table t) n (value_at p 1) ∙ sym (read-cycles p (table t) n (value p))

  sphere-given : (m n : ℕ) → CyclesAreGiven p (sphere m) n
  sphere-given m n = read-cycles p (sphere m) n (value_at p 1) ∙ sym (read-cycles p (sphere m) n (value p))

  pub table-listable : (t : Table) (n : ℕ) → IsTable t → IsListable p (table t) n
  table-listable t n is = record {
    allowed = (is, omega arith);
    reduction = table-reduction t is (suc n);
    here = table-basis t n;
    above = table-basis t (suc n);
    given = table-given t n;
  }

  pub sphere-listable : (m n : ℕ) → IsAllowed (sphere m) → IsListable p (sphere m) n
  sphere-listable m n is = record {
    allowed = is;
    reduction = sphere-reduction m is.0.0 (suc n);
    here = sphere-basis m n;
    above = sphere-basis m (suc n);
    given = sphere-given m n;
  }

  pub table-homology : (t : Table) (n : ℕ) → IsTable t → HomologyList (set_of (table t)) p n (map (plain_chain p (table t)) (value p (cycles (table t) n)))
  table-homology t n is = listed-homology p field (table t) n (table-listable t n is)

  pub sphere-lists : (m n : ℕ) → ListsHomology p (sphere m) n
  sphere-lists m n is = listed-homology p field (sphere m) n (sphere-listable m n is.0)

  pub table-lists : (t : Table) (n : ℕ) → ListsHomology p (table t) n
  table-lists t n is = table-homology t n is.0.0
