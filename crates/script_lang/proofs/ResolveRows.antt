-- Rows that are looked up by their names.
use Rattle.std.proofs.Common.{◌≡◌, ℕ, suc, ◌+◌, ◌<◌, true, false, cond, ◌==◌, nat_eq, List, [], ◌∷◌, length, drop, Option, Some, ◌⊎◌, inl, inr, sym, ◌∙◌, ap, arith}
use Rattle.std.specs.Cmp.Lexicographic.{pointwise}
use Rattle.std.proofs.lemmas.Option.{none-some, cond_some}
use Rattle.simp_ops.proofs.PlacesOf.{cases_bool}
use Rattle.spaces.specs.Tables.{Table, RowSimplex, row_at}
use Rattle.term_lang.specs.declared.tables.Row.{Row}
use Rattle.term_lang.specs.Rows.{rows_of}
use Rattle.term_lang.proofs.RowCells.{eq_is}
use Rattle.script_lang.specs.Meaning.{when, row_from, named_row}

-- the look-up among the rows from the place k on
abbrev pub found_from : List Row → List ℕ → ℕ → ℕ → Option RowSimplex
found_from rows name n k = row_from name n k (rows_of (drop k rows))

-- a row of dimension n, at k places from r
pub record Found (t : Table) (n r : ℕ) (y : RowSimplex) : Type 0 where
  pub place : ℕ
  pub is : y ≡ ([], r + place)
  pub within : place < length t
  pub dim : (row_at t place).dim ≡ n

pub found : (name : List ℕ) (n r : ℕ) (t : Table) (y : RowSimplex) → row_from name n r t ≡ Some y → Found t n r y
found name n r [] y e = absurd (none-some y e)
found name n r (row ∷ rows) y e = by (cases_bool (pointwise nat_eq row.name name)) (found name n (suc r) rows y)
  where
    by : (pointwise nat_eq row.name name ≡ true) ⊎ (pointwise nat_eq row.name name ≡ false) → (row_from name n (suc r) rows ≡ Some y → Found rows n (suc r) y) → Found (row ∷ rows) n r y
    by (inl h) later =
        let f : when (row.dim == n) ([], r) ≡ Some y = sym (ap (λ b. cond b (when (row.dim == n) ([], r)) (row_from name n (suc r) rows)) h) ∙ e in
        let g = cond_some (row.dim == n) ([], r) y f in
        let z : r ≡ r + 0 = omega arith in
        record { place = 0; is = sym g.1 ∙ (λ i. ([], z i)); within = omega arith; dim = eq_is row.dim n g.0 }
    by (inr h) later =
        let f : row_from name n (suc r) rows ≡ Some y = sym (ap (λ b. cond b (when (row.dim == n) ([], r)) (row_from name n (suc r) rows)) h) ∙ e in
        let g = later f in
        let z : suc r + g.place ≡ r + suc g.place = omega arith in
        record { place = suc g.place; is = g.is ∙ (λ i. ([], z i)); within = omega (arith, g.within); dim = g.dim }

-- a row of dimension n as a simplex
pub record IsRow (t : Table) (n : ℕ) (y : RowSimplex) : Type 0 where
  pub place : ℕ
  pub is : y ≡ ([], place)
  pub within : place < length t
  pub dim : (row_at t place).dim ≡ n

pub named : (t : Table) (name : List ℕ) (n : ℕ) (y : RowSimplex) → named_row t name n ≡ Some y → IsRow t n y
named t name n y e =
    let g = found name n 0 t y e in
    let z : 0 + g.place ≡ g.place = omega arith in
    record { place = g.place; is = g.is ∙ (λ i. ([], z i)); within = g.within; dim = g.dim }
