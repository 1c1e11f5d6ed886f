-- The lowest positive degree with a simplex that is not degenerate, of a table and of a nerve.
use Rattle.std.proofs.Common.{◌≡◌, ℕ, zero, suc, ◌+◌, ◌<◌, ◌≤◌, min, true, [], ◌∷◌, length, ◌⊎◌, inl, inr, Option, Some, None, refl, subst, arith}
use Rattle.std.proofs.lemmas.Bool.{cases_lt}
use Rattle.spaces.specs.Simplicial.{IsSimplicial, is_degenerate}
use Rattle.spaces.specs.Tables.{Table, Row, RowSimplex, InTable, row_at, table_set}
use Rattle.spaces.specs.Counts.{row_low, table_low, IsLow}
use Rattle.spaces.proofs.TableDegenerate.{word-degenerate, row-not_degenerate}

-- what the least positive dimension says of the rows
abbrev RowsLow : Table → Option ℕ → Type 0
RowsLow t None = (r : ℕ) → r < length t → (row_at t r).dim ≡ 0
RowsLow t (Some n) =
    (0 < n) × ((r : ℕ) × (r < length t) × ((row_at t r).dim ≡ n)) × ((s : ℕ) → s < length t → ((row_at t s).dim ≡ 0) ⊎ (n ≤ (row_at t s).dim))

more : (x : Row) (t : Table) (d : ℕ) (low : Option ℕ) → x.dim ≡ d → RowsLow t low → RowsLow (x ∷ t) (row_low d low)
more x t zero None e is = at
  where
    at : (r : ℕ) → r < suc (length t) → (row_at (x ∷ t) r).dim ≡ 0
    at zero h = e
    at (suc r) h = is r (omega arith)
more x t zero (Some n) e is = (is.0, (suc is.1.0, omega (arith, is.1.1), is.1.2), at)
  where
    at : (s : ℕ) → s < suc (length t) → ((row_at (x ∷ t) s).dim ≡ 0) ⊎ (n ≤ (row_at (x ∷ t) s).dim)
    at zero h = inl e
    at (suc s) h = is.2 s (omega arith)
more x t (suc d) None e is = (omega arith, (0, omega arith, e), at)
  where
    at : (s : ℕ) → s < suc (length t) → ((row_at (x ∷ t) s).dim ≡ 0) ⊎ (suc d ≤ (row_at (x ∷ t) s).dim)
    at zero h = inr (omega (arith, e))
    at (suc s) h = inl (is s (omega arith))
more x t (suc d) (Some n) e is = by (cases_lt n (suc d))
  where
    at : (m : ℕ) → m ≤ suc d → m ≤ n → (s : ℕ) → s < suc (length t) → ((row_at (x ∷ t) s).dim ≡ 0) ⊎ (m ≤ (row_at (x ∷ t) s).dim)
    at m l k zero h = inr (omega (arith, e))
    at m l k (suc s) h = under (is.2 s (omega arith))
      where
        under : ((row_at t s).dim ≡ 0) ⊎ (n ≤ (row_at t s).dim) → ((row_at t s).dim ≡ 0) ⊎ (m ≤ (row_at t s).dim)
        under (inl f) = inl f
        under (inr f) = inr (omega (arith, f))

    by : (n < suc d) ⊎ (suc d ≤ n) → RowsLow (x ∷ t) (Some (min (suc d) n))
    by (inl h) =
        let f : n ≡ min (suc d) n = omega arith in
        subst (λ m. RowsLow (x ∷ t) (Some m)) f (is.0, (suc is.1.0, omega (arith, is.1.1), is.1.2), at n (omega arith) (omega arith))
    by (inr h) =
        let f : suc d ≡ min (suc d) n = omega arith in
        subst (λ m. RowsLow (x ∷ t) (Some m)) f (omega arith, (0, omega arith, e), at (suc d) (omega arith) h)

rows_low : (t : Table) → RowsLow t (table_low t)
rows_low [] = λ r h. absurd (omega arith)
rows_low (x ∷ t) = more x t x.dim (table_low t) refl (rows_low t)

module _ (t : Table) (laws : IsSimplicial (table_set t)) where
  low_from : (low : Option ℕ) → RowsLow t low → IsLow (table_set t) low
  low_from None rows = at
    where
      at : (k : ℕ) (x : RowSimplex) → 0 < k → InTable t k x → is_degenerate (table_set t) k x ≡ true
      at k ([], r) p is = let d : (row_at t r).dim + 0 ≡ k = is.degree in absurd (omega (arith, d, rows r is.row))
      at k (j ∷ w, r) p is = word-degenerate t laws k j w r is
  low_from (Some n) rows = record {
    positive = rows.0;
    simplex = ([], rows.1.0);
    is_in = is;
    not_degenerate = row-not_degenerate t laws n rows.1.0 is;
    below = at;
  }
    where
      is : InTable t n ([], rows.1.0)
      is = record { row = rows.1.1; degree = omega (arith, rows.1.2); word = tt }

      at : (k : ℕ) (x : RowSimplex) → 0 < k → k < n → InTable t k x → is_degenerate (table_set t) k x ≡ true
      at k ([], r) p l is = let d : (row_at t r).dim + 0 ≡ k = is.degree in by (rows.2 r is.row) d
        where
          by : ((row_at t r).dim ≡ 0) ⊎ (n ≤ (row_at t r).dim) → (row_at t r).dim + 0 ≡ k → is_degenerate (table_set t) k ([], r) ≡ true
          by (inl e) d = absurd (omega arith)
          by (inr e) d = absurd (omega arith)
      at k (j ∷ w, r) p l is = word-degenerate t laws k j w r is

  pub table_lowest : IsLow (table_set t) (table_low t)
  table_lowest = low_from (table_low t) (rows_low t)
