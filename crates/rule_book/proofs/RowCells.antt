-- The small cells of a table, one row at a time.
use Rattle.std.proofs.Common.{◌≡◌, ℕ, zero, suc, ◌+◌, Bool, true, false, cond, List, [], ◌∷◌, ◌++◌, map, refl, ◌∙◌, ap, arith, slice_get, Some, ◌==◌}
use Rattle.std.specs.List.{filter}
use Rattle.spaces.specs.Spaces.{table}
use Rattle.spaces.specs.SmallCells.{row_dim}
use Rattle.cells.specs.declared.cells.SmallCell.{SmallCell}
use Rattle.term_lang.specs.declared.tables.Row.{Row}
use Rattle.term_lang.specs.Rows.{rows_of}
use Rattle.finite_sets.proofs.Entries.{row_got}
use Rattle.term_lang.proofs.RowCells.{eq_is}
use Rattle.values.specs.Rules.{numbers}
use Rattle.oracle_iface.specs.SmallForms.{quote_small, quote_row}

numbers-next : (i k : ℕ) → numbers i (suc k) ≡ numbers i k ++ (i + k) ∷ []
numbers-next i zero = ap (λ n. n ∷ []) (let e : i ≡ i + 0 = omega arith in e)
numbers-next i (suc k) = ap (λ ns. i ∷ ns) (numbers-next (suc i) k ∙ ap (λ n. numbers (suc i) k ++ n ∷ []) (let e : suc i + k ≡ i + suc k = omega arith in e))

filter-next : (test : ℕ → Bool) (ns : List ℕ) (n : ℕ) → filter test (ns ++ n ∷ []) ≡ filter test ns ++ cond (test n) (n ∷ []) []
filter-next test [] n = refl
filter-next test (m ∷ ns) n = by (test m) (filter-next test ns n)
  where
    by : (b : Bool) → filter test (ns ++ n ∷ []) ≡ filter test ns ++ cond (test n) (n ∷ []) []
        → cond b (m ∷ filter test (ns ++ n ∷ [])) (filter test (ns ++ n ∷ [])) ≡ cond b (m ∷ filter test ns) (filter test ns) ++ cond (test n) (n ∷ []) []
    by true e = ap (λ ms. m ∷ ms) e
    by false e = e

map-append : {A B : Type 0} (f : A → B) (xs ys : List A) → map f (xs ++ ys) ≡ map f xs ++ map f ys
map-append f [] ys = refl
map-append f (x ∷ xs) ys = ap (λ zs. f x ∷ zs) (map-append f xs ys)

append-nothing : {A : Type 0} (xs : List A) → xs ++ [] ≡ xs
append-nothing [] = refl
append-nothing (x ∷ xs) = ap (λ ys. x ∷ ys) (append-nothing xs)

module _ (t : List Row) (n : ℕ) where
  -- the small cells of dimension n among the first k rows
  abbrev pub cells_before : ℕ → List SmallCell
  cells_before k = map (quote_small (table (rows_of t))) (filter (λ r. row_dim (rows_of t) r == n) (numbers 0 k))

  next : (k : ℕ) → cells_before (suc k)
      ≡ cells_before k ++ map (quote_small (table (rows_of t))) (cond (row_dim (rows_of t) k == n) (k ∷ []) [])
  next k =
      ap (map (quote_small (table (rows_of t))))
      (ap (filter (λ r. row_dim (rows_of t) r == n)) (numbers-next 0 k ∙ ap (λ m. numbers 0 k ++ m ∷ []) (let e : 0 + k ≡ k = omega arith in e)) ∙ filter-next (λ r. row_dim (rows_of t) r == n) (numbers 0 k) k)
      ∙ map-append (quote_small (table (rows_of t))) (filter (λ r. row_dim (rows_of t) r == n) (numbers 0 k)) (cond (row_dim (rows_of t) k == n) (k ∷ []) [])

  dim_is : (k : ℕ) (row : Row) → slice_get t k ≡ Some row → row_dim (rows_of t) k ≡ row.dim
  dim_is k row e = ap (λ r. r.dim) (row_got t k row e)

  pub cell_there : (k : ℕ) (row : Row) → slice_get t k ≡ Some row → (row.dim == n) ≡ true → cells_before (suc k) ≡ cells_before k ++ quote_row n k ∷ []
  cell_there k row e h =
      next k ∙ ap (λ xs. cells_before k ++ xs)
      (ap (λ d. map (quote_small (table (rows_of t))) (cond (d == n) (k ∷ []) [])) (dim_is k row e)
      ∙ ap (λ b. map (quote_small (table (rows_of t))) (cond b (k ∷ []) [])) h
      ∙ ap (λ d. quote_row d k ∷ []) (dim_is k row e ∙ eq_is row.dim n h))

  pub cell_not_there : (k : ℕ) (row : Row) → slice_get t k ≡ Some row → (row.dim == n) ≡ false → cells_before (suc k) ≡ cells_before k
  cell_not_there k row e h =
      next k ∙ ap (λ xs. cells_before k ++ xs)
      (ap (λ d. map (quote_small (table (rows_of t))) (cond (d == n) (k ∷ []) [])) (dim_is k row e)
      ∙ ap (λ b. map (quote_small (table (rows_of t))) (cond b (k ∷ []) [])) h)
      ∙ append-nothing (cells_before k)
