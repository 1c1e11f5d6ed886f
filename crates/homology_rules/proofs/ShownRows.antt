-- The values of tables and spheres have only cells that the code has.
use Rattle.std.proofs.Common.{◌≡◌, ℕ, zero, suc, ◌<◌, ◌≤◌, Bool, true, false, cond, [], ◌∷◌, length, refl, ◌∙◌, ap, arith}
use Rattle.fp_field.specs.Chains.{Terms, Each, faces_sum, keep}
use Rattle.spaces.specs.Tables.{Table, RowSimplex, InTable, entry, row_at, row_face, listed_face, table_set, copies, sphere_rows}
use Rattle.spaces.specs.Spaces.{table, sphere}
use Rattle.spaces.specs.SmallCells.{row_dim, small_cmp}
use Rattle.spaces.specs.Allowed.{IsTable, face_count}
use Rattle.spaces.specs.Simplicial.{IsSimplicial}
use Rattle.spaces.proofs.TableLaws.{table_set_laws}
use Rattle.spaces.proofs.SphereTable.{sphere_faces}
use Rattle.spaces.proofs.TableDegenerate.{row-not_degenerate}
use Rattle.term_lang.proofs.TableForms.{table_cells}
use Rattle.term_lang.proofs.SphereForms.{sphere_cells}
use Rattle.values.specs.Ranks.{IsCell}
use Rattle.values.specs.Rules.{named, is_row, row_d}
use Rattle.oracle_iface.proofs.CarriedChains.{each-normal}
use Rattle.oracle_iface.proofs.ProperBases.{listed-proper}
use Rattle.homology_rules.specs.Shown.{IsSmallShown, HasShownValues}

-- ---- faces of rows

module _ (p : ℕ) (t : Table) (P : ℕ → Type 0) where
  rows-each : (c : Terms RowSimplex) → Each (λ x. P x.1) c → Each P (named (λ x. x.1) (keep (is_row p) c))
  rows-each [] e = tt
  rows-each (u ∷ c) e = by (is_row p u.0) (rows-each c e.1)
    where
      by : (b : Bool) → Each P (named (λ x. x.1) (keep (is_row p) c)) → Each P (named (λ x. x.1) (cond b (u ∷ keep (is_row p) c) (keep (is_row p) c)))
      by true r = (e.0, r)
      by false r = r

  faces-each : (r n : ℕ) → ((i : ℕ) → i < n → P (listed_face t i r).1) → Each (λ x. P x.1) (faces_sum p (row_face t) n ([], r))
  faces-each r zero h = tt
  faces-each r (suc n) h = (h n (omega arith), faces-each r n (λ i l. h i (omega arith)))

  -- the faces of a row that are rows
  row_d-each : (r n : ℕ) → row_dim t r ≡ n → ((i : ℕ) → i < face_count n → P (listed_face t i r).1) → Each P (row_d p t r)
  row_d-each r zero e h = rw e tt
  row_d-each r (suc n) e h = rw e (rows-each (faces_sum p (row_face t) (suc (suc n)) ([], r)) (faces-each r (suc (suc n)) h))

-- a row is a cell in its own dimension
row-cell : (t : Table) → IsSimplicial (table_set t) → (r : ℕ) → r < length t → IsCell (table t) (row_dim t r) ([], r)
row-cell t laws r l = (here, row-not_degenerate t laws (row_dim t r) r here)
  where
    here : InTable t (row_dim t r) ([], r)
    here = record { row = l; degree = omega arith; word = tt }

-- ---- tables

module _ (p : ℕ) (t : Table) (is : IsTable t) where
  row-small_shown : (r : ℕ) → r < length t → IsSmallShown (table t) r
  row-small_shown r l = (l, (let low : row_dim t r ≤ 16 = is.low r l in omega (arith, low)))

  face-within : (r n i : ℕ) → r < length t → row_dim t r ≡ n → i < face_count n → (listed_face t i r).1 < length t
  face-within r n i l e h =
      let many : length (row_at t r).faces ≡ face_count n = is.faces.counted r l ∙ ap face_count e in
      let below : (listed_face t i r).1 < r = is.earlier r i l (omega (arith, many, h)) in
      omega (arith, below, l)

  pub table-shown : HasShownValues p (table t)
  table-shown = record {
    cells = table_cells t is;
    in_small_d = λ y v.
        let l : y < length t = listed-proper p (table t) (row_dim t y) y is v.1 in
        each-normal (small_cmp (table t)) p (IsSmallShown (table t)) (row_d p t y)
        (row_d-each p t (IsSmallShown (table t)) y (row_dim t y) refl
        (λ i h. row-small_shown (listed_face t i y).1 (face-within y (row_dim t y) i l refl h)));
    in_f = λ n x v. (row-small_shown x.1 v.1.0.row, tt);
    in_g = λ y v.
        let l : y < length t = listed-proper p (table t) (row_dim t y) y is v.1 in
        (((let low : row_dim t y ≤ 16 = is.low y l in omega (arith, low)), row-cell t (table_set_laws t is.faces) y l), tt);
    in_h = λ n x v. tt;
  }

-- ---- spheres

module _ (p m : ℕ) (pos : 0 < m) (low : m ≤ 16) where
  sphere-dim : (r : ℕ) → r < 2 → row_dim (sphere_rows m) r ≤ 16
  sphere-dim zero l = omega arith
  sphere-dim (suc zero) l = low
  sphere-dim (suc (suc r)) l = absurd (omega arith)

  sphere-row_shown : (r : ℕ) → r < 2 → IsSmallShown (sphere m) r
  sphere-row_shown r l = ((pos, l), (let d : row_dim (sphere_rows m) r ≤ 16 = sphere-dim r l in omega (arith, d)))

  -- a face of the cell is on the vertex
  on_vertex : (w : RowSimplex) → w.1 ≡ 0 → (n i : ℕ) → (entry ([], 0) (copies n w) i).1 ≡ 0
  on_vertex w e zero i = refl
  on_vertex w e (suc n) zero = e
  on_vertex w e (suc n) (suc i) = on_vertex w e n i

  sphere-face : (r n i : ℕ) → r < 2 → row_dim (sphere_rows m) r ≡ n → i < face_count n → (listed_face (sphere_rows m) i r).1 < 2
  sphere-face zero zero i l e h = absurd (omega arith)
  sphere-face zero (suc n) i l e h = absurd (omega (arith, e))
  sphere-face (suc zero) n i l e h = let at : (listed_face (sphere_rows m) i 1).1 ≡ 0 = on_vertex _ refl (suc m) i in omega (arith, at)
  sphere-face (suc (suc r)) n i l e h = absurd (omega arith)

  pub sphere-shown : HasShownValues p (sphere m)
  sphere-shown = record {
    cells = sphere_cells m pos;
    in_small_d = λ y v.
        let l = listed-proper p (sphere m) (row_dim (sphere_rows m) y) y v.0.0 v.1 in
        each-normal (small_cmp (sphere m)) p (IsSmallShown (sphere m)) (row_d p (sphere_rows m) y)
        (row_d-each p (sphere_rows m) (IsSmallShown (sphere m)) y (row_dim (sphere_rows m) y) refl
        (λ i h. sphere-row_shown (listed_face (sphere_rows m) i y).1 (sphere-face y (row_dim (sphere_rows m) y) i l.1 refl h)));
    in_f = λ n x v. (sphere-row_shown x.1 v.1.0.row, tt);
    in_g = λ y v.
        let l = listed-proper p (sphere m) (row_dim (sphere_rows m) y) y v.0.0 v.1 in
        (((let d : row_dim (sphere_rows m) y ≤ 16 = sphere-dim y l.1 in omega (arith, d)), row-cell (sphere_rows m) (table_set_laws (sphere_rows m) (sphere_faces m pos)) y l.1), tt);
    in_h = λ n x v. tt;
  }
