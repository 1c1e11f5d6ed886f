-- The places of valid keys, in the words of the code: degrees, rows of tables, and the two cells of a sphere.
use Rattle.std.proofs.Common.{◌≡◌, ℕ, zero, suc, ◌+◌, ◌<◌, ◌≤◌, nat_lt, ◌==◌, ◌&&◌, true, List, [], length, get_or, inl, inr, refl, sym, ◌∙◌, ap, subst, arith}
use Rattle.std.proofs.lemmas.List.{length-map, get_or_default}
use Rattle.fp_field.specs.Field.{number}
use Rattle.simp_ops.proofs.Squeezed.{and_left, and_right}
use Rattle.spaces.specs.Tables.{Row as TableRow, sphere_rows}
use Rattle.spaces.specs.Spaces.{Space, Plain, table, sphere}
use Rattle.spaces.specs.SmallCells.{Small, small_degree, row_dim}
use Rattle.spaces.specs.Allowed.{IsAllowed, IsTable}
use Rattle.cells.specs.declared.cells.Cell.TheVariants.{Row as RowCell, Top}
use Rattle.cells.specs.declared.cells.SmallCell.TheVariants.{One}
use Rattle.cells.specs.Dim.{dim_of}
use Rattle.term_lang.specs.declared.tables.Row.{Row}
use Rattle.term_lang.specs.declared.terms.Term.TheVariants.{Table as TableTerm, Sphere}
use Rattle.term_lang.specs.Forms.{cell_form}
use Rattle.term_lang.specs.Belongs.{is_cell}
use Rattle.term_lang.specs.Quote.{quote_cell, sphere_cell}
use Rattle.term_lang.specs.Rows.{row_of, rows_of}
use Rattle.term_lang.specs.SpaceOf.{space_of}
use Rattle.term_lang.proofs.CellForms.{is_cell-Row, is_cell-Top}
use Rattle.term_lang.proofs.CodeForms.{lt_is}
use Rattle.term_lang.proofs.RowCells.{eq_is}
use Rattle.term_lang.proofs.RowReads.{row-read}
use Rattle.term_lang.proofs.SpacesOfTerms.{space-Table, space-Sphere}
use Rattle.term_lang.proofs.TableForms.{table_cells}
use Rattle.term_lang.proofs.SphereForms.{sphere_cells}
use Rattle.values.specs.Ranks.{IsCell, IsSmallCell, IsValid, loopings}
use Rattle.oracle_iface.specs.declared.keys.Key.{Key}
use Rattle.oracle_iface.specs.declared.keys.Op.{Op}
use Rattle.oracle_iface.specs.declared.keys.Op.TheVariants.{Basis, SmallD, F, G, H, Cycles}
use Rattle.oracle_iface.specs.declared.keys.Place.{Place}
use Rattle.oracle_iface.specs.declared.keys.Place.TheVariants.{Degree, Small as SmallPlace, Big as BigPlace}
use Rattle.oracle_iface.specs.SmallForms.{small_form, quote_small}
use Rattle.oracle_iface.specs.Keys.{question_at, op_of, place_of, IsValidKey}
use Rattle.oracle_iface.specs.KeyLaws.{IsOfSmall, IsOfBig, IsInDegree, small_row, big_row, IsAtRow, IsAtSmallSphere, IsAtSphere}
use Rattle.oracle_iface.proofs.ProperBases.{listed-proper}
use Rattle.oracle_iface.proofs.CyclesNeeds.{space_read}

-- a valid operation at a place of a space
pub record IsAt (p : ℕ) (o : Op) (place : Place) (a : Space) : Type 0 where
  pub question : IsValid p (question_at o place a)
  pub op_is : o ≡ op_of (question_at o place a)
  pub place_is : place ≡ place_of (question_at o place a)

pub key-at : (k : Key) → IsValidKey k → IsAt (number k.prime) k.op k.place (space_of k.term)
key-at k is = record { question = is.question; op_is = ap (λ (z : Key). z.op) is.key_is; place_is = ap (λ (z : Key). z.place) is.key_is }

pub key-at_of : (k : Key) (a : Space) → IsValidKey k → space_of k.term ≡ a → IsAt (number k.prime) k.op k.place a
key-at_of k a is e = subst (IsAt (number k.prime) k.op k.place) e (key-at k is)

-- the space of a valid key is allowed
pub key-allowed : (k : Key) → IsValidKey k → IsAllowed (space_of k.term)
key-allowed k is = subst IsAllowed (space_read k.op k.place (space_of k.term)) is.question.0

-- ---- degrees

basis-place : (p : ℕ) (place : Place) (a : Space) → IsAt p Basis place a → IsInDegree place (loopings a)
basis-place p (Degree n) a at = (n, refl, at.question.2)
basis-place p (SmallPlace y) a at = absurd (let e : SmallPlace y ≡ Degree 0 = at.place_is in cc)
basis-place p (BigPlace x) a at = absurd (let e : BigPlace x ≡ Degree 0 = at.place_is in cc)

cycles-place : (p : ℕ) (place : Place) (a : Space) → IsAt p Cycles place a → IsInDegree place (suc (loopings a))
cycles-place p (Degree n) a at = (n, refl, (let h : suc n + loopings a ≤ 24 = at.question.2 in omega (arith, h)))
cycles-place p (SmallPlace y) a at = absurd (let e : Cycles ≡ Basis = at.op_is in cc)
cycles-place p (BigPlace x) a at = absurd (let e : Cycles ≡ Basis = at.op_is in cc)

pub basis-degree : (k : Key) → IsValidKey k → k.op ≡ Basis → IsInDegree k.place (loopings (space_of k.term))
basis-degree k is e = basis-place (number k.prime) k.place (space_of k.term) (subst (λ o. IsAt (number k.prime) o k.place (space_of k.term)) e (key-at k is))

pub cycles-degree : (k : Key) → IsValidKey k → k.op ≡ Cycles → IsInDegree k.place (suc (loopings (space_of k.term)))
cycles-degree k is e = cycles-place (number k.prime) k.place (space_of k.term) (subst (λ o. IsAt (number k.prime) o k.place (space_of k.term)) e (key-at k is))

-- ---- small cells and cells of any space

pub record AtSmall (p : ℕ) (place : Place) (a : Space) : Type 0 where
  pub cell : Small a
  pub allowed : IsAllowed a
  pub listed : IsSmallCell p a (small_degree a cell) cell
  pub low : small_degree a cell + loopings a ≤ 24
  pub is : place ≡ SmallPlace (quote_small a cell)

small_d-place : (p : ℕ) (place : Place) (a : Space) → IsAt p SmallD place a → AtSmall p place a
small_d-place p (SmallPlace y) a at =
    record { cell = small_form y a; allowed = at.question.0; listed = at.question.1; low = at.question.2; is = at.place_is }
small_d-place p (Degree n) a at = absurd (let e : SmallD ≡ Basis = at.op_is in cc)
small_d-place p (BigPlace x) a at = absurd (let e : SmallD ≡ Basis = at.op_is in cc)

g-place : (p : ℕ) (place : Place) (a : Space) → IsAt p G place a → AtSmall p place a
g-place p (SmallPlace y) a at =
    record { cell = small_form y a; allowed = at.question.0; listed = at.question.1; low = at.question.2; is = at.place_is }
g-place p (Degree n) a at = absurd (let e : G ≡ Basis = at.op_is in cc)
g-place p (BigPlace x) a at = absurd (let e : G ≡ Basis = at.op_is in cc)

small-place : (p : ℕ) (o : Op) (place : Place) (a : Space) → IsOfSmall o → IsAt p o place a → AtSmall p place a
small-place p o place a (inl e) at = small_d-place p place a (subst (λ z. IsAt p z place a) e at)
small-place p o place a (inr e) at = g-place p place a (subst (λ z. IsAt p z place a) e at)

pub record AtBig (place : Place) (a : Space) : Type 0 where
  pub degree : ℕ
  pub cell : Plain a
  pub allowed : IsAllowed a
  pub is_cell : IsCell a degree cell
  pub low : degree + loopings a ≤ 24
  pub is : place ≡ BigPlace (quote_cell a degree cell)

f-place : (p : ℕ) (place : Place) (a : Space) → IsAt p F place a → AtBig place a
f-place p (BigPlace x) a at =
    record { degree = dim_of x; cell = cell_form x a; allowed = at.question.0; is_cell = at.question.1; low = at.question.2; is = at.place_is }
f-place p (Degree n) a at = absurd (let e : F ≡ Basis = at.op_is in cc)
f-place p (SmallPlace x) a at = absurd (let e : F ≡ Basis = at.op_is in cc)

h-place : (p : ℕ) (place : Place) (a : Space) → IsAt p H place a → AtBig place a
h-place p (BigPlace x) a at =
    record { degree = dim_of x; cell = cell_form x a; allowed = at.question.0; is_cell = at.question.1; low = at.question.2; is = at.place_is }
h-place p (Degree n) a at = absurd (let e : H ≡ Basis = at.op_is in cc)
h-place p (SmallPlace x) a at = absurd (let e : H ≡ Basis = at.op_is in cc)

big-place : (p : ℕ) (o : Op) (place : Place) (a : Space) → IsOfBig o → IsAt p o place a → AtBig place a
big-place p o place a (inl e) at = f-place p place a (subst (λ z. IsAt p z place a) e at)
big-place p o place a (inr e) at = h-place p place a (subst (λ z. IsAt p z place a) e at)

-- ---- tables

-- the dimension of a row
dim-read : (rows : List Row) (r : ℕ) → r < length rows → (x : Row) → (get_or rows r x).dim ≡ row_dim (rows_of rows) r
dim-read rows r h x = sym (ap (λ (z : TableRow). z.dim) (row-read rows r (get_or rows r x) h (get_or_default rows r x (get_or rows r x) h)))

within_rows : (rows : List Row) (r : ℕ) → r < length (rows_of rows) → r < length rows
within_rows rows r h = subst (λ n. r < n) (length-map rows row_of) h

table-small : (p : ℕ) (rows : List Row) (place : Place) → AtSmall p place (table (rows_of rows)) → IsAtRow small_row rows place
table-small p rows place at =
    let t = rows_of rows in
    let r : ℕ = at.cell in
    let inside : r < length rows = within_rows rows r (listed-proper p (table t) (row_dim t r) r at.allowed.0 at.listed) in
    let l : row_dim t r + 0 ≤ 24 = at.low in
    record { row = r; within = inside; dim = dim-read rows r inside; low = omega (arith, l); is = at.is }

table-big : (rows : List Row) (place : Place) → AtBig place (table (rows_of rows)) → IsAtRow big_row rows place
table-big rows place at =
    let t = rows_of rows in
    let n = at.degree in
    let r : ℕ = at.cell.1 in
    let l : n + 0 ≤ 24 = at.low in
    let c : is_cell (RowCell n r) (table t) n ≡ true = (table_cells t at.allowed.0 n (omega (arith, l))).onto at.cell at.is_cell.0 at.is_cell.1 in
    let b : nat_lt r (length t) && (n == row_dim t r) && (n == n) ≡ true = sym (ap (λ test. test (table t) n) (is_cell-Row n r)) ∙ c in
    let d = and_left (nat_lt r (length t) && (n == row_dim t r)) (n == n) b in
    let inside : r < length rows = within_rows rows r (lt_is r (length t) (and_left (nat_lt r (length t)) (n == row_dim t r) d)) in
    let e : n ≡ row_dim t r = eq_is n (row_dim t r) (and_right (nat_lt r (length t)) (n == row_dim t r) d) in
    record { row = r; within = inside; dim = dim-read rows r inside; low = omega (arith, e, l); is = at.is ∙ ap (λ k. BigPlace (RowCell k r)) e }

module _ (k : Key) (rows : List Row) (valid : IsValidKey k) (term : k.term ≡ TableTerm rows) where
  space_is : space_of k.term ≡ table (rows_of rows)
  space_is = ap space_of term ∙ space-Table rows

  pub table-small_key : IsOfSmall k.op → IsAtRow small_row rows k.place
  table-small_key o =
      table-small (number k.prime) rows k.place
      (small-place (number k.prime) k.op k.place (table (rows_of rows)) o (key-at_of k (table (rows_of rows)) valid space_is))

  pub table-big_key : IsOfBig k.op → IsAtRow big_row rows k.place
  table-big_key o =
      table-big rows k.place (big-place (number k.prime) k.op k.place (table (rows_of rows)) o (key-at_of k (table (rows_of rows)) valid space_is))

  pub table-basis_key : k.op ≡ Basis → IsInDegree k.place 0
  table-basis_key e = subst (IsInDegree k.place) (ap loopings space_is) (basis-degree k valid e)

  pub table-cycles_key : k.op ≡ Cycles → IsInDegree k.place 1
  table-cycles_key e = subst (λ a. IsInDegree k.place (suc (loopings a))) space_is (cycles-degree k valid e)

  pub table-key_table : IsTable (rows_of rows)
  table-key_table = (subst IsAllowed space_is (key-allowed k valid)).0

-- ---- spheres

sphere-small_at : (m r : ℕ) → 0 < m → r < 2 → IsAtSmallSphere m (SmallPlace (One (sphere_cell (row_dim (sphere_rows m) r) ([], r))))
sphere-small_at m zero h l = inl refl
sphere-small_at zero (suc zero) h l = absurd (omega arith)
sphere-small_at (suc m) (suc zero) h l = inr refl
sphere-small_at m (suc (suc r)) h l = absurd (omega arith)

sphere-small : (p m : ℕ) (place : Place) → AtSmall p place (sphere m) → IsAtSmallSphere m place
sphere-small p m place at =
    let r : ℕ = at.cell in
    let proper = listed-proper p (sphere m) (row_dim (sphere_rows m) r) r at.allowed.0 at.listed in
    subst (IsAtSmallSphere m) (sym at.is) (sphere-small_at m r proper.0 proper.1)

sphere-big_at : (m n : ℕ) (x : Plain (sphere m)) → is_cell (sphere_cell n x) (sphere m) n ≡ true → IsAtSphere m (BigPlace (sphere_cell n x))
sphere-big_at m zero x h = inl refl
sphere-big_at m (suc n) x h =
    let b : (suc n == m) && (suc n == m) ≡ true = sym (ap (λ test. test (sphere m) (suc n)) (is_cell-Top (suc n))) ∙ h in
    inr (ap (λ k. BigPlace (Top k)) (eq_is (suc n) m (and_left (suc n == m) (suc n == m) b)))

sphere-big : (m : ℕ) (place : Place) → AtBig place (sphere m) → IsAtSphere m place
sphere-big m place at =
    let n = at.degree in
    let l : n + 0 ≤ 24 = at.low in
    subst (IsAtSphere m) (sym at.is)
    (sphere-big_at m n at.cell ((sphere_cells m at.allowed.0.0 n (omega (arith, l))).onto at.cell at.is_cell.0 at.is_cell.1))

module _ (k : Key) (m : ℕ) (valid : IsValidKey k) (term : k.term ≡ Sphere m) where
  sphere_is : space_of k.term ≡ sphere m
  sphere_is = ap space_of term ∙ space-Sphere m

  pub sphere-small_key : IsOfSmall k.op → IsAtSmallSphere m k.place
  sphere-small_key o =
      sphere-small (number k.prime) m k.place (small-place (number k.prime) k.op k.place (sphere m) o (key-at_of k (sphere m) valid sphere_is))

  pub sphere-big_key : IsOfBig k.op → IsAtSphere m k.place
  sphere-big_key o = sphere-big m k.place (big-place (number k.prime) k.op k.place (sphere m) o (key-at_of k (sphere m) valid sphere_is))

  pub sphere-basis_key : k.op ≡ Basis → IsInDegree k.place 0
  sphere-basis_key e = subst (IsInDegree k.place) (ap loopings sphere_is) (basis-degree k valid e)

  pub sphere-cycles_key : k.op ≡ Cycles → IsInDegree k.place 1
  sphere-cycles_key e = subst (λ a. IsInDegree k.place (suc (loopings a))) sphere_is (cycles-degree k valid e)

  pub sphere-key_dim : (0 < m) × (m ≤ 16)
  sphere-key_dim = (subst IsAllowed sphere_is (key-allowed k valid)).0
