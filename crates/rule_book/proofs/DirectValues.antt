-- The values of valid keys about tables and spheres.
use Rattle.std.proofs.Common.{◌≡◌, ℕ, zero, suc, ◌<◌, List, [], ◌∷◌, length, inl, inr, refl, sym, ◌∙◌, ap, subst, arith}
use Rattle.fp_field.specs.declared.prime.Prime.{Prime}
use Rattle.fp_field.specs.Field.{number}
use Rattle.fp_field.specs.Normal.{normal}
use Rattle.chain_core.specs.Formal.{Formal}
use Rattle.spaces.specs.Tables.{RowSimplex, Table, sphere_rows}
use Rattle.spaces.specs.Spaces.{Space, table, sphere, product, suspension, kz1, bundle, loops, paths, kzm1, cyclic_bundle}
use Rattle.spaces.specs.SmallCells.{row_dim, small_cmp}
use Rattle.cells.specs.declared.cells.Cell.{Cell}
use Rattle.cells.specs.declared.cells.Cell.TheVariants.{Row as RowCell, Base, Top}
use Rattle.cells.specs.declared.cells.SmallCell.{SmallCell, out-SmallCell, out-roll-SmallCell, fold-roll-SmallCell, roll-SmallCell, map-SmallCell}
use Rattle.cells.specs.declared.cells.SmallCell.TheOpen.{SmallCell-F}
use Rattle.cells.specs.declared.cells.SmallCell.TheVariants.{One, rolls-One}
use Rattle.term_lang.specs.declared.tables.Row.{Row}
use Rattle.term_lang.specs.declared.terms.Term.{Term}
use Rattle.term_lang.specs.declared.terms.Term.TheVariants.{Table as TableTerm, Sphere}
use Rattle.term_lang.specs.Forms.{cell_form}
use Rattle.term_lang.specs.Quote.{sphere_cell}
use Rattle.term_lang.specs.Rows.{rows_of}
use Rattle.term_lang.specs.SpaceOf.{space_of}
use Rattle.term_lang.proofs.CellForms.{form-Row, form-Base, form-Top}
use Rattle.term_lang.proofs.SpacesOfTerms.{space-Table, space-Sphere}
use Rattle.values.specs.Rules.{rows_of_dim, row_d}
use Rattle.values.specs.Values.{value}
use Rattle.oracle_iface.specs.declared.keys.Key.{Key}
use Rattle.oracle_iface.specs.declared.keys.Op.{Op}
use Rattle.oracle_iface.specs.declared.keys.Op.TheVariants.{Basis, SmallD, F, G, H}
use Rattle.oracle_iface.specs.declared.keys.Place.{Place}
use Rattle.oracle_iface.specs.declared.keys.Place.TheVariants.{Degree, Small as SmallPlace, Big as BigPlace}
use Rattle.oracle_iface.specs.declared.bodies.Body.{Body}
use Rattle.oracle_iface.specs.declared.bodies.Body.TheVariants.{Cells as CellsBody, Small as SmallBody, Big as BigBody}
use Rattle.oracle_iface.specs.SmallForms.{SmallForm, small_form, small_step, quote_row}
use Rattle.oracle_iface.specs.Terms.{term_of}
use Rattle.oracle_iface.specs.Keys.{question_at, quote_body, quote_basis, quote_small_chain, formal, IsValidKey}
use Rattle.oracle_iface.specs.KeyLaws.{small_row, IsAtRow, IsAtSmallSphere, IsAtSphere}
use Rattle.oracle_iface.proofs.Named.{term-back}
use Rattle.oracle_iface.proofs.ValidPlaces.{table-small_key, table-big_key, sphere-small_key, sphere-big_key, sphere-key_dim}
use Rattle.rule_book.specs.RowSpaces.{HasRows}
use Rattle.rule_book.specs.Values.{HasValue}
use Rattle.rule_book.proofs.SphereBoundary.{sphere-d}

-- ---- what a cell at a place is told by

rolled : (x : SmallCell-F SmallCell) → small_form (roll-SmallCell x) ≡ small_step (map-SmallCell SmallCell SmallForm small_form x)
unfolding small_form
rolled x = fold-roll-SmallCell SmallForm small_step x

form-One : (x : Cell) → small_form (One x) ≡ small_step (SmallCell-F.One x)
form-One x = ap small_form (sym (rolls-One x)) ∙ rolled (SmallCell-F.One x)

abbrev cell_in : SmallCell-F SmallCell → Cell
cell_in (SmallCell-F.One x) = x
cell_in y = Base

opened : (x : Cell) → out-SmallCell (One x) ≡ SmallCell-F.One x
opened x = ap out-SmallCell (sym (rolls-One x)) ∙ out-roll-SmallCell (SmallCell-F.One x)

pub one_told : (x y : Cell) → One x ≡ One y → x ≡ y
one_told x y e = ap cell_in (sym (opened x) ∙ ap out-SmallCell e ∙ opened y)

abbrev small_in : Place → SmallCell
small_in (SmallPlace y) = y
small_in o = One Base

abbrev big_in : Place → Cell
big_in (BigPlace x) = x
big_in o = Base

pub small_told : (y z : SmallCell) → SmallPlace y ≡ SmallPlace z → y ≡ z
small_told y z e = ap small_in e

pub big_told : (x y : Cell) → BigPlace x ≡ BigPlace y → x ≡ y
big_told x y e = ap big_in e

-- ---- the value at a place

abbrev pub body_at : Prime → Op → Place → Space → Body
body_at p o place a = quote_body p (question_at o place a) (value (number p) (question_at o place a))

pub body_is : (k : Key) (o : Op) (place : Place) (a : Space) → k.op ≡ o → k.place ≡ place → space_of k.term ≡ a
    → body_at k.prime k.op k.place (space_of k.term) ≡ body_at k.prime o place a
body_is k o place a e f g = λ i. body_at k.prime (e i) (f i) (g i)

-- the terms of tables and spheres
pub row_cases : (P : Term → Type 0) → ((rows : List Row) → P (TableTerm rows)) → ((m : ℕ) → P (Sphere m)) → (t : Term) → HasRows (space_of t) → P t
row_cases P table_case sphere_case t has = by (space_of t) has (term-back t)
  where
    by : (a : Space) → HasRows a → term_of a ≡ t → P t
    by (table rows) b e = subst P e (table_case _)
    by (sphere m) b e = subst P e (sphere_case m)
    by (product a b) h e = absurd h
    by (suspension a) h e = absurd h
    by kz1 h e = absurd h
    by (bundle t c) h e = absurd h
    by (loops a) h e = absurd h
    by (paths a) h e = absurd h
    by (kzm1 m) h e = absurd h
    by (cyclic_bundle t m c) h e = absurd h

-- ---- at rows

module _ (p : Prime) (t : Table) (d r : ℕ) where
  row_form : (cell_form (RowCell d r) (table t)).1 ≡ r
  row_form = ap (λ g. (g (table t)).1) (form-Row d r)

  pub small_row_form : small_form (One (RowCell d r)) (table t) ≡ r
  small_row_form = ap (λ g. g (table t)) (form-One (RowCell d r)) ∙ row_form

  f-row : body_at p F (BigPlace (RowCell d r)) (table t) ≡ SmallBody (formal p ((quote_row (row_dim t r) r, 1) ∷ []))
  f-row = ap (λ s. SmallBody (formal p ((quote_row (row_dim t s) s, 1) ∷ []))) row_form

  g-row : body_at p G (SmallPlace (One (RowCell d r))) (table t) ≡ BigBody (formal p ((RowCell (row_dim t r) r, 1) ∷ []))
  g-row = ap (λ s. BigBody (formal p ((RowCell (row_dim t s) s, 1) ∷ []))) small_row_form

  d-row : body_at p SmallD (SmallPlace (One (RowCell d r))) (table t)
      ≡ SmallBody (formal p (quote_small_chain (table t) (normal (small_cmp (table t)) (number p) (row_d (number p) t r))))
  d-row = ap (λ s. SmallBody (formal p (quote_small_chain (table t) (normal (small_cmp (table t)) (number p) (row_d (number p) t s))))) small_row_form

-- ---- at the two cells of a sphere

top_is : (m : ℕ) → 0 < m → (x : RowSimplex) → sphere_cell m x ≡ Top m
top_is zero h x = absurd (omega arith)
top_is (suc m) h x = refl

module _ (p : Prime) (m : ℕ) (pos : 0 < m) where
  abbrev quoted : ℕ → Cell
  quoted r = sphere_cell (row_dim (sphere_rows m) r) ([], r)

  base_form : small_form (One Base) (sphere m) ≡ 0
  base_form = ap (λ g. g (sphere m)) (form-One Base) ∙ ap (λ g. (g (sphere m)).1) form-Base

  top_form : small_form (One (Top m)) (sphere m) ≡ 1
  top_form = ap (λ g. g (sphere m)) (form-One (Top m)) ∙ ap (λ g. (g (sphere m)).1) (form-Top m)

  f-base : body_at p F (BigPlace Base) (sphere m) ≡ SmallBody (formal p ((One Base, 1) ∷ []))
  f-base = ap (λ (g : (X : Space) → Rattle.spaces.specs.Spaces.Plain X). SmallBody (formal p ((One (quoted (g (sphere m)).1), 1) ∷ []))) form-Base

  f-top : body_at p F (BigPlace (Top m)) (sphere m) ≡ SmallBody (formal p ((One (Top m), 1) ∷ []))
  f-top =
      ap (λ (g : (X : Space) → Rattle.spaces.specs.Spaces.Plain X). SmallBody (formal p ((One (quoted (g (sphere m)).1), 1) ∷ []))) (form-Top m)
      ∙ ap (λ x. SmallBody (formal p ((One x, 1) ∷ []))) (top_is m pos ([], 1))

  g-base : body_at p G (SmallPlace (One Base)) (sphere m) ≡ BigBody (formal p ((Base, 1) ∷ []))
  g-base = ap (λ r. BigBody (formal p ((quoted r, 1) ∷ []))) base_form

  g-top : body_at p G (SmallPlace (One (Top m))) (sphere m) ≡ BigBody (formal p ((Top m, 1) ∷ []))
  g-top =
      ap (λ r. BigBody (formal p ((quoted r, 1) ∷ []))) top_form
      ∙ ap (λ x. BigBody (formal p ((x, 1) ∷ []))) (top_is m pos ([], 1))

  d-at : (y : SmallCell) (r : ℕ) → r < 2 → small_form y (sphere m) ≡ r → body_at p SmallD (SmallPlace y) (sphere m) ≡ SmallBody (formal p [])
  d-at y r l e =
      ap (λ s. SmallBody (formal p (quote_small_chain (sphere m) (normal (small_cmp (sphere m)) (number p) (row_d (number p) (sphere_rows m) s))))) e
      ∙ ap (λ c. SmallBody (formal p (quote_small_chain (sphere m) c))) (sphere-d p m r pos l)

  d-sphere : (place : Place) → IsAtSmallSphere m place → body_at p SmallD place (sphere m) ≡ SmallBody (formal p [])
  d-sphere place (inl e) = ap (λ o. body_at p SmallD o (sphere m)) e ∙ d-at (One Base) 0 (omega arith) base_form
  d-sphere place (inr e) = ap (λ o. body_at p SmallD o (sphere m)) e ∙ d-at (One (Top m)) 1 (omega arith) top_form

  f-sphere : (place : Place) (x : Cell) → IsAtSphere m place → place ≡ BigPlace x
      → body_at p F place (sphere m) ≡ SmallBody (formal p ((One x, 1) ∷ []))
  f-sphere place x (inl e) g =
      ap (λ o. body_at p F o (sphere m)) e ∙ f-base ∙ ap (λ y. SmallBody (formal p ((One y, 1) ∷ []))) (big_told Base x (sym e ∙ g))
  f-sphere place x (inr e) g =
      ap (λ o. body_at p F o (sphere m)) e ∙ f-top ∙ ap (λ y. SmallBody (formal p ((One y, 1) ∷ []))) (big_told (Top m) x (sym e ∙ g))

  g-sphere : (place : Place) (x : Cell) → IsAtSmallSphere m place → place ≡ SmallPlace (One x)
      → body_at p G place (sphere m) ≡ BigBody (formal p ((x, 1) ∷ []))
  g-sphere place x (inl e) g =
      ap (λ o. body_at p G o (sphere m)) e ∙ g-base
      ∙ ap (λ y. BigBody (formal p ((y, 1) ∷ []))) (one_told Base x (small_told (One Base) (One x) (sym e ∙ g)))
  g-sphere place x (inr e) g =
      ap (λ o. body_at p G o (sphere m)) e ∙ g-top
      ∙ ap (λ y. BigBody (formal p ((y, 1) ∷ []))) (one_told (Top m) x (small_told (One (Top m)) (One x) (sym e ∙ g)))

-- ---- keys

space_table : (k : Key) (rows : List Row) → k.term ≡ TableTerm rows → space_of k.term ≡ table (rows_of rows)
space_table k rows e = ap space_of e ∙ space-Table rows

space_sphere : (k : Key) (m : ℕ) → k.term ≡ Sphere m → space_of k.term ≡ sphere m
space_sphere k m e = ap space_of e ∙ space-Sphere m

module _ (k : Key) (valid : IsValidKey k) where
  -- a degree
  pub basis-table : (rows : List Row) (n : ℕ) (ys : List SmallCell) → k.term ≡ TableTerm rows → k.op ≡ Basis → k.place ≡ Degree n
      → ys ≡ quote_basis (table (rows_of rows)) (rows_of_dim (rows_of rows) n) → HasValue k (CellsBody ys)
  basis-table rows n ys e o d h = ap CellsBody h ∙ sym (body_is k Basis (Degree n) (table (rows_of rows)) o d (space_table k rows e))

  pub basis-sphere : (m n : ℕ) (ys : List SmallCell) → k.term ≡ Sphere m → k.op ≡ Basis → k.place ≡ Degree n
      → ys ≡ quote_basis (sphere m) (rows_of_dim (sphere_rows m) n) → HasValue k (CellsBody ys)
  basis-sphere m n ys e o d h = ap CellsBody h ∙ sym (body_is k Basis (Degree n) (sphere m) o d (space_sphere k m e))

  -- a small cell
  row_of_place : (rows : List Row) (n r : ℕ) (at : IsAtRow small_row rows k.place) → k.place ≡ SmallPlace (One (RowCell n r)) → at.row ≡ r
  row_of_place rows n r at e =
      sym (small_row_form k.prime (rows_of rows) (row_dim (rows_of rows) at.row) at.row)
      ∙ ap (λ y. small_form y (table (rows_of rows))) (small_told (One (RowCell (row_dim (rows_of rows) at.row) at.row)) (One (RowCell n r)) (sym at.is ∙ e))
      ∙ small_row_form k.prime (rows_of rows) n r

  pub row_within : (rows : List Row) (n r : ℕ) → k.term ≡ TableTerm rows → k.op ≡ SmallD → k.place ≡ SmallPlace (One (RowCell n r)) → r < length rows
  row_within rows n r e o h =
      let at = table-small_key k rows valid e (inl o) in
      subst (λ s. s < length rows) (row_of_place rows n r at h) at.within

  pub d-table : (rows : List Row) (n r : ℕ) (c : Formal SmallCell) → k.term ≡ TableTerm rows → k.op ≡ SmallD → k.place ≡ SmallPlace (One (RowCell n r))
      → c.prime ≡ k.prime
      → c.terms ≡ quote_small_chain (table (rows_of rows)) (normal (small_cmp (table (rows_of rows))) (number k.prime) (row_d (number k.prime) (rows_of rows) r))
      → HasValue k (SmallBody c)
  d-table rows n r c e o d s h =
      (λ i. SmallBody (record { prime = s i; terms = h i }))
      ∙ sym (d-row k.prime (rows_of rows) n r)
      ∙ sym (body_is k SmallD (SmallPlace (One (RowCell n r))) (table (rows_of rows)) o d (space_table k rows e))

  pub d-sphere_key : (m : ℕ) (c : Formal SmallCell) → k.term ≡ Sphere m → k.op ≡ SmallD → c.prime ≡ k.prime → c.terms ≡ [] → HasValue k (SmallBody c)
  d-sphere_key m c e o s h =
      (λ i. SmallBody (record { prime = s i; terms = h i }))
      ∙ sym (d-sphere k.prime m (sphere-key_dim k m valid e).0 k.place (sphere-small_key k m valid e (inl o)))
      ∙ sym (body_is k SmallD k.place (sphere m) o refl (space_sphere k m e))

  pub g-rows : (x : Cell) → HasRows (space_of k.term) → k.op ≡ G → k.place ≡ SmallPlace (One x) → HasValue k (BigBody (formal k.prime ((x, 1) ∷ [])))
  g-rows x has o h = row_cases (λ t. k.term ≡ t → HasValue k (BigBody (formal k.prime ((x, 1) ∷ [])))) of_table of_sphere k.term has refl
    where
      of_table : (rows : List Row) → k.term ≡ TableTerm rows → HasValue k (BigBody (formal k.prime ((x, 1) ∷ [])))
      of_table rows e =
          let at = table-small_key k rows valid e (inr o) in
          ap (λ y. BigBody (formal k.prime ((y, 1) ∷ []))) (sym (one_told _ x (small_told _ (One x) (sym at.is ∙ h))))
          ∙ sym (g-row k.prime (rows_of rows) (row_dim (rows_of rows) at.row) at.row)
          ∙ sym (body_is k G _ (table (rows_of rows)) o at.is (space_table k rows e))

      of_sphere : (m : ℕ) → k.term ≡ Sphere m → HasValue k (BigBody (formal k.prime ((x, 1) ∷ [])))
      of_sphere m e =
          sym (g-sphere k.prime m (sphere-key_dim k m valid e).0 k.place x (sphere-small_key k m valid e (inr o)) h)
          ∙ sym (body_is k G k.place (sphere m) o refl (space_sphere k m e))

  -- a cell
  pub f-rows : (x : Cell) → HasRows (space_of k.term) → k.op ≡ F → k.place ≡ BigPlace x → HasValue k (SmallBody (formal k.prime ((One x, 1) ∷ [])))
  f-rows x has o h = row_cases (λ t. k.term ≡ t → HasValue k (SmallBody (formal k.prime ((One x, 1) ∷ [])))) of_table of_sphere k.term has refl
    where
      of_table : (rows : List Row) → k.term ≡ TableTerm rows → HasValue k (SmallBody (formal k.prime ((One x, 1) ∷ [])))
      of_table rows e =
          let at = table-big_key k rows valid e (inl o) in
          ap (λ y. SmallBody (formal k.prime ((One y, 1) ∷ []))) (sym (big_told _ x (sym at.is ∙ h)))
          ∙ sym (f-row k.prime (rows_of rows) (row_dim (rows_of rows) at.row) at.row)
          ∙ sym (body_is k F _ (table (rows_of rows)) o at.is (space_table k rows e))

      of_sphere : (m : ℕ) → k.term ≡ Sphere m → HasValue k (SmallBody (formal k.prime ((One x, 1) ∷ [])))
      of_sphere m e =
          sym (f-sphere k.prime m (sphere-key_dim k m valid e).0 k.place x (sphere-big_key k m valid e (inl o)) h)
          ∙ sym (body_is k F k.place (sphere m) o refl (space_sphere k m e))

  pub h-rows : (c : Formal Cell) → HasRows (space_of k.term) → k.op ≡ H → c.prime ≡ k.prime → c.terms ≡ [] → HasValue k (BigBody c)
  h-rows c has o s h = (λ i. BigBody (record { prime = s i; terms = h i })) ∙ row_cases (λ t. k.term ≡ t → HasValue k (BigBody (formal k.prime []))) of_table of_sphere k.term has refl
    where
      of_table : (rows : List Row) → k.term ≡ TableTerm rows → HasValue k (BigBody (formal k.prime []))
      of_table rows e = let at = table-big_key k rows valid e (inr o) in sym (body_is k H _ (table (rows_of rows)) o at.is (space_table k rows e))

      of_sphere : (m : ℕ) → k.term ≡ Sphere m → HasValue k (BigBody (formal k.prime []))
      of_sphere m e = by (sphere-big_key k m valid e (inr o))
        where
          by : IsAtSphere m k.place → HasValue k (BigBody (formal k.prime []))
          by (inl g) = sym (body_is k H (BigPlace Base) (sphere m) o g (space_sphere k m e))
          by (inr g) = sym (body_is k H (BigPlace (Top m)) (sphere m) o g (space_sphere k m e))
