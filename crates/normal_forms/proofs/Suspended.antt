-- The cells of a suspension: its base, and Up of each cell of the part of positive dimension (May, Simplicial Objects in Algebraic
-- Topology, chapter VI, 27).
use Rattle.std.proofs.Common.{◌≡◌, ℕ, zero, suc, ◌+◌, ◌-◌, ◌<◌, ◌≤◌, Bool, true, false, ◌||◌, ◌&&◌, cond, nat_lt, ◌⊎◌, inl, inr, Option, Some, None, refl, sym, ◌∙◌, ap, subst, arith, true≢false}
use Rattle.std.proofs.lemmas.Cmp.{tied_itself, nat_cmp_total}
use Rattle.std.specs.Ordering.{ordering_then, nat_cmp}
use Rattle.std.specs.declared.cmp.Ordering.TheVariants.{Equal}
use Rattle.simp_ops.proofs.PlacesOf.{is_lt, is_le, not_le}
use Rattle.simp_ops.proofs.Squeezed.{and_left, and_right}
use Rattle.spaces.specs.Simplicial.{Simplicial, IsSimplicial, some_below, has_degeneracy, is_degenerate}
use Rattle.spaces.specs.Spaces.{Space, suspension, Plain, is_base, set_of}
use Rattle.spaces.specs.Orders.{ordered}
use Rattle.spaces.specs.Allowed.{Admits}
use Rattle.spaces.specs.Suspensions.{up}
use Rattle.spaces.proofs.BaseTests.{IsBaseTest}
use Rattle.spaces.proofs.Bases.{space_base}
use Rattle.spaces.proofs.SpaceLaws.{space_set_laws}
use Rattle.spaces.proofs.Degenerate.{degenerate_so}
use Rattle.cells.specs.declared.cells.Cell.{Cell, roll-Cell, out-Cell, roll-out-Cell, out-roll-Cell}
use Rattle.cells.specs.declared.cells.Cell.TheVariants.{Base, Up, rolls-Base, rolls-Up}
use Rattle.cells.specs.declared.cells.Cell.TheOpen.{Cell-F}
use Rattle.cells.specs.declared.cells.Letter.{Letter}
use Rattle.cells.specs.declared.cells.Simplex.{Simplex}
use Rattle.cells.specs.Dim.{dim_of, capped}
use Rattle.cells.specs.Order.{cell_cmp, kinds_cmp, kind_in}
use Rattle.cells.proofs.Dimensions.{dim-Base, dim-Up}
use Rattle.cells.proofs.Compared.{cell_cmp-then, ups}
use Rattle.term_lang.specs.Forms.{cell_form}
use Rattle.term_lang.specs.Belongs.{is_cell, IsCell}
use Rattle.term_lang.specs.Quote.{quote_cell}
use Rattle.term_lang.specs.NormalForms.{HasNormalCells}
use Rattle.term_lang.proofs.CellForms.{tested, is_cell-roll, is_cell-Base, is_cell-Up, form-Base, form-Up}
use Rattle.term_lang.proofs.CodeForms.{lt_is}
use Rattle.term_lang.proofs.RowCells.{eq_is, cell_cmp-same}
use Rattle.normal_forms.proofs.Degeneracies.{has_is}
use Rattle.normal_forms.proofs.FormsOfCells.{bare-order}

-- ---- tests that are moved up by one

or_last : (b : Bool) → b || true ≡ true
or_last true = refl
or_last false = refl

some_next : (m : ℕ) (t u : ℕ → Bool) → t 0 ≡ false → ((i : ℕ) → i < m → t (suc i) ≡ u i) → some_below (suc m) t ≡ some_below m u
some_next zero t u z e = z
some_next (suc m) t u z e = λ i. some_next m t u z (λ j l. e j (omega (arith, l))) i || e m (omega arith) i

-- ---- Up of a cell, in the order of the code

kind-Up : (c : Cell) → kind_in (out-Cell (Up c)) ≡ 4
kind-Up c = ap kind_in (ap out-Cell (sym (rolls-Up c)) ∙ out-roll-Cell (Cell-F.Up c))

pub cmp-Up : (c d : Cell) → dim_of (Up c) ≡ dim_of (Up d) → cell_cmp (Up c) (Up d) ≡ cell_cmp c d
cmp-Up c d e =
    let kinds : kinds_cmp (Up c) (Up d) ≡ Equal =
    (λ i. ordering_then (nat_cmp (e i) (dim_of (Up d))) (nat_cmp (kind-Up c i) (kind-Up d i)))
    ∙ ap (λ o. ordering_then o (nat_cmp 4 4)) (tied_itself nat_cmp_total (dim_of (Up d))) ∙ tied_itself nat_cmp_total 4 in
    cell_cmp-then (Up c) (Up d) ∙ (λ i. ordering_then (kinds i) (ups c d i))

module _ (a : Space) (allowed : Admits (suspension a)) where
  abbrev A : Simplicial (Plain a)
  A = set_of a

  abbrev X : Simplicial (Option (ℕ × Plain a))
  X = set_of (suspension a)

  pub part_laws : IsSimplicial A
  part_laws = space_set_laws a allowed.0

  pub laws : IsSimplicial X
  laws = space_set_laws (suspension a) allowed

  pub test : IsBaseTest A (is_base a)
  test = space_base a allowed.0

  -- ---- the simplices that are not degenerate

  -- what is not degenerate and of positive degree is no degeneracy of the vertex
  pub not_base : (m : ℕ) (y : Plain a) → A.In (suc m) y → is_degenerate A (suc m) y ≡ false → is_base a y ≡ false
  not_base m y is h = by (is_base a y) refl
    where
      by : (b : Bool) → is_base a y ≡ b → b ≡ false
      by true e =
          let z : Plain a = A.face 0 y in
          let d : is_degenerate A (suc m) y ≡ true =
          ap (is_degenerate A (suc m)) (test.first m y is e) ∙ degenerate_so A part_laws m 0 z (part_laws.face_in m 0 y is (omega arith)) (omega arith) in
          absurd (true≢false (sym d ∙ h))
      by false e = refl

  -- the face d_(i+1) of Up is Up of the face d_i
  pub face-up : (i : ℕ) (y : Plain a) → X.face (suc i) (Some (0, y)) ≡ up A (is_base a) 0 (A.face i y)
  face-up i y =
      let there : suc i - 0 - 1 ≡ i = omega arith in
      ap (λ t. cond t (up A (is_base a) 0 (A.face (suc i - 0 - 1) y)) (cond (nat_lt 0 0) (Some (0 - 1, y)) None)) (is_lt 0 (suc i) (omega arith))
      ∙ ap (λ k. up A (is_base a) 0 (A.face k y)) there

  -- the degeneracy s_(i+1) of Up is Up of the degeneracy s_i
  pub degeneracy-up : (i : ℕ) (y : Plain a) → X.degeneracy (suc i) (Some (0, y)) ≡ Some (0, A.degeneracy i y)
  degeneracy-up i y =
      let there : suc i - 0 - 1 ≡ i = omega arith in
      ap (λ t. cond t (Some (1, y)) (Some (0, A.degeneracy (suc i - 0 - 1) y))) (not_le (suc i) 0 (omega arith)) ∙ ap (λ k. Some (0, A.degeneracy k y)) there

  next_degeneracy : (m i : ℕ) (y : Plain a) → A.In m y → i < m → is_base a y ≡ false → has_degeneracy X (suc i) (Some (0, y)) ≡ has_degeneracy A i y
  next_degeneracy zero i y is l b = absurd (omega (arith, l))
  next_degeneracy (suc m) i y is l b = ap (λ x. X.same (Some (0, y)) (X.degeneracy (suc i) x)) (face-up i y) ∙ by (is_base a z) refl
    where
      z : Plain a
      z = A.face i y

      not_true : (t : Bool) → (t ≡ true → ⊥) → false ≡ t
      not_true true f = absurd (f refl)
      not_true false f = refl

      by : (t : Bool) → is_base a z ≡ t → X.same (Some (0, y)) (X.degeneracy (suc i) (cond t None (Some (0, z)))) ≡ has_degeneracy A i y
      by true e =
          not_true (has_degeneracy A i y) (λ h.
          true≢false (sym e ∙ sym (test.degeneracy_base m i z (part_laws.face_in m i y is (omega (arith, l))) (omega (arith, l))) ∙ ap (is_base a) (sym (has_is A part_laws i y h)) ∙ b))
      by false e = ap (X.same (Some (0, y))) (degeneracy-up i z)

  pub up-degenerate : (m : ℕ) (y : Plain a) → A.In m y → is_base a y ≡ false → is_degenerate X (suc m) (Some (0, y)) ≡ is_degenerate A m y
  up-degenerate m y is b =
      some_next m (λ j. has_degeneracy X j (Some (0, y))) (λ j. has_degeneracy A j y) refl (λ i l. next_degeneracy m i y is l b)

  base-degenerate : (m : ℕ) → is_degenerate X (suc m) None ≡ true
  base-degenerate m = or_last (some_below m (λ j. has_degeneracy X j None))

  higher-degenerate : (m k : ℕ) (y : Plain a) → X.In (suc m) (Some (suc k, y)) → is_degenerate X (suc m) (Some (suc k, y)) ≡ true
  higher-degenerate m k y is =
      let l : suc k < suc m = is.0 in
      let e : suc m - 1 - suc k ≡ m - 1 - k = omega arith in
      let x : Some (suc k, y) ≡ X.degeneracy 0 (Some (k, y)) = ap (λ t. cond t (Some (suc k, y)) (Some (k, A.degeneracy (0 - k - 1) y))) (sym (is_le 0 k (omega arith))) in
      ap (is_degenerate X (suc m)) x ∙ degenerate_so X laws m 0 (Some (k, y)) (omega (arith, l), subst (λ j. A.In j y) e is.1, is.2) (omega arith)

  -- the base, or (0, z) where z is not degenerate and of positive degree
  pub record IsUp (n : ℕ) (x : Option (ℕ × Plain a)) : Type 0 where
    pub under : Plain a
    pub is : x ≡ Some (0, under)
    pub high : 1 < n
    pub is_in : A.In (n - 1) under
    pub bare : is_degenerate A (n - 1) under ≡ false

  abbrev pub Bare : ℕ → Option (ℕ × Plain a) → Type 0
  Bare n x = ((x ≡ None) × (n ≡ 0)) ⊎ IsUp n x

  pub bare_of : (n : ℕ) (x : Option (ℕ × Plain a)) → X.In n x → is_degenerate X n x ≡ false → Bare n x
  bare_of zero None is h = inl (refl, refl)
  bare_of (suc m) None is h = absurd (true≢false (sym (base-degenerate m) ∙ h))
  bare_of zero (Some s) is h = absurd (let l : s.0 < 0 = is.0 in omega (arith, l))
  bare_of (suc m) (Some (suc k, y)) is h = absurd (true≢false (sym (higher-degenerate m k y is) ∙ h))
  bare_of (suc m) (Some (zero, y)) is h = inr (record {
    under = y;
    is = refl;
    high = high m (subst (λ j. A.In j y) e is.1);
    is_in = subst (λ j. A.In j y) f is.1;
    bare = ap (λ j. is_degenerate A j y) (sym g) ∙ sym (up-degenerate m y (subst (λ j. A.In j y) e is.1) is.2) ∙ h;
  })
    where
      e : suc m - 1 - 0 ≡ m
      e = omega arith

      f : suc m - 1 - 0 ≡ suc m - 1
      f = omega arith

      g : m ≡ suc m - 1
      g = omega arith

      -- in degree 0 it would be the vertex
      high : (j : ℕ) → A.In j y → 1 < suc j
      high zero v = absurd (true≢false (sym (test.vertex y v) ∙ is.2))
      high (suc j) v = omega arith

  -- ---- the cells of the code

  pub record IsUpCell (n : ℕ) (c : Cell) : Type 0 where
    pub under : Cell
    pub is : c ≡ Up under
    pub high : 1 < n
    pub cell : IsCell a (n - 1) under

  abbrev pub CellCases : ℕ → Cell → Type 0
  CellCases n c = ((c ≡ Base) × (n ≡ 0)) ⊎ IsUpCell n c

  in_layer : (n : ℕ) (y : Cell-F Cell Letter Simplex) → tested y (suspension a) n ≡ true → CellCases n (roll-Cell y)
  unfolding tested
  in_layer n Cell-F.Base h = inl (rolls-Base, eq_is n 0 h)
  in_layer n (Cell-F.Up c) h = inr (record {
    under = c;
    is = rolls-Up c;
    high = lt_is 1 n (and_left (nat_lt 1 n) (is_cell c a (n - 1)) h);
    cell = and_right (nat_lt 1 n) (is_cell c a (n - 1)) h;
  })
  in_layer n y h = absurd (true≢false (sym h))

  pub cell_cases : (n : ℕ) (c : Cell) → IsCell (suspension a) n c → CellCases n c
  cell_cases n c h =
      subst (CellCases n) (roll-out-Cell c)
      (in_layer n (out-Cell c) (ap (λ f. f (suspension a) n) (sym (is_cell-roll (out-Cell c))) ∙ ap (λ d. is_cell d (suspension a) n) (roll-out-Cell c) ∙ h))

  pub form-up : (c : Cell) → cell_form (Up c) (suspension a) ≡ Some (0, cell_form c a)
  form-up c = ap (λ f. f (suspension a)) (form-Up c)

  pub form-base : cell_form Base (suspension a) ≡ None
  form-base = ap (λ f. f (suspension a)) form-Base

  module _ (n : ℕ) (most : n ≤ 32) (part : HasNormalCells a (n - 1)) where
    -- what Up of a cell stands for
    record Raised (c : Cell) : Type 0 where
      is_in : X.In n (Some (0, cell_form c a))
      bare : is_degenerate X n (Some (0, cell_form c a)) ≡ false
      dim : dim_of (Up c) ≡ n

    raised : (c : Cell) → 1 < n → IsCell a (n - 1) c → Raised c
    raised c l h = record {
      is_in = (omega (arith, l), subst (λ j. A.In j y) e is, b);
      bare = ap (λ j. is_degenerate X j (Some (0, y))) up_is ∙ up-degenerate (n - 1) y is b ∙ part.not_degenerate c h;
      dim = dim-Up c ∙ ap (λ j. capped (j + 1)) (part.dimension c h) ∙ back;
    }
      where
        y : Plain a
        y = cell_form c a

        is : A.In (n - 1) y
        is = part.simplex c h

        e : n - 1 ≡ n - 1 - 0
        e = omega arith

        up_is : n ≡ suc (n - 1)
        up_is = omega (arith, l)

        under : n - 1 ≡ suc (n - 1 - 1)
        under = omega (arith, l)

        back : capped (n - 1 + 1) ≡ n
        back = omega (arith, l, most)

        b : is_base a y ≡ false
        b = not_base (n - 1 - 1) y (subst (λ j. A.In j y) under is) (ap (λ j. is_degenerate A j y) (sym under) ∙ part.not_degenerate c h)

    dimension : (c : Cell) → CellCases n c → dim_of c ≡ n
    dimension c (inl h) = ap dim_of h.0 ∙ dim-Base ∙ sym h.1
    dimension c (inr h) = ap dim_of h.is ∙ (raised h.under h.high h.cell).dim

    form_of : (c : Cell) (h : IsUpCell n c) → cell_form c (suspension a) ≡ Some (0, cell_form h.under a)
    form_of c h = ap (λ d. cell_form d (suspension a)) h.is ∙ form-up h.under

    form_of_base : (c : Cell) → c ≡ Base → cell_form c (suspension a) ≡ None
    form_of_base c e = ap (λ d. cell_form d (suspension a)) e ∙ form-base

    simplex : (c : Cell) → CellCases n c → X.In n (cell_form c (suspension a))
    simplex c (inl h) = subst (X.In n) (sym (form_of_base c h.0)) tt
    simplex c (inr h) = subst (X.In n) (sym (form_of c h)) (raised h.under h.high h.cell).is_in

    not_degenerate : (c : Cell) → CellCases n c → is_degenerate X n (cell_form c (suspension a)) ≡ false
    not_degenerate c (inl h) = λ i. is_degenerate X (h.1 i) (form_of_base c h.0 i)
    not_degenerate c (inr h) = ap (is_degenerate X n) (form_of c h) ∙ (raised h.under h.high h.cell).bare

    quoted : (c : Cell) → CellCases n c → quote_cell (suspension a) n (cell_form c (suspension a)) ≡ c
    quoted c (inl h) = ap (quote_cell (suspension a) n) (form_of_base c h.0) ∙ sym h.0
    quoted c (inr h) = ap (quote_cell (suspension a) n) (form_of c h) ∙ ap Up (part.quoted h.under h.cell) ∙ sym h.is

    onto : (x : Option (ℕ × Plain a)) → Bare n x → IsCell (suspension a) n (quote_cell (suspension a) n x)
    onto x (inl h) = (λ i. is_cell (quote_cell (suspension a) n (h.0 i)) (suspension a) (h.1 i)) ∙ ap (λ f. f (suspension a) 0) is_cell-Base
    onto x (inr h) =
        ap (λ z. is_cell (quote_cell (suspension a) n z) (suspension a) n) h.is ∙ ap (λ f. f (suspension a) n) (is_cell-Up (quote_cell a (n - 1) h.under))
        ∙ (λ i. is_lt 1 n h.high i && part.onto h.under h.is_in h.bare i)

    formed : (x : Option (ℕ × Plain a)) → Bare n x → cell_form (quote_cell (suspension a) n x) (suspension a) ≡ x
    formed x (inl h) = ap (λ z. cell_form (quote_cell (suspension a) n z) (suspension a)) h.0 ∙ form-base ∙ sym h.0
    formed x (inr h) =
        ap (λ z. cell_form (quote_cell (suspension a) n z) (suspension a)) h.is ∙ form-up (quote_cell a (n - 1) h.under)
        ∙ ap (λ z. Some (0, z)) (part.formed h.under h.is_in h.bare) ∙ sym h.is

    in_order : (c d : Cell) → CellCases n c → CellCases n d → cell_cmp c d ≡ (ordered (suspension a)).cmp n (cell_form c (suspension a)) (cell_form d (suspension a))
    in_order c d (inl h) (inl k) =
        (λ i. cell_cmp (h.0 i) (k.0 i)) ∙ cell_cmp-same Base
        ∙ sym (λ i. (ordered (suspension a)).cmp (h.1 i) (form_of_base c h.0 i) (form_of_base d k.0 i))
    in_order c d (inl h) (inr k) = let l : 1 < n = k.high in absurd (omega (arith, l, h.1))
    in_order c d (inr h) (inl k) = let l : 1 < n = h.high in absurd (omega (arith, l, k.1))
    in_order c d (inr h) (inr k) =
        let r = raised h.under h.high h.cell in
        let s = raised k.under k.high k.cell in
        let y : Plain a = cell_form h.under a in
        let z : Plain a = cell_form k.under a in
        (λ i. cell_cmp (h.is i) (k.is i)) ∙ cmp-Up h.under k.under (r.dim ∙ sym s.dim) ∙ part.in_order h.under k.under h.cell k.cell
        ∙ bare-order a part_laws (n - 1) y z (part.simplex h.under h.cell) (part.simplex k.under k.cell) (part.not_degenerate h.under h.cell) (part.not_degenerate k.under k.cell)
        ∙ sym (bare-order (suspension a) laws n (Some (0, y)) (Some (0, z)) r.is_in s.is_in r.bare s.bare)
        ∙ sym (λ i. (ordered (suspension a)).cmp n (form_of c h i) (form_of d k i))

    pub suspended_cells : HasNormalCells (suspension a) n
    suspended_cells = record {
      dimension = λ c h. dimension c (cell_cases n c h);
      simplex = λ c h. simplex c (cell_cases n c h);
      not_degenerate = λ c h. not_degenerate c (cell_cases n c h);
      once = λ c d h l e. sym (quoted c (cell_cases n c h)) ∙ ap (quote_cell (suspension a) n) e ∙ quoted d (cell_cases n d l);
      onto = λ x is h. onto x (bare_of n x is h);
      quoted = λ c h. quoted c (cell_cases n c h);
      formed = λ x is h. formed x (bare_of n x is h);
      in_order = λ c d h l. in_order c d (cell_cases n c h) (cell_cases n d l);
    }
