-- The face of a simplex of a suspension, as the code makes it from the face of the cell under Up.
use Rattle.std.proofs.Common.{◌≡◌, ℕ, suc, ◌+◌, ◌-◌, ◌^◌, ◌<◌, ◌≤◌, ◌&&◌, nat_lt, true, inl, inr, None, List, [], length, map, sym, ◌∙◌, ap, subst, arith, count_ones}
use Rattle.std.proofs.lemmas.Nat.{pow_below}
use Rattle.simp_ops.specs.Words.{IsWord, face_word, absorbed, through, compose_words}
use Rattle.simp_ops.specs.Bits.{mask_word}
use Rattle.simp_ops.proofs.MaskWords.{places-none}
use Rattle.simp_ops.proofs.Squeezed.{and_left, and_right}
use Rattle.spaces.specs.Simplicial.{Simplicial}
use Rattle.spaces.specs.Tables.{all_degeneracies}
use Rattle.spaces.specs.Suspensions.{up}
use Rattle.spaces.specs.Spaces.{Space, suspension, Plain, is_base, set_of}
use Rattle.spaces.specs.Allowed.{IsAllowed}
use Rattle.cells.specs.declared.cells.Cell.{Cell}
use Rattle.cells.specs.declared.cells.Cell.TheVariants.{Base, Up}
use Rattle.cells.specs.declared.cells.Simplex.{Simplex}
use Rattle.cells.specs.Dim.{dim_of, degree_of, capped}
use Rattle.term_lang.specs.Forms.{cell_form, form}
use Rattle.term_lang.specs.Belongs.{is_cell, IsCell, IsSimplex}
use Rattle.term_lang.proofs.CellForms.{is_cell-Up}
use Rattle.term_lang.proofs.CodeForms.{lt_is}
use Rattle.oracle_iface.specs.CodeSizes.{cell_integer}
use Rattle.oracle_iface.specs.KeyLaws.{HasCells}
use Rattle.oracle_iface.proofs.SizeRules.{integer_up}
use Rattle.kz1_group.proofs.Faced.{Worded, worded, Faced, face_absorbed, Reaches, reaches, fits, face_through}
use Rattle.normal_forms.specs.Built.{IsBuilt}
use Rattle.normal_forms.proofs.BuiltForms.{built_cells}
use Rattle.normal_forms.proofs.Suspended.{laws, CellCases, IsUpCell, cell_cases}
use Rattle.space_faces.proofs.CellSteps.{bare_degree}
use Rattle.space_faces.proofs.FaceSteps.{no_mask_form}
use Rattle.space_faces.proofs.UpFaces.{simplex_from, Stands, stands_base, stands_raised, degree_is as degree_told, face-first, face-later}

-- Y is the suspension of a
module _ (a Y : Space) (same : Y ≡ suspension a) (allowed_Y : IsAllowed Y) (built_Y : IsBuilt Y) where
  pub allowed : IsAllowed (suspension a)
  allowed = subst IsAllowed same allowed_Y

  built : IsBuilt (suspension a)
  built = subst IsBuilt same built_Y

  abbrev S : Space
  S = suspension a

  abbrev X : Simplicial (Plain (suspension a))
  X = set_of (suspension a)

  cells : HasCells (suspension a)
  cells = built_cells (suspension a) allowed built

  pub allowed_part : IsAllowed a
  allowed_part = (allowed.0.0, omega (arith, allowed.1))

  pub built_part : IsBuilt a
  built_part = built

  part_cells : HasCells a
  part_cells = built_cells a allowed_part built_part

  cell_in : (m : ℕ) → m ≤ 32 → (c : Cell) → IsCell (suspension a) m c → X.In m (cell_form c (suspension a))
  cell_in m l c h = (cells m l).simplex c h

  module _ (n i : ℕ) (x : Simplex) (h : IsSimplex Y n x) (positive : 1 ≤ n) (most : n ≤ 32) (index : i ≤ n) where
    pub k : Worded (suspension a) n x
    k = worded S n x (subst (λ Z. IsSimplex Z n x) same h)

    total : k.dim + length (mask_word x.degens.mask) ≡ n
    total = k.degree

    pub absorbed_face : (y : Simplex) → absorbed (mask_word y.degens.mask) ≡ face_word i (mask_word x.degens.mask) → y.cell ≡ x.cell → Faced Y n i x y
    absorbed_face y f g = subst (λ Z. Faced Z n i x y) (sym same) (face_absorbed S (laws a allowed.0) cell_in n i x k positive most index y f g)

    module _ (j : ℕ) (v : List ℕ) (f : through j v ≡ face_word i (mask_word x.degens.mask)) where
      reached : Reaches S (laws a allowed.0) cell_in n i x k positive most index j v
      reached = reaches S (laws a allowed.0) cell_in n i x k positive most index j v f

      some : 1 ≤ k.dim
      some = reached.some

      low : k.dim ≤ 32
      low = omega (arith, total, most)

      dim_is : dim_of x.cell ≡ k.dim
      dim_is = (cells k.dim low).dimension x.cell k.cell

      -- the base has no faces, so the cell is Up of a cell
      is_up : IsUpCell a allowed.0 k.dim x.cell
      is_up = by (cell_cases a allowed.0 k.dim x.cell k.cell)
        where
          by : CellCases a allowed.0 k.dim x.cell → IsUpCell a allowed.0 k.dim x.cell
          by (inl q) = absurd (omega (arith, q.1, some))
          by (inr q) = q

      pub up_of : (c : Cell) × (x.cell ≡ Up c)
      up_of = (is_up.under, is_up.is)

      pub positive_dim : 1 ≤ dim_of x.cell
      positive_dim = omega (arith, dim_is, some)

      pub low_dim : dim_of x.cell - 1 < 32
      low_dim = omega (arith, dim_is, low, some)

      -- the face of the cell, as the code makes it
      abbrev pub IsFace : Simplex → Type 0
      IsFace z = Stands a allowed.0 (k.dim - 1) (X.face j (cell_form x.cell (suspension a))) z

      pub words_fit : (z : Simplex) → IsFace z → IsWord 32 (compose_words v (mask_word z.degens.mask))
      words_fit z s = fits S (laws a allowed.0) cell_in n i x k positive most index j v f z s.simplex s.plain_is

      pub face_before : (z y : Simplex) → IsFace z → mask_word y.degens.mask ≡ compose_words v (mask_word z.degens.mask) → y.cell ≡ z.cell → Faced Y n i x y
      face_before z y s e g =
          subst (λ Z. Faced Z n i x y) (sym same)
          (face_through S (laws a allowed.0) cell_in n i x k positive most index j v f z s.simplex s.plain_is y e g)

      pub first_face : (z : Simplex) → j ≡ 0 → mask_word z.degens.mask ≡ all_degeneracies (dim_of x.cell - 1) → z.cell ≡ Base → IsFace z
      first_face z e m g =
          let value : X.face j (cell_form x.cell S) ≡ None = (λ t. X.face (e t) (cell_form (is_up.is t) S)) ∙ face-first a allowed.0 is_up.under in
          subst (λ q. Stands a allowed.0 (k.dim - 1) q z) (sym value)
          (stands_base a allowed.0 (k.dim - 1) z (m ∙ ap (λ d. all_degeneracies (d - 1)) dim_is) g)

      -- ---- the cell under Up, as a simplex without degeneracies

      module _ (u : Simplex) (bare : u.degens.mask ≡ 0) (under : Up u.cell ≡ x.cell) where
        tested : nat_lt 1 k.dim && is_cell u.cell a (k.dim - 1) ≡ true
        tested = ap (λ t. t S k.dim) (sym (is_cell-Up u.cell)) ∙ ap (λ c. is_cell c S k.dim) under ∙ k.cell

        high : 1 < k.dim
        high = lt_is 1 k.dim (and_left (nat_lt 1 k.dim) (is_cell u.cell a (k.dim - 1)) tested)

        under_cell : IsCell a (k.dim - 1) u.cell
        under_cell = and_right (nat_lt 1 k.dim) (is_cell u.cell a (k.dim - 1)) tested

        under_low : k.dim - 1 ≤ 32
        under_low = omega (arith, low)

        under_dim : dim_of u.cell ≡ k.dim - 1
        under_dim = (part_cells (k.dim - 1) under_low).dimension u.cell under_cell

        under_degree : degree_of u ≡ k.dim - 1
        under_degree = (λ t. capped (count_ones (bare t) + under_dim t)) ∙ bare_degree (k.dim - 1) under_low

        no_word : mask_word u.degens.mask ≡ []
        no_word = ap mask_word bare ∙ places-none 32

        pub under_simplex : IsSimplex a (degree_of u) u
        under_simplex =
            let none : length (mask_word u.degens.mask) ≡ 0 = ap length no_word in
            subst (λ m. IsSimplex a m u) (sym under_degree)
            (simplex_from a (k.dim - 1) (k.dim - 1) u (subst (IsWord (k.dim - 1)) (sym no_word) tt) (omega (arith, none)) under_cell)

        pub under_positive : 1 ≤ degree_of u
        under_positive = omega (arith, under_degree, high)

        pub under_most : degree_of u ≤ 32
        under_most = omega (arith, under_degree, low)

        pub under_index : j - 1 ≤ degree_of u
        under_index = let l : j ≤ k.dim = reached.within in omega (arith, under_degree, l)

        pub under_integers : cell_integer x.cell ≤ 2 ^ 40 → cell_integer u.cell ≤ 2 ^ 40
        under_integers l = let e : cell_integer u.cell ≡ cell_integer x.cell = sym (integer_up u.cell) ∙ ap cell_integer under in omega (arith, e, l)

        -- ---- the face of the cell under Up

        module _ (y : Simplex) (y_simplex : IsSimplex a (degree_of u - 1) y) (y_is : form y a ≡ (set_of a).face (j - 1) (form u a)) where
          abbrev d : ℕ
          d = k.dim - 1 - 1

          there : IsSimplex a d y
          there = subst (λ m. IsSimplex a m y) (let e : degree_of u - 1 ≡ k.dim - 1 - 1 = omega (arith, under_degree) in e) y_simplex

          d_low : d ≤ 30
          d_low = omega (arith, low)

          pub face_degree : degree_of y ≤ 30
          face_degree = omega (arith, degree_told a allowed.0 part_cells d (omega (arith, d_low)) y there, d_low)

          pub face_mask : y.degens.mask < 2 ^ 31
          face_mask =
              let l : y.degens.mask < 2 ^ d = lt_is y.degens.mask (2 ^ d) (and_left (nat_lt y.degens.mask (2 ^ d)) (is_cell y.cell a (d - length (mask_word y.degens.mask))) there) in
              omega (arith, l, pow_below d 31 (omega (arith, d_low)))

          pub later_face : (z : Simplex) → (j ≡ 0 → ⊥)
              → (dim_of y.cell ≡ 0 → (mask_word z.degens.mask ≡ all_degeneracies (degree_of y + 1)) × (z.cell ≡ Base))
              → ((dim_of y.cell ≡ 0 → ⊥) → (mask_word z.degens.mask ≡ map suc (mask_word y.degens.mask)) × (z.cell ≡ Up y.cell))
              → IsFace z
          later_face z later on_base on_up =
              let e : suc (j - 1) ≡ j = omega (arith, later) in
              let m : suc d ≡ k.dim - 1 = omega (arith, high) in
              let value : up (set_of a) (is_base a) 0 (form y a) ≡ X.face j (cell_form x.cell S) =
              ap (up (set_of a) (is_base a) 0) (y_is ∙ ap ((set_of a).face (j - 1)) (no_mask_form a u bare))
              ∙ sym (face-later a allowed.0 (j - 1) u.cell) ∙ (λ t. X.face (e t) (cell_form (under t) S)) in
              subst (λ q. Stands a allowed.0 (k.dim - 1) q z) value
              (subst (λ m. Stands a allowed.0 m (up (set_of a) (is_base a) 0 (form y a)) z) m
              (stands_raised a allowed.0 part_cells d (omega (arith, d_low)) y there z on_base on_up))
