-- The homology of spheres: its simplices that are not degenerate are the vertex and the cell, and its differential is 0.
use Rattle.std.proofs.Common.{◌≡◌, ℕ, zero, suc, ◌*◌, ◌-◌, ◌%◌, ◌<◌, [], ◌∷◌, true, false, cond, ◌≢◌, ◌⊎◌, inl, inr, refl, sym, ◌∙◌, ap, subst, arith, true≢false}
use Rattle.std.proofs.lemmas.Bool.{cases_eq}
use Rattle.fp_field.specs.Field.{SameMod, sign}
use Rattle.fp_field.specs.Chains.{Terms, coeff}
use Rattle.fp_field.specs.Sums.{sum_to}
use Rattle.fp_field.proofs.Mod.{same-by, pred-times}
use Rattle.fp_field.proofs.Sums.{sum_of_zeros}
use Rattle.simp_ops.proofs.PlacesOf.{is_eq, not_eq}
use Rattle.spaces.specs.Simplicial.{Simplicial, IsSimplicial, is_degenerate}
use Rattle.spaces.specs.Tables.{RowSimplex, InTable, entry, copies, all_degeneracies, table_set, sphere_rows}
use Rattle.spaces.specs.Homology.{boundary_of, boundary, IsChain, Same, IsClosed, HomologyList}
use Rattle.spaces.specs.SphereCycles.{sphere_cells, sphere_cycles}
use Rattle.spaces.proofs.TableDegenerate.{word-degenerate, row-not_degenerate}
use Rattle.spaces.proofs.Boundary.{weigh-faces_sum}
use Rattle.spaces.proofs.FreeHomology.{IsBasis, basis_of_none, basis_of_one, not_counted, differential_zero, free_homology}

opposite : (p : ℕ) → 0 < p → (f : ℕ → ℕ) (a : ℕ) → f 0 ≡ 1 * a → f 1 ≡ (p - 1) * 1 * a → SameMod p (sum_to 2 f) 0
opposite p pos f a e h = same-by p (sum_to 2 f) 0 0 a (omega (arith, e, h, pred-times p a pos))

entry-copies : {A : Type 0} (d x : A) (n i : ℕ) → i < n → entry d (copies n x) i ≡ x
entry-copies d x zero i h = absurd (omega arith)
entry-copies d x (suc n) zero h = refl
entry-copies d x (suc n) (suc i) h = entry-copies d x n i (omega arith)

module _ (m : ℕ) (above : 0 < m) (laws : IsSimplicial (table_set (sphere_rows m))) where
  abbrev X : Simplicial RowSimplex
  X = table_set (sphere_rows m)

  vertex_in : InTable (sphere_rows m) 0 ([], 0)
  vertex_in = record { row = omega arith; degree = omega arith; word = tt }

  cell_in : InTable (sphere_rows m) m ([], 1)
  cell_in = record { row = omega arith; degree = omega arith; word = tt }

  abbrev VertexOrCell : ℕ → RowSimplex → Type 0
  VertexOrCell n x = ((n ≡ 0) × (x ≡ ([], 0))) ⊎ ((n ≡ m) × (x ≡ ([], 1)))

  vertex_or_cell : (n : ℕ) (x : RowSimplex) → InTable (sphere_rows m) n x → is_degenerate X n x ≡ false → VertexOrCell n x
  vertex_or_cell n (j ∷ w, r) is g = absurd (true≢false (sym (word-degenerate (sphere_rows m) laws n j w r is) ∙ g))
  vertex_or_cell n ([], zero) is g = inl (omega (arith, is.degree), refl)
  vertex_or_cell n ([], suc zero) is g = inr (omega (arith, is.degree), refl)
  vertex_or_cell n ([], suc (suc r)) is g = absurd (omega (arith, is.row))

  sphere_basis : (n : ℕ) → IsBasis X n (sphere_cells m n)
  sphere_basis n = by (cases_eq n 0) (cases_eq n m)
    where
      vertex_only : n ≡ 0 → (x : RowSimplex) → VertexOrCell n x → x ≡ ([], 0)
      vertex_only e x (inl c) = c.1
      vertex_only e x (inr c) = absurd (omega (arith, c.0))

      cell_only : n ≢ 0 → (x : RowSimplex) → VertexOrCell n x → x ≡ ([], 1)
      cell_only d x (inl c) = absurd (d c.0)
      cell_only d x (inr c) = c.1

      neither : n ≢ 0 → n ≢ m → (x : RowSimplex) → VertexOrCell n x → ⊥
      neither d f x (inl c) = d c.0
      neither d f x (inr c) = f c.0

      by : (n ≡ 0) ⊎ (n ≢ 0) → (n ≡ m) ⊎ (n ≢ m) → IsBasis X n (sphere_cells m n)
      by (inl e) c =
          rw (is_eq n 0 e)
          (basis_of_one X laws n ([], 0) (subst (λ l. InTable (sphere_rows m) l ([], 0)) (sym e) vertex_in)
          (row-not_degenerate (sphere_rows m) laws n 0 (subst (λ l. InTable (sphere_rows m) l ([], 0)) (sym e) vertex_in))
          (λ x is g. vertex_only e x (vertex_or_cell n x is g)))
      by (inr d) (inl e) =
          rw (not_eq n 0 d)
          (rw (is_eq n m e)
          (basis_of_one X laws n ([], 1) (subst (λ l. InTable (sphere_rows m) l ([], 1)) (sym e) cell_in)
          (row-not_degenerate (sphere_rows m) laws n 1 (subst (λ l. InTable (sphere_rows m) l ([], 1)) (sym e) cell_in))
          (λ x is g. cell_only d x (vertex_or_cell n x is g))))
      by (inr d) (inr f) =
          rw (not_eq n 0 d) (rw (not_eq n m f) (basis_of_none X laws n (λ x is g. neither d f x (vertex_or_cell n x is g))))

  cell-face : (n i : ℕ) → suc n ≡ m → i < suc (suc n) → X.face i ([], 1) ≡ (all_degeneracies n, 0)
  cell-face n i e h =
      entry-copies ([], 0) (all_degeneracies (m - 1), 0) (suc m) i (omega arith) ∙ ap (λ l. (all_degeneracies l, 0)) (let q : m - 1 ≡ n = omega arith in q)

  module _ (p : ℕ) (pos : 0 < p) where
    -- d of the cell: two faces that are the vertex, with opposite signs, or degenerate ones
    cell-boundary : (n : ℕ) → suc n ≡ m → (k : RowSimplex) → is_degenerate X n k ≡ false → SameMod p (coeff X.same (boundary_of X p (suc n) ([], 1)) k) 0
    cell-boundary n e k g = ap (λ l. l % p) (weigh-faces_sum p X.face (λ x. cond (X.same x k) 1 0) (suc (suc n)) ([], 1)) ∙ by n e g
      where
        by : (n : ℕ) → suc n ≡ m → is_degenerate X n k ≡ false → SameMod p (sum_to (suc (suc n)) (λ i. sign p i * cond (X.same (X.face i ([], 1)) k) 1 0)) 0
        by zero e g =
            opposite p pos (λ i. sign p i * cond (X.same (X.face i ([], 1)) k) 1 0) (cond (X.same ([], 0) k) 1 0)
            (ap (λ x. 1 * cond (X.same x k) 1 0) (cell-face 0 0 e (omega arith)))
            (ap (λ x. (p - 1) * 1 * cond (X.same x k) 1 0) (cell-face 0 1 e (omega arith)))
        by (suc n) e g =
            sum_of_zeros p (λ i. sign p i * cond (X.same (X.face i ([], 1)) k) 1 0) (suc (suc (suc n))) (λ i h.
            ap (λ l. l % p) (ap (λ l. sign p i * l) (not_counted X laws (suc n) k (X.face i ([], 1)) g (face_degenerate i h)) ∙ (let q : sign p i * 0 ≡ 0 = omega arith in q)))
          where
            face_degenerate : (i : ℕ) → i < suc (suc (suc n)) → is_degenerate X (suc n) (X.face i ([], 1)) ≡ true
            face_degenerate i h =
                let q = cell-face (suc n) i e h in
                ap (is_degenerate X (suc n)) q
                ∙ word-degenerate (sphere_rows m) laws (suc n) n (all_degeneracies n) 0
                (subst (InTable (sphere_rows m) (suc n)) q (laws.face_in (suc n) i ([], 1) (subst (λ l. InTable (sphere_rows m) l ([], 1)) (sym e) cell_in) (omega arith)))

    sphere-flat : (n : ℕ) (c : Terms RowSimplex) → IsChain X p (suc n) c → Same X p n (boundary X p (suc n) c) []
    sphere-flat n = differential_zero X laws p pos n (λ x k is f g. by x k g (vertex_or_cell (suc n) x is f))
      where
        by : (x k : RowSimplex) → is_degenerate X n k ≡ false → VertexOrCell (suc n) x → SameMod p (coeff X.same (boundary_of X p (suc n) x) k) 0
        by x k g (inl c) = absurd (omega (arith, c.0))
        by x k g (inr c) = subst (λ y. SameMod p (coeff X.same (boundary_of X p (suc n) y) k) 0) (sym c.1) (cell-boundary n c.0 k g)

    sphere-closed : (n : ℕ) (z : Terms RowSimplex) → IsChain X p n z → IsClosed X p n z
    sphere-closed zero z is = tt
    sphere-closed (suc n) z is = sphere-flat n z is

    pub sphere_homology_list : (n : ℕ) → HomologyList X p n (sphere_cycles m n)
    sphere_homology_list n = free_homology X laws p pos n (sphere_cells m n) (sphere_basis n) (sphere-closed n) (sphere-flat n)
