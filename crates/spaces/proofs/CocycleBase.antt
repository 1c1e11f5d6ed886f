-- The twisting operator of a cocycle is a list of units at the simplices on rows of dimension 0: the cocycle is 0 on these rows.
use Rattle.std.proofs.Common.{◌≡◌, ℕ, zero, suc, ◌+◌, ◌-◌, ◌<◌, true, List, [], ◌∷◌, length, refl, sym, ◌∙◌, ap, arith}
use Rattle.simp_ops.specs.Words.{Passed, absorbed, through, face_word}
use Rattle.spaces.specs.Tables.{Table, RowSimplex, entry, row_at, listed_face, on_row, row_face, row_degree, InTable, copies}
use Rattle.spaces.specs.Nerves.{Abelian, nerve_face, nerve_set, nerve_times}
use Rattle.spaces.specs.Groups.{IsAbelian}
use Rattle.spaces.specs.Cocycles.{cocycle, face_times, first_vertices, at_vertex, differences, cocycle_twisting}
use Rattle.spaces.specs.Allowed.{IsTable, IsCocycle, face_count}
use Rattle.spaces.proofs.Nerves.{plus-none, nerve_set_laws}
use Rattle.spaces.proofs.NerveGroup.{unit-times}
use Rattle.spaces.proofs.TableBase.{on_vertex, on_vertex_is}

entry-none : {A : Type 0} (d : A) (xs : List A) (i : ℕ) → length xs ≡ 0 → entry d xs i ≡ d
entry-none d [] i e = refl
entry-none d (x ∷ xs) i e = absurd (omega (arith, e))

module _ (t : Table) (is : IsTable t) where
  -- on a row of dimension 0
  abbrev Flat : RowSimplex → Type 0
  Flat x = (x.1 < length t) × ((row_at t x.1).dim ≡ 0)

  first_row : 0 < length t → (row_at t 0).dim ≡ 0
  first_row b = by (row_at t 0).dim refl
    where
      by : (d : ℕ) → (row_at t 0).dim ≡ d → (row_at t 0).dim ≡ 0
      by zero e = e
      by (suc d) e =
          let c : length (row_at t 0).faces ≡ suc (suc d) = is.counted 0 b ∙ ap face_count e in
          absurd (omega (arith, is.earlier 0 0 b (omega (arith, c))))

  flat_on_row : (r : ℕ) (p : Passed) → r < length t → (row_at t r).dim ≡ 0 → Flat (on_row t r p)
  flat_on_row r (absorbed v) b d = (b, d)
  flat_on_row r (through k v) b d =
      let e : listed_face t k r ≡ ([], 0) = entry-none ([], 0) (row_at t r).faces k (is.counted r b ∙ ap face_count d) in
      let z : (listed_face t k r).1 ≡ 0 = ap (λ x. x.1) e in
      (omega (arith, z), ap (λ s. (row_at t s).dim) z ∙ first_row (omega arith))

  flat_face : (i : ℕ) (x : RowSimplex) → Flat x → Flat (row_face t i x)
  flat_face i x f = flat_on_row x.1 (face_word i x.0) f.0 f.1

  module _ {G : Type 0} (group : Abelian G) (laws : IsAbelian group) (values : List G) (closed : IsCocycle group t values) where
    cocycle-flat : (x : RowSimplex) → Flat x → cocycle group t values x ≡ group.none
    cocycle-flat ([], r) f = closed.elsewhere r f.0 (λ e. let d : (row_at t r).dim ≡ 0 = f.1 in absurd (omega (arith, d, e)))
    cocycle-flat (j ∷ w, r) f = refl

    flat_times : (k i : ℕ) (x : RowSimplex) → Flat x → Flat (face_times group t values k i x)
    flat_times zero i x f = f
    flat_times (suc k) i x f = flat_times k i (row_face t i x) (flat_face i x f)

    flat_first : (j k : ℕ) (x : RowSimplex) → Flat x → Flat (first_vertices group t values j k x)
    flat_first j zero x f = f
    flat_first j (suc k) x f = flat_first j k (row_face t (j + suc k) x) (flat_face (j + suc k) x f)

    at_vertex-flat : (n j : ℕ) (x : RowSimplex) → Flat x → at_vertex group t values n j x ≡ group.none
    at_vertex-flat n zero x f = refl
    at_vertex-flat n (suc zero) x f = refl
    at_vertex-flat n (suc (suc j)) x f = cocycle-flat _ (flat_times j 2 _ (flat_first (suc (suc j)) (n - suc (suc j)) x f))

    -- 0 minus 0
    none-none : group.plus group.none (group.negative group.none) ≡ group.none
    none-none =
        laws.unit (group.negative group.none) (laws.negative_in group.none laws.none_in)
        ∙ sym (plus-none group laws (group.negative group.none) (laws.negative_in group.none laws.none_in))
        ∙ laws.inverse group.none laws.none_in

    differences-flat : (n j k : ℕ) (x : RowSimplex) → Flat x → differences group t values n j k x ≡ copies k group.none
    differences-flat n j zero x f = refl
    differences-flat n j (suc k) x f =
        let s : group.plus (at_vertex group t values n (suc j) x) (group.negative (at_vertex group t values n j x)) ≡ group.none =
        (λ i. group.plus (at_vertex-flat n (suc j) x f i) (group.negative (at_vertex-flat n j x f i))) ∙ none-none in
        let r = differences-flat n (suc j) k x f in
        λ i. s i ∷ r i

    -- it does not move a list
    pub cocycle_still : (n : ℕ) (x : RowSimplex) (y : List G) → InTable t (suc n) x → (nerve_set group).In (suc n) y → on_vertex t x ≡ true
        → nerve_times group (cocycle_twisting group t values x) (nerve_face group 0 y) ≡ nerve_face group 0 y
    cocycle_still n x y ix iy h =
        let d : row_degree t x ≡ suc n = ix.degree in
        let e : row_degree t x - 1 ≡ n = omega (arith, d) in
        let l = (nerve_set_laws group laws).face_in n 0 y iy (omega arith) in
        ap (λ v. nerve_times group v (nerve_face group 0 y))
        (differences-flat (row_degree t x) 1 (row_degree t x - 1) x (ix.row, on_vertex_is t x h) ∙ ap (λ k. copies k group.none) e)
        ∙ unit-times group laws n (nerve_face group 0 y) l.0 l.1
