-- The law between two faces of a row.
use Rattle.std.proofs.Common.{◌≡◌, ℕ, suc, ◌+◌, ◌-◌, ◌^◌, ◌<◌, ◌≤◌, ◌⊎◌, inl, inr, true, false, cond, not, ◌||◌, ◌&&◌, ◌==◌, [], length, Some, None, refl, sym, ◌∙◌, ap, subst, arith}
use Rattle.std.specs.Bool.{Decides}
use Rattle.std.proofs.lemmas.Bool.{cases_lt}
use Rattle.std.proofs.lemmas.Bool.Decides.{Decides-and, Decides-eqb, same_from_decides}
use Rattle.simp_ops.specs.Bits.{mask_word}
use Rattle.simp_ops.proofs.PlacesOf.{is_lt, not_lt, is_le, not_le}
use Rattle.simp_ops.proofs.MaskWords.{places_told}
use Rattle.spaces.specs.Tables.{Table, RowSimplex, row_at, listed_face, row_face, row_degree, InTable}
use Rattle.term_lang.specs.declared.tables.TableFace.{TableFace}
use Rattle.term_lang.specs.Rows.{face_of}
use Rattle.finite_sets.specs.declared.faults.TableFault.{TableFault}
use Rattle.finite_sets.specs.declared.faults.TableFault.TheVariants.{FaceLaw}
use Rattle.finite_sets.specs.Faults.{Fault, first_below, unless, is_same, is_law, law_fault_at, law_fault}
use Rattle.finite_sets.specs.Progress.{HasSimplices, HasFace}
use Rattle.finite_sets.proofs.FirstFault.{unless-none, none_unless, unless-false, first_below-none, none_below, first_below-found}
use Rattle.finite_sets.proofs.WordTests.{Decides-is_same}

-- ---- two faces of the code

Decides-same_face : (x y : TableFace) → x.degens.mask < 2 ^ 32 → y.degens.mask < 2 ^ 32
    → Decides ((x.degens.mask == y.degens.mask) && (x.row == y.row)) (face_of x ≡ face_of y)
Decides-same_face x y h l =
    let d = Decides-and (x.degens.mask == y.degens.mask) (x.row == y.row) (Decides-eqb x.degens.mask y.degens.mask) (Decides-eqb x.row y.row) in
    (λ e. λ k. (mask_word ((d.0 e).0 k), (d.0 e).1 k), λ e. d.1 (places_told 32 x.degens.mask y.degens.mask h l (ap (λ z. z.0) e), ap (λ z. z.1) e))

pub same_face : (x y : TableFace) (a b : RowSimplex) → x.degens.mask < 2 ^ 32 → y.degens.mask < 2 ^ 32 → face_of x ≡ a → face_of y ≡ b
    → (x.degens.mask == y.degens.mask) && (x.row == y.row) ≡ is_same a b
same_face x y a b h l p q =
    same_from_decides ((x.degens.mask == y.degens.mask) && (x.row == y.row)) (is_same (face_of x) (face_of y)) (Decides-same_face x y h l)
    (Decides-is_same (face_of x) (face_of y))
    ∙ (λ k. is_same (p k) (q k))

-- ---- one row

module _ (t : Table) (r : ℕ) where
  abbrev dim : ℕ
  dim = (row_at t r).dim

  pub listed_has : (i j : ℕ) → HasSimplices t → r < length t → 2 ≤ (row_at t r).dim → j ≤ (row_at t r).dim → i < (row_at t r).dim → HasFace t i (listed_face t j r)
  listed_has i j has h above l k =
      let m : dim ≡ suc (dim - 1) = omega arith in
      let f : InTable t (dim - 1) (listed_face t j r) = has.faces_in r (dim - 1) j h m (omega (arith, m)) in
      let d : row_degree t (listed_face t j r) ≡ dim - 1 = f.degree in
      let low : dim ≤ 16 = has.low r h in
      record { simplex = subst (λ n. InTable t n (listed_face t j r)) (sym d) f; positive = omega (arith, d); low = omega (arith, d, low); index = omega (arith, d) }

  abbrev fault_at : ℕ → ℕ → Fault
  fault_at i j = unless (is_law t r i j) (FaceLaw r i j)

  pub law_trivial : (i j : ℕ) → j ≤ i → is_law t r i j ≡ true
  law_trivial i j h = ap (λ b. not b || is_same (row_face t i (row_face t j ([], r))) (row_face t (j - 1) (row_face t i ([], r)))) (not_lt i j h)

  pub law_meant : (i j : ℕ) → i < j → is_law t r i j ≡ is_same (row_face t i (row_face t j ([], r))) (row_face t (j - 1) (row_face t i ([], r)))
  law_meant i j h = ap (λ b. not b || is_same (row_face t i (row_face t j ([], r))) (row_face t (j - 1) (row_face t i ([], r)))) (is_lt i j h)

  pub none_until : (i : ℕ) → first_below (i + 1) (fault_at i) ≡ None
  none_until i = none_below (i + 1) (fault_at i) (λ j h. none_unless (is_law t r i j) (FaceLaw r i j) (law_trivial i j (omega arith)))

  pub found_at : (i j : ℕ) → j ≤ (row_at t r).dim → first_below j (fault_at i) ≡ None → is_law t r i j ≡ false → law_fault_at t r i ≡ Some (FaceLaw r i j)
  unfolding law_fault_at
  found_at i j h e l = first_below-found (suc dim) j (fault_at i) (FaceLaw r i j) (omega arith) e (unless-false (is_law t r i j) (FaceLaw r i j) l)

  pub none_at : (i n : ℕ) → n ≡ suc (row_at t r).dim → first_below n (fault_at i) ≡ None → law_fault_at t r i ≡ None
  unfolding law_fault_at
  none_at i n q e = ap (λ k. first_below k (fault_at i)) (sym q) ∙ e

  pub law_low : (row_at t r).dim ≤ 1 → law_fault t r ≡ None
  unfolding law_fault
  law_low h = ap (λ b. cond b None (first_below (suc dim) (law_fault_at t r))) (is_le dim 1 h)

  law_high : 2 ≤ (row_at t r).dim → law_fault t r ≡ first_below (suc (row_at t r).dim) (law_fault_at t r)
  unfolding law_fault
  law_high h = ap (λ b. cond b None (first_below (suc dim) (law_fault_at t r))) (not_le dim 1 (omega arith))

  pub law_found : (i : ℕ) (x : TableFault) → 2 ≤ (row_at t r).dim → i ≤ (row_at t r).dim → first_below i (law_fault_at t r) ≡ None → law_fault_at t r i ≡ Some x
      → law_fault t r ≡ Some x
  law_found i x above h e l = law_high above ∙ first_below-found (suc dim) i (law_fault_at t r) x (omega arith) e l

  pub law_none : (n : ℕ) → 2 ≤ (row_at t r).dim → n ≡ suc (row_at t r).dim → first_below n (law_fault_at t r) ≡ None → law_fault t r ≡ None
  law_none n above q e = law_high above ∙ ap (λ k. first_below k (law_fault_at t r)) (sym q) ∙ e

  pub law_told : law_fault t r ≡ None → (i j : ℕ) → 2 ≤ (row_at t r).dim → i < j → j ≤ (row_at t r).dim
      → row_face t i (row_face t j ([], r)) ≡ row_face t (j - 1) (row_face t i ([], r))
  unfolding law_fault_at
  law_told e i j above h l =
      let at : first_below (suc dim) (fault_at i) ≡ None = first_below-none (suc dim) (law_fault_at t r) (sym (law_high above) ∙ e) i (omega arith) in
      let b : is_law t r i j ≡ true = unless-none (is_law t r i j) (FaceLaw r i j) (first_below-none (suc dim) (fault_at i) at j (omega arith)) in
      (Decides-is_same (row_face t i (row_face t j ([], r))) (row_face t (j - 1) (row_face t i ([], r)))).0 (sym (law_meant i j h) ∙ b)

  pub no_law_fault : ((i j : ℕ) → 2 ≤ (row_at t r).dim → i < j → j ≤ (row_at t r).dim → row_face t i (row_face t j ([], r)) ≡ row_face t (j - 1) (row_face t i ([], r)))
      → law_fault t r ≡ None
  no_law_fault all = by (cases_lt 1 dim)
    where
      at : (i j : ℕ) → 1 < dim → j < suc dim → (i < j) ⊎ (j ≤ i) → is_law t r i j ≡ true
      at i j above h (inl l) =
          law_meant i j l
          ∙ (Decides-is_same (row_face t i (row_face t j ([], r))) (row_face t (j - 1) (row_face t i ([], r)))).1 (all i j above l (omega arith))
      at i j above h (inr l) = law_trivial i j l

      by : (1 < dim) ⊎ (dim ≤ 1) → law_fault t r ≡ None
      by (inl above) =
          law_none (suc dim) above refl
          (none_below (suc dim) (law_fault_at t r)
          (λ i h. none_at i (suc dim) refl (none_below (suc dim) (fault_at i) (λ j l. none_unless (is_law t r i j) (FaceLaw r i j) (at i j above l (cases_lt i j))))))
      by (inr low) = law_low low
