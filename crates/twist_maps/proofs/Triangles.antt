-- Simplices of a table, their faces on first vertices, and the values of a cocycle on those of degree 2.
use Rattle.std.proofs.Common.{◌≡◌, ℕ, zero, suc, ◌+◌, ◌-◌, ◌<◌, ◌≤◌, List, [], ◌∷◌, ◌++◌, length, get_or, ℤ, ◌+ℤ◌, ◌-ℤ◌, pos, negsuc, SFits, w64, to_z, of_z, refl, sym, ◌∙◌, ap, subst, arith, lit≤}
use Rattle.std.specs.Prelude.{nat_abs, neg_ℤ}
use Rattle.std.proofs.lemmas.Int.{to_z-of_z, ints}
use Rattle.simp_ops.specs.Bits.{mask_word}
use Rattle.simp_ops.proofs.MaskWords.{places_told, places-none}
use Rattle.spaces.specs.Tables.{Table, InTable, entry, row_at, row_face}
use Rattle.spaces.specs.Nerves.{integers}
use Rattle.spaces.specs.Cocycles.{cocycle, first_vertices, face_times, at_vertex, differences}
use Rattle.spaces.specs.Allowed.{IsTable}
use Rattle.spaces.specs.Spaces.{table}
use Rattle.cells.specs.declared.cells.Cell.TheVariants.{Row}
use Rattle.cells.specs.declared.cells.Simplex.{Simplex}
use Rattle.cells.specs.Dim.{degree_of}
use Rattle.term_lang.specs.Belongs.{IsSimplex}
use Rattle.term_lang.specs.Forms.{form}
use Rattle.term_lang.proofs.TableForms.{table_forms}
use Rattle.term_lang.proofs.RowFaces.{form_so, simplex_so}
use Rattle.term_lang.proofs.CocycleRows.{entry-get_or}

pub degree-is : (t : Table) → IsTable t → (n : ℕ) → n ≤ 32 → (x : Simplex) → IsSimplex (table t) n x → degree_of x ≡ n
degree-is t is n h x s = (table_forms t is n h).degree x s

pub at_degree : (t : Table) → IsTable t → (n : ℕ) → n ≤ 32 → (x : Simplex) → IsSimplex (table t) n x → IsSimplex (table t) (degree_of x) x
at_degree t is n h x s = subst (λ k. IsSimplex (table t) k x) (sym (degree-is t is n h x s)) s

-- ---- values

off_word : (t : Table) (c : List ℤ) (w : List ℕ) (r : ℕ) → (w ≡ [] → ⊥) → cocycle integers t c (w, r) ≡ pos 0
off_word t c [] r h = absurd (h refl)
off_word t c (j ∷ w) r h = refl

module _ (t : Table) (c : List ℤ) (x : Simplex) (r : ℕ) (plain : form x (table t) ≡ (mask_word x.degens.mask, r)) where
  pub degenerate_value : (x.degens.mask ≡ 0 → ⊥) → pos 0 ≡ cocycle integers t c (form x (table t))
  degenerate_value h =
      sym (ap (cocycle integers t c) plain
      ∙ off_word t c (mask_word x.degens.mask) r (λ g. h (places_told 32 x.degens.mask 0 x.degens.below_32 (omega arith) (g ∙ sym (places-none 32)))))

  pub row_value : x.degens.mask ≡ 0 → get_or c r (pos 0) ≡ cocycle integers t c (form x (table t))
  row_value e =
      sym (ap (cocycle integers t c) plain ∙ ap (λ w. cocycle integers t c (w, r)) (ap mask_word e ∙ places-none 32) ∙ entry-get_or (pos 0) c r)

-- ---- first vertices

-- the first face that is taken
pub front-step : (t : Table) (c : List ℤ) (j i : ℕ) (b : _) → j < i
    → first_vertices integers t c j (i - j) b ≡ first_vertices integers t c j (i - 1 - j) (row_face t i b)
front-step t c j i b h =
    let e : i - j ≡ suc (i - 1 - j) = omega arith in
    let f : j + suc (i - 1 - j) ≡ i = omega arith in
    ap (λ k. first_vertices integers t c j k b) e ∙ ap (λ k. first_vertices integers t c j (i - 1 - j) (row_face t k b)) f

pub triangle-step : (t : Table) (c : List ℤ) (i : ℕ) (b : _) → 2 < i
    → face_times integers t c (i - 2) 2 b ≡ face_times integers t c (i - 1 - 2) 2 (row_face t 2 b)
triangle-step t c i b h = let e : i - 2 ≡ suc (i - 1 - 2) = omega arith in ap (λ k. face_times integers t c k 2 b) e

-- ---- a row of dimension 3

module _ (t : Table) (is : IsTable t) (r : ℕ) (row_in : r < length t) (three : (row_at t r).dim ≡ 3) (x : Simplex) (mask : x.degens.mask ≡ 0) (cell : x.cell ≡ Row 3 r) where
  no_word : mask_word x.degens.mask ≡ []
  no_word = ap mask_word mask ∙ places-none 32

  on_row_cell : x.cell ≡ Row (row_at t r).dim r
  on_row_cell = cell ∙ ap (λ d. Row d r) (sym three)

  in_table : InTable t 3 (mask_word x.degens.mask, r)
  in_table = subst (λ w. InTable t 3 (w, r)) (sym no_word) (record { row = row_in; degree = (let e : (row_at t r).dim + 0 ≡ 3 = omega (arith, three) in e); word = tt })

  pub row_simplex : IsSimplex (table t) 3 x
  row_simplex = simplex_so t is 3 x r on_row_cell in_table

  pub row_degree-is : degree_of x ≡ 3
  row_degree-is = degree-is t is 3 (lit≤ tt) x row_simplex

  pub row_form : form x (table t) ≡ ([], r)
  row_form = form_so t is 3 x 3 r cell in_table.word ∙ ap (λ w. (w, r)) no_word

  pub at_row_degree : IsSimplex (table t) (degree_of x) x
  at_row_degree = subst (λ k. IsSimplex (table t) k x) (sym row_degree-is) row_simplex

-- ---- the list of differences

pub at_vertex-is : (t : Table) (c : List ℤ) (n j : ℕ) (b : _) → 2 ≤ j
    → at_vertex integers t c n j b ≡ cocycle integers t c (face_times integers t c (j - 2) 2 (first_vertices integers t c j (n - j) b))
at_vertex-is t c n zero b h = absurd (omega (arith, h))
at_vertex-is t c n (suc zero) b h = absurd (omega (arith, h))
at_vertex-is t c n (suc (suc j)) b h =
    let e : j ≡ suc (suc j) - 2 = omega arith in
    ap (λ k. cocycle integers t c (face_times integers t c k 2 (first_vertices integers t c (suc (suc j)) (n - suc (suc j)) b))) e

pub differences-next : (t : Table) (c : List ℤ) (n j k : ℕ) (b : _)
    → differences integers t c n j (suc k) b
    ≡ differences integers t c n j k b ++ (at_vertex integers t c n (suc (j + k)) b +ℤ neg_ℤ (at_vertex integers t c n (j + k) b)) ∷ []
differences-next t c n j zero b =
    let e : j ≡ j + 0 = omega arith in
    ap (λ i. (at_vertex integers t c n (suc i) b +ℤ neg_ℤ (at_vertex integers t c n i b)) ∷ []) e
differences-next t c n j (suc k) b =
    let e : suc j + k ≡ j + suc k = omega arith in
    ap (λ l. (at_vertex integers t c n (suc j) b +ℤ neg_ℤ (at_vertex integers t c n j b)) ∷ l)
    (differences-next t c n (suc j) k b
    ∙ ap (λ i. differences integers t c n (suc j) k b ++ (at_vertex integers t c n (suc i) b +ℤ neg_ℤ (at_vertex integers t c n i b)) ∷ []) e)

-- the difference of two small numbers, as the code takes it
small_fits : (z : ℤ) → nat_abs z ≤ 200000 → SFits w64 z
small_fits (pos m) h = record { sfits = omega (arith, h) }
small_fits (negsuc m) h = let k : suc m ≤ 200000 = h in record { sfits = omega (arith, k) }

pub difference_small : (a b : ℤ) → nat_abs a ≤ 100000 → nat_abs b ≤ 100000 → nat_abs (a -ℤ b) ≤ 200000
difference_small a b h k = omega (arith, ints)

module _ (a b : ℤ) (h : nat_abs a ≤ 100000) (k : nat_abs b ≤ 100000) where
  handed : to_z w64 (of_z w64 a) -ℤ to_z w64 (of_z w64 b) ≡ a -ℤ b
  handed = λ i. to_z-of_z w64 a (small_fits a (omega (arith, h))) i -ℤ to_z-of_z w64 b (small_fits b (omega (arith, k))) i

  pub difference_fits : SFits w64 (to_z w64 (of_z w64 a) -ℤ to_z w64 (of_z w64 b))
  difference_fits = subst (SFits w64) (sym handed) (small_fits (a -ℤ b) (difference_small a b h k))

  pub difference_is : to_z w64 (of_z w64 (to_z w64 (of_z w64 a) -ℤ to_z w64 (of_z w64 b))) ≡ a +ℤ neg_ℤ b
  difference_is = to_z-of_z w64 (to_z w64 (of_z w64 a) -ℤ to_z w64 (of_z w64 b)) difference_fits ∙ handed

-- the same, where the second number is as the code holds it
pub difference_held : (a b : ℤ) → nat_abs a ≤ 100000 → nat_abs b ≤ 100000 → to_z w64 (of_z w64 (to_z w64 (of_z w64 a) -ℤ b)) ≡ a +ℤ neg_ℤ b
difference_held a b h k =
    ap (λ z. to_z w64 (of_z w64 (z -ℤ b))) (to_z-of_z w64 a (small_fits a (omega (arith, h))))
    ∙ to_z-of_z w64 (a -ℤ b) (small_fits (a -ℤ b) (difference_small a b h k))

pub sum_small : (a b : ℤ) → nat_abs a ≤ 100000 → nat_abs b ≤ 100000 → nat_abs (a +ℤ neg_ℤ b) ≤ 200000
sum_small a b h k = difference_small a b h k
