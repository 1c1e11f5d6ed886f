-- The faces of the simplices of a circle bundle, as the code makes them from those of the table and of the fibre (May, Simplicial Objects
-- in Algebraic Topology, chapter IV, 18).
use Rattle.std.proofs.Common.{◌≡◌, ℕ, zero, suc, ◌-◌, ◌^◌, ◌<◌, ◌≤◌, List, [], ◌∷◌, length, get_or, ℤ, pos, refl, sym, ◌∙◌, ap, subst, arith}
use Rattle.std.specs.Prelude.{nat_abs}
use Rattle.std.specs.List.{All}
use Rattle.simp_ops.specs.Bits.{mask_word}
use Rattle.spaces.specs.Allowed.{IsTable, IsAllowed}
use Rattle.spaces.specs.Tables.{Table, RowSimplex, entry, row_degree}
use Rattle.spaces.specs.Nerves.{integers, nerve_times, nerve_face}
use Rattle.spaces.specs.Cocycles.{differences, cocycle_twisting}
use Rattle.spaces.specs.Spaces.{table, kz1, bundle, set_of}
use Rattle.values.specs.Sizes.{greatest}
use Rattle.cells.specs.declared.cells.Simplex.{Simplex}
use Rattle.cells.specs.Dim.{degree_of}
use Rattle.term_lang.specs.Belongs.{IsSimplex}
use Rattle.term_lang.specs.Degenerated.{degenerated}
use Rattle.term_lang.specs.Forms.{cell_form, form}
use Rattle.term_lang.proofs.RowFaces.{some_row}
use Rattle.term_lang.proofs.TableForms.{table_forms}
use Rattle.oracle_iface.specs.CodeSizes.{cell_integer}
use Rattle.kz1_group.specs.Summable.{IsSummable}
use Rattle.kz1_group.proofs.Faced.{Faced}
use Rattle.kz1_group.proofs.ListForms.{laws, form_list, integers_forms}
use Rattle.kz1_group.proofs.Magnitudes.{within_list, summable}
use Rattle.twist_maps.specs.Values.{AreValues}
use Rattle.normal_forms.specs.Paired.{IsPaired, HasParts}
use Rattle.normal_forms.proofs.BuiltPairs.{bundle_paired, bundle_parted, bundle_parts}
use Rattle.normal_forms.proofs.PairedForms.{integers-paired}
use Rattle.space_faces.proofs.FibreLists.{list_length, has_list}

-- ---- the values of a cocycle

entry-get : (c : List ℤ) (k : ℕ) (d : ℤ) → k < length c → entry (pos 0) c k ≡ get_or c k d
entry-get [] k d l = absurd (omega (arith, l))
entry-get (a ∷ c) zero d l = refl
entry-get (a ∷ c) (suc k) d l = entry-get c k d (omega (arith, l))

pub values_of : (t : Table) (c : List ℤ) → IsAllowed (bundle t c) → AreValues t c
values_of t c is = record { as_long = is.0.1.as_long; small = λ k d l. subst (λ a. nat_abs a ≤ 100000) (entry-get c k d l) (is.0.2 k) }

-- ---- magnitudes and lengths of lists

pub small_summable : (x : List ℤ) → All (λ a. nat_abs a ≤ 200000) x → IsSummable x
small_summable x h k d l = omega (arith, h k d l)

integer_is : (n : ℕ) (x : Simplex) → n ≤ 32 → IsSimplex kz1 n x → cell_integer x.cell ≡ greatest nat_abs (form x kz1)
integer_is n x most h =
    let s = has_list n x most h in
    let w = mask_word x.degens.mask in
    ap cell_integer s.1
    ∙ within_list w s.0 (form x kz1) (ap (λ c. degenerated (set_of kz1) w c) (sym (ap (λ c. cell_form c kz1) s.1 ∙ form_list s.0)))

rest_summable : (x : List ℤ) → IsSummable x → IsSummable (nerve_face integers 0 x)
rest_summable [] h = h
rest_summable (a ∷ x) h = λ k d l. h (suc k) d (omega (arith, l))

length-differences : (t : Table) (values : List ℤ) (n j k : ℕ) (b : RowSimplex) → length (differences integers t values n j k b) ≡ k
length-differences t values n j zero b = refl
length-differences t values n j (suc k) b = ap suc (length-differences t values n (suc j) k b)

length-times : (x y : List ℤ) (m : ℕ) → length x ≡ m → length y ≡ m → length (nerve_times integers x y) ≡ m
length-times [] y m e f = e
length-times (a ∷ x) [] m e f = absurd (let l : suc (length x) ≡ 0 = e ∙ sym f in omega (arith, l))
length-times (a ∷ x) (b ∷ y) zero e f = absurd (let l : suc (length x) ≡ 0 = e in omega (arith, l))
length-times (a ∷ x) (b ∷ y) (suc m) e f =
    let g : suc (length x) ≡ suc m = e in
    let h : suc (length y) ≡ suc m = f in
    ap suc (length-times x y m (omega (arith, g)) (omega (arith, h)))

-- ---- a pair of degree n, of the table and the fibre

module _ (t : Table) (values : List ℤ) (is : IsTable t) (n : ℕ) (positive : 1 ≤ n) (most : n ≤ 32) (b f : Simplex)
    (bs : IsSimplex (table t) n b) (fs : IsSimplex kz1 n f) where
  abbrev y : List ℤ
  y = form f kz1

  abbrev tau : List ℤ
  tau = cocycle_twisting integers t values (form b (table t))

  pub fibre_length : length y ≡ n
  fibre_length = list_length n f most fs

  pub fibre_summable : cell_integer f.cell ≤ 2 ^ 40 → IsSummable y
  fibre_summable l = summable y (omega (arith, integer_is n f most fs, l))

  pub face_summable : cell_integer f.cell ≤ 2 ^ 40 → IsSummable (nerve_face integers 0 y)
  face_summable l = rest_summable y (fibre_summable l)

  pub face_length : length (nerve_face integers 0 y) ≡ n - 1
  face_length =
      let e : n ≡ suc (n - 1) = omega (arith, positive) in
      (laws.face_in (n - 1) 0 y (fibre_length ∙ e, λ k d l. tt) (omega arith)).0

  pub tau_length : length tau ≡ n - 1
  tau_length =
      let k = some_row t is n b bs in
      let d : row_degree t (form b (table t)) ≡ n = ap (row_degree t) k.1.plain_is ∙ k.1.simplex.degree in
      length-differences t values (row_degree t (form b (table t))) 1 (row_degree t (form b (table t)) - 1) (form b (table t)) ∙ ap (λ m. m - 1) d

  pub turned_length : length (nerve_times integers tau (nerve_face integers 0 y)) ≡ n - 1
  turned_length = length-times tau (nerve_face integers 0 y) (n - 1) tau_length face_length

  pub fibre_degree : degree_of f ≡ n
  fibre_degree = (integers_forms n most).degree f fs

-- the faces but for the first are those of the product
pub later_fibre : (t : Table) (values : List ℤ) (i : ℕ) (p : RowSimplex) (q z : List ℤ) → (i ≡ 0 → ⊥) → z ≡ (set_of kz1).face i q
    → z ≡ ((set_of (bundle t values)).face i (p, q)).1
later_fibre t values zero p q z some e = absurd (some refl)
later_fibre t values (suc i) p q z some e = e

pub first_fibre : (t : Table) (values : List ℤ) (i : ℕ) (p : RowSimplex) (q z : List ℤ) → i ≡ 0
    → z ≡ nerve_times integers (cocycle_twisting integers t values p) (nerve_face integers 0 q) → z ≡ ((set_of (bundle t values)).face i (p, q)).1
first_fibre t values zero p q z none e = e
first_fibre t values (suc i) p q z none e = absurd (omega (arith, none))

base_face : (t : Table) (values : List ℤ) (i : ℕ) (p : RowSimplex) (q : List ℤ)
    → (set_of (bundle t values)).face i (p, q) ≡ ((set_of (table t)).face i p, ((set_of (bundle t values)).face i (p, q)).1)
base_face t values zero p q = refl
base_face t values (suc i) p q = refl

-- ---- a simplex x of the bundle

module _ (t : Table) (values : List ℤ) (is : IsAllowed (bundle t values)) (n : ℕ) (x : Simplex) (h : IsSimplex (bundle t values) n x)
    (positive : 1 ≤ n) (most : n ≤ 32) where
  pub has_parts : HasParts x
  has_parts = bundle_parts t values n most x h

  -- x is the pair of b and f
  module _ (b f : Simplex) (p : IsPaired b f x) where
    parted : IsSimplex (table t) n b × IsSimplex kz1 n f × (form x (bundle t values) ≡ (form b (table t), form f kz1))
    parted = bundle_parted t values is n most b f x p h

    pub base_degree : degree_of b ≡ n
    base_degree = (table_forms t is.0.0 n most).degree b parted.0

    pub base_simplex : IsSimplex (table t) (degree_of b) b
    base_simplex = subst (λ m. IsSimplex (table t) m b) (sym base_degree) parted.0

    pub fibre_simplex : IsSimplex kz1 (degree_of b) f
    fibre_simplex = subst (λ m. IsSimplex kz1 m f) (sym base_degree) parted.1

    pub fibre_integers : (k : ℕ) → cell_integer x.cell ≤ k → cell_integer f.cell ≤ k
    fibre_integers k g = omega (arith, integers-paired b f x p, g)

    -- y is the pair of the face of the base and what the face has in the fibre
    module _ (i : ℕ) (u v y : Simplex) (us : IsSimplex (table t) (degree_of b - 1) u) (u_is : form u (table t) ≡ (set_of (table t)).face i (form b (table t)))
        (vs : IsSimplex kz1 (degree_of b - 1) v) (v_is : form v kz1 ≡ ((set_of (bundle t values)).face i (form b (table t), form f kz1)).1) (q : IsPaired u v y) where
      made : IsSimplex (bundle t values) (n - 1) y × (form y (bundle t values) ≡ (form u (table t), form v kz1))
      made =
          bundle_paired t values is (n - 1) (omega (arith, most)) u v y q (subst (λ m. IsSimplex (table t) (m - 1) u) base_degree us)
          (subst (λ m. IsSimplex kz1 (m - 1) v) base_degree vs)

      pub bundle_faced : Faced (bundle t values) n i x y
      bundle_faced = record {
        plain_is =
            made.1 ∙ (λ j. (u_is j, v_is j)) ∙ sym (base_face t values i (form b (table t)) (form f kz1))
            ∙ ap ((set_of (bundle t values)).face i) (sym parted.2);
        simplex = made.0;
      }
