-- Normal forms of K(Z,1): the places of the zeros of a list are its degeneracies, and the other integers are its cell.
use Rattle.std.proofs.Common.{◌≡◌, ℕ, zero, suc, ◌-◌, ◌<◌, ◌≤◌, min, Bool, true, false, not, ◌==◌, ◌&&◌, List, [], ◌∷◌, length, ℤ, pos, negsuc, refl, sym, ◌∙◌, ap, subst, arith, ◌⊎◌, inl, inr, true≢false}
use Rattle.std.proofs.lemmas.Cmp.{tied_itself, lists_total, int_cmp_total, nat_cmp_total}
use Rattle.std.specs.List.{list_all}
use Rattle.std.specs.Ordering.{nat_cmp, int_cmp, int_eq, ordering_then}
use Rattle.std.specs.declared.cmp.Ordering.TheVariants.{Equal}
use Rattle.std.specs.Cmp.Lexicographic.{slice_cmp, pointwise}
use Rattle.simp_ops.proofs.PlacesOf.{is_eq, cases_bool}
use Rattle.simp_ops.proofs.Squeezed.{and_left, and_right}
use Rattle.spaces.specs.Simplicial.{IsSimplicial, has_degeneracy}
use Rattle.spaces.specs.Nerves.{integers, nerve_set, nerve_face, nerve_degeneracy}
use Rattle.spaces.specs.Spaces.{kz1}
use Rattle.spaces.proofs.Integers.{integers_abelian}
use Rattle.spaces.proofs.Nerves.{nerve_set_laws}
use Rattle.spaces.proofs.Orders.{plain-apart}
use Rattle.cells.specs.declared.cells.Cell.{Cell, roll-Cell, out-Cell, roll-out-Cell, out-roll-Cell}
use Rattle.cells.specs.declared.cells.Cell.TheVariants.{Ints, rolls-Ints}
use Rattle.cells.specs.declared.cells.Cell.TheOpen.{Cell-F}
use Rattle.cells.specs.declared.cells.Letter.{Letter}
use Rattle.cells.specs.declared.cells.Simplex.{Simplex}
use Rattle.cells.specs.Dim.{dim_of}
use Rattle.cells.specs.Order.{cell_cmp, kind_of, kind_in}
use Rattle.cells.proofs.Dimensions.{dim-Ints}
use Rattle.cells.proofs.Compared.{cell_cmp-then, integers as integers_cmp}
use Rattle.term_lang.specs.Forms.{cell_form}
use Rattle.term_lang.specs.Belongs.{is_cell, is_zero, IsCell}
use Rattle.term_lang.specs.NormalForms.{HasNormalForms, HasNormalCells}
use Rattle.term_lang.proofs.CellForms.{tested, is_cell-roll, is_cell-Ints, form-Ints}
use Rattle.term_lang.proofs.NormalCells.{normal_cells}
use Rattle.term_lang.proofs.RowCells.{eq_is}
use Rattle.kz1_group.proofs.Places.{degeneracies, Bare, none_of, none_at}
use Rattle.kz1_group.proofs.Stands.{StandForBare, stand_for_all}

pub laws : IsSimplicial (nerve_set integers)
laws = nerve_set_laws integers integers_abelian

-- ---- the zeros of a list

-- there is a zero at a place
abbrev pub zero_at : List ℤ → ℕ → Bool
zero_at [] k = false
zero_at (a ∷ x) zero = is_zero a
zero_at (a ∷ x) (suc k) = zero_at x k

pub zero_is : (a : ℤ) → is_zero a ≡ true → a ≡ pos 0
zero_is (pos n) h = ap pos (eq_is n 0 h)
zero_is (negsuc n) h = absurd (true≢false (sym h))

abbrev pub has_none : List ℤ → Bool
has_none x = list_all (λ a. not (is_zero a)) x

-- s_k puts a zero at place k, and where there is one the list is s_k of its face
put-zero : (k : ℕ) (x : List ℤ) → k ≤ length x → zero_at (nerve_degeneracy integers k x) k ≡ true
put-zero zero x h = refl
put-zero (suc k) [] h = absurd (omega arith)
put-zero (suc k) (a ∷ x) h = put-zero k x (omega arith)

plus-zero : (a b : ℤ) → b ≡ pos 0 → integers.plus a b ≡ a
plus-zero a b e = ap (integers.plus a) e ∙ integers_abelian.commutes a (pos 0) tt tt ∙ integers_abelian.unit a tt

zero-back : (k : ℕ) (x : List ℤ) → zero_at x k ≡ true → x ≡ nerve_degeneracy integers k (nerve_face integers k x)
zero-back k [] h = absurd (true≢false (sym h))
zero-back zero (a ∷ x) h = λ i. zero_is a h i ∷ x
zero-back (suc zero) (a ∷ []) h = absurd (true≢false (sym h))
zero-back (suc zero) (a ∷ (b ∷ x)) h = λ i. sym (plus-zero a b (zero_is b h)) i ∷ (zero_is b h i ∷ x)
zero-back (suc (suc k)) (a ∷ x) h = ap (λ y. a ∷ y) (zero-back (suc k) x h)

-- the degeneracies of a list are its zeros
pub zeros-are : (k : ℕ) (x : List ℤ) → k < length x → has_degeneracy (nerve_set integers) k x ≡ zero_at x k
zeros-are k x h = by (cases_bool (has_degeneracy (nerve_set integers) k x)) (cases_bool (zero_at x k))
  where
    n : ℕ
    n = length x - 1

    e : length x ≡ suc n
    e = omega arith

    face_length : length (nerve_face integers k x) ≡ n
    face_length = (laws.face_in n k x (e, λ j d l. tt) (omega arith)).0

    by : (has_degeneracy (nerve_set integers) k x ≡ true) ⊎ (has_degeneracy (nerve_set integers) k x ≡ false)
        → (zero_at x k ≡ true) ⊎ (zero_at x k ≡ false) → has_degeneracy (nerve_set integers) k x ≡ zero_at x k
    by (inl f) (inl g) = f ∙ sym g
    by (inr f) (inr g) = f ∙ sym g
    by (inl f) (inr g) =
        let y = nerve_face integers k x in
        let s : x ≡ nerve_degeneracy integers k y = laws.same_is x (nerve_degeneracy integers k y) f in
        absurd (true≢false (sym (put-zero k y (omega (arith, face_length))) ∙ ap (λ z. zero_at z k) (sym s) ∙ g))
    by (inr f) (inl g) =
        let s : x ≡ nerve_degeneracy integers k (nerve_face integers k x) = zero-back k x g in
        absurd (true≢false (sym (laws.same_equivalence.refl x) ∙ ap (pointwise int_eq x) s ∙ f))

-- ---- lists without zeros

not_true : (b : Bool) → not b ≡ true → b ≡ false
not_true true h = absurd (true≢false (sym h))
not_true false h = refl

pub none_zero : (x : List ℤ) (k : ℕ) → has_none x ≡ true → zero_at x k ≡ false
none_zero [] k h = refl
none_zero (a ∷ x) zero h = not_true (is_zero a) (and_left (not (is_zero a)) (has_none x) h)
none_zero (a ∷ x) (suc k) h = none_zero x k (and_right (not (is_zero a)) (has_none x) h)

zero_none : (x : List ℤ) → ((k : ℕ) → k < length x → zero_at x k ≡ false) → has_none x ≡ true
zero_none [] h = refl
zero_none (a ∷ x) h = λ i. both (not (is_zero a)) (has_none x) (ap not (h zero (omega arith))) (zero_none x (λ k l. h (suc k) (omega arith))) i
  where
    both : (a b : Bool) → a ≡ true → b ≡ true → a && b ≡ true
    both a b e f = λ i. e i && f i

pub bare_list : (m : ℕ) (x : List ℤ) → length x ≡ m → has_none x ≡ true → Bare (nerve_set integers) m x
bare_list m x e h = record {
  is_in = (e, λ j d l. tt);
  none = none_of m (degeneracies (nerve_set integers) x) (λ k l. zeros-are k x (omega (arith, e)) ∙ none_zero x k h);
}

pub list_bare : (m : ℕ) (x : List ℤ) → Bare (nerve_set integers) m x → has_none x ≡ true
list_bare m x b =
    let e : length x ≡ m = b.is_in.0 in
    zero_none x (λ k l. sym (zeros-are k x l) ∙ none_at m k (degeneracies (nerve_set integers) x) b.none (omega (arith, e)))

-- ---- cells

-- a cell is its list
pub record IsList (m : ℕ) (c : Cell) : Type 0 where
  pub list : List ℤ
  pub cell : c ≡ Ints list
  pub count : length list ≡ m
  pub no_zero : has_none list ≡ true

in_layer : (m : ℕ) (y : Cell-F Cell Letter Simplex) → tested y kz1 m ≡ true → IsList m (roll-Cell y)
unfolding tested
in_layer m (Cell-F.Ints list) h = record {
  list = list;
  cell = rolls-Ints list;
  count = eq_is (length list) m (and_left (length list == m) (has_none list) h);
  no_zero = and_right (length list == m) (has_none list) h;
}
in_layer m y h = absurd (true≢false (sym h))

pub list_of : (m : ℕ) (c : Cell) → IsCell kz1 m c → IsList m c
list_of m c h =
    subst (IsList m) (roll-out-Cell c)
    (in_layer m (out-Cell c) (ap (λ f. f kz1 m) (sym (is_cell-roll (out-Cell c))) ∙ ap (λ d. is_cell d kz1 m) (roll-out-Cell c) ∙ h))

pub is_list : (m : ℕ) (x : List ℤ) → length x ≡ m → has_none x ≡ true → IsCell kz1 m (Ints x)
is_list m x e h = ap (λ f. f kz1 m) (is_cell-Ints x) ∙ (λ i. is_eq (length x) m e i && h i)

pub form_list : (x : List ℤ) → cell_form (Ints x) kz1 ≡ x
form_list x = ap (λ f. f kz1) (form-Ints x)

kind-Ints : (x : List ℤ) → kind_of (Ints x) ≡ 5
kind-Ints x = ap kind_in (ap out-Cell (sym (rolls-Ints x)) ∙ out-roll-Cell (Cell-F.Ints x))

tied_nat : (m n : ℕ) → m ≡ n → nat_cmp m n ≡ Equal
tied_nat m n e = ap (nat_cmp m) (sym e) ∙ tied_itself nat_cmp_total m

-- lists of one length are compared by their first difference
lists_cmp : (m : ℕ) (x y : List ℤ) → length x ≡ m → length y ≡ m → cell_cmp (Ints x) (Ints y) ≡ slice_cmp int_cmp x y
lists_cmp m x y e f =
    cell_cmp-then (Ints x) (Ints y)
    ∙ (λ i. ordering_then (ordering_then (tied_nat (dim_of (Ints x)) (dim_of (Ints y)) dims i) (tied_nat (kind_of (Ints x)) (kind_of (Ints y)) (kind-Ints x ∙ sym (kind-Ints y)) i)) (integers_cmp x y i))
    ∙ (λ i. ordering_then (tied_nat (length x) (length y) (e ∙ sym f) i) (slice_cmp int_cmp x y))
  where
    dims : dim_of (Ints x) ≡ dim_of (Ints y)
    dims = dim-Ints x ∙ ap (λ k. min k 4294967295) (e ∙ sym f) ∙ sym (dim-Ints y)

pub stand : (m : ℕ) → StandForBare kz1 m
stand m = record {
  dimension = λ c most h.
      let s = list_of m c h in
      let e : length s.list ≡ m = s.count in
      ap dim_of s.cell ∙ dim-Ints s.list ∙ omega (arith, e);
  bare = λ c h. let s = list_of m c h in subst (Bare (nerve_set integers) m) (sym (ap (λ d. cell_form d kz1) s.cell ∙ form_list s.list)) (bare_list m s.list s.count s.no_zero);
  quoted = λ c h. let s = list_of m c h in ap Ints (ap (λ d. cell_form d kz1) s.cell ∙ form_list s.list) ∙ sym s.cell;
  onto = λ y b. is_list m y b.is_in.0 (list_bare m y b);
  formed = λ y b. form_list y;
  in_order = λ c d h l.
      let s = list_of m c h in
      let t = list_of m d l in
      (λ i. cell_cmp (s.cell i) (t.cell i)) ∙ lists_cmp m s.list t.list s.count t.count
      ∙ (λ i. slice_cmp int_cmp (sym (ap (λ e. cell_form e kz1) s.cell ∙ form_list s.list) i) (sym (ap (λ e. cell_form e kz1) t.cell ∙ form_list t.list) i));
  apart = λ y z b d e. plain-apart kz1 y z e;
}

pub integers_forms : (n : ℕ) → n ≤ 32 → HasNormalForms kz1 n
integers_forms n most = stand_for_all kz1 laws stand (λ y. tied_itself (lists_total int_cmp_total) y) n most

pub integers_cells : (n : ℕ) → n ≤ 32 → HasNormalCells kz1 n
integers_cells n most = normal_cells kz1 n most (integers_forms n most)
