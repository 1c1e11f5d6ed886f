-- The cells of circle bundles (May, Simplicial Objects in Algebraic Topology, chapter IV, 18).
use Rattle.std.proofs.Common.{◌≡◌, ℕ, zero, suc, ◌≤◌, Bool, true, false, ◌&&◌, refl, sym, ◌∙◌, ap, subst, arith, List, ℤ, true≢false}
use Rattle.spaces.specs.Simplicial.{Simplicial, IsSimplicial, some_below, has_degeneracy, is_degenerate}
use Rattle.spaces.specs.Products.{twisted_set, IsTwisting}
use Rattle.spaces.specs.Tables.{Table}
use Rattle.spaces.specs.Nerves.{integers, nerve_times}
use Rattle.spaces.specs.Cocycles.{cocycle_twisting}
use Rattle.spaces.specs.Spaces.{Space, bundle, table, kz1, Plain, set_of}
use Rattle.spaces.specs.Orders.{plain_cmp, ordered}
use Rattle.cells.specs.declared.cells.Cell.{Cell, out-Cell, roll-Cell, roll-out-Cell}
use Rattle.cells.specs.declared.cells.Cell.TheOpen.{Cell-F}
use Rattle.cells.specs.declared.cells.Letter.{Letter}
use Rattle.cells.specs.declared.cells.Simplex.{Simplex}
use Rattle.cells.specs.Order.{cell_cmp}
use Rattle.term_lang.specs.Forms.{cell_form}
use Rattle.term_lang.specs.Belongs.{is_cell, IsCell}
use Rattle.term_lang.specs.Quote.{quote_cell, quote}
use Rattle.term_lang.specs.NormalForms.{HasNormalCells}
use Rattle.term_lang.proofs.CellForms.{tested, is_cell-roll, is_cell-Pair, form-Pair}
use Rattle.normal_forms.proofs.Degeneracies.{has_is}
use Rattle.normal_forms.proofs.FormsOfCells.{IsExact, bare-order}
use Rattle.normal_forms.proofs.PairCells.{IsPairCell, pair_parts, pair_is, pair_form, dimension, form_in, form_bare, quoted_back, formed_back, quoted_pair, in_order, pair_apart, both_equal, both_have, some_same}
use Rattle.normal_forms.proofs.PairedProducts.{on_layer}

-- ---- circle bundles

-- the degeneracies of a pair of a twisted product are the common ones
module _ {K J : Type 0} (B : Simplicial K) (F : Simplicial J) (lb : IsSimplicial B) (lf : IsSimplicial F) (t : K → J) (times : J → J → J) (w : IsTwisting B F t times) where
  pub twisted_has : (m j : ℕ) (z : K × J) → B.In (suc m) z.0 → F.In (suc m) z.1
      → has_degeneracy (twisted_set B F t times) j z ≡ has_degeneracy B j z.0 && has_degeneracy F j z.1
  twisted_has m zero z h k = by (has_degeneracy B 0 z.0) refl
    where
      by : (b : Bool) → has_degeneracy B 0 z.0 ≡ b
          → b && F.same z.1 (F.degeneracy 0 (times (t z.0) (F.face 0 z.1))) ≡ b && has_degeneracy F 0 z.1
      by false e = refl
      by true e =
          ap (λ y. F.same z.1 (F.degeneracy 0 y))
          (ap (λ x. times (t x) (F.face 0 z.1)) (has_is B lb 0 z.0 e) ∙ w.unit m (B.face 0 z.0) (F.face 0 z.1) (lb.face_in m 0 z.0 h (omega arith)) (lf.face_in m 0 z.1 k (omega arith)))
  twisted_has m (suc j) z h k = refl

pub bundle_exact : (t : Table) (c : List ℤ) (la : IsSimplicial (set_of (table t))) (lb : IsSimplicial (set_of kz1)) → IsExact (table t) la → IsExact kz1 lb
    → (laws : IsSimplicial (set_of (bundle t c))) → IsExact (bundle t c) laws
bundle_exact t c la lb ea eb laws = record {
  alike = λ y. both_equal (plain_cmp (table t) y.0 y.0) (plain_cmp kz1 y.1 y.1) (ea.alike y.0) (eb.alike y.1);
  apart = λ n z w h k e f g. pair_apart (table t) kz1 la lb ea eb n z w h.0 h.1 k.0 k.1 g;
}

module _ (t : Table) (c0 : List ℤ) (la : IsSimplicial (set_of (table t))) (lb : IsSimplicial (set_of kz1)) (ea : IsExact (table t) la) (eb : IsExact kz1 lb)
    (laws : IsSimplicial (set_of (bundle t c0))) (twisting : IsTwisting (set_of (table t)) (set_of kz1) (cocycle_twisting integers t c0) (nerve_times integers)) (n : ℕ) (most : n ≤ 32)
    (ca : (m : ℕ) → m ≤ n → HasNormalCells (table t) m) (cb : (m : ℕ) → m ≤ n → HasNormalCells kz1 m) where
  abbrev X : Space
  X = bundle t c0

  twisted_degenerate : (m : ℕ) (z : Plain X) → (set_of X).In m z → is_degenerate (set_of X) m z ≡ some_below m (both_have (table t) kz1 la lb ea eb n most ca cb z)
  twisted_degenerate zero z h = refl
  twisted_degenerate (suc m) z h =
      some_same (suc m) (λ j. has_degeneracy (set_of X) j z) (both_have (table t) kz1 la lb ea eb n most ca cb z)
      (λ j l. twisted_has (set_of (table t)) (set_of kz1) la lb (cocycle_twisting integers t c0) (nerve_times integers) twisting m j z h.0 h.1)

  abbrev IsPair : Cell → Type 0
  IsPair = IsPairCell (table t) kz1 la lb ea eb n most ca cb

  in_layer : (y : Cell-F Cell Letter Simplex) → tested y X n ≡ true → IsPair (roll-Cell y)
  unfolding tested
  in_layer (Cell-F.Pair x y) h = on_layer IsPair x y (pair_parts (table t) kz1 la lb ea eb n most ca cb x y h)
  in_layer y h = absurd (true≢false (sym h))

  parts : (c : Cell) → IsCell X n c → IsPair c
  parts c h =
      subst IsPair (roll-out-Cell c)
      (in_layer (out-Cell c) (ap (λ f. f X n) (sym (is_cell-roll (out-Cell c))) ∙ ap (λ d. is_cell d X n) (roll-out-Cell c) ∙ h))

  form_of : (c : Cell) (h : IsPair c) → cell_form c X ≡ pair_form (table t) kz1 la lb ea eb n most ca cb h.left h.right
  form_of c h = ap (λ d. cell_form d X) h.is ∙ ap (λ f. f X) (form-Pair h.left h.right)

  simplex : (c : Cell) (h : IsPair c) → (set_of X).In n (cell_form c X)
  simplex c h = subst ((set_of X).In n) (sym (form_of c h)) (form_in (table t) kz1 la lb ea eb n most ca cb c h)

  -- the degeneracies of a pair are the common ones, as those of the product are
  bare_form : (c : Cell) (h : IsPair c) → is_degenerate (set_of X) n (pair_form (table t) kz1 la lb ea eb n most ca cb h.left h.right) ≡ false
  bare_form c h =
      twisted_degenerate n (pair_form (table t) kz1 la lb ea eb n most ca cb h.left h.right) (form_in (table t) kz1 la lb ea eb n most ca cb c h)
      ∙ form_bare (table t) kz1 la lb ea eb n most ca cb c h

  bare : (c : Cell) (h : IsPair c) → is_degenerate (set_of X) n (cell_form c X) ≡ false
  bare c h = ap (is_degenerate (set_of X) n) (form_of c h) ∙ bare_form c h

  quoted : (c : Cell) → IsPair c → quote_cell X n (cell_form c X) ≡ c
  quoted c h = ap (quote_cell X n) (form_of c h) ∙ quoted_back (table t) kz1 la lb ea eb n most ca cb c h

  onto : (z : Plain X) (h : IsPair (quote_cell X n z)) → IsCell X n (quote_cell X n z)
  onto z h =
      ap (λ d. is_cell d X n) h.is ∙ ap (λ f. f X n) (is_cell-Pair h.left h.right)
      ∙ pair_is (table t) kz1 la lb ea eb n most ca cb h.left h.right h.left_simplex h.right_simplex h.apart

  formed : (z : Plain X) → (set_of X).In n z → cell_form (quote_cell X n z) X ≡ z
  formed z h = ap (λ f. f X) (form-Pair (quote (table t) n z.0) (quote kz1 n z.1)) ∙ formed_back (table t) kz1 la lb ea eb n most ca cb z h.0 h.1

  in_order_of : (c d : Cell) → IsPair c → IsPair d → cell_cmp c d ≡ (ordered X).cmp n (cell_form c X) (cell_form d X)
  in_order_of c d h k =
      in_order (table t) kz1 la lb ea eb n most ca cb c d h k
      ∙ sym ((λ i. (ordered X).cmp n (form_of c h i) (form_of d k i))
      ∙ bare-order X laws n (pair_form (table t) kz1 la lb ea eb n most ca cb h.left h.right) (pair_form (table t) kz1 la lb ea eb n most ca cb k.left k.right)
      (form_in (table t) kz1 la lb ea eb n most ca cb c h) (form_in (table t) kz1 la lb ea eb n most ca cb d k) (bare_form c h) (bare_form d k))

  pub bundle_cells : HasNormalCells X n
  bundle_cells = record {
    dimension = λ c h. dimension (table t) kz1 la lb ea eb n most ca cb c (parts c h);
    simplex = λ c h. simplex c (parts c h);
    not_degenerate = λ c h. bare c (parts c h);
    once = λ c d h l e. sym (quoted c (parts c h)) ∙ ap (quote_cell X n) e ∙ quoted d (parts d l);
    onto = λ z h k. onto z (quoted_pair (table t) kz1 la lb ea eb n most ca cb z h.0 h.1 (sym (twisted_degenerate n z h) ∙ k));
    quoted = λ c h. quoted c (parts c h);
    formed = λ z h k. formed z h;
    in_order = λ c d h l. in_order_of c d (parts c h) (parts d l);
  }
