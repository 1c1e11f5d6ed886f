-- The cells of products (May, Simplicial Objects in Algebraic Topology, chapter I).
use Rattle.std.proofs.Common.{◌≡◌, ℕ, ◌≤◌, true, false, sym, ◌∙◌, ap, subst, true≢false}
use Rattle.spaces.specs.Simplicial.{IsSimplicial, is_degenerate}
use Rattle.spaces.specs.Spaces.{Space, product, Plain, set_of}
use Rattle.spaces.specs.Orders.{plain_cmp, ordered}
use Rattle.cells.specs.declared.cells.Cell.{Cell, out-Cell, roll-Cell, roll-out-Cell}
use Rattle.cells.specs.declared.cells.Cell.TheVariants.{Pair, rolls-Pair}
use Rattle.cells.specs.declared.cells.Cell.TheOpen.{Cell-F}
use Rattle.cells.specs.declared.cells.Letter.{Letter}
use Rattle.cells.specs.declared.cells.Simplex.{Simplex}
use Rattle.cells.specs.Order.{cell_cmp}
use Rattle.term_lang.specs.Forms.{cell_form}
use Rattle.term_lang.specs.Belongs.{is_cell, IsCell}
use Rattle.term_lang.specs.Quote.{quote_cell, quote}
use Rattle.term_lang.specs.NormalForms.{HasNormalCells}
use Rattle.term_lang.proofs.CellForms.{tested, is_cell-roll, is_cell-Pair, form-Pair}
use Rattle.normal_forms.proofs.FormsOfCells.{IsExact, bare-order}
use Rattle.normal_forms.proofs.PairCells.{IsPairCell, pair_parts, pair_is, pair_form, dimension, form_in, form_bare, quoted_back, formed_back, quoted_pair, in_order, pair_apart, both_equal}

-- a pair that comes rolled
pub on_layer : (P : Cell → Type 0) (x y : Simplex) → P (Pair x y) → P (roll-Cell (Cell-F.Pair x y))
on_layer P x y h = subst P (sym (rolls-Pair x y)) h

module _ (a b : Space) (la : IsSimplicial (set_of a)) (lb : IsSimplicial (set_of b)) (ea : IsExact a la) (eb : IsExact b lb) where
  -- ---- the order

  pub product_exact : (laws : IsSimplicial (set_of (product a b))) → IsExact (product a b) laws
  product_exact laws = record {
    alike = λ y. both_equal (plain_cmp a y.0 y.0) (plain_cmp b y.1 y.1) (ea.alike y.0) (eb.alike y.1);
    apart = λ n z w h k e f g. pair_apart a b la lb ea eb n z w h.0 h.1 k.0 k.1 g;
  }

  module _ (laws : IsSimplicial (set_of (product a b))) (n : ℕ) (most : n ≤ 32) (ca : (m : ℕ) → m ≤ n → HasNormalCells a m) (cb : (m : ℕ) → m ≤ n → HasNormalCells b m) where
    abbrev X : Space
    X = product a b

    abbrev IsPair : Cell → Type 0
    IsPair = IsPairCell a b la lb ea eb n most ca cb

    in_layer : (y : Cell-F Cell Letter Simplex) → tested y X n ≡ true → IsPair (roll-Cell y)
    unfolding tested
    in_layer (Cell-F.Pair x y) h = on_layer IsPair x y (pair_parts a b la lb ea eb n most ca cb x y h)
    in_layer y h = absurd (true≢false (sym h))

    parts : (c : Cell) → IsCell X n c → IsPair c
    parts c h =
        subst IsPair (roll-out-Cell c)
        (in_layer (out-Cell c) (ap (λ f. f X n) (sym (is_cell-roll (out-Cell c))) ∙ ap (λ d. is_cell d X n) (roll-out-Cell c) ∙ h))

    form_of : (c : Cell) (h : IsPair c) → cell_form c X ≡ pair_form a b la lb ea eb n most ca cb h.left h.right
    form_of c h = ap (λ d. cell_form d X) h.is ∙ ap (λ f. f X) (form-Pair h.left h.right)

    simplex : (c : Cell) (h : IsPair c) → (set_of X).In n (cell_form c X)
    simplex c h = subst ((set_of X).In n) (sym (form_of c h)) (form_in a b la lb ea eb n most ca cb c h)

    bare : (c : Cell) (h : IsPair c) → is_degenerate (set_of X) n (cell_form c X) ≡ false
    bare c h = ap (is_degenerate (set_of X) n) (form_of c h) ∙ form_bare a b la lb ea eb n most ca cb c h

    quoted : (c : Cell) → IsPair c → quote_cell X n (cell_form c X) ≡ c
    quoted c h = ap (quote_cell X n) (form_of c h) ∙ quoted_back a b la lb ea eb n most ca cb c h

    onto : (z : Plain X) (h : IsPair (quote_cell X n z)) → IsCell X n (quote_cell X n z)
    onto z h =
        ap (λ d. is_cell d X n) h.is ∙ ap (λ f. f X n) (is_cell-Pair h.left h.right)
        ∙ pair_is a b la lb ea eb n most ca cb h.left h.right h.left_simplex h.right_simplex h.apart

    formed : (z : Plain X) → (set_of X).In n z → cell_form (quote_cell X n z) X ≡ z
    formed z h = ap (λ f. f X) (form-Pair (quote a n z.0) (quote b n z.1)) ∙ formed_back a b la lb ea eb n most ca cb z h.0 h.1

    in_order_of : (c d : Cell) → IsPair c → IsPair d → cell_cmp c d ≡ (ordered X).cmp n (cell_form c X) (cell_form d X)
    in_order_of c d h k =
        in_order a b la lb ea eb n most ca cb c d h k
        ∙ sym ((λ i. (ordered X).cmp n (form_of c h i) (form_of d k i))
        ∙ bare-order X laws n (pair_form a b la lb ea eb n most ca cb h.left h.right) (pair_form a b la lb ea eb n most ca cb k.left k.right)
        (form_in a b la lb ea eb n most ca cb c h) (form_in a b la lb ea eb n most ca cb d k) (form_bare a b la lb ea eb n most ca cb c h) (form_bare a b la lb ea eb n most ca cb d k))

    pub product_cells : HasNormalCells X n
    product_cells = record {
      dimension = λ c h. dimension a b la lb ea eb n most ca cb c (parts c h);
      simplex = λ c h. simplex c (parts c h);
      not_degenerate = λ c h. bare c (parts c h);
      once = λ c d h l e. sym (quoted c (parts c h)) ∙ ap (quote_cell X n) e ∙ quoted d (parts d l);
      onto = λ z h k. onto z (quoted_pair a b la lb ea eb n most ca cb z h.0 h.1 k);
      quoted = λ c h. quoted c (parts c h);
      formed = λ z h k. formed z h;
      in_order = λ c d h l. in_order_of c d (parts c h) (parts d l);
    }
