-- What holds of the simplices of a space and their normal forms holds of its cells and the non-degenerate simplices.
use Rattle.std.proofs.Common.{◌≤◌, ◌≡◌, ℕ, zero, suc, ◌+◌, ◌-◌, ◌^◌, ◌<◌, Bool, true, false, cond, ◌||◌, ◌&&◌, length, refl, sym, ◌∙◌, ap, subst, arith, true≢false, count_ones, lit<}
use Rattle.std.proofs.lemmas.Nat.{pow_pos}
use Rattle.simp_ops.proofs.PlacesOf.{is_lt}
use Rattle.simp_ops.proofs.MaskWords.{places-none}
use Rattle.spaces.specs.Simplicial.{Simplicial, some_below, has_degeneracy, is_degenerate}
use Rattle.spaces.specs.Spaces.{Space, Plain, set_of}
use Rattle.spaces.specs.Orders.{mask, cell_of, dim_of, ordered}
use Rattle.cells.specs.declared.cells.Cell.{Cell}
use Rattle.cells.specs.declared.cells.Simplex.{Simplex}
use Rattle.cells.specs.Dim.{dim_of as cell_dim, capped}
use Rattle.cells.specs.Order.{cell_cmp, simplex_cmp}
use Rattle.cells.proofs.Compared.{simplex_cmp-then}
use Rattle.term_lang.specs.Degenerated.{degenerated}
use Rattle.term_lang.specs.Forms.{cell_form, form}
use Rattle.term_lang.specs.Belongs.{is_cell, is_simplex, IsCell, IsSimplex}
use Rattle.term_lang.specs.Quote.{degens_of, quote_cell, quote}
use Rattle.term_lang.specs.NormalForms.{HasNormalForms, HasNormalCells}
use Rattle.term_lang.proofs.CodeForms.{count_ones-mask}

-- ---- a simplex that is not degenerate has no mask, and is its own cell

neither : (a b : Bool) → a || b ≡ false → (a ≡ false) × (b ≡ false)
neither true b h = absurd (true≢false h)
neither false b h = (refl, h)

module _ {K : Type 0} (A : Simplicial K) where
  bare_mask : (n : ℕ) (y : K) → some_below n (λ j. has_degeneracy A j y) ≡ false → mask A n y ≡ 0
  bare_mask zero y h = refl
  bare_mask (suc n) y h =
      let both = neither (some_below n (λ j. has_degeneracy A j y)) (has_degeneracy A n y) h in
      (λ i. bare_mask n y both.0 i + cond (both.1 i) (2 ^ n) 0)

  bare_dim : (n : ℕ) (y : K) → some_below n (λ j. has_degeneracy A j y) ≡ false → dim_of A n y ≡ n
  bare_dim zero y h = refl
  bare_dim (suc n) y h =
      let both = neither (some_below n (λ j. has_degeneracy A j y)) (has_degeneracy A n y) h in
      (λ i. bare_dim n y both.0 i + cond (both.1 i) 0 1) ∙ omega arith

  bare_cell : (n : ℕ) (y : K) → some_below n (λ j. has_degeneracy A j y) ≡ false → cell_of A n y ≡ y
  bare_cell zero y h = refl
  bare_cell (suc n) y h =
      let both = neither (some_below n (λ j. has_degeneracy A j y)) (has_degeneracy A n y) h in
      ap (λ b. cell_of A n (cond b (A.face n y) y)) both.1 ∙ bare_cell n y both.0

-- ---- a cell as a simplex

abbrev bare : Cell → Simplex
bare c = record { degens = degens_of 0; cell = c }

bare-form : (X : Space) (c : Cell) → form (bare c) X ≡ cell_form c X
bare-form X c = ap (λ w. degenerated (set_of X) w (cell_form c X)) (places-none 32)

bare-is : (X : Space) (n : ℕ) (c : Cell) → is_simplex (bare c) X n ≡ is_cell c X n
bare-is X n c =
    let e : n - 0 ≡ n = omega arith in
    (λ i. is_lt 0 (2 ^ n) (pow_pos n) i && is_cell c X (n - length (places-none 32 i))) ∙ ap (is_cell c X) e

bare-cmp : (c d : Cell) → simplex_cmp (bare c) (bare d) ≡ cell_cmp c d
bare-cmp c d = simplex_cmp-then (bare c) (bare d)

quote-bare : (X : Space) (n : ℕ) (y : Plain X) → is_degenerate (set_of X) n y ≡ false → quote X n y ≡ bare (quote_cell X n y)
quote-bare X n y h =
    λ i. record { degens = degens_of (bare_mask (set_of X) n y h i); cell = quote_cell X (bare_dim (set_of X) n y h i) (bare_cell (set_of X) n y h i) }

not_true : (b : Bool) → (b ≡ true → ⊥) → b ≡ false
not_true true h = absurd (h refl)
not_true false h = refl

module _ (X : Space) (n : ℕ) (most : n ≤ 32) (forms : HasNormalForms X n) where
  as_simplex : (c : Cell) → IsCell X n c → IsSimplex X n (bare c)
  as_simplex c is = bare-is X n c ∙ is

  not_degenerate : (c : Cell) → IsCell X n c → is_degenerate (set_of X) n (cell_form c X) ≡ false
  not_degenerate c is =
      not_true (is_degenerate (set_of X) n (cell_form c X))
      (λ d. let h : 0 < 0 = (forms.degenerate (bare c) (as_simplex c is)).0 (ap (is_degenerate (set_of X) n) (bare-form X c) ∙ d) in absurd (omega (arith, h)))

  pub normal_cells : HasNormalCells X n
  normal_cells = record {
    dimension = λ c is.
        let none : count_ones 0 ≡ 0 = count_ones-mask 0 (lit< tt) ∙ ap length (places-none 32) in
        let d : capped (count_ones 0 + cell_dim c) ≡ n = forms.degree (bare c) (as_simplex c is) in
        omega (arith, none, d);
    simplex = λ c is. subst ((set_of X).In n) (bare-form X c) (forms.simplex (bare c) (as_simplex c is));
    not_degenerate = not_degenerate;
    once = λ c d is js e.
        ap (λ (x : Simplex). x.cell) (forms.once (bare c) (bare d) (as_simplex c is) (as_simplex d js) (bare-form X c ∙ e ∙ sym (bare-form X d)));
    onto = λ y is h. sym (bare-is X n (quote_cell X n y)) ∙ ap (λ x. is_simplex x X n) (sym (quote-bare X n y h)) ∙ forms.onto y is;
    quoted = λ c is.
        ap (λ (x : Simplex). x.cell)
        (sym (quote-bare X n (cell_form c X) (not_degenerate c is)) ∙ ap (quote X n) (sym (bare-form X c)) ∙ forms.quoted (bare c) (as_simplex c is));
    formed = λ y is h. sym (bare-form X (quote_cell X n y)) ∙ ap (λ x. form x X) (sym (quote-bare X n y h)) ∙ forms.formed y is;
    in_order = λ c d is js.
        sym (bare-cmp c d) ∙ forms.in_order (bare c) (bare d) (as_simplex c is) (as_simplex d js)
        ∙ (λ i. (ordered X).cmp n (bare-form X c i) (bare-form X d i));
  }
