-- The simplices that texts mean, and the terms that the code keeps of them.
use Rattle.std.proofs.Common.{◌≡◌, ℕ, ◌-◌, ◌^◌, ◌<◌, ◌≤◌, Bool, true, false, cond, nat_lt, ◌⊎◌, inl, inr, [], ◌∷◌, length, Option, Some, None, refl, sym, ◌∙◌, ap, arith}
use Rattle.std.proofs.lemmas.Option.{none-some}
use Rattle.std.proofs.lemmas.Bool.{cases_lt}
use Rattle.fp_field.specs.declared.element.Fp.{Fp}
use Rattle.fp_field.specs.Chains.{Terms, Each}
use Rattle.chain_core.specs.Formal.{numbers}
use Rattle.simp_ops.specs.Bits.{mask_word}
use Rattle.simp_ops.proofs.Squeezed.{and_right}
use Rattle.simp_ops.proofs.MaskWords.{places-none}
use Rattle.simp_ops.proofs.PlacesOf.{is_lt}
use Rattle.spaces.specs.Simplicial.{is_degenerate}
use Rattle.spaces.specs.Spaces.{Space, Plain, set_of}
use Rattle.cells.specs.declared.cells.Simplex.{Simplex}
use Rattle.term_lang.specs.Belongs.{is_cell, IsCell, IsSimplex}
use Rattle.term_lang.specs.Quote.{quote, quote_cell}
use Rattle.term_lang.specs.NormalForms.{HasNormalForms, HasNormalCells}
use Rattle.values.specs.Asks.{Cell as GradedCell}
use Rattle.oracle_iface.specs.Keys.{quote_chain}
use Rattle.values.specs.Sizes.{letters, integer}
use Rattle.oracle_iface.specs.KeyLaws.{IsShown}
use Rattle.oracle_iface.specs.Limits.{kind_past}
use Rattle.oracle_iface.specs.declared.bodies.Kind.{Kind}
use Rattle.oracle_iface.specs.declared.bodies.Kind.TheVariants.{Letters, Integer, Terms as InTerms}
use Rattle.script_lang.specs.declared.simplices.SimplexText.{SimplexText}
use Rattle.script_lang.specs.Meaning.{meaning}
use Rattle.script_lang.specs.Resolved.{simplex_past}
use Rattle.script_lang.proofs.ResolveSpaces.{meant_in}
use Rattle.space_faces.specs.Boundaries.{IsBounded}
use Rattle.space_faces.specs.CodeBoundaries.{kept}
use Rattle.space_faces.proofs.FaceSteps.{no_mask_form, kept_cell, kept_none}
use Rattle.normal_forms.proofs.BuiltForms.{built_forms, built_cells}
use Rattle.session_core.specs.Whole.{IsReady}

-- what is past no limit has no integer past the limit
integer_within : (a b : ℕ) → kind_past (record { letters = a; integer = b; terms = 0 }) ≡ None → b ≤ 2 ^ 40
integer_within a b e = by (cases_lt 100000 b) (nat_lt 64 a) e
  where
    from : Bool → Bool → Option (Kind × ℕ)
    from x y =
        elim x [
          | true ↦ Some (Letters, a)
          | false ↦ elim y [
            | true ↦ Some (Integer, b)
            | false ↦ elim (nat_lt 50000 0) [ true ↦ Some (InTerms, 0) | false ↦ None ]
          ]
        ]

    by : (100000 < b) ⊎ (b ≤ 100000) → (x : Bool) → from x (nat_lt 100000 b) ≡ None → b ≤ 2 ^ 40
    by (inr h) x f = omega (arith, h)
    by (inl h) true f = absurd (none-some (Letters, a) (sym f))
    by (inl h) false f = absurd (none-some (Integer, b) (sym f ∙ ap (from false) (is_lt 100000 b h)))

module _ (X : Space) (ready : IsReady X) (n : ℕ) where
  -- what a text means is a simplex of the degree
  pub meant : (text : SimplexText) (y : Plain X) → meaning text X n ≡ Some y → (set_of X).In n y
  meant text y e = meant_in X ready.1 ready.0.0 text n y e

  -- the terms of a simplex that is not degenerate
  abbrev pub terms_of : Plain X → ℕ → Terms (GradedCell X)
  terms_of y c = cond (is_degenerate (set_of X) n y) [] (((n, y), c) ∷ [])

  module _ (most : n ≤ 16) (y : Plain X) (inside : (set_of X).In n y) where
    low : n ≤ 32
    low = omega arith

    forms : HasNormalForms X n
    forms = built_forms X ready.0 ready.1 n low

    cells : HasNormalCells X n
    cells = built_cells X ready.0 ready.1 n low

    simplex : IsSimplex X n (quote X n y)
    simplex = forms.onto y inside

    left : (x : Simplex) → x.degens.mask ≡ 0 → n - length (mask_word x.degens.mask) ≡ n
    left x e =
        let k : n - 0 ≡ n = omega arith in
        ap (λ m. n - length (mask_word m)) e ∙ ap (λ w. n - length w) (places-none 32) ∙ k

    cell_is : (quote X n y).degens.mask ≡ 0 → quote_cell X n y ≡ (quote X n y).cell
    cell_is e =
        let x = quote X n y in
        let c : IsCell X n x.cell = ap (is_cell x.cell X) (sym (left x e)) ∙ and_right (nat_lt x.degens.mask (2 ^ n)) (is_cell x.cell X (n - length (mask_word x.degens.mask))) simplex in
        ap (quote_cell X n) (sym (forms.formed y inside) ∙ no_mask_form X x e) ∙ cells.quoted x.cell c

    bare : (quote X n y).degens.mask ≡ 0 → is_degenerate (set_of X) n y ≡ false
    bare e = by (is_degenerate (set_of X) n y) refl
      where
        by : (b : Bool) → is_degenerate (set_of X) n y ≡ b → b ≡ false
        by true d =
            let k : 0 < (quote X n y).degens.mask = (forms.degenerate (quote X n y) simplex).0 (ap (is_degenerate (set_of X) n) (forms.formed y inside) ∙ d) in
            absurd (omega (arith, k, e))
        by false d = refl

    pub kept-numbers : (s : Fp) → numbers (kept (quote X n y) s) ≡ quote_chain X (terms_of y s.value)
    kept-numbers s = by (cases_lt 0 (quote X n y).degens.mask)
      where
        by : (0 < (quote X n y).degens.mask) ⊎ ((quote X n y).degens.mask ≤ 0) → numbers (kept (quote X n y) s) ≡ quote_chain X (terms_of y s.value)
        by (inl k) =
            let d : is_degenerate (set_of X) n y ≡ true = ap (is_degenerate (set_of X) n) (sym (forms.formed y inside)) ∙ (forms.degenerate (quote X n y) simplex).1 k in
            ap numbers (kept_none (quote X n y) s k) ∙ sym (ap (λ b. quote_chain X (cond b [] (((n, y), s.value) ∷ []))) d)
        by (inr k) =
            let z : (quote X n y).degens.mask ≡ 0 = omega arith in
            ap numbers (kept_cell (quote X n y) s z) ∙ ap (λ c. (c, s.value) ∷ []) (sym (cell_is z))
            ∙ sym (ap (λ b. quote_chain X (cond b [] (((n, y), s.value) ∷ []))) (bare z))

    -- within the limit on integers, where the simplex is
    pub kept-bounded : simplex_past X y ≡ None → (c : ℕ) → Each (IsBounded X) (terms_of y c)
    kept-bounded small c = by (is_degenerate (set_of X) n y)
      where
        by : (b : Bool) → Each (IsBounded X) (cond b [] (((n, y), c) ∷ []))
        by true = tt
        by false = (integer_within (letters X y) (integer X y) small, tt)

    pub kept-shown : (c : ℕ) → Each (IsShown X) (terms_of y c)
    kept-shown c = by (is_degenerate (set_of X) n y) refl
      where
        by : (b : Bool) → is_degenerate (set_of X) n y ≡ b → Each (IsShown X) (cond b [] (((n, y), c) ∷ []))
        by true d = tt
        by false d = ((low, (inside, d)), tt)
