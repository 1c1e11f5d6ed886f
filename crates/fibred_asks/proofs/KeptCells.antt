-- Cells of a space with their degree and a bounded reach, and the tensors of two of them as tensors of the code.
use Rattle.std.proofs.Common.{◌≡◌, ℕ, ◌+◌, ◌*◌, ◌<◌, ◌≤◌, Bool, true, false, not, ◌&&◌, [], ◌∷◌, map, refl, sym, ◌∙◌, ap, subst, arith}
use Rattle.fp_field.specs.Chains.{Terms, Each}
use Rattle.fp_field.proofs.Weights.{Each-append}
use Rattle.spaces.specs.Simplicial.{is_degenerate}
use Rattle.spaces.specs.Spaces.{Space, Plain, set_of}
use Rattle.spaces.specs.Orders.{ordered}
use Rattle.spaces.specs.EilenbergZilber.{Tensor, linear, tensor_order}
use Rattle.values.specs.Asks.{Cell as GradedCell}
use Rattle.values.specs.Perturbed.{tensor_terms}
use Rattle.cells.specs.declared.cells.Cell.{Cell}
use Rattle.cells.specs.declared.cells.Simplex.{Simplex}
use Rattle.cells.specs.Dim.{dim_of}
use Rattle.ez_laws.proofs.Eaches.{each-so, each-and}
use Rattle.ez_flow.specs.Parts.{HasSimplex}
use Rattle.ez_maps.specs.Tensors.{bare, tensor_cmp, tensor_for}
use Rattle.term_lang.specs.Forms.{cell_form, form}
use Rattle.term_lang.specs.Quote.{quote, quote_cell}
use Rattle.term_lang.specs.NormalForms.{HasNormalForms}
use Rattle.normal_forms.proofs.BuiltForms.{built_forms}
use Rattle.space_faces.specs.Built.{IsAllowedBuilt}
use Rattle.space_pairs.specs.Parts.{IsReached}
use Rattle.space_pairs.specs.Reach.{reach}
use Rattle.oracle_iface.specs.KeyLaws.{HasCells, IsShown}
use Rattle.twist_chains.specs.Fibred.{IsTensorWithin}
use Rattle.twist_chains.proofs.CodeKeys as C
use Rattle.twist_chains.proofs.FirstParts.{parts-within}
use Rattle.part_asks.specs.OneKey.{IsOwnCell}
use Rattle.part_asks.proofs.QuotedTensors.{quoted-cell}
use Rattle.part_asks.proofs.ReadTensors.{bare-form}
use Rattle.fibred_asks.specs.Reached.{IsReachedCell}

-- ---- one space

-- a cell of degree n that the code has, with a reach of at most m
abbrev pub IsKeptCell : (X : Space) → ℕ → ℕ → GradedCell X → Type 0
IsKeptCell X m n c = (c.0 ≡ n) × IsShown X c × (reach X c.1 ≤ m)

module _ (X : Space) where
  -- what has a bounded reach in the code
  pub kept-reached : (k m n : ℕ) (c : GradedCell X) → HasCells X → k ≤ m → IsShown X c → IsReachedCell X k n c → IsKeptCell X m n c
  kept-reached k m n c cells l shown r =
      let e : form (bare (quote_cell X c.0 c.1)) X ≡ c.1 = bare-form (quote_cell X c.0 c.1) X ∙ (cells c.0 shown.0).formed c.1 shown.1.0 shown.1.1 in
      let low : reach X c.1 ≤ k = subst (λ x. reach X x ≤ k) e r.1.2 in
      (r.0, shown, omega (arith, low, l))

  pub each-kept : (k m n : ℕ) (c : Terms (GradedCell X)) → HasCells X → k ≤ m → Each (IsShown X) c → Each (IsReachedCell X k n) c → Each (IsKeptCell X m n) c
  each-kept k m n c cells l shown r =
      each-so c (λ x h. kept-reached k m n x cells l h.0 h.1) (each-and (IsShown X) (IsReachedCell X k n) c shown r)

  module _ (kept : IsAllowedBuilt X) (m : ℕ) (c : Cell) (h : IsReached X m (dim_of c) (bare c)) where
    abbrev forms : HasNormalForms X (dim_of c)
    forms = built_forms X kept.0 kept.1 (dim_of c) h.1

    plain-cell : is_degenerate (set_of X) (dim_of c) (form (bare c) X) ≡ false
    plain-cell = by (is_degenerate (set_of X) (dim_of c) (form (bare c) X)) refl
      where
        by : (b : Bool) → is_degenerate (set_of X) (dim_of c) (form (bare c) X) ≡ b → is_degenerate (set_of X) (dim_of c) (form (bare c) X) ≡ false
        by false e = e
        by true e = let k : 0 < 0 = (forms.degenerate (bare c) h.0).0 e in absurd (omega (arith, k))

    -- a cell of the code is one of the space
    pub kept-bare : IsKeptCell X m (dim_of c) (dim_of c, cell_form c X)
    kept-bare = subst (λ x. IsKeptCell X m (dim_of c) (dim_of c, x)) (bare-form c X) (refl, (h.1, (forms.simplex (bare c) h.0, plain-cell)), h.2)

    -- and is the one for it
    pub own-bare : IsOwnCell X c
    own-bare =
        ap (quote_cell X (dim_of c)) (sym (bare-form c X)) ∙ sym (quoted-cell X (dim_of c) (form (bare c) X) plain-cell)
        ∙ ap (λ (s : Simplex). s.cell) (forms.quoted (bare c) h.0)

  -- a plain simplex with a bounded reach has its simplex of the code
  has-reached : (kept : IsAllowedBuilt X) (m n : ℕ) (x : Plain X) → n ≤ 32 → (set_of X).In n x → reach X x ≤ m
      → HasSimplex (IsReached X m) (λ s. form s X) (quote X) n x
  has-reached kept m n x l is r =
      let all = built_forms X kept.0 kept.1 n l in
      let e : reach X (form (quote X n x) X) ≡ reach X x = ap (reach X) (all.formed x is) in
      ((all.onto x is, l, omega (arith, e, r)), all.formed x is)

-- ---- two spaces

module _ (a b : Space) where
  -- a tensor of degree n of two cells that the code has, with a reach of at most m each
  abbrev pub IsKeptTensor : ℕ → ℕ → Tensor (Plain a) (Plain b) → Type 0
  IsKeptTensor m n z = (z.0 + z.2 ≡ n) × IsKeptCell a m z.0 (z.0, z.1) × IsKeptCell b m z.2 (z.2, z.3)

  module _ (p : ℕ) (pos : 0 < p) (ka : IsAllowedBuilt a) (kb : IsAllowedBuilt b) (m n : ℕ) where
    abbrev IsKey : Tensor (Plain a) (Plain b) → Type 0
    IsKey z =
        C.IsTensorKey p pos (linear (ordered a)) (set_of a).In (ordered b) (IsReached a m) (λ s. form s a) (quote a) (IsReached b m) (λ s. form s b) (quote b)
        (parts-within p pos a b ka kb m) n z

    kept-key : (z : Tensor (Plain a) (Plain b)) → IsKeptTensor m n z → IsKey z
    kept-key z h = (
      (h.0, has-reached a ka m z.0 z.1 h.1.1.0 h.1.1.1.0 h.1.2, has-reached b kb m z.2 z.3 h.2.1.0 h.2.1.1.0 h.2.2),
      λ k. not (h.1.1.1.1 k) && not (h.2.1.1.1 k),
    )

    -- in the code
    pub kept-code : (z : Tensor (Plain a) (Plain b)) → IsKeptTensor m n z → IsTensorWithin a b m n (tensor_for (quote a) (quote b) z)
    kept-code z h =
        C.tensor-is p pos (linear (ordered a)) (set_of a).In (ordered b) (IsReached a m) (λ s. form s a) (quote a) (IsReached b m) (λ s. form s b) (quote b)
        (parts-within p pos a b ka kb m) n z (kept-key z h)

    pub kept-order : (x y : Tensor (Plain a) (Plain b)) → IsKeptTensor m n x → IsKeptTensor m n y
        → tensor_cmp (tensor_for (quote a) (quote b) x) (tensor_for (quote a) (quote b) y) ≡ tensor_order p (linear (ordered a)) (ordered b) x y
    kept-order x y h k =
        C.tensors-keep p pos (linear (ordered a)) (set_of a).In (ordered b) (IsReached a m) (λ s. form s a) (quote a) (IsReached b m) (λ s. form s b) (quote b)
        (parts-within p pos a b ka kb m) n x y (kept-key x h) (kept-key y k)

  module _ (m i j n : ℕ) (sum : i + j ≡ n) where
    -- two cells
    kept-tensor : (x : GradedCell a) (y : GradedCell b) → IsKeptCell a m i x → IsKeptCell b m j y → IsKeptTensor m n (x.0, x.1, y.0, y.1)
    kept-tensor x y hx hy = ((λ k. hx.0 k + hy.0 k) ∙ sum, (refl, hx.1, hx.2), (refl, hy.1, hy.2))

    kept-row : (q : ℕ) (x : GradedCell a) (e : Terms (GradedCell b)) → IsKeptCell a m i x → Each (IsKeptCell b m j) e
        → Each (IsKeptTensor m n) (map (λ u. ((x.0, x.1, u.0.0, u.0.1), q * u.1)) e)
    kept-row q x [] h r = tt
    kept-row q x (u ∷ e) h r = (kept-tensor x u.0 h r.0, kept-row q x e h r.1)

    -- two chains
    pub kept-product : (c : Terms (GradedCell a)) (e : Terms (GradedCell b)) → Each (IsKeptCell a m i) c → Each (IsKeptCell b m j) e
        → Each (IsKeptTensor m n) (tensor_terms c e)
    kept-product [] e h r = tt
    kept-product (t ∷ c) e h r =
        Each-append (IsKeptTensor m n) (map (λ u. ((t.0.0, t.0.1, u.0.0, u.0.1), t.1 * u.1)) e) (tensor_terms c e) (kept-row t.1 t.0 e h.0 r) (kept-product c e h.1 r)
