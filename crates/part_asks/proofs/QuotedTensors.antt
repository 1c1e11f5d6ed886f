-- Tensors of the code for tensors of plain simplices: their order, normal forms of chains of them, and products of two chains.
use Rattle.std.proofs.Common.{◌≡◌, ℕ, zero, suc, ◌+◌, ◌*◌, Bool, true, false, cond, ◌||◌, [], ◌∷◌, ◌++◌, map, refl, ◌∙◌, ap, arith}
use Rattle.std.specs.Ordering.{ordering_then, nat_cmp}
use Rattle.std.specs.declared.cmp.Ordering.{Ordering}
use Rattle.std.specs.declared.cmp.Ordering.TheVariants.{Less, Equal, Greater}
use Rattle.std.proofs.lemmas.List.{map-append}
use Rattle.fp_field.specs.Chains.{Terms, Each}
use Rattle.fp_field.specs.Normal.{normal}
use Rattle.fp_field.proofs.Weights.{Each-append}
use Rattle.cells.specs.declared.cells.Cell.{Cell}
use Rattle.spaces.specs.Simplicial.{Simplicial, has_degeneracy, is_degenerate, some_below}
use Rattle.spaces.specs.Spaces.{Space, Plain, set_of}
use Rattle.spaces.specs.Orders.{ordered, cell_of, dim_of}
use Rattle.spaces.specs.EilenbergZilber.{Tensor, linear, tensor_order}
use Rattle.values.specs.Asks.{Cell as GradedCell}
use Rattle.values.specs.Perturbed.{tensor_terms}
use Rattle.ez_laws.specs.Sides.{on_keys}
use Rattle.ez_maps.specs.Tensors.{tensor_for, tensor_cmp}
use Rattle.tensor_red.specs.Tensors.{tensors}
use Rattle.tensor_red.specs.declared.tensors.Tensor.{Tensor as CodeTensor}
use Rattle.tensor_red.specs.Products.{product_in}
use Rattle.term_lang.specs.Quote.{quote, quote_cell}
use Rattle.oracle_iface.specs.Keys.{quote_chain}
use Rattle.oracle_iface.specs.KeyLaws.{HasCells, IsShown}
use Rattle.oracle_iface.proofs.CarriedChains.{carried_terms, carried-normal}
use Rattle.oracle_iface.proofs.CellOrders.{order-cells}

-- ---- a simplex that is not degenerate is its own cell

neither : (b d : Bool) → (b || d) ≡ false → (b ≡ false) × (d ≡ false)
neither false d e = (refl, e)
neither true d e = absurd (cc)

module _ {K : Type 0} (A : Simplicial K) (x : K) where
  whole-dim : (n : ℕ) → is_degenerate A n x ≡ false → dim_of A n x ≡ n
  whole-dim zero e = refl
  whole-dim (suc n) e =
      let s = neither (some_below n (λ j. has_degeneracy A j x)) (has_degeneracy A n x) e in
      (λ i. whole-dim n s.0 i + cond (s.1 i) 0 1) ∙ (let q : n + 1 ≡ suc n = omega arith in q)

  whole-cell : (n : ℕ) → is_degenerate A n x ≡ false → cell_of A n x ≡ x
  whole-cell zero e = refl
  whole-cell (suc n) e =
      let s = neither (some_below n (λ j. has_degeneracy A j x)) (has_degeneracy A n x) e in
      ap (λ d. cell_of A n (cond d (A.face n x) x)) s.1 ∙ whole-cell n s.0

pub quoted-cell : (a : Space) (n : ℕ) (x : Plain a) → is_degenerate (set_of a) n x ≡ false → (quote a n x).cell ≡ quote_cell a n x
quoted-cell a n x e = λ i. quote_cell a (whole-dim (set_of a) x n e i) (whole-cell (set_of a) x n e i)

-- ---- orders

then-then : (o r s : Ordering) → ordering_then (ordering_then o r) s ≡ ordering_then o (ordering_then r s)
then-then Less r s = refl
then-then Equal r s = refl
then-then Greater r s = refl

module _ (a b : Space) where
  -- the tensor of the two cells
  abbrev pub by_cells : Tensor (Plain a) (Plain b) → CodeTensor Cell Cell
  by_cells z = record { left = quote_cell a z.0 z.1; right = quote_cell b z.2 z.3 }

  -- both parts are cells that the code has
  abbrev pub IsShownTensor : Tensor (Plain a) (Plain b) → Type 0
  IsShownTensor z = IsShown a (z.0, z.1) × IsShown b (z.2, z.3)

  for-is : (z : Tensor (Plain a) (Plain b)) → IsShownTensor z → tensor_for (quote a) (quote b) z ≡ by_cells z
  for-is z h = λ i. record { left = quoted-cell a z.0 z.1 h.0.1.1 i; right = quoted-cell b z.2 z.3 h.1.1.1 i }

  pub terms-for : (c : Terms (Tensor (Plain a) (Plain b))) → Each IsShownTensor c → on_keys (tensor_for (quote a) (quote b)) c ≡ carried_terms by_cells c
  terms-for [] h = refl
  terms-for (t ∷ c) h = λ i. (for-is t.0 h.0 i, t.1) ∷ terms-for c h.1 i

  -- ---- products

  product-row : (x : GradedCell a) (n : ℕ) (e : Terms (GradedCell b))
      → carried_terms by_cells (map (λ u. ((x.0, x.1, u.0.0, u.0.1), n * u.1)) e)
      ≡ map (λ u. (tensors.pair (quote_cell a x.0 x.1) u.0, n * u.1)) (quote_chain b e)
  product-row x n [] = refl
  product-row x n (u ∷ e) = ap (λ l. (by_cells (x.0, x.1, u.0.0, u.0.1), n * u.1) ∷ l) (product-row x n e)

  pub product-quoted : (c : Terms (GradedCell a)) (e : Terms (GradedCell b))
      → carried_terms by_cells (tensor_terms c e) ≡ product_in tensors (quote_chain a c) (quote_chain b e)
  product-quoted [] e = refl
  product-quoted (t ∷ c) e =
      map-append (λ (s : Tensor (Plain a) (Plain b) × ℕ). (by_cells s.0, s.1)) (map (λ u. ((t.0.0, t.0.1, u.0.0, u.0.1), t.1 * u.1)) e) (tensor_terms c e)
      ∙ (λ i. product-row t.0 t.1 e i ++ product-quoted c e i)

  shown-row : (x : GradedCell a) (n : ℕ) (e : Terms (GradedCell b)) → IsShown a x → Each (IsShown b) e
      → Each IsShownTensor (map (λ u. ((x.0, x.1, u.0.0, u.0.1), n * u.1)) e)
  shown-row x n [] h r = tt
  shown-row x n (u ∷ e) h r = ((h, r.0), shown-row x n e h r.1)

  pub product-shown : (c : Terms (GradedCell a)) (e : Terms (GradedCell b)) → Each (IsShown a) c → Each (IsShown b) e → Each IsShownTensor (tensor_terms c e)
  product-shown [] e h r = tt
  product-shown (t ∷ c) e h r =
      Each-append IsShownTensor (map (λ u. ((t.0.0, t.0.1, u.0.0, u.0.1), t.1 * u.1)) e) (tensor_terms c e) (shown-row t.0 t.1 e h.0 r) (product-shown c e h.1 r)

  module _ (cells_a : HasCells a) (cells_b : HasCells b) (p : ℕ) where
    abbrev pub by_tensor : Tensor (Plain a) (Plain b) → Tensor (Plain a) (Plain b) → Ordering
    by_tensor = tensor_order p (linear (ordered a)) (ordered b)

    same-order : (x y : Tensor (Plain a) (Plain b)) → IsShownTensor x → IsShownTensor y → tensor_cmp (by_cells x) (by_cells y) ≡ by_tensor x y
    same-order x y h k =
        (λ i. ordering_then (order-cells a cells_a (x.0, x.1) (y.0, y.1) h.0 k.0 i) (order-cells b cells_b (x.2, x.3) (y.2, y.3) h.1 k.1 i))
        ∙ then-then (nat_cmp x.0 y.0) ((ordered a).cmp x.0 x.1 y.1) (ordering_then (nat_cmp x.2 y.2) ((ordered b).cmp x.2 x.3 y.3))

    -- normal forms are carried to normal forms
    pub normal-tensors : (c : Terms (Tensor (Plain a) (Plain b))) → Each IsShownTensor c
        → normal tensor_cmp p (carried_terms by_cells c) ≡ carried_terms by_cells (normal by_tensor p c)
    normal-tensors c e = carried-normal by_cells by_tensor tensor_cmp p IsShownTensor same-order c e
