-- The homotopy along a chain of tensors comes to tensors that the code has, and these are read back from their quotes.
use Rattle.std.proofs.Common.{◌≡◌, ℕ, ◌+◌, ◌≤◌, List, [], ◌∷◌, ◌++◌, refl, sym, ◌∙◌, ap, subst, arith}
use Rattle.fp_field.specs.declared.prime.Prime.{Prime}
use Rattle.fp_field.specs.Field.{number, sign}
use Rattle.fp_field.specs.Chains.{Terms, Each, scale, extend}
use Rattle.fp_field.specs.Reduction.{one}
use Rattle.spaces.specs.Spaces.{Space, Plain}
use Rattle.spaces.specs.Orders.{ordered}
use Rattle.spaces.specs.EilenbergZilber.{Pair, Tensor, linear, tensor_order}
use Rattle.values.specs.Asks.{Ask, Answers, Right, Cell as GradedCell, ask, gives, ◌>>=◌, f as f_of, h as h_of, asked_with}
use Rattle.values.specs.Perturbed.{t, on_t, tensor_terms}
use Rattle.values.specs.Ranks.{IsValid, loopings}
use Rattle.values.specs.Rules.{part}
use Rattle.values.specs.Values.{value}
use Rattle.values.proofs.Chains.{along, asked_with-on_chain}
use Rattle.values.proofs.Readings.{EachAsk, asked_with-bind}
use Rattle.cells.specs.Dim.{dim_of}
use Rattle.term_lang.specs.Forms.{form}
use Rattle.ez_maps.specs.Tensors.{tensor_form}
use Rattle.oracle_iface.specs.KeyLaws.{HasCells, IsShown}
use Rattle.oracle_iface.proofs.CarriedChains.{carried_terms, each-normal}
use Rattle.oracle_iface.proofs.CellOrders.{dim-quoted, form-quoted}
use Rattle.homology_rules.specs.Shown.{HasShownValues}
use Rattle.homology_rules.proofs.Quoted.{each-append, each-scale, each-extend}
use Rattle.part_asks.specs.Along.{AsksValid, g_along}
use Rattle.part_asks.specs.Reading.{value_of}
use Rattle.part_asks.proofs.AlongG.{along-shown}
use Rattle.part_asks.proofs.QuotedTensors.{IsShownTensor, by_cells, terms-for, product-shown}
use Rattle.part_asks.proofs.ReadTensors.{read-same}
use Rattle.part_asks.proofs.Readings.{value-bind, value-on_chain}
use Rattle.twist_chains.specs.Fibred.{read_tensors, quote_tensors}

front-valid : (P : Ask → Type 0) (js ks : List Ask) → EachAsk P (js ++ ks) → EachAsk P js
front-valid P [] ks h = tt
front-valid P (j ∷ js) ks h = (h.0, front-valid P js ks h.1)

behind-valid : (P : Ask → Type 0) (js ks : List Ask) → EachAsk P (js ++ ks) → EachAsk P ks
behind-valid P [] ks h = h
behind-valid P (j ∷ js) ks h = behind-valid P js ks h.1

within_masks : (n l : ℕ) → n + l ≤ 24 → n ≤ 32
within_masks n l e = omega arith

module _ (p : Prime) (a b : Space) where
  -- ---- reading

  module _ (cells_a : HasCells a) (cells_b : HasCells b) where
    cells-read : (c : Terms (Tensor (Plain a) (Plain b))) → Each (IsShownTensor a b) c → read_tensors a b (carried_terms (by_cells a b) c) ≡ c
    cells-read [] h = refl
    cells-read (u ∷ c) h = λ i. (one-read u.0 h.0 i, u.1) ∷ cells-read c h.1 i
      where
        one-read : (z : Tensor (Plain a) (Plain b)) → IsShownTensor a b z → tensor_form dim_of (λ s. form s a) (λ s. form s b) (by_cells a b z) ≡ z
        one-read z g =
            read-same p a b (by_cells a b z)
            ∙ (λ i. (
              dim-quoted a z.0 (cells_a z.0 g.0.0) z.1 g.0.1 i,
              form-quoted a z.0 (cells_a z.0 g.0.0) z.1 g.0.1 i,
              dim-quoted b z.2 (cells_b z.2 g.1.0) z.3 g.1.1 i,
              form-quoted b z.2 (cells_b z.2 g.1.0) z.3 g.1.1 i,
            ))

    pub shown-read : (c : Terms (Tensor (Plain a) (Plain b))) → Each (IsShownTensor a b) c → read_tensors a b (quote_tensors a b c) ≡ c
    shown-read c h = ap (read_tensors a b) (terms-for a b c h) ∙ cells-read c h

  -- ---- the homotopy

  module _ (q : Pair (Plain a) (Plain b) → Terms (Pair (Plain a) (Plain b))) (shown_a : HasShownValues (number p) a) (shown_b : HasShownValues (number p) b) where
    abbrev t_at : Tensor (Plain a) (Plain b) → Right (Terms (Tensor (Plain a) (Plain b)))
    t_at z = t (number p) (linear (ordered a)) (ordered b) (part a) (part b) q z

    abbrev V : Answers
    V = value (number p)

    module _ (m : ℕ) (x : Plain a) (n : ℕ) (y : Plain b) (valid : AsksValid p (t_at (m, x, n, y))) where
      abbrev back : Right (Terms (GradedCell a))
      back = g_along p a (V (f_of a m x))

      -- what follows G
      abbrev last : Terms (GradedCell a) → Right (Terms (Tensor (Plain a) (Plain b)))
      last c = ask (h_of b n y) >>= λ e. gives (tensor_terms (V (h_of a m x)) (one (n, y)) ++ scale (sign (number p) m) (tensor_terms c e))

      after-f : EachAsk (IsValid (number p)) (asked_with V back ++ asked_with V (last (value_of p back)))
      after-f = subst (EachAsk (IsValid (number p))) (asked_with-bind V back last) valid.1.1

      valid-other : IsValid (number p) (h_of b n y)
      valid-other = (behind-valid (IsValid (number p)) (asked_with V back) (asked_with V (last (value_of p back))) after-f).0

      right-shown : IsShown b (n, y)
      right-shown = (within_masks n (loopings b) valid-other.2, valid-other.1)

      one-shown : Each (IsShownTensor a b) (value_of p (t_at (m, x, n, y)))
      one-shown =
          subst (Each (IsShownTensor a b)) (sym (value-bind p back last))
          (each-append (IsShownTensor a b) (tensor_terms (V (h_of a m x)) (one (n, y))) (scale (sign (number p) m) (tensor_terms (value_of p back) (V (h_of b n y))))
          (product-shown a b (V (h_of a m x)) (one (n, y)) (shown_a.in_h m x valid.0) (right-shown, tt))
          (each-scale (IsShownTensor a b) (sign (number p) m) (tensor_terms (value_of p back) (V (h_of b n y)))
          (product-shown a b (value_of p back) (V (h_of b n y))
          (along-shown p a (V (f_of a m x)) shown_a (front-valid (IsValid (number p)) (asked_with V back) (asked_with V (last (value_of p back))) after-f))
          (shown_b.in_h n y valid-other))))

    each-shown : (c : Terms (Tensor (Plain a) (Plain b))) → EachAsk (IsValid (number p)) (along (λ z. asked_with V (t_at z)) c)
        → Each (λ z. Each (IsShownTensor a b) (value_of p (t_at z))) c
    each-shown [] h = tt
    each-shown (u ∷ c) h = (
      one-shown u.0.0 u.0.1 u.0.2 u.0.3 (front-valid (IsValid (number p)) (asked_with V (t_at u.0)) (along (λ z. asked_with V (t_at z)) c) h),
      each-shown c (behind-valid (IsValid (number p)) (asked_with V (t_at u.0)) (along (λ z. asked_with V (t_at z)) c) h),
    )

    pub homotopy-shown : (c : Terms (Tensor (Plain a) (Plain b))) → AsksValid p (on_t (number p) (linear (ordered a)) (ordered b) (part a) (part b) q c)
        → Each (IsShownTensor a b) (value_of p (on_t (number p) (linear (ordered a)) (ordered b) (part a) (part b) q c))
    homotopy-shown c valid =
        let by = tensor_order (number p) (linear (ordered a)) (ordered b) in
        subst (Each (IsShownTensor a b)) (sym (value-on_chain p t_at by (number p) c))
        (each-normal by (number p) (IsShownTensor a b) (extend (λ z. value_of p (t_at z)) c)
        (each-extend (IsShownTensor a b) (λ z. value_of p (t_at z)) c
        (each-shown c (subst (EachAsk (IsValid (number p))) (asked_with-on_chain V t_at by (number p) c) valid))))
