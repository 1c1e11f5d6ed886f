-- The order of the cells of the code across degrees, and normal forms of chains of cells, where the cells of the code are those of the space.
use Rattle.std.proofs.Common.{◌≡◌, ℕ, ◌≤◌, ◌⊎◌, inl, inr, refl, sym, ◌∙◌, ap, subst}
use Rattle.std.specs.Ordering.{ordering_then, nat_cmp}
use Rattle.std.specs.declared.cmp.Ordering.{Ordering}
use Rattle.std.specs.declared.cmp.Ordering.TheVariants.{Less, Equal, Greater}
use Rattle.std.proofs.lemmas.Bool.{cases_eq}
use Rattle.std.proofs.lemmas.Cmp.{tied_itself, nat_cmp_total}
use Rattle.std.proofs.lemmas.Map.Lookups.{exact_unsigned}
use Rattle.fp_field.specs.Chains.{Terms, Each}
use Rattle.fp_field.specs.Normal.{normal}
use Rattle.spaces.specs.Spaces.{Space, Plain}
use Rattle.spaces.specs.Orders.{ordered, by_degree}
use Rattle.cells.specs.Dim.{dim_of}
use Rattle.cells.specs.Order.{cell_cmp, kind_of, within_cmp}
use Rattle.cells.proofs.Compared.{cell_cmp-then}
use Rattle.term_lang.specs.Forms.{cell_form}
use Rattle.term_lang.specs.Quote.{quote_cell}
use Rattle.term_lang.specs.NormalForms.{HasNormalCells}
use Rattle.values.specs.Asks.{Cell as GradedCell}
use Rattle.values.specs.Ranks.{IsCell}
use Rattle.oracle_iface.specs.Keys.{quote_chain}
use Rattle.oracle_iface.specs.KeyLaws.{HasCells, IsShown}
use Rattle.oracle_iface.proofs.CarriedChains.{carried-normal}

module _ (a : Space) (n : ℕ) (cells : HasNormalCells a n) (x : Plain a) (is : IsCell a n x) where
  pub dim-quoted : dim_of (quote_cell a n x) ≡ n
  dim-quoted = cells.dimension (quote_cell a n x) (cells.onto x is.0 is.1)

  pub form-quoted : cell_form (quote_cell a n x) a ≡ x
  form-quoted = cells.formed x is.0 is.1

-- where the first order decides, what follows is of no account
decided : (o k w z : Ordering) → (o ≡ Equal → ⊥) → ordering_then (ordering_then o k) w ≡ ordering_then o z
decided Less k w z h = refl
decided Equal k w z h = absurd (h refl)
decided Greater k w z h = refl

module _ (a : Space) (cells : HasCells a) where
  one_degree : (n : ℕ) (x y : Plain a) → n ≤ 32 → IsCell a n x → IsCell a n y
      → cell_cmp (quote_cell a n x) (quote_cell a n y) ≡ ordering_then (nat_cmp n n) ((ordered a).cmp n x y)
  one_degree n x y h is js =
      let here = cells n h in
      here.in_order (quote_cell a n x) (quote_cell a n y) (here.onto x is.0 is.1) (here.onto y js.0 js.1)
      ∙ (λ i. (ordered a).cmp n (form-quoted a n here x is i) (form-quoted a n here y js i))
      ∙ sym (ap (λ o. ordering_then o ((ordered a).cmp n x y)) (tied_itself nat_cmp_total n))

  abbrev AtDegree : GradedCell a → Plain a → ℕ → Type 0
  AtDegree x y m = IsShown a (m, y) → cell_cmp (quote_cell a x.0 x.1) (quote_cell a m y) ≡ ordering_then (nat_cmp x.0 m) ((ordered a).cmp x.0 x.1 y)

  pub order-cells : (x y : GradedCell a) → IsShown a x → IsShown a y
      → cell_cmp (quote_cell a x.0 x.1) (quote_cell a y.0 y.1) ≡ by_degree (ordered a).cmp x y
  order-cells x y h l = by (cases_eq x.0 y.0)
    where
      by : (x.0 ≡ y.0) ⊎ (x.0 ≡ y.0 → ⊥) → cell_cmp (quote_cell a x.0 x.1) (quote_cell a y.0 y.1) ≡ by_degree (ordered a).cmp x y
      by (inl e) = subst (AtDegree x y.1) e (λ k. one_degree x.0 x.1 y.1 h.0 h.1 k.1) l
      by (inr d) =
          let c = quote_cell a x.0 x.1 in
          let b = quote_cell a y.0 y.1 in
          let f : dim_of c ≡ x.0 = dim-quoted a x.0 (cells x.0 h.0) x.1 h.1 in
          let g : dim_of b ≡ y.0 = dim-quoted a y.0 (cells y.0 l.0) y.1 l.1 in
          cell_cmp-then c b
          ∙ (λ i. ordering_then (ordering_then (nat_cmp (f i) (g i)) (nat_cmp (kind_of c) (kind_of b))) (within_cmp c b))
          ∙ decided (nat_cmp x.0 y.0) (nat_cmp (kind_of c) (kind_of b)) (within_cmp c b) ((ordered a).cmp x.0 x.1 y.1)
          (λ e. d (exact_unsigned x.0 y.0 e))

  pub chain-cells : (p : ℕ) (c : Terms (GradedCell a)) → Each (IsShown a) c
      → normal cell_cmp p (quote_chain a c) ≡ quote_chain a (normal (by_degree (ordered a).cmp) p c)
  chain-cells p c e = carried-normal (λ (x : GradedCell a). quote_cell a x.0 x.1) (by_degree (ordered a).cmp) cell_cmp p (IsShown a) order-cells c e
