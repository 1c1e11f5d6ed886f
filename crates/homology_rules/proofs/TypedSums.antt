-- F and H of the cells of a chain, summed up over keys, and as the definitions say.
use Rattle.std.proofs.Common.{◌≡◌, ◌≤◌, ℕ, ◌+◌, [], ◌∷◌, ◌++◌, map, sym, ◌∙◌, ap, subst}
use Rattle.std.specs.Prelude.{None}
use Rattle.std.specs.declared.cmp.Ordering.{Ordering}
use Rattle.fp_field.specs.Field.{number}
use Rattle.fp_field.specs.Chains.{Terms, Each, extend}
use Rattle.fp_field.specs.Normal.{normal}
use Rattle.echelons.specs.Echelon.{Vector}
use Rattle.spaces.specs.Spaces.{Space, Plain}
use Rattle.spaces.specs.Allowed.{IsAllowed}
use Rattle.spaces.specs.Orders.{ordered, by_degree}
use Rattle.spaces.specs.SmallCells.{small_cmp}
use Rattle.values.specs.Asks.{Cell, Answers, Right, basis, f, g, h, ask, on_chain, value_with}
use Rattle.values.specs.Cycles.{carried, terms_of}
use Rattle.values.specs.Ranks.{IsValid, loopings}
use Rattle.values.specs.Values.{value}
use Rattle.values.proofs.Chains.{value_with-on_chain}
use Rattle.term_lang.specs.declared.terms.Term.{Term}
use Rattle.term_lang.specs.SpaceOf.{space_of}
use Rattle.term_lang.specs.Quote.{quote_cell}
use Rattle.cells.specs.Order.{cell_cmp}
use Rattle.cells.specs.Small.{small_cmp as code_cmp}
use Rattle.oracle_iface.specs.declared.keys.Key.{Key}
use Rattle.oracle_iface.specs.declared.keys.Op.TheVariants.{F, H}
use Rattle.oracle_iface.specs.declared.keys.Place.TheVariants.{Big as BigPlace}
use Rattle.oracle_iface.specs.Keys.{key_of, quote_chain, quote_small_chain}
use Rattle.oracle_iface.specs.KeyLaws.{HasCells, IsShown}
use Rattle.oracle_iface.proofs.CarriedChains.{each-normal}
use Rattle.oracle_iface.proofs.CellOrders.{chain-cells}
use Rattle.oracle_iface.proofs.KeysBack.{valid-back}
use Rattle.homology_rules.specs.Asking.{outcome_of, refusal_in, first_refusal}
use Rattle.homology_rules.specs.CellKeys.{cell_key_of}
use Rattle.homology_rules.specs.Held.{big_in, small_in}
use Rattle.homology_rules.specs.Shown.{IsSmallShown, HasShownValues}
use Rattle.homology_rules.proofs.Answered.{none-split}
use Rattle.homology_rules.proofs.Quoted.{carried-append, each-append, each-extend, each-weaker}
use Rattle.homology_rules.proofs.QuotedSums.{small-sum, big-sum}
use Rattle.homology_rules.proofs.QuotedVectors.{each-terms}
use Rattle.homology_rules.proofs.TypedCycles.{g-shown}
use Rattle.homology_rules.proofs.TypedKeys.{value-told, term-is, named-is}

-- ---- a sum has only cells that its parts have

on_chain-each : {K J : Type 0} (answers : Answers) (P : J → Type 0) (t : K → Right (Terms J)) (cmp : J → J → Ordering) (p : ℕ) (c : Terms K)
    → Each (λ x. Each P (value_with answers (t x))) c → Each P (value_with answers (on_chain cmp p t c))
on_chain-each answers P t cmp p c e =
    subst (Each P) (sym (value_with-on_chain answers t cmp p c))
    (each-normal cmp p P (extend (λ x. value_with answers (t x)) c) (each-extend P (λ x. value_with answers (t x)) c e))

-- two chains, one after the other
pub sum-quoted : (a : Space) (p : ℕ) (c d : Terms (Cell a)) → HasCells a → Each (IsShown a) c → Each (IsShown a) d
    → normal cell_cmp p (quote_chain a c ++ quote_chain a d) ≡ quote_chain a (normal (by_degree (ordered a).cmp) p (c ++ d))
sum-quoted a p c d cells e u =
    ap (normal cell_cmp p) (sym (carried-append (λ (x : Cell a). quote_cell a x.0 x.1) c d)) ∙ chain-cells a cells p (c ++ d) (each-append (IsShown a) c d e u)

-- ---- over keys

module _ (k : Key) (a : Space) (of : space_of k.term ≡ a) where
  abbrev p : ℕ
  p = number k.prime

  pub f_key-is : (n : ℕ) (x : Plain a) → cell_key_of k F (quote_cell a n x) ≡ key_of k.prime (f a n x)
  f_key-is n x = ap (λ (t : Term). record { op = F; prime = k.prime; place = BigPlace (quote_cell a n x); term = t }) (sym (term-is k a of))

  pub h_key-is : (n : ℕ) (x : Plain a) → cell_key_of k H (quote_cell a n x) ≡ key_of k.prime (h a n x)
  h_key-is n x = ap (λ (t : Term). record { op = H; prime = k.prime; place = BigPlace (quote_cell a n x); term = t }) (sym (term-is k a of))

  pub f-told : (n : ℕ) (x : Plain a) → HasCells a → IsValid p (f a n x) → refusal_in (outcome_of (cell_key_of k F (quote_cell a n x))) ≡ None
      → (small_in (outcome_of (cell_key_of k F (quote_cell a n x)))).terms ≡ quote_small_chain a (value p (f a n x))
  f-told n x cells is none =
      ap (λ j. (small_in (outcome_of j)).terms) (f_key-is n x)
      ∙ ap (λ o. (small_in o).terms)
      (value-told k.prime (f a n x) (valid-back k.prime (f a n x) (named-is k a of) cells is) (sym (ap (λ j. refusal_in (outcome_of j)) (f_key-is n x)) ∙ none))

  pub h-told : (n : ℕ) (x : Plain a) → HasCells a → IsValid p (h a n x) → refusal_in (outcome_of (cell_key_of k H (quote_cell a n x))) ≡ None
      → (big_in (outcome_of (cell_key_of k H (quote_cell a n x)))).terms ≡ quote_chain a (value p (h a n x))
  h-told n x cells is none =
      ap (λ j. (big_in (outcome_of j)).terms) (h_key-is n x)
      ∙ ap (λ o. (big_in o).terms)
      (value-told k.prime (h a n x) (valid-back k.prime (h a n x) (named-is k a of) cells is) (sym (ap (λ j. refusal_in (outcome_of j)) (h_key-is n x)) ∙ none))

  f-along : (z : Terms (Cell a)) → HasCells a → Each (λ x. IsValid p (f a x.0 x.1)) z → first_refusal (map (λ t. cell_key_of k F t.0) (quote_chain a z)) ≡ None
      → Each (λ x. (small_in (outcome_of (cell_key_of k F (quote_cell a x.0 x.1)))).terms ≡ quote_small_chain a (value p (f a x.0 x.1))) z
  f-along [] cells e none = tt
  f-along (t ∷ z) cells e none =
      let s = none-split (cell_key_of k F (quote_cell a t.0.0 t.0.1)) (map (λ u. cell_key_of k F u.0) (quote_chain a z)) none in
      (f-told t.0.0 t.0.1 cells e.0 s.0, f-along z cells e.1 s.1)

  h-along : (z : Terms (Cell a)) → HasCells a → Each (λ x. IsValid p (h a x.0 x.1)) z → first_refusal (map (λ t. cell_key_of k H t.0) (quote_chain a z)) ≡ None
      → Each (λ x. (big_in (outcome_of (cell_key_of k H (quote_cell a x.0 x.1)))).terms ≡ quote_chain a (value p (h a x.0 x.1))) z
  h-along [] cells e none = tt
  h-along (t ∷ z) cells e none =
      let s = none-split (cell_key_of k H (quote_cell a t.0.0 t.0.1)) (map (λ u. cell_key_of k H u.0) (quote_chain a z)) none in
      (h-told t.0.0 t.0.1 cells e.0 s.0, h-along z cells e.1 s.1)

  module _ (shown : HasShownValues p a) where
    pub f-sum : (z : Terms (Cell a)) → Each (λ x. IsValid p (f a x.0 x.1)) z → first_refusal (map (λ t. cell_key_of k F t.0) (quote_chain a z)) ≡ None
        → normal code_cmp p (extend (λ x. (small_in (outcome_of (cell_key_of k F x))).terms) (quote_chain a z))
        ≡ quote_small_chain a (value_with (value p) (on_chain (small_cmp a) p (λ x. ask (f a x.0 x.1)) z))
    f-sum z e none =
        small-sum a p (λ (x : Cell a). quote_cell a x.0 x.1) z (λ x. (small_in (outcome_of (cell_key_of k F x))).terms) (λ x. value p (f a x.0 x.1))
        (f-along z shown.cells e none) (each-weaker (λ x. IsValid p (f a x.0 x.1)) (λ x. Each (IsSmallShown a) (value p (f a x.0 x.1))) z (λ x is. shown.in_f x.0 x.1 is) e)
        ∙ ap (quote_small_chain a) (sym (value_with-on_chain (value p) (λ (x : Cell a). ask (f a x.0 x.1)) (small_cmp a) p z))

    pub h-sum : (z : Terms (Cell a)) → Each (λ x. IsValid p (h a x.0 x.1)) z → first_refusal (map (λ t. cell_key_of k H t.0) (quote_chain a z)) ≡ None
        → normal cell_cmp p (extend (λ x. (big_in (outcome_of (cell_key_of k H x))).terms) (quote_chain a z))
        ≡ quote_chain a (value_with (value p) (on_chain (by_degree (ordered a).cmp) p (λ x. ask (h a x.0 x.1)) z))
    h-sum z e none =
        big-sum a p (λ (x : Cell a). quote_cell a x.0 x.1) z (λ x. (big_in (outcome_of (cell_key_of k H x))).terms) (λ x. value p (h a x.0 x.1)) shown.cells
        (h-along z shown.cells e none) (each-weaker (λ x. IsValid p (h a x.0 x.1)) (λ x. Each (IsShown a) (value p (h a x.0 x.1))) z (λ x is. shown.in_h x.0 x.1 is) e)
        ∙ ap (quote_chain a) (sym (value_with-on_chain (value p) (λ (x : Cell a). ask (h a x.0 x.1)) (by_degree (ordered a).cmp) p z))

-- ---- the sums have only cells that the code has

module _ (p : ℕ) (a : Space) (shown : HasShownValues p a) where
  pub f-sum_shown : (z : Terms (Cell a)) → Each (λ x. IsValid p (f a x.0 x.1)) z
      → Each (IsSmallShown a) (value_with (value p) (on_chain (small_cmp a) p (λ x. ask (f a x.0 x.1)) z))
  f-sum_shown z e =
      on_chain-each (value p) (IsSmallShown a) (λ (x : Cell a). ask (f a x.0 x.1)) (small_cmp a) p z
      (each-weaker (λ x. IsValid p (f a x.0 x.1)) (λ x. Each (IsSmallShown a) (value p (f a x.0 x.1))) z (λ x is. shown.in_f x.0 x.1 is) e)

  pub h-sum_shown : (z : Terms (Cell a)) → Each (λ x. IsValid p (h a x.0 x.1)) z
      → Each (IsShown a) (value_with (value p) (on_chain (by_degree (ordered a).cmp) p (λ x. ask (h a x.0 x.1)) z))
  h-sum_shown z e =
      on_chain-each (value p) (IsShown a) (λ (x : Cell a). ask (h a x.0 x.1)) (by_degree (ordered a).cmp) p z
      (each-weaker (λ x. IsValid p (h a x.0 x.1)) (λ x. Each (IsShown a) (value p (h a x.0 x.1))) z (λ x is. shown.in_h x.0 x.1 is) e)

  pub g-sum_shown : (n : ℕ) (v : Vector) → IsAllowed a → n + loopings a ≤ 24 → Each (IsShown a) (value_with (value p) (carried p a (value p (basis a n)) v))
  g-sum_shown n v allowed low =
      on_chain-each (value p) (IsShown a) (λ y. ask (g a y)) (by_degree (ordered a).cmp) p (terms_of p a (value p (basis a n)) v)
      (each-terms a p (λ y. Each (IsShown a) (value p (g a y))) (value p (basis a n)) v (g-shown p a n allowed low shown))
