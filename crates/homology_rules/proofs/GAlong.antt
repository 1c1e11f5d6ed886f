-- G of the small cells of a vector: the cells of the table hold chains of the space, and their sum is the vector's chain.
use Rattle.std.proofs.Common.{◌≡◌, List, [], ◌∷◌, ◌++◌, map, length, All, refl, sym, ◌∙◌, ap, subst}
use Rattle.std.specs.Prelude.{None}
use Rattle.std.specs.List.{AllByRecursion as Each}
use Rattle.std.proofs.lemmas.List.{length-map}
use Rattle.std.proofs.lemmas.List.Elements.{All-from_recursion}
use Rattle.fp_field.specs.declared.element.Fp.{Fp}
use Rattle.fp_field.specs.Field.{number}
use Rattle.fp_field.specs.Chains.{Terms, scale, extend, combination}
use Rattle.fp_field.specs.Normal.{normal}
use Rattle.echelons.specs.Echelon.{Vector}
use Rattle.chain_core.specs.Formal.{Formal, numbers}
use Rattle.values.specs.Asks.{Answer, g}
use Rattle.values.specs.Outcomes.{usual_limits, outcome, is_value, is_over, Outcome as OutcomeOf}
use Rattle.term_lang.specs.SpaceOf.{space_of}
use Rattle.cells.specs.declared.cells.Cell.{Cell}
use Rattle.cells.specs.declared.cells.SmallCell.{SmallCell}
use Rattle.cells.specs.Order.{cell_cmp}
use Rattle.oracle_iface.specs.declared.keys.Key.{Key}
use Rattle.oracle_iface.specs.declared.keys.Op.TheVariants.{G}
use Rattle.oracle_iface.specs.declared.cell_values.CellValue.{CellValue}
use Rattle.oracle_iface.specs.SmallForms.{small_form}
use Rattle.oracle_iface.specs.Stands.{quote_outcome}
use Rattle.homology_rules.specs.Asking.{outcome_of, refusal_in, first_refusal}
use Rattle.homology_rules.specs.Held.{HasBigOver, big_in}
use Rattle.homology_rules.specs.SmallKeys.{small_key_of}
use Rattle.homology_rules.specs.Vectors.{terms_over, keys_of_vector, carried_of}
use Rattle.homology_rules.proofs.Answered.{outcome-of_cell, none-split}

-- G of a small cell is a chain of the space, unless it is refused
pub big-of_g : (k : Key) (y : SmallCell) → refusal_in (outcome_of (small_key_of k G y)) ≡ None → HasBigOver k.prime (outcome_of (small_key_of k G y))
unfolding outcome_of
big-of_g k y = by (outcome usual_limits (number k.prime) (g (space_of k.term) (small_form y (space_of k.term))))
  where
    by : (o : OutcomeOf (Answer (g (space_of k.term) (small_form y (space_of k.term))))) → refusal_in (quote_outcome k.prime (g (space_of k.term) (small_form y (space_of k.term))) o) ≡ None
        → HasBigOver k.prime (quote_outcome k.prime (g (space_of k.term) (small_form y (space_of k.term))) o)
    by (is_value v) e = (tt, refl)
    by (is_over w) e = absurd (cc)

module _ (k : Key) where
  abbrev pub g_key : SmallCell → Key
  g_key y = small_key_of k G y

  abbrev pub g_chain : SmallCell → Terms Cell
  g_chain y = (big_in (outcome_of (g_key y))).terms

  pub keys-numbers : (ts : List (SmallCell × Fp)) → map (λ t. g_key t.0) ts ≡ map (λ t. g_key t.0) (numbers ts)
  keys-numbers [] = refl
  keys-numbers (t ∷ ts) = ap (λ ks. g_key t.0 ∷ ks) (keys-numbers ts)

  held : (ts : List (SmallCell × Fp)) (cells : List CellValue) → map (λ v. v.key) cells ≡ map (λ t. g_key t.0) ts → first_refusal (map (λ t. g_key t.0) ts) ≡ None
      → Each (λ v. HasBigOver k.prime v.outcome) cells
  held ts [] e h = tt
  held [] (v ∷ cells) e h = absurd (cc)
  held (t ∷ ts) (v ∷ cells) e h =
      let s = none-split (g_key t.0) (map (λ x. g_key x.0) ts) h in
      let a : v.key ≡ g_key t.0 = cc in
      let b : map (λ x. x.key) cells ≡ map (λ x. g_key x.0) ts = cc in
      (subst (HasBigOver k.prime) (sym (outcome-of_cell v ∙ ap outcome_of a)) (big-of_g k t.0 s.0), held ts cells b s.1)

  pub all_held : (ts : List (SmallCell × Fp)) (cells : List CellValue) → map (λ v. v.key) cells ≡ map (λ t. g_key t.0) ts → first_refusal (map (λ t. g_key t.0) ts) ≡ None
      → All (λ v. HasBigOver k.prime v.outcome) cells
  all_held ts cells e h = All-from_recursion (λ v. HasBigOver k.prime v.outcome) cells (held ts cells e h)

  pub as_many : (ts : List (SmallCell × Fp)) (cells : List CellValue) → map (λ v. v.key) cells ≡ map (λ t. g_key t.0) ts → length cells ≡ length ts
  as_many ts cells e = sym (length-map cells (λ v. v.key)) ∙ ap length e ∙ length-map ts (λ t. g_key t.0)

  -- the sum of the chains that the cells hold is that of the values of G
  pub summed : (ts : List (SmallCell × Fp)) (cells : List CellValue) → map (λ v. v.key) cells ≡ map (λ t. g_key t.0) ts
      → combination (map (λ t. t.1.value) ts) (map (λ v. (big_in v.outcome).terms) cells) ≡ extend g_chain (numbers ts)
  summed [] [] e = refl
  summed [] (v ∷ cells) e = absurd (cc)
  summed (t ∷ ts) [] e = absurd (cc)
  summed (t ∷ ts) (v ∷ cells) e =
      let a : v.key ≡ g_key t.0 = cc in
      let b : map (λ x. x.key) cells ≡ map (λ x. g_key x.0) ts = cc in
      λ j. scale t.1.value (big_in ((outcome-of_cell v ∙ ap outcome_of a) j)).terms ++ summed ts cells b j

  module _ (ys : List SmallCell) (v : Vector) (ts lent : List (SmallCell × Fp)) (lent-is : lent ≡ ts) (terms-are : numbers ts ≡ terms_over ys v) where
    -- the keys that are made of the terms are those of the vector
    pub same_keys : (keys asked : List Key) → asked ≡ keys → keys ≡ map (λ t. g_key t.0) lent → asked ≡ keys_of_vector k ys v
    same_keys keys asked e f = e ∙ f ∙ ap (map (λ t. g_key t.0)) lent-is ∙ keys-numbers ts ∙ ap (map (λ t. g_key t.0)) terms-are

    -- what the cells hold sums up to G of the vector
    pub carried-is : (cells lent_cells : List CellValue) (x : Formal Cell) → lent_cells ≡ cells → map (λ v. v.key) cells ≡ map (λ t. g_key t.0) lent → x.prime ≡ k.prime
        → x.terms ≡ normal cell_cmp (number k.prime) (combination (map (λ t. t.1.value) lent) (map (λ v. (big_in v.outcome).terms) lent_cells))
        → x ≡ carried_of k ys v
    carried-is cells lent_cells x e f h t = λ i. record { prime = h i; terms = terms i }
      where
        terms : x.terms ≡ normal cell_cmp (number k.prime) (extend g_chain (terms_over ys v))
        terms =
            t ∙ (λ i. normal cell_cmp (number k.prime) (combination (map (λ t. t.1.value) (lent-is i)) (map (λ v. (big_in v.outcome).terms) (e i))))
            ∙ ap (normal cell_cmp (number k.prime)) (summed ts cells (f ∙ ap (map (λ t. g_key t.0)) lent-is) ∙ ap (extend g_chain) terms-are)
