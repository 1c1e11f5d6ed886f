-- The sum of what keys at the elements of a chain come to; F and H at cells.
use Rattle.std.proofs.Common.{◌≡◌, List, [], ◌∷◌, ◌++◌, map, length, All, None, refl, sym, ◌∙◌, ap, subst}
use Rattle.std.specs.List.{AllByRecursion as Each}
use Rattle.std.proofs.lemmas.List.{length-map}
use Rattle.std.proofs.lemmas.List.Elements.{All-from_recursion}
use Rattle.fp_field.specs.declared.element.Fp.{Fp}
use Rattle.fp_field.specs.Field.{number}
use Rattle.fp_field.specs.Chains.{Terms, scale, extend, combination}
use Rattle.chain_core.specs.Formal.{numbers}
use Rattle.values.specs.Asks.{Answer, f as f_at, h as h_at}
use Rattle.values.specs.Outcomes.{usual_limits, outcome, is_value, is_over, Outcome as OutcomeOf}
use Rattle.cells.specs.declared.cells.Cell.{Cell}
use Rattle.cells.specs.Dim.{dim_of}
use Rattle.term_lang.specs.Forms.{cell_form}
use Rattle.term_lang.specs.SpaceOf.{space_of}
use Rattle.oracle_iface.specs.declared.keys.Key.{Key}
use Rattle.oracle_iface.specs.declared.keys.Op.TheVariants.{F as ImageOp, H as HomotopyOp}
use Rattle.oracle_iface.specs.declared.bodies.Outcome.{Outcome}
use Rattle.oracle_iface.specs.declared.cell_values.CellValue.{CellValue}
use Rattle.oracle_iface.specs.Stands.{quote_outcome}
use Rattle.homology_rules.specs.Asking.{outcome_of, refusal_in, first_refusal}
use Rattle.homology_rules.specs.CellKeys.{cell_key_of}
use Rattle.homology_rules.specs.Held.{HasSmallOver, HasBigOver}
use Rattle.homology_rules.proofs.Answered.{outcome-of_cell, none-split}

-- F of a cell is a chain of the small complex, unless it is refused
pub small-of_image : (k : Key) (x : Cell) → refusal_in (outcome_of (cell_key_of k ImageOp x)) ≡ None → HasSmallOver k.prime (outcome_of (cell_key_of k ImageOp x))
unfolding outcome_of
small-of_image k x = by (outcome usual_limits (number k.prime) (f_at (space_of k.term) (dim_of x) (cell_form x (space_of k.term))))
  where
    by : (o : OutcomeOf (Answer (f_at (space_of k.term) (dim_of x) (cell_form x (space_of k.term)))))
        → refusal_in (quote_outcome k.prime (f_at (space_of k.term) (dim_of x) (cell_form x (space_of k.term))) o) ≡ None
        → HasSmallOver k.prime (quote_outcome k.prime (f_at (space_of k.term) (dim_of x) (cell_form x (space_of k.term))) o)
    by (is_value v) e = (tt, refl)
    by (is_over w) e = absurd (cc)

-- H of a cell is a chain of the space, unless it is refused
pub big-of_homotopy : (k : Key) (x : Cell) → refusal_in (outcome_of (cell_key_of k HomotopyOp x)) ≡ None → HasBigOver k.prime (outcome_of (cell_key_of k HomotopyOp x))
unfolding outcome_of
big-of_homotopy k x = by (outcome usual_limits (number k.prime) (h_at (space_of k.term) (dim_of x) (cell_form x (space_of k.term))))
  where
    by : (o : OutcomeOf (Answer (h_at (space_of k.term) (dim_of x) (cell_form x (space_of k.term)))))
        → refusal_in (quote_outcome k.prime (h_at (space_of k.term) (dim_of x) (cell_form x (space_of k.term))) o) ≡ None
        → HasBigOver k.prime (quote_outcome k.prime (h_at (space_of k.term) (dim_of x) (cell_form x (space_of k.term))) o)
    by (is_value v) e = (tt, refl)
    by (is_over w) e = absurd (cc)

module _ {S : Type 0} (key_at : S → Key) where
  pub keys-of : (ts : List (S × Fp)) (z : Terms S) → numbers ts ≡ z → map (λ t. key_at t.0) ts ≡ map (λ t. key_at t.0) z
  keys-of ts z e = by ts ∙ ap (map (λ t. key_at t.0)) e
    where
      by : (ts : List (S × Fp)) → map (λ t. key_at t.0) ts ≡ map (λ t. key_at t.0) (numbers ts)
      by [] = refl
      by (t ∷ ts) = ap (λ ks. key_at t.0 ∷ ks) (by ts)

  pub values-of : (ts : List (S × Fp)) (z : Terms S) → numbers ts ≡ z → map (λ t. t.1.value) ts ≡ map (λ t. t.1) z
  values-of ts z e = by ts ∙ ap (map (λ t. t.1)) e
    where
      by : (ts : List (S × Fp)) → map (λ t. t.1.value) ts ≡ map (λ t. t.1) (numbers ts)
      by [] = refl
      by (t ∷ ts) = ap (λ ks. t.1.value ∷ ks) (by ts)

  pub as-many : (ts : List (S × Fp)) (z : Terms S) (cells : List CellValue) → numbers ts ≡ z → map (λ v. v.key) cells ≡ map (λ t. key_at t.0) z → length cells ≡ length ts
  as-many ts z cells e h =
      sym (length-map cells (λ v. v.key)) ∙ ap length (h ∙ sym (keys-of ts z e)) ∙ length-map ts (λ t. key_at t.0)

  module _ (P : Outcome → Type 0) (good : (s : S) → refusal_in (outcome_of (key_at s)) ≡ None → P (outcome_of (key_at s))) where
    pub held : (z : Terms S) (cells : List CellValue) → map (λ v. v.key) cells ≡ map (λ t. key_at t.0) z → first_refusal (map (λ t. key_at t.0) z) ≡ None → All (λ v. P v.outcome) cells
    held z cells e h = All-from_recursion (λ v. P v.outcome) cells (by z cells e h)
      where
        by : (z : Terms S) (cells : List CellValue) → map (λ v. v.key) cells ≡ map (λ t. key_at t.0) z → first_refusal (map (λ t. key_at t.0) z) ≡ None → Each (λ v. P v.outcome) cells
        by z [] e h = tt
        by [] (v ∷ cells) e h = absurd (cc)
        by (t ∷ z) (v ∷ cells) e h =
            let s = none-split (key_at t.0) (map (λ x. key_at x.0) z) h in
            let a : v.key ≡ key_at t.0 = cc in
            let b : map (λ x. x.key) cells ≡ map (λ x. key_at x.0) z = cc in
            (subst P (sym (outcome-of_cell v ∙ ap outcome_of a)) (good t.0 s.0), by z cells b s.1)

  module _ {J : Type 0} (chain_in : Outcome → Terms J) where
    pub summed : (z : Terms S) (cells : List CellValue) → map (λ v. v.key) cells ≡ map (λ t. key_at t.0) z
        → combination (map (λ t. t.1) z) (map (λ v. chain_in v.outcome) cells) ≡ extend (λ s. chain_in (outcome_of (key_at s))) z
    summed [] [] e = refl
    summed [] (v ∷ cells) e = absurd (cc)
    summed (t ∷ z) [] e = absurd (cc)
    summed (t ∷ z) (v ∷ cells) e =
        let a : v.key ≡ key_at t.0 = cc in
        let b : map (λ x. x.key) cells ≡ map (λ x. key_at x.0) z = cc in
        λ j. scale t.1 (chain_in ((outcome-of_cell v ∙ ap outcome_of a) j)) ++ summed z cells b j
