-- What the keys of the code come to, in the words of the definitions.
use Rattle.std.proofs.Common.{◌≡◌, ℕ, List, [], ◌∷◌, ◌++◌, map, refl, sym, ◌∙◌, ap}
use Rattle.std.specs.Prelude.{Option, Some, None}
use Rattle.std.specs.List.{AllByRecursion as Every}
use Rattle.fp_field.specs.declared.prime.Prime.{Prime}
use Rattle.fp_field.specs.Field.{number}
use Rattle.fp_field.specs.Chains.{Terms, Each}
use Rattle.spaces.specs.Spaces.{Space}
use Rattle.spaces.specs.SmallCells.{Small}
use Rattle.values.specs.Asks.{Ask, Answer, basis, small_d, g}
use Rattle.values.specs.Values.{value}
use Rattle.values.specs.Outcomes.{usual_limits, outcome, is_value, is_over, IsOutcomeOf, Outcome as OutcomeOf}
use Rattle.values.proofs.Readings.{outcome-of}
use Rattle.term_lang.specs.declared.terms.Term.{Term}
use Rattle.term_lang.specs.SpaceOf.{space_of}
use Rattle.oracle_iface.specs.declared.keys.Key.{Key}
use Rattle.oracle_iface.specs.declared.keys.Op.TheVariants.{Basis, SmallD, G}
use Rattle.oracle_iface.specs.declared.keys.Place.TheVariants.{Degree, Small as SmallPlace}
use Rattle.oracle_iface.specs.declared.bodies.Over.{Over}
use Rattle.oracle_iface.specs.declared.bodies.Outcome.TheVariants.{Value}
use Rattle.oracle_iface.specs.Keys.{key_of, quote_body, quote_basis, quote_chain, quote_small_chain}
use Rattle.oracle_iface.specs.KeyLaws.{IsNamed, IsProper, IsReadBack}
use Rattle.oracle_iface.specs.SmallForms.{quote_small}
use Rattle.oracle_iface.specs.Stands.{quote_outcome}
use Rattle.oracle_iface.specs.Terms.{term_of}
use Rattle.oracle_iface.proofs.KeysBack.{basis-back, small_d-back, g-back}
use Rattle.oracle_iface.proofs.Named.{term-back}
use Rattle.homology_rules.specs.Asking.{outcome_of, refusal_in, first_refusal}
use Rattle.homology_rules.specs.Held.{big_in, small_in}
use Rattle.homology_rules.specs.SmallKeys.{small_key_of}
use Rattle.homology_rules.specs.Degrees.{cells_held, degree_key_of, cells_at, chains_at}
use Rattle.homology_rules.proofs.Answered.{none-split, or_then, refusal-append}

-- ---- any question that is read back

pub outcome-told : (p : Prime) (q : Ask) → IsReadBack p q → outcome_of (key_of p q) ≡ quote_outcome p q (outcome usual_limits (number p) q)
unfolding outcome_of
outcome-told p q back = ap (λ r. quote_outcome p r (outcome usual_limits (number p) r)) back

-- its value, unless it is refused
pub value-told : (p : Prime) (q : Ask) → IsReadBack p q → refusal_in (outcome_of (key_of p q)) ≡ None
    → outcome_of (key_of p q) ≡ Value (quote_body p q (value (number p) q))
value-told p q back none =
    outcome-told p q back
    ∙ by (outcome usual_limits (number p) q) (outcome-of usual_limits (number p) q) (sym (ap refusal_in (outcome-told p q back)) ∙ none)
  where
    by : (o : OutcomeOf (Answer q)) → IsOutcomeOf (value (number p) q) o → refusal_in (quote_outcome p q o) ≡ None
        → quote_outcome p q o ≡ Value (quote_body p q (value (number p) q))
    by (is_value v) h n = ap (λ u. Value (quote_body p q u)) h
    by (is_over w) h n = absurd (cc)

-- ---- no refusal along two lists

pub none-append : (ks js : List Key) → first_refusal (ks ++ js) ≡ None → (first_refusal ks ≡ None) × (first_refusal js ≡ None)
none-append ks js h = by (first_refusal ks) (sym (refusal-append ks js) ∙ h)
  where
    by : (o : Option Over) → or_then o (first_refusal js) ≡ None → (o ≡ None) × (first_refusal js ≡ None)
    by None e = (refl, e)
    by (Some w) e = absurd (cc)

-- ---- keys at places of the space of a key

module _ (k : Key) (a : Space) (of : space_of k.term ≡ a) where
  pub term-is : term_of a ≡ k.term
  term-is = ap term_of (sym of) ∙ term-back k.term

  pub named-is : IsNamed a
  named-is = ap space_of term-is ∙ of

  pub degree_key-is : (n : ℕ) → degree_key_of k n ≡ key_of k.prime (basis a n)
  degree_key-is n = ap (λ (t : Term). record { op = Basis; prime = k.prime; place = Degree n; term = t }) (sym term-is)

  pub d_key-is : (y : Small a) → small_key_of k SmallD (quote_small a y) ≡ key_of k.prime (small_d a y)
  d_key-is y = ap (λ (t : Term). record { op = SmallD; prime = k.prime; place = SmallPlace (quote_small a y); term = t }) (sym term-is)

  pub g_key-is : (y : Small a) → small_key_of k G (quote_small a y) ≡ key_of k.prime (g a y)
  g_key-is y = ap (λ (t : Term). record { op = G; prime = k.prime; place = SmallPlace (quote_small a y); term = t }) (sym term-is)

  abbrev pub p : ℕ
  p = number k.prime

  -- the small cells of a degree
  pub cells-told : (n : ℕ) → refusal_in (outcome_of (degree_key_of k n)) ≡ None → cells_at k n ≡ quote_basis a (value p (basis a n))
  cells-told n none =
      ap (λ j. cells_held (outcome_of j)) (degree_key-is n)
      ∙ ap cells_held (value-told k.prime (basis a n) (basis-back k.prime a named-is n) (sym (ap (λ j. refusal_in (outcome_of j)) (degree_key-is n)) ∙ none))

  -- the small differential of a small cell
  pub d-told : (y : Small a) → IsProper a y → refusal_in (outcome_of (small_key_of k SmallD (quote_small a y))) ≡ None
      → (small_in (outcome_of (small_key_of k SmallD (quote_small a y)))).terms ≡ quote_small_chain a (value p (small_d a y))
  d-told y is none =
      ap (λ j. (small_in (outcome_of j)).terms) (d_key-is y)
      ∙ ap (λ o. (small_in o).terms)
      (value-told k.prime (small_d a y) (small_d-back k.prime a named-is y is) (sym (ap (λ j. refusal_in (outcome_of j)) (d_key-is y)) ∙ none))

  -- G of a small cell
  pub g-told : (y : Small a) → IsProper a y → refusal_in (outcome_of (small_key_of k G (quote_small a y))) ≡ None
      → (big_in (outcome_of (small_key_of k G (quote_small a y)))).terms ≡ quote_chain a (value p (g a y))
  g-told y is none =
      ap (λ j. (big_in (outcome_of j)).terms) (g_key-is y)
      ∙ ap (λ o. (big_in o).terms)
      (value-told k.prime (g a y) (g-back k.prime a named-is y is) (sym (ap (λ j. refusal_in (outcome_of j)) (g_key-is y)) ∙ none))

  -- the small differentials of small cells
  pub differentials-told : (ys : List (Small a)) → Every (IsProper a) ys → first_refusal (map (λ y. small_key_of k SmallD y) (quote_basis a ys)) ≡ None
      → chains_at k (quote_basis a ys) ≡ map (quote_small_chain a) (map (λ y. value p (small_d a y)) ys)
  differentials-told [] u none = refl
  differentials-told (y ∷ ys) u none =
      let s = none-split (small_key_of k SmallD (quote_small a y)) (map (λ z. small_key_of k SmallD z) (quote_basis a ys)) none in
      λ i. d-told y u.0 s.0 i ∷ differentials-told ys u.1 s.1 i

  -- G of the small cells of a chain
  pub images-told : (c : Terms (Small a)) → Each (IsProper a) c → first_refusal (map (λ t. small_key_of k G t.0) (quote_small_chain a c)) ≡ None
      → Each (λ y. (big_in (outcome_of (small_key_of k G (quote_small a y)))).terms ≡ quote_chain a (value p (g a y))) c
  images-told [] u none = tt
  images-told (t ∷ c) u none =
      let s = none-split (small_key_of k G (quote_small a t.0)) (map (λ x. small_key_of k G x.0) (quote_small_chain a c)) none in
      (g-told t.0 u.0 s.0, images-told c u.1 s.1)
