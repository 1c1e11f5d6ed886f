-- The pairs of the small cells that cells of the table hold are the value of the right side.
use Rattle.std.proofs.Common.{◌≡◌, ℕ, ◌-◌, List, [], ◌∷◌, ◌++◌, map, None, refl, sym, ◌∙◌, ap, subst, All}
use Rattle.std.specs.List.{AllByRecursion as Every}
use Rattle.std.proofs.lemmas.List.{map-append}
use Rattle.std.proofs.lemmas.List.Elements.{All-from_recursion}
use Rattle.fp_field.specs.declared.prime.Prime.{Prime}
use Rattle.fp_field.specs.Field.{number}
use Rattle.spaces.specs.Spaces.{Space}
use Rattle.spaces.specs.SmallCells.{Small}
use Rattle.cells.specs.declared.cells.SmallCell.TheVariants.{Pair}
use Rattle.term_lang.specs.declared.terms.Term.{Term}
use Rattle.term_lang.specs.SpaceOf.{space_of}
use Rattle.values.specs.Asks.{basis}
use Rattle.values.specs.Rules.{all_pairs, pairs_of_degree}
use Rattle.values.specs.Values.{value}
use Rattle.oracle_iface.specs.declared.bodies.Body.TheVariants.{Cells}
use Rattle.oracle_iface.specs.declared.bodies.Outcome.TheVariants.{Value}
use Rattle.oracle_iface.specs.declared.cell_values.CellValue.{CellValue}
use Rattle.oracle_iface.specs.Keys.{quote_basis}
use Rattle.oracle_iface.specs.SmallForms.{quote_small}
use Rattle.oracle_iface.proofs.KeysBack.{basis-back}
use Rattle.oracle_iface.proofs.Named.{named-space}
use Rattle.homology_rules.specs.Asking.{outcome_of, refusal_in, first_refusal}
use Rattle.homology_rules.specs.Degrees.{HasCells, cells_held}
use Rattle.homology_rules.proofs.Answered.{outcome-of_cell, none-split}
use Rattle.homology_rules.proofs.TypedKeys.{value-told}
use Rattle.twist_rules.specs.PairBases.{basis_key, basis_keys, pairs_with, cell_pairs, pairs_held, quote_pairs}
use Rattle.part_asks.specs.Reading.{value_of}
use Rattle.twist_rules.proofs.BasisKeys.{key-is, value-more}

-- pairs of quotes are quotes of pairs
module _ (a b : Space) where
  with-quoted : (x : Small a) (ys : List (Small b)) → pairs_with (quote_small a x) (quote_basis b ys) ≡ quote_pairs a b (map (λ y. (x, y)) ys)
  with-quoted x [] = refl
  with-quoted x (y ∷ ys) = ap (λ zs. Pair (quote_small a x) (quote_small b y) ∷ zs) (with-quoted x ys)

  pub pairs-quoted : (xs : List (Small a)) (ys : List (Small b)) → cell_pairs (quote_basis a xs) (quote_basis b ys) ≡ quote_pairs a b (all_pairs xs ys)
  pairs-quoted [] ys = refl
  pairs-quoted (x ∷ xs) ys =
      (λ i. with-quoted x ys i ++ pairs-quoted xs ys i)
      ∙ sym (map-append (λ (y : Small a × Small b). Pair (quote_small a y.0) (quote_small b y.1)) (map (λ y. (x, y)) ys) (all_pairs xs ys))

-- a cell of the table of a key that is not refused holds the small cells of its degree
cells-told : (p : Prime) (t : Term) (n : ℕ) (v : CellValue) → v.key ≡ basis_key p t n → refusal_in (outcome_of (basis_key p t n)) ≡ None
    → v.outcome ≡ Value (Cells (quote_basis (space_of t) (value (number p) (basis (space_of t) n))))
cells-told p t n v e none =
    outcome-of_cell v ∙ ap outcome_of (e ∙ key-is p t n)
    ∙ value-told p (basis (space_of t) n) (basis-back p (space_of t) (named-space t) n) (sym (ap (λ k. refusal_in (outcome_of k)) (key-is p t n)) ∙ none)

-- what cells of the table hold
record Holds (a b : Space) (p : Prime) (n : ℕ) (is : List ℕ) (cells : List CellValue) : Type 0 where
  pub lists : Every (λ v. HasCells v.outcome) cells
  pub pairs : pairs_held cells ≡ quote_pairs a b (value_of p (pairs_of_degree a b n is))

module _ (p : Prime) (s t : Term) (n : ℕ) where
  abbrev a : Space
  a = space_of s

  abbrev b : Space
  b = space_of t

  holds : (is : List ℕ) (cells : List CellValue) → map (λ v. v.key) cells ≡ basis_keys p s t n is → first_refusal (basis_keys p s t n is) ≡ None → Holds a b p n is cells
  holds [] [] e none = record { lists = tt; pairs = refl }
  holds [] (v ∷ cells) e none = absurd (cc)
  holds (i ∷ is) [] e none = absurd (cc)
  holds (i ∷ is) (v ∷ []) e none = absurd (cc)
  holds (i ∷ is) (v ∷ (w ∷ cells)) e none =
      let f : v.key ≡ basis_key p s i = cc in
      let g : w.key ≡ basis_key p t (n - i) = cc in
      let h : map (λ x. x.key) cells ≡ basis_keys p s t n is = cc in
      let one = none-split (basis_key p s i) (basis_key p t (n - i) ∷ basis_keys p s t n is) none in
      let two = none-split (basis_key p t (n - i)) (basis_keys p s t n is) one.1 in
      let x = cells-told p s i v f one.0 in
      let y = cells-told p t (n - i) w g two.0 in
      let more = holds is cells h two.1 in
      record {
        lists = (subst HasCells (sym x) tt, (subst HasCells (sym y) tt, more.lists));
        pairs =
            (λ j. cell_pairs (cells_held (x j)) (cells_held (y j)) ++ more.pairs j)
            ∙ ap (λ z. z ++ quote_pairs a b (value_of p (pairs_of_degree a b n is))) (pairs-quoted a b (value (number p) (basis a i)) (value (number p) (basis b (n - i))))
            ∙ sym (map-append (λ (z : Small a × Small b). Pair (quote_small a z.0) (quote_small b z.1)) (all_pairs (value (number p) (basis a i)) (value (number p) (basis b (n - i))))
            (value_of p (pairs_of_degree a b n is)))
            ∙ sym (ap (quote_pairs a b) (value-more a b (number p) n i is));
      }

  pub lists-held : (is : List ℕ) (cells : List CellValue) → map (λ v. v.key) cells ≡ basis_keys p s t n is → first_refusal (basis_keys p s t n is) ≡ None → All (λ v. HasCells v.outcome) cells
  lists-held is cells e none = All-from_recursion (λ v. HasCells v.outcome) cells (holds is cells e none).lists

  pub pairs-are : (is : List ℕ) (cells : List CellValue) → map (λ v. v.key) cells ≡ basis_keys p s t n is → first_refusal (basis_keys p s t n is) ≡ None
      → pairs_held cells ≡ quote_pairs a b (value_of p (pairs_of_degree a b n is))
  pairs-are is cells e none = (holds is cells e none).pairs
