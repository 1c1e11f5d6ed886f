-- What is found along the right side of a map is found, as a value of the code, for the right side of the rule.
use Rattle.std.proofs.Common.{◌≡◌, List, [], ◌∷◌, refl, sym, ◌∙◌, ap}
use Rattle.std.proofs.lemmas.List.{append-nil}
use Rattle.fp_field.specs.declared.prime.Prime.{Prime}
use Rattle.fp_field.specs.Field.{number}
use Rattle.fp_field.specs.Chains.{Terms}
use Rattle.chain_core.specs.Formal.{Formal}
use Rattle.spaces.specs.Spaces.{Space, Plain, product, bundle, table, kz1}
use Rattle.spaces.specs.Tables.{Table}
use Rattle.std.specs.Prelude.{ℤ}
use Rattle.spaces.specs.EilenbergZilber.{Pair}
use Rattle.cells.specs.declared.cells.Cell.{Cell}
use Rattle.cells.specs.declared.cells.SmallCell.{SmallCell}
use Rattle.term_lang.specs.Quote.{quote_cell}
use Rattle.values.specs.Asks.{Right, gives, ◌>>=◌, asked_with}
use Rattle.values.specs.Rules.{as_cells}
use Rattle.values.specs.Values.{value}
use Rattle.values.proofs.Readings.{asked_with-bind}
use Rattle.oracle_iface.specs.declared.bodies.Body.{Body}
use Rattle.oracle_iface.specs.declared.bodies.Body.TheVariants.{Small as SmallBody, Big as BigBody}
use Rattle.oracle_iface.specs.Keys.{formal, quote_chain}
use Rattle.homology_rules.specs.Asking.{first_refusal}
use Rattle.part_asks.specs.declared.found.Found.{Found}
use Rattle.part_asks.specs.declared.found.Found.TheVariants.{Value, Over}
use Rattle.part_asks.specs.Reading.{value_of, IsFound}
use Rattle.part_asks.proofs.Readings.{keys-then, value-bind}
use Rattle.twist_chains.specs.Fibred.{quote_pairs}
use Rattle.fibred_asks.specs.Totals.{formal_pairs}

-- what is found, as a body
abbrev pub with_body : {T : Type 0} → (T → Body) → Found T → Found Body
with_body B (Value c) = Value (B c)
with_body B (Over w) = Over w

module _ (p : Prime) where
  -- a map of chains of the code goes through what is found
  pub small-found : {A : Type 0} (quote : A → Formal SmallCell) (R : Right A) (o : Found (Formal SmallCell)) → IsFound quote p R o → IsFound (λ v. SmallBody (quote v)) p R (with_body (λ c. SmallBody c) o)
  small-found quote R (Value c) h = (h.0, ap (λ c. SmallBody c) h.1)
  small-found quote R (Over w) h = h

  module _ {A B : Type 0} (R : Right A) (f : A → B) where
    -- nothing is asked for by the step behind it
    pub asked-then : asked_with (value (number p)) (R >>= λ c. gives (f c)) ≡ asked_with (value (number p)) R
    asked-then = asked_with-bind (value (number p)) R (λ c. gives (f c)) ∙ append-nil (asked_with (value (number p)) R)

    pub big-found : (quote : A → Formal Cell) (more : B → Formal Cell) → ((v : A) → more (f v) ≡ quote v) → (o : Found (Formal Cell)) → IsFound quote p R o
        → IsFound (λ v. BigBody (more v)) p (R >>= λ c. gives (f c)) (with_body (λ c. BigBody c) o)
    big-found quote more same (Value c) h = (
      ap first_refusal (keys-then p R f) ∙ h.0,
      ap (λ c. BigBody c) (h.1 ∙ sym (same (value_of p R)) ∙ ap more (sym (value-bind p R (λ c. gives (f c))))),
    )
    big-found quote more same (Over w) h = ap first_refusal (keys-then p R f) ∙ h

  -- the cells of pairs are quoted as the pairs are
  product-cells : (a b : Space) (c : Terms (Pair (Plain a) (Plain b))) → quote_chain (product a b) (as_cells c) ≡ quote_pairs a b c
  product-cells a b [] = refl
  product-cells a b (t ∷ c) = ap (λ z. (quote_cell (product a b) t.0.0 (t.0.1, t.0.2), t.1) ∷ z) (product-cells a b c)

  bundle-cells : (t : Table) (values : List ℤ) (c : Terms (Pair (Plain (table t)) (Plain kz1))) → quote_chain (bundle t values) (as_cells c) ≡ quote_pairs (table t) kz1 c
  bundle-cells t values [] = refl
  bundle-cells t values (u ∷ c) = ap (λ z. (quote_cell (bundle t values) u.0.0 (u.0.1, u.0.2), u.1) ∷ z) (bundle-cells t values c)

  pub product-formal : (a b : Space) (c : Terms (Pair (Plain a) (Plain b))) → formal p (quote_chain (product a b) (as_cells c)) ≡ formal_pairs p a b c
  product-formal a b c = ap (formal p) (product-cells a b c)

  pub bundle-formal : (t : Table) (values : List ℤ) (c : Terms (Pair (Plain (table t)) (Plain kz1))) → formal p (quote_chain (bundle t values) (as_cells c)) ≡ formal_pairs p (table t) kz1 c
  bundle-formal t values c = ap (formal p) (bundle-cells t values c)
