-- The small cells of a degree stand in the order of the code.
use Rattle.std.proofs.Common.{◌≡◌, ℕ, ◌+◌, ◌≤◌, List, [], ◌∷◌, None, refl, sym, ◌∙◌, subst}
use Rattle.std.specs.List.{AllByRecursion as Every}
use Rattle.std.specs.List.Sorted.{IsStrictlySortedBy}
use Rattle.std.specs.declared.cmp.Ordering.TheVariants.{Less}
use Rattle.fp_field.specs.Field.{number}
use Rattle.spaces.specs.Spaces.{Space}
use Rattle.spaces.specs.Allowed.{IsAllowed}
use Rattle.spaces.specs.SmallCells.{Small, small_cmp}
use Rattle.values.specs.Asks.{basis}
use Rattle.values.specs.Ranks.{loopings}
use Rattle.values.specs.Values.{value}
use Rattle.values.proofs.BasesCells.{all-fine}
use Rattle.values.proofs.BasesLists.{Rising}
use Rattle.term_lang.specs.SpaceOf.{space_of}
use Rattle.cells.specs.Small.{small_cmp as code_cmp}
use Rattle.oracle_iface.specs.declared.keys.Key.{Key}
use Rattle.oracle_iface.specs.declared.bodies.Outcome.{Outcome}
use Rattle.oracle_iface.specs.declared.bodies.Outcome.TheVariants.{Value, Over as IsOver}
use Rattle.oracle_iface.specs.Keys.{quote_basis}
use Rattle.oracle_iface.specs.SmallForms.{quote_small}
use Rattle.oracle_iface.proofs.SmallOrders.{order-small}
use Rattle.homology_rules.specs.Asking.{outcome_of, refusal_in}
use Rattle.homology_rules.specs.Degrees.{cells_held, degree_key_of, cells_at}
use Rattle.homology_rules.specs.Shown.{IsSmallShown}
use Rattle.homology_rules.proofs.TypedKeys.{cells-told}
use Rattle.homology_rules.proofs.TypedCycles.{all-shown}

module _ (a : Space) where
  above-quoted : (x : Small a) (ys : List (Small a)) → IsSmallShown a x → Every (IsSmallShown a) ys → Every (λ y. small_cmp a x y ≡ Less) ys
      → Every (λ y. code_cmp (quote_small a x) y ≡ Less) (quote_basis a ys)
  above-quoted x [] h u r = tt
  above-quoted x (y ∷ ys) h u r = (order-small a x y h.0 u.0.0 h.1 u.0.1 ∙ r.0, above-quoted x ys h u.1 r.1)

  rising-quoted : (ys : List (Small a)) → Every (IsSmallShown a) ys → Rising (small_cmp a) ys → IsStrictlySortedBy code_cmp (quote_basis a ys)
  unfolding IsStrictlySortedBy
  rising-quoted [] u r = tt
  rising-quoted (y ∷ ys) u r = (above-quoted y ys u.0 u.1 r.0, rising-quoted ys u.1 r.1)

nothing-rises : IsStrictlySortedBy code_cmp []
unfolding IsStrictlySortedBy
nothing-rises = tt

pub cells-rise : (k : Key) (a : Space) (n : ℕ) → space_of k.term ≡ a → IsAllowed a → n + loopings a ≤ 24 → IsStrictlySortedBy code_cmp (cells_at k n)
cells-rise k a n of allowed low = by (outcome_of (degree_key_of k n)) refl
  where
    told : refusal_in (outcome_of (degree_key_of k n)) ≡ None → IsStrictlySortedBy code_cmp (cells_at k n)
    told e =
        subst (IsStrictlySortedBy code_cmp) (sym (cells-told k a of n e))
        (rising-quoted a (value (number k.prime) (basis a n)) (all-shown (number k.prime) a n allowed low) (all-fine (number k.prime) a n).rising)

    by : (o : Outcome) → outcome_of (degree_key_of k n) ≡ o → IsStrictlySortedBy code_cmp (cells_at k n)
    by (Value b) e = told (λ i. refusal_in (e i))
    by (IsOver w) e = subst (λ o. IsStrictlySortedBy code_cmp (cells_held o)) (sym e) nothing-rises
