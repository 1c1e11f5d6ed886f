-- The values that pairs without fault give to the rows of a table: one for each row, each small, 0 where the dimension is not 2. Where they are
-- closed they name a bundle that is allowed.
use Rattle.std.proofs.Common.{◌≡◌, ℕ, zero, suc, ◌<◌, ◌≤◌, ◌⊎◌, inl, inr, Bool, true, false, ◌==◌, cond, List, [], ◌∷◌, length, take, None, refl, sym, ◌∙◌, ap, subst, arith, ℤ, pos}
use Rattle.std.specs.Prelude.{not, nat_lt, nat_abs}
use Rattle.std.specs.List.{list_any, AllByRecursion}
use Rattle.std.proofs.lemmas.List.{length-map}
use Rattle.std.proofs.lemmas.Bool.{cases_lt}
use Rattle.std.proofs.lemmas.Bool.Decides.{nat_tests}
use Rattle.std.proofs.lemmas.List.Elements.{All-from_recursion}
use Rattle.simp_ops.proofs.PlacesOf.{not_eq}
use Rattle.spaces.specs.Tables.{Table, Row, entry, row_at}
use Rattle.spaces.specs.Spaces.{bundle}
use Rattle.spaces.specs.Allowed.{IsAllowed, IsTable}
use Rattle.oracle_iface.specs.declared.bodies.Kind.TheVariants.{Integer}
use Rattle.script_lang.specs.declared.exprs.PairText.{PairText}
use Rattle.reply_text.specs.declared.refusals.Refusal.TheVariants.{CocycleUnknown, CocycleRepeated, Over}
use Rattle.twist_maps.specs.Values.{AreValues, first_open}
use Rattle.twist_maps.proofs.Opens.{closed-values}
use Rattle.session_core.specs.Bundles.{is_cell, is_for, value_of, row_value, values_on, fault_if, pair_at, pair_fault, pairs_fault}
use Rattle.session_core.proofs.PairSteps.{or_none, if_none, none_at}

abbrev IsSmall : ℤ → Type 0
IsSmall a = nat_abs a ≤ 100000

-- ---- values of pairs

at_most : (n : ℕ) → nat_lt 100000 n ≡ false → n ≤ 100000
at_most n e = grind (arith, nat_tests)

small_pair : (t : Table) (pairs : List PairText) (k : ℕ) → pair_fault t pairs k ≡ None → IsSmall (pair_at pairs k).value
unfolding pair_fault
small_pair t pairs k e =
    let pair = pair_at pairs k in
    let first = or_none (fault_if (not (list_any (is_cell pair.cell) t)) (CocycleUnknown (suc k))) _ e in
    let second = or_none (fault_if (list_any (is_for pair.cell) (take k pairs)) (CocycleRepeated (suc k))) _ first.1 in
    at_most (nat_abs pair.value) (if_none (nat_lt 100000 (nat_abs pair.value)) (Over None Integer (nat_abs pair.value)) second.1)

past_pairs : (pairs : List PairText) (k : ℕ) → length pairs ≤ k → (pair_at pairs k).value ≡ pos 0
past_pairs [] k h = refl
past_pairs (pair ∷ pairs) zero h = absurd (omega arith)
past_pairs (pair ∷ pairs) (suc k) h = past_pairs pairs k (omega arith)

small_pairs : (t : Table) (pairs : List PairText) → pairs_fault t pairs ≡ None → (k : ℕ) → IsSmall (pair_at pairs k).value
small_pairs t pairs e k = by (cases_lt k (length pairs))
  where
    by : (k < length pairs) ⊎ (length pairs ≤ k) → IsSmall (pair_at pairs k).value
    by (inl l) = small_pair t pairs k (none_at (pair_fault t pairs) (length pairs) e k l)
    by (inr h) = subst IsSmall (sym (past_pairs pairs k h)) (omega arith)

small_value : (pairs : List PairText) (name : List ℕ) → ((k : ℕ) → IsSmall (pair_at pairs k).value) → IsSmall (value_of pairs name)
small_value [] name small = omega arith
small_value (pair ∷ pairs) name small = by (is_for name pair) (small_value pairs name (λ k. small (suc k)))
  where
    by : (b : Bool) → IsSmall (value_of pairs name) → IsSmall (cond b pair.value (value_of pairs name))
    by true h = small 0
    by false h = h

small_row : (pairs : List PairText) (row : Row) → ((k : ℕ) → IsSmall (pair_at pairs k).value) → IsSmall (row_value pairs row)
small_row pairs row small = by (row.dim == 2)
  where
    by : (b : Bool) → IsSmall (cond b (value_of pairs row.name) (pos 0))
    by true = small_value pairs row.name small
    by false = omega arith

-- ---- values on rows

small_rows : (pairs : List PairText) → ((k : ℕ) → IsSmall (pair_at pairs k).value) → (t : Table) → AllByRecursion IsSmall (values_on pairs t)
small_rows pairs small [] = tt
small_rows pairs small (row ∷ t) = (small_row pairs row small, small_rows pairs small t)

value-at : (pairs : List PairText) (t : Table) (r : ℕ) → entry (pos 0) (values_on pairs t) r ≡ row_value pairs (row_at t r)
value-at pairs [] r = refl
value-at pairs (row ∷ t) zero = refl
value-at pairs (row ∷ t) (suc r) = value-at pairs t r

module _ (t : Table) (pairs : List PairText) where
  pub are_values : pairs_fault t pairs ≡ None → AreValues t (values_on pairs t)
  are_values e = record {
    as_long = length-map t (row_value pairs);
    small = All-from_recursion IsSmall (values_on pairs t) (small_rows pairs (small_pairs t pairs e) t);
  }

  elsewhere : (r : ℕ) → ((row_at t r).dim ≡ 2 → ⊥) → entry (pos 0) (values_on pairs t) r ≡ pos 0
  elsewhere r h = value-at pairs t r ∙ ap (λ b. cond b (value_of pairs (row_at t r).name) (pos 0)) (not_eq (row_at t r).dim 2 h)

  pub bundle_allowed : IsTable t → pairs_fault t pairs ≡ None → first_open t (values_on pairs t) ≡ None → IsAllowed (bundle t (values_on pairs t))
  bundle_allowed is e closed = (
    (
      is,
      closed-values t (values_on pairs t) (length-map t (row_value pairs)) elsewhere closed,
      λ r. subst IsSmall (sym (value-at pairs t r)) (small_row pairs (row_at t r) (small_pairs t pairs e)),
    ),
    omega arith,
  )
