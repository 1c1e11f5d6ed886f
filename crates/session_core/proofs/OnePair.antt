-- The fault of one pair, from what is known of its cell, of earlier pairs and of its value.
use Rattle.std.proofs.Common.{◌≡◌, ℕ, zero, suc, ◌+◌, ◌<◌, ◌≤◌, Bool, true, false, List, [], ◌∷◌, length, take, get_or, Some, None, sym, ◌∙◌, ap, arith}
use Rattle.std.specs.Prelude.{not, nat_lt, nat_abs}
use Rattle.std.specs.List.{list_any}
use Rattle.std.specs.Option.{option_or}
use Rattle.simp_ops.proofs.PlacesOf.{is_lt, not_lt}
use Rattle.spaces.specs.Tables.{Table, entry}
use Rattle.oracle_iface.specs.declared.bodies.Kind.TheVariants.{Integer}
use Rattle.script_lang.specs.declared.exprs.PairText.{PairText}
use Rattle.reply_text.specs.declared.refusals.Refusal.TheVariants.{CocycleUnknown, CocycleRepeated, Over}
use Rattle.session_core.specs.Bundles.{Fault, fault_if, is_cell, is_for, pair_at, pair_fault}

entry-get : {A : Type 0} (d x : A) (xs : List A) (k : ℕ) → k < length xs → x ≡ get_or xs k x → entry d xs k ≡ x
entry-get d x [] k l e = absurd (omega arith)
entry-get d x (y ∷ xs) zero l e = sym e
entry-get d x (y ∷ xs) (suc k) l e = entry-get d x xs k (omega arith) e

module _ (t : Table) (pairs : List PairText) (k : ℕ) (pair : PairText) (l : k < length pairs) (is : pair ≡ get_or pairs k pair) where
  here : pair_at pairs k ≡ pair
  here = entry-get _ pair pairs k l is

  abbrev in_base : Bool
  in_base = list_any (is_cell pair.cell) t

  abbrev before : Bool
  before = list_any (is_for pair.cell) (take k pairs)

  abbrev large : Bool
  large = nat_lt 100000 (nat_abs pair.value)

  abbrev fault_by : Bool → Bool → Bool → Fault
  fault_by a b c =
      option_or (fault_if (not a) (CocycleUnknown (suc k)))
      (option_or (fault_if b (CocycleRepeated (suc k))) (fault_if c (Over None Integer (nat_abs pair.value))))

  known : pair_fault t pairs k ≡ fault_by in_base before large
  unfolding pair_fault
  known =
      ap (λ (p : PairText). option_or (fault_if (not (list_any (is_cell p.cell) t)) (CocycleUnknown (suc k)))
      (option_or (fault_if (list_any (is_for p.cell) (take k pairs)) (CocycleRepeated (suc k)))
      (fault_if (nat_lt 100000 (nat_abs p.value)) (Over None Integer (nat_abs p.value))))) here

  next : k + 1 ≡ suc k
  next = omega arith

  pub unknown_is : false ≡ in_base → Some (CocycleUnknown (k + 1)) ≡ pair_fault t pairs k
  unknown_is e = ap (λ n. Some (CocycleUnknown n)) next ∙ sym (known ∙ ap (λ a. fault_by a before large) (sym e))

  module _ (e : true ≡ in_base) where
    pub repeated_is : true ≡ before → Some (CocycleRepeated (k + 1)) ≡ pair_fault t pairs k
    repeated_is h = ap (λ n. Some (CocycleRepeated n)) next ∙ sym (known ∙ (λ i. fault_by (sym e i) (sym h i) large))

    module _ (h : false ≡ before) where
      pub over_is : 100000 < nat_abs pair.value → Some (Over None Integer (nat_abs pair.value)) ≡ pair_fault t pairs k
      over_is g = sym (known ∙ (λ i. fault_by (sym e i) (sym h i) (is_lt 100000 (nat_abs pair.value) g i)))

      pub fine_is : nat_abs pair.value ≤ 100000 → None ≡ pair_fault t pairs k
      fine_is g = sym (known ∙ (λ i. fault_by (sym e i) (sym h i) (not_lt 100000 (nat_abs pair.value) g i)))
