-- Nullity and rank of chains over cells that occur in them: together they are as many as the chains.
use Rattle.std.proofs.Common.{◌≡◌, ℕ, ◌+◌, ◌*◌, ◌%◌, ◌<◌, ◌≤◌, true, cond, List, [], ◌∷◌, map, length, ◌⊎◌, inl, inr, refl, sym, ◌∙◌, ap, subst}
use Rattle.std.proofs.Math.Nat.{mod-mod, zero-mod}
use Rattle.std.proofs.lemmas.Bool.{cases_lt}
use Rattle.std.proofs.Math.ListN.{get_or-eq_default, length-map}
use Rattle.std.specs.List.{Contains}
use Rattle.std.specs.Cmp.{IsTotalOrder}
use Rattle.std.specs.Ordering.{eq_by_cmp}
use Rattle.std.specs.declared.cmp.Ordering.{Ordering}
use Rattle.std.specs.declared.cmp.Ordering.TheVariants.{Equal}
use Rattle.fp_field.specs.declared.prime.Prime.{Prime}
use Rattle.fp_field.specs.Field.{number, SameMod}
use Rattle.fp_field.specs.Chains.{Terms, Each, weigh, coeff, scale, combination}
use Rattle.fp_field.specs.Normal.{normal}
use Rattle.fp_field.proofs.Primes.{number_pos}
use Rattle.fp_field.proofs.FieldLaws.{is_field}
use Rattle.fp_field.proofs.Mod.{same-plus, same-times}
use Rattle.fp_field.proofs.Weights.{weigh-append, weigh-scale}
use Rattle.fp_field.proofs.Normals.{weigh-normal}
use Rattle.echelons.specs.Echelon.{Vector, at_place, zeros, combined, in_kernel, reduced_basis, IsSubspace}
use Rattle.echelons.proofs.Vectors.{weight, Wide, place-zeros, at-combined, combined-vector, length-combined, zeros-vector, same-vector}
use Rattle.echelons.proofs.Spans.{kernel-at, kernel-from, kernel-subspace}
use Rattle.echelons.proofs.Rank.{rank-length}
use Rattle.cells.specs.declared.cells.SmallCell.{SmallCell}
use Rattle.cells.specs.Small.{small_cmp}
use Rattle.cells.specs.Laws.{small_total}
use Rattle.cells.proofs.OneSmall.{one_small}
use Rattle.oracle_iface.specs.declared.cell_values.CellValue.{CellValue}
use Rattle.values.specs.Cycles.{is_empty}
use Rattle.values.proofs.BasesLists.{Member, member_of}
use Rattle.homology_rules.specs.Held.{small_in}
use Rattle.homology_rules.specs.CycleVectors.{coordinates_over, is_cycle_over, small_chains, AreCovered}
use Rattle.homology_rules.proofs.RowSteps.{coordinates-vector}
use Rattle.homology_rules.proofs.Kernels.{same_basis, nothing-empty, EachOf, each-combination, normal-nothing, col-at, col-of}
use Rattle.session_core.specs.Dimensions.{rank_over, nullity_over}

module _ {K : Type 0} (cmp : K → K → Ordering) (total : IsTotalOrder cmp) (one_key : (x y : K) → cmp x y ≡ Equal → x ≡ y) (q : Prime) (cols : List K) where
  abbrev p : ℕ
  p = number q

  abbrev number-at : K → Terms K → ℕ
  number-at y d = coeff (eq_by_cmp cmp) d y

  abbrev rows : List (Terms K) → List Vector
  rows ds = map (λ d. coordinates_over cmp p cols d) ds

  wide : (ds : List (Terms K)) → Wide (length cols) (rows ds)
  wide [] = tt
  wide (d ∷ ds) = ((coordinates-vector cmp p (number_pos q) cols d).wide, wide ds)

  members : (ds : List (Terms K)) → AreCovered cols ds → EachOf cmp (λ k. Member k cols) ds
  members [] h = tt
  members (d ∷ ds) h = (each d h.0, members ds h.1)
    where
      each : (c : Terms K) → Each (Contains cols) c → Each (λ k. Member k cols) c
      each [] g = tt
      each (t ∷ c) g = (member_of cols t.0 g.0, each c g.1)

  -- at the place of a cell stands the coefficient of the combination
  weight-number : (y : K) (j : ℕ) → ((d : Terms K) → at_place (coordinates_over cmp p cols d) j ≡ number-at y d % p) → (v : Vector) (ds : List (Terms K))
      → SameMod p (weight v (rows ds) j) (number-at y (combination v ds))
  weight-number y j at [] ds = refl
  weight-number y j at (a ∷ v) [] = refl
  weight-number y j at (a ∷ v) (d ∷ ds) =
      same-plus p (a * at_place (coordinates_over cmp p cols d) j) (a * number-at y d) (weight v (rows ds) j) (number-at y (combination v ds))
      (same-times p a (at_place (coordinates_over cmp p cols d) j) (number-at y d) (ap (λ x. x % p) (at d) ∙ mod-mod (number-at y d) p))
      (weight-number y j at v ds)
      ∙ ap (λ x. x % p) (sym (weigh-append (λ x. cond (eq_by_cmp cmp x y) 1 0) (scale a d) (combination v ds)
      ∙ ap (λ x. x + number-at y (combination v ds)) (weigh-scale (λ x. cond (eq_by_cmp cmp x y) 1 0) a d)))

  module _ (ds : List (Terms K)) (covered : AreCovered cols ds) where
    abbrev w : ℕ
    w = length cols

    to-cycle : (v : Vector) → in_kernel p w (rows ds) v ≡ true → is_cycle_over cmp p ds v ≡ true
    to-cycle v e =
        ap is_empty (normal-nothing cmp total p (number_pos q) one_key (combination v ds)
        (none (combination v ds) (each-combination cmp (λ k. Member k cols) v ds (members ds covered))))
      where
        nothing : (j : ℕ) → weight v (rows ds) j % p ≡ 0
        nothing j = sym (at-combined p w v (rows ds) j (wide ds)) ∙ ap (λ x. at_place x j) (kernel-at p w (number_pos q) (rows ds) (wide ds) v e) ∙ place-zeros w j

        none : (c : Terms K) → Each (λ k. Member k cols) c → Each (λ k. SameMod p (number-at k (combination v ds)) 0) c
        none [] h = tt
        none (t ∷ c) h = (
          let r = col-of cmp p cols (length ds) t.0 h.0 in
              sym (weight-number t.0 r.0 r.2 v ds) ∙ nothing r.0 ∙ sym (zero-mod p),
          none c h.1,
        )

    from-cycle : (v : Vector) → is_cycle_over cmp p ds v ≡ true → in_kernel p w (rows ds) v ≡ true
    from-cycle v e =
        kernel-from p w (number_pos q) (rows ds) (wide ds) v
        (same-vector p (number_pos q) w (combined p w v (rows ds)) (zeros w) (combined-vector p (number_pos q) w v (rows ds) (wide ds)) (zeros-vector p (number_pos q) w)
        (λ j. ap (λ x. x % p) (by j (cases_lt j w) ∙ sym (place-zeros w j))))
      where
        by : (j : ℕ) → (j < w) ⊎ (w ≤ j) → at_place (combined p w v (rows ds)) j ≡ 0
        by j (inl l) =
            let y = col-at cmp p cols (length ds) j l in
            at-combined p w v (rows ds) j (wide ds) ∙ weight-number y.0 j y.1 v ds
            ∙ sym (weigh-normal cmp p one_key (λ x. cond (eq_by_cmp cmp x y.0) 1 0) (combination v ds))
            ∙ ap (λ c. weigh (λ x. cond (eq_by_cmp cmp x y.0) 1 0) c % p) (nothing-empty (normal cmp p (combination v ds)) e) ∙ zero-mod p
        by j (inr l) = get_or-eq_default (combined p w v (rows ds)) 0 (subst (λ n. n ≤ j) (sym (length-combined p w v (rows ds) (wide ds))) l)

    same-count : length (rows ds) ≡ length ds
    same-count = length-map ds (λ d. coordinates_over cmp p cols d)

    same-nullity : length (reduced_basis p (length (rows ds)) (in_kernel p w (rows ds))) ≡ nullity_over cmp p (length ds) ds
    same-nullity =
        ap (λ n. length (reduced_basis p n (in_kernel p w (rows ds)))) same-count
        ∙ ap length (same_basis q (length ds) (in_kernel p w (rows ds)) (is_cycle_over cmp p ds)
        (subst (λ n. IsSubspace p n (in_kernel p w (rows ds))) same-count (kernel-subspace p w (number_pos q) (rows ds) (wide ds)))
        (λ v g. (to-cycle v, from-cycle v)))

    pub nullity-rank : nullity_over cmp p (length ds) ds + rank_over cmp p cols ds ≡ length ds
    nullity-rank = ap (λ n. n + rank_over cmp p cols ds) (sym same-nullity) ∙ rank-length p w (is_field q) (rows ds) (wide ds) ∙ same-count

-- the same of the chains that cells of the table hold
pub nullity-held : (q : Prime) (cols : List SmallCell) (chains : List CellValue) (rank : ℕ) → AreCovered cols (small_chains chains) → rank ≡ rank_over small_cmp (number q) cols (small_chains chains)
    → nullity_over small_cmp (number q) (length chains) (small_chains chains) + rank ≡ length chains
nullity-held q cols chains rank h e =
    (λ i. nullity_over small_cmp (number q) (sym same i) (small_chains chains) + e i) ∙ nullity-rank small_cmp small_total one_small q cols (small_chains chains) h ∙ same
  where
    same : length (small_chains chains) ≡ length chains
    same = length-map chains (λ (v : CellValue). (small_in v.outcome).terms)
