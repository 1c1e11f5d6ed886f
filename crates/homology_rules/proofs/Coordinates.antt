-- The coordinates of a chain over cells that rise: one term more.
use Rattle.std.proofs.Common.{◌≡◌, ℕ, zero, suc, ◌+◌, ◌*◌, ◌%◌, ◌<◌, ◌≤◌, false, cond, List, [], ◌∷◌, ◌++◌, length, take, get_or, set, ◌⊎◌, inl, inr, refl, sym, ◌∙◌, ap, subst, arith}
use Rattle.std.proofs.Math.Nat.{mod-mod, zero-mod}
use Rattle.std.proofs.Math.Seq.{take-suc}
use Rattle.std.proofs.Math.ListN.{get_or-append}
use Rattle.std.proofs.lemmas.Bool.{cases_lt}
use Rattle.std.proofs.lemmas.List.{set-append_left, length-map}
use Rattle.std.proofs.lemmas.List.Sorted.{searchable_from_sorted}
use Rattle.std.proofs.lemmas.Map.Keys.{Less-from_sorted, sorted_head, sorted_tail}
use Rattle.std.specs.List.{AllByRecursion}
use Rattle.std.specs.List.Sorted.{IsStrictlySortedBy, IsSorted, IsNonDecreasingBy, IsPartitionPoint}
use Rattle.std.specs.Cmp.{IsTotalOrder}
use Rattle.std.specs.Ordering.{is_eq, is_lt, eq_by_cmp, ordering_reverse, ordering_index}
use Rattle.std.specs.declared.cmp.Ordering.{Ordering}
use Rattle.std.specs.declared.cmp.Ordering.TheVariants.{Less, Equal, Greater}
use Rattle.fp_field.specs.declared.element.Fp.{Fp}
use Rattle.fp_field.specs.Chains.{Terms, coeff}
use Rattle.fp_field.proofs.Mod.{same-plus}
use Rattle.fp_field.proofs.Weights.{weigh-append}
use Rattle.chain_core.specs.Formal.{numbers}
use Rattle.chain_core.proofs.SumLemmas.{numbers-append}
use Rattle.echelons.specs.Echelon.{Vector, at_place, zeros}
use Rattle.echelons.proofs.Halves.{zeros-append}
use Rattle.homology_rules.specs.CycleVectors.{coordinates_over}

module _ {K : Type 0} (cmp : K → K → Ordering) (total : IsTotalOrder cmp) (p : ℕ) where
  abbrev coords : List K → Terms K → Vector
  coords ys c = coordinates_over cmp p ys c

  pub length-coords : (ys : List K) (c : Terms K) → length (coords ys c) ≡ length ys
  length-coords ys c = length-map ys (λ y. coeff (eq_by_cmp cmp) c y % p)

  -- the chain 0
  coords-nothing : (ys : List K) → coords ys [] ≡ zeros (length ys)
  coords-nothing [] = refl
  coords-nothing (y ∷ ys) = λ i. zero-mod p i ∷ coords-nothing ys i

  pub coords-none : (ys : List K) (more : ℕ) → zeros (length ys + more) ≡ coords ys [] ++ zeros more
  coords-none ys more = zeros-append (length ys) more ∙ ap (λ v. v ++ zeros more) (sym (coords-nothing ys))

  -- strictly sorted lists can be searched
  pub sorted-strictly : (ys : List K) → IsStrictlySortedBy cmp ys → IsSorted cmp ys
  sorted-strictly ys h k d l m =
      ap is_lt (total.antisymm (get_or ys (k + 1) d) (get_or ys k d) ∙ ap ordering_reverse (Less-from_sorted cmp ys k (k + 1) d h (omega arith) m))

  pub none-equal : (ys : List K) (x : K) (i : ℕ) → IsStrictlySortedBy cmp ys
      → (IsNonDecreasingBy (λ y. ordering_index (cmp y x)) ys → IsPartitionPoint (λ y. cmp y x ≡ Less) (λ y. cmp y x ≡ Greater) ys i)
      → AllByRecursion (λ y. cmp x y ≡ Equal → ⊥) ys
  none-equal ys x i h f = by ys (λ k d l. at k d l)
    where
      point : IsPartitionPoint (λ y. cmp y x ≡ Less) (λ y. cmp y x ≡ Greater) ys i
      point = f (searchable_from_sorted total (λ y. y) ys x (sorted-strictly ys h))

      at : (k : ℕ) (d : K) → k < length ys → cmp x (get_or ys k d) ≡ Equal → ⊥
      at k d l e = side (cases_lt k i)
        where
          back : cmp (get_or ys k d) x ≡ Equal
          back = total.antisymm (get_or ys k d) x ∙ ap ordering_reverse e

          side : (k < i) ⊎ (i ≤ k) → ⊥
          side (inl m) = let g : cmp (get_or ys k d) x ≡ Less = point.0 k d (omega arith) m in let b = back in cc (g, b)
          side (inr m) = let g : cmp (get_or ys k d) x ≡ Greater = point.1 k d m l in let b = back in cc (g, b)

      by : (zs : List K) → ((k : ℕ) (d : K) → k < length zs → cmp x (get_or zs k d) ≡ Equal → ⊥) → AllByRecursion (λ y. cmp x y ≡ Equal → ⊥) zs
      by [] g = tt
      by (z ∷ zs) g = (g 0 z (omega arith), by zs (λ k d l. g (suc k) d (omega arith)))

  -- ---- one term more

  other : (o : Ordering) → (o ≡ Equal → ⊥) → is_eq o ≡ false
  other Less h = refl
  other Equal h = absurd (h refl)
  other Greater h = refl

  at-more : (c : Terms K) (x y : K) (b : ℕ) → coeff (eq_by_cmp cmp) (c ++ (x, b) ∷ []) y ≡ coeff (eq_by_cmp cmp) c y + b * cond (is_eq (cmp x y)) 1 0
  at-more c x y b =
      weigh-append (λ k. cond (eq_by_cmp cmp k y) 1 0) c ((x, b) ∷ [])
      ∙ (let q : coeff (eq_by_cmp cmp) c y + (b * cond (is_eq (cmp x y)) 1 0 + 0) ≡ coeff (eq_by_cmp cmp) c y + b * cond (is_eq (cmp x y)) 1 0 = omega arith in q)

  at-other : (c : Terms K) (x y : K) (b : ℕ) → (cmp x y ≡ Equal → ⊥) → coeff (eq_by_cmp cmp) (c ++ (x, b) ∷ []) y % p ≡ coeff (eq_by_cmp cmp) c y % p
  at-other c x y b h =
      ap (λ n. n % p) (at-more c x y b ∙ ap (λ o. coeff (eq_by_cmp cmp) c y + b * cond o 1 0) (other (cmp x y) h)
      ∙ (let q : coeff (eq_by_cmp cmp) c y + b * 0 ≡ coeff (eq_by_cmp cmp) c y = omega arith in q))

  at-same : (c : Terms K) (x y : K) (b : ℕ) → cmp x y ≡ Equal → coeff (eq_by_cmp cmp) (c ++ (x, b) ∷ []) y % p ≡ (coeff (eq_by_cmp cmp) c y % p + b) % p
  at-same c x y b e =
      ap (λ n. n % p) (at-more c x y b ∙ ap (λ o. coeff (eq_by_cmp cmp) c y + b * cond (is_eq o) 1 0) e
      ∙ (let q : coeff (eq_by_cmp cmp) c y + b * 1 ≡ coeff (eq_by_cmp cmp) c y + b = omega arith in q))
      ∙ sym (same-plus p (coeff (eq_by_cmp cmp) c y % p) (coeff (eq_by_cmp cmp) c y) b b (mod-mod (coeff (eq_by_cmp cmp) c y) p) refl)

  pub coords-other : (ys : List K) (c : Terms K) (x : K) (b : ℕ) → AllByRecursion (λ y. cmp x y ≡ Equal → ⊥) ys → coords ys (c ++ (x, b) ∷ []) ≡ coords ys c
  coords-other [] c x b h = refl
  coords-other (y ∷ ys) c x b h = λ i. at-other c x y b h.0 i ∷ coords-other ys c x b h.1 i

  none-above : (x z : K) (ys : List K) → cmp x z ≡ Equal → AllByRecursion (λ y. cmp z y ≡ Less) ys → AllByRecursion (λ y. cmp x y ≡ Equal → ⊥) ys
  none-above x z [] e h = tt
  none-above x z (y ∷ ys) e h = ((λ f. let a : cmp x y ≡ cmp z y = total.congr x z y e in let b : cmp z y ≡ Less = h.0 in cc (a, b, f)), none-above x z ys e h.1)

  below-it : (z : K) (ys : List K) (i : ℕ) (d : K) → i < length ys → AllByRecursion (λ y. cmp z y ≡ Less) ys → cmp z (get_or ys i d) ≡ Less
  below-it z [] i d l h = absurd (omega arith)
  below-it z (y ∷ ys) zero d l h = h.0
  below-it z (y ∷ ys) (suc i) d l h = below-it z ys i d (omega arith) h.1

  pub coords-more : (ys : List K) (c : Terms K) (x : K) (b i : ℕ) (d : K) → IsStrictlySortedBy cmp ys → i < length ys → cmp (get_or ys i d) x ≡ Equal
      → coords ys (c ++ (x, b) ∷ []) ≡ set (coords ys c) i ((at_place (coords ys c) i + b) % p)
  coords-more [] c x b i d h l e = absurd (omega arith)
  coords-more (y ∷ ys) c x b zero d h l e =
      λ j. at-same c x y b same j ∷ coords-other ys c x b (none-above x y ys same (sorted_head cmp y ys h)) j
    where
      same : cmp x y ≡ Equal
      same = total.antisymm x y ∙ ap ordering_reverse e
  coords-more (y ∷ ys) c x b (suc i) d h l e =
      λ j. at-other c x y b differs j ∷ coords-more ys c x b i d (sorted_tail cmp y ys h) (omega arith) e j
    where
      differs : cmp x y ≡ Equal → ⊥
      differs f =
          let a : cmp x (get_or ys i d) ≡ cmp y (get_or ys i d) = total.congr x y (get_or ys i d) f in
          let g : cmp y (get_or ys i d) ≡ Less = below-it y ys i d (omega arith) (sorted_head cmp y ys h) in
          let k : cmp x (get_or ys i d) ≡ Equal = total.antisymm x (get_or ys i d) ∙ ap ordering_reverse e in cc (a, g, k)

  -- ---- a step of the walk over the terms of a chain

  module _ (ys : List K) (more : ℕ) (xs : List (K × Fp)) (i : ℕ) (x : K × Fp) (l : i < length xs) (is : x ≡ get_or xs i x) where
    one_more : numbers (take (i + 1) xs) ≡ numbers (take i xs) ++ (x.0, x.1.value) ∷ []
    one_more =
        ap (λ n. numbers (take n xs)) (let q : i + 1 ≡ suc i = omega arith in q) ∙ ap numbers (take-suc xs i x l ∙ ap (λ y. take i xs ++ y ∷ []) (sym is))
        ∙ numbers-append (take i xs) (x ∷ [])

    pub entry-found : (old new : Vector) (place : ℕ) (d : K) → IsStrictlySortedBy cmp ys → place < length ys → cmp (get_or ys place d) x.0 ≡ Equal
        → old ≡ coords ys (numbers (take i xs)) ++ zeros more → new ≡ set old place ((at_place old place + x.1.value) % p) → new ≡ coords ys (numbers (take (i + 1) xs)) ++ zeros more
    entry-found old new place d h m e f g =
        g ∙ (λ j. set (f j) place ((at_place (f j) place + x.1.value) % p))
        ∙ ap (λ n. set (coords ys (numbers (take i xs)) ++ zeros more) place ((n + x.1.value) % p)) (get_or-append (coords ys (numbers (take i xs))) (zeros more) 0 place within)
        ∙ set-append_left (coords ys (numbers (take i xs))) (zeros more) place ((at_place (coords ys (numbers (take i xs))) place + x.1.value) % p) within
        ∙ ap (λ v. v ++ zeros more) (sym (ap (coords ys) one_more ∙ coords-more ys (numbers (take i xs)) x.0 x.1.value place d h m e))
      where
        within : place < length (coords ys (numbers (take i xs)))
        within = subst (λ n. place < n) (sym (length-coords ys (numbers (take i xs)))) m

    pub entry-missed : (old : Vector) (place : ℕ) → IsStrictlySortedBy cmp ys
        → (IsNonDecreasingBy (λ y. ordering_index (cmp y x.0)) ys → IsPartitionPoint (λ y. cmp y x.0 ≡ Less) (λ y. cmp y x.0 ≡ Greater) ys place)
        → old ≡ coords ys (numbers (take i xs)) ++ zeros more → old ≡ coords ys (numbers (take (i + 1) xs)) ++ zeros more
    entry-missed old place h f e =
        e ∙ ap (λ v. v ++ zeros more) (sym (ap (coords ys) one_more ∙ coords-other ys (numbers (take i xs)) x.0 x.1.value (none-equal ys x.0 place h f)))
