-- The cells that occur in chains: they are gathered, put in order, and taken once each.
use Rattle.std.proofs.Common.{◌≡◌, ℕ, suc, ◌+◌, ◌<◌, List, [], ◌∷◌, ◌++◌, map, length, take, get_or, refl, sym, ◌∙◌, ap, subst, arith, append_assoc, true, inl, inr}
use Rattle.std.proofs.Math.Seq.{take-suc}
use Rattle.std.proofs.lemmas.List.{map-append}
use Rattle.std.proofs.lemmas.List.Kept.{IsStrictlySortedBy-dedup, Contains-dedup}
use Rattle.std.proofs.lemmas.List.Filters.{dedup_is}
use Rattle.std.proofs.lemmas.List.Sorted.{Contains-permutation}
use Rattle.std.specs.List.{dedup, Contains}
use Rattle.std.specs.List.Retain.{IsFiltered, DiffersFromLast}
use Rattle.std.specs.List.Sorted.{IsStrictlySortedBy, IsSorted, IsPermutation}
use Rattle.std.specs.Ordering.{is_eq, eq_by_cmp}
use Rattle.std.specs.declared.cmp.Ordering.{Ordering}
use Rattle.std.specs.declared.cmp.Ordering.TheVariants.{Less, Equal, Greater}
use Rattle.fp_field.specs.declared.element.Fp.{Fp}
use Rattle.fp_field.specs.Chains.{Terms, Each}
use Rattle.chain_core.specs.Formal.{numbers}
use Rattle.cells.specs.declared.cells.SmallCell.{SmallCell}
use Rattle.cells.specs.Small.{small_cmp}
use Rattle.cells.specs.Laws.{small_total, small_equiv}
use Rattle.cells.proofs.OneSmall.{one_small}
use Rattle.values.specs.Rules.{joined}
use Rattle.values.proofs.BasesLists.{Member, member_left, member_right, contains_of}
use Rattle.homology_rules.specs.CycleVectors.{AreCovered}

-- the keys of chains, one chain after the other
abbrev pub keys_in : {K : Type 0} → List (Terms K) → List K
keys_in ds = joined (map (λ d. map (λ t. t.0) d) ds)

append-nothing : {A : Type 0} (xs : List A) → xs ++ [] ≡ xs
append-nothing [] = refl
append-nothing (x ∷ xs) = ap (λ z. x ∷ z) (append-nothing xs)

joined-append : {A : Type 0} (xs ys : List (List A)) → joined (xs ++ ys) ≡ joined xs ++ joined ys
joined-append [] ys = refl
joined-append (x ∷ xs) ys = ap (λ l. x ++ l) (joined-append xs ys) ∙ sym (append_assoc x (joined xs) (joined ys))

-- a cell more of a chain
pub key_more : {K : Type 0} (first old new : List K) (xs : List (K × Fp)) (i : ℕ) (x : K × Fp) (y : K) → i < length xs → x ≡ get_or xs i x
    → old ≡ first ++ map (λ t. t.0) (take i xs) → y ≡ x.0 → new ≡ old ++ y ∷ [] → new ≡ first ++ map (λ t. t.0) (take (i + 1) xs)
key_more first old new xs i x y l e h f g =
    g ∙ (λ j. h j ++ f j ∷ []) ∙ append_assoc first (map (λ t. t.0) (take i xs)) (x.0 ∷ [])
    ∙ ap (λ z. first ++ z) (sym (ap (λ k. map (λ t. t.0) (take k xs)) (let q : i + 1 ≡ suc i = omega arith in q)
    ∙ ap (map (λ t. t.0)) (take-suc xs i x l ∙ ap (λ z. take i xs ++ z ∷ []) (sym e)) ∙ map-append (λ (t : _ × Fp). t.0) (take i xs) (x ∷ [])))

pub keys-numbers : {K : Type 0} (xs : List (K × Fp)) → map (λ t. t.0) xs ≡ map (λ t. t.0) (numbers xs)
keys-numbers [] = refl
keys-numbers (x ∷ xs) = ap (λ z. x.0 ∷ z) (keys-numbers xs)

-- a chain more
pub chain_more : {K V : Type 0} (chain_of : V → Terms K) (old new : List K) (vs : List V) (i : ℕ) (v : V) (c : Terms K) → i < length vs → v ≡ get_or vs i v
    → old ≡ keys_in (map chain_of (take i vs)) → c ≡ chain_of v → new ≡ old ++ map (λ t. t.0) c → new ≡ keys_in (map chain_of (take (i + 1) vs))
chain_more chain_of old new vs i v c l e h f g =
    g ∙ (λ j. h j ++ map (λ t. t.0) (f j))
    ∙ sym (ap (λ k. keys_in (map chain_of (take k vs))) (let q : i + 1 ≡ suc i = omega arith in q)
    ∙ ap (λ z. keys_in (map chain_of z)) (take-suc vs i v l ∙ ap (λ z. take i vs ++ z ∷ []) (sym e))
    ∙ ap keys_in (map-append chain_of (take i vs) (v ∷ []))
    ∙ ap joined (map-append (λ d. map (λ t. t.0) d) (map chain_of (take i vs)) (chain_of v ∷ []))
    ∙ joined-append (map (λ d. map (λ t. t.0) d) (map chain_of (take i vs))) (map (λ t. t.0) (chain_of v) ∷ [])
    ∙ ap (λ z. keys_in (map chain_of (take i vs)) ++ z) (append-nothing (map (λ t. t.0) (chain_of v))))

covered-from : {K : Type 0} (out : List K) (ds : List (Terms K)) → ((k : K) → Member k (keys_in ds) → Contains out k) → AreCovered out ds
covered-from out [] h = tt
covered-from {K} out (d ∷ ds) h =
    (each d (λ k m. h k (member_left k (map (λ t. t.0) d) (keys_in ds) m)), covered-from out ds (λ k m. h k (member_right k (map (λ t. t.0) d) (keys_in ds) m)))
  where
    each : (c : Terms K) → ((k : K) → Member k (map (λ t. t.0) c) → Contains out k) → Each (Contains out) c
    each [] g = tt
    each (t ∷ c) g = (g t.0 (inl refl), each c (λ k m. g k (inr m)))

module _ (gathered sorted once : List SmallCell) (moved : IsPermutation gathered sorted) (in_order : IsSorted small_cmp sorted)
    (kept : IsFiltered (DiffersFromLast (eq_by_cmp small_cmp)) [] sorted once) where
  once-is : once ≡ dedup (eq_by_cmp small_cmp) sorted
  once-is = dedup_is (eq_by_cmp small_cmp) sorted once kept

  pub once-rising : IsStrictlySortedBy small_cmp once
  once-rising = subst (IsStrictlySortedBy small_cmp) (sym once-is) (IsStrictlySortedBy-dedup small_total (λ x y. refl) sorted in_order)

  same_cell : (x y : SmallCell) → eq_by_cmp small_cmp x y ≡ true → x ≡ y
  same_cell x y e = one_small x y (equal (small_cmp x y) e)
    where
      equal : (o : Ordering) → is_eq o ≡ true → o ≡ Equal
      equal Less f = absurd (cc)
      equal Equal f = refl
      equal Greater f = absurd (cc)

  pub once-covers : (ds : List (Terms SmallCell)) → gathered ≡ keys_in ds → AreCovered once ds
  once-covers ds e =
      covered-from once ds (λ k m.
      subst (λ l. Contains l k) (sym once-is)
      (Contains-dedup small_equiv same_cell sorted k (Contains-permutation gathered sorted k moved (subst (λ l. Contains l k) (sym e) (contains_of (keys_in ds) k m)))))
