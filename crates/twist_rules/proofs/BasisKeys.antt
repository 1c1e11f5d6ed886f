-- The keys of the small cells of a degree of a product or a circle bundle are those of its right side, and how they are listed.
use Rattle.std.proofs.Common.{◌≡◌, ℕ, suc, ◌+◌, ◌-◌, ◌<◌, ◌≤◌, List, [], ◌∷◌, ◌++◌, map, refl, sym, ◌∙◌, ap, arith}
use Rattle.std.proofs.lemmas.List.{append-nil}
use Rattle.fp_field.specs.declared.prime.Prime.{Prime}
use Rattle.fp_field.specs.Field.{number}
use Rattle.spaces.specs.SmallCells.{Small}
use Rattle.spaces.specs.Spaces.{Space}
use Rattle.term_lang.specs.declared.terms.Term.{Term}
use Rattle.term_lang.specs.SpaceOf.{space_of}
use Rattle.values.specs.Asks.{Right, gives, basis, value_with, asked_with}
use Rattle.values.specs.Rules.{numbers, all_pairs, pairs_of_degree}
use Rattle.values.specs.Values.{value}
use Rattle.values.proofs.Readings.{value_with-bind, asked_with-bind}
use Rattle.oracle_iface.specs.declared.keys.Key.{Key}
use Rattle.oracle_iface.specs.declared.keys.Op.TheVariants.{Basis}
use Rattle.oracle_iface.specs.declared.keys.Place.TheVariants.{Degree}
use Rattle.oracle_iface.specs.Keys.{key_of}
use Rattle.oracle_iface.proofs.Named.{term-back}
use Rattle.twist_rules.specs.PairBases.{basis_key, basis_keys}
use Rattle.part_asks.specs.Reading.{keys_of}

pub key-is : (p : Prime) (t : Term) (n : ℕ) → basis_key p t n ≡ key_of p (basis (space_of t) n)
key-is p t n = ap (λ (u : Term). record { op = Basis; prime = p; place = Degree n; term = u }) (sym (term-back t))

module _ (a b : Space) (p n : ℕ) where
  -- what follows the two questions of a degree
  abbrev rest : (i : ℕ) → List ℕ → List (Small a × Small b) → Right (List (Small a × Small b))
  rest i is ps = gives (all_pairs (value p (basis a i)) (value p (basis b (n - i))) ++ ps)

  pub asked-more : (i : ℕ) (is : List ℕ) → asked_with (value p) (pairs_of_degree a b n (i ∷ is)) ≡ basis a i ∷ (basis b (n - i) ∷ asked_with (value p) (pairs_of_degree a b n is))
  asked-more i is =
      ap (λ qs. basis a i ∷ (basis b (n - i) ∷ qs))
      (asked_with-bind (value p) (pairs_of_degree a b n is) (rest i is) ∙ append-nil (asked_with (value p) (pairs_of_degree a b n is)))

  pub value-more : (i : ℕ) (is : List ℕ)
      → value_with (value p) (pairs_of_degree a b n (i ∷ is))
      ≡ all_pairs (value p (basis a i)) (value p (basis b (n - i))) ++ value_with (value p) (pairs_of_degree a b n is)
  value-more i is = value_with-bind (value p) (pairs_of_degree a b n is) (rest i is)

module _ (p : Prime) (s t : Term) (n : ℕ) where
  pub keys-are : (is : List ℕ) → basis_keys p s t n is ≡ keys_of p (pairs_of_degree (space_of s) (space_of t) n is)
  keys-are [] = refl
  keys-are (i ∷ is) =
      (λ j. key-is p s i j ∷ (key-is p t (n - i) j ∷ keys-are is j))
      ∙ sym (ap (map (key_of p)) (asked-more (space_of s) (space_of t) (number p) n i is))

  -- the keys from a degree on: those of this degree, and those from the next on
  keys-from : (i : ℕ) → i < n + 1
      → basis_keys p s t n (numbers i (suc n - i)) ≡ basis_key p s i ∷ (basis_key p t (n - i) ∷ basis_keys p s t n (numbers (i + 1) (suc n - (i + 1))))
  keys-from i l =
      ap (λ k. basis_keys p s t n (numbers i k)) (let e : suc n - i ≡ suc (suc n - (i + 1)) = omega arith in e)
      ∙ ap (λ j. basis_key p s i ∷ (basis_key p t (n - i) ∷ basis_keys p s t n (numbers j (suc n - (i + 1))))) (let e : suc i ≡ i + 1 = omega arith in e)

  -- two keys more
  pub keys-more : (i : ℕ) (old more new : List Key) (j k : Key) → i < n + 1 → old ++ basis_keys p s t n (numbers i (suc n - i)) ≡ basis_keys p s t n (numbers 0 (suc n))
      → more ≡ old ++ j ∷ [] → j ≡ basis_key p s i → new ≡ more ++ k ∷ [] → k ≡ basis_key p t (n - i)
      → new ++ basis_keys p s t n (numbers (i + 1) (suc n - (i + 1))) ≡ basis_keys p s t n (numbers 0 (suc n))
  keys-more i old more new j k l h e f g m =
      ap (λ ks. ks ++ left) (g ∙ ap (λ ks. ks ++ k ∷ []) e) ∙ shifted old
      ∙ (λ x. old ++ (f x ∷ (m x ∷ left))) ∙ sym (ap (λ ks. old ++ ks) (keys-from i l)) ∙ h
    where
      left : List Key
      left = basis_keys p s t n (numbers (i + 1) (suc n - (i + 1)))

      shifted : (ks : List Key) → ((ks ++ j ∷ []) ++ k ∷ []) ++ left ≡ ks ++ (j ∷ (k ∷ left))
      shifted [] = refl
      shifted (x ∷ ks) = ap (λ z. x ∷ z) (shifted ks)

  -- none is left
  pub keys-all : (i : ℕ) (ks : List Key) → n + 1 ≤ i → ks ++ basis_keys p s t n (numbers i (suc n - i)) ≡ basis_keys p s t n (numbers 0 (suc n)) → ks ≡ basis_keys p s t n (numbers 0 (suc n))
  keys-all i ks l h =
      sym (append-nil ks) ∙ sym (ap (λ k. ks ++ basis_keys p s t n (numbers i k)) (let e : suc n - i ≡ 0 = omega arith in e)) ∙ h
