-- The keys of the cycles of a degree are those of the needs, up to the first refusal.
use Rattle.std.proofs.Common.{◌≡◌, ℕ, suc, ◌+◌, ◌≤◌, List, [], ◌∷◌, ◌++◌, map, refl, sym, ◌∙◌, ap, subst, arith}
use Rattle.std.specs.Prelude.{None}
use Rattle.std.proofs.lemmas.List.{map-append}
use Rattle.fp_field.specs.Field.{number}
use Rattle.fp_field.specs.Chains.{Terms}
use Rattle.echelons.specs.Echelon.{Vector}
use Rattle.spaces.specs.Spaces.{Space}
use Rattle.spaces.specs.SmallCells.{Small}
use Rattle.values.specs.Asks.{Ask, basis, small_d, g, cycles}
use Rattle.values.specs.BaseLaws.{needs_of_cycles, vectors_of_cycles}
use Rattle.values.specs.Cycles.{cycle_vectors, terms_of}
use Rattle.values.specs.Ranks.{IsValid, loopings}
use Rattle.values.specs.Rules.{joined}
use Rattle.values.specs.Values.{value}
use Rattle.term_lang.specs.SpaceOf.{space_of}
use Rattle.cells.specs.Small.{small_cmp as code_cmp}
use Rattle.oracle_iface.specs.declared.keys.Key.{Key}
use Rattle.oracle_iface.specs.declared.keys.Op.TheVariants.{SmallD, G}
use Rattle.oracle_iface.specs.Keys.{key_of, quote_basis, quote_small_chain}
use Rattle.homology_rules.specs.Asking.{first_refusal}
use Rattle.homology_rules.specs.CycleVectors.{cycle_vectors_over}
use Rattle.homology_rules.specs.Degrees.{degree_key_of, cells_at, vectors_at, keys_of_degree, keys_of_cycles}
use Rattle.homology_rules.specs.Shown.{HasShownValues}
use Rattle.homology_rules.specs.SmallKeys.{small_key_of}
use Rattle.homology_rules.specs.Vectors.{keys_of_vectors}
use Rattle.homology_rules.proofs.Alike.{Alike, alike-same, alike-then, alike-append, alike-cons}
use Rattle.homology_rules.proofs.QuotedVectors.{vectors-quoted, terms-quoted}
use Rattle.homology_rules.proofs.TypedKeys.{degree_key-is, d_key-is, g_key-is, cells-told}
use Rattle.homology_rules.proofs.TypedCycles.{all-shown, d-shown, degree-told}

module _ (k : Key) (a : Space) (of : space_of k.term ≡ a) where
  abbrev key : Ask → Key
  key q = key_of k.prime q

  abbrev p : ℕ
  p = number k.prime

  abbrev here : ℕ → List (Small a)
  here m = value p (basis a m)

  -- ---- keys at small cells

  d_keys-are : (ys : List (Small a)) → map (λ y. small_key_of k SmallD y) (quote_basis a ys) ≡ map key (map (λ y. small_d a y) ys)
  d_keys-are [] = refl
  d_keys-are (y ∷ ys) = λ i. d_key-is k a of y i ∷ d_keys-are ys i

  pub g_keys-are : (c : Terms (Small a)) → map (λ t. small_key_of k G t.0) (quote_small_chain a c) ≡ map key (map (λ t. g a t.0) c)
  g_keys-are [] = refl
  g_keys-are (t ∷ c) = λ i. g_key-is k a of t.0 i ∷ g_keys-are c i

  abbrev g_asks : List (Small a) → List Vector → List Ask
  g_asks ys vs = joined (map (λ v. map (λ t. g a t.0) (terms_of p a ys v)) vs)

  vector_keys-are : (ys : List (Small a)) (vs : List Vector) → keys_of_vectors k (quote_basis a ys) vs ≡ map key (g_asks ys vs)
  vector_keys-are ys [] = refl
  vector_keys-are ys (v ∷ vs) =
      (λ i. (ap (map (λ t. small_key_of k G t.0)) (terms-quoted a p ys v) ∙ g_keys-are (terms_of p a ys v)) i ++ vector_keys-are ys vs i)
      ∙ sym (map-append key (map (λ t. g a t.0) (terms_of p a ys v)) (g_asks ys vs))

  -- ---- the keys of a degree

  abbrev degree_asks : ℕ → List Ask
  degree_asks m = basis a m ∷ map (λ y. small_d a y) (here m)

  pub degree-alike : (m : ℕ) → Alike (keys_of_degree k m) (map key (degree_asks m))
  degree-alike m =
      alike-then (keys_of_degree k m) (degree_key_of k m ∷ map key (map (λ y. small_d a y) (here m))) (map key (degree_asks m))
      (alike-cons (degree_key_of k m) (map (λ y. small_key_of k SmallD y) (cells_at k m)) (map key (map (λ y. small_d a y) (here m)))
      (λ e. alike-same (map (λ y. small_key_of k SmallD y) (cells_at k m)) (map key (map (λ y. small_d a y) (here m)))
      (ap (map (λ y. small_key_of k SmallD y)) (cells-told k a of m e) ∙ d_keys-are (here m))))
      (λ i. degree_key-is k a of m i ∷ map key (map (λ y. small_d a y) (here m)))

  pub above-alike : (n : ℕ) → Alike (keys_of_degree k (n + 1)) (map key (degree_asks (suc n)))
  above-alike n = let e : n + 1 ≡ suc n = omega arith in subst (λ m. Alike (keys_of_degree k (n + 1)) (map key (degree_asks m))) e (degree-alike (n + 1))

  module _ (n : ℕ) (valid : IsValid p (cycles a n)) (shown : HasShownValues p a) where
    low_here : n + loopings a ≤ 24
    low_here = let l : suc n + loopings a ≤ 24 = valid.2 in omega (arith, l)

    low_above : n + 1 + loopings a ≤ 24
    low_above = let l : suc n + loopings a ≤ 24 = valid.2 in omega (arith, l)

    abbrev differentials_in : ℕ → List (Terms (Small a))
    differentials_in m = map (λ y. value p (small_d a y)) (here m)

    -- the vectors of the cycles, where neither degree is refused
    vectors-are : first_refusal (keys_of_degree k n) ≡ None → first_refusal (keys_of_degree k (n + 1)) ≡ None → vectors_at k n ≡ vectors_of_cycles p a n
    vectors-are e f =
        let low = degree-told k a of n valid.0 low_here e in
        let high = degree-told k a of (n + 1) valid.0 low_above f in
        (λ i. cycle_vectors_over code_cmp p (low.0 i) (low.1 i) (high.1 i))
        ∙ vectors-quoted a p (here n) (differentials_in n) (differentials_in (n + 1)) (all-shown p a n valid.0 low_here)
        (d-shown p a n valid.0 low_here shown) (d-shown p a (n + 1) valid.0 low_above shown)
        ∙ ap (λ m. cycle_vectors p a (here n) (differentials_in n) (differentials_in m)) (let s : n + 1 ≡ suc n = omega arith in s)

    last-are : first_refusal (keys_of_degree k n) ≡ None → first_refusal (keys_of_degree k (n + 1)) ≡ None
        → keys_of_vectors k (cells_at k n) (vectors_at k n) ≡ map key (g_asks (here n) (vectors_of_cycles p a n))
    last-are e f =
        (λ i. keys_of_vectors k ((degree-told k a of n valid.0 low_here e).0 i) (vectors-are e f i)) ∙ vector_keys-are (here n) (vectors_of_cycles p a n)

    abbrev last_asks : List Ask
    last_asks = g_asks (here n) (vectors_of_cycles p a n)

    asks-join : map key (degree_asks n) ++ (map key (degree_asks (suc n)) ++ map key last_asks) ≡ map key (needs_of_cycles p a n)
    asks-join =
        ap (λ ks. map key (degree_asks n) ++ ks) (sym (map-append key (degree_asks (suc n)) last_asks))
        ∙ sym (map-append key (degree_asks n) (degree_asks (suc n) ++ last_asks))

    pub cycle_keys-alike : Alike (keys_of_cycles k n) (map key (needs_of_cycles p a n))
    cycle_keys-alike =
        alike-then (keys_of_cycles k n) (map key (degree_asks n) ++ (map key (degree_asks (suc n)) ++ map key last_asks)) (map key (needs_of_cycles p a n))
        (alike-append (keys_of_degree k n) (map key (degree_asks n)) (keys_of_degree k (n + 1) ++ keys_of_vectors k (cells_at k n) (vectors_at k n)) (map key (degree_asks (suc n)) ++ map key last_asks)
        (degree-alike n)
        (λ e. alike-append (keys_of_degree k (n + 1)) (map key (degree_asks (suc n))) (keys_of_vectors k (cells_at k n) (vectors_at k n)) (map key last_asks) (above-alike n)
        (λ f. alike-same (keys_of_vectors k (cells_at k n) (vectors_at k n)) (map key last_asks) (last-are e f))))
        asks-join
