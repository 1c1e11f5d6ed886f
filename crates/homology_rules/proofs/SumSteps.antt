-- Sums of chains, each times a number: one term more, and one chain more.
use Rattle.std.proofs.Common.{◌≡◌, ℕ, suc, ◌+◌, ◌*◌, ◌%◌, ◌<◌, ◌≤◌, List, [], ◌∷◌, ◌++◌, map, length, take, get_or, min, refl, sym, ◌∙◌, ap, arith}
use Rattle.std.proofs.Math.Seq.{take-suc}
use Rattle.std.proofs.lemmas.List.{map-append, take_all, length-map, length-take}
use Rattle.std.proofs.lemmas.Nat.{mul-mod_first}
use Rattle.fp_field.specs.declared.element.Fp.{Fp}
use Rattle.fp_field.specs.Field.{SameMod}
use Rattle.fp_field.specs.Chains.{Terms, weigh, scale, combination}
use Rattle.fp_field.proofs.Mod.{same-plus}
use Rattle.fp_field.proofs.Weights.{weigh-append, weigh-scale}
use Rattle.chain_core.specs.Formal.{numbers}
use Rattle.chain_core.proofs.SumLemmas.{numbers-append}

taken : {X : Type 0} (xs : List X) (i : ℕ) (x : X) → i < length xs → x ≡ get_or xs i x → take (i + 1) xs ≡ take i xs ++ x ∷ []
taken xs i x l e = ap (λ n. take n xs) (let q : i + 1 ≡ suc i = omega arith in q) ∙ take-suc xs i x l ∙ ap (λ y. take i xs ++ y ∷ []) (sym e)

module _ {K : Type 0} (w : K → ℕ) where
  weigh-push : (xs ys : List (K × Fp)) (t : K × Fp) → xs ≡ ys ++ t ∷ [] → weigh w (numbers xs) ≡ weigh w (numbers ys) + t.1.value * w t.0
  weigh-push xs ys t e =
      let s : weigh w (numbers xs) ≡ weigh w (numbers ys ++ (t.0, t.1.value) ∷ []) = ap (weigh w) (ap numbers e ∙ numbers-append ys (t ∷ [])) in
      omega (arith, s, weigh-append w (numbers ys) ((t.0, t.1.value) ∷ []))

  -- a term of a chain, times n, is pushed
  pub push_more : (p a n : ℕ) (old new xs : List (K × Fp)) (i : ℕ) (x : K × Fp) (k : K) (b : Fp) → i < length xs → x ≡ get_or xs i x
      → new ≡ old ++ (k, b) ∷ [] → k ≡ x.0 → b.value ≡ n * x.1.value % p
      → SameMod p (weigh w (numbers old)) (a + n * weigh w (numbers (take i xs)))
      → SameMod p (weigh w (numbers new)) (a + n * weigh w (numbers (take (i + 1) xs)))
  push_more p a n old new xs i x k b l is e f m h =
      ap (λ y. y % p) (weigh-push new old (k, b) e)
      ∙ same-plus p (weigh w (numbers old)) (a + n * weigh w (numbers (take i xs))) (b.value * w k) (n * x.1.value * w x.0) h
      (ap (λ v. v * w k % p) m ∙ mul-mod_first (n * x.1.value) (w k) p ∙ ap (λ y. n * x.1.value * w y % p) f)
      ∙ ap (λ y. y % p)
      (let q : n * (weigh w (numbers (take i xs)) + x.1.value * w x.0) ≡ n * weigh w (numbers (take i xs)) + n * x.1.value * w x.0 = omega arith in
      let r : n * weigh w (numbers (take (i + 1) xs)) ≡ n * (weigh w (numbers (take i xs)) + x.1.value * w x.0) = ap (λ v. n * v) (weigh-push (take (i + 1) xs) (take i xs) x (taken xs i x l is)) in
      let s : a + n * weigh w (numbers (take i xs)) + n * x.1.value * w x.0 ≡ a + n * weigh w (numbers (take (i + 1) xs)) = omega (arith, q, r) in s)

  combination-more : (cs : List ℕ) (zs : List (Terms K)) (c : ℕ) (z : Terms K) → length cs ≡ length zs
      → weigh w (combination (cs ++ c ∷ []) (zs ++ z ∷ [])) ≡ weigh w (combination cs zs) + c * weigh w z
  combination-more [] [] c z e =
      let s : weigh w (scale c z ++ []) ≡ weigh w (scale c z) + 0 = weigh-append w (scale c z) [] in
      let t : weigh w (scale c z) ≡ c * weigh w z = weigh-scale w c z in
      let r : weigh w (scale c z ++ []) ≡ 0 + c * weigh w z = omega (arith, s, t) in r
  combination-more [] (z ∷ zs) c y e = absurd (omega (arith, e))
  combination-more (a ∷ cs) [] c y e = absurd (omega (arith, e))
  combination-more (a ∷ cs) (z ∷ zs) c y e =
      weigh-append w (scale a z) (combination (cs ++ c ∷ []) (zs ++ y ∷ []))
      ∙ ap (λ n. weigh w (scale a z) + n) (combination-more cs zs c y (omega (arith, e)))
      ∙ (let s : weigh w (scale a z ++ combination cs zs) ≡ weigh w (scale a z) + weigh w (combination cs zs) = weigh-append w (scale a z) (combination cs zs) in
      let r : weigh w (scale a z) + (weigh w (combination cs zs) + c * weigh w y) ≡ weigh w (scale a z ++ combination cs zs) + c * weigh w y = omega (arith, s) in r)

  module _ {S V : Type 0} (number_of : S → ℕ) (chain_of : V → Terms K) where
    lengths-taken : (i : ℕ) (ts : List S) (vs : List V) → length vs ≡ length ts → length (map number_of (take i ts)) ≡ length (map chain_of (take i vs))
    lengths-taken i ts vs e = length-map (take i ts) number_of ∙ length-take i ts ∙ ap (λ n. min i n) (sym e) ∙ sym (length-map (take i vs) chain_of ∙ length-take i vs)

    -- a chain more
    pub sum_more : (p : ℕ) (old new i : ℕ) (ts : List S) (vs : List V) (t : S) (v : V) → length vs ≡ length ts → i < length vs → t ≡ get_or ts i t → v ≡ get_or vs i v
        → SameMod p new (old + number_of t * weigh w (chain_of v))
        → SameMod p old (weigh w (combination (map number_of (take i ts)) (map chain_of (take i vs))))
        → SameMod p new (weigh w (combination (map number_of (take (i + 1) ts)) (map chain_of (take (i + 1) vs))))
    sum_more p old new i ts vs t v e l f g h k =
        h ∙ same-plus p old (weigh w (combination (map number_of (take i ts)) (map chain_of (take i vs)))) (number_of t * weigh w (chain_of v)) (number_of t * weigh w (chain_of v)) k refl
        ∙ ap (λ n. n % p)
        (sym (combination-more (map number_of (take i ts)) (map chain_of (take i vs)) (number_of t) (chain_of v) (lengths-taken i ts vs e))
        ∙ (λ j. weigh w (combination (sym (mapped number_of ts i t (omega (arith, e)) f) j) (sym (mapped chain_of vs i v l g) j))))
      where
        mapped : {A B : Type 0} (q : A → B) (xs : List A) (i : ℕ) (x : A) → i < length xs → x ≡ get_or xs i x → map q (take (i + 1) xs) ≡ map q (take i xs) ++ q x ∷ []
        mapped q xs i x l e = ap (map q) (taken xs i x l e) ∙ map-append q (take i xs) (x ∷ [])

    -- all chains
    pub sum_all : (p : ℕ) (i total : ℕ) (ts : List S) (vs : List V) → length vs ≡ length ts → length vs ≤ i
        → SameMod p total (weigh w (combination (map number_of (take i ts)) (map chain_of (take i vs))))
        → SameMod p total (weigh w (combination (map number_of ts) (map chain_of vs)))
    sum_all p i total ts vs e l h =
        h ∙ (λ j. weigh w (combination (map number_of (take_all i ts (let q : length ts ≤ i = omega (arith, e) in q) j)) (map chain_of (take_all i vs l j))) % p)
