-- Sums of pairs of small cells of two chains, each times the product of the coefficients: one term more, and the pairs of the definitions.
use Rattle.std.proofs.Common.{◌≡◌, ℕ, suc, ◌+◌, ◌*◌, ◌%◌, ◌<◌, List, [], ◌∷◌, ◌++◌, map, length, take, get_or, refl, sym, ◌∙◌, ap, arith}
use Rattle.std.proofs.Math.Seq.{take-suc}
use Rattle.std.proofs.lemmas.Nat.{mul-mod_first}
use Rattle.fp_field.specs.declared.element.Fp.{Fp}
use Rattle.fp_field.specs.Field.{SameMod}
use Rattle.fp_field.specs.Chains.{Terms, weigh}
use Rattle.fp_field.proofs.Mod.{same-plus}
use Rattle.fp_field.proofs.Weights.{weigh-append}
use Rattle.chain_core.specs.Formal.{numbers}
use Rattle.chain_core.proofs.SumLemmas.{numbers-append}
use Rattle.cells.specs.declared.cells.SmallCell.{SmallCell}
use Rattle.cells.specs.declared.cells.SmallCell.TheVariants.{Pair}
use Rattle.spaces.specs.Spaces.{Space}
use Rattle.spaces.specs.SmallCells.{Small}
use Rattle.values.specs.Perturbed.{small_terms}
use Rattle.ez_laws.specs.Sides.{on_keys}
use Rattle.oracle_iface.specs.Keys.{quote_small_chain}
use Rattle.oracle_iface.specs.SmallForms.{quote_small}
use Rattle.fibred_asks.specs.Parts.{small_pair_for}

-- ---- one term more

module _ {K : Type 0} (v : K → ℕ) (xs : List (K × Fp)) (i : ℕ) (x : K × Fp) (l : i < length xs) (is : x ≡ get_or xs i x) where
  taken-more : take (i + 1) xs ≡ take i xs ++ x ∷ []
  taken-more = ap (λ n. take n xs) (let q : i + 1 ≡ suc i = omega arith in q) ∙ take-suc xs i x l ∙ ap (λ y. take i xs ++ y ∷ []) (sym is)

  weight-more : weigh v (numbers (take (i + 1) xs)) ≡ weigh v (numbers (take i xs)) + x.1.value * v x.0
  weight-more =
      ap (λ ys. weigh v (numbers ys)) taken-more ∙ ap (weigh v) (numbers-append (take i xs) (x ∷ [])) ∙ weigh-append v (numbers (take i xs)) ((x.0, x.1.value) ∷ [])
      ∙ (let q : weigh v (numbers (take i xs)) + (x.1.value * v x.0 + 0) ≡ weigh v (numbers (take i xs)) + x.1.value * v x.0 = omega arith in q)

  -- what was there, and the share of x with the factor n % p
  pub share-more : (p a n b old new : ℕ) → b ≡ n * x.1.value % p → SameMod p new (old + b * v x.0) → SameMod p old (a + n * weigh v (numbers (take i xs)))
      → SameMod p new (a + n * weigh v (numbers (take (i + 1) xs)))
  share-more p a n b old new m h g =
      h
      ∙ same-plus p old (a + n * weigh v (numbers (take i xs))) (b * v x.0) (n * x.1.value * v x.0) g
      (ap (λ c. c * v x.0 % p) m ∙ mul-mod_first (n * x.1.value) (v x.0) p)
      ∙ ap (λ y. y % p)
      (let q : n * (weigh v (numbers (take i xs)) + x.1.value * v x.0) ≡ n * weigh v (numbers (take i xs)) + n * x.1.value * v x.0 = omega arith in
      let r : n * weigh v (numbers (take (i + 1) xs)) ≡ n * (weigh v (numbers (take i xs)) + x.1.value * v x.0) = ap (λ c. n * c) weight-more in
      let s : a + n * weigh v (numbers (take i xs)) + n * x.1.value * v x.0 ≡ a + n * weigh v (numbers (take (i + 1) xs)) = omega (arith, q, r) in s)

-- a term that is pushed
pub weight-pushed : {X : Type 0} (w : X → ℕ) (old new : List (X × Fp)) (k : X) (b : Fp) → new ≡ old ++ (k, b) ∷ []
    → weigh w (numbers new) ≡ weigh w (numbers old) + b.value * w k
weight-pushed w old new k b e =
    ap (λ ys. weigh w (numbers ys)) e ∙ ap (weigh w) (numbers-append old ((k, b) ∷ [])) ∙ weigh-append w (numbers old) ((k, b.value) ∷ [])
    ∙ (let q : weigh w (numbers old) + (b.value * w k + 0) ≡ weigh w (numbers old) + b.value * w k = omega arith in q)

-- ---- the pairs of two chains

module _ (a b : Space) (w : SmallCell → ℕ) where
  weigh-row : (y : Small a) (n : ℕ) (e : Terms (Small b))
      → weigh w (on_keys (small_pair_for a b) (map (λ u. ((y, u.0), n * u.1)) e)) ≡ n * weigh (λ z. w (Pair (quote_small a y) z)) (quote_small_chain b e)
  weigh-row y n [] = omega arith
  weigh-row y n (u ∷ e) =
      let r = weigh-row y n e in
      let x : ℕ = w (Pair (quote_small a y) (quote_small b u.0)) in
      let d : ℕ = weigh (λ z. w (Pair (quote_small a y) z)) (quote_small_chain b e) in
      ap (λ m. n * u.1 * x + m) r ∙ (let q : n * u.1 * x + n * d ≡ n * (u.1 * x + d) = omega arith in q)

  -- the weight of the pairs, row by row
  pub weigh-pairs : (c : Terms (Small a)) (e : Terms (Small b))
      → weigh (λ y. weigh (λ z. w (Pair y z)) (quote_small_chain b e)) (quote_small_chain a c) ≡ weigh w (on_keys (small_pair_for a b) (small_terms c e))
  weigh-pairs [] e = refl
  weigh-pairs (t ∷ c) e =
      let r = weigh-pairs c e in
      let row = weigh-row t.0 t.1 e in
      ap (λ m. t.1 * weigh (λ z. w (Pair (quote_small a t.0) z)) (quote_small_chain b e) + m) r
      ∙ ap (λ m. m + weigh w (on_keys (small_pair_for a b) (small_terms c e))) (sym row)
      ∙ sym (ap (weigh w) (keys-append (map (λ u. ((t.0, u.0), t.1 * u.1)) e) (small_terms c e))
      ∙ weigh-append w (on_keys (small_pair_for a b) (map (λ u. ((t.0, u.0), t.1 * u.1)) e)) (on_keys (small_pair_for a b) (small_terms c e)))
    where
      keys-append : (c d : Terms (Small a × Small b)) → on_keys (small_pair_for a b) (c ++ d) ≡ on_keys (small_pair_for a b) c ++ on_keys (small_pair_for a b) d
      keys-append [] d = refl
      keys-append (s ∷ c) d = ap (λ l. (small_pair_for a b s.0, s.1) ∷ l) (keys-append c d)

-- a pair of y and z that is pushed with b, which is n times the number of z
pub pair-more : (w : SmallCell → ℕ) (p a n : ℕ) (old new : List (SmallCell × Fp)) (xs : List (SmallCell × Fp)) (i : ℕ) (x : SmallCell × Fp) → i < length xs → x ≡ get_or xs i x
    → (y c d : SmallCell) → c ≡ y → d ≡ x.0 → (b : Fp) → new ≡ old ++ (Pair c d, b) ∷ [] → b.value ≡ n * x.1.value % p
    → SameMod p (weigh w (numbers old)) (a + n * weigh (λ z. w (Pair y z)) (numbers (take i xs)))
    → SameMod p (weigh w (numbers new)) (a + n * weigh (λ z. w (Pair y z)) (numbers (take (i + 1) xs)))
pair-more w p a n old new xs i x l is y c d f g b e m h =
    share-more (λ z. w (Pair y z)) xs i x l is p a n b.value (weigh w (numbers old)) (weigh w (numbers new)) m
    (ap (λ k. k % p) (weight-pushed w old new (Pair c d) b e ∙ (λ k. weigh w (numbers old) + b.value * w (Pair (f k) (g k))))) h
