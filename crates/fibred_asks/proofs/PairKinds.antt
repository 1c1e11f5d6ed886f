-- Pairs of small cells that the code has, of base and fibre: their order, and those of the product of two chains.
use Rattle.std.proofs.Common.{◌≡◌, ℕ, ◌+◌, ◌*◌, ◌≤◌, max, [], ◌∷◌, map, arith}
use Rattle.fp_field.specs.Chains.{Terms, Each}
use Rattle.fp_field.proofs.Weights.{Each-append}
use Rattle.spaces.specs.Spaces.{Space, product}
use Rattle.spaces.specs.SmallCells.{Small, small_degree}
use Rattle.values.specs.Perturbed.{small_terms}
use Rattle.values.specs.Ranks.{loopings}
use Rattle.cells.specs.Small.{small_cmp}
use Rattle.spaces.specs.SmallCells.{small_cmp as typed_cmp}
use Rattle.oracle_iface.proofs.SmallOrders.{order-small}
use Rattle.homology_rules.specs.Shown.{IsSmallShown}
use Rattle.fibred_asks.specs.Parts.{small_pair_for}

max-sum : (m n : ℕ) → max m n ≤ m + n
max-sum m n = omega arith

module _ (a b : Space) where
  -- a pair of small cells that the code has
  abbrev pub IsShownPair : Small a × Small b → Type 0
  IsShownPair y = IsSmallShown (product a b) y

  pub pairs-order : (x y : Small a × Small b) → IsShownPair x → IsShownPair y → small_cmp (small_pair_for a b x) (small_pair_for a b y) ≡ typed_cmp (product a b) x y
  pairs-order x y h k = order-small (product a b) x y h.0 k.0 h.1 k.1

  module _ (i j : ℕ) (l : i + loopings a ≤ 24) (k : j + loopings b ≤ 24) where
    -- of degree i and j
    both-shown : (y : Small a) (z : Small b) → IsSmallShown a y × (small_degree a y ≡ i) → IsSmallShown b z × (small_degree b z ≡ j) → IsShownPair (y, z)
    both-shown y z h g = ((h.0.0, g.0.0), counted (small_degree a y) (small_degree b z) (loopings a) (loopings b) h.1 g.1 l k)
      where
        counted : (m n c d : ℕ) → m ≡ i → n ≡ j → i + c ≤ 24 → j + d ≤ 24 → m + n + max c d ≤ 4294967295
        counted m n c d e f l k = omega (arith, e, f, l, k, max-sum c d)

    row-shown : (y : Small a) (n : ℕ) (e : Terms (Small b)) → IsSmallShown a y × (small_degree a y ≡ i) → Each (λ z. IsSmallShown b z × (small_degree b z ≡ j)) e
        → Each IsShownPair (map (λ u. ((y, u.0), n * u.1)) e)
    row-shown y n [] h r = tt
    row-shown y n (u ∷ e) h r = (both-shown y u.0 h r.0, row-shown y n e h r.1)

    pub pairs-shown : (c : Terms (Small a)) (e : Terms (Small b)) → Each (λ y. IsSmallShown a y × (small_degree a y ≡ i)) c
        → Each (λ z. IsSmallShown b z × (small_degree b z ≡ j)) e → Each IsShownPair (small_terms c e)
    pairs-shown [] e h r = tt
    pairs-shown (t ∷ c) e h r =
        Each-append IsShownPair (map (λ u. ((t.0, u.0), t.1 * u.1)) e) (small_terms c e) (row-shown t.0 t.1 e h.0 r) (pairs-shown c e h.1 r)
