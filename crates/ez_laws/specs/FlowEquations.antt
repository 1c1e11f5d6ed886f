-- What is said of the flow on pairs of simplices, and of the dimension of left parts.
use Rattle.std.specs.Prelude.{◌≡◌, ℕ, zero, suc, ◌+◌, ◌≤◌, true, false, cond, [], ◌++◌}
use Rattle.fp_field.specs.Chains.{Terms, extend, Each}
use Rattle.fp_field.specs.Reduction.{SameTerms}
use Rattle.spaces.specs.Orders.{Ordered}
use Rattle.spaces.specs.EilenbergZilber.{Linear, Pair, Tensor, pair_d, moved, left_over, is_source, same_pair, aw, eml, flow}
use Rattle.ez_laws.specs.Complexes.{IsPair, IsTensor, same_tensor}

module _ {K J : Type 0} (p : ℕ) (L : Linear K) (In : ℕ → K → Type 0) (R : Ordered J) where
  -- k is 0 off the sources, and k(s) = u t + k(s - u d t) on a source s with target t
  pub record MeetsFlow (k : Pair K J → Terms (Pair K J)) : Type 0 where
    pub elsewhere : (s : Pair K J) → IsPair p L In R s → is_source p L R s ≡ false → SameTerms p (same_pair p L R) (k s) []
    pub on_source : (s : Pair K J) → IsPair p L In R s → is_source p L R s ≡ true
        → SameTerms p (same_pair p L R) (k s) (moved p L R s ++ extend k (left_over p L R s))

  -- the flow meets its equations, and it alone
  pub record IsOneFlow : Type 0 where
    pub meets : MeetsFlow (flow p L R)
    pub alone : (k : Pair K J → Terms (Pair K J)) → MeetsFlow k → (s : Pair K J) → IsPair p L In R s → SameTerms p (same_pair p L R) (k s) (flow p L R s)
    -- k d k = k
    pub undoes : (s : Pair K J) → IsPair p L In R s → SameTerms p (same_pair p L R) (extend (flow p L R) (extend (pair_d p L R) (flow p L R s))) (flow p L R s)
    -- Alexander-Whitney is 0 on the target of a source
    pub aw_of_target : (s : Pair K J) → IsPair p L In R s → is_source p L R s ≡ true → SameTerms p (same_tensor p L In R) (extend (aw p L R) (moved p L R s)) []

  -- the places below n where x moves: the dimension of its cell
  abbrev pub moves : ℕ → K → ℕ
  moves zero x = 0
  moves (suc n) x = moves n x + cond (L.has_degeneracy n x) 0 1

  abbrev pub left_dim : Pair K J → ℕ
  left_dim s = moves s.0 s.1

  -- no map raises the dimension of the left cell
  pub record KeepsLeft : Type 0 where
    pub aw_keeps : (s : Pair K J) → IsPair p L In R s → Each (λ t. t.0 ≤ left_dim s) (aw p L R s)
    pub eml_keeps : (z : Tensor K J) → IsTensor p L In R z → Each (λ t. left_dim t ≤ z.0) (eml p L R z)
    pub flow_keeps : (s : Pair K J) → IsPair p L In R s → Each (λ t. left_dim t ≤ left_dim s) (flow p L R s)
