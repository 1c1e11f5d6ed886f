-- What the maps of a reduction ask of their source, in order. Maps act from right to left, each on a whole chain, key by key in order, and
-- a sum is evaluated part by part from left to right (the effective reductions of Rubio and Sergeraert, Constructive Homological Algebra
-- and Applications, whose maps may call one another).
--
--   f2 f1 on x: what f1 asks on x, and then what f2 asks on each key of f1(x)
use Rattle.std.specs.Prelude.{ℕ, List, [], ◌++◌}
use Rattle.std.specs.declared.cmp.Ordering.{Ordering}
use Rattle.fp_field.specs.Chains.{Each}
use Rattle.fp_field.specs.Normal.{normal, apply}
use Rattle.fp_field.specs.Reduction.{Maps}
use Rattle.chain_core.specs.Asks.{asks_along}

-- the list of asks of each map on each generator
pub record Lists (B S A : Type 0) : Type 0 where
  pub big_d : B → List A
  pub small_d : S → List A
  pub f : B → List A
  pub g : S → List A
  pub h : B → List A

-- the identity asks what its differential asks
abbrev pub identity_lists : {K A : Type 0} → (K → List A) → Lists K K A
identity_lists asks = record { big_d = asks; small_d = asks; f = λ x. []; g = λ x. []; h = λ x. [] }

-- A composition. The chains in between are in normal form, in the order of the middle complex.
module _ {B M S : Type 0} (cmp : M → M → Ordering) (p : ℕ) (m : Maps B M) (n : Maps M S) where
  -- what g1 h2 f1 asks
  abbrev pub lifted_asks : {A : Type 0} → Lists B M A → Lists M S A → B → List A
  lifted_asks a b x = a.f x ++ (asks_along b.h (normal cmp p (m.f x)) ++ asks_along a.g (apply cmp p n.h (normal cmp p (m.f x))))

  abbrev pub composed_lists : {A : Type 0} → Lists B M A → Lists M S A → Lists B S A
  composed_lists a b = record {
    big_d = a.big_d;
    small_d = b.small_d;
    f = λ x. a.f x ++ asks_along b.f (normal cmp p (m.f x));
    g = λ y. b.g y ++ asks_along a.g (normal cmp p (n.g y));
    h = λ x. a.h x ++ lifted_asks a b x;
  }

  -- the big generators on which the maps of a composition call those of the parts only where these may be asked
  abbrev pub composed_may_ask : (B → Type 0) → (M → Type 0) → (M → Type 0) → B → Type 0
  composed_may_ask first_big first_small second_big x =
      first_big x × Each second_big (normal cmp p (m.f x)) × Each first_small (apply cmp p n.h (normal cmp p (m.f x)))

  -- the small ones
  abbrev pub composed_may_ask_small : (M → Type 0) → (S → Type 0) → S → Type 0
  composed_may_ask_small first_small second_small y = second_small y × Each first_small (normal cmp p (n.g y))
