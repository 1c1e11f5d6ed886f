-- What ties the code to a fibred space: a reduction with a twist and a reduction of its small complex that are, name by name, the
-- Eilenberg-Zilber reduction with the twist of the space, and the tensor product of the reductions of base and fibre (Shih 1962; Rubio and
-- Sergeraert, Constructive Homological Algebra and Applications, chapter 3).
--
-- Each fact is about one map on one generator. Chains need agree in normal form alone.
--
--   of a product the twist of both is 0, and F of the code at a tensor of two cells asks for F of both and gives the pairs of their terms
use Rattle.std.specs.Prelude.{◌≡◌, ℕ, ◌≤◌, ◌++◌}
use Rattle.std.specs.declared.cmp.Ordering.{Ordering}
use Rattle.fp_field.specs.declared.prime.Prime.{Prime}
use Rattle.fp_field.specs.Field.{number, sign}
use Rattle.fp_field.specs.Chains.{Terms, Each, scale}
use Rattle.fp_field.specs.Normal.{normal}
use Rattle.fp_field.specs.Reduction.{one, Maps}
use Rattle.spaces.specs.EilenbergZilber.{Tensor, pair_order, tensor_order, aw, eml, flow}
use Rattle.values.specs.Asks.{Right}
use Rattle.values.specs.Perturbed.{f_f, g_g, t, smalls_by, small_terms}
use Rattle.values.specs.Rules.{named}
use Rattle.reduct_laws.specs.Lists.{Lists}
use Rattle.twice_perturbed.specs.Firsts.{First}
use Rattle.fibred_maps.specs.Fibred.{Fibred, below, keys_of, value_of}

-- names stand in the order of what they name
abbrev pub Keeps : {X Y : Type 0} → (X → Y) → (X → X → Ordering) → (Y → Y → Ordering) → (X → Type 0) → Type 0
Keeps {X} {Y} q cmp cmp' P = (x y : X) → P x → P y → cmp' (q x) (q y) ≡ cmp x y

-- g is f in the names of the code, on generators with the fact P, and the generators of f have the fact Q
pub record Carries {A B C D : Type 0} (p : ℕ) (cmp : D → D → Ordering) (P : A → Type 0) (Q : C → Type 0)
    (q : A → B) (r : C → D) (f : A → Terms C) (g : B → Terms D) : Type 0 where
  pub read : (x : A) → P x → normal cmp p (g (q x)) ≡ normal cmp p (named r (f x))
  pub has : (x : A) → P x → Each Q (f x)

-- the small differential without what the twist adds
abbrev pub untwisted_d : {B M N A : Type 0} (s : Fibred B M N A) → Prime → s.BaseSmall × s.FibreSmall → Terms (s.BaseSmall × s.FibreSmall)
untwisted_d s p y =
    small_terms (value_of s p (s.base.small_d y.0)) (one y.1)
    ++ scale (sign (number p) (s.base.degree y.0)) (small_terms (one y.0) (value_of s p (s.fibre.small_d y.1)))

module _ {B M N A : Type 0} (by_big : B → B → Ordering) (by_middle : M → M → Ordering) (by_small : N → N → Ordering)
    (s : Fibred B M N A) (a : First B M) (m : Maps M N) (l : Lists M N A) where
  abbrev p : ℕ
  p = number a.prime

  -- ---- the orders of names

  pub record KeepsOrders : Type 0 where
    pub pairs : (n : ℕ) → n ≤ s.top → Keeps s.pair (pair_order p s.base_set s.fibre_set) by_big (s.IsPair n)
    pub tensors : (n : ℕ) → n ≤ s.top → Keeps s.tensor (tensor_order p s.base_set s.fibre_set) by_middle (s.IsTensor n)
    pub smalls : (n : ℕ) → n ≤ s.top → Keeps s.small (smalls_by p s.base_set s.fibre_set s.base s.fibre s.twist) by_small (s.IsSmall n)

  -- ---- the reduction with the twist, which asks nothing

  pub record IsFirst : Type 0 where
    pub front : (n : ℕ) → n ≤ s.top → Carries p by_middle (s.IsPair n) (s.IsTensor n) s.pair s.tensor (aw p s.base_set s.fibre_set) a.maps.f
    pub shuffle : (n : ℕ) → n ≤ s.top → Carries p by_big (s.IsTensor n) (s.IsPair n) s.tensor s.pair (eml p s.base_set s.fibre_set) a.maps.g
    pub flow : (n : ℕ) → n ≤ s.top → Carries p by_big (below s.IsPair n) (s.IsPair n) s.pair s.pair (flow p s.base_set s.fibre_set) a.maps.h
    pub twist : (n : ℕ) → n ≤ s.top → Carries p by_big (s.IsPair n) (below s.IsPair n) s.pair s.pair s.twist a.twist

  -- ---- the tensor product of the reductions of base and fibre

  abbrev f_right : Tensor s.Base s.Fibre → Right (Terms (s.BaseSmall × s.FibreSmall))
  f_right z = f_f p s.base_set s.fibre_set s.base s.fibre s.twist z

  abbrev g_right : s.BaseSmall × s.FibreSmall → Right (Terms (Tensor s.Base s.Fibre))
  g_right y = g_g p s.base_set s.fibre_set s.base s.fibre s.twist y

  abbrev t_right : Tensor s.Base s.Fibre → Right (Terms (Tensor s.Base s.Fibre))
  t_right z = t p s.base_set s.fibre_set s.base s.fibre s.twist z

  pub record IsSecond : Type 0 where
    pub f : (n : ℕ) → n ≤ s.top → Carries p by_small (s.IsTensor n) (s.IsSmall n) s.tensor s.small (λ z. value_of s a.prime (f_right z)) m.f
    pub g : (n : ℕ) (y : s.BaseSmall × s.FibreSmall) → n ≤ s.top → s.IsSmall n y
        → normal by_middle p (m.g (s.small y)) ≡ named s.tensor (value_of s a.prime (g_right y))
    pub g_has : (n : ℕ) (y : s.BaseSmall × s.FibreSmall) → n ≤ s.top → s.IsSmall n y → Each (s.IsTensor n) (value_of s a.prime (g_right y))
    pub h : (n : ℕ) → n ≤ s.top → Carries p by_middle (below s.IsTensor n) (s.IsTensor n) s.tensor s.tensor (λ z. value_of s a.prime (t_right z)) m.h
    pub d : (n : ℕ) → n ≤ s.top → Carries p by_small (s.IsSmall n) (below s.IsSmall n) s.small s.small (untwisted_d s a.prime) m.small.d

  -- what its maps ask, on names
  pub record AsksAs : Type 0 where
    pub f : (n : ℕ) (z : Tensor s.Base s.Fibre) → n ≤ s.top → s.IsTensor n z → l.f (s.tensor z) ≡ keys_of s a.prime (f_right z)
    pub g : (n : ℕ) (y : s.BaseSmall × s.FibreSmall) → n ≤ s.top → s.IsSmall n y → l.g (s.small y) ≡ keys_of s a.prime (g_right y)
    pub h : (n : ℕ) (z : Tensor s.Base s.Fibre) → n ≤ s.top → below s.IsTensor n z → l.h (s.tensor z) ≡ keys_of s a.prime (t_right z)
    pub d : (n : ℕ) (y : s.BaseSmall × s.FibreSmall) → n ≤ s.top → s.IsSmall n y
        → l.small_d (s.small y) ≡ keys_of s a.prime (s.base.small_d y.0) ++ keys_of s a.prime (s.fibre.small_d y.1)

  pub record IsJoined : Type 0 where
    pub orders : KeepsOrders
    pub first : IsFirst
    pub second : IsSecond
    pub asks : AsksAs
