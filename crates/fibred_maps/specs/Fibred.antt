-- Fibred spaces by their definition: base, fibre and twist, and the four maps as right sides (Shih 1962; Rubio and Sergeraert, Constructive
-- Homological Algebra and Applications, chapter 3).
--
-- A right side asks for the maps of base and fibre. It is read twice: with the values of all questions, which gives the chain that the map
-- comes to, and for the questions that are asked on the way to it, in order. Pairs, tensors, small cells and questions have names in the code.
--
--   F of a product at the pair <S1,S1> of two circles asks for F of both circles at the parts of the terms of its Alexander-Whitney chain
use Rattle.std.specs.Prelude.{◌≡◌, ℕ, zero, suc, List, map}
use Rattle.fp_field.specs.declared.prime.Prime.{Prime}
use Rattle.fp_field.specs.Field.{number}
use Rattle.fp_field.specs.Chains.{Terms}
use Rattle.spaces.specs.Orders.{Ordered}
use Rattle.spaces.specs.EilenbergZilber.{Linear, Pair, Tensor}
use Rattle.values.specs.Asks.{Ask, Right, value_with, asked_with}
use Rattle.values.specs.Values.{value}
use Rattle.values.specs.Perturbed.{Part, total_f, total_g, total_h, total_d}
use Rattle.values.specs.Rules.{named}

-- A fibred space, and its names in the code: B for pairs, M for tensors, N for small cells and A for questions.
pub record Fibred (B M N A : Type 0) : Type 1 where
  pub Base : Type 0
  pub Fibre : Type 0
  pub BaseSmall : Type 0
  pub FibreSmall : Type 0
  pub base_set : Linear Base
  pub fibre_set : Ordered Fibre
  pub base : Part Base BaseSmall
  pub fibre : Part Fibre FibreSmall
  pub twist : Pair Base Fibre → Terms (Pair Base Fibre)
  -- the generators of each degree, and a degree up to which the code names them
  pub IsPair : ℕ → Pair Base Fibre → Type 0
  pub IsTensor : ℕ → Tensor Base Fibre → Type 0
  pub IsSmall : ℕ → BaseSmall × FibreSmall → Type 0
  pub top : ℕ
  -- their names, and what a name stands for
  pub pair : Pair Base Fibre → B
  pub tensor : Tensor Base Fibre → M
  pub small : BaseSmall × FibreSmall → N
  pub key : Ask → A
  pub pair_of : B → Pair Base Fibre
  pub small_of : N → BaseSmall × FibreSmall

-- the generators of one degree less, of which there are none below degree 0
abbrev pub below : {K : Type 0} → (ℕ → K → Type 0) → ℕ → K → Type 0
below P zero x = ⊥
below P (suc n) x = P n x

module _ {B M N A : Type 0} (s : Fibred B M N A) (p : Prime) where
  -- what is asked on the way to a right side, in order, and what it comes to
  abbrev pub keys_of : {X : Type 0} → Right X → List A
  keys_of r = map s.key (asked_with (value (number p)) r)

  abbrev pub value_of : {X : Type 0} → Right X → X
  value_of r = value_with (value (number p)) r

  -- names of pairs and small cells of degree n
  abbrev pub NamesPair : ℕ → B → Type 0
  NamesPair n x = s.IsPair n (s.pair_of x) × (s.pair (s.pair_of x) ≡ x)

  abbrev pub NamesSmall : ℕ → N → Type 0
  NamesSmall n y = s.IsSmall n (s.small_of y) × (s.small (s.small_of y) ≡ y)

  -- ---- the four maps in degree n

  abbrev pub f_side : ℕ → Terms B → Right (Terms (s.BaseSmall × s.FibreSmall))
  f_side n c = total_f (number p) s.base_set s.fibre_set s.base s.fibre s.twist n (named s.pair_of c)

  abbrev pub g_side : ℕ → N → Right (Terms (Pair s.Base s.Fibre))
  g_side n y = total_g (number p) s.base_set s.fibre_set s.base s.fibre s.twist n (s.small_of y)

  abbrev pub h_side : ℕ → Terms B → Right (Terms (Pair s.Base s.Fibre))
  h_side n c = total_h (number p) s.base_set s.fibre_set s.base s.fibre s.twist n (named s.pair_of c)

  abbrev pub d_side : ℕ → N → Right (Terms (s.BaseSmall × s.FibreSmall))
  d_side n y = total_d (number p) s.base_set s.fibre_set s.base s.fibre s.twist n (s.small_of y)

  -- ---- their values, in the names of the code

  abbrev pub f_value : ℕ → Terms B → Terms N
  f_value n c = named s.small (value_of (f_side n c))

  abbrev pub g_value : ℕ → N → Terms B
  g_value n y = named s.pair (value_of (g_side n y))

  abbrev pub h_value : ℕ → Terms B → Terms B
  h_value n c = named s.pair (value_of (h_side n c))

  abbrev pub d_value : ℕ → N → Terms N
  d_value n y = named s.small (value_of (d_side n y))

  -- ---- what they ask, in order

  abbrev pub f_keys : ℕ → Terms B → List A
  f_keys n c = keys_of (f_side n c)

  abbrev pub g_keys : ℕ → N → List A
  g_keys n y = keys_of (g_side n y)

  abbrev pub h_keys : ℕ → Terms B → List A
  h_keys n c = keys_of (h_side n c)

  abbrev pub d_keys : ℕ → N → List A
  d_keys n y = keys_of (d_side n y)
