-- Tensors of two generators of the code, the tensor product of two reductions on them, and what its maps ask of their source, in order
-- (the effective reductions of Rubio and Sergeraert, Constructive Homological Algebra and Applications). The left part is evaluated
-- before the right one.
--
--   f on x (x) y: what f of the left part asks on x, and then what f of the right part asks on y
use Rattle.std.specs.Prelude.{◌≡◌, ◌+◌, ◌<◌, ◌^◌, ℕ, List, ◌++◌}
use Rattle.std.specs.declared.cmp.Ordering.{Ordering}
use Rattle.fp_field.specs.Normal.{normal}
use Rattle.fp_field.specs.Reduction.{Maps}
use Rattle.chain_core.specs.Asks.{asks_along}
use Rattle.reduct_laws.specs.Lists.{Lists}
use Rattle.tensor_red.specs.declared.tensors.Tensor.{Tensor}
use Rattle.tensor_red.specs.Products.{Pairs, tensor_in}

abbrev pub tensors : {X Y : Type 0} → Pairs X Y (Tensor X Y)
tensors = record { pair = λ x y. record { left = x; right = y }; left = λ t. t.left; right = λ t. t.right }

abbrev pub tensor_maps : {B1 B2 S1 S2 : Type 0} → ℕ → (B1 → ℕ) → (S1 → ℕ) → Maps B1 S1 → Maps B2 S2 → Maps (Tensor B1 B2) (Tensor S1 S2)
tensor_maps p degree small_degree m n = tensor_in tensors tensors p degree small_degree m n

-- clones of keys equal them
abbrev pub ClonesEqual : {K : Type 0} → (K → K → Type 0) → Type 0
ClonesEqual {K} is_clone = (x y : K) → is_clone x y → y ≡ x

-- Tensors of two generators that may be asked, with a degree below 2^32.
abbrev pub BothMayBeAsked : {X Y : Type 0} → (X → Type 0) → (Y → Type 0) → (X → ℕ) → (Y → ℕ) → Tensor X Y → Type 0
BothMayBeAsked left right left_degree right_degree z = left z.left × right z.right × (left_degree z.left + right_degree z.right < 2 ^ 32)

-- what g f of one part asks, where `cmp` is the order of its small generators
abbrev pub there_and_back_asks : {B S A : Type 0} → (S → S → Ordering) → ℕ → Maps B S → Lists B S A → B → List A
there_and_back_asks cmp p m a x = a.f x ++ asks_along a.g (normal cmp p (m.f x))

-- what the maps of the tensor product ask
abbrev pub tensor_lists : {B1 B2 S1 S2 A : Type 0} → (S1 → S1 → Ordering) → ℕ → Maps B1 S1 → Lists B1 S1 A → Lists B2 S2 A → Lists (Tensor B1 B2) (Tensor S1 S2) A
tensor_lists cmp p m a b = record {
  big_d = λ z. a.big_d z.left ++ b.big_d z.right;
  small_d = λ z. a.small_d z.left ++ b.small_d z.right;
  f = λ z. a.f z.left ++ b.f z.right;
  g = λ z. a.g z.left ++ b.g z.right;
  h = λ z. a.h z.left ++ (there_and_back_asks cmp p m a z.left ++ b.h z.right);
}
