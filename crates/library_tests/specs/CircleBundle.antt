-- The circle bundle of value 2 over the 2-sphere, over F_p: the part of its tensors of chains on which a few values can be worked by hand.
-- The big complex is the tensor product of two complexes. The differential of the bundle is that of the tensors and what the twist adds
-- (the twisted tensor product: Brown, Twisted tensor products; Shih 1962; Rubio and Sergeraert, Constructive Homological Algebra and
-- Applications).
--
-- Left, the 2-sphere: the vertex * in degree 0 and S2 in degree 2, with d = 0. The keys are 0 and 2. The reduction is the identity.
--
-- Right, in K(Z,1): the lists | in degree 0, |1| and |2| in degree 1, and |1|1| in degree 2. The keys are 0, 1, 2 and 3. Faces 0 and n drop
-- the first and the last integer, and a face between adds two:
--
--   d(|a|) = | - | = 0, d(|1|1|) = |1| - |2| + |1| = 2 |1| - |2|
--
-- The small complex is the circle with | and |1|, and d = 0; g is the inclusion, f(|) = |, f(|a|) = a |1|, f(|1|1|) = 0; h(|2|) = - |1|1|,
-- and h is 0 on the others. So d h + h d = 1 - g f on each of the four:
--
--   on |     :  0 + 0 = | - |
--   on |1|   :  0 + 0 = |1| - |1|
--   on |2|   :  - (2 |1| - |2|) + 0 = |2| - 2 |1|
--   on |1|1| :  0 + h(2 |1| - |2|) = |1|1|, and g f = 0
--
-- What the twist adds: the tensor S2 (x) | is the pair of S2 and the degenerate list |0|0|, with a sign +. The twist turns its face 0 from
-- the pair of s_0 * and |0|, which is degenerate, into the pair of s_0 * and |2| + |0| = |2|. Its sign as a face is +. In this pair only the
-- right part moves, so the homotopy of Eilenberg and Zilber is 0 on it, and no more terms come. Its Alexander-Whitney image is
-- * (x) |2|: the left front of degree 1 is s_0 *, which is degenerate. So S2 (x) | goes to * (x) |2|. Over * the twist adds 0. What it adds to
-- S2 (x) other lists leaves the four lists, and is not asked.
use Rattle.std.specs.Prelude.{◌≡◌, ◌<◌, ℕ, ◌-◌, ◌%◌, [], ◌∷◌, Bool, true, cond, nat_eq, nat_lt}
use Rattle.fp_field.specs.Chains.{Terms}
use Rattle.fp_field.specs.Reduction.{Maps}
use Rattle.tensor_red.specs.declared.tensors.Tensor.{Tensor}

-- the generators of the sphere
abbrev pub sphere_generator : ℕ → ℕ → Type 0
sphere_generator n x = (cond (nat_eq x 2) true (nat_eq x 0) ≡ true) × (x ≡ n)

-- the number of integers in a list
abbrev pub list_length : ℕ → ℕ
list_length x = cond (nat_eq x 0) 0 (cond (nat_eq x 3) 2 1)

-- the reduction to the circle
abbrev pub circle : (ℕ → ℕ → Bool) → ℕ → Maps ℕ ℕ
circle same p = record {
  big = record { generator = λ n x. (x < 4) × (list_length x ≡ n); same = same; d = λ x. cond (nat_eq x 3) ((1, 2 % p) ∷ (2, p - 1) ∷ []) [] };
  small = record { generator = λ n y. (y < 2) × (list_length y ≡ n); same = same; d = λ y. [] };
  f = λ x. cond (nat_lt x 3) ((cond (nat_eq x 0) 0 1, cond (nat_eq x 2) (2 % p) 1) ∷ []) [];
  g = λ y. (y, 1) ∷ [];
  h = λ x. cond (nat_eq x 2) ((3, p - 1) ∷ []) [];
}

-- what the twist of value 2 adds
abbrev pub twist : Tensor ℕ ℕ → Terms (Tensor ℕ ℕ)
twist x = cond (nat_eq x.left 2) ((record { left = 0; right = 2 }, 1) ∷ []) []

-- where it may be asked: over *, and on S2 (x) |
abbrev pub twist_known : Tensor ℕ ℕ → Bool
twist_known x = cond (nat_eq x.left 2) (nat_eq x.right 0) true
