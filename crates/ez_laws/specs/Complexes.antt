-- The complex of pairs, the tensor complex, and the maps between them (Eilenberg and Mac Lane, On the groups H(Pi, n) I and II,
-- 1953 and 1954; May, Simplicial Objects, chapter VI, 29).
--
-- The generators of degree n are the pairs of simplices of degree n that no s_j is taken on both parts of, and the tensors of two
-- simplices without degeneracies whose degrees add up to n. d is the alternating sum of the faces, and on a tensor
-- d(x (x) y) = d x (x) y + (-1)^i x (x) d y for x of degree i. What is degenerate counts as 0.
--
--   on the torus the tensor S1 (x) S1 has d = 0
use Rattle.std.specs.Prelude.{◌≡◌, ℕ, zero, suc, ◌+◌, ◌-◌, ◌*◌, Bool, true, [], ◌∷◌, ◌++◌, map}
use Rattle.std.specs.Ordering.{is_eq}
use Rattle.fp_field.specs.Field.{sign}
use Rattle.fp_field.specs.Chains.{Terms, scale, keep}
use Rattle.fp_field.specs.Reduction.{Complex, Maps}
use Rattle.spaces.specs.Orders.{Ordered}
use Rattle.spaces.specs.EilenbergZilber.{Linear, Pair, Tensor, tensor_order, is_pair_cell, is_tensor_cell, pair_d, aw, eml, flow, same_pair}

module _ {K J : Type 0} (p : ℕ) (L : Linear K) (In : ℕ → K → Type 0) (R : Ordered J) where
  abbrev pub IsPair : Pair K J → Type 0
  IsPair s = In s.0 s.1 × R.set.In s.0 s.2 × (is_pair_cell p L R s ≡ true)

  abbrev pub pair_complex : Complex (Pair K J)
  pair_complex = record { generator = λ n s. (s.0 ≡ n) × IsPair s; same = same_pair p L R; d = pair_d p L R }

  abbrev pub IsTensor : Tensor K J → Type 0
  IsTensor z = In z.0 z.1 × R.set.In z.2 z.3 × (is_tensor_cell p L R z ≡ true)

  abbrev pub same_tensor : Tensor K J → Tensor K J → Bool
  same_tensor s t = is_eq (tensor_order p L R s t)

  -- the first k faces of the left part, with their signs, and of the right part
  abbrev pub left_faces : ℕ → Tensor K J → Terms (Tensor K J)
  left_faces zero z = []
  left_faces (suc k) z = map (λ t. ((z.0 - 1, t.0, z.2, z.3), sign p k * t.1)) (L.faces z.0 k z.1) ++ left_faces k z

  abbrev pub right_faces : ℕ → Tensor K J → Terms (Tensor K J)
  right_faces zero z = []
  right_faces (suc k) z = ((z.0, z.1, z.2 - 1, R.set.face k z.3), sign p k) ∷ right_faces k z

  abbrev pub left_d : Tensor K J → Terms (Tensor K J)
  left_d (zero, x, j, y) = []
  left_d (suc i, x, j, y) = left_faces (suc (suc i)) (suc i, x, j, y)

  abbrev pub right_d : Tensor K J → Terms (Tensor K J)
  right_d (i, x, zero, y) = []
  right_d (i, x, suc j, y) = right_faces (suc (suc j)) (i, x, suc j, y)

  abbrev pub tensor_d : Tensor K J → Terms (Tensor K J)
  tensor_d z = keep (is_tensor_cell p L R) (left_d z ++ scale (sign p z.0) (right_d z))

  abbrev pub tensor_complex : Complex (Tensor K J)
  tensor_complex = record { generator = λ n z. (z.0 + z.2 ≡ n) × IsTensor z; same = same_tensor; d = tensor_d }

  -- Alexander-Whitney, Eilenberg-Mac Lane and the flow
  abbrev pub eilenberg_zilber : Maps (Pair K J) (Tensor K J)
  eilenberg_zilber = record { big = pair_complex; small = tensor_complex; f = aw p L R; g = eml p L R; h = flow p L R }
