-- The Eilenberg-Zilber maps on normalised chains over F_p (May, Simplicial Objects, chapter VI, 29; Romero and Sergeraert,
-- Discrete Vector Fields, part II): Alexander-Whitney, Eilenberg-Mac Lane and the flow of the vector field.
--
-- The left part may be one whose faces are chains, as for loop groups; the right part is a simplicial set. A pair has its degree
-- before its two parts, a tensor has each part after its degree. Degenerate pairs and tensors with a degenerate part are 0.
--
--   AW(<S1,S1>) = * (x) S1 + S1 (x) *;  over F_3 the flow of <S1,S1> is 2 <0:S1,1:S1>
use Rattle.std.specs.Prelude.{ℕ, zero, suc, ◌+◌, ◌-◌, ◌*◌, Bool, true, false, not, ◌&&◌, cond, List, [], ◌∷◌, ◌++◌, map}
use Rattle.std.specs.Ordering.{ordering_then, nat_cmp, is_eq}
use Rattle.std.specs.declared.cmp.Ordering.{Ordering}
use Rattle.fp_field.specs.Field.{sign}
use Rattle.fp_field.specs.Chains.{Terms, scale, extend, keep}
use Rattle.fp_field.specs.Flows.{IsFlowOf, flow_by}
use Rattle.fp_field.specs.Normal.{normal}
use Rattle.fp_field.specs.Reduction.{one}
use Rattle.spaces.specs.Simplicial.{some_below, is_degenerate, has_degeneracy}
use Rattle.spaces.specs.Orders.{Ordered}
use Rattle.simp_ops.specs.PathWords.{Step, path_word, Event, source, target, critical, event, pairs, shuffles, is_left, is_right}

-- Simplices of each degree whose faces are chains of simplices: `faces n i x` is d_i of x of degree n.
pub record Linear (K : Type 0) : Type 0 where
  pub faces : ℕ → ℕ → K → Terms K
  pub degeneracy : ℕ → K → K
  pub has_degeneracy : ℕ → K → Bool
  pub cmp : ℕ → K → K → Ordering

abbrev pub linear : {K : Type 0} → Ordered K → Linear K
linear A = record { faces = λ n i x. one (A.set.face i x); degeneracy = A.set.degeneracy; has_degeneracy = has_degeneracy A.set; cmp = A.cmp }

abbrev pub Pair : Type 0 → Type 0 → Type 0
Pair K J = ℕ × K × J

abbrev pub Tensor : Type 0 → Type 0 → Type 0
Tensor K J = ℕ × K × ℕ × J

module _ {K J : Type 0} (p : ℕ) (L : Linear K) (R : Ordered J) where
  abbrev pub pair_order : Pair K J → Pair K J → Ordering
  pair_order s t = ordering_then (nat_cmp s.0 t.0) (ordering_then (L.cmp s.0 s.1 t.1) (R.cmp s.0 s.2 t.2))

  abbrev pub tensor_order : Tensor K J → Tensor K J → Ordering
  tensor_order s t =
      ordering_then (nat_cmp s.0 t.0) (ordering_then (L.cmp s.0 s.1 t.1) (ordering_then (nat_cmp s.2 t.2) (R.cmp s.2 s.3 t.3)))

  -- pairs that no s_j is taken on both parts of
  abbrev pub is_pair_cell : Pair K J → Bool
  is_pair_cell s = not (some_below s.0 (λ j. L.has_degeneracy j s.1 && has_degeneracy R.set j s.2))

  abbrev pub is_tensor_cell : Tensor K J → Bool
  is_tensor_cell s = not (some_below s.0 (λ j. L.has_degeneracy j s.1)) && not (is_degenerate R.set s.2 s.3)

  -- the first i faces, with their signs
  abbrev pub first_faces : ℕ → Pair K J → Terms (Pair K J)
  first_faces zero s = []
  first_faces (suc i) s =
      map (λ t. ((s.0 - 1, t.0, R.set.face i s.2), sign p i * t.1)) (L.faces s.0 i s.1) ++ first_faces i s

  -- the differential of pairs, without any twist
  abbrev pub pair_d : Pair K J → Terms (Pair K J)
  pair_d (zero, x, y) = []
  pair_d (suc n, x, y) = keep is_pair_cell (first_faces (suc (suc n)) (suc n, x, y))

  -- ---- Alexander-Whitney: the sum of front_i (x) back_i

  -- the last k faces of x of degree i + k, from the last vertex down
  abbrev pub front : ℕ → ℕ → K → Terms K
  front i zero x = one x
  front i (suc k) x = extend (front i k) (L.faces (i + suc k) (i + suc k) x)

  -- d_0, taken i times
  abbrev pub back : ℕ → J → J
  back zero y = y
  back (suc i) y = back i (R.set.face 0 y)

  -- the terms for the first i of the n + 1 places
  abbrev pub cuts : ℕ → Pair K J → Terms (Tensor K J)
  cuts zero s = []
  cuts (suc i) s = map (λ t. ((i, t.0, s.0 - i, back i s.2), t.1)) (front i (s.0 - i) s.1) ++ cuts i s

  abbrev pub aw : Pair K J → Terms (Tensor K J)
  aw s = keep is_tensor_cell (cuts (suc s.0) s)

  -- ---- Eilenberg-Mac Lane: the signed sum over all shuffles

  -- s_j for each step of the word, from place j on, that passes
  abbrev pub spread : {A : Type 0} → (ℕ → A → A) → (Step → Bool) → ℕ → List Step → A → A
  spread degeneracy test j [] x = x
  spread degeneracy test j (s ∷ w) x = spread degeneracy test (suc j) w (cond (test s) (degeneracy j x) x)

  abbrev pub shuffled : Tensor K J → List Step → Pair K J × ℕ
  shuffled s w = ((s.0 + s.2, spread L.degeneracy is_right 0 w s.1, spread R.set.degeneracy is_left 0 w s.3), sign p (pairs w))

  abbrev pub eml : Tensor K J → Terms (Pair K J)
  eml s = map (shuffled s) (shuffles (s.0 + s.2) s.0)

  -- ---- the flow

  abbrev pub event_of : Pair K J → Event
  event_of s = event (path_word s.0 0 (λ j. L.has_degeneracy j s.1) (λ j. has_degeneracy R.set j s.2))

  -- the target of a source with event place j: s_j on the left, s_{j+1} on the right
  abbrev pub target_of : Pair K J → ℕ → Pair K J
  target_of s j = (suc s.0, L.degeneracy j s.1, R.set.degeneracy (suc j) s.2)

  -- u t of a source, u = (-1)^(j+1)
  abbrev pub moved : Pair K J → Terms (Pair K J)
  moved s = elim (event_of s) [ source j ↦ (target_of s j, sign p (suc j)) ∷ [] | target j ↦ [] | critical ↦ [] ]

  -- s - u d t of a source, in normal form: then its sources have lower rank, as s itself cancels
  abbrev pub left_over : Pair K J → Terms (Pair K J)
  left_over s = normal pair_order p (one s ++ scale (p - 1) (extend pair_d (moved s)))

  abbrev pub is_source : Pair K J → Bool
  is_source s = elim (event_of s) [ source j ↦ true | target j ↦ false | critical ↦ false ]

  abbrev pub same_pair : Pair K J → Pair K J → Bool
  same_pair s t = is_eq (pair_order s t)

  -- The flow is the one linear map that is 0 off the sources, with k(s) = u t + k(s - u d t) on a source s.
  abbrev pub IsFlow : (Pair K J → Terms (Pair K J)) → Type 0
  IsFlow k = IsFlowOf p is_source moved left_over same_pair k

  -- In degree n nothing is left over after (2n + 1) ((n + 1)^2 + 1) rounds: each round lowers the sum of the dimensions of the two
  -- cells, which is at most 2n, or raises the number of pairs in the word of the target, which is at most (n + 1)^2.
  abbrev pub enough_rounds : ℕ → ℕ
  enough_rounds n = (2 * n + 1) * ((n + 1) * (n + 1) + 1)

  abbrev pub flow : Pair K J → Terms (Pair K J)
  flow = flow_by p is_source moved left_over pair_order (λ s. enough_rounds s.0)
