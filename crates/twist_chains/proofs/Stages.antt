-- The series of the first perturbation on pairs of the code. A twist raises how far the integers of a pair reach, each time by no more than
-- `more`, so that with j steps to come a reach of `most` less j times that is left.
use Rattle.std.proofs.Common.{◌≡◌, ℕ, zero, suc, ◌+◌, ◌*◌, ◌<◌, ◌≤◌, List, [], Option, sym, subst, arith}
use Rattle.fp_field.specs.Chains.{Terms, Each}
use Rattle.fp_field.specs.Reduction.{after}
use Rattle.fp_field.specs.Series.{series}
use Rattle.spaces.specs.Orders.{Ordered}
use Rattle.spaces.specs.EilenbergZilber.{Linear, Pair, Tensor as PlainTensor, pair_order, flow}
use Rattle.cells.specs.Dim.{dim_of}
use Rattle.cells.specs.Order.{cell_cmp}
use Rattle.cells.specs.declared.cells.Cell.{Cell}
use Rattle.cells.specs.declared.cells.Simplex.{Simplex}
use Rattle.ez_laws.specs.Sides.{on_keys}
use Rattle.ez_laws.proofs.Eaches.{each-so}
use Rattle.ez_flow.specs.CodeMaps.{cell_for, on_cells}
use Rattle.ez_maps.specs.Tensors.{tensor_for}
use Rattle.tensor_red.specs.declared.tensors.Tensor.{Tensor}
use Rattle.perturb.specs.PerturbedLists.{series_may_ask}
use Rattle.twist_chains.proofs.Transport.{Keeps, Carries, after-carried, series-carried, series-each, series-asked}
use Rattle.twist_chains.proofs.CodeParts.{AreParts}
use Rattle.twist_chains.proofs.CodeKeys as C

module _ {K J : Type 0} (p : ℕ) (pos : 0 < p) (L : Linear K) (In : ℕ → K → Type 0) (R : Ordered J)
    (il : ℕ → ℕ → Simplex → Type 0) (fl : Simplex → K) (sl : ℕ → K → Simplex) (ir : ℕ → ℕ → Simplex → Type 0) (fr : Simplex → J) (sr : ℕ → J → Simplex)
    (parts : (m : ℕ) → AreParts p L In R (il m) fl sl (ir m) fr sr)
    (left_wider : (m k n : ℕ) (s : Simplex) → m ≤ k → il m n s → il k n s) (right_wider : (m k n : ℕ) (s : Simplex) → m ≤ k → ir m n s → ir k n s) where
  abbrev pub PairKey : ℕ → ℕ → Pair K J → Type 0
  PairKey m n s = C.IsPairKey p pos L In R (il m) fl sl (ir m) fr sr (parts m) n s

  abbrev pub TensorKey : ℕ → ℕ → PlainTensor K J → Type 0
  TensorKey m n z = C.IsTensorKey p pos L In R (il m) fl sl (ir m) fr sr (parts m) n z

  abbrev cell : Pair K J → Cell
  cell s = cell_for sl sr s

  abbrev key : PlainTensor K J → Tensor Cell Cell
  key z = tensor_for sl sr z

  abbrev code : (Pair K J → Terms (Pair K J)) → Cell → Terms Cell
  code f c = on_cells dim_of fl fr cell f c

  abbrev k' : Cell → Terms Cell
  k' = code (flow p L R)

  pub wider-pair : (m k n : ℕ) (s : Pair K J) → m ≤ k → PairKey m n s → PairKey k n s
  wider-pair m k n s l h = (
    (h.0.0, (left_wider m k n (sl n s.1) l h.0.1.0, h.0.1.1), (right_wider m k n (sr n s.2) l h.0.2.0, h.0.2.1)),
    h.1,
  )

  module _ (q : Pair K J → Terms (Pair K J)) (more most : ℕ)
      (twisted : (m n : ℕ) → m + more ≤ most → n < 32 → Carries (PairKey m (suc n)) (PairKey (m + more) n) cell cell q (code q))
      (ends : (m : ℕ) (s : Pair K J) → PairKey m 0 s → q s ≡ []) where
    -- a pair of degree n, with j twists to come
    abbrev pub Room : ℕ → ℕ → Pair K J → Type 0
    Room n j s = (m : ℕ) × (m + j * more ≤ most) × PairKey m n s

    -- one degree below n
    abbrev pub Below : ℕ → ℕ → Pair K J → Type 0
    Below zero j s = ⊥
    Below (suc n) j s = Room n j s

    -- between the two maps of a step of 1 + k q
    abbrev pub Mid : ℕ → ℕ → Pair K J → Type 0
    Mid n zero s = Below n 0 s
    Mid n (suc j) s = Below n j s

    pub room-all : (n j : ℕ) (s : Pair K J) → Room n j s → PairKey most n s
    room-all n j s h = wider-pair h.0 most n s (omega (arith, h.1)) h.2

    pub below-all : (n j : ℕ) (s : Pair K J) → Below n j s → Below n 0 s
    below-all zero j s h = h
    below-all (suc n) j s h = (most, omega arith, room-all n j s h)

    mid-all : (n j : ℕ) (s : Pair K J) → Mid n j s → Below n 0 s
    mid-all n zero s h = h
    mid-all n (suc j) s h = below-all n j s h

    room-less : (n j : ℕ) (s : Pair K J) → Room n (suc j) s → Room n j s
    room-less n j s h = (h.0, less h.0 j more most h.1, h.2)
      where
        less : (a j b c : ℕ) → a + suc j * b ≤ c → a + j * b ≤ c
        less a j b c l = omega (arith, l)

    rooms-keep : (n j : ℕ) → Keeps cell (pair_order p L R) cell_cmp (Room n j)
    rooms-keep n j s t h k =
        C.pairs-keep p pos L In R (il most) fl sl (ir most) fr sr (parts most) n s t (room-all n j s h) (room-all n j t k)

    below-keep : (n j : ℕ) → Keeps cell (pair_order p L R) cell_cmp (Below n j)
    below-keep zero j s t h k = absurd h
    below-keep (suc n) j s t h k = rooms-keep n j s t h k

    flow-room : (n j : ℕ) → n < 32 → Carries (Room n j) (Room (suc n) j) cell cell (flow p L R) k'
    flow-room n j l = record {
      read = λ s h. (C.flow-carried p pos L In R (il h.0) fl sl (ir h.0) fr sr (parts h.0) n l).read s h.2;
      has = λ s h. each-so (flow p L R s) (λ t u. (h.0, h.1, u)) ((C.flow-carried p pos L In R (il h.0) fl sl (ir h.0) fr sr (parts h.0) n l).has s h.2);
    }

    twist-below : (n j : ℕ) → n ≤ 32 → Carries (Room n (suc j)) (Below n j) cell cell q (code q)
    twist-below zero j l = record {
      read = λ s h. C.read-pair p pos L In R (il h.0) fl sl (ir h.0) fr sr (parts h.0) cell q 0 s h.2;
      has = λ s h. subst (Each (Below 0 j)) (sym (ends h.0 s h.2)) tt;
    }
    twist-below (suc n) j l = record {
      read = λ s h. C.read-pair p pos L In R (il h.0) fl sl (ir h.0) fr sr (parts h.0) cell q (suc n) s h.2;
      has = λ s h. each-so (q s) (λ t u. (h.0 + more, next h.0 j more most h.1, u)) ((twisted h.0 n (once h.0 j more most h.1) l).has s h.2);
    }
      where
        once : (a j b c : ℕ) → a + suc j * b ≤ c → a + b ≤ c
        once a j b c l = omega (arith, l)

        next : (a j b c : ℕ) → a + suc j * b ≤ c → a + b + j * b ≤ c
        next a j b c l = omega (arith, l)

    flow-below : (n j : ℕ) → n ≤ 32 → Carries (Below n j) (Room n j) cell cell (flow p L R) k'
    flow-below zero j l = record { read = λ s h. absurd h; has = λ s h. absurd h }
    flow-below (suc n) j l = flow-room n j l

    kq : (n j : ℕ) → n ≤ 32 → Carries (Room n (suc j)) (Room n j) cell cell (after (flow p L R) q) (after k' (code q))
    kq n j l = after-carried (Room n (suc j)) (Below n j) (Room n j) cell cell cell q (code q) (flow p L R) k' (twist-below n j l) (flow-below n j l)

    qk : (n j : ℕ) → n < 32 → Carries (Room n (suc j)) (Room n j) cell cell (after q (flow p L R)) (after (code q) k')
    qk n j l = after-carried (Room n (suc j)) (Room (suc n) (suc j)) (Room n j) cell cell cell (flow p L R) k' q (code q) (flow-room n (suc j) l) (twist-below (suc n) j l)

    module _ (n : ℕ) (c : Terms (Pair K J)) where
      -- ---- the series of 1 + q k

      module _ (l : n < 32) (terms : ℕ) (e : Each (Room n terms) c) where
        pub s1-code : series cell_cmp p terms (after (code q) k') (on_keys cell c) ≡ on_keys cell (series (pair_order p L R) p terms (after q (flow p L R)) c)
        s1-code = series-carried cell (pair_order p L R) cell_cmp p (Room n) (room-less n) (rooms-keep n 0) (after q (flow p L R)) (after (code q) k') (λ j. qk n j l) terms c e

        pub s1-each : Each (PairKey most n) (series (pair_order p L R) p terms (after q (flow p L R)) c)
        s1-each =
            each-so (series (pair_order p L R) p terms (after q (flow p L R)) c) (room-all n 0)
            (series-each cell (pair_order p L R) cell_cmp p (Room n) (room-less n) (rooms-keep n 0) (after q (flow p L R)) (after (code q) k') (λ j. qk n j l) terms c e)

        pub s1-asks : {I R : Type 0} (refusal : I → Option R) (asks asks' : Cell → List I) → (may_flow may_twist : Cell → Type 0) → ((s : Pair K J) → PairKey most n s → may_flow (cell s)) → ((s : Pair K J) → PairKey most (suc n) s → may_twist (cell s))
            → series_may_ask cell_cmp p k' (code q) refusal asks asks' may_flow may_twist terms (on_keys cell c)
        s1-asks refusal asks asks' may_flow may_twist f g =
            series-asked cell (pair_order p L R) cell_cmp p (Room n) (room-less n) (rooms-keep n 0) (flow p L R) k' q (code q) (λ j. Room (suc n) j)
            (λ j. flow-room n (suc j) l) (λ j. twist-below (suc n) j l) (λ j. rooms-keep (suc n) (suc j)) may_flow may_twist
            (λ j s h. f s (room-all n j s h)) (λ j s h. g s (room-all (suc n) j s h)) refusal asks asks' terms c e

      -- ---- the series of 1 + k q

      module _ (l : n ≤ 32) (terms : ℕ) (e : Each (Room n terms) c) where
        pub p1-code : series cell_cmp p terms (after k' (code q)) (on_keys cell c) ≡ on_keys cell (series (pair_order p L R) p terms (after (flow p L R) q) c)
        p1-code = series-carried cell (pair_order p L R) cell_cmp p (Room n) (room-less n) (rooms-keep n 0) (after (flow p L R) q) (after k' (code q)) (λ j. kq n j l) terms c e

        pub p1-each : Each (PairKey most n) (series (pair_order p L R) p terms (after (flow p L R) q) c)
        p1-each =
            each-so (series (pair_order p L R) p terms (after (flow p L R) q) c) (room-all n 0)
            (series-each cell (pair_order p L R) cell_cmp p (Room n) (room-less n) (rooms-keep n 0) (after (flow p L R) q) (after k' (code q)) (λ j. kq n j l) terms c e)

        pub p1-asks : {I R : Type 0} (refusal : I → Option R) (asks asks' : Cell → List I) → (may_twist may_flow : Cell → Type 0) → ((s : Pair K J) → PairKey most n s → may_twist (cell s)) → ((s : Pair K J) → Below n 0 s → may_flow (cell s))
            → series_may_ask cell_cmp p (code q) k' refusal asks asks' may_twist may_flow terms (on_keys cell c)
        p1-asks refusal asks asks' may_twist may_flow f g =
            series-asked cell (pair_order p L R) cell_cmp p (Room n) (room-less n) (rooms-keep n 0) q (code q) (flow p L R) k' (Mid n)
            (λ j. twist-below n j l) (λ j. flow-below n j l) (λ j. below-keep n j) may_twist may_flow
            (λ j s h. f s (room-all n j s h)) (λ j s h. g s (mid-all n j s h)) refusal asks asks' terms c e
