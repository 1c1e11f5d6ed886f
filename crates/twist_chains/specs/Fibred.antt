-- The first perturbation of products and circle bundles, on cells and tensors of the code (Rubio and Sergeraert, Constructive Homological
-- Algebra and Applications, chapter 3; Shih 1962).
--
-- A product or a bundle has a base, a fibre and, for a bundle, the values of a cocycle on the rows of the base. Its twist is that of the
-- bundle, and none for a product. A chain of pairs or tensors of the code is read as one of the pairs or tensors of plain simplices that
-- they stand for, and such a chain is quoted by the cells of the code.
--
--   on the torus S1 x S1 there is no twist, so that S1 is the identity, and <S1,S1> goes to * (x) S1 + S1 (x) *
use Rattle.std.specs.Prelude.{ℕ, suc, ◌+◌, ◌*◌, ◌≤◌, List, Option, Some, None, ℤ}
use Rattle.fp_field.specs.Chains.{Terms}
use Rattle.fp_field.specs.Normal.{apply}
use Rattle.spaces.specs.Spaces.{Space, table, kz1, Plain}
use Rattle.spaces.specs.Orders.{ordered}
use Rattle.spaces.specs.EilenbergZilber.{Pair, Tensor as PlainTensor, linear, aw, eml, flow}
use Rattle.values.specs.Twists.{untwisted}
use Rattle.values.specs.Perturbed.{k, p1, s1, to_tensors, to_pairs, r, pairs_by}
use Rattle.values.specs.Rules.{bundle_twist, part}
use Rattle.cells.specs.declared.cells.Cell.{Cell, out-Cell}
use Rattle.cells.specs.declared.cells.Cell.TheOpen.{Cell-F}
use Rattle.cells.specs.declared.cells.Letter.{Letter}
use Rattle.cells.specs.declared.cells.Simplex.{Simplex}
use Rattle.cells.specs.Dim.{dim_of}
use Rattle.ez_laws.specs.Sides.{on_keys}
use Rattle.ez_flow.specs.Parts.{IsPairOf}
use Rattle.ez_flow.specs.CodeMaps.{cell_for, pair_degree, on_cells}
use Rattle.ez_maps.specs.Tensors.{IsTensorOf, tensor_form, tensor_for, on_tensors}
use Rattle.space_pairs.specs.Reach.{most_twisted}
use Rattle.space_pairs.specs.Parts.{IsReached}
use Rattle.tensor_red.specs.declared.tensors.Tensor.{Tensor}
use Rattle.term_lang.specs.Forms.{form, vertex_of}
use Rattle.term_lang.specs.Quote.{quote}
use Rattle.twist_maps.specs.Values.{AreValues}

-- ---- the twist

-- that of a bundle on a table with fibre K(Z,1), where there are values of a cocycle; else none
abbrev pub twist_by : Option (List ℤ) → ℕ → (a b : Space) → Pair (Plain a) (Plain b) → Terms (Pair (Plain a) (Plain b))
twist_by None p a b = untwisted
twist_by (Some values) p (table t) kz1 = bundle_twist p t values
twist_by (Some values) p a b = untwisted

-- values belong to a table and K(Z,1) alone
abbrev pub AreTwistValues : Option (List ℤ) → Space → Space → Type 0
AreTwistValues None a b = Unit {0}
AreTwistValues (Some values) (table t) kz1 = AreValues t values
AreTwistValues (Some values) a b = ⊥

-- how much one twist adds to the reach of a pair at most
abbrev pub growth : Option (List ℤ) → ℕ
growth None = 0
growth (Some values) = most_twisted

-- the reach that is left room for in degree n, for pairs and tensors with a reach of at most m
abbrev pub room : Option (List ℤ) → ℕ → ℕ → ℕ
room values n m = m + (n + 2) * growth values

-- ---- pairs and tensors of the code

abbrev pub simplex_in : {A : Type 0} → (Simplex → Simplex → A) → A → Cell-F Cell Letter Simplex → A
simplex_in f x (Cell-F.Pair a b) = f a b
simplex_in f x c = x

module _ (a b : Space) where
  -- the pair that a cell stands for; cells that are no pairs are read as that of two vertices
  abbrev pub pair_form : Cell → Pair (Plain a) (Plain b)
  pair_form c = (
    pair_degree dim_of c,
    simplex_in (λ x y. form x a) (vertex_of a) (out-Cell c),
    simplex_in (λ x y. form y b) (vertex_of b) (out-Cell c),
  )

  abbrev pub read_pairs : Terms Cell → Terms (Pair (Plain a) (Plain b))
  read_pairs c = on_keys pair_form c

  abbrev pub quote_pairs : Terms (Pair (Plain a) (Plain b)) → Terms Cell
  quote_pairs c = on_keys (cell_for (quote a) (quote b)) c

  abbrev pub read_tensors : Terms (Tensor Cell Cell) → Terms (PlainTensor (Plain a) (Plain b))
  read_tensors c = on_keys (tensor_form dim_of (λ s. form s a) (λ s. form s b)) c

  abbrev pub quote_tensors : Terms (PlainTensor (Plain a) (Plain b)) → Terms (Tensor Cell Cell)
  quote_tensors c = on_keys (tensor_for (quote a) (quote b)) c

  -- a pair of simplices of degree n with a reach of at most m each, and a tensor of two cells whose degrees add up to n
  abbrev pub IsPairWithin : ℕ → ℕ → Cell → Type 0
  IsPairWithin m n c = IsPairOf (IsReached a m) (IsReached b m) n c

  abbrev pub IsTensorWithin : ℕ → ℕ → Tensor Cell Cell → Type 0
  IsTensorWithin m n t = IsTensorOf (IsReached a m) (IsReached b m) dim_of n t

  -- ---- the maps on pairs and tensors of the code, and where they may be asked

  abbrev pub flow_on : ℕ → Cell → Terms Cell
  flow_on p c = on_cells dim_of (λ s. form s a) (λ s. form s b) (cell_for (quote a) (quote b)) (flow p (linear (ordered a)) (ordered b)) c

  abbrev pub front_on : ℕ → Cell → Terms (Tensor Cell Cell)
  front_on p c = on_cells dim_of (λ s. form s a) (λ s. form s b) (tensor_for (quote a) (quote b)) (aw p (linear (ordered a)) (ordered b)) c

  abbrev pub shuffle_on : ℕ → Tensor Cell Cell → Terms Cell
  shuffle_on p t = on_tensors dim_of (λ s. form s a) (λ s. form s b) (cell_for (quote a) (quote b)) (eml p (linear (ordered a)) (ordered b)) t

  abbrev pub turn_on : Option (List ℤ) → ℕ → Cell → Terms Cell
  turn_on values p c = on_cells dim_of (λ s. form s a) (λ s. form s b) (cell_for (quote a) (quote b)) (twist_by values p a b) c

  abbrev pub MayFlow : ℕ → Cell → Type 0
  MayFlow m c = (n : ℕ) × IsPairWithin m n c × (suc n ≤ 32)

  abbrev pub MayFront : ℕ → Cell → Type 0
  MayFront m c = (n : ℕ) × IsPairWithin m n c × (n ≤ 32)

  abbrev pub MayShuffle : ℕ → Tensor Cell Cell → Type 0
  MayShuffle m t = (n : ℕ) × IsTensorWithin m n t × (n ≤ 32)

  abbrev pub MayTurn : Option (List ℤ) → ℕ → Cell → Type 0
  MayTurn values m c = AreTwistValues values a b × MayFront m c

  -- ---- the first perturbation in degree n

  module _ (values : Option (List ℤ)) (p : ℕ) where
    -- AW S1
    abbrev pub tensors_of : ℕ → Terms Cell → Terms (Tensor Cell Cell)
    tensors_of n c =
        quote_tensors (to_tensors p (linear (ordered a)) (ordered b) (part a) (part b) (twist_by values p a b)
        (s1 p (linear (ordered a)) (ordered b) (part a) (part b) (twist_by values p a b) n (read_pairs c)))

    -- AW q P1 EML
    abbrev pub difference_of : ℕ → Terms (Tensor Cell Cell) → Terms (Tensor Cell Cell)
    difference_of n c = quote_tensors (r p (linear (ordered a)) (ordered b) (part a) (part b) (twist_by values p a b) n (read_tensors c))

    -- P1 EML
    abbrev pub lifted_of : ℕ → Terms (Tensor Cell Cell) → Terms Cell
    lifted_of n c =
        quote_pairs (p1 p (linear (ordered a)) (ordered b) (part a) (part b) (twist_by values p a b) n
        (to_pairs p (linear (ordered a)) (ordered b) (part a) (part b) (twist_by values p a b) (read_tensors c)))

    -- P1 k
    abbrev pub homotopy_of : ℕ → Terms Cell → Terms Cell
    homotopy_of n c =
        quote_pairs (p1 p (linear (ordered a)) (ordered b) (part a) (part b) (twist_by values p a b) (suc n)
        (apply (pairs_by p (linear (ordered a)) (ordered b) (part a) (part b) (twist_by values p a b)) p
        (k p (linear (ordered a)) (ordered b) (part a) (part b) (twist_by values p a b)) (read_pairs c)))
