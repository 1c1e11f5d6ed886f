-- The faces of a pair that are pushed, and what a chain of pairs is told by.
use Rattle.std.proofs.Common.{◌≡◌, ℕ, zero, suc, ◌+◌, ◌-◌, ◌*◌, ◌%◌, ◌<◌, ◌≤◌, [], true, cond, ◌==◌, refl, sym, ◌∙◌, ap, subst, arith, bit_and}
use Rattle.std.specs.Prelude.{count_ones}
use Rattle.fp_field.specs.Field.{SameMod}
use Rattle.fp_field.specs.Chains.{Terms, weigh, Each}
use Rattle.fp_field.specs.Normal.{normal}
use Rattle.fp_field.proofs.FlowLaws.{weigh-keep}
use Rattle.spaces.specs.Simplicial.{has_degeneracy}
use Rattle.spaces.specs.Orders.{Ordered}
use Rattle.spaces.specs.EilenbergZilber.{Linear, linear, Pair, is_pair_cell, first_faces, pair_d}
use Rattle.cells.specs.Dim.{dim_of}
use Rattle.cells.specs.Order.{cell_cmp}
use Rattle.cells.specs.declared.cells.Cell.{Cell}
use Rattle.cells.specs.declared.cells.Cell.TheVariants.{Pair as PairCell}
use Rattle.cells.specs.declared.cells.Simplex.{Simplex}
use Rattle.ez_laws.specs.Sides.{on_keys}
use Rattle.ez_flow.specs.Parts.{IsForm, AreRead, IsPairOf, form_weight}
use Rattle.ez_flow.specs.CodeMaps.{on_cells, cell_for}
use Rattle.ez_flow.proofs.Bits.{cell-masks}
use Rattle.ez_flow.proofs.CodeTerms as CT
use Rattle.ez_maps.proofs.EmlTerms.{told-pairs}

module _ {K J : Type 0} (p : ℕ) (L : Linear K) (R : Ordered J) where
  -- the weight of a pair that is not degenerate
  abbrev pub kept_pair : (Pair K J → ℕ) → Pair K J → ℕ
  kept_pair w t = cond (is_pair_cell p L R t) (w t) 0

  -- by the masks
  pub pair-masks : (n a b : ℕ) (x : K) (y : J) → a < Rattle.std.proofs.Common.◌^◌ 2 n → ((j : ℕ) → j < n → L.has_degeneracy j x ≡ Rattle.simp_ops.specs.Bits.bit a j)
      → ((j : ℕ) → j < n → has_degeneracy R.set j y ≡ Rattle.simp_ops.specs.Bits.bit b j) → (w : Pair K J → ℕ)
      → kept_pair w (n, x, y) ≡ cond (bit_and a b == 0) (w (n, x, y)) 0
  pair-masks n a b x y l f g w = ap (λ t. cond t (w (n, x, y)) 0) (cell-masks p L R n a b x y l f g)

  -- the differential of a pair of degree n + 1
  pub d-weight : (w : Pair K J → ℕ) (n m : ℕ) (x : K) (y : J) (old new : ℕ) → suc m ≡ n → old ≡ 0
      → SameMod p new (old + 1 * weigh (kept_pair w) (first_faces p L R (suc (suc m)) (suc m, x, y))) → SameMod p new (weigh w (pair_d p L R (n, x, y)))
  d-weight w n m x y old new e eo h =
      h
      ∙ ap (λ k. k % p)
      (ap (λ k. k + 1 * weigh (kept_pair w) (first_faces p L R (suc (suc m)) (suc m, x, y))) eo
      ∙ (let q : 0 + 1 * weigh (kept_pair w) (first_faces p L R (suc (suc m)) (suc m, x, y)) ≡ weigh (kept_pair w) (first_faces p L R (suc (suc m)) (suc m, x, y)) = omega arith in q)
      ∙ sym (weigh-keep w (is_pair_cell p L R) (first_faces p L R (suc (suc m)) (suc m, x, y)))
      ∙ ap (λ k. weigh w (pair_d p L R (k, x, y))) e)

  pub d-none : (n : ℕ) (x : K) (y : J) → n ≡ 0 → pair_d p L R (n, x, y) ≡ []
  d-none n x y e = ap (λ k. pair_d p L R (k, x, y)) e

module _ {K J : Type 0} (p bound : ℕ) (pos : 0 < p) (short : bound ≤ 32) (L : Linear K) (In : ℕ → K → Type 0) (R : Ordered J)
    (il : ℕ → Simplex → Type 0) (fl : Simplex → K) (sl : ℕ → K → Simplex) (ir : ℕ → Simplex → Type 0) (fr : Simplex → J) (sr : ℕ → J → Simplex)
    (lefts : IsForm bound In L.degeneracy L.has_degeneracy il fl) (rights : IsForm bound R.set.In R.set.degeneracy (has_degeneracy R.set) ir fr)
    (lr : AreRead bound L.faces il fl sl) (rr : AreRead bound (linear R).faces ir fr sr)
    (degree : Cell → ℕ) (graded : (n : ℕ) (s : Simplex) → il n s → count_ones s.degens.mask + degree s.cell ≡ n)
    (right_graded : (n : ℕ) (s : Simplex) → ir n s → count_ones s.degens.mask + dim_of s.cell ≡ n)
    (n : ℕ) (c : Cell) (a b : Simplex) (e : c ≡ PairCell a b) (ha : il n a) where
  abbrev pub cell : Pair K J → Cell
  cell t = cell_for sl sr t

  pub d-terms : (m : ℕ) (terms : Terms Cell) → Each (IsPairOf il ir m) terms
      → ((w : Pair K J → ℕ) → SameMod p (weigh (form_weight fl fr m w) terms) (weigh w (pair_d p L R (n, fl a, fr b))))
      → normal cell_cmp p terms ≡ normal cell_cmp p (on_cells degree fl fr cell (pair_d p L R) c)
  d-terms m terms each weights =
      told-pairs p bound pos short L In R il fl sl ir fr sr lefts rights lr rr degree graded right_graded m terms (pair_d p L R (n, fl a, fr b)) each weights
      ∙ ap (normal cell_cmp p) (sym (CT.at-pair degree fl fr cell (pair_d p L R) n c a b e (graded n a ha)))

  pub d-zero : n ≡ 0 → [] ≡ normal cell_cmp p (on_cells degree fl fr cell (pair_d p L R) c)
  d-zero z =
      ap (λ l. normal cell_cmp p (on_keys cell l)) (sym (d-none p L R n (fl a) (fr b) z))
      ∙ ap (normal cell_cmp p) (sym (CT.at-pair degree fl fr cell (pair_d p L R) n c a b e (graded n a ha)))
