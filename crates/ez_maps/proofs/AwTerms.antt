-- The tensors that are pushed for a pair are those of Alexander-Whitney, and how large their left cells are.
use Rattle.std.proofs.Common.{◌≡◌, ℕ, suc, ◌+◌, ◌%◌, ◌<◌, ◌≤◌, true, sym, ◌∙◌, ap, subst, arith}
use Rattle.std.specs.Prelude.{count_ones}
use Rattle.fp_field.specs.Field.{SameMod}
use Rattle.fp_field.specs.Chains.{Terms, weigh, Each}
use Rattle.fp_field.specs.Normal.{normal}
use Rattle.fp_field.proofs.FlowLaws.{Each-normal, weigh-keep}
use Rattle.spaces.specs.Simplicial.{has_degeneracy}
use Rattle.spaces.specs.Orders.{Ordered}
use Rattle.spaces.specs.EilenbergZilber.{Linear, linear, Pair, Tensor as Plain, is_tensor_cell, cuts, aw}
use Rattle.cells.specs.Dim.{dim_of}
use Rattle.cells.specs.declared.cells.Cell.{Cell}
use Rattle.cells.specs.declared.cells.Cell.TheVariants.{Pair as PairCell}
use Rattle.cells.specs.declared.cells.Simplex.{Simplex}
use Rattle.ez_laws.specs.Sides.{IsLeft, IsRight, on_keys}
use Rattle.ez_laws.specs.FlowEquations.{left_dim}
use Rattle.ez_laws.proofs.Eaches.{each-so, each-and, each-keys}
use Rattle.ez_laws.proofs.LeftDims.{keeps-left}
use Rattle.ez_flow.specs.Parts.{IsForm, AreRead, IsPairOf, form_weight}
use Rattle.ez_flow.specs.CodeMaps.{left_cell_degree, on_cells}
use Rattle.ez_flow.proofs.CodeTerms as CT
use Rattle.ez_flow.proofs.PairCells.{weight-pair}
use Rattle.ez_maps.specs.Tensors.{tensor_cmp, IsTensorOf, tensor_form, tensor_for}
use Rattle.tensor_red.specs.declared.tensors.Tensor.{Tensor}
use Rattle.ez_maps.proofs.CutSteps.{kept}
use Rattle.ez_maps.proofs.Kept.{aw-has}
use Rattle.ez_maps.proofs.TensorForms.{HasT, key-left, told-tensors}

module _ {K J : Type 0} (p bound : ℕ) (pos : 0 < p) (short : bound ≤ 32) (L : Linear K) (In : ℕ → K → Type 0) (R : Ordered J)
    (il : ℕ → Simplex → Type 0) (fl : Simplex → K) (sl : ℕ → K → Simplex) (ir : ℕ → Simplex → Type 0) (fr : Simplex → J) (sr : ℕ → J → Simplex)
    (lefts : IsForm bound In L.degeneracy L.has_degeneracy il fl) (rights : IsForm bound R.set.In R.set.degeneracy (has_degeneracy R.set) ir fr)
    (lr : AreRead bound L.faces il fl sl) (rr : AreRead bound (linear R).faces ir fr sr)
    (degree : Cell → ℕ) (graded : (n : ℕ) (s : Simplex) → il n s → count_ones s.degens.mask + degree s.cell ≡ n)
    (right_graded : (n : ℕ) (s : Simplex) → ir n s → count_ones s.degens.mask + dim_of s.cell ≡ n) where
  abbrev pub key : Plain K J → Tensor Cell Cell
  key z = tensor_for sl sr z

  abbrev pub form : Tensor Cell Cell → Plain K J
  form t = tensor_form degree fl fr t

  -- all cuts of a pair
  pub aw-weights : (w : Plain K J → ℕ) (n m : ℕ) (x : K) (y : J) (old new : ℕ) → m ≡ n → old ≡ 0
      → SameMod p (new + weigh (kept p L R w) (cuts p L R 0 (m, x, y))) (old + weigh (kept p L R w) (cuts p L R (suc m) (m, x, y)))
      → SameMod p new (weigh w (aw p L R (n, x, y)))
  aw-weights w n m x y old new em eo h =
      ap (λ k. k % p) (let q : new ≡ new + 0 = omega arith in q) ∙ h
      ∙ ap (λ k. k % p)
      (ap (λ k. k + weigh (kept p L R w) (cuts p L R (suc m) (m, x, y))) eo
      ∙ (let q : 0 + weigh (kept p L R w) (cuts p L R (suc m) (m, x, y)) ≡ weigh (kept p L R w) (cuts p L R (suc m) (m, x, y)) = omega arith in q)
      ∙ ap (λ k. weigh (kept p L R w) (cuts p L R (suc k) (k, x, y))) em
      ∙ sym (weigh-keep w (is_tensor_cell p L R) (cuts p L R (suc n) (n, x, y))))

  module _ (n : ℕ) (c : Cell) (a b : Simplex) (e : c ≡ PairCell a b) (pair : IsPairOf il ir n c) (ha : il n a) where
    -- the weight of a pair
    pub pair-weight : (v : Pair K J → ℕ) → form_weight fl fr n v c ≡ v (n, fl a, fr b)
    pair-weight v = ap (form_weight fl fr n v) e ∙ weight-pair (λ a b. v (n, fl a, fr b)) a b

    pub aw-terms : (terms : Terms (Tensor Cell Cell)) → Each (IsTensorOf il ir degree n) terms
        → ((w : Plain K J → ℕ) → SameMod p (weigh (λ t. w (form t)) terms) (weigh w (aw p L R (n, fl a, fr b))))
        → normal tensor_cmp p terms ≡ normal tensor_cmp p (on_cells degree fl fr key (aw p L R) c)
    aw-terms terms each weights =
        told-tensors p bound short L In R il fl sl ir fr sr lefts rights lr rr degree graded right_graded pos n terms (aw p L R (n, fl a, fr b)) each weights
        ∙ ap (normal tensor_cmp p) (sym (CT.at-pair degree fl fr key (aw p L R) n c a b e (graded n a ha)))

    pub aw-lefts : (left : IsLeft p L In) (right : IsRight R) → ir n b → n ≤ bound → (terms : Terms (Tensor Cell Cell))
        → terms ≡ normal tensor_cmp p (on_cells degree fl fr key (aw p L R) c) → Each (λ t. degree t.left ≤ left_cell_degree degree c) terms
    aw-lefts left right hb below terms told =
        let s : Pair K J = (n, fl a, fr b) in
        let P : Tensor Cell Cell → Type 0 = λ t. degree t.left ≤ left_cell_degree degree c in
        let low = CT.left-of-pair p bound pos short L In R il fl sl ir fr sr lefts rights lr rr degree graded n c a b e ha in
        let H : Plain K J → Type 0 = λ z. HasT p bound short L In R il fl sl ir fr sr lefts rights lr rr degree graded right_graded n z × (is_tensor_cell p L R z ≡ true) in
        subst (Each P) (sym (told ∙ ap (normal tensor_cmp p) (CT.at-pair degree fl fr key (aw p L R) n c a b e (graded n a ha))))
        (Each-normal P tensor_cmp p (on_keys key (aw p L R s))
        (each-keys P key (aw p L R s)
        (each-so (aw p L R s)
        (λ z g. let k = key-left p bound short L In R il fl sl ir fr sr lefts rights lr rr degree graded right_graded n z g.0.0 in omega (arith, k, g.1, low))
        (each-and H (λ z. z.0 ≤ left_dim p L In R s) (aw p L R s)
        (aw-has p bound short L In R il fl sl ir fr sr lefts rights lr rr n s
        (CT.form-has p bound pos short L In R il fl sl ir fr sr lefts rights lr rr degree graded n a b ha hb) below)
        ((keeps-left p pos L In R left right).aw_keeps s
        (CT.form-pair p bound pos short L In R il fl sl ir fr sr lefts rights lr rr degree graded n c a b e pair))))))
