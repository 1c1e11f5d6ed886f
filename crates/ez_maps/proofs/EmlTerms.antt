-- The pairs that are pushed for a tensor are those of Eilenberg-Mac Lane, and how large their left cells are.
use Rattle.std.proofs.Common.{◌≡◌, ℕ, ◌+◌, ◌*◌, ◌%◌, ◌<◌, ◌≤◌, map, sym, ◌∙◌, ap, subst, arith}
use Rattle.std.specs.Prelude.{count_ones}
use Rattle.fp_field.specs.Field.{SameMod}
use Rattle.fp_field.specs.Chains.{Terms, weigh, Each}
use Rattle.fp_field.specs.Normal.{normal}
use Rattle.fp_field.proofs.Weights.{weigh-along}
use Rattle.fp_field.proofs.Normals.{normal-same}
use Rattle.fp_field.proofs.FlowLaws.{Each-normal}
use Rattle.simp_ops.specs.PathWords.{shuffles}
use Rattle.spaces.specs.Simplicial.{has_degeneracy}
use Rattle.spaces.specs.Orders.{Ordered}
use Rattle.spaces.specs.EilenbergZilber.{Linear, linear, Pair, eml}
use Rattle.cells.specs.Dim.{dim_of}
use Rattle.cells.specs.Laws.{cell_total}
use Rattle.cells.specs.Order.{cell_cmp}
use Rattle.cells.specs.declared.cells.Cell.{Cell}
use Rattle.cells.specs.declared.cells.Simplex.{Simplex}
use Rattle.cells.proofs.OneKey.{one_cell}
use Rattle.ez_laws.specs.Sides.{IsLeft, IsRight, on_keys}
use Rattle.ez_laws.specs.FlowEquations.{left_dim}
use Rattle.ez_laws.proofs.Eaches.{each-so, each-and, each-keys}
use Rattle.ez_laws.proofs.LeftDims.{keeps-left}
use Rattle.ez_flow.specs.Parts.{IsForm, AreRead, IsPairOf, form_weight}
use Rattle.ez_flow.specs.CodeMaps.{left_cell_degree, cell_for}
use Rattle.ez_flow.proofs.CodeTerms as CT
use Rattle.ez_flow.proofs.Pushes.{weigh-on-keys}
use Rattle.ez_maps.specs.Tensors.{bare, IsTensorOf, tensor_form, on_tensors}
use Rattle.ez_maps.specs.Words.{shuffled_from}
use Rattle.tensor_red.specs.declared.tensors.Tensor.{Tensor}
use Rattle.ez_maps.proofs.Kept.{HasPair, eml-has}
use Rattle.ez_maps.proofs.TensorForms.{form-has, form-tensor}

module _ {K J : Type 0} (p bound : ℕ) (pos : 0 < p) (short : bound ≤ 32) (L : Linear K) (In : ℕ → K → Type 0) (R : Ordered J)
    (il : ℕ → Simplex → Type 0) (fl : Simplex → K) (sl : ℕ → K → Simplex) (ir : ℕ → Simplex → Type 0) (fr : Simplex → J) (sr : ℕ → J → Simplex)
    (lefts : IsForm bound In L.degeneracy L.has_degeneracy il fl) (rights : IsForm bound R.set.In R.set.degeneracy (has_degeneracy R.set) ir fr)
    (lr : AreRead bound L.faces il fl sl) (rr : AreRead bound (linear R).faces ir fr sr)
    (degree : Cell → ℕ) (graded : (n : ℕ) (s : Simplex) → il n s → count_ones s.degens.mask + degree s.cell ≡ n)
    (right_graded : (n : ℕ) (s : Simplex) → ir n s → count_ones s.degens.mask + dim_of s.cell ≡ n) where
  abbrev pub cell : Pair K J → Cell
  cell t = cell_for sl sr t

  -- a chain of pairs is told by what they stand for
  pub told-pairs : (m : ℕ) (terms : Terms Cell) (plain : Terms (Pair K J)) → Each (IsPairOf il ir m) terms
      → ((w : Pair K J → ℕ) → SameMod p (weigh (form_weight fl fr m w) terms) (weigh w plain))
      → normal cell_cmp p terms ≡ normal cell_cmp p (on_keys cell plain)
  told-pairs m terms plain each weights =
      normal-same cell_cmp p one_cell cell_total pos terms (on_keys cell plain) (λ v.
      ap (λ k. k % p) (weigh-along (IsPairOf il ir m) v (form_weight fl fr m (λ t. v (cell t)))
      (λ k g. CT.by-form p bound pos short L In R il fl sl ir fr sr lefts rights lr rr degree graded m v k g) terms each)
      ∙ weights (λ t. v (cell t)) ∙ ap (λ k. k % p) (sym (weigh-on-keys v cell plain)))

  module _ (t : Tensor Cell Cell) where
    abbrev pub whole : ℕ
    whole = degree t.left + dim_of t.right

    pub eml-weights : (l r : ℕ) (a b : Simplex) (w : Pair K J → ℕ) (old : ℕ) (new : ℕ → ℕ) → l ≡ degree t.left → r ≡ dim_of t.right → a ≡ bare t.left → b ≡ bare t.right → old ≡ 0
        → SameMod p (new (0 + l + r)) (old + 1 * weigh w (map (shuffled_from p L R (0 + l + r) 0 (fl a) (fr b)) (shuffles (l + r) l)))
        → SameMod p (new whole) (weigh w (eml p L R (tensor_form degree fl fr t)))
    eml-weights l r a b w old new el er ea eb eo h =
        let e : 0 + l + r ≡ whole = let q : 0 + l + r ≡ l + r = omega arith in q ∙ (λ i. el i + er i) in
        ap (λ k. new k % p) (sym e) ∙ h
        ∙ ap (λ k. k % p)
        (ap (λ k. k + 1 * weigh w (map (shuffled_from p L R (0 + l + r) 0 (fl a) (fr b)) (shuffles (l + r) l))) eo
        ∙ (let q : 0 + 1 * weigh w (map (shuffled_from p L R (0 + l + r) 0 (fl a) (fr b)) (shuffles (l + r) l))
        ≡ weigh w (map (shuffled_from p L R (0 + l + r) 0 (fl a) (fr b)) (shuffles (l + r) l)) = omega arith in q)
        ∙ (λ i. weigh w (map (shuffled_from p L R (e i) 0 (fl (ea i)) (fr (eb i))) (shuffles (el i + er i) (el i)))))

    pub eml-lefts : (left : IsLeft p L In) (right : IsRight R) (n : ℕ) → IsTensorOf il ir degree n t → n ≤ bound → (terms : Terms Cell)
        → terms ≡ normal cell_cmp p (on_tensors degree fl fr cell (eml p L R) t) → Each (λ s. left_cell_degree degree s ≤ degree t.left) terms
    eml-lefts left right n h below terms told =
        let z = tensor_form degree fl fr t in
        let P : Cell → Type 0 = λ s. left_cell_degree degree s ≤ degree t.left in
        let H : Pair K J → Type 0 = HasPair p bound short L In R il fl sl ir fr sr lefts rights lr rr n in
        subst (Each P) (sym told)
        (Each-normal P cell_cmp p (on_keys cell (eml p L R z))
        (each-keys P cell (eml p L R z)
        (each-so (eml p L R z)
        (λ s g. let e = CT.left-of-cell p bound pos short L In R il fl sl ir fr sr lefts rights lr rr degree graded n s g.0 in omega (arith, e, g.1))
        (each-and H (λ s. left_dim p L In R s ≤ degree t.left) (eml p L R z)
        (eml-has p bound short L In R il fl sl ir fr sr lefts rights lr rr n z
        (form-has p bound short L In R il fl sl ir fr sr lefts rights lr rr degree graded right_graded n t h) below)
        ((keeps-left p pos L In R left right).eml_keeps z
        (form-tensor p bound short L In R il fl sl ir fr sr lefts rights lr rr degree graded right_graded n t h))))))
