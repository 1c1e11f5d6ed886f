-- Pairs and tensors of the code and of plain simplices, one for the other; and that the code's Alexander-Whitney, Eilenberg-Mac Lane and
-- flow are those of plain simplices on them.
use Rattle.std.proofs.Common.{◌≡◌, ℕ, suc, ◌+◌, ◌<◌, ◌≤◌, true, refl, sym, ◌∙◌, ap, subst, bit_and, lit≤}
use Rattle.fp_field.specs.Chains.{Terms}
use Rattle.fp_field.specs.Reduction.{IsReduction}
use Rattle.spaces.specs.Orders.{Ordered}
use Rattle.spaces.specs.EilenbergZilber.{Linear, Pair, Tensor as PlainTensor, is_pair_cell, is_tensor_cell, pair_order, tensor_order, aw, eml, flow}
use Rattle.cells.specs.Dim.{dim_of}
use Rattle.cells.specs.Order.{cell_cmp}
use Rattle.cells.specs.declared.cells.Cell.{Cell}
use Rattle.cells.specs.declared.cells.Cell.TheVariants.{Pair as PairCell}
use Rattle.cells.specs.declared.cells.Simplex.{Simplex}
use Rattle.ez_laws.specs.Sides.{on_keys}
use Rattle.ez_laws.specs.Complexes.{IsPair, IsTensor, eilenberg_zilber}
use Rattle.ez_laws.proofs.Eaches.{each-so, each-and}
use Rattle.ez_laws.proofs.Joined.{is-reduction}
use Rattle.ez_flow.specs.Parts.{IsPairOf}
use Rattle.ez_flow.specs.CodeMaps.{cell_for, on_cells}
use Rattle.ez_flow.proofs.Bits.{cell-masks, eq_of}
use Rattle.ez_flow.proofs.Closed.{flow-has}
use Rattle.ez_flow.proofs.CodeTerms as CT
use Rattle.ez_flow.proofs.PairCells.{pair-with}
use Rattle.ez_maps.specs.Tensors.{tensor_cmp, IsTensorOf, tensor_form, tensor_for, on_tensors}
use Rattle.tensor_red.specs.declared.tensors.Tensor.{Tensor}
use Rattle.ez_maps.proofs.Kept.{aw-has, eml-has}
use Rattle.ez_maps.proofs.TensorForms as TF
use Rattle.twist_chains.proofs.Transport.{Keeps, Carries}
use Rattle.twist_chains.proofs.CodeParts.{AreParts}
use Rattle.twist_chains.proofs.CodeOrders as O

module _ {K J : Type 0} (p : ℕ) (pos : 0 < p) (L : Linear K) (In : ℕ → K → Type 0) (R : Ordered J)
    (il : ℕ → Simplex → Type 0) (fl : Simplex → K) (sl : ℕ → K → Simplex) (ir : ℕ → Simplex → Type 0) (fr : Simplex → J) (sr : ℕ → J → Simplex)
    (c : AreParts p L In R il fl sl ir fr sr) where
  abbrev short : 32 ≤ 32
  short = lit≤ tt

  abbrev HasPair : ℕ → Pair K J → Type 0
  HasPair n s = O.HasPair p L In R il fl sl ir fr sr c n s

  abbrev HasTensor : ℕ → PlainTensor K J → Type 0
  HasTensor n z = TF.HasT p 32 short L In R il fl sl ir fr sr c.lefts c.rights c.left_read c.right_read dim_of c.graded c.right_graded n z

  -- pairs and tensors of degree n that the code has
  abbrev pub IsPairKey : ℕ → Pair K J → Type 0
  IsPairKey n s = HasPair n s × (is_pair_cell p L R s ≡ true)

  abbrev pub IsTensorKey : ℕ → PlainTensor K J → Type 0
  IsTensorKey n z = HasTensor n z × (is_tensor_cell p L R z ≡ true)

  abbrev cell : Pair K J → Cell
  cell s = cell_for sl sr s

  abbrev key : PlainTensor K J → Tensor Cell Cell
  key z = tensor_for sl sr z

  whole : IsReduction p (eilenberg_zilber p L In R)
  whole = is-reduction p pos L In R c.left c.right

  -- ---- pairs

  both : (n : ℕ) (s : Pair K J) → HasPair n s → (il s.0 (sl s.0 s.1) × (fl (sl s.0 s.1) ≡ s.1)) × (ir s.0 (sr s.0 s.2) × (fr (sr s.0 s.2) ≡ s.2))
  both n s h = (subst (λ m. il m (sl m s.1) × (fl (sl m s.1) ≡ s.1)) (sym h.0) h.1, subst (λ m. ir m (sr m s.2) × (fr (sr m s.2) ≡ s.2)) (sym h.0) h.2)

  pair-plain : (n : ℕ) (s : Pair K J) → IsPairKey n s → (s.0 ≡ n) × IsPair p L In R s
  pair-plain n s h =
      let q = both n s h.0 in
      (h.0.0, (subst (In s.0) q.0.1 (c.lefts.is_in s.0 (sl s.0 s.1) q.0.0), subst (R.set.In s.0) q.1.1 (c.rights.is_in s.0 (sr s.0 s.2) q.1.0), h.1))

  tensor-plain : (n : ℕ) (z : PlainTensor K J) → IsTensorKey n z → (z.0 + z.2 ≡ n) × IsTensor p L In R z
  tensor-plain n z h =
      (h.0.0, (subst (In z.0) h.0.1.1 (c.lefts.is_in z.0 (sl z.0 z.1) h.0.1.0), subst (R.set.In z.2) h.0.2.1 (c.rights.is_in z.2 (sr z.2 z.3) h.0.2.0), h.1))

  pub pair-is : (n : ℕ) (s : Pair K J) → IsPairKey n s → IsPairOf il ir n (cell s)
  pair-is n s h =
      let q = both n s h.0 in
      let a : Simplex = sl s.0 s.1 in
      let b : Simplex = sr s.0 s.2 in
      let masks = cell-masks p L R s.0 a.degens.mask b.degens.mask (fl a) (fr b) (c.lefts.mask s.0 a q.0.0) (λ j l. c.lefts.places s.0 j a q.0.0 l) (λ j l. c.rights.places s.0 j b q.1.0 l) in
      let same : is_pair_cell p L R (s.0, fl a, fr b) ≡ true = (λ i. is_pair_cell p L R (s.0, q.0.1 i, q.1.1 i)) ∙ h.1 in
      pair-with (λ a b. il n a × ir n b × (bit_and a.degens.mask b.degens.mask ≡ 0)) a b
      (subst (λ m. il m a) h.0.0 q.0.0, subst (λ m. ir m b) h.0.0 q.1.0, eq_of (bit_and a.degens.mask b.degens.mask) 0 (sym masks ∙ same))

  pub pair-from : (n : ℕ) (d : Cell) (a b : Simplex) → d ≡ PairCell a b → IsPairOf il ir n d → IsPairKey n (n, fl a, fr b) × (cell (n, fl a, fr b) ≡ d)
  pair-from n d a b e h =
      let f = CT.form-pair p 32 pos short L In R il fl sl ir fr sr c.lefts c.rights c.left_read c.right_read dim_of c.graded n d a b e h in
      let r = O.pair-parts il ir n d a b e h in (
        (CT.form-has p 32 pos short L In R il fl sl ir fr sr c.lefts c.rights c.left_read c.right_read dim_of c.graded n a b r.0 r.1, f.2),
        (λ i. PairCell (c.left_read.own n a r.0 i) (c.right_read.own n b r.1 i)) ∙ sym e,
      )

  pub tensor-is : (n : ℕ) (z : PlainTensor K J) → IsTensorKey n z → IsTensorOf il ir dim_of n (key z)
  tensor-is n z h = TF.key-tensor p 32 short L In R il fl sl ir fr sr c.lefts c.rights c.left_read c.right_read dim_of c.graded c.right_graded n z h.0 h.1

  tensor-read : (n : ℕ) (z : PlainTensor K J) → IsTensorKey n z → tensor_form dim_of fl fr (key z) ≡ z
  tensor-read n z h = TF.key-form p 32 short L In R il fl sl ir fr sr c.lefts c.rights c.left_read c.right_read dim_of c.graded c.right_graded n z h.0 h.1

  pub tensor-from : (n : ℕ) (t : Tensor Cell Cell) → IsTensorOf il ir dim_of n t → IsTensorKey n (tensor_form dim_of fl fr t) × (key (tensor_form dim_of fl fr t) ≡ t)
  tensor-from n t h = (
    (
      TF.form-has p 32 short L In R il fl sl ir fr sr c.lefts c.rights c.left_read c.right_read dim_of c.graded c.right_graded n t h,
      (TF.form-tensor p 32 short L In R il fl sl ir fr sr c.lefts c.rights c.left_read c.right_read dim_of c.graded c.right_graded n t h).2,
    ),
    TF.own-tensor p 32 short L In R il fl sl ir fr sr c.lefts c.rights c.left_read c.right_read dim_of c.graded c.right_graded n t h,
  )

  -- ---- orders

  pub pairs-keep : (n : ℕ) → Keeps cell (pair_order p L R) cell_cmp (IsPairKey n)
  pairs-keep n s t h k = O.pair-order p L In R il fl sl ir fr sr c n s t h.0 k.0

  pub tensors-keep : (n : ℕ) → Keeps key (tensor_order p L R) tensor_cmp (IsTensorKey n)
  tensors-keep n s t h k =
      O.tensor-order p L In R il fl sl ir fr sr c n n (key s) (key t) (tensor-is n s h) (tensor-is n t k)
      ∙ (λ i. tensor_order p L R (tensor-read n s h i) (tensor-read n t k i))

  -- ---- maps

  pub read-pair : {A B : Type 0} (k' : A → B) (f : Pair K J → Terms A) (n : ℕ) (s : Pair K J) → IsPairKey n s → on_cells dim_of fl fr k' f (cell s) ≡ on_keys k' (f s)
  read-pair k' f n s h =
      let q = both n s h.0 in
      CT.at-pair dim_of fl fr k' f s.0 (cell s) (sl s.0 s.1) (sr s.0 s.2) refl (c.graded s.0 (sl s.0 s.1) q.0.0)
      ∙ (λ i. on_keys k' (f (s.0, q.0.1 i, q.1.1 i)))

  pub read-tensor : {A B : Type 0} (k' : A → B) (f : PlainTensor K J → Terms A) (n : ℕ) (z : PlainTensor K J) → IsTensorKey n z → on_tensors dim_of fl fr k' f (key z) ≡ on_keys k' (f z)
  read-tensor k' f n z h = ap (λ y. on_keys k' (f y)) (tensor-read n z h)

  pub flow-carried : (n : ℕ) → suc n ≤ 32 → Carries (IsPairKey n) (IsPairKey (suc n)) cell cell (flow p L R) (on_cells dim_of fl fr cell (flow p L R))
  flow-carried n l = record {
    read = read-pair cell (flow p L R) n;
    has = λ s h.
        each-so (flow p L R s) (λ t u. (u.0, u.1.1.2))
        (each-and (HasPair (suc n)) (λ t. (t.0 ≡ suc n) × IsPair p L In R t) (flow p L R s)
        (flow-has p 32 short L In R il fl sl ir fr sr c.lefts c.rights c.left_read c.right_read n s h.0 l) ((whole 0).degrees.h.raises n s (pair-plain n s h)));
  }

  pub aw-carried : (n : ℕ) → n ≤ 32 → Carries (IsPairKey n) (IsTensorKey n) cell key (aw p L R) (on_cells dim_of fl fr key (aw p L R))
  aw-carried n l = record {
    read = read-pair key (aw p L R) n;
    has = λ s h. aw-has p 32 short L In R il fl sl ir fr sr c.lefts c.rights c.left_read c.right_read n s h.0 l;
  }

  pub eml-carried : (n : ℕ) → n ≤ 32 → Carries (IsTensorKey n) (IsPairKey n) key cell (eml p L R) (on_tensors dim_of fl fr cell (eml p L R))
  eml-carried n l = record {
    read = read-tensor cell (eml p L R) n;
    has = λ z h.
        each-so (eml p L R z) (λ t u. (u.0, u.1.1.2))
        (each-and (HasPair n) (λ t. (t.0 ≡ n) × IsPair p L In R t) (eml p L R z)
        (eml-has p 32 short L In R il fl sl ir fr sr c.lefts c.rights c.left_read c.right_read n z h.0 l) ((whole 0).degrees.g.keeps n z (tensor-plain n z h)));
  }
