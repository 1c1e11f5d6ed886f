-- The pairs and tensors of the code read the pairs and tensors of plain simplices.
use Rattle.std.proofs.Common.{◌≡◌, ℕ, zero, suc, ◌+◌, ◌-◌, ◌<◌, ◌≤◌, [], true, cond, refl, sym, ◌∙◌, ap, subst, arith, bit_and}
use Rattle.std.specs.Prelude.{count_ones}
use Rattle.std.specs.Ordering.{eq_by_cmp, is_eq}
use Rattle.std.specs.declared.cmp.Ordering.{Ordering}
use Rattle.std.proofs.lemmas.Cmp.{eq_by_cmp_equiv}
use Rattle.fp_field.specs.Chains.{Terms, Each}
use Rattle.fp_field.specs.Reduction.{Maps, IsReduction, IsReductionTo}
use Rattle.simp_ops.proofs.PlacesOf.{is_lt, not_lt}
use Rattle.spaces.specs.Simplicial.{has_degeneracy}
use Rattle.spaces.specs.Orders.{Ordered}
use Rattle.spaces.specs.EilenbergZilber.{Linear, linear, Pair, Tensor as Plain, is_pair_cell, is_tensor_cell, pair_order, tensor_order, pair_d, aw, eml, flow}
use Rattle.cells.specs.Dim.{dim_of}
use Rattle.cells.specs.Laws.{cell_total}
use Rattle.cells.specs.Order.{cell_cmp}
use Rattle.cells.specs.declared.cells.Cell.{Cell}
use Rattle.cells.specs.declared.cells.Cell.TheVariants.{Pair as PairCell}
use Rattle.cells.specs.declared.cells.Simplex.{Simplex}
use Rattle.cells.proofs.OneKey.{one_cell}
use Rattle.ez_laws.specs.Sides.{IsLeft, IsRight, TellsApart, on_keys}
use Rattle.ez_laws.specs.Complexes.{IsPair, IsTensor, tensor_d, eilenberg_zilber}
use Rattle.ez_laws.proofs.Eaches.{each-so, each-and}
use Rattle.ez_laws.proofs.Joined.{is-reduction}
use Rattle.ez_laws.proofs.PairOrders.{equal_is, tells-equivalence, same-is, pairs-apart, tensors-apart}
use Rattle.ez_flow.specs.Parts.{IsForm, AreRead, IsPairOf}
use Rattle.ez_flow.specs.CodeMaps.{cell_for, on_cells}
use Rattle.ez_flow.proofs.Bits.{cell-masks, eq_of}
use Rattle.ez_flow.proofs.Closed.{d-has, flow-has}
use Rattle.ez_flow.proofs.CodeTerms as CT
use Rattle.ez_flow.proofs.PairCells.{pair-with, split-pair}
use Rattle.ez_maps.specs.Tensors.{tensor_cmp, IsTensorOf, tensor_for, on_tensors}
use Rattle.ez_maps.specs.TensorOrder.{tensor_total, one_tensor}
use Rattle.ez_maps.specs.PairMaps.{flow_below, pair_maps}
use Rattle.tensor_red.specs.declared.tensors.Tensor.{Tensor}
use Rattle.ez_maps.proofs.Kept.{HasPair, HasTensor, aw-has, eml-has, tensor-d-has}
use Rattle.ez_maps.proofs.TensorForms as TF
use Rattle.ez_maps.proofs.Transferred.{Tells, Reads, transferred}

tells-plain : {K : Type 0} (cmp : K → K → Ordering) → TellsApart cmp → Tells (λ x y. is_eq (cmp x y))
tells-plain cmp t = record { equivalence = tells-equivalence cmp t; is = same-is cmp t }

tells-cells : Tells (eq_by_cmp cell_cmp)
tells-cells = record { equivalence = eq_by_cmp_equiv cell_total; is = λ x y e. one_cell x y (equal_is (cell_cmp x y) e) }

tells-tensors : Tells (eq_by_cmp tensor_cmp)
tells-tensors = record { equivalence = eq_by_cmp_equiv tensor_total; is = λ x y e. one_tensor x y (equal_is (tensor_cmp x y) e) }

module _ {K J : Type 0} (p bound : ℕ) (pos : 0 < p) (short : bound ≤ 32) (L : Linear K) (In : ℕ → K → Type 0) (R : Ordered J)
    (il : ℕ → Simplex → Type 0) (fl : Simplex → K) (sl : ℕ → K → Simplex) (ir : ℕ → Simplex → Type 0) (fr : Simplex → J) (sr : ℕ → J → Simplex)
    (lefts : IsForm bound In L.degeneracy L.has_degeneracy il fl) (rights : IsForm bound R.set.In R.set.degeneracy (has_degeneracy R.set) ir fr)
    (lr : AreRead bound L.faces il fl sl) (rr : AreRead bound (linear R).faces ir fr sr)
    (degree : Cell → ℕ) (graded : (n : ℕ) (s : Simplex) → il n s → count_ones s.degens.mask + degree s.cell ≡ n)
    (right_graded : (n : ℕ) (s : Simplex) → ir n s → count_ones s.degens.mask + dim_of s.cell ≡ n)
    (left : IsLeft p L In) (right : IsRight R) where
  abbrev plain : Maps (Pair K J) (Plain K J)
  plain = eilenberg_zilber p L In R

  abbrev code : Maps Cell (Tensor Cell Cell)
  code = pair_maps p bound L In R il fl sl ir fr sr degree

  abbrev HP : ℕ → Pair K J → Type 0
  HP n k = HasPair p bound short L In R il fl sl ir fr sr lefts rights lr rr n k

  abbrev HT : ℕ → Plain K J → Type 0
  HT n z = HasTensor p bound short L In R il fl sl ir fr sr lefts rights lr rr n z

  abbrev pub Big : ℕ → Pair K J → Type 0
  Big n k = HP n k × (is_pair_cell p L R k ≡ true)

  abbrev pub Small : ℕ → Plain K J → Type 0
  Small n z = HT n z × (is_tensor_cell p L R z ≡ true)

  abbrev cell : Pair K J → Cell
  cell k = cell_for sl sr k

  abbrev key : Plain K J → Tensor Cell Cell
  key z = tensor_for sl sr z

  whole : IsReduction p plain
  whole = is-reduction p pos L In R left right

  -- ---- generators

  parts : (n : ℕ) (k : Pair K J) → HP n k → (il k.0 (sl k.0 k.1) × (fl (sl k.0 k.1) ≡ k.1)) × (ir k.0 (sr k.0 k.2) × (fr (sr k.0 k.2) ≡ k.2))
  parts n k h = (subst (λ m. il m (sl m k.1) × (fl (sl m k.1) ≡ k.1)) (sym h.0) h.1, subst (λ m. ir m (sr m k.2) × (fr (sr m k.2) ≡ k.2)) (sym h.0) h.2)

  big-plain : (n : ℕ) (k : Pair K J) → Big n k → (k.0 ≡ n) × IsPair p L In R k
  big-plain n k h =
      let q = parts n k h.0 in
      (h.0.0, (subst (In k.0) q.0.1 (lefts.is_in k.0 (sl k.0 k.1) q.0.0), subst (R.set.In k.0) q.1.1 (rights.is_in k.0 (sr k.0 k.2) q.1.0), h.1))

  small-plain : (n : ℕ) (z : Plain K J) → Small n z → (z.0 + z.2 ≡ n) × IsTensor p L In R z
  small-plain n z h =
      (h.0.0, (subst (In z.0) h.0.1.1 (lefts.is_in z.0 (sl z.0 z.1) h.0.1.0), subst (R.set.In z.2) h.0.2.1 (rights.is_in z.2 (sr z.2 z.3) h.0.2.0), h.1))

  big-is : (n : ℕ) (k : Pair K J) → Big n k → IsPairOf il ir n (cell k)
  big-is n k h =
      let q = parts n k h.0 in
      let a : Simplex = sl k.0 k.1 in
      let b : Simplex = sr k.0 k.2 in
      let masks = cell-masks p L R k.0 a.degens.mask b.degens.mask (fl a) (fr b) (lefts.mask k.0 a q.0.0) (λ j l. lefts.places k.0 j a q.0.0 l) (λ j l. rights.places k.0 j b q.1.0 l) in
      let same : is_pair_cell p L R (k.0, fl a, fr b) ≡ true = (λ i. is_pair_cell p L R (k.0, q.0.1 i, q.1.1 i)) ∙ h.1 in
      pair-with (λ a b. il n a × ir n b × (bit_and a.degens.mask b.degens.mask ≡ 0)) a b
      (subst (λ m. il m a) h.0.0 q.0.0, subst (λ m. ir m b) h.0.0 q.1.0, eq_of (bit_and a.degens.mask b.degens.mask) 0 (sym masks ∙ same))

  big-from : (n : ℕ) (c : Cell) → IsPairOf il ir n c × (n ≤ bound) → (k : Pair K J) × Big n k × (cell k ≡ c) × (n ≤ bound)
  big-from n c h =
      let r = split-pair (λ a b. il n a × ir n b × (bit_and a.degens.mask b.degens.mask ≡ 0)) c h.0 in
      let a = r.0 in
      let b = r.1 in
      let f = CT.form-pair p bound pos short L In R il fl sl ir fr sr lefts rights lr rr degree graded n c a b r.2 h.0 in (
        (n, fl a, fr b),
        (CT.form-has p bound pos short L In R il fl sl ir fr sr lefts rights lr rr degree graded n a b r.3.0 r.3.1, f.2),
        (λ i. PairCell (lr.own n a r.3.0 i) (rr.own n b r.3.1 i)) ∙ sym r.2,
        h.1,
      )

  small-from : (n : ℕ) (t : Tensor Cell Cell) → IsTensorOf il ir degree n t × (n ≤ bound) → (z : Plain K J) × Small n z × (key z ≡ t) × (n ≤ bound)
  small-from n t h = (
    TF.form p bound short L In R il fl sl ir fr sr lefts rights lr rr degree graded right_graded t,
    (
      TF.form-has p bound short L In R il fl sl ir fr sr lefts rights lr rr degree graded right_graded n t h.0,
      (TF.form-tensor p bound short L In R il fl sl ir fr sr lefts rights lr rr degree graded right_graded n t h.0).2,
    ),
    TF.own-tensor p bound short L In R il fl sl ir fr sr lefts rights lr rr degree graded right_graded n t h.0,
    h.1,
  )

  -- ---- maps

  read-pair : {A B : Type 0} (k' : A → B) (f : Pair K J → Terms A) (n : ℕ) (k : Pair K J) → Big n k → on_cells degree fl fr k' f (cell k) ≡ on_keys k' (f k)
  read-pair k' f n k h =
      let q = parts n k h.0 in
      CT.at-pair degree fl fr k' f k.0 (cell k) (sl k.0 k.1) (sr k.0 k.2) refl (graded k.0 (sl k.0 k.1) q.0.0)
      ∙ (λ i. on_keys k' (f (k.0, q.0.1 i, q.1.1 i)))

  read-tensor : {A B : Type 0} (k' : A → B) (f : Plain K J → Terms A) (n : ℕ) (z : Plain K J) → Small n z → on_tensors degree fl fr k' f (key z) ≡ on_keys k' (f z)
  read-tensor k' f n z h = ap (λ y. on_keys k' (f y)) (TF.key-form p bound short L In R il fl sl ir fr sr lefts rights lr rr degree graded right_graded n z h.0 h.1)

  h-read : (n : ℕ) (k : Pair K J) → Big n k → suc n ≤ bound → code.h (cell k) ≡ on_keys cell (flow p L R k)
  h-read n k h l = read-pair cell (flow_below bound p L R) n k h ∙ ap (λ b. on_keys cell (cond b (flow p L R k) [])) (is_lt k.0 bound (let e = h.0.0 in omega (arith, e, l)))

  h-top : (n : ℕ) (k : Pair K J) → Big n k → n ≡ bound → code.h (cell k) ≡ []
  h-top n k h e = read-pair cell (flow_below bound p L R) n k h ∙ ap (λ b. on_keys cell (cond b (flow p L R k) [])) (not_lt k.0 bound (let q = h.0.0 in omega (arith, q, e)))

  -- ---- their terms

  d-big : (n : ℕ) (k : Pair K J) → Big n k → n ≤ bound → Each (Big (n - 1)) (pair_d p L R k)
  d-big n (zero, x, y) h l = tt
  d-big n (suc m, x, y) h l =
      let e : n ≡ suc (n - 1) = let q : suc m ≡ n = h.0.0 in omega (arith, q) in
      let g : Big (suc (n - 1)) (suc m, x, y) = subst (λ i. Big i (suc m, x, y)) e h in
      each-so (pair_d p L R (suc m, x, y)) (λ t u. (u.0, u.1.1.2))
      (each-and (HP (n - 1)) (λ t. (t.0 ≡ n - 1) × IsPair p L In R t) (pair_d p L R (suc m, x, y))
      (d-has p bound short L In R il fl sl ir fr sr lefts rights lr rr (n - 1) (suc m, x, y) g.0 (subst (λ i. i ≤ bound) e l))
      ((whole 0).degrees.big.graded.lowers (n - 1) (suc m, x, y) (big-plain (suc (n - 1)) (suc m, x, y) g)))

  -- a tensor of degree 0 has no differential
  d-small : (n : ℕ) (z : Plain K J) → Small n z → n ≤ bound → Each (Small (n - 1)) (tensor_d p L In R z)
  d-small zero z h l = subst (Each (Small (0 - 1))) (sym ((whole 0).degrees.small.ends z (small-plain 0 z h))) tt
  d-small (suc n) z h l =
      subst (λ i. Each (Small i) (tensor_d p L In R z)) (let e : n ≡ suc n - 1 = omega arith in e)
      (tensor-d-has p bound short L In R il fl sl ir fr sr lefts rights lr rr n z h.0 l)

  f-small : (n : ℕ) (k : Pair K J) → Big n k → n ≤ bound → Each (Small n) (aw p L R k)
  f-small n k h l = aw-has p bound short L In R il fl sl ir fr sr lefts rights lr rr n k h.0 l

  g-big : (n : ℕ) (z : Plain K J) → Small n z → n ≤ bound → Each (Big n) (eml p L R z)
  g-big n z h l =
      each-so (eml p L R z) (λ t u. (u.0, u.1.1.2))
      (each-and (HP n) (λ t. (t.0 ≡ n) × IsPair p L In R t) (eml p L R z)
      (eml-has p bound short L In R il fl sl ir fr sr lefts rights lr rr n z h.0 l) ((whole 0).degrees.g.keeps n z (small-plain n z h)))

  h-big : (n : ℕ) (k : Pair K J) → Big n k → suc n ≤ bound → Each (Big (suc n)) (flow p L R k)
  h-big n k h l =
      each-so (flow p L R k) (λ t u. (u.0, u.1.1.2))
      (each-and (HP (suc n)) (λ t. (t.0 ≡ suc n) × IsPair p L In R t) (flow p L R k)
      (flow-has p bound short L In R il fl sl ir fr sr lefts rights lr rr n k h.0 l) ((whole 0).degrees.h.raises n k (big-plain n k h)))

  reads : Reads bound plain code Big Small cell key
  reads = record {
    plain_big = tells-plain (pair_order p L R) (pairs-apart p L In R left right);
    plain_small = tells-plain (tensor_order p L R) (tensors-apart p L In R left right);
    code_big = tells-cells;
    code_small = tells-tensors;
    big_from = big-from;
    small_from = small-from;
    big_is = λ n k h l. (big-is n k h, l);
    small_is = λ n z h l. (TF.key-tensor p bound short L In R il fl sl ir fr sr lefts rights lr rr degree graded right_graded n z h.0 h.1, l);
    big_plain = big-plain;
    small_plain = small-plain;
    d = read-pair cell (pair_d p L R);
    b = read-tensor key (tensor_d p L In R);
    f = read-pair key (aw p L R);
    g = read-tensor cell (eml p L R);
    h = h-read;
    h_top = h-top;
    d_has = d-big;
    b_has = d-small;
    f_has = f-small;
    g_has = g-big;
    h_has = h-big;
  }

  -- the maps of the code are a reduction below the bound
  pub pairs-meet : (N : ℕ) → suc N ≤ bound → IsReductionTo p N code
  pairs-meet = transferred p pos bound plain code Big Small cell key reads whole
