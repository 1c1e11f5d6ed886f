-- Tensors of cells of the code and of plain simplices, one for the other.
use Rattle.std.proofs.Common.{◌≡◌, ℕ, ◌+◌, ◌%◌, ◌^◌, ◌<◌, ◌≤◌, Bool, true, false, not, cond, ◌&&◌, ◌==◌, refl, sym, ◌∙◌, ap, subst, arith, true≢false}
use Rattle.std.specs.Prelude.{count_ones}
use Rattle.fp_field.specs.Field.{SameMod}
use Rattle.fp_field.specs.Chains.{Terms, weigh, Each}
use Rattle.fp_field.specs.Normal.{normal}
use Rattle.fp_field.proofs.Weights.{weigh-along}
use Rattle.simp_ops.specs.Bits.{bit}
use Rattle.simp_ops.proofs.Numbers.{count-ones}
use Rattle.simp_ops.proofs.PlacesOf.{not_eq}
use Rattle.simp_ops.proofs.MaskWords.{bit-zero}
use Rattle.spaces.specs.Simplicial.{some_below, is_degenerate, has_degeneracy}
use Rattle.spaces.specs.Orders.{Ordered}
use Rattle.spaces.specs.EilenbergZilber.{Linear, linear, Tensor as Plain, is_tensor_cell}
use Rattle.cells.specs.Dim.{dim_of}
use Rattle.cells.specs.declared.cells.Cell.{Cell}
use Rattle.cells.specs.declared.cells.Simplex.{Simplex}
use Rattle.cells.proofs.OneKey.{degens_same}
use Rattle.ez_laws.specs.Complexes.{IsTensor}
use Rattle.ez_laws.proofs.PairKeys.{none-below, none-so}
use Rattle.ez_flow.specs.Parts.{IsForm, HasSimplex, AreRead}
use Rattle.ez_flow.proofs.Bits.{some-same, no-bits, of_eq, eq_of}
use Rattle.ez_flow.proofs.Closed.{own-form}
use Rattle.ez_flow.proofs.Pushes.{weigh-on-keys}
use Rattle.fp_field.proofs.Normals.{normal-same}
use Rattle.ez_laws.specs.Sides.{on_keys}
use Rattle.ez_maps.specs.Tensors.{bare, tensor_cmp, IsTensorOf, tensor_form, tensor_for}
use Rattle.ez_maps.specs.TensorOrder.{tensor_total, one_tensor}
use Rattle.ez_maps.proofs.Kept.{HasTensor}
use Rattle.tensor_red.specs.declared.tensors.Tensor.{Tensor}

pub no-ones : count_ones 0 ≡ 0
no-ones = ap count_ones (let e : 0 ≡ 0 % 2 ^ 0 = omega arith in e) ∙ count-ones 0 0

-- a simplex without degeneracies is that of its cell
pub bare-is : (s : Simplex) → s.degens.mask ≡ 0 → s ≡ bare s.cell
bare-is s e = λ i. record { degens = degens_same s.degens (bare s.cell).degens e i; cell = s.cell }

none-bits : (n : ℕ) → some_below n (bit 0) ≡ false
none-bits n = none-so n (bit 0) (λ j l. bit-zero j)

and_true : (b : Bool) → (b && true) ≡ b
and_true true = refl
and_true false = refl

and_false : (b : Bool) → (b && false) ≡ false
and_false true = refl
and_false false = refl

not_true : (b : Bool) → not b ≡ true → b ≡ false
not_true true e = absurd (true≢false (sym e))
not_true false e = refl

and_both : (a b : Bool) → (a && b) ≡ true → (a ≡ true) × (b ≡ true)
and_both true b e = (refl, e)
and_both false b e = absurd (true≢false (sym e))

-- ---- one part

module _ {K : Type 0} (bound : ℕ) (In : ℕ → K → Type 0) (degeneracy : ℕ → K → K) (has : ℕ → K → Bool) (faces : ℕ → ℕ → K → Terms K)
    (belongs : ℕ → Simplex → Type 0) (form : Simplex → K) (simplex : ℕ → K → Simplex)
    (forms : IsForm bound In degeneracy has belongs form) (read : AreRead bound faces belongs form simplex)
    (degree : Cell → ℕ) (graded : (n : ℕ) (s : Simplex) → belongs n s → count_ones s.degens.mask + degree s.cell ≡ n) where
  -- a simplex whose mask is 0 is not degenerate, and the other way round
  pub plain-mask : (n : ℕ) (s : Simplex) → belongs n s → s.degens.mask ≡ 0 → some_below n (λ j. has j (form s)) ≡ false
  plain-mask n s b e = some-same n (λ j. has j (form s)) (bit 0) (λ j l. forms.places n j s b l ∙ ap (λ m. bit m j) e) ∙ none-bits n

  pub mask-plain : (n : ℕ) (s : Simplex) → belongs n s → some_below n (λ j. has j (form s)) ≡ false → s.degens.mask ≡ 0
  mask-plain n s b e =
      no-bits n s.degens.mask (forms.mask n s b) (λ k l. sym (forms.places n k s b l) ∙ none-below n (λ j. has j (form s)) e k l)

  -- the test on masks
  pub plain-test : (n : ℕ) (s : Simplex) → belongs n s → not (some_below n (λ j. has j (form s))) ≡ (s.degens.mask == 0)
  plain-test n s b = by (some_below n (λ j. has j (form s))) refl
    where
      by : (t : Bool) → some_below n (λ j. has j (form s)) ≡ t → not t ≡ (s.degens.mask == 0)
      by false e = sym (of_eq s.degens.mask 0 (mask-plain n s b e))
      by true e = sym (not_eq s.degens.mask 0 (λ z. absurd (true≢false (sym e ∙ plain-mask n s b z))))

  -- the degree of the simplex of a cell
  pub bare-degree : (n : ℕ) (c : Cell) → belongs n (bare c) → degree c ≡ n
  bare-degree n c b = let g : count_ones 0 + degree c ≡ n = graded n (bare c) b in omega (arith, g, no-ones)

  -- a plain simplex that is not degenerate is that of a cell
  pub cell-of : (n : ℕ) (x : K) → HasSimplex belongs form simplex n x → some_below n (λ j. has j x) ≡ false
      → (simplex n x ≡ bare (simplex n x).cell) × (degree (simplex n x).cell ≡ n)
  cell-of n x h e =
      let s : Simplex = simplex n x in
      let m : s.degens.mask ≡ 0 = mask-plain n s h.0 (ap (λ y. some_below n (λ j. has j y)) h.1 ∙ e) in
      let q : s ≡ bare s.cell = bare-is s m in
      (q, bare-degree n s.cell (subst (belongs n) q h.0))

  -- its degree is at most that of the simplex
  pub cell-low : (n : ℕ) (x : K) → HasSimplex belongs form simplex n x → degree (simplex n x).cell ≤ n
  cell-low n x h = let g = graded n (simplex n x) h.0 in omega (arith, g)

-- ---- both parts

module _ {K J : Type 0} (p bound : ℕ) (short : bound ≤ 32) (L : Linear K) (In : ℕ → K → Type 0) (R : Ordered J)
    (il : ℕ → Simplex → Type 0) (fl : Simplex → K) (sl : ℕ → K → Simplex) (ir : ℕ → Simplex → Type 0) (fr : Simplex → J) (sr : ℕ → J → Simplex)
    (lefts : IsForm bound In L.degeneracy L.has_degeneracy il fl) (rights : IsForm bound R.set.In R.set.degeneracy (has_degeneracy R.set) ir fr)
    (lr : AreRead bound L.faces il fl sl) (rr : AreRead bound (linear R).faces ir fr sr)
    (degree : Cell → ℕ) (graded : (n : ℕ) (s : Simplex) → il n s → count_ones s.degens.mask + degree s.cell ≡ n)
    (right_graded : (n : ℕ) (s : Simplex) → ir n s → count_ones s.degens.mask + dim_of s.cell ≡ n) where
  abbrev pub HasT : ℕ → Plain K J → Type 0
  HasT n z = HasTensor p bound short L In R il fl sl ir fr sr lefts rights lr rr n z

  abbrev pub key : Plain K J → Tensor Cell Cell
  key z = tensor_for sl sr z

  abbrev pub form : Tensor Cell Cell → Plain K J
  form t = tensor_form degree fl fr t

  -- a tensor of the code stands for a tensor
  pub form-has : (n : ℕ) (t : Tensor Cell Cell) → IsTensorOf il ir degree n t → HasT n (form t)
  form-has n t h = (
    h.2,
    own-form bound short In L.degeneracy L.has_degeneracy L.faces il fl sl lefts lr (degree t.left) (bare t.left) h.0,
    own-form bound short R.set.In R.set.degeneracy (has_degeneracy R.set) (linear R).faces ir fr sr rights rr (dim_of t.right) (bare t.right) h.1,
  )

  pub form-tensor : (n : ℕ) (t : Tensor Cell Cell) → IsTensorOf il ir degree n t → IsTensor p L In R (form t)
  form-tensor n t h = (
    lefts.is_in (degree t.left) (bare t.left) h.0,
    rights.is_in (dim_of t.right) (bare t.right) h.1,
    λ i. not (plain-mask bound In L.degeneracy L.has_degeneracy L.faces il fl sl lefts lr degree graded (degree t.left) (bare t.left) h.0 refl i)
        && not (plain-mask bound R.set.In R.set.degeneracy (has_degeneracy R.set) (linear R).faces ir fr sr rights rr dim_of right_graded (dim_of t.right) (bare t.right) h.1 refl i),
  )

  -- and is the one for it
  pub own-tensor : (n : ℕ) (t : Tensor Cell Cell) → IsTensorOf il ir degree n t → key (form t) ≡ t
  own-tensor n t h = λ i. record {
    left = (lr.own (degree t.left) (bare t.left) h.0 i).cell;
    right = (rr.own (dim_of t.right) (bare t.right) h.1 i).cell;
  }

  -- a tensor that is not degenerate has one of the code
  module _ (n : ℕ) (z : Plain K J) (h : HasT n z) (cell : is_tensor_cell p L R z ≡ true) where
    left-plain : some_below z.0 (λ j. L.has_degeneracy j z.1) ≡ false
    left-plain = not_true (some_below z.0 (λ j. L.has_degeneracy j z.1)) (and_both (not (some_below z.0 (λ j. L.has_degeneracy j z.1))) (not (is_degenerate R.set z.2 z.3)) cell).0

    right-plain : is_degenerate R.set z.2 z.3 ≡ false
    right-plain = not_true (is_degenerate R.set z.2 z.3) (and_both (not (some_below z.0 (λ j. L.has_degeneracy j z.1))) (not (is_degenerate R.set z.2 z.3)) cell).1

    left-cell : (sl z.0 z.1 ≡ bare (sl z.0 z.1).cell) × (degree (sl z.0 z.1).cell ≡ z.0)
    left-cell = cell-of bound In L.degeneracy L.has_degeneracy L.faces il fl sl lefts lr degree graded z.0 z.1 h.1 left-plain

    right-cell : (sr z.2 z.3 ≡ bare (sr z.2 z.3).cell) × (dim_of (sr z.2 z.3).cell ≡ z.2)
    right-cell = cell-of bound R.set.In R.set.degeneracy (has_degeneracy R.set) (linear R).faces ir fr sr rights rr dim_of right_graded z.2 z.3 h.2 right-plain

    pub key-tensor : IsTensorOf il ir degree n (key z)
    key-tensor = (
      subst (λ i. il i (bare (sl z.0 z.1).cell)) (sym left-cell.1) (subst (il z.0) left-cell.0 h.1.0),
      subst (λ i. ir i (bare (sr z.2 z.3).cell)) (sym right-cell.1) (subst (ir z.2) right-cell.0 h.2.0),
      (λ i. left-cell.1 i + right-cell.1 i) ∙ h.0,
    )

    pub key-form : form (key z) ≡ z
    key-form =
        let a : fl (bare (sl z.0 z.1).cell) ≡ z.1 = ap fl (sym left-cell.0) ∙ h.1.1 in
        let b : fr (bare (sr z.2 z.3).cell) ≡ z.3 = ap fr (sym right-cell.0) ∙ h.2.1 in
        λ i. (left-cell.1 i, a i, right-cell.1 i, b i)

  -- the cells of two simplices, which are not degenerate
  pub cells-tensor : (i k : ℕ) (a b : Simplex) → il i a → ir k b → a.degens.mask ≡ 0 → b.degens.mask ≡ 0
      → IsTensorOf il ir degree (i + k) (record { left = a.cell; right = b.cell }) × (form (record { left = a.cell; right = b.cell }) ≡ (i, fl a, k, fr b))
  cells-tensor i k a b ha hb ea eb =
      let qa : a ≡ bare a.cell = bare-is a ea in
      let qb : b ≡ bare b.cell = bare-is b eb in
      let da : degree a.cell ≡ i = bare-degree bound In L.degeneracy L.has_degeneracy L.faces il fl sl lefts lr degree graded i a.cell (subst (il i) qa ha) in
      let db : dim_of b.cell ≡ k = bare-degree bound R.set.In R.set.degeneracy (has_degeneracy R.set) (linear R).faces ir fr sr rights rr dim_of right_graded k b.cell (subst (ir k) qb hb) in (
        (subst (λ m. il m (bare a.cell)) (sym da) (subst (il i) qa ha), subst (λ m. ir m (bare b.cell)) (sym db) (subst (ir k) qb hb), λ j. da j + db j),
        λ j. (da j, fl (sym qa j), db j, fr (sym qb j)),
      )

  -- the test for a tensor by the masks
  pub tensor-test : (i k : ℕ) (a b : Simplex) → il i a → ir k b → is_tensor_cell p L R (i, fl a, k, fr b) ≡ (a.degens.mask == 0) && (b.degens.mask == 0)
  tensor-test i k a b ha hb = λ j.
      plain-test bound In L.degeneracy L.has_degeneracy L.faces il fl sl lefts lr degree graded i a ha j
      && plain-test bound R.set.In R.set.degeneracy (has_degeneracy R.set) (linear R).faces ir fr sr rights rr dim_of right_graded k b hb j

  -- the weight of a tensor that is pushed where its left part is not degenerate
  pub pushed-weight : (i k : ℕ) (a b : Simplex) → il i a → ir k b → b.degens.mask ≡ 0 → (w : Plain K J → ℕ)
      → cond (a.degens.mask == 0) (w (form (record { left = a.cell; right = b.cell }))) 0 ≡ cond (is_tensor_cell p L R (i, fl a, k, fr b)) (w (i, fl a, k, fr b)) 0
  pushed-weight i k a b ha hb eb w =
      by (a.degens.mask == 0) refl ∙ ap (λ t. cond t (w (i, fl a, k, fr b)) 0) (sym (tensor-test i k a b ha hb ∙ (λ j. (a.degens.mask == 0) && of_eq b.degens.mask 0 eb j) ∙ and_true (a.degens.mask == 0)))
    where
      by : (t : Bool) → (a.degens.mask == 0) ≡ t → cond t (w (form (record { left = a.cell; right = b.cell }))) 0 ≡ cond t (w (i, fl a, k, fr b)) 0
      by true e = ap w (cells-tensor i k a b ha hb (eq_of a.degens.mask 0 e) eb).1
      by false e = refl

  -- or where its right part is not degenerate
  pub pushed-right : (i k : ℕ) (a b : Simplex) → il i a → ir k b → a.degens.mask ≡ 0 → (w : Plain K J → ℕ)
      → cond (b.degens.mask == 0) (w (form (record { left = a.cell; right = b.cell }))) 0 ≡ cond (is_tensor_cell p L R (i, fl a, k, fr b)) (w (i, fl a, k, fr b)) 0
  pushed-right i k a b ha hb ea w =
      by (b.degens.mask == 0) refl ∙ ap (λ t. cond t (w (i, fl a, k, fr b)) 0) (sym (tensor-test i k a b ha hb ∙ (λ j. of_eq a.degens.mask 0 ea j && (b.degens.mask == 0))))
    where
      by : (t : Bool) → (b.degens.mask == 0) ≡ t → cond t (w (form (record { left = a.cell; right = b.cell }))) 0 ≡ cond t (w (i, fl a, k, fr b)) 0
      by true e = ap w (cells-tensor i k a b ha hb ea (eq_of b.degens.mask 0 e)).1
      by false e = refl

  -- no tensor with a degenerate right part counts
  pub right-test : (i k : ℕ) (x : K) (b : Simplex) → ir k b → (b.degens.mask ≡ 0 → ⊥) → is_tensor_cell p L R (i, x, k, fr b) ≡ false
  right-test i k x b hb h =
      ap (λ t. not (some_below i (λ j. L.has_degeneracy j x)) && t)
      (plain-test bound R.set.In R.set.degeneracy (has_degeneracy R.set) (linear R).faces ir fr sr rights rr dim_of right_graded k b hb ∙ not_eq b.degens.mask 0 (λ e. absurd (h e)))
      ∙ and_false (not (some_below i (λ j. L.has_degeneracy j x)))

  -- the left cell of a tensor of the code has at most the degree of the left part
  pub key-left : (n : ℕ) (z : Plain K J) → HasT n z → degree (key z).left ≤ z.0
  key-left n z h = cell-low bound In L.degeneracy L.has_degeneracy L.faces il fl sl lefts lr degree graded z.0 z.1 h.1

  -- ---- chains

  -- the weight of a tensor by what it stands for
  pub by-form : (n : ℕ) (v : Tensor Cell Cell → ℕ) (t : Tensor Cell Cell) → IsTensorOf il ir degree n t → v t ≡ v (key (form t))
  by-form n v t h = ap v (sym (own-tensor n t h))

  -- a chain of tensors is told by what they stand for
  pub told-tensors : (pos : 0 < p) (n : ℕ) (terms : Terms (Tensor Cell Cell)) (plain : Terms (Plain K J)) → Each (IsTensorOf il ir degree n) terms
      → ((w : Plain K J → ℕ) → SameMod p (weigh (λ t. w (form t)) terms) (weigh w plain))
      → normal tensor_cmp p terms ≡ normal tensor_cmp p (on_keys key plain)
  told-tensors pos n terms plain each weights =
      normal-same tensor_cmp p one_tensor tensor_total pos terms (on_keys key plain) (λ v.
      ap (λ k. k % p) (weigh-along (IsTensorOf il ir degree n) v (λ t. v (key (form t))) (λ t h. by-form n v t h) terms each)
      ∙ weights (λ z. v (key z)) ∙ ap (λ k. k % p) (sym (weigh-on-keys v key plain)))
