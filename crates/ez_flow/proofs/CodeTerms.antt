-- A chain of pairs of the code is told by the weights of what its pairs stand for; and how large its left cells are.
use Rattle.std.proofs.Common.{◌≡◌, ℕ, zero, suc, ◌+◌, ◌*◌, ◌%◌, ◌^◌, ◌<◌, ◌≤◌, [], ◌∷◌, Bool, true, false, cond, refl, sym, ◌∙◌, ap, subst, arith, bit_and}
use Rattle.std.specs.Prelude.{count_ones}
use Rattle.std.proofs.Math.Nat.{mod-eq_of_lt}
use Rattle.fp_field.specs.Field.{SameMod}
use Rattle.fp_field.specs.Chains.{Terms, weigh, Each}
use Rattle.fp_field.specs.Normal.{normal, IsNormal}
use Rattle.fp_field.proofs.Weights.{weigh-along}
use Rattle.fp_field.proofs.Normals.{normal-same}
use Rattle.fp_field.proofs.FlowLaws.{Each-normal}
use Rattle.simp_ops.specs.Bits.{bit, count_below}
use Rattle.simp_ops.proofs.Numbers.{count-ones}
use Rattle.spaces.specs.Simplicial.{has_degeneracy}
use Rattle.spaces.specs.Orders.{Ordered}
use Rattle.spaces.specs.EilenbergZilber.{Linear, linear, Pair, flow}
use Rattle.cells.specs.Laws.{cell_total}
use Rattle.cells.specs.Order.{cell_cmp}
use Rattle.cells.specs.declared.cells.Cell.{Cell}
use Rattle.cells.specs.declared.cells.Cell.TheVariants.{Pair as PairCell}
use Rattle.cells.specs.declared.cells.Simplex.{Simplex}
use Rattle.cells.proofs.OneKey.{one_cell}
use Rattle.ez_laws.specs.Sides.{IsLeft, IsRight, on_keys}
use Rattle.ez_laws.specs.Complexes.{IsPair}
use Rattle.ez_laws.specs.FlowEquations.{moves, left_dim}
use Rattle.ez_laws.proofs.Eaches.{each-so, each-and, each-keys}
use Rattle.ez_laws.proofs.LeftDims.{keeps-left}
use Rattle.ez_flow.specs.Parts.{IsForm, AreRead, IsPairOf, form_weight}
use Rattle.ez_flow.specs.CodeMaps.{terms_in, pair_terms, left_degree_in, left_cell_degree, cell_for, on_cells}
use Rattle.ez_flow.proofs.Bits.{cell-masks, of_eq}
use Rattle.ez_flow.proofs.PairCells.{out-pair, with-pair, weight-pair, split-pair}
use Rattle.ez_flow.proofs.Pushes.{weigh-on-keys}
use Rattle.ez_flow.proofs.Closed.{HasPair, own-form, flow-has}

-- a map on cells, on a pair
pub at-pair : {K J A B : Type 0} (degree : Cell → ℕ) (fl : Simplex → K) (fr : Simplex → J) (key : A → B) (f : Pair K J → Terms A) (n : ℕ) (c : Cell) (a b : Simplex)
    → c ≡ PairCell a b → left_degree_in degree a ≡ n → on_cells degree fl fr key f c ≡ on_keys key (f (n, fl a, fr b))
at-pair degree fl fr key f n c a b e d =
    let T : Simplex → Simplex → Terms _ = λ a b. on_keys key (f (left_degree_in degree a, fl a, fr b)) in
    ap (pair_terms T) e ∙ (ap (terms_in T) (out-pair a b) ∙ ap (λ m. on_keys key (f (m, fl a, fr b))) d)

-- ---- how many places of a simplex move

module _ {K J : Type 0} (p : ℕ) (L : Linear K) (In : ℕ → K → Type 0) (R : Ordered J) where
  moves-below : (n : ℕ) (x : K) (t : ℕ → Bool) → ((j : ℕ) → j < n → L.has_degeneracy j x ≡ t j) → moves p L In R n x + count_below n t ≡ n
  moves-below zero x t h = refl
  moves-below (suc n) x t h = by (L.has_degeneracy n x) (t n) (h n (omega arith)) (moves-below n x t (λ j l. h j (omega (arith, l))))
    where
      by : (a b : Bool) → a ≡ b → moves p L In R n x + count_below n t ≡ n → moves p L In R n x + cond a 0 1 + (count_below n t + cond b 1 0) ≡ suc n
      by true true e r = omega (arith, r)
      by false false e r = omega (arith, r)
      by true false e r = absurd (Rattle.std.proofs.Common.true≢false e)
      by false true e r = absurd (Rattle.std.proofs.Common.true≢false (sym e))

  module _ (bound : ℕ) (il : ℕ → Simplex → Type 0) (fl : Simplex → K) (lefts : IsForm bound In L.degeneracy L.has_degeneracy il fl)
      (degree : Cell → ℕ) (graded : (n : ℕ) (s : Simplex) → il n s → count_ones s.degens.mask + degree s.cell ≡ n) where
    pub left-moves : (n : ℕ) (s : Simplex) → il n s → moves p L In R n (fl s) ≡ degree s.cell
    left-moves n s i =
        let m : ℕ = s.degens.mask in
        let a = moves-below n (fl s) (bit m) (λ j l. lefts.places n j s i l) in
        let b : count_ones m ≡ count_below n (bit m) = ap count_ones (sym (mod-eq_of_lt (lefts.mask n s i))) ∙ count-ones m n in
        let g = graded n s i in
        omega (arith, a, b, g)

-- ---- chains of pairs of the code

module _ {K J : Type 0} (p bound : ℕ) (pos : 0 < p) (short : bound ≤ 32) (L : Linear K) (In : ℕ → K → Type 0) (R : Ordered J)
    (il : ℕ → Simplex → Type 0) (fl : Simplex → K) (sl : ℕ → K → Simplex) (ir : ℕ → Simplex → Type 0) (fr : Simplex → J) (sr : ℕ → J → Simplex)
    (lefts : IsForm bound In L.degeneracy L.has_degeneracy il fl) (rights : IsForm bound R.set.In R.set.degeneracy (has_degeneracy R.set) ir fr)
    (lr : AreRead bound L.faces il fl sl) (rr : AreRead bound (linear R).faces ir fr sr)
    (degree : Cell → ℕ) (graded : (n : ℕ) (s : Simplex) → il n s → count_ones s.degens.mask + degree s.cell ≡ n) where
  abbrev pub Apart : ℕ → Simplex → Simplex → Type 0
  Apart n a b = il n a × ir n b × (bit_and a.degens.mask b.degens.mask ≡ 0)

  abbrev pub cell : Pair K J → Cell
  cell t = cell_for sl sr t

  -- the weight of a cell by what it stands for
  pub by-form : (m : ℕ) (v : Cell → ℕ) (c : Cell) → IsPairOf il ir m c → v c ≡ form_weight fl fr m (λ t. v (cell t)) c
  by-form m v c h =
      let r = split-pair (Apart m) c h in
      let a = r.0 in
      let b = r.1 in
      ap v r.2
      ∙ (λ i. v (PairCell (sym (lr.own m a r.3.0) i) (sym (rr.own m b r.3.1) i)))
      ∙ sym (ap (form_weight fl fr m (λ t. v (cell t))) r.2 ∙ weight-pair (λ a b. v (cell (m, fl a, fr b))) a b)

  -- a chain of pairs of degree m is told by what they stand for
  pub told : (n m : ℕ) (f : Pair K J → Terms (Pair K J)) (c : Cell) → IsPairOf il ir n c → (terms : Terms Cell) → IsNormal cell_cmp p terms → Each (IsPairOf il ir m) terms
      → ((w : Pair K J → ℕ) → SameMod p (weigh (form_weight fl fr m w) terms) (form_weight fl fr n (λ s. weigh w (f s)) c))
      → terms ≡ normal cell_cmp p (on_cells degree fl fr cell f c)
  told n m f c h terms normed pairs weights =
      let r = split-pair (Apart n) c h in
      let a = r.0 in
      let b = r.1 in
      sym normed ∙ normal-same cell_cmp p one_cell cell_total pos terms (on_cells degree fl fr cell f c) (λ v.
      ap (λ k. k % p) (weigh-along (IsPairOf il ir m) v (form_weight fl fr m (λ t. v (cell t))) (λ k g. by-form m v k g) terms pairs)
      ∙ weights (λ t. v (cell t))
      ∙ ap (λ k. k % p)
      (ap (form_weight fl fr n (λ s. weigh (λ t. v (cell t)) (f s))) r.2
      ∙ weight-pair (λ a b. weigh (λ t. v (cell t)) (f (n, fl a, fr b))) a b
      ∙ sym (ap (weigh v) (at-pair degree fl fr cell f n c a b r.2 (graded n a r.3.0)) ∙ weigh-on-keys v cell (f (n, fl a, fr b)))))

  -- ---- the left cells

  pub left-of-cell : (n : ℕ) (t : Pair K J) → HasPair p bound short L In R il fl sl ir fr sr lefts rights lr rr n t
      → left_cell_degree degree (cell t) ≡ left_dim p L In R t
  left-of-cell n t h =
      let a : Simplex = sl t.0 t.1 in
      let i : il t.0 a = subst (λ k. il k (sl k t.1)) (sym h.0) h.1.0 in
      let e : fl a ≡ t.1 = ap (λ k. fl (sl k t.1)) h.0 ∙ h.1.1 in
      weight-pair (λ a b. degree a.cell) a (sr t.0 t.2)
      ∙ sym (left-moves p L In R bound il fl lefts degree graded t.0 a i) ∙ ap (λ x. moves p L In R t.0 x) e

  pub left-of-pair : (n : ℕ) (c : Cell) (a b : Simplex) → c ≡ PairCell a b → il n a → left_cell_degree degree c ≡ left_dim p L In R (n, fl a, fr b)
  left-of-pair n c a b e i =
      ap (left_cell_degree degree) e ∙ weight-pair (λ a b. degree a.cell) a b ∙ sym (left-moves p L In R bound il fl lefts degree graded n a i)

  -- the pair that a cell stands for
  pub form-pair : (n : ℕ) (c : Cell) (a b : Simplex) → c ≡ PairCell a b → IsPairOf il ir n c → IsPair p L In R (n, fl a, fr b)
  form-pair n c a b e h =
      let g = with-pair (Apart n) a b (subst (IsPairOf il ir n) e h) in (
        lefts.is_in n a g.0,
        rights.is_in n b g.1,
        cell-masks p L R n a.degens.mask b.degens.mask (fl a) (fr b) (lefts.mask n a g.0) (λ j l. lefts.places n j a g.0 l) (λ j l. rights.places n j b g.1 l)
            ∙ of_eq (bit_and a.degens.mask b.degens.mask) 0 g.2,
      )

  pub form-has : (n : ℕ) (a b : Simplex) → il n a → ir n b → HasPair p bound short L In R il fl sl ir fr sr lefts rights lr rr n (n, fl a, fr b)
  form-has n a b i j = (
    refl,
    own-form bound short In L.degeneracy L.has_degeneracy L.faces il fl sl lefts lr n a i,
    own-form bound short R.set.In R.set.degeneracy (has_degeneracy R.set) (linear R).faces ir fr sr rights rr n b j,
  )

  module _ (left : IsLeft p L In) (right : IsRight R) where
    -- the flow does not raise the left cell
    pub flow-lefts : (n : ℕ) (c : Cell) → IsPairOf il ir n c → suc n ≤ bound → (terms : Terms Cell) → terms ≡ normal cell_cmp p (on_cells degree fl fr cell (flow p L R) c)
        → Each (λ t. left_cell_degree degree t ≤ left_cell_degree degree c) terms
    flow-lefts n c h below terms told =
        let r = split-pair (Apart n) c h in
        let a = r.0 in
        let b = r.1 in
        let s : Pair K J = (n, fl a, fr b) in
        let is : IsPair p L In R s = form-pair n c a b r.2 h in
        let P : Cell → Type 0 = λ t. left_cell_degree degree t ≤ left_cell_degree degree c in
        let low = left-of-pair n c a b r.2 r.3.0 in
        let H : Pair K J → Type 0 = HasPair p bound short L In R il fl sl ir fr sr lefts rights lr rr (suc n) in
        subst (Each P) (sym (told ∙ ap (normal cell_cmp p) (at-pair degree fl fr cell (flow p L R) n c a b r.2 (graded n a r.3.0))))
        (Each-normal P cell_cmp p (on_keys cell (flow p L R s))
        (each-keys P cell (flow p L R s)
        (each-so (flow p L R s) (λ t g. let e = left-of-cell (suc n) t g.0 in omega (arith, e, g.1, low))
        (each-and H (λ t. left_dim p L In R t ≤ left_dim p L In R s) (flow p L R s)
        (flow-has p bound short L In R il fl sl ir fr sr lefts rights lr rr n s (form-has n a b r.3.0 r.3.1) below)
        ((keeps-left p pos L In R left right).flow_keeps s is)))))
