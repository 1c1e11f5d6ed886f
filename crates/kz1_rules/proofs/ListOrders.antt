-- The order of lists without a 0 of one length, as simplices and as cells of the code: by the first difference.
use Rattle.std.proofs.Common.{◌≡◌, ℕ, zero, suc, ◌+◌, ◌^◌, Bool, true, false, ◌||◌, cond, List, length, refl, sym, ◌∙◌, ap, arith, true≢false}
use Rattle.std.proofs.Math.IntN.{ℤ}
use Rattle.std.specs.Ordering.{ordering_then, nat_cmp, int_cmp}
use Rattle.std.specs.Cmp.Lexicographic.{slice_cmp}
use Rattle.std.specs.declared.cmp.Ordering.{Ordering}
use Rattle.std.specs.declared.cmp.Ordering.TheVariants.{Less, Equal, Greater}
use Rattle.std.proofs.lemmas.Cmp.{tied_itself, nat_cmp_total}
use Rattle.spaces.specs.Simplicial.{Simplicial, some_below, has_degeneracy, is_degenerate}
use Rattle.spaces.specs.Orders.{mask, cell_of, ordered, by_degree}
use Rattle.spaces.specs.Spaces.{kz1}
use Rattle.cells.specs.declared.cells.Cell.{out-Cell, out-roll-Cell}
use Rattle.cells.specs.declared.cells.Cell.TheVariants.{Ints, rolls-Ints}
use Rattle.cells.specs.declared.cells.Cell.TheOpen.{Cell-F}
use Rattle.cells.specs.Dim.{capped, dim_of as code_dim}
use Rattle.cells.specs.Order.{cell_cmp, kind_in, kind_of}
use Rattle.cells.proofs.Dimensions.{dim-Ints}
use Rattle.cells.proofs.Compared.{cell_cmp-then, integers}
use Rattle.homology_laws.proofs.IntegersFaces.{X, has_zero, degenerate-zero}

-- ---- simplices that are not degenerate are their own cells

module _ {K : Type 0} (A : Simplicial K) where
  or_parts : (a b : Bool) → a || b ≡ false → (a ≡ false) × (b ≡ false)
  or_parts true b h = absurd (true≢false h)
  or_parts false b h = (refl, h)

  no-mask : (n : ℕ) (x : K) → some_below n (λ j. has_degeneracy A j x) ≡ false → mask A n x ≡ 0
  no-mask zero x h = refl
  no-mask (suc n) x h =
      let s = or_parts (some_below n (λ j. has_degeneracy A j x)) (has_degeneracy A n x) h in
      ap (λ b. mask A n x + cond b (2 ^ n) 0) s.1 ∙ (let r : mask A n x + 0 ≡ mask A n x = omega arith in r) ∙ no-mask n x s.0

  own-cell : (n : ℕ) (x : K) → some_below n (λ j. has_degeneracy A j x) ≡ false → cell_of A n x ≡ x
  own-cell zero x h = refl
  own-cell (suc n) x h =
      let s = or_parts (some_below n (λ j. has_degeneracy A j x)) (has_degeneracy A n x) h in
      ap (λ b. cell_of A n (cond b (A.face n x) x)) s.1 ∙ own-cell n x s.0

-- ---- lists

whole : (o p : Ordering) → o ≡ Equal → ordering_then o p ≡ p
whole o p e = ap (λ r. ordering_then r p) e

twice : (o : Ordering) → ordering_then o o ≡ o
twice Less = refl
twice Equal = refl
twice Greater = refl

same : (m n : ℕ) → m ≡ n → nat_cmp m n ≡ Equal
same m n e = ap (λ k. nat_cmp k n) e ∙ tied_itself nat_cmp_total n

kind-Ints : (x : List ℤ) → kind_of (Ints x) ≡ 5
kind-Ints x = ap kind_in (ap out-Cell (sym (rolls-Ints x)) ∙ out-roll-Cell (Cell-F.Ints x))

-- a list with its degree, which has no 0
pub record IsList (n : ℕ) (x : ℕ × List ℤ) : Type 0 where
  pub degree : x.0 ≡ n
  pub long : length x.1 ≡ n
  pub free : has_zero x.1 ≡ false

module _ (n : ℕ) (x y : ℕ × List ℤ) (is : IsList n x) (js : IsList n y) where
  no-degeneracy : (z : ℕ × List ℤ) → IsList n z → is_degenerate X z.0 z.1 ≡ false
  no-degeneracy z ks = degenerate-zero z.0 z.1 (ks.long ∙ sym ks.degree) ∙ ks.free

  masks : nat_cmp (mask X x.0 x.1) (mask X x.0 y.1) ≡ Equal
  masks = same (mask X x.0 x.1) (mask X x.0 y.1)
      (no-mask X x.0 x.1 (no-degeneracy x is) ∙ sym (ap (λ d. mask X d y.1) (is.degree ∙ sym js.degree) ∙ no-mask X y.0 y.1 (no-degeneracy y js)))

  cells : slice_cmp int_cmp (cell_of X x.0 x.1) (cell_of X x.0 y.1) ≡ slice_cmp int_cmp x.1 y.1
  cells = λ i. slice_cmp int_cmp (own-cell X x.0 x.1 (no-degeneracy x is) i) ((ap (λ d. cell_of X d y.1) (is.degree ∙ sym js.degree) ∙ own-cell X y.0 y.1 (no-degeneracy y js)) i)

  pub order-simplices : by_degree (ordered kz1).cmp x y ≡ slice_cmp int_cmp x.1 y.1
  order-simplices =
      whole (nat_cmp x.0 y.0) ((ordered kz1).cmp x.0 x.1 y.1) (same x.0 y.0 (is.degree ∙ sym js.degree))
      ∙ ap (λ o. ordering_then o (slice_cmp int_cmp x.1 y.1)) (whole (nat_cmp (mask X x.0 x.1) (mask X x.0 y.1)) (slice_cmp int_cmp (cell_of X x.0 x.1) (cell_of X x.0 y.1)) masks ∙ cells)
      ∙ twice (slice_cmp int_cmp x.1 y.1)

  dims : code_dim (Ints x.1) ≡ code_dim (Ints y.1)
  dims = dim-Ints x.1 ∙ ap capped (is.long ∙ sym js.long) ∙ sym (dim-Ints y.1)

  pub order-cells : cell_cmp (Ints x.1) (Ints y.1) ≡ slice_cmp int_cmp x.1 y.1
  order-cells =
      cell_cmp-then (Ints x.1) (Ints y.1)
      ∙ (λ i. ordering_then (ordering_then (same (code_dim (Ints x.1)) (code_dim (Ints y.1)) dims i) (same (kind_of (Ints x.1)) (kind_of (Ints y.1)) (kind-Ints x.1 ∙ sym (kind-Ints y.1)) i)) (integers x.1 y.1 i))
      ∙ whole (nat_cmp (length x.1) (length y.1)) (slice_cmp int_cmp x.1 y.1) (same (length x.1) (length y.1) (is.long ∙ sym js.long))

  pub orders-agree : cell_cmp (Ints x.1) (Ints y.1) ≡ by_degree (ordered kz1).cmp x y
  orders-agree = order-cells ∙ sym order-simplices
