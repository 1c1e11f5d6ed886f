-- The orders of pairs and tensors of the code are those of the pairs and tensors that they stand for.
use Rattle.std.proofs.Common.{◌≡◌, ℕ, ◌⊎◌, inl, inr, refl, sym, ◌∙◌, ap, subst, bit_and}
use Rattle.std.specs.Ordering.{ordering_then, nat_cmp}
use Rattle.std.specs.declared.cmp.Ordering.{Ordering}
use Rattle.std.specs.declared.cmp.Ordering.TheVariants.{Less, Equal, Greater}
use Rattle.std.proofs.lemmas.Bool.{cases_eq}
use Rattle.std.proofs.lemmas.Cmp.{tied_itself, nat_cmp_total}
use Rattle.std.proofs.lemmas.Map.Lookups.{exact_unsigned}
use Rattle.spaces.specs.Orders.{Ordered}
use Rattle.spaces.specs.EilenbergZilber.{Linear, Pair, pair_order, tensor_order}
use Rattle.cells.specs.Dim.{dim_of, capped}
use Rattle.cells.specs.Order.{cell_cmp, simplex_cmp, kinds_cmp, kind_in, kind_of, within_cmp}
use Rattle.cells.specs.declared.cells.Cell.{Cell}
use Rattle.cells.specs.declared.cells.Cell.TheVariants.{Pair as PairCell}
use Rattle.cells.specs.declared.cells.Simplex.{Simplex}
use Rattle.cells.proofs.Compared.{cell_cmp-then, simplex_cmp-then, then_assoc, pairs}
use Rattle.cells.proofs.Dimensions.{dim-Pair}
use Rattle.ez_flow.specs.Parts.{HasSimplex, IsPairOf}
use Rattle.ez_flow.specs.CodeMaps.{cell_for}
use Rattle.ez_flow.proofs.PairCells.{out-pair, with-pair}
use Rattle.ez_maps.specs.Tensors.{bare, tensor_cmp, IsTensorOf, tensor_form}
use Rattle.tensor_red.specs.declared.tensors.Tensor.{Tensor}
use Rattle.twist_chains.proofs.CodeParts.{AreParts}

-- where the first order decides, what follows is of no account
decided : (o k w z : Ordering) → (o ≡ Equal → ⊥) → ordering_then (ordering_then o k) w ≡ ordering_then o z
decided Less k w z h = refl
decided Equal k w z h = absurd (h refl)
decided Greater k w z h = refl

kind-pair : (x y : Simplex) → kind_of (PairCell x y) ≡ 3
kind-pair x y = ap kind_in (out-pair x y)

pairs-cmp : (x y v w : Simplex) → dim_of (PairCell x y) ≡ dim_of (PairCell v w)
    → cell_cmp (PairCell x y) (PairCell v w) ≡ ordering_then (simplex_cmp x v) (simplex_cmp y w)
pairs-cmp x y v w e =
    let kinds : kinds_cmp (PairCell x y) (PairCell v w) ≡ Equal =
    (λ i. ordering_then (nat_cmp (e i) (dim_of (PairCell v w))) (nat_cmp (kind-pair x y i) (kind-pair v w i)))
    ∙ ap (λ o. ordering_then o (nat_cmp 3 3)) (tied_itself nat_cmp_total (dim_of (PairCell v w))) ∙ tied_itself nat_cmp_total 3 in
    cell_cmp-then (PairCell x y) (PairCell v w) ∙ (λ i. ordering_then (kinds i) (pairs x y v w i))

-- the simplices of a pair
pub pair-parts : (il ir : ℕ → Simplex → Type 0) (n : ℕ) (d : Cell) (a b : Simplex) → d ≡ PairCell a b → IsPairOf il ir n d
    → il n a × ir n b × (bit_and a.degens.mask b.degens.mask ≡ 0)
pair-parts il ir n d a b e h = with-pair (λ a b. il n a × ir n b × (bit_and a.degens.mask b.degens.mask ≡ 0)) a b (subst (IsPairOf il ir n) e h)

-- cells of one part, across degrees
module _ {K : Type 0} (belongs : ℕ → Simplex → Type 0) (form : Simplex → K) (cmp : ℕ → K → K → Ordering)
    (order : (n : ℕ) (s t : Simplex) → belongs n s → belongs n t → simplex_cmp s t ≡ cmp n (form s) (form t)) (c d : Cell)
    (h : belongs (dim_of c) (bare c)) (k : belongs (dim_of d) (bare d)) where
  cells-order : cell_cmp c d ≡ ordering_then (nat_cmp (dim_of c) (dim_of d)) (cmp (dim_of c) (form (bare c)) (form (bare d)))
  cells-order = by (cases_eq (dim_of c) (dim_of d))
    where
      by : (dim_of c ≡ dim_of d) ⊎ (dim_of c ≡ dim_of d → ⊥)
          → cell_cmp c d ≡ ordering_then (nat_cmp (dim_of c) (dim_of d)) (cmp (dim_of c) (form (bare c)) (form (bare d)))
      by (inl e) =
          sym (simplex_cmp-then (bare c) (bare d)) ∙ order (dim_of c) (bare c) (bare d) h (subst (λ n. belongs n (bare d)) (sym e) k)
          ∙ sym (ap (λ o. ordering_then o (cmp (dim_of c) (form (bare c)) (form (bare d)))) (ap (nat_cmp (dim_of c)) (sym e) ∙ tied_itself nat_cmp_total (dim_of c)))
      by (inr f) =
          cell_cmp-then c d
          ∙ decided (nat_cmp (dim_of c) (dim_of d)) (nat_cmp (kind_of c) (kind_of d)) (within_cmp c d) (cmp (dim_of c) (form (bare c)) (form (bare d)))
          (λ e. f (exact_unsigned (dim_of c) (dim_of d) e))

module _ {K J : Type 0} (p : ℕ) (L : Linear K) (In : ℕ → K → Type 0) (R : Ordered J)
    (il : ℕ → Simplex → Type 0) (fl : Simplex → K) (sl : ℕ → K → Simplex) (ir : ℕ → Simplex → Type 0) (fr : Simplex → J) (sr : ℕ → J → Simplex)
    (parts : AreParts p L In R il fl sl ir fr sr) where
  abbrev pub HasPair : ℕ → Pair K J → Type 0
  HasPair n s = (s.0 ≡ n) × HasSimplex il fl sl n s.1 × HasSimplex ir fr sr n s.2

  pub pair-order : (n : ℕ) (s t : Pair K J) → HasPair n s → HasPair n t → cell_cmp (cell_for sl sr s) (cell_for sl sr t) ≡ pair_order p L R s t
  pair-order n s t h k =
      let a : Simplex = sl n s.1 in
      let b : Simplex = sr n s.2 in
      let c : Simplex = sl n t.1 in
      let d : Simplex = sr n t.2 in
      let same : dim_of (PairCell a b) ≡ dim_of (PairCell c d) =
      dim-Pair a b ∙ ap capped (parts.graded n a h.1.0) ∙ sym (dim-Pair c d ∙ ap capped (parts.graded n c k.1.0)) in
      (λ i. cell_cmp (PairCell (sl (h.0 i) s.1) (sr (h.0 i) s.2)) (PairCell (sl (k.0 i) t.1) (sr (k.0 i) t.2)))
      ∙ pairs-cmp a b c d same
      ∙ (λ i. ordering_then (parts.left_order n a c h.1.0 k.1.0 i) (parts.right_order n b d h.2.0 k.2.0 i))
      ∙ (λ i. ordering_then (L.cmp n (h.1.1 i) (k.1.1 i)) (R.cmp n (h.2.1 i) (k.2.1 i)))
      ∙ sym
      ((λ i. ordering_then (nat_cmp (h.0 i) (k.0 i)) (ordering_then (L.cmp (h.0 i) s.1 t.1) (R.cmp (h.0 i) s.2 t.2)))
      ∙ ap (λ o. ordering_then o (ordering_then (L.cmp n s.1 t.1) (R.cmp n s.2 t.2))) (tied_itself nat_cmp_total n))

  pub tensor-order : (n m : ℕ) (s t : Tensor Cell Cell) → IsTensorOf il ir dim_of n s → IsTensorOf il ir dim_of m t
      → tensor_cmp s t ≡ tensor_order p L R (tensor_form dim_of fl fr s) (tensor_form dim_of fl fr t)
  tensor-order n m s t h k =
      (λ i. ordering_then (cells-order il fl L.cmp parts.left_order s.left t.left h.0 k.0 i) (cells-order ir fr R.cmp parts.right_order s.right t.right h.1 k.1 i))
      ∙ sym
      (then_assoc (nat_cmp (dim_of s.left) (dim_of t.left)) (L.cmp (dim_of s.left) (fl (bare s.left)) (fl (bare t.left)))
      (ordering_then (nat_cmp (dim_of s.right) (dim_of t.right)) (R.cmp (dim_of s.right) (fr (bare s.right)) (fr (bare t.right)))))
