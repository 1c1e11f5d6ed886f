-- Cells of the torus.
use Rattle.std.proofs.Common.{◌≡◌, ℕ, suc, ◌+◌, ◌≤◌, refl, sym, ◌∙◌, ap, subst, arith, bit_and, count_ones, true, ◌==◌}
use Rattle.cells.specs.declared.cells.Cell.{Cell}
use Rattle.cells.specs.declared.cells.Cell.TheVariants.{Top, Pair as PairCell}
use Rattle.cells.specs.declared.cells.Simplex.{Simplex}
use Rattle.cells.specs.Dim.{dim_of, degree_of, capped}
use Rattle.cells.proofs.Dimensions.{dim-Top}
use Rattle.term_lang.specs.declared.terms.Term.{Term}
use Rattle.term_lang.specs.declared.terms.Term.TheVariants.{Sphere}
use Rattle.spaces.specs.Spaces.{Space, Plain, sphere}
use Rattle.term_lang.specs.Belongs.{IsSimplex}
use Rattle.term_lang.specs.Forms.{form}
use Rattle.term_lang.specs.SpaceOf.{space_of}
use Rattle.term_lang.proofs.SpacesOfTerms.{space-Sphere}
use Rattle.space_faces.proofs.CellSteps.{bare_degree, bare_simplex}
use Rattle.space_faces.specs.Boundaries.{IsLowCell}
use Rattle.space_tests.proofs.SphereCells.{top-low}
use Rattle.ez_flow.specs.Parts.{IsPairOf}
use Rattle.ez_flow.proofs.PairCells.{pair-with}
use Rattle.ez_maps.specs.Tensors.{bare, IsTensorOf}
use Rattle.tensor_red.specs.declared.tensors.Tensor.{Tensor}
use Rattle.space_pairs.specs.Parts.{IsReached}
use Rattle.space_pairs.specs.Reach.{reach}

reach-none : (X : Space) (n : ℕ) → X ≡ sphere n → (x : Plain X) → reach X x ≡ 0
reach-none X n e = subst (λ Y. (x : Plain Y) → reach Y x ≡ 0) (sym e) (λ x. refl)

-- the cell of a sphere as a simplex
pub top-reached : (n m : ℕ) → suc n ≤ 16 → (suc n == suc n) ≡ true → (s : Simplex) → s.degens.mask ≡ 0 → s.cell ≡ Top (suc n) → IsReached (space_of (Sphere (suc n))) m (suc n) s
top-reached n m l t s e f =
    let X : Space = space_of (Sphere (suc n)) in
    let d : dim_of s.cell ≡ suc n = ap dim_of f ∙ dim-Top (suc n) in
    let q : degree_of s ≡ suc n = (λ i. capped (count_ones (e i) + d i)) ∙ bare_degree (suc n) (omega (arith, l)) in
    let none : reach X (form s X) ≡ 0 = reach-none X (suc n) (space-Sphere (suc n)) (form s X) in (
      subst (λ k. IsSimplex X k s) q (bare_simplex X s e (subst (IsLowCell X) (sym f) (top-low n l t))),
      omega (arith, l),
      omega (arith, none),
    )

-- the cell of the circle as a simplex
pub edge-reached : (s : Simplex) → s.degens.mask ≡ 0 → s.cell ≡ Top 1 → (m : ℕ) → IsReached (space_of (Sphere 1)) m 1 s
edge-reached s e f m = top-reached 0 m (omega arith) refl s e f

pub square-pair : (a b : Simplex) → a.degens.mask ≡ 0 → a.cell ≡ Top 1 → b.degens.mask ≡ 0 → b.cell ≡ Top 1 → (c : Cell) → c ≡ PairCell a b
    → IsPairOf (IsReached (space_of (Sphere 1)) 0) (IsReached (space_of (Sphere 1)) 0) 1 c
square-pair a b ea fa eb fb c e =
    let P : Simplex → Simplex → Type 0 = λ a b. IsReached (space_of (Sphere 1)) 0 1 a × IsReached (space_of (Sphere 1)) 0 1 b × (bit_and a.degens.mask b.degens.mask ≡ 0) in
    subst (IsPairOf (IsReached (space_of (Sphere 1)) 0) (IsReached (space_of (Sphere 1)) 0) 1) (sym e)
    (pair-with P a b (edge-reached a ea fa 0, edge-reached b eb fb 0, (λ i. bit_and (ea i) (eb i))))

-- a pair that belongs to the two parts that are meant
pub placed-pair : (s t a b : Term) (m k n : ℕ) (c : Cell) → s ≡ a → t ≡ b → m ≡ k → IsPairOf (IsReached (space_of a) k) (IsReached (space_of b) k) n c
    → IsPairOf (IsReached (space_of s) m) (IsReached (space_of t) m) n c
placed-pair s t a b m k n c e f g h =
    subst (λ m. IsPairOf (IsReached (space_of s) m) (IsReached (space_of t) m) n c) (sym g)
    (subst (λ s. IsPairOf (IsReached (space_of s) k) (IsReached (space_of t) k) n c) (sym e)
    (subst (λ t. IsPairOf (IsReached (space_of a) k) (IsReached (space_of t) k) n c) (sym f) h))

-- the tensor of the two cells
pub tops-tensor : (s t : Term) (m : ℕ) (z : Tensor Cell Cell) → s ≡ Sphere 1 → t ≡ Sphere 1 → z.left ≡ Top 1 → z.right ≡ Top 1
    → IsTensorOf (IsReached (space_of s) m) (IsReached (space_of t) m) (λ c. dim_of c) 2 z
tops-tensor s t m z e f l r =
    let dl : dim_of z.left ≡ 1 = ap dim_of l ∙ dim-Top 1 in
    let dr : dim_of z.right ≡ 1 = ap dim_of r ∙ dim-Top 1 in
    let a : IsReached (space_of s) m 1 (bare z.left) = subst (λ s. IsReached (space_of s) m 1 (bare z.left)) (sym e) (edge-reached (bare z.left) refl l m) in
    let b : IsReached (space_of t) m 1 (bare z.right) = subst (λ t. IsReached (space_of t) m 1 (bare z.right)) (sym f) (edge-reached (bare z.right) refl r m) in
    (subst (λ k. IsReached (space_of s) m k (bare z.left)) (sym dl) a, subst (λ k. IsReached (space_of t) m k (bare z.right)) (sym dr) b, (λ i. dl i + dr i))
