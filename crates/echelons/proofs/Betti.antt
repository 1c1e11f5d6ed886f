-- The number of a homology list: a complement of the boundaries in the cycles, counted by two ranks.
use Rattle.std.proofs.Common.{◌≡◌, ℕ, ◌+◌, ◌<◌, Bool, true, ◌&&◌, List, length, arith}
use Rattle.std.proofs.lemmas.Bool.{and_parts}
use Rattle.std.proofs.lemmas.List.Elements.{All-from_recursion, recursion_from_All}
use Rattle.std.specs.List.{All}
use Rattle.fp_field.specs.Field.{IsField}
use Rattle.echelons.specs.Echelon.{Vector, IsVector, in_span, in_kernel, is_clear, reduced_basis, complement, IsSubspace}
use Rattle.echelons.proofs.Vectors.{vectors-wide}
use Rattle.echelons.proofs.Lists.{Each-from}
use Rattle.echelons.proofs.Rows.{Stairs-from, row-vector}
use Rattle.echelons.proofs.Unique.{row-within}
use Rattle.echelons.proofs.Basis.{within-combination}
use Rattle.echelons.proofs.Spans.{span-combination, kernel-subspace, span-subspace}
use Rattle.echelons.proofs.Complement.{complement-echelon, complement-spans, splits-once}
use Rattle.echelons.proofs.Counts.{split-length}
use Rattle.echelons.proofs.Rank.{rank-length}

module _ (p w : ℕ) (field : IsField p) where
  pos : 0 < p
  pos = let l : 1 < p = field.one_is_not_zero in omega arith

  -- the complement of B in Z is as long as the basis of Z has more rows than that of B
  pub complement-length : (whole part : Vector → Bool) → IsSubspace p w whole → IsSubspace p w part → ((v : Vector) → IsVector p w v → part v ≡ true → whole v ≡ true)
      → length (complement p w whole part) + length (reduced_basis p w part) ≡ length (reduced_basis p w whole)
  complement-length whole part sub inner inside =
      let rows = complement p w whole part in
      let s = Stairs-from p w rows (complement-echelon p w field whole part sub) in
      split-length p w field whole part sub inner inside rows
      (All-from_recursion (IsVector p w) rows (Each-from (IsVector p w) rows (λ r m. row-vector p w rows r s m)))
      (All-from_recursion (λ r. whole r ≡ true) rows (Each-from (λ r. whole r ≡ true) rows
      (λ r m. (and_parts (whole r) (is_clear p w part r) (row-within p w pos (λ v. whole v && is_clear p w part v) rows s (complement-spans p w field whole part sub) r m)).0)))
      (splits-once p w field whole part sub inner inside)

-- the cycles are the kernel of the one differential, and the boundaries, all of them cycles, the span of the images of the other
pub homology-length : (p w : ℕ) → IsField p → (images boundaries : List Vector) → All (IsVector p w) images
    → All (IsVector p (length images)) boundaries → All (λ v. in_kernel p w images v ≡ true) boundaries
    → length (complement p (length images) (in_kernel p w images) (in_span p (length images) boundaries))
    + length (reduced_basis p w (in_span p w images)) + length (reduced_basis p (length images) (in_span p (length images) boundaries)) ≡ length images
homology-length p w field images boundaries g h k =
    let pos : 0 < p = (let l : 1 < p = field.one_is_not_zero in omega arith) in
    let n = length images in
    let wide = vectors-wide p w images (recursion_from_All (IsVector p w) images g) in
    let each = recursion_from_All (IsVector p n) boundaries h in
    let cycles = kernel-subspace p w pos images wide in
    let a = complement-length p n field (in_kernel p w images) (in_span p n boundaries) cycles (span-subspace p n pos boundaries (vectors-wide p n boundaries each))
    (λ v x e. within-combination p n pos (in_kernel p w images) cycles boundaries v each (recursion_from_All (λ v. in_kernel p w images v ≡ true) boundaries k) (span-combination p n boundaries v e)) in
    let b = rank-length p w field images wide in
    omega (arith, a, b)
