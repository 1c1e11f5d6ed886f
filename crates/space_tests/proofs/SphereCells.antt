-- The cell of a sphere.
use Rattle.std.proofs.Common.{◌≡◌, ℕ, suc, ◌^◌, ◌<◌, ◌≤◌, true, ◌&&◌, ◌==◌, sym, ◌∙◌, ap, subst, arith}
use Rattle.spaces.specs.Spaces.{sphere}
use Rattle.spaces.specs.Allowed.{IsAllowed}
use Rattle.cells.specs.declared.cells.Cell.TheVariants.{Top}
use Rattle.cells.proofs.Dimensions.{dim-Top}
use Rattle.term_lang.specs.declared.terms.Term.TheVariants.{Sphere}
use Rattle.term_lang.specs.SpaceOf.{space_of}
use Rattle.term_lang.specs.Belongs.{IsCell}
use Rattle.term_lang.proofs.SpacesOfTerms.{space-Sphere}
use Rattle.term_lang.proofs.CellForms.{is_cell-Top}
use Rattle.oracle_iface.specs.CodeSizes.{cell_integer}
use Rattle.oracle_iface.proofs.SizeRules.{integer_top}
use Rattle.normal_forms.specs.Built.{IsBuilt}
use Rattle.space_faces.specs.Boundaries.{IsLowCell}

pub sphere-built : (m : ℕ) → IsBuilt (space_of (Sphere m))
sphere-built m = subst IsBuilt (sym (space-Sphere m)) tt

pub sphere-allowed : (m : ℕ) → 0 < m → m ≤ 16 → IsAllowed (space_of (Sphere m))
sphere-allowed m l h = subst IsAllowed (sym (space-Sphere m)) ((l, h), omega arith)

pub top-low : (n : ℕ) → suc n ≤ 16 → (suc n == suc n) ≡ true → IsLowCell (space_of (Sphere (suc n))) (Top (suc n))
top-low n h e = subst (λ X. IsLowCell X (Top (suc n))) (sym (space-Sphere (suc n)))
    (subst (λ d. (d ≤ 32) × IsCell (sphere (suc n)) d (Top (suc n)) × (cell_integer (Top (suc n)) ≤ 2 ^ 40)) (sym (dim-Top (suc n)))
    (omega (arith, h), ap (λ test. test (sphere (suc n)) (suc n)) (is_cell-Top (suc n)) ∙ ap (λ b. b && b) e, omega (arith, integer_top (suc n))))
