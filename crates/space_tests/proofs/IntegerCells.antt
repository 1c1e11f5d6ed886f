-- The cell |2|3| of K(Z,1), and Up of it in the suspension.
use Rattle.std.proofs.Common.{◌≡◌, ◌+◌, ◌^◌, ◌≤◌, [], ◌∷◌, refl, sym, ◌∙◌, ap, subst, arith, lit≤, count_ones}
use Rattle.std.specs.Prelude.{pos}
use Rattle.spaces.specs.Spaces.{kz1, suspension}
use Rattle.spaces.specs.Allowed.{IsAllowed}
use Rattle.spaces.proofs.SpaceVertices.{one_vertex}
use Rattle.cells.specs.declared.cells.Cell.{Cell}
use Rattle.cells.specs.declared.cells.Cell.TheVariants.{Ints, Up}
use Rattle.cells.specs.declared.cells.Simplex.{Simplex}
use Rattle.cells.specs.Dim.{dim_of, degree_of, capped}
use Rattle.cells.proofs.Dimensions.{dim-Ints, dim-Up}
use Rattle.term_lang.specs.declared.terms.Term.{Term}
use Rattle.term_lang.specs.declared.terms.Term.TheVariants.{KZ1, Suspension}
use Rattle.term_lang.specs.SpaceOf.{space_of}
use Rattle.term_lang.specs.Belongs.{IsCell, IsSimplex}
use Rattle.term_lang.proofs.SpacesOfTerms.{space-KZ1, space-Suspension}
use Rattle.term_lang.proofs.CellForms.{is_cell-Up}
use Rattle.oracle_iface.specs.CodeSizes.{cell_integer}
use Rattle.oracle_iface.proofs.SizeRules.{integer_ints, integer_up}
use Rattle.kz1_group.proofs.ListForms.{is_list}
use Rattle.normal_forms.specs.Built.{IsBuilt}
use Rattle.space_faces.specs.Boundaries.{IsLowCell}
use Rattle.space_faces.proofs.CellSteps.{bare_degree, bare_simplex}

pub integers-allowed : IsAllowed (space_of KZ1)
integers-allowed = subst IsAllowed (sym space-KZ1) (tt, lit≤ tt)

pub integers-built : IsBuilt (space_of KZ1)
integers-built = subst IsBuilt (sym space-KZ1) tt

abbrev two : Cell
two = Ints (pos 2 ∷ pos 3 ∷ [])

two-cell : IsCell kz1 2 two
two-cell = is_list 2 (pos 2 ∷ pos 3 ∷ []) refl refl

two-dim : dim_of two ≡ 2
two-dim = dim-Ints (pos 2 ∷ pos 3 ∷ [])

two-integer : cell_integer two ≡ 3
two-integer = integer_ints (pos 2 ∷ pos 3 ∷ [])

pub two-low : (c : Cell) → c ≡ Ints (pos 2 ∷ pos 3 ∷ []) → IsLowCell (space_of KZ1) c
two-low c e =
    subst (IsLowCell (space_of KZ1)) (sym e)
    (subst (λ X. IsLowCell X two) (sym space-KZ1)
    (subst (λ d. (d ≤ 32) × IsCell kz1 d two × (cell_integer two ≤ 2 ^ 40)) (sym two-dim) (lit≤ tt, two-cell, omega (arith, two-integer))))

-- ---- in the suspension

up-space : space_of (Suspension KZ1) ≡ suspension kz1
up-space = space-Suspension KZ1 ∙ ap suspension space-KZ1

pub up-allowed : (t : Term) → t ≡ KZ1 → IsAllowed (space_of (Suspension t))
up-allowed t e = subst (λ t. IsAllowed (space_of (Suspension t))) (sym e) (subst IsAllowed (sym up-space) ((tt, (one_vertex kz1 tt).1 refl), lit≤ tt))

pub up-built : (t : Term) → t ≡ KZ1 → IsBuilt (space_of (Suspension t))
up-built t e = subst (λ t. IsBuilt (space_of (Suspension t))) (sym e) (subst IsBuilt (sym up-space) tt)

up-dim : dim_of (Up two) ≡ 3
up-dim = dim-Up two ∙ ap (λ j. capped (j + 1)) two-dim

up-cell : IsCell (suspension kz1) 3 (Up two)
up-cell = ap (λ t. t (suspension kz1) 3) (is_cell-Up two) ∙ two-cell

up-integer : cell_integer (Up two) ≡ 3
up-integer = integer_up two ∙ two-integer

up-low : IsLowCell (suspension kz1) (Up two)
up-low = subst (λ d. (d ≤ 32) × IsCell (suspension kz1) d (Up two) × (cell_integer (Up two) ≤ 2 ^ 40)) (sym up-dim) (lit≤ tt, up-cell, omega (arith, up-integer))

pub record Suspended (t : Term) (x : Simplex) : Type 0 where
  pub simplex : IsSimplex (space_of t) (degree_of x) x
  pub degree : degree_of x ≡ 3
  pub integers : cell_integer x.cell ≡ 3

pub suspended : (t part : Term) (x : Simplex) → t ≡ Suspension part → part ≡ KZ1 → x.degens.mask ≡ 0 → (c : Cell) → x.cell ≡ Up c → c ≡ Ints (pos 2 ∷ pos 3 ∷ []) → Suspended t x
suspended t part x e f m c g h =
    let cell : x.cell ≡ Up two = g ∙ ap Up h in
    let space : space_of t ≡ suspension kz1 = ap space_of (e ∙ ap Suspension f) ∙ up-space in
    record {
      simplex = subst (λ X. IsSimplex X (degree_of x) x) (sym space) (bare_simplex (suspension kz1) x m (subst (IsLowCell (suspension kz1)) (sym cell) up-low));
      degree = (λ i. capped (count_ones (m i) + dim_of (cell i))) ∙ ap (λ d. capped (count_ones 0 + d)) up-dim ∙ bare_degree 3 (lit≤ tt);
      integers = ap cell_integer cell ∙ up-integer;
    }
