use Rattle.std.proofs.Common.{◌≡◌, ◌<◌, ◌∷◌, [], List, true, refl, sym, ◌∙◌, ap, subst, arith}
use Rattle.std.proofs.lemmas.List.Elements.{recursion_from_All}
use Rattle.fp_field.specs.declared.prime.Prime.TheVariants.{Three}
use Rattle.fp_field.specs.Field.{number}
use Rattle.fp_field.proofs.FieldLaws.{is_field}
use Rattle.echelons.specs.Echelon.{Vector, IsVector, in_span, reduced_basis, IsCombination}
use Rattle.echelons.proofs.Basis.{basis-spans}
use Rattle.echelons.proofs.Halves.{units, units-combined}
use Rattle.echelons.proofs.Spans.{combination-span, span-subspace}
use Rattle.elim_fp.specs.Rows.{vectors_of}
use Rattle.library_tests.proofs.row_tests.plane.Goals as goal

-- each vector is a combination of the unit vectors
all-in : (v : Vector) → IsVector 3 2 v → in_span 3 2 ((1 ∷ 0 ∷ []) ∷ (0 ∷ 1 ∷ []) ∷ []) v ≡ true
all-in v g = combination-span 3 2 (units 2) v (v, g, units-combined 3 2 v g.wide (recursion_from_All (λ a. a < 3) v g.below))

every-in : (rows : List Vector) → rows ≡ reduced_basis 3 2 (in_span 3 2 ((1 ∷ 0 ∷ []) ∷ (0 ∷ 1 ∷ []) ∷ [])) → (v : Vector) → IsVector 3 2 v → in_span 3 2 rows v ≡ true
every-in rows e v g =
    let space = span-subspace 3 2 (omega arith) (units 2) (refl, (refl, tt)) in
    let spans = basis-spans 3 2 (is_field Three) (in_span 3 2 (units 2)) space v g in
    combination-span 3 2 rows v (subst (λ b. IsCombination 3 2 b v) (sym e) (spans.0 (all-in v g)))

pub returns-clause-every : goal.returns-clause-every
returns-clause-every c =
    let rows = c.matrix_of.ensures.rows ∙ ap vectors_of c.in_ok-rows.ensures.list
    ∙ (λ i. c.in_ok-pair.ensures.values i ∷ c.in_ok-pair-2.ensures.values i ∷ []) in
    every-in c.in_ok-plane.plane.rows (c.in_ok-plane.ensures.rows
    ∙ (λ i. reduced_basis (number (c.matrix_of.ensures.prime i)) (c.matrix_of.ensures.width i) (in_span (number (c.matrix_of.ensures.prime i)) (c.matrix_of.ensures.width i) (rows i))))
