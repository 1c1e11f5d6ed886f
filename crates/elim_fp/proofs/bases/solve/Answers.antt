use Rattle.std.proofs.Common.{◌≡◌, ◌<◌, ◌≤◌, ◌∙◌, ap, subst}
use Rattle.fp_field.specs.Field.{number}
use Rattle.echelons.specs.Echelon.{IsVector, lead, remainder, coordinates}
use Rattle.elim_fp.specs.Rows.{vectors_of}
use Rattle.elim_fp.proofs.Solved.{outside, solution}
use Rattle.elim_fp.proofs.bases.solve.Goals as goal

pub left_of-requires-clause-vector : goal.left_of-requires-clause-vector
left_of-requires-clause-vector c = subst (λ n. IsVector (number c.args.v.now.prime) n c.args.v.now.values) c.width-width.ensures.width c.width-width.ensures.vector

pub returns-then-place-width-clause-fault : goal.returns-then-place-width-clause-fault
returns-then-place-width-clause-fault c =
    let v = c.args.v.now.values in
    let rows : vectors_of c.as_slice.result.now ≡ c.args.e.now.rows = ap vectors_of c.as_slice.ensures ∙ c.rows.ensures.rows in
    let g = subst (λ q. IsVector (number q) c.args.e.now.width v) c.requires.prime (subst (λ n. IsVector (number c.args.v.now.prime) n v) (c.width-width.ensures.width ∙ c.requires.width) c.width-width.ensures.vector) in
    outside c.args.e.now v c.lead-place.result c.rows.ensures.echelon g
    (c.lead-place.ensures ∙ ap lead (c.in-Ok.ensures.values ∙ (λ i. remainder (number (c.requires.prime i)) (c.requires.width i) (rows i) v)))
    (subst (λ n. c.lead-place.result < n) (c.width-width.ensures.width ∙ c.requires.width) c.if-place-width.true)

pub returns-in-Ok-entries_at_leads-clause-coefficients :
    goal.returns-in-Ok-entries_at_leads-clause-coefficients
returns-in-Ok-entries_at_leads-clause-coefficients c =
    let v = c.args.v.now.values in
    let rows : vectors_of c.as_slice.result.now ≡ c.args.e.now.rows = ap vectors_of c.as_slice.ensures ∙ c.rows.ensures.rows in
    let again : vectors_of c.as_slice-2.result.now ≡ c.args.e.now.rows = ap vectors_of c.as_slice-2.ensures ∙ c.rows-2.ensures.rows in
    let g = subst (λ q. IsVector (number q) c.args.e.now.width v) c.requires.prime (subst (λ n. IsVector (number c.args.v.now.prime) n v) (c.width-width.ensures.width ∙ c.requires.width) c.width-width.ensures.vector) in
    solution c.args.e.now v c.in-Ok-entries_at_leads.row c.lead-place.result c.rows.ensures.echelon g
    (c.lead-place.ensures ∙ ap lead (c.in-Ok.ensures.values ∙ (λ i. remainder (number (c.requires.prime i)) (c.requires.width i) (rows i) v)))
    (subst (λ n. n ≤ c.lead-place.result) (c.width-width.ensures.width ∙ c.requires.width) c.if-place-width.false)
    (c.in-Ok-entries_at_leads.ensures.prime ∙ c.requires.prime)
    (c.in-Ok-entries_at_leads.ensures.values ∙ ap (λ rs. coordinates rs v) again)
