use Rattle.std.proofs.Common.{◌≡◌, ℕ, List, ◌∙◌, ap, subst}
use Rattle.fp_field.specs.declared.prime.Prime.{Prime}
use Rattle.fp_field.specs.Field.{number}
use Rattle.fp_field.proofs.Primes.{number_pos}
use Rattle.echelons.specs.Echelon.{Vector, IsReducedEchelon}
use Rattle.elim_fp.specs.Rows.{vectors_of}
use Rattle.elim_fp.specs.Matching.{row_lead}
use Rattle.elim_fp.proofs.Unmatched.{unmatched-rows, unmatched-all, unmatched-echelon, unmatched-complement}
use Rattle.elim_fp.proofs.complements.complement.Goals as goal

lower : (q r : Prime) (w u : ℕ) (bs : List Vector) → r ≡ q → u ≡ w → IsReducedEchelon (number r) u bs → IsReducedEchelon (number q) w bs
lower q r w u bs e f h = subst (λ s. IsReducedEchelon (number s) w bs) e (subst (λ n. IsReducedEchelon (number r) n bs) f h)

pub basis_of-requires-clause-primes : goal.basis_of-requires-clause-primes
basis_of-requires-clause-primes c =
    rw (c.prime.ensures, c.from_rows.ensures, c.in_ok-rows.ensures, c.as_slice.ensures) (unmatched-all row_lead (λ r. r.prime ≡ c.args.z.now.prime) c.rows.result.now c.as_slice-2.result.now c.rows.ensures.primes)

pub basis_of-requires-clause-echelon : goal.basis_of-requires-clause-echelon
basis_of-requires-clause-echelon c =
    rw (
      c.prime.ensures,
      c.width.ensures.width,
      unmatched-rows c.as_slice.result.now c.as_slice-2.result.now c.from_rows.result c.args.z.now.rows c.args.b.now.rows
          (c.from_rows.ensures ∙ c.in_ok-rows.ensures) (ap vectors_of c.as_slice.ensures ∙ c.rows.ensures.rows) (ap vectors_of c.as_slice-2.ensures ∙ c.rows-2.ensures.rows),
    )
    (unmatched-echelon (number c.args.z.now.prime) c.args.z.now.width (number_pos c.args.z.now.prime) c.args.z.now.rows c.args.b.now.rows c.rows.ensures.echelon (lower c.args.z.now.prime c.args.b.now.prime c.args.z.now.width c.args.b.now.width c.args.b.now.rows c.requires.prime c.requires.width c.rows-2.ensures.echelon) c.requires.inside)

pub returns-clause-rows : goal.returns-clause-rows
returns-clause-rows c =
    c.basis_of.ensures.rows ∙ unmatched-rows c.as_slice.result.now c.as_slice-2.result.now c.from_rows.result c.args.z.now.rows c.args.b.now.rows
    (c.from_rows.ensures ∙ c.in_ok-rows.ensures) (ap vectors_of c.as_slice.ensures ∙ c.rows.ensures.rows) (ap vectors_of c.as_slice-2.ensures ∙ c.rows-2.ensures.rows)
    ∙ unmatched-complement (number c.args.z.now.prime) c.args.z.now.width (number_pos c.args.z.now.prime) c.args.z.now.rows c.args.b.now.rows c.rows.ensures.echelon (lower c.args.z.now.prime c.args.b.now.prime c.args.z.now.width c.args.b.now.width c.args.b.now.rows c.requires.prime c.requires.width c.rows-2.ensures.echelon) c.requires.inside
