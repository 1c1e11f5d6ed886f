use Rattle.std.proofs.Common.{◌≡◌, length, sym, subst}
use Rattle.fp_field.specs.Field.{number}
use Rattle.fp_field.proofs.Primes.{number_pos}
use Rattle.echelons.specs.Echelon.{IsVector}
use Rattle.elim_fp.proofs.Dense.{length-entries, dense-vector}
use Rattle.elim_fp.proofs.rows.FpRow.width.Goals as goal

pub returns-clause-width : goal.returns-clause-width
returns-clause-width c =
    subst (λ v. c.self.inside.width ≡ length v.values) c.self.view_is (sym (length-entries (number c.self.inside.entries.prime) 0 c.self.inside.width c.self.inside.entries.terms))

pub returns-clause-vector : goal.returns-clause-vector
returns-clause-vector c =
    subst (λ v. IsVector (number v.prime) c.self.inside.width v.values) c.self.view_is
    (dense-vector (number c.self.inside.entries.prime) (number_pos c.self.inside.entries.prime) c.self.inside.width c.self.inside.entries.terms)
