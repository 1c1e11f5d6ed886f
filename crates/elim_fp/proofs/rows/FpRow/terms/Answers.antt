use Rattle.std.proofs.Common.{◌≡◌, length, sym, ◌∙◌, ap, subst}
use Rattle.fp_field.specs.Field.{number}
use Rattle.chain_core.specs.Formal.{numbers}
use Rattle.elim_fp.specs.Rows.{dense}
use Rattle.elim_fp.proofs.Dense.{length-entries}
use Rattle.elim_fp.proofs.rows.FpRow.terms.Goals as goal

pub returns-clause-values : goal.returns-clause-values
returns-clause-values c =
    let p = number c.self.inside.entries.prime in
    let w = c.self.inside.width in
    let t = c.self.inside.entries.terms in
    subst (λ v. v.values ≡ dense (number v.prime) (length v.values) (numbers c.terms.result.now)) c.self.view_is
    (ap (λ n. dense p n t) (sym (length-entries p 0 w t)) ∙ ap (dense p (length (dense p w t))) (sym c.terms.ensures.terms))
