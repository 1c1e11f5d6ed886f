use Rattle.std.proofs.Common.{◌≡◌, ◌<◌, ◌%◌, length, sym, ◌∙◌, ap, subst}
use Rattle.fp_field.specs.Field.{number}
use Rattle.echelons.specs.Echelon.{at_place}
use Rattle.std.proofs.Math.Nat.{mod-eq_of_lt}
use Rattle.elim_fp.proofs.Dense.{length-entries, dense-at}
use Rattle.elim_fp.proofs.rows.FpRow.entry.Goals as goal

pub returns-clause-value : goal.returns-clause-value
returns-clause-value c =
    let p = number c.self.inside.entries.prime in
    let within : c.args.place < c.self.inside.width =
    subst (λ n. c.args.place < n) (length-entries p 0 c.self.inside.width c.self.inside.entries.terms) (subst (λ v. c.args.place < length v.values) (sym c.self.view_is) c.requires) in
    subst (λ v. c.coeff.result.value ≡ at_place v.values c.args.place) c.self.view_is
    (sym (dense-at p c.self.inside.width c.self.inside.entries.terms c.args.place within
    ∙ ap (λ n. n % p) (sym c.coeff.ensures.value) ∙ mod-eq_of_lt c.coeff.ensures.element))
