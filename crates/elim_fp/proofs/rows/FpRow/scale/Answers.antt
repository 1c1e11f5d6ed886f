use Rattle.std.proofs.Common.{◌≡◌, ◌∙◌, ap, subst}
use Rattle.fp_field.specs.Field.{number}
use Rattle.echelons.specs.Echelon.{multiple}
use Rattle.elim_fp.specs.Rows.{dense}
use Rattle.elim_fp.proofs.Dense.{dense-scaled}
use Rattle.elim_fp.proofs.rows.FpRow.scale.Goals as goal

pub returns-clause-values : goal.returns-clause-values
returns-clause-values c =
    subst (λ v. dense (number c.scale.new.self.prime) c.self.inside.width c.scale.new.self.terms ≡ multiple (number v.prime) c.args.c.value v.values) c.self.view_is
    (ap (λ q. dense (number q) c.self.inside.width c.scale.new.self.terms) c.scale.ensures.prime
    ∙ dense-scaled (number c.self.inside.entries.prime) c.args.c.value c.self.inside.width c.self.inside.entries.terms c.scale.new.self.terms c.scale.ensures.terms)
