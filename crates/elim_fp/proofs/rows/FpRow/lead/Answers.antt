use Rattle.std.proofs.Common.{◌≡◌, subst}
use Rattle.echelons.specs.Echelon.{lead}
use Rattle.elim_fp.proofs.Dense.{lead-found, lead-beyond, lead-empty}
use Rattle.elim_fp.proofs.rows.FpRow.lead.Goals.{in_default-via-in-Some+else-place-self, in_default-via-in_default}
use Rattle.elim_fp.proofs.rows.FpRow.lead.Goals as goal

pub returns-in-Some : goal.returns-in-Some
returns-in-Some c =
    subst (λ v. c.in-Some.field-0.now.0 ≡ lead v.values) c.self.view_is
    (lead-found c.self.inside.entries.prime c.self.inside.width c.terms.result.now c.in-Some.field-0.now c.self.inside.entries.terms
    c.in-Some.ensures.item.3.0 c.in-Some.ensures.item.3.1 c.terms.ensures.terms c.terms.ensures.normal c.if-place-self.true)

pub returns-in_default : goal.returns-in_default
returns-in_default c =
    subst (λ v. c.self.inside.width ≡ lead v.values) c.self.view_is
    (elim c.in_default.branch [
      | in_default-via-in-Some+else-place-self w ↦ lead-beyond c.self.inside.entries.prime c.self.inside.width c.terms.result.now w.in-Some.field-0.now c.self.inside.entries.terms
          w.in-Some.ensures.item.3.0 w.in-Some.ensures.item.3.1 c.terms.ensures.terms c.terms.ensures.normal w.if-place-self.false
      | in_default-via-in_default w ↦ lead-empty c.self.inside.entries.prime c.self.inside.width c.terms.result.now c.self.inside.entries.terms w.in_default.ensures.item.3 c.terms.ensures.terms
    ])
