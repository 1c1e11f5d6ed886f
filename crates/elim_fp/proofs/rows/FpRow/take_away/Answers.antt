use Rattle.std.proofs.Common.{◌≡◌, length, sym, ◌∙◌, ap, subst}
use Rattle.fp_field.specs.Field.{number, minus}
use Rattle.echelons.specs.Echelon.{vector_plus, multiple}
use Rattle.elim_fp.specs.Rows.{dense}
use Rattle.std.proofs.lemmas.Result.{on_ok_weaker}
use Rattle.elim_fp.proofs.Dense.{length-entries, away}
use Rattle.elim_fp.proofs.rows.FpRow.take_away.Goals as goal

pub returns-clause-width : goal.returns-clause-width
returns-clause-width c =
    subst (λ v. length (dense (number c.add_scaled.new.self.prime) c.self.inside.width c.add_scaled.new.self.terms) ≡ length v.values) c.self.view_is
    (length-entries (number c.add_scaled.new.self.prime) 0 c.self.inside.width c.add_scaled.new.self.terms ∙ sym (length-entries (number c.self.inside.entries.prime) 0 c.self.inside.width c.self.inside.entries.terms))

pub returns-clause-difference : goal.returns-clause-difference
returns-clause-difference c =
    let p = c.self.inside.entries.prime in
    let w = c.self.inside.width in
    let t = c.add_scaled.new.self.terms in
    let wide : c.other.inside.width ≡ w =
    sym (length-entries (number c.other.inside.entries.prime) 0 c.other.inside.width c.other.inside.entries.terms)
    ∙ ap (λ v. length v.values) c.other.view_is ∙ c.requires.width ∙ ap (λ v. length v.values) (sym c.self.view_is)
    ∙ length-entries (number p) 0 w c.self.inside.entries.terms in
    let same : c.other.inside.entries.prime ≡ p = ap (λ v. v.prime) c.other.view_is ∙ c.requires.prime ∙ ap (λ v. v.prime) (sym c.self.view_is) in
    let negative : c.neg.result.value ≡ minus (number p) c.args.c.value =
    c.neg.ensures ∙ ap (λ q. minus (number q) c.args.c.value) (c.prime.ensures ∙ c.requires.prime ∙ ap (λ v. v.prime) (sym c.self.view_is)) in
    on_ok_weaker c.add_scaled.result
    (λ e. subst (λ v. dense (number c.add_scaled.new.self.prime) w t ≡ vector_plus (number v.prime) v.values (multiple (number v.prime) (minus (number v.prime) c.args.c.value) c.args.other.now.values)) c.self.view_is
    (subst (λ v. dense (number c.add_scaled.new.self.prime) w t ≡ vector_plus (number p) (dense (number p) w c.self.inside.entries.terms) (multiple (number p) (minus (number p) c.args.c.value) v.values)) c.other.view_is
    (ap (λ q. dense (number q) w t) c.add_scaled.ensures.prime
    ∙ away w c.other.inside.width p c.other.inside.entries.prime c.neg.result.value c.self.inside.entries.terms c.other.inside.entries.terms t wide same e
    ∙ ap (λ a. vector_plus (number p) (dense (number p) w c.self.inside.entries.terms) (multiple (number p) a (dense (number c.other.inside.entries.prime) c.other.inside.width c.other.inside.entries.terms))) negative)))
    c.add_scaled.ensures.sum
