use Rattle.std.proofs.Common.{◌≡◌, ◌<◌, ◌+◌, ◌%◌, length, set, sym, ◌∙◌, ap, subst}
use Rattle.fp_field.specs.Field.{number}
use Rattle.echelons.specs.Echelon.{at_place}
use Rattle.elim_fp.specs.Rows.{dense}
use Rattle.std.proofs.lemmas.Result.{on_ok_weaker}
use Rattle.elim_fp.proofs.Dense.{length-entries}
use Rattle.elim_fp.proofs.Entries.{dense-added}
use Rattle.elim_fp.proofs.rows.FpRow.add_entry.Goals as goal

pub returns-clause-width : goal.returns-clause-width
returns-clause-width c =
    subst (λ v. length (dense (number c.add_term.new.self.prime) c.self.inside.width c.add_term.new.self.terms) ≡ length v.values) c.self.view_is
    (length-entries (number c.add_term.new.self.prime) 0 c.self.inside.width c.add_term.new.self.terms ∙ sym (length-entries (number c.self.inside.entries.prime) 0 c.self.inside.width c.self.inside.entries.terms))

pub returns-clause-entry : goal.returns-clause-entry
returns-clause-entry c =
    let p = number c.self.inside.entries.prime in
    let w = c.self.inside.width in
    let t = c.add_term.new.self.terms in
    let within : c.args.place < c.self.inside.width =
    subst (λ n. c.args.place < n) (length-entries p 0 w c.self.inside.entries.terms) (subst (λ v. c.args.place < length v.values) (sym c.self.view_is) c.requires.place) in
    on_ok_weaker c.add_term.result
    (λ e. subst (λ v. dense (number c.add_term.new.self.prime) w t ≡ set v.values c.args.place ((at_place v.values c.args.place + c.args.c.value) % number v.prime)) c.self.view_is
    (ap (λ q. dense (number q) w t) c.add_term.ensures.prime ∙ dense-added p w c.args.place c.args.c.value c.self.inside.entries.terms t within e))
    c.add_term.ensures.sum
