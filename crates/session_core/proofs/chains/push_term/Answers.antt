use Rattle.std.proofs.Common.{SFits, w64, rules, ◌∙◌, ap}
use Rattle.std.proofs.lemmas.Int.{to_z-of_z}
use Rattle.fp_field.specs.Field.{number, residue}
use Rattle.session_core.proofs.ToldTerms.{term_pushed}
use Rattle.session_core.proofs.chains.push_term.Goals as goal

pub resolve-requires-clause-built : goal.resolve-requires-clause-built
resolve-requires-clause-built c = c.requires.ready.1

pub returns-in_ok-push_kept-in-Ok-clause-told : goal.returns-in_ok-push_kept-in-Ok-clause-told
returns-in_ok-push_kept-in-Ok-clause-told c =
    let fits : SFits w64 c.args.text.now.coeff = search rules in
    term_pushed c.args.p c.args.t.now c.requires.ready c.args.n c.requires.degree c.args.k c.args.text.now c.in-Ok.x c.reduce.result c.args.terms.now.items
    c.push_kept.new.terms.items c.in-Ok.ensures.simplex (c.reduce.ensures ∙ ap (residue (number c.args.p)) (to_z-of_z w64 c.args.text.now.coeff fits)) c.in_ok-push_kept-in-Ok.ensures
