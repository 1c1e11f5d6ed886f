use Rattle.std.proofs.Common.{sym, ◌∙◌, subst}
use Rattle.term_lang.specs.SpaceOf.{space_of}
use Rattle.oracle_iface.specs.Limits.{kind_past}
use Rattle.script_lang.specs.Meaning.{meaning}
use Rattle.script_lang.specs.Resolved.{IsFound}
use Rattle.script_lang.proofs.ResolveLimits.{within, over}
use Rattle.script_lang.proofs.resolving.resolve.Goals as goal

pub returns-in-Some-past-clause-fault : goal.returns-in-Some-past-clause-fault
returns-in-Some-past-clause-fault c =
    let a = space_of c.args.t.now in
    over a c.requires.allowed c.requires.built c.args.n c.requires.degree c.in-Some.simplex c.args.text.now
    (subst (IsFound a c.args.n (meaning c.args.text.now a c.args.n)) c.in-Some.is c.in-Ok.ensures) c.in-Some-past.kind c.in-Some-past.most
    ((λ i. kind_past (record { letters = sym c.letters_of.ensures i; integer = sym c.integer_of.ensures i; terms = 0 })) ∙ sym c.past.ensures ∙ c.in-Some-past.is)

pub returns-in-None-clause-simplex : goal.returns-in-None-clause-simplex
returns-in-None-clause-simplex c =
    let a = space_of c.args.t.now in
    within a c.requires.allowed c.requires.built c.args.n c.requires.degree c.in-Some.simplex c.args.text.now
    (subst (IsFound a c.args.n (meaning c.args.text.now a c.args.n)) c.in-Some.is c.in-Ok.ensures)
    ((λ i. kind_past (record { letters = sym c.letters_of.ensures i; integer = sym c.integer_of.ensures i; terms = 0 })) ∙ sym c.past.ensures ∙ c.in-None.is)
