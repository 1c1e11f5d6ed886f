use Rattle.std.proofs.Common.{sym, subst, [], List}
use Rattle.cells.proofs.OneKey.{one_cell}
use Rattle.term_lang.specs.SpaceOf.{space_of}
use Rattle.script_lang.specs.declared.simplices.TermText.{TermText}
use Rattle.session_core.specs.Answer.{told_terms as told_by, told_chain as chain_by}
use Rattle.session_core.specs.Telling.{ArePushed, IsToldChain}
use Rattle.session_core.proofs.ToldTerms.{chain_told}
use Rattle.session_core.proofs.chains.told_chain.Goals as goal

pub from_terms-requires-clause-one_key : goal.from_terms-requires-clause-one_key
from_terms-requires-clause-one_key c = one_cell

pub returns-in_ok-from_terms-in-Terms-clause-told : goal.returns-in_ok-from_terms-in-Terms-clause-told
returns-in_ok-from_terms-in-Terms-clause-told c =
    let X = space_of c.args.t.now in
    let items = c.in_ok-terms-in-Terms.terms.items in
    let are =
    subst (λ (texts : List TermText). ArePushed X (told_by c.args.p c.args.t.now c.args.n 1 texts) [] items) c.as_slice.ensures c.in_ok-terms-in-Terms.ensures.told in
    subst (λ text. IsToldChain c.args.p X (chain_by c.args.p c.args.t.now c.args.n text) c.in_ok-from_terms-in-Terms.field-0) (sym c.in-Terms.is)
    (chain_told c.args.p c.args.t.now c.requires.ready c.args.n c.requires.degree c.in-Terms.texts items c.in_ok-from_terms-in-Terms.field-0 are
    c.in_ok-from_terms-in-Terms.ensures.prime c.in_ok-from_terms-in-Terms.ensures.sum)
