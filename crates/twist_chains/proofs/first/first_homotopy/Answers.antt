use Rattle.std.proofs.Common.{not, refl, ◌+◌, [], ◌∙◌, ap, arith}
use Rattle.std.specs.Option.{option_copied}
use Rattle.std.proofs.lemmas.Result.{IfOk-weaker}
use Rattle.fp_field.specs.Field.{number}
use Rattle.fp_field.proofs.Primes.{number_pos}
use Rattle.chain_core.specs.contracts.maps.UnitSource as unit
use Rattle.term_lang.specs.SpaceOf.{space_of}
use Rattle.fp_field.specs.Chains.{extend}
use Rattle.twist_chains.specs.Fibred.{flow_on}
use Rattle.twist_chains.proofs.FirstCalls as F
use Rattle.std.specs.Prelude.{suc}
use Rattle.chain_core.proofs.ChainLemmas.{normal_again}
use Rattle.cells.specs.Laws.{cell_total}
use Rattle.cells.specs.Order.{cell_cmp}
use Rattle.twist_chains.proofs.Untwisted.{none-copied, p1-none}
use Rattle.twist_chains.proofs.first.first_homotopy.Goals as goal

pub apply-requires-clause-keys : goal.apply-requires-clause-keys
apply-requires-clause-keys c =
    F.flow-asked (number c.args.f.now.p) (number_pos c.args.f.now.p) (space_of c.args.f.now.pair.left.term.now) (space_of c.args.f.now.pair.right.term.now) c.args.f.now.pair.left.allowed c.args.f.now.pair.right.allowed (option_copied c.args.f.now.values) c.requires.values c.args.f.now.pair.most c.args.n (space_of c.widened-pair.result.left.term.now) (space_of c.widened-pair.result.right.term.now) c.widened-pair.result.most (ap space_of c.widened-pair.ensures.left) (ap space_of c.widened-pair.ensures.right) c.widened-pair.ensures.most c.requires.degree c.args.c.now.terms c.requires.pairs

pub series-requires-clause-keys : goal.series-requires-clause-keys
series-requires-clause-keys c =
    let e = c.in_ok-raised.ensures.prime ∙ c.requires.prime in
    F.homotopy-asked (number c.args.f.now.p) (number_pos c.args.f.now.p) (space_of c.args.f.now.pair.left.term.now) (space_of c.args.f.now.pair.right.term.now) c.args.f.now.pair.left.allowed c.args.f.now.pair.right.allowed (option_copied c.args.f.now.values) c.requires.values c.args.f.now.pair.most c.args.n (space_of c.widened-pair.result.left.term.now) (space_of c.widened-pair.result.right.term.now) c.widened-pair.result.most (ap space_of c.widened-pair.ensures.left) (ap space_of c.widened-pair.ensures.right) c.widened-pair.ensures.most c.requires.degree c.args.c.now.terms c.requires.pairs unit.TheImpl.ghosts.refusal (λ x. []) (λ x. []) (number c.args.c.now.prime) (number c.in_ok-raised.raised.prime) (c.args.n + 2) c.in_ok-raised.raised.terms (ap number c.requires.prime) c.in_ok-raised.ensures.sum (ap number e) (omega arith)

pub returns-clause-terms : goal.returns-clause-terms
returns-clause-terms c =
    let e = c.in_ok-raised.ensures.prime ∙ c.requires.prime in
    IfOk-weaker c.series.result _ _ (λ r h. F.homotopy-told (number c.args.f.now.p) (number_pos c.args.f.now.p) (space_of c.args.f.now.pair.left.term.now) (space_of c.args.f.now.pair.right.term.now) c.args.f.now.pair.left.allowed c.args.f.now.pair.right.allowed (option_copied c.args.f.now.values) c.requires.values c.args.f.now.pair.most c.args.n (space_of c.widened-pair.result.left.term.now) (space_of c.widened-pair.result.right.term.now) c.widened-pair.result.most (ap space_of c.widened-pair.ensures.left) (ap space_of c.widened-pair.ensures.right) c.widened-pair.ensures.most c.requires.degree c.args.c.now.terms c.requires.pairs (number c.args.c.now.prime) (number c.in_ok-raised.raised.prime) (c.args.n + 2) c.in_ok-raised.raised.terms r.terms (ap number c.requires.prime) c.in_ok-raised.ensures.sum (ap number e) (omega arith) h) c.series.ensures.sum

pub returns-clause-pairs : goal.returns-clause-pairs
returns-clause-pairs c =
    let e = c.in_ok-raised.ensures.prime ∙ c.requires.prime in
    IfOk-weaker c.series.result _ _ (λ r h. F.homotopy-each (number c.args.f.now.p) (number_pos c.args.f.now.p) (space_of c.args.f.now.pair.left.term.now) (space_of c.args.f.now.pair.right.term.now) c.args.f.now.pair.left.allowed c.args.f.now.pair.right.allowed (option_copied c.args.f.now.values) c.requires.values c.args.f.now.pair.most c.args.n (space_of c.widened-pair.result.left.term.now) (space_of c.widened-pair.result.right.term.now) c.widened-pair.result.most (ap space_of c.widened-pair.ensures.left) (ap space_of c.widened-pair.ensures.right) c.widened-pair.ensures.most c.requires.degree c.args.c.now.terms c.requires.pairs r.terms (F.homotopy-told (number c.args.f.now.p) (number_pos c.args.f.now.p) (space_of c.args.f.now.pair.left.term.now) (space_of c.args.f.now.pair.right.term.now) c.args.f.now.pair.left.allowed c.args.f.now.pair.right.allowed (option_copied c.args.f.now.values) c.requires.values c.args.f.now.pair.most c.args.n (space_of c.widened-pair.result.left.term.now) (space_of c.widened-pair.result.right.term.now) c.widened-pair.result.most (ap space_of c.widened-pair.ensures.left) (ap space_of c.widened-pair.ensures.right) c.widened-pair.ensures.most c.requires.degree c.args.c.now.terms c.requires.pairs (number c.args.c.now.prime) (number c.in_ok-raised.raised.prime) (c.args.n + 2) c.in_ok-raised.raised.terms r.terms (ap number c.requires.prime) c.in_ok-raised.ensures.sum (ap number e) (omega arith) h)) c.series.ensures.sum

pub returns-then-is_none-clause-terms : goal.returns-then-is_none-clause-terms
returns-then-is_none-clause-terms c =
    F.homotopy-told (number c.args.f.now.p) (number_pos c.args.f.now.p) (space_of c.args.f.now.pair.left.term.now) (space_of c.args.f.now.pair.right.term.now) c.args.f.now.pair.left.allowed c.args.f.now.pair.right.allowed (option_copied c.args.f.now.values) c.requires.values c.args.f.now.pair.most c.args.n (space_of c.widened-pair.result.left.term.now) (space_of c.widened-pair.result.right.term.now) c.widened-pair.result.most (ap space_of c.widened-pair.ensures.left) (ap space_of c.widened-pair.ensures.right) c.widened-pair.ensures.most c.requires.degree c.args.c.now.terms c.requires.pairs (number c.args.c.now.prime) (number c.args.c.now.prime) (suc (suc c.args.n)) c.in_ok-raised.raised.terms c.in_ok-raised.raised.terms (ap number c.requires.prime) c.in_ok-raised.ensures.sum (ap number c.requires.prime) refl
    (p1-none (space_of c.widened-pair.result.left.term.now) (space_of c.widened-pair.result.right.term.now) (option_copied c.args.f.now.values) (none-copied c.args.f.now.values (c.is_none.ensures ∙ ap not c.if-is_none.true)) (number c.args.f.now.p) (number c.args.c.now.prime) (suc c.args.n) c.in_ok-raised.raised.terms (normal_again cell_cmp cell_total c.args.c.now.prime c.in_ok-raised.raised.terms (extend (flow_on (space_of c.widened-pair.result.left.term.now) (space_of c.widened-pair.result.right.term.now) (number c.args.f.now.p)) c.args.c.now.terms) c.in_ok-raised.ensures.sum) (suc (suc c.args.n)) refl)

pub returns-then-is_none-clause-pairs : goal.returns-then-is_none-clause-pairs
returns-then-is_none-clause-pairs c =
    F.homotopy-each (number c.args.f.now.p) (number_pos c.args.f.now.p) (space_of c.args.f.now.pair.left.term.now) (space_of c.args.f.now.pair.right.term.now) c.args.f.now.pair.left.allowed c.args.f.now.pair.right.allowed (option_copied c.args.f.now.values) c.requires.values c.args.f.now.pair.most c.args.n (space_of c.widened-pair.result.left.term.now) (space_of c.widened-pair.result.right.term.now) c.widened-pair.result.most (ap space_of c.widened-pair.ensures.left) (ap space_of c.widened-pair.ensures.right) c.widened-pair.ensures.most c.requires.degree c.args.c.now.terms c.requires.pairs c.in_ok-raised.raised.terms
    (F.homotopy-told (number c.args.f.now.p) (number_pos c.args.f.now.p) (space_of c.args.f.now.pair.left.term.now) (space_of c.args.f.now.pair.right.term.now) c.args.f.now.pair.left.allowed c.args.f.now.pair.right.allowed (option_copied c.args.f.now.values) c.requires.values c.args.f.now.pair.most c.args.n (space_of c.widened-pair.result.left.term.now) (space_of c.widened-pair.result.right.term.now) c.widened-pair.result.most (ap space_of c.widened-pair.ensures.left) (ap space_of c.widened-pair.ensures.right) c.widened-pair.ensures.most c.requires.degree c.args.c.now.terms c.requires.pairs (number c.args.c.now.prime) (number c.args.c.now.prime) (suc (suc c.args.n)) c.in_ok-raised.raised.terms c.in_ok-raised.raised.terms (ap number c.requires.prime) c.in_ok-raised.ensures.sum (ap number c.requires.prime) refl
    (p1-none (space_of c.widened-pair.result.left.term.now) (space_of c.widened-pair.result.right.term.now) (option_copied c.args.f.now.values) (none-copied c.args.f.now.values (c.is_none.ensures ∙ ap not c.if-is_none.true)) (number c.args.f.now.p) (number c.args.c.now.prime) (suc c.args.n) c.in_ok-raised.raised.terms (normal_again cell_cmp cell_total c.args.c.now.prime c.in_ok-raised.raised.terms (extend (flow_on (space_of c.widened-pair.result.left.term.now) (space_of c.widened-pair.result.right.term.now) (number c.args.f.now.p)) c.args.c.now.terms) c.in_ok-raised.ensures.sum) (suc (suc c.args.n)) refl))
