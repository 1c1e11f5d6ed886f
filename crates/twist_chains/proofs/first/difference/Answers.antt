use Rattle.std.proofs.Common.{not, ◌+◌, [], ◌∙◌, ap, arith}
use Rattle.std.specs.Option.{option_copied}
use Rattle.std.proofs.lemmas.Result.{IfOk-weaker}
use Rattle.fp_field.specs.Field.{number}
use Rattle.fp_field.proofs.Primes.{number_pos}
use Rattle.chain_core.specs.contracts.maps.UnitSource as unit
use Rattle.term_lang.specs.SpaceOf.{space_of}
use Rattle.twist_chains.proofs.FirstCalls as F
use Rattle.twist_chains.proofs.Untwisted.{none-copied, zero-told}
use Rattle.twist_chains.proofs.first.difference.Goals as goal

pub apply-requires-clause-keys : goal.apply-requires-clause-keys
apply-requires-clause-keys c =
    F.shuffle-asked (number c.args.f.now.p) (number_pos c.args.f.now.p) (space_of c.args.f.now.pair.left.term.now) (space_of c.args.f.now.pair.right.term.now) c.args.f.now.pair.left.allowed c.args.f.now.pair.right.allowed (option_copied c.args.f.now.values) c.requires.values c.args.f.now.pair.most c.args.n (space_of c.widened-pair.result.left.term.now) (space_of c.widened-pair.result.right.term.now) c.widened-pair.result.most (ap space_of c.widened-pair.ensures.left) (ap space_of c.widened-pair.ensures.right) c.widened-pair.ensures.most c.requires.degree c.args.c.now.terms c.requires.tensors

pub series-requires-clause-keys : goal.series-requires-clause-keys
series-requires-clause-keys c =
    let e = c.in_ok-pairs.ensures.prime ∙ c.requires.prime in
    F.p1-asked (number c.args.f.now.p) (number_pos c.args.f.now.p) (space_of c.args.f.now.pair.left.term.now) (space_of c.args.f.now.pair.right.term.now) c.args.f.now.pair.left.allowed c.args.f.now.pair.right.allowed (option_copied c.args.f.now.values) c.requires.values c.args.f.now.pair.most c.args.n (space_of c.widened-pair.result.left.term.now) (space_of c.widened-pair.result.right.term.now) c.widened-pair.result.most (ap space_of c.widened-pair.ensures.left) (ap space_of c.widened-pair.ensures.right) c.widened-pair.ensures.most c.requires.degree c.args.c.now.terms c.requires.tensors unit.TheImpl.ghosts.refusal (λ x. []) (λ x. []) (number c.args.c.now.prime) (number c.in_ok-pairs.pairs.prime) (c.args.n + 1) c.in_ok-pairs.pairs.terms (ap number c.requires.prime) c.in_ok-pairs.ensures.sum (ap number e) (omega arith)

pub apply-requires-2-clause-keys : goal.apply-requires-2-clause-keys
apply-requires-2-clause-keys c =
    let e = c.in_ok-pairs.ensures.prime ∙ c.requires.prime in
    let s = c.in_ok-sum.ensures.prime ∙ e in
    let l = F.lifted-told (number c.args.f.now.p) (number_pos c.args.f.now.p) (space_of c.args.f.now.pair.left.term.now) (space_of c.args.f.now.pair.right.term.now) c.args.f.now.pair.left.allowed c.args.f.now.pair.right.allowed (option_copied c.args.f.now.values) c.requires.values c.args.f.now.pair.most c.args.n (space_of c.widened-pair.result.left.term.now) (space_of c.widened-pair.result.right.term.now) c.widened-pair.result.most (ap space_of c.widened-pair.ensures.left) (ap space_of c.widened-pair.ensures.right) c.widened-pair.ensures.most c.requires.degree c.args.c.now.terms c.requires.tensors (number c.args.c.now.prime) (number c.in_ok-pairs.pairs.prime) (c.args.n + 1) c.in_ok-pairs.pairs.terms c.in_ok-sum.sum.terms (ap number c.requires.prime) c.in_ok-pairs.ensures.sum (ap number e) (omega arith) c.in_ok-sum.ensures.sum in
    F.turn-asked (number c.args.f.now.p) (number_pos c.args.f.now.p) (space_of c.args.f.now.pair.left.term.now) (space_of c.args.f.now.pair.right.term.now) c.args.f.now.pair.left.allowed c.args.f.now.pair.right.allowed (option_copied c.args.f.now.values) c.requires.values c.args.f.now.pair.most c.args.n (space_of c.widened-pair.result.left.term.now) (space_of c.widened-pair.result.right.term.now) c.widened-pair.result.most (ap space_of c.widened-pair.ensures.left) (ap space_of c.widened-pair.ensures.right) c.widened-pair.ensures.most c.requires.degree c.args.c.now.terms c.requires.tensors c.in_ok-sum.sum.terms l

pub apply-requires-3-clause-keys : goal.apply-requires-3-clause-keys
apply-requires-3-clause-keys c =
    let e = c.in_ok-pairs.ensures.prime ∙ c.requires.prime in
    let s = c.in_ok-sum.ensures.prime ∙ e in
    let l = F.lifted-told (number c.args.f.now.p) (number_pos c.args.f.now.p) (space_of c.args.f.now.pair.left.term.now) (space_of c.args.f.now.pair.right.term.now) c.args.f.now.pair.left.allowed c.args.f.now.pair.right.allowed (option_copied c.args.f.now.values) c.requires.values c.args.f.now.pair.most c.args.n (space_of c.widened-pair.result.left.term.now) (space_of c.widened-pair.result.right.term.now) c.widened-pair.result.most (ap space_of c.widened-pair.ensures.left) (ap space_of c.widened-pair.ensures.right) c.widened-pair.ensures.most c.requires.degree c.args.c.now.terms c.requires.tensors (number c.args.c.now.prime) (number c.in_ok-pairs.pairs.prime) (c.args.n + 1) c.in_ok-pairs.pairs.terms c.in_ok-sum.sum.terms (ap number c.requires.prime) c.in_ok-pairs.ensures.sum (ap number e) (omega arith) c.in_ok-sum.ensures.sum in
    F.turned-asked (number c.args.f.now.p) (number_pos c.args.f.now.p) (space_of c.args.f.now.pair.left.term.now) (space_of c.args.f.now.pair.right.term.now) c.args.f.now.pair.left.allowed c.args.f.now.pair.right.allowed (option_copied c.args.f.now.values) c.requires.values c.args.f.now.pair.most c.args.n (space_of c.widened-pair.result.left.term.now) (space_of c.widened-pair.result.right.term.now) c.widened-pair.result.most (ap space_of c.widened-pair.ensures.left) (ap space_of c.widened-pair.ensures.right) c.widened-pair.ensures.most c.requires.degree c.args.c.now.terms c.requires.tensors (number c.in_ok-sum.sum.prime) c.in_ok-sum.sum.terms c.in_ok-twisted.twisted.terms l (ap number s) c.in_ok-twisted.ensures.sum

pub returns-clause-terms : goal.returns-clause-terms
returns-clause-terms c =
    let e = c.in_ok-pairs.ensures.prime ∙ c.requires.prime in
    let s = c.in_ok-sum.ensures.prime ∙ e in
    let l = F.lifted-told (number c.args.f.now.p) (number_pos c.args.f.now.p) (space_of c.args.f.now.pair.left.term.now) (space_of c.args.f.now.pair.right.term.now) c.args.f.now.pair.left.allowed c.args.f.now.pair.right.allowed (option_copied c.args.f.now.values) c.requires.values c.args.f.now.pair.most c.args.n (space_of c.widened-pair.result.left.term.now) (space_of c.widened-pair.result.right.term.now) c.widened-pair.result.most (ap space_of c.widened-pair.ensures.left) (ap space_of c.widened-pair.ensures.right) c.widened-pair.ensures.most c.requires.degree c.args.c.now.terms c.requires.tensors (number c.args.c.now.prime) (number c.in_ok-pairs.pairs.prime) (c.args.n + 1) c.in_ok-pairs.pairs.terms c.in_ok-sum.sum.terms (ap number c.requires.prime) c.in_ok-pairs.ensures.sum (ap number e) (omega arith) c.in_ok-sum.ensures.sum in
    let u = c.in_ok-twisted.ensures.prime ∙ s in
    IfOk-weaker c.apply-3.result _ _ (λ r h. F.difference-told (number c.args.f.now.p) (number_pos c.args.f.now.p) (space_of c.args.f.now.pair.left.term.now) (space_of c.args.f.now.pair.right.term.now) c.args.f.now.pair.left.allowed c.args.f.now.pair.right.allowed (option_copied c.args.f.now.values) c.requires.values c.args.f.now.pair.most c.args.n (space_of c.widened-pair.result.left.term.now) (space_of c.widened-pair.result.right.term.now) c.widened-pair.result.most (ap space_of c.widened-pair.ensures.left) (ap space_of c.widened-pair.ensures.right) c.widened-pair.ensures.most c.requires.degree c.args.c.now.terms c.requires.tensors (number c.in_ok-sum.sum.prime) (number c.in_ok-twisted.twisted.prime) c.in_ok-sum.sum.terms c.in_ok-twisted.twisted.terms r.terms l (ap number s) c.in_ok-twisted.ensures.sum (ap number u) h) c.apply-3.ensures.sum

pub returns-clause-tensors : goal.returns-clause-tensors
returns-clause-tensors c =
    let e = c.in_ok-pairs.ensures.prime ∙ c.requires.prime in
    let s = c.in_ok-sum.ensures.prime ∙ e in
    let l = F.lifted-told (number c.args.f.now.p) (number_pos c.args.f.now.p) (space_of c.args.f.now.pair.left.term.now) (space_of c.args.f.now.pair.right.term.now) c.args.f.now.pair.left.allowed c.args.f.now.pair.right.allowed (option_copied c.args.f.now.values) c.requires.values c.args.f.now.pair.most c.args.n (space_of c.widened-pair.result.left.term.now) (space_of c.widened-pair.result.right.term.now) c.widened-pair.result.most (ap space_of c.widened-pair.ensures.left) (ap space_of c.widened-pair.ensures.right) c.widened-pair.ensures.most c.requires.degree c.args.c.now.terms c.requires.tensors (number c.args.c.now.prime) (number c.in_ok-pairs.pairs.prime) (c.args.n + 1) c.in_ok-pairs.pairs.terms c.in_ok-sum.sum.terms (ap number c.requires.prime) c.in_ok-pairs.ensures.sum (ap number e) (omega arith) c.in_ok-sum.ensures.sum in
    let u = c.in_ok-twisted.ensures.prime ∙ s in
    IfOk-weaker c.apply-3.result _ _ (λ r h. F.difference-each (number c.args.f.now.p) (number_pos c.args.f.now.p) (space_of c.args.f.now.pair.left.term.now) (space_of c.args.f.now.pair.right.term.now) c.args.f.now.pair.left.allowed c.args.f.now.pair.right.allowed (option_copied c.args.f.now.values) c.requires.values c.args.f.now.pair.most c.args.n (space_of c.widened-pair.result.left.term.now) (space_of c.widened-pair.result.right.term.now) c.widened-pair.result.most (ap space_of c.widened-pair.ensures.left) (ap space_of c.widened-pair.ensures.right) c.widened-pair.ensures.most c.requires.degree c.args.c.now.terms c.requires.tensors r.terms (F.difference-told (number c.args.f.now.p) (number_pos c.args.f.now.p) (space_of c.args.f.now.pair.left.term.now) (space_of c.args.f.now.pair.right.term.now) c.args.f.now.pair.left.allowed c.args.f.now.pair.right.allowed (option_copied c.args.f.now.values) c.requires.values c.args.f.now.pair.most c.args.n (space_of c.widened-pair.result.left.term.now) (space_of c.widened-pair.result.right.term.now) c.widened-pair.result.most (ap space_of c.widened-pair.ensures.left) (ap space_of c.widened-pair.ensures.right) c.widened-pair.ensures.most c.requires.degree c.args.c.now.terms c.requires.tensors (number c.in_ok-sum.sum.prime) (number c.in_ok-twisted.twisted.prime) c.in_ok-sum.sum.terms c.in_ok-twisted.twisted.terms r.terms l (ap number s) c.in_ok-twisted.ensures.sum (ap number u) h)) c.apply-3.ensures.sum

pub returns-then-is_none-clause-terms : goal.returns-then-is_none-clause-terms
returns-then-is_none-clause-terms c =
    zero-told (space_of c.args.f.now.pair.left.term.now) (space_of c.args.f.now.pair.right.term.now) (option_copied c.args.f.now.values) (number c.args.f.now.p) c.args.n c.args.c.now.terms c.new.result.terms (none-copied c.args.f.now.values (c.is_none.ensures ∙ ap not c.if-is_none.true)) c.new.ensures.zero
