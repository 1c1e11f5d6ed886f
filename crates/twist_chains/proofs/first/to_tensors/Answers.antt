use Rattle.std.proofs.Common.{not, refl, ◌≡◌, ◌+◌, [], ◌∙◌, ap, arith}
use Rattle.std.specs.Option.{option_copied}
use Rattle.std.proofs.lemmas.Result.{IfOk-weaker}
use Rattle.fp_field.specs.Field.{number}
use Rattle.fp_field.proofs.Primes.{number_pos}
use Rattle.chain_core.specs.Formal.{Formal}
use Rattle.cells.specs.declared.cells.Cell.{Cell}
use Rattle.chain_core.specs.contracts.maps.UnitSource as unit
use Rattle.term_lang.specs.SpaceOf.{space_of}
use Rattle.twist_chains.proofs.FirstCalls as F
use Rattle.std.specs.Prelude.{suc}
use Rattle.twist_chains.proofs.Untwisted.{none-copied, s1-none}
use Rattle.twist_chains.proofs.first.to_tensors.Goals as goal

pub series-requires-clause-keys : goal.series-requires-clause-keys
series-requires-clause-keys c =
    let is : c.in_ok-clone.field-0 ≡ c.args.c.now = c.in_ok-clone.ensures.cases (λ x y e. e) in
    let e = ap (λ (d : Formal Cell). d.prime) is ∙ c.requires.prime in
    F.s1-asked (number c.args.f.now.p) (number_pos c.args.f.now.p) (space_of c.args.f.now.pair.left.term.now) (space_of c.args.f.now.pair.right.term.now) c.args.f.now.pair.left.allowed c.args.f.now.pair.right.allowed (option_copied c.args.f.now.values) c.requires.values c.args.f.now.pair.most c.args.n (space_of c.widened-pair.result.left.term.now) (space_of c.widened-pair.result.right.term.now) c.widened-pair.result.most (ap space_of c.widened-pair.ensures.left) (ap space_of c.widened-pair.ensures.right) c.widened-pair.ensures.most c.requires.degree c.args.c.now.terms c.requires.pairs unit.TheImpl.ghosts.refusal (λ x. []) (λ x. []) (number c.in_ok-clone.field-0.prime) (c.args.n + 1) c.in_ok-clone.field-0.terms (ap number e) (omega arith) (ap (λ (d : Formal Cell). d.terms) is)

pub apply-requires-2-clause-keys : goal.apply-requires-2-clause-keys
apply-requires-2-clause-keys c =
    let is : c.in_ok-clone.field-0 ≡ c.args.c.now = c.in_ok-clone.ensures.cases (λ x y e. e) in
    let e = ap (λ (d : Formal Cell). d.prime) is ∙ c.requires.prime in
    F.fronts-asked (number c.args.f.now.p) (number_pos c.args.f.now.p) (space_of c.args.f.now.pair.left.term.now) (space_of c.args.f.now.pair.right.term.now) c.args.f.now.pair.left.allowed c.args.f.now.pair.right.allowed (option_copied c.args.f.now.values) c.requires.values c.args.f.now.pair.most c.args.n (space_of c.widened-pair.result.left.term.now) (space_of c.widened-pair.result.right.term.now) c.widened-pair.result.most (ap space_of c.widened-pair.ensures.left) (ap space_of c.widened-pair.ensures.right) c.widened-pair.ensures.most c.requires.degree c.args.c.now.terms c.requires.pairs (number c.in_ok-clone.field-0.prime) (c.args.n + 1) c.in_ok-clone.field-0.terms c.in_ok-sum.sum.terms (ap number e) (omega arith) (ap (λ (d : Formal Cell). d.terms) is) c.in_ok-sum.ensures.sum

pub returns-clause-terms : goal.returns-clause-terms
returns-clause-terms c =
    let is : c.in_ok-clone.field-0 ≡ c.args.c.now = c.in_ok-clone.ensures.cases (λ x y e. e) in
    let e = ap (λ (d : Formal Cell). d.prime) is ∙ c.requires.prime in
    IfOk-weaker c.apply-2.result _ _ (λ r h. F.tensors-told (number c.args.f.now.p) (number_pos c.args.f.now.p) (space_of c.args.f.now.pair.left.term.now) (space_of c.args.f.now.pair.right.term.now) c.args.f.now.pair.left.allowed c.args.f.now.pair.right.allowed (option_copied c.args.f.now.values) c.requires.values c.args.f.now.pair.most c.args.n (space_of c.widened-pair.result.left.term.now) (space_of c.widened-pair.result.right.term.now) c.widened-pair.result.most (ap space_of c.widened-pair.ensures.left) (ap space_of c.widened-pair.ensures.right) c.widened-pair.ensures.most c.requires.degree c.args.c.now.terms c.requires.pairs (number c.in_ok-clone.field-0.prime) (c.args.n + 1) (number c.in_ok-sum.sum.prime) c.in_ok-clone.field-0.terms c.in_ok-sum.sum.terms r.terms (ap number e) (omega arith) (ap (λ (d : Formal Cell). d.terms) is) c.in_ok-sum.ensures.sum (ap number (c.in_ok-sum.ensures.prime ∙ e)) h) c.apply-2.ensures.sum

pub returns-clause-tensors : goal.returns-clause-tensors
returns-clause-tensors c =
    let is : c.in_ok-clone.field-0 ≡ c.args.c.now = c.in_ok-clone.ensures.cases (λ x y e. e) in
    let e = ap (λ (d : Formal Cell). d.prime) is ∙ c.requires.prime in
    IfOk-weaker c.apply-2.result _ _ (λ r h. F.tensors-each (number c.args.f.now.p) (number_pos c.args.f.now.p) (space_of c.args.f.now.pair.left.term.now) (space_of c.args.f.now.pair.right.term.now) c.args.f.now.pair.left.allowed c.args.f.now.pair.right.allowed (option_copied c.args.f.now.values) c.requires.values c.args.f.now.pair.most c.args.n (space_of c.widened-pair.result.left.term.now) (space_of c.widened-pair.result.right.term.now) c.widened-pair.result.most (ap space_of c.widened-pair.ensures.left) (ap space_of c.widened-pair.ensures.right) c.widened-pair.ensures.most c.requires.degree c.args.c.now.terms c.requires.pairs r.terms (F.tensors-told (number c.args.f.now.p) (number_pos c.args.f.now.p) (space_of c.args.f.now.pair.left.term.now) (space_of c.args.f.now.pair.right.term.now) c.args.f.now.pair.left.allowed c.args.f.now.pair.right.allowed (option_copied c.args.f.now.values) c.requires.values c.args.f.now.pair.most c.args.n (space_of c.widened-pair.result.left.term.now) (space_of c.widened-pair.result.right.term.now) c.widened-pair.result.most (ap space_of c.widened-pair.ensures.left) (ap space_of c.widened-pair.ensures.right) c.widened-pair.ensures.most c.requires.degree c.args.c.now.terms c.requires.pairs (number c.in_ok-clone.field-0.prime) (c.args.n + 1) (number c.in_ok-sum.sum.prime) c.in_ok-clone.field-0.terms c.in_ok-sum.sum.terms r.terms (ap number e) (omega arith) (ap (λ (d : Formal Cell). d.terms) is) c.in_ok-sum.ensures.sum (ap number (c.in_ok-sum.ensures.prime ∙ e)) h)) c.apply-2.ensures.sum

pub apply-requires-clause-keys : goal.apply-requires-clause-keys
apply-requires-clause-keys c =
    F.fronts-asked (number c.args.f.now.p) (number_pos c.args.f.now.p) (space_of c.args.f.now.pair.left.term.now) (space_of c.args.f.now.pair.right.term.now) c.args.f.now.pair.left.allowed c.args.f.now.pair.right.allowed (option_copied c.args.f.now.values) c.requires.values c.args.f.now.pair.most c.args.n (space_of c.widened-pair.result.left.term.now) (space_of c.widened-pair.result.right.term.now) c.widened-pair.result.most (ap space_of c.widened-pair.ensures.left) (ap space_of c.widened-pair.ensures.right) c.widened-pair.ensures.most c.requires.degree c.args.c.now.terms c.requires.pairs (number c.args.c.now.prime) (suc c.args.n) c.args.c.now.terms c.args.c.now.terms (ap number c.requires.prime) refl refl
    (s1-none (space_of c.widened-pair.result.left.term.now) (space_of c.widened-pair.result.right.term.now) (option_copied c.args.f.now.values) (none-copied c.args.f.now.values (c.is_none.ensures ∙ ap not c.if-is_none.true)) (number c.args.f.now.p) (number c.args.c.now.prime) c.args.n c.args.c.now.terms c.terms.ensures.normal (suc c.args.n) refl)

pub returns-then-is_none-clause-terms : goal.returns-then-is_none-clause-terms
returns-then-is_none-clause-terms c =
    IfOk-weaker c.apply.result _ _ (λ r h. F.tensors-told (number c.args.f.now.p) (number_pos c.args.f.now.p) (space_of c.args.f.now.pair.left.term.now) (space_of c.args.f.now.pair.right.term.now) c.args.f.now.pair.left.allowed c.args.f.now.pair.right.allowed (option_copied c.args.f.now.values) c.requires.values c.args.f.now.pair.most c.args.n (space_of c.widened-pair.result.left.term.now) (space_of c.widened-pair.result.right.term.now) c.widened-pair.result.most (ap space_of c.widened-pair.ensures.left) (ap space_of c.widened-pair.ensures.right) c.widened-pair.ensures.most c.requires.degree c.args.c.now.terms c.requires.pairs (number c.args.c.now.prime) (suc c.args.n) (number c.args.c.now.prime) c.args.c.now.terms c.args.c.now.terms r.terms (ap number c.requires.prime) refl refl (s1-none (space_of c.widened-pair.result.left.term.now) (space_of c.widened-pair.result.right.term.now) (option_copied c.args.f.now.values) (none-copied c.args.f.now.values (c.is_none.ensures ∙ ap not c.if-is_none.true)) (number c.args.f.now.p) (number c.args.c.now.prime) c.args.n c.args.c.now.terms c.terms.ensures.normal (suc c.args.n) refl) (ap number c.requires.prime) h) c.apply.ensures.sum

pub returns-then-is_none-clause-tensors : goal.returns-then-is_none-clause-tensors
returns-then-is_none-clause-tensors c =
    IfOk-weaker c.apply.result _ _ (λ r h. F.tensors-each (number c.args.f.now.p) (number_pos c.args.f.now.p) (space_of c.args.f.now.pair.left.term.now) (space_of c.args.f.now.pair.right.term.now) c.args.f.now.pair.left.allowed c.args.f.now.pair.right.allowed (option_copied c.args.f.now.values) c.requires.values c.args.f.now.pair.most c.args.n (space_of c.widened-pair.result.left.term.now) (space_of c.widened-pair.result.right.term.now) c.widened-pair.result.most (ap space_of c.widened-pair.ensures.left) (ap space_of c.widened-pair.ensures.right) c.widened-pair.ensures.most c.requires.degree c.args.c.now.terms c.requires.pairs r.terms (F.tensors-told (number c.args.f.now.p) (number_pos c.args.f.now.p) (space_of c.args.f.now.pair.left.term.now) (space_of c.args.f.now.pair.right.term.now) c.args.f.now.pair.left.allowed c.args.f.now.pair.right.allowed (option_copied c.args.f.now.values) c.requires.values c.args.f.now.pair.most c.args.n (space_of c.widened-pair.result.left.term.now) (space_of c.widened-pair.result.right.term.now) c.widened-pair.result.most (ap space_of c.widened-pair.ensures.left) (ap space_of c.widened-pair.ensures.right) c.widened-pair.ensures.most c.requires.degree c.args.c.now.terms c.requires.pairs (number c.args.c.now.prime) (suc c.args.n) (number c.args.c.now.prime) c.args.c.now.terms c.args.c.now.terms r.terms (ap number c.requires.prime) refl refl (s1-none (space_of c.widened-pair.result.left.term.now) (space_of c.widened-pair.result.right.term.now) (option_copied c.args.f.now.values) (none-copied c.args.f.now.values (c.is_none.ensures ∙ ap not c.if-is_none.true)) (number c.args.f.now.p) (number c.args.c.now.prime) c.args.n c.args.c.now.terms c.terms.ensures.normal (suc c.args.n) refl) (ap number c.requires.prime) h)) c.apply.ensures.sum
