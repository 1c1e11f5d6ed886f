use Rattle.std.proofs.Common.{◌≡◌, ◌<◌, ◌-◌, ◌⊎◌, inl, inr, [], ◌++◌, All, refl, sym, ◌∙◌, ap, subst, arith}
use Rattle.std.proofs.lemmas.List.Elements.{All-same}
use Rattle.fp_field.specs.Field.{number}
use Rattle.fp_field.specs.Normal.{normal, apply}
use Rattle.fp_field.specs.Chains.{Each}
use Rattle.fp_field.specs.Series.{terms_of_series}
use Rattle.fp_field.specs.Reduction.{after}
use Rattle.chain_core.specs.Formal.{numbers}
use Rattle.reduct_laws.proofs.AskSteps.{asked_exit}
use Rattle.chain_core.specs.Asks.{NoneRefused, asks_along}
use Rattle.perturb.specs.PerturbedLists.{next_term, step_asks, series_may_ask}
use Rattle.perturb.proofs.SeriesSteps.{front_none, front_part, front_all, may_opened, terms_more, asks_left, summed_at_end, step_may, step_until, step_all}
use Rattle.perturb.proofs.series.series_along.Goals.{then-loop-left-test+else-not-is_empty, else-loop-left-test}
use Rattle.perturb.proofs.series.series_along.Goals as goal

pub loop-left-init : goal.loop-left-init
loop-left-init g c = record {
  prime = refl;
  elements = All-same (λ t. t.1.value < number c.args.start.prime) c.new-terms.result.items [] c.new-terms.ensures.items (λ k d l. absurd (omega (arith, l)));
  keys = c.requires.keys;
  sum = ap (λ l. numbers l ++ terms_of_series g.K.Ord.cmp (number c.args.start.prime) c.args.rank (after (g.B.ChainMap.image_of c.args.second.now) (g.A.ChainMap.image_of c.args.first.now)) c.args.start.terms) c.new-terms.ensures.items;
  asked = front_none g.S.Source.can_ask g.S.Source.runs g.S.Source.refusal g.S.Source.runs_both g.S.Source.runs_none _ _;
}

pub step-requires-clause-keys : goal.step-requires-clause-keys
step-requires-clause-keys g c =
    (may_opened g.K.Ord.cmp (number c.args.start.prime) (g.A.ChainMap.image_of c.args.first.now) (g.B.ChainMap.image_of c.args.second.now)
    g.S.Source.refusal (g.A.ChainMap.asks c.args.first.now) (g.B.ChainMap.asks c.args.second.now) (g.A.ChainMap.may_be_asked c.args.first.now) (g.B.ChainMap.may_be_asked c.args.second.now) c.loop-left.left c.loop-left.term.terms c.loop-left-test.true c.loop-left.invariant.keys).0

pub step-requires-clause-images : goal.step-requires-clause-images
step-requires-clause-images g c =
    subst (λ r. NoneRefused g.S.Source.refusal (asks_along (g.A.ChainMap.asks c.args.first.now) c.loop-left.term.terms)
    → Each (g.B.ChainMap.may_be_asked c.args.second.now) (apply g.K.Ord.cmp (number r) (g.A.ChainMap.image_of c.args.first.now) c.loop-left.term.terms)) (sym c.loop-left.invariant.prime)
    (may_opened g.K.Ord.cmp (number c.args.start.prime) (g.A.ChainMap.image_of c.args.first.now) (g.B.ChainMap.image_of c.args.second.now)
    g.S.Source.refusal (g.A.ChainMap.asks c.args.first.now) (g.B.ChainMap.asks c.args.second.now) (g.A.ChainMap.may_be_asked c.args.first.now) (g.B.ChainMap.may_be_asked c.args.second.now) c.loop-left.left c.loop-left.term.terms c.loop-left-test.true c.loop-left.invariant.keys).1.0

pub step-requires-clause-source : goal.step-requires-clause-source
step-requires-clause-source g c =
    step_may g.S.Source.can_ask g.S.Source.runs g.S.Source.refusal g.S.Source.runs_both g.K.Ord.cmp (g.A.ChainMap.image_of c.args.first.now) (g.B.ChainMap.image_of c.args.second.now)
    (g.A.ChainMap.asks c.args.first.now) (g.B.ChainMap.asks c.args.second.now) c.args.start.prime _ _ _ c.loop-left.term.prime c.loop-left.left c.loop-left.term.terms
    c.loop-left.invariant.prime c.loop-left-test.true c.requires.source c.loop-left.invariant.asked

pub returns-in_err-next-clause-source : goal.returns-in_err-next-clause-source
returns-in_err-next-clause-source g c =
    asked_exit g.S.Source.can_ask g.S.Source.runs g.S.Source.refusal g.S.Source.runs_both g.A.Stop.Stops.refused _ _ _ c.from_residual.result c.from_residual.ensures.1 (λ e is.
    rw is
    (step_until g.S.Source.can_ask g.S.Source.runs g.S.Source.refusal g.S.Source.runs_both g.K.Ord.cmp (g.A.ChainMap.image_of c.args.first.now) (g.B.ChainMap.image_of c.args.second.now)
    (g.A.ChainMap.asks c.args.first.now) (g.B.ChainMap.asks c.args.second.now) c.args.start.prime _ _ _ _ c.loop-left.term.prime c.loop-left.left c.loop-left.term.terms
    (g.A.Stop.Stops.refused c.in_err-next.field-0.0) c.loop-left.invariant.prime c.loop-left-test.true c.loop-left.invariant.asked c.in_err-next.ensures.source))

pub collect-requires : goal.collect-requires
collect-requires g c = record {
  elements = subst (λ r. All (λ t. t.1.value < number r) c.loop-left.terms.items) (sym c.loop-left.invariant.prime) c.loop-left.invariant.elements;
}

pub returns-in_err-collect-clause-source : goal.returns-in_err-collect-clause-source
returns-in_err-collect-clause-source g c =
    asked_exit g.S.Source.can_ask g.S.Source.runs g.S.Source.refusal g.S.Source.runs_both g.A.Stop.Stops.refused _ _ _ c.from_residual-in_err-collect.result c.from_residual-in_err-collect.ensures.1 (λ e is.
    rw (g.met.A.Stop.Stops.memory _ _ is)
    (front_part g.S.Source.can_ask g.S.Source.runs g.S.Source.refusal g.S.Source.runs_both _ _ _ _
    (step_all g.S.Source.can_ask g.S.Source.runs g.S.Source.refusal g.S.Source.runs_both g.K.Ord.cmp (g.A.ChainMap.image_of c.args.first.now) (g.B.ChainMap.image_of c.args.second.now)
    (g.A.ChainMap.asks c.args.first.now) (g.B.ChainMap.asks c.args.second.now) c.args.start.prime _ _ _ _ c.loop-left.term.prime c.loop-left.left c.loop-left.term.terms
    c.in_ok-next.next.terms c.loop-left.invariant.prime c.loop-left-test.true c.loop-left.invariant.asked c.in_ok-next.ensures.source c.in_ok-next.ensures.value)))

pub loop-left-preserved : goal.loop-left-preserved
loop-left-preserved g c = record {
  prime = c.in_ok-next.ensures.prime ∙ c.loop-left.invariant.prime;
  elements = subst (λ r. All (λ t. t.1.value < number r) c.collect.new.terms.items) c.loop-left.invariant.prime c.in_ok-collect.ensures.elements;
  keys =
      subst (λ d. series_may_ask g.K.Ord.cmp (number c.args.start.prime) (g.A.ChainMap.image_of c.args.first.now) (g.B.ChainMap.image_of c.args.second.now)
      g.S.Source.refusal (g.A.ChainMap.asks c.args.first.now) (g.B.ChainMap.asks c.args.second.now) (g.A.ChainMap.may_be_asked c.args.first.now) (g.B.ChainMap.may_be_asked c.args.second.now) (c.loop-left.left - 1) d)
      (sym (c.in_ok-next.ensures.value ∙ ap (λ r. next_term g.K.Ord.cmp (number r) (g.A.ChainMap.image_of c.args.first.now) (g.B.ChainMap.image_of c.args.second.now) c.loop-left.term.terms) c.loop-left.invariant.prime))
      ((may_opened g.K.Ord.cmp (number c.args.start.prime) (g.A.ChainMap.image_of c.args.first.now) (g.B.ChainMap.image_of c.args.second.now)
      g.S.Source.refusal (g.A.ChainMap.asks c.args.first.now) (g.B.ChainMap.asks c.args.second.now) (g.A.ChainMap.may_be_asked c.args.first.now) (g.B.ChainMap.may_be_asked c.args.second.now) c.loop-left.left c.loop-left.term.terms c.loop-left-test.true c.loop-left.invariant.keys).1.1
      (subst (λ r. NoneRefused g.S.Source.refusal (step_asks g.K.Ord.cmp (number r) (g.A.ChainMap.image_of c.args.first.now) (g.B.ChainMap.image_of c.args.second.now) (g.A.ChainMap.asks c.args.first.now) (g.B.ChainMap.asks c.args.second.now) c.loop-left.term.terms))
      c.loop-left.invariant.prime c.in_ok-next.ensures.source.granted));
  sum =
      terms_more g.K.Ord.cmp (number c.args.start.prime) (g.A.ChainMap.image_of c.args.first.now) (g.B.ChainMap.image_of c.args.second.now)
      (numbers c.loop-left.terms.items) (numbers c.collect.new.terms.items) c.loop-left.term.terms c.in_ok-next.next.terms _ c.loop-left.left c.loop-left-test.true c.in_ok-collect.ensures.sum
      (c.in_ok-next.ensures.value ∙ ap (λ r. next_term g.K.Ord.cmp (number r) (g.A.ChainMap.image_of c.args.first.now) (g.B.ChainMap.image_of c.args.second.now) c.loop-left.term.terms) c.loop-left.invariant.prime)
      c.loop-left.invariant.sum;
  asked =
      step_all g.S.Source.can_ask g.S.Source.runs g.S.Source.refusal g.S.Source.runs_both g.K.Ord.cmp (g.A.ChainMap.image_of c.args.first.now) (g.B.ChainMap.image_of c.args.second.now)
      (g.A.ChainMap.asks c.args.first.now) (g.B.ChainMap.asks c.args.second.now) c.args.start.prime _ _ _ _ c.loop-left.term.prime c.loop-left.left c.loop-left.term.terms
      c.in_ok-next.next.terms c.loop-left.invariant.prime c.loop-left-test.true c.loop-left.invariant.asked c.in_ok-next.ensures.source c.in_ok-next.ensures.value;
}

pub returns-in_err-from_terms-clause-source : goal.returns-in_err-from_terms-clause-source
returns-in_err-from_terms-clause-source g c =
    asked_exit g.S.Source.can_ask g.S.Source.runs g.S.Source.refusal g.S.Source.runs_both g.A.Stop.Stops.refused _ _ _ c.from_residual-in_err-from_terms.result c.from_residual-in_err-from_terms.ensures.1 (λ e is.
    rw (g.met.A.Stop.Stops.memory _ _ is)
    (front_part g.S.Source.can_ask g.S.Source.runs g.S.Source.refusal g.S.Source.runs_both _ _ _ _ c.loop-left.invariant.asked))

pub returns-clause-sum : goal.returns-clause-sum
returns-clause-sum g c =
    let o : (c.loop-left.left ≡ 0) ⊎ (c.loop-left.term.terms ≡ []) = elim c.loop-left-test.branch as (λ v. (c.loop-left.left ≡ 0) ⊎ (c.loop-left.term.terms ≡ [])) [ then-loop-left-test+else-not-is_empty w ↦ inr (w.if-not-is_empty.ensures.0 refl) | else-loop-left-test w ↦ inl (omega (arith, w.loop-left-test.false)) ] in
    summed_at_end g.K.Ord.cmp (number c.args.start.prime) (g.A.ChainMap.image_of c.args.first.now) (g.B.ChainMap.image_of c.args.second.now) c.in_ok-from_terms.field-0.terms
    (numbers c.loop-left.terms.items) c.loop-left.term.terms _ c.loop-left.left o (c.in_ok-from_terms.ensures.sum ∙ ap (λ r. normal g.K.Ord.cmp (number r) (numbers c.loop-left.terms.items)) c.prime-p.ensures) c.loop-left.invariant.sum

pub returns-clause-source : goal.returns-clause-source
returns-clause-source g c =
    let o : (c.loop-left.left ≡ 0) ⊎ (c.loop-left.term.terms ≡ []) = elim c.loop-left-test.branch as (λ v. (c.loop-left.left ≡ 0) ⊎ (c.loop-left.term.terms ≡ [])) [ then-loop-left-test+else-not-is_empty w ↦ inr (w.if-not-is_empty.ensures.0 refl) | else-loop-left-test w ↦ inl (omega (arith, w.loop-left-test.false)) ] in
    front_all g.S.Source.can_ask g.S.Source.runs g.S.Source.refusal g.S.Source.runs_both _ _ _ _
    (asks_left g.K.Ord.cmp (number c.args.start.prime) (g.A.ChainMap.image_of c.args.first.now) (g.B.ChainMap.image_of c.args.second.now)
    (g.A.ChainMap.asks c.args.first.now) (g.B.ChainMap.asks c.args.second.now) c.loop-left.left c.loop-left.term.terms o) c.loop-left.invariant.asked
