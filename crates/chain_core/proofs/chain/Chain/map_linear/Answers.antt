use Rattle.std.proofs.Common.{◌≡◌, ◌+◌, ◌*◌, ◌<◌, All, suc, take, drop, add-one, sym, ◌∙◌, ap, subst}
use Rattle.fp_field.specs.Field.{number, SameMod}
use Rattle.fp_field.specs.Chains.{weigh, extend}
use Rattle.fp_field.specs.Normal.{normal}
use Rattle.chain_core.specs.Formal.{numbers}
use Rattle.chain_core.specs.Asks.{MayAsk, AskedAll, asks_along}
use Rattle.chain_core.proofs.AskLemmas.{MayAsk-rest, MayAsk-first, AskedAll-both, until_after, until_first, part_of_all, part_of_whole}
use Rattle.chain_core.proofs.MapSteps.{at_place, places, whole, Each-at, round, round_with, so_far, image_pushed, images_summed}
use Rattle.chain_core.proofs.chain.Chain.map_linear.Goals as goal

pub image-requires-clause-key : goal.image-requires-clause-key
image-requires-clause-key g c =
    Each-at (g.M.LinearMap.may_be_asked c.args.map.now) c.args.self.now.terms c.loop-k.k-index (c.loop-k-item.result.0, c.loop-k-item.result.1.value)
    (rw c.terms-k-items.ensures.terms at (at_place c.terms-k-items.result.now c.loop-k.k-index c.loop-k-item.result c.loop-k-test.true c.loop-k-item.is)) c.requires.keys

pub image-requires-clause-source : goal.image-requires-clause-source
image-requires-clause-source g c =
    let here = rw c.terms-k-items.ensures.terms at (at_place c.terms-k-items.result.now c.loop-k.k-index c.loop-k-item.result c.loop-k-test.true c.loop-k-item.is) in
    MayAsk-first g.S.Source.can_ask g.S.Source.runs g.S.Source.refusal g.S.Source.runs_both _ _ _
    (MayAsk-rest g.S.Source.can_ask g.S.Source.runs g.S.Source.refusal g.S.Source.runs_both _ _ _ _
    (subst (MayAsk g.S.Source.can_ask g.S.Source.runs c.args.source.now)
    (round (g.M.LinearMap.asks c.args.map.now) c.args.self.now.terms c.loop-k.k-index (c.loop-k-item.result.0, c.loop-k-item.result.1.value) here) c.requires.source)
    c.loop-k.invariant.asked.ran)

pub returns-in-Err-clause-source : goal.returns-in-Err-clause-source
returns-in-Err-clause-source g c =
    let here = rw c.terms-k-items.ensures.terms at (at_place c.terms-k-items.result.now c.loop-k.k-index c.loop-k-item.result c.loop-k-test.true c.loop-k-item.is) in
    rw (round (g.M.LinearMap.asks c.args.map.now) c.args.self.now.terms c.loop-k.k-index (c.loop-k-item.result.0, c.loop-k-item.result.1.value) here)
    (until_after g.S.Source.can_ask g.S.Source.runs g.S.Source.refusal g.S.Source.runs_both _ _ _ _ _ (g.M.Stop.Stops.refused c.in-Err.stop)
    c.loop-k.invariant.asked
    (until_first g.S.Source.can_ask g.S.Source.runs g.S.Source.refusal g.S.Source.runs_both _ _ _ _ (g.M.Stop.Stops.refused c.in-Err.stop) c.in-Err.ensures.source))

pub returns-in-Err-clause-stop : goal.returns-in-Err-clause-stop
returns-in-Err-clause-stop g c =
    let here = rw c.terms-k-items.ensures.terms at (at_place c.terms-k-items.result.now c.loop-k.k-index c.loop-k-item.result c.loop-k-test.true c.loop-k-item.is) in
    record {
      before = take c.loop-k.k-index c.args.self.now.terms;
      key = (c.loop-k-item.result.0, c.loop-k-item.result.1.value);
      after = drop (suc c.loop-k.k-index) c.args.self.now.terms;
      state = c.loop-k.source;
      order = sym (places c.args.self.now.terms c.loop-k.k-index (c.loop-k-item.result.0, c.loop-k-item.result.1.value) here).0;
      mapped = c.loop-k.invariant.asked;
      stopped = c.in-Err.ensures.source;
    }

pub push_scaled-requires-clause-element : goal.push_scaled-requires-clause-element
push_scaled-requires-clause-element g c =
    subst (λ q. c.loop-k-item.result.1.value < number q) (sym (c.in-Ok.ensures.prime ∙ c.requires.prime))
    (rw c.loop-k-item.is (c.terms-k-items.ensures.elements c.loop-k.k-index _ c.loop-k-test.true))

pub returns-in-Err-push_scaled-clause-source : goal.returns-in-Err-push_scaled-clause-source
returns-in-Err-push_scaled-clause-source g c =
    let here = rw c.terms-k-items.ensures.terms at (at_place c.terms-k-items.result.now c.loop-k.k-index c.loop-k-item.result c.loop-k-test.true c.loop-k-item.is) in
    rw (round_with (g.M.LinearMap.asks c.args.map.now) c.args.self.now.terms c.loop-k.k-index (c.loop-k-item.result.0, c.loop-k-item.result.1.value) here)
    (part_of_all g.S.Source.can_ask g.S.Source.runs g.S.Source.refusal g.S.Source.runs_both _ _ _ _
    (AskedAll-both g.S.Source.can_ask g.S.Source.runs g.S.Source.refusal g.S.Source.runs_both _ _ _ _ _ c.loop-k.invariant.asked c.in-Ok.ensures.source))

pub loop-k-preserved : goal.loop-k-preserved
loop-k-preserved g c =
    let here = rw c.terms-k-items.ensures.terms at (at_place c.terms-k-items.result.now c.loop-k.k-index c.loop-k-item.result c.loop-k-test.true c.loop-k-item.is) in
    let f = g.M.LinearMap.image_of c.args.map.now in
    let same = c.in-Ok.ensures.prime ∙ c.requires.prime in
    record {
      elements = subst (λ q. All (λ t. t.1.value < number q) c.push_scaled.new.terms.items) same c.in-Ok-push_scaled.ensures.elements;
      sum = λ w. rw add-one
          (image_pushed g.J.Ord.cmp g.met.J.Ord.total g.met.M.LinearMap.one_key c.args.self.now.prime f c.args.self.now.terms c.loop-k.k-index (c.loop-k-item.result.0, c.loop-k-item.result.1.value)
          (numbers c.loop-k.terms.items) (numbers c.push_scaled.new.terms.items) c.in-Ok.image.terms here
          (c.in-Ok.ensures.image ∙ ap (λ q. normal g.J.Ord.cmp (number q) (f c.loop-k-item.result.0)) c.requires.prime)
          c.loop-k.invariant.sum
          (λ v. subst (λ q. SameMod (number q) (weigh v (numbers c.push_scaled.new.terms.items)) (weigh v (numbers c.loop-k.terms.items) + c.loop-k-item.result.1.value * weigh v c.in-Ok.image.terms)) same
          (c.in-Ok-push_scaled.ensures.sum v))
          w);
      asked =
          rw (add-one, so_far (g.M.LinearMap.asks c.args.map.now) c.args.self.now.terms c.loop-k.k-index (c.loop-k-item.result.0, c.loop-k-item.result.1.value) here)
          (AskedAll-both g.S.Source.can_ask g.S.Source.runs g.S.Source.refusal g.S.Source.runs_both _ _ _ _ _ c.loop-k.invariant.asked c.in-Ok.ensures.source);
    }

pub returns-in-Ok-from_terms-clause-sum : goal.returns-in-Ok-from_terms-clause-sum
returns-in-Ok-from_terms-clause-sum g c =
    let all = subst (λ d. take c.loop-k.k-index d ≡ d) c.terms-k-items.ensures.terms (whole c.terms-k-items.result.now c.loop-k.k-index c.loop-k-test.false) in
    let f = g.M.LinearMap.image_of c.args.map.now in
    c.in-Ok-from_terms.ensures.sum
    ∙ ap (λ q. normal g.J.Ord.cmp (number q) (numbers c.loop-k.terms.items)) c.prime.ensures
    ∙ images_summed g.J.Ord.cmp g.met.J.Ord.total g.met.M.LinearMap.one_key c.args.self.now.prime f c.args.self.now.terms (numbers c.loop-k.terms.items) (λ w.
    subst (λ d. SameMod (number c.args.self.now.prime) (weigh w (numbers c.loop-k.terms.items)) (weigh w (extend f d))) all (c.loop-k.invariant.sum w))

pub returns-in-Err-from_terms-clause-source : goal.returns-in-Err-from_terms-clause-source
returns-in-Err-from_terms-clause-source g c =
    let all = subst (λ d. take c.loop-k.k-index d ≡ d) c.terms-k-items.ensures.terms (whole c.terms-k-items.result.now c.loop-k.k-index c.loop-k-test.false) in
    part_of_whole g.S.Source.can_ask g.S.Source.runs g.S.Source.refusal g.S.Source.runs_both _ _ _
    (subst (λ d. AskedAll g.S.Source.runs g.S.Source.refusal c.args.source.now (asks_along (g.M.LinearMap.asks c.args.map.now) d) c.loop-k.source) all c.loop-k.invariant.asked)
