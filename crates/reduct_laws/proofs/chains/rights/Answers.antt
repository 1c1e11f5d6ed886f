use Rattle.std.proofs.Common.{◌<◌, Some, refl, ◌∙◌, ap, arith}
use Rattle.std.proofs.lemmas.Result.{IfOk-weaker}
use Rattle.std.proofs.lemmas.List.Elements.{All-pop, All-push, All-same}
use Rattle.fp_field.specs.Field.{number}
use Rattle.fp_field.specs.Chains.{weigh}
use Rattle.reduct_laws.specs.declared.sides.Side.TheVariants.{Right}
use Rattle.reduct_laws.specs.Sides.{relabel}
use Rattle.reduct_laws.proofs.SideOrder.{sides_total}
use Rattle.reduct_laws.proofs.RelabelSteps.{moved, relabelled}
use Rattle.reduct_laws.proofs.chains.rights.Goals as goal

pub loop-key-preserved : goal.loop-key-preserved
loop-key-preserved g c = record {
  left = (All-pop (λ t. t.1.value < number c.prime-p.result) c.loop-key.left.items c.pop.new.self.items (Some (c.in-Some.key, c.in-Some.number)) c.in-Some.ensures.items c.loop-key.invariant.left).0;
  pushed = All-same (λ t. t.1.value < number c.prime-p.result) _ _ c.in_ok-push.ensures.items
      (All-push (λ t. t.1.value < number c.prime-p.result) c.loop-key.terms.items (Right c.in-Some.key, c.in-Some.number) c.loop-key.invariant.pushed
      (All-pop (λ t. t.1.value < number c.prime-p.result) c.loop-key.left.items c.pop.new.self.items (Some (c.in-Some.key, c.in-Some.number)) c.in-Some.ensures.items c.loop-key.invariant.left).1);
  sum = λ w.
      moved Right w c.loop-key.terms.items c.push.new.self.items c.loop-key.left.items c.pop.new.self.items c.in-Some.key c.in-Some.number _
      c.in-Some.ensures.items c.in_ok-push.ensures.items (c.loop-key.invariant.sum w);
}

pub returns-clause-terms : goal.returns-clause-terms
returns-clause-terms g c = IfOk-weaker c.from_terms.result _ _ (λ s e.
    relabelled Right _ c.requires.one_key
    (sides_total _ g.X.Ord.cmp g.Y.Ord.cmp (λ x y. refl) (λ x y. refl) (λ x y. refl) (λ x y. refl) g.met.X.Ord.total g.met.Y.Ord.total)
    c.args.chain.prime s.terms c.loop-key.terms.items c.loop-key.left.items c.args.chain.terms c.prime-p.result e c.prime-p.ensures
    (omega (arith, c.loop-key.left.ok.0, c.in_default.ensures.cases.0))
    (λ w. c.loop-key.invariant.sum w ∙ ap (λ d. weigh w (relabel Right d)) c.into_terms-left.ensures.terms)) c.from_terms.ensures.sum
