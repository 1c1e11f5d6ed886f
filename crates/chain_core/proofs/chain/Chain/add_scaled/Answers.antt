use Rattle.std.proofs.Common.{◌≡◌, ◌++◌, is_ok, sym, subst, rules}
use Rattle.fp_field.specs.Field.{number}
use Rattle.fp_field.specs.Chains.{scale}
use Rattle.fp_field.specs.Normal.{normal}
use Rattle.chain_core.specs.Formal.{numbers}
use Rattle.chain_core.proofs.ChainLemmas.{appended, scaled_by_zero, nothing_scaled}
use Rattle.chain_core.proofs.chain.Chain.add_scaled.Goals.{then-c-eq0-via-then-c-eq0, then-c-eq0-via-else-c-eq0+then-is_empty}
use Rattle.chain_core.proofs.chain.Chain.add_scaled.Goals as goal

pub returns-then-c-eq0-clause-sum : goal.returns-then-c-eq0-clause-sum
returns-then-c-eq0-clause-sum g c =
    subst (λ v. v.terms ≡ normal g.K.Ord.cmp (number v.prime) (scale c.args.c.value c.args.other.now.terms ++ v.terms)) c.self.view_is
    (elim c.then-c-eq0.branch [
      | then-c-eq0-via-then-c-eq0 w ↦ sym (scaled_by_zero g.K.Ord.cmp g.met.K.Ord.total c.self.inside.prime c.args.c.value c.args.other.now.terms (numbers c.self.inside.terms.items) w.if-c-eq0.true c.self.invariant)
      | then-c-eq0-via-else-c-eq0+then-is_empty w ↦ sym (nothing_scaled g.K.Ord.cmp g.met.K.Ord.total c.self.inside.prime c.args.c.value c.args.other.now.terms (numbers c.self.inside.terms.items) (search rules) c.self.invariant)
    ])

pub invariant_of-self-2 : goal.invariant_of-self-2
invariant_of-self-2 g c =
    appended g.K.Ord.cmp g.met.K.Ord.total c.self.inside.prime (is_ok c.append.result) c.append.new.self.items c.merge_ends.new.terms.items c.in_ok-ends.ends.items
    (scale c.args.c.value (numbers c.deref.result.now) ++ numbers c.self.inside.terms.items)
    c.append.ensures.items c.in_ok-ends.ensures.sum c.merge_ends.ensures.normal
