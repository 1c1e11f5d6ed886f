use Rattle.std.proofs.Common.{◌≡◌, ◌<◌, ◌∷◌, Some, refl, ◌∙◌}
use Rattle.std.proofs.lemmas.List.Elements.{All-pop}
use Rattle.fp_field.specs.Field.{number}
use Rattle.fp_field.specs.Normal.{normal}
use Rattle.chain_core.specs.Formal.{numbers}
use Rattle.chain_core.proofs.ChainLemmas.{all_added, added_next, normal_again}
use Rattle.chain_core.proofs.chain.add_all.Goals as goal

pub loop-k-init : goal.loop-k-init
loop-k-init g c = record {
  prime = refl;
  elements = c.requires.elements;
  reduced = c.requires.normal;
  total = all_added g.K.Ord.cmp g.met.K.Ord.total c.args.chain.prime (numbers c.args.terms.items) c.args.chain.terms c.requires.normal;
}

pub add_term-requires : goal.add_term-requires
add_term-requires g c =
    rw c.loop-k.invariant.prime
    (All-pop (λ t. t.1.value < number c.args.chain.prime) c.loop-k.terms.items c.pop.new.self.items (Some (c.in-Some.k, c.in-Some.c)) c.in-Some.ensures.items c.loop-k.invariant.elements).1

pub loop-k-preserved : goal.loop-k-preserved
loop-k-preserved g c =
    let added : c.add_term.new.self.terms ≡ normal g.K.Ord.cmp (number c.args.chain.prime) ((c.in-Some.k, c.in-Some.c.value) ∷ c.loop-k.sum.terms) =
    c.in_ok-add_term.ensures.sum ∙ (λ i. normal g.K.Ord.cmp (number (c.loop-k.invariant.prime i)) ((c.in-Some.k, c.in-Some.c.value) ∷ c.loop-k.sum.terms)) in
    record {
      prime = c.add_term.ensures.prime ∙ c.loop-k.invariant.prime;
      elements = (All-pop (λ t. t.1.value < number c.args.chain.prime) c.loop-k.terms.items c.pop.new.self.items (Some (c.in-Some.k, c.in-Some.c)) c.in-Some.ensures.items c.loop-k.invariant.elements).0;
      reduced = normal_again g.K.Ord.cmp g.met.K.Ord.total c.args.chain.prime c.add_term.new.self.terms ((c.in-Some.k, c.in-Some.c.value) ∷ c.loop-k.sum.terms) added;
      total =
          added_next g.K.Ord.cmp g.met.K.Ord.total c.args.chain.prime c.loop-k.terms.items c.pop.new.self.items (c.in-Some.k, c.in-Some.c) c.loop-k.sum.terms c.add_term.new.self.terms _
          c.in-Some.ensures.items c.loop-k.invariant.reduced added c.loop-k.invariant.total;
    }
