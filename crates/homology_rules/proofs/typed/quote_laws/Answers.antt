use Rattle.std.proofs.lemmas.List.Elements.{recursion_from_All}
use Rattle.fp_field.specs.Chains.{Each}
use Rattle.homology_rules.specs.Shown.{IsSmallShown}
use Rattle.homology_rules.proofs.QuotedVectors.{coordinates-quoted, cycle-quoted, vectors-quoted, terms-quoted}
use Rattle.homology_rules.proofs.typed.quote_laws.Goals as goal

pub returns : goal.returns
returns c = record {
  coordinates = λ a p ys d u h. coordinates-quoted a p ys d (recursion_from_All (IsSmallShown a) ys u) h;
  cycle = λ a p ds v h. cycle-quoted a p ds v (recursion_from_All (Each (IsSmallShown a)) ds h);
  vectors = λ a p ys ds es u h l.
      vectors-quoted a p ys ds es (recursion_from_All (IsSmallShown a) ys u) (recursion_from_All (Each (IsSmallShown a)) ds h)
      (recursion_from_All (Each (IsSmallShown a)) es l);
  terms = terms-quoted;
}
