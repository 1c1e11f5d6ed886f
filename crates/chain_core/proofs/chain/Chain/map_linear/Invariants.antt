use Rattle.std.proofs.Common.{ℕ, ◌<◌, All, take}
use Rattle.fp_field.specs.Field.{number, SameMod}
use Rattle.fp_field.specs.Chains.{weigh, extend}
use Rattle.chain_core.specs.Formal.{numbers}
use Rattle.chain_core.specs.Asks.{AskedAll, asks_along}
use Rattle.chain_core.proofs.chain.Chain.map_linear.Given as goal

abbrev pub invariant-loop-k : goal.invariant-loop-k
invariant-loop-k g l = record {
  elements : All (λ t. t.1.value < number l.self.prime) l.terms.items;
  sum : (w : _ → ℕ) → SameMod (number l.self.prime) (weigh w (numbers l.terms.items)) (weigh w (extend (g.M.LinearMap.image_of l.map) (take l.k-index l.self.terms)));
  asked : AskedAll g.S.Source.runs g.S.Source.refusal l.initial.source (asks_along (g.M.LinearMap.asks l.map) (take l.k-index l.self.terms)) l.source;
}
