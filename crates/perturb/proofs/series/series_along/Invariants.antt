use Rattle.std.proofs.Common.{◌≡◌, ◌<◌, ◌++◌, All}
use Rattle.fp_field.specs.Field.{number}
use Rattle.fp_field.specs.Reduction.{after}
use Rattle.fp_field.specs.Series.{terms_of_series}
use Rattle.chain_core.specs.Formal.{numbers}
use Rattle.perturb.specs.PerturbedLists.{series_asks, series_may_ask}
use Rattle.perturb.proofs.SeriesSteps.{Front}
use Rattle.perturb.proofs.series.series_along.Given as goal

abbrev pub invariant-loop-left : goal.invariant-loop-left
invariant-loop-left g l = record {
  prime : l.term.prime ≡ l.fn.start.prime;
  elements : All (λ t. t.1.value < number l.fn.start.prime) l.terms.items;
  keys : series_may_ask g.K.Ord.cmp (number l.fn.start.prime) (g.A.ChainMap.image_of l.first) (g.B.ChainMap.image_of l.second) g.S.Source.refusal (g.A.ChainMap.asks l.first) (g.B.ChainMap.asks l.second) (g.A.ChainMap.may_be_asked l.first)
      (g.B.ChainMap.may_be_asked l.second) l.left l.term.terms;
  sum : numbers l.terms.items ++ terms_of_series g.K.Ord.cmp (number l.fn.start.prime) l.left (after (g.B.ChainMap.image_of l.second) (g.A.ChainMap.image_of l.first)) l.term.terms
      ≡ terms_of_series g.K.Ord.cmp (number l.fn.start.prime) l.rank (after (g.B.ChainMap.image_of l.second) (g.A.ChainMap.image_of l.first)) l.fn.start.terms;
  asked : Front g.S.Source.can_ask g.S.Source.runs g.S.Source.refusal g.S.Source.runs_both l.initial.source
      (series_asks g.K.Ord.cmp (number l.fn.start.prime) (g.A.ChainMap.image_of l.first) (g.B.ChainMap.image_of l.second) (g.A.ChainMap.asks l.first) (g.B.ChainMap.asks l.second) l.rank l.fn.start.terms)
      (series_asks g.K.Ord.cmp (number l.fn.start.prime) (g.A.ChainMap.image_of l.first) (g.B.ChainMap.image_of l.second) (g.A.ChainMap.asks l.first) (g.B.ChainMap.asks l.second) l.left l.term.terms)
      l.source;
}

abbrev pub decreases-loop-left : goal.decreases-loop-left
decreases-loop-left g l = l.left
