use Rattle.std.proofs.Common.{◌<◌}
use Rattle.fp_field.specs.Field.{number}
use Rattle.perturb.proofs.SeriesSteps.{pushed}
use Rattle.fibred_asks.proofs.series.collect.Goals as goal

pub returns-clause-elements : goal.returns-clause-elements
returns-clause-elements g c =
    pushed (λ t. t.1.value < number c.args.chain.prime) c.append.result c.append.new.self.items c.args.terms.now.items c.into_terms-more.result.items c.append.ensures.items c.requires.elements c.into_terms-more.ensures.elements
