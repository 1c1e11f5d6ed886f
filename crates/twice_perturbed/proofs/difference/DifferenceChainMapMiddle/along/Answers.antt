use Rattle.std.proofs.Common.{sym, ◌∙◌, ap}
use Rattle.fp_field.specs.Field.{number}
use Rattle.fp_field.specs.Normal.{apply}
use Rattle.reduct_laws.proofs.Rebased.{Each-so}
use Rattle.twice_perturbed.specs.Firsts.{difference}
use Rattle.twice_perturbed.proofs.FirstAlong.{difference-is}
use Rattle.twice_perturbed.proofs.NothingAsked.{nothing-asked, whole-at}
use Rattle.twice_perturbed.proofs.difference.DifferenceChainMapMiddle.along.Goals as goal

pub returns-then-is_empty-clause-sum : goal.returns-then-is_empty-clause-sum
returns-then-is_empty-clause-sum g c =
    c.new.ensures.zero ∙ sym (ap (apply g.D.Middle.Ord.cmp (number c.args.chain.now.prime) (difference g.D.Big.Ord.cmp g.D.Middle.Ord.cmp (g.D.FirstMaps.maps c.args.self.now.of.now.first.now) c.args.self.now.rank)) (c.is_empty.ensures.0 c.if-is_empty.true))

pub returns-then-is_empty-clause-source : goal.returns-then-is_empty-clause-source
returns-then-is_empty-clause-source g c = nothing-asked g.S.Source.runs g.S.Source.refusal g.S.Source.runs_none c.args.source.now c.args.chain.now.terms

pub difference-requires-clause-whole : goal.difference-requires-clause-whole
difference-requires-clause-whole g c = whole-at _ c.args.chain.now.terms (λ e. c.if-is_empty.ensures.1 e) c.requires.keys

pub difference-requires-clause-keys : goal.difference-requires-clause-keys
difference-requires-clause-keys g c = Each-so c.args.chain.now.terms (λ k x. x.1) c.requires.keys

pub returns-clause-sum : goal.returns-clause-sum
returns-clause-sum g c =
    c.in_ok-difference.ensures.value ∙ difference-is g.D.Big.Ord.cmp g.met.D.FirstMaps.one_big g.met.D.Big.Ord.total g.D.Middle.Ord.cmp g.met.D.FirstMaps.one_middle g.met.D.Middle.Ord.total (g.D.FirstMaps.maps c.args.self.now.of.now.first.now) c.args.self.now.rank c.args.chain.now.terms
    ∙ ap (λ v. apply g.D.Middle.Ord.cmp (number v) (difference g.D.Big.Ord.cmp g.D.Middle.Ord.cmp (g.D.FirstMaps.maps c.args.self.now.of.now.first.now) c.args.self.now.rank) c.args.chain.now.terms) c.requires.prime

pub returns-clause-source : goal.returns-clause-source
returns-clause-source g c = nothing-asked g.S.Source.runs g.S.Source.refusal g.S.Source.runs_none c.args.source.now c.args.chain.now.terms
