use Rattle.homology_rules.proofs.NeedsAsked.{asks-of}
use Rattle.homology_rules.proofs.CyclesRead.{cells-rising, keys-alike, may-cycles, all-read}
use Rattle.homology_rules.proofs.rules.rule.Goals as goal

pub cycles_by_asking-requires-clause-rising : goal.cycles_by_asking-requires-clause-rising
cycles_by_asking-requires-clause-rising g c = cells-rising c.args.key.now c.degree_at.result c.requires.valid c.requires.op c.degree_at.ensures

pub cycles_by_asking-requires-clause-forcer : goal.cycles_by_asking-requires-clause-forcer
cycles_by_asking-requires-clause-forcer g c =
    may-cycles c.args.key.now c.degree_at.result c.requires.valid c.requires.op c.degree_at.ensures c.requires.shown g.F.Forcer.may_force g.F.Forcer.forces c.args.forcer.now c.requires.forcer

pub returns-clause-outcome : goal.returns-clause-outcome
returns-clause-outcome g c =
    all-read c.args.key.now c.degree_at.result c.requires.valid c.requires.op c.degree_at.ensures c.requires.shown g.F.Forcer.forces c.args.forcer.now c.cycles_by_asking.new.forcer c.cycles_by_asking.result c.cycles_by_asking.ensures.outcome

pub returns-clause-asked : goal.returns-clause-asked
returns-clause-asked g c =
    asks-of g.F.Forcer.forces c.args.key.now c.args.forcer.now c.cycles_by_asking.new.forcer c.degree_at.result
    (keys-alike c.args.key.now c.degree_at.result c.requires.valid c.requires.op c.degree_at.ensures c.requires.shown) c.cycles_by_asking.result c.cycles_by_asking.ensures.asked c.cycles_by_asking.ensures.outcome
