use Rattle.perturb.proofs.SeriesValues.{may_same, asked_same}
use Rattle.fibred_maps.proofs.BigNamed.{f-value-is, f-keys-are}
use Rattle.fibred_maps.proofs.NamesBack.{value-is}
use Rattle.fibred_maps.proofs.big.fibred_f.Goals as goal

pub twice_f-requires-clause-source : goal.twice_f-requires-clause-source
twice_f-requires-clause-source g c =
    may_same g.S.Source.can_ask g.S.Source.runs g.S.Source.refusal _ _ _ (f-keys-are g.D.Big.Ord.cmp (record { one_key = g.met.D.FirstMaps.one_big; total = g.met.D.Big.Ord.total }) g.D.Middle.Ord.cmp (record { one_key = g.met.D.FirstMaps.one_middle; total = g.met.D.Middle.Ord.total }) g.T.Small.Ord.cmp (record { one_key = g.met.T.Reduction.one_small; total = g.met.T.Small.Ord.total }) (g.X.FibredSpace.of c.args.space.now) (g.D.FirstMaps.maps c.args.first.now) (g.T.Reduction.maps c.args.parts.now) (g.T.Reduction.lists c.args.parts.now) c.requires.joined c.args.n c.requires.degree c.args.c.now.terms c.requires.pairs) c.requires.source

pub returns-clause-value : goal.returns-clause-value
returns-clause-value g c = value-is _ _ (f-value-is g.D.Big.Ord.cmp (record { one_key = g.met.D.FirstMaps.one_big; total = g.met.D.Big.Ord.total }) g.D.Middle.Ord.cmp (record { one_key = g.met.D.FirstMaps.one_middle; total = g.met.D.Middle.Ord.total }) g.T.Small.Ord.cmp (record { one_key = g.met.T.Reduction.one_small; total = g.met.T.Small.Ord.total }) (g.X.FibredSpace.of c.args.space.now) (g.D.FirstMaps.maps c.args.first.now) (g.T.Reduction.maps c.args.parts.now) (g.T.Reduction.lists c.args.parts.now) c.requires.joined c.args.n c.requires.degree c.args.c.now.terms c.requires.pairs) c.twice_f.result c.twice_f.ensures.value

pub returns-clause-source : goal.returns-clause-source
returns-clause-source g c =
    asked_same g.S.Source.can_ask g.S.Source.runs g.S.Source.refusal g.T.Stop.Stops.refused _ _ _ _ c.twice_f.result (f-keys-are g.D.Big.Ord.cmp (record { one_key = g.met.D.FirstMaps.one_big; total = g.met.D.Big.Ord.total }) g.D.Middle.Ord.cmp (record { one_key = g.met.D.FirstMaps.one_middle; total = g.met.D.Middle.Ord.total }) g.T.Small.Ord.cmp (record { one_key = g.met.T.Reduction.one_small; total = g.met.T.Small.Ord.total }) (g.X.FibredSpace.of c.args.space.now) (g.D.FirstMaps.maps c.args.first.now) (g.T.Reduction.maps c.args.parts.now) (g.T.Reduction.lists c.args.parts.now) c.requires.joined c.args.n c.requires.degree c.args.c.now.terms c.requires.pairs) c.twice_f.ensures.source
