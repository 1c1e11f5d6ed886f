use Rattle.perturb.proofs.SeriesValues.{may_same, asked_same}
use Rattle.fibred_maps.proofs.SmallOnNames.{g-value-is, g-keys-are}
use Rattle.fibred_maps.proofs.NamesBack.{value-is}
use Rattle.fibred_maps.proofs.small.fibred_g.Goals as goal

pub twice_g-requires-clause-source : goal.twice_g-requires-clause-source
twice_g-requires-clause-source g c =
    may_same g.S.Source.can_ask g.S.Source.runs g.S.Source.refusal _ _ _ (g-keys-are g.D.Big.Ord.cmp (record { one_key = g.met.D.FirstMaps.one_big; total = g.met.D.Big.Ord.total }) g.D.Middle.Ord.cmp (record { one_key = g.met.D.FirstMaps.one_middle; total = g.met.D.Middle.Ord.total }) g.T.Small.Ord.cmp (record { one_key = g.met.T.Reduction.one_small; total = g.met.T.Small.Ord.total }) (g.X.FibredSpace.of c.args.space.now) (g.D.FirstMaps.maps c.args.first.now) (g.T.Reduction.maps c.args.parts.now) (g.T.Reduction.lists c.args.parts.now) c.requires.joined c.args.n c.requires.degree c.args.y.now c.requires.cell) c.requires.source

pub returns-clause-value : goal.returns-clause-value
returns-clause-value g c = value-is _ _ (g-value-is g.D.Big.Ord.cmp (record { one_key = g.met.D.FirstMaps.one_big; total = g.met.D.Big.Ord.total }) g.D.Middle.Ord.cmp (record { one_key = g.met.D.FirstMaps.one_middle; total = g.met.D.Middle.Ord.total }) g.T.Small.Ord.cmp (record { one_key = g.met.T.Reduction.one_small; total = g.met.T.Small.Ord.total }) (g.X.FibredSpace.of c.args.space.now) (g.D.FirstMaps.maps c.args.first.now) (g.T.Reduction.maps c.args.parts.now) (g.T.Reduction.lists c.args.parts.now) c.requires.joined c.args.n c.requires.degree c.args.y.now c.requires.cell) c.twice_g.result c.twice_g.ensures.value

pub returns-clause-source : goal.returns-clause-source
returns-clause-source g c =
    asked_same g.S.Source.can_ask g.S.Source.runs g.S.Source.refusal g.T.Stop.Stops.refused _ _ _ _ c.twice_g.result (g-keys-are g.D.Big.Ord.cmp (record { one_key = g.met.D.FirstMaps.one_big; total = g.met.D.Big.Ord.total }) g.D.Middle.Ord.cmp (record { one_key = g.met.D.FirstMaps.one_middle; total = g.met.D.Middle.Ord.total }) g.T.Small.Ord.cmp (record { one_key = g.met.T.Reduction.one_small; total = g.met.T.Small.Ord.total }) (g.X.FibredSpace.of c.args.space.now) (g.D.FirstMaps.maps c.args.first.now) (g.T.Reduction.maps c.args.parts.now) (g.T.Reduction.lists c.args.parts.now) c.requires.joined c.args.n c.requires.degree c.args.y.now c.requires.cell) c.twice_g.ensures.source
