-- The space that a term names: the same tree of constructions, with tables in place of rows of the code. Names of rows are kept, so
-- that equal spaces come from equal terms (the constructions: May, Simplicial Objects in Algebraic Topology, chapters I, IV and VI).
--
--   Loop of Sphere(3) names `loops (sphere 3)`
use Rattle.spaces.specs.Spaces.{Space, table, sphere, product, suspension, kz1, bundle, loops, paths}
use Rattle.term_lang.specs.declared.terms.Term.{Term, fold-Term}
use Rattle.term_lang.specs.declared.terms.Term.TheOpen.{Term-F}
use Rattle.term_lang.specs.Rows.{rows_of}

-- from the spaces of the parts
abbrev pub space_step : Term-F Space → Space
space_step (Term-F.Table rows) = table (rows_of rows)
space_step (Term-F.Sphere m) = sphere m
space_step (Term-F.Product a b) = product a b
space_step (Term-F.Suspension a) = suspension a
space_step Term-F.KZ1 = kz1
space_step (Term-F.Bundle rows values) = bundle (rows_of rows) values
space_step (Term-F.Loop a) = loops a
space_step (Term-F.Path a) = paths a

unfoldable pub space_of : Term → Space
space_of t = fold-Term Space space_step t
