use Rattle.spaces.specs.Counts.{vertex_count}
use Rattle.spaces.proofs.SpaceVertices.{space_vertices}
use Rattle.term_lang.specs.SpaceOf.{space_of}
use Rattle.term_lang.proofs.measures.vertices.Goals as goal

pub returns-clause-vertices : goal.returns-clause-vertices
returns-clause-vertices c = let a = space_of c.args.t.now in (vertex_count a, space_vertices a c.requires.0, c.count_vertices.ensures)
