use Rattle.spaces.proofs.SpaceVertices.{space_vertices, one_vertex}
use Rattle.spaces.proofs.SpaceLows.{space_low, no_edge}
use Rattle.spaces.proofs.counts.count_laws.Goals as goal

pub returns-clause-vertices : goal.returns-clause-vertices
returns-clause-vertices c = space_vertices

pub returns-clause-low : goal.returns-clause-low
returns-clause-low c = space_low

pub returns-clause-one_vertex : goal.returns-clause-one_vertex
returns-clause-one_vertex c = one_vertex

pub returns-clause-no_edge : goal.returns-clause-no_edge
returns-clause-no_edge c = no_edge
