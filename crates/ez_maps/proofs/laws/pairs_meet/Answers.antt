use Rattle.std.proofs.Common.{ℕ}
use Rattle.fp_field.specs.Field.{number}
use Rattle.fp_field.proofs.Primes.{number_pos}
use Rattle.spaces.specs.Orders.{ordered}
use Rattle.ez_flow.specs.Parts.{left_of, left_in}
use Rattle.ez_maps.proofs.PairReading as PR
use Rattle.ez_maps.proofs.laws.pairs_meet.Goals as goal

pub returns : goal.returns
returns g c =
    let x = c.args.whole.now.faces in
    let q : ℕ = number c.args.whole.now.p in
    let pos = number_pos c.args.whole.now.p in
    let L = left_of (g.X.FlowFaces.has_letters x) q (g.X.FlowFaces.left_space x) in
    let I = left_in (g.X.FlowFaces.has_letters x) (g.X.FlowFaces.left_space x) in
    let R = ordered (g.X.FlowFaces.right_space x) in
    PR.pairs-meet q (g.X.FlowFaces.bound x) pos (g.met.X.FlowFaces.short x) L I R
    (g.X.FlowFaces.is_left x) (g.X.FlowFaces.left_form x) (g.X.FlowFaces.left_simplex x) (g.X.FlowFaces.is_right x) (g.X.FlowFaces.right_form x) (g.X.FlowFaces.right_simplex x)
    (g.met.X.FlowFaces.left_forms x q) (g.met.X.FlowFaces.right_forms x) (g.met.X.FlowFaces.left_read x q) (g.met.X.FlowFaces.right_read x)
    (g.X.FlowFaces.left_degree_of x) (g.met.X.FlowFaces.graded x) (g.met.X.FlowFaces.right_graded x)
    (g.met.X.FlowFaces.left_identities x q pos) (g.met.X.FlowFaces.right_identities x)
