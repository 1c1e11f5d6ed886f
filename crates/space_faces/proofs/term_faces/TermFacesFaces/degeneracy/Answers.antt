use Rattle.std.proofs.Common.{◌≤◌, arith}
use Rattle.cells.specs.Dim.{degree_of}
use Rattle.term_lang.specs.SpaceOf.{space_of}
use Rattle.space_faces.proofs.Degeneracies.{made, room}
use Rattle.space_faces.proofs.term_faces.TermFacesFaces.degeneracy.Goals as goal

pub degenerate-requires-clause-room : goal.degenerate-requires-clause-room
degenerate-requires-clause-room c =
    room (space_of c.args.self.now.term.now) (degree_of c.args.x.now) c.args.x.now c.requires.simplex (let h : degree_of c.args.x.now ≤ 30 = c.requires.within in omega (arith, h))

pub returns-clause-form : goal.returns-clause-form
returns-clause-form c =
    let X = space_of c.args.self.now.term.now in
    (made X c.args.self.now.allowed.0 c.args.self.now.allowed.1 (degree_of c.args.x.now) c.args.i c.args.x.now
    (record { degens = c.degenerate.result; cell = c.in_ok-cell.cell }) c.requires.simplex (let h : degree_of c.args.x.now ≤ 30 = c.requires.within in omega (arith, h))
    c.requires.index c.in_ok-cell.ensures c.degenerate.ensures).plain_is

pub returns-clause-simplex : goal.returns-clause-simplex
returns-clause-simplex c =
    let X = space_of c.args.self.now.term.now in
    (made X c.args.self.now.allowed.0 c.args.self.now.allowed.1 (degree_of c.args.x.now) c.args.i c.args.x.now
    (record { degens = c.degenerate.result; cell = c.in_ok-cell.cell }) c.requires.simplex (let h : degree_of c.args.x.now ≤ 30 = c.requires.within in omega (arith, h))
    c.requires.index c.in_ok-cell.ensures c.degenerate.ensures).simplex
