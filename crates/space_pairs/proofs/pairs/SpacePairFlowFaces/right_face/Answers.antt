use Rattle.std.proofs.Common.{◌≡◌, ℕ, suc, ◌-◌, arith}
use Rattle.spaces.specs.Spaces.{set_of}
use Rattle.cells.specs.Dim.{degree_of}
use Rattle.term_lang.specs.Belongs.{IsSimplex}
use Rattle.term_lang.specs.Forms.{form}
use Rattle.term_lang.specs.SpaceOf.{space_of}
use Rattle.space_pairs.specs.Parts.{IsReached}
use Rattle.space_pairs.proofs.OneFace.{if_both, face-simplex, face-degree, face-within, face-reached}
use Rattle.space_pairs.proofs.pairs.SpacePairFlowFaces.right_face.Goals as goal

pub face-requires-clause-simplex : goal.face-requires-clause-simplex
face-requires-clause-simplex c =
    let X = space_of c.args.self.now.right.term.now in
    let kept = c.args.self.now.right.allowed in
    let m = c.args.self.now.most in
    let n = c.requires.0 in
    let s = c.args.s.now in
    face-simplex X kept m n s c.requires.1

pub face-requires-clause-positive : goal.face-requires-clause-positive
face-requires-clause-positive c =
    let X = space_of c.args.self.now.right.term.now in
    let kept = c.args.self.now.right.allowed in
    let m = c.args.self.now.most in
    let n = c.requires.0 in
    let s = c.args.s.now in
    let e = face-degree X kept m n s c.requires.1 in omega (arith, e)

pub face-requires-clause-index : goal.face-requires-clause-index
face-requires-clause-index c =
    let X = space_of c.args.self.now.right.term.now in
    let kept = c.args.self.now.right.allowed in
    let m = c.args.self.now.most in
    let n = c.requires.0 in
    let s = c.args.s.now in
    let e = face-degree X kept m n s c.requires.1 in omega (arith, e, c.requires.3)

pub face-requires-clause-within : goal.face-requires-clause-within
face-requires-clause-within c =
    let X = space_of c.args.self.now.right.term.now in
    let kept = c.args.self.now.right.allowed in
    face-within X kept c.args.self.now.most c.requires.0 c.args.s.now c.requires.1 c.args.self.now.within

pub returns-clause-simplex : goal.returns-clause-simplex
returns-clause-simplex c =
    let X = space_of c.args.self.now.right.term.now in
    let kept = c.args.self.now.right.allowed in
    let m = c.args.self.now.most in
    let n = c.requires.0 in
    let s = c.args.s.now in
    if_both c.face.result (IsSimplex X (degree_of s - 1)) (λ y. form y X ≡ (set_of X).face c.args.i (form s X)) (λ y. (k : ℕ) → IsReached X m (suc k) s → IsReached X m k y)
    (λ y q e k h. face-reached X kept m n s c.requires.1 c.args.i c.requires.3 k y h q e) c.face.ensures.simplex c.face.ensures.form
