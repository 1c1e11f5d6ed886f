use Rattle.std.proofs.Common.{ap, subst, arith}
use Rattle.fp_field.specs.Field.{number}
use Rattle.fp_field.specs.Reduction.{one}
use Rattle.spaces.specs.Spaces.{set_of}
use Rattle.ez_laws.specs.Weights.{SameWeights}
use Rattle.ez_laws.specs.Sides.{on_keys}
use Rattle.term_lang.specs.Forms.{form}
use Rattle.term_lang.specs.SpaceOf.{space_of}
use Rattle.space_pairs.specs.Parts.{IsReached}
use Rattle.space_pairs.proofs.OneFace.{one-each, one-weights, face-simplex, face-degree, face-within, face-reached}
use Rattle.space_pairs.proofs.pairs.SpacePairFlowFaces.left_face.Goals as goal

pub face-requires-clause-simplex : goal.face-requires-clause-simplex
face-requires-clause-simplex c =
    let X = space_of c.args.self.now.left.term.now in
    let kept = c.args.self.now.left.allowed in
    let m = c.args.self.now.most in
    let n = c.requires.0 in
    let s = c.args.s.now in
    face-simplex X kept m n s c.requires.1

pub face-requires-clause-positive : goal.face-requires-clause-positive
face-requires-clause-positive c =
    let X = space_of c.args.self.now.left.term.now in
    let kept = c.args.self.now.left.allowed in
    let m = c.args.self.now.most in
    let n = c.requires.0 in
    let s = c.args.s.now in
    let e = face-degree X kept m n s c.requires.1 in omega (arith, e)

pub face-requires-clause-index : goal.face-requires-clause-index
face-requires-clause-index c =
    let X = space_of c.args.self.now.left.term.now in
    let kept = c.args.self.now.left.allowed in
    let m = c.args.self.now.most in
    let n = c.requires.0 in
    let s = c.args.s.now in
    let e = face-degree X kept m n s c.requires.1 in omega (arith, e, c.requires.3)

pub face-requires-clause-within : goal.face-requires-clause-within
face-requires-clause-within c =
    let X = space_of c.args.self.now.left.term.now in
    let kept = c.args.self.now.left.allowed in
    face-within X kept c.args.self.now.most c.requires.0 c.args.s.now c.requires.1 c.args.self.now.within

pub returns-clause-simplices : goal.returns-clause-simplices
returns-clause-simplices c =
    let X = space_of c.args.self.now.left.term.now in
    let kept = c.args.self.now.left.allowed in
    let m = c.args.self.now.most in
    let n = c.requires.0 in
    let s = c.args.s.now in
    λ k h. one-each (IsReached X m k) (number c.new-chain.result.prime) c.in_ok-face.face c.add_term.new.self.terms c.new-chain.result.terms c.in_ok-add_term.ensures.sum c.new-chain.ensures.zero (face-reached X kept m n s c.requires.1 c.args.i c.requires.3 k c.in_ok-face.face h c.in_ok-face.ensures.simplex c.in_ok-face.ensures.form)

pub returns-clause-faces : goal.returns-clause-faces
returns-clause-faces c =
    let X = space_of c.args.self.now.left.term.now in
    let kept = c.args.self.now.left.allowed in
    let m = c.args.self.now.most in
    let n = c.requires.0 in
    let s = c.args.s.now in
    λ k h. subst (λ q. SameWeights q (on_keys (λ s. form s X) c.add_term.new.self.terms) (one ((set_of X).face c.args.i (form s X)))) (ap number c.new-chain.ensures.prime)
    (one-weights (number c.new-chain.result.prime) (λ s. form s X) c.in_ok-face.face ((set_of X).face c.args.i (form s X)) c.add_term.new.self.terms c.new-chain.result.terms c.in_ok-add_term.ensures.sum c.new-chain.ensures.zero c.in_ok-face.ensures.form)
