use Rattle.std.proofs.Common.{◌≡◌, ◌-◌, reverse, sym, subst, rules, arith}
use Rattle.std.proofs.lemmas.Result.{IfOk-weaker}
use Rattle.loop_words.specs.WordForms.{Every}
use Rattle.loop_words.specs.WordFaces.{IsFaced, IsWordFace}
use Rattle.loop_words.proofs.OnTop.{last_first}
use Rattle.loop_words.proofs.Reductions.{every_at}
use Rattle.loop_words.proofs.FaceSteps.{one_more, whole_face, face-form, face_letters, face_reduced}
use Rattle.loop_words.proofs.faces.word_face.Goals as goal

pub put_faces-requires : goal.put_faces-requires
put_faces-requires g c =
    every_at (IsFaced (g.X.Faces.space c.args.x.now) (g.X.Faces.has_faces c.args.x.now) c.args.i) c.as_slice-letters.result.now (c.loop-left.left - 1)
    c.index-letters-left.result (omega (arith, c.loop-left-test.true, c.loop-left.invariant.within)) c.index-letters-left.is
    (subst (Every (IsFaced (g.X.Faces.space c.args.x.now) (g.X.Faces.has_faces c.args.x.now) c.args.i)) (sym c.as_slice-letters.ensures) c.requires)

pub loop-left-preserved : goal.loop-left-preserved
loop-left-preserved g c = record {
  within = omega (arith, c.loop-left.invariant.within);
  face = subst (λ u. IsWordFace (g.X.Faces.space c.args.x.now) c.args.i u (reverse c.put_faces.new.stack.items))
      (sym (last_first c.as_slice-letters.result.now c.loop-left.left c.index-letters-left.result c.loop-left-test.true c.loop-left.invariant.within c.index-letters-left.is))
      (one_more (g.X.Faces.space c.args.x.now) c.args.i c.index-letters-left.result _ (reverse c.loop-left.stack.items) (reverse c.put_faces.new.stack.items)
      c.loop-left.invariant.face c.in_ok-put_faces.ensures);
}

pub returns-clause-form : goal.returns-clause-form
returns-clause-form g c =
    let none : c.loop-left.left ≡ 0 = search rules in
    let whole = whole_face (g.X.Faces.space c.args.x.now) c.args.i c.args.w.now c.as_slice-letters.result.now (reverse c.loop-left.stack.items) c.loop-left.left none c.as_slice-letters.ensures c.loop-left.invariant.face in
    λ n l d has.
    IfOk-weaker c.from_top.result _ _ (λ y e.
    face-form (g.X.Faces.space c.args.x.now) c.args.i c.args.w.now y n l d has (subst (IsWordFace (g.X.Faces.space c.args.x.now) c.args.i c.args.w.now) (sym e) whole)) c.from_top.ensures

pub returns-clause-letters : goal.returns-clause-letters
returns-clause-letters g c =
    let none : c.loop-left.left ≡ 0 = search rules in
    let whole = whole_face (g.X.Faces.space c.args.x.now) c.args.i c.args.w.now c.as_slice-letters.result.now (reverse c.loop-left.stack.items) c.loop-left.left none c.as_slice-letters.ensures c.loop-left.invariant.face in
    λ n l d.
    IfOk-weaker c.from_top.result _ _ (λ y e.
    face_letters (g.X.Faces.space c.args.x.now) c.args.i c.args.w.now y n l d (subst (IsWordFace (g.X.Faces.space c.args.x.now) c.args.i c.args.w.now) (sym e) whole)) c.from_top.ensures

pub returns-clause-reduced : goal.returns-clause-reduced
returns-clause-reduced g c =
    let none : c.loop-left.left ≡ 0 = search rules in
    let whole = whole_face (g.X.Faces.space c.args.x.now) c.args.i c.args.w.now c.as_slice-letters.result.now (reverse c.loop-left.stack.items) c.loop-left.left none c.as_slice-letters.ensures c.loop-left.invariant.face in
    IfOk-weaker c.from_top.result _ _ (λ y e.
    face_reduced (g.X.Faces.space c.args.x.now) c.args.i c.args.w.now y (subst (IsWordFace (g.X.Faces.space c.args.x.now) c.args.i c.args.w.now) (sym e) whole)) c.from_top.ensures
