use Rattle.std.proofs.Common.{◌∙◌, sym}
use Rattle.std.proofs.lemmas.Result.{err_from_is_err_and}
use Rattle.script_lang.specs.Readings.{until_at}
use Rattle.script_lang.specs.Lines.{word_at}
use Rattle.script_lang.specs.Words.{face_of}
use Rattle.script_lang.proofs.Loops.{keeps, ends, goes_wrong, from_start, fails_as}
use Rattle.script_lang.proofs.Parts.{face_shorter}
use Rattle.script_lang.proofs.reader.Reader.faces.Goals as goal

pub loop-faces-smaller : goal.loop-faces-smaller
loop-faces-smaller c =
    let e = rw c.in-Some.is at c.in_ok-face.ensures in
    face_shorter c.loop-faces.self.rest.now c.in-Some.face c.face.new.self.rest.now e

pub loop-faces-preserved : goal.loop-faces-preserved
loop-faces-preserved c =
    let e = rw c.in-Some.is at c.in_ok-face.ensures in
    keeps (word_at face_of) face_shorter c.loop-faces.faces c.push.new.self c.loop-faces.self.rest.now c.in-Some.face c.face.new.self.rest.now _ e c.in_ok-push.ensures.ok c.loop-faces.invariant

pub returns : goal.returns
returns c =
    let e = rw c.in_default.is at c.in_ok-face.ensures in
    sym (from_start (until_at (word_at face_of) c.args.self.now.rest.now) c.new-faces.result c.new-faces.ensures)
    ∙ ends (word_at face_of) face_shorter c.loop-faces.faces c.loop-faces.self.rest.now c.face.new.self.rest.now _ e c.loop-faces.invariant

pub returns-in_err-face : goal.returns-in_err-face
returns-in_err-face c =
    let p = err_from_is_err_and c.from_residual.result c.from_residual.ensures.1 in
    let first = from_start (until_at (word_at face_of) c.args.self.now.rest.now) c.new-faces.result c.new-faces.ensures in
    rw (p.1, p.2) (fails_as c.in_err-face.field-0.0 _ _ first (goes_wrong (word_at face_of) face_shorter c.loop-faces.faces c.loop-faces.self.rest.now c.in_err-face.field-0.0 _ c.in_err-face.ensures c.loop-faces.invariant))
