use Rattle.std.proofs.Common.{◌≡◌, ◌+◌, suc, [], ◌∷◌, ◌++◌, length, map, sym, ◌∙◌, ap, arith}
use Rattle.std.proofs.lemmas.List.{map_push, map_more, take_all}
use Rattle.std.proofs.lemmas.Result.{err_from_is_err_and}
use Rattle.term_lang.specs.declared.texts.FaceText.{FaceText}
use Rattle.term_lang.specs.declared.texts.RowText.{RowText}
use Rattle.term_lang.specs.Rows.{face_of}
use Rattle.finite_sets.specs.Meaning.{text_at, face_meant}
use Rattle.finite_sets.specs.Faults.{first_below, face_fault}
use Rattle.finite_sets.proofs.Entries.{got, entry-get, entry-get_or}
use Rattle.finite_sets.proofs.FirstFault.{first_below-found, none_more}
use Rattle.finite_sets.proofs.tables.read_faces.Goals.{After-len-i-end}
use Rattle.finite_sets.proofs.tables.read_faces.Goals as goal

many : (c : After-len-i-end) → length (text_at c.args.texts.now c.args.r).faces ≡ c.len-i-end.result
many c =
    ap (λ (row : RowText). length row.faces)
    (entry-get (record { name = []; faces = [] }) c.args.texts.now c.args.r c.unwrap.result.now (got c.get.result c.unwrap.result _ c.get.ensures.value c.unwrap.ensures))
    ∙ sym c.len-i-end.ensures

pub read_face-requires-clause-face : goal.read_face-requires-clause-face
read_face-requires-clause-face c = let m = many (goal.at.read_face-requires-clause-face c).After-len-i-end in omega (arith, m)

pub read_face-requires-clause-some : goal.read_face-requires-clause-some
read_face-requires-clause-some c = let m = many (goal.at.read_face-requires-clause-some c).After-len-i-end in omega (arith, m, c.requires.some)

pub returns-in_err-face-clause-err : goal.returns-in_err-face-clause-err
returns-in_err-face-clause-err c =
    let m = many (goal.at.returns-in_err-face-clause-err c).After-len-i-end in
    let p = err_from_is_err_and c.from_residual.result c.from_residual.ensures.1 in
    rw (p.1, p.2)
    (λ _. first_below-found (length (text_at c.args.texts.now c.args.r).faces) c.loop-i.i (face_fault c.args.texts.now c.args.r) _ (omega (arith, m)) c.loop-i.invariant.none c.in_err-face.ensures.err)

pub loop-i-preserved : goal.loop-i-preserved
loop-i-preserved c =
    let m = many (goal.at.loop-i-preserved c).After-len-i-end in
    let next : suc c.loop-i.i ≡ c.loop-i.i + 1 = omega arith in
    let f = face_fault c.args.texts.now c.args.r in
    let faces = (text_at c.args.texts.now c.args.r).faces in
    let none : FaceText = record { word = []; name = [] } in
    record {
      none = ap (λ n. first_below n f) (sym next) ∙ none_more c.loop-i.i f c.loop-i.invariant.none c.in_ok-face.ensures.none;
      faces = ap (map face_of) c.in_ok-push.ensures.ok ∙ map_push face_of c.loop-i.faces c.in_ok-face.face
          ∙ (λ k. c.loop-i.invariant.faces k ++ (c.in_ok-face.ensures.ok ∙ ap (face_meant c.args.texts.now) (sym (entry-get_or none faces c.loop-i.i))) k ∷ [])
          ∙ sym (map_more (face_meant c.args.texts.now) faces c.loop-i.i none (omega (arith, m)));
    }

pub returns-clause-none : goal.returns-clause-none
returns-clause-none c =
    let m = many (goal.at.returns-clause-none c).After-len-i-end in
    let end : length (text_at c.args.texts.now c.args.r).faces ≡ c.loop-i.i = omega (arith, m) in
    ap (λ n. first_below n (face_fault c.args.texts.now c.args.r)) end ∙ c.loop-i.invariant.none

pub returns-clause-ok : goal.returns-clause-ok
returns-clause-ok c =
    let m = many (goal.at.returns-clause-ok c).After-len-i-end in
    c.loop-i.invariant.faces ∙ ap (map (face_meant c.args.texts.now)) (take_all c.loop-i.i (text_at c.args.texts.now c.args.r).faces (omega (arith, m)))
