use Rattle.std.proofs.Common.{◌≡◌, ◌++◌, map, take}
use Rattle.term_lang.specs.Codes.{face_word}
use Rattle.term_lang.proofs.codes.push_faces.Given as goal

abbrev pub invariant-loop-face : goal.invariant-loop-face
invariant-loop-face l = l.code ≡ l.initial.code ++ map face_word (take l.face-index l.face-items)
