use Rattle.std.proofs.Common.{◌≤◌, length, drop, reverse}
use Rattle.loop_words.specs.WordFaces.{IsWordFace}
use Rattle.loop_words.proofs.faces.word_face.Given as goal

abbrev pub invariant-loop-left : goal.invariant-loop-left
invariant-loop-left g l = record {
  within : l.left ≤ length l.letters;
  face : IsWordFace (g.X.Faces.space l.x) l.i (drop l.left l.letters) (reverse l.stack.items);
}

abbrev pub decreases-loop-left : goal.decreases-loop-left
decreases-loop-left g l = l.left
