use Rattle.path_words.proofs.MaskTests.{same_len, same_left_mask, same_right_mask}
use Rattle.path_words.proofs.laws.steps_tell_the_word.Goals as goal

pub returns : goal.returns
returns c = λ v w e. record {
  len = same_len v.len v.left.mask v.right.mask w.len w.left.mask w.right.mask e;
  left = same_left_mask v.len v.left.mask v.right.mask w.len w.left.mask w.right.mask v.left_below w.left_below e;
  right =
      same_right_mask v.len v.left.mask v.right.mask w.len w.left.mask w.right.mask v.left_below v.right_below v.disjoint w.left_below w.right_below w.disjoint e;
}
