-- What path words and their events stand for, in the words of simp_ops: lists of steps.
--
--   the path word of length 3 with the masks 4 and 1 is left ∷ both ∷ right ∷ [], and PathEvent.Source(1) is source 1
use Rattle.std.specs.Prelude.{◌≡◌, List}
use Rattle.simp_ops.specs.PathWords.{Step, Event, source, target, critical}
use Rattle.path_words.specs.declared.word.PathWord.{PathWord}
use Rattle.path_words.specs.declared.word.PathEvent.{PathEvent}
use Rattle.path_words.specs.declared.word.PathEvent.TheVariants.{Source, Target, Critical}
use Rattle.path_words.specs.MaskPaths.{mask_path}

abbrev pub steps : PathWord → List Step
steps w = mask_path w.len w.left.mask w.right.mask

abbrev pub event_is : PathEvent → Event
event_is (Source j) = source j
event_is (Target j) = target j
event_is Critical = critical

pub record SameMasks (v w : PathWord) : Type 0 where
  pub len : v.len ≡ w.len
  pub left : v.left.mask ≡ w.left.mask
  pub right : v.right.mask ≡ w.right.mask
