use Rattle.std.proofs.Common.{lit≤, lit<}
use Rattle.simp_ops.proofs.MaskWords.{compose_fits}
use Rattle.library_tests.proofs.number_tests.words_meet_words.Goals as goal

pub compose-requires : goal.compose-requires
compose-requires g c = compose_fits 2 1 1 (lit≤ tt) (lit< tt) (lit< tt)
