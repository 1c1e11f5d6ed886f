use Rattle.std.proofs.Common.{◌≡◌, take}
use Rattle.term_lang.specs.Codes.{mark_of}
use Rattle.term_lang.proofs.codes.mark_code.Given as goal

abbrev pub invariant-loop-word : goal.invariant-loop-word
invariant-loop-word l = l.mark ≡ mark_of (take l.word-index l.word-items)
