use Rattle.std.proofs.Common.{◌≡◌, take}
use Rattle.std.specs.List.{flat_map}
use Rattle.term_lang.specs.Codes.{row_words}
use Rattle.term_lang.proofs.codes.code_rows.Given as goal

abbrev pub invariant-loop-row : goal.invariant-loop-row
invariant-loop-row l = l.code ≡ flat_map row_words (take l.row-index l.row-items)
