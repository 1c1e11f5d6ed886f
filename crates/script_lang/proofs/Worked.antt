-- Lines that were read by hand, by computation.
use Rattle.std.proofs.Common.{[], None, refl, codes, lit≤}
use Rattle.script_lang.specs.Bytes.{value_from}
use Rattle.script_lang.specs.Readings.{loop_at, until_at}
use Rattle.script_lang.specs.Scans.{name_len, name_in, number_len, number_in, sign_in, may_in, negative_in, signed_in, integer_in, separator_in, next_degen_in, degen_in, degens_in, prefix_in, face_in, barred_in, int_in, after_blanks, gap_in, signed_letter_in, letter_in, behind_gap_in, next_letter_in, more_letters_in, some_letters_in, letters_behind_in, word_in, pair_in, behind_in, sign_of, sign_or_name_in, head_in, body_in, simplex_over, simplex_in}
use Rattle.script_lang.specs.Words.{number_of, name_of, integer_of, simplex_of, start_of, face_of, part_of, chain_of, space_word_of, command_word_of}
use Rattle.script_lang.specs.Lines.{word_len, run_len, next_at, word_at, some_part_at, part_at, pair_at, row_at, term_at, product_at, over_at, bundle_at, sphere_at, space_behind_at, enclosed_at, started_at, space_at, terms_at, chain_behind_at, chain_at, field_at, setf_at, betti_at, homology_at, boundary_at, express_at, command_behind_at, command_at, end_at, line_at}
use Rattle.script_lang.specs.Examples.{AreRead, AreRefused}
use Rattle.script_lang.proofs.Whole.{found, none}

pub are_read : AreRead
unfolding value_from loop_at until_at name_len name_in number_len number_in sign_in may_in negative_in signed_in integer_in separator_in next_degen_in degen_in degens_in prefix_in face_in barred_in int_in after_blanks gap_in signed_letter_in letter_in behind_gap_in next_letter_in more_letters_in some_letters_in letters_behind_in word_in pair_in behind_in sign_of sign_or_name_in head_in body_in simplex_over simplex_in number_of name_of integer_of simplex_of start_of face_of part_of chain_of space_word_of command_word_of word_len run_len next_at word_at some_part_at part_at pair_at row_at term_at product_at over_at bundle_at sphere_at space_behind_at enclosed_at started_at space_at terms_at chain_behind_at chain_at field_at setf_at betti_at homology_at boundary_at express_at command_behind_at command_at end_at line_at
are_read = record {
  comment = found (codes " ; (names)") None (codes " ; (names)") (lit≤ tt) refl;
  betti = found (codes " (betti( sphere 2 )0 10) ; twice") _ (codes " ; twice") (lit≤ tt) refl;
  table = found (codes "(setf sphere (table (v)(e v v)(t e 0:v e)))") _ [] (lit≤ tt) refl;
  chain = found (codes "(express (bundle (sphere 2) (S2 -1)) 2 (1 <S2,1-0:|>) (-3 [S2 -1-0:*]))") _ [] (lit≤ tt) refl;
}

pub are_refused : AreRefused
unfolding value_from loop_at until_at name_len name_in number_len number_in sign_in may_in negative_in signed_in integer_in separator_in next_degen_in degen_in degens_in prefix_in face_in barred_in int_in after_blanks gap_in signed_letter_in letter_in behind_gap_in next_letter_in more_letters_in some_letters_in letters_behind_in word_in pair_in behind_in sign_of sign_or_name_in head_in body_in simplex_over simplex_in number_of name_of integer_of simplex_of start_of face_of part_of chain_of space_word_of command_word_of word_len run_len next_at word_at some_part_at part_at pair_at row_at term_at product_at over_at bundle_at sphere_at space_behind_at enclosed_at started_at space_at terms_at chain_behind_at chain_at field_at setf_at betti_at homology_at boundary_at express_at command_behind_at command_at end_at line_at
are_refused = record {
  leading_zero = λ c is. none (codes "(field 04)") 2 c refl is;
  minus_zero = λ c is. none (codes "(boundary x 2 (-0 S2))") 6 c refl is;
  keyword = λ c is. none (codes "(homolgy x 1)") 7 c refl is;
  blank_in_simplex = λ c is. none (codes "(boundary x 2 (1 <a, b>))") 5 c refl is;
}
