-- Worked values of words, lines and statuses.
use Rattle.std.proofs.Common.{◌≡◌, [], ◌∷◌, true, false, refl}
use Rattle.std.specs.Fmt.{digits}
use Rattle.std.specs.Prelude.{codes}
use Rattle.kernel_run.specs.Pieces.{closed_lines, open_line, lines_closed}
use Rattle.kernel_run.specs.Words.{is_session, is_batch, has_form, code_of_all}
use Rattle.kernel_run.specs.Summary.{summary}
use Rattle.kernel_run.specs.declared.report.End.TheVariants.{Finished, Long, ReadFault, Memory}

one_session : is_session (codes "session" ∷ []) ≡ true
one_session = refl

two_scripts : is_batch (codes "batch" ∷ codes "a" ∷ codes "b" ∷ []) ≡ true
two_scripts = refl

no_scripts : has_form (codes "batch" ∷ []) ≡ false
no_scripts = refl

the_same_twice : has_form (codes "batch" ∷ codes "a" ∷ codes "a" ∷ []) ≡ false
the_same_twice = refl

an_empty_word : has_form (codes "batch" ∷ codes "a" ∷ [] ∷ []) ≡ false
an_empty_word = refl

another_word : has_form (codes "sweep" ∷ codes "01" ∷ []) ≡ false
another_word = refl

no_word : has_form [] ≡ false
no_word = refl

two_lines : summary (codes "a" ∷ codes "b" ∷ []) (record { replies = 1; errors = 0; end = Finished } ∷ record { replies = 1; errors = 1; end = ReadFault } ∷ [])
    ≡ codes "a: 1 replies, 0 errors, ok\nb: 1 replies, 1 errors, read-fault\n"
unfolding digits
two_lines = refl

fault_before_length : code_of_all (Long ∷ ReadFault ∷ Finished ∷ []) ≡ 3
fault_before_length = refl

memory_before_fault : code_of_all (ReadFault ∷ Memory ∷ []) ≡ 5
memory_before_fault = refl

lines_of_a_piece : closed_lines (codes "ab") (codes "c\n\nd") ≡ codes "abc" ∷ [] ∷ []
lines_of_a_piece = refl

open_behind_a_piece : open_line (codes "ab") (codes "c\n\nd") ≡ codes "d"
open_behind_a_piece = refl

-- the names are asked for three times, in pieces of 8 bytes
lines_of_pieces : lines_closed [] (codes "(names)\n" ∷ codes "(names)\n" ∷ codes "(names" ∷ codes ")\n" ∷ []) ≡ codes "(names)" ∷ codes "(names)" ∷ codes "(names)" ∷ []
lines_of_pieces = refl
