-- The words of a command line, the line that says how the program is called, and the statuses.
--
-- The words have two forms: `session` alone, and `batch` with the names of 1 to 64 scripts behind it, none of them empty and all different.
-- The words, the line and the statuses are this project's own.
--
-- Main definitions: `is_session`, `is_batch`, `has_form`, `usage`, `code_of`, `code_of_all`.
-- Worked values: the words batch, a, b are of the second form; batch alone, or batch, a, a, or sweep, 01 are of none. Of a session that ended
-- on a failed read and one whose script was too long the status is 3.
use Rattle.std.specs.Prelude.{ℕ, List, [], ◌∷◌, codes, Bool, true, false, not, ◌&&◌, ◌||◌, ◌==◌, nat_le, length, if◌then◌else◌}
use Rattle.std.specs.List.{list_any}
use Rattle.std.specs.Str.{bytes_eq}
use Rattle.kernel_run.specs.Counts.{is_empty}
use Rattle.kernel_run.specs.declared.report.End.{End}
use Rattle.kernel_run.specs.declared.report.End.TheVariants.{Finished, Long, ReadFault, WriteFault, Memory}

abbrev pub is_session : List (List ℕ) → Bool
is_session (word ∷ []) = bytes_eq word (codes "session")
is_session words = false

-- the name stands among these
abbrev pub stands_in : List ℕ → List (List ℕ) → Bool
stands_in name names = list_any (bytes_eq name) names

-- none is empty, and all are different
abbrev pub are_names : List (List ℕ) → Bool
are_names [] = true
are_names (name ∷ names) = not (is_empty name) && (not (stands_in name names) && are_names names)

abbrev pub is_batch : List (List ℕ) → Bool
is_batch [] = false
is_batch (word ∷ names) = bytes_eq word (codes "batch") && (nat_le 1 (length names) && (nat_le (length names) 64 && are_names names))

-- the words are of a form
abbrev pub has_form : List (List ℕ) → Bool
has_form words = is_session words || is_batch words

abbrev pub usage : List ℕ
usage = codes "usage: kenzo_main session | batch SCRIPT.. | sweep N\n"

-- the status for the end of a session
abbrev pub code_of : End → ℕ
code_of Finished = 0
code_of Long = 4
code_of ReadFault = 3
code_of WriteFault = 3
code_of Memory = 5

-- one of the ends has this status
abbrev pub has_code : ℕ → List End → Bool
has_code code ends = list_any (λ end. code_of end == code) ends

-- the status for several ends: want of memory comes before a fault, and a fault before a script that is too long
abbrev pub code_of_all : List End → ℕ
code_of_all ends = if has_code 5 ends then 5 else (if has_code 3 ends then 3 else (if has_code 4 ends then 4 else 0))
