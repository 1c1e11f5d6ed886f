-- What a run of a line is taken for: a value, or how many of its bytes are left at the first that no such word has there.
--
--   the run homolgy is no word of a command: homolog.. has the first five bytes in common, so that 2 are left
use Rattle.std.specs.Prelude.{ℕ, ◌-◌, max, ℤ, Bool, true, false, if◌then◌else◌, List, length, codes, bytes_eq, nat_eq, Option, Some, None, Ok, Err}
use Rattle.std.specs.List.{common_prefix_len}
use Rattle.term_lang.specs.declared.texts.FaceText.{FaceText}
use Rattle.script_lang.specs.declared.simplices.SimplexText.{SimplexText}
use Rattle.script_lang.specs.declared.words.SpaceWord.{SpaceWord}
use Rattle.script_lang.specs.declared.words.SpaceWord.TheVariants as space_words
use Rattle.script_lang.specs.declared.words.CommandWord.{CommandWord}
use Rattle.script_lang.specs.declared.words.CommandWord.TheVariants as command_words
use Rattle.script_lang.specs.Grammar.{Run, opening, closing}
use Rattle.script_lang.specs.Readings.{Judged, whole}
use Rattle.script_lang.specs.Scans.{name_in, number_in, integer_in, face_in, simplex_in}

unfoldable pub number_of : Run → Judged ℕ
number_of run = whole number_in run

unfoldable pub name_of : Run → Judged (List ℕ)
name_of run = whole name_in run

unfoldable pub integer_of : Run → Judged ℤ
integer_of run = whole integer_in run

unfoldable pub simplex_of : Run → Judged SimplexText
simplex_of run = whole (simplex_in 33) run

-- one given run
abbrev pub sign_run : Run → Run → Judged (Unit {0})
sign_run text run = if bytes_eq run text then Ok tt else Err (length run)

abbrev pub some_of : {A : Type 0} → Judged A → Judged (Option A)
some_of (Ok x) = Ok (Some x)
some_of (Err left) = Err left

-- nothing for an opening parenthesis, or a name
unfoldable pub start_of : Run → Judged (Option (List ℕ))
start_of run = if bytes_eq run opening then Ok None else some_of (name_of run)

-- nothing for a closing parenthesis, or a face
unfoldable pub face_of : Run → Judged (Option FaceText)
face_of run = if bytes_eq run closing then Ok None else some_of (whole face_in run)

-- whether another part in parentheses comes, or the end
unfoldable pub part_of : Run → Judged Bool
part_of run = if bytes_eq run opening then Ok true else (if bytes_eq run closing then Ok false else Err (length run))

-- whether a chain has terms, or is 0
unfoldable pub chain_of : Run → Judged Bool
chain_of run =
    if bytes_eq run opening then Ok true
    else (if bytes_eq run (codes "0") then Ok false else Err (length run - common_prefix_len nat_eq run (codes "0")))

-- ---- words from a table

abbrev pub common : Run → Run → ℕ
common run word = common_prefix_len nat_eq run word

abbrev pub space_common : Run → ℕ
space_common run =
    max (max (max (common run (codes "sphere")) (common run (codes "crts-prdc"))) (max (common run (codes "suspension")) (common run (codes "k-z-1"))))
    (max (max (common run (codes "loop-space")) (common run (codes "path-space"))) (max (common run (codes "bundle")) (common run (codes "table"))))

unfoldable pub space_word_of : Run → Judged SpaceWord
space_word_of run =
    if bytes_eq run (codes "sphere") then Ok space_words.Sphere
    else (if bytes_eq run (codes "crts-prdc") then Ok space_words.Product
    else (if bytes_eq run (codes "suspension") then Ok space_words.Suspension
    else (if bytes_eq run (codes "k-z-1") then Ok space_words.KZ1
    else (if bytes_eq run (codes "loop-space") then Ok space_words.Loop
    else (if bytes_eq run (codes "path-space") then Ok space_words.Path
    else (if bytes_eq run (codes "bundle") then Ok space_words.Bundle
    else (if bytes_eq run (codes "table") then Ok space_words.Table
    else Err (length run - space_common run))))))))

abbrev pub command_common : Run → ℕ
command_common run =
    max (max (max (common run (codes "field")) (common run (codes "setf"))) (max (common run (codes "names")) (common run (codes "betti"))))
    (max (max (common run (codes "homology")) (common run (codes "boundary"))) (common run (codes "express")))

unfoldable pub command_word_of : Run → Judged CommandWord
command_word_of run =
    if bytes_eq run (codes "field") then Ok command_words.Field
    else (if bytes_eq run (codes "setf") then Ok command_words.Setf
    else (if bytes_eq run (codes "names") then Ok command_words.Names
    else (if bytes_eq run (codes "betti") then Ok command_words.Betti
    else (if bytes_eq run (codes "homology") then Ok command_words.Homology
    else (if bytes_eq run (codes "boundary") then Ok command_words.Boundary
    else (if bytes_eq run (codes "express") then Ok command_words.Express
    else Err (length run - command_common run)))))))
