-- Reading a line from left to right, run by run, up to the first fault.
--
--   from the bytes of `(field 2) x` a line is a fault with 1 byte left
use Rattle.std.specs.Prelude.{ℕ, zero, suc, ◌==◌, Bool, true, false, if◌then◌else◌, List, [], ◌∷◌, length, take, drop, Option, Some, None, Ok, Err}
use Rattle.term_lang.specs.declared.texts.RowText.{RowText}
use Rattle.script_lang.specs.declared.exprs.Expr.{Expr}
use Rattle.script_lang.specs.declared.exprs.Expr.TheVariants as exprs
use Rattle.script_lang.specs.declared.exprs.PairText.{PairText}
use Rattle.script_lang.specs.declared.simplices.TermText.{TermText}
use Rattle.script_lang.specs.declared.simplices.ChainText.{ChainText}
use Rattle.script_lang.specs.declared.simplices.ChainText.TheVariants as chains
use Rattle.script_lang.specs.declared.commands.Command.{Command}
use Rattle.script_lang.specs.declared.commands.Command.TheVariants as commands
use Rattle.script_lang.specs.declared.words.SpaceWord.{SpaceWord}
use Rattle.script_lang.specs.declared.words.SpaceWord.TheVariants as space_words
use Rattle.script_lang.specs.declared.words.CommandWord.{CommandWord}
use Rattle.script_lang.specs.declared.words.CommandWord.TheVariants as command_words
use Rattle.script_lang.specs.Bytes.{is_parenthesis}
use Rattle.script_lang.specs.Grammar.{Run, is_end, brackets_behind, opening, closing}
use Rattle.script_lang.specs.Readings.{Reading, ◌>>=◌, Judged, taken, until_at}
use Rattle.script_lang.specs.Scans.{after_blanks}
use Rattle.script_lang.specs.Words.{sign_run, number_of, name_of, integer_of, simplex_of, start_of, face_of, part_of, chain_of, space_word_of, command_word_of}

-- ---- the next run

-- the length of a run that goes on behind so many open brackets
unfoldable pub word_len : ℕ → List ℕ → ℕ
word_len brackets [] = 0
word_len brackets (b ∷ bytes) = if is_end brackets b then 0 else suc (word_len (brackets_behind brackets b) bytes)

-- the length of the run at the front, 0 where none is
unfoldable pub run_len : List ℕ → ℕ
run_len [] = 0
run_len (b ∷ bytes) = if is_parenthesis b then 1 else word_len 0 (b ∷ bytes)

unfoldable pub next_at : List ℕ → Reading Run
next_at bytes =
    if run_len (after_blanks bytes) == 0 then Err (length (after_blanks bytes))
    else Ok (take (run_len (after_blanks bytes)) (after_blanks bytes), drop (run_len (after_blanks bytes)) (after_blanks bytes))

unfoldable pub word_at : {A : Type 0} → (Run → Judged A) → List ℕ → Reading A
word_at judge bytes = next_at bytes >>= λ run. taken run.1 (judge run.0)

abbrev pub opening_at : List ℕ → Reading (Unit {0})
opening_at = word_at (sign_run opening)

abbrev pub closing_at : List ℕ → Reading (Unit {0})
closing_at = word_at (sign_run closing)

abbrev pub number_at : List ℕ → Reading ℕ
number_at = word_at number_of

abbrev pub name_at : List ℕ → Reading (List ℕ)
name_at = word_at name_of

-- ---- parts in parentheses

-- behind a word that says whether a part comes
unfoldable pub some_part_at : {A : Type 0} → (List ℕ → Reading A) → Bool → List ℕ → Reading (Option A)
some_part_at behind true bytes = behind bytes >>= λ x. Ok (Some x.0, x.1)
some_part_at behind false bytes = Ok (None, bytes)

-- a part in parentheses, where behind reads what stands behind the opening one, or the end
unfoldable pub part_at : {A : Type 0} → (List ℕ → Reading A) → List ℕ → Reading (Option A)
part_at behind bytes = word_at part_of bytes >>= λ more. some_part_at behind more.0 more.1

unfoldable pub pair_at : List ℕ → Reading PairText
pair_at bytes = name_at bytes >>= λ cell. word_at integer_of cell.1 >>= λ value. closing_at value.1 >>= λ end. Ok (record { cell = cell.0; value = value.0 }, end.1)

unfoldable pub row_at : List ℕ → Reading RowText
row_at bytes = name_at bytes >>= λ name. until_at (word_at face_of) name.1 >>= λ faces. Ok (record { name = name.0; faces = faces.0 }, faces.1)

unfoldable pub term_at : List ℕ → Reading TermText
term_at bytes =
    word_at integer_of bytes >>= λ coeff. word_at simplex_of coeff.1 >>= λ x. closing_at x.1 >>= λ end. Ok (record { coeff = coeff.0; simplex = x.0 }, end.1)

-- ---- spaces, where part reads a part

unfoldable pub product_at : (List ℕ → Reading Expr) → List ℕ → Reading Expr
product_at part bytes = part bytes >>= λ a. part a.1 >>= λ b. closing_at b.1 >>= λ end. Ok (exprs.Product a.0 b.0, end.1)

-- a construction of one part
unfoldable pub over_at : (List ℕ → Reading Expr) → (Expr → Expr) → List ℕ → Reading Expr
over_at part make bytes = part bytes >>= λ a. closing_at a.1 >>= λ end. Ok (make a.0, end.1)

unfoldable pub bundle_at : (List ℕ → Reading Expr) → List ℕ → Reading Expr
bundle_at part bytes = part bytes >>= λ a. until_at (part_at pair_at) a.1 >>= λ values. Ok (exprs.Bundle a.0 values.0, values.1)

unfoldable pub sphere_at : List ℕ → Reading Expr
sphere_at bytes = number_at bytes >>= λ n. closing_at n.1 >>= λ end. Ok (exprs.Sphere n.0, end.1)

-- what stands behind the word of a space
unfoldable pub space_behind_at : (List ℕ → Reading Expr) → SpaceWord → List ℕ → Reading Expr
space_behind_at part space_words.Sphere bytes = sphere_at bytes
space_behind_at part space_words.Product bytes = product_at part bytes
space_behind_at part space_words.Suspension bytes = over_at part (λ a. exprs.Suspension a) bytes
space_behind_at part space_words.KZ1 bytes = closing_at bytes >>= λ end. Ok (exprs.KZ1, end.1)
space_behind_at part space_words.Loop bytes = over_at part (λ a. exprs.Loop a) bytes
space_behind_at part space_words.Path bytes = over_at part (λ a. exprs.Path a) bytes
space_behind_at part space_words.Bundle bytes = bundle_at part bytes
space_behind_at part space_words.Table bytes = until_at (part_at row_at) bytes >>= λ rows. Ok (exprs.Table rows.0, rows.1)

-- what stands behind an opening parenthesis
unfoldable pub enclosed_at : (List ℕ → Reading Expr) → List ℕ → Reading Expr
enclosed_at part bytes = word_at space_word_of bytes >>= λ word. space_behind_at part word.0 word.1

unfoldable pub started_at : (List ℕ → Reading Expr) → Option (List ℕ) → List ℕ → Reading Expr
started_at part (Some name) bytes = Ok (exprs.Name name, bytes)
started_at part None bytes = enclosed_at part bytes

-- a space, with room for so many nested parentheses
unfoldable pub space_at : ℕ → List ℕ → Reading Expr
space_at zero bytes = name_at bytes >>= λ name. Ok (exprs.Name name.0, name.1)
space_at (suc room) bytes = word_at start_of bytes >>= λ start. started_at (space_at room) start.0 start.1

-- ---- chains

unfoldable pub terms_at : List ℕ → Reading ChainText
terms_at bytes = term_at bytes >>= λ first. until_at (part_at term_at) first.1 >>= λ more. Ok (chains.Terms (first.0 ∷ more.0), more.1)

unfoldable pub chain_behind_at : Bool → List ℕ → Reading ChainText
chain_behind_at true bytes = terms_at bytes
chain_behind_at false bytes = closing_at bytes >>= λ end. Ok (chains.Zero, end.1)

unfoldable pub chain_at : List ℕ → Reading ChainText
chain_at bytes = word_at chain_of bytes >>= λ some. chain_behind_at some.0 some.1

-- ---- commands

unfoldable pub field_at : List ℕ → Reading Command
field_at bytes = number_at bytes >>= λ n. closing_at n.1 >>= λ end. Ok (commands.Field n.0, end.1)

unfoldable pub setf_at : List ℕ → Reading Command
setf_at bytes = name_at bytes >>= λ name. space_at 16 name.1 >>= λ a. closing_at a.1 >>= λ end. Ok (commands.Setf name.0 a.0, end.1)

unfoldable pub betti_at : List ℕ → Reading Command
betti_at bytes =
    space_at 16 bytes >>= λ a. number_at a.1 >>= λ low. number_at low.1 >>= λ high. closing_at high.1 >>= λ end. Ok (commands.Betti a.0 low.0 high.0, end.1)

unfoldable pub homology_at : List ℕ → Reading Command
homology_at bytes = space_at 16 bytes >>= λ a. number_at a.1 >>= λ n. closing_at n.1 >>= λ end. Ok (commands.Homology a.0 n.0, end.1)

unfoldable pub boundary_at : List ℕ → Reading Command
boundary_at bytes = space_at 16 bytes >>= λ a. number_at a.1 >>= λ n. chain_at n.1 >>= λ c. Ok (commands.Boundary a.0 n.0 c.0, c.1)

unfoldable pub express_at : List ℕ → Reading Command
express_at bytes = space_at 16 bytes >>= λ a. number_at a.1 >>= λ n. chain_at n.1 >>= λ c. Ok (commands.Express a.0 n.0 c.0, c.1)

-- what stands behind the word of a command
unfoldable pub command_behind_at : CommandWord → List ℕ → Reading Command
command_behind_at command_words.Field bytes = field_at bytes
command_behind_at command_words.Setf bytes = setf_at bytes
command_behind_at command_words.Names bytes = closing_at bytes >>= λ end. Ok (commands.Names, end.1)
command_behind_at command_words.Betti bytes = betti_at bytes
command_behind_at command_words.Homology bytes = homology_at bytes
command_behind_at command_words.Boundary bytes = boundary_at bytes
command_behind_at command_words.Express bytes = express_at bytes

unfoldable pub command_at : List ℕ → Reading Command
command_at bytes = opening_at bytes >>= λ left. word_at command_word_of left.1 >>= λ word. command_behind_at word.0 word.1

-- ---- lines

-- whether nothing stands before the end or a semicolon
abbrev pub is_done : List ℕ → Bool
is_done bytes = run_len (after_blanks bytes) == 0

unfoldable pub end_at : List ℕ → Reading (Unit {0})
end_at bytes = if is_done bytes then Ok (tt, bytes) else Err (length (after_blanks bytes))

unfoldable pub line_at : List ℕ → Reading (Option Command)
line_at bytes = if is_done bytes then Ok (None, bytes) else (command_at bytes >>= λ c. end_at c.1 >>= λ end. Ok (Some c.0, end.1))
