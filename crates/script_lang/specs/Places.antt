-- Where a line that is none of the language goes wrong: at the least front of it with which no line begins, or behind its end.
--
--   (field 04) goes wrong at column 9, since lines begin with its first 8 bytes and none with its first 9; (field 0 goes wrong at column 9,
--   behind its end, since lines begin with all of it
use Rattle.std.specs.Prelude.{◌≡◌, ℕ, ◌+◌, ◌<◌, ◌≤◌, List, ◌++◌, length, take, Option}
use Rattle.script_lang.specs.declared.commands.Command.{Command}
use Rattle.script_lang.specs.declared.faults.LineRefused.{LineRefused}
use Rattle.script_lang.specs.declared.faults.LineRefused.TheVariants as refusals
use Rattle.script_lang.specs.declared.faults.SyntaxFault.{SyntaxFault}
use Rattle.script_lang.specs.declared.faults.SyntaxKind.{SyntaxKind}
use Rattle.script_lang.specs.declared.faults.SyntaxKind.TheVariants as kinds
use Rattle.script_lang.specs.Grammar.{runs, IsAsked}

-- Some line begins so. It may be longer than lines may be.
pub record Begins (front : List ℕ) : Type 0 where
  pub more : List ℕ
  pub asked : Option Command
  pub is : IsAsked (runs (front ++ more)) asked

-- No line begins with so many bytes of this one, and one does with any fewer.
pub record IsUnexpected (line : List ℕ) (column : ℕ) : Type 0 where
  pub within : column ≤ length line
  pub dead : Begins (take column line) → ⊥
  pub alive : (k : ℕ) → k < column → Begins (take k line)

-- Lines begin with all of this one, which is no line itself.
pub record IsUnfinished (line : List ℕ) (column : ℕ) : Type 0 where
  pub behind : column ≡ length line + 1
  pub alive : (k : ℕ) → k < column → Begins (take k line)
  pub none : (asked : Option Command) → IsAsked (runs line) asked → ⊥

-- what is wrong in this column of a line, which has at most 65,536 bytes unless it is too long
abbrev pub IsKind : SyntaxKind → List ℕ → ℕ → Type 0
IsKind kinds.Unexpected line column = (length line ≤ 65536) × IsUnexpected line column
IsKind kinds.Unfinished line column = (length line ≤ 65536) × IsUnfinished line column
IsKind kinds.Long line column = (65536 < length line) × (column ≡ 65537)

abbrev pub IsPlace : List ℕ → SyntaxFault → Type 0
IsPlace line fault = IsKind fault.kind line fault.column

-- a refusal for its syntax tells where the line goes wrong
abbrev pub IsRefusal : List ℕ → LineRefused → Type 0
IsRefusal line refusals.Memory = Unit {0}
IsRefusal line (refusals.Syntax fault) = IsPlace line fault
