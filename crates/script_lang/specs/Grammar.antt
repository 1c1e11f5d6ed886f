-- Which lines are which commands.
--
-- A line is cut into runs: a run is one parenthesis, or bytes in a row that are neither parentheses nor semicolons, and no blanks but
-- between brackets. So two words with no blank between them are one run, blanks and the comment behind a semicolon are gone, and the
-- grammar is one of lists of runs (the commands are those of Kenzo in Lisp's notation: Kenzo documentation, 1999).
--
--   line    = [ command ] [ ";" any bytes ]
--   command = "(" "field" number ")" | "(" "setf" name space ")" | "(" "names" ")"
--           | "(" "betti" space number number ")" | "(" "homology" space number ")"
--           | "(" "boundary" space number chain ")" | "(" "express" space number chain ")"
--   space   = name | "(" "sphere" number ")" | "(" "crts-prdc" space space ")"
--           | "(" "suspension" space ")" | "(" "k-z-1" ")" | "(" "loop-space" space ")"
--           | "(" "path-space" space ")" | "(" "bundle" space { "(" name integer ")" } ")"
--           | "(" "table" { "(" name { face } ")" } ")"
--   chain   = "0" | term { term }        term = "(" integer simplex ")"
--
-- The line `(betti x 0 2) ; twice` has the runs ( betti x 0 2 ) and is the command Betti x 0 2.
use Rattle.std.specs.Prelude.{◌≡◌, ℕ, zero, suc, ◌-◌, ◌≤◌, Bool, false, not, ◌==◌, ◌&&◌, ◌||◌, if◌then◌else◌, List, [], ◌∷◌, length, codes, Option, Some, None, Result, Ok, Err}
use Rattle.term_lang.specs.declared.texts.RowText.{RowText}
use Rattle.script_lang.specs.declared.exprs.Expr.{Expr}
use Rattle.script_lang.specs.declared.exprs.Expr.TheVariants as exprs
use Rattle.script_lang.specs.declared.exprs.PairText.{PairText}
use Rattle.script_lang.specs.declared.simplices.TermText.{TermText}
use Rattle.script_lang.specs.declared.simplices.ChainText.{ChainText}
use Rattle.script_lang.specs.declared.simplices.ChainText.TheVariants as chains
use Rattle.script_lang.specs.declared.commands.Command.{Command}
use Rattle.script_lang.specs.declared.commands.Command.TheVariants as commands
use Rattle.script_lang.specs.declared.faults.LineRefused.{LineRefused}
use Rattle.script_lang.specs.declared.faults.LineRefused.TheVariants as refusals
use Rattle.script_lang.specs.declared.words.SpaceWord.{SpaceWord}
use Rattle.script_lang.specs.declared.words.SpaceWord.TheVariants as space_words
use Rattle.script_lang.specs.declared.words.CommandWord.{CommandWord}
use Rattle.script_lang.specs.declared.words.CommandWord.TheVariants as command_words
use Rattle.script_lang.specs.Phrases.{Done, Sign, ◌▷◌, ◌∣◌, Until}
use Rattle.script_lang.specs.Bytes.{is_blank, is_parenthesis, is_semicolon, IsName, IsNumber, IsInteger}
use Rattle.script_lang.specs.Simplices.{IsFace, IsSimplex}

-- ---- runs

abbrev pub Run : Type 0
Run = List ℕ

abbrev pub opening : Run
opening = 40 ∷ []

abbrev pub closing : Run
closing = 41 ∷ []

-- whether a byte ends a run, behind so many open brackets
abbrev pub is_end : ℕ → ℕ → Bool
is_end brackets b = (is_parenthesis b || is_semicolon b) || (is_blank b && (brackets == 0))

-- how many brackets are open behind a byte
abbrev pub brackets_behind : ℕ → ℕ → ℕ
brackets_behind brackets b = if b == 91 then suc brackets else (if b == 93 then brackets - 1 else brackets)

-- whether a run goes on
abbrev pub goes_on : ℕ → List ℕ → Bool
goes_on brackets [] = false
goes_on brackets (b ∷ bytes) = not (is_end brackets b)

abbrev pub onto_first : ℕ → List Run → List Run
onto_first b [] = (b ∷ []) ∷ []
onto_first b (run ∷ more) = (b ∷ run) ∷ more

-- the runs of a line, behind so many open brackets
unfoldable pub runs_behind : ℕ → List ℕ → List Run
runs_behind brackets [] = []
runs_behind brackets (b ∷ bytes) =
    if is_parenthesis b then (b ∷ []) ∷ runs_behind 0 bytes
    else (if is_semicolon b then []
    else (if is_blank b && (brackets == 0) then runs_behind 0 bytes
    else (if goes_on (brackets_behind brackets b) bytes then onto_first b (runs_behind (brackets_behind brackets b) bytes)
    else (b ∷ []) ∷ runs_behind 0 bytes)))

abbrev pub runs : List ℕ → List Run
runs bytes = runs_behind 0 bytes

-- ---- words

-- one run that means this
pub record Word {A : Type 0} (Means : Run → A → Type 0) (runs : List Run) (v : A) : Type 0 where
  pub run : Run
  pub only : runs ≡ run ∷ []
  pub means : Means run v

-- a closing parenthesis, and this value
abbrev pub Closing : {A : Type 0} → A → List Run → A → Type 0
Closing v = Sign closing ▷ λ _. Done v

abbrev pub space_text : SpaceWord → Run
space_text space_words.Sphere = codes "sphere"
space_text space_words.Product = codes "crts-prdc"
space_text space_words.Suspension = codes "suspension"
space_text space_words.KZ1 = codes "k-z-1"
space_text space_words.Loop = codes "loop-space"
space_text space_words.Path = codes "path-space"
space_text space_words.Bundle = codes "bundle"
space_text space_words.Table = codes "table"

abbrev pub IsSpaceWord : Run → SpaceWord → Type 0
IsSpaceWord run word = run ≡ space_text word

abbrev pub command_text : CommandWord → Run
command_text command_words.Field = codes "field"
command_text command_words.Setf = codes "setf"
command_text command_words.Names = codes "names"
command_text command_words.Betti = codes "betti"
command_text command_words.Homology = codes "homology"
command_text command_words.Boundary = codes "boundary"
command_text command_words.Express = codes "express"

abbrev pub IsCommandWord : Run → CommandWord → Type 0
IsCommandWord run word = run ≡ command_text word

-- ---- spaces

-- "(" name integer ")"
abbrev pub IsPair : List Run → PairText → Type 0
IsPair = Sign opening ▷ λ _. Word IsName ▷ λ cell. Word IsInteger ▷ λ value. Closing (record { cell = cell; value = value })

-- "(" name { face } ")"
abbrev pub IsRow : List Run → RowText → Type 0
IsRow = Sign opening ▷ λ _. Word IsName ▷ λ name. Until (closing ∷ []) (Word IsFace) ▷ λ faces. Done (record { name = name; faces = faces })

-- what stands behind the word of a space, where IsPart is a space
abbrev pub IsSpaceBehind : (List Run → Expr → Type 0) → SpaceWord → List Run → Expr → Type 0
IsSpaceBehind IsPart space_words.Sphere = Word IsNumber ▷ λ n. Closing (exprs.Sphere n)
IsSpaceBehind IsPart space_words.Product = IsPart ▷ λ a. IsPart ▷ λ b. Closing (exprs.Product a b)
IsSpaceBehind IsPart space_words.Suspension = IsPart ▷ λ a. Closing (exprs.Suspension a)
IsSpaceBehind IsPart space_words.KZ1 = Closing exprs.KZ1
IsSpaceBehind IsPart space_words.Loop = IsPart ▷ λ a. Closing (exprs.Loop a)
IsSpaceBehind IsPart space_words.Path = IsPart ▷ λ a. Closing (exprs.Path a)
IsSpaceBehind IsPart space_words.Bundle = IsPart ▷ λ a. Until (closing ∷ []) IsPair ▷ λ values. Done (exprs.Bundle a values)
IsSpaceBehind IsPart space_words.Table = Until (closing ∷ []) IsRow ▷ λ rows. Done (exprs.Table rows)

abbrev pub IsNamed : List Run → Expr → Type 0
IsNamed = Word IsName ▷ λ name. Done (exprs.Name name)

abbrev pub IsEnclosed : (List Run → Expr → Type 0) → List Run → Expr → Type 0
IsEnclosed IsPart = Sign opening ▷ λ _. Word IsSpaceWord ▷ λ word. IsSpaceBehind IsPart word

-- a space with room for so many nested parentheses
unfoldable pub IsSpaceIn : ℕ → List Run → Expr → Type 0
IsSpaceIn zero = IsNamed
IsSpaceIn (suc room) = IsNamed ∣ IsEnclosed (IsSpaceIn room)

-- spaces nest at most 16 deep
abbrev pub IsSpace : List Run → Expr → Type 0
IsSpace = IsSpaceIn 16

-- ---- chains

-- "(" integer simplex ")"
abbrev pub IsTerm : List Run → TermText → Type 0
IsTerm = Sign opening ▷ λ _. Word IsInteger ▷ λ coeff. Word IsSimplex ▷ λ simplex. Closing (record { coeff = coeff; simplex = simplex })

-- a chain, and the closing parenthesis behind it
abbrev pub IsChain : List Run → ChainText → Type 0
IsChain = (Sign (codes "0") ▷ λ _. Closing chains.Zero)
    ∣ (IsTerm ▷ λ first. Until (closing ∷ []) IsTerm ▷ λ more. Done (chains.Terms (first ∷ more)))

-- ---- commands

-- what stands behind the word of a command
abbrev pub IsCommandBehind : CommandWord → List Run → Command → Type 0
IsCommandBehind command_words.Field = Word IsNumber ▷ λ n. Closing (commands.Field n)
IsCommandBehind command_words.Setf = Word IsName ▷ λ name. IsSpace ▷ λ a. Closing (commands.Setf name a)
IsCommandBehind command_words.Names = Closing commands.Names
IsCommandBehind command_words.Betti = IsSpace ▷ λ a. Word IsNumber ▷ λ low. Word IsNumber ▷ λ high. Closing (commands.Betti a low high)
IsCommandBehind command_words.Homology = IsSpace ▷ λ a. Word IsNumber ▷ λ n. Closing (commands.Homology a n)
IsCommandBehind command_words.Boundary = IsSpace ▷ λ a. Word IsNumber ▷ λ n. IsChain ▷ λ c. Done (commands.Boundary a n c)
IsCommandBehind command_words.Express = IsSpace ▷ λ a. Word IsNumber ▷ λ n. IsChain ▷ λ c. Done (commands.Express a n c)

abbrev pub IsCommand : List Run → Command → Type 0
IsCommand = Sign opening ▷ λ _. Word IsCommandWord ▷ λ word. IsCommandBehind word

-- ---- lines

-- these runs are this command, or there is none
abbrev pub IsAsked : List Run → Option Command → Type 0
IsAsked runs None = runs ≡ []
IsAsked runs (Some c) = IsCommand runs c

-- This line is this command, or a line without one. Lines have at most 65,536 bytes.
abbrev pub IsLine : List ℕ → Option Command → Type 0
IsLine line asked = (length line ≤ 65536) × IsAsked (runs line) asked

-- what was read is what a line is, unless memory ran out
abbrev pub IsReadAs : Option Command → Result (Option Command) LineRefused → Type 0
IsReadAs asked (Ok read) = read ≡ asked
IsReadAs asked (Err refusals.Memory) = Unit {0}
IsReadAs asked (Err (refusals.Syntax fault)) = ⊥
