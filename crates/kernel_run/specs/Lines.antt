-- How a script is cut into lines.
--
-- Each line feed ends a line, and a rest without one is the last line. Of a script that is too long only the lines that
-- a line feed ends count. A line is its bytes without the line feed.
--
-- Main definition: `cut`. `line_len` serves the code that finds the first line.
-- Worked value: "ab\n\nc" has the lines "ab", "" and "c"; as the part of a script that is too long, "ab" and "".
use Rattle.std.specs.Prelude.{ℕ, suc, List, [], ◌∷◌, if◌then◌else◌, ◌==◌, Bool}

-- a byte before the first line; with no line there is one from now on
abbrev pub onto_first : ℕ → List (List ℕ) → List (List ℕ)
onto_first b [] = (b ∷ []) ∷ []
onto_first b (line ∷ lines) = (b ∷ line) ∷ lines

-- each line feed ends a line, and a rest without one is the last line
abbrev pub lines_of : List ℕ → List (List ℕ)
lines_of [] = []
lines_of (b ∷ rest) = if b == 10 then [] ∷ lines_of rest else onto_first b (lines_of rest)

-- a byte before the first line, if there is one
abbrev pub into_first : ℕ → List (List ℕ) → List (List ℕ)
into_first b [] = []
into_first b (line ∷ lines) = (b ∷ line) ∷ lines

-- the lines that a line feed ends
abbrev pub ended_lines_of : List ℕ → List (List ℕ)
ended_lines_of [] = []
ended_lines_of (b ∷ rest) = if b == 10 then [] ∷ ended_lines_of rest else into_first b (ended_lines_of rest)

-- the lines of a script, or of the part of one that is too long
abbrev pub cut : Bool → List ℕ → List (List ℕ)
cut long bytes = if long then ended_lines_of bytes else lines_of bytes

-- how many bytes stand before the first line feed
abbrev pub line_len : List ℕ → ℕ
line_len [] = 0
line_len (b ∷ rest) = if b == 10 then 0 else suc (line_len rest)
