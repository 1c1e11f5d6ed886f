-- How a script is cut into lines while it is read.
--
-- A script comes in pieces. A piece closes the lines whose line feed stands in it; the first of them begins with what the pieces before it
-- left open, and what stands behind the last line feed is left open. However a script is cut into pieces, the lines that are closed are the
-- same, those that a line feed ends. Of an open line no more is kept than shows that a line is too long.
--
-- Main definitions: `closed_lines`, `open_line`, `kept`, and over several pieces `lines_closed`.
-- Worked value: where "ab" is open, the piece "c\n\nd" closes the lines "abc" and "", and leaves "d" open.
use Rattle.std.specs.Prelude.{◌≡◌, ℕ, ◌<◌, List, [], ◌∷◌, ◌++◌, length, take, if◌then◌else◌, ◌==◌}

-- the lines that a piece closes, where this much of a line is open before it
abbrev pub closed_lines : List ℕ → List ℕ → List (List ℕ)
closed_lines line [] = []
closed_lines line (b ∷ rest) = if b == 10 then line ∷ closed_lines [] rest else closed_lines (line ++ b ∷ []) rest

-- what is open behind a piece
abbrev pub open_line : List ℕ → List ℕ → List ℕ
open_line line [] = line
open_line line (b ∷ rest) = if b == 10 then open_line [] rest else open_line (line ++ b ∷ []) rest

-- the lines that pieces close, one piece after the other
abbrev pub lines_closed : List ℕ → List (List ℕ) → List (List ℕ)
lines_closed line [] = []
lines_closed line (piece ∷ pieces) = closed_lines line piece ++ lines_closed (open_line line piece) pieces

-- at the end of the script what is open is the last line, unless it is empty
abbrev pub last_line : List ℕ → List (List ℕ)
last_line [] = []
last_line (b ∷ line) = (b ∷ line) ∷ []

-- what is kept of an open line: a line of more than 65,536 bytes is refused, whatever its bytes are
abbrev pub kept : List ℕ → List ℕ
kept line = take 65537 line

-- bytes whose first line feed has this front before it and this rest behind it
pub record EndsLine (bytes front rest : List ℕ) : Type 0 where
  pub closed : (line : List ℕ) → closed_lines line bytes ≡ (line ++ front) ∷ closed_lines [] rest
  pub open_then : (line : List ℕ) → open_line line bytes ≡ open_line [] rest
  pub less : length rest < length bytes

-- bytes without a line feed
pub record EndsNoLine (bytes : List ℕ) : Type 0 where
  pub closed : (line : List ℕ) → closed_lines line bytes ≡ []
  pub open_then : (line : List ℕ) → open_line line bytes ≡ line ++ bytes
