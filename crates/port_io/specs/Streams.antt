-- What a port reads and writes: the bytes of a reader and of a writer, where std's `Read` and `Write` know them, and the file that each is of.
--
-- Main definitions: `PortFiles`, `files_between`, `files_of`.
-- Worked value: the port of the script "asked" is of the files "asked" and "asked.out".
use Rattle.std.specs.Prelude.{ℕ, List, ◌++◌, codes, Option, None, Some}

-- the file that is read and the file that is written
pub record PortFiles : Type 0 where
  pub script : List ℕ
  pub replies : List ℕ

-- those of a reader and a writer, where both are of a file
abbrev pub files_between : Option (List ℕ) → Option (List ℕ) → Option PortFiles
files_between (Some script) (Some replies) = Some (record { script = script; replies = replies })
files_between script replies = None

-- the file of the replies to a script
abbrev pub replies_to : List ℕ → List ℕ
replies_to script = script ++ codes ".out"

-- those of a script
abbrev pub files_of : List ℕ → Option PortFiles
files_of script = Some (record { script = script; replies = replies_to script })
