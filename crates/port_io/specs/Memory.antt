-- A port over memory: its bytes, and the calls of it that fail.
--
-- It moves at most a piece in each call, so that a caller meets short reads and short writes, and it fails exactly
-- at the calls whose numbers stand in two lists, so that a caller meets faults. It is this project's own.
--
-- Main definitions: `Memory`, `new_memory`, `state_of`, `KeepsSettings`.
-- Worked value: over the input "abcde" with pieces of 2 and the list of bad reads [2], the first read gives "ab", the
-- second fails, and the third gives "cd".
use Rattle.std.specs.Prelude.{◌≡◌, ℕ, List, [], Some}
use Rattle.port_io.specs.Ports.{PortState}

pub record Memory : Type 0 where
  pub left : List ℕ
  pub written : List ℕ
  -- how many bytes one call moves at most
  pub piece : ℕ
  -- how many more bytes can be written
  pub room : ℕ
  -- the numbers of the reads and of the writes that fail, counted from 1
  pub bad_reads : List ℕ
  pub bad_writes : List ℕ
  -- how many reads and writes there were, failed ones too
  pub reads : ℕ
  pub writes : ℕ
  pub read_faults : ℕ
  pub write_faults : ℕ
  pub bytes_read : ℕ
  pub empty_reads : ℕ

-- what it means as a port
abbrev pub state_of : Memory → PortState
state_of m = record {
  left = Some m.left;
  written = Some m.written;
  read_faults = m.read_faults;
  write_faults = m.write_faults;
  bytes_read = m.bytes_read;
  empty_reads = m.empty_reads;
}

-- a new one
abbrev pub new_memory : List ℕ → ℕ → ℕ → List ℕ → List ℕ → Memory
new_memory input piece room bad_reads bad_writes = record {
  left = input;
  written = [];
  piece = piece;
  room = room;
  bad_reads = bad_reads;
  bad_writes = bad_writes;
  reads = 0;
  writes = 0;
  read_faults = 0;
  write_faults = 0;
  bytes_read = 0;
  empty_reads = 0;
}

-- what no call changes
pub record KeepsSettings (old new : Memory) : Type 0 where
  pub piece : new.piece ≡ old.piece
  pub bad_reads : new.bad_reads ≡ old.bad_reads
  pub bad_writes : new.bad_writes ≡ old.bad_writes
