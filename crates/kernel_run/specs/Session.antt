-- What a session does to its port.
use Rattle.std.specs.Prelude.{◌≡◌, ℕ, ◌<◌, List, length, take}
use Rattle.std.specs.Io.KnownBytes.{prepend_known, append_known, IsAtEnd}
use Rattle.port_io.specs.Ports.{PortState, raised, Rose}

-- these bytes were read, and no read answered that there are no more
pub record ReadsBytes (before after : PortState) (got : List ℕ) : Type 0 where
  pub left : before.left ≡ prepend_known got after.left
  pub bytes_read : after.bytes_read ≡ raised before.bytes_read (length got)
  pub empty_reads : after.empty_reads ≡ before.empty_reads

-- a read answered that there are no more bytes
pub record ReadsEnd (before after : PortState) : Type 0 where
  pub left : after.left ≡ before.left
  pub bytes_read : after.bytes_read ≡ before.bytes_read
  pub empty_reads : Rose before.empty_reads after.empty_reads
  pub at_end : IsAtEnd after.left

-- a read failed
pub record ReadFails (before after : PortState) : Type 0 where
  pub left : after.left ≡ before.left
  pub bytes_read : after.bytes_read ≡ before.bytes_read
  pub empty_reads : after.empty_reads ≡ before.empty_reads
  pub read_faults : Rose before.read_faults after.read_faults

-- the side of the writes as before
pub record WritesNothing (before after : PortState) : Type 0 where
  pub written : after.written ≡ before.written
  pub write_faults : after.write_faults ≡ before.write_faults

-- the side of the reads as before
pub record ReadsNothing (before after : PortState) : Type 0 where
  pub left : after.left ≡ before.left
  pub read_faults : after.read_faults ≡ before.read_faults
  pub bytes_read : after.bytes_read ≡ before.bytes_read
  pub empty_reads : after.empty_reads ≡ before.empty_reads

-- a text was written whole
pub record WritesOn (before after : PortState) (text : List ℕ) : Type 0 where
  pub written : after.written ≡ append_known before.written text
  pub write_faults : after.write_faults ≡ before.write_faults

-- a text was written up to a fault
pub record WritesPart (before after : PortState) (text : List ℕ) : Type 0 where
  pub count : ℕ
  pub less : count < length text
  pub written : after.written ≡ append_known before.written (take count text)
  pub write_faults : Rose before.write_faults after.write_faults
