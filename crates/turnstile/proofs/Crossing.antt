-- A turnstile, a pass and a list of passes may cross threads and be shared among them where the value may cross them.
-- The seat has no clause of its own for sharing: what a `&` to it holds is a share of what it owns, which may cross.
use denote.RattleType.{RattleType}
use denote.Param.Send.{IsSend, IsSync, sendable, part_keyless}
use Rattle.std.proofs.vec.Vec.TheSendSync as vec
use Rattle.atomic_table.specs.contracts.shared.Seat.{the_row as seat_row}
use Rattle.atomic_table.proofs.shared.Seat.TheSendSync.{the_send}
use Rattle.turnstile.specs.declared.counted.Counted.{Ghosts}
use Rattle.turnstile.specs.contracts.pass.Pass.{the_row as pass_row}
use Rattle.turnstile.specs.contracts.list.PassList.{the_row as list_row}

pub seat_sync : (S V : RattleType) → IsSend S → IsSync (seat_row S V)
seat_sync S V s = record { shared = λ d b o κ q. part_keyless (seat_row S V) (the_send S V s) q d b o }

pub pass_sync : (B E : RattleType) (g : Ghosts B.Denot E.Denot) → IsSend B → IsSync (pass_row B E g)
pass_sync B E g s = search (sendable, seat_sync) depth 20

pub list_sync : (B E : RattleType) (g : Ghosts B.Denot E.Denot) → IsSend B → IsSync (list_row B E g)
list_sync B E g s = search (sendable, pass_sync, vec.the_sync) depth 20
