use Rattle.std.proofs.Common.{arith}
use Rattle.std.proofs.lemmas.Grind.{common_steps}
use Rattle.kz1_group.proofs.Calls.{face-between, face-end}
use Rattle.kz1_group.proofs.lists.ints_face.Goals as goal
use Rattle.kz1_group.proofs.lists.ints_face.Goals.{then-i-items+in_ok-push+in_ok-put-3, else-i-items}

pub returns : goal.returns
returns c = elim c.if-i-items.branch [
  | then-i-items+in_ok-push+in_ok-put-3 w ↦ grind (arith, common_steps, face-between)
  | else-i-items w ↦ grind (arith, common_steps, face-end)
]
