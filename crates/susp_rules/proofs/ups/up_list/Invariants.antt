use Rattle.std.proofs.Common.{◌≡◌, take, map}
use Rattle.cells.specs.declared.cells.SmallCell.TheVariants.{Up}
use Rattle.susp_rules.proofs.ups.up_list.Given as goal

abbrev pub invariant-loop-y : goal.invariant-loop-y
invariant-loop-y l = record { raised : l.raised ≡ map (λ y. Up y) (take l.y-index l.cells) }
