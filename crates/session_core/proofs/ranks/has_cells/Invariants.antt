use Rattle.std.specs.List.{Contains}
use Rattle.std.proofs.Common.{take}
use Rattle.fp_field.specs.Chains.{Each}
use Rattle.chain_core.specs.Formal.{numbers}
use Rattle.session_core.proofs.ranks.has_cells.Given as goal

abbrev pub invariant-loop-y : goal.invariant-loop-y
invariant-loop-y l = Each (Contains l.cells) (numbers (take l.y-index l.y-items))
