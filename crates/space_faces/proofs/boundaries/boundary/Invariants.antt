use Rattle.std.proofs.Common.{ℕ, ◌<◌, All, take}
use Rattle.fp_field.specs.Field.{number, SameMod}
use Rattle.fp_field.specs.Chains.{weigh, extend}
use Rattle.chain_core.specs.Formal.{numbers}
use Rattle.cells.specs.declared.cells.Cell.{Cell}
use Rattle.term_lang.specs.SpaceOf.{space_of}
use Rattle.space_faces.specs.CodeBoundaries.{code_d}
use Rattle.space_faces.proofs.boundaries.boundary.Given as goal

abbrev pub invariant-loop-cell : goal.invariant-loop-cell
invariant-loop-cell l = record {
  elements : All (λ t. t.1.value < number l.p) l.terms.items;
  sum : (w : Cell → ℕ) → SameMod (number l.p) (weigh w (numbers l.terms.items)) (weigh w (extend (code_d (number l.p) (space_of l.t)) (take l.cell-index l.z.terms)));
}
