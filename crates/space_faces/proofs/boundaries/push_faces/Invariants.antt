use Rattle.std.proofs.Common.{ℕ, ◌+◌, ◌-◌, ◌*◌, ◌<◌, All}
use Rattle.fp_field.specs.Field.{number, SameMod, sign}
use Rattle.fp_field.specs.Chains.{weigh}
use Rattle.chain_core.specs.Formal.{numbers}
use Rattle.cells.specs.declared.cells.Cell.{Cell}
use Rattle.term_lang.specs.Forms.{cell_form}
use Rattle.term_lang.specs.SpaceOf.{space_of}
use Rattle.space_faces.proofs.FaceSteps.{front}
use Rattle.space_faces.proofs.boundaries.push_faces.Given as goal

abbrev pub invariant-loop-i : goal.invariant-loop-i
invariant-loop-i l = record {
  elements : All (λ t. t.1.value < number l.p) l.terms.items;
  small : l.signed.value < number l.p;
  sign_is : SameMod (number l.p) l.signed.value (sign (number l.p) l.i * l.fn.coefficient.value);
  sum : (w : Cell → ℕ) → SameMod (number l.p) (weigh w (numbers l.terms.items))
      (weigh w (numbers l.initial.terms.items) + l.fn.coefficient.value * weigh w (front (number l.p) (space_of l.t) (l.degree - 1) l.i (cell_form l.x.cell (space_of l.t))));
}
