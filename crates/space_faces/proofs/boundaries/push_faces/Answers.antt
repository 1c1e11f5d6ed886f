use Rattle.std.proofs.Common.{◌≡◌, ◌+◌, ◌*◌, ◌%◌, ◌^◌, ◌<◌, ◌≤◌, suc, add-one, sym, ◌∙◌, ap, subst, arith}
use Rattle.std.proofs.Math.Nat.{mod-lt}
use Rattle.fp_field.specs.Field.{number}
use Rattle.fp_field.specs.Chains.{weigh}
use Rattle.fp_field.proofs.Primes.{number_pos}
use Rattle.chain_core.specs.Formal.{numbers}
use Rattle.cells.specs.Dim.{dim_of}
use Rattle.term_lang.specs.SpaceOf.{space_of}
use Rattle.term_lang.specs.Quote.{degens_of}
use Rattle.oracle_iface.specs.CodeSizes.{cell_integer}
use Rattle.space_faces.specs.Boundaries.{IsLowCell}
use Rattle.space_faces.specs.CodeBoundaries.{code_d}
use Rattle.space_faces.proofs.FaceSteps.{next_sign}
use Rattle.space_faces.proofs.CellSteps.{bare_simplex, cell_pushed, front_all, kept_elements, plus_none, one_times}
use Rattle.space_faces.proofs.boundaries.push_faces.Goals as goal

pub loop-i-init : goal.loop-i-init
loop-i-init c = record {
  elements = c.requires.elements;
  small = c.requires.element;
  sign_is = ap (λ m. m % number c.args.p) (one_times c.args.coefficient.value);
  sum = λ w. ap (λ m. m % number c.args.p) (plus_none (weigh w (numbers c.args.terms.now.items)) c.args.coefficient.value);
}

pub face_of-requires-clause-simplex : goal.face_of-requires-clause-simplex
face_of-requires-clause-simplex c =
    bare_simplex (space_of c.args.t.now) (record { degens = degens_of 0; cell = c.in_ok-copy_cell.field-0 }) (λ i. 0) (subst (IsLowCell (space_of c.args.t.now)) (sym c.in_ok-copy_cell.ensures) c.requires.cell)

pub face_of-requires-clause-integers : goal.face_of-requires-clause-integers
face_of-requires-clause-integers c = subst (λ k. cell_integer k ≤ 2 ^ 40) (sym c.in_ok-copy_cell.ensures) c.requires.cell.2

pub loop-i-preserved : goal.loop-i-preserved
loop-i-preserved c =
    let low = subst (IsLowCell (space_of c.args.t.now)) (sym c.in_ok-copy_cell.ensures) c.requires.cell in
    record {
      elements = kept_elements (number c.args.p) c.in_ok-face.face c.loop-i.signed c.loop-i.terms.items c.push_face.new.terms.items c.in_ok-push_face.ensures c.loop-i.invariant.small c.loop-i.invariant.elements;
      small = subst (λ v. v < number c.args.p) (sym c.neg-signed.ensures) (mod-lt _ (number_pos c.args.p));
      sign_is = rw add-one
          (next_sign (number c.args.p) c.loop-i.i c.loop-i.signed.value c.neg-signed.result.value c.args.coefficient.value (number_pos c.args.p) c.loop-i.invariant.small c.neg-signed.ensures c.loop-i.invariant.sign_is);
      sum = λ w. rw add-one
          (cell_pushed (number c.args.p) (space_of c.args.t.now) c.requires.allowed c.requires.built c.in_ok-copy_cell.field-0 c.dim-degree.result low
          (c.dim-degree.ensures ∙ ap dim_of (sym c.in_ok-copy_cell.ensures)) c.if-degree-eq0.false w c.loop-i.i c.in_ok-face.face c.loop-i.signed c.args.coefficient.value
          (weigh w (numbers c.args.terms.now.items)) c.loop-i.terms.items c.push_face.new.terms.items c.in_ok-face.ensures.simplex c.in_ok-face.ensures.form
          c.loop-i.invariant.sign_is c.in_ok-push_face.ensures (c.loop-i.invariant.sum w));
    }

pub returns-clause-sum : goal.returns-clause-sum
returns-clause-sum c w =
    let end : c.loop-i.i ≡ suc c.dim-degree.result = omega arith in
    c.loop-i.invariant.sum w
    ∙ ap (λ d. (weigh w (numbers c.args.terms.now.items) + c.args.coefficient.value * weigh w d) % number c.args.p)
    (front_all (number c.args.p) (space_of c.args.t.now) c.in_ok-copy_cell.field-0 c.dim-degree.result c.loop-i.i (c.dim-degree.ensures ∙ ap dim_of (sym c.in_ok-copy_cell.ensures)) c.if-degree-eq0.false end
    ∙ ap (λ k. code_d (number c.args.p) (space_of c.args.t.now) k) c.in_ok-copy_cell.ensures)
