use Rattle.std.proofs.Common.{◌≡◌, ◌<◌, take, add-one, sym, subst}
use Rattle.fp_field.specs.Field.{number, SameMod}
use Rattle.fp_field.specs.Chains.{weigh, extend}
use Rattle.fp_field.specs.Normal.{normal}
use Rattle.chain_core.specs.Formal.{numbers}
use Rattle.chain_core.proofs.MapSteps.{at_place, whole, Each-at}
use Rattle.cells.specs.Order.{cell_cmp}
use Rattle.cells.proofs.OneKey.{one_cell}
use Rattle.term_lang.specs.SpaceOf.{space_of}
use Rattle.space_faces.specs.Boundaries.{IsLowCell}
use Rattle.space_faces.specs.CodeBoundaries.{code_d}
use Rattle.space_faces.proofs.ShownChains.{chain_told, one_more, if_ok}
use Rattle.space_faces.proofs.boundaries.boundary.Goals as goal

pub push_faces-requires-clause-cell : goal.push_faces-requires-clause-cell
push_faces-requires-clause-cell c =
    Each-at (IsLowCell (space_of c.args.t.now)) c.args.z.now.terms c.loop-cell.cell-index (c.loop-cell-item.result.0, c.loop-cell-item.result.1.value)
    (rw c.terms-cell-items.ensures.terms at (at_place c.terms-cell-items.result.now c.loop-cell.cell-index c.loop-cell-item.result c.loop-cell-test.true c.loop-cell-item.is))
    c.requires.cells

pub push_faces-requires-clause-element : goal.push_faces-requires-clause-element
push_faces-requires-clause-element c =
    subst (λ q. c.loop-cell-item.result.1.value < number q) (sym c.prime-p.ensures)
    (rw c.loop-cell-item.is (c.terms-cell-items.ensures.elements c.loop-cell.cell-index _ c.loop-cell-test.true))

pub loop-cell-preserved : goal.loop-cell-preserved
loop-cell-preserved c =
    let here = rw c.terms-cell-items.ensures.terms at (at_place c.terms-cell-items.result.now c.loop-cell.cell-index c.loop-cell-item.result c.loop-cell-test.true c.loop-cell-item.is) in
    record {
      elements = c.in_ok-push_faces.ensures.elements;
      sum = λ w. rw add-one
          (one_more (number c.prime-p.result) (code_d (number c.prime-p.result) (space_of c.args.t.now)) w c.args.z.now.terms c.loop-cell.cell-index (c.loop-cell-item.result.0, c.loop-cell-item.result.1.value)
          (numbers c.loop-cell.terms.items) (numbers c.push_faces.new.terms.items) here (c.loop-cell.invariant.sum w) (c.in_ok-push_faces.ensures.sum w));
    }

pub from_terms-requires-clause-one_key : goal.from_terms-requires-clause-one_key
from_terms-requires-clause-one_key c = one_cell

pub returns-clause-terms : goal.returns-clause-terms
returns-clause-terms c =
    let X = space_of c.args.t.now in
    let all = subst (λ d. take c.loop-cell.cell-index d ≡ d) c.terms-cell-items.ensures.terms (whole c.terms-cell-items.result.now c.loop-cell.cell-index c.loop-cell-test.false) in
    if_ok c.from_terms.result (normal cell_cmp (number c.prime-p.result) (numbers c.loop-cell.terms.items)) _ c.from_terms.ensures.sum
    (chain_told X c.requires.allowed c.requires.built c.args.z.now.prime c.prime-p.result c.prime-p.ensures c.args.z.now.terms c.requires.cells (numbers c.loop-cell.terms.items) (λ w.
    subst (λ d. SameMod (number c.prime-p.result) (weigh w (numbers c.loop-cell.terms.items)) (weigh w (extend (code_d (number c.prime-p.result) X) d))) all (c.loop-cell.invariant.sum w)))
