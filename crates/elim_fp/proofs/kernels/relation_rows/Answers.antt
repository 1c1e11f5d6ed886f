use Rattle.std.proofs.Common.{◌≡◌, ◌↔◌, ◌+◌, length, get_or, ◌∙◌, ap, subst, arith}
use Rattle.fp_field.specs.Field.{number}
use Rattle.fp_field.proofs.Primes.{number_pos}
use Rattle.fp_field.proofs.FieldLaws.{is_field}
use Rattle.echelons.specs.Echelon.{Vector, in_span, reduced_basis, IsCombination}
use Rattle.elim_fp.specs.Rows.{vectors_of, tails}
use Rattle.elim_fp.proofs.Left.{length-vectors}
use Rattle.elim_fp.proofs.Related.{read-same, rows-wide}
use Rattle.elim_fp.proofs.TableRows.{row-placed}
use Rattle.elim_fp.proofs.Tails.{relations-basis, rows-from, tails-vectors}
use Rattle.elim_fp.proofs.kernels.relation_rows.Goals as goal

pub tails_of-requires-clause-widths : goal.tails_of-requires-clause-widths
tails_of-requires-clause-widths c = rw c.deref-2.ensures.value (λ k d l.
    let e : length (get_or c.in_ok-table.table.items k d).values ≡ c.args.width + length c.args.rows.now =
    (row-placed c.args.p (c.args.width + length c.args.rows.now) c.in_ok-table.table.items c.in_ok-table.ensures.table k (get_or c.in_ok-table.table.items k d) l
    (read-same c.in_ok-table.table.items k d (get_or c.in_ok-table.table.items k d) l)).vector.wide in omega arith)

pub reduce_rows-requires : goal.reduce_rows-requires
reduce_rows-requires c =
    rw c.deref-3.ensures.value (rows-from c.args.p (length c.args.rows.now) c.in_ok-tails.tails.items (tails c.args.width (vectors_of c.in_ok-table.table.items))
    (c.in_ok-tails.ensures.rows ∙ ap (λ xs. tails c.args.width (vectors_of xs)) c.deref-2.ensures.value) c.in_ok-tails.ensures.primes
    (tails-vectors (number c.args.p) c.args.width (length c.args.rows.now) (number_pos c.args.p) (vectors_of c.in_ok-table.table.items) c.in_ok-table.ensures.table.placed))

pub returns-clause-basis : goal.returns-clause-basis
returns-clause-basis c =
    let n = length c.args.rows.now in
    let images = vectors_of c.args.rows.now in
    let tails-are = ap vectors_of c.deref-3.ensures.value ∙ c.in_ok-tails.ensures.rows ∙ ap (λ xs. tails c.args.width (vectors_of xs)) c.deref-2.ensures.value in
    relations-basis (number c.args.p) c.args.width n (is_field c.args.p) images (vectors_of c.in_ok-table.table.items) (vectors_of c.in_ok-basis.basis.items)
    (rows-wide c.args.p c.args.width c.args.rows.now c.requires.rows) (length-vectors c.args.rows.now) c.in_ok-table.ensures.table.placed
    (subst (λ vs. (x : Vector) → IsCombination (number c.args.p) (c.args.width + n) (vectors_of c.in_ok-table.table.items) x ↔ IsCombination (number c.args.p) (c.args.width + n) vs x)
    (ap vectors_of c.deref.ensures.value ∙ c.in_ok-marked.ensures.rows) c.in_ok-table.ensures.span)
    c.in_ok-basis.ensures.echelon (c.in_ok-basis.ensures.basis ∙ ap (λ vs. reduced_basis (number c.args.p) n (in_span (number c.args.p) n vs)) tails-are)
