use Rattle.std.proofs.Common.{◌≡◌, ◌<◌, ◌+◌, ◌-◌, ◌%◌, ℕ, Result, Err, length, All, get_or, List, ◌++◌, ◌∷◌, [], Ok, IfOk, slice_get, Some, refl, sym, ◌∙◌, ap, subst, arith}
use Rattle.std.proofs.lemmas.Option.{slice_get_read, same_Some}
use Rattle.std.proofs.lemmas.List.Elements.{All-push}
use Rattle.fp_field.specs.Field.{number}
use Rattle.fp_field.proofs.Primes.{number_pos}
use Rattle.oracle_iface.specs.SmallForms.{quote_row}
use Rattle.fp_field.specs.Chains.{weigh}
use Rattle.cells.proofs.OneSmall.{one_small}
use Rattle.term_lang.specs.declared.tables.Row.{Row}
use Rattle.term_lang.specs.declared.tables.TableFace.{TableFace}
use Rattle.chain_core.specs.Formal.{numbers}
use Rattle.rule_book.proofs.RowFaces.{faces_below, quoted_weight, has_dim, face_pushed, face_dropped, boundary_is}
use Rattle.rule_book.proofs.rows.row_boundary.Goals as goal

-- the row, and its faces
row_there : (r : ℕ) (rows t : List Row) (row : Row) → rows ≡ t → r < length t → row ≡ get_or rows r row → slice_get t r ≡ Some row
row_there r rows t row e h g = slice_get_read t (length t) r row refl h (g ∙ ap (λ xs. get_or xs r row) e)

face_at : (i : ℕ) (xs fs : List TableFace) (f : TableFace) → xs ≡ fs → i < length xs → f ≡ get_or xs i f → slice_get fs i ≡ Some f
face_at i xs fs f e h g = subst (λ ys. slice_get ys i ≡ Some f) e (slice_get_read xs (length xs) i f refl h g)

onto : {A E B : Type 0} (f : A → B) (r : Result A E) (b d : B) → IfOk r (λ x. f x ≡ b) → b ≡ d → IfOk r (λ x. f x ≡ d)
onto f (Ok x) b d h e = h ∙ e
onto f (Err x) b d h e = tt

pub overflow_sub-cell : goal.overflow_sub-cell
overflow_sub-cell c =
    let at = row_there c.args.r c.as_slice.result.now c.args.t.now c.index-as_slice-r.result (c.as_slice.ensures ∙ c.rows.ensures.rows) c.requires.row c.index-as_slice-r.is in
    has_dim (number c.args.p) c.args.t.now c.rows.ensures.form c.args.r c.index-as_slice-r.result at (c.loop-i.i - 1)
    (subst (λ fs. c.loop-i.i - 1 < length fs) c.loop-i.invariant.2 (omega (arith, c.loop-i.invariant.3, c.loop-i-test.true)))

pub loop-i-preserved-in-Continue-1 : goal.loop-i-preserved-in-Continue-1
loop-i-preserved-in-Continue-1 c =
    let at = row_there c.args.r c.as_slice.result.now c.args.t.now c.index-as_slice-r.result (c.as_slice.ensures ∙ c.rows.ensures.rows) c.requires.row c.index-as_slice-r.is in
    let here = face_at (c.loop-i.i - 1) c.as_slice-faces.result.now c.index-as_slice-r.result.faces c.index-faces-i.result c.loop-i.invariant.2
    (omega (arith, c.loop-i.invariant.3, c.loop-i-test.true)) c.index-faces-i.is in
    let again = face_at (c.loop-i.i - 1) c.as_slice-faces.result.now c.index-as_slice-r.result.faces c.index-faces-i-then-faces-i-eq0.result c.loop-i.invariant.2
    (omega (arith, c.loop-i.invariant.3, c.loop-i-test.true)) c.index-faces-i-then-faces-i-eq0.is in (
      face_pushed (number c.args.p) c.args.t.now c.rows.ensures.form c.args.r c.index-as_slice-r.result at (c.loop-i.i - 1) c.loop-i.i c.index-faces-i.result c.sign.result
          c.loop-i.terms.items c.push.new.self.items
          (λ w. weigh (quoted_weight c.args.t.now w) (faces_below (number c.args.p) c.args.t.now c.args.r (length c.as_slice-faces.result.now)))
          (omega (arith, c.loop-i-test.true)) here (ap (λ (x : TableFace). x.degens.mask) c.index-faces-i.is ∙ c.if-faces-i-eq0.true) c.sign.ensures.value
          (c.in_ok-push.ensures.items ∙ ap (λ n. c.loop-i.terms.items ++ (quote_row (c.index-as_slice-r.result.dim - 1) n, c.sign.result) ∷ [])
          (ap (λ (x : TableFace). x.row) (sym c.index-faces-i-then-faces-i-eq0.is ∙ same_Some c.index-faces-i-then-faces-i-eq0.result c.index-faces-i.result (sym again ∙ here))))
          c.loop-i.invariant.0,
      subst (All (λ x. x.1.value < number c.args.p)) (sym c.in_ok-push.ensures.items) (All-push (λ x. x.1.value < number c.args.p) c.loop-i.terms.items _ c.loop-i.invariant.1 c.sign.ensures.element),
      c.loop-i.invariant.2,
      omega (arith, c.loop-i.invariant.3),
    )

pub loop-i-preserved : goal.loop-i-preserved
loop-i-preserved c =
    let at = row_there c.args.r c.as_slice.result.now c.args.t.now c.index-as_slice-r.result (c.as_slice.ensures ∙ c.rows.ensures.rows) c.requires.row c.index-as_slice-r.is in
    let here = face_at (c.loop-i.i - 1) c.as_slice-faces.result.now c.index-as_slice-r.result.faces c.index-faces-i.result c.loop-i.invariant.2
    (omega (arith, c.loop-i.invariant.3, c.loop-i-test.true)) c.index-faces-i.is in (
      λ w. face_dropped (number c.args.p) c.args.t.now c.rows.ensures.form c.args.r c.index-as_slice-r.result at (c.loop-i.i - 1) c.loop-i.i c.index-faces-i.result
          (weigh w (numbers c.loop-i.terms.items)) (weigh (quoted_weight c.args.t.now w) (faces_below (number c.args.p) c.args.t.now c.args.r (length c.as_slice-faces.result.now)))
          (quoted_weight c.args.t.now w)
          (omega (arith, c.loop-i-test.true)) here (λ e. c.if-faces-i-eq0.false (sym (ap (λ (x : TableFace). x.degens.mask) c.index-faces-i.is) ∙ e))
          (c.loop-i.invariant.0 w),
      c.loop-i.invariant.1,
      c.loop-i.invariant.2,
      omega (arith, c.loop-i.invariant.3),
    )

pub from_terms-requires-clause-one_key : goal.from_terms-requires-clause-one_key
from_terms-requires-clause-one_key c = one_small

pub returns-clause-sum : goal.returns-clause-sum
returns-clause-sum c =
    let at = row_there c.args.r c.as_slice.result.now c.args.t.now c.index-as_slice-r.result (c.as_slice.ensures ∙ c.rows.ensures.rows) c.requires.row c.index-as_slice-r.is in
    let none : c.loop-i.i ≡ 0 = omega (arith, c.loop-i-test.false) in
    onto (λ x. x.terms) c.from_terms.result _ _ c.from_terms.ensures.sum
    (boundary_is (number c.args.p) c.args.t.now c.rows.ensures.form c.args.r c.index-as_slice-r.result at (number_pos c.args.p) (numbers c.loop-i.terms.items)
    (λ w. ap (λ n. n % number c.args.p) (let e : weigh w (numbers c.loop-i.terms.items) ≡ weigh w (numbers c.loop-i.terms.items) + 0 = omega arith in e)
    ∙ ap (λ i. (weigh w (numbers c.loop-i.terms.items) + weigh (quoted_weight c.args.t.now w) (faces_below (number c.args.p) c.args.t.now c.args.r i)) % number c.args.p) (sym none)
    ∙ c.loop-i.invariant.0 w ∙ ap (λ fs. weigh (quoted_weight c.args.t.now w) (faces_below (number c.args.p) c.args.t.now c.args.r (length fs)) % number c.args.p) c.loop-i.invariant.2))
