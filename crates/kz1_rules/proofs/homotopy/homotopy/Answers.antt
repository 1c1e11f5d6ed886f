use Rattle.std.proofs.Common.{◌≡◌, ◌<◌, ◌-◌, ℤ, pos, rules, sym, ◌∙◌, ap, length, drop, take, get_or, List}
use mir.Syntax.{w64}
use mir.Val.{SFits, to_z, of_z}
use Rattle.std.proofs.lemmas.Int.{to_z-of_z}
use lib.Signed.{lt_z}
use Rattle.fp_field.specs.Field.{number}
use Rattle.fp_field.proofs.FieldLaws.{is_field}
use Rattle.chain_core.specs.Formal.{numbers}
use Rattle.cells.proofs.OneKey.{one_cell}
use Rattle.fp_field.specs.Normal.{normal}
use Rattle.spaces.specs.Spaces.{kz1}
use Rattle.spaces.specs.Orders.{ordered, by_degree}
use Rattle.cells.specs.Order.{cell_cmp}
use Rattle.values.specs.Integers.{integers_h}
use Rattle.oracle_iface.specs.Keys.{quote_chain}
use Rattle.kz1_rules.specs.Lists.{ones, terms_beyond}
use Rattle.kz1_rules.proofs.Beyond.{h-chain, is_below, coefficient, parted, below-is}
use Rattle.kz1_rules.proofs.Kept.{kept_both}
use Rattle.kz1_rules.proofs.homotopy.homotopy.Goals.{then-is_negative, else-is_negative}
use Rattle.kz1_rules.proofs.homotopy.homotopy.Goals as goal

pub from_terms-requires-clause-one_key : goal.from_terms-requires-clause-one_key
from_terms-requires-clause-one_key c = one_cell

pub returns : goal.returns
returns c = kept_both c.from_terms.result _ _ _
    (λ z e f. λ j. record { prime = e j; terms = (f ∙ ap (normal cell_cmp (number c.args.p)) made ∙ chain) j }) c.from_terms.ensures.prime c.from_terms.ensures.sum
  where
    two : 1 < number c.args.p
    two = (is_field c.args.p).one_is_not_zero

    items : List ℤ
    items = c.as_slice-items.result.now

    fits : SFits w64 (get_or c.as_slice-items.result.now 0 (pos 0))
    fits = search rules

    below : lt_z (to_z w64 (of_z w64 (get_or c.as_slice-items.result.now 0 (pos 0)))) (pos 0) ≡ is_below (number c.args.p) two (get_or c.as_slice-items.result.now 0 (pos 0))
    below = ap (λ a. lt_z a (pos 0)) (to_z-of_z w64 (get_or c.as_slice-items.result.now 0 (pos 0)) fits) ∙ below-is (number c.args.p) two (get_or c.as_slice-items.result.now 0 (pos 0))

    factor : c.if-is_negative.coefficient ≡ coefficient (number c.args.p) two (lt_z (to_z w64 (of_z w64 (get_or c.as_slice-items.result.now 0 (pos 0)))) (pos 0))
    factor = elim c.if-is_negative.branch [
      | then-is_negative w ↦ w.coefficient-is ∙ sym (ap (coefficient (number c.args.p) two) w.if-is_negative.true)
      | else-is_negative w ↦ w.coefficient-is ∙ ap (λ n. n - 1) w.value.ensures ∙ sym (ap (coefficient (number c.args.p) two) w.if-is_negative.false)
    ]

    made : numbers c.in_ok-terms.terms.items ≡ terms_beyond (take (length c.as_slice-items.result.now - 1) (drop 1 c.as_slice-items.result.now)) c.if-is_negative.coefficient
        (ones (lt_z (to_z w64 (of_z w64 (get_or c.as_slice-items.result.now 0 (pos 0)))) (pos 0)) c.term_count.result)
    made = c.in_ok-terms.ensures.terms

    chain : normal cell_cmp (number c.args.p) (terms_beyond (take (length c.as_slice-items.result.now - 1) (drop 1 c.as_slice-items.result.now)) c.if-is_negative.coefficient
        (ones (lt_z (to_z w64 (of_z w64 (get_or c.as_slice-items.result.now 0 (pos 0)))) (pos 0)) c.term_count.result))
        ≡ quote_chain kz1 (normal (by_degree (ordered kz1).cmp) (number c.args.p) (integers_h (number c.args.p) c.args.list.now))
    chain = h-chain (number c.args.p) two c.args.list.now (get_or c.as_slice-items.result.now 0 (pos 0)) (take (length c.as_slice-items.result.now - 1) (drop 1 c.as_slice-items.result.now))
        (lt_z (to_z w64 (of_z w64 (get_or c.as_slice-items.result.now 0 (pos 0)))) (pos 0)) c.term_count.result c.if-is_negative.coefficient
        (sym c.as_slice-items.ensures ∙ parted (number c.args.p) two c.as_slice-items.result.now (λ e. c.if-items-eq0.false e)) c.requires.free below c.term_count.ensures factor
