use Rattle.std.proofs.Common.{◌∙◌, ap, Some, None, arith, SFits, w64, rules}
use Rattle.std.specs.Prelude.{nat_abs}
use Rattle.std.proofs.lemmas.Int.{to_z-of_z}
use Rattle.oracle_iface.specs.declared.bodies.Kind.TheVariants.{Integer}
use Rattle.reply_text.specs.declared.refusals.Refusal.TheVariants.{Over}
use Rattle.term_lang.specs.Rows.{rows_of}
use Rattle.session_core.proofs.OnePair.{unknown_is, repeated_is, over_is, fine_is}
use Rattle.session_core.proofs.pairs.pair_fault.Goals as goal

pub returns-then-not-has_cell : goal.returns-then-not-has_cell
returns-then-not-has_cell c =
    unknown_is (rows_of c.args.rows.now) c.args.pairs.now c.args.k c.index-pairs-k.result c.requires c.index-pairs-k.is c.if-not-has_cell.ensures

pub returns-then-is_named : goal.returns-then-is_named
returns-then-is_named c =
    repeated_is (rows_of c.args.rows.now) c.args.pairs.now c.args.k c.index-pairs-k.result c.requires c.index-pairs-k.is c.if-not-has_cell.ensures c.if-is_named.ensures

pub returns-then-size-gt-MOST_VALUE : goal.returns-then-size-gt-MOST_VALUE
returns-then-size-gt-MOST_VALUE c =
    let v = c.index-pairs-k.result.value in
    let f : SFits w64 v = search rules in
    let e = c.unsigned_abs-size.ensures.value ∙ ap nat_abs (to_z-of_z w64 v f) in
    ap (λ n. Some (Over None Integer n)) e
    ∙ over_is (rows_of c.args.rows.now) c.args.pairs.now c.args.k c.index-pairs-k.result c.requires c.index-pairs-k.is c.if-not-has_cell.ensures c.if-is_named.ensures
    (omega (arith, c.if-size-gt-MOST_VALUE.true, e))

pub returns : goal.returns
returns c =
    let v = c.index-pairs-k.result.value in
    let f : SFits w64 v = search rules in
    let e = c.unsigned_abs-size.ensures.value ∙ ap nat_abs (to_z-of_z w64 v f) in
    fine_is (rows_of c.args.rows.now) c.args.pairs.now c.args.k c.index-pairs-k.result c.requires c.index-pairs-k.is c.if-not-has_cell.ensures c.if-is_named.ensures
    (omega (arith, c.if-size-gt-MOST_VALUE.false, e))
