use Rattle.std.proofs.Common.{◌<◌, ◌≤◌, length, refl, sym, ◌∙◌, ap, subst}
use Rattle.std.proofs.lemmas.List.{length-map}
use Rattle.fp_field.specs.Field.{number, minus}
use Rattle.echelons.specs.Echelon.{vector_plus, multiple}
use Rattle.elim_fp.specs.Rows.{DenseRow, vectors_of}
use Rattle.session_core.proofs.LessSteps.{wide-rows, less-none, less-row, less-more, less-all, row-at}
use Rattle.session_core.proofs.without.less_combination.Goals as goal

pub loop-i-init : goal.loop-i-init
loop-i-init c = record { prime = refl; wide = refl; values = less-none c.args.row.prime (length c.args.row.values) c.args.row.values c.requires.row.vector }

pub loop-i-preserved : goal.loop-i-preserved
loop-i-preserved c = record {
  prime = c.take_away.ensures.prime ∙ c.loop-i.invariant.prime;
  wide = c.take_away.ensures.width ∙ c.loop-i.invariant.wide;
  values = less-more c.args.row.prime (length c.args.row.values) c.args.row.values c.args.numbers.now.values (vectors_of c.args.rows.now) c.loop-i.i c.entry.result.value c.index-rows-i.result.values
      c.loop-i.rest.values c.take_away.new.self.values c.requires.row.vector (wide-rows c.args.row.prime (length c.args.row.values) c.args.rows.now c.requires.rows)
      (c.requires.lengths ∙ sym (length-map c.args.rows.now (λ (x : DenseRow). x.values)))
      (subst (λ n. c.loop-i.i < n) (sym (length-map c.args.rows.now (λ (x : DenseRow). x.values))) c.loop-i-test.true)
      (ap (λ x. length x.values) c.index-rows-i.is ∙ (c.requires.rows c.loop-i.i c.index-rows-i.result c.loop-i-test.true).vector.wide)
      (subst (λ q. c.entry.result.value < number q) c.requires.prime c.entry.ensures.element) c.entry.ensures.value
      (row-at c.args.rows.now c.loop-i.i c.index-rows-i.result c.loop-i-test.true c.index-rows-i.is) c.loop-i.invariant.values
      (c.in_ok-take_away.ensures.difference ∙ ap (λ q. vector_plus (number q) c.loop-i.rest.values (multiple (number q) (minus (number q) c.entry.result.value) c.index-rows-i.result.values)) c.loop-i.invariant.prime);
}

pub returns-clause-row : goal.returns-clause-row
returns-clause-row c = record {
  prime_is = c.loop-i.invariant.prime;
  vector = less-row c.args.row.prime (length c.args.row.values) c.args.row.values c.args.numbers.now.values (vectors_of c.args.rows.now) c.loop-i.i c.loop-i.rest.values c.requires.row.vector
      (wide-rows c.args.row.prime (length c.args.row.values) c.args.rows.now c.requires.rows) c.loop-i.invariant.values;
}

pub returns-clause-values : goal.returns-clause-values
returns-clause-values c =
    less-all c.args.row.prime (length c.args.row.values) c.args.row.values c.args.numbers.now.values (vectors_of c.args.rows.now) c.loop-i.i c.loop-i.rest.values
    (c.requires.lengths ∙ sym (length-map c.args.rows.now (λ (x : DenseRow). x.values)))
    (subst (λ n. n ≤ c.loop-i.i) (sym (length-map c.args.rows.now (λ (x : DenseRow). x.values))) c.loop-i-test.false) c.loop-i.invariant.values
