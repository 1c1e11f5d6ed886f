use Rattle.std.proofs.Common.{◌≡◌, ◌<◌, ◌+◌, ◌*◌, All, map, length, get_or, sym, ◌∙◌, ap, subst, arith}
use Rattle.cells.specs.Small.{small_cmp}
use Rattle.cells.specs.Laws.{small_total}
use Rattle.cells.proofs.OneSmall.{one_small}
use Rattle.fp_field.specs.Field.{number, SameMod}
use Rattle.fp_field.specs.Chains.{weigh, combination}
use Rattle.fp_field.specs.Normal.{normal}
use Rattle.fp_field.specs.declared.element.Fp.{Fp}
use Rattle.oracle_iface.specs.declared.cell_values.CellValue.{CellValue}
use Rattle.fp_field.proofs.Primes.{number_pos}
use Rattle.fp_field.proofs.Normals.{normal-same}
use Rattle.chain_core.specs.Formal.{numbers}
use Rattle.homology_rules.specs.Held.{small_in}
use Rattle.std.proofs.lemmas.Result.{IfOk-weaker}
use Rattle.homology_rules.proofs.SumSteps.{sum_more, sum_all}
use Rattle.homology_rules.proofs.sums.small_sum_of.Goals as goal
use Rattle.homology_rules.proofs.sums.small_sum_of.Goals.{After-index-terms-i}
use Rattle.homology_rules.proofs.sums.small_sum_of.Given.{Over as Types}

same_prime : (g : Types) (c : After-index-terms-i g) → c.small_chain.result.now.prime ≡ c.args.p
same_prime g c =
    ap (λ x. x.prime) c.small_chain.ensures ∙ ap (λ v. (small_in v.outcome).prime) (c.get.ensures ∙ c.index-cells-i.is)
    ∙ (c.requires.chains c.loop-i.i c.index-cells-i.result c.loop-i-test.true).1

same_terms : (g : Types) (c : After-index-terms-i g) → c.small_chain.result.now.terms ≡ (small_in c.index-cells-i.result.outcome).terms
same_terms g c = ap (λ x. x.terms) c.small_chain.ensures ∙ ap (λ v. (small_in v.outcome).terms) c.get.ensures

pub push_small_scaled-requires : goal.push_small_scaled-requires
push_small_scaled-requires g c = record {
  element = subst (λ q. (get_or c.args.terms.now c.loop-i.i c.index-terms-i.result).1.value < number q) (sym (same_prime g c))
      (c.requires.elements c.loop-i.i c.index-terms-i.result (let l : c.loop-i.i < length c.args.cells.now = c.loop-i-test.true in omega (arith, c.requires.lengths)));
  elements = subst (λ q. All (λ t. t.1.value < number q) c.loop-i.sum.items) (sym (same_prime g c)) c.loop-i.invariant.elements;
}

pub loop-i-preserved : goal.loop-i-preserved
loop-i-preserved g c = record {
  elements = subst (λ q. All (λ t. t.1.value < number q) c.push_small_scaled.new.sum.items) (same_prime g (goal.at.loop-i-preserved g c).After-index-terms-i) c.in_ok-push_small_scaled.ensures.elements;
  total = λ w.
      sum_more w (λ (t : g.row.S.Denot × Fp). t.1.value) (λ (v : CellValue). (small_in v.outcome).terms) (number c.args.p) (weigh w (numbers c.loop-i.sum.items)) (weigh w (numbers c.push_small_scaled.new.sum.items)) c.loop-i.i
      c.args.terms.now c.args.cells.now c.index-terms-i.result c.index-cells-i.result c.requires.lengths c.loop-i-test.true c.index-terms-i.is c.index-cells-i.is
      (subst (λ t. SameMod (number c.args.p) (weigh w (numbers c.push_small_scaled.new.sum.items)) (weigh w (numbers c.loop-i.sum.items) + t.1.value * weigh w (small_in c.index-cells-i.result.outcome).terms))
      (sym c.index-terms-i.is)
      (subst (λ z. SameMod (number c.args.p) (weigh w (numbers c.push_small_scaled.new.sum.items))
      (weigh w (numbers c.loop-i.sum.items) + (get_or c.args.terms.now c.loop-i.i c.index-terms-i.result).1.value * weigh w z)) (same_terms g (goal.at.loop-i-preserved g c).After-index-terms-i)
      (subst (λ q. SameMod (number q) (weigh w (numbers c.push_small_scaled.new.sum.items))
      (weigh w (numbers c.loop-i.sum.items) + (get_or c.args.terms.now c.loop-i.i c.index-terms-i.result).1.value * weigh w c.small_chain.result.now.terms))
      (same_prime g (goal.at.loop-i-preserved g c).After-index-terms-i) (c.in_ok-push_small_scaled.ensures.sum w))))
      (c.loop-i.invariant.total w);
}

pub from_terms-requires-clause-one_key : goal.from_terms-requires-clause-one_key
from_terms-requires-clause-one_key g c = one_small

pub returns-clause-sum : goal.returns-clause-sum
returns-clause-sum g c =
    IfOk-weaker c.from_terms.result (λ s. s.terms ≡ normal small_cmp (number c.args.p) (numbers c.loop-i.sum.items))
    (λ s. s.terms ≡ normal small_cmp (number c.args.p) (combination (map (λ t. t.1.value) c.args.terms.now) (map (λ v. (small_in v.outcome).terms) c.args.cells.now)))
    (λ s e.
    e ∙ normal-same small_cmp (number c.args.p) one_small small_total (number_pos c.args.p) (numbers c.loop-i.sum.items) _
    (λ w. sum_all w (λ (t : g.row.S.Denot × Fp). t.1.value) (λ (v : CellValue). (small_in v.outcome).terms) (number c.args.p) c.loop-i.i (weigh w (numbers c.loop-i.sum.items)) c.args.terms.now c.args.cells.now
    c.requires.lengths c.loop-i-test.false (c.loop-i.invariant.total w)))
    c.from_terms.ensures.sum
