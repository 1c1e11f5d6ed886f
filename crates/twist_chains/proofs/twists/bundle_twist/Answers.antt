use Rattle.std.proofs.Common.{◌≡◌, ◌+◌, ◌-◌, ◌^◌, ◌<◌, ◌≤◌, ◌++◌, suc, refl, sym, ◌∙◌, ap, subst, arith, length, All}
use Rattle.std.specs.Prelude.{nat_abs}
use Rattle.std.proofs.Math.Nat.{mod-lt, mod-eq_of_lt}
use Rattle.fp_field.specs.Field.{number}
use Rattle.fp_field.specs.Chains.{Each}
use Rattle.fp_field.specs.Normal.{normal}
use Rattle.fp_field.proofs.Primes.{number_pos, number_above_one}
use Rattle.fp_field.proofs.FlowLaws.{Each-normal}
use Rattle.chain_core.specs.Formal.{numbers}
use Rattle.spaces.specs.Nerves.{integers, nerve_times, nerve_face}
use Rattle.spaces.specs.Cocycles.{cocycle_twisting}
use Rattle.spaces.specs.Spaces.{table, kz1}
use Rattle.values.specs.Sizes.{greatest}
use Rattle.cells.specs.Dim.{degree_of}
use Rattle.cells.specs.Order.{cell_cmp}
use Rattle.cells.specs.declared.cells.Cell.{Cell}
use Rattle.cells.proofs.OneKey.{one_cell}
use Rattle.term_lang.specs.Belongs.{IsSimplex}
use Rattle.term_lang.specs.Forms.{form}
use Rattle.term_lang.specs.Rows.{rows_of}
use Rattle.oracle_iface.specs.CodeSizes.{cell_integer}
use Rattle.kz1_group.specs.Summable.{IsSummable}
use Rattle.twist_chains.specs.Bundles.{fibre_integer, kept_pair}
use Rattle.twist_chains.proofs.TwistTerms as T
use Rattle.twist_chains.proofs.twists.bundle_twist.Goals as goal

pub table_face-face-requires-clause-simplex : goal.table_face-face-requires-clause-simplex
table_face-face-requires-clause-simplex c =
    let t = rows_of c.args.base.now in
    let is = c.rows.ensures.form in
    let x = c.args.c.now in
    let b = c.parts.result.0.now in
    let f = c.parts.result.1.now in
    let e = c.parts.ensures in
    let k = T.positive t is c.requires.pair.0 c.requires.pair.2 x b f e c.requires.pair.1 c.degree-n.result c.degree-n.ensures c.if-n-eq0.false in
    subst (λ n. IsSimplex (table t) n b) (sym k.degree) (T.base_in (number c.args.p) t c.args.values.now is k.less k.most x b f e k.pair)

pub table_face-face-requires-clause-most : goal.table_face-face-requires-clause-most
table_face-face-requires-clause-most c =
    let t = rows_of c.args.base.now in
    let is = c.rows.ensures.form in
    let x = c.args.c.now in
    let b = c.parts.result.0.now in
    let f = c.parts.result.1.now in
    let e = c.parts.ensures in
    let k = T.positive t is c.requires.pair.0 c.requires.pair.2 x b f e c.requires.pair.1 c.degree-n.result c.degree-n.ensures c.if-n-eq0.false in
    subst (λ n. n ≤ 32) (sym k.degree) k.most

pub cocycle_tau-requires-clause-simplex : goal.cocycle_tau-requires-clause-simplex
cocycle_tau-requires-clause-simplex c =
    let t = rows_of c.args.base.now in
    let is = c.rows.ensures.form in
    let x = c.args.c.now in
    let b = c.parts.result.0.now in
    let f = c.parts.result.1.now in
    let e = c.parts.ensures in
    let k = T.positive t is c.requires.pair.0 c.requires.pair.2 x b f e c.requires.pair.1 c.degree-n.result c.degree-n.ensures c.if-n-eq0.false in
    subst (λ n. IsSimplex (table t) n b) (sym k.degree) (T.base_in (number c.args.p) t c.args.values.now is k.less k.most x b f e k.pair)

pub cocycle_tau-requires-clause-most : goal.cocycle_tau-requires-clause-most
cocycle_tau-requires-clause-most c =
    let t = rows_of c.args.base.now in
    let is = c.rows.ensures.form in
    let x = c.args.c.now in
    let b = c.parts.result.0.now in
    let f = c.parts.result.1.now in
    let e = c.parts.ensures in
    let k = T.positive t is c.requires.pair.0 c.requires.pair.2 x b f e c.requires.pair.1 c.degree-n.result c.degree-n.ensures c.if-n-eq0.false in
    subst (λ n. n ≤ 32) (sym k.degree) k.most

pub ints_of-requires-clause-simplex : goal.ints_of-requires-clause-simplex
ints_of-requires-clause-simplex c =
    let t = rows_of c.args.base.now in
    let is = c.rows.ensures.form in
    let x = c.args.c.now in
    let b = c.parts.result.0.now in
    let f = c.parts.result.1.now in
    let e = c.parts.ensures in
    let k = T.positive t is c.requires.pair.0 c.requires.pair.2 x b f e c.requires.pair.1 c.degree-n.result c.degree-n.ensures c.if-n-eq0.false in
    subst (λ n. IsSimplex kz1 n f) (sym k.number_is) (T.fibre_in (number c.args.p) t c.args.values.now is k.less k.most x b f e k.pair)

pub ints_of-requires-clause-most : goal.ints_of-requires-clause-most
ints_of-requires-clause-most c =
    let t = rows_of c.args.base.now in
    let is = c.rows.ensures.form in
    let x = c.args.c.now in
    let b = c.parts.result.0.now in
    let f = c.parts.result.1.now in
    let e = c.parts.ensures in
    let k = T.positive t is c.requires.pair.0 c.requires.pair.2 x b f e c.requires.pair.1 c.degree-n.result c.degree-n.ensures c.if-n-eq0.false in
    subst (λ n. n ≤ 32) (sym k.number_is) k.most

pub ints_face-requires-clause-some : goal.ints_face-requires-clause-some
ints_face-requires-clause-some c =
    let t = rows_of c.args.base.now in
    let is = c.rows.ensures.form in
    let x = c.args.c.now in
    let b = c.parts.result.0.now in
    let f = c.parts.result.1.now in
    let e = c.parts.ensures in
    let k = T.positive t is c.requires.pair.0 c.requires.pair.2 x b f e c.requires.pair.1 c.degree-n.result c.degree-n.ensures c.if-n-eq0.false in
    let q : length c.in_ok-ints_of.field-0 ≡ suc k.less = ap length c.in_ok-ints_of.ensures ∙ T.fibre_length (number c.args.p) t c.args.values.now is k.less k.most x b f e k.pair in omega (arith, q)

pub ints_face-requires-clause-summable : goal.ints_face-requires-clause-summable
ints_face-requires-clause-summable c =
    let t = rows_of c.args.base.now in
    let is = c.rows.ensures.form in
    let x = c.args.c.now in
    let b = c.parts.result.0.now in
    let f = c.parts.result.1.now in
    let e = c.parts.ensures in
    let k = T.positive t is c.requires.pair.0 c.requires.pair.2 x b f e c.requires.pair.1 c.degree-n.result c.degree-n.ensures c.if-n-eq0.false in
    subst IsSummable (sym c.in_ok-ints_of.ensures) (T.summable (form f kz1) (subst (λ g. g ≤ 2 ^ 60) (T.fibre_is (number c.args.p) t c.args.values.now is k.less k.most x b f e k.pair) c.requires.integers))

pub ints_mul-requires-clause-lengths : goal.ints_mul-requires-clause-lengths
ints_mul-requires-clause-lengths c =
    let t = rows_of c.args.base.now in
    let is = c.rows.ensures.form in
    let x = c.args.c.now in
    let b = c.parts.result.0.now in
    let f = c.parts.result.1.now in
    let e = c.parts.ensures in
    let k = T.positive t is c.requires.pair.0 c.requires.pair.2 x b f e c.requires.pair.1 c.degree-n.result c.degree-n.ensures c.if-n-eq0.false in
    let rest : c.in_ok-rest.rest ≡ nerve_face integers 0 (form f kz1) = c.in_ok-rest.ensures ∙ ap (nerve_face integers 0) c.in_ok-ints_of.ensures in
    ap length c.in_ok-cocycle_tau.ensures.value ∙ T.tau_length (number c.args.p) t c.args.values.now is k.less k.most x b f e k.pair ∙ sym (ap length rest ∙ T.rest_length (number c.args.p) t c.args.values.now is k.less k.most x b f e k.pair)

pub ints_mul-requires-clause-left : goal.ints_mul-requires-clause-left
ints_mul-requires-clause-left c =
    T.small_summable c.in_ok-cocycle_tau.field-0 c.in_ok-cocycle_tau.ensures.small

pub ints_mul-requires-clause-right : goal.ints_mul-requires-clause-right
ints_mul-requires-clause-right c =
    let t = rows_of c.args.base.now in
    let is = c.rows.ensures.form in
    let x = c.args.c.now in
    let b = c.parts.result.0.now in
    let f = c.parts.result.1.now in
    let e = c.parts.ensures in
    let k = T.positive t is c.requires.pair.0 c.requires.pair.2 x b f e c.requires.pair.1 c.degree-n.result c.degree-n.ensures c.if-n-eq0.false in
    let rest : c.in_ok-rest.rest ≡ nerve_face integers 0 (form f kz1) = c.in_ok-rest.ensures ∙ ap (nerve_face integers 0) c.in_ok-ints_of.ensures in
    T.rest_summable (form f kz1) c.in_ok-rest.rest rest (subst (λ g. g ≤ 2 ^ 60) (T.fibre_is (number c.args.p) t c.args.values.now is k.less k.most x b f e k.pair) c.requires.integers)

pub ints_norm-requires : goal.ints_norm-requires
ints_norm-requires c =
    let t = rows_of c.args.base.now in
    let is = c.rows.ensures.form in
    let x = c.args.c.now in
    let b = c.parts.result.0.now in
    let f = c.parts.result.1.now in
    let e = c.parts.ensures in
    let k = T.positive t is c.requires.pair.0 c.requires.pair.2 x b f e c.requires.pair.1 c.degree-n.result c.degree-n.ensures c.if-n-eq0.false in
    let rest : c.in_ok-rest.rest ≡ nerve_face integers 0 (form f kz1) = c.in_ok-rest.ensures ∙ ap (nerve_face integers 0) c.in_ok-ints_of.ensures in
    let turned : c.in_ok-turned.turned ≡ nerve_times integers (cocycle_twisting integers t c.args.values.now (form b (table t))) (nerve_face integers 0 (form f kz1)) =
    c.in_ok-turned.ensures ∙ (λ i. nerve_times integers (c.in_ok-cocycle_tau.ensures.value i) (rest i)) in
    let q : length c.in_ok-turned.turned ≡ k.less = ap length turned ∙ T.turned_length (number c.args.p) t c.args.values.now is k.less k.most x b f e k.pair in
    let r : length c.in_ok-rest.rest ≡ k.less = ap length rest ∙ T.rest_length (number c.args.p) t c.args.values.now is k.less k.most x b f e k.pair in omega (arith, q, r, k.most)

pub ints_norm-requires-2 : goal.ints_norm-requires-2
ints_norm-requires-2 c =
    let t = rows_of c.args.base.now in
    let is = c.rows.ensures.form in
    let x = c.args.c.now in
    let b = c.parts.result.0.now in
    let f = c.parts.result.1.now in
    let e = c.parts.ensures in
    let k = T.positive t is c.requires.pair.0 c.requires.pair.2 x b f e c.requires.pair.1 c.degree-n.result c.degree-n.ensures c.if-n-eq0.false in
    let rest : c.in_ok-rest.rest ≡ nerve_face integers 0 (form f kz1) = c.in_ok-rest.ensures ∙ ap (nerve_face integers 0) c.in_ok-ints_of.ensures in
    let q : length c.in_ok-rest.rest ≡ k.less = ap length rest ∙ T.rest_length (number c.args.p) t c.args.values.now is k.less k.most x b f e k.pair in omega (arith, q, k.most)

pub from_terms-requires-clause-elements : goal.from_terms-requires-clause-elements
from_terms-requires-clause-elements c =
    let items : c.push_pair-2.new.terms.items ≡ kept_pair c.table_face-face.result c.in_ok-ints_norm.field-0 (record { value = 1 }) ++ kept_pair c.table_face-face.result c.in_ok-ints_norm-2.field-0 c.neg-minus.result =
    T.both_pushed c.new-terms.result.items c.push_pair.new.terms.items c.push_pair-2.new.terms.items _ _ c.new-terms.ensures.items c.in_ok-push_pair.ensures c.in_ok-push_pair-2.ensures in
    subst (All (λ t. t.1.value < number c.args.p)) (sym items)
    (T.elements (number c.args.p) c.table_face-face.result c.in_ok-ints_norm.field-0 c.in_ok-ints_norm-2.field-0 (record { value = 1 }) c.neg-minus.result (number_above_one c.args.p)
    (subst (λ v. v < number c.args.p) (sym c.neg-minus.ensures) (mod-lt _ (number_pos c.args.p))))

pub from_terms-requires-clause-one_key : goal.from_terms-requires-clause-one_key
from_terms-requires-clause-one_key c = one_cell

pub returns-then-n-eq0-clause-terms : goal.returns-then-n-eq0-clause-terms
returns-then-n-eq0-clause-terms c =
    let t = rows_of c.args.base.now in
    let is = c.rows.ensures.form in
    let x = c.args.c.now in
    let b = c.parts.result.0.now in
    let f = c.parts.result.1.now in
    let e = c.parts.ensures in
    c.new.ensures.zero
    ∙ sym (ap (normal cell_cmp (number c.args.p)) (T.none_in_zero (number c.args.p) t c.args.values.now is x b f e
    (T.in_zero t is c.requires.pair.0 c.requires.pair.2 x b f e c.requires.pair.1 c.degree-n.result c.degree-n.ensures c.if-n-eq0.true)))

pub returns-clause-terms : goal.returns-clause-terms
returns-clause-terms c =
    let t = rows_of c.args.base.now in
    let is = c.rows.ensures.form in
    let x = c.args.c.now in
    let b = c.parts.result.0.now in
    let f = c.parts.result.1.now in
    let e = c.parts.ensures in
    let k = T.positive t is c.requires.pair.0 c.requires.pair.2 x b f e c.requires.pair.1 c.degree-n.result c.degree-n.ensures c.if-n-eq0.false in
    let rest : c.in_ok-rest.rest ≡ nerve_face integers 0 (form f kz1) = c.in_ok-rest.ensures ∙ ap (nerve_face integers 0) c.in_ok-ints_of.ensures in
    let turned : c.in_ok-turned.turned ≡ nerve_times integers (cocycle_twisting integers t c.args.values.now (form b (table t))) (nerve_face integers 0 (form f kz1)) =
    c.in_ok-turned.ensures ∙ (λ i. nerve_times integers (c.in_ok-cocycle_tau.ensures.value i) (rest i)) in
    let items : c.push_pair-2.new.terms.items ≡ kept_pair c.table_face-face.result c.in_ok-ints_norm.field-0 (record { value = 1 }) ++ kept_pair c.table_face-face.result c.in_ok-ints_norm-2.field-0 c.neg-minus.result =
    T.both_pushed c.new-terms.result.items c.push_pair.new.terms.items c.push_pair-2.new.terms.items _ _ c.new-terms.ensures.items c.in_ok-push_pair.ensures c.in_ok-push_pair-2.ensures in
    let face : IsSimplex (table t) k.less c.table_face-face.result = subst (λ n. IsSimplex (table t) n c.table_face-face.result) (let q : degree_of b - 1 ≡ k.less = omega (arith, k.degree) in q) c.table_face-face.ensures.simplex in
    let u : IsSimplex kz1 k.less c.in_ok-ints_norm.field-0 = subst (λ n. IsSimplex kz1 n c.in_ok-ints_norm.field-0) (ap length turned ∙ T.turned_length (number c.args.p) t c.args.values.now is k.less k.most x b f e k.pair) c.in_ok-ints_norm.ensures.simplex in
    let v : IsSimplex kz1 k.less c.in_ok-ints_norm-2.field-0 = subst (λ n. IsSimplex kz1 n c.in_ok-ints_norm-2.field-0) (ap length rest ∙ T.rest_length (number c.args.p) t c.args.values.now is k.less k.most x b f e k.pair) c.in_ok-ints_norm-2.ensures.simplex in
    let big = number_above_one c.args.p in
    let minus : c.neg-minus.result.value ≡ number c.args.p - 1 = c.neg-minus.ensures ∙ mod-eq_of_lt (omega (arith, big)) in
    c.in_ok-from_terms.ensures.sum
    ∙ ap (normal cell_cmp (number c.args.p)) (ap numbers items
    ∙ T.terms_are (number c.args.p) t c.args.values.now is k.less k.most x b f e k.pair c.table_face-face.result face c.table_face-face.ensures.form c.in_ok-ints_norm.field-0 c.in_ok-ints_norm-2.field-0 u v
    (c.in_ok-ints_norm.ensures.form ∙ turned) (c.in_ok-ints_norm-2.ensures.form ∙ rest) (record { value = 1 }) c.neg-minus.result refl minus)

pub returns-clause-integers : goal.returns-clause-integers
returns-clause-integers c =
    let t = rows_of c.args.base.now in
    let is = c.rows.ensures.form in
    let x = c.args.c.now in
    let b = c.parts.result.0.now in
    let f = c.parts.result.1.now in
    let e = c.parts.ensures in
    let k = T.positive t is c.requires.pair.0 c.requires.pair.2 x b f e c.requires.pair.1 c.degree-n.result c.degree-n.ensures c.if-n-eq0.false in
    let rest : c.in_ok-rest.rest ≡ nerve_face integers 0 (form f kz1) = c.in_ok-rest.ensures ∙ ap (nerve_face integers 0) c.in_ok-ints_of.ensures in
    let items : c.push_pair-2.new.terms.items ≡ kept_pair c.table_face-face.result c.in_ok-ints_norm.field-0 (record { value = 1 }) ++ kept_pair c.table_face-face.result c.in_ok-ints_norm-2.field-0 c.neg-minus.result =
    T.both_pushed c.new-terms.result.items c.push_pair.new.terms.items c.push_pair-2.new.terms.items _ _ c.new-terms.ensures.items c.in_ok-push_pair.ensures c.in_ok-push_pair-2.ensures in
    let face : IsSimplex (table t) k.less c.table_face-face.result = subst (λ n. IsSimplex (table t) n c.table_face-face.result) (let q : degree_of b - 1 ≡ k.less = omega (arith, k.degree) in q) c.table_face-face.ensures.simplex in
    let P : Cell → Type 0 = λ z. fibre_integer z ≤ fibre_integer x + 200000 in
    let F : fibre_integer x ≡ greatest nat_abs (form f kz1) = T.fibre_is (number c.args.p) t c.args.values.now is k.less k.most x b f e k.pair in
    subst (Each P) (sym c.in_ok-from_terms.ensures.sum)
    (Each-normal P cell_cmp (number c.args.p) (numbers c.push_pair-2.new.terms.items)
    (subst (λ l. Each P (numbers l)) (sym items)
    (T.terms_within (number c.args.p) t c.args.values.now is k.less k.most x b f e k.pair c.table_face-face.result face c.table_face-face.ensures.form c.in_ok-ints_norm.field-0 c.in_ok-ints_norm-2.field-0 (record { value = 1 }) c.neg-minus.result
    (T.turned_within (form f kz1) c.in_ok-cocycle_tau.field-0 c.in_ok-rest.rest c.in_ok-turned.turned (fibre_integer x) (cell_integer c.in_ok-ints_norm.field-0.cell) c.in_ok-ints_norm.ensures.integers
    c.in_ok-turned.ensures rest F c.in_ok-cocycle_tau.ensures.small)
    (T.rest_within (form f kz1) c.in_ok-rest.rest (fibre_integer x) (cell_integer c.in_ok-ints_norm-2.field-0.cell) c.in_ok-ints_norm-2.ensures.integers rest F))))
