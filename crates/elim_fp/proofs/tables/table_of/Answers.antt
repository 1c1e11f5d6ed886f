use Rattle.std.proofs.Common.{◌≡◌, ◌↔◌, ◌∷◌, ◌-◌, ◌<◌, ◌≤◌, zero, suc, length, drop, refl, sym, subst, arith}
use Rattle.std.proofs.lemmas.List.{drop_all}
use Rattle.fp_field.specs.Field.{number}
use Rattle.echelons.specs.Echelon.{Vector, IsCombination}
use Rattle.elim_fp.specs.Rows.{vectors_of, IsRow}
use Rattle.elim_fp.specs.Tables.{IsTable}
use Rattle.elim_fp.proofs.Left.{length-vectors}
use Rattle.elim_fp.proofs.TableRows.{item-row, table-start, table-before}
use Rattle.elim_fp.proofs.tables.table_of.Goals as goal

pub loop-left-init : goal.loop-left-init
loop-left-init c =
    let s = table-start c.args.p c.args.width c.in_ok-table.table.items c.in_ok-table.ensures.count c.in_ok-table.ensures.each c.in_ok-table.ensures.zero in record {
      within = omega arith;
      table = s.0;
      span = subst (λ vs. (x : Vector) → IsCombination (number c.args.p) c.args.width (vectors_of c.in_ok-table.table.items) x ↔ IsCombination (number c.args.p) c.args.width vs x)
          (sym (drop_all (length c.args.rows.now) (vectors_of c.args.rows.now) (omega (arith, length-vectors c.args.rows.now)))) s.1;
    }

pub with_row-requires-clause-table : goal.with_row-requires-clause-table
with_row-requires-clause-table c =
    let is = item-row c.args.p c.args.width c.args.rows.now (c.loop-left.left - 1) c.index-rows-left.result c.requires (omega (arith, c.loop-left-test.true, c.loop-left.invariant.within)) c.index-rows-left.is in
    subst (λ n. IsTable c.args.p n c.loop-left.table.items) (sym is.vector.wide) c.loop-left.invariant.table

pub with_row-requires-clause-row : goal.with_row-requires-clause-row
with_row-requires-clause-row c =
    let is = item-row c.args.p c.args.width c.args.rows.now (c.loop-left.left - 1) c.index-rows-left.result c.requires (omega (arith, c.loop-left-test.true, c.loop-left.invariant.within)) c.index-rows-left.is in
    subst (λ n. IsRow c.args.p n c.index-rows-left.result) (sym is.vector.wide) is

pub loop-left-preserved : goal.loop-left-preserved
loop-left-preserved c =
    let x = c.index-rows-left.result in
    let less : c.loop-left.left - 1 < length c.args.rows.now = omega (arith, c.loop-left-test.true, c.loop-left.invariant.within) in
    let one : c.loop-left.left ≡ suc (c.loop-left.left - 1) = omega (arith, c.loop-left-test.true) in
    let is = item-row c.args.p c.args.width c.args.rows.now (c.loop-left.left - 1) x c.requires less c.index-rows-left.is in
    record {
      within = omega (arith, c.loop-left.invariant.within);
      table = subst (λ n. IsTable c.args.p n c.in_ok-table-2.table.items) is.vector.wide c.in_ok-table-2.ensures.table;
      span = table-before c.args.p c.args.width c.args.rows.now c.loop-left.table.items c.in_ok-table-2.table.items (c.loop-left.left - 1) x c.requires less c.index-rows-left.is c.loop-left.invariant.table
          (subst (λ n. (u : Vector) → IsCombination (number c.args.p) c.args.width (vectors_of c.loop-left.table.items) u ↔ IsCombination (number c.args.p) c.args.width (drop n (vectors_of c.args.rows.now)) u) one c.loop-left.invariant.span)
          (subst (λ n. (u : Vector) → IsCombination (number c.args.p) n (vectors_of c.in_ok-table-2.table.items) u ↔ IsCombination (number c.args.p) n (x.values ∷ vectors_of c.loop-left.table.items) u) is.vector.wide c.in_ok-table-2.ensures.span);
    }

pub returns-clause-span : goal.returns-clause-span
returns-clause-span c =
    let none : c.loop-left.left ≡ 0 = omega (arith, c.loop-left-test.false) in
    subst (λ n. (x : Vector) → IsCombination (number c.args.p) c.args.width (vectors_of c.loop-left.table.items) x ↔ IsCombination (number c.args.p) c.args.width (drop n (vectors_of c.args.rows.now)) x) none c.loop-left.invariant.span
