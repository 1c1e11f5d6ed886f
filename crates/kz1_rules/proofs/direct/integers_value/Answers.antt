use Rattle.std.proofs.Common.{inr}
use Rattle.kz1_rules.proofs.IntegersKeys.{list-free, count-within, basis-value, d-value, f-value, g-value, h-value}
use Rattle.kz1_rules.proofs.direct.integers_value.Goals as goal

pub homotopy-requires-clause-free : goal.homotopy-requires-clause-free
homotopy-requires-clause-free c = list-free c.args.key.now c.requires.valid c.requires.space c.list_at-in-H.result.now (inr c.in-H.is) c.list_at-in-H.ensures

pub homotopy-requires-clause-count : goal.homotopy-requires-clause-count
homotopy-requires-clause-count c =
    count-within c.args.key.now c.requires.valid c.requires.space c.list_at-in-H.result.now c.in-H.is c.list_at-in-H.ensures c.requires.integers

pub returns-in_ok-circle_cells-in-Basis : goal.returns-in_ok-circle_cells-in-Basis
returns-in_ok-circle_cells-in-Basis c =
    basis-value c.args.key.now c.requires.valid c.requires.space c.degree_at.result c.in_ok-circle_cells-in-Basis.field-0 c.in-Basis.is c.degree_at.ensures c.in_ok-circle_cells-in-Basis.ensures

pub returns-in-SmallD : goal.returns-in-SmallD
returns-in-SmallD c = d-value c.args.key.now c.requires.valid c.requires.space c.new.result c.in-SmallD.is c.new.ensures.prime c.new.ensures.zero

pub returns-in_ok-to_circle-in-F : goal.returns-in_ok-to_circle-in-F
returns-in_ok-to_circle-in-F c =
    f-value c.args.key.now c.requires.valid c.requires.space c.list_at.result.now c.in_ok-to_circle-in-F.field-0 c.in-F.is c.list_at.ensures c.in_ok-to_circle-in-F.ensures

pub returns-in_ok-from_circle-in-G : goal.returns-in_ok-from_circle-in-G
returns-in_ok-from_circle-in-G c =
    g-value c.args.key.now c.requires.valid c.requires.space c.small_at.result.now c.in_ok-from_circle-in-G.field-0 c.in-G.is c.small_at.ensures c.in_ok-from_circle-in-G.ensures

pub returns-in_ok-homotopy-in-H : goal.returns-in_ok-homotopy-in-H
returns-in_ok-homotopy-in-H c =
    h-value c.args.key.now c.requires.valid c.requires.space c.list_at-in-H.result.now c.in_ok-homotopy-in-H.field-0 c.in-H.is c.list_at-in-H.ensures c.in_ok-homotopy-in-H.ensures
