use Rattle.std.proofs.Common.{◌+◌, sym, subst, arith}
use Rattle.homology_rules.specs.Asking.{MayForceEach, AskedFirst, EachAnswered, up_to_refusal}
use Rattle.part_asks.specs.declared.found.Found.TheVariants.{Value as FoundValue, Over as FoundOver}
use Rattle.part_asks.specs.Reading.{IsFound}
use Rattle.fibred_asks.specs.Asked.{prime_of, base_of as base_held, fibre_of as fibre_held, values_of}
use Rattle.fibred_asks.specs.Parts.{formal_smalls}
use Rattle.fibred_asks.specs.Totals.{d_total}
use Rattle.twist_rules.proofs.KeyFound.{held-twist, held-parts, d-serves, d-smalls}
use Rattle.twist_rules.proofs.PartNames.{built-assembled}
use Rattle.twist_rules.proofs.found_at.d_found.Goals as goal

pub overflow_add-n : goal.overflow_add-n
overflow_add-n g c =
    let l = (d-smalls c.args.key.now c.requires.valid c.requires.space c.args.m.now c.requires.maps c.args.y.now c.args.z.now c.requires.place c.requires.op).low in omega (arith, l, c.small_degree.ensures, c.small_degree-2.ensures)

pub total_d-requires-clause-parts : goal.total_d-requires-clause-parts
total_d-requires-clause-parts g c =
    held-parts c.args.key.now c.requires.valid c.requires.space c.args.m.now c.requires.maps (λ a is built. (c.assembled_values.ensures.built a is (built-assembled a built) built, c.reached_values.ensures a is built))

pub total_d-requires-clause-values : goal.total_d-requires-clause-values
total_d-requires-clause-values g c =
    held-twist c.args.key.now c.requires.valid c.requires.space c.args.m.now c.requires.maps

pub total_d-requires-clause-degree : goal.total_d-requires-clause-degree
total_d-requires-clause-degree g c =
    let l = (d-smalls c.args.key.now c.requires.valid c.requires.space c.args.m.now c.requires.maps c.args.y.now c.args.z.now c.requires.place c.requires.op).low in omega (arith, l, c.small_degree.ensures, c.small_degree-2.ensures)

pub total_d-requires-clause-base_cell : goal.total_d-requires-clause-base_cell
total_d-requires-clause-base_cell g c =
    (d-smalls c.args.key.now c.requires.valid c.requires.space c.args.m.now c.requires.maps c.args.y.now c.args.z.now c.requires.place c.requires.op).left

pub total_d-requires-clause-fibre_cell : goal.total_d-requires-clause-fibre_cell
total_d-requires-clause-fibre_cell g c =
    (d-smalls c.args.key.now c.requires.valid c.requires.space c.args.m.now c.requires.maps c.args.y.now c.args.z.now c.requires.place c.requires.op).right

pub total_d-requires-clause-sum : goal.total_d-requires-clause-sum
total_d-requires-clause-sum g c =
    (d-smalls c.args.key.now c.requires.valid c.requires.space c.args.m.now c.requires.maps c.args.y.now c.args.z.now c.requires.place c.requires.op).sum (c.small_degree.result + c.small_degree-2.result) (λ i. c.small_degree.ensures i + c.small_degree-2.ensures i)

pub total_d-requires-clause-valid : goal.total_d-requires-clause-valid
total_d-requires-clause-valid g c =
    (d-serves c.args.key.now c.requires.valid c.requires.space c.args.m.now c.requires.maps c.args.y.now c.args.z.now c.requires.place c.requires.op (c.small_degree.result + c.small_degree-2.result) (λ i. c.small_degree.ensures i + c.small_degree-2.ensures i)).valid

pub total_d-requires-clause-asks : goal.total_d-requires-clause-asks
total_d-requires-clause-asks g c =
    subst (MayForceEach g.F.Forcer.may_force g.F.Forcer.forces c.args.forcer.now) (sym (d-serves c.args.key.now c.requires.valid c.requires.space c.args.m.now c.requires.maps c.args.y.now c.args.z.now c.requires.place c.requires.op (c.small_degree.result + c.small_degree-2.result) (λ i. c.small_degree.ensures i + c.small_degree-2.ensures i)).keys) c.requires.forcer

pub returns-in_err-over-clause-asked : goal.returns-in_err-over-clause-asked
returns-in_err-over-clause-asked g c =
    subst (λ ks. AskedFirst g.F.Forcer.forces ks c.args.forcer.now c.total_d.new.forcer) (d-serves c.args.key.now c.requires.valid c.requires.space c.args.m.now c.requires.maps c.args.y.now c.args.z.now c.requires.place c.requires.op (c.small_degree.result + c.small_degree-2.result) (λ i. c.small_degree.ensures i + c.small_degree-2.ensures i)).keys c.total_d.ensures.asked

pub returns-in-Over-clause-asked : goal.returns-in-Over-clause-asked
returns-in-Over-clause-asked g c =
    subst (λ ks. AskedFirst g.F.Forcer.forces ks c.args.forcer.now c.total_d.new.forcer) (d-serves c.args.key.now c.requires.valid c.requires.space c.args.m.now c.requires.maps c.args.y.now c.args.z.now c.requires.place c.requires.op (c.small_degree.result + c.small_degree-2.result) (λ i. c.small_degree.ensures i + c.small_degree-2.ensures i)).keys c.total_d.ensures.asked

pub returns-in-Value-clause-asked : goal.returns-in-Value-clause-asked
returns-in-Value-clause-asked g c =
    subst (λ ks. AskedFirst g.F.Forcer.forces ks c.args.forcer.now c.total_d.new.forcer) (d-serves c.args.key.now c.requires.valid c.requires.space c.args.m.now c.requires.maps c.args.y.now c.args.z.now c.requires.place c.requires.op (c.small_degree.result + c.small_degree-2.result) (λ i. c.small_degree.ensures i + c.small_degree-2.ensures i)).keys c.total_d.ensures.asked

pub returns-in-Over-clause-through : goal.returns-in-Over-clause-through
returns-in-Over-clause-through g c =
    subst (λ ks. EachAnswered g.F.Forcer.forces c.args.forcer.now (up_to_refusal ks) c.total_d.new.forcer) (d-serves c.args.key.now c.requires.valid c.requires.space c.args.m.now c.requires.maps c.args.y.now c.args.z.now c.requires.place c.requires.op (c.small_degree.result + c.small_degree-2.result) (λ i. c.small_degree.ensures i + c.small_degree-2.ensures i)).keys c.in_ok-over.ensures.through

pub returns-in-Value-clause-through : goal.returns-in-Value-clause-through
returns-in-Value-clause-through g c =
    subst (λ ks. EachAnswered g.F.Forcer.forces c.args.forcer.now (up_to_refusal ks) c.total_d.new.forcer) (d-serves c.args.key.now c.requires.valid c.requires.space c.args.m.now c.requires.maps c.args.y.now c.args.z.now c.requires.place c.requires.op (c.small_degree.result + c.small_degree-2.result) (λ i. c.small_degree.ensures i + c.small_degree-2.ensures i)).keys c.in_ok-over.ensures.through

pub returns-in-Over-clause-found : goal.returns-in-Over-clause-found
returns-in-Over-clause-found g c =
    (d-serves c.args.key.now c.requires.valid c.requires.space c.args.m.now c.requires.maps c.args.y.now c.args.z.now c.requires.place c.requires.op (c.small_degree.result + c.small_degree-2.result) (λ i. c.small_degree.ensures i + c.small_degree-2.ensures i)).found (FoundOver c.in-Over.over) (subst (IsFound (formal_smalls (prime_of c.args.m.now) (base_held c.args.m.now) (fibre_held c.args.m.now)) (prime_of c.args.m.now) (d_total (prime_of c.args.m.now) (base_held c.args.m.now) (fibre_held c.args.m.now) (values_of c.args.m.now) (c.small_degree.result + c.small_degree-2.result) c.args.y.now c.args.z.now)) c.in-Over.is c.in_ok-over.ensures.found)

pub returns-in-Value-clause-found : goal.returns-in-Value-clause-found
returns-in-Value-clause-found g c =
    (d-serves c.args.key.now c.requires.valid c.requires.space c.args.m.now c.requires.maps c.args.y.now c.args.z.now c.requires.place c.requires.op (c.small_degree.result + c.small_degree-2.result) (λ i. c.small_degree.ensures i + c.small_degree-2.ensures i)).found (FoundValue c.in-Value.value) (subst (IsFound (formal_smalls (prime_of c.args.m.now) (base_held c.args.m.now) (fibre_held c.args.m.now)) (prime_of c.args.m.now) (d_total (prime_of c.args.m.now) (base_held c.args.m.now) (fibre_held c.args.m.now) (values_of c.args.m.now) (c.small_degree.result + c.small_degree-2.result) c.args.y.now c.args.z.now)) c.in-Value.is c.in_ok-over.ensures.found)
