use Rattle.std.proofs.Common.{refl, sym, subst}
use Rattle.homology_rules.specs.Asking.{MayForceEach, AskedFirst, EachAnswered, up_to_refusal}
use Rattle.part_asks.specs.declared.found.Found.TheVariants.{Value as FoundValue, Over as FoundOver}
use Rattle.part_asks.specs.Reading.{IsFound}
use Rattle.twist_chains.specs.Fibred.{read_pairs}
use Rattle.fibred_asks.specs.Asked.{prime_of, base_of as base_held, fibre_of as fibre_held, values_of}
use Rattle.fibred_asks.specs.Totals.{h_total, formal_pairs}
use Rattle.twist_rules.proofs.KeyFound.{held-twist, held-parts, h-serves, h-pairs, h-low}
use Rattle.twist_rules.proofs.PartNames.{built-assembled}
use Rattle.twist_rules.proofs.found_at.h_found.Goals as goal

pub returns-in_err-chain-clause-asked : goal.returns-in_err-chain-clause-asked
returns-in_err-chain-clause-asked g c =
    (0, refl)

pub total_h-requires-clause-parts : goal.total_h-requires-clause-parts
total_h-requires-clause-parts g c =
    held-parts c.args.key.now c.requires.valid c.requires.space c.args.m.now c.requires.maps (λ a is built. (c.assembled_values.ensures.built a is (built-assembled a built) built, c.reached_values.ensures a is built))

pub total_h-requires-clause-values : goal.total_h-requires-clause-values
total_h-requires-clause-values g c =
    held-twist c.args.key.now c.requires.valid c.requires.space c.args.m.now c.requires.maps

pub total_h-requires-clause-degree : goal.total_h-requires-clause-degree
total_h-requires-clause-degree g c =
    h-low c.args.key.now c.requires.valid c.requires.space c.args.m.now c.requires.maps c.limited_reaches.ensures c.args.x.now c.requires.place c.requires.within c.in_ok-chain.chain.terms c.in_ok-chain.ensures.terms c.dim.result c.dim.ensures c.requires.op

pub total_h-requires-clause-prime : goal.total_h-requires-clause-prime
total_h-requires-clause-prime g c =
    c.in_ok-chain.ensures.prime

pub total_h-requires-clause-pairs : goal.total_h-requires-clause-pairs
total_h-requires-clause-pairs g c =
    h-pairs c.args.key.now c.requires.valid c.requires.space c.args.m.now c.requires.maps c.limited_reaches.ensures c.args.x.now c.requires.place c.requires.within c.in_ok-chain.chain.terms c.in_ok-chain.ensures.terms c.dim.result c.dim.ensures c.requires.op

pub total_h-requires-clause-valid : goal.total_h-requires-clause-valid
total_h-requires-clause-valid g c =
    (h-serves c.args.key.now c.requires.valid c.requires.space c.args.m.now c.requires.maps c.limited_reaches.ensures c.args.x.now c.requires.place c.requires.within c.in_ok-chain.chain.terms c.in_ok-chain.ensures.terms c.dim.result c.dim.ensures c.requires.op).valid

pub total_h-requires-clause-asks : goal.total_h-requires-clause-asks
total_h-requires-clause-asks g c =
    subst (MayForceEach g.F.Forcer.may_force g.F.Forcer.forces c.args.forcer.now) (sym (h-serves c.args.key.now c.requires.valid c.requires.space c.args.m.now c.requires.maps c.limited_reaches.ensures c.args.x.now c.requires.place c.requires.within c.in_ok-chain.chain.terms c.in_ok-chain.ensures.terms c.dim.result c.dim.ensures c.requires.op).keys) c.requires.forcer

pub returns-in_err-over-clause-asked : goal.returns-in_err-over-clause-asked
returns-in_err-over-clause-asked g c =
    subst (λ ks. AskedFirst g.F.Forcer.forces ks c.args.forcer.now c.total_h.new.forcer) (h-serves c.args.key.now c.requires.valid c.requires.space c.args.m.now c.requires.maps c.limited_reaches.ensures c.args.x.now c.requires.place c.requires.within c.in_ok-chain.chain.terms c.in_ok-chain.ensures.terms c.dim.result c.dim.ensures c.requires.op).keys c.total_h.ensures.asked

pub returns-in-Over-clause-asked : goal.returns-in-Over-clause-asked
returns-in-Over-clause-asked g c =
    subst (λ ks. AskedFirst g.F.Forcer.forces ks c.args.forcer.now c.total_h.new.forcer) (h-serves c.args.key.now c.requires.valid c.requires.space c.args.m.now c.requires.maps c.limited_reaches.ensures c.args.x.now c.requires.place c.requires.within c.in_ok-chain.chain.terms c.in_ok-chain.ensures.terms c.dim.result c.dim.ensures c.requires.op).keys c.total_h.ensures.asked

pub returns-clause-asked : goal.returns-clause-asked
returns-clause-asked g c =
    subst (λ ks. AskedFirst g.F.Forcer.forces ks c.args.forcer.now c.total_h.new.forcer) (h-serves c.args.key.now c.requires.valid c.requires.space c.args.m.now c.requires.maps c.limited_reaches.ensures c.args.x.now c.requires.place c.requires.within c.in_ok-chain.chain.terms c.in_ok-chain.ensures.terms c.dim.result c.dim.ensures c.requires.op).keys c.total_h.ensures.asked

pub returns-in-Over-clause-through : goal.returns-in-Over-clause-through
returns-in-Over-clause-through g c =
    subst (λ ks. EachAnswered g.F.Forcer.forces c.args.forcer.now (up_to_refusal ks) c.total_h.new.forcer) (h-serves c.args.key.now c.requires.valid c.requires.space c.args.m.now c.requires.maps c.limited_reaches.ensures c.args.x.now c.requires.place c.requires.within c.in_ok-chain.chain.terms c.in_ok-chain.ensures.terms c.dim.result c.dim.ensures c.requires.op).keys c.in_ok-over.ensures.through

pub returns-clause-through : goal.returns-clause-through
returns-clause-through g c =
    subst (λ ks. EachAnswered g.F.Forcer.forces c.args.forcer.now (up_to_refusal ks) c.total_h.new.forcer) (h-serves c.args.key.now c.requires.valid c.requires.space c.args.m.now c.requires.maps c.limited_reaches.ensures c.args.x.now c.requires.place c.requires.within c.in_ok-chain.chain.terms c.in_ok-chain.ensures.terms c.dim.result c.dim.ensures c.requires.op).keys c.in_ok-over.ensures.through

pub returns-in-Over-clause-found : goal.returns-in-Over-clause-found
returns-in-Over-clause-found g c =
    (h-serves c.args.key.now c.requires.valid c.requires.space c.args.m.now c.requires.maps c.limited_reaches.ensures c.args.x.now c.requires.place c.requires.within c.in_ok-chain.chain.terms c.in_ok-chain.ensures.terms c.dim.result c.dim.ensures c.requires.op).found (FoundOver c.in-Over.over) (subst (IsFound (formal_pairs (prime_of c.args.m.now) (base_held c.args.m.now) (fibre_held c.args.m.now)) (prime_of c.args.m.now) (h_total (prime_of c.args.m.now) (base_held c.args.m.now) (fibre_held c.args.m.now) (values_of c.args.m.now) c.dim.result (read_pairs (base_held c.args.m.now) (fibre_held c.args.m.now) c.in_ok-chain.chain.terms))) c.in-Over.is c.in_ok-over.ensures.found)

pub returns-clause-found : goal.returns-clause-found
returns-clause-found g c =
    (h-serves c.args.key.now c.requires.valid c.requires.space c.args.m.now c.requires.maps c.limited_reaches.ensures c.args.x.now c.requires.place c.requires.within c.in_ok-chain.chain.terms c.in_ok-chain.ensures.terms c.dim.result c.dim.ensures c.requires.op).found (FoundValue c.in-Value.value) (subst (IsFound (formal_pairs (prime_of c.args.m.now) (base_held c.args.m.now) (fibre_held c.args.m.now)) (prime_of c.args.m.now) (h_total (prime_of c.args.m.now) (base_held c.args.m.now) (fibre_held c.args.m.now) (values_of c.args.m.now) c.dim.result (read_pairs (base_held c.args.m.now) (fibre_held c.args.m.now) c.in_ok-chain.chain.terms))) c.in-Value.is c.in_ok-over.ensures.found)
