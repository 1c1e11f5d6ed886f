use Rattle.std.proofs.Common.{refl}
use Rattle.fp_field.specs.Field.{number}
use Rattle.cells.specs.Order.{cell_cmp}
use Rattle.values.specs.Values.{value}
use Rattle.term_lang.specs.SpaceOf.{space_of}
use Rattle.homology_rules.specs.Held.{HasBig, big_in}
use Rattle.oracle_iface.specs.Forcing.{Asked}
use Rattle.oracle_iface.specs.Keys.{quote_chain}
use Rattle.oracle_iface.specs.declared.keys.Op.TheVariants.{G}
use Rattle.oracle_iface.specs.declared.keys.Place.TheVariants.{Small as SmallPlace}
use Rattle.asked_parts.specs.PartMaps.{g_ask}
use Rattle.asked_parts.specs.Refused.{refused}
use Rattle.asked_parts.proofs.OneAsk.{g-is, g-back, kind-so, may-so, asked-so, prime-so, value-so}
use Rattle.asked_parts.proofs.part.AskedPartReductionAsking.g.Goals as goal

pub asked_big-requires-clause-kind : goal.asked_big-requires-clause-kind
asked_big-requires-clause-kind g c = kind-so c.args.self.now.p (g_ask c.args.self.now.p c.args.self.now.term c.args.y.now) (record { op = G; prime = c.args.self.now.p; place = SmallPlace c.in_ok-copy_small.field-0; term = c.in_ok-clone.field-0 }) (g-is c.args.self.now.p c.args.self.now.term c.args.y.now c.requires.key.0 (record { op = G; prime = c.args.self.now.p; place = SmallPlace c.in_ok-copy_small.field-0; term = c.in_ok-clone.field-0 }) c.in_ok-copy_small.field-0 c.in_ok-clone.field-0 c.in_ok-copy_small.ensures c.in_ok-clone.ensures.cases refl) (g-back c.args.self.now.p c.args.self.now.term c.args.y.now c.requires.key.0) HasBig tt

pub asked_big-requires-clause-source : goal.asked_big-requires-clause-source
asked_big-requires-clause-source g c = may-so c.args.self.now.p (g_ask c.args.self.now.p c.args.self.now.term c.args.y.now) (record { op = G; prime = c.args.self.now.p; place = SmallPlace c.in_ok-copy_small.field-0; term = c.in_ok-clone.field-0 }) (g-is c.args.self.now.p c.args.self.now.term c.args.y.now c.requires.key.0 (record { op = G; prime = c.args.self.now.p; place = SmallPlace c.in_ok-copy_small.field-0; term = c.in_ok-clone.field-0 }) c.in_ok-copy_small.field-0 c.in_ok-clone.field-0 c.in_ok-copy_small.ensures c.in_ok-clone.ensures.cases refl) (g-back c.args.self.now.p c.args.self.now.term c.args.y.now c.requires.key.0) c.args.source.now (λ s k. g.F.Forcer.may_force s.forcer.now k) (λ s ks t. Asked g.F.Forcer.forces s.forcer.now ks t.forcer.now) c.requires.source

pub returns-clause-prime : goal.returns-clause-prime
returns-clause-prime g c = prime-so c.args.self.now.p (g_ask c.args.self.now.p c.args.self.now.term c.args.y.now) (record { op = G; prime = c.args.self.now.p; place = SmallPlace c.in_ok-copy_small.field-0; term = c.in_ok-clone.field-0 }) (g-is c.args.self.now.p c.args.self.now.term c.args.y.now c.requires.key.0 (record { op = G; prime = c.args.self.now.p; place = SmallPlace c.in_ok-copy_small.field-0; term = c.in_ok-clone.field-0 }) c.in_ok-copy_small.field-0 c.in_ok-clone.field-0 c.in_ok-copy_small.ensures c.in_ok-clone.ensures.cases refl) (g-back c.args.self.now.p c.args.self.now.term c.args.y.now c.requires.key.0) cell_cmp big_in (quote_chain (space_of c.args.self.now.term) (value (number c.args.self.now.p) (g_ask c.args.self.now.p c.args.self.now.term c.args.y.now))) refl c.asked_big.result c.asked_big.ensures.value

pub returns-clause-value : goal.returns-clause-value
returns-clause-value g c = value-so c.args.self.now.p (g_ask c.args.self.now.p c.args.self.now.term c.args.y.now) (record { op = G; prime = c.args.self.now.p; place = SmallPlace c.in_ok-copy_small.field-0; term = c.in_ok-clone.field-0 }) (g-is c.args.self.now.p c.args.self.now.term c.args.y.now c.requires.key.0 (record { op = G; prime = c.args.self.now.p; place = SmallPlace c.in_ok-copy_small.field-0; term = c.in_ok-clone.field-0 }) c.in_ok-copy_small.field-0 c.in_ok-clone.field-0 c.in_ok-copy_small.ensures c.in_ok-clone.ensures.cases refl) (g-back c.args.self.now.p c.args.self.now.term c.args.y.now c.requires.key.0) cell_cmp big_in (quote_chain (space_of c.args.self.now.term) (value (number c.args.self.now.p) (g_ask c.args.self.now.p c.args.self.now.term c.args.y.now))) refl c.asked_big.result c.asked_big.ensures.value c.asked_big.ensures.normal

pub returns-clause-source : goal.returns-clause-source
returns-clause-source g c = asked-so c.args.self.now.p (g_ask c.args.self.now.p c.args.self.now.term c.args.y.now) (record { op = G; prime = c.args.self.now.p; place = SmallPlace c.in_ok-copy_small.field-0; term = c.in_ok-clone.field-0 }) (g-is c.args.self.now.p c.args.self.now.term c.args.y.now c.requires.key.0 (record { op = G; prime = c.args.self.now.p; place = SmallPlace c.in_ok-copy_small.field-0; term = c.in_ok-clone.field-0 }) c.in_ok-copy_small.field-0 c.in_ok-clone.field-0 c.in_ok-copy_small.ensures c.in_ok-clone.ensures.cases refl) (g-back c.args.self.now.p c.args.self.now.term c.args.y.now c.requires.key.0) c.args.source.now c.asked_big.new.source (λ s ks t. Asked g.F.Forcer.forces s.forcer.now ks t.forcer.now) refused c.asked_big.result c.asked_big.ensures.source
