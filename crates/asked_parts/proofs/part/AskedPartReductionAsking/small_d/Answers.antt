use Rattle.std.proofs.Common.{refl}
use Rattle.fp_field.specs.Field.{number}
use Rattle.cells.specs.Small.{small_cmp}
use Rattle.values.specs.Values.{value}
use Rattle.term_lang.specs.SpaceOf.{space_of}
use Rattle.homology_rules.specs.Held.{HasSmall, small_in}
use Rattle.oracle_iface.specs.Forcing.{Asked}
use Rattle.oracle_iface.specs.Keys.{quote_small_chain}
use Rattle.oracle_iface.specs.declared.keys.Op.TheVariants.{SmallD}
use Rattle.oracle_iface.specs.declared.keys.Place.TheVariants.{Small as SmallPlace}
use Rattle.asked_parts.specs.PartMaps.{d_ask}
use Rattle.asked_parts.specs.Refused.{refused}
use Rattle.asked_parts.proofs.OneAsk.{d-is, d-back, kind-so, may-so, asked-so, prime-so, value-so}
use Rattle.asked_parts.proofs.part.AskedPartReductionAsking.small_d.Goals as goal

pub asked_small-requires-clause-kind : goal.asked_small-requires-clause-kind
asked_small-requires-clause-kind g c = kind-so c.args.self.now.p (d_ask c.args.self.now.p c.args.self.now.term c.args.y.now) (record { op = SmallD; prime = c.args.self.now.p; place = SmallPlace c.in_ok-copy_small.field-0; term = c.in_ok-clone.field-0 }) (d-is c.args.self.now.p c.args.self.now.term c.args.y.now c.requires.key.0 (record { op = SmallD; prime = c.args.self.now.p; place = SmallPlace c.in_ok-copy_small.field-0; term = c.in_ok-clone.field-0 }) c.in_ok-copy_small.field-0 c.in_ok-clone.field-0 c.in_ok-copy_small.ensures c.in_ok-clone.ensures.cases refl) (d-back c.args.self.now.p c.args.self.now.term c.args.y.now c.requires.key.0) HasSmall tt

pub asked_small-requires-clause-source : goal.asked_small-requires-clause-source
asked_small-requires-clause-source g c = may-so c.args.self.now.p (d_ask c.args.self.now.p c.args.self.now.term c.args.y.now) (record { op = SmallD; prime = c.args.self.now.p; place = SmallPlace c.in_ok-copy_small.field-0; term = c.in_ok-clone.field-0 }) (d-is c.args.self.now.p c.args.self.now.term c.args.y.now c.requires.key.0 (record { op = SmallD; prime = c.args.self.now.p; place = SmallPlace c.in_ok-copy_small.field-0; term = c.in_ok-clone.field-0 }) c.in_ok-copy_small.field-0 c.in_ok-clone.field-0 c.in_ok-copy_small.ensures c.in_ok-clone.ensures.cases refl) (d-back c.args.self.now.p c.args.self.now.term c.args.y.now c.requires.key.0) c.args.source.now (λ s k. g.F.Forcer.may_force s.forcer.now k) (λ s ks t. Asked g.F.Forcer.forces s.forcer.now ks t.forcer.now) c.requires.source

pub returns-clause-prime : goal.returns-clause-prime
returns-clause-prime g c = prime-so c.args.self.now.p (d_ask c.args.self.now.p c.args.self.now.term c.args.y.now) (record { op = SmallD; prime = c.args.self.now.p; place = SmallPlace c.in_ok-copy_small.field-0; term = c.in_ok-clone.field-0 }) (d-is c.args.self.now.p c.args.self.now.term c.args.y.now c.requires.key.0 (record { op = SmallD; prime = c.args.self.now.p; place = SmallPlace c.in_ok-copy_small.field-0; term = c.in_ok-clone.field-0 }) c.in_ok-copy_small.field-0 c.in_ok-clone.field-0 c.in_ok-copy_small.ensures c.in_ok-clone.ensures.cases refl) (d-back c.args.self.now.p c.args.self.now.term c.args.y.now c.requires.key.0) small_cmp small_in (quote_small_chain (space_of c.args.self.now.term) (value (number c.args.self.now.p) (d_ask c.args.self.now.p c.args.self.now.term c.args.y.now))) refl c.asked_small.result c.asked_small.ensures.value

pub returns-clause-value : goal.returns-clause-value
returns-clause-value g c = value-so c.args.self.now.p (d_ask c.args.self.now.p c.args.self.now.term c.args.y.now) (record { op = SmallD; prime = c.args.self.now.p; place = SmallPlace c.in_ok-copy_small.field-0; term = c.in_ok-clone.field-0 }) (d-is c.args.self.now.p c.args.self.now.term c.args.y.now c.requires.key.0 (record { op = SmallD; prime = c.args.self.now.p; place = SmallPlace c.in_ok-copy_small.field-0; term = c.in_ok-clone.field-0 }) c.in_ok-copy_small.field-0 c.in_ok-clone.field-0 c.in_ok-copy_small.ensures c.in_ok-clone.ensures.cases refl) (d-back c.args.self.now.p c.args.self.now.term c.args.y.now c.requires.key.0) small_cmp small_in (quote_small_chain (space_of c.args.self.now.term) (value (number c.args.self.now.p) (d_ask c.args.self.now.p c.args.self.now.term c.args.y.now))) refl c.asked_small.result c.asked_small.ensures.value c.asked_small.ensures.normal

pub returns-clause-source : goal.returns-clause-source
returns-clause-source g c = asked-so c.args.self.now.p (d_ask c.args.self.now.p c.args.self.now.term c.args.y.now) (record { op = SmallD; prime = c.args.self.now.p; place = SmallPlace c.in_ok-copy_small.field-0; term = c.in_ok-clone.field-0 }) (d-is c.args.self.now.p c.args.self.now.term c.args.y.now c.requires.key.0 (record { op = SmallD; prime = c.args.self.now.p; place = SmallPlace c.in_ok-copy_small.field-0; term = c.in_ok-clone.field-0 }) c.in_ok-copy_small.field-0 c.in_ok-clone.field-0 c.in_ok-copy_small.ensures c.in_ok-clone.ensures.cases refl) (d-back c.args.self.now.p c.args.self.now.term c.args.y.now c.requires.key.0) c.args.source.now c.asked_small.new.source (λ s ks t. Asked g.F.Forcer.forces s.forcer.now ks t.forcer.now) refused c.asked_small.result c.asked_small.ensures.source
