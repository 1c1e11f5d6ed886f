use Rattle.std.proofs.Common.{sym, ◌∙◌, ap}
use Rattle.term_lang.specs.SpaceOf.{space_of}
use Rattle.term_lang.proofs.SpacesOfTerms.{space-Table, space-Sphere, space-Product, space-Suspension, space-KZ1, space-Bundle, space-Loop, space-Path}
use Rattle.twist_rules.specs.PartMaps.{twist_of}
use Rattle.twist_rules.proofs.part_maps.values_in.Goals as goal

pub returns-in-Bundle : goal.returns-in-Bundle
returns-in-Bundle c = sym (ap twist_of (ap space_of c.in-Bundle.is ∙ space-Bundle c.in-Bundle.field-0 c.in-Bundle.values))

pub returns-in-Table : goal.returns-in-Table
returns-in-Table c = sym (ap twist_of (ap space_of c.in-Table.is ∙ space-Table c.in-Table.field-0))

pub returns-in-Sphere : goal.returns-in-Sphere
returns-in-Sphere c = sym (ap twist_of (ap space_of c.in-Sphere.is ∙ space-Sphere c.in-Sphere.field-0))

pub returns-in-Product : goal.returns-in-Product
returns-in-Product c = sym (ap twist_of (ap space_of c.in-Product.is ∙ space-Product c.in-Product.field-0 c.in-Product.field-1))

pub returns-in-Suspension : goal.returns-in-Suspension
returns-in-Suspension c = sym (ap twist_of (ap space_of c.in-Suspension.is ∙ space-Suspension c.in-Suspension.field-0))

pub returns-in-KZ1 : goal.returns-in-KZ1
returns-in-KZ1 c = sym (ap twist_of (ap space_of c.in-KZ1.is ∙ space-KZ1))

pub returns-in-Loop : goal.returns-in-Loop
returns-in-Loop c = sym (ap twist_of (ap space_of c.in-Loop.is ∙ space-Loop c.in-Loop.field-0))

pub returns-in-Path : goal.returns-in-Path
returns-in-Path c = sym (ap twist_of (ap space_of c.in-Path.is ∙ space-Path c.in-Path.field-0))
