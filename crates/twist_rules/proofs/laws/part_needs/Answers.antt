use Rattle.std.proofs.lemmas.List.Elements.{All-from_recursion}
use Rattle.fp_field.specs.Field.{number}
use Rattle.values.specs.Ranks.{IsValid}
use Rattle.oracle_iface.specs.Keys.{needs_of}
use Rattle.twist_rules.proofs.PartNeeds.{needs-valid, needs-read_back}
use Rattle.twist_rules.proofs.laws.part_needs.Goals as goal

pub returns : goal.returns
returns c = record {
  valid = λ is u a not. All-from_recursion (IsValid (number c.args.key.now.prime)) (needs_of c.args.key.now) (needs-valid c.args.key.now is u a not);
  back = λ is u a not b f. needs-read_back c.args.key.now is u a not b f;
}
