use Rattle.susp_rules.proofs.Questions.{need-found}
use Rattle.susp_rules.specs.Places.{part_place}
use Rattle.std.proofs.Common.{refl}
use Rattle.rule_book.specs.Lower.{needs-treated, needs-lower-rank, needs-parts}
use Rattle.rule_book.proofs.WithinLimits.{none_needed}
use Rattle.rule_book.proofs.laws.needs_laws.Goals as goal

pub returns : goal.returns
returns c = record {
  treated = λ q is needed. needs-treated c.args.key.now q is needed;
  lower = λ q is needed. needs-lower-rank c.args.key.now q is needed;
  none = none_needed c.args.key.now;
  parts = λ q is fibred not. needs-parts c.args.key.now q is fibred not;
  part = λ a is of not. need-found c.args.key.now is.0 a of not (part_place c.args.key.now.place) refl;
}
