use Rattle.std.proofs.Common.{◌∙◌}
use Rattle.std.specs.Prelude.{nat_eq}
use Rattle.std.specs.Cmp.Lexicographic.{pointwise}
use Rattle.term_lang.proofs.CodeLaws.{same_codes, other_marks}
use Rattle.term_lang.proofs.equal.TablePartialEq.eq.Goals as goal

pub returns-then-mark : goal.returns-then-mark
returns-then-mark c =
    c.eq.ensures ∙ (λ i. pointwise nat_eq (c.code.ensures.code i) (c.code-then-mark.ensures.code i)) ∙ same_codes c.args.self.now c.args.other.now c.code.ensures.form c.code-then-mark.ensures.form

pub returns-else-mark : goal.returns-else-mark
returns-else-mark c =
    other_marks c.args.self.now c.args.other.now c.mark.result c.mark-2.result c.mark.ensures c.mark-2.ensures c.if-mark.false
