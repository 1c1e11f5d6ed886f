use Rattle.std.proofs.Common.{◌++◌, codes, sym, ◌∙◌, ap}
use Rattle.term_lang.specs.SpaceOf.{space_of}
use Rattle.reply_text.specs.Text.{text, numbers_text, chain_line}
use Rattle.reply_text.proofs.Appends.{after_three}
use Rattle.reply_text.proofs.reply_texts.push_reply.Goals as goal

pub returns-in_ok-push_text-in-Express-2 : goal.returns-in_ok-push_text-in-Express-2
unfolding text
returns-in_ok-push_text-in-Express-2 c =
    after_three _ _ _ _ _ _ _ _ _ _ _ c.in_ok-push_text-in-Express.ensures c.in_ok-push_values-in-Express.ensures c.in_ok-push_text-in-Express-2.ensures c.push_chain_line-in-Express.ensures
    (ap (λ u. codes "coefficients" ++ (numbers_text c.in-Express.row.values ++ (codes "\n" ++ chain_line (space_of u) c.in-Express.chain))) c.get-in-Express.ensures
    ∙ sym (ap text c.in-Express.is))
