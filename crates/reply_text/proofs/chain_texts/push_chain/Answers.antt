use Rattle.reply_text.specs.Spaces.{printed_space}
use Rattle.reply_text.proofs.Appends.{piece_is}
use Rattle.reply_text.proofs.ChainTerms.{chain_is}
use Rattle.reply_text.proofs.chain_texts.push_chain.Goals as goal

pub returns : goal.returns
returns c =
    piece_is _ _ _ _ _ c.push_terms.ensures
    (chain_is (printed_space c.args.space) c.terms.result.now c.args.chain.now.terms c.is_empty.result c.terms.ensures.terms c.is_empty.ensures c.if-is_empty.false)
