use Rattle.std.proofs.Common.{arith}
use Rattle.term_lang.specs.Rows.{rows_of}
use Rattle.script_lang.proofs.ResolveMeanings.{bundle_other}
use Rattle.script_lang.proofs.ResolvePairs.{bundle_found}
use Rattle.script_lang.proofs.resolving.bundled.Goals as goal

pub returns-in_ok-y-in-Pair : goal.returns-in_ok-y-in-Pair
returns-in_ok-y-in-Pair c =
    bundle_found (rows_of c.args.rows.now) c.args.n (omega (arith, c.requires)) c.args.body.now c.in-Pair.x c.in-Pair.y c.in-Pair.is _ _ _ _ c.joined.result
    c.get.ensures c.get-in-Pair.ensures c.text_in_table-x.ensures c.in_ok-y-in-Pair.ensures c.joined.ensures

pub returns-in_default : goal.returns-in_default
returns-in_default c = λ values allowed. bundle_other c.args.body.now c.in_default.not-Pair (rows_of c.args.rows.now) values c.args.n
