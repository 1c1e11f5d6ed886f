use Rattle.std.proofs.Common.{◌≡◌, ◌∙◌, ap, subst}
use Rattle.std.proofs.lemmas.Result.{err_from_is_err_and}
use Rattle.oracle_iface.specs.declared.keys.Key.{Key}
use Rattle.oracle_iface.specs.declared.cell_values.CellValue.{CellValue}
use Rattle.reply_text.specs.declared.replies.Reply.TheVariants as replies
use Rattle.session_core.specs.Answer.{told, ◌>>◌}
use Rattle.session_core.specs.Telling.{Stops, cycles_key, told_cycles, told_homology}
use Rattle.session_core.proofs.Told.{stops_on, stops_exit}
use Rattle.session_core.proofs.homologies.listed_cycles.Goals as goal

pub returns-in_err-cycles-clause-stops : goal.returns-in_err-cycles-clause-stops
returns-in_err-cycles-clause-stops g c =
    let t = c.args.spot.term in
    let n = c.args.spot.degree in
    let e : c.get.result.now.key ≡ cycles_key c.args.p t n = ap (λ (v : CellValue). v.key) c.get.ensures ∙ c.in_ok-cell.ensures.key in
    stops_exit c.from_residual-in_err-cycles.result c.in_err-cycles.field-0.0 (told_homology c.args.p t n)
    (err_from_is_err_and c.from_residual-in_err-cycles.result c.from_residual-in_err-cycles.ensures.1)
    (stops_on c.in_err-cycles.field-0.0 (told_cycles c.args.p t n) _ (subst (λ (k : Key). Stops c.in_err-cycles.field-0.0 (told_cycles k.prime k.term n)) e c.in_err-cycles.ensures.stops))

pub returns-clause-told : goal.returns-clause-told
returns-clause-told g c =
    let t = c.args.spot.term in
    let n = c.args.spot.degree in
    let e : c.get.result.now.key ≡ cycles_key c.args.p t n = ap (λ (v : CellValue). v.key) c.get.ensures ∙ c.in_ok-cell.ensures.key in
    ap (λ m. m >> λ zs. told (replies.Homology t zs)) (subst (λ (k : Key). told_cycles k.prime k.term n ≡ told c.in_ok-cycles.cycles) e c.in_ok-cycles.ensures.told)
