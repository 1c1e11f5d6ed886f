use Rattle.std.proofs.Common.{◌≡◌, sym, ◌∙◌, ap}
use Rattle.spaces.specs.Spaces.{table}
use Rattle.term_lang.specs.Quote.{row_cell}
use Rattle.term_lang.specs.Rows.{rows_of}
use Rattle.script_lang.specs.Meaning.{mapped, named_row, star}
use Rattle.script_lang.specs.Resolved.{body_meaning}
use Rattle.script_lang.proofs.ResolveMeanings.{meaning-Star, meaning-Name, table_other}
use Rattle.script_lang.proofs.named.table_cell.Goals as goal

pub returns-in-Star : goal.returns-in-Star
returns-in-Star c =
    let t = rows_of c.args.t.now in
    let e = c.as_slice-rows.ensures ∙ c.rows.ensures.rows in
    let m : body_meaning c.args.body.now (table t) c.args.n ≡ named_row t star c.args.n = ap (λ b. body_meaning b (table t) c.args.n) c.in-Star.is ∙ ap (λ f. f (table t) c.args.n) meaning-Star in
    c.named_cell.ensures ∙ ap (λ l. mapped (row_cell c.args.n) (named_row (rows_of l) star c.args.n)) e ∙ ap (mapped (row_cell c.args.n)) (sym m)

pub returns-in-Name : goal.returns-in-Name
returns-in-Name c =
    let t = rows_of c.args.t.now in
    let e = c.as_slice-rows.ensures ∙ c.rows.ensures.rows in
    let m : body_meaning c.args.body.now (table t) c.args.n ≡ named_row t c.in-Name.name c.args.n = ap (λ b. body_meaning b (table t) c.args.n) c.in-Name.is ∙ ap (λ f. f (table t) c.args.n) (meaning-Name c.in-Name.name) in
    c.named_cell-in-Name.ensures ∙ (λ i. mapped (row_cell c.args.n) (named_row (rows_of (e i)) (c.as_bytes.ensures.bytes i) c.args.n)) ∙ ap (mapped (row_cell c.args.n)) (sym m)

pub returns-in_default : goal.returns-in_default
returns-in_default c =
    let t = rows_of c.args.t.now in
    ap (mapped (row_cell c.args.n)) (sym (table_other t c.args.n c.args.body.now c.in_default.not-Star c.in_default.not-Name))
