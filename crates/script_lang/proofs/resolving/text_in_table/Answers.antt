use Rattle.std.proofs.Common.{◌≡◌, ◌-◌, true, length, sym, ◌∙◌, subst, arith, refl}
use Rattle.std.proofs.lemmas.Bool.{false≢true}
use Rattle.spaces.specs.Spaces.{table}
use Rattle.term_lang.specs.Rows.{rows_of}
use Rattle.script_lang.specs.Meaning.{is_prefix}
use Rattle.script_lang.proofs.ResolveSpaces.{read_table}
use Rattle.script_lang.proofs.ResolveFound.{no_prefix, text_fits, text_found, found_at, cell_found}
use Rattle.script_lang.proofs.resolving.text_in_table.Goals as goal

pub returns-in_default : goal.returns-in_default
returns-in_default c =
    no_prefix (table (rows_of c.args.t.now)) c.args.n c.args.text.now
    (λ h. false≢true (c.in_default.ensures.some.1 (subst (λ w. is_prefix c.args.n w ≡ true) (sym c.as_slice-indices.ensures) h)))

pub prefixed-requires : goal.prefixed-requires
prefixed-requires c =
    let a = table (rows_of c.args.t.now) in
    let is = c.rows-rows.ensures.form in
    let right = subst (λ w. is_prefix c.args.n w ≡ true) c.as_slice-indices.ensures (c.in-Some.ensures.some.0 refl) in
    let word = c.in-Some.ensures.word ∙ c.as_slice-indices.ensures in
    let found = cell_found a (read_table _ is) (c.args.n - length c.as_slice-indices.result.now) (omega (arith, c.requires)) c.args.text.now.body _ _ c.bare.ensures c.table_cell.ensures in
    text_fits a c.args.n c.args.text.now is tt (omega (arith, c.requires)) right c.in-Some.degens word c.bare.result
    (found_at a c.args.n c.args.text.now.body _ _ _ c.as_slice-indices.ensures found)

pub returns : goal.returns
returns c =
    let a = table (rows_of c.args.t.now) in
    let is = c.rows-rows.ensures.form in
    let right = subst (λ w. is_prefix c.args.n w ≡ true) c.as_slice-indices.ensures (c.in-Some.ensures.some.0 refl) in
    let word = c.in-Some.ensures.word ∙ c.as_slice-indices.ensures in
    let found = cell_found a (read_table _ is) (c.args.n - length c.as_slice-indices.result.now) (omega (arith, c.requires)) c.args.text.now.body _ _ c.bare.ensures c.table_cell.ensures in
    text_found a c.args.n c.args.text.now is tt (omega (arith, c.requires)) right c.in-Some.degens word c.bare.result c.prefixed.result
    (found_at a c.args.n c.args.text.now.body _ _ _ c.as_slice-indices.ensures found) c.prefixed.ensures
