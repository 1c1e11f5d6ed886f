use Rattle.std.proofs.Common.{◌≡◌, true, sym, ◌∙◌, subst, arith, refl}
use Rattle.std.proofs.lemmas.Bool.{false≢true}
use Rattle.spaces.specs.Spaces.{kz1}
use Rattle.script_lang.specs.Meaning.{is_prefix}
use Rattle.script_lang.proofs.ResolveFound.{no_prefix, text_fits, text_found, found_at}
use Rattle.script_lang.proofs.resolving.text_in_integers.Goals as goal

pub returns-in_default : goal.returns-in_default
returns-in_default c =
    no_prefix kz1 c.args.n c.args.text.now
    (λ h. false≢true (c.in_default.ensures.some.1 (subst (λ w. is_prefix c.args.n w ≡ true) (sym c.as_slice-indices.ensures) h)))

pub prefixed-requires : goal.prefixed-requires
prefixed-requires c =
    text_fits kz1 c.args.n c.args.text.now tt tt (omega (arith, c.requires)) (subst (λ w. is_prefix c.args.n w ≡ true) c.as_slice-indices.ensures (c.in-Some.ensures.some.0 refl))
    c.in-Some.degens (c.in-Some.ensures.word ∙ c.as_slice-indices.ensures) c.in_ok-listed.field-0
    (found_at kz1 c.args.n c.args.text.now.body _ _ _ c.as_slice-indices.ensures c.in_ok-listed.ensures)

pub returns : goal.returns
returns c =
    text_found kz1 c.args.n c.args.text.now tt tt (omega (arith, c.requires)) (subst (λ w. is_prefix c.args.n w ≡ true) c.as_slice-indices.ensures (c.in-Some.ensures.some.0 refl))
    c.in-Some.degens (c.in-Some.ensures.word ∙ c.as_slice-indices.ensures) c.in_ok-listed.field-0 c.prefixed.result
    (found_at kz1 c.args.n c.args.text.now.body _ _ _ c.as_slice-indices.ensures c.in_ok-listed.ensures) c.prefixed.ensures
