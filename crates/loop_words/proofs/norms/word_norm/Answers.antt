use Rattle.std.proofs.Common.{◌≡◌, [], refl, sym, ◌∙◌, subst}
use Rattle.loop_words.specs.LetterWords.{IsReduced}
use Rattle.loop_words.specs.WordForms.{AreLetters}
use Rattle.loop_words.proofs.StrippedWords.{empty_form, empty_simplex, normed, Normed}
use Rattle.loop_words.proofs.StripSteps.{no_items, some_items}
use Rattle.loop_words.proofs.norms.word_norm.Goals as goal

pub returns-then-is_empty-clause-form : goal.returns-then-is_empty-clause-form
returns-then-is_empty-clause-form c =
    let e : c.args.w.now ≡ [] = sym c.as_slice-letters.ensures ∙ no_items c.as_slice-letters.result.now c.is_empty.result c.is_empty.ensures c.if-is_empty.true in
    λ a has h. empty_form a _ c.new_seq.result c.args.w.now c.new_seq.ensures e

pub returns-then-is_empty-clause-simplex : goal.returns-then-is_empty-clause-simplex
returns-then-is_empty-clause-simplex c = λ a has h. empty_simplex a c.args.n c.new_seq.result c.requires.degree c.new_seq.ensures

pub returns-then-is_empty-clause-empty : goal.returns-then-is_empty-clause-empty
returns-then-is_empty-clause-empty c =
    λ a e. (empty_simplex a c.args.n c.new_seq.result c.requires.degree c.new_seq.ensures, empty_form a _ c.new_seq.result [] c.new_seq.ensures refl)

pub returns-clause-form : goal.returns-clause-form
returns-clause-form c =
    let some : c.as_slice-letters.result.now ≡ [] → ⊥ = some_items c.as_slice-letters.result.now c.is_empty.result c.is_empty.ensures c.if-is_empty.false in
    λ a has h.
    (subst (λ u. Normed a c.args.n has c.shared_places-shared.result.mask c.shared_places-shared.result.below_32 u c.in_ok-stripped.field-0) c.as_slice-letters.ensures
    (normed a c.args.n has c.shared_places-shared.result.mask c.shared_places-shared.result.below_32 c.as_slice-letters.result.now c.in_ok-stripped.field-0 some
    c.in_ok-stripped.ensures (subst IsReduced (sym c.as_slice-letters.ensures) c.requires.reduced) (subst (AreLetters a c.args.n) (sym c.as_slice-letters.ensures) h)
    c.shared_places-shared.ensures)).plain_is

pub returns-clause-simplex : goal.returns-clause-simplex
returns-clause-simplex c =
    let some : c.as_slice-letters.result.now ≡ [] → ⊥ = some_items c.as_slice-letters.result.now c.is_empty.result c.is_empty.ensures c.if-is_empty.false in
    λ a has h.
    (normed a c.args.n has c.shared_places-shared.result.mask c.shared_places-shared.result.below_32 c.as_slice-letters.result.now c.in_ok-stripped.field-0 some
    c.in_ok-stripped.ensures (subst IsReduced (sym c.as_slice-letters.ensures) c.requires.reduced) (subst (AreLetters a c.args.n) (sym c.as_slice-letters.ensures) h)
    c.shared_places-shared.ensures).simplex
