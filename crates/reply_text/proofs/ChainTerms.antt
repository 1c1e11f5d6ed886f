-- The text of a chain that is not 0, from its terms.
use Rattle.std.proofs.Common.{◌≡◌, Bool, true, false, List, [], ◌∷◌, map, refl, ◌∙◌, ap, IsTrue, ◌↔◌}
use Rattle.fp_field.specs.declared.element.Fp.{Fp}
use Rattle.fp_field.specs.Chains.{Terms}
use Rattle.chain_core.specs.Formal.{numbers}
use Rattle.spaces.specs.Spaces.{Space}
use Rattle.cells.specs.declared.cells.Cell.{Cell}
use Rattle.reply_text.specs.CellText.{chain_text, term_text, spaced}

terms_are : (X : Space) (ts : List (Cell × Fp)) → map (λ t. term_text X t.0 t.1.value) ts ≡ map (λ u. term_text X u.0 u.1) (numbers ts)
terms_are X [] = refl
terms_are X (t ∷ ts) = ap (λ xs. term_text X t.0 t.1.value ∷ xs) (terms_are X ts)

pub chain_is : (X : Space) (ts : List (Cell × Fp)) (c : Terms Cell) (b : Bool) → numbers ts ≡ c → (IsTrue b ↔ (c ≡ [])) → b ≡ false
    → spaced (map (λ t. term_text X t.0 t.1.value) ts) ≡ chain_text X c
chain_is X ts [] b e h f = let g : b ≡ true = h.1 refl in absurd (cc)
chain_is X ts (u ∷ c) b e h f = ap spaced (terms_are X ts) ∙ ap (λ v. spaced (map (λ u. term_text X u.0 u.1) v)) e
