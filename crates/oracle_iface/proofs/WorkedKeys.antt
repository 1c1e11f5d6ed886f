-- Values of the definitions, by computation.
use Rattle.std.proofs.Common.{◌≡◌, [], ◌∷◌, refl}
use Rattle.spaces.specs.Spaces.{sphere, loops}
use Rattle.cells.specs.declared.cells.Cell.TheVariants.{Base, Top}
use Rattle.cells.specs.declared.cells.SmallCell.TheVariants.{One, Word}
use Rattle.term_lang.specs.declared.terms.Term.TheVariants.{Sphere, Loop}
use Rattle.oracle_iface.specs.Terms.{word_mask, term_of}
use Rattle.oracle_iface.specs.SmallForms.{quote_small}

mask_of_word : word_mask (2 ∷ (0 ∷ [])) ≡ 5
mask_of_word = refl

loop_term : term_of (loops (sphere 3)) ≡ Loop (Sphere 3)
loop_term = refl

vertex : quote_small (sphere 2) 0 ≡ One Base
vertex = refl

cell : quote_small (sphere 2) 1 ≡ One (Top 2)
cell = refl

word : quote_small (loops (sphere 2)) (1 ∷ (1 ∷ [])) ≡ Word (One (Top 2) ∷ (One (Top 2) ∷ []))
word = refl
