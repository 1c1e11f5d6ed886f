-- The text of each kind of cell.
use Rattle.std.proofs.Common.{◌≡◌, ℕ, ◌++◌, List, [], ◌∷◌, map, codes, refl, sym, ◌∙◌, ap, ℤ, decimal}
use Rattle.std.specs.List.{flat_map}
use Rattle.std.specs.Fmt.{signed_decimal}
use Rattle.spaces.specs.Spaces.{Space}
use Rattle.cells.specs.declared.cells.Cell.{Cell, fold-roll-Cell, roll-Cell, map-Cell}
use Rattle.cells.specs.declared.cells.Cell.TheVariants.{Row, Base, Top, Pair, Up, Ints, Word, rolls-Pair, rolls-Up, rolls-Word, rolls-Row, rolls-Base, rolls-Top, rolls-Ints}
use Rattle.cells.specs.declared.cells.Cell.TheOpen.{Cell-F}
use Rattle.cells.specs.declared.cells.Letter.{Letter, fold-Letter, fold-roll-Letter}
use Rattle.cells.specs.declared.cells.Simplex.{Simplex, fold-Simplex, fold-roll-Simplex}
use Rattle.reply_text.specs.CellText.{TextIn, cell_text, cell_step, letter_step, simplex_step, simplex_text, letter_text, row_text, left_part, right_part, part_below, spaced}

rolled : (x : Cell-F Cell Letter Simplex) → cell_text (roll-Cell x)
    ≡ cell_step (map-Cell Cell Letter Simplex TextIn TextIn TextIn cell_text (fold-Letter TextIn TextIn TextIn cell_step letter_step simplex_step) (fold-Simplex TextIn TextIn TextIn cell_step letter_step simplex_step) x)
unfolding cell_text
rolled x = fold-roll-Cell TextIn TextIn TextIn cell_step letter_step simplex_step x

simplex_is : (x : Simplex) → fold-Simplex TextIn TextIn TextIn cell_step letter_step simplex_step x ≡ simplex_text x
unfolding cell_text
simplex_is x = fold-roll-Simplex TextIn TextIn TextIn cell_step letter_step simplex_step (record { degens = x.degens; cell = x.cell })

letter_is : (l : Letter) → fold-Letter TextIn TextIn TextIn cell_step letter_step simplex_step l ≡ letter_text l
letter_is l = fold-roll-Letter TextIn TextIn TextIn cell_step letter_step simplex_step (record { inverse = l.inverse; simplex = l.simplex })
    ∙ ap (λ f. letter_step (record { inverse = l.inverse; simplex = f })) (simplex_is l.simplex)

letters_are : (X : Space) (w : List Letter) → map (λ l. l X) (map (fold-Letter TextIn TextIn TextIn cell_step letter_step simplex_step) w) ≡ map (λ l. letter_text l X) w
letters_are X [] = refl
letters_are X (l ∷ w) = λ i. letter_is l i X ∷ letters_are X w i

pub text_row : (d r : ℕ) (X : Space) → cell_text (Row d r) X ≡ row_text X r
text_row d r X = ap (λ c. cell_text c X) (sym (rolls-Row d r)) ∙ ap (λ f. f X) (rolled (Cell-F.Row d r))

pub text_base : (X : Space) → cell_text Base X ≡ codes "*"
text_base X = ap (λ c. cell_text c X) (sym rolls-Base) ∙ ap (λ f. f X) (rolled Cell-F.Base)

pub text_top : (n : ℕ) (X : Space) → cell_text (Top n) X ≡ codes "S" ++ decimal n
text_top n X = ap (λ c. cell_text c X) (sym (rolls-Top n)) ∙ ap (λ f. f X) (rolled (Cell-F.Top n))

pub text_pair : (a b : Simplex) (X : Space) → cell_text (Pair a b) X ≡ codes "<" ++ (simplex_text a (left_part X) ++ (codes "," ++ (simplex_text b (right_part X) ++ codes ">")))
text_pair a b X = ap (λ c. cell_text c X) (sym (rolls-Pair a b)) ∙ ap (λ f. f X) (rolled (Cell-F.Pair a b))
    ∙ (λ i. codes "<" ++ (simplex_is a i (left_part X) ++ (codes "," ++ (simplex_is b i (right_part X) ++ codes ">"))))

pub text_up : (c : Cell) (X : Space) → cell_text (Up c) X ≡ codes "^" ++ cell_text c (part_below X)
text_up c X = ap (λ c. cell_text c X) (sym (rolls-Up c)) ∙ ap (λ f. f X) (rolled (Cell-F.Up c))

pub text_ints : (list : List ℤ) (X : Space) → cell_text (Ints list) X ≡ codes "|" ++ flat_map (λ k. signed_decimal k ++ codes "|") list
text_ints list X = ap (λ c. cell_text c X) (sym (rolls-Ints list)) ∙ ap (λ f. f X) (rolled (Cell-F.Ints list))

pub text_word : (w : List Letter) (X : Space) → cell_text (Word w) X ≡ codes "[" ++ (spaced (map (λ l. letter_text l (part_below X)) w) ++ codes "]")
text_word w X = ap (λ c. cell_text c X) (sym (rolls-Word w)) ∙ ap (λ f. f X) (rolled (Cell-F.Word w)) ∙ ap (λ v. codes "[" ++ (spaced v ++ codes "]")) (letters_are (part_below X) w)
