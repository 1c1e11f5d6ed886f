-- The tests that the orders give decide whether cells, simplices and letters are the same, and the parts of cells of one kind decide
-- whether these are.
use Rattle.std.proofs.Common.{◌≡◌, ℕ, Bool, true, false, List, refl, sym, ◌∙◌, ap, true≢false, ℤ, nat_eq, ◌&&◌, arith}
use Rattle.std.proofs.lemmas.Bool.Decides.{nat_tests}
use Rattle.std.proofs.lemmas.Cmp.{tied_itself}
use Rattle.std.specs.Bool.{Decides, one_answer}
use Rattle.std.specs.Ordering.{is_eq, eq_by_cmp}
use Rattle.std.specs.declared.cmp.Ordering.{Ordering}
use Rattle.std.specs.declared.cmp.Ordering.TheVariants.{Less, Equal, Greater}
use Rattle.cells.specs.declared.cells.Cell.{Cell, out-Cell, out-roll-Cell}
use Rattle.cells.specs.declared.cells.Cell.TheVariants.{Row, Top, Pair, Up, Ints, Word, rolls-Row, rolls-Top, rolls-Pair, rolls-Up, rolls-Ints, rolls-Word}
use Rattle.cells.specs.declared.cells.Cell.TheOpen.{Cell-F}
use Rattle.cells.specs.declared.cells.Letter.{Letter}
use Rattle.cells.specs.declared.cells.Simplex.{Simplex}
use Rattle.cells.specs.Order.{cell_cmp, simplex_cmp, letter_cmp}
use Rattle.cells.specs.Laws.{cell_total, simplex_total, letter_total}
use Rattle.cells.proofs.OneKey.{one_cell, one_simplex, one_letter}

pub decided : {P : Type 0} (o : Ordering) → (o ≡ Equal → P) → (P → o ≡ Equal) → Decides (is_eq o) P
decided Less f g = (λ h. absurd (true≢false (sym h)), λ p. absurd (true≢false (sym (ap is_eq (g p)))))
decided Equal f g = (λ h. f refl, λ p. refl)
decided Greater f g = (λ h. absurd (true≢false (sym h)), λ p. absurd (true≢false (sym (ap is_eq (g p)))))

pub cell_decides : (c d : Cell) → Decides (eq_by_cmp cell_cmp c d) (c ≡ d)
cell_decides c d = decided (cell_cmp c d) (one_cell c d) (λ e. ap (cell_cmp c) (sym e) ∙ tied_itself cell_total c)

pub simplex_decides : (x y : Simplex) → Decides (eq_by_cmp simplex_cmp x y) (x ≡ y)
simplex_decides x y = decided (simplex_cmp x y) (one_simplex x y) (λ e. ap (simplex_cmp x) (sym e) ∙ tied_itself simplex_total x)

pub letter_decides : (l m : Letter) → Decides (eq_by_cmp letter_cmp l m) (l ≡ m)
letter_decides l m = decided (letter_cmp l m) (one_letter l m) (λ e. ap (letter_cmp l) (sym e) ∙ tied_itself letter_total l)

-- what decides the parts decides the cells
pub by_parts : {P : Type 0} (c d y z : Cell) (r : Bool) → c ≡ y → d ≡ z → Decides r P → (P → y ≡ z) → (y ≡ z → P) → r ≡ eq_by_cmp cell_cmp c d
by_parts c d y z r p q h f g = one_answer r (eq_by_cmp cell_cmp y z) (λ t. f (h.0 t), λ e. h.1 (g e)) (cell_decides y z) ∙ (λ i. eq_by_cmp cell_cmp (sym p i) (sym q i))

pub unlike : (c d : Cell) → (c ≡ d → ⊥) → false ≡ eq_by_cmp cell_cmp c d
unlike c d h = one_answer false (eq_by_cmp cell_cmp c d) (λ t. absurd (true≢false (sym t)), λ e. absurd (h e)) (cell_decides c d)

pub alike : (c d : Cell) → c ≡ d → true ≡ eq_by_cmp cell_cmp c d
alike c d e = sym ((cell_decides c d).1 e)

-- ---- two parts, of which the first decides where it fails

pub first_true : {A B : Type 0} (p q : Bool) → Decides p A → Decides q B → p ≡ true → Decides q (A × B)
first_true p q a b e = (λ h. (a.0 e, b.0 h), λ x. b.1 x.1)

pub first_false : {A B : Type 0} (p : Bool) → Decides p A → (A → ⊥) → Decides p (A × B)
first_false p a e = (λ h. absurd (e (a.0 h)), λ x. absurd (e x.0))

pub number_decides : (m n : ℕ) → Decides (nat_eq m n) (m ≡ n)
number_decides m n = (λ h. grind (arith, nat_tests, h), λ h. grind (arith, nat_tests, h))

-- ---- the parts of cells that are the same

pub row_parts : (d a e b : ℕ) → Row d a ≡ Row e b → (d ≡ e) × (a ≡ b)
row_parts d a e b h =
    let f : Cell-F.Row d a ≡ Cell-F.Row e b = sym (out-roll-Cell (Cell-F.Row d a)) ∙ ap out-Cell (rolls-Row d a ∙ h ∙ sym (rolls-Row e b)) ∙ out-roll-Cell (Cell-F.Row e b) in
    (cc, cc)

pub top_part : (m n : ℕ) → Top m ≡ Top n → m ≡ n
top_part m n h =
    let f : Cell-F.Top m ≡ Cell-F.Top n = sym (out-roll-Cell (Cell-F.Top m)) ∙ ap out-Cell (rolls-Top m ∙ h ∙ sym (rolls-Top n)) ∙ out-roll-Cell (Cell-F.Top n) in
    cc

pub pair_parts : (a x b y : Simplex) → Pair a x ≡ Pair b y → (a ≡ b) × (x ≡ y)
pair_parts a x b y h =
    let f : Cell-F.Pair a x ≡ Cell-F.Pair b y = sym (out-roll-Cell (Cell-F.Pair a x)) ∙ ap out-Cell (rolls-Pair a x ∙ h ∙ sym (rolls-Pair b y)) ∙ out-roll-Cell (Cell-F.Pair b y) in
    (cc, cc)

pub up_part : (c d : Cell) → Up c ≡ Up d → c ≡ d
up_part c d h =
    let f : Cell-F.Up c ≡ Cell-F.Up d = sym (out-roll-Cell (Cell-F.Up c)) ∙ ap out-Cell (rolls-Up c ∙ h ∙ sym (rolls-Up d)) ∙ out-roll-Cell (Cell-F.Up d) in
    cc

pub ints_part : (a b : List ℤ) → Ints a ≡ Ints b → a ≡ b
ints_part a b h =
    let f : Cell-F.Ints a ≡ Cell-F.Ints b = sym (out-roll-Cell (Cell-F.Ints a)) ∙ ap out-Cell (rolls-Ints a ∙ h ∙ sym (rolls-Ints b)) ∙ out-roll-Cell (Cell-F.Ints b) in
    cc

pub word_part : (v w : List Letter) → Word v ≡ Word w → v ≡ w
word_part v w h =
    let f : Cell-F.Word v ≡ Cell-F.Word w = sym (out-roll-Cell (Cell-F.Word v)) ∙ ap out-Cell (rolls-Word v ∙ h ∙ sym (rolls-Word w)) ∙ out-roll-Cell (Cell-F.Word w) in
    cc

pub masks_tell : (a x b y : Simplex) (r : Bool) → r ≡ nat_eq a.degens.mask b.degens.mask && nat_eq x.degens.mask y.degens.mask → r ≡ false → Pair a x ≡ Pair b y → ⊥
masks_tell a x b y r e f h =
    let p = pair_parts a x b y h in
    let m : nat_eq a.degens.mask b.degens.mask ≡ true = (number_decides a.degens.mask b.degens.mask).1 (ap (λ z. z.degens.mask) p.0) in
    let n : nat_eq x.degens.mask y.degens.mask ≡ true = (number_decides x.degens.mask y.degens.mask).1 (ap (λ z. z.degens.mask) p.1) in
    true≢false (sym (e ∙ (λ i. m i && n i)) ∙ f)
