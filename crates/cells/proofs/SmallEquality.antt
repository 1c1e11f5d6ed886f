-- The test that the order gives decides whether small cells are the same, and the parts of small cells of one kind decide whether these
-- are.
use Rattle.std.proofs.Common.{◌≡◌, Bool, false, List, sym, ◌∙◌, ap, true≢false}
use Rattle.std.proofs.lemmas.Cmp.{tied_itself}
use Rattle.std.specs.Bool.{Decides, one_answer}
use Rattle.std.specs.Ordering.{eq_by_cmp}
use Rattle.cells.specs.declared.cells.Cell.{Cell}
use Rattle.cells.specs.declared.cells.SmallCell.{SmallCell, out-SmallCell, out-roll-SmallCell}
use Rattle.cells.specs.declared.cells.SmallCell.TheVariants.{One, Pair, Up, Word, rolls-One, rolls-Pair, rolls-Up, rolls-Word}
use Rattle.cells.specs.declared.cells.SmallCell.TheOpen.{SmallCell-F}
use Rattle.cells.specs.Small.{small_cmp}
use Rattle.cells.specs.Laws.{small_total}
use Rattle.cells.proofs.OneSmall.{one_small}
use Rattle.cells.proofs.Equality.{decided}

pub small_decides : (c d : SmallCell) → Decides (eq_by_cmp small_cmp c d) (c ≡ d)
small_decides c d = decided (small_cmp c d) (one_small c d) (λ e. ap (small_cmp c) (sym e) ∙ tied_itself small_total c)

-- what decides the parts decides the small cells
pub by_small_parts : {P : Type 0} (c d y z : SmallCell) (r : Bool) → c ≡ y → d ≡ z → Decides r P → (P → y ≡ z) → (y ≡ z → P) → r ≡ eq_by_cmp small_cmp c d
by_small_parts c d y z r p q h f g = one_answer r (eq_by_cmp small_cmp y z) (λ t. f (h.0 t), λ e. h.1 (g e)) (small_decides y z) ∙ (λ i. eq_by_cmp small_cmp (sym p i) (sym q i))

pub unlike_small : (c d : SmallCell) → (c ≡ d → ⊥) → false ≡ eq_by_cmp small_cmp c d
unlike_small c d h = one_answer false (eq_by_cmp small_cmp c d) (λ t. absurd (true≢false (sym t)), λ e. absurd (h e)) (small_decides c d)

pub one_part : (c d : Cell) → One c ≡ One d → c ≡ d
one_part c d h =
    let f : SmallCell-F.One c ≡ SmallCell-F.One d = sym (out-roll-SmallCell (SmallCell-F.One c)) ∙ ap out-SmallCell (rolls-One c ∙ h ∙ sym (rolls-One d)) ∙ out-roll-SmallCell (SmallCell-F.One d) in
    cc

pub small_pair_parts : (a x b y : SmallCell) → Pair a x ≡ Pair b y → (a ≡ b) × (x ≡ y)
small_pair_parts a x b y h =
    let f : SmallCell-F.Pair a x ≡ SmallCell-F.Pair b y = sym (out-roll-SmallCell (SmallCell-F.Pair a x)) ∙ ap out-SmallCell (rolls-Pair a x ∙ h ∙ sym (rolls-Pair b y)) ∙ out-roll-SmallCell (SmallCell-F.Pair b y) in
    (cc, cc)

pub small_up_part : (c d : SmallCell) → Up c ≡ Up d → c ≡ d
small_up_part c d h =
    let f : SmallCell-F.Up c ≡ SmallCell-F.Up d = sym (out-roll-SmallCell (SmallCell-F.Up c)) ∙ ap out-SmallCell (rolls-Up c ∙ h ∙ sym (rolls-Up d)) ∙ out-roll-SmallCell (SmallCell-F.Up d) in
    cc

pub small_word_part : (v w : List SmallCell) → Word v ≡ Word w → v ≡ w
small_word_part v w h =
    let f : SmallCell-F.Word v ≡ SmallCell-F.Word w = sym (out-roll-SmallCell (SmallCell-F.Word v)) ∙ ap out-SmallCell (rolls-Word v ∙ h ∙ sym (rolls-Word w)) ∙ out-roll-SmallCell (SmallCell-F.Word w) in
    cc
