-- A simplex, its degeneracy, and what the code makes of it.
use Rattle.std.proofs.Common.{◌≡◌, ℕ, suc, ◌+◌, ◌-◌, ◌^◌, ◌<◌, ◌≤◌, ◌&&◌, nat_lt, false, length, add-one, sym, ◌∙◌, ap, subst, arith}
use Rattle.simp_ops.specs.Bits.{bit, mask_word}
use Rattle.simp_ops.specs.Words.{IsWord, degeneracy_word}
use Rattle.simp_ops.proofs.PlacesOf.{is_lt, word_below, places_room}
use Rattle.simp_ops.proofs.OperatorLaws.{degeneracy_in}
use Rattle.simp_ops.proofs.Squeezed.{and_left, and_right}
use Rattle.spaces.specs.Allowed.{IsAllowed}
use Rattle.spaces.specs.Spaces.{Space, set_of}
use Rattle.spaces.proofs.SpaceLaws.{space_set_laws}
use Rattle.spaces.proofs.WordLaws.{length-degeneracy, word_length}
use Rattle.cells.specs.declared.cells.Simplex.{Simplex}
use Rattle.term_lang.specs.Degenerated.{degenerated}
use Rattle.term_lang.specs.Forms.{cell_form, form}
use Rattle.term_lang.specs.Belongs.{is_cell, IsCell, IsSimplex}
use Rattle.term_lang.proofs.CodeForms.{lt_is, word_of_mask, mask_of_word}
use Rattle.term_lang.proofs.WordsAct.{words_act}
use Rattle.normal_forms.specs.Built.{IsBuilt}
use Rattle.normal_forms.proofs.BuiltForms.{built_cells}

mask_low : (X : Space) (n : ℕ) (x : Simplex) → IsSimplex X n x → x.degens.mask < 2 ^ n
mask_low X n x h =
    lt_is x.degens.mask (2 ^ n) (and_left (nat_lt x.degens.mask (2 ^ n)) (is_cell x.cell X (n - length (mask_word x.degens.mask))) h)

-- in degree at most 31 there is room for one more place
pub room : (X : Space) (n : ℕ) (x : Simplex) → IsSimplex X n x → n ≤ 31 → bit x.degens.mask 31 ≡ false
room X n x h l =
    places_room 31 (bit x.degens.mask) (word_below n 31 (mask_word x.degens.mask) l (word_of_mask n x.degens.mask (mask_low X n x h)))

-- what the code makes of the degeneracy
pub record Made (X : Space) (n i : ℕ) (x y : Simplex) : Type 0 where
  pub plain_is : form y X ≡ (set_of X).degeneracy i (form x X)
  pub simplex : IsSimplex X (n + 1) y

pub made : (X : Space) → IsAllowed X → IsBuilt X → (n i : ℕ) (x y : Simplex) → IsSimplex X n x → n ≤ 32 → i ≤ n → y.cell ≡ x.cell
    → mask_word y.degens.mask ≡ degeneracy_word i (mask_word x.degens.mask) → Made X n i x y
made X is built n i x y h l k e f =
    let w = mask_word x.degens.mask in
    let v = mask_word y.degens.mask in
    let word : IsWord n w = word_of_mask n x.degens.mask (mask_low X n x h) in
    let short : length w ≤ n = word_length n w word in
    let m : n - length w + length w ≡ n = omega (arith, short) in
    let cell : IsCell X (n - length w) x.cell = and_right (nat_lt x.degens.mask (2 ^ n)) (is_cell x.cell X (n - length w)) h in
    let below : n - length w ≤ 32 = omega (arith, l) in
    let more : IsWord (n + 1) v = subst (λ u. IsWord (n + 1) u) (sym f) (rw add-one (degeneracy_in n i w word k)) in
    let low : y.degens.mask < 2 ^ (n + 1) = mask_of_word (n + 1) y.degens.mask y.degens.below_32 more in
    let longer : length v ≡ suc (length w) = ap length f ∙ length-degeneracy i w in
    let left : n + 1 - length v ≡ n - length w = omega (arith, longer, short) in
    record {
      plain_is =
          (λ j. degenerated (set_of X) (f j) (cell_form (e j) X))
          ∙ sym ((words_act (set_of X) (space_set_laws X is.0)).degeneracy (n - length w) i w (cell_form x.cell X) ((built_cells X is built (n - length w) below).simplex x.cell cell)
          (subst (λ q. IsWord q w) (sym m) word) (omega (arith, m, k)));
      simplex = (λ j. is_lt y.degens.mask (2 ^ (n + 1)) low j && is_cell (e j) X (left j)) ∙ cell;
    }
