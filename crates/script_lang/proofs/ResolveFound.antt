-- What is found for a text is a word before what is found for its body.
use Rattle.std.proofs.Common.{◌≡◌, ℕ, ℤ, ◌+◌, ◌-◌, ◌^◌, ◌<◌, ◌≤◌, Bool, true, false, cond, nat_lt, ◌&&◌, List, [], length, Option, Some, None, refl, sym, ◌∙◌, ap, subst, arith}
use Rattle.std.specs.Prelude.{IfSome}
use Rattle.simp_ops.specs.declared.degens.Degens.{Degens}
use Rattle.simp_ops.specs.Words.{IsWord, compose_words}
use Rattle.simp_ops.specs.Bits.{mask_word}
use Rattle.simp_ops.proofs.PlacesOf.{is_lt, is_eq, not_eq, word_below}
use Rattle.simp_ops.proofs.MaskWords.{places-none}
use Rattle.simp_ops.proofs.OperatorLaws.{compose_in}
use Rattle.simp_ops.proofs.Squeezed.{and_left, and_right}
use Rattle.spaces.specs.Simplicial.{IsSimplicial}
use Rattle.spaces.specs.Spaces.{Space, kz1, Plain, set_of}
use Rattle.spaces.specs.Allowed.{Admits}
use Rattle.spaces.proofs.SpaceLaws.{space_set_laws}
use Rattle.spaces.proofs.WordLaws.{length-compose, word_length}
use Rattle.cells.specs.declared.cells.Cell.{Cell}
use Rattle.cells.specs.declared.cells.Simplex.{Simplex}
use Rattle.term_lang.specs.Degenerated.{degenerated}
use Rattle.term_lang.specs.Forms.{cell_form, form}
use Rattle.term_lang.specs.Belongs.{is_cell, IsCell, IsSimplex}
use Rattle.cells.proofs.OneKey.{degens_same}
use Rattle.term_lang.specs.Quote.{degens_of, quote_cell}
use Rattle.term_lang.specs.NormalForms.{HasNormalCells}
use Rattle.term_lang.proofs.CodeForms.{lt_is, word_of_mask, mask_of_word}
use Rattle.term_lang.proofs.WordsAct.{degenerated-compose}
use Rattle.normal_forms.specs.Built.{IsBuilt}
use Rattle.normal_forms.proofs.BuiltForms.{cells_of}
use Rattle.script_lang.specs.declared.simplices.SimplexText.{SimplexText}
use Rattle.script_lang.specs.declared.simplices.BodyText.{BodyText}
use Rattle.script_lang.specs.declared.simplices.BodyText.TheVariants.{Ints}
use Rattle.script_lang.specs.Meaning.{is_prefix, mapped, meaning, when}
use Rattle.script_lang.specs.Resolved.{IsPrefixed, IsFound, body_meaning, body_cell, bare_simplex}
use Rattle.script_lang.proofs.ResolveMeanings.{meaning-is, meaning-Ints}
use Rattle.script_lang.proofs.ResolvePrefixes.{word_of_prefix}
use Rattle.script_lang.proofs.ResolveSpaces.{HasCellBodies}

-- ---- a simplex of the code: its word, and the cell of the dimension that is left

pub record Parts (a : Space) (n : ℕ) (x : Simplex) : Type 0 where
  pub small : x.degens.mask < 2 ^ n
  pub word : IsWord n (mask_word x.degens.mask)
  pub short : length (mask_word x.degens.mask) ≤ n
  pub cell : IsCell a (n - length (mask_word x.degens.mask)) x.cell

pub parts_of : (a : Space) (n : ℕ) (x : Simplex) → IsSimplex a n x → Parts a n x
parts_of a n x is =
    let w = mask_word x.degens.mask in
    let l : x.degens.mask < 2 ^ n = lt_is x.degens.mask (2 ^ n) (and_left (nat_lt x.degens.mask (2 ^ n)) (is_cell x.cell a (n - length w)) is) in
    let word : IsWord n w = word_of_mask n x.degens.mask l in
    record { small = l; word = word; short = word_length n w word; cell = and_right (nat_lt x.degens.mask (2 ^ n)) (is_cell x.cell a (n - length w)) is }

-- a word below the degree before a cell of the dimension that is left
pub simplex_is : (a : Space) (n : ℕ) (x : Simplex) (w : List ℕ) → mask_word x.degens.mask ≡ w → IsWord n w → is_cell x.cell a (n - length w) ≡ true → IsSimplex a n x
simplex_is a n x w e word cell =
    let l : x.degens.mask < 2 ^ n = mask_of_word n x.degens.mask x.degens.below_32 (subst (IsWord n) (sym e) word) in
    (λ i. is_lt x.degens.mask (2 ^ n) l i && is_cell x.cell a (n - length (e i))) ∙ cell

-- ---- a prefix before what is found for the body

module _ (a : Space) (n : ℕ) (text : SimplexText) where
  abbrev lower : ℕ
  lower = n - length text.degens

  abbrev below : Option (Plain a)
  below = body_meaning text.body a (n - length text.degens)

  told : meaning text a n ≡ cond (is_prefix n text.degens) (mapped (degenerated (set_of a) text.degens) below) None
  told = ap (λ f. f a n) (meaning-is text)

  -- a text with a wrong prefix means nothing
  pub no_prefix : (is_prefix n text.degens ≡ true → ⊥) → meaning text a n ≡ None
  no_prefix h = told ∙ ap (λ b. cond b (mapped (degenerated (set_of a) text.degens) below) None) (not_true (is_prefix n text.degens) h)
    where
      not_true : (b : Bool) → (b ≡ true → ⊥) → b ≡ false
      not_true true h = absurd (h refl)
      not_true false h = refl

  -- nor does one whose body means nothing
  pub no_body : below ≡ None → meaning text a n ≡ None
  no_body e = told ∙ ap (λ x. cond (is_prefix n text.degens) (mapped (degenerated (set_of a) text.degens) x) None) e ∙ both (is_prefix n text.degens)
    where
      both : (b : Bool) → ◌≡◌ {A = Option (Plain a)} (cond b None None) None
      both true = refl
      both false = refl

  module _ (allowed : Admits a) (built : IsBuilt a) (most : n ≤ 32) (right : is_prefix n text.degens ≡ true) (x : Simplex) (is : IsSimplex a lower x) where
    abbrev w : List ℕ
    w = text.degens

    abbrev r : List ℕ
    r = mask_word x.degens.mask

    laws : IsSimplicial (set_of a)
    laws = space_set_laws a allowed

    word : IsWord n w
    word = word_of_prefix n w right

    parts : Parts a lower x
    parts = parts_of a lower x is

    pub composed_word : IsWord n (compose_words w r)
    composed_word = compose_in n w r word parts.word

    pub composed_fits : IsWord 32 (compose_words w r)
    composed_fits = word_below n 32 (compose_words w r) most composed_word

    composed_form : degenerated (set_of a) w (form x a) ≡ degenerated (set_of a) (compose_words w r) (cell_form x.cell a)
    composed_form =
        let k : ℕ = lower - length r in
        let s : length w ≤ n = word_length n w word in
        let t : length r ≤ lower = parts.short in
        let e : lower ≡ k + length r = omega (arith, t) in
        let f : n ≡ k + length r + length w = omega (arith, s, t) in
        let l : lower - length r ≤ 32 = omega (arith, most) in
        degenerated-compose (set_of a) laws k w r (cell_form x.cell a) ((cells_of a allowed built (lower - length r) l).simplex x.cell parts.cell)
        (subst (λ m. IsWord m r) e parts.word) (subst (λ m. IsWord m w) f word)

    pub prefixed : below ≡ Some (form x a) → (y : Simplex) → mask_word y.degens.mask ≡ compose_words w r → y.cell ≡ x.cell → IsFound a n (meaning text a n) (Some y)
    prefixed e y m c =
        let left : lower - length r ≡ n - length (compose_words w r) = omega (arith, length-compose w r) in
        let formed : form y a ≡ degenerated (set_of a) w (form x a) = (λ i. degenerated (set_of a) (m i) (cell_form (c i) a)) ∙ sym composed_form in (
          told ∙ (λ i. cond (right i) (mapped (degenerated (set_of a) text.degens) (e i)) None) ∙ ap (λ z. Some z) (sym formed),
          simplex_is a n y (compose_words w r) m composed_word ((λ i. is_cell (c i) a (sym left i)) ∙ parts.cell),
        )

-- what is found for the body of a text, and a word before it
module _ (a : Space) (n : ℕ) (text : SimplexText) (allowed : Admits a) (built : IsBuilt a) (most : n ≤ 32) (right : is_prefix n text.degens ≡ true) where
  pub text_fits : (d : Degens) → mask_word d.mask ≡ text.degens → (found : Option Simplex)
      → IsFound a (n - length text.degens) (body_meaning text.body a (n - length text.degens)) found
      → IfSome found (λ x. IsWord 32 (compose_words (mask_word d.mask) (mask_word x.degens.mask)))
  text_fits d e None h = tt
  text_fits d e (Some x) h =
      subst (λ w. IsWord 32 (compose_words w (mask_word x.degens.mask))) (sym e) (composed_fits a n text allowed built most right x h.1)

  pub text_found : (d : Degens) → mask_word d.mask ≡ text.degens → (found y : Option Simplex)
      → IsFound a (n - length text.degens) (body_meaning text.body a (n - length text.degens)) found → IsPrefixed d found y → IsFound a n (meaning text a n) y
  text_found d e None y h b = subst (IsFound a n (meaning text a n)) (sym b) (no_body a n text h)
  text_found d e (Some x) y h b =
      subst (IsFound a n (meaning text a n)) (sym b.1)
      (prefixed a n text allowed built most right x h.1 h.0 b.0 (b.2 ∙ ap (λ w. compose_words w (mask_word x.degens.mask)) e) b.3)

-- ---- cells

pub bare_is : (a : Space) (n : ℕ) (c : Cell) → IsCell a n c → IsSimplex a n (bare_simplex c)
bare_is a n c is =
    let e : n ≡ n - 0 = omega arith in
    simplex_is a n (bare_simplex c) [] (places-none 32) tt (subst (λ m. is_cell c a m ≡ true) e is)

pub bare_form : (a : Space) (c : Cell) → form (bare_simplex c) a ≡ cell_form c a
bare_form a c = ap (λ w. degenerated (set_of a) w (cell_form c a)) (places-none 32)

module _ (a : Space) (can : HasCellBodies a) (n : ℕ) (most : n ≤ 32) (body : BodyText) where
  by_meaning : (y : Option (Plain a)) → body_meaning body a n ≡ y → IsFound a n y (mapped bare_simplex (mapped (quote_cell a n) y))
  by_meaning None e = refl
  by_meaning (Some y) e =
      let c : Cell = quote_cell a n y in
      let cells : HasNormalCells a n = can.cells n most in
      let inside = can.simplex body n y e in
      let bare = can.bare body n y e in
      (ap (λ z. Some z) (sym (bare_form a c ∙ cells.formed y inside bare)), bare_is a n c (cells.onto y inside bare))

  pub cell_found : (found : Option Simplex) (cell : Option Cell) → found ≡ mapped bare_simplex cell → cell ≡ body_cell body a n → IsFound a n (body_meaning body a n) found
  cell_found found cell e f =
      subst (IsFound a n (body_meaning body a n)) (sym (e ∙ ap (mapped bare_simplex) f)) (by_meaning (body_meaning body a n) refl)

some : Simplex → Option Simplex
some x = Some x

pub bare_same : (d : Degens) → d.mask ≡ 0 → (c : Cell) (cell : Option Cell) → cell ≡ Some c → ◌≡◌ {A = Option Simplex} (Some (record { degens = d; cell = c })) (mapped bare_simplex cell)
unfolding some
bare_same d e c cell f = ap (λ (k : Degens). some (record { degens = k; cell = c })) (degens_same d (degens_of 0) e) ∙ ap (mapped bare_simplex) (sym f)

-- ---- lists

pub list_found : (body : BodyText) (n : ℕ) (list : List ℤ) → body ≡ Ints list → length list ≡ n → (y : Simplex) → form y kz1 ≡ list → IsSimplex kz1 (length list) y
    → IsFound kz1 n (body_meaning body kz1 n) (Some y)
list_found body n list e l y f is = (
  ap (λ b. body_meaning b kz1 n) e ∙ ap (λ g. g kz1 n) (meaning-Ints list) ∙ ap (λ b. when b list) (is_eq (length list) n l) ∙ ap (λ z. Some z) (sym f),
  subst (λ m. IsSimplex kz1 m y) l is,
)

pub list_none : (body : BodyText) (n : ℕ) (list : List ℤ) → body ≡ Ints list → (length list ≡ n → ⊥) → body_meaning body kz1 n ≡ None
list_none body n list e d =
    ap (λ b. body_meaning b kz1 n) e ∙ ap (λ g. g kz1 n) (meaning-Ints list) ∙ ap (λ b. when b list) (not_eq (length list) n d)

-- ---- what is found, along equations

pub found_at : (a : Space) (n : ℕ) (body : BodyText) (w v : List ℕ) (found : Option Simplex) → w ≡ v
    → IsFound a (n - length w) (body_meaning body a (n - length w)) found → IsFound a (n - length v) (body_meaning body a (n - length v)) found
found_at a n body w v found e h = subst (λ u. IsFound a (n - length u) (body_meaning body a (n - length u)) found) e h

pub text_for : (a : Space) (n : ℕ) (v x : SimplexText) (found given : Option Simplex) → v ≡ x → found ≡ given → IsFound a n (meaning v a n) found → IsFound a n (meaning x a n) given
text_for a n v x found given e f h = subst (IsFound a n (meaning x a n)) f (subst (λ u. IsFound a n (meaning u a n) found) e h)
