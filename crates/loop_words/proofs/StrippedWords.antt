-- The normal form of a word: the places that its letters share, each moved down by one, before the letters without them.
use Rattle.std.proofs.Common.{◌≡◌, ℕ, zero, suc, ◌+◌, ◌-◌, ◌*◌, ◌/◌, ◌%◌, ◌^◌, ◌<◌, ◌≤◌, Bool, true, false, not, cond, nat_lt, ◌&&◌, ◌||◌, ◌⊎◌, inl, inr, List, [], ◌∷◌, map, length, refl, sym, ◌∙◌, ap, subst, arith}
use Rattle.std.specs.List.{list_all}
use Rattle.std.proofs.lemmas.Bool.{cases_Bool}
use Rattle.simp_ops.specs.Words.{IsWord, compose_words, has}
use Rattle.simp_ops.specs.Bits.{bit, mask_word}
use Rattle.simp_ops.proofs.PlacesOf.{places_word, word_below, is_lt}
use Rattle.simp_ops.proofs.MaskWords.{has-places, places_told}
use Rattle.spaces.specs.Simplicial.{Simplicial}
use Rattle.spaces.specs.Spaces.{Space, Plain, loops, set_of}
use Rattle.spaces.proofs.WordLaws.{word_length}
use Rattle.cells.specs.declared.cells.Cell.TheVariants.{Word}
use Rattle.cells.specs.declared.cells.Letter.{Letter}
use Rattle.cells.specs.declared.cells.Simplex.{Simplex}
use Rattle.cells.proofs.OneKey.{degens_same}
use Rattle.term_lang.specs.Degenerated.{degenerated}
use Rattle.term_lang.specs.Forms.{cell_form, form}
use Rattle.term_lang.specs.Belongs.{is_cell, are_letters, is_reduced, shares_place, are_inverse, IsSimplex}
use Rattle.term_lang.proofs.CellForms.{with_test}
use Rattle.term_lang.proofs.CodeForms.{mask_of_word}
use Rattle.kz1_group.proofs.Faced.{worded}
use Rattle.normal_forms.proofs.PairedForms.{Half, up_half}
use Rattle.loop_words.specs.LetterWords.{is_unit, IsReduced}
use Rattle.loop_words.specs.WordForms.{word_form, Every, AreLetters, HasLetters}
use Rattle.loop_words.specs.WordNorms.{IsStripped, AreStripped, StandsApart, AreApart}
use Rattle.loop_words.proofs.CodeGroup.{same_simplex, same_simplex_is, same_simplex_self}
use Rattle.loop_words.proofs.ApartLetters.{reduced_apart}
use Rattle.loop_words.proofs.LeftPlaces.{place_of, place_bound, has-place, place_out, first_place}
use Rattle.loop_words.proofs.MovedPlaces.{ones_low, ones_count, word-lowered, is_lowered, length-lowered}
use Rattle.loop_words.proofs.WordCells.{lifted, loop-degenerated, form-word, word_is_cell}

-- ---- letters without shared places

module _ (c : ℕ) where
  abbrev w : List ℕ
  w = mask_word c

  -- a place of a letter, where the shared places leave it out
  place_kept : (l m : Letter) (k : ℕ) → IsStripped c l m → IsWord (32 - length w) (mask_word m.simplex.degens.mask) → k + length w < 32
      → bit l.simplex.degens.mask (place_of w k) ≡ bit m.simplex.degens.mask k
  place_kept l m k s inner h =
      let r = mask_word m.simplex.degens.mask in
      let b : place_of w k ≤ k + length w = place_bound w k in
      sym (has-places 32 (place_of w k) (bit l.simplex.degens.mask) (omega (arith, b, h)))
      ∙ ap (λ v. has v (place_of w k)) (sym s.word)
      ∙ has-place 32 w r k (places_word 32 (bit c)) inner h
      ∙ has-places 32 k (bit m.simplex.degens.mask) (omega (arith, h))

  -- a place that all of them share is one of the letters
  all_kept : (k : ℕ) (u v : List Letter) → AreStripped c u v → Every (λ x. IsWord (32 - length w) (mask_word x.degens.mask)) v → k + length w < 32
      → list_all (λ l. bit l.simplex.degens.mask (place_of w k)) u ≡ list_all (λ l. bit l.simplex.degens.mask k) v
  all_kept k [] [] s i h = refl
  all_kept k [] (m ∷ v) s i h = absurd s
  all_kept k (l ∷ u) [] s i h = absurd s
  all_kept k (l ∷ u) (m ∷ v) s i h = λ t. place_kept l m k s.0 i.0 h t && all_kept k u v s.1 i.1 h t

  no_shared_place : (k : ℕ) (u v : List Letter) → AreStripped c u v → Every (λ x. IsWord (32 - length w) (mask_word x.degens.mask)) v
      → ((j : ℕ) → j < 32 → bit c j ≡ list_all (λ l. bit l.simplex.degens.mask j) u) → k + length w < 32
      → list_all (λ l. bit l.simplex.degens.mask k) v ≡ false
  no_shared_place k u v s i shared h =
      let b : place_of w k ≤ k + length w = place_bound w k in
      let low : place_of w k < 32 = omega (arith, b, h) in
      sym (all_kept k u v s i h) ∙ sym (shared (place_of w k) low) ∙ sym (has-places 32 (place_of w k) (bit c) low)
      ∙ place_out 32 w k (places_word 32 (bit c)) h

  shares_none : (n : ℕ) (u v : List Letter) → AreStripped c u v → Every (λ x. IsWord (32 - length w) (mask_word x.degens.mask)) v
      → ((j : ℕ) → j < 32 → bit c j ≡ list_all (λ l. bit l.simplex.degens.mask j) u) → n + length w < 32 → shares_place n v ≡ false
  shares_none zero u v s i shared h = refl
  shares_none (suc n) u v s i shared h =
      λ t. shares_none n u v s i shared (omega (arith, h)) t || no_shared_place (suc n) u v s i shared h t

  -- what is stripped of two letters tells them
  stripped_once : (l m x y : Letter) → IsStripped c l x → IsStripped c m y → are_inverse l m ≡ false → are_inverse x y ≡ false
  stripped_once l m x y s t h = by (cases_Bool (same_simplex x.simplex y.simplex))
    where
      signs : cond x.inverse (not y.inverse) y.inverse ≡ cond l.inverse (not m.inverse) m.inverse
      signs = λ i. cond (s.sign i) (not (t.sign i)) (t.sign i)

      by : (same_simplex x.simplex y.simplex ≡ true) ⊎ (same_simplex x.simplex y.simplex ≡ false) → are_inverse x y ≡ false
      by (inr q) = (λ i. cond x.inverse (not y.inverse) y.inverse && q i) ∙ none (cond x.inverse (not y.inverse) y.inverse)
        where
          none : (b : Bool) → b && false ≡ false
          none true = refl
          none false = refl
      by (inl q) =
          let e : x.simplex ≡ y.simplex = same_simplex_is x.simplex y.simplex q in
          let words : mask_word l.simplex.degens.mask ≡ mask_word m.simplex.degens.mask =
          sym s.word ∙ ap (λ (z : Simplex). compose_words w (mask_word z.degens.mask)) e ∙ t.word in
          let masks : l.simplex.degens.mask ≡ m.simplex.degens.mask =
          places_told 32 l.simplex.degens.mask m.simplex.degens.mask l.simplex.degens.below_32 m.simplex.degens.below_32 words in
          let d : l.simplex.degens ≡ m.simplex.degens = degens_same l.simplex.degens m.simplex.degens masks in
          let k : l.simplex.cell ≡ m.simplex.cell = sym s.cell ∙ ap (λ (z : Simplex). z.cell) e ∙ t.cell in
          let g : l.simplex ≡ m.simplex = (λ i. record { degens = d i; cell = k i }) in
          (λ i. signs i && (q ∙ sym (same_simplex_self l.simplex) ∙ ap (same_simplex l.simplex) g) i) ∙ h

  stripped_stands : (l x : Letter) (u v : List Letter) → IsStripped c l x → AreStripped c u v → StandsApart l u → StandsApart x v
  stripped_stands l x [] [] s t h = tt
  stripped_stands l x [] (y ∷ v) s t h = absurd t
  stripped_stands l x (m ∷ u) [] s t h = absurd t
  stripped_stands l x (m ∷ u) (y ∷ v) s t h = stripped_once l m x y s t.0 h

  stripped_tested : (u v : List Letter) → AreStripped c u v → AreApart u → is_reduced v ≡ true
  stripped_tested [] [] s h = refl
  stripped_tested [] (x ∷ v) s h = absurd s
  stripped_tested (l ∷ u) [] s h = absurd s
  stripped_tested (l ∷ []) (x ∷ []) s h = refl
  stripped_tested (l ∷ []) (x ∷ (y ∷ v)) s h = absurd s.1
  stripped_tested (l ∷ (m ∷ u)) (x ∷ []) s h = absurd s.1
  stripped_tested (l ∷ (m ∷ u)) (x ∷ (y ∷ v)) s h =
      λ i. not (stripped_once l m x y s.0 s.1.0 h.1 i) && stripped_tested (m ∷ u) (y ∷ v) s.1 h.2 i

-- ---- in a space

module _ (a : Space) (n : ℕ) (known : HasLetters a n) (c : ℕ) (low : c < 2 ^ 32) (first : bit c 0 ≡ false) where
  abbrev A : Simplicial (Plain a)
  A = set_of a

  abbrev shared : List ℕ
  shared = mask_word c

  -- the word of the normal form
  abbrev v : List ℕ
  v = mask_word (c / 2)

  moved : shared ≡ map suc v
  moved = word-lowered c low first

  counted : length shared ≡ length v
  counted = ap length moved ∙ length-lowered v

  abbrev Halved : (l m : Letter) → IsStripped c l m → Type 0
  Halved l m s = Half a known.laws known.cells (suc n) known.low shared (places_word 32 (bit c)) m.simplex l.simplex s.cell s.word

  half : (l m : Letter) (s : IsStripped c l m) → IsSimplex a (suc n) l.simplex → Halved l m s
  half l m s h = up_half a known.laws known.cells (suc n) known.low shared (places_word 32 (bit c)) m.simplex l.simplex s.cell s.word h

  letters_lifted : (u w : List Letter) → AreStripped c u w → AreLetters a n u → map (lifted A v) (word_form a w) ≡ word_form a u
  letters_lifted [] [] s h = refl
  letters_lifted [] (m ∷ w) s h = absurd s
  letters_lifted (l ∷ u) [] s h = absurd s
  letters_lifted (l ∷ u) (m ∷ w) s h =
      let p : form l.simplex a ≡ degenerated A shared (form m.simplex a) = (half l m s.0 h.0).plain_is in
      λ i. (s.0.sign i, (ap (λ k. degenerated A k (form m.simplex a)) (sym moved) ∙ sym p) i) ∷ letters_lifted u w s.1 h.1 i

  pub normed_form : (u w : List Letter) → AreStripped c u w → AreLetters a n u → degenerated (set_of (loops a)) v (cell_form (Word w) (loops a)) ≡ word_form a u
  normed_form u w s h = ap (degenerated (set_of (loops a)) v) (form-word a w) ∙ loop-degenerated A v (word_form a w) ∙ letters_lifted u w s h

  inner_word : (l m : Letter) (s : IsStripped c l m) → IsSimplex a (suc n) l.simplex → IsWord (32 - length shared) (mask_word m.simplex.degens.mask)
  inner_word l m s h =
      let k : IsWord (suc n - length shared) (mask_word m.simplex.degens.mask) = (worded a (suc n - length shared) m.simplex (half l m s h).inner).is_word in
      word_below (suc n - length shared) (32 - length shared) (mask_word m.simplex.degens.mask) (omega (arith, known.low)) k

  inner_words : (u w : List Letter) → AreStripped c u w → AreLetters a n u → Every (λ x. IsWord (32 - length shared) (mask_word x.degens.mask)) w
  inner_words [] [] s h = tt
  inner_words [] (m ∷ w) s h = absurd s
  inner_words (l ∷ u) [] s h = absurd s
  inner_words (l ∷ u) (m ∷ w) s h = (inner_word l m s.0 h.0, inner_words u w s.1 h.1)

  module _ (short : IsWord (suc n) shared) where
    below : IsWord n v
    below = is_lowered n v (subst (IsWord (suc n)) moved short)

    fits : length v ≤ n
    fits = word_length n v below

    -- letters without place 0 have none left
    no_first : (l m : Letter) (s : IsStripped c l m) → IsSimplex a (suc n) l.simplex → is_unit l ≡ false → is_unit m ≡ false
    no_first l m s h e =
        let d : 0 + length shared < 32 = omega (arith, counted, fits, known.low) in
        let z : place_of shared 0 ≡ 0 = ap (λ u. place_of u 0) moved ∙ first_place v in
        sym (place_kept c l m 0 s (inner_word l m s h) d) ∙ ap (bit l.simplex.degens.mask) z ∙ e

    letters_tested : (u w : List Letter) → AreStripped c u w → AreLetters a n u → AreApart u → are_letters a (n - length v) (map with_test w) ≡ true
    letters_tested [] [] s h g = refl
    letters_tested [] (m ∷ w) s h g = absurd s
    letters_tested (l ∷ u) [] s h g = absurd s
    letters_tested (l ∷ u) (m ∷ w) s h g =
        let e : suc n - length shared ≡ suc (n - length v) = omega (arith, counted, fits) in
        let k : IsSimplex a (suc (n - length v)) m.simplex = subst (λ d. IsSimplex a d m.simplex) e (half l m s.0 h.0).inner in
        λ i. k i && not (no_first l m s.0 h.0 g.0 i) && letters_tested u w s.1 h.1 g.2 i

    pub normed_simplex : (u w : List Letter) → AreStripped c u w → AreLetters a n u → AreApart u → ((j : ℕ) → j < 32 → bit c j ≡ list_all (λ l. bit l.simplex.degens.mask j) u)
        → nat_lt (c / 2) (2 ^ n) && is_cell (Word w) (loops a) (n - length v) ≡ true
    normed_simplex u w s h g all =
        let l : c / 2 < 2 ^ n = mask_of_word n (c / 2) (omega (arith, low)) below in
        let d : n - length v + length shared < 32 = omega (arith, counted, fits, known.low) in
        λ i. is_lt (c / 2) (2 ^ n) l i
        && word_is_cell a (n - length v) w (letters_tested u w s h g) (stripped_tested c u w s g)
        (shares_none c (n - length v) u w s (inner_words u w s h) all d) i

-- the normal form of a word that is not empty
module _ (a : Space) (n : ℕ) (known : HasLetters a n) (c : ℕ) (low : c < 2 ^ 32) where
  pub record Normed (u w : List Letter) : Type 0 where
    pub plain_is : degenerated (set_of (loops a)) (mask_word (c / 2)) (cell_form (Word w) (loops a)) ≡ word_form a u
    pub simplex : nat_lt (c / 2) (2 ^ n) && is_cell (Word w) (loops a) (n - length (mask_word (c / 2))) ≡ true

  pub normed : (u w : List Letter) → (u ≡ [] → ⊥) → AreStripped c u w → IsReduced u → AreLetters a n u
      → ((j : ℕ) → j < 32 → bit c j ≡ list_all (λ l. bit l.simplex.degens.mask j) u) → Normed u w
  normed [] w some s r h all = absurd (some refl)
  normed (l ∷ u) [] some s r h all = absurd s
  normed (l ∷ u) (m ∷ w) some s r h all =
      let g : AreApart (l ∷ u) = reduced_apart (l ∷ u) r in
      let first : bit c 0 ≡ false = all 0 (omega arith) ∙ (λ i. g.0 i && list_all (λ k. bit k.simplex.degens.mask 0) u) in
      record {
        plain_is = normed_form a n known c low first (l ∷ u) (m ∷ w) s h;
        simplex = normed_simplex a n known c low first (half a n known c low first l m s.0 h.0).outer (l ∷ u) (m ∷ w) s h g all;
      }

-- ---- the empty word

pub empty_form : (a : Space) (mask : ℕ) (u w : List Letter) → u ≡ [] → w ≡ [] → degenerated (set_of (loops a)) (mask_word mask) (cell_form (Word u) (loops a)) ≡ word_form a w
empty_form a mask u w e f =
    (λ i. degenerated (set_of (loops a)) (mask_word mask) (cell_form (Word (e i)) (loops a)))
    ∙ ap (degenerated (set_of (loops a)) (mask_word mask)) (form-word a [])
    ∙ loop-degenerated (set_of a) (mask_word mask) []
    ∙ sym (ap (word_form a) f)

pub empty_simplex : (a : Space) (n : ℕ) (u : List Letter) → n ≤ 32 → u ≡ []
    → nat_lt (1 * 2 ^ n % 2 ^ 64 - 1) (2 ^ n) && is_cell (Word u) (loops a) (n - length (mask_word (1 * 2 ^ n % 2 ^ 64 - 1))) ≡ true
empty_simplex a n u h e =
    let l : 1 * 2 ^ n % 2 ^ 64 - 1 < 2 ^ n = ones_low n h in
    let z : n - length (mask_word (1 * 2 ^ n % 2 ^ 64 - 1)) ≡ 0 = (let q = ones_count n h in omega (arith, q)) in
    λ i. is_lt (1 * 2 ^ n % 2 ^ 64 - 1) (2 ^ n) l i && ((λ j. is_cell (Word (e j)) (loops a) (z j)) ∙ word_is_cell a 0 [] refl refl refl) i
