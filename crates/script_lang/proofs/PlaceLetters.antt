-- Where words of letters go wrong.
use Rattle.std.proofs.Common.{◌≡◌, ℕ, Bool, true, false, List, [], ◌∷◌, ◌++◌, length, Ok, Err, Option, Some, None, refl, sym, ap, ◌∙◌, inl, inr, subst}
use Rattle.script_lang.specs.declared.simplices.SimplexText.{SimplexText}
use Rattle.script_lang.specs.declared.simplices.LetterText.{LetterText}
use Rattle.script_lang.specs.Bytes.{is_blank}
use Rattle.script_lang.specs.Simplices.{IsGap, IsLetter}
use Rattle.script_lang.specs.Readings.{Reading, ◌>>=◌, until_at}
use Rattle.script_lang.specs.Scans.{begins, may_in, after_blanks, gap_in, signed_letter_in, letter_in, behind_gap_in, next_letter_in, more_letters_in, some_letters_in, letters_behind_in, word_in}
use Rattle.script_lang.proofs.Combine.{which, ok_parts, bind_ok, bind_err}
use Rattle.script_lang.proofs.Loops.{Part}
use Rattle.script_lang.proofs.Inner.{Scans, Starts, not_begins}
use Rattle.script_lang.proofs.Prefixes.{no_blank, reads_gap}
use Rattle.script_lang.proofs.Bodies.{is_start, simplex_end, reads_letter, IsNext, next_may, reads_more_letters, more_letters_shorter}
use Rattle.script_lang.proofs.PlaceRules.{is_in, Front, never, begins_picked, placed_done, then_front, then_second}
use Rattle.script_lang.proofs.PlacePhrases.{map_never, then_wide, Wrong, later, at_once}
use Rattle.script_lang.proofs.PlaceChoices.{begins_next, placed_perhaps}
use Rattle.script_lang.proofs.PlaceRepeats.{Ends, placed_until}
use Rattle.script_lang.proofs.PlaceLeaves.{placed_free}
use Rattle.script_lang.proofs.PlaceScans.{is_solid, Within}

-- ---- gaps

no_blank_behind : (bytes : List ℕ) → begins is_blank (after_blanks bytes) ≡ false
unfolding after_blanks
no_blank_behind [] = refl
no_blank_behind (b ∷ bytes) = elim (which (is_blank b)) [
  | inl t ↦ rw t (no_blank_behind bytes)
  | inr n ↦ rw n n
]

gap_behind : (bytes : List ℕ) (v : Unit {0}) (rest : List ℕ) → gap_in bytes ≡ Ok (v, rest) → begins is_blank rest ≡ false
unfolding gap_in
gap_behind [] v rest e = absurd cc
gap_behind (b ∷ bytes) v rest e = elim (which (is_blank b)) [
  | inl t ↦ let f = rw t at e in let q = ok_parts tt v (after_blanks bytes) rest f in ap (begins is_blank) (sym q.1) ∙ no_blank_behind bytes
  | inr n ↦ absurd (let f = rw n at e in cc)
]

gap_front : (bytes : List ℕ) (v : Unit {0}) (rest : List ℕ) → gap_in bytes ≡ Ok (v, rest) → Front no_blank gap_in bytes v rest
gap_front bytes v rest e =
    let t = reads_gap.takes bytes v rest e in
    record {
      front = t.front;
      whole = t.units_are;
      same = λ other n. again t.front other t.is (not_begins _ (begins_next is_blank other rest n ∙ gap_behind bytes v rest e));
      free = λ other m. again t.front other t.is m;
    }
  where
    again : (front other : List ℕ) → IsGap front v → no_blank v other ≡ true → gap_in (front ++ other) ≡ Ok (v, other)
    again front other is m =
        let a = reads_gap.again (front ++ other) front v other is refl m in
        let end : a.rest ≡ other = a.units_are in
        subst (λ (x : List ℕ). gap_in (front ++ other) ≡ Ok (v, x)) end a.gives

gap_once : (bytes : List ℕ) (left : ℕ) → gap_in bytes ≡ Err left → length bytes ≡ left
unfolding gap_in
gap_once [] left e = cc
gap_once (b ∷ bytes) left e = elim (which (is_blank b)) [
  | inl t ↦ absurd (let f = rw t at e in cc)
  | inr n ↦ let f = rw n at e in cc
]

gap_dead : (b : ℕ) (after other : List ℕ) (left : ℕ) (v : Unit {0}) (z : List ℕ) → gap_in (b ∷ after) ≡ Err left → gap_in (b ∷ other) ≡ Ok (v, z) → ⊥
unfolding gap_in
gap_dead b after other left v z e d = elim (which (is_blank b)) [
  | inl t ↦ absurd (let f = rw t at e in cc)
  | inr n ↦ absurd (let f = rw n at d in cc)
]

-- ---- letters

module _ (IsPart : List ℕ → SimplexText → Type 0) (part : List ℕ → Reading SimplexText) (one : Scans (simplex_end {A = SimplexText}) IsPart part) (part_starts : (front : List ℕ) (x : SimplexText) → IsPart front x → Starts is_start front) (placed : Within (48 ∷ 42 ∷ []) (simplex_end {A = SimplexText}) part) where
  placed_signed : (inverse : Bool) → Within (48 ∷ 42 ∷ []) (never {A = LetterText}) (signed_letter_in part inverse)
  unfolding signed_letter_in
  placed_signed inverse = map_never is_solid (48 ∷ 42 ∷ []) simplex_end part (λ x. record { inverse = inverse; simplex = x }) placed

  placed_letter : Within (45 ∷ []) (simplex_end {A = LetterText}) (letter_in part)
  unfolding letter_in
  placed_letter = placed_free is_solid (45 ∷ []) simplex_end (IsLetter IsPart) (letter_in part) (reads_letter IsPart part one part_starts)
      (placed_perhaps is_solid 45 (48 ∷ 42 ∷ []) (48 ∷ 42 ∷ []) (signed_letter_in part) never (placed_signed true) refl (placed_signed false).ok (λ bytes left e. later ((placed_signed false).err bytes left e)))

  placed_some : Within (45 ∷ []) (never {A = Option LetterText}) (λ s. letter_in part s >>= λ letter. Ok (Some letter.0, letter.1))
  placed_some = map_never is_solid (45 ∷ []) simplex_end (letter_in part) (λ l. Some l) placed_letter

  abbrev on_gap : Unit {0} × List ℕ → Reading (Option LetterText)
  on_gap gap = letter_in part gap.1 >>= λ letter. Ok (Some letter.0, letter.1)

  next_front : (bytes : List ℕ) (v : Option LetterText) (rest : List ℕ) → next_letter_in part false bytes ≡ Ok (v, rest) → Front never (next_letter_in part false) bytes v rest
  unfolding next_letter_in behind_gap_in
  next_front bytes v rest e =
      let b = bind_ok (gap_in bytes) on_gap (v, rest) e in
      then_front is_solid no_blank never gap_in on_gap never bytes b.0.0 b.0.1 v rest (gap_front bytes b.0.0 b.0.1 b.1) (placed_some.ok b.0.1 v rest b.2) (λ other c. absurd cc)

  minus_no_blank : (v : Unit {0}) (o : List ℕ) → begins (is_in (45 ∷ [])) o ≡ true → no_blank v o ≡ true
  minus_no_blank v [] e = absurd cc
  minus_no_blank v (c ∷ o) e = begins_picked (λ b. no_blank v (b ∷ o)) (45 ∷ []) (c ∷ o) refl e

  next_wrong : (bytes : List ℕ) (left : ℕ) → next_letter_in part false bytes ≡ Err left → Wrong is_solid (45 ∷ []) (next_letter_in part false) bytes left
  unfolding next_letter_in behind_gap_in
  next_wrong bytes left e = elim (bind_err (gap_in bytes) on_gap left e) [
    | inl d ↦ at_once (gap_once bytes left d) (λ b after other v z is q.
        let x = bind_ok (gap_in (b ∷ other)) on_gap (v, z) q in
        gap_dead b after other left x.0.0 x.0.1 (subst (λ (t : List ℕ). gap_in t ≡ Err left) is d) x.1)
    | inr x ↦
        let g = placed_some.err x.0.1 left x.2 in
        later (then_second is_solid no_blank never gap_in on_gap (45 ∷ []) (45 ∷ []) bytes left x.0.0 x.0.1 (gap_front bytes x.0.0 x.0.1 x.1) g (λ n. minus_no_blank x.0.0 g.more (g.starts n)) (λ n m. g.starts m))
  ]

  placed_end : Within [] (never {A = Option LetterText}) (next_letter_in part true)
  unfolding next_letter_in
  placed_end = placed_done is_solid [] never None

  placed_more : Within (93 ∷ []) (next_may IsPart part one part_starts) (more_letters_in part)
  unfolding more_letters_in
  placed_more = placed_free is_solid (93 ∷ []) (next_may IsPart part one part_starts) (Part (93 ∷ []) (IsNext IsPart part one part_starts)) (more_letters_in part) (reads_more_letters IsPart part one part_starts)
      (placed_perhaps is_solid 93 [] (45 ∷ []) (next_letter_in part) never placed_end refl next_front next_wrong)

  letters_end : Ends is_solid (93 ∷ []) (more_letters_in part)
  unfolding more_letters_in next_letter_in may_in
  letters_end = record { bytes = 93 ∷ []; gives = refl; starts = refl; good = refl }

  placed_letters : Within (93 ∷ []) (never {A = List LetterText}) (until_at (more_letters_in part))
  placed_letters = placed_until is_solid (93 ∷ []) (next_may IsPart part one part_starts) never (more_letters_in part) (more_letters_shorter IsPart part one part_starts) placed_more (λ x t. refl) (λ xs o c. absurd cc) letters_end

  placed_some_letters : Within (45 ∷ 93 ∷ []) (never {A = List LetterText}) (some_letters_in part)
  unfolding some_letters_in
  placed_some_letters = then_wide is_solid simplex_end never (letter_in part) (λ first. until_at (more_letters_in part) first.1 >>= λ more. Ok (first.0 ∷ more.0, more.1)) (45 ∷ []) placed_letter (45 ∷ 93 ∷ []) (93 ∷ [])
      (λ first. map_never is_solid (93 ∷ []) never (until_at (more_letters_in part)) (λ more. first ∷ more) placed_letters) (λ v t. refl) refl refl

  placed_behind_end : Within [] (never {A = List LetterText}) (letters_behind_in part true)
  unfolding letters_behind_in
  placed_behind_end = placed_done is_solid [] never []

  placed_behind : Within (45 ∷ 93 ∷ []) (never {A = List LetterText}) (letters_behind_in part false)
  unfolding letters_behind_in
  placed_behind = placed_some_letters

  pub placed_word : Within (93 ∷ []) (never {A = List LetterText}) (word_in part)
  unfolding word_in
  placed_word = placed_perhaps is_solid 93 [] (45 ∷ 93 ∷ []) (letters_behind_in part) never placed_behind_end refl placed_behind.ok (λ bytes left e. later (placed_behind.err bytes left e))
