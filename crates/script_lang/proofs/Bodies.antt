-- What reads bodies, letters and simplices.
use Rattle.std.proofs.Common.{◌≡◌, ℕ, zero, suc, ◌<◌, ◌≤◌, Bool, true, false, cond, eqb, ◌||◌, List, [], ◌∷◌, ◌++◌, length, Ok, Err, Option, Some, None, refl, sym, ap, subst, ◌∙◌, arith, ◌⊎◌, inl, inr}
use Rattle.std.proofs.lemmas.Bool.{eqb-true, eqb-false, ne_eqb}
use Rattle.std.proofs.lemmas.Bool.Decides.{nat_tests}
use Rattle.std.proofs.lemmas.List.{append-nil, length-append}
use Rattle.std.specs.Prelude.{ℤ}
use Rattle.script_lang.specs.declared.simplices.SimplexText.{SimplexText}
use Rattle.script_lang.specs.declared.simplices.LetterText.{LetterText}
use Rattle.script_lang.specs.declared.simplices.BodyText.{BodyText}
use Rattle.script_lang.specs.declared.simplices.BodyText.TheVariants as bodies
use Rattle.script_lang.specs.declared.scan.BodySign.{BodySign}
use Rattle.script_lang.specs.declared.scan.BodySign.TheVariants as signs
use Rattle.script_lang.specs.Phrases.{Done, Sign, ◌▷◌, ◌∣◌, Until, Never}
use Rattle.script_lang.specs.Bytes.{is_blank, is_between, is_digit, is_letter, is_inner, IsName}
use Rattle.script_lang.specs.Simplices.{IsPrefix, IsGap, blanks, IsSigned, IsLetter, IsWord, IsBehind, IsSign, IsSimplexOver, IsSimplexIn}
use Rattle.script_lang.specs.Readings.{Reading, ◌>>=◌, until_at}
use Rattle.script_lang.specs.Scans.{begins, name_in, sign_in, may_in, prefix_in, int_in, gap_in, signed_letter_in, letter_in, behind_gap_in, next_letter_in, more_letters_in, some_letters_in, letters_behind_in, word_in, pair_in, behind_in, sign_of, sign_or_name_in, head_in, body_in, simplex_over, simplex_in}
use Rattle.script_lang.proofs.Values.{digit_range}
use Rattle.script_lang.proofs.Combine.{which, ok_parts, bind_ok, Taken, always, reads_done, reads_then, reads_as, reads_never}
use Rattle.script_lang.proofs.Loops.{Shorter, Part, reads_until}
use Rattle.script_lang.proofs.Fronts.{stops, no_inner, reads_name, no_digit}
use Rattle.script_lang.proofs.Inner.{Scans, Starts, starts_append, starts_then, begins_not, not_begins, starts_sign, starts_as, reads_sign, may_takes, reads_perhaps, is_integer_start}
use Rattle.script_lang.proofs.Prefixes.{done_between, reads_prefix, name_starts, prefix_starts, letter_not_digit, no_integer, reads_ints, no_blank, gap_shorter, reads_gap}

-- ---- what a simplex begins with, and what ends it

abbrev pub is_inside : ℕ → Bool
is_inside b = is_inner b || eqb b 45

-- behind a simplex stands no letter, digit, underscore or minus sign
abbrev pub simplex_end : {A : Type 0} → A → List ℕ → Bool
simplex_end v more = cond (begins is_inside more) false true

end_no_inner : (more : List ℕ) → begins is_inside more ≡ false → begins is_inner more ≡ false
end_no_inner [] e = refl
end_no_inner (b ∷ more) e = elim (which (is_inner b)) [ inl t ↦ absurd (let f : true ≡ false = rw t at e in cc) | inr n ↦ n ]

inner_digit : (b : ℕ) → is_digit b ≡ true → is_inner b ≡ true
inner_digit b e = elim (which (is_letter b)) [ inl t ↦ rw t refl | inr n ↦ rw n (rw e refl) ]

end_no_integer : (more : List ℕ) → begins is_inside more ≡ false → begins is_integer_start more ≡ false
end_no_integer [] e = refl
end_no_integer (b ∷ more) e = elim (which (is_digit b)) [
  | inl t ↦ absurd (let f : true ≡ false = rw (inner_digit b t) at e in cc)
  | inr n ↦ elim (which (eqb b 45)) [
    | inl m ↦ absurd (let f : true ≡ false = rw (eqb-true b 45 m) at e in cc)
    | inr m ↦ rw n m
  ]
]

or_true : (a b : Bool) → (a || b) ≡ true → (a ≡ true) ⊎ (b ≡ true)
or_true true b e = inl refl
or_true false b e = inr e

-- a letter or one of the five signs
abbrev pub is_head : ℕ → Bool
is_head b = is_letter b || (eqb b 42 || (eqb b 124 || (eqb b 94 || (eqb b 60 || eqb b 91))))

abbrev pub is_start : ℕ → Bool
is_start b = is_digit b || is_head b

head_not : (q : ℕ → Bool) → ((b : ℕ) → is_letter b ≡ true → q b ≡ false) → q 42 ≡ false → q 124 ≡ false → q 94 ≡ false → q 60 ≡ false → q 91 ≡ false → (b : ℕ) → is_head b ≡ true → q b ≡ false
head_not q letters star bar hat less bracket b e = elim (or_true (is_letter b) _ e) [
  | inl t ↦ letters b t
  | inr r ↦ elim (or_true (eqb b 42) _ r) [
    | inl t ↦ rw (eqb-true b 42 t) star
    | inr s ↦ elim (or_true (eqb b 124) _ s) [
      | inl t ↦ rw (eqb-true b 124 t) bar
      | inr u ↦ elim (or_true (eqb b 94) _ u) [
        | inl t ↦ rw (eqb-true b 94 t) hat
        | inr v ↦ elim (or_true (eqb b 60) _ v) [
          | inl t ↦ rw (eqb-true b 60 t) less
          | inr w ↦ rw (eqb-true b 91 w) bracket
        ]
      ]
    ]
  ]
]

start_not : (q : ℕ → Bool) → ((b : ℕ) → is_digit b ≡ true → q b ≡ false) → ((b : ℕ) → is_letter b ≡ true → q b ≡ false) → q 42 ≡ false → q 124 ≡ false → q 94 ≡ false → q 60 ≡ false → q 91 ≡ false → (b : ℕ) → is_start b ≡ true → q b ≡ false
start_not q digits letters star bar hat less bracket b e = elim (or_true (is_digit b) _ e) [
  | inl t ↦ digits b t
  | inr r ↦ head_not q letters star bar hat less bracket b r
]

between_bounds : (low high b : ℕ) → is_between low high b ≡ true → (low ≤ b) × (b ≤ high)
between_bounds low high b e = (grind (arith, nat_tests), grind (arith, nat_tests))

letter_bounds : (b : ℕ) → is_letter b ≡ true → (65 ≤ b) × (b ≤ 122) × ((b ≤ 90) ⊎ (97 ≤ b))
letter_bounds b e = elim (or_true (is_between 65 90 b) (is_between 97 122 b) e) [
  | inl t ↦ let l = between_bounds 65 90 b t in (l.0, omega (arith, l.1), inl l.1)
  | inr t ↦ let l = between_bounds 97 122 b t in (omega (arith, l.0), l.1, inr l.0)
]

letter_apart : (u b : ℕ) → ((b ≤ 90) ⊎ (97 ≤ b)) → 90 < u → u < 97 → b ≡ u → ⊥
letter_apart u b (inl z) low high w = omega arith
letter_apart u b (inr z) low high w = omega arith

letter_is_not : (u : ℕ) → (u < 65) ⊎ ((90 < u) × (u < 97)) ⊎ (122 < u) → (b : ℕ) → is_letter b ≡ true → eqb b u ≡ false
letter_is_not u (inl x) b e = let l = letter_bounds b e in ne_eqb b u (λ w. omega (arith, l.0))
letter_is_not u (inr (inl y)) b e = let l = letter_bounds b e in ne_eqb b u (letter_apart u b l.2 y.0 y.1)
letter_is_not u (inr (inr z)) b e = let l = letter_bounds b e in ne_eqb b u (λ w. omega (arith, l.1))

digit_is_not : (u : ℕ) → (u < 48) ⊎ (57 < u) → (b : ℕ) → is_digit b ≡ true → eqb b u ≡ false
digit_is_not u h b e = let d = digit_range b e in ne_eqb b u (λ w. elim h [ inl x ↦ omega (arith, d.0) | inr x ↦ omega (arith, d.1) ])

digit_no_blank : (b : ℕ) → is_digit b ≡ true → is_blank b ≡ false
digit_no_blank b e = rw (digit_is_not 32 (inl (omega arith)) b e, digit_is_not 9 (inl (omega arith)) b e, digit_is_not 13 (inl (omega arith)) b e) refl

letter_no_blank : (b : ℕ) → is_letter b ≡ true → is_blank b ≡ false
letter_no_blank b e = rw (letter_is_not 32 (inl (omega arith)) b e, letter_is_not 9 (inl (omega arith)) b e, letter_is_not 13 (inl (omega arith)) b e) refl

start_no_minus : (b : ℕ) → is_start b ≡ true → eqb b 45 ≡ false
start_no_minus = start_not (λ b. eqb b 45) (digit_is_not 45 (inl (omega arith))) (letter_is_not 45 (inl (omega arith))) refl refl refl refl refl

start_no_bracket : (b : ℕ) → is_start b ≡ true → eqb b 93 ≡ false
start_no_bracket = start_not (λ b. eqb b 93) (digit_is_not 93 (inr (omega arith))) (letter_is_not 93 (inr (inl (omega arith, omega arith)))) refl refl refl refl refl

start_no_blank : (b : ℕ) → is_start b ≡ true → is_blank b ≡ false
start_no_blank = start_not is_blank digit_no_blank letter_no_blank refl refl refl refl refl

head_no_digit : (b : ℕ) → is_head b ≡ true → is_digit b ≡ false
head_no_digit = head_not is_digit letter_not_digit refl refl refl refl refl

-- a simplex or a minus sign
abbrev is_first : ℕ → Bool
is_first b = is_start b || eqb b 45

first_no_bracket : (b : ℕ) → is_first b ≡ true → eqb b 93 ≡ false
first_no_bracket b e = elim (or_true (is_start b) _ e) [ inl t ↦ start_no_bracket b t | inr t ↦ rw (eqb-true b 45 t) refl ]

first_no_blank : (b : ℕ) → is_first b ≡ true → is_blank b ≡ false
first_no_blank b e = elim (or_true (is_start b) _ e) [ inl t ↦ start_no_blank b t | inr t ↦ rw (eqb-true b 45 t) refl ]

blank_cases : (q : ℕ → Bool) → q 32 ≡ false → q 9 ≡ false → q 13 ≡ false → (b : ℕ) → is_blank b ≡ true → q b ≡ false
blank_cases q x y z b e = elim (or_true (eqb b 32 || eqb b 9) _ e) [
  | inl t ↦ elim (or_true (eqb b 32) _ t) [ inl u ↦ rw (eqb-true b 32 u) x | inr u ↦ rw (eqb-true b 9 u) y ]
  | inr t ↦ rw (eqb-true b 13 t) z
]

-- a blank or a closing bracket
abbrev is_between_letters : ℕ → Bool
is_between_letters b = is_blank b || eqb b 93

between_no_inside : (b : ℕ) → is_between_letters b ≡ true → is_inside b ≡ false
between_no_inside b e = elim (or_true (is_blank b) _ e) [ inl t ↦ blank_cases is_inside refl refl refl b t | inr t ↦ rw (eqb-true b 93 t) refl ]

blank_between : (b : ℕ) → is_blank b ≡ true → is_between_letters b ≡ true
blank_between b e = rw e refl

gap_starts : (front : List ℕ) (v : Unit {0}) → IsGap front v → Starts is_blank front
gap_starts front v (blanks b more e first all) = record { head = b; tail = more; whole = e; is = first }

-- ---- letters and bodies

module _ (IsPart : List ℕ → SimplexText → Type 0) (part : List ℕ → Reading SimplexText) (one : Scans (simplex_end {A = SimplexText}) IsPart part) (part_starts : (front : List ℕ) (x : SimplexText) → IsPart front x → Starts is_start front) where
  reads_signed : (inverse : Bool) → Scans (simplex_end {A = LetterText}) (IsSigned IsPart inverse) (signed_letter_in part inverse)
  unfolding signed_letter_in
  reads_signed inverse = reads_then _ simplex_end simplex_end IsPart _ part _ one (λ x. reads_done _ simplex_end (record { inverse = inverse; simplex = x })) (done_between simplex_end _)

  pub reads_letter : Scans (simplex_end {A = LetterText}) (IsLetter IsPart) (letter_in part)
  unfolding letter_in
  reads_letter = reads_perhaps simplex_end 45 (IsSigned IsPart) (signed_letter_in part) (reads_signed true) (reads_signed false)
      (λ v back more t c. begins_not is_start (λ b. eqb b 45) start_no_minus back more (starts_then is_start IsPart _ part_starts back v t))

  start_first : (b : ℕ) → is_start b ≡ true → is_first b ≡ true
  start_first b e = rw e refl

  minus_first : (b : ℕ) → eqb b 45 ≡ true → is_first b ≡ true
  minus_first b e = rw (eqb-true b 45 e) refl

  letter_starts : (front : List ℕ) (l : LetterText) → IsLetter IsPart front l → Starts is_first front
  letter_starts front l (inl t) = starts_as (λ b. eqb b 45) is_first minus_first front (starts_then (λ b. eqb b 45) (Sign 45) (λ _. IsSigned IsPart true) (starts_sign 45) front l t)
  letter_starts front l (inr t) = starts_as is_start is_first start_first front (starts_then is_start IsPart _ part_starts front l t)

  -- another letter
  abbrev pub IsNext : List ℕ → LetterText → Type 0
  IsNext = IsGap ▷ λ _. IsLetter IsPart

  abbrev SomeNext : List ℕ → Option LetterText → Type 0
  SomeNext = IsGap ▷ λ _. IsLetter IsPart ▷ λ l. Done (Some l)

  abbrev Next : Bool → List ℕ → Option LetterText → Type 0
  Next true = Done None
  Next false = SomeNext

  abbrev pub next_may : Option LetterText → List ℕ → Bool
  next_may None more = true
  next_may (Some l) more = cond (begins is_inside more) false true

  some_letter_between : (l : LetterText) (w : Option LetterText) (back more : List ℕ) → Done (Some l) back w → next_may w more ≡ true → simplex_end l (back ++ more) ≡ true
  some_letter_between l w back more d c =
      let e : next_may (Some l) more ≡ true = subst (λ (x : Option LetterText). next_may x more ≡ true) (sym d.same) c in
      subst (λ (x : List ℕ). simplex_end l (x ++ more) ≡ true) (sym d.none) e

  gap_between : (v : Unit {0}) (w : Option LetterText) (back more : List ℕ) → (IsLetter IsPart ▷ λ l. Done (Some l)) back w → next_may w more ≡ true → no_blank v (back ++ more) ≡ true
  gap_between v w back more t c = not_begins _ (begins_not is_first is_blank first_no_blank back more (starts_then is_first (IsLetter IsPart) _ letter_starts back w t))

  reads_behind_gap : Scans next_may SomeNext (behind_gap_in part)
  unfolding behind_gap_in
  reads_behind_gap = reads_then _ no_blank next_may IsGap _ gap_in _ reads_gap
      (λ _. reads_then _ simplex_end next_may (IsLetter IsPart) (λ l. Done (Some l)) (letter_in part) _ reads_letter (λ l. reads_done _ next_may (Some l)) some_letter_between)
      gap_between

  behind_gap_shorter : (bytes : List ℕ) (w : Option LetterText) (rest : List ℕ) → behind_gap_in part bytes ≡ Ok (w, rest) → length rest < length bytes
  unfolding behind_gap_in
  behind_gap_shorter bytes w rest e =
      let b = bind_ok (gap_in bytes) (λ gap. letter_in part gap.1 >>= λ letter. Ok (Some letter.0, letter.1)) (w, rest) e in
      let d = bind_ok (letter_in part b.0.1) (λ letter. Ok (Some letter.0, letter.1)) (w, rest) b.2 in
      let p = ok_parts (Some d.0.0) w d.0.1 rest d.2 in
      omega (arith, gap_shorter bytes b.0.0 b.0.1 b.1, reads_letter.less b.0.1 d.0.0 d.0.1 d.1, ap length p.1)

  reads_next : (end : Bool) → Scans next_may (Next end) (next_letter_in part end)
  unfolding next_letter_in
  reads_next true = reads_done _ next_may None
  reads_next false = reads_behind_gap

  blank_no_bracket : (b : ℕ) → is_blank b ≡ true → eqb b 93 ≡ false
  blank_no_bracket = blank_cases (λ b. eqb b 93) refl refl refl

  some_next : (rs : List ℕ) (l : LetterText) → IsNext rs l → SomeNext rs (Some l)
  some_next rs l t = record { value = t.value; front = t.front; back = t.back; whole = t.whole; first = t.first; second = record { value = l; front = t.back; back = []; whole = sym (append-nil t.back); first = t.second; second = record { none = refl; same = refl } } }

  next_some : (rs : List ℕ) (w : Option LetterText) → SomeNext rs w → Part (93 ∷ []) IsNext rs w
  next_some rs w t =
      let u = t.second in
      subst (Part (93 ∷ []) IsNext rs) u.second.same
      (record { value = t.value; front = t.front; back = u.front; whole = t.whole ∙ ap (λ (x : List ℕ). t.front ++ x) (u.whole ∙ (rw u.second.none (append-nil u.front))); first = t.first; second = u.first })

  to_next : (rs : List ℕ) (w : Option LetterText) → ((Sign 93 ▷ λ _. Next true) ∣ Next false) rs w → Part (93 ∷ []) IsNext rs w
  to_next rs w (inl t) = subst (Part (93 ∷ []) IsNext rs) t.second.same (t.whole ∙ (rw t.second.none (append-nil t.front)) ∙ t.first)
  to_next rs w (inr t) = next_some rs w t

  from_next : (rs : List ℕ) (w : Option LetterText) → Part (93 ∷ []) IsNext rs w → ((Sign 93 ▷ λ _. Next true) ∣ Next false) rs w
  from_next rs None e = inl (record { value = tt; front = 93 ∷ []; back = []; whole = e; first = refl; second = record { none = refl; same = refl } })
  from_next rs (Some l) t = inr (some_next rs l t)

  pub reads_more_letters : Scans next_may (Part (93 ∷ []) IsNext) (more_letters_in part)
  unfolding more_letters_in
  reads_more_letters = reads_as _ next_may _ _ _ to_next from_next
      (reads_perhaps next_may 93 Next (next_letter_in part) (reads_next true) (reads_next false)
      (λ v back more t c. begins_not is_blank (λ b. eqb b 93) blank_no_bracket back more (starts_then is_blank IsGap _ gap_starts back v t)))

  next_shorter : (end : Bool) (bytes : List ℕ) (x : LetterText) (rest : List ℕ) → next_letter_in part end bytes ≡ Ok (Some x, rest) → length rest < length bytes
  unfolding next_letter_in
  next_shorter true bytes x rest e = let p = ok_parts None (Some x) bytes rest e in absurd (let q = p.0 in cc)
  next_shorter false bytes x rest e = behind_gap_shorter bytes (Some x) rest e

  pub more_letters_shorter : Shorter (more_letters_in part)
  unfolding more_letters_in
  more_letters_shorter bytes x rest e =
      let b = bind_ok (may_in 93 bytes) (λ end. next_letter_in part end.0 end.1) (Some x, rest) e in
      let t = may_takes 93 bytes b.0.0 b.0.1 b.1 in
      omega (arith, ap length t.2, length-append t.0 b.0.1, next_shorter b.0.0 b.0.1 x rest b.2)

  letters_start : (back : List ℕ) (xs : List LetterText) → Until (93 ∷ []) IsNext back xs → Starts is_between_letters back
  letters_start back [] is = record { head = 93; tail = []; whole = is; is = refl }
  letters_start back (x ∷ xs) is = starts_append is_between_letters is.0 is.1 back is.2 (starts_as is_blank is_between_letters blank_between is.0 (starts_then is_blank IsGap (λ _. IsLetter IsPart) gap_starts is.0 x is.3))

  letters_between : (x : LetterText) (xs : List LetterText) (back more : List ℕ) → Until (93 ∷ []) IsNext back xs → always xs more ≡ true → next_may (Some x) (back ++ more) ≡ true
  letters_between x xs back more is c = not_begins _ (begins_not is_between_letters is_inside between_no_inside back more (letters_start back xs is))

  reads_some_letters : Scans (always {A = List LetterText}) (IsLetter IsPart ▷ λ first. Until (93 ∷ []) IsNext ▷ λ more. Done (first ∷ more)) (some_letters_in part)
  unfolding some_letters_in
  reads_some_letters = reads_then _ simplex_end always (IsLetter IsPart) _ (letter_in part) _ reads_letter
      (λ first. reads_then _ always always (Until (93 ∷ []) IsNext) (λ more. Done (first ∷ more)) (until_at (more_letters_in part)) _
      (reads_until (more_letters_in part) more_letters_shorter (λ bytes. bytes) next_may always (93 ∷ []) IsNext reads_more_letters (λ xs more c. refl) letters_between (λ x xs more c. refl))
      (λ more. reads_done _ always (first ∷ more)) (λ v w back more d c. refl))
      (λ v w back more t c. not_begins _ (begins_not is_between_letters is_inside between_no_inside back more (starts_then is_between_letters (Until (93 ∷ []) IsNext) _ letters_start back w t)))

  abbrev Letters : Bool → List ℕ → List LetterText → Type 0
  Letters true = Done []
  Letters false = IsLetter IsPart ▷ λ first. Until (93 ∷ []) IsNext ▷ λ more. Done (first ∷ more)

  reads_letters_end : Scans (always {A = List LetterText}) (Letters true) (letters_behind_in part true)
  unfolding letters_behind_in
  reads_letters_end = reads_done _ always []

  reads_letters_some : Scans (always {A = List LetterText}) (Letters false) (letters_behind_in part false)
  unfolding letters_behind_in
  reads_letters_some = reads_some_letters

  reads_word : Scans (always {A = List LetterText}) (IsWord IsPart) (word_in part)
  unfolding word_in
  reads_word = reads_perhaps always 93 Letters (letters_behind_in part) reads_letters_end reads_letters_some
      (λ v back more t c. begins_not is_first (λ b. eqb b 93) first_no_bracket back more (starts_then is_first (IsLetter IsPart) _ letter_starts back v t))

  comma_no_inside : (b : ℕ) → eqb b 44 ≡ true → is_inside b ≡ false
  comma_no_inside b e = rw (eqb-true b 44 e) refl

  more_no_inside : (b : ℕ) → eqb b 62 ≡ true → is_inside b ≡ false
  more_no_inside b e = rw (eqb-true b 62 e) refl

  reads_pair : Scans (simplex_end {A = BodyText}) (IsBehind IsPart signs.Pair) (pair_in part)
  unfolding pair_in
  reads_pair = reads_then _ simplex_end simplex_end IsPart _ part _ one
      (λ x. reads_then _ always simplex_end (Sign 44) _ (sign_in 44) _ (reads_sign 44)
      (λ _. reads_then _ simplex_end simplex_end IsPart _ part _ one
      (λ y. reads_then _ always simplex_end (Sign 62) _ (sign_in 62) _ (reads_sign 62) (λ _. reads_done _ simplex_end (bodies.Pair x y)) (λ v w back more t c. refl))
      (λ v w back more t c. not_begins _ (begins_not (λ b. eqb b 62) is_inside more_no_inside back more (starts_then (λ b. eqb b 62) (Sign 62) _ (starts_sign 62) back w t))))
      (λ v w back more t c. refl))
      (λ v w back more t c. not_begins _ (begins_not (λ b. eqb b 44) is_inside comma_no_inside back more (starts_then (λ b. eqb b 44) (Sign 44) _ (starts_sign 44) back w t)))

  ints_done : (v : List ℤ) (w : BodyText) (back more : List ℕ) → Done (bodies.Ints v) back w → simplex_end w more ≡ true → no_integer v (back ++ more) ≡ true
  ints_done v w back more d c = subst (λ (x : List ℕ). no_integer v (x ++ more) ≡ true) (sym d.none) (not_begins _ (end_no_integer more (stops _ c)))

  reads_behind : (sign : BodySign) → Scans (simplex_end {A = BodyText}) (IsBehind IsPart sign) (behind_in part sign)
  unfolding behind_in
  reads_behind signs.Star = reads_done _ simplex_end bodies.Star
  reads_behind (signs.Name name) = reads_done _ simplex_end (bodies.Name name)
  reads_behind signs.Up = reads_then _ simplex_end simplex_end IsPart _ part _ one (λ x. reads_done _ simplex_end (bodies.Up x)) (done_between simplex_end _)
  reads_behind signs.Pair = reads_pair
  reads_behind signs.Ints = reads_then _ no_integer simplex_end _ (λ list. Done (bodies.Ints list)) (until_at int_in) _ reads_ints (λ list. reads_done _ simplex_end (bodies.Ints list)) ints_done
  reads_behind signs.Word = reads_then _ always simplex_end (IsWord IsPart) (λ letters. Done (bodies.Word letters)) (word_in part) _ reads_word (λ letters. reads_done _ simplex_end (bodies.Word letters)) (λ v w back more d c. refl)

-- ---- the sign of a body

abbrev pub head_may : BodySign → List ℕ → Bool
head_may signs.Star more = true
head_may (signs.Name name) more = cond (begins is_inner more) false true
head_may signs.Up more = true
head_may signs.Pair more = true
head_may signs.Ints more = true
head_may signs.Word more = true

-- a sign of one byte
abbrev IsOne : ℕ → ℕ → BodySign → Type 0
IsOne room b signs.Star = b ≡ 42
IsOne room b (signs.Name name) = ⊥
IsOne room b signs.Up = (b ≡ 94) × (0 < room)
IsOne room b signs.Pair = (b ≡ 60) × (0 < room)
IsOne room b signs.Ints = b ≡ 124
IsOne room b signs.Word = (b ≡ 91) × (0 < room)

some_is : {A : Type 0} (x y : A) → Some x ≡ Some y → x ≡ y
some_is x y e = cc

sign_is : (room b : ℕ) (sign : BodySign) → sign_of room b ≡ Some sign → IsOne room b sign
unfolding sign_of
sign_is room b sign e = elim (which (eqb b 42)) [
  | inl t ↦ let f = rw t at e in subst (IsOne room b) (some_is _ _ f) (eqb-true b 42 t)
  | inr a ↦ let g = rw a at e in elim (which (eqb b 124)) [
    | inl t ↦ let f = rw t at g in subst (IsOne room b) (some_is _ _ f) (eqb-true b 124 t)
    | inr c ↦ let h = rw c at g in elim (which (eqb room 0)) [
      | inl t ↦ absurd (let f = rw t at h in cc)
      | inr d ↦
          let ne = eqb-false room 0 d in
          let some : 0 < room = omega arith in
          let i = rw d at h in
          elim (which (eqb b 94)) [
            | inl t ↦ let f = rw t at i in subst (IsOne room b) (some_is _ _ f) (eqb-true b 94 t, some)
            | inr u ↦ let j = rw u at i in elim (which (eqb b 60)) [
              | inl t ↦ let f = rw t at j in subst (IsOne room b) (some_is _ _ f) (eqb-true b 60 t, some)
              | inr v ↦ let k = rw v at j in elim (which (eqb b 91)) [
                | inl t ↦ let f = rw t at k in subst (IsOne room b) (some_is _ _ f) (eqb-true b 91 t, some)
                | inr w ↦ absurd (let f = rw w at k in cc)
              ]
            ]
          ]
    ]
  ]
]

room_some : (room : ℕ) → 0 < room → eqb room 0 ≡ false
room_some room lt = ne_eqb room 0 (λ e. omega arith)

sign_star : (room : ℕ) → sign_of room 42 ≡ Some signs.Star
unfolding sign_of
sign_star room = refl

sign_bar : (room : ℕ) → sign_of room 124 ≡ Some signs.Ints
unfolding sign_of
sign_bar room = refl

sign_up : (room : ℕ) → 0 < room → sign_of room 94 ≡ Some signs.Up
unfolding sign_of
sign_up room lt = rw (room_some room lt) refl

sign_less : (room : ℕ) → 0 < room → sign_of room 60 ≡ Some signs.Pair
unfolding sign_of
sign_less room lt = rw (room_some room lt) refl

sign_bracket : (room : ℕ) → 0 < room → sign_of room 91 ≡ Some signs.Word
unfolding sign_of
sign_bracket room lt = rw (room_some room lt) refl

sign_letter : (room b : ℕ) → is_letter b ≡ true → sign_of room b ≡ None
unfolding sign_of
sign_letter room b e =
    let star = letter_is_not 42 (inl (omega arith)) b e in
    let bar = letter_is_not 124 (inr (inr (omega arith))) b e in
    let hat = letter_is_not 94 (inr (inl (omega arith, omega arith))) b e in
    let less = letter_is_not 60 (inl (omega arith)) b e in
    let bracket = letter_is_not 91 (inr (inl (omega arith, omega arith))) b e in
    elim (which (eqb room 0)) [ inl t ↦ rw (star, bar, t) refl | inr n ↦ rw (star, bar, n, hat) (rw (less, bracket) refl) ]

one_sign : (room b : ℕ) (sign : BodySign) → IsOne room b sign → IsSign room (b ∷ []) sign
one_sign room b signs.Star e = rw e refl
one_sign room b (signs.Name name) e = absurd e
one_sign room b signs.Up e = (rw e.0 refl, e.1)
one_sign room b signs.Pair e = (rw e.0 refl, e.1)
one_sign room b signs.Ints e = rw e refl
one_sign room b signs.Word e = (rw e.0 refl, e.1)

head_takes_at : (room b : ℕ) (bytes : List ℕ) (found : Option BodySign) (v : BodySign) (rest : List ℕ) → sign_of room b ≡ found → sign_or_name_in found b bytes ≡ Ok (v, rest) → Taken (λ bytes. bytes) (IsSign room) (b ∷ bytes) v rest
unfolding sign_or_name_in
head_takes_at room b bytes (Some sign) v rest s e =
    let p = ok_parts sign v bytes rest e in
    record { front = b ∷ []; is = subst (IsSign room (b ∷ [])) p.0 (one_sign room b sign (sign_is room b sign s)); units_are = ap (λ (t : List ℕ). b ∷ t) p.1 }
head_takes_at room b bytes None v rest s e =
    let c = bind_ok (name_in (b ∷ bytes)) (λ name. Ok (signs.Name name.0, name.1)) (v, rest) e in
    let t = reads_name.takes (b ∷ bytes) c.0.0 c.0.1 c.1 in
    let p = ok_parts (signs.Name c.0.0) v c.0.1 rest c.2 in
    record { front = t.front; is = subst (IsSign room t.front) p.0 t.is; units_are = t.units_are ∙ ap (λ (x : List ℕ). t.front ++ x) p.1 }

head_takes : (room : ℕ) (bytes : List ℕ) (v : BodySign) (rest : List ℕ) → head_in room bytes ≡ Ok (v, rest) → Taken (λ bytes. bytes) (IsSign room) bytes v rest
unfolding head_in
head_takes room [] v rest e = absurd cc
head_takes room (b ∷ bytes) v rest e = head_takes_at room b bytes (sign_of room b) v rest refl e

sign_gives : (room b : ℕ) (sign : BodySign) (more : List ℕ) → sign_of room b ≡ Some sign → head_in room (b ∷ more) ≡ Ok (sign, more)
unfolding head_in sign_or_name_in
sign_gives room b sign more e = rw e refl

name_gives : (room : ℕ) (bytes front name more : List ℕ) → IsName front name → bytes ≡ front ++ more → begins is_inner more ≡ false → head_in room bytes ≡ Ok (signs.Name name, more)
unfolding head_in sign_or_name_in
name_gives room [] front name more is e stop = absurd (let s = name_starts front name is in let w : length (front ++ more) ≡ 0 = ap length (sym e) in omega (arith, length-append front more, ap length s.whole))
name_gives room (b ∷ bytes) front name more is e stop =
    let s = name_starts front name is in
    let same : b ≡ s.head = (let w : b ∷ bytes ≡ s.head ∷ (s.tail ++ more) = e ∙ ap (λ (x : List ℕ). x ++ more) s.whole in cc) in
    let letter : is_letter b ≡ true = rw same s.is in
    let a = reads_name.again (b ∷ bytes) front name more is e (not_begins _ stop) in
    let end : a.rest ≡ more = a.units_are in
    rw (sign_letter room b letter) (rw a.gives (rw end refl))

head_gives : (room : ℕ) (bytes front : List ℕ) (v : BodySign) (more : List ℕ) → IsSign room front v → bytes ≡ front ++ more → head_may v more ≡ true → head_in room bytes ≡ Ok (v, more)
head_gives room bytes front signs.Star more is e m = rw (e, is) (sign_gives room 42 signs.Star more (sign_star room))
head_gives room bytes front (signs.Name name) more is e m = name_gives room bytes front name more is e (stops _ m)
head_gives room bytes front signs.Up more is e m = rw (e, is.0) (sign_gives room 94 signs.Up more (sign_up room is.1))
head_gives room bytes front signs.Pair more is e m = rw (e, is.0) (sign_gives room 60 signs.Pair more (sign_less room is.1))
head_gives room bytes front signs.Ints more is e m = rw (e, is) (sign_gives room 124 signs.Ints more (sign_bar room))
head_gives room bytes front signs.Word more is e m = rw (e, is.0) (sign_gives room 91 signs.Word more (sign_bracket room is.1))

name_between : (v : List ℕ) (w : BodySign) (back more : List ℕ) → Done (signs.Name v) back w → head_may w more ≡ true → no_inner v (back ++ more) ≡ true
name_between v w back more d c =
    let e : head_may (signs.Name v) more ≡ true = subst (λ (x : BodySign). head_may x more ≡ true) (sym d.same) c in
    subst (λ (x : List ℕ). no_inner v (x ++ more) ≡ true) (sym d.none) e

head_within_at : (b : ℕ) (bytes : List ℕ) (found : Option BodySign) (left : ℕ) → sign_or_name_in found b bytes ≡ Err left → left ≤ length (b ∷ bytes)
unfolding sign_or_name_in
head_within_at b bytes (Some sign) left e = absurd cc
head_within_at b bytes None left e = (reads_then (λ (x : List ℕ). x) no_inner head_may IsName (λ name. Done (signs.Name name)) name_in (λ name. Ok (signs.Name name.0, name.1)) reads_name (λ name. reads_done _ head_may (signs.Name name)) name_between).within (b ∷ bytes) left e

head_within : (room : ℕ) (bytes : List ℕ) (left : ℕ) → head_in room bytes ≡ Err left → left ≤ length bytes
unfolding head_in
head_within room [] left e = let same : 0 ≡ left = cc in omega arith
head_within room (b ∷ bytes) left e = head_within_at b bytes (sign_of room b) left e

pub reads_head : (room : ℕ) → Scans head_may (IsSign room) (head_in room)
reads_head room = record {
  takes = head_takes room;
  again = λ bytes front v more is e m. record { rest = more; gives = head_gives room bytes front v more is e m; units_are = refl };
  less = λ bytes v rest e. let t = head_takes room bytes v rest e in omega (arith, ap length t.units_are, length-append t.front rest);
  within = head_within room;
}

letter_head : (b : ℕ) → is_letter b ≡ true → is_head b ≡ true
letter_head b e = rw e refl

head_starts : (room : ℕ) (front : List ℕ) (v : BodySign) → IsSign room front v → Starts is_head front
head_starts room front signs.Star is = record { head = 42; tail = []; whole = is; is = refl }
head_starts room front (signs.Name name) is = starts_as is_letter is_head letter_head front (name_starts front name is)
head_starts room front signs.Up is = record { head = 94; tail = []; whole = is.0; is = refl }
head_starts room front signs.Pair is = record { head = 60; tail = []; whole = is.0; is = refl }
head_starts room front signs.Ints is = record { head = 124; tail = []; whole = is; is = refl }
head_starts room front signs.Word is = record { head = 91; tail = []; whole = is.0; is = refl }

-- ---- simplices

head_between : (IsPart : List ℕ → SimplexText → Type 0) (v : BodySign) (w : BodyText) (back more : List ℕ) → IsBehind IsPart v back w → simplex_end w more ≡ true → head_may v (back ++ more) ≡ true
head_between IsPart signs.Star w back more t c = refl
head_between IsPart (signs.Name name) w back more t c = subst (λ (x : List ℕ). no_inner name (x ++ more) ≡ true) (sym t.none) (not_begins _ (end_no_inner more (stops _ c)))
head_between IsPart signs.Up w back more t c = refl
head_between IsPart signs.Pair w back more t c = refl
head_between IsPart signs.Ints w back more t c = refl
head_between IsPart signs.Word w back more t c = refl

module _ (room : ℕ) (IsPart : List ℕ → SimplexText → Type 0) where
  body_starts : (front : List ℕ) (v : BodyText) → (IsSign room ▷ λ sign. IsBehind IsPart sign) front v → Starts is_head front
  body_starts = starts_then is_head (IsSign room) (IsBehind IsPart) (head_starts room)

  digit_start : (b : ℕ) → is_digit b ≡ true → is_start b ≡ true
  digit_start b e = rw e refl

  head_start : (b : ℕ) → is_head b ≡ true → is_start b ≡ true
  head_start b e = rw (head_no_digit b e) e

  over_starts : (front : List ℕ) (x : SimplexText) → IsSimplexOver room IsPart front x → Starts is_start front
  over_starts front x t =
      let s = starts_as is_head is_start head_start t.back (starts_then is_head (IsSign room ▷ λ sign. IsBehind IsPart sign) _ body_starts t.back x t.second) in
      subst (Starts is_start) (sym t.whole) (prefix_starts is_start digit_start t.front t.back t.value t.first s)

  module _ (part : List ℕ → Reading SimplexText) (one : Scans (simplex_end {A = SimplexText}) IsPart part) (part_starts : (front : List ℕ) (x : SimplexText) → IsPart front x → Starts is_start front) where
    reads_body : Scans (simplex_end {A = BodyText}) (IsSign room ▷ λ sign. IsBehind IsPart sign) (body_in room part)
    unfolding body_in
    reads_body = reads_then _ head_may simplex_end (IsSign room) (IsBehind IsPart) (head_in room) _ (reads_head room) (reads_behind IsPart part one part_starts) (head_between IsPart)

    reads_over : Scans (simplex_end {A = SimplexText}) (IsSimplexOver room IsPart) (simplex_over room part)
    unfolding simplex_over
    reads_over = reads_then _ no_digit simplex_end IsPrefix _ prefix_in _ reads_prefix
        (λ degens. reads_then _ simplex_end simplex_end (IsSign room ▷ λ sign. IsBehind IsPart sign) (λ body. Done (record { degens = degens; body = body })) (body_in room part) _ reads_body
        (λ body. reads_done _ simplex_end (record { degens = degens; body = body })) (done_between simplex_end _))
        (λ v w back more t c. not_begins _ (begins_not is_head is_digit head_no_digit back more (starts_then is_head (IsSign room ▷ λ sign. IsBehind IsPart sign) _ body_starts back w t)))

pub simplex_starts : (room : ℕ) (front : List ℕ) (x : SimplexText) → IsSimplexIn room front x → Starts is_start front
unfolding IsSimplexIn
simplex_starts zero front x is = over_starts zero Never front x is
simplex_starts (suc room) front x is = over_starts (suc room) (IsSimplexIn room) front x is

pub reads_none : Scans (simplex_end {A = SimplexText}) Never (simplex_in zero)
unfolding simplex_in
reads_none = reads_never _ simplex_end

pub never_starts : (front : List ℕ) (x : SimplexText) → Never front x → Starts is_start front
never_starts front x is = absurd is

pub reads_simplex : (room : ℕ) → Scans (simplex_end {A = SimplexText}) (IsSimplexIn room) (simplex_in (suc room))
unfolding IsSimplexIn simplex_in
reads_simplex zero = reads_over zero Never (simplex_in zero) reads_none never_starts
reads_simplex (suc room) = reads_over (suc room) (IsSimplexIn room) (simplex_in (suc room)) (reads_simplex room) (simplex_starts room)
