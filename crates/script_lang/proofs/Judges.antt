-- What a run is taken for is what it means.
use Rattle.std.proofs.Common.{◌≡◌, ℕ, ◌-◌, ◌≤◌, Bool, true, false, cond, ◌||◌, List, [], ◌∷◌, length, Ok, Err, Option, Some, None, refl, sym, ap, subst, ◌∙◌, ◌⊎◌, inl, inr, codes, bytes_eq, nat_eq, arith}
use Rattle.std.specs.List.{common_prefix_len}
use Rattle.std.proofs.lemmas.Slice.Eq.{bytes_eq-Decides}
use Rattle.std.proofs.lemmas.List.{append-nil}
use Rattle.term_lang.specs.declared.texts.FaceText.{FaceText}
use Rattle.script_lang.specs.declared.words.SpaceWord.{SpaceWord}
use Rattle.script_lang.specs.declared.words.SpaceWord.TheVariants as space_words
use Rattle.script_lang.specs.declared.words.CommandWord.{CommandWord}
use Rattle.script_lang.specs.declared.words.CommandWord.TheVariants as command_words
use Rattle.script_lang.specs.Bytes.{is_digit, is_letter, is_name, IsName, IsNumber, IsInteger}
use Rattle.script_lang.specs.Simplices.{IsFace, IsSimplex}
use Rattle.script_lang.specs.Grammar.{Run, opening, closing, space_text, IsSpaceWord, command_text, IsCommandWord}
use Rattle.script_lang.specs.Readings.{Reading, Judged, judged, whole}
use Rattle.script_lang.specs.Scans.{name_in, number_in, integer_in, face_in, simplex_in}
use Rattle.script_lang.specs.Words.{sign_run, number_of, name_of, integer_of, simplex_of, some_of, start_of, face_of, part_of, chain_of, space_common, space_word_of, command_common, command_word_of}
use Rattle.script_lang.proofs.Combine.{which}
use Rattle.script_lang.proofs.Fronts.{reads_name, reads_number}
use Rattle.script_lang.proofs.Inner.{Scans, Starts, starts_as, starts_append, reads_integer}
use Rattle.script_lang.proofs.Prefixes.{reads_face, name_starts, prefix_starts}
use Rattle.script_lang.proofs.Bodies.{reads_simplex}
use Rattle.script_lang.proofs.Withins.{fits_whole}
use Rattle.script_lang.proofs.Runs.{Judging}

-- ---- the whole of a run

judged_ok : {A : Type 0} (r : Reading A) (v : A) → judged r ≡ Ok v → r ≡ Ok (v, [])
judged_ok (Ok (x, [])) v e = let same : x ≡ v = cc in rw same refl
judged_ok (Ok (x, b ∷ rest)) v e = absurd cc
judged_ok (Err left) v e = absurd cc

pub judging_whole : {A : Type 0} (may : A → List ℕ → Bool) (L : List ℕ → A → Type 0) (read : List ℕ → Reading A) → Scans may L read → ((v : A) → may v [] ≡ true) → Judging L (whole read)
judging_whole may L read one last = record {
  is = λ run v e.
      let t = one.takes run v [] (judged_ok (read run) v e) in
      subst (λ (r : List ℕ). L r v) (sym (t.units_are ∙ append-nil t.front)) t.is;
  again = λ run v is.
      let a = one.again run run v [] is (sym (append-nil run)) (last v) in
      let none : a.rest ≡ [] = a.units_are in
      rw a.gives (rw none refl);
  within = λ run left e. (fits_whole may L read one run).within left e;
}

pub judging_number : Judging IsNumber number_of
unfolding number_of
judging_number = judging_whole _ IsNumber number_in reads_number (λ v. refl)

pub judging_name : Judging IsName name_of
unfolding name_of
judging_name = judging_whole _ IsName name_in reads_name (λ v. refl)

pub judging_integer : Judging IsInteger integer_of
unfolding integer_of
judging_integer = judging_whole _ IsInteger integer_in reads_integer (λ v. refl)

pub judging_simplex : Judging IsSimplex simplex_of
unfolding simplex_of
judging_simplex = judging_whole _ IsSimplex (simplex_in 33) (reads_simplex 32) (λ v. refl)

-- ---- given runs

pub same_run : (a b : Run) → bytes_eq a b ≡ true → a ≡ b
same_run a b e = (bytes_eq-Decides a b).0 e

bytes_eq_same : (a : Run) → bytes_eq a a ≡ true
bytes_eq_same a = (bytes_eq-Decides a a).1 refl

chosen : {A : Type 0} (b : Bool) (x : A) (y : Judged A) (v : A) → cond b (Ok x) y ≡ Ok v → ((b ≡ true) × (x ≡ v)) ⊎ ((b ≡ false) × (y ≡ Ok v))
chosen true x y v e = inl (refl, cc)
chosen false x y v e = inr (refl, e)

left_out : {A : Type 0} (b : Bool) (x : A) (y : Judged A) (left : ℕ) → cond b (Ok x) y ≡ Err left → y ≡ Err left
left_out true x y left e = absurd cc
left_out false x y left e = e

never : {A P : Type 0} (left : ℕ) (v : A) → (let bad : Judged A = Err left in bad ≡ Ok v) → P
never left v e = absurd cc

err_is : {A : Type 0} (own left : ℕ) → (let bad : Judged A = Err own in bad ≡ Err left) → own ≡ left
err_is own left e = cc

pub judging_sign : (text : Run) → Judging (λ run v. run ≡ text) (sign_run text)
judging_sign text = record {
  is = λ run v e. elim (chosen (bytes_eq run text) tt (Err (length run)) v e) [ inl p ↦ same_run run text p.0 | inr p ↦ never (length run) v p.1 ];
  again = λ run v is. rw is (rw (bytes_eq_same text) refl);
  within = λ run left e. let f = err_is {A = Unit {0}} (length run) left (left_out (bytes_eq run text) tt (Err (length run)) left e) in omega arith;
}

-- ---- a parenthesis or a word

abbrev pub Perhaps : {A : Type 0} → Run → (Run → A → Type 0) → Run → Option A → Type 0
Perhaps sign Means run None = run ≡ sign
Perhaps sign Means run (Some v) = Means run v

some_of_ok : {A : Type 0} (judged : Judged A) (v : Option A) → some_of judged ≡ Ok v → (x : A) × (judged ≡ Ok x) × (Some x ≡ v)
some_of_ok (Ok x) v e = (x, refl, cc)
some_of_ok (Err left) v e = absurd cc

some_of_err : {A : Type 0} (judged : Judged A) (left : ℕ) → some_of judged ≡ Err left → judged ≡ Err left
some_of_err (Ok x) left e = absurd cc
some_of_err (Err own) left e = let same : own ≡ left = cc in ap Err same

module _ {A : Type 0} (sign : Run) (Means : Run → A → Type 0) (judge : Run → Judged A) (one : Judging Means judge) (apart : (v : A) → Means sign v → ⊥) where
  perhaps_again : (run : Run) (v : Option A) → Perhaps sign Means run v → cond (bytes_eq run sign) (Ok None) (some_of (judge run)) ≡ Ok v
  perhaps_again run None is = rw is (rw (bytes_eq_same sign) refl)
  perhaps_again run (Some x) is = elim (which (bytes_eq run sign)) [
    | inl t ↦ absurd (apart x (subst (λ (r : Run). Means r x) (same_run run sign t) is))
    | inr n ↦ rw n (rw (one.again run x is) refl)
  ]

  pub judging_perhaps : Judging (Perhaps sign Means) (λ run. cond (bytes_eq run sign) (Ok None) (some_of (judge run)))
  judging_perhaps = record {
    is = λ run v e. elim (chosen (bytes_eq run sign) None (some_of (judge run)) v e) [
      | inl p ↦ subst (Perhaps sign Means run) p.1 (same_run run sign p.0)
      | inr p ↦ let s = some_of_ok (judge run) v p.1 in subst (Perhaps sign Means run) s.2 (one.is run s.0 s.1)
    ];
    again = perhaps_again;
    within = λ run left e. one.within run left (some_of_err (judge run) left (left_out (bytes_eq run sign) None (some_of (judge run)) left e));
  }

opening_no_name : (v : List ℕ) → IsName opening v → ⊥
unfolding is_name
opening_no_name v is = let e = is.is in cc

pub judging_start : Judging (Perhaps opening IsName) start_of
unfolding start_of
judging_start = judging_perhaps opening IsName name_of judging_name opening_no_name

judging_whole_face : Judging IsFace (whole face_in)
judging_whole_face = judging_whole _ IsFace face_in reads_face (λ v. refl)

-- a face begins with a digit or a letter
abbrev is_face_start : ℕ → Bool
is_face_start b = is_digit b || is_letter b

digit_face : (b : ℕ) → is_digit b ≡ true → is_face_start b ≡ true
digit_face b e = rw e refl

letter_face : (b : ℕ) → is_letter b ≡ true → is_face_start b ≡ true
letter_face b e = elim (which (is_digit b)) [ inl t ↦ rw t refl | inr n ↦ rw n e ]

no_face_start : (s : Starts is_face_start closing) → ⊥
no_face_start s =
    let same : 41 ≡ s.head = (let w = s.whole in cc) in
    let bad : is_face_start 41 ≡ true = subst (λ (b : ℕ). is_face_start b ≡ true) (sym same) s.is in cc

closing_no_face : (v : FaceText) → IsFace closing v → ⊥
closing_no_face v t =
    let u = t.second in
    let n = starts_as is_letter is_face_start letter_face t.back (starts_append is_letter u.front u.back t.back u.whole (name_starts u.front u.value u.first)) in
    no_face_start (subst (Starts is_face_start) (sym t.whole) (prefix_starts is_face_start digit_face t.front t.back t.value t.first n))

pub judging_face : Judging (Perhaps closing IsFace) face_of
unfolding face_of
judging_face = judging_perhaps closing IsFace (whole face_in) judging_whole_face closing_no_face

-- ---- another part or the end, terms or 0

abbrev pub IsMore : Run → Bool → Type 0
IsMore run true = run ≡ opening
IsMore run false = run ≡ closing

abbrev pub IsSome : Run → Bool → Type 0
IsSome run true = run ≡ opening
IsSome run false = run ≡ codes "0"

part_again : (run : Run) (v : Bool) → IsMore run v → part_of run ≡ Ok v
unfolding part_of
part_again run true is = rw is refl
part_again run false is = rw is refl

pub judging_part : Judging IsMore part_of
unfolding part_of
judging_part = record {
  is = λ run v e. elim (chosen (bytes_eq run opening) true _ v e) [
    | inl p ↦ subst (IsMore run) p.1 (same_run run opening p.0)
    | inr p ↦ elim (chosen (bytes_eq run closing) false (Err (length run)) v p.1) [
      | inl q ↦ subst (IsMore run) q.1 (same_run run closing q.0)
      | inr q ↦ never (length run) v q.1
    ]
  ];
  again = part_again;
  within = λ run left e.
      let f = err_is {A = Bool} (length run) left (left_out (bytes_eq run closing) false (Err (length run)) left (left_out (bytes_eq run opening) true _ left e)) in omega arith;
}

chain_again : (run : Run) (v : Bool) → IsSome run v → chain_of run ≡ Ok v
unfolding chain_of
chain_again run true is = rw is refl
chain_again run false is = rw is refl

pub judging_chain : Judging IsSome chain_of
unfolding chain_of
judging_chain = record {
  is = λ run v e. elim (chosen (bytes_eq run opening) true _ v e) [
    | inl p ↦ subst (IsSome run) p.1 (same_run run opening p.0)
    | inr p ↦ elim (chosen (bytes_eq run (codes "0")) false (Err (length run - common_prefix_len nat_eq run (codes "0"))) v p.1) [
      | inl q ↦ subst (IsSome run) q.1 (same_run run (codes "0") q.0)
      | inr q ↦ never (length run - common_prefix_len nat_eq run (codes "0")) v q.1
    ]
  ];
  again = chain_again;
  within = λ run left e.
      let f = err_is {A = Bool} (length run - common_prefix_len nat_eq run (codes "0")) left (left_out (bytes_eq run (codes "0")) false (Err (length run - common_prefix_len nat_eq run (codes "0"))) left (left_out (bytes_eq run opening) true _ left e)) in omega arith;
}

-- ---- words from a table

space_word_again : (word : SpaceWord) → space_word_of (space_text word) ≡ Ok word
unfolding space_word_of
space_word_again space_words.Sphere = refl
space_word_again space_words.Product = refl
space_word_again space_words.Suspension = refl
space_word_again space_words.KZ1 = refl
space_word_again space_words.Loop = refl
space_word_again space_words.Path = refl
space_word_again space_words.Bundle = refl
space_word_again space_words.Table = refl

-- a word that is picked from several
picked : {A : Type 0} (text : A → Run) (run : Run) (x : A) (y : Judged A) (v : A) → (y ≡ Ok v → run ≡ text v) → cond (bytes_eq run (text x)) (Ok x) y ≡ Ok v → run ≡ text v
picked text run x y v h e = elim (chosen (bytes_eq run (text x)) x y v e) [ inl p ↦ same_run run (text x) p.0 ∙ ap text p.1 | inr p ↦ h p.1 ]

space_word_is : (run : Run) (word : SpaceWord) → space_word_of run ≡ Ok word → run ≡ space_text word
unfolding space_word_of
space_word_is run word =
    picked space_text run space_words.Sphere _ word (picked space_text run space_words.Product _ word (picked space_text run space_words.Suspension _ word (picked space_text run space_words.KZ1 _ word
    (picked space_text run space_words.Loop _ word (picked space_text run space_words.Path _ word (picked space_text run space_words.Bundle _ word (picked space_text run space_words.Table _ word (never _ word))))))))

within_minus : {A : Type 0} (run : Run) (k left : ℕ) → (let bad : Judged A = Err (length run - k) in bad ≡ Err left) → left ≤ length run
within_minus {A} run k left e = let f = err_is {A = A} (length run - k) left e in omega arith

-- one more word
further : {A : Type 0} (text : A → Run) (run : Run) (x : A) (y : Judged A) (left : ℕ) → (y ≡ Err left → left ≤ length run) → cond (bytes_eq run (text x)) (Ok x) y ≡ Err left → left ≤ length run
further text run x y left h e = h (left_out (bytes_eq run (text x)) x y left e)

space_word_within : (run : Run) (left : ℕ) → space_word_of run ≡ Err left → left ≤ length run
unfolding space_word_of
space_word_within run left =
    further space_text run space_words.Sphere _ left (further space_text run space_words.Product _ left (further space_text run space_words.Suspension _ left (further space_text run space_words.KZ1 _ left
    (further space_text run space_words.Loop _ left (further space_text run space_words.Path _ left (further space_text run space_words.Bundle _ left (further space_text run space_words.Table _ left (within_minus run (space_common run) left))))))))

pub judging_space_word : Judging IsSpaceWord space_word_of
judging_space_word = record {
  is = space_word_is;
  again = λ run word is. rw is (space_word_again word);
  within = space_word_within;
}

command_word_again : (word : CommandWord) → command_word_of (command_text word) ≡ Ok word
unfolding command_word_of
command_word_again command_words.Field = refl
command_word_again command_words.Setf = refl
command_word_again command_words.Names = refl
command_word_again command_words.Betti = refl
command_word_again command_words.Homology = refl
command_word_again command_words.Boundary = refl
command_word_again command_words.Express = refl

command_word_is : (run : Run) (word : CommandWord) → command_word_of run ≡ Ok word → run ≡ command_text word
unfolding command_word_of
command_word_is run word =
    picked command_text run command_words.Field _ word (picked command_text run command_words.Setf _ word (picked command_text run command_words.Names _ word (picked command_text run command_words.Betti _ word
    (picked command_text run command_words.Homology _ word (picked command_text run command_words.Boundary _ word (picked command_text run command_words.Express _ word (never _ word)))))))

command_word_within : (run : Run) (left : ℕ) → command_word_of run ≡ Err left → left ≤ length run
unfolding command_word_of
command_word_within run left =
    further command_text run command_words.Field _ left (further command_text run command_words.Setf _ left (further command_text run command_words.Names _ left (further command_text run command_words.Betti _ left
    (further command_text run command_words.Homology _ left (further command_text run command_words.Boundary _ left (further command_text run command_words.Express _ left (within_minus run (command_common run) left)))))))

pub judging_command_word : Judging IsCommandWord command_word_of
judging_command_word = record {
  is = command_word_is;
  again = λ run word is. rw is (command_word_again word);
  within = command_word_within;
}
