-- What reads degeneracies, faces, integers between bars and gaps.
use Rattle.std.proofs.Common.{◌≡◌, ℕ, ◌<◌, ◌≤◌, Bool, true, false, cond, eqb, ◌&&◌, ◌||◌, List, [], ◌∷◌, ◌++◌, length, Ok, Err, Option, Some, None, refl, sym, ap, subst, ◌∙◌, arith, inl, inr}
use Rattle.std.proofs.lemmas.Bool.{eqb-true}
use Rattle.std.proofs.lemmas.Bool.Decides.{nat_tests}
use Rattle.std.proofs.lemmas.List.{append-nil, length-append}
use Rattle.std.specs.Prelude.{ℤ}
use Rattle.std.specs.List.{list_all}
use Rattle.term_lang.specs.declared.texts.FaceText.{FaceText}
use Rattle.script_lang.specs.Phrases.{Done, Sign, ◌▷◌, ◌∣◌, Until}
use Rattle.script_lang.specs.Bytes.{is_blank, is_digit, is_letter, is_inner, is_name, IsName, IsNumber, IsInteger}
use Rattle.script_lang.specs.Simplices.{IsDegens, IsPrefix, IsFace, IsGap, blanks}
use Rattle.script_lang.specs.Readings.{◌>>=◌, until_at}
use Rattle.script_lang.specs.Scans.{begins, name_in, number_in, sign_in, separator_in, next_degen_in, degen_in, degens_in, prefix_in, face_in, integer_in, barred_in, int_in, after_blanks, gap_in}
use Rattle.script_lang.proofs.Values.{both_true, digit_range}
use Rattle.script_lang.proofs.Combine.{which, ok_parts, bind_ok, Taken, Again, always, reads_done, reads_then, reads_as, reads_before}
use Rattle.script_lang.proofs.Loops.{Shorter, Part, reads_until}
use Rattle.script_lang.proofs.Fronts.{stops, no_inner, reads_name, no_digit, reads_number}
use Rattle.script_lang.proofs.Inner.{Scans, Starts, starts_append, starts_then, begins_not, begins_so, not_begins, starts_sign, starts_as, reads_sign, sign_shorter, reads_peek, number_starts, reads_integer, is_integer_start, integer_starts}

-- behind what is done, what may follow is what follows
pub done_between : {A B : Type 0} (may : A → List ℕ → Bool) (make : A → B) → (v : A) (w : B) (back more : List ℕ) → Done (make v) back w → may v more ≡ true → may v (back ++ more) ≡ true
done_between may make v w back more d c = subst (λ (x : List ℕ). may v (x ++ more) ≡ true) (sym d.none) c

-- ---- degeneracies

abbrev pub Separator : List ℕ → Bool → Type 0
Separator bytes true = bytes ≡ 45 ∷ []
Separator bytes false = bytes ≡ 58 ∷ []

separator_takes : (bytes : List ℕ) (v : Bool) (rest : List ℕ) → separator_in bytes ≡ Ok (v, rest) → (front : List ℕ) × Separator front v × (bytes ≡ front ++ rest) × (length front ≡ 1)
unfolding separator_in
separator_takes [] v rest e = absurd cc
separator_takes (b ∷ bytes) v rest e = elim (which (eqb b 45)) [
  | inl t ↦ let f = rw t at e in let p = ok_parts true v bytes rest f in (45 ∷ [], subst (Separator (45 ∷ [])) p.0 refl, rw (eqb-true b 45 t, p.1) refl, refl)
  | inr n ↦ elim (which (eqb b 58)) [
    | inl t ↦ let f = rw t at (rw n at e) in let p = ok_parts false v bytes rest f in (58 ∷ [], subst (Separator (58 ∷ [])) p.0 refl, rw (eqb-true b 58 t, p.1) refl, refl)
    | inr m ↦ absurd (let f = rw m at (rw n at e) in cc)
  ]
]

separator_again : (v : Bool) (front more : List ℕ) → Separator front v → separator_in (front ++ more) ≡ Ok (v, more)
unfolding separator_in
separator_again true front more is = rw is refl
separator_again false front more is = rw is refl

separator_within : (bytes : List ℕ) (left : ℕ) → separator_in bytes ≡ Err left → left ≤ length bytes
unfolding separator_in
separator_within [] left e = let same : 0 ≡ left = cc in omega arith
separator_within (b ∷ bytes) left e = elim (which (eqb b 45)) [
  | inl t ↦ absurd (let f = rw t at e in cc)
  | inr n ↦ elim (which (eqb b 58)) [
    | inl t ↦ absurd (let f = rw t at (rw n at e) in cc)
    | inr m ↦ let f = rw m at (rw n at e) in let same : length (b ∷ bytes) ≡ left = cc in omega arith
  ]
]

separator_shorter : (bytes : List ℕ) (v : Bool) (rest : List ℕ) → separator_in bytes ≡ Ok (v, rest) → length rest < length bytes
separator_shorter bytes v rest e = let t = separator_takes bytes v rest e in omega (arith, ap length t.2, length-append t.0 rest, t.3)

pub reads_separator : Scans (always {A = Bool}) Separator separator_in
reads_separator = record {
  takes = λ bytes v rest e. let t = separator_takes bytes v rest e in record { front = t.0; is = t.1; units_are = t.2 };
  again = λ bytes front v more is e m. record { rest = more; gives = rw e (separator_again v front more is); units_are = refl };
  less = λ bytes v rest e. let s = separator_shorter bytes v rest e in omega arith;
  within = separator_within;
}

abbrev NextDegen : Bool → List ℕ → Option ℕ → Type 0
NextDegen true = IsNumber ▷ λ n. Done (Some n)
NextDegen false = Done None

abbrev pub degen_may : Option ℕ → List ℕ → Bool
degen_may None more = true
degen_may (Some n) more = cond (begins is_digit more) false true

some_between : (v : ℕ) (w : Option ℕ) (back more : List ℕ) → Done (Some v) back w → degen_may w more ≡ true → no_digit v (back ++ more) ≡ true
some_between v w back more d c =
    let e : degen_may (Some v) more ≡ true = subst (λ (x : Option ℕ). degen_may x more ≡ true) (sym d.same) c in
    subst (λ (x : List ℕ). no_digit v (x ++ more) ≡ true) (sym d.none) e

reads_next_degen : (more : Bool) → Scans degen_may (NextDegen more) (next_degen_in more)
unfolding next_degen_in
reads_next_degen true = reads_then _ no_digit degen_may IsNumber (λ n. Done (Some n)) number_in _ reads_number (λ n. reads_done _ degen_may (Some n)) some_between
reads_next_degen false = reads_done _ degen_may None

abbrev pub IsDegen : List ℕ → ℕ → Type 0
IsDegen = Sign 45 ▷ λ _. IsNumber

to_degen_at : (v : Bool) (front back rs : List ℕ) (w : Option ℕ) → rs ≡ front ++ back → Separator front v → NextDegen v back w → Part (58 ∷ []) IsDegen rs w
to_degen_at true front back rs w e is t =
    subst (Part (58 ∷ []) IsDegen rs) t.second.same
    (record { value = tt; front = front; back = t.front; whole = e ∙ ap (λ (x : List ℕ). front ++ x) (t.whole ∙ (rw t.second.none (append-nil t.front))); first = is; second = t.first })
to_degen_at false front back rs w e is t = subst (Part (58 ∷ []) IsDegen rs) t.same (e ∙ (rw t.none (append-nil front)) ∙ is)

from_degen : (rs : List ℕ) (w : Option ℕ) → Part (58 ∷ []) IsDegen rs w → (Separator ▷ NextDegen) rs w
from_degen rs None is = record { value = false; front = rs; back = []; whole = sym (append-nil rs); first = is; second = record { none = refl; same = refl } }
from_degen rs (Some n) t = record { value = true; front = t.front; back = t.back; whole = t.whole; first = t.first; second = record { value = n; front = t.back; back = []; whole = sym (append-nil t.back); first = t.second; second = record { none = refl; same = refl } } }

pub reads_degen : Scans degen_may (Part (58 ∷ []) IsDegen) degen_in
unfolding degen_in
reads_degen = reads_as _ degen_may _ _ _ (λ rs w t. to_degen_at t.value t.front t.back rs w t.whole t.first t.second) from_degen
    (reads_then _ always degen_may Separator NextDegen separator_in (λ more. next_degen_in more.0 more.1) reads_separator reads_next_degen (λ v w back more is c. refl))

pub degen_shorter : Shorter degen_in
unfolding degen_in
degen_shorter bytes x rest e =
    let b = bind_ok (separator_in bytes) (λ more. next_degen_in more.0 more.1) (Some x, rest) e in
    omega (arith, separator_shorter bytes b.0.0 b.0.1 b.1, (reads_next_degen b.0.0).less b.0.1 (Some x) rest b.2)

-- a minus sign or a colon
abbrev is_separator : ℕ → Bool
is_separator b = eqb b 45 || eqb b 58

minus_separates : (b : ℕ) → eqb b 45 ≡ true → is_separator b ≡ true
minus_separates b e = rw e refl

separator_no_digit : (b : ℕ) → is_separator b ≡ true → is_digit b ≡ false
separator_no_digit b e = elim (which (eqb b 45)) [
  | inl t ↦ rw (eqb-true b 45 t) refl
  | inr n ↦ let f = rw n at e in rw (eqb-true b 58 f) refl
]

degens_start : (back : List ℕ) (xs : List ℕ) → Until (58 ∷ []) IsDegen back xs → Starts is_separator back
degens_start back [] is = record { head = 58; tail = []; whole = is; is = refl }
degens_start back (x ∷ xs) is = starts_append is_separator is.0 is.1 back is.2 (starts_as (λ b. eqb b 45) is_separator minus_separates is.0 (starts_then (λ b. eqb b 45) (Sign 45) (λ _. IsNumber) (starts_sign 45) is.0 x is.3))

degens_between : (x : ℕ) (xs back more : List ℕ) → Until (58 ∷ []) IsDegen back xs → always xs more ≡ true → degen_may (Some x) (back ++ more) ≡ true
degens_between x xs back more is c = not_begins _ (begins_not is_separator is_digit separator_no_digit back more (degens_start back xs is))

abbrev MoreDegens : ℕ → List ℕ → List ℕ → Type 0
MoreDegens n = Until (58 ∷ []) IsDegen ▷ λ more. Done (n ∷ more)

reads_more_degens : (n : ℕ) → Scans (always {A = List ℕ}) (MoreDegens n) (λ bytes. until_at degen_in bytes >>= λ more. Ok (n ∷ more.0, more.1))
reads_more_degens n = reads_then _ always always _ _ (until_at degen_in) _
    (reads_until degen_in degen_shorter (λ bytes. bytes) degen_may always (58 ∷ []) IsDegen reads_degen (λ xs more c. refl) degens_between (λ x xs more c. refl))
    (λ more. reads_done _ always (n ∷ more)) (λ v w back more d c. refl)

reads_degens : Scans (always {A = List ℕ}) IsDegens degens_in
unfolding degens_in
reads_degens = reads_then _ no_digit always IsNumber MoreDegens number_in _ reads_number reads_more_degens
    (λ v w back more t c. not_begins _ (begins_not is_separator is_digit separator_no_digit back more (starts_then is_separator (Until (58 ∷ []) IsDegen) _ degens_start back w t)))

degens_start_digit : (front ws : List ℕ) → IsDegens front ws → Starts is_digit front
degens_start_digit front ws t = starts_then is_digit IsNumber _ number_starts front ws t

pub reads_prefix : Scans (no_digit {A = List ℕ}) IsPrefix prefix_in
unfolding prefix_in
reads_prefix = reads_peek is_digit no_digit IsDegens degens_in [] (reads_before _ always no_digit IsDegens degens_in (λ v more c. refl) reads_degens) degens_start_digit (λ more c. stops (begins is_digit more) c)

-- ---- faces

pub name_starts : (bytes name : List ℕ) → IsName bytes name → Starts is_letter bytes
unfolding is_name
name_starts [] name is = absurd (let e = is.is in cc)
name_starts (b ∷ bytes) name is =
    let p = both_true _ (is_letter b && list_all is_inner bytes) is.is in
    record { head = b; tail = bytes; whole = refl; is = (both_true (is_letter b) (list_all is_inner bytes) p.1).0 }

-- a prefix is nothing, or begins with a digit
pub prefix_starts : (p : ℕ → Bool) → ((b : ℕ) → is_digit b ≡ true → p b ≡ true) → (front back ws : List ℕ) → IsPrefix front ws → Starts p back → Starts p (front ++ back)
prefix_starts p so front back ws (inl d) s = rw d.none s
prefix_starts p so front back ws (inr t) s = starts_append p front back (front ++ back) refl (starts_as is_digit p so front (degens_start_digit front ws t))

letter_range : (b : ℕ) → 48 ≤ b → b ≤ 57 → is_letter b ≡ true → ⊥
letter_range b low high e = grind (arith, nat_tests)

bar_no_digit : (b : ℕ) → eqb b 124 ≡ true → is_digit b ≡ false
bar_no_digit b e = rw (eqb-true b 124 e) refl

pub letter_not_digit : (b : ℕ) → is_letter b ≡ true → is_digit b ≡ false
letter_not_digit b e = elim (which (is_digit b)) [
  | inl t ↦ let d = digit_range b t in absurd (letter_range b d.0 d.1 e)
  | inr f ↦ f
]

face_between : (word : List ℕ) (w : FaceText) (back more : List ℕ) → (IsName ▷ λ name. Done (record { word = word; name = name })) back w → no_inner w more ≡ true → no_digit word (back ++ more) ≡ true
face_between word w back more t c = not_begins _ (begins_not is_letter is_digit letter_not_digit back more (starts_then is_letter IsName _ name_starts back w t))

pub reads_face : Scans (no_inner {A = FaceText}) IsFace face_in
unfolding face_in
reads_face = reads_then _ no_digit no_inner IsPrefix _ prefix_in _ reads_prefix
    (λ word. reads_then _ no_inner no_inner IsName (λ name. Done (record { word = word; name = name })) name_in _ reads_name (λ name. reads_done _ no_inner (record { word = word; name = name })) (done_between no_inner _))
    face_between

-- ---- integers between bars

abbrev pub IsBarred : List ℕ → ℤ → Type 0
IsBarred = IsInteger ▷ λ n. Sign 124 ▷ λ _. Done n

abbrev pub int_may : Option ℤ → List ℕ → Bool
int_may None more = cond (begins is_integer_start more) false true
int_may (Some n) more = true

abbrev SomeBarred : List ℕ → Option ℤ → Type 0
SomeBarred = IsInteger ▷ λ n. Sign 124 ▷ λ _. Done (Some n)

barred_between : (n : ℤ) (w : Option ℤ) (back more : List ℕ) → (Sign 124 ▷ λ _. Done (Some n)) back w → always w more ≡ true → no_digit n (back ++ more) ≡ true
barred_between n w back more t c = not_begins _ (begins_not (λ b. eqb b 124) is_digit bar_no_digit back more (starts_then (λ b. eqb b 124) (Sign 124) _ (starts_sign 124) back w t))

reads_barred : Scans (always {A = Option ℤ}) SomeBarred barred_in
unfolding barred_in
reads_barred = reads_then _ no_digit always IsInteger _ integer_in _ reads_integer
    (λ n. reads_then _ always always (Sign 124) (λ _. Done (Some n)) (sign_in 124) _ (reads_sign 124) (λ _. reads_done _ always (Some n)) (λ v w back more d c. refl))
    barred_between

barred_start : (front : List ℕ) (w : Option ℤ) → SomeBarred front w → Starts is_integer_start front
barred_start front w t = starts_then is_integer_start IsInteger _ integer_starts front w t

barred_some : (rs : List ℕ) (w : Option ℤ) → SomeBarred rs w → Part [] IsBarred rs w
barred_some rs w t =
    let u = t.second in
    subst (Part [] IsBarred rs) u.second.same
    (record { value = t.value; front = t.front; back = t.back; whole = t.whole; first = t.first; second = record { value = tt; front = u.front; back = u.back; whole = u.whole; first = u.first; second = record { none = u.second.none; same = refl } } })

some_barred : (rs : List ℕ) (n : ℤ) → IsBarred rs n → SomeBarred rs (Some n)
some_barred rs n t =
    let u = t.second in
    record { value = t.value; front = t.front; back = t.back; whole = t.whole; first = t.first; second = record { value = tt; front = u.front; back = u.back; whole = u.whole; first = u.first; second = record { none = u.second.none; same = ap Some u.second.same } } }

to_int : (rs : List ℕ) (w : Option ℤ) → (Done None ∣ SomeBarred) rs w → Part [] IsBarred rs w
to_int rs w (inl d) = subst (Part [] IsBarred rs) d.same d.none
to_int rs w (inr t) = barred_some rs w t

from_int : (rs : List ℕ) (w : Option ℤ) → Part [] IsBarred rs w → (Done None ∣ SomeBarred) rs w
from_int rs None e = inl (record { none = e; same = refl })
from_int rs (Some n) t = inr (some_barred rs n t)

int_before : (v : Option ℤ) (more : List ℕ) → int_may v more ≡ true → always v more ≡ true
int_before v more c = refl

reads_peeked : Scans (λ (v : Option ℤ) (more : List ℕ). cond (begins is_integer_start more) false true) (Done None ∣ SomeBarred) int_in
unfolding int_in
reads_peeked = reads_peek is_integer_start (λ v more. cond (begins is_integer_start more) false true) SomeBarred barred_in None (reads_before _ always _ SomeBarred barred_in (λ v more c. refl) reads_barred) barred_start (λ more c. stops _ c)

int_again : (bytes front : List ℕ) (v : Option ℤ) (more : List ℕ) → Part [] IsBarred front v → bytes ≡ front ++ more → int_may v more ≡ true → Again (λ bytes. bytes) int_in bytes v more
unfolding int_in
int_again bytes front None more is e c = reads_peeked.again bytes front None more (inl (record { none = is; same = refl })) e c
int_again bytes front (Some n) more is e c =
    let a = reads_barred.again bytes front (Some n) more (some_barred front n is) e refl in
    let s = barred_start front (Some n) (some_barred front n is) in
    let some_part : begins is_integer_start bytes ≡ true = rw e (begins_so is_integer_start front more s) in
    record { rest = a.rest; gives = rw some_part a.gives; units_are = a.units_are }

pub reads_int : Scans int_may (Part [] IsBarred) int_in
reads_int = record {
  takes = λ bytes v rest e. let t = reads_peeked.takes bytes v rest e in record { front = t.front; is = to_int t.front v t.is; units_are = t.units_are };
  again = int_again;
  less = reads_peeked.less;
  within = reads_peeked.within;
}

barred_shorter : (bytes : List ℕ) (w : Option ℤ) (rest : List ℕ) → barred_in bytes ≡ Ok (w, rest) → length rest < length bytes
unfolding barred_in
barred_shorter bytes w rest e =
    let b = bind_ok (integer_in bytes) (λ n. sign_in 124 n.1 >>= λ bar. Ok (Some n.0, bar.1)) (w, rest) e in
    let d = bind_ok (sign_in 124 b.0.1) (λ bar. Ok (Some b.0.0, bar.1)) (w, rest) b.2 in
    let p = ok_parts (Some b.0.0) w d.0.1 rest d.2 in
    omega (arith, reads_integer.less bytes b.0.0 b.0.1 b.1, sign_shorter 124 b.0.1 d.0.0 d.0.1 d.1, ap length p.1)

none_some : {A : Type 0} (x : A) → None ≡ Some x → ⊥
none_some x e = cc

pub int_shorter : Shorter int_in
unfolding int_in
int_shorter bytes x rest e = elim (which (begins is_integer_start bytes)) [
  | inl t ↦ let f = rw t at e in barred_shorter bytes (Some x) rest f
  | inr n ↦ let f = rw n at e in let p = ok_parts None (Some x) bytes rest f in absurd (none_some x p.0)
]

ints_between : (x : ℤ) (xs : List ℤ) (back more : List ℕ) → Until [] IsBarred back xs → (λ (v : List ℤ) (more : List ℕ). cond (begins is_integer_start more) false true) xs more ≡ true → int_may (Some x) (back ++ more) ≡ true
ints_between x xs back more is c = refl

-- where integers between bars end
abbrev pub no_integer : {A : Type 0} → A → List ℕ → Bool
no_integer v more = cond (begins is_integer_start more) false true

pub reads_ints : Scans (no_integer {A = List ℤ}) (Until [] IsBarred) (until_at int_in)
reads_ints = reads_until int_in int_shorter (λ bytes. bytes) int_may no_integer [] IsBarred reads_int (λ xs more c. c) ints_between (λ x xs more c. c)

-- ---- gaps

blanks_front : (bytes : List ℕ) → (front : List ℕ) × (bytes ≡ front ++ after_blanks bytes) × (list_all is_blank front ≡ true)
unfolding after_blanks
blanks_front [] = ([], refl, refl)
blanks_front (b ∷ bytes) = elim (which (is_blank b)) [
  | inl t ↦ let f = blanks_front bytes in (b ∷ f.0, rw t (ap (λ (x : List ℕ). b ∷ x) f.1), rw (t, f.2) refl)
  | inr n ↦ ([], rw n refl, refl)
]

blanks_again : (front more : List ℕ) → list_all is_blank front ≡ true → begins is_blank more ≡ false → after_blanks (front ++ more) ≡ more
unfolding after_blanks
blanks_again [] [] all stop = refl
blanks_again [] (b ∷ more) all stop = rw stop refl
blanks_again (b ∷ front) more all stop = let p = both_true (is_blank b) (list_all is_blank front) all in rw p.0 (blanks_again front more p.1 stop)

gap_takes : (bytes : List ℕ) (v : Unit {0}) (rest : List ℕ) → gap_in bytes ≡ Ok (v, rest) → Taken (λ bytes. bytes) IsGap bytes v rest
unfolding gap_in
gap_takes [] v rest e = absurd cc
gap_takes (b ∷ bytes) v rest e = elim (which (is_blank b)) [
  | inl t ↦
      let f = rw t at e in
      let p = ok_parts tt v (after_blanks bytes) rest f in
      let g = blanks_front bytes in
      record { front = b ∷ g.0; is = blanks b g.0 refl t g.2; units_are = ap (λ (x : List ℕ). b ∷ x) (g.1 ∙ ap (λ (x : List ℕ). g.0 ++ x) p.1) }
  | inr n ↦ absurd (let f = rw n at e in cc)
]

gap_within : (bytes : List ℕ) (left : ℕ) → gap_in bytes ≡ Err left → left ≤ length bytes
unfolding gap_in
gap_within [] left e = let same : 0 ≡ left = cc in omega arith
gap_within (b ∷ bytes) left e = elim (which (is_blank b)) [
  | inl t ↦ absurd (let f = rw t at e in cc)
  | inr n ↦ let f = rw n at e in let same : length (b ∷ bytes) ≡ left = cc in omega arith
]

abbrev pub no_blank : {A : Type 0} → A → List ℕ → Bool
no_blank v more = cond (begins is_blank more) false true

gap_again : (bytes front : List ℕ) (v : Unit {0}) (more : List ℕ) → IsGap front v → bytes ≡ front ++ more → no_blank v more ≡ true → Again (λ bytes. bytes) gap_in bytes v more
unfolding gap_in
gap_again bytes front v more (blanks b tail e first all) whole c =
    let same : bytes ≡ b ∷ (tail ++ more) = whole ∙ ap (λ (x : List ℕ). x ++ more) e in
    record { rest = more; gives = rw same (rw first (rw (blanks_again tail more all (stops _ c)) refl)); units_are = refl }

pub gap_shorter : (bytes : List ℕ) (v : Unit {0}) (rest : List ℕ) → gap_in bytes ≡ Ok (v, rest) → length rest < length bytes
gap_shorter bytes v rest e =
    let t = gap_takes bytes v rest e in
    elim t.is [ blanks b tail w first all ↦ omega (arith, ap length t.units_are, length-append t.front rest, ap length w) ]

pub reads_gap : Scans (no_blank {A = Unit {0}}) IsGap gap_in
reads_gap = record {
  takes = gap_takes;
  again = gap_again;
  less = λ bytes v rest e. let s = gap_shorter bytes v rest e in omega arith;
  within = gap_within;
}
