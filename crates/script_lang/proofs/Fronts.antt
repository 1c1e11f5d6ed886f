-- Numbers and names at the front of a run.
use Rattle.std.proofs.Common.{◌≡◌, ℕ, zero, suc, ◌+◌, ◌<◌, ◌≤◌, min, Bool, true, false, cond, eqb, ltb, ◌&&◌, List, [], ◌∷◌, ◌++◌, length, take, drop, refl, sym, ap, subst, ◌∙◌, arith, inl, inr}
use Rattle.std.proofs.lemmas.Bool.{eqb-true, eqb-false, ne_eqb}
use Rattle.std.proofs.lemmas.Bool.Decides.{nat_tests}
use borrow.Author.Tests.{ltb-true}
use Rattle.std.proofs.Math.Seq.{take-append_seam, drop-append_seam}
use Rattle.std.proofs.lemmas.List.{length-take, length-append, take-append-drop}
use Rattle.std.specs.List.{prefix_len, list_all}
use Rattle.script_lang.specs.Bytes.{is_digit, is_letter, is_inner, is_name, is_numeral, value_from, IsName, IsNumber}
use Rattle.script_lang.specs.Scans.{begins, number_len, name_len, number_in, name_in}
use Rattle.script_lang.proofs.Combine.{which, ok_parts, Reads}
use Rattle.script_lang.proofs.Values.{both_true}

-- ---- bytes of one kind

take_all_pass : (p : ℕ → Bool) (k : ℕ) (bytes : List ℕ) → k ≤ prefix_len p bytes → list_all p (take k bytes) ≡ true
take_all_pass p zero bytes le = refl
take_all_pass p (suc k) [] le = absurd (omega arith)
take_all_pass p (suc k) (b ∷ bytes) le = elim (which (p b)) [
  | inl t ↦ let f : prefix_len p (b ∷ bytes) ≡ 1 + prefix_len p bytes = rw t refl in rw t (take_all_pass p k bytes (omega arith))
  | inr n ↦ let f : prefix_len p (b ∷ bytes) ≡ 0 = rw n refl in absurd (omega arith)
]

prefix_len_append : (p : ℕ → Bool) (front more : List ℕ) → list_all p front ≡ true → begins p more ≡ false → prefix_len p (front ++ more) ≡ length front
prefix_len_append p [] [] all stop = refl
prefix_len_append p [] (b ∷ more) all stop = rw stop refl
prefix_len_append p (b ∷ front) more all stop =
    let a = both_true (p b) (list_all p front) all in
    let r = prefix_len_append p front more a.1 stop in
    rw a.0 (omega (arith, r))

-- ---- names

pub name_short : (bytes : List ℕ) → name_len bytes ≤ 16
unfolding name_len
name_short [] = omega arith
name_short (b ∷ bytes) = elim (which (is_letter b)) [ inl t ↦ rw t (omega arith) | inr n ↦ rw n (omega arith) ]

name_front : (bytes : List ℕ) → 0 < name_len bytes → is_name (take (name_len bytes) bytes) ≡ true
unfolding name_len is_name
name_front [] lt = absurd (omega arith)
name_front (b ∷ bytes) lt = elim (which (is_letter b)) [
  | inl t ↦
      let few : ltb (length (take (min (prefix_len is_inner bytes) 15) bytes)) 16 ≡ true =
      rw (length-take (min (prefix_len is_inner bytes) 15) bytes) (grind (arith, nat_tests)) in
      let all = take_all_pass is_inner (min (prefix_len is_inner bytes) 15) bytes (omega arith) in
      rw t (rw (few, t, all) refl)
  | inr n ↦ let none : name_len (b ∷ bytes) ≡ 0 = rw n refl in absurd (omega arith)
]

name_again : (front more : List ℕ) → is_name front ≡ true → begins is_inner more ≡ false → name_len (front ++ more) ≡ length front
unfolding name_len is_name
name_again [] more is stop = absurd cc
name_again (b ∷ front) more is stop =
    let p = both_true (ltb (length front) 16) (is_letter b && list_all is_inner front) is in
    let q = both_true (is_letter b) (list_all is_inner front) p.1 in
    let len = prefix_len_append is_inner front more q.1 stop in
    let few = ltb-true (length front) 16 p.0 in
    rw q.0 (omega (arith, len, few))

name_some : (front : List ℕ) → is_name front ≡ true → 0 < length front
unfolding is_name
name_some [] is = absurd cc
name_some (b ∷ front) is = omega arith

abbrev pub no_inner : {A : Type 0} → A → List ℕ → Bool
no_inner v more = cond (begins is_inner more) false true

pub stops : (b : Bool) → cond b false true ≡ true → b ≡ false
stops true e = absurd cc
stops false e = refl

pub reads_name : Reads (λ bytes. bytes) (no_inner {A = List ℕ}) IsName name_in
unfolding name_in
reads_name = record {
  takes = λ bytes v rest e. elim (which (eqb (name_len bytes) 0)) [
    | inl z ↦ absurd (let f = rw z at e in cc)
    | inr z ↦
        let f = rw z at e in
        let p = ok_parts (take (name_len bytes) bytes) v (drop (name_len bytes) bytes) rest f in
        let n = eqb-false (name_len bytes) 0 z in
        record {
          front = take (name_len bytes) bytes;
          is = record { is = name_front bytes (omega arith); same = p.0 };
          units_are = sym (take-append-drop (name_len bytes) bytes) ∙ ap (λ (t : List ℕ). take (name_len bytes) bytes ++ t) p.1;
        }
  ];
  again = λ bytes front v more is e m.
      let len : name_len bytes ≡ length front = ap name_len e ∙ name_again front more is.is (stops (begins is_inner more) m) in
      let some = name_some front is.is in
      let z : eqb (name_len bytes) 0 ≡ false = ne_eqb (name_len bytes) 0 (λ w. omega arith) in
      let head : take (name_len bytes) bytes ≡ v = rw (len, e) (take-append_seam front more) ∙ is.same in
      let tail : drop (name_len bytes) bytes ≡ more = rw (len, e) (drop-append_seam front more) in
      record { rest = more; gives = rw z (rw (head, tail) refl); units_are = refl };
  less = λ bytes v rest e. elim (which (eqb (name_len bytes) 0)) [
    | inl z ↦ absurd (let f = rw z at e in cc)
    | inr z ↦
        let f = rw z at e in
        let p = ok_parts (take (name_len bytes) bytes) v (drop (name_len bytes) bytes) rest f in
        omega (arith, ap length p.1, ap length (take-append-drop (name_len bytes) bytes), length-append (take (name_len bytes) bytes) (drop (name_len bytes) bytes))
  ];
  within = λ bytes left e. elim (which (eqb (name_len bytes) 0)) [
    | inl z ↦ let f = rw z at e in let same : length bytes ≡ left = cc in omega arith
    | inr z ↦ absurd (let f = rw z at e in cc)
  ];
}

-- ---- numbers

pub number_front : (bytes : List ℕ) → 0 < number_len bytes → is_numeral (take (number_len bytes) bytes) ≡ true
unfolding number_len is_numeral
number_front [] lt = absurd (omega arith)
number_front (b ∷ bytes) lt = elim (which (eqb b 48)) [
  | inl t ↦ rw t (rw t refl)
  | inr n ↦ elim (which (is_digit b)) [
    | inl d ↦
        let len : number_len (b ∷ bytes) ≡ suc (min (prefix_len is_digit bytes) 17) = rw n (rw d (omega arith)) in
        let few : ltb (length (take (min (prefix_len is_digit bytes) 17) bytes)) 18 ≡ true =
        rw (length-take (min (prefix_len is_digit bytes) 17) bytes) (grind (arith, nat_tests)) in
        let all = take_all_pass is_digit (min (prefix_len is_digit bytes) 17) bytes (omega arith) in
        let one : is_numeral (b ∷ take (min (prefix_len is_digit bytes) 17) bytes) ≡ true = rw n (rw (few, d, all) refl) in
        subst (λ (k : ℕ). is_numeral (take k (b ∷ bytes)) ≡ true) (sym len) one
    | inr d ↦ let none : number_len (b ∷ bytes) ≡ 0 = rw n (rw d (omega arith)) in absurd (omega arith)
  ]
]

number_again : (front more : List ℕ) → is_numeral front ≡ true → begins is_digit more ≡ false → number_len (front ++ more) ≡ length front
unfolding number_len is_numeral
number_again [] more is stop = absurd cc
number_again (b ∷ front) more is stop = elim (which (eqb b 48)) [
  | inl z ↦
      let none : length front ≡ 0 = eqb-true (length front) 0 (rw z at is) in
      rw z (omega arith)
  | inr n ↦
      let f = rw n at is in
      let p = both_true (ltb (length front) 18) (is_digit b && list_all is_digit front) f in
      let q = both_true (is_digit b) (list_all is_digit front) p.1 in
      let len = prefix_len_append is_digit front more q.1 stop in
      let few = ltb-true (length front) 18 p.0 in
      rw n (rw q.0 (omega (arith, len, few)))
]

number_some : (front : List ℕ) → is_numeral front ≡ true → 0 < length front
unfolding is_numeral
number_some [] is = absurd cc
number_some (b ∷ front) is = omega arith

abbrev pub no_digit : {A : Type 0} → A → List ℕ → Bool
no_digit v more = cond (begins is_digit more) false true

pub reads_number : Reads (λ bytes. bytes) (no_digit {A = ℕ}) IsNumber number_in
unfolding number_in
reads_number = record {
  takes = λ bytes v rest e. elim (which (eqb (number_len bytes) 0)) [
    | inl z ↦ absurd (let f = rw z at e in cc)
    | inr z ↦
        let f = rw z at e in
        let p = ok_parts (value_from 0 (take (number_len bytes) bytes)) v (drop (number_len bytes) bytes) rest f in
        let n = eqb-false (number_len bytes) 0 z in
        record {
          front = take (number_len bytes) bytes;
          is = record { digits = number_front bytes (omega arith); value = p.0 };
          units_are = sym (take-append-drop (number_len bytes) bytes) ∙ ap (λ (t : List ℕ). take (number_len bytes) bytes ++ t) p.1;
        }
  ];
  again = λ bytes front v more is e m.
      let len : number_len bytes ≡ length front = ap number_len e ∙ number_again front more is.digits (stops (begins is_digit more) m) in
      let some = number_some front is.digits in
      let z : eqb (number_len bytes) 0 ≡ false = ne_eqb (number_len bytes) 0 (λ w. omega arith) in
      let head : take (number_len bytes) bytes ≡ front = rw (len, e) (take-append_seam front more) in
      let tail : drop (number_len bytes) bytes ≡ more = rw (len, e) (drop-append_seam front more) in
      record { rest = more; gives = rw z (rw (head, tail, is.value) refl); units_are = refl };
  less = λ bytes v rest e. elim (which (eqb (number_len bytes) 0)) [
    | inl z ↦ absurd (let f = rw z at e in cc)
    | inr z ↦
        let f = rw z at e in
        let p = ok_parts (value_from 0 (take (number_len bytes) bytes)) v (drop (number_len bytes) bytes) rest f in
        omega (arith, ap length p.1, ap length (take-append-drop (number_len bytes) bytes), length-append (take (number_len bytes) bytes) (drop (number_len bytes) bytes))
  ];
  within = λ bytes left e. elim (which (eqb (number_len bytes) 0)) [
    | inl z ↦ let f = rw z at e in let same : length bytes ≡ left = cc in omega arith
    | inr z ↦ absurd (let f = rw z at e in cc)
  ];
}
