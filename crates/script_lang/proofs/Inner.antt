-- What reads signs, integers, degeneracies and faces within a run.
use Rattle.std.proofs.Common.{◌≡◌, ℕ, zero, suc, ◌+◌, ◌-◌, ◌*◌, ◌<◌, ◌≤◌, Bool, true, false, cond, eqb, ltb, ◌&&◌, ◌||◌, List, [], ◌∷◌, ◌++◌, length, Ok, Err, refl, sym, ap, subst, ◌∙◌, arith, inl, inr}
use Rattle.std.proofs.lemmas.Bool.{eqb-true, eqb-false, eq-eqb, ne_eqb}
use Rattle.std.proofs.lemmas.List.{append-nil, length-append}
use Rattle.std.specs.Prelude.{ℤ, pos, negsuc}
use Rattle.std.specs.List.{list_all}
use Rattle.std.proofs.Math.IntN.{neg_ℤ}
use Rattle.script_lang.specs.Phrases.{Done, Sign, ◌▷◌, ◌∣◌}
use Rattle.script_lang.specs.Bytes.{is_digit, is_numeral, value_from, IsNumber, IsInteger}
use Rattle.script_lang.specs.Readings.{Reading, ◌>>=◌}
use Rattle.script_lang.specs.Scans.{begins, number_in, sign_in, may_in, negative_in, signed_in, integer_in}
use Rattle.script_lang.proofs.Values.{both_true, digit_range}
use Rattle.script_lang.proofs.Combine.{which, ok_parts, bind_ok, Again, Reads, always, reads_done, reads_then, reads_as}
use Rattle.script_lang.proofs.Fronts.{stops, no_digit, reads_number}

abbrev pub whole_line : List ℕ → List ℕ
whole_line bytes = bytes

abbrev pub Scans : {A : Type 0} → (A → List ℕ → Bool) → (List ℕ → A → Type 0) → (List ℕ → Reading A) → Type 0
Scans may L read = Reads (λ bytes. bytes) may L read

-- ---- what bytes begin with

pub record Starts (p : ℕ → Bool) (bytes : List ℕ) : Type 0 where
  pub head : ℕ
  pub tail : List ℕ
  pub whole : bytes ≡ head ∷ tail
  pub is : p head ≡ true

pub starts_append : (p : ℕ → Bool) (front back bytes : List ℕ) → bytes ≡ front ++ back → Starts p front → Starts p bytes
starts_append p front back bytes e s = record { head = s.head; tail = s.tail ++ back; whole = e ∙ ap (λ (t : List ℕ). t ++ back) s.whole; is = s.is }

pub starts_then : {A B : Type 0} (p : ℕ → Bool) (L : List ℕ → A → Type 0) (M : A → List ℕ → B → Type 0) → ((front : List ℕ) (v : A) → L front v → Starts p front) → (bytes : List ℕ) (w : B) → (L ▷ M) bytes w → Starts p bytes
starts_then p L M first bytes w t = starts_append p t.front t.back bytes t.whole (first t.front t.value t.first)

pub begins_not : (p q : ℕ → Bool) → ((b : ℕ) → p b ≡ true → q b ≡ false) → (bytes more : List ℕ) → Starts p bytes → begins q (bytes ++ more) ≡ false
begins_not p q so bytes more s = subst (λ (t : List ℕ). begins q (t ++ more) ≡ false) (sym s.whole) (so s.head s.is)

pub begins_so : (p : ℕ → Bool) (bytes more : List ℕ) → Starts p bytes → begins p (bytes ++ more) ≡ true
begins_so p bytes more s = subst (λ (t : List ℕ). begins p (t ++ more) ≡ true) (sym s.whole) s.is

pub starts_as : (p q : ℕ → Bool) → ((b : ℕ) → p b ≡ true → q b ≡ true) → (bytes : List ℕ) → Starts p bytes → Starts q bytes
starts_as p q so bytes s = record { head = s.head; tail = s.tail; whole = s.whole; is = so s.head s.is }

pub eqb_same : (b : ℕ) → eqb b b ≡ true
eqb_same b = eq-eqb b b refl

pub starts_sign : (u : ℕ) (front : List ℕ) (v : Unit {0}) → Sign u front v → Starts (λ b. eqb b u) front
starts_sign u front v e = record { head = u; tail = []; whole = e; is = eqb_same u }

pub not_begins : (b : Bool) → b ≡ false → cond b false true ≡ true
not_begins b e = rw e refl

-- ---- signs

sign_takes : (u : ℕ) (bytes : List ℕ) (v : Unit {0}) (rest : List ℕ) → sign_in u bytes ≡ Ok (v, rest) → bytes ≡ u ∷ rest
unfolding sign_in
sign_takes u [] v rest e = absurd cc
sign_takes u (c ∷ bytes) v rest e = elim (which (eqb c u)) [
  | inl t ↦ let f = rw t at e in let p = ok_parts tt v bytes rest f in rw (eqb-true c u t, p.1) refl
  | inr n ↦ absurd (let f = rw n at e in cc)
]

sign_again : (u : ℕ) (more : List ℕ) → sign_in u (u ∷ more) ≡ Ok (tt, more)
unfolding sign_in
sign_again u more = rw (eqb_same u) refl

sign_within : (u : ℕ) (bytes : List ℕ) (left : ℕ) → sign_in u bytes ≡ Err left → left ≤ length bytes
unfolding sign_in
sign_within u [] left e = let same : 0 ≡ left = cc in omega arith
sign_within u (c ∷ bytes) left e = elim (which (eqb c u)) [
  | inl t ↦ absurd (let f = rw t at e in cc)
  | inr n ↦ let f = rw n at e in let same : length (c ∷ bytes) ≡ left = cc in omega arith
]

pub reads_sign : (u : ℕ) → Scans always (Sign u) (sign_in u)
reads_sign u = record {
  takes = λ bytes v rest e. record { front = u ∷ []; is = refl; units_are = sign_takes u bytes v rest e };
  again = λ bytes front v more is e m. record { rest = more; gives = rw (e, is) (sign_again u more); units_are = refl };
  less = λ bytes v rest e. omega (arith, ap length (sign_takes u bytes v rest e));
  within = sign_within u;
}

pub sign_shorter : (u : ℕ) (bytes : List ℕ) (v : Unit {0}) (rest : List ℕ) → sign_in u bytes ≡ Ok (v, rest) → length rest < length bytes
sign_shorter u bytes v rest e = omega (arith, ap length (sign_takes u bytes v rest e))

-- a sign or nothing
abbrev pub Perhaps : ℕ → List ℕ → Bool → Type 0
Perhaps u bytes true = bytes ≡ u ∷ []
Perhaps u bytes false = bytes ≡ []

abbrev pub perhaps_may : ℕ → Bool → List ℕ → Bool
perhaps_may u true more = true
perhaps_may u false more = cond (begins (λ b. eqb b u) more) false true

pub may_takes : (u : ℕ) (bytes : List ℕ) (m : Bool) (rest : List ℕ) → may_in u bytes ≡ Ok (m, rest) → (front : List ℕ) × Perhaps u front m × (bytes ≡ front ++ rest)
unfolding may_in
may_takes u [] m rest e = let p = ok_parts false m [] rest e in ([], subst (Perhaps u []) p.0 refl, p.1)
may_takes u (c ∷ bytes) m rest e = elim (which (eqb c u)) [
  | inl t ↦
      let f = rw t at e in
      let p = ok_parts true m bytes rest f in
      (u ∷ [], subst (Perhaps u (u ∷ [])) p.0 refl, rw (eqb-true c u t, p.1) refl)
  | inr n ↦
      let f = rw n at e in
      let p = ok_parts false m (c ∷ bytes) rest f in
      ([], subst (Perhaps u []) p.0 refl, p.1)
]

may_again : (u : ℕ) (m : Bool) (front more : List ℕ) → Perhaps u front m → perhaps_may u m more ≡ true → may_in u (front ++ more) ≡ Ok (m, more)
unfolding may_in
may_again u true front more is can = rw is (rw (eqb_same u) refl)
may_again u false front [] is can = rw is refl
may_again u false front (b ∷ more) is can = rw is (rw (stops (eqb b u) can) refl)

may_no_err : (u : ℕ) (bytes : List ℕ) (left : ℕ) → may_in u bytes ≡ Err left → left ≤ length bytes
unfolding may_in
may_no_err u [] left e = absurd cc
may_no_err u (c ∷ bytes) left e = elim (which (eqb c u)) [ inl t ↦ absurd (let f = rw t at e in cc) | inr n ↦ absurd (let f = rw n at e in cc) ]

reads_may : (u : ℕ) → Scans (perhaps_may u) (Perhaps u) (may_in u)
reads_may u = record {
  takes = λ bytes m rest e. let t = may_takes u bytes m rest e in record { front = t.0; is = t.1; units_are = t.2 };
  again = λ bytes front m more is e can. record { rest = more; gives = rw e (may_again u m front more is can); units_are = refl };
  less = λ bytes m rest e. let t = may_takes u bytes m rest e in omega (arith, ap length t.2, length-append t.0 rest);
  within = may_no_err u;
}

module _ {A : Type 0} (can : A → List ℕ → Bool) (u : ℕ) (M : Bool → List ℕ → A → Type 0) where
  to_either : (m : Bool) (front back rs : List ℕ) (v : A) → rs ≡ front ++ back → Perhaps u front m → M m back v → ((Sign u ▷ λ _. M true) ∣ M false) rs v
  to_either true front back rs v e is two = inl (record { value = tt; front = front; back = back; whole = e; first = is; second = two })
  to_either false front back rs v e is two = inr (subst (λ (t : List ℕ). M false t v) (sym (e ∙ rw is refl)) two)

  from_either : (rs : List ℕ) (v : A) → ((Sign u ▷ λ _. M true) ∣ M false) rs v → (Perhaps u ▷ M) rs v
  from_either rs v (inl t) = record { value = true; front = t.front; back = t.back; whole = t.whole; first = t.first; second = t.second }
  from_either rs v (inr n) = record { value = false; front = []; back = rs; whole = refl; first = refl; second = n }

  between_either : ((v : A) (back more : List ℕ) → M false back v → can v more ≡ true → begins (λ b. eqb b u) (back ++ more) ≡ false) → (m : Bool) (v : A) (back more : List ℕ) → M m back v → can v more ≡ true → perhaps_may u m (back ++ more) ≡ true
  between_either apart true v back more is c = refl
  between_either apart false v back more is c = not_begins _ (apart v back more is c)

  both : (k : Bool → List ℕ → Reading A) → Scans can (M true) (k true) → Scans can (M false) (k false) → (m : Bool) → Scans can (M m) (k m)
  both k yes_reads no_reads true = yes_reads
  both k yes_reads no_reads false = no_reads

  -- a phrase with a sign before it that may be there
  pub reads_perhaps : (k : Bool → List ℕ → Reading A) → Scans can (M true) (k true) → Scans can (M false) (k false) → ((v : A) (back more : List ℕ) → M false back v → can v more ≡ true → begins (λ b. eqb b u) (back ++ more) ≡ false) → Scans can ((Sign u ▷ λ _. M true) ∣ M false) (λ bytes. may_in u bytes >>= λ m. k m.0 m.1)
  reads_perhaps k yes_reads no_reads apart = reads_as _ can (Perhaps u ▷ M) _ _ (λ rs v t. to_either t.value t.front t.back rs v t.whole t.first t.second) from_either
      (reads_then _ (perhaps_may u) can (Perhaps u) M (may_in u) (λ m. k m.0 m.1) (reads_may u) (both k yes_reads no_reads) (between_either apart))

-- ---- what is read where a byte of one kind comes

module _ {A : Type 0} (p : ℕ → Bool) (can : A → List ℕ → Bool) (L : List ℕ → A → Type 0) (read : List ℕ → Reading A) (v0 : A) (one : Scans can L read) (start : (front : List ℕ) (v : A) → L front v → Starts p front) (last : (more : List ℕ) → can v0 more ≡ true → begins p more ≡ false) where
  peek_again : (bytes front : List ℕ) (v : A) (more : List ℕ) → (Done v0 ∣ L) front v → bytes ≡ front ++ more → can v more ≡ true → Again (λ bytes. bytes) (λ bytes. cond (begins p bytes) (read bytes) (Ok (v0, bytes))) bytes v more
  peek_again bytes front v more (inl d) e m =
      let f : bytes ≡ more = e ∙ rw d.none refl in
      let no_part : begins p bytes ≡ false = rw f (last more (subst (λ (w : A). can w more ≡ true) (sym d.same) m)) in
      record { rest = more; gives = rw no_part (rw (f, d.same) refl); units_are = refl }
  peek_again bytes front v more (inr is) e m =
      let a = one.again bytes front v more is e m in
      let some_part : begins p bytes ≡ true = rw e (begins_so p front more (start front v is)) in
      record { rest = a.rest; gives = rw some_part a.gives; units_are = a.units_are }

  pub reads_peek : Scans can (Done v0 ∣ L) (λ bytes. cond (begins p bytes) (read bytes) (Ok (v0, bytes)))
  reads_peek = record {
    takes = λ bytes v rest e. elim (which (begins p bytes)) [
      | inl t ↦ let f = rw t at e in let x = one.takes bytes v rest f in record { front = x.front; is = inr x.is; units_are = x.units_are }
      | inr n ↦ let f = rw n at e in let q = ok_parts v0 v bytes rest f in record { front = []; is = inl (record { none = refl; same = q.0 }); units_are = q.1 }
    ];
    again = peek_again;
    less = λ bytes v rest e. elim (which (begins p bytes)) [
      | inl t ↦ let f = rw t at e in one.less bytes v rest f
      | inr n ↦ let f = rw n at e in let q = ok_parts v0 v bytes rest f in omega (arith, ap length q.1)
    ];
    within = λ bytes left e. elim (which (begins p bytes)) [
      | inl t ↦ let f = rw t at e in one.within bytes left f
      | inr n ↦ absurd (let f = rw n at e in cc)
    ];
  }

-- ---- integers

number_starts_at : (bytes : List ℕ) → is_numeral bytes ≡ true → Starts is_digit bytes
unfolding is_numeral
number_starts_at [] e = absurd cc
number_starts_at (b ∷ bytes) e = elim (which (eqb b 48)) [
  | inl t ↦ record { head = b; tail = bytes; whole = refl; is = rw (eqb-true b 48 t) refl }
  | inr n ↦ let f = rw n at e in let q = (both_true (ltb (length bytes) 18) (is_digit b && list_all is_digit bytes) f).1 in record { head = b; tail = bytes; whole = refl; is = (both_true (is_digit b) (list_all is_digit bytes) q).0 }
]

pub number_starts : (bytes : List ℕ) (n : ℕ) → IsNumber bytes n → Starts is_digit bytes
number_starts bytes n is = number_starts_at bytes is.digits

value_above : (n : ℕ) (bytes : List ℕ) → n ≤ value_from n bytes
unfolding value_from
value_above n [] = omega arith
value_above n (b ∷ bytes) = omega (arith, value_above (10 * n + (b - 48)) bytes)

not_zero : (bytes : List ℕ) (n : ℕ) → IsNumber bytes n → begins (λ b. eqb b 48) bytes ≡ false → 0 < n
unfolding value_from is_numeral
not_zero [] n is no_zero = absurd (let d = is.digits in cc)
not_zero (b ∷ bytes) n is no_zero =
    let s = number_starts (b ∷ bytes) n is in
    let same : s.head ≡ b = (let w = s.whole in cc) in
    let d = digit_range b (subst (λ (x : ℕ). is_digit x ≡ true) same s.is) in
    let ne = eqb-false b 48 no_zero in
    let v = is.value in
    let le = value_above (10 * 0 + (b - 48)) bytes in
    omega arith

zero_at : (bytes : List ℕ) (n : ℕ) → IsNumber (48 ∷ bytes) n → n ≡ 0
unfolding value_from is_numeral
zero_at [] n is = sym is.value
zero_at (b ∷ bytes) n is = absurd (let d = is.digits in let f : length (b ∷ bytes) ≡ 0 = eqb-true (length (b ∷ bytes)) 0 d in omega arith)

begins_zero : (bytes : List ℕ) (n : ℕ) → IsNumber bytes (suc n) → begins (λ b. eqb b 48) bytes ≡ false
begins_zero [] n is = refl
begins_zero (b ∷ bytes) n is = elim (which (eqb b 48)) [
  | inl t ↦ absurd (let z : suc n ≡ 0 = zero_at bytes (suc n) (subst (λ (x : ℕ). IsNumber (x ∷ bytes) (suc n)) (eqb-true b 48 t) is) in omega arith)
  | inr f ↦ f
]

begins_more : (p : ℕ → Bool) (bytes more : List ℕ) → 0 < length bytes → begins p (bytes ++ more) ≡ begins p bytes
begins_more p [] more lt = absurd (omega arith)
begins_more p (b ∷ bytes) more lt = refl

starts_some : (p : ℕ → Bool) (bytes : List ℕ) → Starts p bytes → 0 < length bytes
starts_some p bytes s = omega (arith, ap length s.whole)

-- a number that is not 0, for its negative
pub record IsNegative (bytes : List ℕ) (z : ℤ) : Type 0 where
  pub n : ℕ
  pub number : IsNumber bytes (suc n)
  pub same : negsuc n ≡ z

negative_is : (front : List ℕ) (n : ℕ) (z : ℤ) → IsNumber front n → 0 < n → neg_ℤ (pos n) ≡ z → IsNegative front z
negative_is front zero z is lt e = absurd (omega arith)
negative_is front (suc n) z is lt e = record { n = n; number = is; same = e }

abbrev negate : ℕ × List ℕ → Reading ℤ
negate n = Ok (neg_ℤ (pos n.0), n.1)

reads_negative : Scans (no_digit {A = ℤ}) IsNegative negative_in
unfolding negative_in
reads_negative = record {
  takes = λ bytes z rest e. elim (which (begins (λ b. eqb b 48) bytes)) [
    | inl t ↦ absurd (let f = rw t at e in cc)
    | inr n ↦
        let f = rw n at e in
        let b = bind_ok (number_in bytes) negate (z, rest) f in
        let t = reads_number.takes bytes b.0.0 b.0.1 b.1 in
        let p = ok_parts (neg_ℤ (pos b.0.0)) z b.0.1 rest b.2 in
        let some = starts_some is_digit t.front (number_starts t.front b.0.0 t.is) in
        let no_zero : begins (λ b. eqb b 48) t.front ≡ false = sym (begins_more (λ b. eqb b 48) t.front b.0.1 some) ∙ ap (begins (λ b. eqb b 48)) (sym t.units_are) ∙ n in
        record { front = t.front; is = negative_is t.front b.0.0 z t.is (not_zero t.front b.0.0 t.is no_zero) p.0; units_are = t.units_are ∙ ap (λ (x : List ℕ). t.front ++ x) p.1 }
  ];
  again = λ bytes front z more is e m.
      let a = reads_number.again bytes front (suc is.n) more is.number e m in
      let some = starts_some is_digit front (number_starts front (suc is.n) is.number) in
      let no_zero : begins (λ b. eqb b 48) bytes ≡ false = rw e (begins_more (λ b. eqb b 48) front more some ∙ begins_zero front is.n is.number) in
      record { rest = a.rest; gives = rw no_zero (rw a.gives (rw is.same refl)); units_are = a.units_are };
  less = λ bytes z rest e. elim (which (begins (λ b. eqb b 48) bytes)) [
    | inl t ↦ absurd (let f = rw t at e in cc)
    | inr n ↦
        let f = rw n at e in
        let b = bind_ok (number_in bytes) negate (z, rest) f in
        let p = ok_parts (neg_ℤ (pos b.0.0)) z b.0.1 rest b.2 in
        omega (arith, reads_number.less bytes b.0.0 b.0.1 b.1, ap length p.1)
  ];
  within = λ bytes left e. elim (which (begins (λ b. eqb b 48) bytes)) [
    | inl t ↦ let f = rw t at e in let same : length bytes ≡ left = cc in omega arith
    | inr n ↦
        let f = rw n at e in
        (reads_then (λ (x : List ℕ). x) no_digit no_digit IsNumber (λ n. Done (neg_ℤ (pos n))) number_in negate reads_number (λ n. reads_done _ no_digit (neg_ℤ (pos n))) (λ v w back more d c. subst (λ (x : List ℕ). no_digit v (x ++ more) ≡ true) (sym d.none) c)).within bytes left f
  ];
}

abbrev Signed : Bool → List ℕ → ℤ → Type 0
Signed true = IsNegative
Signed false = IsNumber ▷ λ n. Done (pos n)

digit_not_minus : (b : ℕ) → is_digit b ≡ true → eqb b 45 ≡ false
digit_not_minus b e = let d = digit_range b e in ne_eqb b 45 (λ w. omega arith)

reads_plain : Scans (no_digit {A = ℤ}) (Signed false) (signed_in false)
unfolding signed_in
reads_plain = reads_then _ no_digit no_digit IsNumber (λ n. Done (pos n)) number_in _ reads_number (λ n. reads_done _ no_digit (pos n)) (λ v w back more d c. subst (λ (x : List ℕ). no_digit v (x ++ more) ≡ true) (sym d.none) c)

reads_minus : Scans (no_digit {A = ℤ}) (Signed true) (signed_in true)
unfolding signed_in
reads_minus = reads_negative

to_integer : (bytes : List ℕ) (z : ℤ) → ((Sign 45 ▷ λ _. Signed true) ∣ Signed false) bytes z → IsInteger bytes z
to_integer bytes z (inl t) = subst (IsInteger bytes) t.second.same (t.back, t.whole ∙ rw t.first refl, t.second.number)
to_integer bytes z (inr t) = subst (IsInteger bytes) t.second.same (subst (λ (x : List ℕ). IsNumber x t.value) (sym (t.whole ∙ (rw t.second.none (append-nil t.front)))) t.first)

from_integer : (bytes : List ℕ) (z : ℤ) → IsInteger bytes z → ((Sign 45 ▷ λ _. Signed true) ∣ Signed false) bytes z
from_integer bytes (pos n) is = inr (record { value = n; front = bytes; back = []; whole = sym (append-nil bytes); first = is; second = record { none = refl; same = refl } })
from_integer bytes (negsuc n) is = inl (record { value = tt; front = 45 ∷ []; back = is.0; whole = is.1; first = refl; second = record { n = n; number = is.2; same = refl } })

pub reads_integer : Scans (no_digit {A = ℤ}) IsInteger integer_in
unfolding integer_in
reads_integer = reads_as _ no_digit _ IsInteger _ to_integer from_integer
    (reads_perhaps no_digit 45 Signed signed_in reads_minus reads_plain (λ v back more t c. begins_not is_digit (λ b. eqb b 45) digit_not_minus back more (starts_then is_digit IsNumber _ number_starts back v t)))

-- a digit or a minus sign
abbrev pub is_integer_start : ℕ → Bool
is_integer_start b = is_digit b || eqb b 45

digit_or : (b : ℕ) → is_digit b ≡ true → is_integer_start b ≡ true
digit_or b e = rw e refl

pub integer_starts : (bytes : List ℕ) (z : ℤ) → IsInteger bytes z → Starts is_integer_start bytes
integer_starts bytes (pos n) is = starts_as is_digit is_integer_start digit_or bytes (number_starts bytes n is)
integer_starts bytes (negsuc n) is = record { head = 45; tail = is.0; whole = is.1; is = refl }
