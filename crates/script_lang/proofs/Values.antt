-- The value of at most 18 digits.
use Rattle.std.proofs.Common.{◌≡◌, ℕ, suc, ◌+◌, ◌-◌, ◌*◌, ◌<◌, ◌≤◌, ◌^◌, Bool, true, false, cond, List, [], ◌∷◌, length, refl, arith, eqb, ltb, ◌&&◌, lit<, get_or, drop, drop-cons, add-one}
use Rattle.std.proofs.lemmas.List.{nil_from_length, drop_all}
use Rattle.std.proofs.lemmas.Bool.{eqb-true}
use borrow.Author.Tests.{ltb-true}
use Rattle.std.proofs.Math.Nat.{pow-le-pow_right, one-le-pow}
use Rattle.std.specs.List.{list_all}
use Rattle.std.proofs.lemmas.Grind.{pow_more}
use Rattle.std.proofs.lemmas.Bool.Decides.{nat_tests}
use Rattle.script_lang.specs.Bytes.{is_digit, is_numeral, value_from}

pub record SoFar (all : List ℕ) (n : ℕ) (rest : List ℕ) : Type 0 where
  pub value : value_from n rest ≡ value_from 0 all
  pub few : length rest ≤ 18
  pub digits : list_all is_digit rest ≡ true
  pub below : n < 10 ^ (18 - length rest)

pub both_true : (a b : Bool) → (a && b) ≡ true → (a ≡ true) × (b ≡ true)
both_true true true e = (refl, refl)
both_true true false e = (refl, e)
both_true false b e = (e, absurd (let f : false ≡ true = e in cc))

pub digit_range : (b : ℕ) → is_digit b ≡ true → (48 ≤ b) × (b ≤ 57)
digit_range b e = (grind (arith, nat_tests), grind (arith, nat_tests))

larger : (k n b : ℕ) → n < 10 ^ k → b ≤ 57 → 10 * n + (b - 48) < 10 ^ (k + 1)
larger k n b lt le = omega (arith, pow_more 10 k)

small : (k n : ℕ) → k ≤ 17 → n < 10 ^ k → n < 10 ^ 17
small k n le lt = omega (arith, pow-le-pow_right {n = 10} (lit< tt) {i = k} {j = 17} le)

numeral_parts_at : (b : ℕ) (bytes : List ℕ) (zeroes : Bool) → eqb b 48 ≡ zeroes → cond zeroes (eqb (length bytes) 0) (ltb (length bytes) 18 && (is_digit b && list_all is_digit bytes)) ≡ true → (length bytes < 18) × (is_digit b ≡ true) × (list_all is_digit bytes ≡ true)
numeral_parts_at b bytes true z e =
    let b-is : b ≡ 48 = eqb-true b 48 z in
    let none : length bytes ≡ 0 = eqb-true (length bytes) 0 e in
    (omega arith, rw b-is refl, rw (nil_from_length bytes none) refl)
numeral_parts_at b bytes false z e =
    let p = both_true (ltb (length bytes) 18) (is_digit b && list_all is_digit bytes) e in
    let q = both_true (is_digit b) (list_all is_digit bytes) p.1 in
    (ltb-true (length bytes) 18 p.0, q.0, q.1)

numeral_parts : (b : ℕ) (bytes : List ℕ) → is_numeral (b ∷ bytes) ≡ true → (length bytes < 18) × (is_digit b ≡ true) × (list_all is_digit bytes ≡ true)
unfolding is_numeral
numeral_parts b bytes e = numeral_parts_at b bytes (eqb b 48) refl e

pub starts : (digits : List ℕ) → is_numeral digits ≡ true → SoFar digits 0 digits
unfolding is_numeral
starts [] e = absurd cc
starts (b ∷ bytes) e =
    let p = numeral_parts b bytes e in
    record { value = refl; few = omega (arith, p.0); digits = rw (p.1, p.2) refl; below = one-le-pow (18 - length (b ∷ bytes)) 10 (lit< tt) }

pub goes_on : (digits : List ℕ) (n b : ℕ) (rest : List ℕ) → SoFar digits n (b ∷ rest) → SoFar digits (10 * n + (b - 48)) rest
unfolding value_from
goes_on digits n b rest so =
    let d = digit_range b (both_true (is_digit b) (list_all is_digit rest) so.digits).0 in
    let e : 18 - length rest ≡ (18 - length (b ∷ rest)) + 1 = omega (arith, so.few) in
    record {
      value = so.value;
      few = omega (arith, so.few);
      digits = (both_true (is_digit b) (list_all is_digit rest) so.digits).1;
      below = rw e (larger (18 - length (b ∷ rest)) n b so.below d.1);
    }

pub fits : (digits : List ℕ) (n b : ℕ) (rest : List ℕ) → SoFar digits n (b ∷ rest) → (n < 10 ^ 17) × (48 ≤ b) × (b ≤ 57)
fits digits n b rest so =
    let d = digit_range b (both_true (is_digit b) (list_all is_digit rest) so.digits).0 in
    (small (18 - length (b ∷ rest)) n (omega arith) so.below, d.0, d.1)

pub goes_on_at : (all : List ℕ) (n i : ℕ) → i < length all → SoFar all n (drop i all) → SoFar all (10 * n + (get_or all i 0 - 48)) (drop (i + 1) all)
goes_on_at all n i lt so = rw add-one (goes_on all n (get_or all i 0) (drop (suc i) all) (rw (drop-cons all i 0) at so))

pub fits_at : (all : List ℕ) (n i : ℕ) → i < length all → SoFar all n (drop i all) → (n < 10 ^ 17) × (48 ≤ get_or all i 0) × (get_or all i 0 ≤ 57)
fits_at all n i lt so = fits all n (get_or all i 0) (drop (suc i) all) (rw (drop-cons all i 0) at so)

pub is_whole : (all : List ℕ) (n i : ℕ) → length all ≤ i → SoFar all n (drop i all) → n ≡ value_from 0 all
unfolding value_from
is_whole all n i le so = let v = so.value in rw (drop_all i all le) at v

pub is_small : (all : List ℕ) (n i : ℕ) → SoFar all n (drop i all) → n < 10 ^ 18
is_small all n i so =
    let le : 10 ^ (18 - length (drop i all)) ≤ 10 ^ 18 = pow-le-pow_right {n = 10} (lit< tt) {i = 18 - length (drop i all)} {j = 18} (omega arith) in
    let lt = so.below in
    omega arith
