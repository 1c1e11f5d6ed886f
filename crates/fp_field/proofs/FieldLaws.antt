-- The numbers below p are a field.
use Rattle.std.proofs.Common.{◌≡◌, ◌<◌, ℕ, ◌+◌, ◌*◌, ◌%◌, ◌-◌, sym, ◌∙◌, ap, arith}
use Rattle.std.proofs.Math.Nat.{mod-lt, mod-eq_of_lt, mod-mod, add-mod, mod_self}
use Rattle.std.proofs.lemmas.Nat.{mul-mod_first, mul-mod_second}
use Rattle.fp_field.specs.declared.prime.Prime.{Prime}
use Rattle.fp_field.specs.Field.{number, plus, minus, IsField}
use Rattle.fp_field.proofs.Primes.{number_pos, number_above_one}
use Rattle.fp_field.proofs.Inverses.{power, times-power}

module _ (p : ℕ) where
  plus-mod_first : (a b : ℕ) → (a % p + b) % p ≡ (a + b) % p
  plus-mod_first a b = add-mod (a % p) b p ∙ ap (λ n. (n + b % p) % p) (mod-mod a p) ∙ sym (add-mod a b p)

  plus-mod_second : (a b : ℕ) → (a + b % p) % p ≡ (a + b) % p
  plus-mod_second a b = ap (λ n. n % p) (let e : a + b % p ≡ b % p + a = omega arith in e) ∙ plus-mod_first b a ∙ ap (λ n. n % p) (let e : b + a ≡ a + b = omega arith in e)

  with_minus : (a : ℕ) → a < p → plus p a (minus p a) ≡ 0
  with_minus a l = plus-mod_second a (p - a) ∙ ap (λ n. n % p) (let e : a + (p - a) ≡ p = omega arith in e) ∙ mod_self p

pub is_field : (p : Prime) → IsField (number p)
is_field q =
    record {
      one_is_not_zero = number_above_one q;
      plus_in = λ a b. mod-lt (a + b) (number_pos q);
      times_in = λ a b. mod-lt (a * b) (number_pos q);
      minus_in = λ a. mod-lt (number q - a) (number_pos q);
      plus_associates = λ a b c. plus-mod_first (number q) (a + b) c ∙ ap (λ n. n % number q) (let e : a + b + c ≡ a + (b + c) = omega arith in e) ∙ sym (plus-mod_second (number q) a (b + c));
      plus_commutes = λ a b. ap (λ n. n % number q) (let e : a + b ≡ b + a = omega arith in e);
      plus_zero = λ a l. ap (λ n. n % number q) (let e : a + 0 ≡ a = omega arith in e) ∙ mod-eq_of_lt l;
      plus_minus = λ a l. with_minus (number q) a l;
      times_associates = λ a b c. mul-mod_first (a * b) c (number q) ∙ ap (λ n. n % number q) (let e : a * b * c ≡ a * (b * c) = omega arith in e) ∙ sym (mul-mod_second a (b * c) (number q));
      times_commutes = λ a b. ap (λ n. n % number q) (let e : a * b ≡ b * a = omega arith in e);
      times_one = λ a l. ap (λ n. n % number q) (let e : a * 1 ≡ a = omega arith in e) ∙ mod-eq_of_lt l;
      times_plus = λ a b c. mul-mod_second a (b + c) (number q) ∙ ap (λ n. n % number q) (let e : a * (b + c) ≡ a * b + a * c = omega arith in e) ∙ add-mod (a * b) (a * c) (number q);
      inverse = λ a h l. (power (number q) a, mod-lt _ (number_pos q), times-power q a h l);
    }
