-- Each number from 1 to p - 1 has an inverse, seen by trying all of them.
use Rattle.std.proofs.Common.{◌≡◌, ◌<◌, ◌≤◌, ◌⊎◌, inl, inr, ℕ, zero, suc, ◌*◌, ◌%◌, ◌-◌, ◌^◌, ◌==◌, ◌&&◌, ◌||◌, Bool, true, false, refl, sym, ◌∙◌, ap, arith}
use Rattle.std.proofs.lemmas.Bool.{false≢true, cases_lt}
use Rattle.std.proofs.lemmas.Bool.Decides.{nat_tests}
use Rattle.std.proofs.Math.Nat.{zero-mod, mod-lt}
use Rattle.fp_field.specs.declared.prime.Prime.{Prime}
use Rattle.fp_field.specs.declared.prime.Prime.TheVariants.{Two, Three, Five, Seven, Eleven, Thirteen, Seventeen, Nineteen}
use Rattle.fp_field.specs.Field.{number, times}
use Rattle.fp_field.proofs.Primes.{number_pos}

-- whether each number below n passes
abbrev all_below : ℕ → (ℕ → Bool) → Bool
all_below zero test = true
all_below (suc n) test = test n && all_below n test

-- Fermat: the power p - 2 is the inverse
abbrev pub power : ℕ → ℕ → ℕ
power p a = a ^ (p - 2) % p

abbrev is_inverted : ℕ → ℕ → Bool
is_inverted p a = (a == 0) || (times p a (power p a) == 1)

first_holds : (a b : Bool) → a && b ≡ true → a ≡ true
first_holds true b e = refl
first_holds false b e = e

second_holds : (a b : Bool) → a && b ≡ true → b ≡ true
second_holds true b e = e
second_holds false b e = absurd (false≢true e)

passes : (n : ℕ) (test : ℕ → Bool) → all_below n test ≡ true → (a : ℕ) → a < n → test a ≡ true
passes zero test e a l = absurd (omega arith)
passes (suc n) test e a l = by (cases_lt a n) (passes n test (second_holds (test n) (all_below n test) e) a)
  where
    by : (a < n) ⊎ (n ≤ a) → (a < n → test a ≡ true) → test a ≡ true
    by (inl h) r = r h
    by (inr h) r = ap test (let e : a ≡ n = omega arith in e) ∙ first_holds (test n) (all_below n test) e

all_inverted : (p : Prime) → all_below (number p) (is_inverted (number p)) ≡ true
all_inverted Two = refl
all_inverted Three = refl
all_inverted Five = refl
all_inverted Seven = refl
all_inverted Eleven = refl
all_inverted Thirteen = refl
all_inverted Seventeen = refl
all_inverted Nineteen = refl

or_right : (a b : Bool) → a ≡ false → a || b ≡ true → b ≡ true
or_right true b f e = absurd (false≢true (sym f))
or_right false b f e = e

-- a times its power p - 2 is 1
pub times-power : (p : Prime) (a : ℕ) → 0 < a → a < number p → times (number p) a (power (number p) a) ≡ 1
times-power p a h l =
    let e = or_right (a == 0) _ (grind (arith, nat_tests)) (passes (number p) (is_inverted (number p)) (all_inverted p) a l) in grind (arith, nat_tests, e)

-- from a number that is no inverse one goes on to the next
pub power-above : (p : Prime) (a b : ℕ) → 0 < a → a < number p → b ≤ power (number p) a → (times (number p) a b ≡ 1 → ⊥) → suc b ≤ power (number p) a
power-above p a b h l below other = by (cases_lt b (power (number p) a)) (λ e. other (ap (times (number p) a) e ∙ times-power p a h l))
  where
    by : (b < power (number p) a) ⊎ (power (number p) a ≤ b) → (b ≡ power (number p) a → ⊥) → suc b ≤ power (number p) a
    by (inl e) d = omega arith
    by (inr r) d = absurd (d (omega arith))

-- the inverse is at least 1
pub power-positive : (p : Prime) (a : ℕ) → 0 < a → a < number p → 1 ≤ power (number p) a
power-positive p a h l = power-above p a 0 h l (omega arith) (λ e. by (number p) (ap (λ n. n % number p) (let q : 0 ≡ a * 0 = omega arith in q) ∙ e))
  where
    by : (m : ℕ) → 0 % m ≡ 1 → ⊥
    by m e = let z : 0 % m ≡ 0 = zero-mod m in omega arith

pub power-below : (p : Prime) (a : ℕ) → power (number p) a < number p
power-below p a = mod-lt (a ^ (number p - 2)) (number_pos p)
