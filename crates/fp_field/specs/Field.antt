-- The field F_p: the numbers below p, with sum and product modulo p (any algebra text).
--
--   over 7 the residue of -1 is 6, and the inverse of 3 is 5, since 15 = 2 * 7 + 1
use Rattle.std.specs.Prelude.{◌≡◌, ◌<◌, ℕ, zero, suc, ◌+◌, ◌*◌, ◌-◌, ◌%◌, List, [], ◌∷◌, ℤ, pos, negsuc}
use Rattle.fp_field.specs.declared.prime.Prime.{Prime}
use Rattle.fp_field.specs.declared.prime.Prime.TheVariants.{Two, Three, Five, Seven, Eleven, Thirteen, Seventeen, Nineteen}

abbrev pub primes : List ℕ
primes = 2 ∷ 3 ∷ 5 ∷ 7 ∷ 11 ∷ 13 ∷ 17 ∷ 19 ∷ []

abbrev pub number : Prime → ℕ
number Two = 2
number Three = 3
number Five = 5
number Seven = 7
number Eleven = 11
number Thirteen = 13
number Seventeen = 17
number Nineteen = 19

abbrev pub plus : ℕ → ℕ → ℕ → ℕ
plus p a b = (a + b) % p

abbrev pub times : ℕ → ℕ → ℕ → ℕ
times p a b = (a * b) % p

abbrev pub minus : ℕ → ℕ → ℕ
minus p a = (p - a) % p

-- equal in F_p, for any two numbers
abbrev pub SameMod : ℕ → ℕ → ℕ → Type 0
SameMod p a b = a % p ≡ b % p

-- the element of F_p that an integer is equal to modulo p, minus one being p - 1
abbrev pub residue : ℕ → ℤ → ℕ
residue p (pos n) = n % p
residue p (negsuc n) = ((p - 1) * suc n) % p

-- (-1) to the power i, in F_p
abbrev pub sign : ℕ → ℕ → ℕ
sign p zero = 1
sign p (suc i) = (p - 1) * sign p i

-- the laws of a field, for the numbers below p
pub record IsField (p : ℕ) : Type 0 where
  pub one_is_not_zero : 1 < p
  pub plus_in : (a b : ℕ) → plus p a b < p
  pub times_in : (a b : ℕ) → times p a b < p
  pub minus_in : (a : ℕ) → minus p a < p
  pub plus_associates : (a b c : ℕ) → plus p (plus p a b) c ≡ plus p a (plus p b c)
  pub plus_commutes : (a b : ℕ) → plus p a b ≡ plus p b a
  pub plus_zero : (a : ℕ) → a < p → plus p a 0 ≡ a
  pub plus_minus : (a : ℕ) → a < p → plus p a (minus p a) ≡ 0
  pub times_associates : (a b c : ℕ) → times p (times p a b) c ≡ times p a (times p b c)
  pub times_commutes : (a b : ℕ) → times p a b ≡ times p b a
  pub times_one : (a : ℕ) → a < p → times p a 1 ≡ a
  pub times_plus : (a b c : ℕ) → times p a (plus p b c) ≡ plus p (times p a b) (times p a c)
  pub inverse : (a : ℕ) → 0 < a → a < p → (b : ℕ) × (b < p) × (times p a b ≡ 1)
