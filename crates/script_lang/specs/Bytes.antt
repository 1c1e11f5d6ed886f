-- Bytes of a line, and the words that are made of letters and digits alone.
--
--   the bytes of S2 are a name, those of 2S are none; the bytes of 10 are the number 10, those of 010 are none; the bytes of -10 are the
--   integer -10, those of -0 are none
use Rattle.std.specs.Prelude.{◌≡◌, ℕ, suc, ◌+◌, ◌-◌, ◌*◌, ℤ, pos, negsuc, Bool, true, false, nat_lt, ◌==◌, ◌&&◌, ◌||◌, if◌then◌else◌, List, [], ◌∷◌, length}
use Rattle.std.specs.List.{list_all}

-- a space, a tab or a carriage return
abbrev pub is_blank : ℕ → Bool
is_blank b = (b == 32) || (b == 9) || (b == 13)

abbrev pub is_parenthesis : ℕ → Bool
is_parenthesis b = (b == 40) || (b == 41)

abbrev pub is_semicolon : ℕ → Bool
is_semicolon b = b == 59

abbrev pub is_between : ℕ → ℕ → ℕ → Bool
is_between low high b = nat_lt b (high + 1) && nat_lt low (b + 1)

abbrev pub is_digit : ℕ → Bool
is_digit b = is_between 48 57 b

abbrev pub is_letter : ℕ → Bool
is_letter b = is_between 65 90 b || is_between 97 122 b

-- a letter, a digit or an underscore
abbrev pub is_inner : ℕ → Bool
is_inner b = is_letter b || is_digit b || (b == 95)

-- ---- names

-- a letter, and at most 15 further letters, digits or underscores
unfoldable pub is_name : List ℕ → Bool
is_name [] = false
is_name (b ∷ bytes) = nat_lt (length bytes) 16 && (is_letter b && list_all is_inner bytes)

pub record IsName (bytes name : List ℕ) : Type 0 where
  pub is : is_name bytes ≡ true
  pub same : bytes ≡ name

-- ---- numbers

-- 0, or a digit from 1 to 9 and at most 17 further digits
unfoldable pub is_numeral : List ℕ → Bool
is_numeral [] = false
is_numeral (b ∷ bytes) = if b == 48 then length bytes == 0 else nat_lt (length bytes) 18 && (is_digit b && list_all is_digit bytes)

-- the number that digits are, behind a number that was read before them
unfoldable pub value_from : ℕ → List ℕ → ℕ
value_from n [] = n
value_from n (b ∷ bytes) = value_from (10 * n + (b - 48)) bytes

pub record IsNumber (bytes : List ℕ) (n : ℕ) : Type 0 where
  pub digits : is_numeral bytes ≡ true
  pub value : value_from 0 bytes ≡ n

-- a number, or a minus sign and a number that is not 0
abbrev pub IsInteger : List ℕ → ℤ → Type 0
IsInteger bytes (pos n) = IsNumber bytes n
IsInteger bytes (negsuc n) = (digits : List ℕ) × (bytes ≡ 45 ∷ digits) × IsNumber digits (suc n)
