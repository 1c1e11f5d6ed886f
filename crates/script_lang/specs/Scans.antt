-- Reading within a run: numbers, names, integers, faces and simplices, from left to right up to the first fault.
--
--   a simplex from the bytes of ^a,b is the simplex ^a with the bytes of ,b behind it; from those of ^,b it is a fault with 2 bytes left
use Rattle.std.specs.Prelude.{ℕ, zero, suc, min, ◌==◌, ◌||◌, ℤ, pos, Bool, true, false, if◌then◌else◌, List, [], ◌∷◌, length, take, drop, Option, Some, None, Ok, Err}
use Rattle.std.specs.List.{prefix_len}
use Rattle.std.proofs.Math.IntN.{neg_ℤ}
use Rattle.term_lang.specs.declared.texts.FaceText.{FaceText}
use Rattle.script_lang.specs.declared.simplices.SimplexText.{SimplexText}
use Rattle.script_lang.specs.declared.simplices.LetterText.{LetterText}
use Rattle.script_lang.specs.declared.simplices.BodyText.{BodyText}
use Rattle.script_lang.specs.declared.simplices.BodyText.TheVariants as bodies
use Rattle.script_lang.specs.declared.scan.BodySign.{BodySign}
use Rattle.script_lang.specs.declared.scan.BodySign.TheVariants as signs
use Rattle.script_lang.specs.Bytes.{is_blank, is_digit, is_letter, is_inner, value_from}
use Rattle.script_lang.specs.Readings.{Reading, ◌>>=◌, until_at}

abbrev pub begins : (ℕ → Bool) → List ℕ → Bool
begins p [] = false
begins p (b ∷ bytes) = p b

-- ---- words of letters and digits

-- how many bytes at the front may be a name, 0 for none
unfoldable pub name_len : List ℕ → ℕ
name_len [] = 0
name_len (b ∷ bytes) = if is_letter b then suc (min (prefix_len is_inner bytes) 15) else 0

unfoldable pub name_in : List ℕ → Reading (List ℕ)
name_in bytes = if name_len bytes == 0 then Err (length bytes) else Ok (take (name_len bytes) bytes, drop (name_len bytes) bytes)

-- how many bytes at the front may be a number, 0 for none
unfoldable pub number_len : List ℕ → ℕ
number_len [] = 0
number_len (b ∷ bytes) = if b == 48 then 1 else min (prefix_len is_digit (b ∷ bytes)) 18

unfoldable pub number_in : List ℕ → Reading ℕ
number_in bytes =
    if number_len bytes == 0 then Err (length bytes)
    else Ok (value_from 0 (take (number_len bytes) bytes), drop (number_len bytes) bytes)

-- ---- signs

unfoldable pub sign_in : ℕ → List ℕ → Reading (Unit {0})
sign_in b [] = Err 0
sign_in b (c ∷ bytes) = if c == b then Ok (tt, bytes) else Err (length (c ∷ bytes))

-- a sign that may be there
unfoldable pub may_in : ℕ → List ℕ → Reading Bool
may_in b [] = Ok (false, [])
may_in b (c ∷ bytes) = if c == b then Ok (true, bytes) else Ok (false, c ∷ bytes)

-- ---- integers

unfoldable pub negative_in : List ℕ → Reading ℤ
negative_in bytes = if begins (λ b. b == 48) bytes then Err (length bytes) else (number_in bytes >>= λ n. Ok (neg_ℤ (pos n.0), n.1))

unfoldable pub signed_in : Bool → List ℕ → Reading ℤ
signed_in true bytes = negative_in bytes
signed_in false bytes = number_in bytes >>= λ n. Ok (pos n.0, n.1)

unfoldable pub integer_in : List ℕ → Reading ℤ
integer_in bytes = may_in 45 bytes >>= λ minus. signed_in minus.0 minus.1

-- ---- degeneracies

-- whether another degeneracy comes
unfoldable pub separator_in : List ℕ → Reading Bool
separator_in [] = Err 0
separator_in (b ∷ bytes) = if b == 45 then Ok (true, bytes) else (if b == 58 then Ok (false, bytes) else Err (length (b ∷ bytes)))

unfoldable pub next_degen_in : Bool → List ℕ → Reading (Option ℕ)
next_degen_in true bytes = number_in bytes >>= λ n. Ok (Some n.0, n.1)
next_degen_in false bytes = Ok (None, bytes)

unfoldable pub degen_in : List ℕ → Reading (Option ℕ)
degen_in bytes = separator_in bytes >>= λ more. next_degen_in more.0 more.1

unfoldable pub degens_in : List ℕ → Reading (List ℕ)
degens_in bytes = number_in bytes >>= λ n. until_at degen_in n.1 >>= λ more. Ok (n.0 ∷ more.0, more.1)

unfoldable pub prefix_in : List ℕ → Reading (List ℕ)
prefix_in bytes = if begins is_digit bytes then degens_in bytes else Ok ([], bytes)

unfoldable pub face_in : List ℕ → Reading FaceText
face_in bytes = prefix_in bytes >>= λ word. name_in word.1 >>= λ name. Ok (record { word = word.0; name = name.0 }, name.1)

-- ---- integers between bars

unfoldable pub barred_in : List ℕ → Reading (Option ℤ)
barred_in bytes = integer_in bytes >>= λ n. sign_in 124 n.1 >>= λ bar. Ok (Some n.0, bar.1)

unfoldable pub int_in : List ℕ → Reading (Option ℤ)
int_in bytes = if begins (λ b. is_digit b || (b == 45)) bytes then barred_in bytes else Ok (None, bytes)

-- ---- words of letters

unfoldable pub after_blanks : List ℕ → List ℕ
after_blanks [] = []
after_blanks (b ∷ bytes) = if is_blank b then after_blanks bytes else b ∷ bytes

unfoldable pub gap_in : List ℕ → Reading (Unit {0})
gap_in [] = Err 0
gap_in (b ∷ bytes) = if is_blank b then Ok (tt, after_blanks bytes) else Err (length (b ∷ bytes))

-- where part reads a simplex
module _ (part : List ℕ → Reading SimplexText) where
  unfoldable pub signed_letter_in : Bool → List ℕ → Reading LetterText
  signed_letter_in inverse bytes = part bytes >>= λ x. Ok (record { inverse = inverse; simplex = x.0 }, x.1)

  unfoldable pub letter_in : List ℕ → Reading LetterText
  letter_in bytes = may_in 45 bytes >>= λ minus. signed_letter_in minus.0 minus.1

  unfoldable pub behind_gap_in : List ℕ → Reading (Option LetterText)
  behind_gap_in bytes = gap_in bytes >>= λ gap. letter_in gap.1 >>= λ letter. Ok (Some letter.0, letter.1)

  unfoldable pub next_letter_in : Bool → List ℕ → Reading (Option LetterText)
  next_letter_in true bytes = Ok (None, bytes)
  next_letter_in false bytes = behind_gap_in bytes

  -- another letter, or the end of the word
  unfoldable pub more_letters_in : List ℕ → Reading (Option LetterText)
  more_letters_in bytes = may_in 93 bytes >>= λ end. next_letter_in end.0 end.1

  unfoldable pub some_letters_in : List ℕ → Reading (List LetterText)
  some_letters_in bytes = letter_in bytes >>= λ first. until_at more_letters_in first.1 >>= λ more. Ok (first.0 ∷ more.0, more.1)

  unfoldable pub letters_behind_in : Bool → List ℕ → Reading (List LetterText)
  letters_behind_in true bytes = Ok ([], bytes)
  letters_behind_in false bytes = some_letters_in bytes

  unfoldable pub word_in : List ℕ → Reading (List LetterText)
  word_in bytes = may_in 93 bytes >>= λ end. letters_behind_in end.0 end.1

  -- ---- bodies

  unfoldable pub pair_in : List ℕ → Reading BodyText
  pair_in bytes = part bytes >>= λ x. sign_in 44 x.1 >>= λ comma. part comma.1 >>= λ y. sign_in 62 y.1 >>= λ end. Ok (bodies.Pair x.0 y.0, end.1)

  unfoldable pub behind_in : BodySign → List ℕ → Reading BodyText
  behind_in signs.Star bytes = Ok (bodies.Star, bytes)
  behind_in (signs.Name name) bytes = Ok (bodies.Name name, bytes)
  behind_in signs.Up bytes = part bytes >>= λ x. Ok (bodies.Up x.0, x.1)
  behind_in signs.Pair bytes = pair_in bytes
  behind_in signs.Ints bytes = until_at int_in bytes >>= λ list. Ok (bodies.Ints list.0, list.1)
  behind_in signs.Word bytes = word_in bytes >>= λ letters. Ok (bodies.Word letters.0, letters.1)

-- the sign of one byte, where there is room for those that enclose
unfoldable pub sign_of : ℕ → ℕ → Option BodySign
sign_of room b =
    if b == 42 then Some signs.Star
    else (if b == 124 then Some signs.Ints
    else (if room == 0 then None
    else (if b == 94 then Some signs.Up else (if b == 60 then Some signs.Pair else (if b == 91 then Some signs.Word else None)))))

-- a sign that was found, or a name
unfoldable pub sign_or_name_in : Option BodySign → ℕ → List ℕ → Reading BodySign
sign_or_name_in (Some sign) b bytes = Ok (sign, bytes)
sign_or_name_in None b bytes = name_in (b ∷ bytes) >>= λ name. Ok (signs.Name name.0, name.1)

unfoldable pub head_in : ℕ → List ℕ → Reading BodySign
head_in room [] = Err 0
head_in room (b ∷ bytes) = sign_or_name_in (sign_of room b) b bytes

-- ---- simplices

unfoldable pub body_in : ℕ → (List ℕ → Reading SimplexText) → List ℕ → Reading BodyText
body_in room part bytes = head_in room bytes >>= λ sign. behind_in part sign.0 sign.1

unfoldable pub simplex_over : ℕ → (List ℕ → Reading SimplexText) → List ℕ → Reading SimplexText
simplex_over room part bytes = prefix_in bytes >>= λ degens. body_in room part degens.1 >>= λ body. Ok (record { degens = degens.0; body = body.0 }, body.1)

-- a simplex, where so many simplices may enclose one another, itself among them
unfoldable pub simplex_in : ℕ → List ℕ → Reading SimplexText
simplex_in zero bytes = Err (length bytes)
simplex_in (suc room) bytes = simplex_over room (simplex_in room) bytes
