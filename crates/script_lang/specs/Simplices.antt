-- Simplices and faces as they are written (Kenzo documentation, 1999, on abstract simplices; the signs of this language).
--
--   simplex = [ degens ":" ] body        degens = number { "-" number }        face = [ degens ":" ] name
--   body    = "*" | name | "^" simplex | "<" simplex "," simplex ">"
--           | "|" { integer "|" } | "[" [ letter { blanks letter } ] "]"
--   letter  = [ "-" ] simplex
--
-- At most 32 of the signs ^, < and [ enclose a place. The text 1-0:^S2 is the simplex with the degeneracies 1 ∷ 0 ∷ [] before the
-- suspension of S2.
use Rattle.std.specs.Prelude.{◌≡◌, ℕ, zero, suc, ◌<◌, Bool, true, false, List, [], ◌∷◌, codes}
use Rattle.std.specs.List.{list_all}
use Rattle.term_lang.specs.declared.texts.FaceText.{FaceText}
use Rattle.script_lang.specs.declared.simplices.SimplexText.{SimplexText}
use Rattle.script_lang.specs.declared.simplices.LetterText.{LetterText}
use Rattle.script_lang.specs.declared.simplices.BodyText.{BodyText}
use Rattle.script_lang.specs.declared.simplices.BodyText.TheVariants as bodies
use Rattle.script_lang.specs.declared.scan.BodySign.{BodySign}
use Rattle.script_lang.specs.declared.scan.BodySign.TheVariants as signs
use Rattle.script_lang.specs.Phrases.{Done, Sign, ◌▷◌, ◌∣◌, Until, Never}
use Rattle.script_lang.specs.Bytes.{is_blank, IsName, IsNumber, IsInteger}

-- ---- degeneracies

-- number { "-" number } ":"
abbrev pub IsDegens : List ℕ → List ℕ → Type 0
IsDegens = IsNumber ▷ λ n. Until (58 ∷ []) (Sign 45 ▷ λ _. IsNumber) ▷ λ more. Done (n ∷ more)

-- [ degens ":" ]
abbrev pub IsPrefix : List ℕ → List ℕ → Type 0
IsPrefix = Done [] ∣ IsDegens

-- face = [ degens ":" ] name
abbrev pub IsFace : List ℕ → FaceText → Type 0
IsFace = IsPrefix ▷ λ word. IsName ▷ λ name. Done (record { word = word; name = name })

-- ---- words of letters

-- one blank at least
pub data IsGap (bytes : List ℕ) (v : Unit {0}) : Type 0 where
  blanks : (b : ℕ) (more : List ℕ) → bytes ≡ b ∷ more → is_blank b ≡ true → list_all is_blank more ≡ true → IsGap bytes v

module _ (IsPart : List ℕ → SimplexText → Type 0) where
  abbrev pub IsSigned : Bool → List ℕ → LetterText → Type 0
  IsSigned inverse = IsPart ▷ λ simplex. Done (record { inverse = inverse; simplex = simplex })

  -- letter = [ "-" ] simplex
  abbrev pub IsLetter : List ℕ → LetterText → Type 0
  IsLetter = (Sign 45 ▷ λ _. IsSigned true) ∣ IsSigned false

  -- [ letter { blanks letter } ] "]"
  abbrev pub IsWord : List ℕ → List LetterText → Type 0
  IsWord = (Sign 93 ▷ λ _. Done []) ∣ (IsLetter ▷ λ first. Until (93 ∷ []) (IsGap ▷ λ _. IsLetter) ▷ λ more. Done (first ∷ more))

  -- what stands behind the sign of a body
  abbrev pub IsBehind : BodySign → List ℕ → BodyText → Type 0
  IsBehind signs.Star = Done bodies.Star
  IsBehind (signs.Name name) = Done (bodies.Name name)
  IsBehind signs.Up = IsPart ▷ λ x. Done (bodies.Up x)
  IsBehind signs.Pair = IsPart ▷ λ x. Sign 44 ▷ λ _. IsPart ▷ λ y. Sign 62 ▷ λ _. Done (bodies.Pair x y)
  IsBehind signs.Ints = Until [] (IsInteger ▷ λ n. Sign 124 ▷ λ _. Done n) ▷ λ list. Done (bodies.Ints list)
  IsBehind signs.Word = IsWord ▷ λ letters. Done (bodies.Word letters)

-- The sign that a body begins with, a name among them. Those that enclose what is behind them need room.
abbrev pub IsSign : ℕ → List ℕ → BodySign → Type 0
IsSign room bytes signs.Star = bytes ≡ codes "*"
IsSign room bytes (signs.Name name) = IsName bytes name
IsSign room bytes signs.Up = (bytes ≡ codes "^") × (0 < room)
IsSign room bytes signs.Pair = (bytes ≡ codes "<") × (0 < room)
IsSign room bytes signs.Ints = bytes ≡ codes "|"
IsSign room bytes signs.Word = (bytes ≡ codes "[") × (0 < room)

-- ---- simplices

-- a simplex with room for so many enclosing signs, where IsPart is a simplex with room for one less
abbrev pub IsSimplexOver : ℕ → (List ℕ → SimplexText → Type 0) → List ℕ → SimplexText → Type 0
IsSimplexOver room IsPart =
    IsPrefix ▷ λ degens. (IsSign room ▷ λ sign. IsBehind IsPart sign) ▷ λ body. Done (record { degens = degens; body = body })

unfoldable pub IsSimplexIn : ℕ → List ℕ → SimplexText → Type 0
IsSimplexIn zero = IsSimplexOver zero Never
IsSimplexIn (suc room) = IsSimplexOver (suc room) (IsSimplexIn room)

abbrev pub IsSimplex : List ℕ → SimplexText → Type 0
IsSimplex = IsSimplexIn 32
