-- Where integers, degeneracies, faces and integers between bars go wrong within a run.
use Rattle.std.proofs.Common.{◌≡◌, ℕ, Bool, true, false, not, List, [], ◌∷◌, length, Ok, Option, Some, None, refl, ap, arith}
use Rattle.std.proofs.lemmas.List.{length-append}
use Rattle.std.specs.Prelude.{ℤ, pos}
use Rattle.term_lang.specs.declared.texts.FaceText.{FaceText}
use Rattle.script_lang.specs.Bytes.{is_digit, IsName, IsNumber, IsInteger}
use Rattle.script_lang.specs.Simplices.{IsPrefix}
use Rattle.script_lang.specs.Phrases.{Sign}
use Rattle.script_lang.specs.Grammar.{is_end}
use Rattle.script_lang.specs.Readings.{Reading, ◌>>=◌, until_at}
use Rattle.script_lang.specs.Scans.{number_in, name_in, sign_in, negative_in, signed_in, integer_in, separator_in, next_degen_in, degen_in, degens_in, prefix_in, face_in, barred_in, int_in}
use Rattle.script_lang.proofs.Combine.{always}
use Rattle.script_lang.proofs.Loops.{Part}
use Rattle.script_lang.proofs.Fronts.{no_inner, reads_name, no_digit, reads_number}
use Rattle.script_lang.proofs.Inner.{Scans, Starts, reads_sign, reads_integer, is_integer_start, integer_starts}
use Rattle.script_lang.proofs.Prefixes.{Separator, reads_separator, degen_may, IsDegen, reads_degen, degen_shorter, reads_prefix, IsBarred, int_may, reads_int, int_shorter}
use Rattle.script_lang.proofs.PlaceRules.{Placed, Longer, never, placed_done}
use Rattle.script_lang.proofs.PlacePhrases.{map_never, then_after, then_wide, later}
use Rattle.script_lang.proofs.PlaceChoices.{placed_perhaps, placed_peek}
use Rattle.script_lang.proofs.PlaceRepeats.{Ends, placed_until}
use Rattle.script_lang.proofs.PlaceLeaves.{placed_leaf, placed_free}
use Rattle.script_lang.proofs.PlaceSigns.{sign_leaf, separator_leaf}
use Rattle.script_lang.proofs.PlaceNumbers.{name_leaf, number_leaf, negative_leaf}

-- bytes that end no run, behind any open brackets
abbrev pub is_solid : ℕ → Bool
is_solid b = not (is_end 0 b)

abbrev pub Within : {A : Type 0} → List ℕ → (A → List ℕ → Bool) → (List ℕ → Reading A) → Type 0
Within cs may read = Placed is_solid cs may read

pub far_of : {A : Type 0} (may : A → List ℕ → Bool) (L : List ℕ → A → Type 0) (read : List ℕ → Reading A) (q : ℕ → Bool) → Scans may L read → ((front : List ℕ) (v : A) → L front v → Starts q front) → Longer read
far_of may L read q one starts bytes v rest e =
    let t = one.takes bytes v rest e in
    let s = starts t.front v t.is in
    omega (arith, ap length t.units_are, length-append t.front rest, ap length s.whole)

-- ---- words

pub placed_number : Within (48 ∷ []) (no_digit {A = ℕ}) number_in
placed_number = placed_free is_solid (48 ∷ []) no_digit IsNumber number_in reads_number (placed_leaf is_solid 48 number_in (number_leaf is_solid refl))

pub placed_name : Within (97 ∷ []) (no_inner {A = List ℕ}) name_in
placed_name = placed_free is_solid (97 ∷ []) no_inner IsName name_in reads_name (placed_leaf is_solid 97 name_in (name_leaf is_solid refl))

pub placed_sign : (u : ℕ) → is_solid u ≡ true → Within (u ∷ []) (always {A = Unit {0}}) (sign_in u)
placed_sign u fine = placed_free is_solid (u ∷ []) always (Sign u) (sign_in u) (reads_sign u) (placed_leaf is_solid u (sign_in u) (sign_leaf is_solid u fine))

placed_minus : Within (49 ∷ []) (never {A = ℤ}) (signed_in true)
unfolding signed_in
placed_minus = placed_leaf is_solid 49 negative_in (negative_leaf is_solid refl)

placed_plain : Within (48 ∷ []) (never {A = ℤ}) (signed_in false)
unfolding signed_in
placed_plain = map_never is_solid (48 ∷ []) no_digit number_in (λ n. pos n) placed_number

pub placed_integer : Within (45 ∷ []) (no_digit {A = ℤ}) integer_in
unfolding integer_in
placed_integer = placed_free is_solid (45 ∷ []) no_digit IsInteger integer_in reads_integer
    (placed_perhaps is_solid 45 (49 ∷ []) (48 ∷ []) signed_in never placed_minus refl placed_plain.ok (λ bytes left e. later (placed_plain.err bytes left e)))

-- ---- degeneracies

placed_separator : Within (58 ∷ []) (always {A = Bool}) separator_in
placed_separator = placed_free is_solid (58 ∷ []) always Separator separator_in reads_separator (placed_leaf is_solid 58 separator_in (separator_leaf is_solid refl))

placed_next_degen : (more : Bool) → Within (48 ∷ []) (never {A = Option ℕ}) (next_degen_in more)
unfolding next_degen_in
placed_next_degen true = map_never is_solid (48 ∷ []) no_digit number_in (λ n. Some n) placed_number
placed_next_degen false = placed_done is_solid (48 ∷ []) never None

placed_degen : Within (58 ∷ []) degen_may degen_in
unfolding degen_in
placed_degen = placed_free is_solid (58 ∷ []) degen_may (Part (58 ∷ []) IsDegen) degen_in reads_degen
    (then_after is_solid always never separator_in (λ more. next_degen_in more.0 more.1) (58 ∷ []) placed_separator (λ v. Unit {0}) (λ v. 48 ∷ []) (λ bytes v rest e. tt) (separator_leaf is_solid refl).longer (λ v is. placed_next_degen v) (λ v t. refl))

degens_end : Ends is_solid (58 ∷ []) degen_in
unfolding degen_in separator_in next_degen_in
degens_end = record { bytes = 58 ∷ []; gives = refl; starts = refl; good = refl }

placed_degens : Within (48 ∷ []) (never {A = List ℕ}) degens_in
unfolding degens_in
placed_degens = then_after is_solid no_digit never number_in (λ n. until_at degen_in n.1 >>= λ more. Ok (n.0 ∷ more.0, more.1)) (48 ∷ []) placed_number (λ v. Unit {0}) (λ v. 58 ∷ []) (λ bytes v rest e. tt) (number_leaf is_solid refl).longer
    (λ n is. map_never is_solid (58 ∷ []) never (until_at degen_in) (λ more. n ∷ more) (placed_until is_solid (58 ∷ []) degen_may never degen_in degen_shorter placed_degen (λ x t. refl) (λ xs o c. absurd cc) degens_end))
    (λ v t. refl)

pub placed_prefix : Within (48 ∷ []) (no_digit {A = List ℕ}) prefix_in
unfolding prefix_in
placed_prefix = placed_free is_solid (48 ∷ []) no_digit IsPrefix prefix_in reads_prefix (placed_peek is_solid is_digit (48 ∷ []) never degens_in [] placed_degens refl)

pub placed_face : Within (48 ∷ 97 ∷ []) (never {A = FaceText}) face_in
unfolding face_in
placed_face = then_wide is_solid no_digit never prefix_in (λ word. name_in word.1 >>= λ name. Ok (record { word = word.0; name = name.0 }, name.1)) (48 ∷ []) placed_prefix (48 ∷ 97 ∷ []) (97 ∷ [])
    (λ word. map_never is_solid (97 ∷ []) no_inner name_in (λ name. record { word = word; name = name }) placed_name) (λ v t. refl) refl refl

-- ---- integers between bars

placed_barred : Within (45 ∷ []) (never {A = Option ℤ}) barred_in
unfolding barred_in
placed_barred = then_after is_solid no_digit never integer_in (λ n. sign_in 124 n.1 >>= λ bar. Ok (Some n.0, bar.1)) (45 ∷ []) placed_integer (λ v. Unit {0}) (λ v. 124 ∷ []) (λ bytes v rest e. tt) (far_of no_digit IsInteger integer_in is_integer_start reads_integer integer_starts)
    (λ n is. map_never is_solid (124 ∷ []) always (sign_in 124) (λ bar. Some n) (placed_sign 124 refl)) (λ v t. refl)

placed_int : Within (45 ∷ []) int_may int_in
unfolding int_in
placed_int = placed_free is_solid (45 ∷ []) int_may (Part [] IsBarred) int_in reads_int (placed_peek is_solid is_integer_start (45 ∷ []) never barred_in None placed_barred refl)

ints_end : Ends is_solid (45 ∷ []) int_in
unfolding int_in
ints_end = record { bytes = []; gives = refl; starts = refl; good = refl }

pub placed_ints : Within (45 ∷ []) (never {A = List ℤ}) (until_at int_in)
placed_ints = placed_until is_solid (45 ∷ []) int_may never int_in int_shorter placed_int (λ x t. refl) (λ xs o c. absurd cc) ints_end
