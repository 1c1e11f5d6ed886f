-- Where simplices go wrong.
use Rattle.std.proofs.Common.{◌≡◌, ℕ, zero, suc, true, List, [], ◌∷◌, Ok, refl, arith}
use Rattle.std.specs.List.{list_all}
use Rattle.script_lang.specs.declared.simplices.SimplexText.{SimplexText}
use Rattle.script_lang.specs.declared.simplices.BodyText.{BodyText}
use Rattle.script_lang.specs.declared.simplices.BodyText.TheVariants as bodies
use Rattle.script_lang.specs.declared.scan.BodySign.{BodySign}
use Rattle.script_lang.specs.declared.scan.BodySign.TheVariants as signs
use Rattle.script_lang.specs.Simplices.{IsSign, IsSimplexIn}
use Rattle.script_lang.specs.Readings.{Reading, ◌>>=◌, until_at}
use Rattle.script_lang.specs.Scans.{sign_in, prefix_in, int_in, word_in, pair_in, behind_in, head_in, body_in, simplex_over, simplex_in}
use Rattle.script_lang.proofs.Combine.{always}
use Rattle.script_lang.proofs.Fronts.{no_digit}
use Rattle.script_lang.proofs.Inner.{Scans, Starts}
use Rattle.script_lang.proofs.Bodies.{is_start, simplex_end, head_may, reads_head, simplex_starts, reads_simplex}
use Rattle.script_lang.proofs.PlaceRules.{never, placed_done}
use Rattle.script_lang.proofs.PlacePhrases.{map_never, then_after, then_wide}
use Rattle.script_lang.proofs.PlaceLeaves.{placed_leaf, placed_free}
use Rattle.script_lang.proofs.PlaceSigns.{sign_leaf, head_leaf}
use Rattle.script_lang.proofs.PlaceNumbers.{name_leaf}
use Rattle.script_lang.proofs.PlaceScans.{is_solid, Within, placed_sign, placed_prefix, placed_ints}
use Rattle.script_lang.proofs.PlaceLetters.{placed_word}

abbrev pub simplex_firsts : List ℕ
simplex_firsts = 48 ∷ 42 ∷ []

abbrev pub behind_firsts : BodySign → List ℕ
behind_firsts signs.Star = []
behind_firsts (signs.Name name) = []
behind_firsts signs.Up = simplex_firsts
behind_firsts signs.Pair = 48 ∷ 42 ∷ 44 ∷ []
behind_firsts signs.Ints = 45 ∷ []
behind_firsts signs.Word = 93 ∷ []

module _ (IsPart : List ℕ → SimplexText → Type 0) (part : List ℕ → Reading SimplexText) (one : Scans (simplex_end {A = SimplexText}) IsPart part) (part_starts : (front : List ℕ) (x : SimplexText) → IsPart front x → Starts is_start front) (placed : Within simplex_firsts (simplex_end {A = SimplexText}) part) where
  placed_pair : Within (48 ∷ 42 ∷ 44 ∷ []) (never {A = BodyText}) (pair_in part)
  unfolding pair_in
  placed_pair =
      then_wide is_solid simplex_end never part (λ x. sign_in 44 x.1 >>= λ comma. part comma.1 >>= λ y. sign_in 62 y.1 >>= λ end. Ok (bodies.Pair x.0 y.0, end.1)) simplex_firsts placed (48 ∷ 42 ∷ 44 ∷ []) (44 ∷ [])
      (λ x. then_after is_solid always never (sign_in 44) (λ comma. part comma.1 >>= λ y. sign_in 62 y.1 >>= λ end. Ok (bodies.Pair x y.0, end.1)) (44 ∷ []) (placed_sign 44 refl) (λ v. Unit {0}) (λ v. 48 ∷ 42 ∷ 62 ∷ []) (λ bytes v rest e. tt) (sign_leaf is_solid 44 refl).longer
      (λ v is. then_wide is_solid simplex_end never part (λ y. sign_in 62 y.1 >>= λ end. Ok (bodies.Pair x y.0, end.1)) simplex_firsts placed (48 ∷ 42 ∷ 62 ∷ []) (62 ∷ [])
      (λ y. map_never is_solid (62 ∷ []) always (sign_in 62) (λ end. bodies.Pair x y) (placed_sign 62 refl)) (λ v t. refl) refl refl)
      (λ v t. refl))
      (λ v t. refl) refl refl

  placed_behind : (sign : BodySign) → Within (behind_firsts sign) (never {A = BodyText}) (behind_in part sign)
  unfolding behind_in
  placed_behind signs.Star = placed_done is_solid [] never bodies.Star
  placed_behind (signs.Name name) = placed_done is_solid [] never (bodies.Name name)
  placed_behind signs.Up = map_never is_solid simplex_firsts simplex_end part (λ x. bodies.Up x) placed
  placed_behind signs.Pair = placed_pair
  placed_behind signs.Ints = map_never is_solid (45 ∷ []) never (until_at int_in) (λ list. bodies.Ints list) placed_ints
  placed_behind signs.Word = map_never is_solid (93 ∷ []) never (word_in part) (λ letters. bodies.Word letters) (placed_word IsPart part one part_starts placed)

-- ---- the body, whose sign says what comes behind it

pub record IsSignOf (room : ℕ) (sign : BodySign) : Type 0 where
  pub front : List ℕ
  pub is : IsSign room front sign

sign_of_head : (room : ℕ) (bytes : List ℕ) (v : BodySign) (rest : List ℕ) → head_in room bytes ≡ Ok (v, rest) → IsSignOf room v
sign_of_head room bytes v rest e = let t = (reads_head room).takes bytes v rest e in record { front = t.front; is = t.is }

placed_head : (room : ℕ) → Within (42 ∷ []) head_may (head_in room)
placed_head room = placed_free is_solid (42 ∷ []) head_may (IsSign room) (head_in room) (reads_head room) (placed_leaf is_solid 42 (head_in room) (head_leaf is_solid 97 (name_leaf is_solid refl) room is_solid refl))

behind_seam : (v : BodySign) (t : List ℕ) → list_all (λ c. head_may v (c ∷ t)) (behind_firsts v) ≡ true
behind_seam signs.Star t = refl
behind_seam (signs.Name name) t = refl
behind_seam signs.Up t = refl
behind_seam signs.Pair t = refl
behind_seam signs.Ints t = refl
behind_seam signs.Word t = refl

placed_body : (room : ℕ) (part : List ℕ → Reading SimplexText) → ((v : BodySign) → IsSignOf room v → Within (behind_firsts v) (never {A = BodyText}) (behind_in part v)) → Within (42 ∷ []) (never {A = BodyText}) (body_in room part)
unfolding body_in
placed_body room part behind = then_after is_solid head_may never (head_in room) (λ sign. behind_in part sign.0 sign.1) (42 ∷ []) (placed_head room) (IsSignOf room) behind_firsts (sign_of_head room) (head_leaf is_solid 97 (name_leaf is_solid refl) room is_solid refl).longer behind behind_seam

placed_over : (room : ℕ) (part : List ℕ → Reading SimplexText) → ((v : BodySign) → IsSignOf room v → Within (behind_firsts v) (never {A = BodyText}) (behind_in part v)) → Within simplex_firsts (never {A = SimplexText}) (simplex_over room part)
unfolding simplex_over
placed_over room part behind = then_wide is_solid no_digit never prefix_in (λ degens. body_in room part degens.1 >>= λ body. Ok (record { degens = degens.0; body = body.0 }, body.1)) (48 ∷ []) placed_prefix simplex_firsts (42 ∷ [])
    (λ degens. map_never is_solid (42 ∷ []) never (body_in room part) (λ body. record { degens = degens; body = body }) (placed_body room part behind)) (λ v t. refl) refl refl

-- ---- simplices

-- with no room nothing is enclosed
behind_zero : (part : List ℕ → Reading SimplexText) (v : BodySign) → IsSignOf zero v → Within (behind_firsts v) (never {A = BodyText}) (behind_in part v)
unfolding behind_in
behind_zero part signs.Star s = placed_done is_solid [] never bodies.Star
behind_zero part (signs.Name name) s = placed_done is_solid [] never (bodies.Name name)
behind_zero part signs.Up s = absurd (let lt = s.is.1 in omega arith)
behind_zero part signs.Pair s = absurd (let lt = s.is.1 in omega arith)
behind_zero part signs.Ints s = map_never is_solid (45 ∷ []) never (until_at int_in) (λ list. bodies.Ints list) placed_ints
behind_zero part signs.Word s = absurd (let lt = s.is.1 in omega arith)

placed_bare_zero : Within simplex_firsts (never {A = SimplexText}) (simplex_in (suc zero))
unfolding simplex_in
placed_bare_zero = placed_over zero (simplex_in zero) (behind_zero (simplex_in zero))

placed_bare : (room : ℕ) → Within simplex_firsts (simplex_end {A = SimplexText}) (simplex_in (suc room)) → Within simplex_firsts (never {A = SimplexText}) (simplex_in (suc (suc room)))
unfolding simplex_in
placed_bare room placed = placed_over (suc room) (simplex_in (suc room)) (λ v is. placed_behind (IsSimplexIn room) (simplex_in (suc room)) (reads_simplex room) (simplex_starts room) placed v)

pub placed_simplex : (room : ℕ) → Within simplex_firsts (simplex_end {A = SimplexText}) (simplex_in (suc room))
placed_simplex zero = placed_free is_solid simplex_firsts simplex_end (IsSimplexIn zero) (simplex_in (suc zero)) (reads_simplex zero) placed_bare_zero
placed_simplex (suc room) = placed_free is_solid simplex_firsts simplex_end (IsSimplexIn (suc room)) (simplex_in (suc (suc room))) (reads_simplex (suc room)) (placed_bare room (placed_simplex room))
