-- Where numbers, names, integers, faces and simplices go wrong as runs of a line.
use Rattle.std.proofs.Common.{◌≡◌, ℕ, Bool, true, false, not, eqb, ◌||◌, ◌&&◌, List, [], ◌∷◌, ◌++◌, length, Ok, Err, refl, sym, ap, subst, ◌∙◌, inl, inr}
use Rattle.std.proofs.lemmas.Bool.{eqb-true}
use Rattle.std.proofs.lemmas.List.{nil_from_length}
use Rattle.std.specs.Prelude.{ℤ, pos, negsuc}
use Rattle.std.specs.List.{list_all}
use Rattle.script_lang.specs.Bytes.{is_parenthesis, is_digit, is_letter, is_inner, is_name, is_numeral, IsInteger}
use Rattle.script_lang.specs.Grammar.{Run, brackets_behind}
use Rattle.script_lang.specs.Readings.{Reading, Judged, judged, whole}
use Rattle.script_lang.specs.Words.{number_of, name_of, integer_of}
use Rattle.script_lang.proofs.Values.{both_true}
use Rattle.script_lang.proofs.Combine.{which}
use Rattle.script_lang.proofs.Inner.{Starts}
use Rattle.script_lang.proofs.Judges.{judging_number, judging_name, judging_integer}
use Rattle.script_lang.proofs.PlaceRules.{next}
use Rattle.script_lang.proofs.PlaceScans.{is_solid, Within}
use Rattle.script_lang.proofs.PlaceRuns.{ends, is_inside, depth, IsRun, parenthesis, word, inside_append, inside_front, solid_inside}
use Rattle.script_lang.proofs.PlaceWords.{soft, Begun}

-- ---- runs without brackets

abbrev pub is_plain : ℕ → Bool
is_plain b = not (eqb b 91 || eqb b 93)

brackets_plain : (d b : ℕ) → is_plain b ≡ true → brackets_behind d b ≡ d
brackets_plain d b e = elim (which (eqb b 91)) [
  | inl t ↦ absurd (let f = rw t at e in cc)
  | inr n ↦ elim (which (eqb b 93)) [
    | inl t ↦ absurd (let f = rw (n, t) at e in cc)
    | inr m ↦ rw (n, m) refl
  ]
]

pub plain_depth : (d : ℕ) (w : List ℕ) → list_all is_plain w ≡ true → depth d w ≡ d
plain_depth d [] e = refl
plain_depth d (b ∷ w) e =
    let p = both_true (is_plain b) (list_all is_plain w) e in
    ap (λ (k : ℕ). depth k w) (brackets_plain d b p.0) ∙ plain_depth d w p.1

plain_by : (q : ℕ → Bool) → q 91 ≡ false → q 93 ≡ false → (b : ℕ) → q b ≡ true → is_plain b ≡ true
plain_by q x y b e = elim (which (eqb b 91)) [
  | inl t ↦ absurd (let f = sym (ap q (eqb-true b 91 t)) ∙ e in let g = sym x ∙ f in cc)
  | inr n ↦ elim (which (eqb b 93)) [
    | inl t ↦ absurd (let f = sym (ap q (eqb-true b 93 t)) ∙ e in let g = sym y ∙ f in cc)
    | inr m ↦ rw (n, m) refl
  ]
]

all_as : (p q : ℕ → Bool) → ((b : ℕ) → p b ≡ true → q b ≡ true) → (w : List ℕ) → list_all p w ≡ true → list_all q w ≡ true
all_as p q so [] e = refl
all_as p q so (b ∷ w) e = let r = both_true (p b) (list_all p w) e in let s = so b r.0 in rw s (all_as p q so w r.1)

pub soft_behind : {A : Type 0} (run : Run) (v : A) (o : List ℕ) → depth 0 run ≡ 0 → soft v o ≡ true → ends (depth 0 run) (next o) ≡ true
soft_behind run v o flat m = ap (λ (d : ℕ). ends d (next o)) flat ∙ m

name_plain : (run : Run) → is_name run ≡ true → list_all is_plain run ≡ true
unfolding is_name
name_plain [] e = refl
name_plain (b ∷ bytes) e =
    let p = both_true _ (is_letter b && list_all is_inner bytes) e in
    let q = both_true (is_letter b) (list_all is_inner bytes) p.1 in
    let first = plain_by is_letter refl refl b q.0 in
    rw first (all_as is_inner is_plain (plain_by is_inner refl refl) bytes q.1)

numeral_plain : (run : Run) → is_numeral run ≡ true → list_all is_plain run ≡ true
unfolding is_numeral
numeral_plain [] e = refl
numeral_plain (b ∷ bytes) e = elim (which (eqb b 48)) [
  | inl t ↦ let f = rw t at e in rw (eqb-true b 48 t) (rw (nil_from_length bytes (eqb-true (length bytes) 0 f)) refl)
  | inr n ↦
      let f = rw n at e in
      let p = both_true _ (is_digit b && list_all is_digit bytes) f in
      let q = both_true (is_digit b) (list_all is_digit bytes) p.1 in
      let first = plain_by is_digit refl refl b q.0 in
      rw first (all_as is_digit is_plain (plain_by is_digit refl refl) bytes q.1)
]

pub name_flat : (run v : List ℕ) → name_of run ≡ Ok v → depth 0 run ≡ 0
name_flat run v e = let n = judging_name.is run v e in plain_depth 0 run (name_plain run n.is)

pub number_flat : (run : Run) (v : ℕ) → number_of run ≡ Ok v → depth 0 run ≡ 0
number_flat run v e = let n = judging_number.is run v e in plain_depth 0 run (numeral_plain run n.digits)

integer_plain : (run : Run) (v : ℤ) → IsInteger run v → list_all is_plain run ≡ true
integer_plain run (pos n) is = numeral_plain run is.digits
integer_plain run (negsuc n) is = rw is.1 (numeral_plain is.0 is.2.digits)

pub integer_flat : (run : Run) (v : ℤ) → integer_of run ≡ Ok v → depth 0 run ≡ 0
integer_flat run v e = plain_depth 0 run (integer_plain run v (judging_integer.is run v e))

-- ---- the whole of a run

-- no parenthesis begins what is read
abbrev pub Open : {A : Type 0} → (Run → Judged A) → Type 0
Open {A} judge = (p : ℕ) (other : List ℕ) (v : A) → is_parenthesis p ≡ true → judge (p ∷ other) ≡ Ok v → ⊥

parenthesis_not : (q : ℕ → Bool) → q 40 ≡ false → q 41 ≡ false → (p : ℕ) → is_parenthesis p ≡ true → q p ≡ false
parenthesis_not q x y p e = elim (which (eqb p 40)) [
  | inl t ↦ ap q (eqb-true p 40 t) ∙ x
  | inr n ↦ let f = rw n at e in ap q (eqb-true p 41 f) ∙ y
]

pub open_by : {A : Type 0} (q : ℕ → Bool) (L : Run → A → Type 0) (judge : Run → Judged A) → ((run : Run) (v : A) → judge run ≡ Ok v → L run v) → ((front : Run) (v : A) → L front v → Starts q front) → q 40 ≡ false → q 41 ≡ false → Open judge
open_by q L judge is starts x y p other v par e =
    let s = starts (p ∷ other) v (is (p ∷ other) v e) in
    let same : p ≡ s.head = (let w = s.whole in cc) in
    let bad = sym (parenthesis_not q x y p par) ∙ ap q same ∙ s.is in cc

judged_end : {A : Type 0} (r : Reading A) (v : A) → judged r ≡ Ok v → r ≡ Ok (v, [])
judged_end (Ok (x, [])) v e = let same : x ≡ v = cc in rw same refl
judged_end (Ok (x, b ∷ rest)) v e = absurd cc
judged_end (Err left) v e = absurd cc

-- a front of a run that is taken for something is the front of a word
pub front_run : {A : Type 0} (judge : Run → Judged A) → Open judge → (run front rest more : Run) (v : A) (c : ℕ) (tail : List ℕ) → IsRun run → run ≡ front ++ rest → front ≡ c ∷ tail → list_all is_solid more ≡ true → judge (front ++ more) ≡ Ok v → IsRun (front ++ more)
front_run judge closed run front rest more v c tail (parenthesis p par e) w f good d =
    let h : p ∷ [] ≡ c ∷ (tail ++ rest) = sym e ∙ w ∙ ap (λ (t : List ℕ). t ++ rest) f in
    let same : p ≡ c = cc in
    absurd (closed c (tail ++ more) v (subst (λ (x : ℕ). is_parenthesis x ≡ true) same par) (subst (λ (t : List ℕ). judge (t ++ more) ≡ Ok v) f d))
front_run judge closed run front rest more v c tail (word b u e i) w f good d =
    let inside = inside_front 0 front rest (subst (λ (t : List ℕ). is_inside 0 t ≡ true) w i) in
    word c (tail ++ more) (ap (λ (t : List ℕ). t ++ more) f) (inside_append 0 front more inside (solid_inside (depth 0 front) more good))

module _ {A : Type 0} (cs : List ℕ) (may : A → List ℕ → Bool) (read : List ℕ → Reading A) (placed : Within cs may read) (last : (v : A) → may v [] ≡ true) (closed : Open (whole read)) where
  begun_err : (run : Run) (left : ℕ) → IsRun run → read run ≡ Err left → Begun (whole read) run left
  begun_err run left is e =
      let s = placed.err run left e in
      record {
        front = s.front;
        rest = s.rest;
        whole = s.whole;
        left_is = s.left_is;
        hope = λ c tail f.
            let d : judged (read (s.front ++ s.more)) ≡ Ok s.value = ap judged s.gives in
            record { more = s.more; value = s.value; gives = d; is_run = front_run (whole read) closed run s.front s.rest s.more s.value c tail is s.whole f s.good d };
        dead = λ b after other v w d. s.dead b after other v [] w (judged_end (read (s.front ++ b ∷ other)) v d);
      }

  begun_ok : (run : Run) (v : A) (b : ℕ) (rest : List ℕ) → IsRun run → read run ≡ Ok (v, b ∷ rest) → Begun (whole read) run (length (b ∷ rest))
  begun_ok run v b rest is e =
      let f = placed.ok run v (b ∷ rest) e in
      record {
        front = f.front;
        rest = b ∷ rest;
        whole = f.whole;
        left_is = refl;
        hope = λ c tail w.
            let d : judged (read (f.front ++ [])) ≡ Ok v = ap judged (f.free [] (last v)) in
            record { more = []; value = v; gives = d; is_run = front_run (whole read) closed run f.front (b ∷ rest) [] v c tail is f.whole w refl d };
        dead = λ c after other w same d.
            let g : read (f.front ++ c ∷ other) ≡ Ok (v, c ∷ other) = f.same (c ∷ other) (ap next (sym same)) in
            let bad = sym (ap judged g) ∙ d in cc;
      }

  begun_at : (run : Run) (left : ℕ) (r : Reading A) → IsRun run → read run ≡ r → judged r ≡ Err left → Begun (whole read) run left
  begun_at run left (Ok (v, [])) is e d = absurd cc
  begun_at run left (Ok (v, b ∷ rest)) is e d = let same : length (b ∷ rest) ≡ left = cc in subst (Begun (whole read) run) same (begun_ok run v b rest is e)
  begun_at run left (Err l) is e d = let same : l ≡ left = cc in begun_err run left is (e ∙ ap Err same)

  pub whole_begun : (run : Run) (left : ℕ) → IsRun run → whole read run ≡ Err left → Begun (whole read) run left
  whole_begun run left is d = begun_at run left (read run) is refl d
