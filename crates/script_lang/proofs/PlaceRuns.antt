-- Runs and what ends them, behind the brackets that are open there.
use Rattle.std.proofs.Common.{◌≡◌, ℕ, suc, Bool, true, false, eqb, not, List, [], ◌∷◌, ◌++◌, length, take, drop, Option, Some, None, refl, ap, ◌||◌, ◌&&◌, inl, inr}
use Rattle.std.specs.List.{list_all}
use Rattle.script_lang.specs.Bytes.{is_blank, is_parenthesis, is_semicolon}
use Rattle.script_lang.specs.Grammar.{Run, is_end, brackets_behind}
use Rattle.script_lang.specs.Lines.{word_len}
use Rattle.script_lang.proofs.Values.{both_true}
use Rattle.script_lang.proofs.Combine.{which}
use Rattle.script_lang.proofs.PlaceRules.{next}
use Rattle.script_lang.proofs.PlaceScans.{is_solid}

-- may a word end here, behind so many open brackets?
abbrev pub ends : ℕ → Option ℕ → Bool
ends brackets None = true
ends brackets (Some b) = is_end brackets b

-- no byte of a word ends it
abbrev pub is_inside : ℕ → List ℕ → Bool
is_inside brackets [] = true
is_inside brackets (b ∷ bytes) = not (is_end brackets b) && is_inside (brackets_behind brackets b) bytes

-- how many brackets are open behind a word
abbrev pub depth : ℕ → List ℕ → ℕ
depth brackets [] = brackets
depth brackets (b ∷ bytes) = depth (brackets_behind brackets b) bytes

abbrev pub are_blanks : List ℕ → Bool
are_blanks = list_all is_blank

-- a run is one parenthesis, or a word
pub data IsRun (run : Run) : Type 0 where
  parenthesis : (b : ℕ) → is_parenthesis b ≡ true → run ≡ b ∷ [] → IsRun run
  word : (b : ℕ) (bytes : List ℕ) → run ≡ b ∷ bytes → is_inside 0 run ≡ true → IsRun run

-- what may stand behind a run
pub data Stops (run : Run) (rest : List ℕ) : Type 0 where
  behind_parenthesis : (b : ℕ) → is_parenthesis b ≡ true → run ≡ b ∷ [] → Stops run rest
  behind_word : (b : ℕ) (bytes : List ℕ) → run ≡ b ∷ bytes → is_inside 0 run ≡ true → ends (depth 0 run) (next rest) ≡ true → Stops run rest

-- ---- a word at the front

pub not_true : (b : Bool) → not b ≡ true → b ≡ false
not_true true e = absurd cc
not_true false e = refl

pub inside_word : (d : ℕ) (t : List ℕ) → is_inside d (take (word_len d t) t) ≡ true
unfolding word_len
inside_word d [] = refl
inside_word d (b ∷ t) = elim (which (is_end d b)) [
  | inl e ↦ rw e refl
  | inr e ↦ rw e (rw e (inside_word (brackets_behind d b) t))
]

pub ends_word : (d : ℕ) (t : List ℕ) → ends (depth d (take (word_len d t) t)) (next (drop (word_len d t) t)) ≡ true
unfolding word_len
ends_word d [] = refl
ends_word d (b ∷ t) = elim (which (is_end d b)) [
  | inl e ↦ rw e e
  | inr e ↦ rw e (ends_word (brackets_behind d b) t)
]

pub inside_append : (d : ℕ) (w u : List ℕ) → is_inside d w ≡ true → is_inside (depth d w) u ≡ true → is_inside d (w ++ u) ≡ true
inside_append d [] u e f = f
inside_append d (b ∷ w) u e f = let p = both_true (not (is_end d b)) (is_inside (brackets_behind d b) w) e in rw p.0 (inside_append (brackets_behind d b) w u p.1 f)

pub inside_front : (d : ℕ) (w u : List ℕ) → is_inside d (w ++ u) ≡ true → is_inside d w ≡ true
inside_front d [] u e = refl
inside_front d (b ∷ w) u e = let p = both_true (not (is_end d b)) (is_inside (brackets_behind d b) (w ++ u)) e in rw p.0 (inside_front (brackets_behind d b) w u p.1)

pub depth_append : (d : ℕ) (w u : List ℕ) → depth d (w ++ u) ≡ depth (depth d w) u
depth_append d [] u = refl
depth_append d (b ∷ w) u = depth_append (brackets_behind d b) w u

-- solid bytes end nothing
not_both : (a b : Bool) → not (a || b) ≡ true → (c : Bool) → not (a || (b && c)) ≡ true
not_both true b e c = absurd cc
not_both false true e c = absurd cc
not_both false false e c = refl

solid_any : (d b : ℕ) → is_solid b ≡ true → not (is_end d b) ≡ true
solid_any d b e = not_both (is_parenthesis b || is_semicolon b) (is_blank b) (at_zero (is_parenthesis b || is_semicolon b) (is_blank b) e) (eqb d 0)
  where
    at_zero : (a b : Bool) → not (a || (b && true)) ≡ true → not (a || b) ≡ true
    at_zero true b e = absurd cc
    at_zero false true e = absurd cc
    at_zero false false e = refl

pub solid_inside : (d : ℕ) (w : List ℕ) → list_all is_solid w ≡ true → is_inside d w ≡ true
solid_inside d [] e = refl
solid_inside d (b ∷ w) e = let p = both_true (is_solid b) (list_all is_solid w) e in let s = solid_any d b p.0 in rw s (solid_inside (brackets_behind d b) w p.1)

pub word_len_of : (d : ℕ) (w rest : List ℕ) → is_inside d w ≡ true → ends (depth d w) (next rest) ≡ true → word_len d (w ++ rest) ≡ length w
unfolding word_len
word_len_of d [] [] e n = refl
word_len_of d [] (b ∷ rest) e n = rw n refl
word_len_of d (b ∷ w) rest e n =
    let p = both_true (not (is_end d b)) (is_inside (brackets_behind d b) w) e in
    let q : is_end d b ≡ false = not_true (is_end d b) p.0 in
    rw q (ap suc (word_len_of (brackets_behind d b) w rest p.1 n))
