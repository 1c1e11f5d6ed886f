-- The next run: blanks, the run, and what ends it.
use Rattle.std.proofs.Common.{◌≡◌, ℕ, suc, ◌<◌, Bool, true, false, eqb, not, List, [], ◌∷◌, ◌++◌, length, take, drop, Ok, Err, refl, sym, ap, subst, ◌∙◌, append_assoc, arith, ◌||◌, ◌&&◌, inl, inr}
use Rattle.std.proofs.Math.Dec.{eqb-suc-zero}
use Rattle.std.proofs.lemmas.Bool.{eqb-true, eqb-false}
use Rattle.std.proofs.lemmas.List.{take-append-drop, take_at, drop_at}
use Rattle.std.proofs.lemmas.Bool.Decides.{nat_tests}
use Rattle.script_lang.specs.Bytes.{is_blank, is_parenthesis, is_semicolon}
use Rattle.script_lang.specs.Grammar.{Run, is_end, brackets_behind}
use Rattle.script_lang.specs.Scans.{after_blanks}
use Rattle.script_lang.specs.Lines.{word_len, run_len, next_at}
use Rattle.script_lang.proofs.Values.{both_true}
use Rattle.script_lang.proofs.Combine.{which, ok_parts}
use Rattle.script_lang.proofs.Runs.{begins_blank, after_blanks-begins}
use Rattle.script_lang.proofs.PlaceRules.{next}
use Rattle.script_lang.proofs.PlaceRuns.{ends, is_inside, depth, are_blanks, Stops, behind_parenthesis, behind_word, not_true, inside_word, ends_word, inside_append, depth_append, word_len_of}

pub record IsNextRun (bytes : List ℕ) (run : Run) (rest : List ℕ) : Type 0 where
  pub blanks : List ℕ
  pub are : are_blanks blanks ≡ true
  pub whole : bytes ≡ blanks ++ (run ++ rest)
  pub stops : Stops run rest

pub record HasNone (bytes : List ℕ) (left : ℕ) : Type 0 where
  pub blanks : List ℕ
  pub rest : List ℕ
  pub are : are_blanks blanks ≡ true
  pub whole : bytes ≡ blanks ++ rest
  pub left_is : length rest ≡ left
  pub only : (b : ℕ) (more : List ℕ) → rest ≡ b ∷ more → b ≡ 59

pub record Split (bytes : List ℕ) : Type 0 where
  pub blanks : List ℕ
  pub are : are_blanks blanks ≡ true
  pub whole : bytes ≡ blanks ++ after_blanks bytes

pub split : (bytes : List ℕ) → Split bytes
unfolding after_blanks
split [] = record { blanks = []; are = refl; whole = refl }
split (b ∷ bytes) = elim (which (is_blank b)) [
  | inl e ↦ let s = split bytes in record { blanks = b ∷ s.blanks; are = rw e s.are; whole = rw e (ap (λ (t : List ℕ). b ∷ t) s.whole) }
  | inr e ↦ record { blanks = []; are = refl; whole = rw e refl }
]

pub after_blanks_of : (blanks t : List ℕ) → are_blanks blanks ≡ true → begins_blank t ≡ false → after_blanks (blanks ++ t) ≡ t
unfolding after_blanks begins_blank
after_blanks_of [] [] e n = refl
after_blanks_of [] (b ∷ t) e n = rw n refl
after_blanks_of (b ∷ blanks) t e n = let p = both_true (is_blank b) (are_blanks blanks) e in rw p.0 (after_blanks_of blanks t p.1 n)

-- ---- the run at the front

run_parts : (t : List ℕ) → begins_blank t ≡ false → 0 < run_len t → Stops (take (run_len t) t) (drop (run_len t) t)
unfolding run_len word_len begins_blank
run_parts [] n lt = absurd (omega arith)
run_parts (b ∷ t) n lt = elim (which (is_parenthesis b)) [
  | inl p ↦ behind_parenthesis b p (rw p refl)
  | inr p ↦ elim (which (is_end 0 b)) [
    | inl q ↦ let none : run_len (b ∷ t) ≡ 0 = rw q (rw p refl) in absurd (omega arith)
    | inr q ↦
        let d = brackets_behind 0 b in
        let len : run_len (b ∷ t) ≡ suc (word_len d t) = rw q (rw p refl) in
        let first : is_inside 0 (b ∷ take (word_len d t) t) ≡ true = rw q (inside_word d t) in
        let word : Stops (b ∷ take (word_len d t) t) (drop (word_len d t) t) = behind_word b (take (word_len d t) t) refl first (ends_word d t) in
        subst (λ (k : ℕ). Stops (take k (b ∷ t)) (drop k (b ∷ t))) (sym len) word
  ]
]

no_run : (t : List ℕ) → begins_blank t ≡ false → run_len t ≡ 0 → (b : ℕ) (more : List ℕ) → t ≡ b ∷ more → b ≡ 59
unfolding run_len word_len begins_blank
no_run [] n z b more e = absurd cc
no_run (c ∷ t) n z b more e = elim (which (is_parenthesis c)) [
  | inl p ↦ let one : run_len (c ∷ t) ≡ 1 = rw p refl in absurd (omega arith)
  | inr p ↦ elim (which (is_semicolon c)) [
    | inl q ↦ let same : c ≡ b = cc in sym same ∙ eqb-true c 59 q
    | inr q ↦ let some : run_len (c ∷ t) ≡ suc (word_len (brackets_behind 0 c) t) = rw p (rw (q, n) refl) in absurd (omega arith)
  ]
]

pub next_ok : (bytes : List ℕ) (run : Run) (rest : List ℕ) → next_at bytes ≡ Ok (run, rest) → IsNextRun bytes run rest
unfolding next_at
next_ok bytes run rest e = elim (which (eqb (run_len (after_blanks bytes)) 0)) [
  | inl z ↦ absurd (let f = rw z at e in cc)
  | inr z ↦
      let t = after_blanks bytes in
      let f = rw z at e in
      let p = ok_parts (take (run_len t) t) run (drop (run_len t) t) rest f in
      let s = split bytes in
      let lt : 0 < run_len t = let n = eqb-false (run_len t) 0 z in omega arith in
      let stops = run_parts t (after_blanks-begins bytes) lt in
      record {
        blanks = s.blanks;
        are = s.are;
        whole = s.whole ∙ ap (λ (u : List ℕ). s.blanks ++ u) (sym (take-append-drop (run_len t) t) ∙ (rw (p.0, p.1) refl));
        stops = subst (λ (u : List ℕ). Stops run u) p.1 (subst (λ (u : List ℕ). Stops u (drop (run_len t) t)) p.0 stops);
      }
]

pub next_err : (bytes : List ℕ) (left : ℕ) → next_at bytes ≡ Err left → HasNone bytes left
unfolding next_at
next_err bytes left e = elim (which (eqb (run_len (after_blanks bytes)) 0)) [
  | inl z ↦
      let t = after_blanks bytes in
      let f = rw z at e in
      let s = split bytes in
      record { blanks = s.blanks; rest = t; are = s.are; whole = s.whole; left_is = cc; only = no_run t (after_blanks-begins bytes) (eqb-true (run_len t) 0 z) }
  | inr z ↦ absurd (let f = rw z at e in cc)
]

next_of : (bytes t : List ℕ) (len : ℕ) → after_blanks bytes ≡ t → run_len t ≡ suc len → next_at bytes ≡ Ok (take (suc len) t, drop (suc len) t)
unfolding next_at
next_of bytes t len e l = rw (e, l, eqb-suc-zero len) refl

parenthesis_not_blank : (b : ℕ) → is_parenthesis b ≡ true → is_blank b ≡ false
parenthesis_not_blank b p = grind (arith, nat_tests)

pub next_parenthesis : (blanks : List ℕ) (b : ℕ) (rest : List ℕ) → are_blanks blanks ≡ true → is_parenthesis b ≡ true → next_at (blanks ++ (b ∷ rest)) ≡ Ok (b ∷ [], rest)
unfolding run_len begins_blank
next_parenthesis blanks b rest are p =
    let n : is_blank b ≡ false = parenthesis_not_blank b p in
    next_of (blanks ++ (b ∷ rest)) (b ∷ rest) 0 (after_blanks_of blanks (b ∷ rest) are n) (rw p refl)

run_is_word : (b : ℕ) (t : List ℕ) → is_parenthesis b ≡ false → run_len (b ∷ t) ≡ word_len 0 (b ∷ t)
unfolding run_len
run_is_word b t p = rw p refl

-- what ends no run outside of brackets is no blank
not_blank_in : (a b : Bool) → (a || (b && true)) ≡ false → b ≡ false
not_blank_in true b e = absurd cc
not_blank_in false true e = absurd cc
not_blank_in false false e = refl

not_first : (a b c : Bool) → ((a || b) || c) ≡ false → a ≡ false
not_first true b c e = absurd cc
not_first false b c e = refl

pub next_word : (blanks : List ℕ) (b : ℕ) (w rest : List ℕ) → are_blanks blanks ≡ true → is_inside 0 (b ∷ w) ≡ true → ends (depth 0 (b ∷ w)) (next rest) ≡ true → next_at (blanks ++ (b ∷ (w ++ rest))) ≡ Ok (b ∷ w, rest)
unfolding begins_blank
next_word blanks b w rest are in_word stop =
    let q : is_end 0 b ≡ false = not_true (is_end 0 b) (both_true (not (is_end 0 b)) (is_inside (brackets_behind 0 b) w) in_word).0 in
    let i = not_first (is_parenthesis b) (is_semicolon b) (is_blank b && true) q in
    let n : is_blank b ≡ false = not_blank_in (is_parenthesis b || is_semicolon b) (is_blank b) q in
    let len : run_len (b ∷ (w ++ rest)) ≡ suc (length w) = run_is_word b (w ++ rest) i ∙ word_len_of 0 (b ∷ w) rest in_word stop in
    next_of (blanks ++ (b ∷ (w ++ rest))) (b ∷ (w ++ rest)) (length w) (after_blanks_of blanks (b ∷ (w ++ rest)) are n) len ∙ (rw (take_at w rest (length w) refl, drop_at w rest (length w) refl) refl)

pub next_run : (blanks : List ℕ) (run : Run) (rest : List ℕ) → are_blanks blanks ≡ true → Stops run rest → next_at (blanks ++ (run ++ rest)) ≡ Ok (run, rest)
next_run blanks run rest are (behind_parenthesis b p e) = rw e (next_parenthesis blanks b rest are p)
next_run blanks run rest are (behind_word b w e i stop) = rw e (next_word blanks b w rest are (subst (λ (r : Run). is_inside 0 r ≡ true) e i) (subst (λ (r : Run). ends (depth 0 r) (next rest) ≡ true) e stop))

-- a line whose command is over has no next run
pub next_none : (blanks other : List ℕ) (x : Run × List ℕ) → are_blanks blanks ≡ true → next_at (blanks ++ (59 ∷ other)) ≡ Ok x → ⊥
unfolding next_at run_len word_len begins_blank
next_none blanks other x are e =
    let a : after_blanks (blanks ++ (59 ∷ other)) ≡ 59 ∷ other = after_blanks_of blanks (59 ∷ other) are refl in
    let f = rw a at e in cc

-- ---- a front of a run

-- a run whose front stays grows to a run with this front
pub record Grown (bytes : List ℕ) (front : List ℕ) : Type 0 where
  pub more : List ℕ
  pub rest : List ℕ
  pub gives : next_at bytes ≡ Ok (front ++ more, rest)

-- a front of a word, and any bytes behind it
grown_word : (blanks : List ℕ) (b : ℕ) (w other : List ℕ) → are_blanks blanks ≡ true → is_inside 0 (b ∷ w) ≡ true → Grown (blanks ++ (b ∷ (w ++ other))) (b ∷ w)
grown_word blanks b w other are inside =
    let d = depth 0 (b ∷ w) in
    let m = take (word_len d other) other in
    let z = drop (word_len d other) other in
    let all : is_inside 0 ((b ∷ w) ++ m) ≡ true = inside_append 0 (b ∷ w) m inside (inside_word d other) in
    let stop : ends (depth 0 ((b ∷ w) ++ m)) (next z) ≡ true = ap (λ (k : ℕ). ends k (next z)) (depth_append 0 (b ∷ w) m) ∙ ends_word d other in
    let near = next_word blanks b (w ++ m) z are all stop in
    let same : (w ++ m) ++ z ≡ w ++ other = append_assoc w m z ∙ ap (λ (t : List ℕ). w ++ t) (take-append-drop (word_len d other) other) in
    record { more = m; rest = z; gives = subst (λ (t : List ℕ). next_at (blanks ++ (b ∷ t)) ≡ Ok (b ∷ (w ++ m), z)) same near }

-- a front of a word, its next byte, and any bytes behind it
pub grown : (blanks front : List ℕ) (b : ℕ) (other : List ℕ) → are_blanks blanks ≡ true → is_inside 0 (front ++ b ∷ []) ≡ true → (more rest : List ℕ) × (next_at (blanks ++ (front ++ b ∷ other)) ≡ Ok (front ++ b ∷ more, rest))
grown blanks [] b other are inside = let g = grown_word blanks b [] other are inside in (g.more, g.rest, g.gives)
grown blanks (c ∷ front) b other are inside =
    let g = grown_word blanks c (front ++ b ∷ []) other are inside in
    let left : (front ++ b ∷ []) ++ other ≡ front ++ b ∷ other = append_assoc front (b ∷ []) other in
    let right : (front ++ b ∷ []) ++ g.more ≡ front ++ b ∷ g.more = append_assoc front (b ∷ []) g.more in
    (g.more, g.rest, subst (λ (t : List ℕ). next_at (blanks ++ (c ∷ (front ++ b ∷ other))) ≡ Ok (c ∷ t, g.rest)) right (subst (λ (t : List ℕ). next_at (blanks ++ (c ∷ t)) ≡ Ok (c ∷ ((front ++ b ∷ []) ++ g.more), g.rest)) left g.gives))
