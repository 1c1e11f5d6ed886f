-- Lines that have no run.
use Rattle.std.proofs.Common.{◌≡◌, ℕ, Bool, true, false, cond, ◌&&◌, ◌||◌, List, [], ◌∷◌, ◌++◌, refl, sym, ap, ◌∙◌, inl, inr}
use Rattle.script_lang.specs.Bytes.{is_blank, is_parenthesis, is_semicolon}
use Rattle.script_lang.specs.Grammar.{Run, runs, runs_behind, goes_on, onto_first, brackets_behind}
use Rattle.script_lang.specs.Scans.{after_blanks}
use Rattle.script_lang.proofs.Values.{both_true}
use Rattle.script_lang.proofs.Combine.{which}
use Rattle.script_lang.proofs.Runs.{runs-after_blanks}
use Rattle.script_lang.proofs.PlaceRuns.{are_blanks}
use Rattle.script_lang.proofs.PlaceWords.{soft}

onto_some : (b : ℕ) (rs : List Run) → onto_first b rs ≡ [] → ⊥
onto_some b [] e = cc
onto_some b (r ∷ rs) e = cc

no_first : (b : ℕ) (bytes rest : List ℕ) (d : ℕ) (on : Bool) → cond on (onto_first b (runs_behind d bytes)) ((b ∷ []) ∷ runs_behind 0 rest) ≡ [] → ⊥
no_first b bytes rest d true e = onto_some b (runs_behind d bytes) e
no_first b bytes rest d false e = cc

-- the first byte of a line without a run is a blank, or a semicolon
first_none : (b : ℕ) (bytes : List ℕ) → runs_behind 0 (b ∷ bytes) ≡ [] → is_blank b ≡ false → (is_parenthesis b ≡ false) × (is_semicolon b ≡ true)
unfolding runs_behind
first_none b bytes none n = elim (which (is_parenthesis b)) [
  | inl p ↦ absurd (let f = rw p at none in cc)
  | inr p ↦ elim (which (is_semicolon b)) [
    | inl s ↦ (p, s)
    | inr s ↦ absurd (no_first b bytes bytes (brackets_behind 0 b) (goes_on (brackets_behind 0 b) bytes) (let f = rw (p, s, n) at none in f))
  ]
]

no_runs : (b : ℕ) (bytes : List ℕ) → is_parenthesis b ≡ false → is_semicolon b ≡ true → runs_behind 0 (b ∷ bytes) ≡ []
unfolding runs_behind
no_runs b bytes p s = rw (p, s) refl

skips : (b : ℕ) (bytes : List ℕ) → is_blank b ≡ true → after_blanks (b ∷ bytes) ≡ after_blanks bytes
unfolding after_blanks
skips b bytes e = rw e refl

runs_blank : (b : ℕ) (bytes : List ℕ) → is_blank b ≡ true → runs_behind 0 (b ∷ bytes) ≡ runs_behind 0 bytes
runs_blank b bytes e = sym (runs-after_blanks (b ∷ bytes)) ∙ ap (runs_behind 0) (skips b bytes e) ∙ runs-after_blanks bytes

-- what has a run after these bytes, and has none with other bytes there, begins with blanks
pub blank_front : (front : List ℕ) (b : ℕ) (more other : List ℕ) → (runs (front ++ b ∷ more) ≡ [] → ⊥) → runs (front ++ b ∷ other) ≡ [] → are_blanks (front ++ b ∷ []) ≡ true
blank_front [] b more other some none = elim (which (is_blank b)) [
  | inl e ↦ rw e refl
  | inr e ↦ let f = first_none b other none e in absurd (some (no_runs b more f.0 f.1))
]
blank_front (c ∷ front) b more other some none = elim (which (is_blank c)) [
  | inl e ↦
      let n = sym (runs_blank c (front ++ b ∷ other) e) ∙ none in
      let h = blank_front front b more other (λ z. some (runs_blank c (front ++ b ∷ more) e ∙ z)) n in
      rw e h
  | inr e ↦ let f = first_none c (front ++ b ∷ other) none e in absurd (some (no_runs c (front ++ b ∷ more) f.0 f.1))
]

pub runs_blanks : (blanks t : List ℕ) → are_blanks blanks ≡ true → runs (blanks ++ t) ≡ runs t
runs_blanks [] t e = refl
runs_blanks (b ∷ blanks) t e = let p = both_true (is_blank b) (are_blanks blanks) e in runs_blank b (blanks ++ t) p.0 ∙ runs_blanks blanks t p.1

blank_soft : (b : ℕ) → is_blank b ≡ true → (p : Bool) → (p || (is_blank b && true)) ≡ true
blank_soft b e true = refl
blank_soft b e false = rw e refl

pub soft_blanks : (blanks : List ℕ) → are_blanks blanks ≡ true → soft {A = ℕ} 0 blanks ≡ true
soft_blanks [] e = refl
soft_blanks (b ∷ blanks) e = let p = both_true (is_blank b) (are_blanks blanks) e in blank_soft b p.0 _
