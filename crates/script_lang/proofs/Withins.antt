-- The fault of a run lies within the run.
use Rattle.std.proofs.Common.{◌≡◌, ℕ, ◌≤◌, Bool, true, false, cond, List, [], ◌∷◌, length, Result, Ok, Err, Option, None, bytes_eq, refl, arith}
use Rattle.std.specs.Prelude.{ℤ}
use Rattle.term_lang.specs.declared.texts.FaceText.{FaceText}
use Rattle.script_lang.specs.declared.simplices.SimplexText.{SimplexText}
use Rattle.script_lang.specs.declared.faults.Stop.{Stop}
use Rattle.script_lang.specs.declared.faults.Stop.TheVariants as stops
use Rattle.script_lang.specs.Grammar.{opening, closing}
use Rattle.script_lang.specs.Readings.{Reading, Judged, Judges, IsWithin, judged, whole}
use Rattle.script_lang.specs.Scans.{face_in}
use Rattle.script_lang.specs.Words.{number_of, name_of, integer_of, simplex_of, some_of, start_of, face_of}
use Rattle.script_lang.proofs.Fronts.{reads_number, reads_name}
use Rattle.script_lang.proofs.Inner.{Scans, reads_integer}
use Rattle.script_lang.proofs.Prefixes.{reads_face}
use Rattle.script_lang.proofs.Bodies.{reads_simplex}

-- a fault that is found lies within the run
pub record Fits {A : Type 0} (run : List ℕ) (judged : Judged A) : Type 0 where
  pub within : (left : ℕ) → judged ≡ Err left → left ≤ length run

fits_at : {A : Type 0} (run : List ℕ) (r : Reading A) → ((v : A) (rest : List ℕ) → r ≡ Ok (v, rest) → length rest ≤ length run) → ((left : ℕ) → r ≡ Err left → left ≤ length run) → (left : ℕ) → judged r ≡ Err left → left ≤ length run
fits_at run (Ok (v, [])) less within left e = absurd cc
fits_at run (Ok (v, b ∷ rest)) less within left e = let same : length (b ∷ rest) ≡ left = cc in let l = less v (b ∷ rest) refl in omega arith
fits_at run (Err d) less within left e = within left (let same : d ≡ left = cc in cc)

pub fits_whole : {A : Type 0} (may : A → List ℕ → Bool) (L : List ℕ → A → Type 0) (read : List ℕ → Reading A) → Scans may L read → (run : List ℕ) → Fits run (whole read run)
fits_whole may L read one run = record { within = fits_at run (read run) (one.less run) (one.within run) }

fits_some : {A : Type 0} (run : List ℕ) (judged : Judged A) → Fits run judged → Fits run (some_of judged)
fits_some run (Ok x) f = record { within = λ left e. absurd cc }
fits_some run (Err d) f = record { within = λ left e. f.within left (let same : d ≡ left = cc in cc) }

fits_or : {A : Type 0} (run : List ℕ) (b : Bool) (x : A) (judged : Judged A) → Fits run judged → Fits run (cond b (Ok x) judged)
fits_or run true x judged f = record { within = λ left e. absurd cc }
fits_or run false x judged f = f

judges_within : {A : Type 0} (run : List ℕ) (judged : Judged A) → Fits run judged → (result : Result A Stop) → Judges result judged → IsWithin (length run) result
judges_within run judged f (Ok x) j = tt
judges_within run judged f (Err stops.Memory) j = tt
judges_within run judged f (Err (stops.Fault left)) j = f.within left j

pub number_within : (run : List ℕ) (result : Result ℕ Stop) → Judges result (number_of run) → IsWithin (length run) result
unfolding number_of
number_within run = judges_within run (number_of run) (fits_whole _ _ _ reads_number run)

pub name_within : (run : List ℕ) (result : Result (List ℕ) Stop) → Judges result (name_of run) → IsWithin (length run) result
unfolding name_of
name_within run = judges_within run (name_of run) (fits_whole _ _ _ reads_name run)

pub integer_within : (run : List ℕ) (result : Result ℤ Stop) → Judges result (integer_of run) → IsWithin (length run) result
unfolding integer_of
integer_within run = judges_within run (integer_of run) (fits_whole _ _ _ reads_integer run)

pub start_within : (run : List ℕ) (result : Result (Option (List ℕ)) Stop) → Judges result (start_of run) → IsWithin (length run) result
unfolding start_of name_of
start_within run = judges_within run (start_of run) (fits_or run (bytes_eq run opening) None (some_of (name_of run)) (fits_some run (name_of run) (fits_whole _ _ _ reads_name run)))

pub face_within : (run : List ℕ) (result : Result (Option FaceText) Stop) → Judges result (face_of run) → IsWithin (length run) result
unfolding face_of
face_within run = judges_within run (face_of run) (fits_or run (bytes_eq run closing) None (some_of (whole face_in run)) (fits_some run (whole face_in run) (fits_whole _ _ _ reads_face run)))

pub simplex_within : (run : List ℕ) (result : Result SimplexText Stop) → Judges result (simplex_of run) → IsWithin (length run) result
unfolding simplex_of
simplex_within run = judges_within run (simplex_of run) (fits_whole _ _ _ (reads_simplex 32) run)
