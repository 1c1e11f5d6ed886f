-- The entry of a list at a place.
use Rattle.std.proofs.Common.{◌≡◌, ℕ, zero, suc, ◌<◌, ◌≤◌, Bool, true, false, ◌||◌, List, [], ◌∷◌, length, map, take, get_or, Option, Some, refl, sym, ◌∙◌, ap, arith}
use Rattle.std.specs.Borrow.{Bor}
use Rattle.std.specs.List.{slice_get, list_any}
use Rattle.std.specs.Option.{option_copied, option_map}
use Rattle.std.proofs.lemmas.Option.{same_Some, slice_get-map}
use Rattle.spaces.specs.Tables.{entry, row_at}
use Rattle.term_lang.specs.declared.tables.Row.{Row}
use Rattle.term_lang.specs.declared.tables.TableFace.{TableFace}
use Rattle.term_lang.specs.Rows.{rows_of, row_of, face_of}

-- what a call of `get` and then `unwrap` gave
pub got : {A : Type 0} (o : Option (Bor A)) (b : Bor A) (s : Option A) → option_copied o ≡ s → o ≡ Some b → s ≡ Some b.now
got o b s h e = sym h ∙ ap option_copied e

pub entry-get : {A : Type 0} (d : A) (xs : List A) (i : ℕ) (x : A) → slice_get xs i ≡ Some x → entry d xs i ≡ x
entry-get d [] i x e = cc
entry-get d (y ∷ xs) zero x e = same_Some y x e
entry-get d (y ∷ xs) (suc i) x e = entry-get d xs i x e

pub entry-map : {A B : Type 0} (f : A → B) (d : A) (e : B) (xs : List A) (i : ℕ) → i < length xs → entry e (map f xs) i ≡ f (entry d xs i)
entry-map f d e [] i h = absurd (omega arith)
entry-map f d e (x ∷ xs) zero h = refl
entry-map f d e (x ∷ xs) (suc i) h = entry-map f d e xs i (omega arith)

pub entry-take : {A : Type 0} (d : A) (xs : List A) (k i : ℕ) → i < k → entry d (take k xs) i ≡ entry d xs i
entry-take d [] zero i h = absurd (omega arith)
entry-take d [] (suc k) i h = refl
entry-take d (x ∷ xs) zero i h = absurd (omega arith)
entry-take d (x ∷ xs) (suc k) zero h = refl
entry-take d (x ∷ xs) (suc k) (suc i) h = entry-take d xs k i (omega arith)

pub entry-past : {A : Type 0} (d : A) (xs : List A) (i : ℕ) → length xs ≤ i → entry d xs i ≡ d
entry-past d [] i h = refl
entry-past d (x ∷ xs) zero h = absurd (omega arith)
entry-past d (x ∷ xs) (suc i) h = entry-past d xs i (omega arith)

pub entry-get_or : {A : Type 0} (d : A) (xs : List A) (i : ℕ) → get_or xs i d ≡ entry d xs i
entry-get_or d [] i = refl
entry-get_or d (x ∷ xs) zero = refl
entry-get_or d (x ∷ xs) (suc i) = entry-get_or d xs i

pub list_any-get : {A : Type 0} (p : A → Bool) (xs : List A) (i : ℕ) (x : A) → slice_get xs i ≡ Some x → p x ≡ true → list_any p xs ≡ true
list_any-get p [] i x e t = cc
list_any-get p (y ∷ xs) zero x e t = ap (λ b. b || list_any p xs) (ap p (same_Some y x e) ∙ t)
list_any-get p (y ∷ xs) (suc i) x e t = or_second (p y) (list_any p xs) (list_any-get p xs i x e t)
  where
    or_second : (a b : Bool) → b ≡ true → a || b ≡ true
    or_second true b q = refl
    or_second false b q = q

-- ---- rows of the code and their faces

pub row_got : (rows : List Row) (s : ℕ) (row : Row) → slice_get rows s ≡ Some row → row_at (rows_of rows) s ≡ row_of row
row_got rows s row e = entry-get (record { name = []; dim = 0; faces = [] }) (rows_of rows) s (row_of row) (slice_get-map row_of rows s ∙ ap (option_map row_of) e)

pub face_got : (faces : List TableFace) (j : ℕ) (f : TableFace) → slice_get faces j ≡ Some f → entry ([], 0) (map face_of faces) j ≡ face_of f
face_got faces j f e = entry-get ([], 0) (map face_of faces) j (face_of f) (slice_get-map face_of faces j ∙ ap (option_map face_of) e)
