-- What reads parts that are repeated.
use Rattle.std.proofs.Common.{◌≡◌, ℕ, suc, zero, ◌<◌, ◌≤◌, Bool, true, List, [], ◌∷◌, ◌++◌, length, Ok, Err, Option, None, Some, refl, sym, ap, subst, ◌∙◌, append_assoc, arith, inl, inr}
use Rattle.std.proofs.lemmas.List.{append-nil}
use Rattle.script_lang.specs.declared.faults.Stop.{Stop}
use Rattle.script_lang.specs.declared.faults.Stop.TheVariants as stops
use Rattle.script_lang.specs.Phrases.{Until}
use Rattle.script_lang.specs.Readings.{Reading, ◌>>=◌, Fails, step_on, loop_at, until_at}
use Rattle.script_lang.proofs.Combine.{reading, ok_parts, bind_ok, bind_err, Reads, Taken, Again}

abbrev pub Shorter : {A : Type 0} → (List ℕ → Reading (Option A)) → Type 0
Shorter {A} part = (bytes : List ℕ) (x : A) (rest : List ℕ) → part bytes ≡ Ok (Some x, rest) → length rest < length bytes

-- a part, or the end
abbrev pub Part : {U A : Type 0} → List U → (List U → A → Type 0) → List U → Option A → Type 0
Part end L units None = units ≡ end
Part end L units (Some x) = L units x

module _ {A : Type 0} (part : List ℕ → Reading (Option A)) (shorter : Shorter part) where
  enough_at : (k j : ℕ) (bytes : List ℕ) (r : Reading (Option A)) → part bytes ≡ r → ((x : A) (rest : List ℕ) → r ≡ Ok (Some x, rest) → loop_at part k rest ≡ loop_at part j rest) → (r >>= step_on (loop_at part k)) ≡ (r >>= step_on (loop_at part j))
  enough_at k j bytes (Err left) e h = refl
  enough_at k j bytes (Ok (None, rest)) e h = refl
  enough_at k j bytes (Ok (Some x, rest)) e h = rw (h x rest refl) refl

  enough : (k j : ℕ) (bytes : List ℕ) → length bytes ≤ k → length bytes ≤ j → loop_at part (suc k) bytes ≡ loop_at part (suc j) bytes
  unfolding loop_at
  enough zero zero bytes f g = refl
  enough zero (suc j) bytes f g = enough_at zero (suc j) bytes (part bytes) refl (λ x rest e. let s = shorter bytes x rest e in absurd (omega arith))
  enough (suc k) zero bytes f g = enough_at (suc k) zero bytes (part bytes) refl (λ x rest e. let s = shorter bytes x rest e in absurd (omega arith))
  enough (suc k) (suc j) bytes f g = enough_at (suc k) (suc j) bytes (part bytes) refl (λ x rest e. let s = shorter bytes x rest e in enough k j rest (omega arith) (omega arith))

  step_by : (bytes : List ℕ) (n : ℕ) (r : Reading (Option A)) → part bytes ≡ r → length bytes ≡ n → (r >>= step_on (loop_at part n)) ≡ (r >>= step_on (λ rest. loop_at part (suc (length rest)) rest))
  step_by bytes n (Err left) e len = refl
  step_by bytes n (Ok (None, rest)) e len = refl
  step_by bytes zero (Ok (Some x, rest)) e len = let s = shorter bytes x rest e in absurd (omega arith)
  step_by bytes (suc n) (Ok (Some x, rest)) e len =
      let s = shorter bytes x rest e in
      let same = enough n (length rest) rest (omega arith) (omega arith) in rw same refl

  step_at : (bytes : List ℕ) (n : ℕ) → length bytes ≡ n → loop_at part (suc n) bytes ≡ (part bytes >>= step_on (λ rest. loop_at part (suc (length rest)) rest))
  unfolding loop_at
  step_at bytes n len = step_by bytes n (part bytes) refl len

  -- one part, and then the others
  pub until_step : (bytes : List ℕ) → until_at part bytes ≡ (part bytes >>= step_on (until_at part))
  unfolding until_at
  until_step bytes = step_at bytes (length bytes) refl

  pub until_none : (bytes rest : List ℕ) → part bytes ≡ Ok (None, rest) → until_at part bytes ≡ Ok ([], rest)
  until_none bytes rest e = until_step bytes ∙ (rw e refl)

  pub until_some : (bytes rest : List ℕ) (x : A) (xs : List A) (after : List ℕ) → part bytes ≡ Ok (Some x, rest) → until_at part rest ≡ Ok (xs, after) → until_at part bytes ≡ Ok (x ∷ xs, after)
  until_some bytes rest x xs after e d = until_step bytes ∙ (rw (e, d) refl)

  -- how parts that were read were read
  pub data IsUntil (bytes : List ℕ) (xs : List A) (after : List ℕ) : Type 0 where
    nothing : part bytes ≡ Ok (None, after) → xs ≡ [] → IsUntil bytes xs after
    something : (x : A) (ys : List A) (rest : List ℕ) → part bytes ≡ Ok (Some x, rest) → until_at part rest ≡ Ok (ys, after) → xs ≡ x ∷ ys → IsUntil bytes xs after

  until_by : (bytes : List ℕ) (r : Reading (Option A)) (xs : List A) (after : List ℕ) → part bytes ≡ r → (r >>= step_on (until_at part)) ≡ Ok (xs, after) → IsUntil bytes xs after
  until_by bytes (Err left) xs after e d = absurd cc
  until_by bytes (Ok (None, rest)) xs after e d =
      let p = ok_parts [] xs rest after d in nothing (e ∙ ap (reading None) p.1) (sym p.0)
  until_by bytes (Ok (Some x, rest)) xs after e d =
      let b = bind_ok (until_at part rest) (λ ys. Ok (x ∷ ys.0, ys.1)) (xs, after) d in
      let p = ok_parts (x ∷ b.0.0) xs b.0.1 after b.2 in
      something x b.0.0 rest e (b.1 ∙ ap (reading b.0.0) p.1) (sym p.0)

  pub is_until : (bytes : List ℕ) (xs : List A) (after : List ℕ) → until_at part bytes ≡ Ok (xs, after) → IsUntil bytes xs after
  is_until bytes xs after e = until_by bytes (part bytes) xs after refl (sym (until_step bytes) ∙ e)

  pub data UntilErr (bytes : List ℕ) (left : ℕ) : Type 0 where
    at_part : part bytes ≡ Err left → UntilErr bytes left
    behind : (x : A) (rest : List ℕ) → part bytes ≡ Ok (Some x, rest) → until_at part rest ≡ Err left → UntilErr bytes left

  err_by : (bytes : List ℕ) (r : Reading (Option A)) (left : ℕ) → part bytes ≡ r → (r >>= step_on (until_at part)) ≡ Err left → UntilErr bytes left
  err_by bytes (Err l) left e d = at_part (e ∙ (let same : l ≡ left = cc in ap Err same))
  err_by bytes (Ok (None, rest)) left e d = absurd cc
  err_by bytes (Ok (Some x, rest)) left e d = elim (bind_err (until_at part rest) (λ ys. Ok (x ∷ ys.0, ys.1)) left d) [
    | inl f ↦ behind x rest e f
    | inr y ↦ let bad = y.2 in absurd cc
  ]

  pub is_err : (bytes : List ℕ) (left : ℕ) → until_at part bytes ≡ Err left → UntilErr bytes left
  is_err bytes left e = err_by bytes (part bytes) left refl (sym (until_step bytes) ∙ e)

  module _ {U : Type 0} (units : List ℕ → List U) (may : Option A → List U → Bool) (can : List A → List U → Bool) (end : List U) (L : List U → A → Type 0) (one : Reads units may (Part end L) part) where
    takes_at : (n : ℕ) (bytes : List ℕ) (xs : List A) (after : List ℕ) → length bytes < n → until_at part bytes ≡ Ok (xs, after) → Taken units (Until end L) bytes xs after
    takes_at zero bytes xs after lt e = absurd (omega arith)
    takes_at (suc n) bytes xs after lt e = elim (is_until bytes xs after e) [
      | nothing d z ↦
          let t = one.takes bytes None after d in
          subst (λ (ys : List A). Taken units (Until end L) bytes ys after) (sym z) (record { front = t.front; is = t.is; units_are = t.units_are })
      | something x ys rest d u z ↦
          let t = one.takes bytes (Some x) rest d in
          let s = shorter bytes x rest d in
          let v = takes_at n rest ys after (omega arith) u in
          subst (λ (zs : List A). Taken units (Until end L) bytes zs after) (sym z)
          (record {
            front = t.front ++ v.front;
            is = (t.front, v.front, refl, t.is, v.is);
            units_are = t.units_are ∙ ap (λ (rs : List U). t.front ++ rs) v.units_are ∙ sym (append_assoc t.front v.front (units after));
          })
    ]

    again_at : ((xs : List A) (more : List U) → can xs more ≡ true → may None more ≡ true) → ((x : A) (xs : List A) (back more : List U) → Until end L back xs → can xs more ≡ true → may (Some x) (back ++ more) ≡ true) → ((x : A) (xs : List A) (more : List U) → can (x ∷ xs) more ≡ true → can xs more ≡ true) → (bytes : List ℕ) (front : List U) (xs : List A) (more : List U) → Until end L front xs → units bytes ≡ front ++ more → can xs more ≡ true → Again units (until_at part) bytes xs more
    again_at last between tail bytes front [] more is e m =
        let a = one.again bytes front None more is e (last [] more m) in
        record { rest = a.rest; gives = until_none bytes a.rest a.gives; units_are = a.units_are }
    again_at last between tail bytes front (x ∷ xs) more is e m =
        let n = tail x xs more m in
        let a = one.again bytes is.0 (Some x) (is.1 ++ more) is.3 (e ∙ ap (λ (rs : List U). rs ++ more) is.2 ∙ append_assoc is.0 is.1 more) (between x xs is.1 more is.4 n) in
        let b = again_at last between tail a.rest is.1 xs more is.4 a.units_are n in
        record { rest = b.rest; gives = until_some bytes a.rest x xs b.rest a.gives b.gives; units_are = b.units_are }

    less_at : (n : ℕ) (bytes : List ℕ) (xs : List A) (after : List ℕ) → length bytes < n → until_at part bytes ≡ Ok (xs, after) → length after ≤ length bytes
    less_at zero bytes xs after lt e = absurd (omega arith)
    less_at (suc n) bytes xs after lt e = elim (is_until bytes xs after e) [
      | nothing d z ↦ one.less bytes None after d
      | something x ys rest d u z ↦ let s = shorter bytes x rest d in omega (arith, less_at n rest ys after (omega arith) u)
    ]

    within_at : (n : ℕ) (bytes : List ℕ) (left : ℕ) → length bytes < n → until_at part bytes ≡ Err left → left ≤ length bytes
    within_at zero bytes left lt e = absurd (omega arith)
    within_at (suc n) bytes left lt e = elim (is_err bytes left e) [
      | at_part d ↦ one.within bytes left d
      | behind x rest d u ↦ let s = shorter bytes x rest d in omega (arith, within_at n rest left (omega arith) u)
    ]

    pub reads_until : ((xs : List A) (more : List U) → can xs more ≡ true → may None more ≡ true) → ((x : A) (xs : List A) (back more : List U) → Until end L back xs → can xs more ≡ true → may (Some x) (back ++ more) ≡ true) → ((x : A) (xs : List A) (more : List U) → can (x ∷ xs) more ≡ true → can xs more ≡ true) → Reads units can (Until end L) (until_at part)
    reads_until last between tail = record {
      takes = λ bytes v rest e. takes_at (suc (length bytes)) bytes v rest (omega arith) e;
      again = again_at last between tail;
      less = λ bytes v rest e. less_at (suc (length bytes)) bytes v rest (omega arith) e;
      within = λ bytes left e. within_at (suc (length bytes)) bytes left (omega arith) e;
    }

-- ---- the loops of the code

-- what was read before, and what is still read
abbrev pub with_front : {A : Type 0} → List A → Reading (List A) → Reading (List A)
with_front front reading = reading >>= λ xs. Ok (front ++ xs.0, xs.1)

regroup : {A : Type 0} (front : List A) (x : A) (r : Reading (List A)) → with_front front (r >>= λ xs. Ok (x ∷ xs.0, xs.1)) ≡ with_front (front ++ x ∷ []) r
regroup {A} front x (Ok y) = ap (λ (xs : List A). reading xs y.1) (sym (append_assoc front (x ∷ []) y.0))
regroup front x (Err left) = refl

pub starts : {A : Type 0} (r : Reading (List A)) → with_front [] r ≡ r
starts (Ok y) = refl
starts (Err left) = refl

pub goes_on : {A : Type 0} (part : List ℕ → Reading (Option A)) → Shorter part → (front : List A) (bytes : List ℕ) (x : A) (rest : List ℕ) → part bytes ≡ Ok (Some x, rest) → with_front front (until_at part bytes) ≡ with_front (front ++ x ∷ []) (until_at part rest)
goes_on part shorter front bytes x rest e = ap (with_front front) (until_step part shorter bytes ∙ (rw e refl)) ∙ regroup front x (until_at part rest)

pub is_over : {A : Type 0} (part : List ℕ → Reading (Option A)) → Shorter part → (front : List A) (bytes rest : List ℕ) → part bytes ≡ Ok (None, rest) → with_front front (until_at part bytes) ≡ Ok (front, rest)
is_over {A} part shorter front bytes rest e = ap (with_front front) (until_none part shorter bytes rest e) ∙ ap (λ (xs : List A). reading xs rest) (append-nil front)

pub goes_wrong : {A : Type 0} (part : List ℕ → Reading (Option A)) → Shorter part → (front : List A) (bytes : List ℕ) (stop : Stop) (total : Reading (List A)) → Fails stop (part bytes) → with_front front (until_at part bytes) ≡ total → Fails stop total
goes_wrong part shorter front bytes stops.Memory total h so_far = tt
goes_wrong part shorter front bytes (stops.Fault left) total h so_far =
    let one : until_at part bytes ≡ Err left = until_step part shorter bytes ∙ (rw h refl) in
    let all : with_front front (until_at part bytes) ≡ Err left = rw one refl in
    sym so_far ∙ all

pub keeps : {A : Type 0} (part : List ℕ → Reading (Option A)) → Shorter part → (front longer : List A) (bytes : List ℕ) (x : A) (rest : List ℕ) (total : Reading (List A)) → part bytes ≡ Ok (Some x, rest) → longer ≡ front ++ x ∷ [] → with_front front (until_at part bytes) ≡ total → with_front longer (until_at part rest) ≡ total
keeps part shorter front longer bytes x rest total e l so_far = rw l (sym (goes_on part shorter front bytes x rest e) ∙ so_far)

pub ends : {A : Type 0} (part : List ℕ → Reading (Option A)) → Shorter part → (front : List A) (bytes rest : List ℕ) (total : Reading (List A)) → part bytes ≡ Ok (None, rest) → with_front front (until_at part bytes) ≡ total → total ≡ Ok (front, rest)
ends part shorter front bytes rest total e so_far = sym so_far ∙ is_over part shorter front bytes rest e

-- where nothing was read before
pub from_start : {A : Type 0} (r : Reading (List A)) (front : List A) → front ≡ [] → with_front front r ≡ r
from_start r front e = rw e (starts r)

-- where one part was read before
pub from_first : {A : Type 0} (r : Reading (List A)) (front : List A) (x : A) (none : List A) → none ≡ [] → front ≡ none ++ x ∷ [] → with_front front r ≡ (r >>= λ xs. Ok (x ∷ xs.0, xs.1))
from_first r front x none n e = rw (e, n) refl

pub fails_as : {Y : Type 0} (stop : Stop) (one other : Reading Y) → one ≡ other → Fails stop one → Fails stop other
fails_as stop one other e f = subst (Fails stop) e f
