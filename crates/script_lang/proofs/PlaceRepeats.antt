-- Where parts that are repeated go wrong.
use Rattle.std.proofs.Common.{◌≡◌, ℕ, zero, suc, ◌<◌, Bool, true, List, [], ◌∷◌, ◌++◌, length, Ok, Err, Option, Some, None, refl, sym, ap, subst, ◌∙◌, append_assoc, arith}
use Rattle.std.specs.List.{list_all}
use Rattle.script_lang.specs.Readings.{Reading, ◌>>=◌, step_on, until_at}
use Rattle.script_lang.specs.Scans.{begins}
use Rattle.script_lang.proofs.Combine.{bind_ok}
use Rattle.script_lang.proofs.Loops.{Shorter, until_step, until_none, until_some, is_until, nothing, something, is_err, at_part, behind}
use Rattle.script_lang.proofs.PlaceRules.{next, is_in, may_begin, Front, Stuck, Example, Placed, next_append, begins_picked, before, then_first, then_second}

-- where the parts can end, and what may follow the whole
pub record Ends {A : Type 0} (p : ℕ → Bool) (cs : List ℕ) (part : List ℕ → Reading (Option A)) : Type 0 where
  pub bytes : List ℕ
  pub gives : part bytes ≡ Ok (None, [])
  pub starts : may_begin cs bytes ≡ true
  pub good : list_all p bytes ≡ true

-- the end takes a byte
abbrev pub EndTakes : {A : Type 0} → (List ℕ → Reading (Option A)) → Type 0
EndTakes part = (bytes rest : List ℕ) → part bytes ≡ Ok (None, rest) → length rest < length bytes

pub until_longer : {A : Type 0} (part : List ℕ → Reading (Option A)) → Shorter part → EndTakes part → (n : ℕ) (bytes : List ℕ) (xs : List A) (after : List ℕ) → length bytes < n → until_at part bytes ≡ Ok (xs, after) → length after < length bytes
until_longer part shorter ends zero bytes xs after lt e = absurd (omega arith)
until_longer part shorter ends (suc n) bytes xs after lt e = elim (is_until part shorter bytes xs after e) [
  | nothing d z ↦ ends bytes after d
  | something x ys rest d u z ↦ let s = shorter bytes x rest d in omega (arith, until_longer part shorter ends n rest ys after (omega arith) u)
]

module _ {A : Type 0} (p : ℕ → Bool) (cs : List ℕ) (may : Option A → List ℕ → Bool) (can : List A → List ℕ → Bool) (part : List ℕ → Reading (Option A)) (shorter : Shorter part) (one : Placed p cs may part) (seam : (x : A) (t : List ℕ) → list_all (λ c. may (Some x) (c ∷ t)) cs ≡ true) (last : (xs : List A) (o : List ℕ) → can xs o ≡ true → (may None o ≡ true) × ((ys : List A) → can ys o ≡ true) × EndTakes part) where
  abbrev read_on : Option A × List ℕ → Reading (List A)
  read_on = step_on (until_at part)

  before_rest : (x : A) (o : List ℕ) → begins (is_in cs) o ≡ true → may (Some x) o ≡ true
  before_rest x [] e = absurd cc
  before_rest x (c ∷ o) e = begins_picked (λ b. may (Some x) (b ∷ o)) cs (c ∷ o) (seam x o) e

  no_end : (rest : List ℕ) (ys : List A) (after other : List ℕ) → EndTakes part → until_at part rest ≡ Ok (ys, after) → (g : Front can (until_at part) rest ys after) → g.front ≡ [] → ⊥
  no_end rest ys after other ends u g m =
      let l = until_longer part shorter ends (suc (length rest)) rest ys after (omega arith) u in
      let same = ap length (g.whole ∙ ap (λ (t : List ℕ). t ++ after) m) in
      omega (arith, l, same)

  until_ok : (n : ℕ) (bytes : List ℕ) (xs : List A) (after : List ℕ) → length bytes < n → until_at part bytes ≡ Ok (xs, after) → Front can (until_at part) bytes xs after
  until_ok zero bytes xs after lt e = absurd (omega arith)
  until_ok (suc n) bytes xs after lt e = elim (is_until part shorter bytes xs after e) [
    | nothing d z ↦
        let f = one.ok bytes None after d in
        subst (λ (ys : List A). Front can (until_at part) bytes ys after) (sym z)
        (record { front = f.front; whole = f.whole; same = λ other h. until_none part shorter (f.front ++ other) other (f.same other h); free = λ other c. until_none part shorter (f.front ++ other) other (f.free other (last [] other c).0) })
    | something x ys rest d u z ↦
        let f = one.ok bytes (Some x) rest d in
        let s = shorter bytes x rest d in
        let g = until_ok n rest ys after (omega arith) u in
        subst (λ (zs : List A). Front can (until_at part) bytes zs after) (sym z)
        (record {
          front = f.front ++ g.front;
          whole = f.whole ∙ ap (λ (t : List ℕ). f.front ++ t) g.whole ∙ sym (append_assoc f.front g.front after);
          same = λ other h.
              let near = f.same (g.front ++ other) (next_append g.front other after h ∙ ap next (sym g.whole)) in
              let all = until_some part shorter (f.front ++ (g.front ++ other)) (g.front ++ other) x ys other near (g.same other h) in
              subst (λ (t : List ℕ). until_at part t ≡ Ok (x ∷ ys, other)) (sym (append_assoc f.front g.front other)) all;
          free = λ other c.
              let near = before may part bytes (Some x) rest f g.front after other g.whole (λ m. absurd (no_end rest ys after other (last (x ∷ ys) other c).2 u g m)) in
              let all = until_some part shorter (f.front ++ (g.front ++ other)) (g.front ++ other) x ys other near (g.free other ((last (x ∷ ys) other c).1 ys)) in
              subst (λ (t : List ℕ). until_at part t ≡ Ok (x ∷ ys, other)) (sym (append_assoc f.front g.front other)) all;
        })
  ]

  abbrev cs_for : Option A → List ℕ
  cs_for None = []
  cs_for (Some x) = cs

  some_for : Ends p cs part → (v : Option A) → Example p (cs_for v) (λ t. read_on (v, t))
  some_for end None = record { bytes = []; value = []; gives = refl; starts = refl; good = refl }
  some_for end (Some x) = record { bytes = end.bytes; value = x ∷ []; gives = let e = until_none part shorter end.bytes [] end.gives in rw e refl; starts = end.starts; good = end.good }

  seam_for : (v : Option A) (o : List ℕ) → begins (is_in (cs_for v)) o ≡ true → may v o ≡ true
  seam_for None [] e = absurd cc
  seam_for None (c ∷ o) e = absurd cc
  seam_for (Some x) o e = before_rest x o e

  as_step : (bytes : List ℕ) (left : ℕ) → Stuck p cs (λ s. part s >>= step_on (until_at part)) bytes left → Stuck p cs (until_at part) bytes left
  as_step bytes left s = record {
    front = s.front;
    rest = s.rest;
    whole = s.whole;
    left_is = s.left_is;
    more = s.more;
    value = s.value;
    gives = until_step part shorter (s.front ++ s.more) ∙ s.gives;
    starts = s.starts;
    good = s.good;
    dead = λ b after other v z is e. s.dead b after other v z is (sym (until_step part shorter (s.front ++ b ∷ other)) ∙ e);
  }

  cons_stuck : (x : A) (bytes : List ℕ) (left : ℕ) → Stuck p cs (until_at part) bytes left → Stuck p cs (λ t. step_on (until_at part) (Some x, t)) bytes left
  cons_stuck x bytes left s = record {
    front = s.front;
    rest = s.rest;
    whole = s.whole;
    left_is = s.left_is;
    more = s.more;
    value = x ∷ s.value;
    gives = let e = s.gives in rw e refl;
    starts = s.starts;
    good = s.good;
    dead = λ b after other v z is e. let y = bind_ok (until_at part (s.front ++ b ∷ other)) (λ xs. Ok (x ∷ xs.0, xs.1)) (v, z) e in s.dead b after other y.0.0 y.0.1 is y.1;
  }

  until_err : Ends p cs part → (n : ℕ) (bytes : List ℕ) (left : ℕ) → length bytes < n → until_at part bytes ≡ Err left → Stuck p cs (until_at part) bytes left
  until_err end zero bytes left lt e = absurd (omega arith)
  until_err end (suc n) bytes left lt e = elim (is_err part shorter bytes left e) [
    | at_part d ↦
        let s = one.err bytes left d in
        as_step bytes left (then_first p may can part read_on cs cs (cs_for s.value) bytes left s (one.ok (s.front ++ s.more) s.value [] s.gives) (some_for end s.value) (seam_for s.value) (λ o b. b))
    | behind x rest d u ↦
        let s = shorter bytes x rest d in
        let g = cons_stuck x rest left (until_err end n rest left (omega arith) u) in
        as_step bytes left (then_second p may can part read_on cs cs bytes left (Some x) rest (one.ok bytes (Some x) rest d) g (λ m. before_rest x g.more (g.starts m)) (λ m0 m. g.starts m))
  ]

  pub placed_until : Ends p cs part → Placed p cs can (until_at part)
  placed_until end = record {
    ok = λ bytes xs after e. until_ok (suc (length bytes)) bytes xs after (omega arith) e;
    err = λ bytes left e. until_err end (suc (length bytes)) bytes left (omega arith) e;
    some = record { bytes = end.bytes; value = []; gives = until_none part shorter end.bytes [] end.gives; starts = end.starts; good = end.good };
  }
