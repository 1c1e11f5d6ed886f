-- Where forms of a line go wrong that are put together of words.
use Rattle.std.proofs.Common.{◌≡◌, ℕ, suc, ◌<◌, Bool, true, List, [], ◌∷◌, ◌++◌, length, Ok, Option, Some, None, refl, sym, ap, subst, ◌∙◌, arith}
use Rattle.std.specs.List.{list_all}
use Rattle.script_lang.specs.Readings.{Reading, ◌>>=◌, until_at}
use Rattle.script_lang.proofs.Combine.{ok_parts, bind_ok}
use Rattle.script_lang.proofs.PlaceRules.{is_in, may_begin, Front, Longer, begins_picked}
use Rattle.script_lang.proofs.PlacePhrases.{placed_with, seam_by}
use Rattle.script_lang.proofs.PlaceRepeats.{Ends, until_longer, placed_until}
use Rattle.script_lang.proofs.PlaceWords.{any_byte, soft}
use Rattle.script_lang.proofs.PlaceEachWord.{Outer, loose}

-- what takes a byte at least
pub record Steady {A : Type 0} (cs : List ℕ) (may : A → List ℕ → Bool) (read : List ℕ → Reading A) : Type 0 where
  pub placed : Outer cs may read
  pub longer : Longer read

-- What comes second takes a byte, or is nothing, behind which may follow what may follow the first.
pub data Second {A B : Type 0} (may : A → List ℕ → Bool) (can : B → List ℕ → Bool) (cs : List ℕ) (v : A) (more : List ℕ → Reading B) : Type 0 where
  goes : Steady cs can more → Second may can cs v more
  over : (w : B) → ((s : List ℕ) → more s ≡ Ok (w, s)) → ((o : List ℕ) → can w o ≡ true → may v o ≡ true) → Second may can cs v more

placed_over : {B : Type 0} (cs : List ℕ) (can : B → List ℕ → Bool) (w : B) (more : List ℕ → Reading B) → ((s : List ℕ) → more s ≡ Ok (w, s)) → Outer cs can more
placed_over cs can w more h = record {
  ok = λ bytes v rest e. let q = ok_parts w v bytes rest (sym (h bytes) ∙ e) in record { front = []; whole = q.1; same = λ other n. h other ∙ (rw q.0 refl); free = λ other m. h other ∙ (rw q.0 refl) };
  err = λ bytes left e. absurd (let bad = sym (h bytes) ∙ e in cc);
  some = record { bytes = []; value = w; gives = h []; starts = refl; good = refl };
}

second_placed : {A B : Type 0} (may : A → List ℕ → Bool) (can : B → List ℕ → Bool) (cs : List ℕ) (v : A) (more : List ℕ → Reading B) → Second may can cs v more → Outer cs can more
second_placed may can cs v more (goes s) = s.placed
second_placed may can cs v more (over w h so) = placed_over cs can w more h

second_free : {A B : Type 0} (may : A → List ℕ → Bool) (can : B → List ℕ → Bool) (cs : List ℕ) (v : A) (more : List ℕ → Reading B) → Second may can cs v more → (x : List ℕ) (w : B) (rest : List ℕ) (g : Front can more x w rest) → more x ≡ Ok (w, rest) → (other : List ℕ) → can w other ≡ true → g.front ≡ [] → may v other ≡ true
second_free may can cs v more (goes s) x w rest g e other c n =
    let l = s.longer x w rest e in
    let same = ap length (g.whole ∙ ap (λ (t : List ℕ). t ++ rest) n) in
    absurd (omega (arith, l, same))
second_free {B = B} may can cs v more (over u h so) x w rest g e other c n =
    let q = ok_parts u w x rest (sym (h x) ∙ e) in
    so other (subst (λ (y : B). can y other ≡ true) (sym q.0) c)

second_longer : {A B : Type 0} (may : A → List ℕ → Bool) (can : B → List ℕ → Bool) (cs : List ℕ) (v : A) (more : List ℕ → Reading B) → Second may can cs v more → (n : ℕ) (x : List ℕ) (w : B) (rest : List ℕ) → length x < n → more x ≡ Ok (w, rest) → length rest < n
second_longer may can cs v more (goes s) n x w rest lt e = let l = s.longer x w rest e in omega (arith, l)
second_longer may can cs v more (over u h so) n x w rest lt e = let q = ok_parts u w x rest (sym (h x) ∙ e) in omega (arith, ap length q.1)

pub steady_then : {A B : Type 0} (may : A → List ℕ → Bool) (can : B → List ℕ → Bool) (read : List ℕ → Reading A) (k : A × List ℕ → Reading B) (cs1 : List ℕ) (cs2 : A → List ℕ) → Steady cs1 may read → ((v : A) → Second may can (cs2 v) v (λ s. k (v, s))) → ((v : A) (t : List ℕ) → list_all (λ c. may v (c ∷ t)) (cs2 v) ≡ true) → Steady cs1 can (λ s. read s >>= k)
steady_then may can read k cs1 cs2 one two seam = record {
  placed = placed_with any_byte may can can read k cs1 cs1 (λ v. Unit {0}) cs2 one.placed (λ bytes v rest e. tt) (λ v is. second_placed may can (cs2 v) v (λ s. k (v, s)) (two v))
      (λ v o e. seam_by may v (cs2 v) (seam v) o e) (λ o e. e)
      (λ bytes v x e l. let s = one.longer bytes v x e in absurd (omega arith))
      (λ v x w rest g e other c. (c, λ n. second_free may can (cs2 v) v (λ s. k (v, s)) (two v) x w rest g e other c n));
  longer = λ bytes w rest e.
      let b = bind_ok (read bytes) k (w, rest) e in
      second_longer may can (cs2 b.0.0) b.0.0 (λ s. k (b.0.0, s)) (two b.0.0) (length bytes) b.0.1 w rest (one.longer bytes b.0.0 b.0.1 b.1) b.2;
}

-- what is made of what was read
pub steady_map : {A B : Type 0} (may : A → List ℕ → Bool) (can : B → List ℕ → Bool) (cs : List ℕ) (read : List ℕ → Reading A) (make : A → B) → ((v : A) (o : List ℕ) → can (make v) o ≡ true → may v o ≡ true) → Steady cs may read → Steady cs can (λ s. read s >>= λ x. Ok (make x.0, x.1))
steady_map may can cs read make so one = steady_then may can read (λ x. Ok (make x.0, x.1)) cs (λ v. []) one (λ v. over (make v) (λ s. refl) (so v)) (λ v t. refl)

pub steady_wide : {A : Type 0} (may : A → List ℕ → Bool) (read : List ℕ → Reading A) (cs1 cs : List ℕ) → list_all (is_in cs) cs1 ≡ true → Steady cs1 may read → Steady cs may read
steady_wide may read cs1 cs wide one = record {
  placed = record {
    ok = one.placed.ok;
    err = λ bytes left e.
        let s = one.placed.err bytes left e in
        record { front = s.front; rest = s.rest; whole = s.whole; left_is = s.left_is; more = s.more; value = s.value; gives = s.gives; starts = λ n. begins_picked (is_in cs) cs1 s.more wide (s.starts n); good = s.good; dead = s.dead };
    some = let s = one.placed.some in record { bytes = s.bytes; value = s.value; gives = s.gives; starts = widened s.bytes s.starts; good = s.good };
  };
  longer = one.longer;
}
  where
    widened : (o : List ℕ) → may_begin cs1 o ≡ true → may_begin cs o ≡ true
    widened [] e = refl
    widened (b ∷ o) e = begins_picked (is_in cs) cs1 (b ∷ o) wide e

-- ---- repeated parts

pub steady_until : {A : Type 0} (cs : List ℕ) (part : List ℕ → Reading (Option A)) → Steady cs loose part → ((x : A) (t : List ℕ) → list_all (λ c. loose (Some x) (c ∷ t)) cs ≡ true) → Ends any_byte cs part → Steady cs soft (until_at part)
steady_until {A} cs part one seam end = record {
  placed = placed_until any_byte cs loose soft part (λ bytes x rest e. one.longer bytes (Some x) rest e) one.placed seam (λ xs o c. (c, λ ys. c, λ bytes rest e. one.longer bytes None rest e)) end;
  longer = λ bytes xs after e. until_longer part (λ bytes x rest e. one.longer bytes (Some x) rest e) (λ bytes rest e. one.longer bytes None rest e) (suc (length bytes)) bytes xs after (omega arith) e;
}
