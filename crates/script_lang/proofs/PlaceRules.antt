-- Where reading stops: the bytes before it go on to something that is read, and with the byte there they go on to nothing.
use Rattle.std.proofs.Common.{◌≡◌, ℕ, ◌<◌, Bool, true, false, eqb, ◌||◌, List, [], ◌∷◌, ◌++◌, length, Ok, Err, Option, Some, None, refl, sym, ap, subst, ◌∙◌, append_assoc, inl, inr}
use Rattle.std.proofs.lemmas.List.{append-nil}
use Rattle.std.proofs.lemmas.Bool.{eqb-true}
use Rattle.std.specs.List.{list_all}
use Rattle.script_lang.specs.Readings.{Reading, ◌>>=◌}
use Rattle.script_lang.specs.Scans.{begins}
use Rattle.script_lang.proofs.Values.{both_true}
use Rattle.script_lang.proofs.Combine.{which, ok_parts, bind_ok}

-- the next byte
abbrev pub next : List ℕ → Option ℕ
next [] = None
next (b ∷ bytes) = Some b

-- one of these bytes
abbrev pub is_in : List ℕ → ℕ → Bool
is_in [] b = false
is_in (c ∷ cs) b = eqb b c || is_in cs b

-- nothing, or bytes that begin with one of these
abbrev pub may_begin : List ℕ → List ℕ → Bool
may_begin cs [] = true
may_begin cs (b ∷ bytes) = is_in cs b

-- What was read is read again before bytes that begin with the same one, and before those that may follow.
pub record Front {A : Type 0} (may : A → List ℕ → Bool) (read : List ℕ → Reading A) (bytes : List ℕ) (v : A) (rest : List ℕ) : Type 0 where
  pub front : List ℕ
  pub whole : bytes ≡ front ++ rest
  pub same : (other : List ℕ) → next other ≡ next rest → read (front ++ other) ≡ Ok (v, other)
  pub free : (other : List ℕ) → may v other ≡ true → read (front ++ other) ≡ Ok (v, other)

-- What stands before a fault goes on to something, by bytes that begin with one of cs if nothing stands there, and all pass p.
pub record Stuck {A : Type 0} (p : ℕ → Bool) (cs : List ℕ) (read : List ℕ → Reading A) (bytes : List ℕ) (left : ℕ) : Type 0 where
  pub front : List ℕ
  pub rest : List ℕ
  pub whole : bytes ≡ front ++ rest
  pub left_is : length rest ≡ left
  pub more : List ℕ
  pub value : A
  pub gives : read (front ++ more) ≡ Ok (value, [])
  pub starts : front ≡ [] → begins (is_in cs) more ≡ true
  pub good : list_all p more ≡ true
  pub dead : (b : ℕ) (after other : List ℕ) (v : A) (z : List ℕ) → rest ≡ b ∷ after → read (front ++ b ∷ other) ≡ Ok (v, z) → ⊥

-- something that is read
pub record Example {A : Type 0} (p : ℕ → Bool) (cs : List ℕ) (read : List ℕ → Reading A) : Type 0 where
  pub bytes : List ℕ
  pub value : A
  pub gives : read bytes ≡ Ok (value, [])
  pub starts : may_begin cs bytes ≡ true
  pub good : list_all p bytes ≡ true

pub record Placed {A : Type 0} (p : ℕ → Bool) (cs : List ℕ) (may : A → List ℕ → Bool) (read : List ℕ → Reading A) : Type 0 where
  pub ok : (bytes : List ℕ) (v : A) (rest : List ℕ) → read bytes ≡ Ok (v, rest) → Front may read bytes v rest
  pub err : (bytes : List ℕ) (left : ℕ) → read bytes ≡ Err left → Stuck p cs read bytes left
  pub some : Example p cs read

-- each reading takes a byte
abbrev pub Longer : {A : Type 0} → (List ℕ → Reading A) → Type 0
Longer {A} read = (bytes : List ℕ) (v : A) (rest : List ℕ) → read bytes ≡ Ok (v, rest) → length rest < length bytes

-- nothing that is known may follow
abbrev pub never : {A : Type 0} → A → List ℕ → Bool
never v more = false

-- ---- lists

pub next_append : (front x y : List ℕ) → next x ≡ next y → next (front ++ x) ≡ next (front ++ y)
next_append [] x y e = e
next_append (b ∷ front) x y e = refl

pub all_append : (p : ℕ → Bool) (xs ys : List ℕ) → list_all p xs ≡ true → list_all p ys ≡ true → list_all p (xs ++ ys) ≡ true
all_append p [] ys e f = f
all_append p (x ∷ xs) ys e f = let q = both_true (p x) (list_all p xs) e in rw q.0 (all_append p xs ys q.1 f)

pub begins_append : (q : ℕ → Bool) (a b : List ℕ) → begins q a ≡ true → begins q (a ++ b) ≡ true
begins_append q [] b e = absurd cc
begins_append q (c ∷ a) b e = e

pub none_of : (a b : List ℕ) → a ++ b ≡ [] → (a ≡ []) × (b ≡ [])
none_of [] b e = (refl, e)
none_of (c ∷ a) b e = absurd cc

-- what all of these bytes pass, one of them passes
pub picked : (q : ℕ → Bool) (cs : List ℕ) (b : ℕ) → list_all q cs ≡ true → is_in cs b ≡ true → q b ≡ true
picked q [] b all e = absurd cc
picked q (c ∷ cs) b all e = elim (which (eqb b c)) [
  | inl t ↦ rw (eqb-true b c t) (both_true (q c) (list_all q cs) all).0
  | inr n ↦ picked q cs b (both_true (q c) (list_all q cs) all).1 (rw n at e)
]

pub begins_picked : (q : ℕ → Bool) (cs : List ℕ) (o : List ℕ) → list_all q cs ≡ true → begins (is_in cs) o ≡ true → begins q o ≡ true
begins_picked q cs [] all e = absurd cc
begins_picked q cs (b ∷ o) all e = picked q cs b all e

-- ---- one after another

pub placed_done : {A : Type 0} (p : ℕ → Bool) (cs : List ℕ) (may : A → List ℕ → Bool) (v : A) → Placed p cs may (λ bytes. Ok (v, bytes))
placed_done {A} p cs may v = record {
  ok = λ bytes w rest e. let q = ok_parts v w bytes rest e in record { front = []; whole = q.1; same = λ other n. rw q.0 refl; free = λ other m. rw q.0 refl };
  err = λ bytes left e. absurd cc;
  some = record { bytes = []; value = v; gives = refl; starts = refl; good = refl };
}

bound : {A B : Type 0} (r : Reading A) (f : A × List ℕ → Reading B) (v : A) (x : List ℕ) (y : Reading B) → r ≡ Ok (v, x) → f (v, x) ≡ y → (r >>= f) ≡ y
bound r f v x y e h = rw e h

-- what comes first is read again before what begins as before, or may follow
pub before : {A : Type 0} (may : A → List ℕ → Bool) (read : List ℕ → Reading A) (bytes : List ℕ) (v : A) (x : List ℕ) (f : Front may read bytes v x) (front rest more : List ℕ) → x ≡ front ++ rest → (front ≡ [] → may v more ≡ true) → read (f.front ++ (front ++ more)) ≡ Ok (v, front ++ more)
before may read bytes v x f [] rest more e can = f.free more (can refl)
before may read bytes v x f (b ∷ front) rest more e can = f.same (b ∷ (front ++ more)) (let h : next x ≡ Some b = ap next e in sym h)

by_example : {A : Type 0} {may : A → List ℕ → Bool} {read : List ℕ → Reading A} {bytes : List ℕ} {v : A} (f : Front may read bytes v []) (cs : List ℕ) (o : List ℕ) → may_begin cs o ≡ true → ((o : List ℕ) → begins (is_in cs) o ≡ true → may v o ≡ true) → read (f.front ++ o) ≡ Ok (v, o)
by_example f cs [] e seam = f.same [] refl
by_example f cs (b ∷ o) e seam = f.free (b ∷ o) (seam (b ∷ o) e)

module _ {A B : Type 0} (p : ℕ → Bool) (may : A → List ℕ → Bool) (can : B → List ℕ → Bool) (read : List ℕ → Reading A) (k : A × List ℕ → Reading B) where
  pub then_front : (own : B → List ℕ → Bool) (bytes : List ℕ) (v : A) (x : List ℕ) (w : B) (rest : List ℕ) (f : Front may read bytes v x) (g : Front own (λ s. k (v, s)) x w rest) → ((other : List ℕ) → can w other ≡ true → (own w other ≡ true) × (g.front ≡ [] → may v other ≡ true)) → Front can (λ s. read s >>= k) bytes w rest
  then_front own bytes v x w rest f g near = record {
    front = f.front ++ g.front;
    whole = f.whole ∙ ap (λ (t : List ℕ). f.front ++ t) g.whole ∙ sym (append_assoc f.front g.front rest);
    same = λ other n.
        let first = f.same (g.front ++ other) (next_append g.front other rest n ∙ ap next (sym g.whole)) in
        let all = bound _ k v (g.front ++ other) _ first (g.same other n) in
        subst (λ (t : List ℕ). (read t >>= k) ≡ Ok (w, other)) (sym (append_assoc f.front g.front other)) all;
    free = λ other m.
        let c = near other m in
        let first = before may read bytes v x f g.front rest other g.whole c.1 in
        let all = bound _ k v (g.front ++ other) _ first (g.free other c.0) in
        subst (λ (t : List ℕ). (read t >>= k) ≡ Ok (w, other)) (sym (append_assoc f.front g.front other)) all;
  }

  -- the first goes wrong: what begins so is finished by an example of the second
  pub then_first : (cs1 cs cs2 : List ℕ) (bytes : List ℕ) (left : ℕ) (s : Stuck p cs1 read bytes left) → Front may read (s.front ++ s.more) s.value [] → Example p cs2 (λ t. k (s.value, t)) → ((o : List ℕ) → begins (is_in cs2) o ≡ true → may s.value o ≡ true) → ((o : List ℕ) → begins (is_in cs1) o ≡ true → begins (is_in cs) o ≡ true) → Stuck p cs (λ t. read t >>= k) bytes left
  then_first cs1 cs cs2 bytes left s f g seam wide =
      let same : f.front ≡ s.front ++ s.more = sym (f.whole ∙ append-nil f.front) in
      let near : read (f.front ++ g.bytes) ≡ Ok (s.value, g.bytes) = by_example f cs2 g.bytes g.starts seam in
      let all = bound _ k s.value g.bytes _ (subst (λ (t : List ℕ). read (t ++ g.bytes) ≡ Ok (s.value, g.bytes)) same near) g.gives in
      record {
        front = s.front;
        rest = s.rest;
        whole = s.whole;
        left_is = s.left_is;
        more = s.more ++ g.bytes;
        value = g.value;
        gives = subst (λ (t : List ℕ). (read t >>= k) ≡ Ok (g.value, [])) (append_assoc s.front s.more g.bytes) all;
        starts = λ n. begins_append (is_in cs) s.more g.bytes (wide s.more (s.starts n));
        good = all_append p s.more g.bytes s.good g.good;
        dead = λ b after other v z is e. let x = bind_ok (read (s.front ++ b ∷ other)) k (v, z) e in s.dead b after other x.0.0 x.0.1 is x.1;
      }

  pub then_dead : (cs2 : List ℕ) (bytes : List ℕ) (left : ℕ) (v : A) (x : List ℕ) (f : Front may read bytes v x) (g : Stuck p cs2 (λ s. k (v, s)) x left) (b : ℕ) (after other : List ℕ) (w : B) (z : List ℕ) → g.rest ≡ b ∷ after → (read ((f.front ++ g.front) ++ b ∷ other) >>= k) ≡ Ok (w, z) → ⊥
  then_dead cs2 bytes left v x f g b after other w z is q =
      let shape : x ≡ g.front ++ b ∷ after = g.whole ∙ ap (λ (t : List ℕ). g.front ++ t) is in
      let near = f.same (g.front ++ b ∷ other) (next_append g.front (b ∷ other) (b ∷ after) refl ∙ ap next (sym shape)) in
      let e : (read (f.front ++ (g.front ++ b ∷ other)) >>= k) ≡ Ok (w, z) = subst (λ (t : List ℕ). (read t >>= k) ≡ Ok (w, z)) (append_assoc f.front g.front (b ∷ other)) q in
      g.dead b after other w z is (sym (bound _ k v (g.front ++ b ∷ other) _ near refl) ∙ e)

  pub then_second : (cs cs2 : List ℕ) (bytes : List ℕ) (left : ℕ) (v : A) (x : List ℕ) (f : Front may read bytes v x) (g : Stuck p cs2 (λ s. k (v, s)) x left) → (g.front ≡ [] → may v g.more ≡ true) → (f.front ≡ [] → g.front ≡ [] → begins (is_in cs) g.more ≡ true) → Stuck p cs (λ s. read s >>= k) bytes left
  then_second cs cs2 bytes left v x f g seam wide = record {
    front = f.front ++ g.front;
    rest = g.rest;
    whole = f.whole ∙ ap (λ (t : List ℕ). f.front ++ t) g.whole ∙ sym (append_assoc f.front g.front g.rest);
    left_is = g.left_is;
    more = g.more;
    value = g.value;
    gives =
        let near = before may read bytes v x f g.front g.rest g.more g.whole seam in
        let all = bound _ k v (g.front ++ g.more) _ near g.gives in
        subst (λ (t : List ℕ). (read t >>= k) ≡ Ok (g.value, [])) (sym (append_assoc f.front g.front g.more)) all;
    starts = λ n. let m = none_of f.front g.front n in wide m.0 m.1;
    good = g.good;
    dead = λ b after other w z is q. then_dead cs2 bytes left v x f g b after other w z is q;
  }

  -- an example of both
  pub then_some : (cs1 cs cs2 : List ℕ) (s : Example p cs1 read) → Front may read s.bytes s.value [] → (g : Example p cs2 (λ t. k (s.value, t))) → ((o : List ℕ) → begins (is_in cs2) o ≡ true → may s.value o ≡ true) → may_begin cs (s.bytes ++ g.bytes) ≡ true → Example p cs (λ t. read t >>= k)
  then_some cs1 cs cs2 s f g seam begin =
      let same : f.front ≡ s.bytes = sym (f.whole ∙ append-nil f.front) in
      let near : read (f.front ++ g.bytes) ≡ Ok (s.value, g.bytes) = by_example f cs2 g.bytes g.starts seam in
      record {
        bytes = s.bytes ++ g.bytes;
        value = g.value;
        gives = bound _ k s.value g.bytes _ (subst (λ (t : List ℕ). read (t ++ g.bytes) ≡ Ok (s.value, g.bytes)) same near) g.gives;
        starts = begin;
        good = all_append p s.bytes g.bytes s.good g.good;
      }
