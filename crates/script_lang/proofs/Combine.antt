-- What reads phrases that are put together.
use Rattle.std.proofs.Common.{◌≡◌, ℕ, ◌≤◌, Bool, true, false, List, [], ◌++◌, length, Ok, Err, refl, sym, ap, ◌∙◌, append_assoc, arith, ◌⊎◌, inl, inr}
use Rattle.script_lang.specs.Phrases.{Done, ◌▷◌, Never}
use Rattle.script_lang.specs.Readings.{Reading, ◌>>=◌}

pub which : (b : Bool) → (b ≡ true) ⊎ (b ≡ false)
which true = inl refl
which false = inr refl

abbrev pub reading : {A : Type 0} → A → List ℕ → Reading A
reading x rest = Ok (x, rest)

pub ok_parts : {A : Type 0} (x y : A) (s t : List ℕ) → reading x s ≡ reading y t → (x ≡ y) × (s ≡ t)
ok_parts {A} x y s t e =
    let pair : A × List ℕ = (x, s) in
    let other : A × List ℕ = (y, t) in
    let p : pair ≡ other = cc in
    (ap (λ (q : A × List ℕ). q.0) p, ap (λ (q : A × List ℕ). q.1) p)

pub bind_ok : {A B : Type 0} (r : Reading A) (f : A × List ℕ → Reading B) (y : B × List ℕ) → (r >>= f) ≡ Ok y → (x : A × List ℕ) × (r ≡ Ok x) × (f x ≡ Ok y)
bind_ok (Ok x) f y e = (x, refl, e)
bind_ok (Err d) f y e = absurd cc

pub bind_err : {A B : Type 0} (r : Reading A) (f : A × List ℕ → Reading B) (left : ℕ) → (r >>= f) ≡ Err left → (r ≡ Err left) ⊎ ((x : A × List ℕ) × (r ≡ Ok x) × (f x ≡ Err left))
bind_err (Ok x) f left e = inr (x, refl, e)
bind_err (Err d) f left e = inl (let same : d ≡ left = cc in ap Err same)

pub record Taken {U A : Type 0} (units : List ℕ → List U) (L : List U → A → Type 0) (bytes : List ℕ) (v : A) (rest : List ℕ) : Type 0 where
  pub front : List U
  pub is : L front v
  pub units_are : units bytes ≡ front ++ units rest

pub record Again {U A : Type 0} (units : List ℕ → List U) (read : List ℕ → Reading A) (bytes : List ℕ) (v : A) (more : List U) : Type 0 where
  pub rest : List ℕ
  pub gives : read bytes ≡ Ok (v, rest)
  pub units_are : units rest ≡ more

-- What is read is a phrase, and a phrase is read before all that may follow its value.
pub record Reads {U A : Type 0} (units : List ℕ → List U) (may : A → List U → Bool) (L : List U → A → Type 0) (read : List ℕ → Reading A) : Type 0 where
  pub takes : (bytes : List ℕ) (v : A) (rest : List ℕ) → read bytes ≡ Ok (v, rest) → Taken units L bytes v rest
  pub again : (bytes : List ℕ) (front : List U) (v : A) (more : List U) → L front v → units bytes ≡ front ++ more → may v more ≡ true → Again units read bytes v more
  pub less : (bytes : List ℕ) (v : A) (rest : List ℕ) → read bytes ≡ Ok (v, rest) → length rest ≤ length bytes
  pub within : (bytes : List ℕ) (left : ℕ) → read bytes ≡ Err left → left ≤ length bytes

-- anything may follow
abbrev pub always : {U A : Type 0} → A → List U → Bool
always v more = true

pub reads_done : {U A : Type 0} (units : List ℕ → List U) (may : A → List U → Bool) (v : A) → Reads units may (Done v) (λ bytes. Ok (v, bytes))
reads_done {U} {A} units may v = record {
  takes = λ bytes w rest e. let p = ok_parts v w bytes rest e in record { front = []; is = record { none = refl; same = p.0 }; units_are = ap units p.1 };
  again = λ bytes front w more is e m. record { rest = bytes; gives = rw is.same refl; units_are = e ∙ rw is.none refl };
  less = λ bytes w rest e. let p = ok_parts v w bytes rest e in omega (arith, ap length p.1);
  within = λ bytes left e. absurd cc;
}

pub reads_then : {U A B : Type 0} (units : List ℕ → List U) (may : A → List U → Bool) (can : B → List U → Bool) (L : List U → A → Type 0) (M : A → List U → B → Type 0) (read : List ℕ → Reading A) (k : A × List ℕ → Reading B) → Reads units may L read → ((v : A) → Reads units can (M v) (λ bytes. k (v, bytes))) → ((v : A) (w : B) (back more : List U) → M v back w → can w more ≡ true → may v (back ++ more) ≡ true) → Reads units can (L ▷ M) (λ bytes. read bytes >>= k)
reads_then {U} {A} {B} units may can L M read k one two between = record {
  takes = λ bytes w rest e.
      let b = bind_ok (read bytes) k (w, rest) e in
      let t = one.takes bytes b.0.0 b.0.1 b.1 in
      let u = (two b.0.0).takes b.0.1 w rest b.2 in
      record {
        front = t.front ++ u.front;
        is = record { value = b.0.0; front = t.front; back = u.front; whole = refl; first = t.is; second = u.is };
        units_are = t.units_are ∙ ap (λ (rs : List U). t.front ++ rs) u.units_are ∙ sym (append_assoc t.front u.front (units rest));
      };
  again = λ bytes front w more is e m.
      let follows = between is.value w is.back more is.second m in
      let a = one.again bytes is.front is.value (is.back ++ more) is.first (e ∙ ap (λ (rs : List U). rs ++ more) is.whole ∙ append_assoc is.front is.back more) follows in
      let b = (two is.value).again a.rest is.back w more is.second a.units_are m in
      record { rest = b.rest; gives = rw a.gives b.gives; units_are = b.units_are };
  less = λ bytes w rest e.
      let b = bind_ok (read bytes) k (w, rest) e in
      omega (arith, one.less bytes b.0.0 b.0.1 b.1, (two b.0.0).less b.0.1 w rest b.2);
  within = λ bytes left e. elim (bind_err (read bytes) k left e) [
    | inl f ↦ one.within bytes left f
    | inr x ↦ omega (arith, one.less bytes x.0.0 x.0.1 x.1, (two x.0.0).within x.0.1 left x.2)
  ];
}

-- where anything may follow
pub reads_on : {U A B : Type 0} (units : List ℕ → List U) (L : List U → A → Type 0) (M : A → List U → B → Type 0) (read : List ℕ → Reading A) (k : A × List ℕ → Reading B) → Reads units always L read → ((v : A) → Reads units always (M v) (λ bytes. k (v, bytes))) → Reads units always (L ▷ M) (λ bytes. read bytes >>= k)
reads_on units L M read k one two = reads_then units always always L M read k one two (λ v w back more is m. refl)

pub reads_as : {U A : Type 0} (units : List ℕ → List U) (may : A → List U → Bool) (L M : List U → A → Type 0) (read : List ℕ → Reading A) → ((rs : List U) (v : A) → L rs v → M rs v) → ((rs : List U) (v : A) → M rs v → L rs v) → Reads units may L read → Reads units may M read
reads_as units may L M read to from one = record {
  takes = λ bytes v rest e. let t = one.takes bytes v rest e in record { front = t.front; is = to t.front v t.is; units_are = t.units_are };
  again = λ bytes front v more is e m. one.again bytes front v more (from front v is) e m;
  less = one.less;
  within = one.within;
}

-- where less may follow
pub reads_before : {U A : Type 0} (units : List ℕ → List U) (may can : A → List U → Bool) (L : List U → A → Type 0) (read : List ℕ → Reading A) → ((v : A) (more : List U) → can v more ≡ true → may v more ≡ true) → Reads units may L read → Reads units can L read
reads_before units may can L read so one = record {
  takes = one.takes;
  again = λ bytes front v more is e m. one.again bytes front v more is e (so v more m);
  less = one.less;
  within = one.within;
}

pub reads_never : {U A : Type 0} (units : List ℕ → List U) (may : A → List U → Bool) → Reads {A = A} units may Never (λ bytes. Err (length bytes))
reads_never units may = record {
  takes = λ bytes v rest e. absurd cc;
  again = λ bytes front v more is e m. absurd is;
  less = λ bytes v rest e. absurd cc;
  within = λ bytes left e. let same : length bytes ≡ left = cc in omega arith;
}
