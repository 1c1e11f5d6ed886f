-- The next run is the first run of the line.
use Rattle.std.proofs.Common.{◌≡◌, ℕ, suc, ◌+◌, ◌<◌, ◌≤◌, Bool, true, false, eqb, List, [], ◌∷◌, length, take, drop, Ok, Err, refl, sym, ap, subst, ◌∙◌, arith, ◌||◌, ◌&&◌, inl, inr}
use Rattle.std.proofs.lemmas.Bool.{eqb-true, eqb-false, ne_eqb}
use Rattle.std.proofs.lemmas.List.{length-drop, length-take-le}
use Rattle.script_lang.specs.Phrases.{Sign}
use Rattle.script_lang.specs.Bytes.{is_blank, is_parenthesis, is_semicolon}
use Rattle.script_lang.specs.Grammar.{Run, is_end, brackets_behind, onto_first, runs_behind, runs, Word}
use Rattle.script_lang.specs.Readings.{Reading, Judged, taken}
use Rattle.script_lang.specs.Scans.{after_blanks}
use Rattle.script_lang.specs.Lines.{word_len, run_len, next_at, word_at}
use Rattle.script_lang.proofs.Combine.{which, ok_parts, bind_ok, bind_err, Reads, always}

-- ---- bytes that end no run

neither : (a b : Bool) → (a || b) ≡ false → (a ≡ false) × (b ≡ false)
neither true b e = (let f : true ≡ false = e in absurd cc, absurd (let f : true ≡ false = e in cc))
neither false b e = (refl, e)

record IsInner (brackets b : ℕ) : Type 0 where
  pub parenthesis : is_parenthesis b ≡ false
  pub semicolon : is_semicolon b ≡ false
  pub blank : (is_blank b && eqb brackets 0) ≡ false

inner : (brackets b : ℕ) → is_end brackets b ≡ false → IsInner brackets b
inner brackets b e =
    let p = neither (is_parenthesis b || is_semicolon b) (is_blank b && eqb brackets 0) e in
    let q = neither (is_parenthesis b) (is_semicolon b) p.0 in
    record { parenthesis = q.0; semicolon = q.1; blank = p.1 }

-- ---- blanks

blank_apart : (b : ℕ) → is_blank b ≡ true → (is_parenthesis b ≡ false) × (is_semicolon b ≡ false)
blank_apart b e = elim (which (eqb b 32)) [
  | inl t ↦ (rw (eqb-true b 32 t) refl, rw (eqb-true b 32 t) refl)
  | inr n ↦ let f = rw n at e in elim (which (eqb b 9)) [
    | inl t ↦ (rw (eqb-true b 9 t) refl, rw (eqb-true b 9 t) refl)
    | inr m ↦ let g = rw m at f in (rw (eqb-true b 13 g) refl, rw (eqb-true b 13 g) refl)
  ]
]

runs_blank : (b : ℕ) (bytes : List ℕ) → is_blank b ≡ true → runs_behind 0 (b ∷ bytes) ≡ runs_behind 0 bytes
unfolding runs_behind
runs_blank b bytes e = let a = blank_apart b e in rw (a.0, a.1, e) refl

pub runs-after_blanks : (s : List ℕ) → runs (after_blanks s) ≡ runs s
unfolding after_blanks
runs-after_blanks [] = refl
runs-after_blanks (b ∷ bytes) = elim (which (is_blank b)) [
  | inl e ↦ rw e (runs-after_blanks bytes ∙ sym (runs_blank b bytes e))
  | inr e ↦ rw e refl
]

pub less-after_blanks : (s : List ℕ) → length (after_blanks s) ≤ length s
unfolding after_blanks
less-after_blanks [] = omega arith
less-after_blanks (b ∷ bytes) = elim (which (is_blank b)) [
  | inl e ↦ rw e (omega (arith, less-after_blanks bytes))
  | inr e ↦ rw e (omega arith)
]

unfoldable pub begins_blank : List ℕ → Bool
begins_blank [] = false
begins_blank (b ∷ bytes) = is_blank b

pub after_blanks-begins : (s : List ℕ) → begins_blank (after_blanks s) ≡ false
unfolding after_blanks begins_blank
after_blanks-begins [] = refl
after_blanks-begins (b ∷ bytes) = elim (which (is_blank b)) [
  | inl e ↦ rw e (after_blanks-begins bytes)
  | inr e ↦ rw e e
]

-- ---- the run at the front

-- a word at the front
word-first : (brackets b : ℕ) (bytes : List ℕ) → is_end brackets b ≡ false → runs_behind brackets (b ∷ bytes) ≡ (b ∷ take (word_len (brackets_behind brackets b) bytes) bytes) ∷ runs_behind 0 (drop (word_len (brackets_behind brackets b) bytes) bytes)
unfolding runs_behind word_len
word-first brackets b [] e = let i = inner brackets b e in rw (i.parenthesis, i.semicolon, i.blank) refl
word-first brackets b (c ∷ bytes) e = elim (which (is_end (brackets_behind brackets b) c)) [
  | inl f ↦ let i = inner brackets b e in rw (i.parenthesis, i.semicolon, i.blank, f) refl
  | inr f ↦ let i = inner brackets b e in let h = word-first (brackets_behind brackets b) c bytes f in rw (i.parenthesis, i.semicolon, i.blank, f) (ap (onto_first b) h)
]

-- the run at the front, behind the blanks
run-first : (t : List ℕ) → begins_blank t ≡ false → 0 < run_len t → runs t ≡ take (run_len t) t ∷ runs (drop (run_len t) t)
unfolding runs_behind run_len word_len begins_blank
run-first [] e lt = absurd (omega arith)
run-first (b ∷ bytes) e lt = elim (which (is_parenthesis b)) [
  | inl p ↦ rw p refl
  | inr p ↦ elim (which (is_end 0 b)) [
    | inl q ↦ let none : run_len (b ∷ bytes) ≡ 0 = rw q (rw p refl) in absurd (omega arith)
    | inr q ↦
        let len : run_len (b ∷ bytes) ≡ suc (word_len (brackets_behind 0 b) bytes) = rw q (rw p refl) in
        subst (λ (n : ℕ). runs (b ∷ bytes) ≡ take n (b ∷ bytes) ∷ runs (drop n (b ∷ bytes))) (sym len) (word-first 0 b bytes q)
  ]
]

run-none : (t : List ℕ) → begins_blank t ≡ false → run_len t ≡ 0 → runs t ≡ []
unfolding runs_behind run_len word_len begins_blank
run-none [] e z = refl
run-none (b ∷ bytes) e z = elim (which (is_parenthesis b)) [
  | inl p ↦ let one : run_len (b ∷ bytes) ≡ 1 = rw p refl in absurd (omega arith)
  | inr p ↦ elim (which (is_semicolon b)) [
    | inl q ↦ rw (p, q) refl
    | inr q ↦ let some : run_len (b ∷ bytes) ≡ suc (word_len (brackets_behind 0 b) bytes) = rw p (rw (q, e) refl) in absurd (omega arith)
  ]
]

word_len-within : (brackets : ℕ) (bytes : List ℕ) → word_len brackets bytes ≤ length bytes
unfolding word_len
word_len-within brackets [] = omega arith
word_len-within brackets (b ∷ bytes) = elim (which (is_end brackets b)) [
  | inl t ↦ rw t (omega arith)
  | inr n ↦ rw n (omega (arith, word_len-within (brackets_behind brackets b) bytes))
]

run_len-within : (bytes : List ℕ) → run_len bytes ≤ length bytes
unfolding run_len
run_len-within [] = omega arith
run_len-within (b ∷ bytes) = elim (which (is_parenthesis b)) [
  | inl t ↦ rw t (omega arith)
  | inr n ↦ rw n (word_len-within 0 (b ∷ bytes))
]

-- ---- reading one run

pub ended : (s : List ℕ) → run_len (after_blanks s) ≡ 0 → runs s ≡ []
ended s z = sym (runs-after_blanks s) ∙ run-none (after_blanks s) (after_blanks-begins s) z

pub not_ended : (s : List ℕ) → runs s ≡ [] → run_len (after_blanks s) ≡ 0
not_ended s none = elim (which (eqb (run_len (after_blanks s)) 0)) [
  | inl z ↦ eqb-true (run_len (after_blanks s)) 0 z
  | inr z ↦
      let some : 0 < run_len (after_blanks s) = let n = eqb-false (run_len (after_blanks s)) 0 z in omega arith in
      let h = run-first (after_blanks s) (after_blanks-begins s) some in
      absurd (let e : [] ≡ take (run_len (after_blanks s)) (after_blanks s) ∷ runs (drop (run_len (after_blanks s)) (after_blanks s)) = sym none ∙ sym (runs-after_blanks s) ∙ h in cc)
]

record IsNext (s : List ℕ) (run : Run) (rest : List ℕ) : Type 0 where
  pub gives : next_at s ≡ Ok (run, rest)
  pub runs_are : runs s ≡ run ∷ runs rest
  pub parts : length run + length rest ≤ length s
  pub some : 0 < length run

some_run : (s : List ℕ) → 0 < run_len (after_blanks s) → IsNext s (take (run_len (after_blanks s)) (after_blanks s)) (drop (run_len (after_blanks s)) (after_blanks s))
unfolding next_at
some_run s lt =
    let within = run_len-within (after_blanks s) in
    let all = less-after_blanks s in
    let front : length (take (run_len (after_blanks s)) (after_blanks s)) ≡ run_len (after_blanks s) = length-take-le (run_len (after_blanks s)) (after_blanks s) within in
    record {
      gives = let z : eqb (run_len (after_blanks s)) 0 ≡ false = ne_eqb (run_len (after_blanks s)) 0 (λ e. omega arith) in rw z refl;
      runs_are = sym (runs-after_blanks s) ∙ run-first (after_blanks s) (after_blanks-begins s) lt;
      parts = omega (arith, front, length-drop (run_len (after_blanks s)) (after_blanks s));
      some = omega (arith, front);
    }

next-is : (s : List ℕ) (run : Run) (rest : List ℕ) → next_at s ≡ Ok (run, rest) → IsNext s run rest
unfolding next_at
next-is s run rest e = elim (which (eqb (run_len (after_blanks s)) 0)) [
  | inl z ↦ absurd (let f = rw z at e in cc)
  | inr z ↦
      let n = some_run s (let n = eqb-false (run_len (after_blanks s)) 0 z in omega arith) in
      let same = sym n.gives ∙ e in
      let parts : (take (run_len (after_blanks s)) (after_blanks s) ≡ run) × (drop (run_len (after_blanks s)) (after_blanks s) ≡ rest) = ok_parts _ _ _ _ same in
      subst (λ (r : Run). IsNext s r rest) parts.0 (subst (IsNext s (take (run_len (after_blanks s)) (after_blanks s))) parts.1 n)
]

next-again : (s : List ℕ) (run : Run) (more : List Run) → runs s ≡ run ∷ more → (rest : List ℕ) × (next_at s ≡ Ok (run, rest)) × (runs rest ≡ more)
next-again s run more e = elim (which (eqb (run_len (after_blanks s)) 0)) [
  | inl z ↦ absurd (let f : [] ≡ run ∷ more = sym (ended s (eqb-true (run_len (after_blanks s)) 0 z)) ∙ e in cc)
  | inr z ↦
      let n = some_run s (let n = eqb-false (run_len (after_blanks s)) 0 z in omega arith) in
      let same = sym n.runs_are ∙ e in
      let head : take (run_len (after_blanks s)) (after_blanks s) ≡ run = cc in
      let tail : runs (drop (run_len (after_blanks s)) (after_blanks s)) ≡ more = cc in
      (drop (run_len (after_blanks s)) (after_blanks s), n.gives ∙ (rw head refl), tail)
]

next-within : (s : List ℕ) (left : ℕ) → next_at s ≡ Err left → left ≤ length s
unfolding next_at
next-within s left e = elim (which (eqb (run_len (after_blanks s)) 0)) [
  | inl z ↦ let f = rw z at e in let same : length (after_blanks s) ≡ left = cc in omega (arith, less-after_blanks s)
  | inr z ↦ absurd (let f = rw z at e in cc)
]

-- ---- words

abbrev pub Lines : {A : Type 0} → (List Run → A → Type 0) → (List ℕ → Reading A) → Type 0
Lines L read = Reads (λ bytes. runs_behind 0 bytes) always L read

-- a run is taken for exactly what it means
pub record Judging {A : Type 0} (Means : Run → A → Type 0) (judge : Run → Judged A) : Type 0 where
  pub is : (run : Run) (v : A) → judge run ≡ Ok v → Means run v
  pub again : (run : Run) (v : A) → Means run v → judge run ≡ Ok v
  pub within : (run : Run) (left : ℕ) → judge run ≡ Err left → left ≤ length run

taken_ok : {A : Type 0} (rest : List ℕ) (judged : Judged A) (v : A) (after : List ℕ) → taken rest judged ≡ Ok (v, after) → (judged ≡ Ok v) × (rest ≡ after)
taken_ok rest (Ok x) v after e = let p = ok_parts x v rest after e in (ap Ok p.0, p.1)
taken_ok rest (Err left) v after e = absurd cc

taken_err : {A : Type 0} (rest : List ℕ) (judged : Judged A) (left : ℕ) → taken rest judged ≡ Err left → (own : ℕ) × (judged ≡ Err own) × (own + length rest ≡ left)
taken_err rest (Ok x) left e = absurd cc
taken_err rest (Err own) left e = (own, refl, cc)

pub word_shorter : {A : Type 0} (judge : Run → Judged A) (bytes : List ℕ) (v : A) (rest : List ℕ) → word_at judge bytes ≡ Ok (v, rest) → length rest < length bytes
unfolding word_at
word_shorter judge bytes v rest e =
    let b = bind_ok (next_at bytes) (λ run. taken run.1 (judge run.0)) (v, rest) e in
    let j = taken_ok b.0.1 (judge b.0.0) v rest b.2 in
    let n = next-is bytes b.0.0 b.0.1 b.1 in
    let p = n.parts in
    let s = n.some in
    omega (arith, ap length j.1)

pub reads_word : {A : Type 0} (Means : Run → A → Type 0) (judge : Run → Judged A) → Judging Means judge → Lines (Word Means) (word_at judge)
unfolding word_at
reads_word {A} Means judge one = record {
  takes = λ bytes w rest e.
      let b = bind_ok (next_at bytes) (λ run. taken run.1 (judge run.0)) (w, rest) e in
      let j = taken_ok b.0.1 (judge b.0.0) w rest b.2 in
      let n = next-is bytes b.0.0 b.0.1 b.1 in
      record { front = b.0.0 ∷ []; is = record { run = b.0.0; only = refl; means = one.is b.0.0 w j.0 }; units_are = n.runs_are ∙ ap (λ (r : List ℕ). b.0.0 ∷ runs r) j.1 };
  again = λ bytes front w more is e m.
      let n = next-again bytes is.run more (e ∙ rw is.only refl) in
      record { rest = n.0; gives = rw n.1 (rw (one.again is.run w is.means) refl); units_are = n.2 };
  less = λ bytes w rest e. let s = word_shorter judge bytes w rest e in omega arith;
  within = λ bytes left e. elim (bind_err (next_at bytes) (λ run. taken run.1 (judge run.0)) left e) [
    | inl f ↦ next-within bytes left f
    | inr x ↦
        let t = taken_err x.0.1 (judge x.0.0) left x.2 in
        let n = next-is bytes x.0.0 x.0.1 x.1 in
        let p = n.parts in
        omega (arith, one.within x.0.0 t.0 t.1, t.2)
  ];
}

-- one given run
pub reads_sign : (text : Run) (judge : Run → Judged (Unit {0})) → Judging (λ run v. run ≡ text) judge → Lines (Sign text) (word_at judge)
reads_sign text judge one = record {
  takes = λ bytes w rest e. let t = (reads_word (λ run v. run ≡ text) judge one).takes bytes w rest e in record { front = t.front; is = t.is.only ∙ ap (λ (r : Run). r ∷ []) t.is.means; units_are = t.units_are };
  again = λ bytes front w more is e m. (reads_word (λ run v. run ≡ text) judge one).again bytes front w more (record { run = text; only = is; means = refl }) e m;
  less = (reads_word (λ run v. run ≡ text) judge one).less;
  within = (reads_word (λ run v. run ≡ text) judge one).within;
}
