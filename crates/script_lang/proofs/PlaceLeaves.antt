-- Where numbers, names and single bytes go wrong: at their first byte.
use Rattle.std.proofs.Common.{◌≡◌, ℕ, zero, suc, ◌<◌, ◌≤◌, min, Bool, true, false, cond, eqb, List, [], ◌∷◌, ◌++◌, length, take, drop, Ok, Err, Some, refl, sym, ap, subst, ◌∙◌, arith, inl, inr}
use Rattle.std.proofs.lemmas.List.{append_cancel_right, take-append-drop, length-take-le, length-append, take_at, drop_at}
use Rattle.std.proofs.lemmas.Bool.{eqb-false, eqb-true}
use Rattle.std.specs.List.{prefix_len}
use Rattle.script_lang.specs.Readings.{Reading}
use Rattle.script_lang.proofs.Combine.{which, ok_parts}
use Rattle.script_lang.proofs.Inner.{Scans, eqb_same}
use Rattle.script_lang.proofs.PlaceRules.{next, Front, Placed, Longer, never}

-- What goes wrong at its first byte alone, and reads the byte c.
pub record Leaf {A : Type 0} (p : ℕ → Bool) (c : ℕ) (read : List ℕ → Reading A) : Type 0 where
  pub ok : (bytes : List ℕ) (v : A) (rest : List ℕ) → read bytes ≡ Ok (v, rest) → Front never read bytes v rest
  pub longer : Longer read
  pub at_once : (bytes : List ℕ) (left : ℕ) → read bytes ≡ Err left → length bytes ≡ left
  pub dead : (b : ℕ) (after other : List ℕ) (left : ℕ) (v : A) (z : List ℕ) → read (b ∷ after) ≡ Err left → read (b ∷ other) ≡ Ok (v, z) → ⊥
  pub value : A
  pub gives : read (c ∷ []) ≡ Ok (value, [])
  pub fine : p c ≡ true

pub placed_leaf : {A : Type 0} (p : ℕ → Bool) (c : ℕ) (read : List ℕ → Reading A) → Leaf p c read → Placed p (c ∷ []) never read
placed_leaf {A} p c read leaf = record {
  ok = leaf.ok;
  err = λ bytes left e. record {
    front = [];
    rest = bytes;
    whole = refl;
    left_is = leaf.at_once bytes left e;
    more = c ∷ [];
    value = leaf.value;
    gives = leaf.gives;
    starts = λ n. rw (eqb_same c) refl;
    good = rw leaf.fine refl;
    dead = λ b after other v z is q. leaf.dead b after other left v z (subst (λ (t : List ℕ). read t ≡ Err left) is e) q;
  };
  some = record { bytes = c ∷ []; value = leaf.value; gives = leaf.gives; starts = rw (eqb_same c) refl; good = rw leaf.fine refl };
}

-- ---- what may follow, as it is known of what was read

pub free_front : {A : Type 0} (may : A → List ℕ → Bool) (L : List ℕ → A → Type 0) (read : List ℕ → Reading A) → Scans may L read → (bytes : List ℕ) (v : A) (rest : List ℕ) → read bytes ≡ Ok (v, rest) → Front never read bytes v rest → Front may read bytes v rest
free_front may L read one bytes v rest e f =
    let t = one.takes bytes v rest e in
    let same : f.front ≡ t.front = append_cancel_right f.front t.front rest (sym f.whole ∙ t.units_are) in
    record {
      front = f.front;
      whole = f.whole;
      same = f.same;
      free = λ other m.
          let a = one.again (f.front ++ other) t.front v other t.is (ap (λ (x : List ℕ). x ++ other) same) m in
          let end : a.rest ≡ other = a.units_are in
          subst (λ (x : List ℕ). read (f.front ++ other) ≡ Ok (v, x)) end a.gives;
    }

pub placed_free : {A : Type 0} (p : ℕ → Bool) (cs : List ℕ) (may : A → List ℕ → Bool) (L : List ℕ → A → Type 0) (read : List ℕ → Reading A) → Scans may L read → Placed p cs never read → Placed p cs may read
placed_free p cs may L read one placed = record {
  ok = λ bytes v rest e. free_front may L read one bytes v rest e (placed.ok bytes v rest e);
  err = placed.err;
  some = placed.some;
}

-- ---- bytes that are counted

module _ {A : Type 0} (len : List ℕ → ℕ) (make : List ℕ → A) (read : List ℕ → Reading A) (is : (bytes : List ℕ) → read bytes ≡ cond (eqb (len bytes) 0) (Err (length bytes)) (Ok (make (take (len bytes) bytes), drop (len bytes) bytes))) (within : (bytes : List ℕ) → len bytes ≤ length bytes) (again : (bytes other : List ℕ) → 0 < len bytes → next other ≡ next (drop (len bytes) bytes) → len (take (len bytes) bytes ++ other) ≡ len bytes) (none : (b : ℕ) (after other : List ℕ) → len (b ∷ after) ≡ 0 → len (b ∷ other) ≡ 0) where
  counted_zero : (bytes : List ℕ) (left : ℕ) → read bytes ≡ Err left → (len bytes ≡ 0) × (length bytes ≡ left)
  counted_zero bytes left e = elim (which (eqb (len bytes) 0)) [
    | inl z ↦ let f = rw z at (sym (is bytes) ∙ e) in (eqb-true (len bytes) 0 z, cc)
    | inr z ↦ absurd (let f = rw z at (sym (is bytes) ∙ e) in cc)
  ]

  counted_some : (bytes : List ℕ) (v : A) (rest : List ℕ) → read bytes ≡ Ok (v, rest) → (eqb (len bytes) 0 ≡ false) × (0 < len bytes) × (make (take (len bytes) bytes) ≡ v) × (drop (len bytes) bytes ≡ rest)
  counted_some bytes v rest e = elim (which (eqb (len bytes) 0)) [
    | inl z ↦ absurd (let f = rw z at (sym (is bytes) ∙ e) in cc)
    | inr z ↦
        let f = rw z at (sym (is bytes) ∙ e) in
        let q = ok_parts (make (take (len bytes) bytes)) v (drop (len bytes) bytes) rest f in
        (z, (let n = eqb-false (len bytes) 0 z in omega arith), q.0, q.1)
  ]

  counted_again : (bytes other : List ℕ) (v : A) (rest : List ℕ) → read bytes ≡ Ok (v, rest) → next other ≡ next rest → read (take (len bytes) bytes ++ other) ≡ Ok (v, other)
  counted_again bytes other v rest e n =
      let q = counted_some bytes v rest e in
      let l = again bytes other q.1 (n ∙ ap next (sym q.3)) in
      let all = length-take-le (len bytes) bytes (within bytes) in
      is (take (len bytes) bytes ++ other) ∙ (rw (l, q.0, take_at (take (len bytes) bytes) other (len bytes) all, drop_at (take (len bytes) bytes) other (len bytes) all, q.2) refl)

  pub counted_leaf : (p : ℕ → Bool) (c : ℕ) (v0 : A) → read (c ∷ []) ≡ Ok (v0, []) → p c ≡ true → Leaf p c read
  counted_leaf p c v0 gives fine = record {
    ok = λ bytes v rest e.
        let q = counted_some bytes v rest e in
        record {
          front = take (len bytes) bytes;
          whole = sym (take-append-drop (len bytes) bytes) ∙ ap (λ (t : List ℕ). take (len bytes) bytes ++ t) q.3;
          same = λ other n. counted_again bytes other v rest e n;
          free = λ other m. absurd cc;
        };
    longer = λ bytes v rest e.
        let q = counted_some bytes v rest e in
        let lt = q.1 in
        omega (arith, lt, ap length q.3, ap length (take-append-drop (len bytes) bytes), length-append (take (len bytes) bytes) (drop (len bytes) bytes), length-take-le (len bytes) bytes (within bytes));
    at_once = λ bytes left e. (counted_zero bytes left e).1;
    dead = λ b after other left v z e d.
        let n = none b after other (counted_zero (b ∷ after) left e).0 in
        let q = counted_some (b ∷ other) v z d in
        let lt = q.1 in
        omega arith;
    value = v0;
    gives = gives;
    fine = fine;
  }

-- ---- at most so many bytes of one kind

abbrev pub kind_len : (ℕ → Bool) → ℕ → List ℕ → ℕ
kind_len q zero xs = 0
kind_len q (suc m) [] = 0
kind_len q (suc m) (x ∷ xs) = cond (q x) (suc (kind_len q m xs)) 0

pub kind_is : (q : ℕ → Bool) (m : ℕ) (xs : List ℕ) → min (prefix_len q xs) m ≡ kind_len q m xs
kind_is q zero xs = omega arith
kind_is q (suc m) [] = omega arith
kind_is q (suc m) (x ∷ xs) = elim (which (q x)) [
  | inl t ↦ let h = kind_is q m xs in rw t (omega (arith, h))
  | inr f ↦ rw f (omega arith)
]

pub kind_within : (q : ℕ → Bool) (m : ℕ) (xs : List ℕ) → kind_len q m xs ≤ length xs
kind_within q zero xs = omega arith
kind_within q (suc m) [] = omega arith
kind_within q (suc m) (x ∷ xs) = elim (which (q x)) [
  | inl t ↦ let h = kind_within q m xs in rw t (omega (arith, h))
  | inr f ↦ rw f (omega arith)
]

pub kind_again : (q : ℕ → Bool) (m : ℕ) (xs other : List ℕ) → next other ≡ next (drop (kind_len q m xs) xs) → kind_len q m (take (kind_len q m xs) xs ++ other) ≡ kind_len q m xs
kind_again q zero xs other n = refl
kind_again q (suc m) [] [] n = refl
kind_again q (suc m) [] (d ∷ other) n = absurd cc
kind_again q (suc m) (x ∷ xs) other n = elim (which (q x)) [
  | inl t ↦ let h = rw t at n in rw t (rw t (ap suc (kind_again q m xs other h)))
  | inr f ↦ let h = rw f at n in rw f (kind_none other x q m h f)
]
  where
    kind_none : (other : List ℕ) (x : ℕ) (q : ℕ → Bool) (m : ℕ) → next other ≡ Some x → q x ≡ false → kind_len q (suc m) other ≡ 0
    kind_none [] x q m n f = absurd cc
    kind_none (d ∷ other) x q m n f = let same : d ≡ x = cc in rw same (rw f refl)
