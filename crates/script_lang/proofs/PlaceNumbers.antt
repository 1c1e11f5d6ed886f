-- Where numbers and names go wrong.
use Rattle.std.proofs.Common.{◌≡◌, ℕ, zero, suc, ◌<◌, ◌≤◌, Bool, true, false, cond, eqb, List, [], ◌∷◌, ◌++◌, length, take, drop, Ok, Err, refl, sym, ap, ◌∙◌, arith, inl, inr}
use Rattle.std.specs.Prelude.{pos}
use Rattle.std.proofs.Math.IntN.{neg_ℤ}
use Rattle.script_lang.specs.Bytes.{is_digit, is_letter, is_inner, value_from}
use Rattle.script_lang.specs.Scans.{begins, number_len, number_in, name_len, name_in, negative_in}
use Rattle.script_lang.proofs.Combine.{which}
use Rattle.script_lang.proofs.PlaceRules.{next}
use Rattle.script_lang.proofs.PlaceLeaves.{Leaf, counted_leaf, kind_len, kind_is, kind_within, kind_again}

positive : (n : ℕ) → 0 < n → (m : ℕ) × (n ≡ suc m)
positive zero lt = absurd (omega arith)
positive (suc m) lt = (m, refl)

-- ---- names

name_letter : (b : ℕ) (bytes : List ℕ) → is_letter b ≡ true → name_len (b ∷ bytes) ≡ suc (kind_len is_inner 15 bytes)
unfolding name_len
name_letter b bytes t = let k = kind_is is_inner 15 bytes in rw t (ap suc k)

name_no_letter : (b : ℕ) (bytes : List ℕ) → is_letter b ≡ false → name_len (b ∷ bytes) ≡ 0
unfolding name_len
name_no_letter b bytes n = rw n refl

name_within : (bytes : List ℕ) → name_len bytes ≤ length bytes
unfolding name_len
name_within [] = omega arith
name_within (b ∷ bytes) = elim (which (is_letter b)) [
  | inl t ↦ let k = kind_is is_inner 15 bytes in let w = kind_within is_inner 15 bytes in rw t (omega (arith, k, w))
  | inr n ↦ rw n (omega arith)
]

name_nil : name_len [] ≡ 0
unfolding name_len
name_nil = refl

name_again : (bytes other : List ℕ) → 0 < name_len bytes → next other ≡ next (drop (name_len bytes) bytes) → name_len (take (name_len bytes) bytes ++ other) ≡ name_len bytes
name_again [] other lt n = absurd (let z = name_nil in omega arith)
name_again (b ∷ bytes) other lt n = elim (which (is_letter b)) [
  | inl t ↦
      let l = name_letter b bytes t in
      let k = kind_len is_inner 15 bytes in
      let h : next other ≡ next (drop k bytes) = n ∙ ap (λ (i : ℕ). next (drop i (b ∷ bytes))) l in
      ap (λ (i : ℕ). name_len (take i (b ∷ bytes) ++ other)) l ∙ name_letter b (take k bytes ++ other) t ∙ ap suc (kind_again is_inner 15 bytes other h) ∙ sym l
  | inr f ↦ let z = name_no_letter b bytes f in absurd (omega arith)
]

name_none : (b : ℕ) (after other : List ℕ) → name_len (b ∷ after) ≡ 0 → name_len (b ∷ other) ≡ 0
name_none b after other z = elim (which (is_letter b)) [
  | inl t ↦ let l = name_letter b after t in absurd (omega arith)
  | inr f ↦ name_no_letter b other f
]

pub name_leaf : (p : ℕ → Bool) → p 97 ≡ true → Leaf p 97 name_in
unfolding name_in name_len
name_leaf p fine = counted_leaf name_len (λ t. t) name_in (λ bytes. refl) name_within name_again name_none p 97 (97 ∷ []) refl fine

-- ---- numbers

number_zero : (b : ℕ) (bytes : List ℕ) → eqb b 48 ≡ true → number_len (b ∷ bytes) ≡ 1
unfolding number_len
number_zero b bytes t = rw t refl

number_other : (b : ℕ) (bytes : List ℕ) → eqb b 48 ≡ false → number_len (b ∷ bytes) ≡ kind_len is_digit 18 (b ∷ bytes)
unfolding number_len
number_other b bytes n = let k = kind_is is_digit 18 (b ∷ bytes) in rw n k

number_nil : number_len [] ≡ 0
unfolding number_len
number_nil = refl

number_within : (bytes : List ℕ) → number_len bytes ≤ length bytes
number_within [] = let z = number_nil in omega arith
number_within (b ∷ bytes) = elim (which (eqb b 48)) [
  | inl t ↦ let z = number_zero b bytes t in omega arith
  | inr n ↦ let z = number_other b bytes n in let w = kind_within is_digit 18 (b ∷ bytes) in omega arith
]

number_again : (bytes other : List ℕ) → 0 < number_len bytes → next other ≡ next (drop (number_len bytes) bytes) → number_len (take (number_len bytes) bytes ++ other) ≡ number_len bytes
number_again [] other lt n = absurd (let z = number_nil in omega arith)
number_again (b ∷ bytes) other lt n = elim (which (eqb b 48)) [
  | inl t ↦
      let z = number_zero b bytes t in
      ap (λ (i : ℕ). number_len (take i (b ∷ bytes) ++ other)) z ∙ number_zero b (take 0 bytes ++ other) t ∙ sym z
  | inr f ↦
      let z = number_other b bytes f in
      let m = positive (number_len (b ∷ bytes)) lt in
      let front : take (number_len (b ∷ bytes)) (b ∷ bytes) ≡ b ∷ take m.0 bytes = ap (λ (i : ℕ). take i (b ∷ bytes)) m.1 in
      let h : next other ≡ next (drop (kind_len is_digit 18 (b ∷ bytes)) (b ∷ bytes)) = n ∙ ap (λ (i : ℕ). next (drop i (b ∷ bytes))) z in
      let k = kind_again is_digit 18 (b ∷ bytes) other h in
      let all : take (kind_len is_digit 18 (b ∷ bytes)) (b ∷ bytes) ≡ b ∷ take m.0 bytes = ap (λ (i : ℕ). take i (b ∷ bytes)) (sym z) ∙ front in
      ap (λ (t : List ℕ). number_len (t ++ other)) front ∙ number_other b (take m.0 bytes ++ other) f ∙ ap (λ (t : List ℕ). kind_len is_digit 18 (t ++ other)) (sym all) ∙ k ∙ sym z
]

kind_first : (q : ℕ → Bool) (m b : ℕ) (after other : List ℕ) → kind_len q (suc m) (b ∷ after) ≡ 0 → kind_len q (suc m) (b ∷ other) ≡ 0
kind_first q m b after other z = elim (which (q b)) [
  | inl t ↦ absurd (let s : kind_len q (suc m) (b ∷ after) ≡ suc (kind_len q m after) = rw t refl in omega arith)
  | inr f ↦ rw f refl
]

number_none : (b : ℕ) (after other : List ℕ) → number_len (b ∷ after) ≡ 0 → number_len (b ∷ other) ≡ 0
number_none b after other z = elim (which (eqb b 48)) [
  | inl t ↦ let l = number_zero b after t in absurd (omega arith)
  | inr f ↦ number_other b other f ∙ kind_first is_digit 17 b after other (sym (number_other b after f) ∙ z)
]

pub number_leaf : (p : ℕ → Bool) → p 48 ≡ true → Leaf p 48 number_in
unfolding number_in number_len value_from
number_leaf p fine = counted_leaf number_len (λ t. value_from 0 t) number_in (λ bytes. refl) number_within number_again number_none p 48 0 refl fine

-- ---- numbers that are not 0

abbrev some_len : List ℕ → ℕ
some_len bytes = cond (begins (λ b. eqb b 48) bytes) 0 (number_len bytes)

negative_is : (bytes : List ℕ) → negative_in bytes ≡ cond (eqb (some_len bytes) 0) (Err (length bytes)) (Ok (neg_ℤ (pos (value_from 0 (take (some_len bytes) bytes))), drop (some_len bytes) bytes))
unfolding negative_in number_in
negative_is bytes = elim (which (begins (λ b. eqb b 48) bytes)) [
  | inl t ↦ rw t refl
  | inr n ↦ elim (which (eqb (number_len bytes) 0)) [ inl z ↦ rw n (rw z refl) | inr z ↦ rw n (rw z refl) ]
]

some_within : (bytes : List ℕ) → some_len bytes ≤ length bytes
some_within bytes = elim (which (begins (λ b. eqb b 48) bytes)) [
  | inl t ↦ rw t (omega arith)
  | inr n ↦ rw n (number_within bytes)
]

some_is : (b : ℕ) (bytes : List ℕ) → eqb b 48 ≡ false → some_len (b ∷ bytes) ≡ number_len (b ∷ bytes)
some_is b bytes f = rw f refl

some_again : (bytes other : List ℕ) → 0 < some_len bytes → next other ≡ next (drop (some_len bytes) bytes) → some_len (take (some_len bytes) bytes ++ other) ≡ some_len bytes
some_again [] other lt n = absurd (let z = number_nil in omega arith)
some_again (b ∷ bytes) other lt n = elim (which (eqb b 48)) [
  | inl t ↦ absurd (let z : some_len (b ∷ bytes) ≡ 0 = rw t refl in omega arith)
  | inr f ↦
      let s = some_is b bytes f in
      let m = positive (number_len (b ∷ bytes)) (omega arith) in
      let front : take (number_len (b ∷ bytes)) (b ∷ bytes) ≡ b ∷ take m.0 bytes = ap (λ (i : ℕ). take i (b ∷ bytes)) m.1 in
      let r = some_is b (take m.0 bytes ++ other) f in
      let k = number_again (b ∷ bytes) other (omega arith) (n ∙ ap (λ (i : ℕ). next (drop i (b ∷ bytes))) s) in
      ap (λ (i : ℕ). some_len (take i (b ∷ bytes) ++ other)) s ∙ ap (λ (t : List ℕ). some_len (t ++ other)) front ∙ r ∙ ap (λ (t : List ℕ). number_len (t ++ other)) (sym front) ∙ k ∙ sym s
]

some_none : (b : ℕ) (after other : List ℕ) → some_len (b ∷ after) ≡ 0 → some_len (b ∷ other) ≡ 0
some_none b after other z = elim (which (eqb b 48)) [
  | inl t ↦ rw t refl
  | inr f ↦ rw f (number_none b after other (rw f at z))
]

pub negative_leaf : (p : ℕ → Bool) → p 49 ≡ true → Leaf p 49 negative_in
unfolding negative_in number_in number_len value_from
negative_leaf p fine = counted_leaf some_len (λ t. neg_ℤ (pos (value_from 0 t))) negative_in negative_is some_within some_again some_none p 49 (neg_ℤ (pos 1)) refl fine
