-- The loops that strip the letters of a word, one letter after another.
use Rattle.std.proofs.Common.{◌≡◌, ℕ, zero, suc, ◌+◌, ◌-◌, ◌^◌, ◌<◌, ◌≤◌, Bool, true, false, ◌⊎◌, inl, inr, List, [], ◌∷◌, ◌++◌, length, take, get_or, ◌==◌, refl, sym, ◌∙◌, ap, subst, arith, true≢false}
use Rattle.std.specs.List.{list_all}
use Rattle.std.proofs.lemmas.Bool.{cases_lt}
use Rattle.std.proofs.Math.Seq.{take-suc}
use Rattle.std.proofs.lemmas.Nat.Bits.{bit_at_ones, bit_at_above}
use Rattle.simp_ops.specs.Bits.{bit}
use Rattle.simp_ops.proofs.PlacesOf.{is_eq}
use Rattle.simp_ops.proofs.Squeezed.{and_left, and_right}
use Rattle.cells.specs.declared.cells.Letter.{Letter}
use Rattle.term_lang.proofs.RowCells.{eq_is}
use Rattle.loop_words.specs.WordNorms.{IsStripped, AreStripped}

pub stripped_more : (c : ℕ) (u w : List Letter) (l m : Letter) → AreStripped c u w → IsStripped c l m → AreStripped c (u ++ l ∷ []) (w ++ m ∷ [])
stripped_more c [] [] l m s t = (t, tt)
stripped_more c [] (y ∷ w) l m s t = absurd s
stripped_more c (x ∷ u) [] l m s t = absurd s
stripped_more c (x ∷ u) (y ∷ w) l m s t = (s.0, stripped_more c u w l m s.1 t)

pub no_items : {X : Type 0} (s : List X) (b : Bool) → b ≡ (length s == 0) → b ≡ true → s ≡ []
no_items [] b e h = refl
no_items (x ∷ s) b e h = absurd (let z : suc (length s) ≡ 0 = eq_is (suc (length s)) 0 (sym e ∙ h) in omega (arith, z))

pub some_items : {X : Type 0} (s : List X) (b : Bool) → b ≡ (length s == 0) → b ≡ false → s ≡ [] → ⊥
some_items s b e h z = true≢false (sym (is_eq (length s) 0 (ap length z)) ∙ sym e ∙ h)

pub all_bits : (m k : ℕ) → m ≡ 2 ^ 32 - 1 → k < 32 → bit m k ≡ true
all_bits m k e h = ap (λ n. bit n k) e ∙ ap (λ b. b == 1) (bit_at_ones 32 k h)

all_at : {X : Type 0} (t : X → Bool) (s : List X) (i : ℕ) (x : X) → i < length s → x ≡ get_or s i x → list_all t s ≡ true → t x ≡ true
all_at t [] i x h e q = absurd (omega (arith, h))
all_at t (y ∷ s) zero x h e q = ap t e ∙ and_left (t y) (list_all t s) q
all_at t (y ∷ s) (suc i) x h e q = all_at t s i x (omega (arith, h)) e (and_right (t y) (list_all t s) q)

-- the places that are shared are places of each letter
pub shared_within : (c : ℕ) (u : List Letter) (i : ℕ) (l : Letter) → c < 2 ^ 32 → ((j : ℕ) → j < 32 → bit c j ≡ list_all (λ m. bit m.simplex.degens.mask j) u)
    → i < length u → l ≡ get_or u i l → (k : ℕ) → bit c k ≡ true → bit l.simplex.degens.mask k ≡ true
shared_within c u i l low all h e k q = by (cases_lt k 32)
  where
    by : (k < 32) ⊎ (32 ≤ k) → bit l.simplex.degens.mask k ≡ true
    by (inl g) = all_at (λ m. bit m.simplex.degens.mask k) u i l h e (sym (all k g) ∙ q)
    by (inr g) = absurd (true≢false (sym q ∙ ap (λ b. b == 1) (bit_at_above c 32 k low g)))

pub stripped_next : (c : ℕ) (u word new : List Letter) (i : ℕ) (l m : Letter) → i < length u → l ≡ get_or u i l → AreStripped c (take i u) word
    → new ≡ word ++ m ∷ [] → IsStripped c l m → AreStripped c (take (i + 1) u) new
stripped_next c u word new i l m h e s f t =
    let one : i + 1 ≡ suc i = omega arith in
    let path : take (i + 1) u ≡ take i u ++ l ∷ [] = ap (λ k. take k u) one ∙ take-suc u i l h ∙ ap (λ x. take i u ++ x ∷ []) (sym e) in
    subst (λ v. AreStripped c v new) (sym path) (subst (AreStripped c (take i u ++ l ∷ [])) (sym f) (stripped_more c (take i u) word l m s t))
