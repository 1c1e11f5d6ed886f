-- The masks of a pair tell its event, and whether it is a cell.
use Rattle.std.proofs.Common.{◌≡◌, ℕ, zero, suc, ◌+◌, ◌^◌, ◌<◌, ◌≤◌, ◌∷◌, Bool, true, false, not, ◌&&◌, ◌||◌, ◌==◌, cond, ◌⊎◌, inl, inr, refl, sym, ◌∙◌, ap, arith, true≢false, bit_and}
use Rattle.std.specs.Int.{bit_at}
use Rattle.std.proofs.lemmas.Bool.Decides.{nat_tests}
use Rattle.std.proofs.lemmas.Nat.{pow_pos, and_le_l}
use Rattle.std.proofs.lemmas.Nat.Bits.{bit_at-lt, same_from_bits_below}
use Rattle.simp_ops.specs.Bits.{bit}
use Rattle.simp_ops.specs.PathWords.{step, path_word, Event, source, target, critical, event}
use Rattle.simp_ops.proofs.Numbers.{bit-and}
use Rattle.simp_ops.proofs.MaskWords.{bit-zero}
use Rattle.path_words.specs.MaskPaths.{mask_path, is_source as is_source_event}
use Rattle.spaces.specs.Simplicial.{some_below, has_degeneracy}
use Rattle.spaces.specs.Orders.{Ordered}
use Rattle.spaces.specs.EilenbergZilber.{Linear, Pair, is_pair_cell, is_source, event_of}
use Rattle.ez_laws.proofs.PairKeys.{none-below, none-so}
use Rattle.ez_flow.specs.Sources.{are_source, source_weight}

pub path-same : (k j : ℕ) (f g f' g' : ℕ → Bool) → ((i : ℕ) → i < j + k → f i ≡ f' i) → ((i : ℕ) → i < j + k → g i ≡ g' i) → path_word k j f g ≡ path_word k j f' g'
path-same zero j f g f' g' a b = refl
path-same (suc k) j f g f' g' a b =
    λ i. step (a j (omega arith) i) (b j (omega arith) i) ∷ path-same k (suc j) f g f' g' (λ i l. a i (omega (arith, l))) (λ i l. b i (omega (arith, l))) i

pub some-same : (n : ℕ) (s t : ℕ → Bool) → ((j : ℕ) → j < n → s j ≡ t j) → some_below n s ≡ some_below n t
some-same zero s t h = refl
some-same (suc n) s t h = λ i. some-same n s t (λ j l. h j (omega (arith, l))) i || h n (omega arith) i

same_bit : (x y : ℕ) → x < 2 → y < 2 → (x == 1) ≡ (y == 1) → x ≡ y
same_bit x y h l e = grind (arith, nat_tests)

-- no bit in common
pub no-common : (n a b : ℕ) → a < 2 ^ n → ((k : ℕ) → k < n → (bit a k && bit b k) ≡ false) → bit_and a b ≡ 0
no-common n a b l h =
    same_from_bits_below n (bit_and a b) 0 (let q : bit_and a b ≤ a = and_le_l a b in omega (arith, q, l)) (pow_pos n)
    (λ i m. same_bit (bit_at (bit_and a b) i) (bit_at 0 i) (bit_at-lt (bit_and a b) i) (bit_at-lt 0 i) (bit-and a b i ∙ (h i m ∙ sym (bit-zero i))))

-- no bit at all
pub no-bits : (n m : ℕ) → m < 2 ^ n → ((k : ℕ) → k < n → bit m k ≡ false) → m ≡ 0
no-bits n m l h =
    same_from_bits_below n m 0 l (pow_pos n) (λ i q. same_bit (bit_at m i) (bit_at 0 i) (bit_at-lt m i) (bit_at-lt 0 i) (h i q ∙ sym (bit-zero i)))

common-none : (a b k : ℕ) → bit_and a b ≡ 0 → (bit a k && bit b k) ≡ false
common-none a b k e = sym (bit-and a b k) ∙ (ap (λ m. bit m k) e ∙ bit-zero k)

bool_or : (b : Bool) → (b ≡ true) ⊎ (b ≡ false)
bool_or true = inl refl
bool_or false = inr refl

pub eq_of : (m k : ℕ) → (m == k) ≡ true → m ≡ k
eq_of m k e = grind (arith, nat_tests)

pub of_eq : (m k : ℕ) → m ≡ k → (m == k) ≡ true
of_eq m k e = grind (arith, nat_tests)

-- the test for a cell by the masks
pub cell-test : (n a b : ℕ) → a < 2 ^ n → not (some_below n (λ j. bit a j && bit b j)) ≡ (bit_and a b == 0)
cell-test n a b l = elim (bool_or (some_below n (λ j. bit a j && bit b j))) as (λ q. not (some_below n (λ j. bit a j && bit b j)) ≡ (bit_and a b == 0)) [
  | inr q ↦ ap not q ∙ sym (of_eq (bit_and a b) 0 (no-common n a b l (none-below n (λ j. bit a j && bit b j) q)))
  | inl q ↦ ap not q ∙ (elim (bool_or (bit_and a b == 0)) as (λ z. false ≡ (bit_and a b == 0)) [
    | inr z ↦ sym z
    | inl z ↦ absurd (true≢false (sym q ∙ none-so n (λ j. bit a j && bit b j) (λ j m. common-none a b j (eq_of (bit_and a b) 0 z))))
  ])
]

source_same : (e : Event) → (elim e as (λ x. Bool) [ source j ↦ true | target j ↦ false | critical ↦ false ]) ≡ is_source_event e
source_same (source j) = refl
source_same (target j) = refl
source_same critical = refl

cond_cond : (b c : Bool) (x : ℕ) → cond b (cond c x 0) 0 ≡ cond (cond b c false) x 0
cond_cond true c x = refl
cond_cond false c x = refl

module _ {K J : Type 0} (p : ℕ) (L : Linear K) (R : Ordered J) (n a b : ℕ) (x : K) (y : J) (small : a < 2 ^ n)
    (left : (j : ℕ) → j < n → L.has_degeneracy j x ≡ bit a j) (right : (j : ℕ) → j < n → has_degeneracy R.set j y ≡ bit b j) where
  pub cell-masks : is_pair_cell p L R (n, x, y) ≡ (bit_and a b == 0)
  cell-masks =
      ap not (some-same n (λ j. L.has_degeneracy j x && has_degeneracy R.set j y) (λ j. bit a j && bit b j) (λ j l i. left j l i && right j l i))
      ∙ cell-test n a b small

  pub event-masks : event_of p L R (n, x, y) ≡ event (mask_path n a b)
  unfolding mask_path
  event-masks =
      ap event (path-same n 0 (λ j. L.has_degeneracy j x) (λ j. has_degeneracy R.set j y) (bit a) (bit b) (λ i l. left i (omega (arith, l))) (λ i l. right i (omega (arith, l))))

  pub source-masks : is_source p L R (n, x, y) ≡ is_source_event (event (mask_path n a b))
  source-masks = ap (λ e. elim e as (λ x. Bool) [ source j ↦ true | target j ↦ false | critical ↦ false ]) event-masks ∙ source_same (event (mask_path n a b))

  -- the weight of sources by the masks
  pub weight-masks : (w : Pair K J → ℕ) → source_weight p L R w (n, x, y) ≡ cond (are_source n a b) (w (n, x, y)) 0
  weight-masks w =
      (λ i. cond (cell-masks i) (cond (source-masks i) (w (n, x, y)) 0) 0) ∙ cond_cond (bit_and a b == 0) (is_source_event (event (mask_path n a b))) (w (n, x, y))
