-- Masks as tests: what the code's numbers say of the path word of two masks.
use Rattle.std.proofs.Common.{◌≡◌, ℕ, suc, ◌+◌, ◌-◌, ◌*◌, ◌/◌, ◌%◌, ◌^◌, ◌<◌, ◌≤◌, Bool, true, false, ◌||◌, ◌&&◌, ◌==◌, max, List, length, refl, sym, ◌∙◌, ap, subst, arith, ◌⊎◌, inl, inr, true≢false, bit_and, bit_or}
use Rattle.std.specs.Int.{w64, bit_at, trailing_zeros, trailing_ones}
use Rattle.std.specs.Int.Count.{trailing_of_zero}
use Rattle.std.proofs.lemmas.Bool.{cases_lt, cases_eq}
use Rattle.std.proofs.lemmas.Bool.Decides.{nat_tests}
use Rattle.std.proofs.lemmas.Nat.{or_lt, pow_pos, and_le_l, le-div, shr-shr}
use Rattle.std.proofs.lemmas.Nat.Bits.{bit_at_or, bit_at-lt, bit_at-suc, bit_at_above, bit_at-trailing_zeros, bit_at-trailing_ones, same_from_bits, same_from_bits_below}
use Rattle.simp_ops.specs.Bits.{bit, inserted, dropped, count_below}
use Rattle.simp_ops.specs.PathWords.{Step, Event, source, target, critical, event, matched, pairs}
use Rattle.simp_ops.proofs.Numbers.{bit-and}
use Rattle.simp_ops.proofs.MaskWords.{bit-zero}
use Rattle.simp_ops.proofs.Masks.{count_below_le}
use Rattle.path_words.specs.MaskPaths.{mask_path, is_source}
use Rattle.path_words.specs.Pairing.{partner}
use Rattle.path_words.proofs.Steps.{event-matched}
use Rattle.path_words.proofs.PathTests.{word, Calm, Apart, IsBoth, IsTurn, Says, event_says, event-both, event-turn, event-none, matched-both, matched-turn, apart-inserted, apart-dropped, left_moves_at, length-word, pairs-last, pairs-same, word_same}
use Rattle.path_words.proofs.SameSteps.{same_left, same_right}

pub mask_path-word : (n a b : ℕ) → mask_path n a b ≡ word n (bit a) (bit b)
unfolding mask_path
mask_path-word n a b = refl

-- ---- bits of numbers

either : (x y : ℕ) → x < 2 → y < 2 → (max x y == 1) ≡ (x == 1) || (y == 1)
either x y h l = grind (arith, nat_tests)

bit-or : (a b k : ℕ) → bit (bit_or a b) k ≡ bit a k || bit b k
bit-or a b k = ap (λ n. n == 1) (bit_at_or a b k) ∙ either (bit_at a k) (bit_at b k) (bit_at-lt a k) (bit_at-lt b k)

bit-half : (b k : ℕ) → bit (b / 2) k ≡ bit b (suc k)
bit-half b k = ap (λ n. n == 1) (sym (bit_at-suc b k))

same_bit : (x y : ℕ) → x < 2 → y < 2 → (x == 1) ≡ (y == 1) → x ≡ y
same_bit x y h l e = grind (arith, nat_tests)

no_bits : (m : ℕ) → ((k : ℕ) → bit m k ≡ false) → m ≡ 0
no_bits m e = same_from_bits m 0 (λ k. same_bit (bit_at m k) (bit_at 0 k) (bit_at-lt m k) (bit_at-lt 0 k) (e k ∙ sym (bit-zero k)))

-- a number without bits from n on is below 2 ^ n
below_by_bits : (m n : ℕ) → m < 2 ^ 32 → n ≤ 32 → ((k : ℕ) → n ≤ k → bit m k ≡ false) → m < 2 ^ n
below_by_bits m n h l e = by (cases_lt m (2 ^ n))
  where
    none : m / 2 ^ n ≡ 0
    none = no_bits (m / 2 ^ n) (λ k. ap (λ i. i % 2 == 1) (shr-shr m n k) ∙ e (n + k) (omega arith))

    by : (m < 2 ^ n) ⊎ (2 ^ n ≤ m) → m < 2 ^ n
    by (inl g) = g
    by (inr g) = let q : 1 ≤ m / 2 ^ n = le-div 1 m (2 ^ n) (pow_pos n) (omega arith) in absurd (omega (arith, q, none))

or_none : (x y : Bool) → x || y ≡ false → (x ≡ false) × (y ≡ false)
or_none true y e = absurd (true≢false e)
or_none false y e = (refl, e)

and_all : (x y : Bool) → x && y ≡ true → (x ≡ true) × (y ≡ true)
and_all true y e = (refl, e)
and_all false y e = absurd (true≢false (sym e))

and_none : (x y : Bool) → x && y ≡ false → x ≡ true → y ≡ false
and_none true y e q = e
and_none false y e q = absurd (true≢false (sym q))

none_and : (x y : Bool) → (x ≡ true → y ≡ false) → x && y ≡ false
none_and true y h = h refl
none_and false y h = refl

-- ---- tests that are apart, and their masks

pub apart : (n a b : ℕ) → a < 2 ^ n → b < 2 ^ n → bit_and a b ≡ 0 → Apart n (bit a) (bit b)
apart n a b h l e = record {
  once = λ k. and_none (bit a k) (bit b k) (sym (bit-and a b k) ∙ ap (λ m. bit m k) e ∙ bit-zero k);
  left_end = λ k g. ap (λ m. m == 1) (bit_at_above a n k h g);
  right_end = λ k g. ap (λ m. m == 1) (bit_at_above b n k l g);
}

pub record AreMasks (n a b : ℕ) : Type 0 where
  pub left : a < 2 ^ n
  pub right : b < 2 ^ n
  pub disjoint : bit_and a b ≡ 0

pub apart_masks : (n a b : ℕ) → n ≤ 32 → a < 2 ^ 32 → b < 2 ^ 32 → Apart n (bit a) (bit b) → AreMasks n a b
apart_masks n a b h l g p = record {
  left = below_by_bits a n l h p.left_end;
  right = below_by_bits b n g h p.right_end;
  disjoint = no_bits (bit_and a b) (λ k. bit-and a b k ∙ none_and (bit a k) (bit b k) (p.once k));
}

pub apart_same : (n : ℕ) (l m r s : ℕ → Bool) → ((k : ℕ) → m k ≡ l k) → ((k : ℕ) → s k ≡ r k) → Apart n l r → Apart n m s
apart_same n l m r s e f p = record {
  once = λ k q. f k ∙ p.once k (sym (e k) ∙ q);
  left_end = λ k h. e k ∙ p.left_end k h;
  right_end = λ k h. f k ∙ p.right_end k h;
}

-- ---- the first event, as the code finds it

module _ (n a b : ℕ) (h : a < 2 ^ n) (l : b < 2 ^ n) (e : bit_and a b ≡ 0) (short : n ≤ 32) (a32 : a < 2 ^ 32) (b32 : b < 2 ^ 32) where
  abbrev moving : ℕ
  moving = trailing_ones w64 (bit_or a b)

  abbrev turn : ℕ
  turn = trailing_zeros w64 (bit_and a (b / 2))

  moving_facts : (moving < 64) × (bit_at (bit_or a b) moving ≡ 0) × ((i : ℕ) → i < moving → bit_at (bit_or a b) i ≡ 1)
  moving_facts = let g : bit_or a b < 2 ^ 32 = or_lt 32 a b a32 b32 in bit_at-trailing_ones w64 (bit_or a b) (omega arith)

  stays_before : (i : ℕ) → i < moving → bit a i || bit b i ≡ true
  stays_before i g = sym (bit-or a b i) ∙ ap (λ m. m == 1) (moving_facts.2 i g)

  both_move : (bit a moving ≡ false) × (bit b moving ≡ false)
  both_move = or_none (bit a moving) (bit b moving) (sym (bit-or a b moving) ∙ ap (λ m. m == 1) moving_facts.1)

  turn_bit : (i : ℕ) → bit (bit_and a (b / 2)) i ≡ bit a i && bit b (suc i)
  turn_bit i = bit-and a (b / 2) i ∙ ap (λ t. bit a i && t) (bit-half b i)

  no_turn : bit_and a (b / 2) ≡ 0 → turn ≡ 64
  no_turn z = ap (trailing_zeros w64) z ∙ trailing_of_zero 64

  turn_facts : 0 < bit_and a (b / 2) → (turn < 64) × (bit_at (bit_and a (b / 2)) turn ≡ 1) × ((i : ℕ) → i < turn → bit_at (bit_and a (b / 2)) i ≡ 0)
  turn_facts g = let k : bit_and a (b / 2) ≤ a = and_le_l a (b / 2) in bit_at-trailing_zeros w64 (bit_and a (b / 2)) g (omega arith)

  straight_before : (i : ℕ) → i < turn → bit a i && bit b (suc i) ≡ false
  straight_before i g = sym (turn_bit i) ∙ by (cases_eq (bit_and a (b / 2)) 0)
    where
      by : (bit_and a (b / 2) ≡ 0) ⊎ (bit_and a (b / 2) ≡ 0 → ⊥) → bit (bit_and a (b / 2)) i ≡ false
      by (inl z) = ap (λ m. bit m i) z ∙ bit-zero i
      by (inr d) = ap (λ m. m == 1) ((turn_facts (omega arith)).2 i g)

  turns_there : turn < 64 → (bit a turn ≡ true) × (bit b (suc turn) ≡ true)
  turns_there g = and_all (bit a turn) (bit b (suc turn)) (sym (turn_bit turn) ∙ by (cases_eq (bit_and a (b / 2)) 0))
    where
      by : (bit_and a (b / 2) ≡ 0) ⊎ (bit_and a (b / 2) ≡ 0 → ⊥) → bit (bit_and a (b / 2)) turn ≡ true
      by (inl z) = absurd (omega (arith, no_turn z))
      by (inr d) = ap (λ m. m == 1) (turn_facts (omega arith)).1

  calm_before : (d : ℕ) → d ≤ moving → d ≤ turn → Calm d (bit a) (bit b)
  calm_before d g k = record { stays = λ i m. stays_before i (omega arith); straight = λ i m. straight_before i (omega arith) }

  pub found-target : turn < moving → target turn ≡ event (mask_path n a b)
  found-target g =
      let p : Apart n (bit a) (bit b) = apart n a b h l e in
      let t : (bit a turn ≡ true) × (bit b (suc turn) ≡ true) = turns_there (omega (arith, moving_facts.0)) in
      sym (ap event (mask_path-word n a b) ∙ event-turn n turn (bit a) (bit b) (within p t.1 (cases_lt (suc turn) n)) (calm_before turn (omega arith) (omega arith)) t.0 (left_moves_at n (suc turn) (bit a) (bit b) p t.1) t.1)
    where
      within : Apart n (bit a) (bit b) → bit b (suc turn) ≡ true → (suc turn < n) ⊎ (n ≤ suc turn) → suc turn < n
      within p q (inl k) = k
      within p q (inr k) = absurd (true≢false (sym q ∙ p.right_end (suc turn) k))

  pub found-source : moving ≤ turn → moving < n → source moving ≡ event (mask_path n a b)
  found-source g k = sym (ap event (mask_path-word n a b) ∙ event-both n moving (bit a) (bit b) k (calm_before moving (omega arith) g) both_move.0 both_move.1)

  pub found-none : moving ≤ turn → n ≤ moving → critical ≡ event (mask_path n a b)
  found-none g k = sym (ap event (mask_path-word n a b) ∙ event-none n (bit a) (bit b) (calm_before n k (omega arith)))

-- ---- the match, as the code makes it

pub word_apart : (n a b : ℕ) → a < 2 ^ n → b < 2 ^ n → bit_and a b ≡ 0 → (e : Event) → event (mask_path n a b) ≡ e → Says n (bit a) (bit b) e
word_apart n a b h l z e f = subst (Says n (bit a) (bit b)) (sym (ap event (mask_path-word n a b)) ∙ f) (event_says n (bit a) (bit b) (apart n a b h l z))

-- masks with a place more, and the word
pub record IsMatch (n a b m c d : ℕ) : Type 0 where
  pub masks : AreMasks m c d
  pub word : mask_path m c d ≡ matched (mask_path n a b)

pub target_masks : (n a b j c d : ℕ) → Apart n (bit a) (bit b) → IsBoth n j (bit a) (bit b) → n ≤ 31 → c < 2 ^ 32 → d < 2 ^ 32
    → ((k : ℕ) → bit c k ≡ inserted j (bit a) k) → ((k : ℕ) → bit d k ≡ inserted (suc j) (bit b) k) → IsMatch n a b (suc n) c d
target_masks n a b j c d p s h k l e f = record {
  masks = apart_masks (suc n) c d (omega arith) k l (apart_same (suc n) (inserted j (bit a)) (bit c) (inserted (suc j) (bit b)) (bit d) e f (apart-inserted n j (bit a) (bit b) p s));
  word =
      mask_path-word (suc n) c d ∙ word_same (suc n) (bit c) (inserted j (bit a)) (bit d) (inserted (suc j) (bit b)) (λ i g. e i) (λ i g. f i)
      ∙ sym (matched-both n j (bit a) (bit b) s.within s.calm s.left_moves s.right_moves) ∙ ap matched (sym (mask_path-word n a b));
}

pub source_masks : (n a b j c d : ℕ) → Apart (suc n) (bit a) (bit b) → IsTurn (suc n) j (bit a) (bit b) → n ≤ 32 → c < 2 ^ 32 → d < 2 ^ 32
    → ((k : ℕ) → bit c k ≡ dropped j (bit a) k) → ((k : ℕ) → bit d k ≡ dropped (suc j) (bit b) k) → IsMatch (suc n) a b n c d
source_masks n a b j c d p s h k l e f = record {
  masks = apart_masks n c d h k l (apart_same n (dropped j (bit a)) (bit c) (dropped (suc j) (bit b)) (bit d) e f (apart-dropped n j (bit a) (bit b) p s));
  word =
      mask_path-word n c d ∙ word_same n (bit c) (dropped j (bit a)) (bit d) (dropped (suc j) (bit b)) (λ i g. e i) (λ i g. f i)
      ∙ sym (matched-turn n j (bit a) (bit b) s.within s.calm s.left_stays (left_moves_at (suc n) (suc j) (bit a) (bit b) p s.right_stays) (p.once j s.left_stays) s.right_stays)
      ∙ ap matched (sym (mask_path-word (suc n) a b));
}

-- ---- pairs counted

pub record Counted (a b j count : ℕ) : Type 0 where
  pub all : count ≡ pairs (word j (bit a) (bit b))
  pub bound : count ≤ 32 * j

pub count_more : (n a b j count : ℕ) → Apart n (bit a) (bit b) → j < 32 → bit b j ≡ true → Counted a b j count → Counted a b (j + 1) (count + count_below j (bit a))
count_more n a b j count p h q k =
    let e : j + 1 ≡ suc j = omega arith in
    record {
      all =
          ap (λ m. m + count_below j (bit a)) k.all ∙ sym (pairs-last j (bit a) (bit b) q (left_moves_at n j (bit a) (bit b) p q))
          ∙ ap (λ m. pairs (word m (bit a) (bit b))) (sym e);
      bound = omega (arith, k.bound, count_below_le j (bit a));
    }

pub count_same : (a b j count : ℕ) → bit b j ≡ false → Counted a b j count → Counted a b (j + 1) count
count_same a b j count q k =
    let e : j + 1 ≡ suc j = omega arith in
    record {
      all = k.all ∙ sym (pairs-same j (bit a) (bit b) q) ∙ ap (λ m. pairs (word m (bit a) (bit b))) (sym e);
      bound = omega (arith, k.bound);
    }

-- ---- what the condition of a match says

module _ (n a b j : ℕ) where
  pub both_of : a < 2 ^ n → b < 2 ^ n → bit_and a b ≡ 0 → event (mask_path n a b) ≡ source j → IsBoth n j (bit a) (bit b)
  both_of h l z e = word_apart n a b h l z (source j) e

  pub turn_of : a < 2 ^ n → b < 2 ^ n → bit_and a b ≡ 0 → event (mask_path n a b) ≡ target j → IsTurn n j (bit a) (bit b)
  turn_of h l z e = word_apart n a b h l z (target j) e

  pub short_source : event (mask_path n a b) ≡ source j → is_source (event (mask_path n a b)) ≡ true
  short_source e = ap is_source e

-- the match of a source is no source
pub target_no_source : (v w : List Step) (j : ℕ) → event v ≡ source j → w ≡ matched v → is_source (event w) ≡ true → ⊥
target_no_source v w j e f s = true≢false (sym s ∙ ap (λ u. is_source (event u)) f ∙ ap is_source (event-matched v ∙ ap partner e))

-- the targets made by the code, with its numbers
pub target_made : (n a b j c d : ℕ) → a < 2 ^ n → b < 2 ^ n → bit_and a b ≡ 0 → event (mask_path n a b) ≡ source j → n ≤ 31 → c < 2 ^ 32 → d < 2 ^ 32
    → ((k : ℕ) → bit c k ≡ inserted j (bit a) k) → ((k : ℕ) → bit d k ≡ inserted (j + 1) (bit b) k) → IsMatch n a b (n + 1) c d
target_made n a b j c d h l z q small k m e f =
    let s : j + 1 ≡ suc j = omega arith in
    let t : suc n ≡ n + 1 = omega arith in
    subst (λ i. IsMatch n a b i c d) t (target_masks n a b j c d (apart n a b h l z) (both_of n a b j h l z q) small k m e (λ i. f i ∙ ap (λ p. inserted p (bit b) i) s))

pub source_made : (n a b j c d : ℕ) → a < 2 ^ n → b < 2 ^ n → bit_and a b ≡ 0 → event (mask_path n a b) ≡ target j → n ≤ 32 → c < 2 ^ 32 → d < 2 ^ 32
    → ((k : ℕ) → bit c k ≡ dropped j (bit a) k) → ((k : ℕ) → bit d k ≡ dropped (j + 1) (bit b) k) → IsMatch n a b (n - 1) c d
source_made n a b j c d h l z q small k m e f = by (turn_of n a b j h l z q)
  where
    s : j + 1 ≡ suc j
    s = omega arith

    by : IsTurn n j (bit a) (bit b) → IsMatch n a b (n - 1) c d
    by t =
        let g : suc (n - 1) ≡ n = omega (arith, t.within) in
        subst (λ i. IsMatch i a b (n - 1) c d) g
        (source_masks (n - 1) a b j c d (subst (λ i. Apart i (bit a) (bit b)) (sym g) (apart n a b h l z)) (subst (λ i. IsTurn i j (bit a) (bit b)) (sym g) t) (omega arith) k m e (λ i. f i ∙ ap (λ p. dropped p (bit b) i) s))

pub all_counted : (n a b j count : ℕ) → j ≡ n → Counted a b j count → count ≡ pairs (mask_path n a b)
all_counted n a b j count e k = k.all ∙ ap (λ m. pairs (word m (bit a) (bit b))) e ∙ ap pairs (sym (mask_path-word n a b))

-- ---- a path word says its masks

same_below : (n a b : ℕ) → a < 2 ^ n → b < 2 ^ n → ((k : ℕ) → k < n → bit a k ≡ bit b k) → a ≡ b
same_below n a b h l e = same_from_bits_below n a b h l (λ k g. same_bit (bit_at a k) (bit_at b k) (bit_at-lt a k) (bit_at-lt b k) (e k g))

module _ (n a b m c d : ℕ) where
  pub same_len : mask_path n a b ≡ mask_path m c d → n ≡ m
  same_len e =
      sym (ap length (mask_path-word n a b) ∙ length-word n 0 (bit a) (bit b)) ∙ ap length e ∙ ap length (mask_path-word m c d) ∙ length-word m 0 (bit c) (bit d)

  same_word : mask_path n a b ≡ mask_path m c d → word n (bit a) (bit b) ≡ word n (bit c) (bit d)
  same_word e = sym (mask_path-word n a b) ∙ e ∙ ap (λ k. mask_path k c d) (sym (same_len e)) ∙ mask_path-word n c d

  pub same_left_mask : a < 2 ^ n → c < 2 ^ m → mask_path n a b ≡ mask_path m c d → a ≡ c
  same_left_mask h l e =
      same_below n a c h (subst (λ k. c < 2 ^ k) (sym (same_len e)) l) (λ k g. same_left n k (bit a) (bit b) (bit c) (bit d) (same_word e) g)

  pub same_right_mask : a < 2 ^ n → b < 2 ^ n → bit_and a b ≡ 0 → c < 2 ^ m → d < 2 ^ m → bit_and c d ≡ 0 → mask_path n a b ≡ mask_path m c d → b ≡ d
  same_right_mask ha hb z hc hd y e =
      same_below n b d hb (subst (λ k. d < 2 ^ k) (sym (same_len e)) hd)
      (λ k g. same_right n k (bit a) (bit b) (bit c) (bit d) (apart n a b ha hb z) (subst (λ k. Apart k (bit c) (bit d)) (sym (same_len e)) (apart m c d hc hd y)) (same_word e) g)
