-- The tests of words and simplices, and a word that is read into a mask.
use Rattle.std.proofs.Common.{◌≡◌, ℕ, ◌+◌, ◌*◌, ◌%◌, ◌^◌, ◌<◌, ◌≤◌, ◌⊎◌, inl, inr, Bool, true, false, ◌==◌, ◌&&◌, ◌||◌, nat_lt, nat_le, List, [], ◌∷◌, ◌++◌, length, take, drop, get_or, bit_or, suc, refl, sym, ◌∙◌, ap, subst, arith}
use Rattle.std.specs.Bool.{Decides}
use Rattle.std.specs.Prelude.{nat_eq}
use Rattle.std.specs.Cmp.Lexicographic.{pointwise}
use Rattle.std.specs.Int.{w64}
use Rattle.std.proofs.Math.Seq.{drop-cons, take-length, drop-length}
use Rattle.std.proofs.lemmas.Bool.{cases_eq}
use Rattle.std.proofs.lemmas.Bool.Decides.{Decides-ltb, Decides-eqb, Decides-and, nat_tests}
use Rattle.std.proofs.lemmas.List.{take_more}
use Rattle.std.proofs.lemmas.Nat.{one_shl, or_lt, pow_below}
use Rattle.std.proofs.lemmas.Nat.Bits.{bit_at_set_same, bit_at_set_other}
use Rattle.std.proofs.lemmas.Slice.Eq.{bytes_eq-Decides}
use Rattle.simp_ops.specs.Words.{IsWord, has}
use Rattle.simp_ops.specs.Bits.{bit, mask_word}
use Rattle.simp_ops.proofs.PlacesOf.{places_same, is_eq, not_eq, is_lt, not_lt, is_le, word_below}
use Rattle.simp_ops.proofs.Masks.{places_has}
use Rattle.spaces.specs.Tables.{Table, RowSimplex, row_degree, InTable}
use Rattle.finite_sets.specs.Faults.{is_word, is_in, is_same}

pub Decides-le : (a b : ℕ) → Decides (nat_le a b) (a ≤ b)
Decides-le a b = (λ e. le_told a b e, λ h. is_le a b h)
  where
    le_told : (a b : ℕ) → nat_le a b ≡ true → a ≤ b
    le_told a b e = grind (arith, nat_tests)

pub Decides-is_word : (n : ℕ) (w : List ℕ) → Decides (is_word n w) (IsWord n w)
Decides-is_word n [] = (λ e. tt, λ h. refl)
Decides-is_word n (j ∷ w) = Decides-and (nat_lt j n) (is_word j w) (Decides-ltb j n) (Decides-is_word j w)

pub Decides-is_in : (t : Table) (n : ℕ) (x : RowSimplex) → Decides (is_in t n x) (InTable t n x)
Decides-is_in t n x =
    let d : Decides (is_in t n x) ((x.1 < length t) × ((row_degree t x ≡ n) × IsWord n x.0)) =
    Decides-and (nat_lt x.1 (length t)) ((row_degree t x == n) && is_word n x.0) (Decides-ltb x.1 (length t))
    (Decides-and (row_degree t x == n) (is_word n x.0) (Decides-eqb (row_degree t x) n) (Decides-is_word n x.0)) in
    (λ e. record { row = (d.0 e).0; degree = (d.0 e).1.0; word = (d.0 e).1.1 }, λ h. d.1 (h.row, (h.degree, h.word)))

pub Decides-is_same : (x y : RowSimplex) → Decides (is_same x y) (x ≡ y)
Decides-is_same x y =
    let d = Decides-and (pointwise nat_eq x.0 y.0) (x.1 == y.1) (bytes_eq-Decides x.0 y.0) (Decides-eqb x.1 y.1) in
    (λ e. λ k. ((d.0 e).0 k, (d.0 e).1 k), λ h. d.1 (ap (λ z. z.0) h, ap (λ z. z.1) h))

-- ---- a word with places below n, read into a mask

pub record Reading (n : ℕ) (word : List ℕ) (mask above x : ℕ) : Type 0 where
  pub small : mask < 2 ^ 32
  pub limit : above ≤ 32
  pub rest : is_word n word ≡ is_word above (drop x word)
  pub bits : (k : ℕ) → bit mask k ≡ has (take x word) k

has-append : (w : List ℕ) (j k : ℕ) → has (w ++ j ∷ []) k ≡ (k == j) || has w k
has-append [] j k = refl
has-append (i ∷ w) j k = ap (λ b. (k == i) || b) (has-append w j k) ∙ or_turned (k == i) (k == j) (has w k)
  where
    or_turned : (a b c : Bool) → a || (b || c) ≡ b || (a || c)
    or_turned true true c = refl
    or_turned true false c = refl
    or_turned false b c = refl

bit-set : (m j k : ℕ) → j < 64 → bit (bit_or m (1 * 2 ^ j % 2 ^ 64)) k ≡ (k == j) || bit m k
bit-set m j k h = by (cases_eq k j)
  where
    by : (k ≡ j) ⊎ (k ≡ j → ⊥) → bit (bit_or m (1 * 2 ^ j % 2 ^ 64)) k ≡ (k == j) || bit m k
    by (inl e) = ap (bit (bit_or m (1 * 2 ^ j % 2 ^ 64))) e ∙ ap (λ n. n == 1) (bit_at_set_same w64 m j h) ∙ sym (ap (λ b. b || bit m k) (is_eq k j e))
    by (inr d) = ap (λ n. n == 1) (bit_at_set_other w64 m j h k d) ∙ sym (ap (λ b. b || bit m k) (not_eq k j d))

rest-here : (word : List ℕ) (x j : ℕ) → x < length word → j ≡ get_or word x 0 → drop x word ≡ j ∷ drop (x + 1) word
rest-here word x j h e = let s : suc x ≡ x + 1 = omega arith in drop-cons word x 0 h ∙ (λ i. sym e i ∷ drop (s i) word)

pub reading_more : (n : ℕ) (word : List ℕ) (mask above x j : ℕ) → x < length word → j ≡ get_or word x 0 → j < above → Reading n word mask above x
    → Reading n word (bit_or mask (1 * 2 ^ j % 2 ^ 64)) j (x + 1)
reading_more n word mask above x j h e l r =
    let t : take (x + 1) word ≡ take x word ++ j ∷ [] = take_more word x 0 h ∙ (λ i. take x word ++ sym e i ∷ []) in
    record {
      small = subst (λ m. bit_or mask m < 2 ^ 32) (sym (one_shl j 64 (omega (arith, r.limit)))) (or_lt 32 mask (2 ^ j) r.small (pow_below j 32 (omega (arith, r.limit))));
      limit = omega (arith, r.limit);
      rest = r.rest ∙ ap (is_word above) (rest-here word x j h e) ∙ ap (λ b. b && is_word j (drop (x + 1) word)) (is_lt j above l);
      bits = λ k. bit-set mask j k (omega (arith, r.limit)) ∙ ap (λ b. (k == j) || b) (r.bits k) ∙ sym (ap (λ w. has w k) t ∙ has-append (take x word) j k);
    }

-- an index that is too large
pub reading_fails : (n : ℕ) (word : List ℕ) (mask above x j : ℕ) → x < length word → j ≡ get_or word x 0 → above ≤ j → Reading n word mask above x → is_word n word ≡ false
reading_fails n word mask above x j h e l r = r.rest ∙ ap (is_word above) (rest-here word x j h e) ∙ ap (λ b. b && is_word j (drop (x + 1) word)) (not_lt j above l)

pub reading_word : (n : ℕ) (word : List ℕ) (mask above : ℕ) → Reading n word mask above (length word) → is_word n word ≡ true
reading_word n word mask above r = r.rest ∙ ap (is_word above) (drop-length word)

pub reading_all : (n : ℕ) (word : List ℕ) (mask above : ℕ) → n ≤ 32 → Reading n word mask above (length word) → mask_word mask ≡ word
reading_all n word mask above h r =
    places_same 32 (bit mask) (has word) (λ k l. r.bits k ∙ ap (λ w. has w k) (take-length word))
    ∙ places_has 32 word (word_below n 32 word h ((Decides-is_word n word).0 (reading_word n word mask above r)))
