-- Normal forms of the code for a space whose simplices are those of a table: its cells stand for the rows.
use Rattle.std.proofs.Common.{◌≡◌, ℕ, ◌+◌, ◌-◌, ◌%◌, ◌^◌, ◌<◌, ◌≤◌, Bool, true, nat_lt, ◌&&◌, List, [], length, refl, sym, ◌∙◌, ap, subst, arith, ◌⊎◌, inl, inr, count_ones}
use Rattle.std.proofs.lemmas.Bool.{cases_lt}
use Rattle.std.proofs.lemmas.Bool.Decides.{Decides-ltb}
use Rattle.std.proofs.lemmas.Nat.{pow_pos}
use Rattle.std.proofs.lemmas.Cmp.{tied_itself, nat_list_cmp_total}
use Rattle.std.proofs.lemmas.Map.Lookups.{exact_unsigned}
use Rattle.std.proofs.Math.Nat.{mod-eq_of_lt}
use Rattle.std.specs.Ordering.{ordering_then, nat_cmp}
use Rattle.std.specs.Cmp.Lexicographic.{slice_cmp}
use Rattle.std.specs.declared.cmp.Ordering.{Ordering}
use Rattle.std.specs.declared.cmp.Ordering.TheVariants.{Less, Equal, Greater}
use Rattle.simp_ops.specs.declared.degens.Degens.{Degens}
use Rattle.simp_ops.specs.Words.{IsWord}
use Rattle.simp_ops.specs.Bits.{bit, mask_word}
use Rattle.simp_ops.proofs.PlacesOf.{word_below, places_word, is_lt}
use Rattle.simp_ops.proofs.Squeezed.{and_left, and_right}
use Rattle.simp_ops.proofs.Numbers.{count-ones}
use Rattle.simp_ops.proofs.MaskWords.{length-mask_word, mask_of, mask_of-lt, places-mask_of, places_told, places-none, mask_word_below}
use Rattle.spaces.specs.Simplicial.{IsSimplicial, is_degenerate}
use Rattle.spaces.specs.Tables.{Table, RowSimplex, InTable, row_at, table_set}
use Rattle.spaces.specs.Orders.{mask, cell_of, dim_of, row_cmp, two_cmp, simplex_cmp as typed_cmp}
use Rattle.spaces.proofs.WordLaws.{word_length}
use Rattle.cells.specs.declared.cells.Cell.{Cell}
use Rattle.cells.specs.declared.cells.Simplex.{Simplex}
use Rattle.cells.specs.Dim.{dim_of as cell_dim, degree_of}
use Rattle.cells.specs.Order.{cell_cmp, simplex_cmp}
use Rattle.cells.proofs.Compared.{simplex_cmp-then}
use Rattle.cells.proofs.OneKey.{degens_same}
use Rattle.term_lang.specs.Degenerated.{degenerated}
use Rattle.term_lang.specs.Quote.{degens_of, quote_simplex}
use Rattle.term_lang.proofs.TablePlaces.{mask-table, dim-table, cell-table, degenerated-row}
use Rattle.term_lang.proofs.MaskedForms.{degenerate_word, word_of_degenerate}

-- ---- masks of the code and their words

-- the word of a mask with bits below n
pub word_of_mask : (n m : ℕ) → m < 2 ^ n → IsWord n (mask_word m)
word_of_mask n m h = by (cases_lt 32 n)
  where
    by : (32 < n) ⊎ (n ≤ 32) → IsWord n (mask_word m)
    by (inl g) = word_below 32 n (mask_word m) (omega arith) (places_word 32 (bit m))
    by (inr g) = mask_word_below n m g h

pub mask_back : (m : ℕ) → m < 2 ^ 32 → mask_of (mask_word m) ≡ m
mask_back m h =
    places_told 32 (mask_of (mask_word m)) m (mask_of-lt 32 (mask_word m) (places_word 32 (bit m))) h (places-mask_of 32 (mask_word m) (places_word 32 (bit m)))

-- a mask whose word is below n has bits below n
pub mask_of_word : (n m : ℕ) → m < 2 ^ 32 → IsWord n (mask_word m) → m < 2 ^ n
mask_of_word n m h is = subst (λ k. k < 2 ^ n) (mask_back m h) (mask_of-lt n (mask_word m) is)

-- the mask of a word in degree at most 32, as the code has it
pub word_back : (n : ℕ) (w : List ℕ) → n ≤ 32 → IsWord n w → mask_word (mask_of w % 2 ^ 32) ≡ w
word_back n w h is =
    let js : IsWord 32 w = word_below n 32 w h is in
    ap mask_word (mod-eq_of_lt (mask_of-lt 32 w js)) ∙ places-mask_of 32 w js

pub degens_back : (d : Degens) → degens_of (mask_of (mask_word d.mask)) ≡ d
degens_back d = degens_same (degens_of (mask_of (mask_word d.mask))) d (ap (λ k. k % 2 ^ 32) (mask_back d.mask d.below_32) ∙ mod-eq_of_lt d.below_32)

-- how many bits a mask has
pub count_ones-mask : (m : ℕ) → m < 2 ^ 32 → count_ones m ≡ length (mask_word m)
count_ones-mask m h = ap count_ones (sym (mod-eq_of_lt h)) ∙ count-ones m 32 ∙ sym (length-mask_word m)

pub lt_is : (a b : ℕ) → nat_lt a b ≡ true → a < b
lt_is a b h = (Decides-ltb a b).0 h

-- ---- how two orders of simplices agree

rest_then : (p z : Ordering) → (p ≡ Equal → z ≡ Equal) → p ≡ ordering_then p z
rest_then Less z g = refl
rest_then Equal z g = sym (g refl)
rest_then Greater z g = refl

settle : (o c p z : Ordering) → (o ≡ Equal → c ≡ p) → (o ≡ Equal → p ≡ Equal → z ≡ Equal) → ordering_then o c ≡ ordering_then (ordering_then o p) z
settle Less c p z f g = refl
settle Equal c p z f g = f refl ∙ rest_then p z (g refl)
settle Greater c p z f g = refl

module _ (t : Table) (plain : Cell → RowSimplex) (test : Cell → ℕ → Bool) (quote_row : ℕ → RowSimplex → Cell) where
  -- a cell of dimension n stands for a row
  pub record Stands (n : ℕ) (c : Cell) : Type 0 where
    pub row : ℕ
    pub within : row < length t
    pub dim : (row_at t row).dim ≡ n
    pub plain_is : plain c ≡ ([], row)
    pub quoted : quote_row n ([], row) ≡ c

  -- cells stand for the rows, one for each
  pub record StandForRows : Type 0 where
    pub stands : (n : ℕ) (c : Cell) → test c n ≡ true → Stands n c
    pub tested : (r : ℕ) → r < length t → test (quote_row (row_at t r).dim ([], r)) (row_at t r).dim ≡ true
    pub formed : (r : ℕ) → r < length t → plain (quote_row (row_at t r).dim ([], r)) ≡ ([], r)
    pub dims : (n r : ℕ) → r < length t → (row_at t r).dim ≡ n → cell_dim (quote_row n ([], r)) ≡ n
    pub in_order : (n r s : ℕ) → r < length t → s < length t → (row_at t r).dim ≡ n → (row_at t s).dim ≡ n
        → cell_cmp (quote_row n ([], r)) (quote_row n ([], s)) ≡ nat_cmp r s

  abbrev pub form : Simplex → RowSimplex
  form x = degenerated (table_set t) (mask_word x.degens.mask) (plain x.cell)

  abbrev pub is_simplex : Simplex → ℕ → Bool
  is_simplex x n = nat_lt x.degens.mask (2 ^ n) && test x.cell (n - length (mask_word x.degens.mask))

  abbrev pub quote : ℕ → RowSimplex → Simplex
  quote n y = quote_simplex (table_set t) quote_row n y

  abbrev pub order : ℕ → RowSimplex → RowSimplex → Ordering
  order n x y = ordering_then (typed_cmp (table_set t) row_cmp n x y) (two_cmp (slice_cmp nat_cmp) nat_cmp x y)

  -- a simplex of the code and its plain form
  pub record Known (n : ℕ) (x : Simplex) : Type 0 where
    pub row : ℕ
    pub mask : x.degens.mask < 2 ^ n
    pub plain_is : form x ≡ (mask_word x.degens.mask, row)
    pub simplex : InTable t n (mask_word x.degens.mask, row)
    pub dim : (row_at t row).dim ≡ n - length (mask_word x.degens.mask)
    pub cell : quote_row (n - length (mask_word x.degens.mask)) ([], row) ≡ x.cell

  module _ (laws : IsSimplicial (table_set t)) (rows : StandForRows) where
    pub known : (n : ℕ) (x : Simplex) → is_simplex x n ≡ true → Known n x
    known n x h =
        let w = mask_word x.degens.mask in
        let m : x.degens.mask < 2 ^ n = lt_is x.degens.mask (2 ^ n) (and_left (nat_lt x.degens.mask (2 ^ n)) (test x.cell (n - length w)) h) in
        let s = rows.stands (n - length w) x.cell (and_right (nat_lt x.degens.mask (2 ^ n)) (test x.cell (n - length w)) h) in
        let word : IsWord n w = word_of_mask n x.degens.mask m in
        let d : (row_at t s.row).dim ≡ n - length w = s.dim in
        record {
          row = s.row;
          mask = m;
          plain_is = ap (degenerated (table_set t) w) s.plain_is ∙ degenerated-row t n w s.row word;
          simplex = record { row = s.within; degree = omega (arith, d, word_length n w word); word = word };
          dim = s.dim;
          cell = s.quoted;
        }

    quoted_at : (n : ℕ) (x : Simplex) (r : ℕ) → IsWord n (mask_word x.degens.mask)
        → quote_row (n - length (mask_word x.degens.mask)) ([], r) ≡ x.cell → quote n (mask_word x.degens.mask, r) ≡ x
    quoted_at n x r word e =
        let w = mask_word x.degens.mask in
        let d : dim_of (table_set t) n (w, r) ≡ n - length w = omega (arith, dim-table t n w r word) in
        let f : quote_row (dim_of (table_set t) n (w, r)) (cell_of (table_set t) n (w, r)) ≡ x.cell = (λ i. quote_row (d i) (cell-table t n w r word i)) ∙ e in
        λ i. record { degens = (ap degens_of (mask-table t n w r word) ∙ degens_back x.degens) i; cell = f i }

    pub quoted : (n : ℕ) (x : Simplex) → is_simplex x n ≡ true → quote n (form x) ≡ x
    quoted n x h = let k = known n x h in ap (quote n) k.plain_is ∙ quoted_at n x k.row k.simplex.word k.cell

    pub simplex : (n : ℕ) (x : Simplex) → is_simplex x n ≡ true → InTable t n (form x)
    simplex n x h = let k = known n x h in subst (InTable t n) (sym k.plain_is) k.simplex

    pub once : (n : ℕ) (x y : Simplex) → is_simplex x n ≡ true → is_simplex y n ≡ true → form x ≡ form y → x ≡ y
    once n x y h l e = sym (quoted n x h) ∙ ap (quote n) e ∙ quoted n y l

    pub degenerate : (n : ℕ) (x : Simplex) → is_simplex x n ≡ true
        → (is_degenerate (table_set t) n (form x) ≡ true → 0 < x.degens.mask) × (0 < x.degens.mask → is_degenerate (table_set t) n (form x) ≡ true)
    degenerate n x h = (down (cases_lt 0 x.degens.mask), up)
      where
        k : Known n x
        k = known n x h

        down : (0 < x.degens.mask) ⊎ (x.degens.mask ≤ 0) → is_degenerate (table_set t) n (form x) ≡ true → 0 < x.degens.mask
        down (inl g) d = g
        down (inr g) d =
            let z : x.degens.mask ≡ 0 = omega arith in
            let e = k.plain_is in
            absurd (word_of_degenerate t laws n (mask_word x.degens.mask) k.row k.simplex (sym (ap (is_degenerate (table_set t) n) e) ∙ d) (ap mask_word z ∙ places-none 32))

        up : 0 < x.degens.mask → is_degenerate (table_set t) n (form x) ≡ true
        up g =
            ap (is_degenerate (table_set t) n) k.plain_is
            ∙ degenerate_word t laws n (mask_word x.degens.mask) k.row k.simplex
            (λ e. let z : x.degens.mask ≡ 0 = places_told 32 x.degens.mask 0 x.degens.below_32 (pow_pos 32) (e ∙ sym (places-none 32)) in omega (arith, z, g))

    pub degree : (n : ℕ) (x : Simplex) → n ≤ 32 → is_simplex x n ≡ true → degree_of x ≡ n
    degree n x h is =
        let k = known n x is in
        let w = mask_word x.degens.mask in
        let d : cell_dim x.cell ≡ n - length w = ap cell_dim (sym k.cell) ∙ rows.dims (n - length w) k.row k.simplex.row k.dim in
        let b : count_ones x.degens.mask ≡ length w = count_ones-mask x.degens.mask x.degens.below_32 in
        omega (arith, d, b, word_length n w k.simplex.word)

    -- what is quoted, in degree at most 32
    pub onto : (n : ℕ) (y : RowSimplex) → n ≤ 32 → InTable t n y → is_simplex (quote n y) n ≡ true
    onto n y h is =
        let d : (row_at t y.1).dim + length y.0 ≡ n = is.degree in
        let m : mask (table_set t) n y ≡ mask_of y.0 = mask-table t n y.0 y.1 is.word in
        let w : mask_word (mask (table_set t) n y % 2 ^ 32) ≡ y.0 = ap (λ k. mask_word (k % 2 ^ 32)) m ∙ word_back n y.0 h is.word in
        let l : mask_of y.0 % 2 ^ 32 < 2 ^ n = subst (λ k. k < 2 ^ n) (sym (mod-eq_of_lt (mask_of-lt 32 y.0 (word_below n 32 y.0 h is.word)))) (mask_of-lt n y.0 is.word) in
        let e : dim_of (table_set t) n y ≡ (row_at t y.1).dim = omega (arith, dim-table t n y.0 y.1 is.word, d) in
        let f : n - length y.0 ≡ (row_at t y.1).dim = omega (arith, d) in
        (λ i. nat_lt (m i % 2 ^ 32) (2 ^ n) && test (quote_row (e i) (cell-table t n y.0 y.1 is.word i)) (n - length (w i)))
        ∙ (λ i. is_lt (mask_of y.0 % 2 ^ 32) (2 ^ n) l i && test (quote_row (row_at t y.1).dim ([], y.1)) (f i)) ∙ rows.tested y.1 is.row

    pub formed : (n : ℕ) (y : RowSimplex) → n ≤ 32 → InTable t n y → form (quote n y) ≡ y
    formed n y h is =
        let d : (row_at t y.1).dim + length y.0 ≡ n = is.degree in
        let w : mask_word (mask (table_set t) n y % 2 ^ 32) ≡ y.0 = ap (λ k. mask_word (k % 2 ^ 32)) (mask-table t n y.0 y.1 is.word) ∙ word_back n y.0 h is.word in
        let e : dim_of (table_set t) n y ≡ (row_at t y.1).dim = omega (arith, dim-table t n y.0 y.1 is.word, d) in
        (λ i. degenerated (table_set t) (w i) (plain (quote_row (e i) (cell-table t n y.0 y.1 is.word i))))
        ∙ ap (degenerated (table_set t) y.0) (rows.formed y.1 is.row) ∙ degenerated-row t n y.0 y.1 is.word

    -- the order of the code is that of the space
    pub in_order : (n : ℕ) (x y : Simplex) → is_simplex x n ≡ true → is_simplex y n ≡ true → simplex_cmp x y ≡ order n (form x) (form y)
    in_order n x y h l =
        simplex_cmp-then x y ∙ settle (nat_cmp x.degens.mask y.degens.mask) (cell_cmp x.cell y.cell) (nat_cmp a.row b.row)
        (two_cmp (slice_cmp nat_cmp) nat_cmp (mask_word x.degens.mask, a.row) (mask_word y.degens.mask, b.row)) cells ties ∙ sym at
        ∙ (λ i. order n (sym a.plain_is i) (sym b.plain_is i))
      where
        a : Known n x
        a = known n x h

        b : Known n y
        b = known n y l

        cells : nat_cmp x.degens.mask y.degens.mask ≡ Equal → cell_cmp x.cell y.cell ≡ nat_cmp a.row b.row
        cells e =
            let w = mask_word x.degens.mask in
            let v = mask_word y.degens.mask in
            let d : n - length v ≡ n - length w = ap (λ k. n - length (mask_word k)) (sym (exact_unsigned x.degens.mask y.degens.mask e)) in
            (λ i. cell_cmp (sym a.cell i) (sym b.cell i)) ∙ ap (λ k. cell_cmp (quote_row (n - length w) ([], a.row)) (quote_row k ([], b.row))) d
            ∙ rows.in_order (n - length w) a.row b.row a.simplex.row b.simplex.row a.dim (b.dim ∙ d)

        ties : nat_cmp x.degens.mask y.degens.mask ≡ Equal → nat_cmp a.row b.row ≡ Equal → two_cmp (slice_cmp nat_cmp) nat_cmp (mask_word x.degens.mask, a.row) (mask_word y.degens.mask, b.row) ≡ Equal
        ties e f =
            let w = mask_word x.degens.mask in
            let v = mask_word y.degens.mask in
            let g : slice_cmp nat_cmp w v ≡ Equal =
            ap (λ k. slice_cmp nat_cmp w (mask_word k)) (sym (exact_unsigned x.degens.mask y.degens.mask e)) ∙ tied_itself nat_list_cmp_total w in
            λ i. ordering_then (g i) (f i)

        at : order n (mask_word x.degens.mask, a.row) (mask_word y.degens.mask, b.row) ≡ ordering_then (ordering_then (nat_cmp x.degens.mask y.degens.mask) (nat_cmp a.row b.row)) (two_cmp (slice_cmp nat_cmp) nat_cmp (mask_word x.degens.mask, a.row) (mask_word y.degens.mask, b.row))
        at =
            let w = mask_word x.degens.mask in
            let v = mask_word y.degens.mask in
            let p : mask (table_set t) n (w, a.row) ≡ x.degens.mask = mask-table t n w a.row a.simplex.word ∙ mask_back x.degens.mask x.degens.below_32 in
            let q : mask (table_set t) n (v, b.row) ≡ y.degens.mask = mask-table t n v b.row b.simplex.word ∙ mask_back y.degens.mask y.degens.below_32 in
            λ i. ordering_then (ordering_then (nat_cmp (p i) (q i)) (nat_cmp (cell-table t n w a.row a.simplex.word i).1 (cell-table t n v b.row b.simplex.word i).1)) (two_cmp (slice_cmp nat_cmp) nat_cmp (w, a.row) (v, b.row))
