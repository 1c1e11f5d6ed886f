-- The sizes of the code's cells and values are those of the definitions.
use Rattle.std.proofs.Common.{◌≡◌, ℕ, zero, suc, ◌-◌, ◌<◌, ◌≤◌, max, Bool, true, false, cond, List, [], ◌∷◌, length, map, refl, sym, ◌∙◌, ap, ℤ, pos, arith}
use Rattle.std.specs.Prelude.{nat_abs, nat_le, Some, None}
use Rattle.fp_field.specs.declared.prime.Prime.{Prime}
use Rattle.fp_field.specs.Chains.{Terms}
use Rattle.chain_core.specs.Formal.{Formal}
use Rattle.spaces.specs.Simplicial.{Simplicial, IsSimplicial, has_degeneracy}
use Rattle.spaces.specs.Nerves.{integers, integers_modulo, nerve_set, nerve_degeneracy}
use Rattle.spaces.specs.Tables.{table_set, sphere_rows}
use Rattle.spaces.specs.Orders.{cell_of, dim_of}
use Rattle.spaces.specs.Spaces.{Space, table, sphere, product, suspension, kz1, bundle, loops, paths, kzm1, cyclic_bundle, Plain, set_of}
use Rattle.spaces.specs.SmallCells.{Small, row_dim}
use Rattle.spaces.specs.Allowed.{Admits}
use Rattle.spaces.proofs.SpaceLaws.{space_set_laws}
use Rattle.spaces.proofs.Nerves.{nerve_set_laws}
use Rattle.spaces.proofs.Integers.{integers_abelian, residues_abelian}
use Rattle.values.specs.Asks.{Ask, basis, small_d, f, g, h, cycles, Answer, Cell as GradedCell}
use Rattle.values.specs.Sizes.{Size, greatest, letters, integer, small_letters, small_integer, small_chain_size, chain_size, answer_size}
use Rattle.values.specs.Ranks.{space_of}
use Rattle.cells.specs.declared.cells.Cell.{Cell}
use Rattle.cells.specs.declared.cells.Cell.TheVariants.{Row, Base, Pair, Ints, Word}
use Rattle.cells.specs.declared.cells.Letter.{Letter}
use Rattle.cells.specs.declared.cells.Simplex.{Simplex}
use Rattle.cells.specs.declared.cells.SmallCell.{SmallCell}
use Rattle.cells.specs.declared.cells.SmallCell.TheVariants.{One, Word as SmallWord}
use Rattle.term_lang.specs.Quote.{quote_simplex, quote_letters, quote_cell, sphere_cell, row_cell, residues_cell}
use Rattle.oracle_iface.specs.SmallForms.{quote_small, quote_row, quote_residues}
use Rattle.oracle_iface.specs.Keys.{quote_chain, quote_small_chain, formal, quote_body}
use Rattle.oracle_iface.specs.CodeSizes.{cell_letters, cell_integer, small_cell_letters, small_cell_integer, small_terms_size, terms_size, body_size}
use Rattle.oracle_iface.proofs.SizeRules.{greatest-same, letters_row, letters_base, letters_top, letters_ints, letters_pair, letters_up, letters_word, integer_row, integer_base, integer_top, integer_ints, integer_pair, integer_up, integer_word, small_letters_one, small_letters_pair, small_letters_up, small_letters_word, small_integer_one, small_integer_pair, small_integer_up, small_integer_word}

greatest-mapped : {A B : Type 0} (size : B → ℕ) (q : A → B) (xs : List A) → greatest size (map q xs) ≡ greatest (λ x. size (q x)) xs
greatest-mapped size q [] = refl
greatest-mapped size q (x ∷ xs) = ap (max (size (q x))) (greatest-mapped size q xs)

length-mapped : {A B : Type 0} (q : A → B) (xs : List A) → length (map q xs) ≡ length xs
length-mapped q [] = refl
length-mapped q (x ∷ xs) = ap suc (length-mapped q xs)

-- ---- a size that no degeneracy changes is that of the cell of a simplex

module _ {K : Type 0} (A : Simplicial K) (laws : IsSimplicial A) (size : K → ℕ) (kept : (i : ℕ) (x : K) → size (A.degeneracy i x) ≡ size x) where
  taken_off : (j : ℕ) (x : K) → size (cond (has_degeneracy A j x) (A.face j x) x) ≡ size x
  taken_off j x = by (has_degeneracy A j x) refl
    where
      by : (b : Bool) → has_degeneracy A j x ≡ b → size (cond b (A.face j x) x) ≡ size x
      by true e = sym (kept j (A.face j x)) ∙ ap size (sym (laws.same_is x (A.degeneracy j (A.face j x)) e))
      by false e = refl

  pub cell_size : (n : ℕ) (x : K) → size (cell_of A n x) ≡ size x
  cell_size zero x = refl
  cell_size (suc j) x = cell_size j (cond (has_degeneracy A j x) (A.face j x) x) ∙ taken_off j x

greatest-at : (i : ℕ) (x : List ℤ) → greatest nat_abs (nerve_degeneracy integers i x) ≡ greatest nat_abs x
greatest-at zero x = omega arith
greatest-at (suc i) [] = refl
greatest-at (suc i) (a ∷ x) = ap (max (nat_abs a)) (greatest-at i x)

greatest-residues : (m i : ℕ) (x : List ℕ) → greatest (λ k. k) (nerve_degeneracy (integers_modulo m) i x) ≡ greatest (λ k. k) x
greatest-residues m zero x = omega arith
greatest-residues m (suc i) [] = refl
greatest-residues m (suc i) (a ∷ x) = ap (max a) (greatest-residues m i x)

words_letters : (a : Space) (i : ℕ) → ((x : Plain a) → letters a ((set_of a).degeneracy (suc i) x) ≡ letters a x) → (w : List (Bool × Plain a))
    → letters (loops a) ((set_of (loops a)).degeneracy i w) ≡ letters (loops a) w
words_letters a i kept w =
    λ j. max (length-mapped {B = Bool × Plain a} (λ l. (l.0, (set_of a).degeneracy (suc i) l.1)) w j)
    ((greatest-mapped (λ (l : Bool × Plain a). letters a l.1) (λ l. (l.0, (set_of a).degeneracy (suc i) l.1)) w
    ∙ greatest-same (λ l. letters a ((set_of a).degeneracy (suc i) l.1)) (λ l. letters a l.1) (λ l. kept l.1) w) j)

words_integer : (a : Space) (i : ℕ) → ((x : Plain a) → integer a ((set_of a).degeneracy (suc i) x) ≡ integer a x) → (w : List (Bool × Plain a))
    → integer (loops a) ((set_of (loops a)).degeneracy i w) ≡ integer (loops a) w
words_integer a i kept w =
    greatest-mapped (λ (l : Bool × Plain a). integer a l.1) (λ l. (l.0, (set_of a).degeneracy (suc i) l.1)) w
    ∙ greatest-same (λ l. integer a ((set_of a).degeneracy (suc i) l.1)) (λ l. integer a l.1) (λ l. kept l.1) w

pub letters_kept : (a : Space) (i : ℕ) (x : Plain a) → letters a ((set_of a).degeneracy i x) ≡ letters a x
letters_kept (table t) i x = refl
letters_kept (sphere m) i x = refl
letters_kept (product a b) i x = λ j. max (letters_kept a i x.0 j) (letters_kept b i x.1 j)
letters_kept (suspension a) i None = refl
letters_kept (suspension a) i (Some s) = by (nat_le i s.0) (letters_kept a (i - s.0 - 1) s.1)
  where
    by : (b : Bool) → letters a ((set_of a).degeneracy (i - s.0 - 1) s.1) ≡ letters a s.1
        → letters (suspension a) (cond b (Some (suc s.0, s.1)) (Some (s.0, (set_of a).degeneracy (i - s.0 - 1) s.1))) ≡ letters a s.1
    by true e = refl
    by false e = e
letters_kept kz1 i x = refl
letters_kept (bundle t c) i x = refl
letters_kept (loops a) i w = words_letters a i (letters_kept a (suc i)) w
letters_kept (paths a) i x = λ j. max (letters_kept a i x.0 j) (words_letters a i (letters_kept a (suc i)) x.1 j)
letters_kept (kzm1 m) i x = refl
letters_kept (cyclic_bundle t m c) i x = refl

pub integer_kept : (a : Space) (i : ℕ) (x : Plain a) → integer a ((set_of a).degeneracy i x) ≡ integer a x
integer_kept (table t) i x = refl
integer_kept (sphere m) i x = refl
integer_kept (product a b) i x = λ j. max (integer_kept a i x.0 j) (integer_kept b i x.1 j)
integer_kept (suspension a) i None = refl
integer_kept (suspension a) i (Some s) = by (nat_le i s.0) (integer_kept a (i - s.0 - 1) s.1)
  where
    by : (b : Bool) → integer a ((set_of a).degeneracy (i - s.0 - 1) s.1) ≡ integer a s.1
        → integer (suspension a) (cond b (Some (suc s.0, s.1)) (Some (s.0, (set_of a).degeneracy (i - s.0 - 1) s.1))) ≡ integer a s.1
    by true e = refl
    by false e = e
integer_kept kz1 i x = greatest-at i x
integer_kept (bundle t c) i x = greatest-at i x.1
integer_kept (loops a) i w = words_integer a i (integer_kept a (suc i)) w
integer_kept (paths a) i x = λ j. max (integer_kept a i x.0 j) (words_integer a i (integer_kept a (suc i)) x.1 j)
integer_kept (kzm1 m) i x = greatest-residues m i x
integer_kept (cyclic_bundle t m c) i x = greatest-residues m i x.1

-- ---- cells of the code

residues_abs : (x : List ℕ) → greatest nat_abs (map (λ k. pos k) x) ≡ greatest (λ k. k) x
residues_abs x = greatest-mapped nat_abs (λ k. pos k) x

-- a size of the code's cells that is a size of the space's simplices
abbrev Agrees : (Cell → ℕ) → {K : Type 0} → (ℕ → K → Cell) → (K → ℕ) → Type 0
Agrees code {K} quote size = (n : ℕ) (x : K) → code (quote n x) ≡ size x

simplex_agrees : (code : Cell → ℕ) {K : Type 0} (A : Simplicial K) → IsSimplicial A → (quote : ℕ → K → Cell) (size : K → ℕ)
    → ((i : ℕ) (x : K) → size (A.degeneracy i x) ≡ size x) → Agrees code quote size → (n : ℕ) (x : K)
    → code (quote_simplex A quote n x).cell ≡ size x
simplex_agrees code A laws quote size kept agree n x = agree (dim_of A n x) (cell_of A n x) ∙ cell_size A laws size kept n x

-- words, from the cells of their letters
loop_letters : (a : Space) → IsSimplicial (set_of a) → Agrees cell_letters (quote_cell a) (letters a) → Agrees cell_letters (quote_cell (loops a)) (letters (loops a))
loop_letters a laws agree n w =
    letters_word (quote_letters (set_of a) (quote_cell a) (suc n) w)
    ∙ (λ i. max (length-mapped {B = Letter} (λ l. record { inverse = l.0; simplex = quote_simplex (set_of a) (quote_cell a) (suc n) l.1 }) w i)
    ((greatest-mapped (λ (l : Letter). cell_letters l.simplex.cell) (λ l. record { inverse = l.0; simplex = quote_simplex (set_of a) (quote_cell a) (suc n) l.1 }) w
    ∙ greatest-same (λ l. cell_letters (quote_simplex (set_of a) (quote_cell a) (suc n) l.1).cell) (λ l. letters a l.1)
    (λ l. simplex_agrees cell_letters (set_of a) laws (quote_cell a) (letters a) (letters_kept a) agree (suc n) l.1) w) i))

loop_integer : (a : Space) → IsSimplicial (set_of a) → Agrees cell_integer (quote_cell a) (integer a) → Agrees cell_integer (quote_cell (loops a)) (integer (loops a))
loop_integer a laws agree n w =
    integer_word (quote_letters (set_of a) (quote_cell a) (suc n) w)
    ∙ greatest-mapped (λ (l : Letter). cell_integer l.simplex.cell) (λ l. record { inverse = l.0; simplex = quote_simplex (set_of a) (quote_cell a) (suc n) l.1 }) w
    ∙ greatest-same (λ l. cell_integer (quote_simplex (set_of a) (quote_cell a) (suc n) l.1).cell) (λ l. integer a l.1)
    (λ l. simplex_agrees cell_integer (set_of a) laws (quote_cell a) (integer a) (integer_kept a) agree (suc n) l.1) w

-- pairs, from their two parts
pair_agrees : (code : Cell → ℕ) → ((a b : Simplex) → code (Pair a b) ≡ max (code a.cell) (code b.cell)) → (x y : Simplex) (m n : ℕ) → code x.cell ≡ m → code y.cell ≡ n
    → code (Pair x y) ≡ max m n
pair_agrees code rule x y m n left right = rule x y ∙ (λ i. max (left i) (right i))

pub cell_letters_agree : (a : Space) → Admits a → Agrees cell_letters (quote_cell a) (letters a)
cell_letters_agree (table t) is n x = letters_row n x.1
cell_letters_agree (sphere m) is zero x = letters_base
cell_letters_agree (sphere m) is (suc n) x = letters_top (suc n)
cell_letters_agree (product a b) is n x =
    pair_agrees cell_letters letters_pair (quote_simplex (set_of a) (quote_cell a) n x.0) (quote_simplex (set_of b) (quote_cell b) n x.1) _ _
    (simplex_agrees cell_letters (set_of a) (space_set_laws a is.0) (quote_cell a) (letters a) (letters_kept a) (cell_letters_agree a is.0) n x.0)
    (simplex_agrees cell_letters (set_of b) (space_set_laws b is.1) (quote_cell b) (letters b) (letters_kept b) (cell_letters_agree b is.1) n x.1)
cell_letters_agree (suspension a) is n None = letters_base
cell_letters_agree (suspension a) is n (Some s) = letters_up (quote_cell a (n - 1) s.1) ∙ cell_letters_agree a is.0 (n - 1) s.1
cell_letters_agree kz1 is n x = letters_ints x
cell_letters_agree (bundle t c) is n x =
    pair_agrees cell_letters letters_pair (quote_simplex (table_set t) row_cell n x.0) (quote_simplex (nerve_set integers) (λ m y. Ints y) n x.1) 0 0
    (letters_row (dim_of (table_set t) n x.0) (cell_of (table_set t) n x.0).1) (letters_ints (cell_of (nerve_set integers) n x.1))
cell_letters_agree (loops a) is n w = loop_letters a (space_set_laws a is.0) (cell_letters_agree a is.0) n w
cell_letters_agree (paths a) is n x =
    pair_agrees cell_letters letters_pair (quote_simplex (set_of a) (quote_cell a) n x.0)
    (quote_simplex (set_of (loops a)) (λ m w. Word (quote_letters (set_of a) (quote_cell a) (suc m) w)) n x.1) _ _
    (simplex_agrees cell_letters (set_of a) (space_set_laws a is.0) (quote_cell a) (letters a) (letters_kept a) (cell_letters_agree a is.0) n x.0)
    (simplex_agrees cell_letters (set_of (loops a)) (space_set_laws (loops a) is) (quote_cell (loops a)) (letters (loops a)) (letters_kept (loops a))
    (loop_letters a (space_set_laws a is.0) (cell_letters_agree a is.0)) n x.1)
cell_letters_agree (kzm1 m) is n x = letters_ints (map (λ k. pos k) x)
cell_letters_agree (cyclic_bundle t m c) is n x =
    pair_agrees cell_letters letters_pair (quote_simplex (table_set t) row_cell n x.0) (quote_simplex (nerve_set (integers_modulo m)) residues_cell n x.1) 0 0
    (letters_row (dim_of (table_set t) n x.0) (cell_of (table_set t) n x.0).1) (letters_ints (map (λ k. pos k) (cell_of (nerve_set (integers_modulo m)) n x.1)))

integers_agree : (n : ℕ) (x : List ℤ) → cell_integer (Ints (cell_of (nerve_set integers) n x)) ≡ greatest nat_abs x
integers_agree n x = integer_ints (cell_of (nerve_set integers) n x) ∙ cell_size (nerve_set integers) (nerve_set_laws integers integers_abelian) (greatest nat_abs) greatest-at n x

residues_agree : (m : ℕ) → 0 < m → (n : ℕ) (x : List ℕ) → cell_integer (Ints (map (λ k. pos k) (cell_of (nerve_set (integers_modulo m)) n x))) ≡ greatest (λ k. k) x
residues_agree m l n x =
    integer_ints (map (λ k. pos k) (cell_of (nerve_set (integers_modulo m)) n x)) ∙ residues_abs (cell_of (nerve_set (integers_modulo m)) n x)
    ∙ cell_size (nerve_set (integers_modulo m)) (nerve_set_laws (integers_modulo m) (residues_abelian m l)) (greatest (λ k. k)) (greatest-residues m) n x

pub cell_integer_agree : (a : Space) → Admits a → Agrees cell_integer (quote_cell a) (integer a)
cell_integer_agree (table t) is n x = integer_row n x.1
cell_integer_agree (sphere m) is zero x = integer_base
cell_integer_agree (sphere m) is (suc n) x = integer_top (suc n)
cell_integer_agree (product a b) is n x =
    pair_agrees cell_integer integer_pair (quote_simplex (set_of a) (quote_cell a) n x.0) (quote_simplex (set_of b) (quote_cell b) n x.1) _ _
    (simplex_agrees cell_integer (set_of a) (space_set_laws a is.0) (quote_cell a) (integer a) (integer_kept a) (cell_integer_agree a is.0) n x.0)
    (simplex_agrees cell_integer (set_of b) (space_set_laws b is.1) (quote_cell b) (integer b) (integer_kept b) (cell_integer_agree b is.1) n x.1)
cell_integer_agree (suspension a) is n None = integer_base
cell_integer_agree (suspension a) is n (Some s) = integer_up (quote_cell a (n - 1) s.1) ∙ cell_integer_agree a is.0 (n - 1) s.1
cell_integer_agree kz1 is n x = integer_ints x
cell_integer_agree (bundle t c) is n x =
    pair_agrees cell_integer integer_pair (quote_simplex (table_set t) row_cell n x.0) (quote_simplex (nerve_set integers) (λ m y. Ints y) n x.1) 0 (greatest nat_abs x.1)
    (integer_row (dim_of (table_set t) n x.0) (cell_of (table_set t) n x.0).1) (integers_agree n x.1)
    ∙ (let e : max 0 (greatest nat_abs x.1) ≡ greatest nat_abs x.1 = omega arith in e)
cell_integer_agree (loops a) is n w = loop_integer a (space_set_laws a is.0) (cell_integer_agree a is.0) n w
cell_integer_agree (paths a) is n x =
    pair_agrees cell_integer integer_pair (quote_simplex (set_of a) (quote_cell a) n x.0)
    (quote_simplex (set_of (loops a)) (λ m w. Word (quote_letters (set_of a) (quote_cell a) (suc m) w)) n x.1) _ _
    (simplex_agrees cell_integer (set_of a) (space_set_laws a is.0) (quote_cell a) (integer a) (integer_kept a) (cell_integer_agree a is.0) n x.0)
    (simplex_agrees cell_integer (set_of (loops a)) (space_set_laws (loops a) is) (quote_cell (loops a)) (integer (loops a)) (integer_kept (loops a))
    (loop_integer a (space_set_laws a is.0) (cell_integer_agree a is.0)) n x.1)
cell_integer_agree (kzm1 m) is n x = integer_ints (map (λ k. pos k) x) ∙ residues_abs x
cell_integer_agree (cyclic_bundle t m c) is n x =
    pair_agrees cell_integer integer_pair (quote_simplex (table_set t) row_cell n x.0) (quote_simplex (nerve_set (integers_modulo m)) residues_cell n x.1) 0 (greatest (λ k. k) x.1)
    (integer_row (dim_of (table_set t) n x.0) (cell_of (table_set t) n x.0).1)
    (residues_agree m (let l : 2 ≤ m = is.2 in let g : 0 < m = omega (arith, l) in g) n x.1)
    ∙ (let e : max 0 (greatest (λ k. k) x.1) ≡ greatest (λ k. k) x.1 = omega arith in e)

-- ---- small cells of the code

pub small_letters_agree : (a : Space) (y : Small a) → small_cell_letters (quote_small a y) ≡ small_letters a y
small_letters_agree (table t) r = small_letters_one (Row (row_dim t r) r) ∙ letters_row (row_dim t r) r
small_letters_agree (sphere m) r = small_letters_one (sphere_cell (row_dim (sphere_rows m) r) ([], r)) ∙ by (row_dim (sphere_rows m) r)
  where
    by : (d : ℕ) → cell_letters (sphere_cell d ([], r)) ≡ 0
    by zero = letters_base
    by (suc d) = letters_top (suc d)
small_letters_agree (product a b) y =
    small_letters_pair (quote_small a y.0) (quote_small b y.1) ∙ (λ i. max (small_letters_agree a y.0 i) (small_letters_agree b y.1 i))
small_letters_agree (suspension a) None = small_letters_one Base ∙ letters_base
small_letters_agree (suspension a) (Some y) = small_letters_up (quote_small a y) ∙ small_letters_agree a y
small_letters_agree kz1 y = small_letters_one (Ints y) ∙ letters_ints y
small_letters_agree (bundle t c) y =
    small_letters_pair (quote_row (row_dim t y.0) y.0) (One (Ints y.1))
    ∙ (λ i. max ((small_letters_one (Row (row_dim t y.0) y.0) ∙ letters_row (row_dim t y.0) y.0) i) ((small_letters_one (Ints y.1) ∙ letters_ints y.1) i))
small_letters_agree (loops a) w = small_letters_word (map (quote_small a) w) ∙ words_of a (small_letters_agree a) w
  where
    words_of : (a : Space) → ((y : Small a) → small_cell_letters (quote_small a y) ≡ small_letters a y) → (w : List (Small a))
        → max (length (map (quote_small a) w)) (greatest small_cell_letters (map (quote_small a) w)) ≡ max (length w) (greatest (small_letters a) w)
    words_of a agree w = λ i. max (length-mapped (quote_small a) w i)
        ((greatest-mapped small_cell_letters (quote_small a) w ∙ greatest-same (λ y. small_cell_letters (quote_small a y)) (small_letters a) agree w) i)
small_letters_agree (paths a) y =
    small_letters_pair (quote_small a y.0) (SmallWord (map (quote_small a) y.1))
    ∙ (λ i. max (small_letters_agree a y.0 i) ((small_letters_word (map (quote_small a) y.1) ∙ words_of a (small_letters_agree a) y.1) i))
  where
    words_of : (a : Space) → ((y : Small a) → small_cell_letters (quote_small a y) ≡ small_letters a y) → (w : List (Small a))
        → max (length (map (quote_small a) w)) (greatest small_cell_letters (map (quote_small a) w)) ≡ max (length w) (greatest (small_letters a) w)
    words_of a agree w = λ i. max (length-mapped (quote_small a) w i)
        ((greatest-mapped small_cell_letters (quote_small a) w ∙ greatest-same (λ y. small_cell_letters (quote_small a y)) (small_letters a) agree w) i)
small_letters_agree (kzm1 m) y = small_letters_one (Ints (map (λ k. pos k) y)) ∙ letters_ints (map (λ k. pos k) y)
small_letters_agree (cyclic_bundle t m c) y =
    small_letters_pair (quote_row (row_dim t y.0) y.0) (quote_residues y.1)
    ∙ (λ i. max ((small_letters_one (Row (row_dim t y.0) y.0) ∙ letters_row (row_dim t y.0) y.0) i)
    ((small_letters_one (Ints (map (λ k. pos k) y.1)) ∙ letters_ints (map (λ k. pos k) y.1)) i))

small_words_integer : (a : Space) → ((y : Small a) → small_cell_integer (quote_small a y) ≡ small_integer a y) → (w : List (Small a))
    → small_cell_integer (SmallWord (map (quote_small a) w)) ≡ greatest (small_integer a) w
small_words_integer a agree w =
    small_integer_word (map (quote_small a) w) ∙ greatest-mapped small_cell_integer (quote_small a) w
    ∙ greatest-same (λ y. small_cell_integer (quote_small a y)) (small_integer a) agree w

row_integer : (d r : ℕ) → small_cell_integer (quote_row d r) ≡ 0
row_integer d r = small_integer_one (Row d r) ∙ integer_row d r

ints_integer : (y : List ℤ) → small_cell_integer (One (Ints y)) ≡ greatest nat_abs y
ints_integer y = small_integer_one (Ints y) ∙ integer_ints y

residues_integer : (y : List ℕ) → small_cell_integer (quote_residues y) ≡ greatest (λ k. k) y
residues_integer y = ints_integer (map (λ k. pos k) y) ∙ residues_abs y

pub small_integer_agree : (a : Space) (y : Small a) → small_cell_integer (quote_small a y) ≡ small_integer a y
small_integer_agree (table t) r = row_integer (row_dim t r) r
small_integer_agree (sphere m) r = small_integer_one (sphere_cell (row_dim (sphere_rows m) r) ([], r)) ∙ by (row_dim (sphere_rows m) r)
  where
    by : (d : ℕ) → cell_integer (sphere_cell d ([], r)) ≡ 0
    by zero = integer_base
    by (suc d) = integer_top (suc d)
small_integer_agree (product a b) y =
    small_integer_pair (quote_small a y.0) (quote_small b y.1) ∙ (λ i. max (small_integer_agree a y.0 i) (small_integer_agree b y.1 i))
small_integer_agree (suspension a) None = small_integer_one Base ∙ integer_base
small_integer_agree (suspension a) (Some y) = small_integer_up (quote_small a y) ∙ small_integer_agree a y
small_integer_agree kz1 y = ints_integer y
small_integer_agree (bundle t c) y =
    small_integer_pair (quote_row (row_dim t y.0) y.0) (One (Ints y.1)) ∙ (λ i. max (row_integer (row_dim t y.0) y.0 i) (ints_integer y.1 i))
    ∙ (let e : max 0 (greatest nat_abs y.1) ≡ greatest nat_abs y.1 = omega arith in e)
small_integer_agree (loops a) w = small_words_integer a (small_integer_agree a) w
small_integer_agree (paths a) y =
    small_integer_pair (quote_small a y.0) (SmallWord (map (quote_small a) y.1))
    ∙ (λ i. max (small_integer_agree a y.0 i) (small_words_integer a (small_integer_agree a) y.1 i))
small_integer_agree (kzm1 m) y = residues_integer y
small_integer_agree (cyclic_bundle t m c) y =
    small_integer_pair (quote_row (row_dim t y.0) y.0) (quote_residues y.1) ∙ (λ i. max (row_integer (row_dim t y.0) y.0 i) (residues_integer y.1 i))
    ∙ (let e : max 0 (greatest (λ k. k) y.1) ≡ greatest (λ k. k) y.1 = omega arith in e)

-- ---- values of the code

abbrev size_by : ℕ → ℕ → ℕ → Size
size_by l i t = record { letters = l; integer = i; terms = t }

small_chain_agrees : (a : Space) (c : Terms (Small a)) → small_terms_size (quote_small_chain a c) ≡ small_chain_size a c
small_chain_agrees a c =
    λ i. size_by
    ((greatest-mapped (λ (t : SmallCell × ℕ). small_cell_letters t.0) (λ t. (quote_small a t.0, t.1)) c
    ∙ greatest-same (λ t. small_cell_letters (quote_small a t.0)) (λ t. small_letters a t.0) (λ t. small_letters_agree a t.0) c) i)
    ((greatest-mapped (λ (t : SmallCell × ℕ). small_cell_integer t.0) (λ t. (quote_small a t.0, t.1)) c
    ∙ greatest-same (λ t. small_cell_integer (quote_small a t.0)) (λ t. small_integer a t.0) (λ t. small_integer_agree a t.0) c) i)
    (length-mapped {B = SmallCell × ℕ} (λ t. (quote_small a t.0, t.1)) c i)

chain_agrees : (a : Space) → Admits a → (c : Terms (GradedCell a)) → terms_size (quote_chain a c) ≡ chain_size a c
chain_agrees a is c =
    λ i. size_by
    ((greatest-mapped (λ (t : Cell × ℕ). cell_letters t.0) (λ t. (quote_cell a t.0.0 t.0.1, t.1)) c
    ∙ greatest-same (λ t. cell_letters (quote_cell a t.0.0 t.0.1)) (λ t. letters a t.0.1) (λ t. cell_letters_agree a is t.0.0 t.0.1) c) i)
    ((greatest-mapped (λ (t : Cell × ℕ). cell_integer t.0) (λ t. (quote_cell a t.0.0 t.0.1, t.1)) c
    ∙ greatest-same (λ t. cell_integer (quote_cell a t.0.0 t.0.1)) (λ t. integer a t.0.1) (λ t. cell_integer_agree a is t.0.0 t.0.1) c) i)
    (length-mapped {B = Cell × ℕ} (λ t. (quote_cell a t.0.0 t.0.1, t.1)) c i)

pub body_agrees : (p : Prime) (q : Ask) → Admits (space_of q) → (v : Answer q) → body_size (quote_body p q v) ≡ answer_size q v
body_agrees p (basis a n) is ys =
    λ i. size_by
    ((greatest-mapped small_cell_letters (quote_small a) ys ∙ greatest-same (λ y. small_cell_letters (quote_small a y)) (small_letters a) (small_letters_agree a) ys) i)
    ((greatest-mapped small_cell_integer (quote_small a) ys ∙ greatest-same (λ y. small_cell_integer (quote_small a y)) (small_integer a) (small_integer_agree a) ys) i)
    (length-mapped (quote_small a) ys i)
body_agrees p (small_d a y) is c = small_chain_agrees a c
body_agrees p (f a n x) is c = small_chain_agrees a c
body_agrees p (g a y) is c = chain_agrees a is c
body_agrees p (h a n x) is c = chain_agrees a is c
body_agrees p (cycles a n) is zs =
    λ i. size_by
    ((greatest-mapped (λ (c : Formal Cell). (terms_size c.terms).letters) (λ c. formal p (quote_chain a c)) zs
    ∙ greatest-same (λ c. (terms_size (quote_chain a c)).letters) (λ c. (chain_size a c).letters) (λ c. ap (λ s. s.letters) (chain_agrees a is c)) zs) i)
    ((greatest-mapped (λ (c : Formal Cell). (terms_size c.terms).integer) (λ c. formal p (quote_chain a c)) zs
    ∙ greatest-same (λ c. (terms_size (quote_chain a c)).integer) (λ c. (chain_size a c).integer) (λ c. ap (λ s. s.integer) (chain_agrees a is c)) zs) i)
    (max (length-mapped (λ c. formal p (quote_chain a c)) zs i)
    ((greatest-mapped (λ (c : Formal Cell). length c.terms) (λ c. formal p (quote_chain a c)) zs
    ∙ greatest-same (λ c. length (quote_chain a c)) (λ c. length c) (λ c. length-mapped {B = Cell × ℕ} (λ t. (quote_cell a t.0.0 t.0.1, t.1)) c) zs) i))
