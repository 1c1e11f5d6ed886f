-- The cells of a product and of a twisted product of two spaces: pairs of simplices of one degree without a common degeneracy (Eilenberg and
-- Zilber; May, Simplicial Objects in Algebraic Topology, chapter I).
use Rattle.std.proofs.Common.{◌≡◌, ℕ, zero, suc, ◌+◌, ◌-◌, ◌^◌, ◌<◌, ◌≤◌, Bool, true, false, ◌&&◌, ◌||◌, nat_lt, length, refl, sym, ◌∙◌, ap, subst, arith, true≢false}
use Rattle.std.specs.Prelude.{bit_and}
use Rattle.std.specs.Int.Bits.{and_lt}
use Rattle.std.proofs.lemmas.Cmp.{tied_itself, nat_cmp_total}
use Rattle.std.proofs.lemmas.Map.Lookups.{exact_unsigned}
use Rattle.std.proofs.lemmas.Nat.{pow_pos}
use Rattle.std.specs.Ordering.{ordering_then, nat_cmp, is_eq}
use Rattle.std.specs.declared.cmp.Ordering.{Ordering}
use Rattle.std.specs.declared.cmp.Ordering.TheVariants.{Less, Equal, Greater}
use Rattle.simp_ops.specs.Words.{IsWord}
use Rattle.simp_ops.specs.Bits.{bit, places, mask_word}
use Rattle.simp_ops.proofs.Numbers.{bit-and}
use Rattle.simp_ops.proofs.MaskWords.{mask_of, has-places, places-mask_of, places_told, bit-zero}
use Rattle.simp_ops.proofs.PlacesOf.{places_same, is_eq as is_eq_nat}
use Rattle.simp_ops.proofs.Squeezed.{and_left, and_right}
use Rattle.spaces.specs.Simplicial.{Simplicial, IsSimplicial, some_below, has_degeneracy, is_degenerate}
use Rattle.spaces.specs.Spaces.{Space, Plain, set_of}
use Rattle.spaces.specs.Orders.{mask, cell_of, dim_of, cell_cmp as typed_cmp, simplex_cmp as typed_simplex_cmp, pair_cmp, two_cmp, plain_cmp}
use Rattle.cells.specs.declared.cells.Cell.{Cell, out-Cell, out-roll-Cell}
use Rattle.cells.specs.declared.cells.Cell.TheVariants.{Pair, rolls-Pair}
use Rattle.cells.specs.declared.cells.Cell.TheOpen.{Cell-F}
use Rattle.cells.specs.declared.cells.Simplex.{Simplex}
use Rattle.cells.specs.Dim.{dim_of as cell_dim}
use Rattle.cells.specs.Order.{cell_cmp, simplex_cmp, kinds_cmp, kind_in}
use Rattle.cells.proofs.Dimensions.{dim-Pair}
use Rattle.cells.proofs.Compared.{cell_cmp-then, pairs}
use Rattle.term_lang.specs.Degenerated.{degenerated}
use Rattle.term_lang.specs.Forms.{cell_form, form}
use Rattle.term_lang.specs.Belongs.{is_cell, is_simplex, are_apart, IsSimplex}
use Rattle.term_lang.specs.Quote.{quote}
use Rattle.term_lang.specs.NormalForms.{HasNormalForms, HasNormalCells}
use Rattle.term_lang.proofs.CodeForms.{lt_is}
use Rattle.term_lang.proofs.RowCells.{eq_is}
use Rattle.normal_forms.proofs.Degeneracies.{none_below, all_fail}
use Rattle.normal_forms.proofs.WordsBefore.{Formed, formed, has_word, mask-before, dim-before, cell-before}
use Rattle.normal_forms.proofs.FormsOfCells.{IsExact, known, forms_of_cells}

-- ---- orders

first_equal : (o r : Ordering) → ordering_then o r ≡ Equal → o ≡ Equal
first_equal Less r e = absurd (true≢false (sym (ap is_eq e)))
first_equal Equal r e = refl
first_equal Greater r e = absurd (true≢false (sym (ap is_eq e)))

second_equal : (o r : Ordering) → ordering_then o r ≡ Equal → r ≡ Equal
second_equal Less r e = absurd (true≢false (sym (ap is_eq e)))
second_equal Equal r e = e
second_equal Greater r e = absurd (true≢false (sym (ap is_eq e)))

pub both_equal : (o r : Ordering) → o ≡ Equal → r ≡ Equal → ordering_then o r ≡ Equal
both_equal o r e f = λ i. ordering_then (e i) (f i)

-- ties that follow from ties may be looked at later
ties_later : (s p t q : Ordering) → (s ≡ Equal → p ≡ Equal) → (t ≡ Equal → q ≡ Equal)
    → ordering_then (ordering_then s p) (ordering_then t q) ≡ ordering_then (ordering_then s t) (ordering_then p q)
ties_later Less p t q f g = refl
ties_later Greater p t q f g = refl
ties_later Equal p t q f g = ap (λ o. ordering_then o (ordering_then t q)) (f refl) ∙ by t g ∙ sym (ap (λ o. ordering_then t (ordering_then o q)) (f refl))
  where
    by : (o : Ordering) → (o ≡ Equal → q ≡ Equal) → ordering_then o q ≡ ordering_then o q
    by o h = refl

-- ---- simplices of a space whose cells are known up to a degree

module _ (X : Space) (laws : IsSimplicial (set_of X)) (exact : IsExact X laws) (n : ℕ) where
  abbrev A : Simplicial (Plain X)
  A = set_of X

  -- simplices that are ordered as equal by masks and cells are one
  pub simplex_apart : (x y : Plain X) → A.In n x → A.In n y → typed_simplex_cmp A (typed_cmp X) n x y ≡ Equal → x ≡ y
  simplex_apart x y is js e = f.is ∙ (λ i. degenerated A (words i) (one_cell i)) ∙ sym g.is
    where
      f : Formed A laws n x
      f = formed A laws n x is

      g : Formed A laws n y
      g = formed A laws n y js

      mask_is : (z : Plain X) (h : Formed A laws n z) → mask A n z ≡ mask_of h.word
      mask_is z h = (λ i. mask A (h.degree i) (h.is i)) ∙ mask-before A laws h.dim h.word h.cell h.before

      dim_is : (z : Plain X) (h : Formed A laws n z) → dim_of A n z ≡ h.dim
      dim_is z h = (λ i. dim_of A (h.degree i) (h.is i)) ∙ dim-before A laws h.dim h.word h.cell h.before

      cell_is : (z : Plain X) (h : Formed A laws n z) → cell_of A n z ≡ h.cell
      cell_is z h = (λ i. cell_of A (h.degree i) (h.is i)) ∙ cell-before A laws h.dim h.word h.cell h.before

      back : (z : Plain X) (h : Formed A laws n z) → places n (bit (mask_of h.word)) ≡ h.word
      back z h = places-mask_of n h.word (subst (λ k. IsWord k h.word) (sym h.degree) h.before.word)

      masks : mask_of f.word ≡ mask_of g.word
      masks =
          sym (mask_is x f)
          ∙ exact_unsigned (mask A n x) (mask A n y) (first_equal (nat_cmp (mask A n x) (mask A n y)) (typed_cmp X (dim_of A n x) (cell_of A n x) (cell_of A n y)) e)
          ∙ mask_is y g

      words : f.word ≡ g.word
      words = sym (back x f) ∙ ap (λ m. places n (bit m)) masks ∙ back y g

      dims : g.dim ≡ f.dim
      dims =
          let d : n ≡ f.dim + length f.word = f.degree in
          let c : n ≡ g.dim + length g.word = g.degree in
          let l : length f.word ≡ length g.word = ap length words in
          omega (arith, d, c, l)

      equal : typed_cmp X f.dim f.cell g.cell ≡ Equal
      equal =
          sym (λ i. typed_cmp X (dim_is x f i) (cell_is x f i) (cell_is y g i))
          ∙ second_equal (nat_cmp (mask A n x) (mask A n y)) (typed_cmp X (dim_of A n x) (cell_of A n x) (cell_of A n y)) e

      one_cell : f.cell ≡ g.cell
      one_cell =
          exact.apart f.dim f.cell g.cell f.before.is_in (subst (λ m. A.In m g.cell) dims g.before.is_in) f.before.bare
          (ap (λ m. is_degenerate A m g.cell) (sym dims) ∙ g.before.bare) equal

  -- so are they where the order of the code calls them equal
  pub tied : (x y : Plain X) → A.In n x → A.In n y → typed_simplex_cmp A (typed_cmp X) n x y ≡ Equal → plain_cmp X x y ≡ Equal
  tied x y is js e = ap (plain_cmp X x) (sym (simplex_apart x y is js e)) ∙ exact.alike x

module _ (X : Space) (laws : IsSimplicial (set_of X)) (exact : IsExact X laws) (n : ℕ) (most : n ≤ 32) (cells : (m : ℕ) → m ≤ n → HasNormalCells X m) where
  pub forms : HasNormalForms X n
  forms = forms_of_cells X laws n most cells exact

  -- the degeneracies of a simplex are the places of its mask
  pub has_form : (x : Simplex) → IsSimplex X n x → (j : ℕ) → j < n → has_degeneracy (set_of X) j (form x X) ≡ bit x.degens.mask j
  has_form x h j l =
      let k = known X laws n most cells x h in
      has_word (set_of X) laws k.dim j (mask_word x.degens.mask) (cell_form x.cell X) k.before (subst (λ m. j < m) k.degree l)
      ∙ has-places 32 j (bit x.degens.mask) (omega (arith, l, most))

-- ---- pairs

-- pairs that are ordered as equal are one
pub pair_apart : (a b : Space) (la : IsSimplicial (set_of a)) (lb : IsSimplicial (set_of b)) → IsExact a la → IsExact b lb → (n : ℕ) (z w : Plain a × Plain b)
    → (set_of a).In n z.0 → (set_of b).In n z.1 → (set_of a).In n w.0 → (set_of b).In n w.1 → pair_cmp (set_of a) (typed_cmp a) (set_of b) (typed_cmp b) n z w ≡ Equal → z ≡ w
pair_apart a b la lb ea eb n z w h k g l e =
    let s = typed_simplex_cmp (set_of a) (typed_cmp a) n z.0 w.0 in
    let t = typed_simplex_cmp (set_of b) (typed_cmp b) n z.1 w.1 in
    let p = simplex_apart a la ea n z.0 w.0 h g (first_equal s t e) in
    let q = simplex_apart b lb eb n z.1 w.1 k l (second_equal s t e) in
    λ i. (p i, q i)

-- no place in both masks
pub no_bits : (n a b : ℕ) → n ≤ 32 → a < 2 ^ n → b < 2 ^ n → ((j : ℕ) → j < n → bit a j && bit b j ≡ false) → bit_and a b ≡ 0
no_bits n a b most l m f =
    let k : bit_and a b < 2 ^ n = and_lt n a b l m in
    places_told n (bit_and a b) 0 k (pow_pos n) (places_same n (bit (bit_and a b)) (bit 0) (λ j h. bit-and a b j ∙ f j h ∙ sym (bit-zero j)))

bits_apart : (a b j : ℕ) → bit_and a b ≡ 0 → bit a j && bit b j ≡ false
bits_apart a b j e = sym (bit-and a b j) ∙ ap (λ m. bit m j) e ∙ bit-zero j

pub some_same : (n : ℕ) (t u : ℕ → Bool) → ((j : ℕ) → j < n → t j ≡ u j) → some_below n t ≡ some_below n u
some_same zero t u f = refl
some_same (suc n) t u f = λ i. some_same n t u (λ j l. f j (omega (arith, l))) i || f n (omega arith) i

module _ (a b : Space) (la : IsSimplicial (set_of a)) (lb : IsSimplicial (set_of b)) (ea : IsExact a la) (eb : IsExact b lb)
    (n : ℕ) (most : n ≤ 32) (ca : (m : ℕ) → m ≤ n → HasNormalCells a m) (cb : (m : ℕ) → m ≤ n → HasNormalCells b m) where
  abbrev L : Simplicial (Plain a)
  L = set_of a

  abbrev R : Simplicial (Plain b)
  R = set_of b

  abbrev fa : HasNormalForms a n
  fa = forms a la ea n most ca

  abbrev fb : HasNormalForms b n
  fb = forms b lb eb n most cb

  -- both parts have the degeneracy j
  abbrev pub both_have : Plain a × Plain b → ℕ → Bool
  both_have z j = has_degeneracy L j z.0 && has_degeneracy R j z.1

  -- a pair of the code
  pub record IsPairCell (c : Cell) : Type 0 where
    pub left : Simplex
    pub right : Simplex
    pub is : c ≡ Pair left right
    pub left_simplex : IsSimplex a n left
    pub right_simplex : IsSimplex b n right
    pub apart : bit_and left.degens.mask right.degens.mask ≡ 0

  pub pair_parts : (x y : Simplex) → (is_simplex x a n && is_simplex y b n && are_apart x y) ≡ true → IsPairCell (Pair x y)
  pair_parts x y h =
      let p = and_left (is_simplex x a n && is_simplex y b n) (are_apart x y) h in
      record {
        left = x;
        right = y;
        is = refl;
        left_simplex = and_left (is_simplex x a n) (is_simplex y b n) p;
        right_simplex = and_right (is_simplex x a n) (is_simplex y b n) p;
        apart = eq_is (bit_and x.degens.mask y.degens.mask) 0 (and_right (is_simplex x a n && is_simplex y b n) (are_apart x y) h);
      }

  pub pair_is : (x y : Simplex) → IsSimplex a n x → IsSimplex b n y → bit_and x.degens.mask y.degens.mask ≡ 0
      → (is_simplex x a n && is_simplex y b n && are_apart x y) ≡ true
  pair_is x y h k e = λ i. h i && k i && is_zero e i
    where
      is_zero : bit_and x.degens.mask y.degens.mask ≡ 0 → are_apart x y ≡ true
      is_zero q = is_eq_nat (bit_and x.degens.mask y.degens.mask) 0 q

  -- what the pair stands for
  abbrev pub pair_form : Simplex → Simplex → Plain a × Plain b
  pair_form x y = (form x a, form y b)

  abbrev pub pair_quote : Plain a × Plain b → Cell
  pair_quote z = Pair (quote a n z.0) (quote b n z.1)

  pub dimension : (c : Cell) → IsPairCell c → cell_dim c ≡ n
  dimension c h = ap cell_dim h.is ∙ dim-Pair h.left h.right ∙ fa.degree h.left h.left_simplex

  pub form_in : (c : Cell) (h : IsPairCell c) → L.In n (form h.left a) × R.In n (form h.right b)
  form_in c h = (fa.simplex h.left h.left_simplex, fb.simplex h.right h.right_simplex)

  pub form_bare : (c : Cell) (h : IsPairCell c) → some_below n (both_have (pair_form h.left h.right)) ≡ false
  form_bare c h =
      all_fail n (both_have (pair_form h.left h.right))
      (λ j l. (λ i. has_form a la ea n most ca h.left h.left_simplex j l i && has_form b lb eb n most cb h.right h.right_simplex j l i)
      ∙ bits_apart h.left.degens.mask h.right.degens.mask j h.apart)

  pub quoted_back : (c : Cell) (h : IsPairCell c) → pair_quote (pair_form h.left h.right) ≡ c
  quoted_back c h = (λ i. Pair (fa.quoted h.left h.left_simplex i) (fb.quoted h.right h.right_simplex i)) ∙ sym h.is

  pub formed_back : (z : Plain a × Plain b) → L.In n z.0 → R.In n z.1 → pair_form (quote a n z.0) (quote b n z.1) ≡ z
  formed_back z h k = λ i. (fa.formed z.0 h i, fb.formed z.1 k i)

  -- a pair without common degeneracies is a cell of the code
  pub quoted_pair : (z : Plain a × Plain b) → L.In n z.0 → R.In n z.1 → some_below n (both_have z) ≡ false → IsPairCell (pair_quote z)
  quoted_pair z h k bare = record {
    left = quote a n z.0;
    right = quote b n z.1;
    is = refl;
    left_simplex = x;
    right_simplex = y;
    apart = no_bits n (quote a n z.0).degens.mask (quote b n z.1).degens.mask most (below a (quote a n z.0) x) (below b (quote b n z.1) y) none;
  }
    where
      x : IsSimplex a n (quote a n z.0)
      x = fa.onto z.0 h

      y : IsSimplex b n (quote b n z.1)
      y = fb.onto z.1 k

      below : (X : Space) (w : Simplex) → IsSimplex X n w → w.degens.mask < 2 ^ n
      below X w s = lt_is w.degens.mask (2 ^ n) (and_left (nat_lt w.degens.mask (2 ^ n)) (is_cell w.cell X (n - length (mask_word w.degens.mask))) s)

      none : (j : ℕ) → j < n → bit (quote a n z.0).degens.mask j && bit (quote b n z.1).degens.mask j ≡ false
      none j l =
          sym (λ i. has_form a la ea n most ca (quote a n z.0) x j l i && has_form b lb eb n most cb (quote b n z.1) y j l i)
          ∙ (λ i. has_degeneracy L j (fa.formed z.0 h i) && has_degeneracy R j (fb.formed z.1 k i)) ∙ none_below n (both_have z) bare j l

  -- ---- the order

  kind-Pair : (x y : Simplex) → kind_in (out-Cell (Pair x y)) ≡ 3
  kind-Pair x y = ap kind_in (ap out-Cell (sym (rolls-Pair x y)) ∙ out-roll-Cell (Cell-F.Pair x y))

  cmp-Pair : (x y v w : Simplex) → cell_dim (Pair x y) ≡ cell_dim (Pair v w) → cell_cmp (Pair x y) (Pair v w) ≡ ordering_then (simplex_cmp x v) (simplex_cmp y w)
  cmp-Pair x y v w e =
      let kinds : kinds_cmp (Pair x y) (Pair v w) ≡ Equal =
      (λ i. ordering_then (nat_cmp (e i) (cell_dim (Pair v w))) (nat_cmp (kind-Pair x y i) (kind-Pair v w i)))
      ∙ ap (λ o. ordering_then o (nat_cmp 3 3)) (tied_itself nat_cmp_total (cell_dim (Pair v w))) ∙ tied_itself nat_cmp_total 3 in
      cell_cmp-then (Pair x y) (Pair v w) ∙ (λ i. ordering_then (kinds i) (pairs x y v w i))

  abbrev pub pairs_by : Plain a × Plain b → Plain a × Plain b → Ordering
  pairs_by = pair_cmp L (typed_cmp a) R (typed_cmp b) n

  pub in_order : (c d : Cell) (h : IsPairCell c) (k : IsPairCell d)
      → cell_cmp c d ≡ ordering_then (pairs_by (pair_form h.left h.right) (pair_form k.left k.right)) (two_cmp (plain_cmp a) (plain_cmp b) (pair_form h.left h.right) (pair_form k.left k.right))
  in_order c d h k =
      (λ i. cell_cmp (h.is i) (k.is i))
      ∙ cmp-Pair h.left h.right k.left k.right (ap cell_dim (sym h.is) ∙ dimension c h ∙ sym (ap cell_dim (sym k.is) ∙ dimension d k))
      ∙ (λ i. ordering_then (fa.in_order h.left k.left h.left_simplex k.left_simplex i) (fb.in_order h.right k.right h.right_simplex k.right_simplex i))
      ∙ ties_later (typed_simplex_cmp L (typed_cmp a) n (form h.left a) (form k.left a)) (plain_cmp a (form h.left a) (form k.left a))
      (typed_simplex_cmp R (typed_cmp b) n (form h.right b) (form k.right b)) (plain_cmp b (form h.right b) (form k.right b))
      (tied a la ea n (form h.left a) (form k.left a) (form_in c h).0 (form_in d k).0)
      (tied b lb eb n (form h.right b) (form k.right b) (form_in c h).1 (form_in d k).1)
