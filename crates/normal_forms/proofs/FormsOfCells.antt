-- What holds of the cells of a space and its non-degenerate simplices holds of the words of degeneracies before cells and all simplices
-- (Eilenberg and Zilber; May, Simplicial Objects in Algebraic Topology, chapter I).
use Rattle.std.proofs.Common.{◌≡◌, ℕ, ◌+◌, ◌-◌, ◌%◌, ◌^◌, ◌<◌, ◌≤◌, true, false, nat_lt, ◌&&◌, ◌⊎◌, inl, inr, List, [], length, refl, sym, ◌∙◌, ap, subst, arith, true≢false, count_ones}
use Rattle.std.specs.Prelude.{◌↔◌}
use Rattle.std.proofs.lemmas.Bool.{cases_lt}
use Rattle.std.proofs.lemmas.Nat.{pow_pos}
use Rattle.std.proofs.lemmas.Map.Lookups.{exact_unsigned}
use Rattle.std.proofs.Math.Nat.{mod-eq_of_lt}
use Rattle.std.specs.Ordering.{ordering_then, nat_cmp}
use Rattle.std.specs.declared.cmp.Ordering.{Ordering}
use Rattle.std.specs.declared.cmp.Ordering.TheVariants.{Less, Equal, Greater}
use Rattle.simp_ops.specs.Words.{IsWord}
use Rattle.simp_ops.specs.Bits.{mask_word}
use Rattle.simp_ops.proofs.PlacesOf.{word_below, is_lt}
use Rattle.simp_ops.proofs.Squeezed.{and_left, and_right}
use Rattle.simp_ops.proofs.MaskWords.{mask_of, mask_of-lt, places_told, places-none}
use Rattle.spaces.specs.Simplicial.{Simplicial, IsSimplicial, is_degenerate}
use Rattle.spaces.specs.Spaces.{Space, Plain, set_of}
use Rattle.spaces.specs.Orders.{mask, cell_of, dim_of, cell_cmp as typed_cmp, plain_cmp, ordered}
use Rattle.spaces.proofs.WordLaws.{word_length}
use Rattle.cells.specs.declared.cells.Cell.{Cell}
use Rattle.cells.specs.declared.cells.Simplex.{Simplex}
use Rattle.cells.specs.Dim.{dim_of as cell_dim, degree_of}
use Rattle.cells.specs.Order.{cell_cmp, simplex_cmp}
use Rattle.cells.proofs.Compared.{simplex_cmp-then}
use Rattle.cells.proofs.OneKey.{one_cell}
use Rattle.term_lang.specs.Degenerated.{degenerated}
use Rattle.term_lang.specs.Forms.{cell_form, form}
use Rattle.term_lang.specs.Belongs.{is_cell, IsCell, IsSimplex}
use Rattle.term_lang.specs.Quote.{degens_of, quote_cell, quote}
use Rattle.term_lang.specs.NormalForms.{HasNormalForms, HasNormalCells}
use Rattle.term_lang.proofs.CodeForms.{lt_is, word_of_mask, mask_back, word_back, degens_back, count_ones-mask}
use Rattle.normal_forms.proofs.WordsBefore.{Before, before_in, mask-before, dim-before, cell-before, word-degenerate, formed}

-- ---- how two orders of simplices agree

rest_then : (p z : Ordering) → (p ≡ Equal → z ≡ Equal) → p ≡ ordering_then p z
rest_then Less z g = refl
rest_then Equal z g = sym (g refl)
rest_then Greater z g = refl

settle : (o c p z : Ordering) → (o ≡ Equal → c ≡ p) → (o ≡ Equal → p ≡ Equal → z ≡ Equal) → ordering_then o c ≡ ordering_then (ordering_then o p) z
settle Less c p z f g = refl
settle Equal c p z f g = f refl ∙ rest_then p z (g refl)
settle Greater c p z f g = refl

module _ (X : Space) (laws : IsSimplicial (set_of X)) where
  abbrev A : Simplicial (Plain X)
  A = set_of X

  -- the order of the plain forms
  pub record IsExact : Type 0 where
    -- each form is equal to itself
    pub alike : (y : Plain X) → plain_cmp X y y ≡ Equal
    -- and cells that are ordered as equal are one
    pub apart : (n : ℕ) (x y : Plain X) → A.In n x → A.In n y → is_degenerate A n x ≡ false → is_degenerate A n y ≡ false → typed_cmp X n x y ≡ Equal → x ≡ y

  -- a simplex that is not degenerate, as one before which the empty word stands
  bare : (n : ℕ) (y : Plain X) → A.In n y → is_degenerate A n y ≡ false → Before A laws n [] y
  bare n y is h = record { is_in = is; bare = h; word = tt }

  pub bare-order : (n : ℕ) (x y : Plain X) → A.In n x → A.In n y → is_degenerate A n x ≡ false → is_degenerate A n y ≡ false
      → (ordered X).cmp n x y ≡ ordering_then (typed_cmp X n x y) (plain_cmp X x y)
  bare-order n x y is js h k =
      let e : n ≡ n + 0 = omega arith in
      let none : mask_of [] ≡ 0 = (let l : mask_of [] < 2 ^ 0 = mask_of-lt 0 [] tt in omega (arith, l)) in
      let p : (z : Plain X) → A.In n z → is_degenerate A n z ≡ false → mask A n z ≡ 0 =
      (λ z iz hz. ap (λ m. mask A m z) e ∙ mask-before A laws n [] z (bare n z iz hz) ∙ none) in
      let d : dim_of A n x ≡ n = ap (λ m. dim_of A m x) e ∙ dim-before A laws n [] x (bare n x is h) in
      let q : (z : Plain X) → A.In n z → is_degenerate A n z ≡ false → cell_of A n z ≡ z =
      (λ z iz hz. ap (λ m. cell_of A m z) e ∙ cell-before A laws n [] z (bare n z iz hz)) in
      λ i. ordering_then (ordering_then (nat_cmp (p x is h i) (p y js k i)) (typed_cmp X (d i) (q x is h i) (q y js k i))) (plain_cmp X x y)

  module _ (n : ℕ) (most : n ≤ 32) (cells : (m : ℕ) → m ≤ n → HasNormalCells X m) where
    -- a simplex of the code: its cell, of the dimension that is left, behind its word
    pub record Known (x : Simplex) : Type 0 where
      pub dim : ℕ
      pub low : dim ≤ n
      pub mask : x.degens.mask < 2 ^ n
      pub degree : n ≡ dim + length (mask_word x.degens.mask)
      pub cell : IsCell X dim x.cell
      pub before : Before A laws dim (mask_word x.degens.mask) (cell_form x.cell X)

    pub known : (x : Simplex) → IsSimplex X n x → Known x
    known x h =
        let w = mask_word x.degens.mask in
        let m : x.degens.mask < 2 ^ n = lt_is x.degens.mask (2 ^ n) (and_left (nat_lt x.degens.mask (2 ^ n)) (is_cell x.cell X (n - length w)) h) in
        let word : IsWord n w = word_of_mask n x.degens.mask m in
        let short : length w ≤ n = word_length n w word in
        let e : n ≡ n - length w + length w = omega (arith, short) in
        let l : n - length w ≤ n = omega arith in
        let c : IsCell X (n - length w) x.cell = and_right (nat_lt x.degens.mask (2 ^ n)) (is_cell x.cell X (n - length w)) h in
        record {
          dim = n - length w;
          low = l;
          mask = m;
          degree = e;
          cell = c;
          before = record {
            is_in = (cells (n - length w) l).simplex x.cell c;
            bare = (cells (n - length w) l).not_degenerate x.cell c;
            word = subst (λ k. IsWord k w) e word;
          };
        }

    -- what a word before a cell is quoted as
    quote-before : (m : ℕ) (w : List ℕ) (c : Plain X) → n ≡ m + length w → Before A laws m w c
        → quote X n (degenerated A w c) ≡ record { degens = degens_of (mask_of w); cell = quote_cell X m c }
    quote-before m w c e b =
        let y : Plain X = degenerated A w c in
        let p : mask A n y ≡ mask_of w = ap (λ k. mask A k y) e ∙ mask-before A laws m w c b in
        let d : dim_of A n y ≡ m = ap (λ k. dim_of A k y) e ∙ dim-before A laws m w c b in
        let q : cell_of A n y ≡ c = ap (λ k. cell_of A k y) e ∙ cell-before A laws m w c b in
        λ i. record { degens = degens_of (p i); cell = quote_cell X (d i) (q i) }

    code_degree : (x : Simplex) → IsSimplex X n x → degree_of x ≡ n
    code_degree x h =
        let k = known x h in
        let d : cell_dim x.cell ≡ k.dim = (cells k.dim k.low).dimension x.cell k.cell in
        let b : count_ones x.degens.mask ≡ length (mask_word x.degens.mask) = count_ones-mask x.degens.mask x.degens.below_32 in
        let e : n ≡ k.dim + length (mask_word x.degens.mask) = k.degree in
        omega (arith, d, b, e)

    code_simplex : (x : Simplex) → IsSimplex X n x → A.In n (form x X)
    code_simplex x h =
        let k = known x h in
        subst (λ m. A.In m (form x X)) (sym k.degree) (before_in A laws k.dim (mask_word x.degens.mask) (cell_form x.cell X) k.before)

    code_quoted : (x : Simplex) → IsSimplex X n x → quote X n (form x X) ≡ x
    code_quoted x h =
        let k = known x h in
        quote-before k.dim (mask_word x.degens.mask) (cell_form x.cell X) k.degree k.before
        ∙ (λ i. record { degens = degens_back x.degens i; cell = (cells k.dim k.low).quoted x.cell k.cell i })

    code_once : (x y : Simplex) → IsSimplex X n x → IsSimplex X n y → form x X ≡ form y X → x ≡ y
    code_once x y h l e = sym (code_quoted x h) ∙ ap (quote X n) e ∙ code_quoted y l

    -- a plain simplex in its form
    record Shown (y : Plain X) : Type 0 where
      word : List ℕ
      dim : ℕ
      low : dim ≤ n
      below : IsWord n word
      left : n - length word ≡ dim
      quoted : quote X n y ≡ record { degens = degens_of (mask_of word); cell = quote_cell X dim (cell_of A n y) }
      cell : IsCell X dim (quote_cell X dim (cell_of A n y))
      back : y ≡ degenerated A word (cell_form (quote_cell X dim (cell_of A n y)) X)

    shown : (y : Plain X) → A.In n y → Shown y
    shown y is =
        let f = formed A laws n y is in
        let e : n ≡ f.dim + length f.word = f.degree in
        let l : f.dim ≤ n = omega (arith, e) in
        let q : cell_of A n y ≡ f.cell = (λ i. cell_of A (e i) (f.is i)) ∙ cell-before A laws f.dim f.word f.cell f.before in
        record {
          word = f.word;
          dim = f.dim;
          low = l;
          below = subst (λ k. IsWord k f.word) (sym e) f.before.word;
          left = omega (arith, e);
          quoted = ap (quote X n) f.is ∙ quote-before f.dim f.word f.cell e f.before ∙ (λ i. record { degens = degens_of (mask_of f.word); cell = quote_cell X f.dim (sym q i) });
          cell = subst (λ c. IsCell X f.dim (quote_cell X f.dim c)) (sym q) ((cells f.dim l).onto f.cell f.before.is_in f.before.bare);
          back =
              f.is ∙ ap (degenerated A f.word) (sym ((cells f.dim l).formed f.cell f.before.is_in f.before.bare))
              ∙ ap (λ c. degenerated A f.word (cell_form (quote_cell X f.dim c) X)) (sym q);
        }

    code_onto : (y : Plain X) → A.In n y → IsSimplex X n (quote X n y)
    code_onto y is =
        let s = shown y is in
        let c : Cell = quote_cell X s.dim (cell_of A n y) in
        let m : mask_of s.word % 2 ^ 32 < 2 ^ n =
        subst (λ k. k < 2 ^ n) (sym (mod-eq_of_lt (mask_of-lt 32 s.word (word_below n 32 s.word most s.below)))) (mask_of-lt n s.word s.below) in
        let d : n - length (mask_word (mask_of s.word % 2 ^ 32)) ≡ s.dim = ap (λ w. n - length w) (word_back n s.word most s.below) ∙ s.left in
        subst (IsSimplex X n) (sym s.quoted) ((λ i. is_lt (mask_of s.word % 2 ^ 32) (2 ^ n) m i && is_cell c X (d i)) ∙ s.cell)

    code_formed : (y : Plain X) → A.In n y → form (quote X n y) X ≡ y
    code_formed y is =
        let s = shown y is in
        ap (λ x. form x X) s.quoted ∙ ap (λ w. degenerated A w (cell_form (quote_cell X s.dim (cell_of A n y)) X)) (word_back n s.word most s.below) ∙ sym s.back

    code_degenerate : (x : Simplex) → IsSimplex X n x → (is_degenerate A n (form x X) ≡ true) ↔ (0 < x.degens.mask)
    code_degenerate x h = (above, below)
      where
        k : Known x
        k = known x h

        w : List ℕ
        w = mask_word x.degens.mask

        above : is_degenerate A n (form x X) ≡ true → 0 < x.degens.mask
        above d = by (cases_lt 0 x.degens.mask)
          where
            by : (0 < x.degens.mask) ⊎ (x.degens.mask ≤ 0) → 0 < x.degens.mask
            by (inl g) = g
            by (inr g) =
                let z : x.degens.mask ≡ 0 = omega (arith, g) in
                let none : w ≡ [] = ap mask_word z ∙ places-none 32 in
                let e : n ≡ k.dim = (let f : n ≡ k.dim + length w = k.degree in let zero_length : length w ≡ 0 = ap length none in omega (arith, f, zero_length)) in
                absurd (true≢false (sym d ∙ (λ i. is_degenerate A (e i) (degenerated A (none i) (cell_form x.cell X))) ∙ k.before.bare))

        below : 0 < x.degens.mask → is_degenerate A n (form x X) ≡ true
        below g =
            ap (λ m. is_degenerate A m (form x X)) k.degree
            ∙ word-degenerate A laws k.dim w (cell_form x.cell X) k.before
            (λ e. let z : x.degens.mask ≡ 0 = places_told 32 x.degens.mask 0 x.degens.below_32 (pow_pos 32) (e ∙ sym (places-none 32)) in omega (arith, z, g))

    -- the order of the code is that of the space
    code_in_order : IsExact → (x y : Simplex) → IsSimplex X n x → IsSimplex X n y → simplex_cmp x y ≡ (ordered X).cmp n (form x X) (form y X)
    code_in_order exact x y h l =
        simplex_cmp-then x y
        ∙ settle (nat_cmp x.degens.mask y.degens.mask) (cell_cmp x.cell y.cell) (typed_cmp X a.dim (cell_form x.cell X) (cell_form y.cell X)) (plain_cmp X (form x X) (form y X)) same ties
        ∙ sym at
      where
        a : Known x
        a = known x h

        b : Known y
        b = known y l

        masks : nat_cmp x.degens.mask y.degens.mask ≡ Equal → x.degens.mask ≡ y.degens.mask
        masks e = exact_unsigned x.degens.mask y.degens.mask e

        -- the cells of simplices with one mask have one dimension
        dims : x.degens.mask ≡ y.degens.mask → b.dim ≡ a.dim
        dims e =
            let d : n ≡ a.dim + length (mask_word x.degens.mask) = a.degree in
            let f : n ≡ b.dim + length (mask_word y.degens.mask) = b.degree in
            let g : length (mask_word x.degens.mask) ≡ length (mask_word y.degens.mask) = ap (λ m. length (mask_word m)) e in
            omega (arith, d, f, g)

        same_at : b.dim ≡ a.dim → cell_cmp x.cell y.cell ≡ typed_cmp X a.dim (cell_form x.cell X) (cell_form y.cell X)
        same_at e =
            let all = cells a.dim a.low in
            let d : IsCell X a.dim y.cell = subst (λ m. IsCell X m y.cell) e b.cell in
            let ix : A.In a.dim (cell_form x.cell X) = all.simplex x.cell a.cell in
            let iy : A.In a.dim (cell_form y.cell X) = all.simplex y.cell d in
            let hx : is_degenerate A a.dim (cell_form x.cell X) ≡ false = all.not_degenerate x.cell a.cell in
            let hy : is_degenerate A a.dim (cell_form y.cell X) ≡ false = all.not_degenerate y.cell d in
            all.in_order x.cell y.cell a.cell d
            ∙ bare-order a.dim (cell_form x.cell X) (cell_form y.cell X) ix iy hx hy
            ∙ sym (rest_then (typed_cmp X a.dim (cell_form x.cell X) (cell_form y.cell X)) (plain_cmp X (cell_form x.cell X) (cell_form y.cell X))
            (λ q. ap (plain_cmp X (cell_form x.cell X)) (sym (exact.apart a.dim (cell_form x.cell X) (cell_form y.cell X) ix iy hx hy q)) ∙ exact.alike (cell_form x.cell X)))

        same : nat_cmp x.degens.mask y.degens.mask ≡ Equal → cell_cmp x.cell y.cell ≡ typed_cmp X a.dim (cell_form x.cell X) (cell_form y.cell X)
        same e = same_at (dims (masks e))

        ties : nat_cmp x.degens.mask y.degens.mask ≡ Equal → typed_cmp X a.dim (cell_form x.cell X) (cell_form y.cell X) ≡ Equal → plain_cmp X (form x X) (form y X) ≡ Equal
        ties e q =
            let c : x.cell ≡ y.cell = one_cell x.cell y.cell (same e ∙ q) in
            let f : form x X ≡ form y X = (λ i. degenerated A (mask_word (masks e i)) (cell_form (c i) X)) in
            ap (plain_cmp X (form x X)) (sym f) ∙ exact.alike (form x X)

        mask_is : (z : Simplex) → Known z → mask A n (form z X) ≡ z.degens.mask
        mask_is z k =
            ap (λ m. mask A m (form z X)) k.degree ∙ mask-before A laws k.dim (mask_word z.degens.mask) (cell_form z.cell X) k.before ∙ mask_back z.degens.mask z.degens.below_32

        cell_is : (z : Simplex) → Known z → cell_of A n (form z X) ≡ cell_form z.cell X
        cell_is z k = ap (λ m. cell_of A m (form z X)) k.degree ∙ cell-before A laws k.dim (mask_word z.degens.mask) (cell_form z.cell X) k.before

        at : (ordered X).cmp n (form x X) (form y X)
            ≡ ordering_then (ordering_then (nat_cmp x.degens.mask y.degens.mask) (typed_cmp X a.dim (cell_form x.cell X) (cell_form y.cell X))) (plain_cmp X (form x X) (form y X))
        at =
            let d : dim_of A n (form x X) ≡ a.dim =
            ap (λ m. dim_of A m (form x X)) a.degree ∙ dim-before A laws a.dim (mask_word x.degens.mask) (cell_form x.cell X) a.before in
            λ i. ordering_then (ordering_then (nat_cmp (mask_is x a i) (mask_is y b i)) (typed_cmp X (d i) (cell_is x a i) (cell_is y b i))) (plain_cmp X (form x X) (form y X))

    pub forms_of_cells : IsExact → HasNormalForms X n
    forms_of_cells exact = record {
      degree = code_degree;
      simplex = code_simplex;
      once = code_once;
      onto = code_onto;
      degenerate = code_degenerate;
      quoted = code_quoted;
      formed = code_formed;
      in_order = code_in_order exact;
    }
