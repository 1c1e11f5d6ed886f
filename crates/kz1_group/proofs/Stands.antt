-- Normal forms of the code for a space whose cells stand for its simplices that are not degenerate: then its simplices stand for all.
use Rattle.std.proofs.Common.{◌≡◌, ℕ, ◌+◌, ◌-◌, ◌%◌, ◌^◌, ◌<◌, ◌≤◌, true, nat_lt, ◌&&◌, List, length, refl, sym, ◌∙◌, ap, subst, arith, ◌⊎◌, inl, inr}
use Rattle.std.proofs.lemmas.Bool.{cases_lt}
use Rattle.std.proofs.lemmas.Nat.{pow_pos}
use Rattle.std.proofs.lemmas.Map.Lookups.{exact_unsigned}
use Rattle.std.proofs.Math.Nat.{mod-eq_of_lt}
use Rattle.std.specs.Ordering.{ordering_then, nat_cmp}
use Rattle.std.specs.declared.cmp.Ordering.{Ordering}
use Rattle.std.specs.declared.cmp.Ordering.TheVariants.{Less, Equal, Greater}
use Rattle.simp_ops.specs.Words.{IsWord}
use Rattle.simp_ops.specs.Bits.{mask_word}
use Rattle.simp_ops.proofs.PlacesOf.{word_below, places_word, is_lt}
use Rattle.simp_ops.proofs.Squeezed.{and_left, and_right}
use Rattle.simp_ops.proofs.MaskWords.{mask_of, mask_of-lt, places_told, places-none}
use Rattle.spaces.specs.Simplicial.{IsSimplicial, is_degenerate}
use Rattle.spaces.specs.Spaces.{Space, Plain, set_of}
use Rattle.spaces.specs.Orders.{mask, cell_of, dim_of, ordered, plain_cmp, cell_cmp as typed_cmp}
use Rattle.spaces.proofs.WordLaws.{word_length}
use Rattle.cells.specs.declared.cells.Cell.{Cell}
use Rattle.cells.specs.declared.cells.Simplex.{Simplex}
use Rattle.cells.specs.Dim.{dim_of as cell_dim, degree_of}
use Rattle.cells.specs.Order.{cell_cmp, simplex_cmp}
use Rattle.cells.proofs.Compared.{simplex_cmp-then}
use Rattle.term_lang.specs.Degenerated.{degenerated}
use Rattle.term_lang.specs.Forms.{cell_form, form}
use Rattle.term_lang.specs.Belongs.{is_cell, IsCell, IsSimplex}
use Rattle.term_lang.specs.Quote.{degens_of, quote_cell, quote}
use Rattle.term_lang.specs.NormalForms.{HasNormalForms}
use Rattle.term_lang.proofs.CodeForms.{word_of_mask, word_back, mask_back, degens_back, count_ones-mask, lt_is}
use Rattle.term_lang.proofs.WordsAct.{degenerated_in}
use Rattle.kz1_group.proofs.Places.{degeneracies, word, mask-word, dim-word, word-degenerated, cell-degenerated, rebuilt, Bare, bare_cell, some_none, some_so}

-- ---- how two orders of simplices agree

rest_then : (p z : Ordering) → (p ≡ Equal → z ≡ Equal) → p ≡ ordering_then p z
rest_then Less z g = refl
rest_then Equal z g = sym (g refl)
rest_then Greater z g = refl

settle : (o c p z : Ordering) → (o ≡ Equal → c ≡ p) → (o ≡ Equal → p ≡ Equal → z ≡ Equal) → ordering_then o c ≡ ordering_then (ordering_then o p) z
settle Less c p z f g = refl
settle Equal c p z f g = f refl ∙ rest_then p z (g refl)
settle Greater c p z f g = refl

module _ (X : Space) where
  -- cells of dimension m stand for the simplices of degree m that have no degeneracy
  pub record StandForBare (m : ℕ) : Type 0 where
    pub dimension : (c : Cell) → m ≤ 32 → IsCell X m c → cell_dim c ≡ m
    pub bare : (c : Cell) → IsCell X m c → Bare (set_of X) m (cell_form c X)
    pub quoted : (c : Cell) → IsCell X m c → quote_cell X m (cell_form c X) ≡ c
    pub onto : (y : Plain X) → Bare (set_of X) m y → IsCell X m (quote_cell X m y)
    pub formed : (y : Plain X) → Bare (set_of X) m y → cell_form (quote_cell X m y) X ≡ y
    pub in_order : (c d : Cell) → IsCell X m c → IsCell X m d → cell_cmp c d ≡ typed_cmp X m (cell_form c X) (cell_form d X)
    pub apart : (y z : Plain X) → Bare (set_of X) m y → Bare (set_of X) m z → typed_cmp X m y z ≡ Equal → y ≡ z

  module _ (laws : IsSimplicial (set_of X)) (cells : (m : ℕ) → StandForBare m) (tied : (y : Plain X) → plain_cmp X y y ≡ Equal) where
    -- a simplex of the code of degree n, by its mask's word and its cell
    pub record Known (n : ℕ) (x : Simplex) : Type 0 where
      pub dim : ℕ
      pub is_word : IsWord n (mask_word x.degens.mask)
      pub degree : dim + length (mask_word x.degens.mask) ≡ n
      pub dim_is : n - length (mask_word x.degens.mask) ≡ dim
      pub cell : IsCell X dim x.cell
      pub word_is : word (set_of X) n (form x X) ≡ mask_word x.degens.mask
      pub cell_is : cell_of (set_of X) n (form x X) ≡ cell_form x.cell X

    pub known : (n : ℕ) (x : Simplex) → IsSimplex X n x → Known n x
    known n x h =
        let A = set_of X in
        let w = mask_word x.degens.mask in
        let m = n - length w in
        let l : x.degens.mask < 2 ^ n = lt_is x.degens.mask (2 ^ n) (and_left (nat_lt x.degens.mask (2 ^ n)) (is_cell x.cell X m) h) in
        let t : IsCell X m x.cell = and_right (nat_lt x.degens.mask (2 ^ n)) (is_cell x.cell X m) h in
        let ws : IsWord n w = word_of_mask n x.degens.mask l in
        let e : m + length w ≡ n = omega (arith, word_length n w ws) in
        let b = (cells m).bare x.cell t in
        let vs : IsWord (m + length w) w = subst (λ k. IsWord k w) (sym e) ws in
        record {
          dim = m;
          is_word = ws;
          degree = e;
          dim_is = refl;
          cell = t;
          word_is = ap (λ k. word A k (form x X)) (sym e) ∙ word-degenerated A laws m w (cell_form x.cell X) b.is_in b.none vs;
          cell_is = cell-degenerated A laws n m w (cell_form x.cell X) b.is_in b.none (omega (arith, e)) ws;
        }

    dim_is : (n : ℕ) (x : Simplex) → (k : Known n x) → dim_of (set_of X) n (form x X) ≡ k.dim
    dim_is n x k = omega (arith, dim-word (set_of X) n (form x X), k.degree, ap length k.word_is)

    mask_is : (n : ℕ) (x : Simplex) → (k : Known n x) → mask (set_of X) n (form x X) ≡ x.degens.mask
    mask_is n x k = mask-word (set_of X) n (form x X) ∙ ap mask_of k.word_is ∙ mask_back x.degens.mask x.degens.below_32

    pub quoted : (n : ℕ) (x : Simplex) → IsSimplex X n x → quote X n (form x X) ≡ x
    quoted n x h =
        let k = known n x h in
        let d : degens_of (mask (set_of X) n (form x X)) ≡ x.degens =
        ap degens_of (mask-word (set_of X) n (form x X) ∙ ap mask_of k.word_is) ∙ degens_back x.degens in
        let c : quote_cell X (dim_of (set_of X) n (form x X)) (cell_of (set_of X) n (form x X)) ≡ x.cell =
        (λ i. quote_cell X (dim_is n x k i) (k.cell_is i)) ∙ (cells k.dim).quoted x.cell k.cell in
        λ i. record { degens = d i; cell = c i }

    pub simplex : (n : ℕ) (x : Simplex) → IsSimplex X n x → (set_of X).In n (form x X)
    simplex n x h =
        let k = known n x h in
        let w = mask_word x.degens.mask in
        subst (λ j. (set_of X).In j (form x X)) k.degree
        (degenerated_in (set_of X) laws k.dim w (cell_form x.cell X) ((cells k.dim).bare x.cell k.cell).is_in (subst (λ j. IsWord j w) (sym k.degree) k.is_word))

    pub degenerate : (n : ℕ) (x : Simplex) → IsSimplex X n x
        → (is_degenerate (set_of X) n (form x X) ≡ true → 0 < x.degens.mask) × (0 < x.degens.mask → is_degenerate (set_of X) n (form x X) ≡ true)
    degenerate n x h = (down (cases_lt 0 x.degens.mask), up)
      where
        k : Known n x
        k = known n x h

        down : (0 < x.degens.mask) ⊎ (x.degens.mask ≤ 0) → is_degenerate (set_of X) n (form x X) ≡ true → 0 < x.degens.mask
        down (inl g) d = g
        down (inr g) d =
            let z : x.degens.mask ≡ 0 = omega arith in
            absurd (some_none n (degeneracies (set_of X) (form x X)) d (k.word_is ∙ ap mask_word z ∙ places-none 32))

        up : 0 < x.degens.mask → is_degenerate (set_of X) n (form x X) ≡ true
        up g =
            some_so n (degeneracies (set_of X) (form x X))
            (λ e. let z : x.degens.mask ≡ 0 = places_told 32 x.degens.mask 0 x.degens.below_32 (pow_pos 32) (sym k.word_is ∙ e ∙ sym (places-none 32)) in omega (arith, z, g))

    pub degree : (n : ℕ) (x : Simplex) → n ≤ 32 → IsSimplex X n x → degree_of x ≡ n
    degree n x l h =
        let k = known n x h in
        let e : k.dim + length (mask_word x.degens.mask) ≡ n = k.degree in
        omega (arith, l, (cells k.dim).dimension x.cell (omega (arith, e, l)) k.cell, count_ones-mask x.degens.mask x.degens.below_32, k.degree)

    -- what is quoted, in degree at most 32
    module _ (n : ℕ) (y : Plain X) (most : n ≤ 32) (is : (set_of X).In n y) where
      abbrev w : List ℕ
      w = word (set_of X) n y

      ws : IsWord n w
      ws = places_word n (degeneracies (set_of X) y)

      left : Bare (set_of X) (dim_of (set_of X) n y) (cell_of (set_of X) n y)
      left = bare_cell (set_of X) laws n y is

      word_is : mask_word (mask (set_of X) n y % 2 ^ 32) ≡ w
      word_is = ap (λ k. mask_word (k % 2 ^ 32)) (mask-word (set_of X) n y) ∙ word_back n w most ws

      pub onto : IsSimplex X n (quote X n y)
      onto =
          let d = dim_of (set_of X) n y in
          let c = quote_cell X d (cell_of (set_of X) n y) in
          let l : mask_of w % 2 ^ 32 < 2 ^ n = subst (λ k. k < 2 ^ n) (sym (mod-eq_of_lt (mask_of-lt 32 w (word_below n 32 w most ws)))) (mask_of-lt n w ws) in
          let f : n - length w ≡ d = omega (arith, dim-word (set_of X) n y) in
          (λ i. nat_lt (mask-word (set_of X) n y i % 2 ^ 32) (2 ^ n) && is_cell c X (n - length (word_is i)))
          ∙ (λ i. is_lt (mask_of w % 2 ^ 32) (2 ^ n) l i && is_cell c X (f i)) ∙ (cells d).onto (cell_of (set_of X) n y) left

      pub formed : form (quote X n y) X ≡ y
      formed =
          (λ i. degenerated (set_of X) (word_is i) ((cells (dim_of (set_of X) n y)).formed (cell_of (set_of X) n y) left i))
          ∙ rebuilt (set_of X) laws n n y is (omega arith)

    -- the order of the code is that of the space
    pub in_order : (n : ℕ) (x y : Simplex) → IsSimplex X n x → IsSimplex X n y → simplex_cmp x y ≡ (ordered X).cmp n (form x X) (form y X)
    in_order n x y h l =
        simplex_cmp-then x y
        ∙ settle (nat_cmp x.degens.mask y.degens.mask) (cell_cmp x.cell y.cell) (typed_cmp X a.dim u v) (plain_cmp X (form x X) (form y X)) same ties
        ∙ (λ i. ordering_then (ordering_then (nat_cmp (sym (mask_is n x a) i) (sym (mask_is n y b) i)) (typed_cmp X (sym (dim_is n x a) i) (sym a.cell_is i) (sym b.cell_is i))) (plain_cmp X (form x X) (form y X)))
      where
        a : Known n x
        a = known n x h

        b : Known n y
        b = known n y l

        u : Plain X
        u = cell_form x.cell X

        v : Plain X
        v = cell_form y.cell X

        masks : nat_cmp x.degens.mask y.degens.mask ≡ Equal → x.degens.mask ≡ y.degens.mask
        masks e = exact_unsigned x.degens.mask y.degens.mask e

        dims : nat_cmp x.degens.mask y.degens.mask ≡ Equal → b.dim ≡ a.dim
        dims e = sym b.dim_is ∙ ap (λ m. n - length (mask_word m)) (sym (masks e)) ∙ a.dim_is

        same : nat_cmp x.degens.mask y.degens.mask ≡ Equal → cell_cmp x.cell y.cell ≡ typed_cmp X a.dim u v
        same e = (cells a.dim).in_order x.cell y.cell a.cell (subst (λ m. IsCell X m y.cell) (dims e) b.cell)

        ties : nat_cmp x.degens.mask y.degens.mask ≡ Equal → typed_cmp X a.dim u v ≡ Equal → plain_cmp X (form x X) (form y X) ≡ Equal
        ties e f =
            let r : u ≡ v = (cells a.dim).apart u v ((cells a.dim).bare x.cell a.cell) (subst (λ m. Bare (set_of X) m v) (dims e) ((cells b.dim).bare y.cell b.cell)) f in
            (λ i. plain_cmp X (form x X) (degenerated (set_of X) (mask_word (sym (masks e) i)) (sym r i))) ∙ tied (form x X)

    pub stand_for_all : (n : ℕ) → n ≤ 32 → HasNormalForms X n
    stand_for_all n most = record {
      degree = λ x is. degree n x most is;
      simplex = simplex n;
      once = λ x y h l e. sym (quoted n x h) ∙ ap (quote X n) e ∙ quoted n y l;
      onto = λ y is. onto n y most is;
      degenerate = degenerate n;
      quoted = quoted n;
      formed = λ y is. formed n y most is;
      in_order = in_order n;
    }
