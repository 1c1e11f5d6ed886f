-- The pair of two simplices of one degree, against the pair that it stands for: in a product, and in a circle bundle (May, Simplicial
-- Objects in Algebraic Topology, chapters I and IV, 18).
use Rattle.std.proofs.Common.{◌≡◌, ℕ, zero, suc, ◌+◌, ◌-◌, ◌^◌, ◌<◌, ◌≤◌, Bool, true, false, ◌&&◌, ◌⊎◌, inl, inr, List, [], ◌∷◌, length, max, refl, sym, ◌∙◌, ap, subst, arith}
use Rattle.std.specs.Prelude.{bit_and}
use Rattle.std.proofs.lemmas.Bool.{cases_lt}
use Rattle.simp_ops.specs.declared.degens.Degens.{Degens}
use Rattle.simp_ops.specs.PairForms.{IsPairForm}
use Rattle.simp_ops.specs.Words.{IsWord, degeneracy_word, compose_words, has}
use Rattle.simp_ops.specs.Bits.{bit, mask_word}
use Rattle.simp_ops.proofs.PlacesOf.{word_below, places_word, is_lt, is_eq, degeneracy_room}
use Rattle.simp_ops.proofs.Squeezed.{and_left, and_right}
use Rattle.simp_ops.proofs.SplitOf.{split_form}
use Rattle.simp_ops.proofs.MaskWords.{has-places}
use Rattle.simp_ops.proofs.OperatorLaws.{compose_in}
use Rattle.simp_ops.proofs.WordLaws.{stays, passes}
use Rattle.spaces.specs.Simplicial.{IsSimplicial}
use Rattle.spaces.specs.Spaces.{Space, Plain, set_of}
use Rattle.spaces.proofs.WordLaws.{word_length, length-compose}
use Rattle.cells.specs.declared.cells.Cell.{Cell, out-Cell, out-roll-Cell}
use Rattle.cells.specs.declared.cells.Cell.TheVariants.{Pair, rolls-Pair}
use Rattle.cells.specs.declared.cells.Cell.TheOpen.{Cell-F}
use Rattle.cells.specs.declared.cells.Letter.{Letter}
use Rattle.cells.specs.declared.cells.Simplex.{Simplex}
use Rattle.term_lang.specs.Degenerated.{degenerated}
use Rattle.term_lang.specs.Forms.{cell_form, form}
use Rattle.term_lang.specs.Belongs.{is_cell, is_simplex, are_apart, IsCell, IsSimplex}
use Rattle.term_lang.proofs.CodeForms.{mask_of_word}
use Rattle.term_lang.proofs.RowCells.{eq_is}
use Rattle.term_lang.proofs.WordsAct.{degenerated-compose}
use Rattle.oracle_iface.specs.CodeSizes.{cell_integer, cell_letters}
use Rattle.oracle_iface.specs.KeyLaws.{HasCells}
use Rattle.oracle_iface.proofs.SizeRules.{integer_pair, letters_pair}
use Rattle.kz1_group.proofs.Faced.{Worded, worded}
use Rattle.normal_forms.specs.Paired.{IsPaired, HasParts}
use Rattle.normal_forms.proofs.PairCells.{no_bits}

-- ---- a word that comes before a word

head_below : (n j : ℕ) (v : List ℕ) → IsWord n (degeneracy_word j v) → j < n
head_below n j [] is = is.0
head_below n j (k ∷ v) is = by (cases_lt k j)
  where
    by : (k < j) ⊎ (j ≤ k) → j < n
    by (inl h) = let w : IsWord n (j ∷ (k ∷ v)) = subst (IsWord n) (stays j k v h) is in w.0
    by (inr h) = let w : IsWord n (suc k ∷ degeneracy_word j v) = subst (IsWord n) (passes j k v h) is in omega (arith, w.0, h)

split_word : (n m : ℕ) (c r : List ℕ) → IsWord m c → IsWord n (compose_words c r) → IsWord n c × IsWord (n - length c) r
split_word n m [] r is h = let e : n ≡ n - 0 = omega arith in (tt, subst (λ k. IsWord k r) e h)
split_word zero m (j ∷ c) r is h = absurd (let l : j < 0 = head_below zero j (compose_words c r) h in omega (arith, l))
split_word (suc n) m (j ∷ c) r is h =
    let q = split_word n j c r is.1 (degeneracy_room n j (compose_words c r) h) in
    let e : n - length c ≡ suc n - suc (length c) = omega arith in
    ((head_below (suc n) j (compose_words c r) h, is.1), subst (λ k. IsWord k r) e q.1)

-- a word of degeneracies before a cell is a simplex of the code
simplex_from : (X : Space) (n m : ℕ) (x : Simplex) → IsWord n (mask_word x.degens.mask) → m + length (mask_word x.degens.mask) ≡ n → IsCell X m x.cell → IsSimplex X n x
simplex_from X n m x word degree cell =
    let l : x.degens.mask < 2 ^ n = mask_of_word n x.degens.mask x.degens.below_32 word in
    let e : n - length (mask_word x.degens.mask) ≡ m = omega (arith, degree) in
    (λ i. is_lt x.degens.mask (2 ^ n) l i && is_cell x.cell X (e i)) ∙ cell

-- ---- one of the two simplices: x is the word w before l

module _ (a : Space) (laws : IsSimplicial (set_of a)) (cells : HasCells a) (n : ℕ) (most : n ≤ 32) (w : List ℕ) (up : IsWord 32 w) (l x : Simplex)
    (same : l.cell ≡ x.cell) (word : compose_words w (mask_word l.degens.mask) ≡ mask_word x.degens.mask) where
  abbrev r : List ℕ
  r = mask_word l.degens.mask

  pub record Half : Type 0 where
    pub outer : IsWord n w
    pub inner : IsSimplex a (n - length w) l
    pub whole : IsSimplex a n x
    pub plain_is : form x a ≡ degenerated (set_of a) w (form l a)

  half : (d : ℕ) → IsWord n w → IsWord (n - length w) r → d + length r ≡ n - length w → IsCell a d l.cell → Half
  half d outer inner degree cell =
      let short : length w ≤ n = word_length n w outer in
      let total : d + length r + length w ≡ n = omega (arith, short, degree) in
      record {
        outer = outer;
        inner = simplex_from a (n - length w) d l inner degree cell;
        whole =
            simplex_from a n d x (subst (IsWord n) word (compose_in n w r outer inner)) (omega (arith, ap length word, length-compose w r, total))
            (subst (IsCell a d) same cell);
        plain_is =
            sym (degenerated-compose (set_of a) laws d w r (cell_form l.cell a) ((cells d (omega (arith, total, most))).simplex l.cell cell)
            (subst (λ k. IsWord k r) (sym degree) inner) (subst (λ k. IsWord k w) (sym total) outer)
            ∙ (λ i. degenerated (set_of a) (word i) (cell_form (same i) a)));
      }

  pub up_half : IsSimplex a n x → Half
  up_half h =
      let k : Worded a n x = worded a n x h in
      let s = split_word n 32 w r up (subst (IsWord n) (sym word) k.is_word) in
      half k.dim s.0 s.1 (omega (arith, ap length word, length-compose w r, k.degree)) (subst (IsCell a k.dim) (sym same) k.cell)

  pub down_half : IsWord n w → IsSimplex a (n - length w) l → Half
  down_half outer h = let k : Worded a (n - length w) l = worded a (n - length w) l h in half k.dim outer k.is_word k.degree k.cell

-- ---- a space whose simplices are pairs, with the degeneracies of pairs

module _ (a b X : Space) (pair : Plain a → Plain b → Plain X)
    (cell_is : (l r : Simplex) (m : ℕ) → is_cell (Pair l r) X m ≡ (is_simplex l a m && is_simplex r b m && are_apart l r)) where
  -- the two simplices of a pair, in the degree that is left
  record Inner (n : ℕ) (z l r : Simplex) : Type 0 where
    outer : IsWord n (mask_word z.degens.mask)
    left : IsSimplex a (n - length (mask_word z.degens.mask)) l
    right : IsSimplex b (n - length (mask_word z.degens.mask)) r
    apart : bit_and l.degens.mask r.degens.mask ≡ 0

  inner_of : (n : ℕ) (z l r : Simplex) → z.cell ≡ Pair l r → IsSimplex X n z → Inner n z l r
  inner_of n z l r e h =
      let m = n - length (mask_word z.degens.mask) in
      let k : Worded X n z = worded X n z h in
      let d : k.dim ≡ m = omega (arith, k.degree) in
      let tests : (is_simplex l a m && is_simplex r b m && are_apart l r) ≡ true =
      sym (cell_is l r m) ∙ ap (λ c. is_cell c X m) (sym e) ∙ subst (λ j. IsCell X j z.cell) d k.cell in
      let both = and_left (is_simplex l a m && is_simplex r b m) (are_apart l r) tests in
      record {
        outer = k.is_word;
        left = and_left (is_simplex l a m) (is_simplex r b m) both;
        right = and_right (is_simplex l a m) (is_simplex r b m) both;
        apart = eq_is (bit_and l.degens.mask r.degens.mask) 0 (and_right (is_simplex l a m && is_simplex r b m) (are_apart l r) tests);
      }

  pub with_parts : (n : ℕ) → n ≤ 32 → (z l r : Simplex) → z.cell ≡ Pair l r → IsSimplex X n z → HasParts z
  with_parts n most z l r e h =
      let w = mask_word z.degens.mask in
      let i : Inner n z l r = inner_of n z l r e h in
      record {
        left = l;
        right = r;
        is = e;
        left_fits =
            word_below n 32 (compose_words w (mask_word l.degens.mask)) most
            (compose_in n w (mask_word l.degens.mask) i.outer (worded a (n - length w) l i.left).is_word);
        right_fits =
            word_below n 32 (compose_words w (mask_word r.degens.mask)) most
            (compose_in n w (mask_word r.degens.mask) i.outer (worded b (n - length w) r i.right).is_word);
        apart = i.apart;
      }

  module _ (form_is : (l r : Simplex) → cell_form (Pair l r) X ≡ pair (form l a) (form r b))
      (degenerates : (w : List ℕ) (p : Plain a) (q : Plain b) → degenerated (set_of X) w (pair p q) ≡ pair (degenerated (set_of a) w p) (degenerated (set_of b) w q))
      (la : IsSimplicial (set_of a)) (lb : IsSimplicial (set_of b)) (ca : HasCells a) (cb : HasCells b)
      (n : ℕ) (most : n ≤ 32) (x y z : Simplex) (p : IsPaired x y z) where
    abbrev w : List ℕ
    w = mask_word z.degens.mask

    up : IsWord 32 w
    up = places_word 32 (bit z.degens.mask)

    abbrev Left : Type 0
    Left = Half a la ca n most w up p.left x p.left_cell p.left_word

    abbrev Right : Type 0
    Right = Half b lb cb n most w up p.right y p.right_cell p.right_word

    pub record Paired : Type 0 where
      pub simplex : IsSimplex X n z
      pub left : IsSimplex a n x
      pub right : IsSimplex b n y
      pub plain_is : form z X ≡ pair (form x a) (form y b)

    both : Left → Right → Paired
    both h k =
        let m = n - length w in
        let short : length w ≤ n = word_length n w h.outer in
        record {
          simplex =
              simplex_from X n m z h.outer (omega (arith, short))
              (ap (λ c. is_cell c X m) p.is ∙ cell_is p.left p.right m
              ∙ (λ i. h.inner i && k.inner i && is_eq (bit_and p.left.degens.mask p.right.degens.mask) 0 p.apart i));
          left = h.whole;
          right = k.whole;
          plain_is =
              (λ i. degenerated (set_of X) w (cell_form (p.is i) X)) ∙ ap (degenerated (set_of X) w) (form_is p.left p.right)
              ∙ degenerates w (form p.left a) (form p.right b) ∙ sym (λ i. pair (h.plain_is i) (k.plain_is i));
        }

    pub paired_up : IsSimplex a n x → IsSimplex b n y → Paired
    paired_up h k =
        both (up_half a la ca n most w up p.left x p.left_cell p.left_word h) (up_half b lb cb n most w up p.right y p.right_cell p.right_word k)

    pub parted : IsSimplex X n z → Paired
    parted h =
        let i : Inner n z p.left p.right = inner_of n z p.left p.right p.is h in
        both (down_half a la ca n most w up p.left x p.left_cell p.left_word i.outer i.left)
        (down_half b lb cb n most w up p.right y p.right_cell p.right_word i.outer i.right)

-- ---- what the code makes

-- the common degeneracies before what is left of the two
pub pair_made : (x y l r : Simplex) (both s t : Degens) → ((k : ℕ) → bit both.mask k ≡ bit x.degens.mask k && bit y.degens.mask k)
    → compose_words (mask_word both.mask) (mask_word s.mask) ≡ mask_word x.degens.mask → compose_words (mask_word both.mask) (mask_word t.mask) ≡ mask_word y.degens.mask
    → l ≡ record { degens = s; cell = x.cell } → r ≡ record { degens = t; cell = y.cell } → IsPaired x y (record { degens = both; cell = Pair l r })
pair_made x y l r both s t bits sw tw e f = record {
  left = l;
  right = r;
  is = refl;
  left_cell = ap (λ (u : Simplex). u.cell) e;
  right_cell = ap (λ (u : Simplex). u.cell) f;
  left_word = ap (λ (u : Simplex). compose_words (mask_word both.mask) (mask_word u.degens.mask)) e ∙ sw;
  right_word = ap (λ (u : Simplex). compose_words (mask_word both.mask) (mask_word u.degens.mask)) f ∙ tw;
  apart = (λ i. bit_and (e i).degens.mask (f i).degens.mask) ∙ no_bits 32 s.mask t.mask (omega arith) s.below_32 t.below_32 none;
}
  where
    none : (k : ℕ) → k < 32 → bit s.mask k && bit t.mask k ≡ false
    none k h = by (bit s.mask k) (bit t.mask k) (has-places 32 k (bit s.mask) h) (has-places 32 k (bit t.mask) h)
      where
        split : IsPairForm 32 (record { common = mask_word both.mask; left = mask_word s.mask; right = mask_word t.mask })
        split = split_form x.degens.mask y.degens.mask both.mask s.mask t.mask bits sw tw

        by : (p q : Bool) → has (mask_word s.mask) k ≡ p → has (mask_word t.mask) k ≡ q → p && q ≡ false
        by true true u v = absurd (split.apart k u v)
        by true false u v = refl
        by false q u v = refl

both_masks : Cell-F Cell Letter Simplex → ℕ
both_masks (Cell-F.Pair x y) = bit_and x.degens.mask y.degens.mask
both_masks c = 0

both-Pair : (x y : Simplex) → both_masks (out-Cell (Pair x y)) ≡ bit_and x.degens.mask y.degens.mask
unfolding both_masks
both-Pair x y = ap both_masks (ap out-Cell (sym (rolls-Pair x y)) ∙ out-roll-Cell (Cell-F.Pair x y))

-- a pair is what it was made from
pub pair_parted : (z u v l r : Simplex) → HasParts z → z.cell ≡ Pair u v
    → mask_word l.degens.mask ≡ compose_words (mask_word z.degens.mask) (mask_word u.degens.mask) → l.cell ≡ u.cell
    → mask_word r.degens.mask ≡ compose_words (mask_word z.degens.mask) (mask_word v.degens.mask) → r.cell ≡ v.cell → IsPaired l r z
pair_parted z u v l r p e lw lc rw rc = record {
  left = u;
  right = v;
  is = e;
  left_cell = sym lc;
  right_cell = sym rc;
  left_word = sym lw;
  right_word = sym rw;
  apart = sym (both-Pair u v) ∙ ap (λ c. both_masks (out-Cell c)) (sym e ∙ p.is) ∙ both-Pair p.left p.right ∙ p.apart;
}

-- ---- sizes

pub integers-paired : (x y z : Simplex) → IsPaired x y z → cell_integer z.cell ≡ max (cell_integer x.cell) (cell_integer y.cell)
integers-paired x y z p = ap cell_integer p.is ∙ integer_pair p.left p.right ∙ (λ i. max (cell_integer (p.left_cell i)) (cell_integer (p.right_cell i)))

pub letters-paired : (x y z : Simplex) → IsPaired x y z → cell_letters z.cell ≡ max (cell_letters x.cell) (cell_letters y.cell)
letters-paired x y z p = ap cell_letters p.is ∙ letters_pair p.left p.right ∙ (λ i. max (cell_letters (p.left_cell i)) (cell_letters (p.right_cell i)))
