-- The face of a simplex of the code: what it leaves of the degeneracies, before the cell or before the face of the cell.
use Rattle.std.proofs.Common.{◌≡◌, ℕ, suc, ◌+◌, ◌-◌, ◌^◌, ◌<◌, ◌≤◌, nat_lt, ◌&&◌, List, length, sym, ◌∙◌, ap, subst, arith}
use Rattle.simp_ops.specs.Words.{IsWord, IsPassed, face_word, absorbed, through, compose_words}
use Rattle.simp_ops.specs.Bits.{mask_word}
use Rattle.simp_ops.proofs.PlacesOf.{word_below, is_lt}
use Rattle.simp_ops.proofs.Squeezed.{and_left, and_right}
use Rattle.simp_ops.proofs.OperatorLaws.{face_in, compose_in}
use Rattle.spaces.specs.Simplicial.{IsSimplicial}
use Rattle.spaces.specs.Spaces.{Space, set_of}
use Rattle.spaces.proofs.WordLaws.{word_length, length-compose}
use Rattle.cells.specs.declared.cells.Cell.{Cell}
use Rattle.cells.specs.declared.cells.Simplex.{Simplex}
use Rattle.term_lang.specs.Degenerated.{degenerated, passed_on}
use Rattle.term_lang.specs.Forms.{cell_form, form}
use Rattle.term_lang.specs.Belongs.{is_cell, IsCell, IsSimplex}
use Rattle.term_lang.proofs.CodeForms.{mask_of_word, word_of_mask, lt_is}
use Rattle.term_lang.proofs.WordsAct.{degenerated-compose, face-degenerated}

module _ (X : Space) where
  -- a word before a cell of the dimension that is left
  pub record Worded (n : ℕ) (x : Simplex) : Type 0 where
    pub dim : ℕ
    pub is_word : IsWord n (mask_word x.degens.mask)
    pub degree : dim + length (mask_word x.degens.mask) ≡ n
    pub cell : IsCell X dim x.cell

  pub worded : (n : ℕ) (x : Simplex) → IsSimplex X n x → Worded n x
  worded n x h =
      let w = mask_word x.degens.mask in
      let l : x.degens.mask < 2 ^ n = lt_is x.degens.mask (2 ^ n) (and_left (nat_lt x.degens.mask (2 ^ n)) (is_cell x.cell X (n - length w)) h) in
      let ws : IsWord n w = word_of_mask n x.degens.mask l in
      record {
        dim = n - length w;
        is_word = ws;
        degree = omega (arith, word_length n w ws);
        cell = and_right (nat_lt x.degens.mask (2 ^ n)) (is_cell x.cell X (n - length w)) h;
      }

  simplex_from : (n : ℕ) (x : Simplex) → Worded n x → IsSimplex X n x
  simplex_from n x k =
      let l : x.degens.mask < 2 ^ n = mask_of_word n x.degens.mask x.degens.below_32 k.is_word in
      let e : n - length (mask_word x.degens.mask) ≡ k.dim = omega (arith, k.degree) in
      (λ i. is_lt x.degens.mask (2 ^ n) l i && is_cell x.cell X (e i)) ∙ k.cell

  -- y is the face d_i of x, of degree n
  pub record Faced (n i : ℕ) (x y : Simplex) : Type 0 where
    pub plain_is : form y X ≡ (set_of X).face i (form x X)
    pub simplex : IsSimplex X (n - 1) y

  -- the cells are simplices, in the degrees that masks of the code reach
  module _ (laws : IsSimplicial (set_of X)) (cells : (m : ℕ) → m ≤ 32 → (c : Cell) → IsCell X m c → (set_of X).In m (cell_form c X)) where
    module _ (n i : ℕ) (x : Simplex) (k : Worded n x) (positive : 1 ≤ n) (most : n ≤ 32) (index : i ≤ n) where
      abbrev w : List ℕ
      w = mask_word x.degens.mask

      face_is : (set_of X).face i (form x X) ≡ passed_on (set_of X) (face_word i w) (cell_form x.cell X)
      face_is =
          face-degenerated (set_of X) laws k.dim i w (cell_form x.cell X) (cells k.dim (let e : k.dim + length w ≡ n = k.degree in omega (arith, e)) x.cell k.cell) (subst (λ m. IsWord m w) (sym k.degree) k.is_word)
          (omega (arith, index, k.degree))

      pub passes : IsPassed (n - 1) w (face_word i w)
      passes = let e : n ≡ suc (n - 1) = omega arith in face_in (n - 1) i w (subst (λ m. IsWord m w) e k.is_word) (omega arith)

      pub face_absorbed : (y : Simplex) → absorbed (mask_word y.degens.mask) ≡ face_word i w → y.cell ≡ x.cell → Faced n i x y
      face_absorbed y e f =
          let v = mask_word y.degens.mask in
          let p : IsPassed (n - 1) w (absorbed v) = subst (IsPassed (n - 1) w) (sym e) passes in
          let l : suc (length v) ≡ length w = p.1 in
          record {
            plain_is = ap (λ c. degenerated (set_of X) v (cell_form c X)) f ∙ ap (λ q. passed_on (set_of X) q (cell_form x.cell X)) e ∙ sym face_is;
            simplex = simplex_from (n - 1) y (record {
              dim = k.dim;
              is_word = p.0;
              degree = omega (arith, l, k.degree);
              cell = subst (IsCell X k.dim) (sym f) k.cell;
            });
          }

      -- a face that comes through is in range on the cell
      pub record Reaches (j : ℕ) (v : List ℕ) : Type 0 where
        pub is_word : IsWord (n - 1) v
        pub count : length v ≡ length w
        pub some : 1 ≤ k.dim
        pub within : j ≤ k.dim

      pub reaches : (j : ℕ) (v : List ℕ) → through j v ≡ face_word i w → Reaches j v
      reaches j v e =
          let p : IsPassed (n - 1) w (through j v) = subst (IsPassed (n - 1) w) (sym e) passes in
          let q : length v ≡ length w = p.1 in
          let r : j + length w ≤ suc (n - 1) = p.2 in
          record {
            is_word = p.0;
            count = q;
            some = omega (arith, q, k.degree, word_length (n - 1) v p.0);
            within = omega (arith, r, k.degree);
          }

      -- the face z of the cell, behind the word
      module _ (j : ℕ) (v : List ℕ) (e : through j v ≡ face_word i w) (z : Simplex) (zs : IsSimplex X (k.dim - 1) z)
          (z_is : form z X ≡ (set_of X).face j (cell_form x.cell X)) where
        reached : Reaches j v
        reached = reaches j v e

        inner : Worded (k.dim - 1) z
        inner = worded (k.dim - 1) z zs

        abbrev r : List ℕ
        r = mask_word z.degens.mask

        whole : IsWord (n - 1) (compose_words v r)
        whole =
            let d : k.dim - 1 ≡ n - 1 - length v = omega (arith, reached.count, k.degree) in
            compose_in (n - 1) v r reached.is_word (subst (λ m. IsWord m r) d inner.is_word)

        pub fits : IsWord 32 (compose_words v r)
        fits = word_below (n - 1) 32 (compose_words v r) (omega arith) whole

        pub face_through : (y : Simplex) → mask_word y.degens.mask ≡ compose_words v r → y.cell ≡ z.cell → Faced n i x y
        face_through y f g =
            let lower : inner.dim + length r ≡ k.dim - 1 = inner.degree in
            let total : inner.dim + length r + length v ≡ n - 1 = omega (arith, lower, reached.count, reached.some, k.degree) in
            record {
              plain_is =
                  (λ t. degenerated (set_of X) (f t) (cell_form (g t) X))
                  ∙ sym (degenerated-compose (set_of X) laws inner.dim v r (cell_form z.cell X) (cells inner.dim (omega (arith, total)) z.cell inner.cell)
                  (subst (λ m. IsWord m r) (sym lower) inner.is_word) (subst (λ m. IsWord m v) (sym total) reached.is_word))
                  ∙ ap (degenerated (set_of X) v) z_is ∙ ap (λ q. passed_on (set_of X) q (cell_form x.cell X)) e ∙ sym face_is;
              simplex = simplex_from (n - 1) y (record {
                dim = inner.dim;
                is_word = subst (IsWord (n - 1)) (sym f) whole;
                degree = omega (arith, ap length f, length-compose v r, total);
                cell = subst (IsCell X inner.dim) (sym g) inner.cell;
              });
            }
