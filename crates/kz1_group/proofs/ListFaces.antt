-- The face of a simplex of K(Z,1) in normal form, as the code makes it from the list of its cell.
use Rattle.std.proofs.Common.{◌≡◌, ℕ, suc, ◌-◌, ◌*◌, ◌^◌, ◌≤◌, List, length, ℤ, sym, ◌∙◌, ap, subst, arith}
use Rattle.std.specs.Prelude.{nat_abs}
use Rattle.simp_ops.specs.Words.{IsWord, face_word, absorbed, through, compose_words}
use Rattle.simp_ops.specs.Bits.{mask_word}
use Rattle.spaces.specs.Nerves.{integers, nerve_face}
use Rattle.spaces.specs.Spaces.{kz1, set_of}
use Rattle.values.specs.Sizes.{greatest}
use Rattle.cells.specs.declared.cells.Cell.{Cell}
use Rattle.cells.specs.declared.cells.Cell.TheVariants.{Ints}
use Rattle.cells.specs.declared.cells.Simplex.{Simplex}
use Rattle.term_lang.specs.Forms.{cell_form, form}
use Rattle.term_lang.specs.Belongs.{IsCell, IsSimplex}
use Rattle.oracle_iface.specs.CodeSizes.{cell_integer}
use Rattle.oracle_iface.proofs.SizeRules.{integer_ints}
use Rattle.kz1_group.specs.Summable.{IsSummable}
use Rattle.kz1_group.proofs.ListForms.{laws, stand, IsList, list_of, form_list}
use Rattle.kz1_group.proofs.Faced.{Worded, worded, Faced, face_absorbed, Reaches, reaches, fits, face_through}
use Rattle.kz1_group.proofs.Magnitudes.{summable, face_within}

pub a_list : (n : ℕ) (x : Simplex) → IsSimplex kz1 n x → (list : List ℤ) × (x.cell ≡ Ints list)
a_list n x h = let k = worded kz1 n x h in let s = list_of k.dim x.cell k.cell in (s.list, s.cell)

cells : (m : ℕ) → m ≤ 32 → (c : Cell) → IsCell kz1 m c → (set_of kz1).In m (cell_form c kz1)
cells m low c h = ((stand m).bare c h).is_in

module _ (n i : ℕ) (x : Simplex) (list : List ℤ) (h : IsSimplex kz1 n x) (positive : 1 ≤ n) (most : n ≤ 32) (index : i ≤ n) (e : x.cell ≡ Ints list) where
  k : Worded kz1 n x
  k = worded kz1 n x h

  plain : cell_form x.cell kz1 ≡ list
  plain = ap (λ c. cell_form c kz1) e ∙ form_list list

  count : length list ≡ k.dim
  count =
      let s : IsList k.dim x.cell = list_of k.dim x.cell k.cell in
      ap length (sym plain ∙ ap (λ c. cell_form c kz1) s.cell ∙ form_list s.list) ∙ s.count

  pub absorbed_face : (y : Simplex) → absorbed (mask_word y.degens.mask) ≡ face_word i (mask_word x.degens.mask) → y.cell ≡ x.cell → Faced kz1 n i x y
  absorbed_face y f g = face_absorbed kz1 laws cells n i x k positive most index y f g

  pub list_summable : cell_integer x.cell ≤ 2 ^ 40 → IsSummable list
  list_summable l = summable list (let b : greatest nat_abs list ≡ cell_integer x.cell = sym (ap cell_integer e ∙ integer_ints list) in omega (arith, b, l))

  module _ (j : ℕ) (v : List ℕ) (f : through j v ≡ face_word i (mask_word x.degens.mask)) where
    reached : Reaches kz1 laws cells n i x k positive most index j v
    reached = reaches kz1 laws cells n i x k positive most index j v f

    pub list_some : 1 ≤ length list
    list_some = omega (arith, count, reached.some)

    pub list_index : j ≤ length list
    list_index = omega (arith, count, reached.within)

    module _ (face : List ℤ) (g : face ≡ nerve_face integers j list) where
      face_count : length face ≡ k.dim - 1
      face_count =
          let d : length list ≡ suc (k.dim - 1) = omega (arith, count, reached.some) in
          ap length g ∙ (laws.face_in (k.dim - 1) j list (d, λ a b c. tt) (omega (arith, list_index, d))).0

      pub face_short : length face ≤ 32
      face_short = omega (arith, face_count, k.degree)

      module _ (z : Simplex) (z_form : form z kz1 ≡ face) (z_simplex : IsSimplex kz1 (length face) z) where
        zs : IsSimplex kz1 (k.dim - 1) z
        zs = subst (λ m. IsSimplex kz1 m z) face_count z_simplex

        z_is : form z kz1 ≡ nerve_face integers j (cell_form x.cell kz1)
        z_is = z_form ∙ g ∙ ap (nerve_face integers j) (sym plain)

        pub words_fit : IsWord 32 (compose_words v (mask_word z.degens.mask))
        words_fit = fits kz1 laws cells n i x k positive most index j v f z zs z_is

        pub reached_face : (y : Simplex) → mask_word y.degens.mask ≡ compose_words v (mask_word z.degens.mask) → y.cell ≡ z.cell → Faced kz1 n i x y
        reached_face y a b = face_through kz1 laws cells n i x k positive most index j v f z zs z_is y a b

        pub reached_within : cell_integer z.cell ≡ greatest nat_abs face → cell_integer z.cell ≤ 2 * cell_integer x.cell
        reached_within a =
            let b : greatest nat_abs (nerve_face integers j list) ≤ 2 * greatest nat_abs list = face_within j list in
            let d : greatest nat_abs face ≡ greatest nat_abs (nerve_face integers j list) = ap (greatest nat_abs) g in
            let l : cell_integer x.cell ≡ greatest nat_abs list = ap cell_integer e ∙ integer_ints list in
            omega (arith, a, b, d, l)
