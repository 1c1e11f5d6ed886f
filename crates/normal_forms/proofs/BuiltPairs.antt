-- Pairs of simplices of built spaces, in products and in circle bundles.
use Rattle.std.proofs.Common.{◌≡◌, ℕ, ◌≤◌, true, List, [], ◌∷◌, ℤ, refl, sym, ◌∙◌, ap, true≢false}
use Rattle.spaces.specs.Allowed.{IsAllowed}
use Rattle.spaces.specs.Tables.{Table}
use Rattle.spaces.specs.Spaces.{Space, table, product, kz1, bundle, Plain, set_of}
use Rattle.spaces.proofs.SpaceLaws.{space_set_laws}
use Rattle.cells.specs.declared.cells.Cell.{Cell, out-Cell, roll-Cell, roll-out-Cell}
use Rattle.cells.specs.declared.cells.Cell.TheVariants.{Pair, rolls-Pair}
use Rattle.cells.specs.declared.cells.Cell.TheOpen.{Cell-F}
use Rattle.cells.specs.declared.cells.Letter.{Letter}
use Rattle.cells.specs.declared.cells.Simplex.{Simplex}
use Rattle.term_lang.specs.Degenerated.{degenerated}
use Rattle.term_lang.specs.Forms.{form}
use Rattle.term_lang.specs.Belongs.{is_cell, IsCell, IsSimplex}
use Rattle.term_lang.proofs.CellForms.{tested, is_cell-roll, is_cell-Pair, form-Pair}
use Rattle.term_lang.proofs.TableForms.{table_forms}
use Rattle.term_lang.proofs.NormalCells.{normal_cells}
use Rattle.oracle_iface.specs.KeyLaws.{HasCells}
use Rattle.kz1_group.proofs.Faced.{worded}
use Rattle.kz1_group.proofs.ListForms.{integers_cells}
use Rattle.normal_forms.specs.Built.{IsBuilt}
use Rattle.normal_forms.specs.Paired.{IsPaired, HasParts}
use Rattle.normal_forms.proofs.BuiltForms.{built_cells}
use Rattle.normal_forms.proofs.PairedForms.{paired_up, parted, with_parts}

-- a cell that is a pair
abbrev IsAnyPair : Cell → Type 0
IsAnyPair c = (l : Simplex) × ((r : Simplex) × (c ≡ Pair l r))

module _ (a b : Space) where
  abbrev X : Space
  X = product a b

  pair_layer : (n : ℕ) (y : Cell-F Cell Letter Simplex) → tested y (product a b) n ≡ true → IsAnyPair (roll-Cell y)
  unfolding tested
  pair_layer n (Cell-F.Pair x y) h = (x, (y, rolls-Pair x y))
  pair_layer n y h = absurd (true≢false (sym h))

  pair_cell : (n : ℕ) (c : Cell) → IsCell (product a b) n c → IsAnyPair c
  pair_cell n c h =
      let q = pair_layer n (out-Cell c) (ap (λ f. f X n) (sym (is_cell-roll (out-Cell c))) ∙ ap (λ d. is_cell d X n) (roll-out-Cell c) ∙ h) in
      (q.0, (q.1.0, sym (roll-out-Cell c) ∙ q.1.1))

  pub product_parts : (n : ℕ) → n ≤ 32 → (z : Simplex) → IsSimplex (product a b) n z → HasParts z
  product_parts n most z h =
      let k = worded X n z h in
      let q = pair_cell k.dim z.cell k.cell in
      with_parts a b X (λ p r. (p, r)) (λ l r m. ap (λ f. f X m) (is_cell-Pair l r)) n most z q.0 q.1.0 q.1.1 h

  degenerates : (w : List ℕ) (p : Plain a) (q : Plain b) → degenerated (set_of (product a b)) w (p, q) ≡ (degenerated (set_of a) w p, degenerated (set_of b) w q)
  degenerates [] p q = refl
  degenerates (j ∷ w) p q = ap ((set_of (product a b)).degeneracy j) (degenerates w p q)

  module _ (ia : IsAllowed a) (ba : IsBuilt a) (ib : IsAllowed b) (bb : IsBuilt b) (n : ℕ) (most : n ≤ 32) (x y z : Simplex) (p : IsPaired x y z) where
    pub product_paired : IsSimplex a n x → IsSimplex b n y → IsSimplex (product a b) n z × (form z (product a b) ≡ (form x a, form y b))
    product_paired h k =
        let s =
        paired_up a b X (λ p r. (p, r)) (λ l r m. ap (λ f. f X m) (is_cell-Pair l r)) (λ l r. ap (λ f. f X) (form-Pair l r)) degenerates
        (space_set_laws a ia.0) (space_set_laws b ib.0) (built_cells a ia ba) (built_cells b ib bb) n most x y z p h k in
        (s.simplex, s.plain_is)

    pub product_parted : IsSimplex (product a b) n z → IsSimplex a n x × IsSimplex b n y × (form z (product a b) ≡ (form x a, form y b))
    product_parted h =
        let s =
        parted a b X (λ p r. (p, r)) (λ l r m. ap (λ f. f X m) (is_cell-Pair l r)) (λ l r. ap (λ f. f X) (form-Pair l r)) degenerates
        (space_set_laws a ia.0) (space_set_laws b ib.0) (built_cells a ia ba) (built_cells b ib bb) n most x y z p h in
        (s.left, s.right, s.plain_is)

-- ---- circle bundles

module _ (t : Table) (values : List ℤ) where
  abbrev B : Space
  B = bundle t values

  bundle_layer : (n : ℕ) (y : Cell-F Cell Letter Simplex) → tested y (bundle t values) n ≡ true → IsAnyPair (roll-Cell y)
  unfolding tested
  bundle_layer n (Cell-F.Pair x y) h = (x, (y, rolls-Pair x y))
  bundle_layer n y h = absurd (true≢false (sym h))

  bundle_cell : (n : ℕ) (c : Cell) → IsCell (bundle t values) n c → IsAnyPair c
  bundle_cell n c h =
      let q = bundle_layer n (out-Cell c) (ap (λ f. f B n) (sym (is_cell-roll (out-Cell c))) ∙ ap (λ d. is_cell d B n) (roll-out-Cell c) ∙ h) in
      (q.0, (q.1.0, sym (roll-out-Cell c) ∙ q.1.1))

  pub bundle_parts : (n : ℕ) → n ≤ 32 → (z : Simplex) → IsSimplex (bundle t values) n z → HasParts z
  bundle_parts n most z h =
      let k = worded B n z h in
      let q = bundle_cell k.dim z.cell k.cell in
      with_parts (table t) kz1 B (λ p r. (p, r)) (λ l r m. ap (λ f. f B m) (is_cell-Pair l r)) n most z q.0 q.1.0 q.1.1 h

  bundle_degenerates : (w : List ℕ) (p : Plain (table t)) (q : Plain kz1)
      → degenerated (set_of (bundle t values)) w (p, q) ≡ (degenerated (set_of (table t)) w p, degenerated (set_of kz1) w q)
  bundle_degenerates [] p q = refl
  bundle_degenerates (j ∷ w) p q = ap ((set_of (bundle t values)).degeneracy j) (bundle_degenerates w p q)

  module _ (is : IsAllowed (bundle t values)) (n : ℕ) (most : n ≤ 32) (x y z : Simplex) (p : IsPaired x y z) where
    table_cells : HasCells (table t)
    table_cells m l = normal_cells (table t) m l (table_forms t is.0.0 m l)

    pub bundle_paired : IsSimplex (table t) n x → IsSimplex kz1 n y → IsSimplex (bundle t values) n z × (form z (bundle t values) ≡ (form x (table t), form y kz1))
    bundle_paired h k =
        let s =
        paired_up (table t) kz1 B (λ p r. (p, r)) (λ l r m. ap (λ f. f B m) (is_cell-Pair l r)) (λ l r. ap (λ f. f B) (form-Pair l r)) bundle_degenerates
        (space_set_laws (table t) is.0.0) (space_set_laws kz1 tt) table_cells integers_cells n most x y z p h k in
        (s.simplex, s.plain_is)

    pub bundle_parted : IsSimplex (bundle t values) n z → IsSimplex (table t) n x × IsSimplex kz1 n y × (form z (bundle t values) ≡ (form x (table t), form y kz1))
    bundle_parted h =
        let s =
        parted (table t) kz1 B (λ p r. (p, r)) (λ l r m. ap (λ f. f B m) (is_cell-Pair l r)) (λ l r. ap (λ f. f B) (form-Pair l r)) bundle_degenerates
        (space_set_laws (table t) is.0.0) (space_set_laws kz1 tt) table_cells integers_cells n most x y z p h in
        (s.left, s.right, s.plain_is)
