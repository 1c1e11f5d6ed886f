-- Cells that compare as equal are the same cell, and so are letters and simplices.
use Rattle.std.proofs.Common.{◌≡◌, ℕ, ◌<◌, ◌^◌, Bool, true, false, cond, List, [], ◌∷◌, length, map, refl, sym, ◌∙◌, ap, subst, ℤ, pos, arith}
use Rattle.std.specs.Coded.{le_prop}
use Rattle.std.specs.declared.cmp.Ordering.TheVariants.{Equal}
use Rattle.simp_ops.specs.declared.degens.Degens.{Degens}
use Rattle.cells.specs.declared.cells.Cell.{Cell, roll-Cell, out-Cell, roll-out-Cell, map-Cell, ind-Cell}
use Rattle.cells.specs.declared.cells.Cell.TheVariants.{rolls-Row, rolls-Top}
use Rattle.cells.specs.declared.cells.Cell.TheOpen.{Cell-F, Letter-F, Simplex-F}
use Rattle.cells.specs.declared.cells.Letter.{Letter}
use Rattle.cells.specs.declared.cells.Simplex.{Simplex}
use Rattle.cells.specs.Dim.{dim_of}
use Rattle.cells.specs.Forests.{end}
use Rattle.cells.specs.Order.{number, simplex_before, ints_forest, letters_forest, forest, cell_cmp, simplex_cmp, letter_cmp, kind_in}
use Rattle.cells.specs.ForestLaws.{forest_is}
use Rattle.cells.proofs.Dimensions.{dim-Row, dim-Top}
use Rattle.cells.proofs.Compared.{contents_in, with_forest, headed_in}

pub degens_same : (x y : Degens) → x.mask ≡ y.mask → x ≡ y
degens_same x y e = subst P e (λ q. ap (λ p. record { mask = x.mask; below_32 = p }) (le_prop x.below_32 q)) y.below_32
  where
    P : ℕ → Type 0
    P m = (q : m < 2 ^ 32) → x ≡ record { mask = m; below_32 = q }

-- a cell is told by its forest
abbrev Told : Cell → Type 0
Told c = (d : Cell) → forest c ≡ forest d → c ≡ d

simplex_same : (x y : Simplex) → pos x.degens.mask ≡ pos y.degens.mask → x.cell ≡ y.cell → x ≡ y
simplex_same x y e f = let g : x.degens.mask ≡ y.degens.mask = cc in λ i. record { degens = degens_same x.degens y.degens g i; cell = f i }

ints_same : (a b : List ℤ) → ints_forest a ≡ ints_forest b → a ≡ b
ints_same [] [] e = refl
ints_same [] (y ∷ b) e = absurd (cc)
ints_same (x ∷ a) [] e = absurd (cc)
ints_same (x ∷ a) (y ∷ b) e = let f : x ≡ y = cc in let g : ints_forest a ≡ ints_forest b = cc in λ i. f i ∷ ints_same a b g i

record Parts (y z : Cell-F Cell Letter Simplex) : Type 0 where
  pub dims : pos (dim_of (roll-Cell y)) ≡ pos (dim_of (roll-Cell z))
  pub kinds : kind_in y ≡ kind_in z
  pub insides : contents_in y ≡ contents_in z

parts : (y z : Cell-F Cell Letter Simplex) → forest (roll-Cell y) ≡ forest (roll-Cell z) → Parts y z
parts y z e =
    let f : number (dim_of (roll-Cell y)) (number (kind_in y) (contents_in y)) ≡ number (dim_of (roll-Cell z)) (number (kind_in z) (contents_in z)) = sym (headed_in y) ∙ e ∙ headed_in z in
    record { dims = cc; kinds = cc; insides = cc }

cond_same : (a b : Bool) → pos (cond a 1 0) ≡ pos (cond b 1 0) → a ≡ b
cond_same true true e = refl
cond_same true false e = absurd (cc)
cond_same false true e = absurd (cc)
cond_same false false e = refl

-- one level of a cell whose parts are told by their forests
module _ (S S' S'' : Type 0) (f : S → Cell) (f' : S' → Letter) (f'' : S'' → Simplex)
    (told : (s : S) → Told (f s)) (told' : (s : S') → Told (f' s).simplex.cell) (told'' : (s : S'') → Told (f'' s).cell) where
  abbrev whole : Cell-F S S' S'' → Cell-F Cell Letter Simplex
  whole y = map-Cell S S' S'' Cell Letter Simplex f f' f'' y

  letters_same : (w : List S') (v : List Letter) → letters_forest (map with_forest (map f' w)) ≡ letters_forest (map with_forest v) → map f' w ≡ v
  unfolding with_forest
  letters_same [] [] e = refl
  letters_same [] (m ∷ v) e = absurd (cc)
  letters_same (l ∷ w) [] e = absurd (cc)
  letters_same (l ∷ w) (m ∷ v) e =
      let a : pos (cond (f' l).inverse 1 0) ≡ pos (cond m.inverse 1 0) = cc in
      let b : pos (f' l).simplex.degens.mask ≡ pos m.simplex.degens.mask = cc in
      let c : forest (f' l).simplex.cell ≡ forest m.simplex.cell = cc in
      let d : letters_forest (map with_forest (map f' w)) ≡ letters_forest (map with_forest v) = cc in
      λ i. record { inverse = cond_same (f' l).inverse m.inverse a i; simplex = simplex_same (f' l).simplex m.simplex b (told' l m.simplex.cell c) i } ∷ letters_same w v d i

  row_same : (d r : ℕ) (z : Cell-F Cell Letter Simplex) → Parts (Cell-F.Row d r) z → Cell-F.Row d r ≡ z
  unfolding contents_in
  row_same d r (Cell-F.Row e s) p =
      let q = p.insides in
      let a : pos d ≡ pos e = ap pos (sym (ap dim_of (rolls-Row d r) ∙ dim-Row d r)) ∙ p.dims ∙ ap pos (ap dim_of (rolls-Row e s) ∙ dim-Row e s) in
      let b : d ≡ e = cc in
      let c : r ≡ s = cc in
      λ i. Cell-F.Row (b i) (c i)
  row_same d r z p = absurd (omega (arith, p.kinds))

  base_same : (z : Cell-F Cell Letter Simplex) → Parts Cell-F.Base z → Cell-F.Base ≡ z
  base_same Cell-F.Base p = refl
  base_same z p = absurd (omega (arith, p.kinds))

  top_same : (n : ℕ) (z : Cell-F Cell Letter Simplex) → Parts (Cell-F.Top n) z → Cell-F.Top n ≡ z
  top_same n (Cell-F.Top m) p =
      let a : pos n ≡ pos m = ap pos (sym (ap dim_of (rolls-Top n) ∙ dim-Top n)) ∙ p.dims ∙ ap pos (ap dim_of (rolls-Top m) ∙ dim-Top m) in
      let b : n ≡ m = cc in
      ap Cell-F.Top b
  top_same n z p = absurd (omega (arith, p.kinds))

  pair_same : (a b : S'') (z : Cell-F Cell Letter Simplex) → Parts (whole (Cell-F.Pair a b)) z → whole (Cell-F.Pair a b) ≡ z
  unfolding contents_in
  pair_same a b (Cell-F.Pair c d) p =
      let q : simplex_before (f'' a) (forest (f'' a).cell) (simplex_before (f'' b) (forest (f'' b).cell) end) ≡ simplex_before c (forest c.cell) (simplex_before d (forest d.cell) end) = p.insides in
      let m : pos (f'' a).degens.mask ≡ pos c.degens.mask = cc in
      let n : pos (f'' b).degens.mask ≡ pos d.degens.mask = cc in
      let g : forest (f'' a).cell ≡ forest c.cell = cc in
      let h : forest (f'' b).cell ≡ forest d.cell = cc in
      λ i. Cell-F.Pair (simplex_same (f'' a) c m (told'' a c.cell g) i) (simplex_same (f'' b) d n (told'' b d.cell h) i)
  pair_same a b z p = absurd (omega (arith, p.kinds))

  up_same : (c : S) (z : Cell-F Cell Letter Simplex) → Parts (whole (Cell-F.Up c)) z → whole (Cell-F.Up c) ≡ z
  unfolding contents_in
  up_same c (Cell-F.Up d) p = ap Cell-F.Up (told c d p.insides)
  up_same c z p = absurd (omega (arith, p.kinds))

  integers_same : (a : List ℤ) (z : Cell-F Cell Letter Simplex) → Parts (Cell-F.Ints a) z → Cell-F.Ints a ≡ z
  unfolding contents_in
  integers_same a (Cell-F.Ints b) p =
      let q : number (length a) (ints_forest a) ≡ number (length b) (ints_forest b) = p.insides in
      let r : ints_forest a ≡ ints_forest b = cc in
      ap Cell-F.Ints (ints_same a b r)
  integers_same a z p = absurd (omega (arith, p.kinds))

  word_same : (w : List S') (z : Cell-F Cell Letter Simplex) → Parts (whole (Cell-F.Word w)) z → whole (Cell-F.Word w) ≡ z
  unfolding contents_in
  word_same w (Cell-F.Word v) p =
      let q : number (length (map f' w)) (letters_forest (map with_forest (map f' w))) ≡ number (length v) (letters_forest (map with_forest v)) = p.insides in
      let r : letters_forest (map with_forest (map f' w)) ≡ letters_forest (map with_forest v) = cc in
      ap Cell-F.Word (letters_same w v r)
  word_same w z p = absurd (omega (arith, p.kinds))

  level_same : (y : Cell-F S S' S'') (z : Cell-F Cell Letter Simplex) → Parts (whole y) z → whole y ≡ z
  level_same (Cell-F.Row d r) z p = row_same d r z p
  level_same Cell-F.Base z p = base_same z p
  level_same (Cell-F.Top n) z p = top_same n z p
  level_same (Cell-F.Pair a b) z p = pair_same a b z p
  level_same (Cell-F.Up c) z p = up_same c z p
  level_same (Cell-F.Ints a) z p = integers_same a z p
  level_same (Cell-F.Word w) z p = word_same w z p

  level_told : (y : Cell-F S S' S'') → Told (roll-Cell (whole y))
  level_told y d e =
      let g : forest (roll-Cell (whole y)) ≡ forest (roll-Cell (out-Cell d)) = e ∙ ap forest (sym (roll-out-Cell d)) in
      ap roll-Cell (level_same y (out-Cell d) (parts (whole y) (out-Cell d) g)) ∙ roll-out-Cell d

pub told_by_forest : (c : Cell) → Told c
told_by_forest c =
    ind-Cell Told (λ l. Told l.simplex.cell) (λ x. Told x.cell)
    (λ x y e. subst (λ z. Told (roll-Cell z)) e (level_told _ _ _ (λ s. s.0) (λ s. s.0) (λ s. s.0) (λ s. s.1) (λ s. s.1) (λ s. s.1) y))
    (λ x y e. let Q : Letter-F Cell Letter Simplex → Type 0 = λ z. Told z.simplex.cell in subst Q e y.simplex.1)
    (λ x y e. let Q : Simplex-F Cell Letter Simplex → Type 0 = λ z. Told z.cell in subst Q e y.cell.1)
    c

pub one_cell : (c d : Cell) → cell_cmp c d ≡ Equal → c ≡ d
one_cell c d e = told_by_forest c d (forest_is (forest c) (forest d) e)

pub one_simplex : (x y : Simplex) → simplex_cmp x y ≡ Equal → x ≡ y
one_simplex x y e =
    let f : simplex_before x (forest x.cell) end ≡ simplex_before y (forest y.cell) end = forest_is _ _ e in
    let g : pos x.degens.mask ≡ pos y.degens.mask = cc in
    let h : forest x.cell ≡ forest y.cell = cc in
    simplex_same x y g (told_by_forest x.cell y.cell h)

pub one_letter : (l m : Letter) → letter_cmp l m ≡ Equal → l ≡ m
one_letter l m e =
    let f : number (cond l.inverse 1 0) (simplex_before l.simplex (forest l.simplex.cell) end) ≡ number (cond m.inverse 1 0) (simplex_before m.simplex (forest m.simplex.cell) end) = forest_is _ _ e in
    let a : pos (cond l.inverse 1 0) ≡ pos (cond m.inverse 1 0) = cc in
    let g : pos l.simplex.degens.mask ≡ pos m.simplex.degens.mask = cc in
    let h : forest l.simplex.cell ≡ forest m.simplex.cell = cc in
    λ i. record { inverse = cond_same l.inverse m.inverse a i; simplex = simplex_same l.simplex m.simplex g (told_by_forest l.simplex.cell m.simplex.cell h) i }
