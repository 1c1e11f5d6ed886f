-- Small cells that compare as equal are the same small cell.
use Rattle.std.proofs.Common.{◌≡◌, List, [], ◌∷◌, map, refl, sym, ◌∙◌, ap, subst, pos, arith}
use Rattle.std.specs.declared.cmp.Ordering.TheVariants.{Equal}
use Rattle.cells.specs.declared.cells.Cell.{Cell}
use Rattle.cells.specs.declared.cells.SmallCell.{SmallCell, roll-SmallCell, out-SmallCell, roll-out-SmallCell, map-SmallCell, ind-SmallCell}
use Rattle.cells.specs.declared.cells.SmallCell.TheOpen.{SmallCell-F}
use Rattle.cells.specs.Forests.{end, item}
use Rattle.cells.specs.Order.{number}
use Rattle.cells.specs.Small.{degree_of_small, below_each, small_forest, small_cmp, small_kind_in}
use Rattle.cells.specs.ForestLaws.{forest_is}
use Rattle.cells.proofs.OneKey.{told_by_forest}
use Rattle.cells.proofs.SmallForms.{small_contents_in, small_headed_in}

-- a small cell is told by its forest
abbrev Told : SmallCell → Type 0
Told c = (d : SmallCell) → small_forest c ≡ small_forest d → c ≡ d

record Parts (y z : SmallCell-F SmallCell) : Type 0 where
  pub kinds : small_kind_in y ≡ small_kind_in z
  pub insides : small_contents_in y ≡ small_contents_in z

parts : (y z : SmallCell-F SmallCell) → small_forest (roll-SmallCell y) ≡ small_forest (roll-SmallCell z) → Parts y z
parts y z e =
    let f : number (degree_of_small (roll-SmallCell y)) (number (small_kind_in y) (small_contents_in y)) ≡ number (degree_of_small (roll-SmallCell z)) (number (small_kind_in z) (small_contents_in z)) = sym (small_headed_in y) ∙ e ∙ small_headed_in z in
    record { kinds = cc; insides = cc }

module _ (S : Type 0) (f : S → SmallCell) (told : (s : S) → Told (f s)) where
  abbrev whole : SmallCell-F S → SmallCell-F SmallCell
  whole y = map-SmallCell S SmallCell f y

  each_same : (w : List S) (v : List SmallCell) → below_each (map (λ y. (y, small_forest y)) (map f w)) ≡ below_each (map (λ y. (y, small_forest y)) v) → map f w ≡ v
  each_same [] [] e = refl
  each_same [] (m ∷ v) e = absurd (cc)
  each_same (l ∷ w) [] e = absurd (cc)
  each_same (l ∷ w) (m ∷ v) e =
      let a : small_forest (f l) ≡ small_forest m = cc in
      let b : below_each (map (λ y. (y, small_forest y)) (map f w)) ≡ below_each (map (λ y. (y, small_forest y)) v) = cc in
      λ i. told l m a i ∷ each_same w v b i

  one_same : (c : Cell) (z : SmallCell-F SmallCell) → Parts (SmallCell-F.One c) z → SmallCell-F.One c ≡ z
  unfolding small_contents_in
  one_same c (SmallCell-F.One d) p = ap SmallCell-F.One (told_by_forest c d p.insides)
  one_same c z p = absurd (omega (arith, p.kinds))

  pair_same : (a b : S) (z : SmallCell-F SmallCell) → Parts (whole (SmallCell-F.Pair a b)) z → whole (SmallCell-F.Pair a b) ≡ z
  unfolding small_contents_in
  pair_same a b (SmallCell-F.Pair c d) p =
      let q : item (pos 0) (small_forest (f a)) (item (pos 0) (small_forest (f b)) end) ≡ item (pos 0) (small_forest c) (item (pos 0) (small_forest d) end) = p.insides in
      let g : small_forest (f a) ≡ small_forest c = cc in
      let h : small_forest (f b) ≡ small_forest d = cc in
      λ i. SmallCell-F.Pair (told a c g i) (told b d h i)
  pair_same a b z p = absurd (omega (arith, p.kinds))

  up_same : (c : S) (z : SmallCell-F SmallCell) → Parts (whole (SmallCell-F.Up c)) z → whole (SmallCell-F.Up c) ≡ z
  unfolding small_contents_in
  up_same c (SmallCell-F.Up d) p = ap SmallCell-F.Up (told c d p.insides)
  up_same c z p = absurd (omega (arith, p.kinds))

  word_same : (w : List S) (z : SmallCell-F SmallCell) → Parts (whole (SmallCell-F.Word w)) z → whole (SmallCell-F.Word w) ≡ z
  unfolding small_contents_in
  word_same w (SmallCell-F.Word v) p = ap SmallCell-F.Word (each_same w v p.insides)
  word_same w z p = absurd (omega (arith, p.kinds))

  level_same : (y : SmallCell-F S) (z : SmallCell-F SmallCell) → Parts (whole y) z → whole y ≡ z
  level_same (SmallCell-F.One c) z p = one_same c z p
  level_same (SmallCell-F.Pair a b) z p = pair_same a b z p
  level_same (SmallCell-F.Up c) z p = up_same c z p
  level_same (SmallCell-F.Word w) z p = word_same w z p

  level_told : (y : SmallCell-F S) → Told (roll-SmallCell (whole y))
  level_told y d e =
      let g : small_forest (roll-SmallCell (whole y)) ≡ small_forest (roll-SmallCell (out-SmallCell d)) = e ∙ ap small_forest (sym (roll-out-SmallCell d)) in
      ap roll-SmallCell (level_same y (out-SmallCell d) (parts (whole y) (out-SmallCell d) g)) ∙ roll-out-SmallCell d

pub small_told_by_forest : (c : SmallCell) → Told c
small_told_by_forest c = ind-SmallCell Told (λ x y e. subst (λ z. Told (roll-SmallCell z)) e (level_told _ (λ s. s.0) (λ s. s.1) y)) c

pub one_small : (c d : SmallCell) → small_cmp c d ≡ Equal → c ≡ d
one_small c d e = small_told_by_forest c d (forest_is (small_forest c) (small_forest d) e)
