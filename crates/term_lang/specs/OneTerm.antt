-- Terms that compare as equal are the same, and so are the rows of tables: each is told by its forest.
use Rattle.std.proofs.Common.{◌≡◌, ℕ, List, [], ◌∷◌, refl, sym, ◌∙◌, ap, subst, ℤ, pos, arith}
use Rattle.std.specs.declared.cmp.Ordering.TheVariants.{Equal}
use Rattle.cells.specs.Forests.{Forest}
use Rattle.cells.specs.Order.{number, ints_forest}
use Rattle.cells.specs.ForestLaws.{forest_is}
use Rattle.cells.proofs.OneKey.{degens_same}
use Rattle.term_lang.specs.declared.tables.TableFace.{TableFace}
use Rattle.term_lang.specs.declared.tables.Row.{Row}
use Rattle.term_lang.specs.declared.terms.Term.{Term, fold-roll-Term, roll-Term, out-Term, roll-out-Term, map-Term, ind-Term}
use Rattle.term_lang.specs.declared.terms.Term.TheOpen.{Term-F}
use Rattle.term_lang.specs.TermOrder.{bytes_forest, faces_forest, rows_forest, kind_in, forest_step, forest, term_cmp, table_cmp}

pub rolled : (x : Term-F Term) → forest (roll-Term x) ≡ forest_step (map-Term Term Forest forest x)
unfolding forest
rolled x = fold-roll-Term Forest forest_step x

pub kinds : (x : Term-F Term) → kind_in (map-Term Term Forest forest x) ≡ kind_in x
kinds (Term-F.Table rows) = refl
kinds (Term-F.Sphere m) = refl
kinds (Term-F.Product a b) = refl
kinds (Term-F.Suspension a) = refl
kinds Term-F.KZ1 = refl
kinds (Term-F.Bundle rows values) = refl
kinds (Term-F.Loop a) = refl
kinds (Term-F.Path a) = refl

bytes_same : (a b : List ℕ) → bytes_forest a ≡ bytes_forest b → a ≡ b
bytes_same [] [] e = refl
bytes_same [] (y ∷ b) e = absurd (cc)
bytes_same (x ∷ a) [] e = absurd (cc)
bytes_same (x ∷ a) (y ∷ b) e =
    let p : pos x ≡ pos y = cc in
    let f : x ≡ y = cc in
    let g : bytes_forest a ≡ bytes_forest b = cc in
    λ i. f i ∷ bytes_same a b g i

ints_same : (a b : List ℤ) → ints_forest a ≡ ints_forest b → a ≡ b
ints_same [] [] e = refl
ints_same [] (y ∷ b) e = absurd (cc)
ints_same (x ∷ a) [] e = absurd (cc)
ints_same (x ∷ a) (y ∷ b) e = let f : x ≡ y = cc in let g : ints_forest a ≡ ints_forest b = cc in λ i. f i ∷ ints_same a b g i

faces_same : (a b : List TableFace) → faces_forest a ≡ faces_forest b → a ≡ b
faces_same [] [] e = refl
faces_same [] (y ∷ b) e = absurd (cc)
faces_same (x ∷ a) [] e = absurd (cc)
faces_same (x ∷ a) (y ∷ b) e =
    let p : pos x.degens.mask ≡ pos y.degens.mask = cc in
    let q : pos x.row ≡ pos y.row = cc in
    let f : x.degens.mask ≡ y.degens.mask = cc in
    let g : x.row ≡ y.row = cc in
    let h : faces_forest a ≡ faces_forest b = cc in
    λ i. record { degens = degens_same x.degens y.degens f i; row = g i } ∷ faces_same a b h i

rows_same : (a b : List Row) → rows_forest a ≡ rows_forest b → a ≡ b
rows_same [] [] e = refl
rows_same [] (y ∷ b) e = absurd (cc)
rows_same (x ∷ a) [] e = absurd (cc)
rows_same (x ∷ a) (y ∷ b) e =
    let p : pos x.dim ≡ pos y.dim = cc in
    let f : x.dim ≡ y.dim = cc in
    let g : bytes_forest x.name ≡ bytes_forest y.name = cc in
    let h : faces_forest x.faces ≡ faces_forest y.faces = cc in
    let k : rows_forest a ≡ rows_forest b = cc in
    λ i. record { name = bytes_same x.name y.name g i; dim = f i; faces = faces_same x.faces y.faces h i } ∷ rows_same a b k i

abbrev Told : Term → Type 0
Told t = (u : Term) → forest t ≡ forest u → t ≡ u

module _ (S : Type 0) (f : S → Term) (told : (s : S) → Told (f s)) where
  abbrev level : Term-F S → Term-F Term
  level y = map-Term S Term f y

  abbrev of_layer : Term-F Term → Forest
  of_layer z = forest_step (map-Term Term Forest forest z)

  layer_told : (y : Term-F S) (z : Term-F Term) → of_layer (level y) ≡ of_layer z → pos (kind_in (level y)) ≡ pos (kind_in z) → level y ≡ z
  layer_told (Term-F.Table r) (Term-F.Table s) e k = let g : rows_forest r ≡ rows_forest s = cc in ap Term-F.Table (rows_same r s g)
  layer_told (Term-F.Sphere m) (Term-F.Sphere n) e k = let p : pos m ≡ pos n = cc in let g : m ≡ n = cc in ap Term-F.Sphere g
  layer_told (Term-F.Product a b) (Term-F.Product c d) e k =
      let g : forest (f a) ≡ forest c = cc in
      let h : forest (f b) ≡ forest d = cc in
      λ i. Term-F.Product (told a c g i) (told b d h i)
  layer_told (Term-F.Suspension a) (Term-F.Suspension c) e k = let g : forest (f a) ≡ forest c = cc in ap Term-F.Suspension (told a c g)
  layer_told Term-F.KZ1 Term-F.KZ1 e k = refl
  layer_told (Term-F.Bundle r v) (Term-F.Bundle s w) e k =
      let g : rows_forest r ≡ rows_forest s = cc in
      let h : ints_forest v ≡ ints_forest w = cc in
      λ i. Term-F.Bundle (rows_same r s g i) (ints_same v w h i)
  layer_told (Term-F.Loop a) (Term-F.Loop c) e k = let g : forest (f a) ≡ forest c = cc in ap Term-F.Loop (told a c g)
  layer_told (Term-F.Path a) (Term-F.Path c) e k = let g : forest (f a) ≡ forest c = cc in ap Term-F.Path (told a c g)
  layer_told y z e k = absurd (let n : kind_in (level y) ≡ kind_in z = cc in omega (arith, n))

  first_number : (a b : ℕ) (x y : Forest) → number a x ≡ number b y → pos a ≡ pos b
  first_number a b x y e = cc

  level_told : (y : Term-F S) → Told (roll-Term (level y))
  level_told y u e =
      let g : of_layer (level y) ≡ of_layer (out-Term u) = sym (rolled (level y)) ∙ e ∙ ap forest (sym (roll-out-Term u)) ∙ rolled (out-Term u) in
      let k = first_number (kind_in (map-Term Term Forest forest (level y))) (kind_in (map-Term Term Forest forest (out-Term u))) _ _ g in
      ap roll-Term (layer_told y (out-Term u) g (ap pos (sym (kinds (level y))) ∙ k ∙ ap pos (kinds (out-Term u)))) ∙ roll-out-Term u

pub told_by_forest : (t u : Term) → forest t ≡ forest u → t ≡ u
told_by_forest t = ind-Term Told (λ x y e. subst (λ z. Told (roll-Term z)) e (level_told _ (λ s. s.0) (λ s. s.1) y)) t

pub one_term : (t u : Term) → term_cmp t u ≡ Equal → t ≡ u
one_term t u e = told_by_forest t u (forest_is (forest t) (forest u) e)

pub one_table : (a b : List Row) → table_cmp a b ≡ Equal → a ≡ b
one_table a b e = rows_same a b (forest_is (rows_forest a) (rows_forest b) e)
