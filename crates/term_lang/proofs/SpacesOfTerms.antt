-- The space of each kind of term, and that equal spaces come from equal terms.
use Rattle.std.proofs.Common.{◌≡◌, ℕ, List, [], ◌∷◌, map, sym, ◌∙◌, ap, subst, refl, arith, ℤ}
use Rattle.simp_ops.proofs.MaskWords.{places_told}
use Rattle.cells.proofs.OneKey.{degens_same}
use Rattle.spaces.specs.Tables.{Row as TableRow, RowSimplex}
use Rattle.spaces.specs.Spaces.{Space, table, sphere, product, suspension, kz1, bundle, loops, paths, kzm1, cyclic_bundle}
use Rattle.term_lang.specs.declared.tables.TableFace.{TableFace}
use Rattle.term_lang.specs.declared.tables.Row.{Row}
use Rattle.term_lang.specs.declared.terms.Term.{Term, fold-roll-Term, roll-Term, out-Term, roll-out-Term, map-Term, ind-Term}
use Rattle.term_lang.specs.declared.terms.Term.TheVariants.{Table, Sphere, Product, Suspension, KZ1, Bundle, Loop, Path, rolls-Table, rolls-Sphere, rolls-Product, rolls-Suspension, rolls-KZ1, rolls-Bundle, rolls-Loop, rolls-Path}
use Rattle.term_lang.specs.declared.terms.Term.TheOpen.{Term-F}
use Rattle.term_lang.specs.Rows.{face_of, row_of, rows_of}
use Rattle.term_lang.specs.SpaceOf.{space_of, space_step}

rolled : (x : Term-F Term) → space_of (roll-Term x) ≡ space_step (map-Term Term Space space_of x)
unfolding space_of
rolled x = fold-roll-Term Space space_step x

pub space-Table : (rows : List Row) → space_of (Table rows) ≡ table (rows_of rows)
space-Table rows = ap space_of (sym (rolls-Table rows)) ∙ rolled (Term-F.Table rows)

pub space-Sphere : (m : ℕ) → space_of (Sphere m) ≡ sphere m
space-Sphere m = ap space_of (sym (rolls-Sphere m)) ∙ rolled (Term-F.Sphere m)

pub space-Product : (a b : Term) → space_of (Product a b) ≡ product (space_of a) (space_of b)
space-Product a b = ap space_of (sym (rolls-Product a b)) ∙ rolled (Term-F.Product a b)

pub space-Suspension : (a : Term) → space_of (Suspension a) ≡ suspension (space_of a)
space-Suspension a = ap space_of (sym (rolls-Suspension a)) ∙ rolled (Term-F.Suspension a)

pub space-KZ1 : space_of KZ1 ≡ kz1
space-KZ1 = ap space_of (sym rolls-KZ1) ∙ rolled Term-F.KZ1

pub space-Bundle : (rows : List Row) (values : List ℤ) → space_of (Bundle rows values) ≡ bundle (rows_of rows) values
space-Bundle rows values = ap space_of (sym (rolls-Bundle rows values)) ∙ rolled (Term-F.Bundle rows values)

pub space-Loop : (a : Term) → space_of (Loop a) ≡ loops (space_of a)
space-Loop a = ap space_of (sym (rolls-Loop a)) ∙ rolled (Term-F.Loop a)

pub space-Path : (a : Term) → space_of (Path a) ≡ paths (space_of a)
space-Path a = ap space_of (sym (rolls-Path a)) ∙ rolled (Term-F.Path a)

-- ---- equal spaces come from equal terms

face_once : (f g : TableFace) → face_of f ≡ face_of g → f ≡ g
face_once f g e =
    let m : f.degens.mask ≡ g.degens.mask = places_told 32 f.degens.mask g.degens.mask f.degens.below_32 g.degens.below_32 (ap (λ (x : RowSimplex). x.0) e) in
    λ i. record { degens = degens_same f.degens g.degens m i; row = ap (λ (x : RowSimplex). x.1) e i }

faces_once : (f g : List TableFace) → map face_of f ≡ map face_of g → f ≡ g
faces_once [] [] e = refl
faces_once [] (y ∷ g) e = absurd (cc)
faces_once (x ∷ f) [] e = absurd (cc)
faces_once (x ∷ f) (y ∷ g) e =
    let a : face_of x ≡ face_of y = cc in
    let b : map face_of f ≡ map face_of g = cc in
    λ i. face_once x y a i ∷ faces_once f g b i

row_once : (r s : Row) → row_of r ≡ row_of s → r ≡ s
row_once r s e =
    let f : map face_of r.faces ≡ map face_of s.faces = ap (λ (x : TableRow). x.faces) e in
    λ i. record { name = ap (λ (x : TableRow). x.name) e i; dim = ap (λ (x : TableRow). x.dim) e i; faces = faces_once r.faces s.faces f i }

pub rows_once : (r s : List Row) → rows_of r ≡ rows_of s → r ≡ s
rows_once [] [] e = refl
rows_once [] (y ∷ s) e = absurd (cc)
rows_once (x ∷ r) [] e = absurd (cc)
rows_once (x ∷ r) (y ∷ s) e =
    let a : row_of x ≡ row_of y = cc in
    let b : rows_of r ≡ rows_of s = cc in
    λ i. row_once x y a i ∷ rows_once r s b i

kind : Space → ℕ
kind (table t) = 0
kind (sphere m) = 1
kind (product a b) = 2
kind (suspension a) = 3
kind kz1 = 4
kind (bundle t c) = 5
kind (loops a) = 6
kind (paths a) = 7
kind (kzm1 m) = 8
kind (cyclic_bundle t m c) = 9

abbrev Once : Term → Type 0
Once t = (u : Term) → space_of t ≡ space_of u → t ≡ u

-- one level of a term whose parts are told by their spaces
module _ (S : Type 0) (f : S → Term) (once : (s : S) → Once (f s)) where
  abbrev whole : Term-F S → Term-F Term
  whole y = map-Term S Term f y

  abbrev of_layer : Term-F Term → Space
  of_layer z = space_step (map-Term Term Space space_of z)

  layer_once : (y : Term-F S) (z : Term-F Term) → of_layer (whole y) ≡ of_layer z → kind (of_layer (whole y)) ≡ kind (of_layer z) → whole y ≡ z
  unfolding kind
  layer_once (Term-F.Table r) (Term-F.Table s) e k = let g : rows_of r ≡ rows_of s = cc in ap Term-F.Table (rows_once r s g)
  layer_once (Term-F.Sphere m) (Term-F.Sphere n) e k = let g : m ≡ n = cc in ap Term-F.Sphere g
  layer_once (Term-F.Product a b) (Term-F.Product c d) e k =
      let g : space_of (f a) ≡ space_of c = cc in
      let h : space_of (f b) ≡ space_of d = cc in
      λ i. Term-F.Product (once a c g i) (once b d h i)
  layer_once (Term-F.Suspension a) (Term-F.Suspension c) e k = let g : space_of (f a) ≡ space_of c = cc in ap Term-F.Suspension (once a c g)
  layer_once Term-F.KZ1 Term-F.KZ1 e k = refl
  layer_once (Term-F.Bundle r v) (Term-F.Bundle s w) e k =
      let g : rows_of r ≡ rows_of s = cc in
      let h : v ≡ w = cc in
      λ i. Term-F.Bundle (rows_once r s g i) (h i)
  layer_once (Term-F.Loop a) (Term-F.Loop c) e k = let g : space_of (f a) ≡ space_of c = cc in ap Term-F.Loop (once a c g)
  layer_once (Term-F.Path a) (Term-F.Path c) e k = let g : space_of (f a) ≡ space_of c = cc in ap Term-F.Path (once a c g)
  layer_once y z e k = absurd (omega (arith, k))

  level_once : (y : Term-F S) → Once (roll-Term (whole y))
  level_once y u e =
      let g : of_layer (whole y) ≡ of_layer (out-Term u) = sym (rolled (whole y)) ∙ e ∙ ap space_of (sym (roll-out-Term u)) ∙ rolled (out-Term u) in
      ap roll-Term (layer_once y (out-Term u) g (ap kind g)) ∙ roll-out-Term u

pub space_once : (t u : Term) → space_of t ≡ space_of u → t ≡ u
space_once t = ind-Term Once (λ x y e. subst (λ z. Once (roll-Term z)) e (level_once _ (λ s. s.0) (λ s. s.1) y)) t
