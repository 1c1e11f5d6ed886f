-- How the terms of each kind compare.
use Rattle.std.proofs.Common.{◌≡◌, ℕ, true, List, [], ◌∷◌, refl, sym, ◌∙◌, ap, ℤ, pos, true≢false}
use Rattle.std.specs.Ordering.{nat_cmp, int_cmp, ordering_then, is_ne}
use Rattle.std.specs.Cmp.Lexicographic.{slice_cmp}
use Rattle.std.specs.declared.cmp.Ordering.{Ordering}
use Rattle.std.specs.declared.cmp.Ordering.TheVariants.{Less, Equal, Greater}
use Rattle.cells.specs.Forests.{Forest, end, item, forest_cmp}
use Rattle.cells.specs.Order.{number, ints_forest}
use Rattle.cells.proofs.EqualForests.{positive}
use Rattle.cells.proofs.Compared.{alone_then, then_assoc}
use Rattle.term_lang.specs.declared.tables.TableFace.{TableFace}
use Rattle.term_lang.specs.declared.tables.Row.{Row}
use Rattle.term_lang.specs.declared.terms.Term.{Term, out-Term, roll-out-Term, map-Term}
use Rattle.term_lang.specs.declared.terms.Term.TheVariants.{Table, Sphere, Product, Suspension, KZ1, Bundle, Loop, Path, rolls-Table, rolls-Sphere, rolls-Product, rolls-Suspension, rolls-KZ1, rolls-Bundle, rolls-Loop, rolls-Path}
use Rattle.term_lang.specs.declared.terms.Term.TheOpen.{Term-F}
pub use Rattle.term_lang.specs.OneTerm.{one_term}
use Rattle.term_lang.specs.OneTerm.{rolled, kinds}
use Rattle.term_lang.specs.TermOrder.{bytes_forest, faces_forest, rows_forest, kind_of, contents_in, forest, term_cmp}

-- ---- the forest of each kind

whole : Term-F Term → Term-F Forest
whole x = map-Term Term Forest forest x

pub tables : (a b : List Row) → term_cmp (Table a) (Table b) ≡ forest_cmp (rows_forest a) (rows_forest b)
tables a b = λ i. forest_cmp (at a i) (at b i)
  where
    at : (a : List Row) → forest (Table a) ≡ number 0 (rows_forest a)
    at a = ap forest (sym (rolls-Table a)) ∙ rolled (Term-F.Table a)

pub spheres : (m n : ℕ) → term_cmp (Sphere m) (Sphere n) ≡ nat_cmp m n
spheres m n = (λ i. forest_cmp (at m i) (at n i)) ∙ alone_then (int_cmp (pos m) (pos n)) ∙ positive m n
  where
    at : (m : ℕ) → forest (Sphere m) ≡ number 1 (number m end)
    at m = ap forest (sym (rolls-Sphere m)) ∙ rolled (Term-F.Sphere m)

pub products : (a x b y : Term) → term_cmp (Product a x) (Product b y) ≡ ordering_then (term_cmp a b) (term_cmp x y)
products a x b y = (λ i. forest_cmp (at a x i) (at b y i)) ∙ ap (ordering_then (term_cmp a b)) (alone_then (term_cmp x y))
  where
    at : (a x : Term) → forest (Product a x) ≡ number 2 (item (pos 0) (forest a) (item (pos 0) (forest x) end))
    at a x = ap forest (sym (rolls-Product a x)) ∙ rolled (Term-F.Product a x)

pub suspensions : (a b : Term) → term_cmp (Suspension a) (Suspension b) ≡ term_cmp a b
suspensions a b = λ i. forest_cmp (at a i) (at b i)
  where
    at : (a : Term) → forest (Suspension a) ≡ number 3 (forest a)
    at a = ap forest (sym (rolls-Suspension a)) ∙ rolled (Term-F.Suspension a)

pub kz1s : term_cmp KZ1 KZ1 ≡ Equal
kz1s = let at : forest KZ1 ≡ number 4 end = ap forest (sym rolls-KZ1) ∙ rolled Term-F.KZ1 in λ i. forest_cmp (at i) (at i)

pub bundles : (a b : List Row) (v w : List ℤ) → term_cmp (Bundle a v) (Bundle b w) ≡ ordering_then (forest_cmp (rows_forest a) (rows_forest b)) (forest_cmp (ints_forest v) (ints_forest w))
bundles a b v w = λ i. forest_cmp (at a v i) (at b w i)
  where
    at : (a : List Row) (v : List ℤ) → forest (Bundle a v) ≡ number 5 (item (pos 0) (rows_forest a) (ints_forest v))
    at a v = ap forest (sym (rolls-Bundle a v)) ∙ rolled (Term-F.Bundle a v)

pub loop_groups : (a b : Term) → term_cmp (Loop a) (Loop b) ≡ term_cmp a b
loop_groups a b = λ i. forest_cmp (at a i) (at b i)
  where
    at : (a : Term) → forest (Loop a) ≡ number 6 (forest a)
    at a = ap forest (sym (rolls-Loop a)) ∙ rolled (Term-F.Loop a)

pub path_spaces : (a b : Term) → term_cmp (Path a) (Path b) ≡ term_cmp a b
path_spaces a b = λ i. forest_cmp (at a i) (at b i)
  where
    at : (a : Term) → forest (Path a) ≡ number 7 (forest a)
    at a = ap forest (sym (rolls-Path a)) ∙ rolled (Term-F.Path a)

-- ---- kinds decide first

contents : Term → Forest
contents t = contents_in (whole (out-Term t))

headed : (t : Term) → forest t ≡ number (kind_of t) (contents t)
unfolding contents whole
headed t = ap forest (sym (roll-out-Term t)) ∙ rolled (out-Term t) ∙ ap (λ k. number k (contents t)) (kinds (out-Term t))

is_not_equal : (o z : Ordering) → is_ne o ≡ true → o ≡ ordering_then o z
is_not_equal Less z h = refl
is_not_equal Equal z h = absurd (true≢false (sym h))
is_not_equal Greater z h = refl

pub by_kinds : (t u : Term) (b : Ordering) → b ≡ nat_cmp (kind_of t) (kind_of u) → is_ne b ≡ true → b ≡ term_cmp t u
by_kinds t u b e h =
    is_not_equal b (forest_cmp (contents t) (contents u)) h ∙ ap (λ o. ordering_then o (forest_cmp (contents t) (contents u))) (e ∙ sym (positive (kind_of t) (kind_of u)))
    ∙ sym (λ i. forest_cmp (headed t i) (headed u i))

pub by_contents : (t u y z : Term) (r : Ordering) → t ≡ y → u ≡ z → r ≡ term_cmp y z → r ≡ term_cmp t u
by_contents t u y z r p q e = e ∙ (λ i. term_cmp (sym p i) (sym q i))

-- ---- lists compare as their forests

pub ints_cmp : (a b : List ℤ) → slice_cmp int_cmp a b ≡ forest_cmp (ints_forest a) (ints_forest b)
ints_cmp [] [] = refl
ints_cmp [] (y ∷ b) = refl
ints_cmp (x ∷ a) [] = refl
ints_cmp (x ∷ a) (y ∷ b) = ap (ordering_then (int_cmp x y)) (ints_cmp a b)

bytes_cmp : (a b : List ℕ) → slice_cmp nat_cmp a b ≡ forest_cmp (bytes_forest a) (bytes_forest b)
bytes_cmp [] [] = refl
bytes_cmp [] (y ∷ b) = refl
bytes_cmp (x ∷ a) [] = refl
bytes_cmp (x ∷ a) (y ∷ b) = λ i. ordering_then (sym (positive x y) i) (bytes_cmp a b i)

-- faces and rows compare field by field
abbrev pub face_by : TableFace → TableFace → Ordering
face_by f g = ordering_then (nat_cmp f.degens.mask g.degens.mask) (nat_cmp f.row g.row)

abbrev pub row_by : Row → Row → Ordering
row_by r s = ordering_then (slice_cmp nat_cmp r.name s.name) (ordering_then (nat_cmp r.dim s.dim) (slice_cmp face_by r.faces s.faces))

faces_cmp : (a b : List TableFace) → slice_cmp face_by a b ≡ forest_cmp (faces_forest a) (faces_forest b)
faces_cmp [] [] = refl
faces_cmp [] (y ∷ b) = refl
faces_cmp (x ∷ a) [] = refl
faces_cmp (x ∷ a) (y ∷ b) =
    sym (then_assoc (nat_cmp x.degens.mask y.degens.mask) (nat_cmp x.row y.row) (slice_cmp face_by a b))
    ∙ (λ i. ordering_then (sym (positive x.degens.mask y.degens.mask) i) (ordering_then (sym (positive x.row y.row) i) (faces_cmp a b i)))

pub rows_cmp : (a b : List Row) → slice_cmp row_by a b ≡ forest_cmp (rows_forest a) (rows_forest b)
rows_cmp [] [] = refl
rows_cmp [] (y ∷ b) = refl
rows_cmp (x ∷ a) [] = refl
rows_cmp (x ∷ a) (y ∷ b) =
    sym (then_assoc (slice_cmp nat_cmp x.name y.name) (ordering_then (nat_cmp x.dim y.dim) (slice_cmp face_by x.faces y.faces)) (slice_cmp row_by a b))
    ∙ ap (ordering_then (slice_cmp nat_cmp x.name y.name)) (sym (then_assoc (nat_cmp x.dim y.dim) (slice_cmp face_by x.faces y.faces) (slice_cmp row_by a b)))
    ∙ (λ i. ordering_then (bytes_cmp x.name y.name i) (ordering_then (sym (positive x.dim y.dim) i) (ordering_then (faces_cmp x.faces y.faces i) (rows_cmp a b i))))
