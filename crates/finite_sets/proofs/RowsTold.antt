-- Rows of the code are told apart by what they mean.
use Rattle.std.proofs.Common.{◌≡◌, List, [], ◌∷◌, map, refl, ap}
use Rattle.simp_ops.proofs.MaskWords.{places_told}
use Rattle.cells.proofs.OneKey.{degens_same}
use Rattle.spaces.specs.Tables.{Row as TableRow, RowSimplex}
use Rattle.term_lang.specs.declared.tables.Row.{Row}
use Rattle.term_lang.specs.declared.tables.TableFace.{TableFace}
use Rattle.term_lang.specs.Rows.{rows_of, row_of, face_of}

list_told : {A B : Type 0} (f : A → B) → ((x y : A) → f x ≡ f y → x ≡ y) → (xs ys : List A) → map f xs ≡ map f ys → xs ≡ ys
list_told f told [] [] e = refl
list_told f told [] (y ∷ ys) e = cc
list_told f told (x ∷ xs) [] e = cc
list_told f told (x ∷ xs) (y ∷ ys) e = let h : f x ≡ f y = cc in let t : map f xs ≡ map f ys = cc in λ i. told x y h i ∷ list_told f told xs ys t i

face_told : (f g : TableFace) → face_of f ≡ face_of g → f ≡ g
face_told f g e =
    let m : f.degens.mask ≡ g.degens.mask = places_told 32 f.degens.mask g.degens.mask f.degens.below_32 g.degens.below_32 (ap (λ (x : RowSimplex). x.0) e) in
    λ i. record { degens = degens_same f.degens g.degens m i; row = ap (λ (x : RowSimplex). x.1) e i }

row_told : (r s : Row) → row_of r ≡ row_of s → r ≡ s
row_told r s e = λ i. record {
  name = ap (λ (x : TableRow). x.name) e i;
  dim = ap (λ (x : TableRow). x.dim) e i;
  faces = list_told face_of face_told r.faces s.faces (ap (λ (x : TableRow). x.faces) e) i;
}

pub rows_told : (s t : List Row) → rows_of s ≡ rows_of t → s ≡ t
rows_told s t e = list_told row_of row_told s t e
