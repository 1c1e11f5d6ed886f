-- A cell of the torus of two circles, and one of the bundle of the value 1 over the 2-sphere.
use Rattle.std.proofs.Common.{◌≡◌, ℕ, ◌+◌, ◌^◌, ◌≤◌, List, [], ◌∷◌, length, refl, sym, ◌∙◌, ap, subst, arith, lit≤}
use Rattle.std.specs.Prelude.{pos}
use Rattle.simp_ops.specs.Words.{IsWord}
use Rattle.simp_ops.specs.Bits.{places, mask_word}
use Rattle.spaces.specs.Spaces.{Space, sphere, product, kz1, bundle}
use Rattle.spaces.specs.Allowed.{IsAllowed, IsTable}
use Rattle.cells.specs.declared.cells.Cell.TheVariants.{Row as RowCell, Top, Ints}
use Rattle.cells.specs.declared.cells.Simplex.{Simplex}
use Rattle.cells.specs.Dim.{degree_of}
use Rattle.term_lang.specs.declared.tables.Row.{Row}
use Rattle.term_lang.specs.declared.terms.Term.{Term}
use Rattle.term_lang.specs.declared.terms.Term.TheVariants.{Sphere, Product, Bundle}
use Rattle.term_lang.specs.Rows.{rows_of}
use Rattle.term_lang.specs.SpaceOf.{space_of}
use Rattle.term_lang.specs.Belongs.{IsCell, IsSimplex}
use Rattle.term_lang.proofs.SpacesOfTerms.{space-Sphere, space-Product, space-Bundle}
use Rattle.term_lang.proofs.CellForms.{is_cell-Top}
use Rattle.finite_sets.specs.Spheres.{IsSphereTable}
use Rattle.space_tests.proofs.SphereRows.{cell_simplex}
use Rattle.oracle_iface.specs.CodeSizes.{cell_integer}
use Rattle.oracle_iface.proofs.SizeRules.{integer_top, integer_row, integer_ints}
use Rattle.kz1_group.proofs.ListForms.{is_list}
use Rattle.normal_forms.specs.Built.{IsBuilt}
use Rattle.normal_forms.specs.Paired.{IsPaired}
use Rattle.normal_forms.proofs.BuiltForms.{built_forms}
use Rattle.normal_forms.proofs.BuiltPairs.{product_paired, bundle_paired}
use Rattle.normal_forms.proofs.PairedForms.{integers-paired}
use Rattle.space_faces.proofs.UpFaces.{simplex_from}

-- what is asked of a simplex
pub record Good (t : Term) (n : ℕ) (x : Simplex) : Type 0 where
  pub simplex : IsSimplex (space_of t) (degree_of x) x
  pub degree : degree_of x ≡ n
  pub integers : cell_integer x.cell ≤ 2 ^ 40

good : (t : Term) (X : Space) (n : ℕ) (x : Simplex) → space_of t ≡ X → IsAllowed X → IsBuilt X → n ≤ 32 → IsSimplex X n x → cell_integer x.cell ≤ 2 ^ 40 → Good t n x
good t X n x e is built most h k =
    let d : degree_of x ≡ n = (built_forms X is built n most).degree x h in
    record { simplex = subst (λ Z. IsSimplex Z (degree_of x) x) (sym e) (subst (λ m. IsSimplex X m x) (sym d) h); degree = d; integers = k }

-- ---- the torus

abbrev torus : Space
torus = product (sphere 1) (sphere 1)

circle-allowed : IsAllowed (sphere 1)
circle-allowed = ((lit≤ tt, lit≤ tt), lit≤ tt)

torus-is : (t : Term) → t ≡ Product (Sphere 1) (Sphere 1) → space_of t ≡ torus
torus-is t e = ap space_of e ∙ space-Product (Sphere 1) (Sphere 1) ∙ (λ i. product (space-Sphere 1 i) (space-Sphere 1 i))

torus-has : IsAllowed torus
torus-has = ((circle-allowed.0, circle-allowed.0), lit≤ tt)

pub torus-allowed : (t : Term) → t ≡ Product (Sphere 1) (Sphere 1) → IsAllowed (space_of t)
torus-allowed t e = subst IsAllowed (sym (torus-is t e)) torus-has

pub torus-built : (t : Term) → t ≡ Product (Sphere 1) (Sphere 1) → IsBuilt (space_of t)
torus-built t e = subst IsBuilt (sym (torus-is t e)) (tt, tt)

word_two : mask_word 2 ≡ 1 ∷ []
unfolding places
word_two = refl

word_one : mask_word 1 ≡ 0 ∷ []
unfolding places
word_one = refl

word_none : mask_word 0 ≡ []
unfolding places
word_none = refl

circle_simplex : (n : ℕ) (x : Simplex) (w : List ℕ) → mask_word x.degens.mask ≡ w → IsWord n w → 1 + length w ≡ n → x.cell ≡ Top 1 → IsSimplex (sphere 1) n x
circle_simplex n x w e word count cell =
    simplex_from (sphere 1) n 1 x (subst (IsWord n) (sym e) word) (ap (λ v. 1 + length v) e ∙ count)
    (subst (IsCell (sphere 1) 1) (sym cell) (ap (λ test. test (sphere 1) 1) (is_cell-Top 1)))

torus-good : (t : Term) (n : ℕ) (l r x : Simplex) → t ≡ Product (Sphere 1) (Sphere 1) → n ≤ 32 → IsSimplex (sphere 1) n l → IsSimplex (sphere 1) n r
    → l.cell ≡ Top 1 → r.cell ≡ Top 1 → IsPaired l r x → Good t n x
torus-good t n l r x e most h k u v p =
    let a : cell_integer l.cell ≡ 0 = ap cell_integer u ∙ integer_top 1 in
    let b : cell_integer r.cell ≡ 0 = ap cell_integer v ∙ integer_top 1 in
    good t torus n x (torus-is t e) torus-has (tt, tt) most (product_paired (sphere 1) (sphere 1) circle-allowed tt circle-allowed tt n most l r x p h k).0
    (omega (arith, integers-paired l r x p, a, b))

-- <1:S1,0:S1>
pub torus_two : (t : Term) (l r x : Simplex) → t ≡ Product (Sphere 1) (Sphere 1) → l.degens.mask ≡ 2 → l.cell ≡ Top 1 → r.degens.mask ≡ 1 → r.cell ≡ Top 1
    → IsPaired l r x → Good t 2 x
torus_two t l r x e lm lc rm rc p =
    torus-good t 2 l r x e (lit≤ tt) (circle_simplex 2 l (1 ∷ []) (ap mask_word lm ∙ word_two) (lit≤ tt, tt) refl lc)
    (circle_simplex 2 r (0 ∷ []) (ap mask_word rm ∙ word_one) (lit≤ tt, tt) refl rc) lc rc p

-- <S1,S1>
pub torus_one : (t : Term) (l r x : Simplex) → t ≡ Product (Sphere 1) (Sphere 1) → l.degens.mask ≡ 0 → l.cell ≡ Top 1 → r.degens.mask ≡ 0 → r.cell ≡ Top 1
    → IsPaired l r x → Good t 1 x
torus_one t l r x e lm lc rm rc p =
    torus-good t 1 l r x e (lit≤ tt) (circle_simplex 1 l [] (ap mask_word lm ∙ word_none) tt refl lc)
    (circle_simplex 1 r [] (ap mask_word rm ∙ word_none) tt refl rc) lc rc p

-- ---- the bundle of the value 1 over the 2-sphere

pub one-built : (t : Term) (rows : List Row) → t ≡ Bundle rows (pos 0 ∷ (pos 1 ∷ [])) → IsBuilt (space_of t)
one-built t rows e = subst IsBuilt (sym (ap space_of e ∙ space-Bundle rows (pos 0 ∷ (pos 1 ∷ [])))) tt

five_simplex : (f : Simplex) → f.degens.mask ≡ 1 → f.cell ≡ Ints (pos 5 ∷ []) → IsSimplex kz1 2 f
five_simplex f m e =
    let w : mask_word f.degens.mask ≡ 0 ∷ [] = ap mask_word m ∙ word_one in
    simplex_from kz1 2 1 f (subst (IsWord 2) (sym w) (lit≤ tt, tt)) (ap (λ v. 1 + length v) w) (subst (IsCell kz1 1) (sym e) (is_list 1 (pos 5 ∷ []) refl refl))

-- <S2,0:|5|>
pub bundle_two : (t : Term) (rows : List Row) (b f x : Simplex) → IsAllowed (space_of t) → t ≡ Bundle rows (pos 0 ∷ (pos 1 ∷ [])) → IsTable (rows_of rows)
    → IsSphereTable 2 rows → b.degens.mask ≡ 0 → b.cell ≡ RowCell 2 1 → f.degens.mask ≡ 1
    → f.cell ≡ Ints (pos 5 ∷ []) → IsPaired b f x → Good t 2 x
bundle_two t rows b f x is e table_is sphere_is bm bc fm fc p =
    let values = pos 0 ∷ (pos 1 ∷ []) in
    let space : space_of t ≡ bundle (rows_of rows) values = ap space_of e ∙ space-Bundle rows values in
    let allowed : IsAllowed (bundle (rows_of rows) values) = subst IsAllowed space is in
    let u : cell_integer b.cell ≡ 0 = ap cell_integer bc ∙ integer_row 2 1 in
    let v : cell_integer f.cell ≡ 5 = ap cell_integer fc ∙ integer_ints (pos 5 ∷ []) in
    good t (bundle (rows_of rows) values) 2 x space allowed tt (lit≤ tt)
    (bundle_paired (rows_of rows) values allowed 2 (lit≤ tt) b f x p (cell_simplex (rows_of rows) table_is sphere_is.rows_are b bm bc) (five_simplex f fm fc)).0
    (omega (arith, integers-paired b f x p, u, v))
