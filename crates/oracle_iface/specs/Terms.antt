-- The term that names a space: the same tree of constructions, with the rows of the code in place of those of the table. Spaces that no
-- term names yet have that of K(Z,1).
--
--   `loops (sphere 3)` has the term Loop of Sphere(3)
use Rattle.std.specs.Prelude.{ℕ, ◌+◌, ◌^◌, List, [], ◌∷◌, map}
use Rattle.spaces.specs.Tables.{Row as TableRow, RowSimplex}
use Rattle.spaces.specs.Spaces.{Space, table, sphere, product, suspension, kz1, bundle, loops, paths, kzm1, cyclic_bundle}
use Rattle.term_lang.specs.declared.tables.TableFace.{TableFace}
use Rattle.term_lang.specs.declared.tables.Row.{Row}
use Rattle.term_lang.specs.declared.terms.Term.{Term}
use Rattle.term_lang.specs.declared.terms.Term.TheVariants.{Table as TableTerm, Sphere, Product, Suspension, KZ1, Bundle, Loop, Path}
use Rattle.term_lang.specs.Quote.{degens_of}

-- the mask of a word of degeneracies
abbrev pub word_mask : List ℕ → ℕ
word_mask [] = 0
word_mask (j ∷ w) = 2 ^ j + word_mask w

abbrev pub face_back : RowSimplex → TableFace
face_back x = record { degens = degens_of (word_mask x.0); row = x.1 }

abbrev pub row_back : TableRow → Row
row_back r = record { name = r.name; dim = r.dim; faces = map face_back r.faces }

abbrev pub term_of : Space → Term
term_of (table t) = TableTerm (map row_back t)
term_of (sphere m) = Sphere m
term_of (product a b) = Product (term_of a) (term_of b)
term_of (suspension a) = Suspension (term_of a)
term_of kz1 = KZ1
term_of (bundle t c) = Bundle (map row_back t) c
term_of (loops a) = Loop (term_of a)
term_of (paths a) = Path (term_of a)
term_of (kzm1 m) = KZ1
term_of (cyclic_bundle t m c) = KZ1
