-- The names of rows, for each kind of term.
use Rattle.std.proofs.Common.{◌≡◌, ℕ, suc, zero, List, [], ◌∷◌, refl, ap, sym, ◌∙◌, ◌++◌, ℤ, Some, None, slice_get}
use Rattle.spaces.specs.Spaces.{table}
use Rattle.term_lang.specs.declared.tables.Row.{Row}
use Rattle.term_lang.specs.declared.terms.Term.{Term}
use Rattle.term_lang.specs.declared.terms.Term.TheVariants.{Table, Sphere, Product, Suspension, KZ1, Bundle, Loop, Path}
use Rattle.term_lang.specs.Rows.{rows_of}
use Rattle.term_lang.specs.SpaceOf.{space_of}
use Rattle.term_lang.proofs.SpacesOfTerms.{space-Table, space-Sphere, space-Product, space-Suspension, space-KZ1, space-Bundle, space-Loop, space-Path}
use Rattle.reply_text.specs.CellText.{row_text}

pub row_table : (rows : List Row) (row : ℕ) → row_text (space_of (Table rows)) row ≡ row_text (table (rows_of rows)) row
row_table rows row = ap (λ X. row_text X row) (space-Table rows)

row_sphere : (m : ℕ) (row : ℕ) → row_text (space_of (Sphere m)) row ≡ []
row_sphere m row = ap (λ X. row_text X row) (space-Sphere m)

row_product : (a b : Term) (row : ℕ) → row_text (space_of (Product a b)) row ≡ []
row_product a b row = ap (λ X. row_text X row) (space-Product a b)

row_suspension : (a : Term) (row : ℕ) → row_text (space_of (Suspension a)) row ≡ []
row_suspension a row = ap (λ X. row_text X row) (space-Suspension a)

row_kz1 : (row : ℕ) → row_text (space_of KZ1) row ≡ []
row_kz1 row = ap (λ X. row_text X row) space-KZ1

row_bundle : (rows : List Row) (values : List ℤ) (row : ℕ) → row_text (space_of (Bundle rows values)) row ≡ []
row_bundle rows values row = ap (λ X. row_text X row) (space-Bundle rows values)

row_loop : (a : Term) (row : ℕ) → row_text (space_of (Loop a)) row ≡ []
row_loop a row = ap (λ X. row_text X row) (space-Loop a)

row_path : (a : Term) (row : ℕ) → row_text (space_of (Path a)) row ≡ []
row_path a row = ap (λ X. row_text X row) (space-Path a)

nothing-after : (s : List ℕ) → s ++ [] ≡ s
nothing-after [] = refl
nothing-after (b ∷ s) = ap (λ t. b ∷ t) (nothing-after s)

nothing_more : (s t : List ℕ) → t ≡ [] → s ++ t ≡ s
nothing_more s t e = ap (λ u. s ++ u) e ∙ nothing-after s

pub kept_sphere : (m : ℕ) (row : ℕ) (s : List ℕ) → s ++ row_text (space_of (Sphere m)) row ≡ s
kept_sphere m row s = nothing_more s (row_text (space_of (Sphere m)) row) (row_sphere m row)

pub kept_product : (a b : Term) (row : ℕ) (s : List ℕ) → s ++ row_text (space_of (Product a b)) row ≡ s
kept_product a b row s = nothing_more s (row_text (space_of (Product a b)) row) (row_product a b row)

pub kept_suspension : (a : Term) (row : ℕ) (s : List ℕ) → s ++ row_text (space_of (Suspension a)) row ≡ s
kept_suspension a row s = nothing_more s (row_text (space_of (Suspension a)) row) (row_suspension a row)

pub kept_kz1 : (row : ℕ) (s : List ℕ) → s ++ row_text (space_of KZ1) row ≡ s
kept_kz1 row s = nothing_more s (row_text (space_of KZ1) row) (row_kz1 row)

pub kept_bundle : (rows : List Row) (values : List ℤ) (row : ℕ) (s : List ℕ) → s ++ row_text (space_of (Bundle rows values)) row ≡ s
kept_bundle rows values row s = nothing_more s (row_text (space_of (Bundle rows values)) row) (row_bundle rows values row)

pub kept_loop : (a : Term) (row : ℕ) (s : List ℕ) → s ++ row_text (space_of (Loop a)) row ≡ s
kept_loop a row s = nothing_more s (row_text (space_of (Loop a)) row) (row_loop a row)

pub kept_path : (a : Term) (row : ℕ) (s : List ℕ) → s ++ row_text (space_of (Path a)) row ≡ s
kept_path a row s = nothing_more s (row_text (space_of (Path a)) row) (row_path a row)

-- the name at a place, or none
pub name_at : (rows : List Row) (i : ℕ) (r : Row) → slice_get rows i ≡ Some r → row_text (table (rows_of rows)) i ≡ r.name
name_at [] i r e = absurd (cc)
name_at (q ∷ rows) zero r e = let f : q ≡ r = cc in ap (λ x. x.name) f
name_at (q ∷ rows) (suc i) r e = name_at rows i r e

no_name_at : (rows : List Row) (i : ℕ) → slice_get rows i ≡ None → row_text (table (rows_of rows)) i ≡ []
no_name_at [] i e = refl
no_name_at (q ∷ rows) zero e = absurd (cc)
no_name_at (q ∷ rows) (suc i) e = no_name_at rows i e

pub kept_outside : (rows : List Row) (i : ℕ) (s : List ℕ) → slice_get rows i ≡ None → s ≡ s ++ row_text (table (rows_of rows)) i
kept_outside rows i s e = sym (nothing_more s (row_text (table (rows_of rows)) i) (no_name_at rows i e))
