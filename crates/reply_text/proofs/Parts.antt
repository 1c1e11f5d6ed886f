-- The spaces of the parts of a cell, for each kind of term.
use Rattle.std.proofs.Common.{◌≡◌, ℕ, List, sym, ◌∙◌, ap, ℤ}
use Rattle.spaces.specs.Spaces.{table, kz1, loops}
use Rattle.term_lang.specs.declared.tables.Row.{Row}
use Rattle.term_lang.specs.declared.terms.Term.{Term}
use Rattle.term_lang.specs.declared.terms.Term.TheVariants.{Table, Sphere, Product, Suspension, KZ1, Bundle, Loop, Path}
use Rattle.term_lang.specs.Rows.{rows_of}
use Rattle.term_lang.specs.SpaceOf.{space_of}
use Rattle.term_lang.proofs.SpacesOfTerms.{space-Table, space-Sphere, space-Product, space-Suspension, space-KZ1, space-Bundle, space-Loop, space-Path}
use Rattle.reply_text.specs.CellText.{left_part, right_part, part_below}

pub left_table : (rows : List Row) → left_part (space_of (Table rows)) ≡ space_of (Table rows)
left_table rows = ap left_part (space-Table rows) ∙ sym (space-Table rows)

pub left_sphere : (m : ℕ) → left_part (space_of (Sphere m)) ≡ space_of (Sphere m)
left_sphere m = ap left_part (space-Sphere m) ∙ sym (space-Sphere m)

pub left_product : (a b : Term) → left_part (space_of (Product a b)) ≡ space_of a
left_product a b = ap left_part (space-Product a b)

pub left_suspension : (a : Term) → left_part (space_of (Suspension a)) ≡ space_of (Suspension a)
left_suspension a = ap left_part (space-Suspension a) ∙ sym (space-Suspension a)

pub left_kz1 : left_part (space_of KZ1) ≡ space_of KZ1
left_kz1 = ap left_part space-KZ1 ∙ sym space-KZ1

pub left_bundle : (rows : List Row) (values : List ℤ) → left_part (space_of (Bundle rows values)) ≡ table (rows_of rows)
left_bundle rows values = ap left_part (space-Bundle rows values)

pub left_loop : (a : Term) → left_part (space_of (Loop a)) ≡ space_of (Loop a)
left_loop a = ap left_part (space-Loop a) ∙ sym (space-Loop a)

pub left_path : (a : Term) → left_part (space_of (Path a)) ≡ space_of a
left_path a = ap left_part (space-Path a)

pub right_table : (rows : List Row) → right_part (space_of (Table rows)) ≡ space_of (Table rows)
right_table rows = ap right_part (space-Table rows) ∙ sym (space-Table rows)

pub right_sphere : (m : ℕ) → right_part (space_of (Sphere m)) ≡ space_of (Sphere m)
right_sphere m = ap right_part (space-Sphere m) ∙ sym (space-Sphere m)

pub right_product : (a b : Term) → right_part (space_of (Product a b)) ≡ space_of b
right_product a b = ap right_part (space-Product a b)

pub right_suspension : (a : Term) → right_part (space_of (Suspension a)) ≡ space_of (Suspension a)
right_suspension a = ap right_part (space-Suspension a) ∙ sym (space-Suspension a)

pub right_kz1 : right_part (space_of KZ1) ≡ space_of KZ1
right_kz1 = ap right_part space-KZ1 ∙ sym space-KZ1

pub right_bundle : (rows : List Row) (values : List ℤ) → right_part (space_of (Bundle rows values)) ≡ kz1
right_bundle rows values = ap right_part (space-Bundle rows values)

pub right_loop : (a : Term) → right_part (space_of (Loop a)) ≡ space_of (Loop a)
right_loop a = ap right_part (space-Loop a) ∙ sym (space-Loop a)

pub right_path : (a : Term) → right_part (space_of (Path a)) ≡ loops (space_of a)
right_path a = ap right_part (space-Path a)

pub below_table : (rows : List Row) → part_below (space_of (Table rows)) ≡ space_of (Table rows)
below_table rows = ap part_below (space-Table rows) ∙ sym (space-Table rows)

pub below_sphere : (m : ℕ) → part_below (space_of (Sphere m)) ≡ space_of (Sphere m)
below_sphere m = ap part_below (space-Sphere m) ∙ sym (space-Sphere m)

pub below_product : (a b : Term) → part_below (space_of (Product a b)) ≡ space_of (Product a b)
below_product a b = ap part_below (space-Product a b) ∙ sym (space-Product a b)

pub below_suspension : (a : Term) → part_below (space_of (Suspension a)) ≡ space_of a
below_suspension a = ap part_below (space-Suspension a)

pub below_kz1 : part_below (space_of KZ1) ≡ space_of KZ1
below_kz1 = ap part_below space-KZ1 ∙ sym space-KZ1

pub below_bundle : (rows : List Row) (values : List ℤ) → part_below (space_of (Bundle rows values)) ≡ space_of (Bundle rows values)
below_bundle rows values = ap part_below (space-Bundle rows values) ∙ sym (space-Bundle rows values)

pub below_loop : (a : Term) → part_below (space_of (Loop a)) ≡ space_of a
below_loop a = ap part_below (space-Loop a)

pub below_path : (a : Term) → part_below (space_of (Path a)) ≡ space_of (Path a)
below_path a = ap part_below (space-Path a) ∙ sym (space-Path a)
