-- The table of a base, as it is told.
use Rattle.std.proofs.Common.{◌≡◌, ℕ, ◌≤◌, inl, inr, List, [], ◌∷◌, map, Option, Some, None, refl, sym, ◌∙◌, ap, subst}
use Rattle.spaces.specs.Tables.{Table, sphere_rows}
use Rattle.spaces.specs.Spaces.{Space, table, sphere, product, suspension, kz1, bundle, loops, paths, kzm1, cyclic_bundle}
use Rattle.spaces.specs.Allowed.{IsAllowed, IsTable}
use Rattle.term_lang.specs.declared.tables.Row.{Row}
use Rattle.term_lang.specs.declared.terms.Term.{Term}
use Rattle.term_lang.specs.declared.terms.Term.TheVariants.{Sphere}
use Rattle.term_lang.specs.Rows.{rows_of}
use Rattle.term_lang.specs.SpaceOf.{space_of}
use Rattle.term_lang.proofs.SpacesOfTerms.{space-Table, space-Sphere}
use Rattle.finite_sets.specs.Spheres.{name_in, unnamed, sphere_names}
use Rattle.finite_sets.specs.Bases.{IsBaseTable, HasNoTable}
use Rattle.finite_sets.proofs.SphereRows.{sphere_is_table}
use Rattle.oracle_iface.specs.Terms.{term_of}
use Rattle.oracle_iface.proofs.Named.{term-back}
use Rattle.reply_text.specs.declared.refusals.Refusal.TheVariants.{BaseNotTable}
use Rattle.session_core.specs.Answer.{Told, told, refused, told_base}
use Rattle.session_core.specs.Bundles.{named_sphere, base_rows}
use Rattle.session_core.proofs.ReplyParts.{same-told, not-told}

-- ---- the table of a sphere

abbrev put_names : List (List ℕ) → Table → Table
put_names [] t = []
put_names (name ∷ names) [] = []
put_names (name ∷ names) (row ∷ t) = record { name = name; dim = row.dim; faces = row.faces } ∷ put_names names t

put-back : (t : Table) → put_names (map name_in t) (map unnamed t) ≡ t
put-back [] = refl
put-back (row ∷ t) = ap (λ s. row ∷ s) (put-back t)

pub named_rows : (n : ℕ) (t : Table) → map name_in t ≡ sphere_names n → map unnamed t ≡ sphere_rows n → named_sphere n ≡ t
named_rows n t names rows = (λ i. put_names (sym names i) (sym rows i)) ∙ put-back t

-- ---- a base

abbrev told_by : Option Table → Told Table
told_by o = elim o [ Some t ↦ told t | None ↦ refused BaseNotTable ]

-- the rows of a base that is told are a table
pub base_form : (a : Space) → IsAllowed a → (t : Table) → told_by (base_rows a) ≡ told t → IsTable t
base_form (table rows) is t e = subst IsTable (same-told rows t e) is.0
base_form (sphere n) is t e = subst IsTable (same-told (named_sphere n) t e) (sphere_is_table n is.0.0 is.0.1 (named_sphere n) refl refl)
base_form (product a b) is t e = absurd (not-told BaseNotTable t e)
base_form (suspension a) is t e = absurd (not-told BaseNotTable t e)
base_form kz1 is t e = absurd (not-told BaseNotTable t e)
base_form (bundle rows c) is t e = absurd (not-told BaseNotTable t e)
base_form (loops a) is t e = absurd (not-told BaseNotTable t e)
base_form (paths a) is t e = absurd (not-told BaseNotTable t e)
base_form (kzm1 m) is t e = absurd (not-told BaseNotTable t e)
base_form (cyclic_bundle rows m c) is t e = absurd (not-told BaseNotTable t e)

module _ (t : Term) where
  pub low_sphere : IsAllowed (space_of t) → (n : ℕ) → t ≡ Sphere n → (1 ≤ n) × (n ≤ 16)
  low_sphere is n e = let h : IsAllowed (sphere n) = subst IsAllowed (ap space_of e ∙ space-Sphere n) is in (h.0.0, h.0.1)

  pub base_told : (rows : List Row) → IsBaseTable t rows → told_base t ≡ told (rows_of rows)
  base_told rows (inl e) = ap (λ a. told_by (base_rows a)) (ap space_of e ∙ space-Table rows)
  base_told rows (inr (n, e, is)) =
      ap (λ a. told_by (base_rows a)) (ap space_of e ∙ space-Sphere n) ∙ ap told (named_rows n (rows_of rows) is.names_are is.rows_are)

  pub base_table : IsAllowed (space_of t) → (rows : List Row) → IsBaseTable t rows → IsTable (rows_of rows)
  base_table is rows (inl e) = let h : IsAllowed (table (rows_of rows)) = subst IsAllowed (ap space_of e ∙ space-Table rows) is in h.0
  base_table is rows (inr (n, e, rows_is)) =
      let low = low_sphere is n e in sphere_is_table n low.0 low.1 (rows_of rows) rows_is.names_are rows_is.rows_are

  pub no_base : HasNoTable t → told_base t ≡ refused BaseNotTable
  no_base none = ap told_by (by (space_of t) (term-back t))
    where
      by : (a : Space) → term_of a ≡ t → base_rows a ≡ None
      by (table rows) e = absurd (none.no_table _ (sym e))
      by (sphere m) e = absurd (none.no_sphere m (sym e))
      by (product a b) e = refl
      by (suspension a) e = refl
      by kz1 e = refl
      by (bundle rows c) e = refl
      by (loops a) e = refl
      by (paths a) e = refl
      by (kzm1 m) e = refl
      by (cyclic_bundle rows m c) e = refl
