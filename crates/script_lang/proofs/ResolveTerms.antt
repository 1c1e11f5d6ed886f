-- Terms of a construction that is built are tables, spheres, products, suspensions, K(Z,1) and circle bundles.
use Rattle.std.proofs.Common.{◌≡◌, ℕ, ℤ, ◌≤◌, List, [], ◌∷◌, length, refl, sym, ◌∙◌, ap, subst, arith}
use Rattle.term_lang.specs.declared.tables.Row.{Row}
use Rattle.term_lang.specs.declared.terms.Term.{Term, roll-Term, out-Term, roll-out-Term}
use Rattle.term_lang.specs.declared.terms.Term.TheVariants.{Table, Sphere, Product, Suspension, KZ1, Bundle, rolls-Table, rolls-Sphere, rolls-Product, rolls-Suspension, rolls-KZ1, rolls-Bundle, rolls-Loop, rolls-Path}
use Rattle.term_lang.specs.declared.terms.Term.TheOpen.{Term-F}
use Rattle.spaces.specs.Spaces.{product, suspension, kz1}
use Rattle.spaces.specs.Allowed.{IsTable, IsAllowed}
use Rattle.term_lang.specs.Rows.{rows_of}
use Rattle.term_lang.specs.SpaceOf.{space_of}
use Rattle.term_lang.proofs.SpacesOfTerms.{space-Table, space-Sphere, space-Product, space-Suspension, space-KZ1, space-Bundle, space-Loop, space-Path}
use Rattle.normal_forms.specs.Built.{IsBuilt}

unbuilt_layer : (y : Term-F Term) → IsBuilt (space_of (roll-Term y)) → ((rows : List Row) → roll-Term y ≡ Table rows → ⊥) → ((m : ℕ) → roll-Term y ≡ Sphere m → ⊥)
    → ((a b : Term) → roll-Term y ≡ Product a b → ⊥) → ((part : Term) → roll-Term y ≡ Suspension part → ⊥) → (roll-Term y ≡ KZ1 → ⊥)
    → ((rows : List Row) (values : List ℤ) → roll-Term y ≡ Bundle rows values → ⊥) → ⊥
unbuilt_layer (Term-F.Table rows) h t s q p k b = t rows (rolls-Table rows)
unbuilt_layer (Term-F.Sphere m) h t s q p k b = s m (rolls-Sphere m)
unbuilt_layer (Term-F.Product x y) h t s q p k b = q x y (rolls-Product x y)
unbuilt_layer (Term-F.Suspension a) h t s q p k b = p a (rolls-Suspension a)
unbuilt_layer Term-F.KZ1 h t s q p k b = k rolls-KZ1
unbuilt_layer (Term-F.Bundle rows values) h t s q p k b = b rows values (rolls-Bundle rows values)
unbuilt_layer (Term-F.Loop a) h t s q p k b = subst IsBuilt (ap space_of (rolls-Loop a) ∙ space-Loop a) h
unbuilt_layer (Term-F.Path a) h t s q p k b = subst IsBuilt (ap space_of (rolls-Path a) ∙ space-Path a) h

pub unbuilt : (x : Term) → IsBuilt (space_of x) → ((rows : List Row) → x ≡ Table rows → ⊥) → ((m : ℕ) → x ≡ Sphere m → ⊥) → ((a b : Term) → x ≡ Product a b → ⊥)
    → ((part : Term) → x ≡ Suspension part → ⊥) → (x ≡ KZ1 → ⊥) → ((rows : List Row) (values : List ℤ) → x ≡ Bundle rows values → ⊥) → ⊥
unbuilt x h t s q p k b =
    let e = roll-out-Term x in
    unbuilt_layer (out-Term x) (subst (λ y. IsBuilt (space_of y)) (sym e) h) (λ rows f. t rows (sym e ∙ f)) (λ m f. s m (sym e ∙ f))
    (λ l r f. q l r (sym e ∙ f)) (λ part f. p part (sym e ∙ f)) (λ f. k (sym e ∙ f)) (λ rows values f. b rows values (sym e ∙ f))

-- spheres of dimension 1 to 16 and tables may be asked for
pub sphere_allowed : (m : ℕ) → 1 ≤ m → m ≤ 16 → IsAllowed (space_of (Sphere m))
sphere_allowed m low high = subst IsAllowed (sym (space-Sphere m)) ((low, high), omega arith)

pub sphere_built : (m : ℕ) → IsBuilt (space_of (Sphere m))
sphere_built m = subst IsBuilt (sym (space-Sphere m)) tt

pub table_allowed : (rows : List Row) → IsTable (rows_of rows) → IsAllowed (space_of (Table rows))
table_allowed rows is = subst IsAllowed (sym (space-Table rows)) (is, omega arith)

pub table_built : (rows : List Row) → IsBuilt (space_of (Table rows))
table_built rows = subst IsBuilt (sym (space-Table rows)) tt

-- and so may K(Z,1) and its suspension
pub integers_allowed : IsAllowed (space_of KZ1)
integers_allowed = subst IsAllowed (sym space-KZ1) (tt, omega arith)

pub integers_built : IsBuilt (space_of KZ1)
integers_built = subst IsBuilt (sym space-KZ1) tt

empty : (x : List ℤ) → length x ≡ 0 → x ≡ []
empty [] e = refl
empty (k ∷ x) e = absurd (omega (arith, e))

suspended_is : (part : Term) → part ≡ KZ1 → suspension kz1 ≡ space_of (Suspension part)
suspended_is part e = sym (space-Suspension part ∙ ap (λ t. suspension (space_of t)) e ∙ ap suspension space-KZ1)

pub suspension_allowed : (part : Term) → part ≡ KZ1 → IsAllowed (space_of (Suspension part))
suspension_allowed part e = subst IsAllowed (suspended_is part e) ((tt, ([], (refl, λ k d l. tt), λ x is. empty x is.0)), omega arith)

pub suspension_built : (part : Term) → part ≡ KZ1 → IsBuilt (space_of (Suspension part))
suspension_built part e = subst IsBuilt (suspended_is part e) tt

-- products of two spheres and circle bundles are built
pub torus_built : (a b : Term) (m k : ℕ) → a ≡ Sphere m → b ≡ Sphere k → IsBuilt (space_of (Product a b))
torus_built a b m k e f =
    subst IsBuilt (sym (space-Product a b ∙ (λ i. product (space_of (e i)) (space_of (f i))) ∙ (λ i. product (space-Sphere m i) (space-Sphere k i)))) (tt, tt)

pub bundle_built : (rows : List Row) (values : List ℤ) → IsBuilt (space_of (Bundle rows values))
bundle_built rows values = subst IsBuilt (sym (space-Bundle rows values)) tt
