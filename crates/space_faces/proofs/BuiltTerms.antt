-- The terms of built spaces are tables, spheres, K(Z,1), suspensions, products and bundles.
use Rattle.std.proofs.Common.{◌≡◌, ℕ, ℤ, List, sym, ◌∙◌, ap, subst}
use Rattle.term_lang.specs.declared.tables.Row.{Row}
use Rattle.term_lang.specs.declared.terms.Term.{Term, out-Term, roll-Term, roll-out-Term}
use Rattle.term_lang.specs.declared.terms.Term.TheVariants.{Table, Sphere, Product, Suspension, KZ1, Bundle, rolls-Table, rolls-Sphere, rolls-Product, rolls-Suspension, rolls-KZ1, rolls-Bundle, rolls-Loop, rolls-Path}
use Rattle.term_lang.specs.declared.terms.Term.TheOpen.{Term-F}
use Rattle.term_lang.specs.SpaceOf.{space_of}
use Rattle.term_lang.proofs.SpacesOfTerms.{space-Loop, space-Path}
use Rattle.normal_forms.specs.Built.{IsBuilt}

record IsOther (t : Term) : Type 0 where
  not_table : (rows : List Row) → t ≡ Table rows → ⊥
  not_sphere : (m : ℕ) → t ≡ Sphere m → ⊥
  not_suspension : (a : Term) → t ≡ Suspension a → ⊥
  not_kz1 : t ≡ KZ1 → ⊥
  not_product : (a c : Term) → t ≡ Product a c → ⊥
  not_bundle : (rows : List Row) (values : List ℤ) → t ≡ Bundle rows values → ⊥

layer_built : (y : Term-F Term) → IsOther (roll-Term y) → IsBuilt (space_of (roll-Term y)) → ⊥
layer_built (Term-F.Table rows) o b = o.not_table rows (rolls-Table rows)
layer_built (Term-F.Sphere m) o b = o.not_sphere m (rolls-Sphere m)
layer_built (Term-F.Product a c) o b = o.not_product a c (rolls-Product a c)
layer_built (Term-F.Suspension a) o b = o.not_suspension a (rolls-Suspension a)
layer_built Term-F.KZ1 o b = o.not_kz1 rolls-KZ1
layer_built (Term-F.Bundle rows values) o b = o.not_bundle rows values (rolls-Bundle rows values)
layer_built (Term-F.Loop a) o b = subst IsBuilt (ap space_of (rolls-Loop a) ∙ space-Loop a) b
layer_built (Term-F.Path a) o b = subst IsBuilt (ap space_of (rolls-Path a) ∙ space-Path a) b

pub only_built : (t : Term) → ((rows : List Row) → t ≡ Table rows → ⊥) → ((m : ℕ) → t ≡ Sphere m → ⊥) → ((a : Term) → t ≡ Suspension a → ⊥) → (t ≡ KZ1 → ⊥)
    → ((a c : Term) → t ≡ Product a c → ⊥) → ((rows : List Row) (values : List ℤ) → t ≡ Bundle rows values → ⊥) → IsBuilt (space_of t) → ⊥
only_built t not_table not_sphere not_suspension not_kz1 not_product not_bundle b =
    let e = roll-out-Term t in
    layer_built (out-Term t)
    (record {
      not_table = λ rows q. not_table rows (sym e ∙ q);
      not_sphere = λ m q. not_sphere m (sym e ∙ q);
      not_suspension = λ a q. not_suspension a (sym e ∙ q);
      not_kz1 = λ q. not_kz1 (sym e ∙ q);
      not_product = λ a c q. not_product a c (sym e ∙ q);
      not_bundle = λ rows values q. not_bundle rows values (sym e ∙ q);
    })
    (subst (λ s. IsBuilt (space_of s)) (sym e) b)
