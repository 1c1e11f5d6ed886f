-- The terms of products and circle bundles.
use Rattle.std.proofs.Common.{◌≡◌, List, sym, ◌∙◌, ap, subst, ℤ}
use Rattle.term_lang.specs.declared.tables.Row.{Row}
use Rattle.term_lang.specs.declared.terms.Term.{Term, out-Term, roll-Term, roll-out-Term}
use Rattle.term_lang.specs.declared.terms.Term.TheVariants.{Product, Bundle, rolls-Table, rolls-Sphere, rolls-Product, rolls-Suspension, rolls-KZ1, rolls-Bundle, rolls-Loop, rolls-Path}
use Rattle.term_lang.specs.declared.terms.Term.TheOpen.{Term-F}
use Rattle.term_lang.specs.SpaceOf.{space_of}
use Rattle.term_lang.proofs.SpacesOfTerms.{space-Table, space-Sphere, space-Suspension, space-KZ1, space-Loop, space-Path}
use Rattle.twist_rules.specs.PartSpaces.{IsFibred}

record IsOther (t : Term) : Type 0 where
  not_product : (a b : Term) → t ≡ Product a b → ⊥
  not_bundle : (rows : List Row) (values : List ℤ) → t ≡ Bundle rows values → ⊥

layer_fibred : (y : Term-F Term) → IsOther (roll-Term y) → IsFibred (space_of (roll-Term y)) → ⊥
layer_fibred (Term-F.Table rows) o b = subst IsFibred (ap space_of (rolls-Table rows) ∙ space-Table rows) b
layer_fibred (Term-F.Sphere m) o b = subst IsFibred (ap space_of (rolls-Sphere m) ∙ space-Sphere m) b
layer_fibred (Term-F.Product a c) o b = o.not_product a c (rolls-Product a c)
layer_fibred (Term-F.Suspension a) o b = subst IsFibred (ap space_of (rolls-Suspension a) ∙ space-Suspension a) b
layer_fibred Term-F.KZ1 o b = subst IsFibred (ap space_of rolls-KZ1 ∙ space-KZ1) b
layer_fibred (Term-F.Bundle rows values) o b = o.not_bundle rows values (rolls-Bundle rows values)
layer_fibred (Term-F.Loop a) o b = subst IsFibred (ap space_of (rolls-Loop a) ∙ space-Loop a) b
layer_fibred (Term-F.Path a) o b = subst IsFibred (ap space_of (rolls-Path a) ∙ space-Path a) b

pub only_fibred : (t : Term) → ((a b : Term) → t ≡ Product a b → ⊥) → ((rows : List Row) (values : List ℤ) → t ≡ Bundle rows values → ⊥) → IsFibred (space_of t) → ⊥
only_fibred t not_product not_bundle b =
    let e = roll-out-Term t in
    layer_fibred (out-Term t) (record { not_product = λ a c q. not_product a c (sym e ∙ q); not_bundle = λ rows values q. not_bundle rows values (sym e ∙ q) })
    (subst (λ s. IsFibred (space_of s)) (sym e) b)
