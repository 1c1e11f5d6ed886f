-- Values of a cocycle are those of a table and K(Z,1), and a pair of these with a bounded reach is one that may be twisted.
use Rattle.std.proofs.Common.{◌≡◌, ℕ, ◌^◌, ◌≤◌, List, ℤ, Some, sym, ◌∙◌, ap, subst, arith, bit_and}
use Rattle.std.specs.Prelude.{nat_abs}
use Rattle.spaces.specs.Tables.{Table}
use Rattle.spaces.specs.Spaces.{Space, table, kz1}
use Rattle.values.specs.Sizes.{greatest}
use Rattle.cells.specs.declared.cells.Cell.{Cell}
use Rattle.oracle_iface.specs.CodeSizes.{cell_integer}
use Rattle.term_lang.specs.declared.tables.Row.{Row}
use Rattle.term_lang.specs.declared.terms.Term.{Term, out-Term, roll-Term, roll-out-Term}
use Rattle.term_lang.specs.declared.terms.Term.TheVariants.{Table as TableTerm, KZ1, rolls-Table, rolls-Sphere, rolls-Product, rolls-Suspension, rolls-KZ1, rolls-Bundle, rolls-Loop, rolls-Path}
use Rattle.term_lang.specs.declared.terms.Term.TheOpen.{Term-F}
use Rattle.term_lang.specs.Belongs.{IsSimplex}
use Rattle.term_lang.specs.Forms.{form}
use Rattle.term_lang.specs.SpaceOf.{space_of}
use Rattle.term_lang.proofs.SpacesOfTerms.{space-Table, space-Sphere, space-Product, space-Suspension, space-KZ1, space-Bundle, space-Loop, space-Path}
use Rattle.ez_flow.proofs.PairCells.{split-pair, pair-with, weight-pair}
use Rattle.space_pairs.specs.TwistReach.{greatest-total}
use Rattle.space_pairs.specs.Parts.{IsReached}
use Rattle.twist_chains.specs.Bundles.{IsBundlePair, fibre_integer}
use Rattle.twist_chains.specs.Fibred.{AreTwistValues, MayFront}
use Rattle.twist_chains.proofs.TwistTerms.{integer_is}

module _ (values : List ℤ) where
  left-layer : (y : Term-F Term) (b : Space) → ((rows : List Row) → roll-Term y ≡ TableTerm rows → ⊥) → AreTwistValues (Some values) (space_of (roll-Term y)) b → ⊥
  left-layer (Term-F.Table rows) b o h = o rows (rolls-Table rows)
  left-layer (Term-F.Sphere m) b o h = subst (λ x. AreTwistValues (Some values) x b) (ap space_of (rolls-Sphere m) ∙ space-Sphere m) h
  left-layer (Term-F.Product c d) b o h = subst (λ x. AreTwistValues (Some values) x b) (ap space_of (rolls-Product c d) ∙ space-Product c d) h
  left-layer (Term-F.Suspension c) b o h = subst (λ x. AreTwistValues (Some values) x b) (ap space_of (rolls-Suspension c) ∙ space-Suspension c) h
  left-layer Term-F.KZ1 b o h = subst (λ x. AreTwistValues (Some values) x b) (ap space_of rolls-KZ1 ∙ space-KZ1) h
  left-layer (Term-F.Bundle rows v) b o h = subst (λ x. AreTwistValues (Some values) x b) (ap space_of (rolls-Bundle rows v) ∙ space-Bundle rows v) h
  left-layer (Term-F.Loop c) b o h = subst (λ x. AreTwistValues (Some values) x b) (ap space_of (rolls-Loop c) ∙ space-Loop c) h
  left-layer (Term-F.Path c) b o h = subst (λ x. AreTwistValues (Some values) x b) (ap space_of (rolls-Path c) ∙ space-Path c) h

  pub left-table : (t : Term) (b : Space) → ((rows : List Row) → t ≡ TableTerm rows → ⊥) → AreTwistValues (Some values) (space_of t) b → ⊥
  left-table t b o h =
      let e = roll-out-Term t in
      left-layer (out-Term t) b (λ rows q. o rows (sym e ∙ q)) (subst (λ s. AreTwistValues (Some values) (space_of s) b) (sym e) h)

  module _ (u : Table) where
    right-layer : (y : Term-F Term) → (roll-Term y ≡ KZ1 → ⊥) → AreTwistValues (Some values) (table u) (space_of (roll-Term y)) → ⊥
    right-layer (Term-F.Table rows) o h = subst (AreTwistValues (Some values) (table u)) (ap space_of (rolls-Table rows) ∙ space-Table rows) h
    right-layer (Term-F.Sphere m) o h = subst (AreTwistValues (Some values) (table u)) (ap space_of (rolls-Sphere m) ∙ space-Sphere m) h
    right-layer (Term-F.Product c d) o h = subst (AreTwistValues (Some values) (table u)) (ap space_of (rolls-Product c d) ∙ space-Product c d) h
    right-layer (Term-F.Suspension c) o h = subst (AreTwistValues (Some values) (table u)) (ap space_of (rolls-Suspension c) ∙ space-Suspension c) h
    right-layer Term-F.KZ1 o h = o rolls-KZ1
    right-layer (Term-F.Bundle rows v) o h = subst (AreTwistValues (Some values) (table u)) (ap space_of (rolls-Bundle rows v) ∙ space-Bundle rows v) h
    right-layer (Term-F.Loop c) o h = subst (AreTwistValues (Some values) (table u)) (ap space_of (rolls-Loop c) ∙ space-Loop c) h
    right-layer (Term-F.Path c) o h = subst (AreTwistValues (Some values) (table u)) (ap space_of (rolls-Path c) ∙ space-Path c) h

    pub right-integers : (t : Term) → (t ≡ KZ1 → ⊥) → AreTwistValues (Some values) (table u) (space_of t) → ⊥
    right-integers t o h =
        let e = roll-out-Term t in
        right-layer (out-Term t) (λ q. o (sym e ∙ q)) (subst (λ s. AreTwistValues (Some values) (table u) (space_of s)) (sym e) h)

module _ (t : Table) (m : ℕ) (c : Cell) (h : MayFront (table t) kz1 m c) where
  pub bundle-pair : (n : ℕ) × IsBundlePair t n c × (n ≤ 32)
  bundle-pair =
      let n = h.0 in
      let r = split-pair (λ x y. IsReached (table t) m n x × IsReached kz1 m n y × (bit_and x.degens.mask y.degens.mask ≡ 0)) c h.1 in (
        n,
        subst (IsBundlePair t n) (sym r.2)
            (pair-with (λ x y. IsSimplex (table t) n x × IsSimplex kz1 n y × (bit_and x.degens.mask y.degens.mask ≡ 0)) r.0 r.1 (r.3.0.0, r.3.1.0, r.3.2)),
        h.2,
      )

  pub bundle-integers : m ≤ 2 ^ 40 → fibre_integer c ≤ 2 ^ 60
  bundle-integers l =
      let n = h.0 in
      let r = split-pair (λ x y. IsReached (table t) m n x × IsReached kz1 m n y × (bit_and x.degens.mask y.degens.mask ≡ 0)) c h.1 in
      let e : fibre_integer c ≡ greatest nat_abs (form r.1 kz1) = ap fibre_integer r.2 ∙ weight-pair (λ x y. cell_integer y.cell) r.0 r.1 ∙ integer_is n r.1 h.2 r.3.1.0 in
      omega (arith, e, greatest-total (form r.1 kz1), r.3.1.2, l)
