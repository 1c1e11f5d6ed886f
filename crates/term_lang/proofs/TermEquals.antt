-- When terms are equal, by kind and then part by part.
use Rattle.std.proofs.Common.{◌≡◌, ℕ, Bool, true, false, List, refl, sym, ◌∙◌, ap, ℤ, ◌⊎◌, inl, inr, true≢false}
use Rattle.std.specs.Prelude.{nat_eq}
use Rattle.std.specs.Ordering.{nat_cmp, int_cmp, int_eq, ordering_then, is_eq, eq_by_cmp}
use Rattle.std.specs.Cmp.{Equal-is, unsigned_ties}
use Rattle.std.specs.Cmp.Lexicographic.{pointwise, lists_ties}
use Rattle.std.specs.declared.cmp.Ordering.{Ordering}
use Rattle.std.specs.declared.cmp.Ordering.TheVariants.{Less, Equal, Greater}
use Rattle.simp_ops.proofs.PlacesOf.{cases_bool}
use Rattle.cells.specs.Forests.{forest_cmp}
use Rattle.cells.specs.Order.{ints_forest}
use Rattle.term_lang.specs.declared.terms.Term.{Term}
use Rattle.term_lang.specs.OneTerm.{one_term}
use Rattle.term_lang.specs.TermOrder.{kind_of, term_cmp}
use Rattle.term_lang.proofs.TermForests.{ints_cmp}

-- terms of other kinds
pub other_kinds : (t u : Term) (j k : ℕ) → j ≡ kind_of t → k ≡ kind_of u → (j ≡ k → ⊥) → false ≡ eq_by_cmp term_cmp t u
other_kinds t u j k p q h = by (cases_bool (eq_by_cmp term_cmp t u))
  where
    by : (eq_by_cmp term_cmp t u ≡ true) ⊎ (eq_by_cmp term_cmp t u ≡ false) → false ≡ eq_by_cmp term_cmp t u
    by (inr e) = sym e
    by (inl e) = absurd (h (p ∙ ap kind_of (one_term t u ((Equal-is (term_cmp t u)).0 e)) ∙ sym q))

-- terms with these contents
pub with_contents : (t u y z : Term) (b : Bool) (o : Ordering) → t ≡ y → u ≡ z → term_cmp y z ≡ o → b ≡ is_eq o → b ≡ eq_by_cmp term_cmp t u
with_contents t u y z b o p q e h = h ∙ ap is_eq (sym e) ∙ (λ i. eq_by_cmp term_cmp (sym p i) (sym q i))

pub same_spheres : (m n : ℕ) → nat_eq m n ≡ is_eq (nat_cmp m n)
same_spheres m n = unsigned_ties m n

pub same_ints : (v w : List ℤ) → pointwise int_eq v w ≡ is_eq (forest_cmp (ints_forest v) (ints_forest w))
same_ints v w = lists_ties int_cmp (λ x y. refl) v w ∙ ap is_eq (ints_cmp v w)

-- the first part decides
pub first_differs : (p q : Ordering) (b : Bool) → b ≡ is_eq p → b ≡ false → b ≡ is_eq (ordering_then p q)
first_differs Less q b e f = e
first_differs Equal q b e f = absurd (true≢false (sym e ∙ f))
first_differs Greater q b e f = e

-- the second part decides
pub first_same : (p q : Ordering) (b c : Bool) → b ≡ is_eq p → b ≡ true → c ≡ is_eq q → c ≡ is_eq (ordering_then p q)
first_same Less q b c e f g = absurd (true≢false (sym f ∙ e))
first_same Equal q b c e f g = g
first_same Greater q b c e f g = absurd (true≢false (sym f ∙ e))
