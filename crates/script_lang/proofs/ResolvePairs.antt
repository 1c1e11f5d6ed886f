-- What is found for a pair, from what is found for its parts.
use Rattle.std.proofs.Common.{◌≡◌, ℕ, ℤ, suc, ◌≤◌, max, List, Option, Some, None, refl, sym, ◌∙◌, ap, subst, arith}
use Rattle.std.specs.Prelude.{Result, Ok, Err, IfOk}
use Rattle.std.specs.declared.alloc.AllocError.{AllocError}
use Rattle.spaces.specs.Tables.{Table}
use Rattle.spaces.specs.Spaces.{Space, table, product, kz1, bundle, Plain}
use Rattle.spaces.specs.Allowed.{IsAllowed, space_depth}
use Rattle.cells.specs.declared.cells.Simplex.{Simplex}
use Rattle.term_lang.specs.declared.terms.Term.{Term}
use Rattle.term_lang.specs.declared.terms.Term.TheVariants.{Product}
use Rattle.term_lang.specs.SpaceOf.{space_of}
use Rattle.term_lang.proofs.SpacesOfTerms.{space-Product}
use Rattle.normal_forms.specs.Built.{IsBuilt}
use Rattle.normal_forms.proofs.BuiltPairs.{product_paired, bundle_paired}
use Rattle.script_lang.specs.declared.simplices.SimplexText.{SimplexText}
use Rattle.script_lang.specs.declared.simplices.BodyText.{BodyText}
use Rattle.script_lang.specs.declared.simplices.BodyText.TheVariants.{Pair}
use Rattle.script_lang.specs.Meaning.{meaning, both_of}
use Rattle.script_lang.specs.Resolved.{IsFound, IsJoined, body_meaning}
use Rattle.script_lang.proofs.ResolveMeanings.{meaning-Pair}

-- ---- the parts of a product

pub left_allowed : (a b : Space) → IsAllowed (product a b) → IsAllowed a
left_allowed a b is = let l : suc (max (space_depth a) (space_depth b)) ≤ 8 = is.1 in (is.0.0, omega (arith, l))

pub right_allowed : (a b : Space) → IsAllowed (product a b) → IsAllowed b
right_allowed a b is = let l : suc (max (space_depth a) (space_depth b)) ≤ 8 = is.1 in (is.0.1, omega (arith, l))

-- ---- a pair of simplices

some_right : {A B : Type 0} (u : Option A) → ◌≡◌ {A = Option (A × B)} (both_of u None) None
some_right None = refl
some_right (Some u) = refl

module _ (a b : Space) (allowed : IsAllowed (product a b)) (built : IsBuilt (product a b)) (n : ℕ) (most : n ≤ 32) where
  pub product_joined : (u : Option (Plain a)) (v : Option (Plain b)) (x y z : Option Simplex) → IsFound a n u x → IsFound b n v y → IsJoined x y z
      → IsFound (product a b) n (both_of u v) z
  product_joined u v None y z f g j = subst (IsFound (product a b) n (both_of u v)) (sym j) (ap (λ k. both_of {A = Plain a} {B = Plain b} k v) f)
  product_joined u v (Some x) None z f g j =
      subst (IsFound (product a b) n (both_of u v)) (sym j) (ap (both_of {A = Plain a} {B = Plain b} u) g ∙ some_right u)
  product_joined u v (Some x) (Some y) z f g j =
      let h = product_paired a b (left_allowed a b allowed) built.0 (right_allowed a b allowed) built.1 n most x y j.0 j.2 f.1 g.1 in
      subst (IsFound (product a b) n (both_of u v)) (sym j.1)
      ((λ i. both_of {A = Plain a} {B = Plain b} (f.0 i) (g.0 i)) ∙ ap (λ (k : Plain (product a b)). Some k) (sym h.1), h.0)

module _ (t : Table) (c : List ℤ) (allowed : IsAllowed (bundle t c)) (n : ℕ) (most : n ≤ 32) where
  pub bundle_joined : (u : Option (Plain (table t))) (v : Option (Plain kz1)) (x y z : Option Simplex) → IsFound (table t) n u x → IsFound kz1 n v y → IsJoined x y z
      → IsFound (bundle t c) n (both_of u v) z
  bundle_joined u v None y z f g j = subst (IsFound (bundle t c) n (both_of u v)) (sym j) (ap (λ k. both_of k v) f)
  bundle_joined u v (Some x) None z f g j = subst (IsFound (bundle t c) n (both_of u v)) (sym j) (ap (both_of u) g ∙ some_right u)
  bundle_joined u v (Some x) (Some y) z f g j =
      let h = bundle_paired t c allowed n most x y j.0 j.2 f.1 g.1 in
      subst (IsFound (bundle t c) n (both_of u v)) (sym j.1) ((λ i. both_of (f.0 i) (g.0 i)) ∙ ap (λ (k : Plain (bundle t c)). Some k) (sym h.1), h.0)

-- ---- a pair of texts, where v and w are its two texts

pub product_found : (a b : Space) → IsAllowed (product a b) → IsBuilt (product a b) → (n : ℕ) → n ≤ 32 → (body : BodyText) (x y : SimplexText) → body ≡ Pair x y
    → (v w : SimplexText) (r s : Option Simplex) (z : Result (Option Simplex) AllocError) → v ≡ x → w ≡ y → IsFound a n (meaning v a n) r → IsFound b n (meaning w b n) s
    → IfOk z (IsJoined r s) → IfOk z (λ p. IsFound (product a b) n (body_meaning body (product a b) n) p)
product_found a b allowed built n most body x y e v w r s (Ok z) f g h k j =
    subst (λ m. IsFound (product a b) n m z) (sym (ap (λ m. body_meaning m (product a b) n) e ∙ ap (λ m. m (product a b) n) (meaning-Pair x y)))
    (product_joined a b allowed built n most (meaning x a n) (meaning y b n) r s z (subst (λ u. IsFound a n (meaning u a n) r) f h) (subst (λ u. IsFound b n (meaning u b n) s) g k) j)
product_found a b allowed built n most body x y e v w r s (Err z) f g h k j = tt

pub bundle_found : (t : Table) (n : ℕ) → n ≤ 32 → (body : BodyText) (x y : SimplexText) → body ≡ Pair x y → (v w : SimplexText) (r s : Option Simplex)
    → (z : Result (Option Simplex) AllocError) → v ≡ x → w ≡ y → IsFound (table t) n (meaning v (table t) n) r → IsFound kz1 n (meaning w kz1 n) s
    → IfOk z (IsJoined r s) → IfOk z (λ p. (c : List ℤ) → IsAllowed (bundle t c) → IsFound (bundle t c) n (body_meaning body (bundle t c) n) p)
bundle_found t n most body x y e v w r s (Ok z) f g h k j = λ c allowed.
    subst (λ m. IsFound (bundle t c) n m z) (sym (ap (λ m. body_meaning m (bundle t c) n) e ∙ ap (λ m. m (bundle t c) n) (meaning-Pair x y)))
    (bundle_joined t c allowed n most (meaning x (table t) n) (meaning y kz1 n) r s z (subst (λ u. IsFound (table t) n (meaning u (table t) n) r) f h)
    (subst (λ u. IsFound kz1 n (meaning u kz1 n) s) g k) j)
bundle_found t n most body x y e v w r s (Err z) f g h k j = tt

-- the bundle of a cocycle
pub at_values : (t : Table) (n : ℕ) (body : BodyText) (c : List ℤ) → IsAllowed (bundle t c) → (z : Result (Option Simplex) AllocError)
    → IfOk z (λ p. (k : List ℤ) → IsAllowed (bundle t k) → IsFound (bundle t k) n (body_meaning body (bundle t k) n) p)
    → IfOk z (λ p. IsFound (bundle t c) n (body_meaning body (bundle t c) n) p)
at_values t n body c is (Ok z) h = h c is
at_values t n body c is (Err z) h = tt

-- the space of a product whose parts are v and w
pub product_space : (x a b v w : Term) → x ≡ Product a b → v ≡ a → w ≡ b → space_of x ≡ product (space_of v) (space_of w)
product_space x a b v w e f g = ap space_of e ∙ space-Product a b ∙ (λ i. product (space_of (sym f i)) (space_of (sym g i)))
