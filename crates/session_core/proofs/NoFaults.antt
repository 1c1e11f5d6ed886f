-- An allowed space has no fault, so the first fault of what is made of allowed parts is its own.
use Rattle.std.proofs.Common.{◌≡◌, ℕ, ℤ, List, Some, None, Ok, Err, refl, sym, ◌∙◌, ap, arith, true≢false}
use Rattle.std.specs.Prelude.{IsOk, is_ok}
use Rattle.std.specs.declared.result.Result.{Result}
use Rattle.std.specs.Option.{option_or}
use Rattle.std.specs.Result.{result_err}
use Rattle.spaces.specs.Tables.{Table}
use Rattle.spaces.specs.Spaces.{Space, table, sphere, product, suspension, kz1, bundle, loops, paths, kzm1, cyclic_bundle}
use Rattle.spaces.specs.Allowed.{IsAllowed}
use Rattle.term_lang.specs.declared.faults.TermFault.{TermFault}
use Rattle.term_lang.specs.TermFaults.{Fault, sphere_fault, cocycle_fault, depth_fault, vertex_fault, edge_fault, own_fault, fault_of}
use Rattle.term_lang.proofs.FaultLaws.{Answers, sphere_answer, bundle_answer, product_answer, suspension_answer, loop_answer, path_answer}

-- ---- a check that answers a fault

abbrev Checked : Type 0
Checked = Result (Unit {0}) TermFault

abbrev checked : Fault → Checked
checked None = Ok tt
checked (Some fault) = Err fault

fault-back : (o : Fault) → result_err (checked o) ≡ o
fault-back None = refl
fault-back (Some fault) = refl

none-fine : (o : Fault) → o ≡ None → IsOk (checked o)
none-fine o e = ap (λ x. is_ok (checked x)) e

fine-none : (o : Fault) → IsOk (checked o) → o ≡ None
fine-none None h = refl
fine-none (Some fault) h = absurd (true≢false (sym h))

abbrev passed : Checked
passed = Ok tt

-- an allowed space without a fault passes
passes : (a : Space) → IsAllowed a → fault_of a ≡ None → Answers passed a
passes a is fine = record { allowed = (λ h. is, λ h. refl); fault = sym fine }

-- where a check answers for a space, it has no fault where it is allowed, and is allowed where the check finds none
module _ (o : Fault) (s : Space) (answers : Answers (checked o) s) where
  none_of : IsAllowed s → fault_of s ≡ None
  none_of is = sym answers.fault ∙ fault-back o ∙ fine-none o (answers.allowed.1 is)

  first_of : fault_of s ≡ o
  first_of = sym answers.fault ∙ fault-back o

  allowed_of : o ≡ None → IsAllowed s
  allowed_of e = answers.allowed.0 (none-fine o e)

-- ---- what the faults are

own-sphere : (m : ℕ) → own_fault (sphere m) ≡ sphere_fault m
unfolding own_fault
own-sphere m = refl

own-product : (a b : Space) → own_fault (product a b) ≡ depth_fault (product a b)
unfolding own_fault
own-product a b = refl

own-suspension : (a : Space) → own_fault (suspension a) ≡ option_or (depth_fault (suspension a)) (vertex_fault a)
unfolding own_fault
own-suspension a = refl

own-loops : (a : Space) → own_fault (loops a) ≡ option_or (depth_fault (loops a)) (option_or (vertex_fault a) (edge_fault a))
unfolding own_fault
own-loops a = refl

own-paths : (a : Space) → own_fault (paths a) ≡ option_or (depth_fault (paths a)) (option_or (vertex_fault a) (edge_fault a))
unfolding own_fault
own-paths a = refl

-- ---- one part

module _ (a : Space) (is : IsAllowed a) (fine : fault_of a ≡ None) where
  judged : Answers (checked (own_fault (suspension a))) (suspension a)
  judged = suspension_answer passed (checked (own_fault (suspension a))) tt a (passes a is fine) refl (fault-back (own_fault (suspension a)) ∙ own-suspension a)

  -- the first fault of a suspension of such a space is its own
  pub first_own : fault_of (suspension a) ≡ own_fault (suspension a)
  first_own = first_of (own_fault (suspension a)) (suspension a) judged

  pub allowed_suspension : own_fault (suspension a) ≡ None → IsAllowed (suspension a)
  allowed_suspension e = allowed_of (own_fault (suspension a)) (suspension a) judged e

  suspension-none : IsAllowed (suspension a) → fault_of (suspension a) ≡ None
  suspension-none h = none_of (own_fault (suspension a)) (suspension a) judged h

  loops-none : IsAllowed (loops a) → fault_of (loops a) ≡ None
  loops-none h =
      let o = own_fault (loops a) in
      none_of o (loops a) (loop_answer passed (checked o) tt a (passes a is fine) refl (fault-back o ∙ own-loops a)) h

  paths-none : IsAllowed (paths a) → fault_of (paths a) ≡ None
  paths-none h =
      let o = own_fault (paths a) in
      none_of o (paths a) (path_answer passed (checked o) tt a (passes a is fine) refl (fault-back o ∙ own-paths a)) h

-- ---- two parts

module _ (a b : Space) (left : IsAllowed a) (right : IsAllowed b) (fine_left : fault_of a ≡ None) (fine_right : fault_of b ≡ None) where
  judged_product : Answers (checked (own_fault (product a b))) (product a b)
  judged_product =
      product_answer passed passed (checked (own_fault (product a b))) tt tt a b (passes a left fine_left) refl (passes b right fine_right) refl
      (fault-back (own_fault (product a b)) ∙ own-product a b)

  pub product_own : fault_of (product a b) ≡ own_fault (product a b)
  product_own = first_of (own_fault (product a b)) (product a b) judged_product

  pub allowed_product : own_fault (product a b) ≡ None → IsAllowed (product a b)
  allowed_product e = allowed_of (own_fault (product a b)) (product a b) judged_product e

  product-none : IsAllowed (product a b) → fault_of (product a b) ≡ None
  product-none h = none_of (own_fault (product a b)) (product a b) judged_product h

-- ---- all spaces

sphere-none : (m : ℕ) → IsAllowed (sphere m) → fault_of (sphere m) ≡ None
sphere-none m is = none_of (sphere_fault m) (sphere m) (sphere_answer (checked (sphere_fault m)) m (fault-back (sphere_fault m))) is

bundle-none : (t : Table) (c : List ℤ) → IsAllowed (bundle t c) → fault_of (bundle t c) ≡ None
bundle-none t c is =
    none_of (cocycle_fault t c) (bundle t c) (bundle_answer (checked (cocycle_fault t c)) t c is.0.0 (fault-back (cocycle_fault t c))) is

pub no_fault : (a : Space) → IsAllowed a → fault_of a ≡ None
unfolding fault_of own_fault
no_fault (table t) is = refl
no_fault (sphere m) is = sphere-none m is
no_fault (product a b) is =
    let left : IsAllowed a = (is.0.0, omega (arith, is.1)) in
    let right : IsAllowed b = (is.0.1, omega (arith, is.1)) in product-none a b left right (no_fault a left) (no_fault b right) is
no_fault (suspension a) is = let part : IsAllowed a = (is.0.0, omega (arith, is.1)) in suspension-none a part (no_fault a part) is
no_fault kz1 is = refl
no_fault (bundle t c) is = bundle-none t c is
no_fault (loops a) is = let part : IsAllowed a = (is.0.0, omega (arith, is.1)) in loops-none a part (no_fault a part) is
no_fault (paths a) is = let part : IsAllowed a = (is.0.0, omega (arith, is.1)) in paths-none a part (no_fault a part) is
no_fault (kzm1 m) is = refl
no_fault (cyclic_bundle t m c) is = refl
