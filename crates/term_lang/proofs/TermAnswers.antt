-- What the check of a term answers, kind by kind, from its answers for the parts.
use Rattle.std.proofs.Common.{◌≡◌, ℕ, ◌≤◌, suc, max, List, ℤ, None, sym, ◌∙◌, ap, arith}
use Rattle.std.specs.Prelude.{Ok, Err}
use Rattle.std.specs.declared.result.Result.{Result}
use Rattle.std.specs.Option.{option_or}
use Rattle.std.specs.Result.{result_err}
use Rattle.spaces.specs.Spaces.{table, sphere, product, suspension, kz1, bundle, loops, paths}
use Rattle.spaces.specs.Allowed.{IsAllowed, IsTable, space_depth}
use Rattle.term_lang.specs.declared.tables.Row.{Row}
use Rattle.term_lang.specs.declared.terms.Term.{Term}
use Rattle.term_lang.specs.declared.terms.Term.TheVariants.{Table, Sphere, Product, Suspension, KZ1, Bundle, Loop, Path}
use Rattle.term_lang.specs.declared.faults.TermFault.{TermFault}
use Rattle.term_lang.specs.Rows.{rows_of}
use Rattle.term_lang.specs.SpaceOf.{space_of}
use Rattle.term_lang.specs.TermFaults.{sphere_fault, cocycle_fault, depth_fault, vertex_fault, edge_fault}
use Rattle.term_lang.proofs.SpacesOfTerms.{space-Table, space-Sphere, space-Product, space-Suspension, space-KZ1, space-Bundle, space-Loop, space-Path}
use Rattle.term_lang.proofs.FaultLaws.{Answers, part_allowed, answer_at, table_answer, kz1_answer, sphere_answer, bundle_answer, left_failed, right_failed, product_answer, suspended_failed, looped_failed, path_failed, suspension_answer, loop_answer, path_answer}

abbrev Checked : Type 0
Checked = Result (Unit {0}) TermFault

-- ---- leaves

module _ (t : Term) (r : Checked) where
  pub on_table : (rows : List Row) → t ≡ Table rows → IsTable (rows_of rows) → result_err r ≡ None → Answers r (space_of t)
  on_table rows is form e = answer_at r (table (rows_of rows)) (space_of t) (ap space_of is ∙ space-Table rows) (table_answer r (rows_of rows) form e)

  pub on_sphere : (m : ℕ) → t ≡ Sphere m → result_err r ≡ sphere_fault m → Answers r (space_of t)
  on_sphere m is e = answer_at r (sphere m) (space_of t) (ap space_of is ∙ space-Sphere m) (sphere_answer r m e)

  pub on_kz1 : t ≡ KZ1 → result_err r ≡ None → Answers r (space_of t)
  on_kz1 is e = answer_at r kz1 (space_of t) (ap space_of is ∙ space-KZ1) (kz1_answer r e)

  pub on_bundle : (rows : List Row) (c : List ℤ) → t ≡ Bundle rows c → IsTable (rows_of rows) → result_err r ≡ cocycle_fault (rows_of rows) c → Answers r (space_of t)
  on_bundle rows c is form e = answer_at r (bundle (rows_of rows) c) (space_of t) (ap space_of is ∙ space-Bundle rows c) (bundle_answer r (rows_of rows) c form e)

-- ---- products

module _ (t a b x : Term) (is : t ≡ Product a b) (left : x ≡ a) (p : Checked) (first : Answers p (space_of x)) where
  pub on_left : (r : Checked) (f g : TermFault) → p ≡ Err f → r ≡ Err g → g ≡ f → Answers r (space_of t)
  on_left r f g e h same =
      answer_at r (product (space_of x) (space_of b)) (space_of t) (ap space_of is ∙ space-Product a b ∙ ap (λ z. product (space_of z) (space_of b)) (sym left))
      (left_failed p r f (space_of x) (space_of b) first e (h ∙ ap Err same))

  module _ (y : Term) (right : y ≡ b) (u : Unit {0}) (fine : p ≡ Ok u) (q : Checked) (second : Answers q (space_of y)) where
    both : space_of t ≡ product (space_of x) (space_of y)
    both = ap space_of is ∙ space-Product a b ∙ (λ i. product (space_of (sym left i)) (space_of (sym right i)))

    pub on_right : (r : Checked) (f g : TermFault) → q ≡ Err f → r ≡ Err g → g ≡ f → Answers r (space_of t)
    on_right r f g e h same =
        answer_at r (product (space_of x) (space_of y)) (space_of t) both (right_failed p q r u f (space_of x) (space_of y) first fine second e (h ∙ ap Err same))

    module _ (v : Unit {0}) (good : q ≡ Ok v) where
      pub product_depth : space_depth (space_of t) ≤ 9
      product_depth =
          let m = (part_allowed p (space_of x) u first fine).1 in
          let n = (part_allowed q (space_of y) v second good).1 in
          let e : space_depth (space_of t) ≡ suc (max (space_depth (space_of x)) (space_depth (space_of y))) = ap space_depth both in
          omega (arith, m, n, e)

      pub on_product : (r : Checked) → result_err r ≡ depth_fault (space_of t) → Answers r (space_of t)
      on_product r e =
          answer_at r (product (space_of x) (space_of y)) (space_of t) both
          (product_answer p q r u v (space_of x) (space_of y) first fine second good (e ∙ ap depth_fault both))

-- ---- one part

-- the term of a part
module _ (t a x : Term) (part : x ≡ a) (q : Checked) (first : Answers q (space_of x)) where
  suspended : t ≡ Suspension a → space_of t ≡ suspension (space_of x)
  suspended is = ap space_of is ∙ space-Suspension a ∙ ap (λ z. suspension (space_of z)) (sym part)

  looped : t ≡ Loop a → space_of t ≡ loops (space_of x)
  looped is = ap space_of is ∙ space-Loop a ∙ ap (λ z. loops (space_of z)) (sym part)

  based : t ≡ Path a → space_of t ≡ paths (space_of x)
  based is = ap space_of is ∙ space-Path a ∙ ap (λ z. paths (space_of z)) (sym part)

  pub on_suspended : t ≡ Suspension a → (r : Checked) (f g : TermFault) → q ≡ Err f → r ≡ Err g → g ≡ f → Answers r (space_of t)
  on_suspended is r f g e h same = answer_at r (suspension (space_of x)) (space_of t) (suspended is) (suspended_failed q r f (space_of x) first e (h ∙ ap Err same))

  pub on_looped : t ≡ Loop a → (r : Checked) (f g : TermFault) → q ≡ Err f → r ≡ Err g → g ≡ f → Answers r (space_of t)
  on_looped is r f g e h same = answer_at r (loops (space_of x)) (space_of t) (looped is) (looped_failed q r f (space_of x) first e (h ∙ ap Err same))

  pub on_based : t ≡ Path a → (r : Checked) (f g : TermFault) → q ≡ Err f → r ≡ Err g → g ≡ f → Answers r (space_of t)
  on_based is r f g e h same = answer_at r (paths (space_of x)) (space_of t) (based is) (path_failed q r f (space_of x) first e (h ∙ ap Err same))

  module _ (u : Unit {0}) (fine : q ≡ Ok u) where
    pub allowed_part : IsAllowed (space_of x)
    allowed_part = part_allowed q (space_of x) u first fine

    pub suspension_depth : t ≡ Suspension a → space_depth (space_of t) ≤ 9
    suspension_depth is = let m = allowed_part.1 in let e : space_depth (space_of t) ≡ suc (space_depth (space_of x)) = ap space_depth (suspended is) in omega (arith, m, e)

    pub loop_depth : t ≡ Loop a → space_depth (space_of t) ≤ 9
    loop_depth is = let m = allowed_part.1 in let e : space_depth (space_of t) ≡ suc (space_depth (space_of x)) = ap space_depth (looped is) in omega (arith, m, e)

    pub path_depth : t ≡ Path a → space_depth (space_of t) ≤ 9
    path_depth is = let m = allowed_part.1 in let e : space_depth (space_of t) ≡ suc (space_depth (space_of x)) = ap space_depth (based is) in omega (arith, m, e)

    pub on_suspension : t ≡ Suspension a → (r : Checked) → result_err r ≡ option_or (depth_fault (space_of t)) (vertex_fault (space_of x)) → Answers r (space_of t)
    on_suspension is r e =
        answer_at r (suspension (space_of x)) (space_of t) (suspended is)
        (suspension_answer q r u (space_of x) first fine (e ∙ ap (λ s. option_or (depth_fault s) (vertex_fault (space_of x))) (suspended is)))

    pub on_loop : t ≡ Loop a → (r : Checked) → result_err r ≡ option_or (depth_fault (space_of t)) (option_or (vertex_fault (space_of x)) (edge_fault (space_of x)))
        → Answers r (space_of t)
    on_loop is r e =
        answer_at r (loops (space_of x)) (space_of t) (looped is)
        (loop_answer q r u (space_of x) first fine (e ∙ ap (λ s. option_or (depth_fault s) (option_or (vertex_fault (space_of x)) (edge_fault (space_of x)))) (looped is)))

    pub on_path : t ≡ Path a → (r : Checked) → result_err r ≡ option_or (depth_fault (space_of t)) (option_or (vertex_fault (space_of x)) (edge_fault (space_of x)))
        → Answers r (space_of t)
    on_path is r e =
        answer_at r (paths (space_of x)) (space_of t) (based is)
        (path_answer q r u (space_of x) first fine (e ∙ ap (λ s. option_or (depth_fault s) (option_or (vertex_fault (space_of x)) (edge_fault (space_of x)))) (based is)))
