-- A space without a fault is an allowed one, node by node, and what the check of a term answers from what it answers for the parts.
use Rattle.std.proofs.Common.{◌≡◌, ℕ, ◌<◌, ◌≤◌, Bool, true, false, ◌==◌, List, Option, Some, None, refl, sym, ◌∙◌, ap, subst, arith, ℤ, true≢false}
use Rattle.std.specs.Prelude.{Ok, Err, IsOk, is_ok, min, nat_lt, not, ◌||◌, ◌↔◌}
use Rattle.std.specs.declared.result.Result.{Result}
use Rattle.std.specs.Option.{option_or}
use Rattle.std.specs.Result.{result_err}
use Rattle.std.proofs.lemmas.Bool.Decides.{Decides-eqb, nat_tests}
use Rattle.spaces.specs.Tables.{Table as TableRows}
use Rattle.spaces.specs.Spaces.{Space, table, sphere, product, suspension, kz1, bundle, loops, paths, set_of}
use Rattle.spaces.specs.Allowed.{IsAllowed, Admits, IsTable, HasOneVertex, HasNoEdge, space_depth}
use Rattle.spaces.specs.Counts.{vertex_count, low_of}
use Rattle.spaces.proofs.SpaceVertices.{one_vertex}
use Rattle.spaces.proofs.SpaceLows.{no_edge}
use Rattle.term_lang.specs.declared.faults.TermFault.{TermFault}
use Rattle.term_lang.specs.declared.faults.TermFault.TheVariants.{TooDeep, NotOneVertex, NotOneReduced, BadSphere}
use Rattle.term_lang.specs.TermFaults.{Fault, fault_if, sphere_fault, cocycle_fault, depth_fault, vertex_fault, edge_fault, low_fault, own_fault, fault_of}
use Rattle.term_lang.proofs.CocycleRows.{cocycle_from, cocycle_to}

-- ---- tests

if_none : (b : Bool) (f : TermFault) → fault_if b f ≡ None → b ≡ false
if_none true f e = absurd (cc)
if_none false f e = refl

or_parts : (a b : Fault) → option_or a b ≡ None → (a ≡ None) × (b ≡ None)
or_parts None b e = (refl, e)
or_parts (Some f) b e = absurd (cc)

or_none : (a b : Fault) → a ≡ None → b ≡ None → option_or a b ≡ None
or_none a b e f = λ i. option_or (e i) (f i)

not_true : (b : Bool) → not b ≡ false → b ≡ true
not_true true e = refl
not_true false e = absurd (true≢false e)

-- ---- the faults of a node

sphere_in : (m : ℕ) → sphere_fault m ≡ None → (0 < m) × (m ≤ 16)
unfolding sphere_fault
sphere_in m e = let f = if_none ((m == 0) || nat_lt 16 m) _ e in (grind (arith, nat_tests), grind (arith, nat_tests))

sphere_out : (m : ℕ) → 0 < m → m ≤ 16 → sphere_fault m ≡ None
unfolding sphere_fault
sphere_out m h l = let f : ((m == 0) || nat_lt 16 m) ≡ false = grind (arith, nat_tests) in ap (λ b. fault_if b (BadSphere m)) f

depth_in : (a : Space) → depth_fault a ≡ None → space_depth a ≤ 8
unfolding depth_fault
depth_in a e = let f = if_none (nat_lt 8 (space_depth a)) _ e in grind (arith, nat_tests)

depth_out : (a : Space) → space_depth a ≤ 8 → depth_fault a ≡ None
unfolding depth_fault
depth_out a h = let f : nat_lt 8 (space_depth a) ≡ false = grind (arith, nat_tests) in ap (λ b. fault_if b (TooDeep (space_depth a))) f

vertex_in : (a : Space) → Admits a → vertex_fault a ≡ None → HasOneVertex (set_of a)
unfolding vertex_fault
vertex_in a is e = let f = if_none (not (vertex_count a == 1)) _ e in (one_vertex a is).1 ((Decides-eqb (vertex_count a) 1).0 (not_true (vertex_count a == 1) f))

vertex_out : (a : Space) → Admits a → HasOneVertex (set_of a) → vertex_fault a ≡ None
unfolding vertex_fault
vertex_out a is h = ap (λ b. fault_if (not b) (NotOneVertex (min (vertex_count a) 65536))) ((Decides-eqb (vertex_count a) 1).1 ((one_vertex a is).0 h))

low_in : (low : Option ℕ) → low_fault low ≡ None → low ≡ Some 1 → ⊥
low_in low e f = let g : low_fault (Some 1) ≡ None = ap low_fault (sym f) ∙ e in cc

low_out : (low : Option ℕ) → (low ≡ Some 1 → ⊥) → low_fault low ≡ None
low_out None h = refl
low_out (Some n) h = by (n == 1) refl
  where
    by : (b : Bool) → (n == 1) ≡ b → fault_if (n == 1) (NotOneReduced n) ≡ None
    by true e = absurd (h (ap Some ((Decides-eqb n 1).0 e)))
    by false e = ap (λ b. fault_if b (NotOneReduced n)) e

edge_in : (a : Space) → Admits a → edge_fault a ≡ None → HasNoEdge (set_of a)
unfolding edge_fault
edge_in a is e = (no_edge a is).1 (low_in (low_of a) e)

edge_out : (a : Space) → Admits a → HasNoEdge (set_of a) → edge_fault a ≡ None
unfolding edge_fault
edge_out a is h = low_out (low_of a) ((no_edge a is).0 h)

-- ---- what the check answers

-- the answer for a space
pub record Answers {T : Type 0} (r : Result T TermFault) (s : Space) : Type 0 where
  pub allowed : IsOk r ↔ IsAllowed s
  pub fault : result_err r ≡ fault_of s

module _ {T : Type 0} where
  ok_none : (r : Result T TermFault) → IsOk r → result_err r ≡ None
  ok_none (Ok x) h = refl
  ok_none (Err f) h = absurd (true≢false (sym h))

  none_ok : (r : Result T TermFault) → result_err r ≡ None → IsOk r
  none_ok (Ok x) h = refl
  none_ok (Err f) h = absurd (cc)

  judged : (r : Result T TermFault) (s : Space) → result_err r ≡ fault_of s → (fault_of s ≡ None → IsAllowed s) → (IsAllowed s → fault_of s ≡ None) → Answers r s
  judged r s e in_ out = record { allowed = (λ h. in_ (sym e ∙ ok_none r h), λ h. none_ok r (e ∙ out h)); fault = e }

  -- an allowed part
  pub part_allowed : (q : Result T TermFault) (a : Space) (x : T) → Answers q a → q ≡ Ok x → IsAllowed a
  part_allowed q a x is e = is.allowed.0 (ap is_ok e)

  part_none : (q : Result T TermFault) (a : Space) (x : T) → Answers q a → q ≡ Ok x → fault_of a ≡ None
  part_none q a x is e = sym is.fault ∙ ap result_err e

  -- a fault of a part is the fault of the whole
  failed : (q r : Result T TermFault) (f : TermFault) (a s : Space) → Answers q a → q ≡ Err f → r ≡ Err f → ((g : TermFault) → fault_of a ≡ Some g → fault_of s ≡ Some g)
      → (IsAllowed s → IsAllowed a) → Answers r s
  failed q r f a s is e g up down = record {
    allowed = (λ h. absurd (true≢false (sym h ∙ ap is_ok g)), λ h. absurd (true≢false (sym (is.allowed.1 (down h)) ∙ ap is_ok e)));
    fault = ap result_err g ∙ sym (up f (sym is.fault ∙ ap result_err e));
  }

  -- ---- leaves

  pub table_answer : (r : Result T TermFault) (t : TableRows) → IsTable t → result_err r ≡ None → Answers r (table t)
  unfolding fault_of own_fault
  table_answer r t is e = judged r (table t) e (λ h. (is, omega arith)) (λ h. refl)

  pub kz1_answer : (r : Result T TermFault) → result_err r ≡ None → Answers r kz1
  unfolding fault_of own_fault
  kz1_answer r e = judged r kz1 e (λ h. (tt, omega arith)) (λ h. refl)

  pub sphere_answer : (r : Result T TermFault) (m : ℕ) → result_err r ≡ sphere_fault m → Answers r (sphere m)
  unfolding fault_of own_fault
  sphere_answer r m e = judged r (sphere m) e (λ h. (sphere_in m h, omega arith)) (λ h. sphere_out m h.0.0 h.0.1)

  pub bundle_answer : (r : Result T TermFault) (t : TableRows) (c : List ℤ) → IsTable t → result_err r ≡ cocycle_fault t c → Answers r (bundle t c)
  unfolding fault_of own_fault
  bundle_answer r t c is e =
      judged r (bundle t c) e (λ h. let p = cocycle_from t c h in ((is, p.0, p.1), omega arith)) (λ h. cocycle_to t c h.0.1 h.0.2)

  -- ---- products

  pub left_failed : (q r : Result T TermFault) (f : TermFault) (a b : Space) → Answers q a → q ≡ Err f → r ≡ Err f → Answers r (product a b)
  unfolding fault_of
  left_failed q r f a b is e g = failed q r f a (product a b) is e g (λ h k. ap (λ o. option_or o (option_or (fault_of b) (own_fault (product a b)))) k) (λ h. (h.0.0, omega (arith, h.1)))

  pub right_failed : (p q r : Result T TermFault) (x : T) (f : TermFault) (a b : Space) → Answers p a → p ≡ Ok x → Answers q b → q ≡ Err f → r ≡ Err f → Answers r (product a b)
  unfolding fault_of
  right_failed p q r x f a b left ok is e g =
      failed q r f b (product a b) is e g (λ h k. ap (λ o. option_or o (option_or (fault_of b) (own_fault (product a b)))) (part_none p a x left ok) ∙ ap (λ o. option_or o (own_fault (product a b))) k) (λ h. (h.0.1, omega (arith, h.1)))

  pub product_answer : (p q r : Result T TermFault) (x y : T) (a b : Space) → Answers p a → p ≡ Ok x → Answers q b → q ≡ Ok y → result_err r ≡ depth_fault (product a b)
      → Answers r (product a b)
  unfolding fault_of own_fault
  product_answer p q r x y a b left ok right fine e =
      let u = part_allowed p a x left ok in
      let v = part_allowed q b y right fine in
      let own : fault_of (product a b) ≡ depth_fault (product a b) =
      ap (λ o. option_or o (option_or (fault_of b) (own_fault (product a b)))) (part_none p a x left ok) ∙ ap (λ o. option_or o (own_fault (product a b))) (part_none q b y right fine) in
      judged r (product a b) (e ∙ sym own) (λ h. ((u.0, v.0), depth_in (product a b) (sym own ∙ h))) (λ h. own ∙ depth_out (product a b) h.1)

  -- ---- one part

  pub suspended_failed : (q r : Result T TermFault) (f : TermFault) (a : Space) → Answers q a → q ≡ Err f → r ≡ Err f → Answers r (suspension a)
  unfolding fault_of
  suspended_failed q r f a is e g = failed q r f a (suspension a) is e g (λ h k. ap (λ o. option_or o (own_fault (suspension a))) k) (λ h. (h.0.0, omega (arith, h.1)))

  pub looped_failed : (q r : Result T TermFault) (f : TermFault) (a : Space) → Answers q a → q ≡ Err f → r ≡ Err f → Answers r (loops a)
  unfolding fault_of
  looped_failed q r f a is e g = failed q r f a (loops a) is e g (λ h k. ap (λ o. option_or o (own_fault (loops a))) k) (λ h. (h.0.0, omega (arith, h.1)))

  pub path_failed : (q r : Result T TermFault) (f : TermFault) (a : Space) → Answers q a → q ≡ Err f → r ≡ Err f → Answers r (paths a)
  unfolding fault_of
  path_failed q r f a is e g = failed q r f a (paths a) is e g (λ h k. ap (λ o. option_or o (own_fault (paths a))) k) (λ h. (h.0.0, omega (arith, h.1)))

  pub suspension_answer : (q r : Result T TermFault) (x : T) (a : Space) → Answers q a → q ≡ Ok x → result_err r ≡ option_or (depth_fault (suspension a)) (vertex_fault a)
      → Answers r (suspension a)
  unfolding fault_of own_fault
  suspension_answer q r x a is ok e =
      let own : fault_of (suspension a) ≡ option_or (depth_fault (suspension a)) (vertex_fault a) = ap (λ o. option_or o (own_fault (suspension a))) (part_none q a x is ok) in
      let u = part_allowed q a x is ok in
      judged r (suspension a) (e ∙ sym own)
      (λ h. let p = or_parts (depth_fault (suspension a)) (vertex_fault a) (sym own ∙ h) in ((u.0, vertex_in a u.0 p.1), depth_in (suspension a) p.0))
      (λ h. own ∙ or_none (depth_fault (suspension a)) (vertex_fault a) (depth_out (suspension a) h.1) (vertex_out a u.0 h.0.1))

  pub loop_answer : (q r : Result T TermFault) (x : T) (a : Space) → Answers q a → q ≡ Ok x
      → result_err r ≡ option_or (depth_fault (loops a)) (option_or (vertex_fault a) (edge_fault a)) → Answers r (loops a)
  unfolding fault_of own_fault
  loop_answer q r x a is ok e =
      let own : fault_of (loops a) ≡ option_or (depth_fault (loops a)) (option_or (vertex_fault a) (edge_fault a)) =
      ap (λ o. option_or o (own_fault (loops a))) (part_none q a x is ok) in
      let u = part_allowed q a x is ok in
      judged r (loops a) (e ∙ sym own)
      (λ h. let p = or_parts (depth_fault (loops a)) _ (sym own ∙ h) in
      let s = or_parts (vertex_fault a) (edge_fault a) p.1 in ((u.0, vertex_in a u.0 s.0, edge_in a u.0 s.1), depth_in (loops a) p.0))
      (λ h. own ∙ or_none (depth_fault (loops a)) _ (depth_out (loops a) h.1) (or_none (vertex_fault a) (edge_fault a) (vertex_out a u.0 h.0.1) (edge_out a u.0 h.0.2)))

  pub path_answer : (q r : Result T TermFault) (x : T) (a : Space) → Answers q a → q ≡ Ok x
      → result_err r ≡ option_or (depth_fault (paths a)) (option_or (vertex_fault a) (edge_fault a)) → Answers r (paths a)
  unfolding fault_of own_fault
  path_answer q r x a is ok e =
      let own : fault_of (paths a) ≡ option_or (depth_fault (paths a)) (option_or (vertex_fault a) (edge_fault a)) =
      ap (λ o. option_or o (own_fault (paths a))) (part_none q a x is ok) in
      let u = part_allowed q a x is ok in
      judged r (paths a) (e ∙ sym own)
      (λ h. let p = or_parts (depth_fault (paths a)) _ (sym own ∙ h) in
      let s = or_parts (vertex_fault a) (edge_fault a) p.1 in ((u.0, vertex_in a u.0 s.0, edge_in a u.0 s.1), depth_in (paths a) p.0))
      (λ h. own ∙ or_none (depth_fault (paths a)) _ (depth_out (paths a) h.1) (or_none (vertex_fault a) (edge_fault a) (vertex_out a u.0 h.0.1) (edge_out a u.0 h.0.2)))

  -- the answer at a space that is the same
  pub answer_at : (r : Result T TermFault) (s u : Space) → u ≡ s → Answers r s → Answers r u
  answer_at r s u e h = subst (Answers r) (sym e) h
