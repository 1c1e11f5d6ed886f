-- What the right sides of a twisted product ask, where chains keep their degrees: a fact of what is asked at each tensor is one of all.
use Rattle.std.proofs.Common.{ℕ, zero, suc, ◌-◌, ◌≤◌, List, [], ◌∷◌, ◌++◌, sym, subst, arith}
use Rattle.std.specs.declared.cmp.Ordering.{Ordering}
use Rattle.fp_field.specs.Field.{sign}
use Rattle.fp_field.specs.Chains.{Terms, scale, Each}
use Rattle.fp_field.specs.Normal.{normal, apply}
use Rattle.fp_field.specs.Reduction.{one, Complex}
use Rattle.fp_field.proofs.Weights.{Each-scale}
use Rattle.fp_field.proofs.FlowLaws.{Each-normal}
use Rattle.spaces.specs.Orders.{Ordered}
use Rattle.spaces.specs.EilenbergZilber.{Linear, Pair, Tensor}
use Rattle.values.specs.Asks.{Ask, Answers, Right, gives, ◌>>=◌, value_with, asked_with, on_chain}
use Rattle.values.specs.Perturbed.{Part, small_terms, asked_terms, f_f, g_g, t, on_t, p1, s1, p2, s2, r, r_after_t, k, to_tensors, to_pairs, pairs_by, tensors_by, smalls_by, total_f, total_g, total_h, total_d}
use Rattle.values.proofs.Readings.{EachAsk}
use Rattle.values.proofs.Chains.{along, asked_with-on_chain}
use Rattle.values.proofs.BasesAsks.{each_bind}
use Rattle.twist_laws.proofs.Alike.{Below}
use Rattle.twist_laws.proofs.TotalRead.{g_value, h_value, p2_value, s2_value, read-t, read-p2, read-s2, read-r_t}

each-join : (P : Ask → Type 0) (js ks : List Ask) → EachAsk P js → EachAsk P ks → EachAsk P (js ++ ks)
each-join P [] ks u v = v
each-join P (j ∷ js) ks u v = (u.0, each-join P js ks u.1 v)

along-each : {K : Type 0} (P : Ask → Type 0) (G : K → Type 0) (asks_of : K → List Ask) → ((x : K) → G x → EachAsk P (asks_of x)) → (c : Terms K) → Each G c
    → EachAsk P (along asks_of c)
along-each P G asks_of e [] h = tt
along-each P G asks_of e (u ∷ c) h = each-join P (asks_of u.0) (along asks_of c) (e u.0 h.0) (along-each P G asks_of e c h.1)

module _ (answers : Answers) (P : Ask → Type 0) where
  pub on_chain-asks : {K J : Type 0} (G : K → Type 0) (cmp : J → J → Ordering) (p : ℕ) (u : K → Right (Terms J)) → ((x : K) → G x → EachAsk P (asked_with answers (u x)))
      → (c : Terms K) → Each G c → EachAsk P (asked_with answers (on_chain cmp p u c))
  on_chain-asks G cmp p u e c h =
      subst (EachAsk P) (sym (asked_with-on_chain answers u cmp p c)) (along-each P G (λ x. asked_with answers (u x)) e c h)

  asked_terms-asks : {K : Type 0} (G : K → Type 0) (cmp : K → K → Ordering) (p : ℕ) (step : Terms K → Right (Terms K))
      → ((c : Terms K) → Each G c → EachAsk P (asked_with answers (step c))) → ((c : Terms K) → Each G c → Each G (value_with answers (step c)))
      → (n : ℕ) (c : Terms K) → Each G c → EachAsk P (asked_with answers (asked_terms cmp p n step c))
  asked_terms-asks G cmp p step e stays zero c h = tt
  asked_terms-asks G cmp p step e stays (suc n) c h =
      let y = normal cmp p (scale (p - 1) (value_with answers (step c))) in
      each_bind P answers (step c) (λ y. asked_terms cmp p n step (normal cmp p (scale (p - 1) y)) >>= λ s. gives (c ++ s)) (e c h)
      (each_bind P answers (asked_terms cmp p n step y) (λ s. gives (c ++ s))
      (asked_terms-asks G cmp p step e stays n y (Each-normal G cmp p (scale (p - 1) (value_with answers (step c))) (Each-scale G (p - 1) (value_with answers (step c)) (stays c h)))) tt)

module _ (answers : Answers) {K J S T : Type 0} (p : ℕ) (L : Linear K) (R : Ordered J) (left : Part K S) (right : Part J T) (q : Pair K J → Terms (Pair K J))
    (C : Complex (Tensor K J)) where
  abbrev pairs : Pair K J → Pair K J → Ordering
  pairs = pairs_by p L R left right q

  abbrev tensors : Tensor K J → Tensor K J → Ordering
  tensors = tensors_by p L R left right q

  abbrev smalls : S × T → S × T → Ordering
  smalls = smalls_by p L R left right q

  abbrev GM : ℕ → Tensor K J → Type 0
  GM = C.generator

  abbrev r_at : ℕ → Terms (Tensor K J) → Terms (Tensor K J)
  r_at = r p L R left right q

  abbrev h_on : Terms (Tensor K J) → Terms (Tensor K J)
  h_on c = apply tensors p (h_value answers p L R left right q) c

  -- chains of generators of a degree stay such
  pub record KeepsTensors : Type 0 where
    pub r : (n : ℕ) (c : Terms (Tensor K J)) → Each (GM n) c → Each (Below C n) (r_at n c)
    pub h : (n : ℕ) (c : Terms (Tensor K J)) → Each (GM n) c → Each (GM (suc n)) (h_on c)
    pub hr : (n : ℕ) (c : Terms (Tensor K J)) → Each (GM n) c → Each (GM n) (h_on (r_at n c))
    pub rh : (n : ℕ) (c : Terms (Tensor K J)) → Each (GM n) c → Each (GM n) (r_at (suc n) (h_on c))
    pub p2 : (n : ℕ) (c : Terms (Tensor K J)) → Each (GM n) c → Each (GM n) (p2_value answers p L R left right q n c)
    pub s2 : (n : ℕ) (c : Terms (Tensor K J)) → Each (GM n) c → Each (GM n) (s2_value answers p L R left right q n c)

  module _ (keeps : KeepsTensors) (P : Ask → Type 0) (n : ℕ)
      (f_ok : (i : ℕ) (z : Tensor K J) → i ≤ n → GM i z → EachAsk P (asked_with answers (f_f p L R left right q z)))
      (t_ok : (i : ℕ) (z : Tensor K J) → i ≤ n → GM i z → EachAsk P (asked_with answers (t p L R left right q z))) where
    on_t-asks : (i : ℕ) → i ≤ n → (c : Terms (Tensor K J)) → Each (GM i) c → EachAsk P (asked_with answers (on_t p L R left right q c))
    on_t-asks i l c h = on_chain-asks answers P (GM i) tensors p (t p L R left right q) (λ z g. t_ok i z l g) c h

    on_t-below : (i : ℕ) → i ≤ suc n → (c : Terms (Tensor K J)) → Each (Below C i) c → EachAsk P (asked_with answers (on_t p L R left right q c))
    on_t-below zero l c h = on_chain-asks answers P (Below C zero) tensors p (t p L R left right q) (λ z g. absurd g) c h
    on_t-below (suc i) l c h = on_t-asks i (omega (arith, l)) c h

    on_f-asks : (i : ℕ) → i ≤ n → (c : Terms (Tensor K J)) → Each (GM i) c → EachAsk P (asked_with answers (on_chain smalls p (f_f p L R left right q) c))
    on_f-asks i l c h = on_chain-asks answers P (GM i) smalls p (f_f p L R left right q) (λ z g. f_ok i z l g) c h

    on_f-below : (i : ℕ) → i ≤ suc n → (c : Terms (Tensor K J)) → Each (Below C i) c → EachAsk P (asked_with answers (on_chain smalls p (f_f p L R left right q) c))
    on_f-below zero l c h = on_chain-asks answers P (Below C zero) smalls p (f_f p L R left right q) (λ z g. absurd g) c h
    on_f-below (suc i) l c h = on_f-asks i (omega (arith, l)) c h

    p2-asks : (i : ℕ) → i ≤ suc n → (c : Terms (Tensor K J)) → Each (GM i) c → EachAsk P (asked_with answers (p2 p L R left right q i c))
    p2-asks i l c h =
        each_bind P answers (asked_terms tensors p (suc i) (λ e. on_t p L R left right q (r_at i e)) c) (λ s. gives (normal tensors p s))
        (asked_terms-asks answers P (GM i) tensors p (λ e. on_t p L R left right q (r_at i e)) (λ e g. on_t-below i l (r_at i e) (keeps.r i e g))
        (λ e g. subst (Each (GM i)) (sym (read-t answers p L R left right q (r_at i e))) (keeps.hr i e g)) (suc i) c h) tt

    r_t-asks : (e : Terms (Tensor K J)) → Each (GM n) e → EachAsk P (asked_with answers (r_after_t p L R left right q n e))
    r_t-asks e g = each_bind P answers (on_t p L R left right q e) (λ u. gives (r_at (suc n) u)) (on_t-asks n (let l : n ≤ n = omega arith in l) e g) tt

    s2-asks : (c : Terms (Tensor K J)) → Each (GM n) c → EachAsk P (asked_with answers (s2 p L R left right q n c))
    s2-asks c h =
        each_bind P answers (asked_terms tensors p (suc n) (r_after_t p L R left right q n) c) (λ s. gives (normal tensors p s))
        (asked_terms-asks answers P (GM n) tensors p (r_after_t p L R left right q n) r_t-asks
        (λ e g. subst (Each (GM n)) (sym (read-r_t answers p L R left right q n e)) (keeps.rh n e g)) (suc n) c h) tt

    -- ---- the four maps

    module _ (c : Terms (Pair K J)) (is : Each (GM n) (to_tensors p L R left right q (s1 p L R left right q n c))) where
      abbrev first : Terms (Tensor K J)
      first = to_tensors p L R left right q (s1 p L R left right q n c)

      pub total_f-asks : EachAsk P (asked_with answers (total_f p L R left right q n c))
      total_f-asks =
          each_bind P answers (s2 p L R left right q n first) (λ u. on_chain smalls p (f_f p L R left right q) u) (s2-asks first is)
          (on_f-asks n (let l : n ≤ n = omega arith in l) (value_with answers (s2 p L R left right q n first))
          (subst (Each (GM n)) (sym (read-s2 answers p L R left right q n first)) (keeps.s2 n first is)))

      pub total_h-asks : EachAsk P (asked_with answers (total_h p L R left right q n c))
      total_h-asks =
          each_bind P answers (on_t p L R left right q first)
          (λ u. p2 p L R left right q (suc n) u >>= λ v.
          gives (normal pairs p (p1 p L R left right q (suc n) (apply pairs p (k p L R left right q) c) ++ p1 p L R left right q (suc n) (to_pairs p L R left right q v))))
          (on_t-asks n (let l : n ≤ n = omega arith in l) first is)
          (each_bind P answers (p2 p L R left right q (suc n) (value_with answers (on_t p L R left right q first)))
          (λ v. gives (normal pairs p (p1 p L R left right q (suc n) (apply pairs p (k p L R left right q) c) ++ p1 p L R left right q (suc n) (to_pairs p L R left right q v))))
          (p2-asks (suc n) (let l : suc n ≤ suc n = omega arith in l) (value_with answers (on_t p L R left right q first))
          (subst (Each (GM (suc n))) (sym (read-t answers p L R left right q first)) (keeps.h n first is))) tt)

    module _ (y : S × T) (is : Each (GM n) (g_value answers p L R left right q y)) (g_ok : EachAsk P (asked_with answers (g_g p L R left right q y))) where
      pub total_g-asks : EachAsk P (asked_with answers (total_g p L R left right q n y))
      total_g-asks =
          each_bind P answers (g_g p L R left right q y) (λ u. p2 p L R left right q n u >>= λ v. gives (p1 p L R left right q n (to_pairs p L R left right q v))) g_ok
          (each_bind P answers (p2 p L R left right q n (g_value answers p L R left right q y)) (λ v. gives (p1 p L R left right q n (to_pairs p L R left right q v)))
          (p2-asks n (let l : n ≤ suc n = omega arith in l) (g_value answers p L R left right q y) is) tt)

    abbrev all_d : S → T → Terms S → Terms T → Terms (S × T) → Terms (S × T)
    all_d x y dx dy w = normal smalls p (small_terms dx (one y) ++ scale (sign p (left.degree x)) (small_terms (one x) dy) ++ w)

    module _ (x : S) (y : T) (is : Each (GM n) (g_value answers p L R left right q (x, y))) (g_ok : EachAsk P (asked_with answers (g_g p L R left right q (x, y))))
        (x_ok : EachAsk P (asked_with answers (left.small_d x))) (y_ok : EachAsk P (asked_with answers (right.small_d y))) where
      abbrev middle : Terms (Tensor K J)
      middle = value_with answers (p2 p L R left right q n (g_value answers p L R left right q (x, y)))

      middle-stays : Each (GM n) middle
      middle-stays =
          subst (Each (GM n)) (sym (read-p2 answers p L R left right q n (g_value answers p L R left right q (x, y)))) (keeps.p2 n (g_value answers p L R left right q (x, y)) is)

      pub total_d-asks : EachAsk P (asked_with answers (total_d p L R left right q n (x, y)))
      total_d-asks =
          let dx = value_with answers (left.small_d x) in
          let dy = value_with answers (right.small_d y) in
          each_bind P answers (left.small_d x) (λ dx. right.small_d y >>= λ dy. g_g p L R left right q (x, y) >>= λ u. p2 p L R left right q n u >>= λ v.
          on_chain smalls p (f_f p L R left right q) (r_at n v) >>= λ w. gives (all_d x y dx dy w)) x_ok
          (each_bind P answers (right.small_d y) (λ dy. g_g p L R left right q (x, y) >>= λ u. p2 p L R left right q n u >>= λ v.
          on_chain smalls p (f_f p L R left right q) (r_at n v) >>= λ w. gives (all_d x y dx dy w)) y_ok
          (each_bind P answers (g_g p L R left right q (x, y)) (λ u. p2 p L R left right q n u >>= λ v.
          on_chain smalls p (f_f p L R left right q) (r_at n v) >>= λ w. gives (all_d x y dx dy w)) g_ok
          (each_bind P answers (p2 p L R left right q n (g_value answers p L R left right q (x, y)))
          (λ v. on_chain smalls p (f_f p L R left right q) (r_at n v) >>= λ w. gives (all_d x y dx dy w))
          (p2-asks n (let l : n ≤ suc n = omega arith in l) (g_value answers p L R left right q (x, y)) is)
          (each_bind P answers (on_chain smalls p (f_f p L R left right q) (r_at n middle)) (λ w. gives (all_d x y dx dy w))
          (on_f-below n (let l : n ≤ suc n = omega arith in l) (r_at n middle) (keeps.r n middle middle-stays)) tt))))
