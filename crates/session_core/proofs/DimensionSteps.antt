-- Degrees that are asked for one after the other: a step of the walk along them.
use Rattle.std.proofs.Common.{◌≡◌, ℕ, suc, ◌+◌, ◌-◌, ◌<◌, ◌≤◌, List, [], ◌∷◌, ◌++◌, Some, None, refl, sym, ◌∙◌, ap, subst, arith, append_assoc}
use Rattle.oracle_iface.specs.declared.keys.Key.{Key}
use Rattle.oracle_iface.specs.declared.bodies.Over.{Over}
use Rattle.oracle_iface.specs.Forcing.{Calls}
use Rattle.homology_rules.specs.Asking.{first_refusal, up_to_refusal, MayForceEach, AskedFirst, EachAnswered}
use Rattle.session_core.specs.Dimensions.{keys_of_dimension, dimension_at, keys_of_dimensions, dimensions_at}
use Rattle.session_core.proofs.Sequences.{refused-then, may-now, may-then, asked-now, asked-seam, asked-then, over-now, over-then, each-then}

append-nothing : {A : Type 0} (xs : List A) → xs ++ [] ≡ xs
append-nothing [] = refl
append-nothing (x ∷ xs) = ap (λ z. x ∷ z) (append-nothing xs)

-- the keys of the degrees before n were asked for, and none of them is refused
pub record Walked {F : Type 0} (may : F → Key → Type 0) (calls : Calls F) (k : Key) (low end n : ℕ) (s t : F) : Type 0 where
  pub front : List Key
  pub split : keys_of_dimensions k low (end - low) ≡ front ++ keys_of_dimensions k n (end - n)
  pub none_refused : first_refusal front ≡ None
  pub answered : EachAnswered calls s front t
  pub may_go_on : MayForceEach may calls t (keys_of_dimensions k n (end - n))

module _ (k : Key) (low end n : ℕ) (l : n < end) where
  keys-left : keys_of_dimensions k n (end - n) ≡ keys_of_dimension k n ++ keys_of_dimensions k (suc n) (end - suc n)
  keys-left = ap (keys_of_dimensions k n) (let q : end - n ≡ suc (end - suc n) = omega arith in q)

  numbers-left : dimensions_at k n (end - n) ≡ dimension_at k n ∷ dimensions_at k (suc n) (end - suc n)
  numbers-left = ap (dimensions_at k n) (let q : end - n ≡ suc (end - suc n) = omega arith in q)

  pub numbers-more : (old new : List ℕ) (d : ℕ) → dimensions_at k low (end - low) ≡ old ++ dimensions_at k n (end - n) → d ≡ dimension_at k n → new ≡ old ++ d ∷ []
      → dimensions_at k low (end - low) ≡ new ++ dimensions_at k (n + 1) (end - (n + 1))
  numbers-more old new d h e f =
      h ∙ ap (λ x. old ++ x) (numbers-left ∙ ap (λ x. x ∷ dimensions_at k (suc n) (end - suc n)) (sym e)) ∙ sym (append_assoc old (d ∷ []) (dimensions_at k (suc n) (end - suc n)))
      ∙ (λ i. sym f i ++ dimensions_at k ((let q : suc n ≡ n + 1 = omega arith in q) i) (end - (let q : suc n ≡ n + 1 = omega arith in q) i))

  module _ {F : Type 0} (may : F → Key → Type 0) (calls : Calls F) (s t u : F) (h : Walked may calls k low end n s t) where
    abbrev now : List Key
    now = keys_of_dimension k n

    abbrev later : List Key
    later = keys_of_dimensions k (suc n) (end - suc n)

    abbrev whole : List Key
    whole = keys_of_dimensions k low (end - low)

    whole-is : whole ≡ h.front ++ (now ++ later)
    whole-is = h.split ∙ ap (λ x. h.front ++ x) keys-left

    pub walked-may : MayForceEach may calls t now
    walked-may = may-now now later may calls t t t (subst (MayForceEach may calls t) keys-left h.may_go_on)

    pub walked-asked : AskedFirst calls now t u → AskedFirst calls whole s u
    walked-asked a =
        subst (λ ks. AskedFirst calls ks s u) (sym whole-is)
        (asked-then h.front (now ++ later) may calls s t u h.none_refused h.answered (asked-now now later may calls t u u a))

    pub walked-seam : first_refusal now ≡ None → EachAnswered calls t now u → AskedFirst calls whole s u
    walked-seam e a =
        subst (λ ks. AskedFirst calls ks s u) (sym whole-is)
        (asked-then h.front (now ++ later) may calls s t u h.none_refused h.answered (asked-seam now later may calls t u u e a))

    pub walked-over : (w : Over) → (first_refusal now ≡ Some w) × EachAnswered calls t (up_to_refusal now) u → (first_refusal whole ≡ Some w) × EachAnswered calls s (up_to_refusal whole) u
    walked-over w e =
        subst (λ ks. (first_refusal ks ≡ Some w) × EachAnswered calls s (up_to_refusal ks) u) (sym whole-is)
        (over-then h.front (now ++ later) may calls s t u w h.none_refused h.answered (over-now now later may calls t u u w e))

    pub walked-more : first_refusal now ≡ None → EachAnswered calls t now u → Walked may calls k low end (n + 1) s u
    walked-more e a = subst (λ m. Walked may calls k low end m s u) (let q : suc n ≡ n + 1 = omega arith in q) next
      where
        next : Walked may calls k low end (suc n) s u
        next = record {
          front = h.front ++ now;
          split = whole-is ∙ sym (append_assoc h.front now later);
          none_refused = refused-then h.front now None h.none_refused e;
          answered = each-then h.front now may calls s t u h.answered a;
          may_go_on = may-then now later may calls t u u (subst (MayForceEach may calls t) keys-left h.may_go_on) e a;
        }

module _ {F : Type 0} (may : F → Key → Type 0) (calls : Calls F) (k : Key) (low end : ℕ) (s t : F) where
  pub walked-start : MayForceEach may calls s (keys_of_dimensions k low (end - low)) → Walked may calls k low end low s s
  walked-start h = record { front = []; split = refl; none_refused = refl; answered = refl; may_go_on = h }

  module _ (n : ℕ) (l : end ≤ n) (h : Walked may calls k low end n s t) where
    whole-front : keys_of_dimensions k low (end - low) ≡ h.front
    whole-front = h.split ∙ ap (λ m. h.front ++ keys_of_dimensions k n m) (let q : end - n ≡ 0 = omega arith in q) ∙ append-nothing h.front

    pub walked-none : first_refusal (keys_of_dimensions k low (end - low)) ≡ None
    walked-none = ap first_refusal whole-front ∙ h.none_refused

    pub walked-all : EachAnswered calls s (keys_of_dimensions k low (end - low)) t
    walked-all = subst (λ ks. EachAnswered calls s ks t) (sym whole-front) h.answered

  pub numbers-all : (n : ℕ) → end ≤ n → (ns : List ℕ) → dimensions_at k low (end - low) ≡ ns ++ dimensions_at k n (end - n) → ns ≡ dimensions_at k low (end - low)
  numbers-all n l ns e = sym (e ∙ ap (λ m. ns ++ dimensions_at k n m) (let q : end - n ≡ 0 = omega arith in q) ∙ append-nothing ns)
