-- Keys that are asked for up to a refusal, each of them answered.
use Rattle.std.proofs.Common.{◌≡◌, ℕ, suc, ◌+◌, ◌<◌, List, [], ◌∷◌, ◌++◌, length, take, drop, get_or, Option, Some, None, Ok, refl, sym, ◌∙◌, ap, subst, arith}
use Rattle.std.proofs.Math.Seq.{take-suc, drop-cons}
use Rattle.std.proofs.lemmas.List.{take-append-drop}
use Rattle.oracle_iface.specs.declared.keys.Key.{Key}
use Rattle.oracle_iface.specs.declared.bodies.Over.{Over}
use Rattle.oracle_iface.specs.declared.cell_values.CellValue.{CellValue}
use Rattle.oracle_iface.specs.Forcing.{Calls, Asked}
use Rattle.homology_rules.specs.Asking.{outcome_of, refusal_in, first_refusal, up_to_refusal, EachAnswered}
use Rattle.homology_rules.proofs.Answered.{up-none, up-whole}
use Rattle.homology_rules.proofs.Alike.{up-refused}

-- one key is asked for, whether it is refused or not
pub up-one : (k : Key) → up_to_refusal (k ∷ []) ≡ k ∷ []
up-one k = by (refusal_in (outcome_of k))
  where
    by : (o : Option Over) → k ∷ (let a : List Key = elim o [ Some w ↦ [] | None ↦ [] ] in a) ≡ k ∷ []
    by None = refl
    by (Some w) = refl

module _ {F : Type 0} (calls : Calls F) where
  pub each-asked : (ks : List Key) (s t : F) → EachAnswered calls s ks t → Asked calls s ks t
  each-asked [] s t h = h
  each-asked (k ∷ ks) s t h = (h.0, Ok h.1, h.2, each-asked ks h.0 t h.3)

  pub each-both : (a b : List Key) (s t u : F) → EachAnswered calls s a t → EachAnswered calls t b u → EachAnswered calls s (a ++ b) u
  each-both [] b s t u h g = subst (λ x. EachAnswered calls x b u) (sym h) g
  each-both (k ∷ a) b s t u h g = (h.0, h.1, h.2, each-both a b h.0 t u h.3 g)

  -- no key is refused, and all are asked for
  pub through-whole : (ks : List Key) (s t : F) → first_refusal ks ≡ None → EachAnswered calls s ks t → EachAnswered calls s (up_to_refusal ks) t
  through-whole ks s t n h = subst (λ x. EachAnswered calls s x t) (sym (up-whole ks n)) h

  pub whole-through : (ks : List Key) (s t : F) → first_refusal ks ≡ None → EachAnswered calls s (up_to_refusal ks) t → EachAnswered calls s ks t
  whole-through ks s t n h = subst (λ x. EachAnswered calls s x t) (up-whole ks n) h

  -- a refusal ends the keys
  pub through-now : (a b : List Key) (s t : F) (w : Over) → first_refusal a ≡ Some w → EachAnswered calls s (up_to_refusal a) t → EachAnswered calls s (up_to_refusal (a ++ b)) t
  through-now a b s t w e h = subst (λ x. EachAnswered calls s x t) (sym (up-refused a b w e)) h

  -- keys that are asked for after others, of which none is refused
  pub through-then : (a b : List Key) (s t u : F) → first_refusal a ≡ None → EachAnswered calls s a t → EachAnswered calls t (up_to_refusal b) u → EachAnswered calls s (up_to_refusal (a ++ b)) u
  through-then a b s t u n h g = subst (λ x. EachAnswered calls s x u) (sym (up-none a b n)) (each-both a (up_to_refusal b) s t u h g)

  pub through-one : (k : Key) (ks : List Key) (s t : F) (v : CellValue) (w : Over) → refusal_in (outcome_of k) ≡ Some w → calls s k (Ok v) t → EachAnswered calls s (up_to_refusal (k ∷ ks)) t
  through-one k ks s t v w e c =
      subst (λ o. EachAnswered calls s (k ∷ (let a : List Key = elim o [ Some x ↦ [] | None ↦ up_to_refusal ks ] in a)) t) (sym e) (t, v, c, refl)

  pub through-more : (k : Key) (ks : List Key) (s t u : F) (v : CellValue) → refusal_in (outcome_of k) ≡ None → calls s k (Ok v) t → EachAnswered calls t (up_to_refusal ks) u
      → EachAnswered calls s (up_to_refusal (k ∷ ks)) u
  through-more k ks s t u v e c h =
      subst (λ o. EachAnswered calls s (k ∷ (let a : List Key = elim o [ Some x ↦ [] | None ↦ up_to_refusal ks ] in a)) u) (sym e) (t, v, c, h)

  -- ---- a step of the walk along keys

  module _ (ks : List Key) (i : ℕ) (k : Key) (l : i < length ks) (k_is : k ≡ get_or ks i k) (s t u : F) (v : CellValue) (c : calls t k (Ok v) u) (h : EachAnswered calls s (take i ks) t) where
    pub each-more : EachAnswered calls s (take (i + 1) ks) u
    each-more =
        subst (λ x. EachAnswered calls s x u)
        (sym (ap (λ n. take n ks) (let q : i + 1 ≡ suc i = omega arith in q) ∙ take-suc ks i k l ∙ ap (λ x. take i ks ++ x ∷ []) (sym k_is)))
        (each-both (take i ks) (k ∷ []) s t u h (u, v, c, refl))

    pub through-found : (w : Over) → first_refusal (take i ks) ≡ None → refusal_in (outcome_of k) ≡ Some w → EachAnswered calls s (up_to_refusal ks) u
    through-found w n e =
        subst (λ x. EachAnswered calls s (up_to_refusal x) u)
        (sym (sym (take-append-drop i ks) ∙ ap (λ x. take i ks ++ x) (drop-cons ks i k l ∙ ap (λ x. x ∷ drop (suc i) ks) (sym k_is))))
        (through-then (take i ks) (k ∷ drop (suc i) ks) s t u n h (through-one k (drop (suc i) ks) t u v w e c))
