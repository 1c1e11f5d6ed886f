-- Lists of keys that are the same up to the first refusal: the same keys are asked for, and the same refusal is met.
use Rattle.std.proofs.Common.{◌≡◌, List, [], ◌∷◌, ◌++◌, Option, Some, None, refl, sym, ◌∙◌, ap, subst}
use Rattle.oracle_iface.specs.declared.keys.Key.{Key}
use Rattle.oracle_iface.specs.declared.bodies.Over.{Over}
use Rattle.oracle_iface.specs.Forcing.{Calls}
use Rattle.homology_rules.specs.Asking.{outcome_of, refusal_in, first_refusal, up_to_refusal, MayForceEach}
use Rattle.homology_rules.proofs.Answered.{none-split, up-none, up-whole, or_then, refusal-append}

pub record Alike (ks js : List Key) : Type 0 where
  pub keys : up_to_refusal ks ≡ up_to_refusal js
  pub refusal : first_refusal ks ≡ first_refusal js

pub alike-same : (ks js : List Key) → ks ≡ js → Alike ks js
alike-same ks js e = record { keys = ap up_to_refusal e; refusal = ap first_refusal e }

pub alike-then : (ks js ls : List Key) → Alike ks js → js ≡ ls → Alike ks ls
alike-then ks js ls h e = subst (Alike ks) e h

-- where none is refused, they are the same lists
pub alike-whole : (ks js : List Key) → Alike ks js → first_refusal ks ≡ None → ks ≡ js
alike-whole ks js h e = sym (up-whole ks e) ∙ h.keys ∙ up-whole js (sym h.refusal ∙ e)

-- a refusal ends the keys
pub up-refused : (ks js : List Key) (w : Over) → first_refusal ks ≡ Some w → up_to_refusal (ks ++ js) ≡ up_to_refusal ks
up-refused [] js w h = absurd (cc)
up-refused (k ∷ ks) js w h = by (refusal_in (outcome_of k)) h (up-refused ks js w)
  where
    by : (o : Option Over) → (let a : Option Over = elim o [ Some v ↦ Some v | None ↦ first_refusal ks ] in a) ≡ Some w
        → (first_refusal ks ≡ Some w → up_to_refusal (ks ++ js) ≡ up_to_refusal ks)
        → k ∷ (let a : List Key = elim o [ Some v ↦ [] | None ↦ up_to_refusal (ks ++ js) ] in a) ≡ k ∷ (let b : List Key = elim o [ Some v ↦ [] | None ↦ up_to_refusal ks ] in b)
    by None e f = ap (λ z. k ∷ z) (f e)
    by (Some v) e f = refl

-- what stands behind them matters where none of them is refused
pub alike-append : (a b c d : List Key) → Alike a b → (first_refusal a ≡ None → Alike c d) → Alike (a ++ c) (b ++ d)
alike-append a b c d h then_alike = by (first_refusal a) refl
  where
    refused : (w : Over) → first_refusal a ≡ Some w → Alike (a ++ c) (b ++ d)
    refused w e =
        let f : first_refusal b ≡ Some w = sym h.refusal ∙ e in
        record {
          keys = up-refused a c w e ∙ h.keys ∙ sym (up-refused b d w f);
          refusal = refusal-append a c ∙ ap (λ o. or_then o (first_refusal c)) e ∙ sym (refusal-append b d ∙ ap (λ o. or_then o (first_refusal d)) f);
        }

    whole : first_refusal a ≡ None → Alike (a ++ c) (b ++ d)
    whole e =
        let rest = then_alike e in
        let f : first_refusal b ≡ None = sym h.refusal ∙ e in
        record {
          keys = up-none a c e ∙ (λ i. alike-whole a b h e i ++ rest.keys i) ∙ sym (up-none b d f);
          refusal = refusal-append a c ∙ (λ i. or_then (h.refusal i) (rest.refusal i)) ∙ sym (refusal-append b d);
        }

    by : (o : Option Over) → first_refusal a ≡ o → Alike (a ++ c) (b ++ d)
    by None e = whole e
    by (Some w) e = refused w e

-- one key, and what stands behind it where it is not refused
pub alike-cons : (k : Key) (ks js : List Key) → (refusal_in (outcome_of k) ≡ None → Alike ks js) → Alike (k ∷ ks) (k ∷ js)
alike-cons k ks js h = alike-append (k ∷ []) (k ∷ []) ks js (alike-same (k ∷ []) (k ∷ []) refl) (λ e. h (none-split k [] e).0)

-- keys that may be asked for one after the other
module _ {F : Type 0} (may : F → Key → Type 0) (calls : Calls F) where
  may-up : (ks : List Key) (s : F) → MayForceEach may calls s ks → MayForceEach may calls s (up_to_refusal ks)
  may-up [] s h = tt
  may-up (k ∷ ks) s h = (h.0, λ r t c e. subst (λ o. MayForceEach may calls t (let a : List Key = elim o [ Some w ↦ [] | None ↦ up_to_refusal ks ] in a)) (sym e) (may-up ks t (h.1 r t c e)))

  may-from_up : (ks : List Key) (s : F) → MayForceEach may calls s (up_to_refusal ks) → MayForceEach may calls s ks
  may-from_up [] s h = tt
  may-from_up (k ∷ ks) s h = (h.0, λ r t c e. may-from_up ks t (subst (λ o. MayForceEach may calls t (let a : List Key = elim o [ Some w ↦ [] | None ↦ up_to_refusal ks ] in a)) e (h.1 r t c e)))

  pub may-alike : (ks js : List Key) (s : F) → Alike ks js → MayForceEach may calls s js → MayForceEach may calls s ks
  may-alike ks js s h m = may-from_up ks s (subst (MayForceEach may calls s) (sym h.keys) (may-up js s m))
