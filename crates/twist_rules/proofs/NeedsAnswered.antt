-- What was asked for along the needs of a key, as a rule owes it.
use Rattle.std.proofs.Common.{◌≡◌, ℕ, zero, suc, List, [], ◌∷◌, ◌++◌, map, take, Option, Some, None, refl, sym, ap, subst}
use Rattle.std.specs.Prelude.{Result, Ok, Err, IfOk, IsErrAnd}
use Rattle.std.proofs.lemmas.List.{append-nil}
use Rattle.std.proofs.lemmas.List.Elements.{All-contains_itself}
use Rattle.std.specs.declared.alloc.AllocError.{AllocError}
use Rattle.values.specs.Asks.{Ask}
use Rattle.oracle_iface.specs.declared.keys.Key.{Key}
use Rattle.oracle_iface.specs.declared.bodies.Over.{Over}
use Rattle.oracle_iface.specs.declared.bodies.Outcome.{Outcome}
use Rattle.oracle_iface.specs.declared.bodies.Outcome.TheVariants.{Value, Over as IsOver}
use Rattle.oracle_iface.specs.Keys.{key_of, needs_of}
use Rattle.oracle_iface.specs.Forcing.{Calls, Asked, MayForceNeeds, Begins, nothing_asked, asked_now, CoversAtValue, AsksNeeds}
use Rattle.homology_rules.specs.Asking.{outcome_of, refusal_in, first_refusal, up_to_refusal, MayForceEach, AskedFirst, EachAnswered}
use Rattle.homology_rules.proofs.Alike.{alike-same}
use Rattle.homology_rules.proofs.NeedsAsked.{may-each}
use Rattle.homology_rules.proofs.Through.{each-asked, whole-through}
use Rattle.twist_rules.specs.Concluded.{keys_needed, IsUnrefused}

-- a front of a list is read from it, question by question
begins-front : (seen front rest : List Ask) → Begins seen front (front ++ rest)
begins-front seen [] rest = nothing_asked seen rest
begins-front seen (q ∷ front) rest = asked_now seen q front (front ++ rest) (begins-front (q ∷ seen) front rest)

-- a front of the questions, with these keys
record Front (key : Ask → Key) (qs : List Ask) (ks : List Key) : Type 0 where
  pub front : List Ask
  pub rest : List Ask
  pub whole : qs ≡ front ++ rest
  pub keys : ks ≡ map key front

take-nothing : (i : ℕ) → take i (let none : List Key = [] in none) ≡ []
take-nothing zero = refl
take-nothing (suc i) = refl

-- the first keys up to a refusal are those of a front of the questions
front-up : (key : Ask → Key) (i : ℕ) (qs : List Ask) → Front key qs (take i (up_to_refusal (map key qs)))
front-up key zero qs = record { front = []; rest = qs; whole = refl; keys = refl }
front-up key (suc i) [] = record { front = []; rest = []; whole = refl; keys = refl }
front-up key (suc i) (q ∷ qs) = by (refusal_in (outcome_of (key q))) (front-up key i qs)
  where
    by : (o : Option Over) → Front key qs (take i (up_to_refusal (map key qs)))
        → Front key (q ∷ qs) (key q ∷ take i (let a : List Key = elim o [ Some w ↦ [] | None ↦ up_to_refusal (map key qs) ] in a))
    by None h = record { front = q ∷ h.front; rest = h.rest; whole = ap (λ z. q ∷ z) h.whole; keys = ap (λ z. key q ∷ z) h.keys }
    by (Some w) h = record { front = q ∷ []; rest = qs; whole = refl; keys = ap (λ z. key q ∷ z) (take-nothing i) }

module _ {F : Type 0} (calls : Calls F) (k : Key) where
  abbrev key : Ask → Key
  key q = key_of k.prime q

  pub may-needs : (may : F → Key → Type 0) (s : F) → MayForceNeeds may calls k s → MayForceEach may calls s (keys_needed k)
  may-needs may s m = may-each calls k may s m (keys_needed k) (alike-same (keys_needed k) (keys_needed k) refl)

  module _ (s t : F) where
    -- some of the needs were asked for
    asks-some : (r : Result Outcome AllocError) → ((qs : List Ask) → CoversAtValue r qs (needs_of k)) → AskedFirst calls (keys_needed k) s t → AsksNeeds calls k s t r
    asks-some r covers a =
        let f = front-up key a.0 (needs_of k) in
        record {
          asks = f.front;
          begins = subst (Begins [] f.front) (sym f.whole) (begins-front [] f.front f.rest);
          whole = covers f.front;
          asked = subst (λ js. Asked calls s js t) f.keys a.1;
        }

    -- all of them were
    asks-all : (b : _) → first_refusal (keys_needed k) ≡ None → EachAnswered calls s (up_to_refusal (keys_needed k)) t → AsksNeeds calls k s t (Ok (Value b))
    asks-all b e a = record {
      asks = needs_of k;
      begins = subst (Begins [] (needs_of k)) (append-nil (needs_of k)) (begins-front [] (needs_of k) []);
      whole = All-contains_itself (needs_of k);
      asked = each-asked calls (keys_needed k) s t (whole-through calls (keys_needed k) s t e a);
    }

    -- without an outcome
    pub asks-failed : (Q : AllocError → Type 0) (r : Result Outcome AllocError) → IsErrAnd r Q → AskedFirst calls (keys_needed k) s t → AsksNeeds calls k s t r
    asks-failed Q (Ok o) h a = absurd h
    asks-failed Q (Err e) h a = asks-some (Err e) (λ qs. tt) a

    -- with an outcome, or want of memory
    pub asks-concluded : (r : Result Outcome AllocError) → AskedFirst calls (keys_needed k) s t → EachAnswered calls s (up_to_refusal (keys_needed k)) t
        → IfOk r (λ o. IsUnrefused (keys_needed k) o) → AsksNeeds calls k s t r
    asks-concluded (Ok (Value b)) a e h = asks-all b h e
    asks-concluded (Ok (IsOver w)) a e h = asks-some (Ok (IsOver w)) (λ qs. tt) a
    asks-concluded (Err e) a f h = asks-some (Err e) (λ qs. tt) a
