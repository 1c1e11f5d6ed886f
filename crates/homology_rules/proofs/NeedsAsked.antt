-- Keys of the needs of a key: that they may be asked for, and what was asked for along them.
use Rattle.std.proofs.Common.{◌≡◌, ℕ, zero, suc, List, [], ◌∷◌, ◌++◌, map, take, Option, Some, None, refl, sym, ◌∙◌, ap, subst}
use Rattle.std.specs.Prelude.{Result, Ok, Err, Contains, IfOk}
use Rattle.std.specs.List.{AllByRecursion as Every}
use Rattle.std.proofs.lemmas.List.{map-append}
use Rattle.std.proofs.lemmas.List.Elements.{All-from_recursion, recursion_from_All, All-contains_itself}
use Rattle.std.specs.declared.alloc.AllocError.{AllocError}
use Rattle.values.specs.Asks.{Ask}
use Rattle.oracle_iface.specs.declared.keys.Key.{Key}
use Rattle.oracle_iface.specs.declared.bodies.Over.{Over}
use Rattle.oracle_iface.specs.declared.bodies.Outcome.{Outcome}
use Rattle.oracle_iface.specs.declared.bodies.Outcome.TheVariants.{Value, Over as IsOver}
use Rattle.oracle_iface.specs.Keys.{key_of, needs_of}
use Rattle.oracle_iface.specs.Forcing.{Calls, Asked, asked-both, MayForceNeeds, Begins, nothing_asked, asked_now, CoversAtValue, AsksNeeds}
use Rattle.oracle_iface.proofs.ProperBases.{every_append}
use Rattle.homology_rules.specs.Asking.{outcome_of, refusal_in, first_refusal, up_to_refusal, MayForceEach, AskedFirst}
use Rattle.homology_rules.specs.Degrees.{keys_of_cycles, IsCyclesAnswer}
use Rattle.homology_rules.proofs.Alike.{Alike, alike-whole, may-alike}

-- a front of a list is read from it, question by question
begins-front : (seen front rest : List Ask) → Begins seen front (front ++ rest)
begins-front seen [] rest = nothing_asked seen rest
begins-front seen (q ∷ front) rest = asked_now seen q front (front ++ rest) (begins-front (q ∷ seen) front rest)

append-nothing : (qs : List Ask) → qs ++ [] ≡ qs
append-nothing [] = refl
append-nothing (q ∷ qs) = ap (λ z. q ∷ z) (append-nothing qs)

-- a front of the questions, with these keys
record Front (key : Ask → Key) (qs : List Ask) (ks : List Key) : Type 0 where
  pub front : List Ask
  pub rest : List Ask
  pub whole : qs ≡ front ++ rest
  pub keys : ks ≡ map key front

take-nothing : (i : ℕ) → take i (let none : List Key = [] in none) ≡ []
take-nothing zero = refl
take-nothing (suc i) = refl

module _ (key : Ask → Key) where
  -- the first keys up to a refusal are those of a front of the questions
  front-up : (i : ℕ) (qs : List Ask) → Front key qs (take i (up_to_refusal (map key qs)))
  front-up zero qs = record { front = []; rest = qs; whole = refl; keys = refl }
  front-up (suc i) [] = record { front = []; rest = []; whole = refl; keys = refl }
  front-up (suc i) (q ∷ qs) = by (refusal_in (outcome_of (key q))) (front-up i qs)
    where
      by : (o : Option Over) → Front key qs (take i (up_to_refusal (map key qs)))
          → Front key (q ∷ qs) (key q ∷ take i (let a : List Key = elim o [ Some w ↦ [] | None ↦ up_to_refusal (map key qs) ] in a))
      by None h = record { front = q ∷ h.front; rest = h.rest; whole = ap (λ z. q ∷ z) h.whole; keys = ap (λ z. key q ∷ z) h.keys }
      by (Some w) h = record { front = q ∷ []; rest = qs; whole = refl; keys = ap (λ z. key q ∷ z) (take-nothing i) }

module _ {F : Type 0} (calls : Calls F) (k : Key) where
  abbrev key : Ask → Key
  key q = key_of k.prime q

  abbrev ns : List Ask
  ns = needs_of k

  module _ (may : F → Key → Type 0) (s : F) (m : MayForceNeeds may calls k s) where
    along : (asked rest : List Ask) (t : F) → Every (Contains ns) asked → Every (Contains ns) rest → Asked calls s (map key asked) t → MayForceEach may calls t (map key rest)
    along asked [] t a b h = tt
    along asked (q ∷ rest) t a b h = (
      m asked t q (All-from_recursion (Contains ns) asked a) h b.0,
      λ r u c e. along (asked ++ q ∷ []) rest u (every_append (Contains ns) asked (q ∷ []) a (b.0, tt)) b.1
          (subst (λ ks. Asked calls s ks u) (sym (map-append key asked (q ∷ []))) (asked-both calls s t u (map key asked) (key q ∷ []) h (u, r, c, refl))),
    )

    -- needs may be asked for one after the other, and so may keys that are the same up to a refusal
    pub may-each : (ks : List Key) → Alike ks (map key ns) → MayForceEach may calls s ks
    may-each ks h = may-alike may calls ks (map key ns) s h (along [] ns s tt (recursion_from_All (Contains ns) ns (All-contains_itself ns)) refl)

  module _ (s t : F) (n : ℕ) (h : Alike (keys_of_cycles k n) (map key ns)) where
    covers : (r : Result Outcome AllocError) → CoversAtValue r ns ns
    covers (Ok (Value b)) = All-contains_itself ns
    covers (Ok (IsOver w)) = tt
    covers (Err e) = tt

    -- the keys up to a refusal are those of a front of the needs
    some-asked : (r : Result Outcome AllocError) → ((qs : List Ask) → CoversAtValue r qs ns) → AskedFirst calls (keys_of_cycles k n) s t → AsksNeeds calls k s t r
    some-asked r c a =
        let f = front-up key a.0 ns in
        record {
          asks = f.front;
          begins = subst (Begins [] f.front) (sym f.whole) (begins-front [] f.front f.rest);
          whole = c f.front;
          asked = subst (λ js. Asked calls s js t) (ap (take a.0) h.keys ∙ f.keys) a.1;
        }

    -- where none is refused, all needs were asked for
    all-asked : (r : Result Outcome AllocError) → first_refusal (keys_of_cycles k n) ≡ None → Asked calls s (keys_of_cycles k n) t → AsksNeeds calls k s t r
    all-asked r e a = record {
      asks = ns;
      begins = subst (Begins [] ns) (append-nothing ns) (begins-front [] ns []);
      whole = covers r;
      asked = subst (λ js. Asked calls s js t) (alike-whole (keys_of_cycles k n) (map key ns) h e) a;
    }

    pub asks-of : (r : Result Outcome AllocError) → AskedFirst calls (keys_of_cycles k n) s t → IfOk r (λ o. IsCyclesAnswer calls k n s t o) → AsksNeeds calls k s t r
    asks-of (Ok (Value b)) a o = all-asked (Ok (Value b)) o.0 o.2
    asks-of (Ok (IsOver w)) a o = some-asked (Ok (IsOver w)) (λ qs. tt) a
    asks-of (Err e) a o = some-asked (Err e) (λ qs. tt) a
