-- An answerer that is lent for one question: what is asked for through the loan.
use Rattle.std.proofs.Common.{◌≡◌, ℕ, zero, suc, true, false, All, List, [], ◌∷◌, ◌++◌, take, Option, Some, None, Result, Ok, Err, refl, sym, ◌∙◌, ap, subst, arith}
use Rattle.std.specs.Prelude.{Contains, IfOk, is_ok}
use Rattle.std.proofs.lemmas.List.Elements.{Contains-get_or, All-push}
use Rattle.oracle_iface.specs.declared.keys.Key.{Key}
use Rattle.oracle_iface.specs.declared.bodies.Over.{Over}
use Rattle.oracle_iface.specs.Forcing.{Calls, Asked, asked-both}
use Rattle.susp_rules.specs.Treated.{IsTreated}
use Rattle.homology_rules.specs.Asking.{outcome_of, refusal_in, first_refusal, up_to_refusal, MayForceEach, AskedFirst, EachAnswered}
use Rattle.session_core.specs.Asked.{AnswersAll, AsksKeys, KeysBegin, nothing_asked, asked_now}

module _ {F A N : Type 0} (now : F → A) (name : F → N) (may : A → Key → Type 0) (calls : Calls A) where
  abbrev pub may_lent : F → Key → Type 0
  may_lent s k = may (now s) k

  abbrev pub lent : Calls F
  lent s k r t = calls (now s) k r (now t) × (name t ≡ name s)

  pub asked-lent : (ks : List Key) (s t : F) → Asked lent s ks t → Asked calls (now s) ks (now t)
  asked-lent [] s t h = ap now h
  asked-lent (k ∷ ks) s t h = (now h.0, h.1, h.2.0, asked-lent ks h.0 t h.3)

  pub name-kept : (ks : List Key) (s t : F) → Asked lent s ks t → name t ≡ name s
  name-kept [] s t h = ap name (sym h)
  name-kept (k ∷ ks) s t h = name-kept ks h.0 t h.3 ∙ h.2.1

  pub answered-lent : (ks : List Key) (s t : F) → EachAnswered lent s ks t → EachAnswered calls (now s) ks (now t)
  answered-lent [] s t h = ap now h
  answered-lent (k ∷ ks) s t h = (now h.0, h.1, h.2.0, answered-lent ks h.0 t h.3)

  -- each askable key may be asked for through the loan, after any askable ones
  may-each : (ks before : List Key) (x : A) (s : F) → AnswersAll may calls x → ((k : Key) → Contains ks k → IsTreated k) → All IsTreated before
      → Asked calls x before (now s) → MayForceEach may_lent lent s ks
  may-each [] before x s answers askable all asked = tt
  may-each (k ∷ ks) before x s answers askable all asked = (
    answers before (now s) k all asked (askable k (0, omega arith, refl)),
    λ r t call none.
        may-each ks (before ++ k ∷ []) x t answers (λ j c. askable j (later j c)) (more all (askable k (0, omega arith, refl)))
        (asked-both calls x (now s) (now t) before (k ∷ []) asked (now t, r, call.0, refl)),
  )
    where
      later : (j : Key) → Contains ks j → Contains (k ∷ ks) j
      later j c = (suc c.0, omega (arith, c.1), c.2)

      more : All IsTreated before → IsTreated k → All IsTreated (before ++ k ∷ [])
      more a i = All-push IsTreated before k a i

  pub may_each : (ks : List Key) (s : F) → AnswersAll may calls (now s) → ((k : Key) → Contains ks k → IsTreated k) → MayForceEach may_lent lent s ks
  may_each ks s answers askable = may-each ks [] (now s) s answers askable (λ k d h. absurd (omega arith)) refl

-- ---- the keys that were asked for, against those of the question

begin-front : (seen us : List Key) (n : ℕ) → KeysBegin seen (take n us) us
begin-front seen us zero = nothing_asked seen us
begin-front seen [] (suc n) = nothing_asked seen []
begin-front seen (u ∷ us) (suc n) = asked_now seen u (take n us) us (begin-front (u ∷ seen) us n)

begin-whole : (seen us : List Key) → KeysBegin seen us us
begin-whole seen [] = nothing_asked seen []
begin-whole seen (u ∷ us) = asked_now seen u us us (begin-whole (u ∷ seen) us)

pub all_up_to : (ks : List Key) → first_refusal ks ≡ None → up_to_refusal ks ≡ ks
all_up_to [] e = refl
all_up_to (k ∷ ks) e = by (refusal_in (outcome_of k)) refl (all_up_to ks)
  where
    by : (o : Option Over) → refusal_in (outcome_of k) ≡ o → (first_refusal ks ≡ None → up_to_refusal ks ≡ ks) → up_to_refusal (k ∷ ks) ≡ k ∷ ks
    by (Some w) f r = let g : first_refusal (k ∷ ks) ≡ Some w = ap (λ o. elim o as (λ _. Option Over) [ Some v ↦ Some v | None ↦ first_refusal ks ]) f in absurd (let h : Some w ≡ None = sym g ∙ e in cc h)
    by None f r =
        let g : first_refusal (k ∷ ks) ≡ first_refusal ks = ap (λ o. elim o as (λ _. Option Over) [ Some v ↦ Some v | None ↦ first_refusal ks ]) f in
        ap (λ o. k ∷ elim o as (λ _. List Key) [ Some v ↦ [] | None ↦ up_to_refusal ks ]) f ∙ ap (λ us. k ∷ us) (r (sym g ∙ e))

module _ {A : Type 0} (calls : Calls A) where
  pub each-asked : (ks : List Key) (s t : A) → EachAnswered calls s ks t → Asked calls s ks t
  each-asked [] s t h = h
  each-asked (k ∷ ks) s t h = (h.0, Ok h.1, h.2, each-asked ks h.0 t h.3)

  pub asks_whole : (keys : List Key) (s t : A) → EachAnswered calls s (up_to_refusal keys) t → AsksKeys calls keys s t true
  asks_whole keys s t h = record {
    asks = up_to_refusal keys;
    begins = begin-whole [] (up_to_refusal keys);
    asked = each-asked (up_to_refusal keys) s t h;
    whole = (λ k d l. Contains-get_or (up_to_refusal keys) k d l, h);
  }

  pub asks_front : (keys : List Key) (s t : A) → AskedFirst calls keys s t → AsksKeys calls keys s t false
  asks_front keys s t h = record { asks = take h.0 (up_to_refusal keys); begins = begin-front [] (up_to_refusal keys) h.0; asked = h.1; whole = tt }

-- ---- what was asked for through the loan was asked for

module _ {F A N : Type 0} (now : F → A) (name : F → N) (calls : Calls A) where
  abbrev through : Calls F
  through s k r t = calls (now s) k r (now t) × (name t ≡ name s)

  pub asks_through : {X E : Type 0} (r : Result X E) (keys : List Key) (s t : F) (final : A) → (name s ≡ name t → final ≡ now t)
      → IfOk r (λ _. EachAnswered through s (up_to_refusal keys) t) → AskedFirst through keys s t → AsksKeys calls keys (now s) final (is_ok r)
  asks_through r keys s t final last each first =
      subst (λ y. AsksKeys calls keys (now s) y (is_ok r)) (sym (last (sym (name-kept now name (λ a k. Unit {0}) calls (take first.0 (up_to_refusal keys)) s t first.1)))) (by r each)
    where
      by : {X E : Type 0} (q : Result X E) → IfOk q (λ _. EachAnswered through s (up_to_refusal keys) t) → AsksKeys calls keys (now s) (now t) (is_ok q)
      by (Ok v) h = asks_whole calls keys (now s) (now t) (answered-lent now name (λ a k. Unit {0}) calls (up_to_refusal keys) s t h)
      by (Err e) h = asks_front calls keys (now s) (now t) (first.0, asked-lent now name (λ a k. Unit {0}) calls (take first.0 (up_to_refusal keys)) s t first.1)
