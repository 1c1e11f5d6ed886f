-- What each call of a forcer keeps, calls one after the other keep.
use Rattle.std.proofs.Common.{◌≡◌, ℕ, suc, ◌<◌, ◌≤◌, List, [], ◌∷◌, sym, ◌∙◌, subst, refl, arith, Result, Option, Some, None}
use Rattle.std.proofs.lemmas.List.Elements.{All-nil, All-cons, All-contains}
use Rattle.std.specs.Prelude.{All, Contains, map}
use Rattle.std.specs.declared.alloc.AllocError.{AllocError}
use Rattle.fp_field.specs.declared.prime.Prime.{Prime}
use Rattle.values.specs.Asks.{Ask}
use Rattle.oracle_iface.specs.Forcing.{Calls, Asked}
use Rattle.oracle_iface.specs.Keys.{key_of, needs_of}
use Rattle.oracle_iface.specs.Memos.{Fronts}
use Rattle.oracle_iface.specs.declared.cell_values.CellValue.{CellValue}
use Rattle.oracle_iface.specs.declared.keys.Key.{Key}
use Rattle.force_engine.specs.Fronts.{IfTold, Between, IsFree, IsFreeBelow, key_rank}
use Rattle.force_engine.specs.Ways.{IsSettledAt, NeedsSettled, Went}
use Rattle.force_engine.specs.Runs.{Ran}
use Rattle.force_engine.proofs.Fronts.{between_self, between_both, told_to, if_map}
use Rattle.force_engine.proofs.Ways.{went_self, went_both, at_left, at_right}

-- a relation that is reflexive and transitive, and that each call meets
pub asked_meet : {S : Type 0} (calls : Calls S) (Q : S → S → Type 0) → ((s : S) → Q s s) → ((s t u : S) → Q s t → Q t u → Q s u)
    → ((s : S) (k : Key) (r : Result CellValue AllocError) (t : S) → calls s k r t → Q s t) → (ks : List Key) (s t : S) → Asked calls s ks t → Q s t
asked_meet calls Q same both one [] s t e = subst (Q s) e (same s)
asked_meet calls Q same both one (k ∷ ks) s t e = both s e.0 t (one s k e.1 e.0 e.2) (asked_meet calls Q same both one ks e.0 t e.3)

-- a fact of each call, which longer runs keep
pub asked_all : {S : Type 0} (calls : Calls S) (Q : S → S → Type 0) (P : S → Key → S → Type 0) → ((s : S) → Q s s) → ((s t u : S) → Q s t → Q t u → Q s u)
    → ((s : S) (k : Key) (r : Result CellValue AllocError) (t : S) → calls s k r t → Q s t)
    → ((s : S) (k : Key) (r : Result CellValue AllocError) (t : S) → calls s k r t → P s k t)
    → ((s t u : S) (k : Key) → Q s t → P t k u → P s k u) → ((s t u : S) (k : Key) → P s k t → Q t u → P s k u)
    → (ks : List Key) (s t : S) → Asked calls s ks t → All (λ k. P s k t) ks
asked_all calls Q P same both one each left right [] s t e = All-nil (λ k. P s k t)
asked_all calls Q P same both one each left right (k ∷ ks) s t e = All-cons (λ k. P s k t) k ks
    (right s e.0 t k (each s k e.1 e.0 e.2) (asked_meet calls Q same both one ks e.0 t e.3))
    (λ i d lt. left s e.0 t _ (one s k e.1 e.0 e.2) (asked_all calls Q P same both one each left right ks e.0 t e.3 i d lt))

-- what is shown of all asked keys is shown of the needs, where these are asked for
pub needs_of_asked : (P : Key → Type 0) (p : Prime) (asks needs : List Ask) → All P (map (key_of p) asks) → All (Contains asks) needs → All (λ q. P (key_of p q)) needs
needs_of_asked P p asks needs shown all i d lt = All-contains (λ q. P (key_of p q)) asks _ (back asks shown) (all i d lt)
  where
    back : (qs : List Ask) → All P (map (key_of p) qs) → All (λ q. P (key_of p q)) qs
    back [] x = All-nil (λ q. P (key_of p q))
    back (q ∷ qs) x = All-cons (λ q. P (key_of p q)) q qs (x 0 (key_of p q) (omega arith)) (back qs (λ j d lt. x (suc j) d (omega (arith, lt))))

-- ---- the memo, the count of the steps and the want of memory that a closure has

module _ {M O : Type 0} (seat : M → ℕ) (shard : Key → ℕ) (fronts : M → Fronts) (origin : M → O) where
  pub ran_self : (m : M) (n : ℕ) → Ran seat shard fronts origin m m n n
  ran_self m n = record { seats = refl; origins = refl; went = between_self _ (went_self (seat m) shard) (fronts m); rises = omega arith }

  pub ran_both : (a b c : M) (i j k : ℕ) → Ran seat shard fronts origin a b i j → Ran seat shard fronts origin b c j k → Ran seat shard fronts origin a c i k
  ran_both a b c i j k x y = record {
    seats = y.seats ∙ x.seats;
    origins = y.origins ∙ x.origins;
    went = between_both _ _ _ (went_both (seat a) shard) (fronts a) (fronts b) (fronts c) x.went
        (subst (λ (n : ℕ). Between (Went n shard) (fronts b) (fronts c)) x.seats y.went);
    rises = (let l : i ≤ j = x.rises in let m : j ≤ k = y.rises in omega (arith, l, m));
  }

  abbrev pub Settles : Key → M → M → Type 0
  Settles k a b = Between (IsSettledAt (seat a) shard k) (fronts a) (fronts b)

  settles_left : (k : Key) (a b c : M) (i j : ℕ) → Ran seat shard fronts origin a b i j → Settles k b c → Settles k a c
  settles_left k a b c i j x s =
      between_both _ _ _ (λ h m n w t. at_left (seat a) shard (λ l. NeedsSettled (seat a) shard l h m) k h m n w.extends t) (fronts a) (fronts b) (fronts c) x.went
      (subst (λ (n : ℕ). Between (IsSettledAt n shard k) (fronts b) (fronts c)) x.seats s)

  settles_right : (k : Key) (a b c : M) (i j : ℕ) → seat b ≡ seat a → Settles k a b → Ran seat shard fronts origin b c i j → Settles k a c
  settles_right k a b c i j same s y =
      between_both _ _ _ (λ h m n t w. at_right (seat a) shard (λ l. NeedsSettled (seat a) shard l m n) k h m n t w.extends) (fronts a) (fronts b) (fronts c) s
      (subst (λ (n : ℕ). Between (Went n shard) (fronts b) (fronts c)) same y.went)

  -- a seat that held no key below a rank holds none after it
  pub ran_free : (rank : ℕ) (a b : M) (i j : ℕ) → Ran seat shard fronts origin a b i j → IfTold (IsFreeBelow (seat a) shard rank) (fronts a)
      → IfTold (IsFreeBelow (seat b) shard rank) (fronts b)
  ran_free rank a b i j x free =
      subst (λ (n : ℕ). IfTold (IsFreeBelow n shard rank) (fronts b)) (sym x.seats)
      (told_to _ _ _ (λ h n f w k low held. f k low ((w.holds (shard k) k).1 held)) (fronts a) (fronts b) free x.went)

  pub free_for : (key : Key) (rank : ℕ) (a : M) → key_rank key < rank → IfTold (IsFreeBelow (seat a) shard rank) (fronts a) → IfTold (IsFree (seat a) shard key) (fronts a)
  free_for key rank a less free =
      if_map _ _ (λ h f. record {
        itself = f key less;
        lower = λ k low. f k (let m : ℕ = key_rank k in let n : ℕ = key_rank key in let l : m < n = low in let l' : n < rank = less in let goal : m < rank = omega (arith, l, l') in goal);
      }) (fronts a) free

  module _ {S T R L N K : Type 0} (top : S → T) (rules : S → R) (name : S → L) (memo : S → M) (step_name : S → N) (steps : S → ℕ) (lack_name : S → K) (lack : S → Option AllocError) where
    -- what stays over the calls of a closure
    pub record Stays (s t : S) : Type 0 where
      pub tops : top t ≡ top s
      pub same_rules : rules t ≡ rules s
      pub names : name t ≡ name s
      pub step_names : step_name t ≡ step_name s
      pub lack_names : lack_name t ≡ lack_name s
      pub lacks : lack t ≡ None → lack s ≡ None
      pub ran : Ran seat shard fronts origin (memo s) (memo t) (steps s) (steps t)

    -- the key is settled, if no call was without memory
    abbrev pub Answered : S → Key → S → Type 0
    Answered s k t = lack t ≡ None → Settles k (memo s) (memo t)

    stays_self : (s : S) → Stays s s
    stays_self s = record { tops = refl; same_rules = refl; names = refl; step_names = refl; lack_names = refl; lacks = λ x. x; ran = ran_self (memo s) (steps s) }

    stays_both : (s t u : S) → Stays s t → Stays t u → Stays s u
    stays_both s t u a b = record {
      tops = b.tops ∙ a.tops;
      same_rules = b.same_rules ∙ a.same_rules;
      names = b.names ∙ a.names;
      step_names = b.step_names ∙ a.step_names;
      lack_names = b.lack_names ∙ a.lack_names;
      lacks = λ x. a.lacks (b.lacks x);
      ran = ran_both (memo s) (memo t) (memo u) (steps s) (steps t) (steps u) a.ran b.ran;
    }

    answered_left : (s t u : S) (k : Key) → Stays s t → Answered t k u → Answered s k u
    answered_left s t u k a p clear = settles_left k (memo s) (memo t) (memo u) (steps s) (steps t) a.ran (p clear)

    answered_right : (s t u : S) (k : Key) → Stays s t → Answered s k t → Stays t u → Answered s k u
    answered_right s t u k a p b clear = settles_right k (memo s) (memo t) (memo u) (steps t) (steps u) a.ran.seats (p (b.lacks clear)) b.ran

    module _ (calls : Calls S) (one : (s : S) (k : Key) (r : Result CellValue AllocError) (t : S) → calls s k r t → Stays s t × Answered s k t) where
      pub stays_run : (ks : List Key) (s t : S) → Asked calls s ks t → Stays s t
      stays_run ks s t e = asked_meet calls Stays stays_self stays_both (λ s k r t a. (one s k r t a).0) ks s t e

      -- after calls that all had memory each asked key is settled
      answers_run : (ks : List Key) (s t : S) → Asked calls s ks t → All (λ k. Answered s k t) ks
      answers_run ks s t e i d lt = (asked_all calls Stays (λ s k t. Stays s t × Answered s k t) stays_self stays_both (λ s k r t a. (one s k r t a).0) one
          (λ s t u k a p. (stays_both s t u a p.0, answered_left s t u k a p.1)) (λ s t u k p b. (stays_both s t u p.0 b, answered_right s t u k p.0 p.1 b)) ks s t e i d lt).1

      -- the memo and the count that come back are the last ones
      pub came_back : (ks : List Key) (s t : S) → Asked calls s ks t → (m : M) (n : ℕ) → (name s ≡ name t → m ≡ memo t) → (step_name s ≡ step_name t → n ≡ steps t)
          → Ran seat shard fronts origin (memo s) m (steps s) n
      came_back ks s t e m n back step_back =
          let a = stays_run ks s t e in
          subst (λ (z : M). Ran seat shard fronts origin (memo s) z (steps s) n) (sym (back (sym a.names)))
          (subst (λ (z : ℕ). Ran seat shard fronts origin (memo s) (memo t) (steps s) z) (sym (step_back (sym a.step_names))) a.ran)

      -- no want of memory comes back, and all that is needed was asked for
      pub needs_came_back : (key : Key) (asks : List Ask) (s t : S) → Asked calls s (map (key_of key.prime) asks) t → (m : M) (f : Option AllocError)
          → (name s ≡ name t → m ≡ memo t) → (lack_name s ≡ lack_name t → f ≡ lack t) → f ≡ None → All (Contains asks) (needs_of key)
          → Between (NeedsSettled (seat (memo s)) shard key) (fronts (memo s)) (fronts m)
      needs_came_back key asks s t e m f back lack_back clear all =
          let a = stays_run _ s t e in
          let not_set : lack t ≡ None = sym (lack_back (sym a.lack_names)) ∙ clear in
          let answers = answers_run (map (key_of key.prime) asks) s t e in
          subst (λ (z : M). Between (NeedsSettled (seat (memo s)) shard key) (fronts (memo s)) (fronts z)) (sym (back (sym a.names)))
          (between_all (seat (memo s)) (fronts (memo s)) (fronts (memo t)) a.ran.went
          (needs_of_asked (λ k. Settles k (memo s) (memo t)) key.prime asks (needs_of key) (λ i d lt. answers i d lt not_set) all))
        where
          between_all : (n : ℕ) (x y : Fronts) → Between (Went n shard) x y → All (λ q. Between (IsSettledAt n shard (key_of key.prime q)) x y) (needs_of key)
              → Between (NeedsSettled n shard key) x y
          between_all n (Some h) (Some l) w s = s
          between_all n (Some h) None w s = absurd w
          between_all n None (Some l) w s = absurd w
          between_all n None None w s = tt
