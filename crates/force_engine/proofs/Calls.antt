-- The calls of a memo and of the rule, one after the other, as one call of the engine makes them.
use Rattle.std.proofs.Common.{◌≡◌, ℕ, ◌+◌, ◌≤◌, Bool, true, false, List, [], sym, ◌∙◌, subst, refl, arith, Some, None}
use Rattle.std.specs.Prelude.{Result, Ok, Err, is_ok, IfOk}
use Rattle.oracle_iface.specs.Histories.{IsHeld, IsUnclaimed, IsPublished, is_full, entry}
use Rattle.oracle_iface.specs.Memos.{Fronts, Steps, IsOwn}
use Rattle.oracle_iface.specs.declared.entries.Act.TheVariants.{Claims}
use Rattle.oracle_iface.specs.declared.entries.Entry.{Entry}
use Rattle.oracle_iface.specs.declared.keys.Key.{Key}
use Rattle.oracle_iface.specs.declared.memo.Ticket.{Ticket}
use Rattle.force_engine.specs.Fronts.{Told, IfTold, IsTold, Between, IsFree, IsFreeBelow, IsThere, key_rank}
use Rattle.force_engine.specs.Settled.{is_there}
use Rattle.force_engine.specs.Ways.{HasValue, IsSettledAt, NeedsSettled, WasBegunAt, Went, Ended}
use Rattle.force_engine.specs.Runs.{Ran}
use Rattle.force_engine.proofs.Fronts.{Step, Owns, between_map, between_both, told_from, told_to, told_never, step_between, own_if_told}
use Rattle.force_engine.proofs.Histories.{was_there, quiet_shown}
use Rattle.force_engine.proofs.Turns.{Ends, turn}
use Rattle.force_engine.proofs.Ways.{Turned, quiet_went, free_quiet, free_claimed, claim_holds, busy_turned, full_turned}

pub ok_if : {A E : Type 0} (r : Result A E) (P : Type 0) → (is_ok r ≡ true → P) → IfOk r (λ (a : A). P)
ok_if (Ok a) P p = p refl
ok_if (Err e) P p = tt

pub ok_any : {A E : Type 0} (r : Result A E) (P : Type 0) → P → IfOk r (λ (a : A). P)
ok_any r P p = ok_if r P (λ _ok. p)

pub when_ok : {A E : Type 0} (r : Result A E) (P : Type 0) → IfOk r (λ (a : A). P) → is_ok r ≡ true → P
when_ok (Ok a) P p e = p
when_ok (Err x) P p e = absurd (cc e)

ends_between : (seat sh : ℕ) (key : Key) (a b : Fronts) (found r : Bool) → Ended seat sh key a b found r → Between (Ends seat sh key found r) a b
ends_between seat sh key (Some h) (Some n) found true e = e
ends_between seat sh key (Some h) (Some n) found false e = e
ends_between seat sh key (Some h) None found true e = absurd e.1
ends_between seat sh key (Some h) None found false e = absurd e
ends_between seat sh key None (Some n) found true e = absurd e.1
ends_between seat sh key None (Some n) found false e = absurd e
ends_between seat sh key None None found r e = tt

any_front : (a : Fronts) → IfTold (λ h. Unit {0}) a
any_front (Some h) = tt
any_front None = tt

-- what is shown under conditions beside what is shown anyway
between_when : {X Y : Type 0} (P Q : Told → Told → Type 0) (a b : Fronts) → Between P a b → (X → Y → Between Q a b) → Between (λ h n. P h n × (X → Y → Q h n)) a b
between_when P Q (Some h) (Some n) p f = (p, f)
between_when P Q (Some h) None p f = absurd p
between_when P Q None (Some n) p f = absurd p
between_when P Q None None p f = tt

abbrev Roomy : Key → List Entry → Type 0
Roomy key h = IsUnclaimed h key × (is_full h key ≡ false)

abbrev Roomless : Key → List Entry → Type 0
Roomless key h = IsUnclaimed h key × (is_full h key ≡ true)

abbrev HeldBy : ℕ → Key → List Entry → Type 0
HeldBy holder key h = IsHeld h key holder

abbrev Found : Key → List Entry → Type 0
Found key h = IsPublished h key

module _ {M O : Type 0} (seat : M → ℕ) (shard : Key → ℕ) (fronts : M → Fronts) (origin : M → O) (key : Key) where
  -- what a call of the engine has done, by its answer
  pub record Done (r : Bool) (a b : M) (i j : ℕ) : Type 0 where
    pub ran : Ran seat shard fronts origin a b i j
    pub begun : Between (WasBegunAt (seat a) shard key) (fronts a) (fronts b)
    pub settled : r ≡ true → Between (IsSettledAt (seat a) shard key) (fronts a) (fronts b)

  done_by : (r : Bool) (a b : M) (i j : ℕ) → seat b ≡ seat a → origin b ≡ origin a → i ≤ j → Between (Turned (seat a) shard key r) (fronts a) (fronts b) → Done r a b i j
  done_by r a b i j seats origins rises turned = record {
    ran = record { seats = seats; origins = origins; went = between_map _ _ (λ h n t. t.went) (fronts a) (fronts b) turned; rises = rises };
    begun = between_map _ _ (λ h n t. t.begun) (fronts a) (fronts b) turned;
    settled = λ ok. between_map _ _ (λ h n t. t.settled ok) (fronts a) (fronts b) turned;
  }

  module _ (a b : M) (seats : seat b ≡ seat a) (origins : origin b ≡ origin a) where
    pub quiet_ran : (shows : List Entry → Type 0) (i : ℕ) → Steps (seat a) (shard key) (fronts a) (fronts b) shows [] → Ran seat shard fronts origin a b i i
    quiet_ran shows i s = record {
      seats = seats;
      origins = origins;
      went = between_map _ _ (λ h n t. quiet_went (seat a) shard (shard key) shows h n t) (fronts a) (fronts b) (step_between (seat a) (shard key) shows [] (fronts a) (fronts b) s);
      rises = omega arith;
    }

    pub found_settled : Steps (seat a) (shard key) (fronts a) (fronts b) (Found key) [] → Between (IsSettledAt (seat a) shard key) (fronts a) (fronts b)
    found_settled s = between_map _ _ (λ h n t. is_there (quiet_shown (seat a) (h (shard key)) (n (shard key)) (Found key) t.0)) (fronts a) (fronts b)
        (step_between (seat a) (shard key) (Found key) [] (fronts a) (fronts b) s)

    -- a key that was published before gets no other answer
    pub no_other : (shows : List Entry → Type 0) (own : List Entry) (i j : ℕ) → ((h : List Entry) → shows h → IsPublished h key → ⊥)
        → IsTold (IsThere shard key) (fronts a) → Steps (seat a) (shard key) (fronts a) (fronts b) shows own → j ≡ i
    no_other shows own i j never there s =
        absurd (told_never _ _ (λ h n is t. never _ t.0.shown (was_there (seat a) (h (shard key)) (n (shard key)) shows own t.0 key is)) (fronts a) (fronts b) there
        (step_between (seat a) (shard key) shows own (fronts a) (fronts b) s))

    module _ (free : IfTold (IsFree (seat a) shard key) (fronts a)) where
      pub free_to_run : (shows : List Entry → Type 0) → Steps (seat a) (shard key) (fronts a) (fronts b) shows []
          → IfTold (IsFreeBelow (seat b) shard (key_rank key)) (fronts b)
      free_to_run shows s = subst (λ (n : ℕ). IfTold (IsFreeBelow n shard (key_rank key)) (fronts b)) (sym seats)
          (told_to _ _ _ (λ h n f t. free_quiet (seat a) shard key h n shows f t) (fronts a) (fronts b) free
          (step_between (seat a) (shard key) shows [] (fronts a) (fronts b) s))

      pub free_with_ticket : (shows : List Entry → Type 0) → Steps (seat a) (shard key) (fronts a) (fronts b) shows (entry Claims (seat a) key)
          → IfTold (IsFreeBelow (seat b) shard (key_rank key)) (fronts b)
      free_with_ticket shows s = subst (λ (n : ℕ). IfTold (IsFreeBelow n shard (key_rank key)) (fronts b)) (sym seats)
          (told_to _ _ _ (λ h n f t. free_claimed (seat a) shard key h n shows t f) (fronts a) (fronts b) free
          (step_between (seat a) (shard key) shows (entry Claims (seat a) key) (fronts a) (fronts b) s))

      module _ (c : M) (i j : ℕ) (ran : Ran seat shard fronts origin b c (i + 1) j) where
        later : i ≤ j
        later = let l : i + 1 ≤ j = ran.rises in omega (arith, l)

        went : Between (Went (seat a) shard) (fronts b) (fronts c)
        went = subst (λ (n : ℕ). Between (Went n shard) (fronts b) (fronts c)) seats ran.went

        pub busy_done : (holder : ℕ) → Steps (seat a) (shard key) (fronts a) (fronts b) (HeldBy holder key) [] → Done true a c i j
        busy_done holder s = done_by true a c i j (ran.seats ∙ seats) (ran.origins ∙ origins) later
            (told_from _ _ _ (λ h l f p. busy_turned (seat a) shard key h p.0 l p.1.1 holder true f p.1.0) (fronts a) (fronts c) free
            (between_both _ _ (λ h l. (m : Told) × (Step (seat a) (shard key) (HeldBy holder key) [] h m × Went (seat a) shard m l)) (λ h m l t w. (m, (t, w)))
            (fronts a) (fronts b) (fronts c) (step_between (seat a) (shard key) (HeldBy holder key) [] (fronts a) (fronts b) s) went))

        pub full_done : Steps (seat a) (shard key) (fronts a) (fronts b) (Roomless key) [] → Done true a c i j
        full_done s = done_by true a c i j (ran.seats ∙ seats) (ran.origins ∙ origins) later
            (between_both _ _ _ (λ h m l t w. full_turned (seat a) shard key h m l w true t) (fronts a) (fronts b) (fronts c)
            (step_between (seat a) (shard key) (Roomless key) [] (fronts a) (fronts b) s) went)

        module _ (t : Ticket) (of_key : t.key ≡ key) (of_seat : t.seat ≡ seat a)
            (claimed : Steps (seat a) (shard key) (fronts a) (fronts b) (Roomy key) (entry Claims (seat a) key)) where
          -- after the rule the key is still held
          pub still_own : IsOwn (seat c) (shard t.key) (fronts c) t
          still_own = subst (λ (n : ℕ). IsOwn n (shard t.key) (fronts c) t) (sym (ran.seats ∙ seats))
              (own_if_told (seat a) (shard t.key) t (fronts c)
              (told_to (Owns (seat a) (shard t.key) t) _ (Owns (seat a) (shard t.key) t) (λ h n o w. (o.0, (w.holds (shard t.key) t.key).0 o.1)) (fronts b) (fronts c) own went))
            where
              own : IfTold (Owns (seat a) (shard t.key) t) (fronts b)
              own = told_to (λ h. Unit {0}) _ _ (λ h n _u s. (
                of_seat,
                subst (λ (z : Key). IsHeld (n (shard z)) z (seat a)) (sym of_key)
                    (claim_holds (seat a) shard key h n (Roomy key) s),
              )) (fronts a) (fronts b) (any_front (fronts a))
                  (step_between (seat a) (shard key) (Roomy key) (entry Claims (seat a) key) (fronts a) (fronts b) claimed)

          abbrev Prepared : Bool → Told → Told → Type 0
          Prepared found m k = Went (seat a) shard m k × (found ≡ true → HasValue key → NeedsSettled (seat a) shard key m k)

          pub granted_done : {A E B F : Type 0} (d : M) → seat d ≡ seat c → origin d ≡ origin c → (found : Result A E) (answer : Result B F)
              → IfOk found (λ _v. HasValue key → Between (NeedsSettled (seat b) shard key) (fronts b) (fronts c))
              → Ended (seat c) (shard t.key) t.key (fronts c) (fronts d) (is_ok found) (is_ok answer) → Done (is_ok answer) a d i j
          granted_done d seats' origins' found answer needs e = done_by (is_ok answer) a d i j (seats' ∙ ran.seats ∙ seats) (origins' ∙ ran.origins ∙ origins) later
              (told_from _ _ _ (λ h l f p. turn (seat a) shard key h p.0 p.1 l (Roomy key) f p.2.0 p.2.1.0.0 (is_ok found) (is_ok answer) p.2.1.0.1 p.2.1.1)
              (fronts a) (fronts d) free
              (between_both _ _ (λ h l. (m : Told) × (k : Told) × (Step (seat a) (shard key) (Roomy key) (entry Claims (seat a) key) h m
              × (Prepared (is_ok found) m k × Ends (seat a) (shard key) key (is_ok found) (is_ok answer) k l)))
              (λ h k l p q. (p.0, k, (p.1.0, (p.1.1, q)))) (fronts a) (fronts c) (fronts d)
              (between_both _ _ (λ h k. (m : Told) × (Step (seat a) (shard key) (Roomy key) (entry Claims (seat a) key) h m × Prepared (is_ok found) m k)) (λ h m k p q. (m, (p, q)))
              (fronts a) (fronts b) (fronts c) (step_between (seat a) (shard key) (Roomy key) (entry Claims (seat a) key) (fronts a) (fronts b) claimed)
              (between_when _ _ (fronts b) (fronts c) went (λ ok has. subst (λ (n : ℕ). Between (NeedsSettled n shard key) (fronts b) (fronts c)) seats (when_ok found _ needs ok has))))
              (ends_between (seat a) (shard key) key (fronts c) (fronts d) (is_ok found) (is_ok answer)
              (subst (λ (n : ℕ). Ended n (shard key) key (fronts c) (fronts d) (is_ok found) (is_ok answer)) (ran.seats ∙ seats)
              (subst (λ (z : Key). Ended (seat c) (shard z) z (fronts c) (fronts d) (is_ok found) (is_ok answer)) of_key e)))))
