-- Calls of the answerer, one after the other: what they keep, and what they settle.
use Rattle.std.proofs.Common.{◌≡◌, ℕ, List, [], ◌∷◌, Result, Ok, Err, Some, None, OnOk, refl, sym, ◌∙◌, subst}
use Rattle.std.specs.Prelude.{All, is_ok}
use Rattle.std.proofs.lemmas.List.Elements.{All-nil, All-cons, All-contains, All-weaker}
use Rattle.oracle_iface.specs.declared.keys.Key.{Key}
use Rattle.susp_rules.specs.Treated.{IsTreated}
use Rattle.oracle_iface.specs.Forcing.{Calls, Asked}
use Rattle.oracle_iface.specs.Memos.{Fronts}
use Rattle.homology_rules.specs.Asking.{up_to_refusal, EachAnswered}
use Rattle.force_engine.specs.Fronts.{IfTold, Between, IsFree}
use Rattle.force_engine.specs.Runs.{Ran}
use Rattle.force_engine.specs.Ways.{IsSettledAt, NeedsSettled, Went}
use Rattle.force_engine.proofs.Fronts.{between_both, told_to, if_map}
use Rattle.force_engine.proofs.Runs.{asked_meet, ran_self, ran_both}
use Rattle.force_engine.proofs.Ways.{at_left, at_right}
use Rattle.session_core.specs.Asked.{AsksKeys}
use Rattle.session_core.proofs.AskedThrough.{each-asked}
use Rattle.kernel_run.specs.Forcing.{IsReady, IsKept, SettlesAtOk}
use Rattle.kernel_run.specs.Settled.{HoldsNone, AreSettled}
use Rattle.kernel_run.specs.Treated.{TreatsAll}

-- a seat that held no key holds none after calls that leave what it holds
pub holds_none_after : (seat new_seat : ℕ) (shard : Key → ℕ) (a b : Fronts) → new_seat ≡ seat → Between (Went seat shard) a b → IfTold (HoldsNone seat shard) a
    → IfTold (HoldsNone new_seat shard) b
holds_none_after seat new_seat shard a b same went none =
    subst (λ (n : ℕ). IfTold (HoldsNone n shard) b) (sym same) (told_to _ _ _ (λ h n free w k held. free k ((w.holds (shard k) k).1 held)) a b none went)

-- what is shown of each key between fronts is shown of all
between_all : (seat : ℕ) (shard : Key → ℕ) (keys : List Key) (a b : Fronts) → Between (Went seat shard) a b → All (λ k. Between (IsSettledAt seat shard k) a b) keys
    → Between (AreSettled seat shard keys) a b
between_all seat shard keys (Some h) (Some n) went each = each
between_all seat shard keys (Some h) None went each = absurd went
between_all seat shard keys None (Some n) went each = absurd went
between_all seat shard keys None None went each = tt

module _ {M O : Type 0} (seat : M → ℕ) (shard : Key → ℕ) (fronts : M → Fronts) (origin : M → O) where
  abbrev pub Settles : Key → M → M → Type 0
  Settles k a b = Between (IsSettledAt (seat a) shard k) (fronts a) (fronts b)

  pub settles_earlier : (k : Key) (a b c : M) (i j : ℕ) → Ran seat shard fronts origin a b i j → Settles k b c → Settles k a c
  settles_earlier k a b c i j x s =
      between_both _ _ _ (λ h m n w t. at_left (seat a) shard (λ l. NeedsSettled (seat a) shard l h m) k h m n w.extends t) (fronts a) (fronts b) (fronts c) x.went
      (subst (λ (n : ℕ). Between (IsSettledAt n shard k) (fronts b) (fronts c)) x.seats s)

  pub settles_later : (k : Key) (a b c : M) (i j : ℕ) → seat b ≡ seat a → Settles k a b → Ran seat shard fronts origin b c i j → Settles k a c
  settles_later k a b c i j same s y =
      between_both _ _ _ (λ h m n t w. at_right (seat a) shard (λ l. NeedsSettled (seat a) shard l m n) k h m n t w.extends) (fronts a) (fronts b) (fronts c) s
      (subst (λ (n : ℕ). Between (Went n shard) (fronts b) (fronts c)) same y.went)

  pub kept_self : {R N : Type 0} (r : R) (l : N) (a : M) (i : ℕ) → IsKept seat shard fronts origin r r l l a a i i
  kept_self r l a i = record { same_rules = refl; same_loan = refl; ran = ran_self seat shard fronts origin a i }

  pub kept_both : {R N : Type 0} (r s t : R) (l m n : N) (a b c : M) (i j k : ℕ) → IsKept seat shard fronts origin r s l m a b i j
      → IsKept seat shard fronts origin s t m n b c j k → IsKept seat shard fronts origin r t l n a c i k
  kept_both r s t l m n a b c i j k x y = record {
    same_rules = y.same_rules ∙ x.same_rules;
    same_loan = y.same_loan ∙ x.same_loan;
    ran = ran_both seat shard fronts origin a b c i j k x.ran y.ran;
  }

  -- an answerer that was ready is ready
  pub ready_after : {R N : Type 0} (treats : R → Key → Type 0) (r s : R) (l m : N) (a b : M) (i j : ℕ) → IsReady (treats r) (seat a) shard (fronts a)
      → IsKept seat shard fronts origin r s l m a b i j → IsReady (treats s) (seat b) shard (fronts b)
  ready_after treats r s l m a b i j ready kept = record {
    all_treated = subst (λ z. TreatsAll (treats z)) (sym kept.same_rules) ready.all_treated;
    holds_none = holds_none_after (seat a) (seat b) shard (fronts a) (fronts b) kept.ran.seats kept.ran.went ready.holds_none;
  }

  module _ {S R N : Type 0} (rules : S → R) (loan : S → N) (memo : S → M) (steps : S → ℕ) where
    -- two states of the answerer, the first before calls and the second after them
    abbrev pub Keeps : S → S → Type 0
    Keeps s t = IsKept seat shard fronts origin (rules s) (rules t) (loan s) (loan t) (memo s) (memo t) (steps s) (steps t)

    abbrev pub answers : Calls S
    answers s k r t = Keeps s t × SettlesAtOk seat shard fronts origin k r (memo s) (memo t)

    keeps_self : (s : S) → Keeps s s
    keeps_self s = kept_self (rules s) (loan s) (memo s) (steps s)

    keeps_both : (s t u : S) → Keeps s t → Keeps t u → Keeps s u
    keeps_both s t u = kept_both (rules s) (rules t) (rules u) (loan s) (loan t) (loan u) (memo s) (memo t) (memo u) (steps s) (steps t) (steps u)

    pub keeps_run : (ks : List Key) (s t : S) → Asked answers s ks t → Keeps s t
    keeps_run ks s t e = asked_meet answers Keeps keeps_self keeps_both (λ s k r t a. a.0) ks s t e

    each_settled : (ks : List Key) (s t : S) → EachAnswered answers s ks t → All (λ k. Settles k (memo s) (memo t)) ks
    each_settled [] s t e = All-nil (λ k. Settles k (memo s) (memo t))
    each_settled (k ∷ ks) s t e =
        let u = e.0 in
        let first : Keeps s u = e.2.0 in
        let rest : Keeps u t = keeps_run ks u t (each-asked answers ks u t e.3) in
        All-cons (λ k. Settles k (memo s) (memo t)) k ks (settles_later k (memo s) (memo u) (memo t) (steps u) (steps t) first.ran.seats e.2.1 rest.ran)
        (All-weaker (λ k. Settles k (memo u) (memo t)) (λ k. Settles k (memo s) (memo t))
        (λ k s'. settles_earlier k (memo s) (memo u) (memo t) (steps s) (steps u) first.ran s') ks (each_settled ks u t e.3))

    -- a line that is answered has settled its keys
    pub reply_settled : {A E : Type 0} (r : Result A E) (keys : List Key) (s t : S) → AsksKeys answers keys s t (is_ok r)
        → OnOk r (Between (AreSettled (seat (memo s)) shard (up_to_refusal keys)) (fronts (memo s)) (fronts (memo t)))
    reply_settled (Ok x) keys s t a =
        let each = each_settled a.asks s t a.whole.1 in
        between_all (seat (memo s)) shard (up_to_refusal keys) (fronts (memo s)) (fronts (memo t)) (keeps_run a.asks s t a.asked).ran.went
        (λ i d lt. All-contains (λ k. Settles k (memo s) (memo t)) a.asks _ each (a.whole.0 i d lt))
    reply_settled (Err e) keys s t a = tt

    -- each treated key may be asked for, after any calls
    pub may_after : (treats : R → Key → Type 0) (ks : List Key) (s t : S) (k : Key) → IsReady (treats (rules s)) (seat (memo s)) shard (fronts (memo s)) → Asked answers s ks t
        → IsTreated k → treats (rules t) k × IfTold (IsFree (seat (memo t)) shard k) (fronts (memo t))
    may_after treats ks s t k ready asked is =
        let now = ready_after treats (rules s) (rules t) (loan s) (loan t) (memo s) (memo t) (steps s) (steps t) ready (keeps_run ks s t asked) in
        (now.all_treated k is, if_map _ _ (λ h none. record { itself = none k; lower = λ l low. none l }) (fronts (memo t)) now.holds_none)
