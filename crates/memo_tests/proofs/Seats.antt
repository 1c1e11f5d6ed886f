-- Two passes of a table, and tickets that a pass may spend.
use Rattle.std.proofs.Common.{◌≡◌, ℕ, zero, suc, ◌<◌, arith, refl, ap, List, [], ◌∷◌, sym, ◌∙◌, subst, Some}
use Rattle.std.specs.Prelude.{Any, Result, Ok}
use Rattle.std.specs.declared.alloc.AllocError.{AllocError}
use Rattle.std.proofs.lemmas.List.Elements.{All-nil, All-cons}
use Rattle.oracle_iface.specs.Memos.{IsClaimed, IsOwn}
use Rattle.oracle_iface.specs.Histories.{IsHeld, slot_of}
use Rattle.oracle_iface.specs.declared.keys.Key.{Key}
use Rattle.oracle_iface.specs.declared.memo.Claim.{Claim}
use Rattle.oracle_iface.specs.declared.memo.Claim.TheVariants.{Granted}
use Rattle.oracle_iface.specs.declared.memo.Ticket.{Ticket}
use Rattle.oracle_iface.proofs.Fronts.{granted_own}
use Rattle.force_engine.specs.Fronts.{IsFree}
use Rattle.memo_shared.specs.Shards.{shard_number}
use Rattle.memo_shared.specs.Shared.{fronts_of, made_of, seat_of, IsOf}
use Rattle.memo_shared.specs.Whole.{IsWhole}
use Rattle.memo_shared.specs.declared.memo.MemoPass.{MemoPass}
use Rattle.memo_shared.specs.declared.memo.SharedMemo.{SharedMemo}

module _ (old new : MemoPass) (key : Key) (answer : Result Claim AllocError) (t : Ticket) (is : answer ≡ Ok (Granted t))
    (told : IsClaimed (seat_of old) (shard_number key) key (Some (fronts_of old)) (Some (fronts_of new)) answer) where
  granted : IsClaimed (seat_of old) (shard_number key) key (Some (fronts_of old)) (Some (fronts_of new)) (Ok (Granted t))
  granted = subst (IsClaimed (seat_of old) (shard_number key) key (Some (fronts_of old)) (Some (fronts_of new))) is told

  -- the ticket is of the key that was claimed
  pub of_key : t.key ≡ key
  of_key = granted.0

  -- the pass may spend it
  pub own : seat_of new ≡ seat_of old → IsOwn (seat_of new) (shard_number t.key) (Some (fronts_of new)) t
  own same =
      subst (λ n. IsOwn n (shard_number t.key) (Some (fronts_of new)) t) (sym same)
      (granted_own shard_number (seat_of old) key (Some (fronts_of old)) (Some (fronts_of new)) t granted)

-- the passes of seats 0 and 1 are all passes, where the first has made two
pub both : (m : SharedMemo) (one two : MemoPass) → IsOf m one → IsOf m two → seat_of one ≡ 0 → made_of one ≡ 2 → seat_of two ≡ 1 → IsWhole m (two ∷ one ∷ [])
both m one two is is' first many second = record {
  of_this = All-cons (IsOf m) two (one ∷ []) is' (All-cons (IsOf m) one [] is (All-nil (IsOf m)));
  first = has_first;
  as_many = All-cons P two (one ∷ []) (λ e. absurd (let n : ℕ = seat_of two in let e' : n ≡ 0 = e in let f : n ≡ 1 = second in omega arith)) (All-cons P one [] (λ e. many) (All-nil P));
  every = each;
}
  where
    P : MemoPass → Type 0
    P p = seat_of p ≡ 0 → made_of p ≡ 2

    has_first : Any (λ p. seat_of p ≡ 0) (two ∷ one ∷ [])
    has_first = (1, one, omega arith, refl, first)

    each : (seat : ℕ) → seat < 2 → Any (λ p. seat_of p ≡ seat) (two ∷ one ∷ [])
    each zero lt = has_first
    each (suc zero) lt = (0, two, omega arith, refl, second)
    each (suc (suc n)) lt = absurd (omega arith)

-- a seat that has seen nothing holds no key
pub free : (seat : ℕ) (key : Key) (h : ℕ → List _) → ((shard : ℕ) → h shard ≡ []) → IsFree seat shard_number key h
free seat key h none = record { itself = held key; lower = λ k below. held k }
  where
    held : (k : Key) → IsHeld (h (shard_number k)) k seat → ⊥
    held k e = cc (sym (ap (λ l. slot_of l k) (none (shard_number k))) ∙ e)
