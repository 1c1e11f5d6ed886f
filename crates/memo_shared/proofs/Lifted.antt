-- A call on one part of a pass, as a call of the pass: the other parts stay.
use Rattle.std.proofs.Common.{◌≡◌, ◌≢◌, ℕ, ◌<◌, ap, List, set, length, get_or, slice_get, sym, ◌∙◌, subst, Option, Some}
use Rattle.std.specs.Prelude.{Result}
use Rattle.std.specs.declared.alloc.AllocError.{AllocError}
use Rattle.oracle_iface.specs.Histories.{IsHeld, entry}
use Rattle.oracle_iface.specs.Memos.{Grows, Steps, IsClaimed, IsLooked}
use Rattle.oracle_iface.specs.declared.cell_values.CellValue.{CellValue}
use Rattle.oracle_iface.specs.declared.entries.Act.{Act}
use Rattle.oracle_iface.specs.declared.entries.Entry.{Entry}
use Rattle.oracle_iface.specs.declared.keys.Key.{Key}
use Rattle.oracle_iface.specs.declared.memo.Claim.{Claim}
use Rattle.memo_book.proofs.Lists.{there}
use Rattle.turnstile.specs.declared.counted.Counted.{Ghosts}
use Rattle.turnstile.specs.declared.pass.Pass.{Pass}
use Rattle.turnstile.specs.declared.pass.Turnstile.{Turnstile}
use Rattle.turnstile.specs.Passes.{front, IsOutside, IsSamePass}
use Rattle.memo_shared.specs.Shared.{AtEach, IsPart, front_or}
use Rattle.memo_shared.specs.Answers.{IsClaimedBy, IsLookedBy}
use Rattle.memo_shared.proofs.Answered.{claimed_as, looked_as, is_claimed, is_looked}
use Rattle.memo_shared.proofs.Rows.{got_here, got_apart, at_set}
use Rattle.memo_shared.proofs.Begun.{steps_of}

module _ {B E : Type 0} {g : Ghosts B E} (seat many : ℕ) (ts : List (Turnstile B E)) (qs : List (Pass B E g)) (j : ℕ) (t : Turnstile B E) (q : Pass B E g) (inside : j < length ts) (inside' : j < length qs)
    (t_is : t ≡ get_or ts j t) (q_is : q ≡ get_or qs j q) (each : AtEach (IsPart seat many) ts qs) where
  -- the part that is lent
  pub lent : IsPart seat many t q
  lent = each j t q (there ts j t t inside t_is) (there qs j q q inside' q_is)

  -- and the parts when it is back
  pub kept_parts : (q' : Pass B E g) → IsSamePass q q' × IsOutside q' → AtEach (IsPart seat many) ts (set qs j q')
  kept_parts q' same =
      at_set (IsPart seat many) ts qs j t q' (there ts j t t inside t_is) inside' each
      (record { of_this = same.0.0 ∙ lent.of_this; outside = same.1; number_is = same.0.1 ∙ lent.number_is; made_is = same.0.2 ∙ lent.made_is })

module _ {B : Type 0} {g : Ghosts B Entry} (qs : List (Pass B Entry g)) (j shard : ℕ) (q q' : Pass B Entry g) (is : j ≡ shard) (inside : j < length qs) (q_is : q ≡ get_or qs j q) where
  before : front_or (slice_get qs shard) ≡ front q
  before = ap (λ k. front_or (slice_get qs k)) (sym is) ∙ ap front_or (there qs j q q inside q_is)

  after : front_or (slice_get (set qs j q') shard) ≡ front q'
  after = ap (λ k. front_or (slice_get (set qs j q') k)) (sym is) ∙ ap front_or (got_here qs j q' inside)

  others : (other : ℕ) → other ≢ shard → front_or (slice_get (set qs j q') other) ≡ front_or (slice_get qs other)
  others other ne = ap front_or (got_apart qs j other q' (λ e. ne (e ∙ is)))

  pub lifts : (seat : ℕ) (shows : List Entry → Type 0) (own : List Entry) → Grows seat (front q) (front q') shows own
      → Steps seat shard (Some (λ k. front_or (slice_get qs k))) (Some (λ k. front_or (slice_get (set qs j q') k))) shows own
  lifts seat shows own = steps_of seat shard (λ k. front_or (slice_get qs k)) (λ k. front_or (slice_get (set qs j q') k)) (front q) (front q') before after others shows own

  -- what the seat holds in its front of the shard, it holds in that of the part
  pub held_in : (seat holder : ℕ) (key : Key) → holder ≡ seat → IsHeld (front_or (slice_get qs shard)) key seat → IsHeld (front q) key holder
  held_in seat holder key e h = subst (λ n. IsHeld (front q) key n) (sym e) (subst (λ l. IsHeld l key seat) before h)

  pub lifts_end : (act : Act) (seat holder : ℕ) (key : Key) → holder ≡ seat → Grows holder (front q) (front q') (λ h. IsHeld h key holder) (entry act holder key)
      → Steps seat shard (Some (λ k. front_or (slice_get qs k))) (Some (λ k. front_or (slice_get (set qs j q') k))) (λ h. IsHeld h key seat) (entry act seat key)
  lifts_end act seat holder key e g =
      lifts seat (λ h. IsHeld h key seat) (entry act seat key) (subst (λ n. Grows n (front q) (front q') (λ h. IsHeld h key n) (entry act n key)) e g)

  pub lifts_claim : (seat : ℕ) (key : Key) (answer : Result Claim AllocError) → IsClaimedBy seat key (Grows seat (front q) (front q')) answer
      → IsClaimed seat shard key (Some (λ k. front_or (slice_get qs k))) (Some (λ k. front_or (slice_get (set qs j q') k))) answer
  lifts_claim seat key answer a =
      is_claimed seat shard key (Some (λ k. front_or (slice_get qs k))) (Some (λ k. front_or (slice_get (set qs j q') k))) answer
      (claimed_as seat key (Grows seat (front q) (front q')) (Steps seat shard (Some (λ k. front_or (slice_get qs k))) (Some (λ k. front_or (slice_get (set qs j q') k))))
      (λ shows own mine g. lifts seat shows own g) answer a)

  pub lifts_look : (seat : ℕ) (key : Key) (answer : Result (Option CellValue) AllocError) → IsLookedBy key (Grows seat (front q) (front q')) answer
      → IsLooked seat shard key (Some (λ k. front_or (slice_get qs k))) (Some (λ k. front_or (slice_get (set qs j q') k))) answer
  lifts_look seat key answer a =
      is_looked seat shard key (Some (λ k. front_or (slice_get qs k))) (Some (λ k. front_or (slice_get (set qs j q') k))) answer
      (looked_as seat key (Grows seat (front q) (front q')) (Steps seat shard (Some (λ k. front_or (slice_get qs k))) (Some (λ k. front_or (slice_get (set qs j q') k))))
      (λ shows own mine g. lifts seat shows own g) answer a)
