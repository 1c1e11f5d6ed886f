-- Answers, told of one growth and then of another.
use Rattle.std.proofs.Common.{◌≡◌, ℕ, true, false, List, [], refl, Option, Some, None}
use Rattle.std.specs.Prelude.{All, Result, Ok, Err}
use Rattle.std.specs.declared.alloc.AllocError.{AllocError}
use Rattle.std.proofs.lemmas.List.Elements.{All-nil, All-cons}
use Rattle.oracle_iface.specs.Histories.{IsUnclaimed, IsHeld, IsPublished, is_full, entry}
use Rattle.oracle_iface.specs.Memos.{Fronts, IsClaimed, IsLooked, Steps, Anything}
use Rattle.oracle_iface.specs.declared.cell_values.CellValue.{CellValue}
use Rattle.oracle_iface.specs.declared.entries.Act.{Act}
use Rattle.oracle_iface.specs.declared.entries.Act.TheVariants.{Claims}
use Rattle.oracle_iface.specs.declared.entries.Entry.{Entry}
use Rattle.oracle_iface.specs.declared.keys.Key.{Key}
use Rattle.oracle_iface.specs.declared.memo.Claim.{Claim}
use Rattle.oracle_iface.specs.declared.memo.Claim.TheVariants.{Granted, Present, Busy, Full}
use Rattle.memo_shared.specs.Answers.{IsClaimedBy, IsLookedBy}

-- all entries are of the seat
abbrev pub AreOf : ℕ → List Entry → Type 0
AreOf seat own = All (λ (e : Entry). e.seat ≡ seat) own

pub none_of : (seat : ℕ) → AreOf seat []
none_of seat = All-nil (λ (e : Entry). e.seat ≡ seat)

pub one_of : (act : Act) (seat : ℕ) (key : Key) → AreOf seat (entry act seat key)
one_of act seat key = All-cons (λ (e : Entry). e.seat ≡ seat) (record { act = act; seat = seat; key = key }) [] refl (none_of seat)

module _ (seat : ℕ) (key : Key) (S T : (List Entry → Type 0) → List Entry → Type 0) where
  -- the call's own entries are of the seat
  pub claimed_as : ((shows : List Entry → Type 0) (own : List Entry) → AreOf seat own → S shows own → T shows own) → (answer : Result Claim AllocError)
      → IsClaimedBy seat key S answer → IsClaimedBy seat key T answer
  claimed_as f (Ok (Granted t)) c = (c.0, c.1, f (λ h. IsUnclaimed h key × (is_full h key ≡ false)) (entry Claims seat key) (one_of Claims seat key) c.2)
  claimed_as f (Ok (Present v)) c = (c.0, f (λ h. IsPublished h key) [] (none_of seat) c.1)
  claimed_as f (Ok (Busy holder)) c = f (λ h. IsHeld h key holder) [] (none_of seat) c
  claimed_as f (Ok (Full n)) c = (c.0, f (λ h. IsUnclaimed h key × (is_full h key ≡ true)) [] (none_of seat) c.1)
  claimed_as f (Err e) c = f Anything [] (none_of seat) c

  pub looked_as : ((shows : List Entry → Type 0) (own : List Entry) → AreOf seat own → S shows own → T shows own) → (answer : Result (Option CellValue) AllocError)
      → IsLookedBy key S answer → IsLookedBy key T answer
  looked_as f (Ok (Some v)) c = (c.0, f (λ h. IsPublished h key) [] (none_of seat) c.1)
  looked_as f (Ok None) c = f (λ h. IsPublished h key → ⊥) [] (none_of seat) c
  looked_as f (Err e) c = f Anything [] (none_of seat) c

module _ (seat : ℕ) (key : Key) (S : (List Entry → Type 0) → List Entry → Type 0) {P : Type 0} where
  -- whatever the answer, the history grew by entries of the seat
  pub claim_grew : ((shows : List Entry → Type 0) (own : List Entry) → AreOf seat own → S shows own → P) → (answer : Result Claim AllocError) → IsClaimedBy seat key S answer → P
  claim_grew f (Ok (Granted t)) c = f (λ h. IsUnclaimed h key × (is_full h key ≡ false)) (entry Claims seat key) (one_of Claims seat key) c.2
  claim_grew f (Ok (Present v)) c = f (λ h. IsPublished h key) [] (none_of seat) c.1
  claim_grew f (Ok (Busy holder)) c = f (λ h. IsHeld h key holder) [] (none_of seat) c
  claim_grew f (Ok (Full n)) c = f (λ h. IsUnclaimed h key × (is_full h key ≡ true)) [] (none_of seat) c.1
  claim_grew f (Err e) c = f Anything [] (none_of seat) c

module _ (seat shard : ℕ) (key : Key) (old new : Fronts) where
  -- in the words of the memo
  pub is_claimed : (answer : Result Claim AllocError) → IsClaimedBy seat key (Steps seat shard old new) answer → IsClaimed seat shard key old new answer
  is_claimed (Ok (Granted t)) c = c
  is_claimed (Ok (Present v)) c = c
  is_claimed (Ok (Busy holder)) c = c
  is_claimed (Ok (Full n)) c = c
  is_claimed (Err e) c = c

  pub is_looked : (answer : Result (Option CellValue) AllocError) → IsLookedBy key (Steps seat shard old new) answer → IsLooked seat shard key old new answer
  is_looked (Ok (Some v)) c = c
  is_looked (Ok None) c = c
  is_looked (Err e) c = c
