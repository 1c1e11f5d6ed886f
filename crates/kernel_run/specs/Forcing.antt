-- What the calls of a session's answerer leave, which forces each key over the memo that it was lent.
--
--   a call that finds its key published leaves the rules, the loan and the seat as they were, and the fronts but for what other seats did
use Rattle.std.specs.Prelude.{◌≡◌, ℕ, Result, IfOk}
use Rattle.std.specs.declared.alloc.AllocError.{AllocError}
use Rattle.oracle_iface.specs.Memos.{Fronts}
use Rattle.oracle_iface.specs.declared.cell_values.CellValue.{CellValue}
use Rattle.oracle_iface.specs.declared.keys.Key.{Key}
use Rattle.force_engine.specs.Fronts.{IfTold, Between}
use Rattle.force_engine.specs.Runs.{Ran}
use Rattle.force_engine.specs.Ways.{IsSettledAt}
use Rattle.kernel_run.specs.Settled.{HoldsNone}
use Rattle.kernel_run.specs.Treated.{TreatsAll}

-- there are rules for all that a session asks for, and the seat holds no key
pub record IsReady (treats : Key → Type 0) (seat : ℕ) (shard : Key → ℕ) (fronts : Fronts) : Type 0 where
  pub all_treated : TreatsAll treats
  pub holds_none : IfTold (HoldsNone seat shard) fronts

module _ {M O : Type 0} (seat : M → ℕ) (shard : Key → ℕ) (fronts : M → Fronts) (origin : M → O) where
  -- calls leave the rules and the loan of the memo, and the memo is of the same seat and origin and went on
  pub record IsKept {R N : Type 0} (old_rules new_rules : R) (old_loan new_loan : N) (old new : M) (old_steps new_steps : ℕ) : Type 0 where
    pub same_rules : new_rules ≡ old_rules
    pub same_loan : new_loan ≡ old_loan
    pub ran : Ran seat shard fronts origin old new old_steps new_steps

  -- the key is settled where it was answered
  abbrev pub SettlesAtOk : Key → Result CellValue AllocError → M → M → Type 0
  SettlesAtOk key r old new = IfOk r (λ v. Between (IsSettledAt (seat old) shard key) (fronts old) (fronts new))
