-- What calls of the engine leave: the memo is of the same seat and origin, its fronts went on, and the count of the steps did not fall.
--
--   a call that finds its key published leaves all of this as it was, but for what other seats did
use Rattle.std.specs.Prelude.{◌≡◌, ◌≤◌, ℕ}
use Rattle.oracle_iface.specs.Memos.{Fronts}
use Rattle.oracle_iface.specs.declared.keys.Key.{Key}
use Rattle.force_engine.specs.Fronts.{Between}
use Rattle.force_engine.specs.Ways.{Went}

pub record Ran {M O : Type 0} (seat : M → ℕ) (shard : Key → ℕ) (fronts : M → Fronts) (origin : M → O) (old new : M) (steps_old steps_new : ℕ) : Type 0 where
  pub seats : seat new ≡ seat old
  pub origins : origin new ≡ origin old
  pub went : Between (Went (seat old) shard) (fronts old) (fronts new)
  pub rises : steps_old ≤ steps_new
