use Rattle.std.proofs.Common.{subst, sym}
use Rattle.force_engine.specs.Fronts.{IfTold}
use Rattle.kernel_run.specs.Settled.{HoldsNone}
use Rattle.kernel_run.proofs.Treated.{treats_all}
use Rattle.kernel_run.proofs.session.answer_over.Goals as goal

pub answer_input-requires-clause-ready : goal.answer_input-requires-clause-ready
answer_input-requires-clause-ready g c = record {
  all_treated = treats_all;
  holds_none = subst (λ z. IfTold (HoldsNone (g.M.Memo.seat z.now) g.M.Memo.shard) (g.M.Memo.fronts z.now)) (sym c.new_engine.ensures.memo) c.requires.held;
}
