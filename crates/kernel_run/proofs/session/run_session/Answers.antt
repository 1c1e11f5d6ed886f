use Rattle.kernel_run.proofs.Forced.{holds_none_after}
use Rattle.kernel_run.proofs.Truth.{all_answered}
use Rattle.kernel_run.proofs.session.run_session.Goals as goal

pub returns-clause-homology : goal.returns-clause-homology
returns-clause-homology g c = all_answered (g.P.Port.state c.args.port.now).left

pub returns-clause-held : goal.returns-clause-held
returns-clause-held g c =
    let e = c.answer_over.ensures in
    holds_none_after _ _ _ _ _ e.seat e.went c.requires.held
