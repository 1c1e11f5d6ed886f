-- The whole output of a session whose port had no fault.
use Rattle.std.proofs.Common.{◌≡◌, ◌≢◌, ℕ, List, Option, Some, None, IfSome, inl, inr, refl, ap, ◌∙◌, sym}
use Rattle.std.specs.Io.KnownBytes.{append_known}
use Rattle.port_io.specs.Ports.{PortState, Rose}
use Rattle.kernel_run.specs.Fresh.{fresh}
use Rattle.kernel_run.specs.Kernel.{HasFault}
use Rattle.kernel_run.specs.Outcome.{Outcome, IsComplete}
use Rattle.kernel_run.specs.declared.report.SessionReport.{SessionReport}
use Rattle.kernel_run.specs.declared.report.End.{End}
use Rattle.kernel_run.specs.declared.report.End.TheVariants.{Finished, Long, ReadFault, WriteFault, Memory}

-- a session that ended on none of these came to the end of its script
complete : (end : End) → end ≢ Memory → end ≢ ReadFault → end ≢ WriteFault → IsComplete end
complete Finished m r w = tt
complete Long m r w = tt
complete ReadFault m r w = absurd (r refl)
complete WriteFault m r w = absurd (w refl)
complete Memory m r w = absurd (m refl)

wrote_all : (left : Option (List ℕ)) (a b : PortState) (report : SessionReport) → IsComplete report.end → IfSome left (λ input. Outcome input a.written b.written report)
    → IfSome left (λ input. b.written ≡ append_known a.written (fresh input))
wrote_all None a b report done o = tt
wrote_all (Some input) a b report done o = o.written ∙ ap (append_known a.written) (sym (o.whole done))

pub whole_output : (a b : PortState) (report : SessionReport) → IfSome a.left (λ input. Outcome input a.written b.written report)
    → (report.end ≡ ReadFault → Rose a.read_faults b.read_faults) → (report.end ≡ WriteFault → Rose a.write_faults b.write_faults)
    → report.end ≢ Memory → (HasFault a b → ⊥) → IfSome a.left (λ input. b.written ≡ append_known a.written (fresh input))
whole_output a b report o read write memory none =
    wrote_all a.left a b report (complete report.end memory (λ e. none (inl (read e))) (λ e. none (inr (write e)))) o
