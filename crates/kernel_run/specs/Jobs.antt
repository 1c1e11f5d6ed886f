-- The ports and the reports of jobs.
use Rattle.std.specs.Prelude.{List, map}
use Rattle.kernel_run.specs.declared.jobs.Job.{Job}
use Rattle.kernel_run.specs.declared.report.SessionReport.{SessionReport}

abbrev pub ports_of : {P : Type 0} → List (Job P) → List P
ports_of jobs = map (λ job. job.port) jobs

abbrev pub reports_of : {P : Type 0} → List (Job P) → List SessionReport
reports_of jobs = map (λ job. job.report) jobs
