use Rattle.std.proofs.Common.{rules}
use Rattle.kernel_run.proofs.NewTables.{new_holds_none}
use Rattle.kernel_run.proofs.Statuses.{fresh_output, read_fault_of, long_of}
use Rattle.kernel_run.proofs.kernel.one_session.Goals as goal

pub run_session-report-requires : goal.run_session-report-requires
run_session-report-requires g c = record { held = new_holds_none c.new_book-book.result c.new_book-book.ensures.journal }

pub returns : goal.returns
returns g c =
    let e = c.run_session-report.ensures in
    record {
      listed = search rules;
      output = fresh_output _ _ _ c.run_session-report.result _ c.status_of.ensures e.output e.size e.read_fault;
      homology = e.homology;
      fault = search rules;
      answered = λ three not. e.answered (read_fault_of c.run_session-report.result.end _ c.status_of.ensures three (λ w. not (e.write_fault w)));
      no_fault = search rules;
      long = search rules;
      too_much = λ four. e.too_much (long_of c.run_session-report.result.end _ c.status_of.ensures four);
      short = search rules;
      ended = search rules;
      at_end = search rules;
    }
