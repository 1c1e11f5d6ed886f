use Rattle.kernel_run.proofs.Complete.{whole_output}
use Rattle.kernel_run.proofs.batch.run_job.Goals as goal

pub returns : goal.returns
returns g c =
    let e = c.run_session-job.ensures in
    record {
      output = e.output;
      whole = whole_output (g.P.Port.state c.args.job.now.port) (g.P.Port.state c.run_session-job.new.port) c.run_session-job.result e.output e.read_fault e.write_fault;
      homology = e.homology;
      size = e.size;
      at_end = e.at_end;
      answered = e.answered;
      too_much = e.too_much;
      read_fault = e.read_fault;
      no_read_fault = e.no_read_fault;
      write_fault = e.write_fault;
      no_write_fault = e.no_write_fault;
      long = e.long;
      short = e.finished;
      ended = e.ended;
    }
