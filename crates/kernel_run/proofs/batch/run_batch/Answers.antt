use Rattle.std.proofs.Common.{◌≡◌, ◌≤◌, ◌++◌, length, drop, take, map, subst, ◌∙◌, rules}
use Rattle.std.proofs.lemmas.List.{take_at}
use Rattle.kernel_run.specs.Batch.{EachSession}
use Rattle.kernel_run.specs.Jobs.{ports_of, reports_of}
use Rattle.kernel_run.proofs.Moving.{each_session, batch_over}
use Rattle.kernel_run.proofs.batch.run_batch.Goals as goal

pub returns-clause-batch : goal.returns-clause-batch
returns-clause-batch g c =
    let state = g.P.Port.state in
    let jobs = c.take_ports.new.jobs in
    let after = c.run_jobs.new.jobs in
    let shown = c.show_summary-shown in
    let two : 2 ≤ length c.args.ports.now.items = search rules in
    let as_many : length after ≡ jobs.len = c.run_jobs.ensures.len ∙ c.deref_mut.ensures.len in
    let back : take jobs.len (after ++ drop (length after) jobs.items) ≡ after = take_at after (drop (length after) jobs.items) jobs.len as_many in
    let each = each_session state c.deref_mut.result.now after c.run_jobs.ensures.len c.run_jobs.ensures.each in
    batch_over state c.args.words.now c.args.ports.now.items c.take_ports.new.ports.items c.give_ports.new.ports.items jobs.items after
    (take jobs.len (after ++ drop (length after) jobs.items)) c.deref.result.now c.deref-2.result.now c.index_mut.result.now shown.new.console shown.result c.code_of_all-code.result
    two c.take_ports.ensures.ports c.take_ports.ensures.jobs c.index_mut.ensures.value back c.deref.ensures.value c.deref-2.ensures.value c.give_ports.ensures
    (subst (λ l. EachSession (map state (ports_of l)) (map state (ports_of after)) (reports_of after)) c.deref_mut.ensures.value each)
    shown.ensures.lines shown.ensures.reads c.code_of_all-code.ensures
