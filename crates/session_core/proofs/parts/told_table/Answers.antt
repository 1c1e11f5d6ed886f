use Rattle.session_core.proofs.TableTerms.{table_told, table_ready}
use Rattle.session_core.proofs.parts.told_table.Goals as goal

pub returns-in_ok-new-in-Ok-clause-told : goal.returns-in_ok-new-in-Ok-clause-told
returns-in_ok-new-in-Ok-clause-told c =
    table_told c.args.rows.now c.in-Ok.table c.in_ok-new-in-Ok.field-0 c.in-Ok.ensures.none c.in-Ok.ensures.table c.in_ok-new-in-Ok.ensures

pub returns-in_ok-new-in-Ok-clause-ready : goal.returns-in_ok-new-in-Ok-clause-ready
returns-in_ok-new-in-Ok-clause-ready c =
    table_ready c.args.rows.now c.in-Ok.table c.in_ok-new-in-Ok.field-0 c.in-Ok.ensures.none c.in-Ok.ensures.table c.in_ok-new-in-Ok.ensures
