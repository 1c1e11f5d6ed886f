use Rattle.std.proofs.Common.{Err, ap}
use Rattle.session_core.proofs.BaseTold.{low_sphere, base_told, base_table, no_base}
use Rattle.session_core.proofs.fibrations.told_base.Goals as goal

pub bundle_base-requires : goal.bundle_base-requires
bundle_base-requires c = low_sphere c.args.t.now c.requires

pub returns-in-Ok-clause-told : goal.returns-in-Ok-clause-told
returns-in-Ok-clause-told c = base_told c.args.t.now c.in-Ok.base c.in-Ok.ensures.base

pub returns-in-Ok-clause-form : goal.returns-in-Ok-clause-form
returns-in-Ok-clause-form c = base_table c.args.t.now c.requires c.in-Ok.base c.in-Ok.ensures.base

pub returns-in-Err-BaseNotTable-clause-stops : goal.returns-in-Err-BaseNotTable-clause-stops
returns-in-Err-BaseNotTable-clause-stops c = no_base c.args.t.now (c.in-Err-BaseNotTable.ensures.neither.0 (ap Err c.in-Err-BaseNotTable.field-0-is))
