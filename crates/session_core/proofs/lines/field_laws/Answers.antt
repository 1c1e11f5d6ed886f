use Rattle.session_core.proofs.Unchanged.{field-names, setf-prime}
use Rattle.session_core.proofs.lines.field_laws.Goals as goal

pub returns : goal.returns
returns c = record { names = field-names; prime = setf-prime }
