use Rattle.session_core.proofs.NameLists.{defined-found, defined-others, defined-kept, defined-last}
use Rattle.session_core.proofs.names.name_laws.Goals as goal

pub returns : goal.returns
returns c = record { found = defined-found; others = defined-others; kept = defined-kept; last = defined-last }
