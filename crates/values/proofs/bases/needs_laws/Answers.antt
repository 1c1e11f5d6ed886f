use Rattle.values.proofs.bases.needs_laws.Goals as goal
use Rattle.values.proofs.BasesRows.{no_parts-no_needs, no_parts-needs_below, suspension-needs_below}

pub returns : goal.returns
returns c = record { no_needs = no_parts-no_needs; no_parts = no_parts-needs_below; suspensions = suspension-needs_below }
