use Rattle.session_core.proofs.ReadyNames.{whole-after}
use Rattle.session_core.proofs.whole.names_stay_whole.Goals as goal

pub returns : goal.returns
returns c = record { first = tt; after = λ s line h. whole-after s h line }
