use Rattle.normal_forms.proofs.PairedForms.{integers-paired, letters-paired}
use Rattle.normal_forms.proofs.laws.pair_sizes.Goals as goal

pub returns : goal.returns
returns c = record { integers = integers-paired; letters = letters-paired }
