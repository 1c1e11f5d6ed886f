use Rattle.normal_forms.proofs.BuiltPairs.{bundle_paired, bundle_parted, bundle_parts}
use Rattle.normal_forms.proofs.laws.pairs_of_bundles.Goals as goal

pub returns : goal.returns
returns c = record { paired = bundle_paired; parts = bundle_parted; have_parts = bundle_parts }
