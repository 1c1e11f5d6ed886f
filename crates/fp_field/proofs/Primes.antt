-- Each prime is above 0.
use Rattle.std.proofs.Common.{◌<◌, lit<}
use Rattle.fp_field.specs.declared.prime.Prime.{Prime}
use Rattle.fp_field.specs.declared.prime.Prime.TheVariants.{Two, Three, Five, Seven, Eleven, Thirteen, Seventeen, Nineteen}
use Rattle.fp_field.specs.Field.{number}

pub number_pos : (p : Prime) → 0 < number p
number_pos Two = lit< tt
number_pos Three = lit< tt
number_pos Five = lit< tt
number_pos Seven = lit< tt
number_pos Eleven = lit< tt
number_pos Thirteen = lit< tt
number_pos Seventeen = lit< tt
number_pos Nineteen = lit< tt

pub number_above_one : (p : Prime) → 1 < number p
number_above_one Two = lit< tt
number_above_one Three = lit< tt
number_above_one Five = lit< tt
number_above_one Seven = lit< tt
number_above_one Eleven = lit< tt
number_above_one Thirteen = lit< tt
number_above_one Seventeen = lit< tt
number_above_one Nineteen = lit< tt
