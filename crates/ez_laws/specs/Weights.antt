-- Two chains that are the same in F_p: each weight of keys gives them one sum.
use Rattle.std.specs.Prelude.{ℕ}
use Rattle.fp_field.specs.Field.{SameMod}
use Rattle.fp_field.specs.Chains.{Terms, weigh}

abbrev pub SameWeights : {K : Type 0} → ℕ → Terms K → Terms K → Type 0
SameWeights {K} p c d = (w : K → ℕ) → SameMod p (weigh w c) (weigh w d)
