-- The complex over F_3 of an edge a in degree 1 and a vertex b in degree 0, with d(a) = b: the keys are 1 for a and 0 for b.
use Rattle.std.specs.Prelude.{ℕ, zero, suc, [], ◌∷◌}
use Rattle.fp_field.specs.Chains.{Terms}

abbrev pub edge_d : ℕ → Terms ℕ
edge_d zero = []
edge_d (suc zero) = (0, 1) ∷ []
edge_d (suc (suc n)) = []
