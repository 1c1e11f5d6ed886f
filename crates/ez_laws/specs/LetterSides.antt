-- The letters of a loop group in degree n: the simplices of degree n + 1 that are no s_0.
use Rattle.std.specs.Prelude.{◌≡◌, ℕ, suc, false}
use Rattle.spaces.specs.Simplicial.{Simplicial, has_degeneracy}

abbrev pub IsLetter : {K : Type 0} → Simplicial K → ℕ → K → Type 0
IsLetter X n y = X.In (suc n) y × (has_degeneracy X 0 y ≡ false)
