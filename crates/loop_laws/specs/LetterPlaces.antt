-- The places at which all letters of a word are degeneracies. The letter y of degree n has place j where y, of degree n + 1, is an s_(j+1).
--
--   of the word [s_2 x, s_1 x] the first letter has place 1 and the second place 0, so the word has none
use Rattle.std.specs.Prelude.{ℕ, suc, Bool, true, ◌&&◌, List, [], ◌∷◌}
use Rattle.spaces.specs.Simplicial.{Simplicial, has_degeneracy}
use Rattle.spaces.specs.LoopGroups.{Letter}

abbrev pub letters_have : {K : Type 0} (X : Simplicial K) → ℕ → List (Letter X) → Bool
letters_have X j [] = true
letters_have X j (l ∷ w) = has_degeneracy X (suc j) l.1 && letters_have X j w
