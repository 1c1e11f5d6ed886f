-- The maps for two spaces, which serve products, bundles and path spaces, and for the letters and words of a loop group.
use Rattle.std.specs.Prelude.{ℕ}
use Rattle.fp_field.specs.Reduction.{Maps}
use Rattle.spaces.specs.Spaces.{Space, loops, Plain, set_of}
use Rattle.spaces.specs.Orders.{ordered}
use Rattle.spaces.specs.EilenbergZilber.{Pair, Tensor, linear}
use Rattle.values.specs.Twists.{letters}
use Rattle.ez_laws.specs.Complexes.{eilenberg_zilber}
use Rattle.ez_laws.specs.FlowEquations.{IsOneFlow, KeepsLeft}
use Rattle.ez_laws.specs.LetterSides.{IsLetter}

-- the pairs of simplices of a and b, without any twist
abbrev pub product_maps : ℕ → (a b : Space) → Maps (Pair (Plain a) (Plain b)) (Tensor (Plain a) (Plain b))
product_maps p a b = eilenberg_zilber p (linear (ordered a)) (set_of a).In (ordered b)

abbrev pub IsProductFlow : ℕ → Space → Space → Type 0
IsProductFlow p a b = IsOneFlow p (linear (ordered a)) (set_of a).In (ordered b)

abbrev pub ProductsKeepLeft : ℕ → Space → Space → Type 0
ProductsKeepLeft p a b = KeepsLeft p (linear (ordered a)) (set_of a).In (ordered b)

-- the pairs of a letter and a word of the loop group of a
abbrev pub letter_maps : ℕ → (a : Space) → Maps (Pair (Plain a) (Plain (loops a))) (Tensor (Plain a) (Plain (loops a)))
letter_maps p a = eilenberg_zilber p (letters p (ordered a)) (IsLetter (set_of a)) (ordered (loops a))

abbrev pub IsLetterFlow : ℕ → Space → Type 0
IsLetterFlow p a = IsOneFlow p (letters p (ordered a)) (IsLetter (set_of a)) (ordered (loops a))

abbrev pub LettersKeepLeft : ℕ → Space → Type 0
LettersKeepLeft p a = KeepsLeft p (letters p (ordered a)) (IsLetter (set_of a)) (ordered (loops a))
