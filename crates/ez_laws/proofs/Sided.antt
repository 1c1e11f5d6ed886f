-- The two parts that the maps of a space need.
use Rattle.std.proofs.Common.{ℕ, ◌<◌}
use Rattle.spaces.specs.Spaces.{Space, loops, set_of}
use Rattle.spaces.specs.Allowed.{Admits}
use Rattle.spaces.specs.Orders.{ordered}
use Rattle.spaces.specs.EilenbergZilber.{linear}
use Rattle.values.specs.Twists.{letters}
use Rattle.fp_field.specs.Reduction.{IsReduction}
use Rattle.ez_laws.specs.Sides.{IsLeft}
use Rattle.ez_laws.specs.LetterSides.{IsLetter}
use Rattle.ez_laws.specs.Instances.{product_maps, IsProductFlow, ProductsKeepLeft, letter_maps, IsLetterFlow, LettersKeepLeft}
use Rattle.ez_laws.proofs.Orderings.{ordered-right}
use Rattle.ez_laws.proofs.SimplicialSides.{as_left}
use Rattle.ez_laws.proofs.LetterFaces.{letters-left}
use Rattle.ez_laws.proofs.Joined.{is-reduction}
use Rattle.ez_laws.proofs.FlowAlone.{one-flow}
use Rattle.ez_laws.proofs.LeftDims.{keeps-left}

module _ (p : ℕ) (pos : 0 < p) where
  pub space-left : (a : Space) → Admits a → IsLeft p (linear (ordered a)) (set_of a).In
  space-left a ad = as_left p pos (ordered a) (ordered-right a ad)

  pub letter-left : (a : Space) → Admits (loops a) → IsLeft p (letters p (ordered a)) (IsLetter (set_of a))
  letter-left a ad = letters-left p pos (ordered a) (ordered-right a ad.0)

  pub products : (a b : Space) → Admits a → Admits b → IsReduction p (product_maps p a b)
  products a b ad bd = is-reduction p pos (linear (ordered a)) (set_of a).In (ordered b) (space-left a ad) (ordered-right b bd)

  pub product-flow : (a b : Space) → Admits a → Admits b → IsProductFlow p a b
  product-flow a b ad bd = one-flow p pos (linear (ordered a)) (set_of a).In (ordered b) (space-left a ad) (ordered-right b bd)

  pub product-dims : (a b : Space) → Admits a → Admits b → ProductsKeepLeft p a b
  product-dims a b ad bd = keeps-left p pos (linear (ordered a)) (set_of a).In (ordered b) (space-left a ad) (ordered-right b bd)

  pub words : (a : Space) → Admits (loops a) → IsReduction p (letter_maps p a)
  words a ad = is-reduction p pos (letters p (ordered a)) (IsLetter (set_of a)) (ordered (loops a)) (letter-left a ad) (ordered-right (loops a) ad)

  pub word-flow : (a : Space) → Admits (loops a) → IsLetterFlow p a
  word-flow a ad = one-flow p pos (letters p (ordered a)) (IsLetter (set_of a)) (ordered (loops a)) (letter-left a ad) (ordered-right (loops a) ad)

  pub word-dims : (a : Space) → Admits (loops a) → LettersKeepLeft p a
  word-dims a ad = keeps-left p pos (letters p (ordered a)) (IsLetter (set_of a)) (ordered (loops a)) (letter-left a ad) (ordered-right (loops a) ad)
