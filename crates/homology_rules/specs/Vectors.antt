-- Vectors over small cells, and what G makes of them.
--
-- The terms of a vector over a list of cells are the cells at which it is not 0, in order, each with its number. Its cells are asked for
-- with G, in this order, and their values are summed up, each times its number.
--
--   over the cells a, b, c the vector (2,0,1) has the terms 2 a + c, and G is asked for at a and at c
use Rattle.std.specs.Prelude.{◌≡◌, zero, suc, List, [], ◌∷◌, map, Some, None}
use Rattle.fp_field.specs.Field.{number}
use Rattle.fp_field.specs.Chains.{Terms, extend}
use Rattle.fp_field.specs.Normal.{normal}
use Rattle.echelons.specs.Echelon.{Vector}
use Rattle.chain_core.specs.Formal.{Formal}
use Rattle.values.specs.Rules.{joined}
use Rattle.cells.specs.declared.cells.Cell.{Cell}
use Rattle.cells.specs.declared.cells.SmallCell.{SmallCell}
use Rattle.cells.specs.Order.{cell_cmp}
use Rattle.oracle_iface.specs.declared.keys.Key.{Key}
use Rattle.oracle_iface.specs.declared.keys.Op.TheVariants.{G}
use Rattle.oracle_iface.specs.Forcing.{Calls, Asked}
use Rattle.homology_rules.specs.Asking.{outcome_of, first_refusal}
use Rattle.homology_rules.specs.Held.{big_in}
use Rattle.homology_rules.specs.SmallKeys.{small_key_of}
use Rattle.homology_rules.specs.declared.carrying.Carried.{Carried}
use Rattle.homology_rules.specs.declared.carrying.Carried.TheVariants.{Sum, Over as NoSum}
use Rattle.homology_rules.specs.declared.carrying.CarriedList.{CarriedList}
use Rattle.homology_rules.specs.declared.carrying.CarriedList.TheVariants.{Chains, Over as NoChains}

-- the terms of a vector over some cells
abbrev pub terms_over : {K : Type 0} → List K → Vector → Terms K
terms_over [] v = []
terms_over (y ∷ ys) [] = []
terms_over (y ∷ ys) (zero ∷ v) = terms_over ys v
terms_over (y ∷ ys) (suc b ∷ v) = (y, suc b) ∷ terms_over ys v

module _ (k : Key) (ys : List SmallCell) where
  -- the keys of G at the cells of a vector
  abbrev pub keys_of_vector : Vector → List Key
  keys_of_vector v = map (λ t. small_key_of k G t.0) (terms_over ys v)

  -- G of a vector, in normal form
  abbrev pub carried_of : Vector → Formal Cell
  carried_of v = record {
    prime = k.prime;
    terms = normal cell_cmp (number k.prime) (extend (λ y. (big_in (outcome_of (small_key_of k G y))).terms) (terms_over ys v));
  }

  -- the keys of G at the cells of vectors, one vector after the other
  abbrev pub keys_of_vectors : List Vector → List Key
  keys_of_vectors vs = joined (map keys_of_vector vs)

-- what comes of a vector: the chain, where no key is refused, and all are asked for, or the first refusal along the keys
abbrev pub IsCarried : {F : Type 0} → Calls F → List Key → Formal Cell → F → F → Carried → Type 0
IsCarried calls ks chain s t (Sum c) = (first_refusal ks ≡ None) × (c ≡ chain) × Asked calls s ks t
IsCarried calls ks chain s t (NoSum w) = first_refusal ks ≡ Some w

-- what comes of vectors
abbrev pub AreCarried : {F : Type 0} → Calls F → List Key → List (Formal Cell) → F → F → CarriedList → Type 0
AreCarried calls ks chains s t (Chains l) = (first_refusal ks ≡ None) × (l ≡ chains) × Asked calls s ks t
AreCarried calls ks chains s t (NoChains w) = first_refusal ks ≡ Some w
