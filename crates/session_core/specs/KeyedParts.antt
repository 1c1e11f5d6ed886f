-- What the parts of a cycle ask for, as keys, and what comes of them: the listed cycles and the small cells with their differentials in its
-- degree and the next, F and then H at its cells, and G at the cells of the filling.
--
--   of the cell of the sphere of dimension 2 in degree 2: after the keys of degrees 2 and 3, F of the cell and H of the cell, and no G
use Rattle.std.specs.Prelude.{◌≡◌, ℕ, ◌+◌, List, [], ◌∷◌, ◌++◌, map}
use Rattle.fp_field.specs.Field.{number}
use Rattle.fp_field.specs.Chains.{Terms, extend}
use Rattle.fp_field.specs.Normal.{normal}
use Rattle.echelons.specs.Echelon.{Vector}
use Rattle.chain_core.specs.Formal.{Formal}
use Rattle.cells.specs.declared.cells.Cell.{Cell}
use Rattle.cells.specs.declared.cells.SmallCell.{SmallCell}
use Rattle.cells.specs.Order.{cell_cmp}
use Rattle.cells.specs.Small.{small_cmp}
use Rattle.term_lang.specs.SpaceOf.{space_of}
use Rattle.oracle_iface.specs.declared.keys.Key.{Key}
use Rattle.oracle_iface.specs.declared.keys.Op.{Op}
use Rattle.oracle_iface.specs.declared.keys.Op.TheVariants.{Cycles, F, H}
use Rattle.oracle_iface.specs.declared.keys.Place.TheVariants.{Degree}
use Rattle.homology_rules.specs.CellKeys.{cell_key_of}
use Rattle.homology_rules.specs.Asking.{outcome_of}
use Rattle.homology_rules.specs.Held.{small_in, big_in}
use Rattle.homology_rules.specs.CycleVectors.{coordinates_over}
use Rattle.homology_rules.specs.Degrees.{cells_at, chains_at}
use Rattle.homology_rules.specs.Vectors.{keys_of_vector, carried_of}
use Rattle.session_core.specs.Dimensions.{keys_of_dimension, AreDegrees}
use Rattle.oracle_iface.specs.Forcing.{Calls}
use Rattle.session_core.specs.declared.images.Images.{Images}
use Rattle.session_core.specs.declared.parts_of_cycles.Expressed.{Expressed}
use Rattle.session_core.specs.declared.keyed_parts.Found.{Found}
use Rattle.session_core.specs.Divisions.{class_over, filling_over}

module _ (k : Key) where
  -- the key of the listed cycles of a degree
  abbrev pub cycles_key_of : ℕ → Key
  cycles_key_of n = record { op = Cycles; prime = k.prime; place = Degree n; term = k.term }

  abbrev pub keys_at_cells : Op → Terms Cell → List Key
  keys_at_cells o z = map (λ t. cell_key_of k o t.0) z

  -- F of a chain, and H of a chain, in normal form
  abbrev pub image_at : Terms Cell → Formal SmallCell
  image_at z = record {
    prime = k.prime;
    terms = normal small_cmp (number k.prime) (extend (λ x. (small_in (outcome_of (cell_key_of k F x))).terms) z);
  }

  abbrev pub homotopy_at : Terms Cell → Formal Cell
  homotopy_at z = record {
    prime = k.prime;
    terms = normal cell_cmp (number k.prime) (extend (λ x. (big_in (outcome_of (cell_key_of k H x))).terms) z);
  }

  -- over a chain c of the small complex in degree n: its coefficients over the vectors of the listed cycles, and its filling
  module _ (n : ℕ) (c : Terms SmallCell) where
    abbrev pub vector_of : Vector
    vector_of = coordinates_over small_cmp (number k.prime) (cells_at k n) c

    abbrev pub class_at : Vector
    class_at = class_over small_cmp (number k.prime) (cells_at k n) (chains_at k (cells_at k n)) (chains_at k (cells_at k (n + 1))) vector_of

    abbrev pub filling_at : Vector
    filling_at = filling_over small_cmp (number k.prime) (cells_at k n) (chains_at k (cells_at k n)) (chains_at k (cells_at k (n + 1))) (space_of k.term) vector_of

    abbrev pub keys_of_filling : List Key
    keys_of_filling = keys_of_vector k (cells_at k (n + 1)) filling_at

    -- a chain, and G of the filling
    abbrev pub filled_at : Terms Cell → Formal Cell
    filled_at e = record {
      prime = k.prime;
      terms = normal cell_cmp (number k.prime) (e ++ (carried_of k (cells_at k (n + 1)) filling_at).terms);
    }

  -- the keys before G: the listed cycles, then the two degrees; F at the cells, then H at the cells
  abbrev pub keys_of_degrees : ℕ → List Key
  keys_of_degrees n = (cycles_key_of n ∷ []) ++ keys_of_dimension k n

  abbrev pub keys_of_images : Terms Cell → List Key
  keys_of_images z = keys_at_cells F z ++ keys_at_cells H z

  abbrev pub keys_before : ℕ → Terms Cell → List Key
  keys_before n z = keys_of_degrees n ++ keys_of_images z

  abbrev pub keys_of_express : ℕ → Terms Cell → List Key
  keys_of_express n z = keys_before n z ++ keys_of_filling n (image_at z).terms

-- the parts of a chain c of the small complex, with a chain e of the space
pub record IsFilled (k : Key) (n : ℕ) (c : Terms SmallCell) (e : Terms Cell) (x : Expressed) : Type 0 where
  pub prime : x.class.prime ≡ k.prime
  pub values : x.class.values ≡ class_at k n c
  pub rest : x.rest ≡ filled_at k n c e

-- the parts of a chain
abbrev pub IsExpressed : Key → ℕ → Terms Cell → Expressed → Type 0
IsExpressed k n z x = IsFilled k n (image_at k z).terms (homotopy_at k z).terms x

-- F and H of a chain
pub record AreImages (k : Key) (z : Terms Cell) (i : Images) : Type 0 where
  pub image : i.image ≡ image_at k z
  pub homotopy : i.homotopy ≡ homotopy_at k z

-- what is asked for before G
abbrev pub AreFound : {F : Type 0} → Calls F → Key → ℕ → Terms Cell → Found → Type 0
AreFound calls k n z x = AreDegrees calls k n x.degrees × AreImages k z x.images
