-- The complex of a twisted product, on pairs (Rubio and Sergeraert, Constructive Homological Algebra and Applications, chapter 3;
-- May, Simplicial Objects, chapter VI, 31).
--
-- The cells of a product or of a twisted product of two simplicial sets are pairs of simplices of one degree that no s_j is taken on
-- both parts of. A cell has its degree before the two simplices together, a pair before each of them. The differential of a twisted
-- product is that of the pairs without any twist, plus the twist q.
--
--   in the torus the cell (1, (s_0 v, S1)) is the pair (1, s_0 v, S1)
use Rattle.std.specs.Prelude.{ℕ, ◌++◌}
use Rattle.fp_field.specs.Chains.{Terms}
use Rattle.fp_field.specs.Reduction.{Complex}
use Rattle.spaces.specs.Orders.{Ordered}
use Rattle.spaces.specs.EilenbergZilber.{Linear, Pair, pair_d}
use Rattle.ez_laws.specs.Sides.{on_keys}
use Rattle.ez_laws.specs.Complexes.{pair_complex}

module _ {K J : Type 0} where
  abbrev pub as_cell : Pair K J → ℕ × (K × J)
  as_cell s = (s.0, (s.1, s.2))

  abbrev pub as_pair : ℕ × (K × J) → Pair K J
  as_pair x = (x.0, x.1.0, x.1.1)

  -- a complex of cells, with pairs as keys
  abbrev pub on_pairs : Complex (ℕ × (K × J)) → Complex (Pair K J)
  on_pairs C = record {
    generator = λ n s. C.generator n (as_cell s);
    same = λ s t. C.same (as_cell s) (as_cell t);
    d = λ s. on_keys as_pair (C.d (as_cell s));
  }

  -- the pairs with d + q
  abbrev pub twisted_complex : ℕ → Linear K → (ℕ → K → Type 0) → Ordered J → (Pair K J → Terms (Pair K J)) → Complex (Pair K J)
  twisted_complex p L In R q = record {
    generator = (pair_complex p L In R).generator;
    same = (pair_complex p L In R).same;
    d = λ s. pair_d p L R s ++ q s;
  }
