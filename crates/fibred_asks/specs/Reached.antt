-- The degrees of the values of a space, and the reach of those that are past no limit.
--
-- F keeps the degree, H raises it by one, and G of a small cell has the degree of the small cell. A value that is not refused has integers of
-- at most 100,000 in magnitude, so its simplices have a bounded reach: a list has at most 32 integers, a bundle adds 6,200,000 for each
-- dimension of a row, at most 16, and a space of depth at most 8 has at most 128 of these (Rubio and Sergeraert, Constructive Homological
-- Algebra and Applications, on reductions).
--
--   H of K(Z,1) at |3| has the degree 2, and its lists |1|1| and |1|2| the reaches 2 and 3
use Rattle.std.specs.Prelude.{◌≡◌, ℕ, suc, None}
use Rattle.fp_field.specs.declared.prime.Prime.{Prime}
use Rattle.fp_field.specs.Field.{number}
use Rattle.fp_field.specs.Chains.{Each}
use Rattle.spaces.specs.Spaces.{Space, Plain}
use Rattle.spaces.specs.SmallCells.{Small, small_degree}
use Rattle.values.specs.Asks.{Ask, f, g, h, Cell as GradedCell}
use Rattle.values.specs.Ranks.{IsValid}
use Rattle.values.specs.Values.{value}
use Rattle.term_lang.specs.Quote.{quote_cell}
use Rattle.ez_maps.specs.Tensors.{bare}
use Rattle.space_pairs.specs.Parts.{IsReached}
use Rattle.oracle_iface.specs.Keys.{key_of}
use Rattle.homology_rules.specs.Asking.{outcome_of, refusal_in}

-- the reach of simplices whose integers are past no limit, at most
abbrev pub limited_reach : ℕ
limited_reach = 51200000000

-- the key of the question is not refused
abbrev pub IsUnrefusedAsk : Prime → Ask → Type 0
IsUnrefusedAsk p q = refusal_in (outcome_of (key_of p q)) ≡ None

-- a cell of degree n whose simplex in the code has a reach of at most m
abbrev pub IsReachedCell : (a : Space) → ℕ → ℕ → GradedCell a → Type 0
IsReachedCell a m n c = (c.0 ≡ n) × IsReached a m n (bare (quote_cell a c.0 c.1))

pub record HasReachedValues (p : Prime) (a : Space) : Type 0 where
  pub of_f : (n : ℕ) (x : Plain a) → IsValid (number p) (f a n x) → Each (λ y. small_degree a y ≡ n) (value (number p) (f a n x))
  pub of_g : (y : Small a) → IsValid (number p) (g a y) → IsUnrefusedAsk p (g a y) → Each (IsReachedCell a limited_reach (small_degree a y)) (value (number p) (g a y))
  pub of_h : (n : ℕ) (x : Plain a) → IsValid (number p) (h a n x) → IsUnrefusedAsk p (h a n x)
      → Each (IsReachedCell a limited_reach (suc n)) (value (number p) (h a n x))
