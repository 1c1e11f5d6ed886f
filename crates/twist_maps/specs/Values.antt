-- Values on the rows of a table, and where they are no cocycle (May, Simplicial Objects in Algebraic Topology, chapter IV, 18 and 21).
--
-- There is one value for each row, at most 100,000 in magnitude. They are a cocycle where c(d_0) - c(d_1) + c(d_2) - c(d_3) is 0 on each row of
-- dimension 3; c of a degenerate face is 0.
--
--   where the row w of dimension 3 has the face t of dimension 2, then three degenerate ones, the value 1 on t has at w the sum 1
use Rattle.std.specs.Prelude.{◌≡◌, ◌≤◌, ℕ, Bool, not, ◌&&◌, ◌==◌, List, length, ℤ, pos, nat_abs, Option, All}
use Rattle.std.specs.Ordering.{int_eq}
use Rattle.std.specs.Option.{option_map}
use Rattle.spaces.specs.Tables.{Table, row_at}
use Rattle.term_lang.specs.declared.texts.NotCocycle.{NotCocycle}
use Rattle.term_lang.specs.TermFaults.{face_sum, first_place}

pub record AreValues (t : Table) (values : List ℤ) : Type 0 where
  pub as_long : length values ≡ length t
  pub small : All (λ a. nat_abs a ≤ 100000) values

module _ (t : Table) (values : List ℤ) where
  -- the row has dimension 3, and the sum over its faces is not 0
  abbrev pub is_open : ℕ → Bool
  is_open r = ((row_at t r).dim == 3) && not (int_eq (face_sum t values r) (pos 0))

  abbrev pub open_at : ℕ → NotCocycle
  open_at r = record { row = r; sum = face_sum t values r }

  -- the first such row, with its sum
  unfoldable pub first_open : Option NotCocycle
  first_open = option_map open_at (first_place is_open (length t))
