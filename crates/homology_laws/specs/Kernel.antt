-- What the laws of the listed cycles of a space ask of the values of other questions.
use Rattle.std.specs.Prelude.{◌≡◌, ℕ, suc, ◌-◌, List, ◌++◌, map}
use Rattle.std.specs.declared.cmp.Ordering.TheVariants.{Less}
use Rattle.std.specs.List.{AllPairs, Contains}
use Rattle.fp_field.specs.Chains.{Terms, scale, extend, combination}
use Rattle.fp_field.specs.Reduction.{IsReductionTo}
use Rattle.echelons.specs.Echelon.{Vector}
use Rattle.spaces.specs.Homology.{IsChain, Same, boundary, IsExpressed}
use Rattle.spaces.specs.Spaces.{Space, Plain, set_of}
use Rattle.spaces.specs.SmallCells.{Small, small_degree, small_cmp}
use Rattle.spaces.specs.Allowed.{IsAllowed}
use Rattle.values.specs.Asks.{basis, small_d, cycles, Cell, value_with}
use Rattle.values.specs.Values.{value}
use Rattle.values.specs.Cycles.{is_small_cycle, rule_cycles}
use Rattle.values.specs.Laws.{smalls, maps_of, plain_chain}
use Rattle.homology_laws.specs.Lists.{chain_on, IsWritten}

module _ (p : ℕ) (a : Space) (n : ℕ) where
  -- the small cells of a degree have that degree, and they rise
  pub record BasisRises : Type 0 where
    pub degrees : (y : Small a) → Contains (value p (basis a n)) y → small_degree a y ≡ n
    pub rises : AllPairs (λ x y. small_cmp a x y ≡ Less) (value p (basis a n))

  -- the value of the cycles is what their right side gives
  abbrev pub CyclesAreGiven : Type 0
  CyclesAreGiven = value p (cycles a n) ≡ value_with (value p) (rule_cycles p a n)

-- what makes the listed cycles of a degree a homology list
pub record IsListable (p : ℕ) (a : Space) (n : ℕ) : Type 0 where
  pub allowed : IsAllowed a
  pub reduction : IsReductionTo p (suc n) (maps_of p a)
  pub here : BasisRises p a n
  pub above : BasisRises p a (suc n)
  pub given : CyclesAreGiven p a n

module _ (p : ℕ) (a : Space) (n : ℕ) where
  -- the listed cycles, as chains of simplices
  abbrev pub listed_cycles : List (Terms (Plain a))
  listed_cycles = map (plain_chain p a) (value p (cycles a n))

  -- F of a chain of cells in its parts: the vectors of the listed cycles, and SmallD of small cells of degree n + 1 of which none has
  -- a SmallD that is a combination of those of earlier cells
  abbrev pub IsRead : Terms (Cell a) → Vector → Vector → Type 0
  IsRead z coefficients numbers =
      IsWritten p (smalls p a) (value p (basis a n)) (value p (basis a (suc n))) (is_small_cycle p a (map (λ y. value p (small_d a y)) (value p (basis a n))))
      (extend (maps_of p a).f z) coefficients numbers

  -- the chain H(z) + G(w), for the numbers of w at the small cells of degree n + 1
  abbrev pub filling : Terms (Cell a) → Vector → Terms (Cell a)
  filling z numbers = extend (maps_of p a).h z ++ extend (maps_of p a).g (chain_on (value p (basis a (suc n))) numbers)

  -- z minus the combination of the listed cycles is d of a chain, and no other coefficients leave a boundary
  pub record IsFilledBy (z : Terms (Cell a)) (coefficients : List ℕ) (w : Terms (Cell a)) : Type 0 where
    pub chain : IsChain (set_of a) p (suc n) (plain_chain p a w)
    pub rest : Same (set_of a) p n (plain_chain p a z ++ scale (p - 1) (combination coefficients listed_cycles)) (boundary (set_of a) p (suc n) (plain_chain p a w))
    pub only : (others : List ℕ) → IsExpressed (set_of a) p n listed_cycles (plain_chain p a z) others → others ≡ coefficients
