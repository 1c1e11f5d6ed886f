-- The degree of a pair of the code is that of its simplices.
use Rattle.std.proofs.Common.{◌≡◌, ℕ, suc, ◌+◌, ◌<◌, ◌≤◌, ◌^◌, ◌∙◌, ap, arith, bit_and, lit<}
use Rattle.std.specs.Prelude.{count_ones}
use Rattle.cells.specs.declared.cells.Cell.{Cell}
use Rattle.cells.specs.declared.cells.Simplex.{Simplex}
use Rattle.ez_flow.specs.Parts.{IsPairOf}
use Rattle.ez_flow.specs.CodeMaps.{left_degree_in, pair_degree}
use Rattle.ez_flow.proofs.PairCells.{split-pair, weight-pair}

module _ (left right : ℕ → Simplex → Type 0) (degree : Cell → ℕ)
    (graded : (n : ℕ) (s : Simplex) → left n s → count_ones s.degens.mask + degree s.cell ≡ n) where
  pub pair_graded : (n : ℕ) (c : Cell) → IsPairOf left right n c → pair_degree degree c ≡ n
  pair_graded n c h =
      let r = split-pair (λ a b. left n a × right n b × (bit_and a.degens.mask b.degens.mask ≡ 0)) c h in
      ap (pair_degree degree) r.2 ∙ weight-pair (λ a b. left_degree_in degree a) r.0 r.1 ∙ graded n r.0 r.3.0

  pub pair_low : (bound : ℕ) → bound ≤ 32 → (n : ℕ) (c : Cell) → IsPairOf left right n c → n ≤ bound → pair_degree degree c < 2 ^ 32
  pair_low bound short n c h l = let e = pair_graded n c h in let q : 33 < 2 ^ 32 = lit< tt in omega (arith, e, l, short, q)

pub low_degree : (bound n m : ℕ) → bound ≤ 32 → m ≡ n → n ≤ bound → m < 2 ^ 32
low_degree bound n m short e l = let q : 33 < 2 ^ 32 = lit< tt in omega (arith, e, l, short, q)

pub less_one : (m n : ℕ) → suc m ≤ n → m ≤ n
less_one m n l = omega (arith, l)
