-- How pairs of simplices of the code stand for pairs of plain simplices.
--
-- The left part of the Eilenberg-Zilber maps is a space, with one term to each face, or the letters of its loop group; the right part
-- is a space. A cell that is a pair of a left and a right simplex of degree n stands for the pair of their forms.
use Rattle.std.specs.Prelude.{◌≡◌, ℕ, suc, ◌<◌, ◌≤◌, ◌^◌, Bool, true, false, bit_and}
use Rattle.fp_field.specs.Chains.{Terms, Each}
use Rattle.simp_ops.specs.Bits.{bit, inserted}
use Rattle.spaces.specs.Spaces.{Space, Plain, set_of}
use Rattle.spaces.specs.Orders.{ordered}
use Rattle.spaces.specs.EilenbergZilber.{Linear, Pair, linear}
use Rattle.values.specs.Twists.{letters}
use Rattle.ez_laws.specs.LetterSides.{IsLetter}
use Rattle.ez_flow.specs.Sources.{are_source}
use Rattle.cells.specs.declared.cells.Cell.{Cell, out-Cell}
use Rattle.cells.specs.declared.cells.Cell.TheOpen.{Cell-F}
use Rattle.cells.specs.declared.cells.Letter.{Letter}
use Rattle.cells.specs.declared.cells.Simplex.{Simplex}

-- the left part: the simplices of a space, or the letters of its loop group
abbrev pub left_of : Bool → ℕ → (a : Space) → Linear (Plain a)
left_of false p a = linear (ordered a)
left_of true p a = letters p (ordered a)

abbrev pub left_in : Bool → (a : Space) → ℕ → Plain a → Type 0
left_in false a = (set_of a).In
left_in true a = IsLetter (set_of a)

-- How simplices of the code stand for plain ones, `In` each degree n: the bits of the mask are the degeneracies, a bit put in is a
-- degeneracy, up to the degree `bound`, and each plain simplex has one simplex of the code at most.
pub record IsForm {K : Type 0} (bound : ℕ) (In : ℕ → K → Type 0) (degeneracy : ℕ → K → K) (has : ℕ → K → Bool)
    (belongs : ℕ → Simplex → Type 0) (form : Simplex → K) : Type 0 where
  pub is_in : (n : ℕ) (s : Simplex) → belongs n s → In n (form s)
  pub mask : (n : ℕ) (s : Simplex) → belongs n s → s.degens.mask < 2 ^ n
  pub places : (n j : ℕ) (s : Simplex) → belongs n s → j < n → has j (form s) ≡ bit s.degens.mask j
  pub raised : (n j : ℕ) (s t : Simplex) → belongs n s → j ≤ n → suc n ≤ bound → t.cell ≡ s.cell
      → ((k : ℕ) → bit t.degens.mask k ≡ inserted j (bit s.degens.mask) k) → belongs (suc n) t × (form t ≡ degeneracy j (form s))
  pub one_form : (n : ℕ) (s t : Simplex) → belongs n s → belongs n t → form s ≡ form t → s ≡ t

-- a plain simplex of degree n that a simplex of the code stands for
abbrev pub HasSimplex : {K : Type 0} → (ℕ → Simplex → Type 0) → (Simplex → K) → (ℕ → K → Simplex) → ℕ → K → Type 0
HasSimplex belongs form simplex n x = belongs n (simplex n x) × (form (simplex n x) ≡ x)

-- The simplices of the code for plain ones: each is the one for its own form, and up to the degree `bound` each face of a form has one.
pub record AreRead {K : Type 0} (bound : ℕ) (faces : ℕ → ℕ → K → Terms K) (belongs : ℕ → Simplex → Type 0) (form : Simplex → K)
    (simplex : ℕ → K → Simplex) : Type 0 where
  pub own : (n : ℕ) (s : Simplex) → belongs n s → simplex n (form s) ≡ s
  pub closed : (n i : ℕ) (s : Simplex) → belongs (suc n) s → suc n ≤ bound → i ≤ suc n → Each (HasSimplex belongs form simplex n) (faces (suc n) i (form s))

abbrev pub pair_in : (Simplex → Simplex → Type 0) → Cell-F Cell Letter Simplex → Type 0
pair_in P (Cell-F.Pair a b) = P a b
pair_in P c = ⊥

-- the cell is a pair, with this fact of its simplices
abbrev pub IsPairWith : (Simplex → Simplex → Type 0) → Cell → Type 0
IsPairWith P c = pair_in P (out-Cell c)

abbrev pub weight_in : (Simplex → Simplex → ℕ) → Cell-F Cell Letter Simplex → ℕ
weight_in w (Cell-F.Pair a b) = w a b
weight_in w c = 0

-- a weight of the simplices of a pair, 0 on other cells
abbrev pub pair_weight : (Simplex → Simplex → ℕ) → Cell → ℕ
pair_weight w c = weight_in w (out-Cell c)

-- a pair of a left and a right simplex of degree n with no common place in their masks
abbrev pub IsPairOf : (left right : ℕ → Simplex → Type 0) → ℕ → Cell → Type 0
IsPairOf left right n c = IsPairWith (λ a b. left n a × right n b × (bit_and a.degens.mask b.degens.mask ≡ 0)) c

-- one that is a source
abbrev pub IsSourceOf : (left right : ℕ → Simplex → Type 0) → ℕ → Cell → Type 0
IsSourceOf left right n c = IsPairWith (λ a b. left n a × right n b × (are_source n a.degens.mask b.degens.mask ≡ true)) c

-- the weight of what a pair of degree n stands for
abbrev pub form_weight : {K J : Type 0} → (Simplex → K) → (Simplex → J) → ℕ → (Pair K J → ℕ) → Cell → ℕ
form_weight left_form right_form n w c = pair_weight (λ a b. w (n, left_form a, right_form b)) c
