-- Where a key stands in a list of terms whose keys rise (a look-up in a sorted list).
--
--   among the keys 2, 5, 7 the key 5 is at place 1, and the key 6 is between, before place 2
use Rattle.std.specs.Prelude.{◌≡◌, ℕ, suc, ◌≤◌, [], ◌∷◌, ◌++◌, length, take, drop, Result, MatchResult}
use Rattle.std.specs.declared.cmp.Ordering.{Ordering}
use Rattle.std.specs.declared.cmp.Ordering.TheVariants.{Less, Equal, Greater}
use Rattle.fp_field.specs.Chains.{Terms, Each}

-- the keys rise
abbrev pub Ascends : {K : Type 0} → (K → K → Ordering) → Terms K → Type 0
Ascends cmp [] = Unit {0}
Ascends cmp (t ∷ c) = Each (λ x. cmp t.0 x ≡ Less) c × Ascends cmp c

-- the term at place i has a key that compares equal, those before it have lower keys and those after it higher ones
pub record IsAt {K : Type 0} (cmp : K → K → Ordering) (c : Terms K) (k : K) (i : ℕ) : Type 0 where
  pub term : K × ℕ
  pub order : c ≡ take i c ++ term ∷ drop (suc i) c
  pub lower : Each (λ x. cmp k x ≡ Greater) (take i c)
  pub equal : cmp k term.0 ≡ Equal
  pub higher : Each (λ x. cmp k x ≡ Less) (drop (suc i) c)

-- the terms before place i have lower keys, and those from it on have higher ones
pub record IsBetween {K : Type 0} (cmp : K → K → Ordering) (c : Terms K) (k : K) (i : ℕ) : Type 0 where
  pub within : i ≤ length c
  pub lower : Each (λ x. cmp k x ≡ Greater) (take i c)
  pub higher : Each (λ x. cmp k x ≡ Less) (drop i c)

-- what a search for a key answers
abbrev pub IsPlace : {K : Type 0} → (K → K → Ordering) → Terms K → K → Result ℕ ℕ → Type 0
IsPlace cmp c k r = MatchResult r (IsAt cmp c k) (IsBetween cmp c k)
