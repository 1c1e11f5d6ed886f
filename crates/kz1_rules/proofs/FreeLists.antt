-- Lists without a 0, by the test for one.
use Rattle.std.proofs.Common.{◌≡◌, zero, suc, false, List, [], ◌∷◌, refl, true≢false}
use Rattle.std.proofs.Math.IntN.{ℤ, pos, negsuc}
use Rattle.homology_laws.proofs.IntegersFaces.{has_zero}
use Rattle.kz1_rules.specs.Lists.{IsFree}

pub free-has : (x : List ℤ) → IsFree x → has_zero x ≡ false
free-has [] h = refl
free-has (pos zero ∷ x) h = absurd (h.0 refl)
free-has (pos (suc n) ∷ x) h = free-has x h.1
free-has (negsuc n ∷ x) h = free-has x h.1

pub has-free : (x : List ℤ) → has_zero x ≡ false → IsFree x
has-free [] h = tt
has-free (pos zero ∷ x) h = absurd (true≢false h)
has-free (pos (suc n) ∷ x) h = (λ e. cc, has-free x h)
has-free (negsuc n ∷ x) h = (λ e. cc, has-free x h)
