-- The list of a first pass and the one that was split from it is whole.
use Rattle.std.proofs.Common.{◌≡◌, ◌∷◌, ◌<◌, ℕ, zero, suc, [], refl, subst, arith}
use Rattle.std.specs.Prelude.{All, Any}
use Rattle.turnstile.specs.declared.counted.Counted.{Ghosts}
use Rattle.turnstile.specs.declared.pass.Pass.{Pass}
use Rattle.turnstile.specs.declared.pass.Turnstile.{Turnstile}
use Rattle.turnstile.specs.Passes.{number, made, IsOutside, IsPassOf, IsWhole}

module _ {B E : Type 0} {g : Ghosts B E} (t : Turnstile B E) (x y : Pass B E g) where
  both : (Q : Pass B E g → Type 0) → Q x → Q y → All Q (x ∷ y ∷ [])
  both Q a b zero d h = a
  both Q a b (suc zero) d h = b
  both Q a b (suc (suc k)) d h = absurd (omega arith)

  -- the later pass stands first
  pub whole_of_two : number x ≡ 1 → number y ≡ 0 → made y ≡ 2 → IsPassOf t x × IsOutside x → IsPassOf t y × IsOutside y → IsWhole t (x ∷ y ∷ [])
  whole_of_two one none two hx hy = record {
    of_this = both (λ p. IsPassOf t p × IsOutside p) hx hy;
    first = (1, y, (let goal : 1 < 2 = omega arith in goal), refl, none);
    every = both (λ p. number p ≡ 0 → (k : ℕ) → k < made p → Any (λ q. number q ≡ k) (x ∷ y ∷ []))
        (λ zeroth k lt. (let n : ℕ = number x in let is : n ≡ 0 = zeroth in let is' : n ≡ 1 = one in absurd (omega arith)))
        (λ zeroth k lt. of_each k (subst (λ (n : ℕ). k < n) two lt));
  } where
    of_each : (k : ℕ) → k < 2 → Any (λ (q : Pass B E g). number q ≡ k) (x ∷ y ∷ [])
    of_each zero lt = (1, y, (let goal : 1 < 2 = omega arith in goal), refl, none)
    of_each (suc zero) lt = (0, x, (let goal : 0 < 2 = omega arith in goal), refl, one)
    of_each (suc (suc k)) lt = absurd (omega arith)
