-- The numbers that are none of the eight primes.
use Rattle.std.proofs.Common.{◌≡◌, ℕ, true, false, ◌==◌, cond, ◌⊎◌, inl, inr, List, [], ◌∷◌, Some, None, refl, ◌∙◌, ap, subst, arith}
use Rattle.std.specs.Prelude.{Contains}
use Rattle.simp_ops.proofs.PlacesOf.{cases_bool}
use Rattle.term_lang.proofs.RowCells.{eq_is}
use Rattle.fp_field.specs.declared.prime.Prime.{Prime}
use Rattle.fp_field.specs.declared.prime.Prime.TheVariants.{Two, Three, Five, Seven, Eleven, Thirteen, Seventeen, Nineteen}
use Rattle.fp_field.specs.Field.{number, primes as numbers}
use Rattle.reply_text.specs.declared.refusals.Refusal.TheVariants as refusals
use Rattle.session_core.specs.Answer.{Told, told, refused, primes, prime_in, told_prime}

is_among : (p : Prime) → Contains numbers (number p)
is_among Two = (0, omega arith, refl)
is_among Three = (1, omega arith, refl)
is_among Five = (2, omega arith, refl)
is_among Seven = (3, omega arith, refl)
is_among Eleven = (4, omega arith, refl)
is_among Thirteen = (5, omega arith, refl)
is_among Seventeen = (6, omega arith, refl)
is_among Nineteen = (7, omega arith, refl)

none_in : (ps : List Prime) (n : ℕ) → (Contains numbers n → ⊥) → prime_in ps n ≡ None
none_in [] n h = refl
none_in (p ∷ ps) n h = by (cases_bool (number p == n)) (none_in ps n h)
  where
    by : ((number p == n) ≡ true) ⊎ ((number p == n) ≡ false) → prime_in ps n ≡ None → prime_in (p ∷ ps) n ≡ None
    by (inl e) r = absurd (h (subst (Contains numbers) (eq_is (number p) n e) (is_among p)))
    by (inr e) r = ap (λ b. cond b (Some p) (prime_in ps n)) e ∙ r

pub no_prime : (n : ℕ) → (Contains numbers n → ⊥) → told_prime n ≡ refused (refusals.Field n)
no_prime n h = ap (λ o. elim o as (λ _. Told Prime) [ Some p ↦ told p | None ↦ refused (refusals.Field n) ]) (none_in primes n h)
