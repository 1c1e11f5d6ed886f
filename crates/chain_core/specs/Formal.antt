-- A chain as contracts see it: a prime, and the list of its terms, each a key and a number (a formal sum
-- over F_p, as in any text on homology). The list is in normal form: the keys rise, and each number is
-- from 1 to p - 1, so it is the finite map from keys to numbers that the chain is.
--
--   over 3 the chain 2 a + b is (a, 2) ∷ (b, 1) ∷ []
use Rattle.std.specs.Prelude.{List, map}
use Rattle.fp_field.specs.declared.prime.Prime.{Prime}
use Rattle.fp_field.specs.declared.element.Fp.{Fp}
use Rattle.fp_field.specs.Chains.{Terms}

pub record Formal (K : Type 0) : Type 0 where
  pub prime : Prime
  pub terms : Terms K

-- a list of keys with elements of the field, as terms
abbrev pub numbers : {K : Type 0} → List (K × Fp) → Terms K
numbers ts = map (λ t. (t.0, t.1.value)) ts
