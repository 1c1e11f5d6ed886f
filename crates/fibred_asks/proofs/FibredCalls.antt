-- The faces, values and prime that are made of the parts of a product or a bundle stand for those parts.
use Rattle.std.proofs.Common.{◌≡◌, ℕ, List, Option, ℤ, sym, subst}
use Rattle.fp_field.specs.declared.prime.Prime.{Prime}
use Rattle.spaces.specs.Spaces.{Space}
use Rattle.term_lang.specs.declared.terms.Term.{Term}
use Rattle.term_lang.specs.SpaceOf.{space_of}

-- base, fibre, values, the bound and the prime
abbrev pub Given : Type 0
Given = Space × Space × Option (List ℤ) × ℕ × Prime

abbrev pub given : Term → Term → Option (List ℤ) → ℕ → Prime → Given
given l r v m p = (space_of l, space_of r, v, m, p)

module _ (Fact : Given → Type 0) {l' l r' r : Term} {v' v : Option (List ℤ)} {m' m : ℕ} {p' p : Prime} (el : l' ≡ l) (er : r' ≡ r) (ev : v' ≡ v) (em : m' ≡ m) (ep : p' ≡ p) where
  -- a fact of the parts is one of what was made of them
  pub of-parts : Fact (given l r v m p) → Fact (given l' r' v' m' p')
  of-parts h = subst Fact (λ i. given (sym el i) (sym er i) (sym ev i) (sym em i) (sym ep i)) h

  pub to-parts : Fact (given l' r' v' m' p') → Fact (given l r v m p)
  to-parts h = subst Fact (λ i. given (el i) (er i) (ev i) (em i) (ep i)) h
