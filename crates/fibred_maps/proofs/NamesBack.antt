-- A chain of names names the chain of what they stand for.
use Rattle.std.proofs.Common.{◌≡◌, ℕ, [], ◌∷◌, refl, sym, ◌∙◌}
use Rattle.std.proofs.lemmas.Result.{IfOk-weaker}
use Rattle.std.specs.Prelude.{Result, IfOk}
use Rattle.fp_field.specs.declared.prime.Prime.{Prime}
use Rattle.fp_field.specs.Chains.{Terms, Each}
use Rattle.chain_core.specs.Formal.{Formal}
use Rattle.values.specs.Rules.{named}
use Rattle.fibred_maps.specs.Fibred.{Fibred, NamesPair}

module _ {B M N A : Type 0} (s : Fibred B M N A) (v : Prime) (n : ℕ) where
  pub pairs-back : (c : Terms B) → Each (NamesPair s v n) c → c ≡ named s.pair (named s.pair_of c)
  pairs-back [] e = refl
  pairs-back (t ∷ c) e = λ i. (sym e.0.1 i, t.1) ∷ pairs-back c e.1 i

  pub pairs-each : (c : Terms B) → Each (NamesPair s v n) c → Each (s.IsPair n) (named s.pair_of c)
  pairs-each [] e = tt
  pairs-each (t ∷ c) e = (e.0.0, pairs-each c e.1)

-- the terms of a result, by an equation
pub value-is : {K E : Type 0} (x y : Terms K) → x ≡ y → (result : Result (Formal K) E) → IfOk result (λ r. r.terms ≡ x) → IfOk result (λ r. r.terms ≡ y)
value-is x y e result h = IfOk-weaker result (λ r. r.terms ≡ x) (λ r. r.terms ≡ y) (λ r k. k ∙ e) h
