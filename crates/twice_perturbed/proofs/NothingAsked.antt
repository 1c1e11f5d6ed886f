-- Where nothing is asked along a chain.
use Rattle.std.proofs.Common.{◌≡◌, List, [], ◌∷◌, Option, true, false, refl, sym, subst}
use Rattle.std.proofs.lemmas.Bool.{false≢true}
use Rattle.fp_field.specs.Chains.{Terms, Each}
use Rattle.chain_core.specs.Asks.{AskedAll, asks_along}

pub none-along : {K A : Type 0} (c : Terms K) → asks_along {A = A} (λ x. []) c ≡ []
none-along [] = refl
none-along (t ∷ c) = none-along c

pub nothing-asked : {S A R K : Type 0} (runs : S → List A → S → Type 0) (refusal : A → Option R) → ((s : S) → runs s [] s) → (s : S) (c : Terms K)
    → AskedAll runs refusal s (asks_along (λ x. []) c) s
nothing-asked runs refusal none s c = subst (λ l. AskedAll runs refusal s l s) (sym (none-along c)) (record { ran = none s; granted = tt })

-- a condition that stands at each key of a chain that is not 0
pub whole-at : {K W : Type 0} (P : K → Type 0) (c : Terms K) → (c ≡ [] → false ≡ true) → Each (λ x. W × P x) c → W
whole-at P [] e h = absurd (false≢true (e refl))
whole-at P (t ∷ c) e h = h.0.0
