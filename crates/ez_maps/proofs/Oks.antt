-- Chains that a call answers with.
use Rattle.std.proofs.Common.{◌≡◌, ◌∙◌}
use Rattle.std.specs.Prelude.{Result, Ok, Err, IfOk}
use Rattle.fp_field.specs.Chains.{Terms}
use Rattle.chain_core.specs.Formal.{Formal}

pub if_ok : {K E : Type 0} (r : Result (Formal K) E) (a b : Terms K) → IfOk r (λ d. d.terms ≡ a) → a ≡ b → IfOk r (λ d. d.terms ≡ b)
if_ok (Ok d) a b h e = h ∙ e
if_ok (Err x) a b h e = tt
