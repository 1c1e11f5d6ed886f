-- The parts of a cycle as the code has them, and the reply with them.
--
--   over F_3 the edge of the projective plane has no coefficients and the chain 2 t
use Rattle.std.specs.Prelude.{◌≡◌, ℕ, List}
use Rattle.fp_field.specs.declared.prime.Prime.{Prime}
use Rattle.fp_field.specs.Field.{number}
use Rattle.fp_field.specs.Chains.{Terms}
use Rattle.echelons.specs.Echelon.{Vector}
use Rattle.spaces.specs.Spaces.{Space}
use Rattle.term_lang.specs.declared.terms.Term.{Term}
use Rattle.term_lang.specs.SpaceOf.{space_of}
use Rattle.values.specs.Asks.{Cell as GradedCell}
use Rattle.oracle_iface.specs.Keys.{quote_chain, formal}
use Rattle.oracle_iface.specs.declared.keys.Key.{Key}
use Rattle.reply_text.specs.declared.replies.Reply.{Reply}
use Rattle.reply_text.specs.declared.replies.Reply.TheVariants as replies
use Rattle.session_core.specs.declared.parts_of_cycles.Expressed.{Expressed}
use Rattle.session_core.specs.Answer.{Told, told, ◌>>◌, told_value, told_printed}
use Rattle.session_core.specs.Lines.{keys_asked}
use Rattle.session_core.specs.Questions.{expressed}
use Rattle.session_core.specs.Telling.{within_limits}

-- coefficients and a chain of the code for those of the definitions
abbrev pub AreParts : (p : Prime) (X : Space) → Vector × Terms (GradedCell X) → Expressed → Type 0
AreParts p X v x = (x.class ≡ record { prime = p; values = v.0 }) × (x.rest ≡ formal p (quote_chain X v.1))

-- the reply with the parts
abbrev pub with_parts : (p : Prime) (t : Term) (n : ℕ) → Vector × Terms (GradedCell (space_of t)) → Told Reply
with_parts p t n x = told_printed p t n x.1 >> λ d. told (replies.Express t (record { prime = p; values = x.0 }) d)

abbrev pub told_express : (p : Prime) (t : Term) (n : ℕ) → Terms (GradedCell (space_of t)) → Told Reply
told_express p t n z = told_value p t n (expressed (number p) (space_of t) n z) >> λ x. with_parts p t n x

-- the reply with the parts as the code has them
abbrev pub within_parts : Term → Expressed → Told Reply
within_parts t x = within_limits x.rest >> λ d. told (replies.Express t x.class d)

-- the keys that the parts of a cycle ask for
unfoldable pub keys_of_parts : Prime → (t : Term) → ℕ → Terms (GradedCell (space_of t)) → List Key
keys_of_parts p t n z = keys_asked p (expressed (number p) (space_of t) n z)
