-- The reply to the command that asks for Betti numbers, behind its space and its degrees.
use Rattle.std.proofs.Common.{◌≡◌, ℕ, sym, ◌∙◌, ap, subst}
use Rattle.fp_field.specs.Field.{number}
use Rattle.term_lang.specs.declared.terms.Term.{Term}
use Rattle.term_lang.specs.SpaceOf.{space_of}
use Rattle.script_lang.specs.declared.exprs.Expr.{Expr}
use Rattle.script_lang.specs.declared.commands.Command.TheVariants as commands
use Rattle.reply_text.specs.declared.replies.Reply.{Reply}
use Rattle.reply_text.specs.declared.replies.Reply.TheVariants as replies
use Rattle.session_core.specs.declared.stops.Stop.{Stop}
use Rattle.session_core.specs.Answer.{State, told, told_value, told_reply}
use Rattle.session_core.specs.Lines.{keys_asked, told_keys, keys_or_none}
use Rattle.session_core.specs.Questions.{dimensions}
use Rattle.session_core.specs.Ranges.{told_range}
use Rattle.session_core.specs.Settings.{answered}
use Rattle.session_core.specs.Telling.{Stops, told_betti}
use Rattle.session_core.proofs.RangesTold.{triple_of, at_range, with_state, state_told, state_stops, state_later}

module _ (s : State) (e : Expr) (low high : ℕ) (t : Term) (m n : ℕ) (range : told_range s.names e low high ≡ told (triple_of t m n)) where
  here : told_reply s (commands.Betti e low high) ≡ with_state s (told_betti s.prime t m n)
  here =
      at_range s.names e low high _ t m n range
      ∙ state_later s (told_value s.prime t 0 (dimensions (number s.prime) (space_of t) m n)) (λ ds. replies.Betti ds)

  pub betti_told : (r : Reply) → told_betti s.prime t m n ≡ told r → told_reply s (commands.Betti e low high) ≡ answered r s
  betti_told r h = here ∙ state_told s (told_betti s.prime t m n) r h

  pub betti_stops : (stop : Stop) → Stops stop (told_betti s.prime t m n) → Stops stop (told_reply s (commands.Betti e low high))
  betti_stops stop h = subst (Stops stop) (sym here) (state_stops s (told_betti s.prime t m n) stop h)

  pub betti_keys : keys_or_none s (told_keys s (commands.Betti e low high)) ≡ keys_asked s.prime (dimensions (number s.prime) (space_of t) m n)
  betti_keys = ap (keys_or_none s) (at_range s.names e low high _ t m n range)
