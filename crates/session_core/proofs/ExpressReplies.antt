-- The reply to the command that asks for the parts of a cycle, behind what it poses.
use Rattle.std.proofs.Common.{◌≡◌, ℕ, refl, sym, ◌∙◌, ap, subst}
use Rattle.fp_field.specs.Field.{number}
use Rattle.fp_field.specs.Chains.{Terms}
use Rattle.term_lang.specs.declared.terms.Term.{Term}
use Rattle.term_lang.specs.SpaceOf.{space_of}
use Rattle.values.specs.Asks.{Cell as GradedCell}
use Rattle.script_lang.specs.declared.exprs.Expr.{Expr}
use Rattle.script_lang.specs.declared.simplices.ChainText.{ChainText}
use Rattle.script_lang.specs.declared.commands.Command.TheVariants as commands
use Rattle.reply_text.specs.declared.replies.Reply.{Reply}
use Rattle.reply_text.specs.declared.replies.Reply.TheVariants as replies
use Rattle.session_core.specs.declared.stops.Stop.{Stop}
use Rattle.session_core.specs.declared.stops.Stop.TheVariants as stops
use Rattle.session_core.specs.Answer.{State, Told, told, refused, ◌>>◌, told_space, told_degree, told_chain, told_cycle, told_value, told_printed, told_reply}
use Rattle.session_core.specs.Expressing.{keys_of_parts, told_express}
use Rattle.session_core.specs.Lines.{told_keys, keys_or_none}
use Rattle.session_core.specs.Posed.{PosedCycle, told_posed}
use Rattle.session_core.specs.Questions.{expressed}
use Rattle.session_core.specs.Settings.{answered}
use Rattle.session_core.specs.Telling.{Stops}
use Rattle.session_core.proofs.RangesTold.{with_state, state_told, state_stops, state_later}

abbrev Chain : Term → Type 0
Chain t = Terms (GradedCell (space_of t))

abbrev pub posed_of : (t : Term) (d : ℕ) → Chain t → PosedCycle
posed_of t d z = record { term = t; degree = d; cycle = z }

module _ {B : Type 0} (next : (t : Term) → ℕ → Chain t → Told B) where
  on_posed : Told PosedCycle → Told B
  on_posed m = m >> λ x. next x.term x.degree x.cycle

  one : (t : Term) (d : ℕ) (z : Told (Chain t)) → (z >> λ y. next t d y) ≡ ((z >> λ y. told (posed_of t d y)) >> λ x. next x.term x.degree x.cycle)
  one t d (told z) = refl
  one t d (refused r) = refl

  two : (t : Term) (d : ℕ) (y : Told (Chain t)) (c : Chain t → Told (Chain t))
      → (y >> λ u. c u >> λ z. next t d z) ≡ ((y >> λ u. c u >> λ z. told (posed_of t d z)) >> λ x. next x.term x.degree x.cycle)
  two t d (told y) c = one t d (c y)
  two t d (refused r) c = refl

  grouped : (m : Told Term) (k : Told ℕ) (l : (t : Term) → ℕ → Told (Chain t)) (c : (t : Term) → ℕ → Chain t → Told (Chain t))
      → (m >> λ t. k >> λ d. l t d >> λ y. c t d y >> λ z. next t d z)
      ≡ ((m >> λ t. k >> λ d. l t d >> λ y. c t d y >> λ z. told (posed_of t d z)) >> λ x. next x.term x.degree x.cycle)
  grouped (told t) (told d) l c = two t d (l t d) (c t d)
  grouped (told t) (refused r) l c = refl
  grouped (refused r) k l c = refl

module _ {B : Type 0} (s : State) (e : Expr) (n : ℕ) (text : ChainText) (next : (t : Term) → ℕ → Chain t → Told B) where
  -- what the question comes to, behind what it poses
  abbrev pub after_posed : Told B
  after_posed = told_space s.names e >> λ t. told_degree n >> λ m. told_chain s.prime t m text >> λ y. told_cycle s.prime t m y >> λ z. next t m z

  behind-posed : after_posed ≡ (told_posed s e n text >> λ x. next x.term x.degree x.cycle)
  behind-posed = grouped next (told_space s.names e) (told_degree n) (λ t m. told_chain s.prime t m text) (λ t m y. told_cycle s.prime t m y)

  pub at_posed : (t : Term) (m : ℕ) (z : Chain t) → told_posed s e n text ≡ told (posed_of t m z) → after_posed ≡ next t m z
  at_posed t m z h = behind-posed ∙ ap (λ x. x >> λ y. next y.term y.degree y.cycle) h

  pub posed_stops : (x : Stop) → Stops x (told_posed s e n text) → Stops x after_posed
  posed_stops (stops.Refused r) h = behind-posed ∙ ap (λ x. x >> λ y. next y.term y.degree y.cycle) h
  posed_stops stops.Memory h = tt

later_both : {A C : Type 0} (s : State) (v : Told A) (w : A → Told C) (g : A → C → Reply)
    → (v >> λ x. w x >> λ d. answered (g x d) s) ≡ with_state s (v >> λ x. w x >> λ d. told (g x d))
later_both s (told x) w g = state_later s (w x) (g x)
later_both s (refused r) w g = refl

module _ (s : State) (e : Expr) (n : ℕ) (text : ChainText) (t : Term) (m : ℕ) (z : Chain t) (posed : told_posed s e n text ≡ told (posed_of t m z)) where
  here : told_reply s (commands.Express e n text) ≡ with_state s (told_express s.prime t m z)
  here =
      at_posed s e n text _ t m z posed
      ∙ later_both s (told_value s.prime t m (expressed (number s.prime) (space_of t) m z)) (λ x. told_printed s.prime t m x.1)
      (λ x d. replies.Express t (record { prime = s.prime; values = x.0 }) d)

  pub express_told : (r : Reply) → told_express s.prime t m z ≡ told r → told_reply s (commands.Express e n text) ≡ answered r s
  express_told r h = here ∙ state_told s (told_express s.prime t m z) r h

  pub express_stops : (stop : Stop) → Stops stop (told_express s.prime t m z) → Stops stop (told_reply s (commands.Express e n text))
  express_stops stop h = subst (Stops stop) (sym here) (state_stops s (told_express s.prime t m z) stop h)

  pub express_keys : keys_or_none s (told_keys s (commands.Express e n text)) ≡ keys_of_parts s.prime t m z
  unfolding keys_of_parts
  express_keys = ap (keys_or_none s) (at_posed s e n text _ t m z posed)
