-- What stands behind the space and the two degrees of a question.
use Rattle.std.proofs.Common.{◌≡◌, ℕ, refl, ◌∙◌, ap}
use Rattle.term_lang.specs.declared.terms.Term.{Term}
use Rattle.script_lang.specs.declared.exprs.Expr.{Expr}
use Rattle.reply_text.specs.declared.replies.Reply.{Reply}
use Rattle.session_core.specs.declared.stops.Stop.{Stop}
use Rattle.session_core.specs.declared.stops.Stop.TheVariants as stops
use Rattle.session_core.specs.Answer.{Names, State, Told, told, refused, ◌>>◌, Replied, told_space, told_degree}
use Rattle.session_core.specs.Ranges.{told_range}
use Rattle.session_core.specs.Settings.{answered}
use Rattle.session_core.specs.Telling.{Stops}

abbrev pub triple_of : Term → ℕ → ℕ → Term × (ℕ × ℕ)
triple_of t m n = (t, (m, n))

grouped : {B : Type 0} (m : Told Term) (k l : Told ℕ) (next : Term → ℕ → ℕ → Told B)
    → (m >> λ t. k >> λ d. l >> λ e. next t d e) ≡ ((m >> λ t. k >> λ d. l >> λ e. told (triple_of t d e)) >> λ x. next x.0 x.1.0 x.1.1)
grouped (told t) (told d) (told e) next = refl
grouped (told t) (told d) (refused r) next = refl
grouped (told t) (refused r) l next = refl
grouped (refused r) k l next = refl

module _ {B : Type 0} (names : Names) (e : Expr) (low high : ℕ) (next : Term → ℕ → ℕ → Told B) where
  -- what the question comes to, behind its space and its degrees
  abbrev pub after_range : Told B
  after_range = told_space names e >> λ t. told_degree low >> λ m. told_degree high >> λ n. next t m n

  behind-range : after_range ≡ (told_range names e low high >> λ x. next x.0 x.1.0 x.1.1)
  behind-range = grouped (told_space names e) (told_degree low) (told_degree high) next

  pub at_range : (t : Term) (m n : ℕ) → told_range names e low high ≡ told (triple_of t m n) → after_range ≡ next t m n
  at_range t m n h = behind-range ∙ ap (λ x. x >> λ y. next y.0 y.1.0 y.1.1) h

  pub range_stops : (s : Stop) → Stops s (told_range names e low high) → Stops s after_range
  range_stops (stops.Refused r) h = behind-range ∙ ap (λ x. x >> λ y. next y.0 y.1.0 y.1.1) h
  range_stops stops.Memory h = tt

-- ---- a reply that leaves the state as it was

abbrev pub with_state : State → Told Reply → Told Replied
with_state s m = m >> λ r. answered r s

pub state_told : (s : State) (m : Told Reply) (r : Reply) → m ≡ told r → with_state s m ≡ answered r s
state_told s m r e = ap (with_state s) e

pub state_stops : (s : State) (m : Told Reply) (x : Stop) → Stops x m → Stops x (with_state s m)
state_stops s m (stops.Refused r) e = ap (with_state s) e
state_stops s m stops.Memory e = tt

pub state_later : {A : Type 0} (s : State) (v : Told A) (g : A → Reply) → (v >> λ a. answered (g a) s) ≡ with_state s (v >> λ a. told (g a))
state_later s (told a) g = refl
state_later s (refused r) g = refl
