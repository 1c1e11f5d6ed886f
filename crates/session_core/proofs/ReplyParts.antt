-- What a reply says of the parts of its line: each of them was told.
use Rattle.std.proofs.Common.{◌≡◌, ℕ, ◌≤◌, Bool, true, false, cond, nat_lt, Option, Some, None, refl, sym, ◌∙◌, ap, arith, true≢false}
use Rattle.std.proofs.lemmas.Bool.Decides.{nat_tests}
use Rattle.fp_field.specs.declared.prime.Prime.{Prime}
use Rattle.fp_field.specs.Field.{number}
use Rattle.term_lang.specs.declared.terms.Term.{Term}
use Rattle.reply_text.specs.declared.refusals.Refusal.{Refusal}
use Rattle.reply_text.specs.declared.refusals.Refusal.TheVariants as refusals
use Rattle.values.specs.Asks.{Ask, Answer, Right, ask, asks, value_with, asked_with}
use Rattle.values.specs.Values.{value}
use Rattle.values.specs.Outcomes.{Over, Outcome, Outcomes, usual_limits, outcome, outcome_with, first_over, refused_or, is_value, is_over}
use Rattle.values.proofs.Readings.{outcome-of, outcome_with-first}
use Rattle.oracle_iface.specs.Keys.{key_of}
use Rattle.oracle_iface.specs.Stands.{quote_kind}
use Rattle.script_lang.specs.declared.commands.Command.{Command}
use Rattle.reply_text.specs.declared.replies.Reply.TheVariants as replies
use Rattle.session_core.specs.Answer.{State, Told, told, refused, ◌>>◌, Replied, told_degree, told_unless, told_value, told_reply, replied, is_unbuilt_command, answer}
use Rattle.session_core.proofs.Unchanged.{Each}

-- a fact of what is told goes on from what is told first
pub each-told : (P : Replied → Type 0) {A : Type 0} (m : Told A) (next : A → Told Replied) → ((a : A) → m ≡ told a → Each P (next a)) → Each P (m >> next)
each-told P (told a) next h = h a refl
each-told P (refused w) next h = tt

-- and of the reply of a command whose constructions are all built
pub each-built : (P : Replied → Type 0) (s : State) (c : Command) → (is_unbuilt_command c ≡ false → Each P (told_reply s c)) → ((w : Refusal) → P (replies.Refused w, s)) → P (answer s c)
unfolding answer
each-built P s c h f = by (is_unbuilt_command c) refl
  where
    one : (m : Told Replied) → Each P m → P (replied s m)
    one (told r) g = g
    one (refused w) g = f w

    by : (b : Bool) → is_unbuilt_command c ≡ b → P (cond b (replies.Refused refusals.NotBuilt, s) (replied s (told_reply s c)))
    by true e = f refusals.NotBuilt
    by false e = one (told_reply s c) (h e)

-- the reply of such a command that is told
pub answer-told : (s : State) (c : Command) (r : Replied) → is_unbuilt_command c ≡ false → told_reply s c ≡ told r → answer s c ≡ r
unfolding answer
answer-told s c r b e = ap (λ x. cond x (replies.Refused refusals.NotBuilt, s) (replied s (told_reply s c))) b ∙ ap (replied s) e

abbrev is_told : {A : Type 0} → Told A → Bool
is_told (told a) = true
is_told (refused r) = false

abbrev told_or : {A : Type 0} → A → Told A → A
told_or d (told a) = a
told_or d (refused r) = d

pub same-told : {A : Type 0} (a b : A) → told a ≡ told b → a ≡ b
same-told a b e = ap (told_or a) e

pub not-told : {A : Type 0} (r : Refusal) (a : A) → refused r ≡ told a → ⊥
not-told r a e = true≢false (sym (ap is_told e))

pub told-parts : {A B : Type 0} (m : Told A) (next : A → Told B) (b : B) → (m >> next) ≡ told b → (a : A) × (m ≡ told a) × (next a ≡ told b)
told-parts (told a) next b e = (a, refl, e)
told-parts (refused r) next b e = absurd (not-told r b e)

-- ---- degrees

pub degree-told : (n m : ℕ) → told_degree n ≡ told m → (m ≡ n) × (n ≤ 16)
degree-told n m e = by (nat_lt 16 n) refl
  where
    within : nat_lt 16 n ≡ false → n ≤ 16
    within h = grind (arith, nat_tests)

    by : (b : Bool) → nat_lt 16 n ≡ b → (m ≡ n) × (n ≤ 16)
    by true h = absurd (not-told (refusals.Degree n) m (sym (ap (λ b. told_unless b (refusals.Degree n) n) h) ∙ e))
    by false h = (same-told m n (sym e ∙ ap (λ b. told_unless b (refusals.Degree n) n) h), within h)

-- ---- values

-- what a question comes to, where no limit is met, is its value
abbrev pub told_from : {A : Type 0} → Prime → Outcome A → Told A
told_from p o = elim o [ is_value v ↦ told v | is_over e ↦ refused (refusals.Over (Some (key_of p e.question)) (quote_kind e.kind) e.size) ]

module _ (p : Prime) (t : Term) (n : ℕ) {A : Type 0} (right : Right A) where
  pub value-told : (v : A) → told_value p t n right ≡ told v → v ≡ value_with (value (number p)) right
  value-told v e =
      by (first_over (outcome usual_limits (number p)) (asked_with (value (number p)) right))
      (outcome_with-first (value (number p)) (outcome usual_limits (number p)) (outcome-of usual_limits (number p)) right)
    where
      by : (o : Option Over) → outcome_with (outcome usual_limits (number p)) right ≡ refused_or o (value_with (value (number p)) right)
          → v ≡ value_with (value (number p)) right
      by (Some o) q = absurd (not-told _ v (sym (ap (told_from p) q) ∙ e))
      by None q = same-told v _ (sym e ∙ ap (told_from p) q)

-- what is asked first comes to a value
module _ (p : Prime) (t : Term) (n : ℕ) {A : Type 0} (k : Ask) (then_ : Answer k → Right A) where
  abbrev os : Outcomes
  os = outcome usual_limits (number p)

  abbrev whole : Outcome (Answer k) → Told A
  whole o = told_from p (elim o [ is_value v ↦ outcome_with os (then_ v) | is_over e ↦ is_over e ])

  pub first-told : (x : A) → told_value p t n (asks k then_) ≡ told x → (v : Answer k) × (told_value p t n (ask k) ≡ told v)
  first-told x e = by (os k) refl
    where
      by : (o : Outcome (Answer k)) → os k ≡ o → (v : Answer k) × (told_value p t n (ask k) ≡ told v)
      by (is_value v) h = (v, ap (λ o. (let y : Told (Answer k) = told_from p (elim o [ is_value v ↦ is_value v | is_over e ↦ is_over e ]) in y)) h)
      by (is_over o) h = absurd (not-told _ x (sym (ap whole h) ∙ e))
