-- Spaces as they are told, one layer at a time, and the replies that come of a first fault.
use Rattle.std.proofs.Common.{◌≡◌, ℕ, Bool, true, false, cond, List, sym, ◌∙◌, ap}
use Rattle.term_lang.specs.declared.terms.Term.{Term}
use Rattle.script_lang.specs.declared.commands.Command.{Command}
use Rattle.script_lang.specs.declared.exprs.Expr.{Expr, roll-Expr, map-Expr, fold-roll-Expr}
use Rattle.script_lang.specs.declared.exprs.Expr.TheVariants.{Name, Sphere, Suspension, Loop, rolls-Name, rolls-Sphere, rolls-Suspension, rolls-Loop}
use Rattle.script_lang.specs.declared.exprs.Expr.TheOpen.{Expr-F}
use Rattle.reply_text.specs.declared.refusals.Refusal.{Refusal}
use Rattle.reply_text.specs.declared.refusals.Refusal.TheVariants as refusals
use Rattle.reply_text.specs.declared.replies.Reply.TheVariants as replies
use Rattle.session_core.specs.Answer.{Names, State, Told, told, refused, ◌>>◌, unbuilt_step, is_unbuilt, is_unbuilt_command, named_space, told_sphere, told_suspension, space_step, told_space, told_reply, replied, answer}

module _ (names : Names) where
  pub rolled : (y : Expr-F Expr) → told_space names (roll-Expr y) ≡ space_step names (map-Expr Expr (Told Term) (told_space names) y)
  unfolding told_space
  rolled y = fold-roll-Expr (Told Term) (space_step names) y

  pub told-Name : (name : List ℕ) → told_space names (Name name) ≡ named_space names name
  told-Name name = ap (told_space names) (sym (rolls-Name name)) ∙ rolled (Expr-F.Name name)

  pub told-Sphere : (n : ℕ) → told_space names (Sphere n) ≡ told_sphere n
  told-Sphere n = ap (told_space names) (sym (rolls-Sphere n)) ∙ rolled (Expr-F.Sphere n)

  pub told-Suspension : (e : Expr) → told_space names (Suspension e) ≡ told_suspension (told_space names e)
  told-Suspension e = ap (told_space names) (sym (rolls-Suspension e)) ∙ rolled (Expr-F.Suspension e)

pub rolled_unbuilt : (y : Expr-F Expr) → is_unbuilt (roll-Expr y) ≡ unbuilt_step (map-Expr Expr Bool is_unbuilt y)
unfolding is_unbuilt
rolled_unbuilt y = fold-roll-Expr Bool unbuilt_step y

pub built-Name : (name : List ℕ) → is_unbuilt (Name name) ≡ false
built-Name name = ap is_unbuilt (sym (rolls-Name name)) ∙ rolled_unbuilt (Expr-F.Name name)

pub built-Sphere : (n : ℕ) → is_unbuilt (Sphere n) ≡ false
built-Sphere n = ap is_unbuilt (sym (rolls-Sphere n)) ∙ rolled_unbuilt (Expr-F.Sphere n)

pub unbuilt-Suspension : (e : Expr) → is_unbuilt (Suspension e) ≡ is_unbuilt e
unbuilt-Suspension e = ap is_unbuilt (sym (rolls-Suspension e)) ∙ rolled_unbuilt (Expr-F.Suspension e)

pub unbuilt-Loop : (e : Expr) → is_unbuilt (Loop e) ≡ true
unbuilt-Loop e = ap is_unbuilt (sym (rolls-Loop e)) ∙ rolled_unbuilt (Expr-F.Loop e)

pub told-first : {A B : Type 0} (m : Told A) (next : A → Told B) (a : A) → m ≡ told a → (m >> next) ≡ next a
told-first m next a e = ap (λ x. x >> next) e

pub refused-first : {A B : Type 0} (m : Told A) (next : A → Told B) (r : Refusal) → m ≡ refused r → (m >> next) ≡ refused r
refused-first m next r e = ap (λ x. x >> next) e

pub answer-unbuilt : (s : State) (c : Command) → is_unbuilt_command c ≡ true → answer s c ≡ (replies.Refused refusals.NotBuilt, s)
unfolding answer
answer-unbuilt s c b = ap (λ x. cond x (replies.Refused refusals.NotBuilt, s) (replied s (told_reply s c))) b

pub answer-refused : (s : State) (c : Command) (r : Refusal) → is_unbuilt_command c ≡ false → told_reply s c ≡ refused r → answer s c ≡ (replies.Refused r, s)
unfolding answer
answer-refused s c r b e = ap (λ x. cond x (replies.Refused refusals.NotBuilt, s) (replied s (told_reply s c))) b ∙ ap (replied s) e
