-- Which replies leave names and field as they were.
use Rattle.std.proofs.Common.{◌≡◌, ℕ, Bool, true, false, cond, Option, Some, None, List, refl, sym, true≢false}
use Rattle.script_lang.specs.declared.commands.Command.{Command}
use Rattle.script_lang.specs.declared.commands.Command.TheVariants as commands
use Rattle.script_lang.specs.declared.exprs.Expr.{Expr}
use Rattle.reply_text.specs.declared.refusals.Refusal.{Refusal}
use Rattle.reply_text.specs.declared.refusals.Refusal.TheVariants as refusals
use Rattle.reply_text.specs.declared.replies.Reply.TheVariants as replies
use Rattle.fp_field.specs.Field.{number}
use Rattle.values.specs.Asks.{ask, cycles}
use Rattle.term_lang.specs.SpaceOf.{space_of}
use Rattle.session_core.specs.Questions.{dimensions, expressed}
use Rattle.session_core.specs.Answer.{boundary_of, State, Told, told, refused, ◌>>◌, Replied, told_space, told_degree, told_chain, told_printed, told_cycle, told_value, told_prime, told_reply, replied, is_unbuilt_command, answer, answer_line}
use Rattle.session_core.specs.Kept.{is_refused, is_question}

module _ (P : Replied → Type 0) where
  -- a fact of what is told
  abbrev pub Each : Told Replied → Type 0
  Each (told r) = P r
  Each (refused w) = Unit {0}

  each->> : {A : Type 0} (m : Told A) (next : A → Told Replied) → ((a : A) → Each (next a)) → Each (m >> next)
  each->> (told a) next h = h a
  each->> (refused w) next h = tt

  each-replied : (s : State) (m : Told Replied) → Each m → ((w : Refusal) → P (replies.Refused w, s)) → P (replied s m)
  each-replied s (told r) h f = h
  each-replied s (refused w) h f = f w

  pub each-answer : (s : State) (c : Command) → Each (told_reply s c) → ((w : Refusal) → P (replies.Refused w, s)) → P (answer s c)
  unfolding answer
  each-answer s c h f = by (is_unbuilt_command c)
    where
      by : (b : Bool) → P (cond b (replies.Refused refusals.NotBuilt, s) (replied s (told_reply s c)))
      by true = f refusals.NotBuilt
      by false = each-replied s (told_reply s c) h f

module _ (s : State) where
  abbrev Kept : Replied → Type 0
  Kept r = is_refused r.0 ≡ true → r.1 ≡ s

  kept-told : (c : Command) → Each Kept (told_reply s c)
  kept-told (commands.Field n) = each->> Kept (told_prime n) _ (λ q h. absurd (true≢false (sym h)))
  kept-told (commands.Setf name e) = each->> Kept (told_space s.names e) _ (λ t h. absurd (true≢false (sym h)))
  kept-told commands.Names = λ h. refl
  kept-told (commands.Betti e low high) =
      each->> Kept (told_space s.names e) _ (λ t. each->> Kept (told_degree low) _ (λ m. each->> Kept (told_degree high) _ (λ n. each->> Kept (told_value s.prime t 0 (dimensions (number s.prime) (space_of t) m n)) _ (λ ds h. refl))))
  kept-told (commands.Homology e n) =
      each->> Kept (told_space s.names e) _ (λ t. each->> Kept (told_degree n) _ (λ m. each->> Kept (told_value s.prime t m (ask (cycles (space_of t) m))) _ (λ zs h. refl)))
  kept-told (commands.Boundary e n c) =
      each->> Kept (told_space s.names e) _ (λ t. each->> Kept (told_degree n) _ (λ m. each->> Kept (told_chain s.prime t m c) _ (λ z. each->> Kept (told_printed s.prime t m (boundary_of s.prime t m z)) _ (λ d h. refl))))
  kept-told (commands.Express e n c) =
      each->> Kept (told_space s.names e) _ (λ t. each->> Kept (told_degree n) _ (λ m. each->> Kept (told_chain s.prime t m c) _
      (λ y. each->> Kept (told_cycle s.prime t m y) _ (λ z. each->> Kept (told_value s.prime t m (expressed (number s.prime) (space_of t) m z)) _ (λ x. each->> Kept (told_printed s.prime t m x.1) _ (λ d h. refl))))))

  pub refused-kept : (line : Option Command) → is_refused (answer_line s line).0 ≡ true → (answer_line s line).1 ≡ s
  refused-kept None = λ h. refl
  refused-kept (Some c) = each-answer Kept s c (kept-told c) (λ w h. refl)

  abbrev Same : Replied → Type 0
  Same r = r.1 ≡ s

  same-told : (c : Command) → is_question c ≡ true → Each Same (told_reply s c)
  same-told (commands.Field n) q = absurd (true≢false (sym q))
  same-told (commands.Setf name e) q = absurd (true≢false (sym q))
  same-told commands.Names q = refl
  same-told (commands.Betti e low high) q =
      each->> Same (told_space s.names e) _ (λ t. each->> Same (told_degree low) _ (λ m. each->> Same (told_degree high) _ (λ n. each->> Same (told_value s.prime t 0 (dimensions (number s.prime) (space_of t) m n)) _ (λ ds. refl))))
  same-told (commands.Homology e n) q =
      each->> Same (told_space s.names e) _ (λ t. each->> Same (told_degree n) _ (λ m. each->> Same (told_value s.prime t m (ask (cycles (space_of t) m))) _ (λ zs. refl)))
  same-told (commands.Boundary e n c) q =
      each->> Same (told_space s.names e) _ (λ t. each->> Same (told_degree n) _ (λ m. each->> Same (told_chain s.prime t m c) _ (λ z. each->> Same (told_printed s.prime t m (boundary_of s.prime t m z)) _ (λ d. refl))))
  same-told (commands.Express e n c) q =
      each->> Same (told_space s.names e) _ (λ t. each->> Same (told_degree n) _ (λ m. each->> Same (told_chain s.prime t m c) _
      (λ y. each->> Same (told_cycle s.prime t m y) _ (λ z. each->> Same (told_value s.prime t m (expressed (number s.prime) (space_of t) m z)) _ (λ x. each->> Same (told_printed s.prime t m x.1) _ (λ d. refl))))))

  pub question-same : (c : Command) → is_question c ≡ true → (answer s c).1 ≡ s
  question-same c q = each-answer Same s c (same-told c q) (λ w. refl)

  pub field-names : (n : ℕ) → (answer s (commands.Field n)).1.names ≡ s.names
  field-names n = each-answer (λ r. r.1.names ≡ s.names) s (commands.Field n) (each->> (λ r. r.1.names ≡ s.names) (told_prime n) _ (λ q. refl)) (λ w. refl)

  pub setf-prime : (name : List ℕ) (e : Expr) → (answer s (commands.Setf name e)).1.prime ≡ s.prime
  setf-prime name e =
      each-answer (λ r. r.1.prime ≡ s.prime) s (commands.Setf name e) (each->> (λ r. r.1.prime ≡ s.prime) (told_space s.names e) _ (λ t. refl)) (λ w. refl)
