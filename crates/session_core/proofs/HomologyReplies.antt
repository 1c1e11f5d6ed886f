-- The reply to the command that asks for homology, behind its space and its degree.
use Rattle.std.proofs.Common.{◌≡◌, ℕ, [], ◌∷◌, map, sym, ◌∙◌, ap, subst}
use Rattle.term_lang.specs.declared.terms.Term.{Term}
use Rattle.term_lang.specs.SpaceOf.{space_of}
use Rattle.values.specs.Asks.{ask, cycles}
use Rattle.script_lang.specs.declared.exprs.Expr.{Expr}
use Rattle.script_lang.specs.declared.commands.Command.TheVariants as commands
use Rattle.reply_text.specs.declared.replies.Reply.{Reply}
use Rattle.reply_text.specs.declared.replies.Reply.TheVariants as replies
use Rattle.session_core.specs.declared.stops.Stop.{Stop}
use Rattle.session_core.specs.declared.stops.Stop.TheVariants as stops
use Rattle.session_core.specs.Answer.{State, Told, told, refused, ◌>>◌, Replied, told_value, printed, told_reply}
use Rattle.session_core.specs.Lines.{told_keys, keys_or_none}
use Rattle.session_core.specs.Settings.{answered}
use Rattle.session_core.specs.Spots.{told_spot}
use Rattle.session_core.specs.Telling.{Stops, cycles_key, told_homology}
use Rattle.session_core.proofs.SpotsTold.{pair_of, at_spot}
use Rattle.session_core.proofs.OneKeyAsked.{cycles-key}

-- a value that is told, changed and put into a reply
module _ {A B : Type 0} (v : Told A) (f : A → B) (g : B → Reply) (s : State) where
  abbrev told_one : Told Reply
  told_one = (v >> λ a. told (f a)) >> λ b. told (g b)

  abbrev told_both : Told Replied
  told_both = v >> λ a. told (g (f a), s)

both_told : {A B : Type 0} (v : Told A) (f : A → B) (g : B → Reply) (s : State) (r : Reply) → told_one v f g s ≡ told r → told_both v f g s ≡ answered r s
both_told (told a) f g s r e = let h : g (f a) ≡ r = cc in ap (λ x. answered x s) h
both_told (refused w) f g s r e = absurd (cc e)

both_stop : {A B : Type 0} (v : Told A) (f : A → B) (g : B → Reply) (s : State) (stop : Stop) → Stops stop (told_one v f g s) → Stops stop (told_both v f g s)
both_stop (told a) f g s (stops.Refused r) e = absurd (cc e)
both_stop (refused w) f g s (stops.Refused r) e = let h : w ≡ r = cc in ap (λ x. refused x) h
both_stop v f g s stops.Memory e = tt

module _ (s : State) (e : Expr) (n : ℕ) (t : Term) (m : ℕ) (spot : told_spot s.names e n ≡ told (pair_of t m)) where
  here : told_reply s (commands.Homology e n)
      ≡ told_both (told_value s.prime t m (ask (cycles (space_of t) m))) (map (printed s.prime t m)) (replies.Homology t) s
  here = at_spot s.names e n _ t m spot

  pub homology_told : (r : Reply) → told_homology s.prime t m ≡ told r → told_reply s (commands.Homology e n) ≡ answered r s
  homology_told r h = here ∙ both_told (told_value s.prime t m (ask (cycles (space_of t) m))) (map (printed s.prime t m)) (replies.Homology t) s r h

  pub homology_stops : (stop : Stop) → Stops stop (told_homology s.prime t m) → Stops stop (told_reply s (commands.Homology e n))
  homology_stops stop h =
      subst (Stops stop) (sym here) (both_stop (told_value s.prime t m (ask (cycles (space_of t) m))) (map (printed s.prime t m)) (replies.Homology t) s stop h)

  pub homology_keys : keys_or_none s (told_keys s (commands.Homology e n)) ≡ cycles_key s.prime t m ∷ []
  homology_keys = ap (keys_or_none s) (at_spot s.names e n _ t m spot) ∙ ap (λ k. k ∷ []) (cycles-key s.prime t m)
