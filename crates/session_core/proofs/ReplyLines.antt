-- Only a question for homology has a homology reply.
use Rattle.std.proofs.Common.{◌≡◌, ℕ, List, Option, Some, None, refl, subst}
use Rattle.fp_field.specs.Field.{number}
use Rattle.cells.specs.declared.cells.Cell.{Cell}
use Rattle.chain_core.specs.Formal.{Formal}
use Rattle.term_lang.specs.declared.terms.Term.{Term}
use Rattle.term_lang.specs.SpaceOf.{space_of}
use Rattle.script_lang.specs.declared.commands.Command.{Command}
use Rattle.script_lang.specs.declared.commands.Command.TheVariants as commands
use Rattle.script_lang.specs.declared.exprs.Expr.{Expr}
use Rattle.reply_text.specs.declared.replies.Reply.{Reply}
use Rattle.reply_text.specs.declared.replies.Reply.TheVariants as replies
use Rattle.session_core.specs.Questions.{dimensions, expressed}
use Rattle.session_core.specs.Answer.{State, Told, told, refused, Replied, told_prime, told_space, told_degree, told_chain, told_cycle, told_value, told_printed, boundary_of, answer}
use Rattle.session_core.specs.Lines.{told_line, answer_told, answer_bytes}
use Rattle.session_core.specs.Replies.{IsHomologyReply}
use Rattle.session_core.specs.Whole.{IsWhole}
use Rattle.session_core.proofs.Unchanged.{each-answer}
use Rattle.session_core.proofs.ReplyParts.{each-told}
use Rattle.session_core.proofs.ReplyCycles.{AtHomology, homology-reply}

-- a fact of each homology reply
at-homology : (Q : Term → List (Formal Cell) → Type 0) (r : Reply) → ((t : Term) (zs : List (Formal Cell)) → r ≡ replies.Homology t zs → Q t zs) → AtHomology Q r
at-homology Q replies.Empty f = tt
at-homology Q (replies.Field p) f = tt
at-homology Q (replies.Defined name) f = tt
at-homology Q (replies.Names names) f = tt
at-homology Q (replies.Betti ds) f = tt
at-homology Q (replies.Homology t zs) f = f t zs refl
at-homology Q (replies.Boundary t d) f = tt
at-homology Q (replies.Express t v d) f = tt
at-homology Q (replies.Refused r) f = tt

module _ (s : State) (whole : IsWhole s) (line : List ℕ) where
  -- the question of the line, and what its reply says
  abbrev Asks : Term → List (Formal Cell) → Type 0
  Asks t zs = (e : Expr) × (n : ℕ) × (told_line line ≡ told (Some (commands.Homology e n))) × IsHomologyReply s e n t zs

  abbrev P : Replied → Type 0
  P r = AtHomology Asks r.0

  of-command : (c : Command) → told_line line ≡ told (Some c) → P (answer s c)
  of-command (commands.Field n) h = each-answer P s (commands.Field n) (each-told P (told_prime n) _ (λ q i. tt)) (λ w. tt)
  of-command (commands.Setf name e) h = each-answer P s (commands.Setf name e) (each-told P (told_space s.names e) _ (λ t i. tt)) (λ w. tt)
  of-command commands.Names h = each-answer P s commands.Names tt (λ w. tt)
  of-command (commands.Betti e low high) h =
      each-answer P s (commands.Betti e low high)
      (each-told P (told_space s.names e) _ (λ t i. each-told P (told_degree low) _ (λ m j. each-told P (told_degree high) _ (λ n k.
      each-told P (told_value s.prime t 0 (dimensions (number s.prime) (space_of t) m n)) _ (λ ds l. tt)))))
      (λ w. tt)
  of-command (commands.Homology e n) h =
      at-homology Asks (answer s (commands.Homology e n)).0 (λ t zs r. (e, n, h, homology-reply s e n t zs whole r))
  of-command (commands.Boundary e n c) h =
      each-answer P s (commands.Boundary e n c)
      (each-told P (told_space s.names e) _ (λ t i. each-told P (told_degree n) _ (λ m j. each-told P (told_chain s.prime t m c) _ (λ z k.
      each-told P (told_printed s.prime t m (boundary_of s.prime t m z)) _ (λ d l. tt)))))
      (λ w. tt)
  of-command (commands.Express e n c) h =
      each-answer P s (commands.Express e n c)
      (each-told P (told_space s.names e) _ (λ t i. each-told P (told_degree n) _ (λ m j. each-told P (told_chain s.prime t m c) _ (λ y k.
      each-told P (told_cycle s.prime t m y) _ (λ z l. each-told P (told_value s.prime t m (expressed (number s.prime) (space_of t) m z)) _ (λ x o.
      each-told P (told_printed s.prime t m x.1) _ (λ d u. tt)))))))
      (λ w. tt)

  of-told : (m : Told (Option Command)) → told_line line ≡ m → P (answer_told s m)
  of-told (told None) h = tt
  of-told (told (Some c)) h = of-command c h
  of-told (refused r) h = tt

  pub homology-line : (t : Term) (zs : List (Formal Cell)) → (answer_bytes s line).0 ≡ replies.Homology t zs → Asks t zs
  unfolding answer_bytes
  homology-line t zs r = subst (AtHomology Asks) r (of-told (told_line line) refl)
