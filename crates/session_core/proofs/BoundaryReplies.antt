-- The reply to the command that asks for a boundary, part by part.
use Rattle.std.proofs.Common.{◌≡◌, ℕ, refl, sym, ◌∙◌, ap, subst}
use Rattle.fp_field.specs.declared.prime.Prime.{Prime}
use Rattle.fp_field.specs.Field.{number}
use Rattle.fp_field.specs.Chains.{Terms, EachKey}
use Rattle.chain_core.specs.Formal.{Formal}
use Rattle.spaces.specs.Spaces.{Space}
use Rattle.cells.specs.declared.cells.Cell.{Cell}
use Rattle.term_lang.specs.declared.terms.Term.{Term}
use Rattle.term_lang.specs.SpaceOf.{space_of}
use Rattle.values.specs.Asks.{Cell as GradedCell}
use Rattle.oracle_iface.specs.Keys.{quote_chain, formal}
use Rattle.script_lang.specs.declared.exprs.Expr.{Expr}
use Rattle.script_lang.specs.declared.simplices.ChainText.{ChainText}
use Rattle.script_lang.specs.declared.commands.Command.TheVariants as commands
use Rattle.space_faces.specs.Boundaries.{IsLowCell, graded_chain, boundary_of as d_of}
use Rattle.normal_forms.proofs.BuiltForms.{built_cells}
use Rattle.space_faces.proofs.ShownChains.{chain_low, chain_back}
use Rattle.reply_text.specs.declared.replies.Reply.TheVariants as replies
use Rattle.session_core.specs.declared.stops.Stop.{Stop}
use Rattle.session_core.specs.Answer.{State, told, told_space, told_degree, told_chain, boundary_of, told_printed, told_reply}
use Rattle.session_core.specs.Settings.{answered}
use Rattle.session_core.specs.Telling.{Stops, StandsFor, IsToldChain, within_limits}
use Rattle.session_core.specs.Whole.{IsReady}
use Rattle.session_core.proofs.Told.{stops_on, stops_later, is_told}

-- ---- chains that stand for chains of the space

module _ (p : Prime) (X : Space) (ready : IsReady X) (c : Formal Cell) (z : Terms (GradedCell X)) (stands : StandsFor p X c z) where
  pub cells_low : EachKey (IsLowCell X) c.terms
  cells_low = subst (λ (d : Formal Cell). EachKey (IsLowCell X) d.terms) (sym stands.is) (chain_low X (built_cells X ready.0 ready.1) ready.0.0 z stands.shown stands.bounded)

  -- the cells of the code are those of the chain
  pub graded_back : graded_chain X c.terms ≡ z
  graded_back = ap (λ (x : Formal Cell). graded_chain X x.terms) stands.is ∙ chain_back X (built_cells X ready.0 ready.1) z stands.shown

  -- the code's boundary stands for that of the chain
  pub boundary_stands : (d : Formal Cell) → d.prime ≡ c.prime → d.terms ≡ quote_chain X (d_of (number c.prime) X (graded_chain X c.terms))
      → d ≡ formal p (quote_chain X (d_of (number p) X z))
  boundary_stands d e f =
      let g = ap (λ (x : Formal Cell). quote_chain X (d_of (number x.prime) X (graded_chain X x.terms))) stands.is in
      let h = ap (λ y. quote_chain X (d_of (number p) X y)) (chain_back X (built_cells X ready.0 ready.1) z stands.shown) in
      let i : d.terms ≡ quote_chain X (d_of (number p) X z) = f ∙ g ∙ h in
      let j : d.prime ≡ p = e ∙ ap (λ (x : Formal Cell). x.prime) stands.is in
      λ k. record { prime = j k; terms = i k }

module _ (s : State) (e : Expr) (n : ℕ) (text : ChainText) (t : Term) (m : ℕ) (space : told_space s.names e ≡ told t) (degree : told_degree n ≡ told m) where
  pub chain_stops : (stop : Stop) → Stops stop (told_chain s.prime t m text) → Stops stop (told_reply s (commands.Boundary e n text))
  chain_stops stop h = stops_later stop (told_space s.names e) _ t space (stops_later stop (told_degree n) _ m degree (stops_on stop (told_chain s.prime t m text) _ h))

  module _ (c d : Formal Cell) (chain : IsToldChain s.prime (space_of t) (told_chain s.prime t m text) c)
      (is : d ≡ formal s.prime (quote_chain (space_of t) (d_of (number s.prime) (space_of t) chain.0))) where
    printed_is : within_limits d ≡ told_printed s.prime t m (boundary_of s.prime t m chain.0)
    printed_is = ap within_limits is

    pub printed_stops : (stop : Stop) → Stops stop (within_limits d) → Stops stop (told_reply s (commands.Boundary e n text))
    printed_stops stop h =
        stops_later stop (told_space s.names e) _ t space
        (stops_later stop (told_degree n) _ m degree
        (stops_later stop (told_chain s.prime t m text) _ chain.0 chain.1
        (stops_on stop (told_printed s.prime t m (boundary_of s.prime t m chain.0)) _ (subst (Stops stop) printed_is h))))

    pub boundary_told : (r : Formal Cell) → within_limits d ≡ told r → told_reply s (commands.Boundary e n text) ≡ answered (replies.Boundary t r) s
    boundary_told r h =
        is_told (told_space s.names e) _ t (replies.Boundary t r, s) space
        (is_told (told_degree n) _ m (replies.Boundary t r, s) degree
        (is_told (told_chain s.prime t m text) _ chain.0 (replies.Boundary t r, s) chain.1
        (is_told (told_printed s.prime t m (boundary_of s.prime t m chain.0)) _ r (replies.Boundary t r, s) (sym printed_is ∙ h) refl)))
