-- The cycle of a question, part by part.
use Rattle.std.proofs.Common.{◌≡◌, ℕ, [], ◌∷◌, refl, sym, ◌∙◌, ap, subst}
use Rattle.fp_field.specs.declared.prime.Prime.{Prime}
use Rattle.fp_field.specs.Field.{number}
use Rattle.fp_field.specs.Chains.{Terms}
use Rattle.chain_core.specs.Formal.{Formal}
use Rattle.cells.specs.declared.cells.Cell.{Cell}
use Rattle.term_lang.specs.declared.terms.Term.{Term}
use Rattle.term_lang.specs.SpaceOf.{space_of}
use Rattle.term_lang.specs.Quote.{quote_cell}
use Rattle.values.specs.Asks.{Cell as GradedCell}
use Rattle.oracle_iface.specs.Keys.{quote_chain, formal}
use Rattle.script_lang.specs.declared.exprs.Expr.{Expr}
use Rattle.script_lang.specs.declared.simplices.ChainText.{ChainText}
use Rattle.space_faces.specs.Boundaries.{boundary_of as d_of}
use Rattle.reply_text.specs.declared.refusals.Refusal.TheVariants as refusals
use Rattle.session_core.specs.declared.stops.Stop.{Stop}
use Rattle.session_core.specs.declared.stops.Stop.TheVariants as stops
use Rattle.session_core.specs.Answer.{State, Told, told, refused, ◌>>◌, told_chain, boundary_of, told_cycle}
use Rattle.session_core.specs.Posed.{PosedCycle, told_posed, IsPosed}
use Rattle.session_core.specs.Spots.{told_spot}
use Rattle.session_core.specs.Telling.{Stops, IsToldChain, no_cycle}
use Rattle.session_core.proofs.Told.{stops_on, stops_later}
use Rattle.session_core.proofs.SpotsTold.{pair_of, at_spot}

module _ (p : Prime) (t : Term) (m : ℕ) (z : Terms (GradedCell (space_of t))) where
  abbrev with_boundary : Terms (GradedCell (space_of t)) → Told (Terms (GradedCell (space_of t)))
  with_boundary b = elim b [ [] ↦ told z | u ∷ c ↦ refused (refusals.NotCycle t (record { value = u.1 }) (quote_cell (space_of t) u.0.0 u.0.1)) ]

  cycle-stops : (b : Terms (GradedCell (space_of t))) (stop : Stop) → Stops stop (no_cycle t (quote_chain (space_of t) b)) → Stops stop (with_boundary b)
  cycle-stops b stops.Memory h = tt
  cycle-stops [] (stops.Refused r) h = absurd (cc h)
  cycle-stops (u ∷ c) (stops.Refused r) h =
      let e : refusals.NotCycle t (record { value = u.1 }) (quote_cell (space_of t) u.0.0 u.0.1) ≡ r = cc in ap (λ x. refused x) e

  cycle-told : (b : Terms (GradedCell (space_of t))) → quote_chain (space_of t) b ≡ [] → with_boundary b ≡ told z
  cycle-told [] h = refl
  cycle-told (u ∷ c) h = absurd (cc h)

module _ (s : State) (e : Expr) (n : ℕ) (text : ChainText) (t : Term) (m : ℕ) (spot : told_spot s.names e n ≡ told (pair_of t m)) where
  abbrev posed : Terms (GradedCell (space_of t)) → PosedCycle
  posed z = record { term = t; degree = m; cycle = z }

  here : told_posed s e n text ≡ (told_chain s.prime t m text >> λ y. told_cycle s.prime t m y >> λ z. told (posed z))
  here = at_spot s.names e n _ t m spot

  pub chain_stops : (stop : Stop) → Stops stop (told_chain s.prime t m text) → Stops stop (told_posed s e n text)
  chain_stops stop h = subst (Stops stop) (sym here) (stops_on stop (told_chain s.prime t m text) _ h)

  module _ (c d : Formal Cell) (chain : IsToldChain s.prime (space_of t) (told_chain s.prime t m text) c)
      (is : d ≡ formal s.prime (quote_chain (space_of t) (d_of (number s.prime) (space_of t) chain.0))) where
    pub boundary_stops : (stop : Stop) → Stops stop (no_cycle t d.terms) → Stops stop (told_posed s e n text)
    boundary_stops stop h =
        subst (Stops stop) (sym here)
        (stops_later stop (told_chain s.prime t m text) _ chain.0 chain.1
        (stops_on stop (told_cycle s.prime t m chain.0) _
        (cycle-stops s.prime t m chain.0 (boundary_of s.prime t m chain.0) stop (subst (λ (x : Formal Cell). Stops stop (no_cycle t x.terms)) is h))))

    pub is_posed : d.terms ≡ [] → IsPosed s e n text t m c
    is_posed none =
        let f : told_cycle s.prime t m chain.0 ≡ told chain.0 = cycle-told s.prime t m chain.0 (boundary_of s.prime t m chain.0) (sym (ap (λ (x : Formal Cell). x.terms) is) ∙ none) in
        record {
          cycle = chain.0;
          told_is =
              here ∙ ap (λ x. x >> λ y. told_cycle s.prime t m y >> λ z. told (posed z)) chain.1
              ∙ ap (λ x. x >> λ z. told (posed z)) f;
          chain_is = chain.1;
          stands = chain.2;
        }
