-- The cells of a chain that is told have its degree.
use Rattle.std.proofs.Common.{◌≡◌, ℕ, suc, Bool, true, false, cond, List, [], ◌∷◌, Option, Some, None, ℤ, refl, subst}
use Rattle.fp_field.specs.declared.prime.Prime.{Prime}
use Rattle.fp_field.specs.Field.{number}
use Rattle.fp_field.specs.Chains.{Terms, Each}
use Rattle.fp_field.proofs.Weights.{Each-append}
use Rattle.fp_field.proofs.FlowLaws.{Each-normal}
use Rattle.spaces.specs.Simplicial.{is_degenerate}
use Rattle.spaces.specs.Spaces.{Plain, set_of}
use Rattle.spaces.specs.Orders.{ordered, by_degree}
use Rattle.term_lang.specs.declared.terms.Term.{Term}
use Rattle.term_lang.specs.SpaceOf.{space_of}
use Rattle.values.specs.Asks.{Cell as GradedCell}
use Rattle.script_lang.specs.declared.simplices.TermText.{TermText}
use Rattle.script_lang.specs.declared.simplices.ChainText.{ChainText}
use Rattle.script_lang.specs.declared.simplices.ChainText.TheVariants as chains
use Rattle.script_lang.specs.Meaning.{meaning}
use Rattle.reply_text.specs.declared.refusals.Refusal.TheVariants as refusals
use Rattle.session_core.specs.Answer.{Told, told, refused, ◌>>◌, told_simplex, simplex_past, term_at, told_term, told_terms, told_chain}

-- a fact of what is told
abbrev pub Only : {A : Type 0} → (A → Type 0) → Told A → Type 0
Only P (told a) = P a
Only P (refused r) = Unit {0}

only-then : {A B : Type 0} (Q : A → Type 0) (P : B → Type 0) (m : Told A) (next : A → Told B) → Only Q m → ((a : A) → Q a → Only P (next a)) → Only P (m >> next)
only-then Q P (told a) next q f = f a q
only-then Q P (refused r) next q f = tt

only-any : {A : Type 0} (m : Told A) → Only (λ _. Unit {0}) m
only-any (told a) = tt
only-any (refused r) = tt

module _ (p : Prime) (t : Term) (n : ℕ) where
  abbrev pub InDegree : GradedCell (space_of t) → Type 0
  InDegree x = x.0 ≡ n

  at-term : (y : Plain (space_of t)) (c : ℤ) → Each InDegree (term_at p t n y c)
  at-term y c = by (is_degenerate (set_of (space_of t)) n y)
    where
      by : (b : Bool) → Each InDegree (cond b [] (((n, y), Rattle.fp_field.specs.Field.residue (number p) c) ∷ []))
      by true = tt
      by false = (refl, tt)

  one-term : (k : ℕ) (text : TermText) → Only (Each InDegree) (told_term p t n k text)
  one-term k text = by (meaning text.simplex (space_of t) n)
    where
      by : (o : Option (Plain (space_of t))) → Only (Each InDegree) (elim o as (λ _. Told (Terms (GradedCell (space_of t)))) [
        | Some x ↦ told_simplex p t n (simplex_past p t n x) x >> λ y. told (term_at p t n y text.coeff)
        | None ↦ refused (refusals.Simplex k)
      ])
      by (Some x) =
          only-then (λ _. Unit {0}) (Each InDegree) (told_simplex p t n (simplex_past p t n x) x) (λ y. told (term_at p t n y text.coeff))
          (only-any (told_simplex p t n (simplex_past p t n x) x)) (λ y u. at-term y text.coeff)
      by None = tt

  all-terms : (k : ℕ) (texts : List TermText) → Only (Each InDegree) (told_terms p t n k texts)
  all-terms k [] = tt
  all-terms k (text ∷ texts) =
      only-then (Each InDegree) (Each InDegree) (told_term p t n k text) _ (one-term k text)
      (λ c d. only-then (Each InDegree) (Each InDegree) (told_terms p t n (suc k) texts) _ (all-terms (suc k) texts) (λ rest e. Each-append InDegree c rest d e))

  in-chain : (text : ChainText) → Only (Each InDegree) (told_chain p t n text)
  in-chain chains.Zero = tt
  in-chain (chains.Terms texts) =
      only-then (Each InDegree) (Each InDegree) (told_terms p t n 1 texts) _ (all-terms 1 texts)
      (λ c d. Each-normal InDegree (by_degree (ordered (space_of t)).cmp) (number p) c d)

  pub chain_degrees : (text : ChainText) (z : Terms (GradedCell (space_of t))) → told_chain p t n text ≡ told z → Each InDegree z
  chain_degrees text z e = subst (Only (Each InDegree)) e (in-chain text)
