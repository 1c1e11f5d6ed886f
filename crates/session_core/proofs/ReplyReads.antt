-- The chain that a line reads: it counts as the chain that its text means.
use Rattle.std.proofs.Common.{◌≡◌, ℕ, suc, ◌%◌, Bool, true, false, not, cond, List, [], ◌∷◌, ◌++◌, Option, Some, None, ℤ, refl, sym, ◌∙◌, ap, subst}
use Rattle.std.specs.declared.cmp.Ordering.{Ordering}
use Rattle.fp_field.specs.declared.prime.Prime.{Prime}
use Rattle.fp_field.specs.Field.{number, residue}
use Rattle.fp_field.specs.Chains.{Terms, keep, Each}
use Rattle.fp_field.specs.Normal.{normal}
use Rattle.fp_field.proofs.Primes.{number_pos}
use Rattle.fp_field.proofs.Normals.{weigh-normal}
use Rattle.fp_field.proofs.FlowLaws.{Each-normal}
use Rattle.spaces.specs.Simplicial.{IsSimplicial, is_degenerate}
use Rattle.spaces.specs.Spaces.{Space, Plain, set_of}
use Rattle.spaces.specs.Homology.{IsChain, Same}
use Rattle.spaces.specs.Allowed.{IsAllowed}
use Rattle.spaces.specs.Orders.{ordered, by_degree}
use Rattle.spaces.proofs.Orders.{ordered-apart}
use Rattle.spaces.proofs.SpaceLaws.{space_set_laws}
use Rattle.term_lang.specs.declared.terms.Term.{Term}
use Rattle.term_lang.specs.SpaceOf.{space_of}
use Rattle.values.specs.Asks.{Cell as GradedCell}
use Rattle.values.specs.Laws.{cells, plain_chain}
use Rattle.oracle_iface.specs.declared.bodies.Kind.{Kind}
use Rattle.normal_forms.specs.Built.{IsBuilt}
use Rattle.homology_laws.proofs.Kernel.{degree-apart}
use Rattle.homology_laws.proofs.CellChains.{weigh-plain, placed, up, keep-cells, plain-up}
use Rattle.script_lang.specs.declared.simplices.TermText.{TermText}
use Rattle.script_lang.specs.declared.simplices.ChainText.{ChainText}
use Rattle.script_lang.specs.declared.simplices.ChainText.TheVariants as chains
use Rattle.script_lang.specs.Meaning.{meaning, mapped, both_of}
use Rattle.reply_text.specs.declared.refusals.Refusal.TheVariants as refusals
use Rattle.session_core.specs.Answer.{Told, told, refused, ◌>>◌, simplex_past, term_at, told_simplex, told_term, told_terms, told_chain}
use Rattle.session_core.specs.Replies.{meant_terms, meant_chain}
use Rattle.session_core.proofs.TextSimplices.{meant as meant_in}
use Rattle.session_core.proofs.ReplyParts.{same-told, not-told, told-parts}

-- ---- chains

-- the normal form of a chain of cells counts as the chain
module _ (q : ℕ) (a : Space) where
  abbrev order : GradedCell a → GradedCell a → Ordering
  order = by_degree (ordered a).cmp

  pub normal-plain : (m : ℕ) (c : Terms (GradedCell a)) → Same (set_of a) q m (plain_chain q a (normal order q c)) (plain_chain q a c)
  normal-plain m c k g =
      let w : Plain a → ℕ = λ x. cond ((set_of a).same x k) 1 0 in
      ap (λ m. m % q) (weigh-plain w (normal order q c)) ∙ weigh-normal order q (degree-apart (ordered a).cmp (ordered-apart a)) (λ x. w x.1) c ∙ ap (λ m. m % q) (sym (weigh-plain w c))

module _ (p : Prime) (t : Term) (n : ℕ) where
  abbrev X : Space
  X = space_of t

  abbrev q : ℕ
  q = number p

  -- the k-th term means a simplex
  term-told : (k : ℕ) (text : TermText) (c : Terms (GradedCell X)) → told_term p t n k text ≡ told c
      → (x : Plain X) × (meaning text.simplex X n ≡ Some x) × (c ≡ term_at p t n x text.coeff)
  term-told k text c e = by (meaning text.simplex X n) refl
    where
      from : Option (Plain X) → Told (Terms (GradedCell X))
      from o = elim o [ Some x ↦ told_simplex p t n (simplex_past p t n x) x >> λ y. told (term_at p t n y text.coeff) | None ↦ refused (refusals.Simplex k) ]

      past : (x : Plain X) (o : Option (Kind × ℕ)) → (told_simplex p t n o x >> λ y. told (term_at p t n y text.coeff)) ≡ told c → c ≡ term_at p t n x text.coeff
      past x (Some o) h = absurd (not-told _ c h)
      past x None h = sym (same-told _ c h)

      by : (o : Option (Plain X)) → meaning text.simplex X n ≡ o → (x : Plain X) × (meaning text.simplex X n ≡ Some x) × (c ≡ term_at p t n x text.coeff)
      by None h = absurd (not-told _ c (sym (ap from h) ∙ e))
      by (Some x) h = (x, h, past x (simplex_past p t n x) (sym (ap from h) ∙ e))

  -- a chain that was read, before its normal form
  record Terms-read (texts : List TermText) (c : Terms (GradedCell X)) : Type 0 where
    pub chain : Terms (Plain X)
    pub meant : meant_terms p X n texts ≡ Some chain
    pub cells_are : c ≡ placed n (keep (λ y. not (is_degenerate (set_of X) n y)) chain)
    pub within : IsChain (set_of X) q n chain

  module _ (is : IsAllowed X) (built : IsBuilt X) where
    one-more : (x : Plain X) (r : ℤ) (c : Terms (Plain X)) (b : Bool) → is_degenerate (set_of X) n x ≡ b
        → term_at p t n x r ++ placed n (keep (λ y. not (is_degenerate (set_of X) n y)) c)
        ≡ placed n (keep (λ y. not (is_degenerate (set_of X) n y)) ((x, residue q r) ∷ c))
    one-more x r c true h = rw h refl
    one-more x r c false h = rw h refl

    terms-told : (k : ℕ) (texts : List TermText) (c : Terms (GradedCell X)) → told_terms p t n k texts ≡ told c → Terms-read texts c
    terms-told k [] c e = record { chain = []; meant = refl; cells_are = sym (same-told [] c e); within = tt }
    terms-told k (text ∷ texts) c e =
        let first = told-parts (told_term p t n k text) (λ c. told_terms p t n (suc k) texts >> λ rest. told (c ++ rest)) c e in
        let rest = told-parts (told_terms p t n (suc k) texts) (λ rest. told (first.0 ++ rest)) c first.2 in
        let x = term-told k text first.0 first.1 in
        let r = terms-told (suc k) texts rest.0 rest.1 in
        record {
          chain = (x.0, residue q text.coeff) ∷ r.chain;
          meant = joined (meaning text.simplex X n) (meant_terms p X n texts) x.0 r.chain text.coeff x.1 r.meant;
          cells_are = sym (same-told (first.0 ++ rest.0) c rest.2) ∙ (λ i. x.2 i ++ r.cells_are i) ∙ one-more x.0 text.coeff r.chain (is_degenerate (set_of X) n x.0) refl;
          within = (meant_in X (is, built) n text.simplex x.0 x.1, r.within);
        }
      where
        joined : (m : Option (Plain X)) (o : Option (Terms (Plain X))) (x : Plain X) (c : Terms (Plain X)) (r : ℤ) → m ≡ Some x → o ≡ Some c
            → mapped (λ (b : Plain X × Terms (Plain X)). (b.0, residue q r) ∷ b.1) (both_of m o) ≡ Some ((x, residue q r) ∷ c)
        joined m o x c r h g = λ i. mapped (λ (b : Plain X × Terms (Plain X)). (b.0, residue q r) ∷ b.1) (both_of (h i) (g i))

    -- the chain that a text means, and the cells that are read
    pub record Chain-read (text : ChainText) (z : Terms (GradedCell X)) : Type 0 where
      pub chain : Terms (Plain X)
      pub meant : meant_chain p X n text ≡ Some chain
      pub within : IsChain (set_of X) q n chain
      pub cells_in : Each ((cells q X).generator n) z
      pub same : Same (set_of X) q n (plain_chain q X z) chain

    abbrev set_laws : IsSimplicial (set_of X)
    set_laws = space_set_laws X is.0

    pub chain-told : (text : ChainText) (z : Terms (GradedCell X)) → told_chain p t n text ≡ told z → Chain-read text z
    chain-told chains.Zero z e = subst (Chain-read chains.Zero) (same-told [] z e) (record { chain = []; meant = refl; within = tt; cells_in = tt; same = λ k g. refl })
    chain-told (chains.Terms texts) z e =
        let parts = told-parts (told_terms p t n 1 texts) (λ c. told (normal (by_degree (ordered X).cmp) q c)) z e in
        let r = terms-told 1 texts parts.0 parts.1 in
        subst (Chain-read (chains.Terms texts)) (ap (normal (by_degree (ordered X).cmp) q) (sym r.cells_are) ∙ same-told _ z parts.2) (record {
          chain = r.chain;
          meant = r.meant;
          within = r.within;
          cells_in = Each-normal ((cells q X).generator n) (by_degree (ordered X).cmp) q (up (set_of X) set_laws q (number_pos p) n r.chain)
              (keep-cells (set_of X) set_laws q (number_pos p) n r.chain r.within);
          same = λ k g.
              normal-plain q X n (up (set_of X) set_laws q (number_pos p) n r.chain) k g ∙ plain-up (set_of X) set_laws q (number_pos p) n r.chain k g;
        })
