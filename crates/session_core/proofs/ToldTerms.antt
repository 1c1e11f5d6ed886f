-- The terms of a chain, one after the other.
use Rattle.std.proofs.Common.{◌≡◌, ℕ, suc, ◌+◌, ◌<◌, ◌≤◌, List, [], ◌∷◌, ◌++◌, length, get_or, drop, Option, Some, None, append_assoc, refl, sym, ◌∙◌, ap, subst, arith, ℤ}
use Rattle.std.proofs.Math.Seq.{drop-cons}
use Rattle.fp_field.specs.declared.prime.Prime.{Prime}
use Rattle.fp_field.specs.declared.element.Fp.{Fp}
use Rattle.fp_field.specs.Field.{number, residue}
use Rattle.fp_field.specs.Chains.{Terms, Each, EachKey}
use Rattle.fp_field.specs.Normal.{normal}
use Rattle.fp_field.proofs.Weights.{Each-append}
use Rattle.fp_field.proofs.FlowLaws.{Each-normal}
use Rattle.chain_core.specs.Formal.{Formal, numbers}
use Rattle.chain_core.proofs.SumLemmas.{numbers-append}
use Rattle.spaces.specs.Spaces.{Space, Plain}
use Rattle.spaces.specs.Orders.{ordered, by_degree}
use Rattle.cells.specs.declared.cells.Cell.{Cell}
use Rattle.cells.specs.Order.{cell_cmp}
use Rattle.term_lang.specs.declared.terms.Term.{Term}
use Rattle.term_lang.specs.SpaceOf.{space_of}
use Rattle.term_lang.specs.Quote.{quote_cell}
use Rattle.values.specs.Asks.{Cell as GradedCell}
use Rattle.oracle_iface.specs.Keys.{quote_chain}
use Rattle.oracle_iface.specs.KeyLaws.{IsShown}
use Rattle.oracle_iface.specs.declared.bodies.Kind.{Kind}
use Rattle.oracle_iface.proofs.CellOrders.{chain-cells}
use Rattle.script_lang.specs.declared.simplices.TermText.{TermText}
use Rattle.script_lang.specs.declared.simplices.ChainText.TheVariants as chains
use Rattle.script_lang.specs.Meaning.{meaning}
use Rattle.script_lang.specs.Resolved.{IsRead}
use Rattle.space_faces.specs.Boundaries.{IsBounded}
use Rattle.space_faces.specs.CodeBoundaries.{kept}
use Rattle.normal_forms.proofs.BuiltForms.{built_cells}
use Rattle.reply_text.specs.declared.refusals.Refusal.TheVariants as refusals
use Rattle.session_core.specs.declared.stops.Stop.{Stop}
use Rattle.session_core.specs.declared.stops.Stop.TheVariants as stops
use Rattle.session_core.specs.Answer.{Told, told, refused, ◌>>◌, told_simplex, simplex_past, told_term, told_terms, told_chain}
use Rattle.session_core.specs.Telling.{Stops, IsToldChain, ArePushed}
use Rattle.session_core.specs.Whole.{IsReady}
use Rattle.session_core.proofs.TextSimplices.{meant, kept-numbers, kept-shown, kept-bounded}

quote-append : (X : Space) (c d : Terms (GradedCell X)) → quote_chain X (c ++ d) ≡ quote_chain X c ++ quote_chain X d
quote-append X [] d = refl
quote-append X (t ∷ c) d = ap (λ e. (quote_cell X t.0.0 t.0.1, t.1) ∷ e) (quote-append X c d)

append-none : {A : Type 0} (xs : List A) → xs ++ [] ≡ xs
append-none [] = refl
append-none (x ∷ xs) = ap (λ l. x ∷ l) (append-none xs)

module _ (p : Prime) (t : Term) (n : ℕ) where
  abbrev X : Space
  X = space_of t

  -- ---- the terms so far

  -- behind these terms
  abbrev pub behind : Terms (GradedCell X) → Told (Terms (GradedCell X)) → Told (Terms (GradedCell X))
  behind c m = m >> λ rest. told (c ++ rest)

  pub record SoFar (texts : List TermText) (i : ℕ) (items : List (Cell × Fp)) : Type 0 where
    pub terms : Terms (GradedCell X)
    pub told_are : told_terms p t n 1 texts ≡ behind terms (told_terms p t n (suc i) (drop i texts))
    pub pushed : numbers items ≡ quote_chain X terms
    pub shown : EachKey (IsShown X) terms
    pub bounded : EachKey (IsBounded X) terms

  behind-none : (m : Told (Terms (GradedCell X))) → m ≡ behind [] m
  behind-none (told c) = refl
  behind-none (refused r) = refl

  pub none_so_far : (texts : List TermText) → SoFar texts 0 []
  none_so_far texts = record { terms = []; told_are = behind-none (told_terms p t n 1 texts); pushed = refl; shown = tt; bounded = tt }

  behind-two : (c d : Terms (GradedCell X)) (m : Told (Terms (GradedCell X))) → behind c (behind d m) ≡ behind (c ++ d) m
  behind-two c d (told rest) = ap told (sym (append_assoc c d rest))
  behind-two c d (refused r) = refl

  abbrev rest_of : ℕ → List TermText → Terms (GradedCell X) → Told (Terms (GradedCell X))
  rest_of k texts c = told_terms p t n k texts >> λ rest. told (c ++ rest)

  pub one_more : (texts : List TermText) (i : ℕ) (text : TermText) (old new : List (Cell × Fp)) → drop i texts ≡ text ∷ drop (suc i) texts
      → SoFar texts i old → ArePushed X (told_term p t n (suc i) text) old new → SoFar texts (suc i) new
  one_more texts i text old new d so here = record {
    terms = so.terms ++ here.terms;
    told_are =
        so.told_are ∙ ap (λ l. behind so.terms (told_terms p t n (suc i) l)) d
        ∙ ap (λ m. behind so.terms (m >> rest_of (suc (suc i)) (drop (suc i) texts))) here.told_are
        ∙ behind-two so.terms here.terms (told_terms p t n (suc (suc i)) (drop (suc i) texts));
    pushed =
        here.pushed ∙ ap (λ c. c ++ quote_chain X here.terms) so.pushed ∙ sym (quote-append X so.terms here.terms);
    shown = Each-append (IsShown X) so.terms here.terms so.shown here.shown;
    bounded = Each-append (IsBounded X) so.terms here.terms so.bounded here.bounded;
  }

  pub stops_at : (texts : List TermText) (i : ℕ) (text : TermText) (items : List (Cell × Fp)) (s : Stop) → drop i texts ≡ text ∷ drop (suc i) texts
      → SoFar texts i items → Stops s (told_term p t n (suc i) text) → Stops s (told_terms p t n 1 texts)
  stops_at texts i text items (stops.Refused r) d so e =
      so.told_are ∙ ap (λ l. behind so.terms (told_terms p t n (suc i) l)) d
      ∙ ap (λ m. behind so.terms (m >> rest_of (suc (suc i)) (drop (suc i) texts))) e
  stops_at texts i text items stops.Memory d so e = tt

  pub all_so_far : (texts : List TermText) (i : ℕ) (items : List (Cell × Fp)) → drop i texts ≡ [] → SoFar texts i items → ArePushed X (told_terms p t n 1 texts) [] items
  all_so_far texts i items d so = record {
    terms = so.terms;
    told_are = so.told_are ∙ ap (λ l. behind so.terms (told_terms p t n (suc i) l)) d ∙ ap told (append-none so.terms);
    pushed = so.pushed;
    shown = so.shown;
    bounded = so.bounded;
  }

  -- the next of the texts, at a place
  at_place : (texts : List TermText) (i : ℕ) (text : TermText) → i < length texts → text ≡ get_or texts i text → drop i texts ≡ text ∷ drop (suc i) texts
  at_place texts i text h e = drop-cons texts i text h ∙ ap (λ x. x ∷ drop (suc i) texts) (sym e)

  pub one_more_at : (texts : List TermText) (i : ℕ) (text : TermText) (old new : List (Cell × Fp)) → i < length texts → text ≡ get_or texts i text
      → SoFar texts i old → ArePushed X (told_term p t n (i + 1) text) old new → SoFar texts (i + 1) new
  one_more_at texts i text old new h e so here =
      let a : i + 1 ≡ suc i = omega arith in
      subst (λ k. SoFar texts k new) (sym a) (one_more texts i text old new (at_place texts i text h e) so (subst (λ k. ArePushed X (told_term p t n k text) old new) a here))

  pub stops_at_place : (texts : List TermText) (i : ℕ) (text : TermText) (items : List (Cell × Fp)) (s : Stop) → i < length texts → text ≡ get_or texts i text
      → SoFar texts i items → Stops s (told_term p t n (i + 1) text) → Stops s (told_terms p t n 1 texts)
  stops_at_place texts i text items s h e so stops =
      let a : i + 1 ≡ suc i = omega arith in
      stops_at texts i text items s (at_place texts i text h e) so (subst (λ k. Stops s (told_term p t n k text)) a stops)

module _ (p : Prime) (t : Term) (ready : IsReady (space_of t)) (n : ℕ) (most : n ≤ 16) where
  abbrev Y : Space
  Y = space_of t

  -- ---- one term

  abbrev with_meaning : ℕ → ℤ → Option (Plain Y) → Told (Terms (GradedCell Y))
  with_meaning k coeff o = elim o [
    | Some x ↦ told_simplex p t n (simplex_past p t n x) x >> λ y. told (Rattle.session_core.specs.Answer.term_at p t n y coeff)
    | None ↦ refused (refusals.Simplex k)
  ]

  pub term_pushed : (k : ℕ) (text : TermText) (x : Rattle.cells.specs.declared.cells.Simplex.Simplex) (s : Fp) (old new : List (Cell × Fp))
      → IsRead text.simplex Y n x → s.value ≡ residue (number p) text.coeff → new ≡ old ++ kept x s → ArePushed Y (told_term p t n k text) old new
  term_pushed k text x s old new read e f =
      let y = read.0 in
      let inside = meant Y ready n text.simplex y read.1 in
      record {
        terms = Rattle.session_core.specs.Answer.term_at p t n y text.coeff;
        told_are =
            ap (with_meaning k text.coeff) read.1
            ∙ ap (λ o. told_simplex p t n o y >> λ z. told (Rattle.session_core.specs.Answer.term_at p t n z text.coeff)) read.2;
        pushed =
            ap numbers f ∙ numbers-append old (kept x s) ∙ ap (λ z. numbers old ++ numbers (kept z s)) read.3
            ∙ ap (λ c. numbers old ++ c) (kept-numbers Y ready n most y inside s)
            ∙ ap (λ c. numbers old ++ quote_chain Y (Rattle.session_core.proofs.TextSimplices.terms_of Y ready n y c)) e;
        shown = kept-shown Y ready n most y inside (residue (number p) text.coeff);
        bounded = kept-bounded Y ready n most y inside read.2 (residue (number p) text.coeff);
      }

  pub term_refused : (k : ℕ) (text : TermText) → meaning text.simplex Y n ≡ None → told_term p t n k text ≡ refused (refusals.Simplex k)
  term_refused k text e = ap (with_meaning k text.coeff) e

  pub term_past : (k : ℕ) (text : TermText) (y : Plain Y) (kind : Kind) (size : ℕ) → meaning text.simplex Y n ≡ Some y
      → simplex_past p t n y ≡ Some (Rattle.script_lang.specs.Resolved.kind_and_size kind size)
      → told_term p t n k text ≡ refused (refusals.Over None kind size)
  term_past k text y kind size e f =
      ap (with_meaning k text.coeff) e
      ∙ ap (λ o. told_simplex p t n o y >> λ z. told (Rattle.session_core.specs.Answer.term_at p t n z text.coeff)) f

  -- ---- the chain

  pub chain_told : (texts : List TermText) (items : List (Cell × Fp)) (c : Formal Cell) → ArePushed Y (told_terms p t n 1 texts) [] items
      → c.prime ≡ p → c.terms ≡ normal cell_cmp (number p) (numbers items) → IsToldChain p Y (told_chain p t n (chains.Terms texts)) c
  chain_told texts items c are e f = (
    normal (by_degree (ordered Y).cmp) (number p) are.terms,
    ap (λ m. m >> λ d. told (normal (by_degree (ordered Y).cmp) (number p) d)) are.told_are,
    record {
      is =
          let g = f ∙ ap (normal cell_cmp (number p)) are.pushed ∙ chain-cells Y (built_cells Y ready.0 ready.1) (number p) are.terms are.shown in
          λ i. record { prime = e i; terms = g i };
      shown = normal-each (IsShown Y) are.terms are.shown;
      bounded = normal-each (IsBounded Y) are.terms are.bounded;
    },
  )
    where
      normal-each : (P : GradedCell Y → Type 0) (d : Terms (GradedCell Y)) → Each P d → Each P (normal (by_degree (ordered Y).cmp) (number p) d)
      normal-each P d h = Each-normal P (by_degree (ordered Y).cmp) (number p) d h
