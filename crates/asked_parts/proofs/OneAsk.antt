-- One key that is asked for by a source that lends a forcer.
use Rattle.std.proofs.Common.{◌≡◌, List, [], ◌∷◌, Option, Some, None, Ok, Err, refl, sym, ◌∙◌, ap, subst}
use Rattle.std.specs.Prelude.{Result, IsErrAnd, IfOk}
use Rattle.fp_field.specs.declared.prime.Prime.{Prime}
use Rattle.fp_field.specs.Field.{number}
use Rattle.values.specs.Asks.{Ask}
use Rattle.values.specs.Values.{value}
use Rattle.values.specs.Outcomes.{usual_limits, outcome, Outcome as OutcomeOf, is_value, is_over}
use Rattle.chain_core.specs.Asks.{MayAsk, AskedAll, AskedPart, AskedToRefusal, AskedUntil, Asked as AskedBy}
use Rattle.oracle_iface.specs.declared.keys.Key.{Key}
use Rattle.oracle_iface.specs.declared.bodies.Over.{Over}
use Rattle.oracle_iface.specs.declared.bodies.Outcome.{Outcome}
use Rattle.oracle_iface.specs.declared.cell_values.CellValue.{CellValue}
use Rattle.oracle_iface.specs.Keys.{question_of, key_of, quote_body}
use Rattle.oracle_iface.specs.declared.bodies.Body.{Body}
use Rattle.oracle_iface.specs.declared.bodies.Outcome.TheVariants.{Value, Over as IsOver}
use Rattle.oracle_iface.specs.declared.keys.Op.TheVariants.{SmallD, F, G, H}
use Rattle.oracle_iface.specs.declared.keys.Place.TheVariants.{Small as SmallPlace, Big as BigPlace}
use Rattle.oracle_iface.proofs.Named.{term-back}
use Rattle.homology_rules.proofs.Answered.{outcome-of_cell}
use Rattle.homology_rules.proofs.TypedKeys.{value-told}
use Rattle.cells.specs.declared.cells.Cell.{Cell}
use Rattle.term_lang.specs.declared.terms.Term.{Term}
use Rattle.asked_parts.specs.PartMaps.{IsOwnBig, IsOwn, f_ask, h_ask, g_ask, d_ask}
use Rattle.cells.specs.declared.cells.SmallCell.{SmallCell}
use Rattle.chain_core.specs.Formal.{Formal}
use Rattle.fp_field.specs.Chains.{Terms}
use Rattle.fp_field.specs.Normal.{normal, IsNormal}
use Rattle.std.specs.declared.cmp.Ordering.{Ordering}
use Rattle.oracle_iface.specs.Stands.{refusal_of, quote_outcome, refusal_in as refused_by}
use Rattle.homology_rules.specs.Asking.{outcome_of, refusal_in}

-- the refusal that a key meets, in both words
pub same-refusal : (k : Key) → refusal_of k ≡ refusal_in (outcome_of k)
unfolding outcome_of
same-refusal k = by (outcome usual_limits (number k.prime) (question_of k))
  where
    by : (o : OutcomeOf _) → refused_by k.prime o ≡ refusal_in (quote_outcome k.prime (question_of k) o)
    by (is_value v) = refl
    by (is_over e) = refl

module _ {S : Type 0} (runs : S → List Key → S → Type 0) (k : Key) (s t : S) (ran : runs s (k ∷ []) t) where
  pub all-one : refusal_in (outcome_of k) ≡ None → AskedAll runs refusal_of s (k ∷ []) t
  all-one e = record { ran = ran; granted = (same-refusal k ∙ e, tt) }

  pub over-one : (w : Over) → refusal_in (outcome_of k) ≡ Some w → AskedToRefusal runs refusal_of s (k ∷ []) t w
  over-one w e = record { before = []; ask = k; after = []; order = refl; granted = tt; refused = same-refusal k ∙ e; ran = ran }

  pub exit-one : {V E : Type 0} {Q : E → Type 0} (stop : E → Option Over) (r : Result V E) → IsErrAnd r Q → ((e : E) → Q e → stop e ≡ None)
      → AskedBy runs refusal_of stop s (k ∷ []) t r
  exit-one stop (Ok v) h m = absurd h
  exit-one stop (Err e) h m =
      let part : AskedPart runs refusal_of s (k ∷ []) t = record { before = k ∷ []; after = []; order = refl; ran = ran; granted = tt } in
      subst (AskedUntil runs refusal_of s (k ∷ []) t) (sym (m e h)) part

-- the outcome of the key, from its cell
module _ (k : Key) (v x : CellValue) (key : v.key ≡ k) (is : x ≡ v) where
  outcome-is : (o : Outcome) → x.outcome ≡ o → outcome_of k ≡ o
  outcome-is o e = ap outcome_of (sym key) ∙ sym (outcome-of_cell v) ∙ ap (λ y. y.outcome) (sym is) ∙ e

  pub not-refused : (b : Body) → x.outcome ≡ Value b → refusal_in (outcome_of k) ≡ None
  not-refused b e = ap refusal_in (outcome-is (Value b) e)

  pub over-found : (w u : Over) → x.outcome ≡ IsOver w → u ≡ w → refusal_in (outcome_of k) ≡ Some u
  over-found w u e same = ap refusal_in (outcome-is (IsOver w) e) ∙ ap (λ y. Some y) (sym same)

  pub holds : (P : Outcome → Type 0) → P (outcome_of k) → P x.outcome
  holds P h = subst P (outcome-is x.outcome refl) h

  pub part-is : {A : Type 0} (part : Outcome → A) (a b : A) → a ≡ b → b ≡ part x.outcome → a ≡ part (outcome_of k)
  part-is part a b e h = e ∙ h ∙ sym (ap part (outcome-is x.outcome refl))

-- ---- the key of a question

module _ (p : Prime) (t : Term) where
  module _ (x : Cell) (own : IsOwnBig p t x) where
    pub f-is : (k : Key) (y : Cell) (u : Term) → y ≡ x → u ≡ t → k ≡ record { op = F; prime = p; place = BigPlace y; term = u } → k ≡ key_of p (f_ask p t x)
    f-is k y u e h m = m ∙ (λ i. record { op = F; prime = p; place = BigPlace (e i); term = h i }) ∙ (λ i. record { op = F; prime = p; place = BigPlace (sym own i); term = sym (term-back t) i })

    pub h-is : (k : Key) (y : Cell) (u : Term) → y ≡ x → u ≡ t → k ≡ record { op = H; prime = p; place = BigPlace y; term = u } → k ≡ key_of p (h_ask p t x)
    h-is k y u e h m = m ∙ (λ i. record { op = H; prime = p; place = BigPlace (e i); term = h i }) ∙ (λ i. record { op = H; prime = p; place = BigPlace (sym own i); term = sym (term-back t) i })

    pub f-back : question_of (key_of p (f_ask p t x)) ≡ f_ask p t x
    f-back = ap question_of (λ i. record { op = F; prime = p; place = BigPlace (own i); term = term-back t i })

    pub h-back : question_of (key_of p (h_ask p t x)) ≡ h_ask p t x
    h-back = ap question_of (λ i. record { op = H; prime = p; place = BigPlace (own i); term = term-back t i })

  module _ (y : SmallCell) (own : IsOwn p t y) where
    pub g-is : (k : Key) (z : SmallCell) (u : Term) → z ≡ y → u ≡ t → k ≡ record { op = G; prime = p; place = SmallPlace z; term = u } → k ≡ key_of p (g_ask p t y)
    g-is k z u e h m = m ∙ (λ i. record { op = G; prime = p; place = SmallPlace (e i); term = h i }) ∙ (λ i. record { op = G; prime = p; place = SmallPlace (sym own i); term = sym (term-back t) i })

    pub d-is : (k : Key) (z : SmallCell) (u : Term) → z ≡ y → u ≡ t → k ≡ record { op = SmallD; prime = p; place = SmallPlace z; term = u } → k ≡ key_of p (d_ask p t y)
    d-is k z u e h m = m ∙ (λ i. record { op = SmallD; prime = p; place = SmallPlace (e i); term = h i }) ∙ (λ i. record { op = SmallD; prime = p; place = SmallPlace (sym own i); term = sym (term-back t) i })

    pub g-back : question_of (key_of p (g_ask p t y)) ≡ g_ask p t y
    g-back = ap question_of (λ i. record { op = G; prime = p; place = SmallPlace (own i); term = term-back t i })

    pub d-back : question_of (key_of p (d_ask p t y)) ≡ d_ask p t y
    d-back = ap question_of (λ i. record { op = SmallD; prime = p; place = SmallPlace (own i); term = term-back t i })

module _ (p : Prime) (q : Ask) (k : Key) (same : k ≡ key_of p q) (back : question_of (key_of p q) ≡ q) where
  pub told : refusal_in (outcome_of k) ≡ None → outcome_of k ≡ Value (quote_body p q (value (number p) q))
  told none = ap outcome_of same ∙ value-told p q back (ap (λ j. refusal_in (outcome_of j)) (sym same) ∙ none)

  pub kind-so : (P : Outcome → Type 0) → P (Value (quote_body p q (value (number p) q))) → refusal_in (outcome_of k) ≡ None → P (outcome_of k)
  kind-so P h none = subst P (sym (told none)) h

  pub may-so : {S : Type 0} (s : S) (can : S → Key → Type 0) (runs : S → List Key → S → Type 0) → MayAsk can runs s (key_of p q ∷ []) → MayAsk can runs s (k ∷ [])
  may-so s can runs h = subst (λ j. MayAsk can runs s (j ∷ [])) (sym same) h

  pub asked-so : {S V E : Type 0} (s t : S) (runs : S → List Key → S → Type 0) (stop : E → Option Over) (r : Result V E) → AskedBy runs refusal_of stop s (k ∷ []) t r
      → AskedBy runs refusal_of stop s (key_of p q ∷ []) t r
  asked-so s t runs stop r h = subst (λ j. AskedBy runs refusal_of stop s (j ∷ []) t r) same h

  module _ {K : Type 0} (cmp : K → K → Ordering) (part : Outcome → Formal K) (c : Terms K) (is : part (Value (quote_body p q (value (number p) q))) ≡ record { prime = p; terms = c }) where
    pub prime-so : {E : Type 0} (r : Result (Formal K) E) → IfOk r (λ x. (refusal_in (outcome_of k) ≡ None) × (x ≡ part (outcome_of k))) → IfOk r (λ x. x.prime ≡ p)
    prime-so (Ok x) h = ap (λ z. z.prime) (h.1 ∙ ap part (told h.0) ∙ is)
    prime-so (Err e) h = tt

    pub value-so : {E : Type 0} (r : Result (Formal K) E) → IfOk r (λ x. (refusal_in (outcome_of k) ≡ None) × (x ≡ part (outcome_of k)))
        → IfOk r (λ x. IsNormal cmp (number x.prime) x.terms) → IfOk r (λ x. x.terms ≡ normal cmp (number p) c)
    value-so (Ok x) h n =
        let e : x ≡ record { prime = p; terms = c } = h.1 ∙ ap part (told h.0) ∙ is in
        ap (λ z. z.terms) e ∙ sym (subst (λ z. normal cmp (number z.prime) z.terms ≡ z.terms) e n)
    value-so (Err e) h n = tt
