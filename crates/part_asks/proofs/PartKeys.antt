-- The keys of the questions about a part at cells and small cells of the code, and what one of them comes to.
use Rattle.std.proofs.Common.{◌≡◌, ℕ, [], ◌∷◌, Option, Some, None, Ok, Err, sym, ◌∙◌, ap, subst}
use Rattle.std.specs.Prelude.{Result, IfOk}
use Rattle.std.specs.declared.alloc.AllocError.{AllocError}
use Rattle.fp_field.specs.declared.prime.Prime.{Prime}
use Rattle.fp_field.specs.Field.{number}
use Rattle.chain_core.specs.Formal.{Formal}
use Rattle.cells.specs.declared.cells.Cell.{Cell}
use Rattle.cells.specs.declared.cells.SmallCell.{SmallCell}
use Rattle.cells.specs.Dim.{dim_of}
use Rattle.spaces.specs.Spaces.{Space, Plain}
use Rattle.spaces.specs.SmallCells.{Small}
use Rattle.values.specs.Asks.{Ask, ask, small_d, f, g, h}
use Rattle.values.specs.Values.{value}
use Rattle.term_lang.specs.declared.terms.Term.{Term}
use Rattle.term_lang.specs.Forms.{cell_form}
use Rattle.term_lang.specs.SpaceOf.{space_of}
use Rattle.oracle_iface.specs.declared.keys.Op.{Op}
use Rattle.oracle_iface.specs.declared.keys.Op.TheVariants.{SmallD, F, G, H}
use Rattle.oracle_iface.specs.declared.keys.Place.TheVariants.{Small as SmallPlace, Big as BigPlace}
use Rattle.oracle_iface.specs.declared.keys.Key.{Key}
use Rattle.oracle_iface.specs.declared.bodies.Over.{Over}
use Rattle.oracle_iface.specs.declared.bodies.Outcome.TheVariants.{Value}
use Rattle.oracle_iface.specs.Forcing.{Calls}
use Rattle.oracle_iface.specs.Keys.{key_of, question_of, quote_body, quote_chain, quote_small_chain, formal}
use Rattle.oracle_iface.specs.KeyLaws.{IsReadBack}
use Rattle.oracle_iface.specs.SmallForms.{small_form}
use Rattle.oracle_iface.proofs.Named.{term-back}
use Rattle.homology_rules.specs.Asking.{outcome_of, refusal_in, first_refusal, up_to_refusal, MayForceEach, AskedFirst, EachAnswered}
use Rattle.homology_rules.specs.Held.{HasSmall, HasBig, small_in, big_in}
use Rattle.homology_rules.proofs.Answered.{refusal-one}
use Rattle.homology_rules.proofs.Through.{up-one}
use Rattle.homology_rules.proofs.TypedKeys.{value-told}
use Rattle.part_asks.specs.declared.found.Found.{Found}
use Rattle.part_asks.specs.declared.found.Found.TheVariants.{Value as IsValue, Over as Refused}
use Rattle.part_asks.specs.OneKey.{IsOwnCell, IsOwnSmall, IsSmallAnswer, IsBigAnswer}
use Rattle.part_asks.specs.Reading.{IsFound}

-- ---- the keys

module _ (p : Prime) (term : Term) where
  abbrev a : Space
  a = space_of term

  abbrev cell_key : Op → Cell → Key
  cell_key o x = record { op = o; prime = p; place = BigPlace x; term = term }

  abbrev small_key : Op → SmallCell → Key
  small_key o y = record { op = o; prime = p; place = SmallPlace y; term = term }

  module _ (x : Cell) (own : IsOwnCell a x) where
    abbrev pub f_ask : Ask
    f_ask = f a (dim_of x) (cell_form x a)

    abbrev pub h_ask : Ask
    h_ask = h a (dim_of x) (cell_form x a)

    f-own : cell_key F x ≡ key_of p f_ask
    f-own = λ i. record { op = F; prime = p; place = BigPlace (sym own i); term = sym (term-back term) i }

    h-own : cell_key H x ≡ key_of p h_ask
    h-own = λ i. record { op = H; prime = p; place = BigPlace (sym own i); term = sym (term-back term) i }

    pub f-read : IsReadBack p f_ask
    f-read = ap question_of (sym f-own)

    pub h-read : IsReadBack p h_ask
    h-read = ap question_of (sym h-own)

    -- the key that is made of copies
    pub f-key : (k : Key) (y : Cell) (t : Term) → y ≡ x → t ≡ term → k ≡ record { op = F; prime = p; place = BigPlace y; term = t } → k ≡ key_of p f_ask
    f-key k y t e u m = m ∙ (λ i. record { op = F; prime = p; place = BigPlace (e i); term = u i }) ∙ f-own

    pub h-key : (k : Key) (y : Cell) (t : Term) → y ≡ x → t ≡ term → k ≡ record { op = H; prime = p; place = BigPlace y; term = t } → k ≡ key_of p h_ask
    h-key k y t e u m = m ∙ (λ i. record { op = H; prime = p; place = BigPlace (e i); term = u i }) ∙ h-own

  module _ (y : SmallCell) (own : IsOwnSmall a y) where
    abbrev pub g_ask : Ask
    g_ask = g a (small_form y a)

    abbrev pub d_ask : Ask
    d_ask = small_d a (small_form y a)

    g-own : small_key G y ≡ key_of p g_ask
    g-own = λ i. record { op = G; prime = p; place = SmallPlace (sym own i); term = sym (term-back term) i }

    d-own : small_key SmallD y ≡ key_of p d_ask
    d-own = λ i. record { op = SmallD; prime = p; place = SmallPlace (sym own i); term = sym (term-back term) i }

    pub g-read : IsReadBack p g_ask
    g-read = ap question_of (sym g-own)

    pub d-read : IsReadBack p d_ask
    d-read = ap question_of (sym d-own)

    pub g-key : (k : Key) (z : SmallCell) (t : Term) → z ≡ y → t ≡ term → k ≡ record { op = G; prime = p; place = SmallPlace z; term = t } → k ≡ key_of p g_ask
    g-key k z t e u m = m ∙ (λ i. record { op = G; prime = p; place = SmallPlace (e i); term = u i }) ∙ g-own

    pub d-key : (k : Key) (z : SmallCell) (t : Term) → z ≡ y → t ≡ term → k ≡ record { op = SmallD; prime = p; place = SmallPlace z; term = t } → k ≡ key_of p d_ask
    d-key k z t e u m = m ∙ (λ i. record { op = SmallD; prime = p; place = SmallPlace (e i); term = u i }) ∙ d-own

-- ---- one question

module _ (p : Prime) (q : Ask) (k : Key) (same : k ≡ key_of p q) where
  refused-so : (o : Option Over) → refusal_in (outcome_of k) ≡ o → first_refusal (key_of p q ∷ []) ≡ o
  refused-so o e = refusal-one (key_of p q) o (ap (λ j. refusal_in (outcome_of j)) (sym same) ∙ e)

  module _ {S : Type 0} (may : S → Key → Type 0) (calls : Calls S) (s t : S) where
    pub may-one : MayForceEach may calls s (key_of p q ∷ []) → may s k
    may-one m = subst (may s) (sym same) m.0

    pub asked-one : AskedFirst calls (k ∷ []) s t → AskedFirst calls (key_of p q ∷ []) s t
    asked-one e = subst (λ j. AskedFirst calls (j ∷ []) s t) same e

    pub through-one : {T : Type 0} (r : Result T AllocError) → IfOk r (λ o. EachAnswered calls s (k ∷ []) t)
        → IfOk r (λ o. EachAnswered calls s (up_to_refusal (key_of p q ∷ [])) t)
    through-one (Ok v) e = subst (λ ks. EachAnswered calls s ks t) (ap (λ j. j ∷ []) same ∙ sym (up-one (key_of p q))) e
    through-one (Err u) e = tt

  told : IsReadBack p q → refusal_in (outcome_of k) ≡ None → outcome_of k ≡ Value (quote_body p q (value (number p) q))
  told back none = ap outcome_of same ∙ value-told p q back (ap (λ j. refusal_in (outcome_of j)) (sym same) ∙ none)

module _ (p : Prime) (a : Space) where
  module _ (n : ℕ) (x : Plain a) (back_f : IsReadBack p (f a n x)) (k : Key) (same : k ≡ key_of p (f a n x)) where
    pub f-kind : refusal_in (outcome_of k) ≡ None → HasSmall (outcome_of k)
    f-kind none = subst HasSmall (sym (told p (f a n x) k same back_f none)) tt

    f-found : (o : Found (Formal SmallCell)) → IsSmallAnswer k o → IsFound (λ c. formal p (quote_small_chain a c)) p (ask (f a n x)) o
    f-found (IsValue c) e = (refused-so p (f a n x) k same None e.0, e.1 ∙ ap small_in (told p (f a n x) k same back_f e.0))
    f-found (Refused w) e = refused-so p (f a n x) k same (Some w) e

    pub f-result : (r : Result (Found (Formal SmallCell)) AllocError) → IfOk r (λ o. IsSmallAnswer k o) → IfOk r (λ o. IsFound (λ c. formal p (quote_small_chain a c)) p (ask (f a n x)) o)
    f-result (Ok o) e = f-found o e
    f-result (Err u) e = tt

  module _ (n : ℕ) (x : Plain a) (back_h : IsReadBack p (h a n x)) (k : Key) (same : k ≡ key_of p (h a n x)) where
    pub h-kind : refusal_in (outcome_of k) ≡ None → HasBig (outcome_of k)
    h-kind none = subst HasBig (sym (told p (h a n x) k same back_h none)) tt

    h-found : (o : Found (Formal Cell)) → IsBigAnswer k o → IsFound (λ c. formal p (quote_chain a c)) p (ask (h a n x)) o
    h-found (IsValue c) e = (refused-so p (h a n x) k same None e.0, e.1 ∙ ap big_in (told p (h a n x) k same back_h e.0))
    h-found (Refused w) e = refused-so p (h a n x) k same (Some w) e

    pub h-result : (r : Result (Found (Formal Cell)) AllocError) → IfOk r (λ o. IsBigAnswer k o) → IfOk r (λ o. IsFound (λ c. formal p (quote_chain a c)) p (ask (h a n x)) o)
    h-result (Ok o) e = h-found o e
    h-result (Err u) e = tt

  module _ (y : Small a) (back_g : IsReadBack p (g a y)) (k : Key) (same : k ≡ key_of p (g a y)) where
    pub g-kind : refusal_in (outcome_of k) ≡ None → HasBig (outcome_of k)
    g-kind none = subst HasBig (sym (told p (g a y) k same back_g none)) tt

    g-found : (o : Found (Formal Cell)) → IsBigAnswer k o → IsFound (λ c. formal p (quote_chain a c)) p (ask (g a y)) o
    g-found (IsValue c) e = (refused-so p (g a y) k same None e.0, e.1 ∙ ap big_in (told p (g a y) k same back_g e.0))
    g-found (Refused w) e = refused-so p (g a y) k same (Some w) e

    pub g-result : (r : Result (Found (Formal Cell)) AllocError) → IfOk r (λ o. IsBigAnswer k o) → IfOk r (λ o. IsFound (λ c. formal p (quote_chain a c)) p (ask (g a y)) o)
    g-result (Ok o) e = g-found o e
    g-result (Err u) e = tt

  module _ (y : Small a) (back_d : IsReadBack p (small_d a y)) (k : Key) (same : k ≡ key_of p (small_d a y)) where
    pub d-kind : refusal_in (outcome_of k) ≡ None → HasSmall (outcome_of k)
    d-kind none = subst HasSmall (sym (told p (small_d a y) k same back_d none)) tt

    d-found : (o : Found (Formal SmallCell)) → IsSmallAnswer k o → IsFound (λ c. formal p (quote_small_chain a c)) p (ask (small_d a y)) o
    d-found (IsValue c) e = (refused-so p (small_d a y) k same None e.0, e.1 ∙ ap small_in (told p (small_d a y) k same back_d e.0))
    d-found (Refused w) e = refused-so p (small_d a y) k same (Some w) e

    pub d-result : (r : Result (Found (Formal SmallCell)) AllocError) → IfOk r (λ o. IsSmallAnswer k o)
        → IfOk r (λ o. IsFound (λ c. formal p (quote_small_chain a c)) p (ask (small_d a y)) o)
    d-result (Ok o) e = d-found o e
    d-result (Err u) e = tt
