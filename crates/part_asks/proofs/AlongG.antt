-- G along a chain of the small complex: the keys of its terms, and the sum of what they come to.
use Rattle.std.proofs.Common.{◌≡◌, ℕ, List, [], ◌∷◌, map, None, refl, sym, ◌∙◌, ap, subst}
use Rattle.fp_field.specs.declared.element.Fp.{Fp}
use Rattle.fp_field.specs.Field.{number}
use Rattle.fp_field.specs.Chains.{Terms, Each, extend, combination}
use Rattle.fp_field.specs.Normal.{normal}
use Rattle.chain_core.specs.Formal.{Formal, numbers}
use Rattle.cells.specs.declared.cells.Cell.{Cell}
use Rattle.cells.specs.declared.cells.SmallCell.{SmallCell}
use Rattle.cells.specs.Order.{cell_cmp}
use Rattle.spaces.specs.Spaces.{Space}
use Rattle.spaces.specs.Orders.{ordered, by_degree}
use Rattle.spaces.specs.SmallCells.{Small, small_degree}
use Rattle.std.specs.declared.cmp.Ordering.{Ordering}
use Rattle.fp_field.specs.declared.prime.Prime.{Prime}
use Rattle.values.specs.Asks.{Answers, Right, ask, g, across, on_chain, asked_with, value_with}
use Rattle.values.specs.Ranks.{IsValid}
use Rattle.values.specs.Values.{value}
use Rattle.values.proofs.Chains.{asked_with-on_chain, value_with-on_chain, along}
use Rattle.oracle_iface.proofs.CarriedChains.{each-normal}
use Rattle.values.proofs.Readings.{EachAsk}
use Rattle.term_lang.specs.SpaceOf.{space_of}
use Rattle.oracle_iface.specs.declared.cell_values.CellValue.{CellValue}
use Rattle.oracle_iface.specs.declared.keys.Key.{Key}
use Rattle.oracle_iface.specs.declared.keys.Op.TheVariants.{G as OpG}
use Rattle.oracle_iface.specs.Keys.{quote_chain, quote_small_chain, formal}
use Rattle.oracle_iface.specs.KeyLaws.{IsShown, IsProper}
use Rattle.oracle_iface.specs.SmallForms.{quote_small}
use Rattle.oracle_iface.proofs.ProperBases.{listed-proper}
use Rattle.homology_rules.specs.Asking.{first_refusal}
use Rattle.homology_rules.specs.Held.{big_in}
use Rattle.homology_rules.specs.SmallKeys.{small_key_of}
use Rattle.homology_rules.specs.Shown.{HasShownValues}
use Rattle.homology_rules.proofs.GAlong.{g_key, g_chain, keys-numbers, summed}
use Rattle.homology_rules.proofs.Quoted.{each-weaker, each-extend}
use Rattle.homology_rules.proofs.QuotedSums.{big-sum}
use Rattle.homology_rules.proofs.TypedKeys.{g_key-is, images-told}
use Rattle.part_asks.specs.OneKey.{IsOwnSmall}
use Rattle.part_asks.specs.Along.{AsksValid, g_along, read_smalls}
use Rattle.part_asks.specs.Reading.{keys_of, value_of}
use Rattle.part_asks.proofs.Readings.{keys-across, keys-on_chain, value-on_chain}

module _ (a : Space) where
  -- small cells of the code that stand for themselves are quoted back
  pub own-read : (c : Terms SmallCell) → Each (IsOwnSmall a) c → quote_small_chain a (read_smalls a c) ≡ c
  own-read [] e = refl
  own-read (t ∷ c) e = λ i. (e.0 i, t.1) ∷ own-read c e.1 i

on_chain-each : {K J : Type 0} (answers : Answers) (P : J → Type 0) (u : K → Right (Terms J)) (cmp : J → J → Ordering) (n : ℕ) (c : Terms K)
    → Each (λ k. Each P (value_with answers (u k))) c → Each P (value_with answers (on_chain cmp n u c))
on_chain-each answers P u cmp n c e =
    subst (Each P) (sym (value_with-on_chain answers u cmp n c))
    (each-normal cmp n P (extend (λ k. value_with answers (u k)) c) (each-extend P (λ k. value_with answers (u k)) c e))

-- G along a chain has only cells that the code has
module _ (p : Prime) (a : Space) where
  each-valid : (c : Terms (Small a)) → AsksValid p (g_along p a c) → Each (λ y. IsValid (number p) (g a y)) c
  each-valid c h = by c (subst (EachAsk (IsValid (number p))) (asked_with-on_chain (value (number p)) (λ (y : Small a). ask (g a y)) (by_degree (ordered a).cmp) (number p) c) h)
    where
      by : (c : Terms (Small a)) → EachAsk (IsValid (number p)) (along (λ y. asked_with (value (number p)) (ask (g a y))) c) → Each (λ y. IsValid (number p) (g a y)) c
      by [] h = tt
      by (t ∷ c) h = (h.0, by c h.1)

  pub along-shown : (c : Terms (Small a)) → HasShownValues (number p) a → AsksValid p (g_along p a c) → Each (IsShown a) (value_of p (g_along p a c))
  along-shown c shown valid =
      on_chain-each (value (number p)) (IsShown a) (λ y. ask (g a y)) (by_degree (ordered a).cmp) (number p) c
      (each-weaker (λ y. IsValid (number p) (g a y)) (λ y. Each (IsShown a) (value (number p) (g a y))) c (λ y v. shown.in_g y v) (each-valid c valid))

module _ (k : Key) (a : Space) (of : space_of k.term ≡ a) where
  abbrev p : ℕ
  p = number k.prime

  along-across : (c : Terms (Small a)) → map (λ t. g_key k t.0) (quote_small_chain a c) ≡ keys_of k.prime (g_along k.prime a c)
  along-across c = by c ∙ sym (keys-on_chain k.prime (λ y. ask (g a y)) (by_degree (ordered a).cmp) p c)
    where
      by : (c : Terms (Small a)) → map (λ t. g_key k t.0) (quote_small_chain a c) ≡ keys_of k.prime (across (λ y. ask (g a y)) c)
      by [] = refl
      by (t ∷ c) = (λ i. g_key-is k a of t.0 i ∷ by c i) ∙ sym (keys-across k.prime (λ y. ask (g a y)) t.0 t.1 c)

  module _ (ts : List (SmallCell × Fp)) (chain : Terms SmallCell) (terms : numbers ts ≡ chain) (own : Each (IsOwnSmall a) chain) where
    abbrev c : Terms (Small a)
    c = read_smalls a chain

    -- the keys that are made of the terms are those that are asked for
    pub along-keys : (keys lent : List Key) → lent ≡ keys → keys ≡ map (λ t. small_key_of k OpG t.0) ts → lent ≡ keys_of k.prime (g_along k.prime a c)
    along-keys keys lent e m =
        e ∙ m ∙ keys-numbers k ts ∙ ap (map (λ t. g_key k t.0)) (terms ∙ sym (own-read a chain own)) ∙ along-across c

    -- what the cells hold sums up to G of the chain
    pub along-sum : HasShownValues p a → AsksValid k.prime (g_along k.prime a c) → first_refusal (keys_of k.prime (g_along k.prime a c)) ≡ None
        → (cells lent : List CellValue) → lent ≡ cells → map (λ v. v.key) cells ≡ map (λ t. small_key_of k OpG t.0) ts → (x : Formal Cell) → x.prime ≡ k.prime
        → x.terms ≡ normal cell_cmp p (combination (map (λ t. t.1.value) ts) (map (λ v. (big_in v.outcome).terms) lent))
        → x ≡ formal k.prime (quote_chain a (value_of k.prime (g_along k.prime a c)))
    along-sum shown valid none cells lent e keys x prime sum = λ i. record { prime = prime i; terms = all i }
      where
        proper : Each (IsProper a) c
        proper = each-weaker (λ y. IsValid p (g a y)) (IsProper a) c (λ y v. listed-proper p a (small_degree a y) y v.0.0 v.1) (each-valid k.prime a c valid)

        in-space : Each (λ y. Each (IsShown a) (value p (g a y))) c
        in-space = each-weaker (λ y. IsValid p (g a y)) (λ y. Each (IsShown a) (value p (g a y))) c (λ y v. shown.in_g y v) (each-valid k.prime a c valid)

        all : x.terms ≡ quote_chain a (value_of k.prime (g_along k.prime a c))
        all =
            sum ∙ ap (λ l. normal cell_cmp p (combination (map (λ t. t.1.value) ts) (map (λ v. (big_in v.outcome).terms) l))) e
            ∙ ap (normal cell_cmp p) (summed k ts cells keys ∙ ap (extend (g_chain k)) (terms ∙ sym (own-read a chain own)))
            ∙ big-sum a p (quote_small a) c (g_chain k) (λ y. value p (g a y)) shown.cells
            (images-told k a of c proper (ap first_refusal (along-across c) ∙ none)) in-space
            ∙ ap (quote_chain a) (sym (value-on_chain k.prime (λ y. ask (g a y)) (by_degree (ordered a).cmp) p c))

-- the cells are those of the keys of the terms, read a second time
pub along-made : (k : Key) (ts again : List (SmallCell × Fp)) (chain : Terms SmallCell) → numbers ts ≡ chain → numbers again ≡ chain → (cells : List CellValue) (lent : List Key)
    → map (λ v. v.key) cells ≡ lent → lent ≡ map (λ t. small_key_of k OpG t.0) ts → map (λ v. v.key) cells ≡ map (λ t. small_key_of k OpG t.0) again
along-made k ts again chain e u cells lent h m = h ∙ m ∙ keys-numbers k ts ∙ ap (map (λ t. g_key k t.0)) (e ∙ sym u) ∙ sym (keys-numbers k again)
