-- The keys that are asked for the parts of a cycle may be asked for.
use Rattle.std.proofs.Common.{◌≡◌, ℕ, zero, suc, ◌≤◌, List, [], ◌∷◌, ◌++◌, refl, sym, ap, subst, arith}
use Rattle.std.specs.Prelude.{Contains}
use Rattle.fp_field.specs.declared.prime.Prime.{Prime}
use Rattle.fp_field.specs.Field.{number}
use Rattle.fp_field.specs.Chains.{Terms, Each}
use Rattle.std.specs.declared.cmp.Ordering.{Ordering}
use Rattle.echelons.specs.Echelon.{Vector}
use Rattle.spaces.specs.Spaces.{Space}
use Rattle.spaces.specs.Orders.{ordered, by_degree}
use Rattle.spaces.specs.SmallCells.{Small, small_cmp}
use Rattle.term_lang.specs.declared.terms.Term.{Term}
use Rattle.term_lang.specs.SpaceOf.{space_of}
use Rattle.values.specs.Asks.{Ask, basis, small_d, f as f_at, g as g_at, h as h_at, cycles, Cell as GradedCell, Right, gives, ask, each, on_chain, value_with, asked_with}
use Rattle.values.specs.Cycles.{coordinates, terms_of}
use Rattle.values.specs.Values.{value}
use Rattle.values.proofs.Readings.{EachAsk, value_with-bind}
use Rattle.values.proofs.Chains.{along, asked_with-on_chain}
use Rattle.values.proofs.BasesAsks.{each_bind}
use Rattle.values.proofs.BasesLists.{Every, every_member, contains_of}
use Rattle.values.proofs.BasesCells.{basis-degree}
use Rattle.oracle_iface.specs.declared.keys.Key.{Key}
use Rattle.oracle_iface.specs.KeyLaws.{IsShown}
use Rattle.susp_rules.specs.Treated.{IsTreated}
use Rattle.session_core.specs.Expressing.{keys_of_parts}
use Rattle.session_core.specs.Questions.{differentials, filling_of, expressed}
use Rattle.session_core.specs.Whole.{IsReady}
use Rattle.session_core.proofs.OneKeyAsked.{no_loopings}
use Rattle.session_core.proofs.AskableKeys.{Good, differentials-good, keys_askable}

asks-append : (P : Ask → Type 0) (ks js : List Ask) → EachAsk P ks → EachAsk P js → EachAsk P (ks ++ js)
asks-append P [] js a b = b
asks-append P (k ∷ ks) js a b = (a.0, asks-append P ks js a.1 b)

along-asks : {K : Type 0} (P : Ask → Type 0) (asks_of : K → List Ask) (c : Terms K) → Each (λ k. EachAsk P (asks_of k)) c → EachAsk P (along asks_of c)
along-asks P asks_of [] h = tt
along-asks P asks_of (t ∷ c) h = asks-append P (asks_of t.0) (along asks_of c) h.0 (along-asks P asks_of c h.1)

each-weaker : {K : Type 0} {P Q : K → Type 0} → ((k : K) → P k → Q k) → (c : Terms K) → Each P c → Each Q c
each-weaker u [] h = tt
each-weaker u (t ∷ c) h = (u t.0 h.0, each-weaker u c h.1)

each-both : {K : Type 0} (P Q : K → Type 0) (c : Terms K) → Each P c → Each Q c → Each (λ k. P k × Q k) c
each-both P Q [] a b = tt
each-both P Q (t ∷ c) a b = ((a.0, b.0), each-both P Q c a.1 b.1)

terms-among : (p : ℕ) (a : Space) (P : Small a → Type 0) (ys : List (Small a)) (v : Vector) → Every P ys → Each P (terms_of p a ys v)
terms-among p a P [] v h = tt
terms-among p a P (y ∷ ys) [] h = tt
terms-among p a P (y ∷ ys) (zero ∷ v) h = terms-among p a P ys v h.1
terms-among p a P (y ∷ ys) (suc b ∷ v) h = (h.0, terms-among p a P ys v h.1)

module _ (p : Prime) (t : Term) (ready : IsReady (space_of t)) (n : ℕ) (most : n ≤ 16) where
  abbrev q : ℕ
  q = number p

  abbrev a : Space
  a = space_of t

  abbrev P : Ask → Type 0
  P = Good p t ready

  good-cycles : P (cycles a n)
  good-cycles = let l = no_loopings a ready.1 in (refl, (ready.0, tt, omega (arith, l)))

  good-f : (x : GradedCell a) → IsShown a x × (x.0 ≡ n) → P (f_at a x.0 x.1)
  good-f x s = let l = no_loopings a ready.1 in let e = s.1 in (refl, (ready.0, s.0.1, omega (arith, l, e)))

  good-h : (x : GradedCell a) → IsShown a x × (x.0 ≡ n) → P (h_at a x.0 x.1)
  good-h x s = let l = no_loopings a ready.1 in let e = s.1 in (refl, (ready.0, s.0.1, omega (arith, l, e)))

  good-g : (m : ℕ) → m ≤ 17 → (y : Small a) → Contains (value q (basis a m)) y → P (g_at a y)
  good-g m h y c =
      let l = no_loopings a ready.1 in
      let d = basis-degree q a m y c in
      (refl, (ready.0, subst (λ k. Contains (value q (basis a k)) y) (sym d) c, omega (arith, l, d)))

  good-chain : {K J : Type 0} (cmp : J → J → Ordering) (r : K → Right (Terms J)) (c : Terms K) → Each (λ k. EachAsk P (asked_with (value q) (r k))) c
      → EachAsk P (asked_with (value q) (on_chain cmp q r c))
  good-chain cmp r c h = subst (EachAsk P) (sym (asked_with-on_chain (value q) r cmp q c)) (along-asks P (λ k. asked_with (value q) (r k)) c h)

  cells-above : (m : ℕ) → (value_with (value q) (differentials q a m)).0 ≡ value q (basis a m)
  cells-above m =
      let ys = value q (basis a m) in
      ap (λ (x : List (Small a) × List (Terms (Small a))). x.0) (value_with-bind (value q) (each (λ y. ask (small_d a y)) ys) (λ ds. gives (ys, ds)))

  good-small : (m : ℕ) → m ≤ 17 → (ys : List (Small a)) → ys ≡ value q (basis a m) → (v : Vector) → Each (λ y. EachAsk P (g_at a y ∷ [])) (terms_of q a ys v)
  good-small m h ys e v =
      terms-among q a (λ y. EachAsk P (g_at a y ∷ [])) ys v
      (every_member (λ y. EachAsk P (g_at a y ∷ [])) ys (λ y k. (good-g m h y (subst (λ l. Contains l y) e (contains_of ys y k)), tt)))

  module _ (z : Terms (GradedCell a)) (shown : Each (IsShown a) z) (degrees : Each (λ x. x.0 ≡ n) z) where
    both : Each (λ x. IsShown a x × (x.0 ≡ n)) z
    both = each-both (IsShown a) (λ x. x.0 ≡ n) z shown degrees

    abbrev here : List (Small a) × List (Terms (Small a))
    here = value_with (value q) (differentials q a n)

    abbrev above : List (Small a) × List (Terms (Small a))
    above = value_with (value q) (differentials q a (suc n))

    pub all-good : EachAsk P (asked_with (value q) (expressed q a n z))
    all-good = (
      good-cycles,
      each_bind P (value q) (differentials q a n) _ (differentials-good p t ready n (omega arith))
          (each_bind P (value q) (differentials q a (suc n)) _ (differentials-good p t ready (suc n) (omega arith))
          (each_bind P (value q) (on_chain (small_cmp a) q (λ x. ask (f_at a x.0 x.1)) z) _
          (good-chain (small_cmp a) (λ x. ask (f_at a x.0 x.1)) z (each-weaker (λ x s. (good-f x s, tt)) z both))
          (each_bind P (value q) (on_chain (by_degree (ordered a).cmp) q (λ x. ask (h_at a x.0 x.1)) z) _
          (good-chain (by_degree (ordered a).cmp) (λ x. ask (h_at a x.0 x.1)) z (each-weaker (λ x s. (good-h x s, tt)) z both))
          (each_bind P (value q) (on_chain (by_degree (ordered a).cmp) q (λ y. ask (g_at a y)) (terms_of q a above.0 (filling_of q a here.0 here.1 above.1
          (coordinates q a here.0 (value_with (value q) (on_chain (small_cmp a) q (λ x. ask (f_at a x.0 x.1)) z)))))) _
          (good-chain (by_degree (ordered a).cmp) (λ y. ask (g_at a y)) (terms_of q a above.0 _) (good-small (suc n) (omega arith) above.0 (cells-above (suc n)) _)) tt)))),
    )

    pub parts_askable : (k : Key) → Contains (keys_of_parts p t n z) k → IsTreated k
    unfolding keys_of_parts
    parts_askable = keys_askable p t ready (expressed q a n z) all-good
