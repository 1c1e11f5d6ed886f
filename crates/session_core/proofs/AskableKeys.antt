-- The keys of questions about a ready space may be asked for.
use Rattle.std.proofs.Common.{◌≡◌, ℕ, zero, suc, ◌+◌, ◌-◌, ◌≤◌, List, [], ◌∷◌, map, refl, sym, ◌∙◌, ap, subst, arith}
use Rattle.std.specs.Prelude.{Contains}
use Rattle.fp_field.specs.declared.prime.Prime.{Prime}
use Rattle.fp_field.specs.Field.{number}
use Rattle.spaces.specs.Spaces.{Space}
use Rattle.spaces.specs.SmallCells.{Small}
use Rattle.term_lang.specs.declared.terms.Term.{Term}
use Rattle.term_lang.specs.SpaceOf.{space_of}
use Rattle.values.specs.Asks.{Ask, basis, small_d, Answers, Right, gives, ask, each, ◌>>=◌, value_with, asked_with}
use Rattle.values.specs.Values.{value}
use Rattle.values.specs.Ranks.{IsValid, space_of as space_asked}
use Rattle.values.proofs.Readings.{EachAsk}
use Rattle.values.proofs.BasesAsks.{each_bind}
use Rattle.values.proofs.BasesLists.{Every, at_member, every_member, contains_of}
use Rattle.values.proofs.BasesCells.{basis-degree}
use Rattle.oracle_iface.specs.declared.keys.Key.{Key}
use Rattle.oracle_iface.specs.Keys.{key_of}
use Rattle.oracle_iface.specs.Terms.{term_of}
use Rattle.oracle_iface.specs.KeyLaws.{IsNamed, HasCells}
use Rattle.oracle_iface.proofs.Named.{named-space, term-back}
use Rattle.oracle_iface.proofs.KeysBack.{valid-back, valid-key}
use Rattle.susp_rules.specs.Treated.{IsTreated}
use Rattle.normal_forms.specs.Built.{IsBuilt}
use Rattle.normal_forms.proofs.BuiltForms.{built_cells}
use Rattle.session_core.specs.Lines.{keys_asked}
use Rattle.session_core.specs.Questions.{differentials, dimension_in, degrees_from, dimensions}
use Rattle.session_core.specs.Whole.{IsReady}
use Rattle.session_core.proofs.OneKeyAsked.{no_loopings}

pub each-ask : {A B : Type 0} (P : Ask → Type 0) (answers : Answers) (t : A → Right B) (xs : List A) → Every (λ x. EachAsk P (asked_with answers (t x))) xs → EachAsk P (asked_with answers (each t xs))
each-ask P answers t [] u = tt
each-ask P answers t (x ∷ xs) u =
    each_bind P answers (t x) (λ y. each t xs >>= λ ys. gives (y ∷ ys)) u.0
    (each_bind P answers (each t xs) (λ ys. gives (value_with answers (t x) ∷ ys)) (each-ask P answers t xs u.1) tt)

module _ (p : Prime) (t : Term) (ready : IsReady (space_of t)) where
  abbrev pub X : Space
  X = space_of t

  -- a valid question about the space
  abbrev pub Good : Ask → Type 0
  Good q = (space_asked q ≡ X) × IsValid (number p) q

  askable : (q : Ask) → Good q → IsTreated (key_of p q)
  askable q good =
      let named : IsNamed (space_asked q) = subst IsNamed (sym good.0) (named-space t) in
      let cells : HasCells (space_asked q) = subst HasCells (sym good.0) (built_cells X ready.0 ready.1) in
      let same : space_of (term_of (space_asked q)) ≡ X = ap (λ a. space_of (term_of a)) good.0 ∙ ap space_of (term-back t) in
      (valid-key p q (valid-back p q named cells good.1) good.1, subst IsBuilt (sym same) ready.1)

  each-askable : (qs : List Ask) → EachAsk Good qs → Every IsTreated (map (key_of p) qs)
  each-askable [] h = tt
  each-askable (q ∷ qs) h = (askable q h.0, each-askable qs h.1)

  pub keys_askable : {A : Type 0} (right : Right A) → EachAsk Good (asked_with (value (number p)) right) → (k : Key) → Contains (keys_asked p right) k → IsTreated k
  keys_askable right h k c =
      at_member IsTreated (map (key_of p) (asked_with (value (number p)) right)) k (each-askable (asked_with (value (number p)) right) h) c

  -- ---- two degrees

  pub good-basis : (n : ℕ) → n ≤ 17 → Good (basis X n)
  good-basis n h = let l = no_loopings X ready.1 in (refl, (ready.0, tt, omega (arith, l)))

  pub good-d : (n : ℕ) → n ≤ 17 → (y : Small X) → Contains (value (number p) (basis X n)) y → Good (small_d X y)
  good-d n h y c =
      let l = no_loopings X ready.1 in
      let d = basis-degree (number p) X n y c in
      (refl, (ready.0, subst (λ m. Contains (value (number p) (basis X m)) y) (sym d) c, omega (arith, l, d)))

  pub differentials-good : (n : ℕ) → n ≤ 17 → EachAsk Good (asked_with (value (number p)) (differentials (number p) X n))
  differentials-good n h =
      let ys = value (number p) (basis X n) in (
        good-basis n h,
        each_bind Good (value (number p)) (each (λ y. ask (small_d X y)) ys) (λ ds. gives (ys, ds))
            (each-ask Good (value (number p)) (λ y. ask (small_d X y)) ys (every_member (λ y. EachAsk Good (small_d X y ∷ [])) ys (λ y m. (good-d n h y (contains_of ys y m), tt)))) tt,
      )

  dimension-good : (n : ℕ) → n ≤ 16 → EachAsk Good (asked_with (value (number p)) (dimension_in (number p) X n))
  dimension-good n h =
      each_bind Good (value (number p)) (differentials (number p) X n) _ (differentials-good n (omega arith))
      (each_bind Good (value (number p)) (differentials (number p) X (suc n)) _ (differentials-good (suc n) (omega arith)) tt)

  degrees-low : (n k : ℕ) → n + k ≤ 17 → Every (λ d. d ≤ 16) (degrees_from (number p) X n k)
  degrees-low n zero h = tt
  degrees-low n (suc k) h = (omega arith, degrees-low (suc n) k (omega arith))

  goods : (ds : List ℕ) → Every (λ d. d ≤ 16) ds → Every (λ d. EachAsk Good (asked_with (value (number p)) (dimension_in (number p) X d))) ds
  goods [] h = tt
  goods (d ∷ ds) h = (dimension-good d h.0, goods ds h.1)

  pub dimensions_askable : (low high : ℕ) → low ≤ 16 → high ≤ 16 → (k : Key) → Contains (keys_asked p (dimensions (number p) X low high)) k → IsTreated k
  dimensions_askable low high l h =
      keys_askable (dimensions (number p) X low high)
      (each-ask Good (value (number p)) (dimension_in (number p) X) (degrees_from (number p) X low (suc high - low)) (goods _ (degrees-low low (suc high - low) (omega arith))))
