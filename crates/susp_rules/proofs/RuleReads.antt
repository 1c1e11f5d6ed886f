-- What the rule of a suspension reads: the value at the base, and the answer of the part.
use Rattle.std.proofs.Common.{◌≡◌, ℕ, zero, suc, ◌+◌, ◌-◌, ◌<◌, ◌≤◌, List, [], ◌∷◌, length, Some, None, refl, sym, ◌∙◌, ap, subst, arith}
use Rattle.std.specs.Prelude.{Contains}
use Rattle.fp_field.specs.declared.prime.Prime.{Prime}
use Rattle.fp_field.specs.Field.{number}
use Rattle.fp_field.specs.Chains.{Terms, Each}
use Rattle.fp_field.specs.Reduction.{HasDegrees}
use Rattle.spaces.specs.Spaces.{Space, suspension, Plain}
use Rattle.spaces.specs.SmallCells.{Small, small_degree}
use Rattle.spaces.specs.Allowed.{IsAllowed}
use Rattle.term_lang.specs.SpaceOf.{space_of}
use Rattle.values.specs.Asks.{Ask, Answer, Cell, basis, small_d, f as f_at, g as g_at, h as h_at}
use Rattle.values.specs.BaseLaws.{IsSuspension}
use Rattle.values.specs.Outcomes.{usual_limits, outcome, outcome_with, is_value, is_over, IsOutcomeOf, Outcome as OutcomeOf}
use Rattle.values.specs.Values.{value, right_side, needs}
use Rattle.values.specs.Ranks.{IsValid, IsCell, loopings, space_of as space_asked}
use Rattle.values.specs.Laws.{maps_of}
use Rattle.values.proofs.BasesRows.{suspension-needs_below}
use Rattle.values.proofs.Readings.{outcome-of}
use Rattle.oracle_iface.specs.declared.keys.Key.{Key}
use Rattle.oracle_iface.specs.declared.keys.Op.TheVariants.{Cycles}
use Rattle.oracle_iface.specs.declared.bodies.Body.{Body}
use Rattle.oracle_iface.specs.declared.bodies.Body.TheVariants.{Cells, Small as SmallBody, Big as BigBody}
use Rattle.oracle_iface.specs.declared.bodies.Over.{Over}
use Rattle.oracle_iface.specs.declared.bodies.Outcome.{Outcome}
use Rattle.oracle_iface.specs.declared.bodies.Outcome.TheVariants.{Value, Over as IsOver}
use Rattle.oracle_iface.specs.KeyLaws.{IsProper, IsNamed, IsReadBack, HasCells}
use Rattle.oracle_iface.specs.Keys.{question_of, key_of, needs_of, op_of, place_of, quote_body, IsValidKey, formal}
use Rattle.oracle_iface.specs.Stands.{quote_outcome, quote_over, IsRead, IsOutcome}
use Rattle.oracle_iface.proofs.CyclesNeeds.{key-named}
use Rattle.oracle_iface.proofs.KeysBack.{valid-back}
use Rattle.oracle_iface.proofs.Named.{suspension-part}
use Rattle.oracle_iface.proofs.ProperBases.{listed-proper}
use Rattle.oracle_iface.specs.declared.cell_values.CellValue.{CellValue}
use Rattle.susp_rules.specs.Bodies.{base_body, raised_body, IsBodyOf}
use Rattle.susp_rules.specs.Suspendable.{IsSuspendable}
use Rattle.susp_rules.proofs.Questions.{at_suspension, asked-space, asked-not}
use Rattle.susp_rules.proofs.UpQuotes.{basis-up, small-up, big-up, small-minus, big-minus}

pub no_more : {A : Type 0} (x : A) (xs : List A) → x ∷ xs ≡ [] → ⊥
no_more x xs e = let l : suc (length xs) ≡ 0 = ap length e in omega (arith, l)

abbrev pub head : Ask → List Ask → Ask
head d [] = d
head d (q ∷ qs) = q

pub same_head : (j i : Ask) → j ∷ [] ≡ i ∷ [] → j ≡ i
same_head j i e = ap (head j) e

module _ (pr : Prime) where
  abbrev pub p : ℕ
  p = number pr

  -- what reading the rule of a question gives
  abbrev pub read : (q : Ask) → Outcome
  read q = quote_outcome pr q (outcome_with (outcome usual_limits p) (right_side p q))

  -- what a question comes to
  abbrev pub told : Ask → Outcome
  told j = quote_outcome pr j (outcome usual_limits p j)

  -- ---- at the base

  abbrev pub IsBaseRead : Ask → Type 0
  IsBaseRead q = needs p q ≡ [] → Value (base_body pr (op_of q) (place_of q)) ≡ read q

  pub base-read : (a : Space) (q : Ask) → space_asked q ≡ suspension a → (op_of q ≡ Cycles → ⊥) → IsBaseRead q
  base-read a = at_suspension a IsBaseRead at_basis at_d at_f at_g at_h
    where
      at_basis : (n : ℕ) → IsBaseRead (basis (suspension a) n)
      at_basis zero e = refl
      at_basis (suc zero) e = refl
      at_basis (suc (suc n)) e = absurd (no_more _ [] e)

      at_d : (y : Small (suspension a)) → IsBaseRead (small_d (suspension a) y)
      at_d None e = refl
      at_d (Some y) e = absurd (no_more _ [] e)

      at_f : (n : ℕ) (x : Plain (suspension a)) → IsBaseRead (f_at (suspension a) n x)
      at_f n None e = refl
      at_f n (Some s) e = absurd (no_more _ [] e)

      at_g : (y : Small (suspension a)) → IsBaseRead (g_at (suspension a) y)
      at_g None e = refl
      at_g (Some y) e = absurd (no_more _ [] e)

      at_h : (n : ℕ) (x : Plain (suspension a)) → IsBaseRead (h_at (suspension a) n x)
      at_h n None e = refl
      at_h n (Some s) e = absurd (no_more _ [] e)

  -- ---- an answer of the part

  -- the refusal of the one question is that of what asks it
  over-passes : (j q : Ask) (next : Answer j → Answer q) (o : OutcomeOf (Answer j)) (w : Over) → IsOver w ≡ quote_outcome pr j o
      → (let passed : OutcomeOf (Answer q) = elim o [ is_value v ↦ is_value (next v) | is_over e ↦ is_over e ] in IsOver w ≡ quote_outcome pr q passed)
  over-passes j q next (is_value v) w h = absurd (cc)
  over-passes j q next (is_over e) w h = h

  -- the value of the one question goes on
  value-passes : (j q : Ask) (next : Answer j → Answer q) (o : OutcomeOf (Answer j)) (b : Body) → Value b ≡ quote_outcome pr j o
      → (v : Answer j) × (o ≡ is_value v) × (b ≡ quote_body pr j v)
      × (let passed : OutcomeOf (Answer q) = elim o [ is_value v ↦ is_value (next v) | is_over e ↦ is_over e ] in quote_outcome pr q passed ≡ Value (quote_body pr q (next v)))
  value-passes j q next (is_value v) b h = (v, refl, body_told b (quote_body pr j v) h, refl)
    where
      body_in : Body → Outcome → Body
      body_in d (Value c) = c
      body_in d (IsOver w) = d

      body_told : (b c : Body) → Value b ≡ Value c → b ≡ c
      body_told b c e = ap (body_in b) e
  value-passes j q next (is_over e) b h = absurd (cc)

  -- a value is that of the definitions
  value-is : (j : Ask) (v : Answer j) → outcome usual_limits p j ≡ is_value v → v ≡ value p j
  value-is j v e = subst (IsOutcomeOf (value p j)) e (outcome-of usual_limits p j)

  abbrev pub IsOverRead : Ask → Type 0
  IsOverRead q = (j : Ask) → needs p q ≡ j ∷ [] → (w : Over) → IsOver w ≡ told j → IsOver w ≡ read q

  pub over-read : (a : Space) (q : Ask) → space_asked q ≡ suspension a → (op_of q ≡ Cycles → ⊥) → IsOverRead q
  over-read a = at_suspension a IsOverRead at_basis at_d at_f at_g at_h
    where
      -- the need is i
      by : (i q : Ask) (next : Answer i → Answer q) (j : Ask) → i ∷ [] ≡ j ∷ [] → (w : Over) → IsOver w ≡ told j
          → (let passed : OutcomeOf (Answer q) = elim (outcome usual_limits p i) [ is_value v ↦ is_value (next v) | is_over e ↦ is_over e ] in IsOver w ≡ quote_outcome pr q passed)
      by i q next j e w h = over-passes i q next (outcome usual_limits p i) w (h ∙ ap told (sym (same_head i j e)))

      at_basis : (n : ℕ) → IsOverRead (basis (suspension a) n)
      at_basis zero j e w h = absurd (no_more j [] (sym e))
      at_basis (suc zero) j e w h = absurd (no_more j [] (sym e))
      at_basis (suc (suc n)) j e w h = by (basis a (suc n)) (basis (suspension a) (suc (suc n))) _ j e w h

      at_d : (y : Small (suspension a)) → IsOverRead (small_d (suspension a) y)
      at_d None j e w h = absurd (no_more j [] (sym e))
      at_d (Some y) j e w h = by (small_d a y) (small_d (suspension a) (Some y)) _ j e w h

      at_f : (n : ℕ) (x : Plain (suspension a)) → IsOverRead (f_at (suspension a) n x)
      at_f n None j e w h = absurd (no_more j [] (sym e))
      at_f n (Some s) j e w h = by (f_at a (n - 1) s.1) (f_at (suspension a) n (Some s)) _ j e w h

      at_g : (y : Small (suspension a)) → IsOverRead (g_at (suspension a) y)
      at_g None j e w h = absurd (no_more j [] (sym e))
      at_g (Some y) j e w h = by (g_at a y) (g_at (suspension a) (Some y)) _ j e w h

      at_h : (n : ℕ) (x : Plain (suspension a)) → IsOverRead (h_at (suspension a) n x)
      at_h n None j e w h = absurd (no_more j [] (sym e))
      at_h n (Some s) j e w h = by (h_at a (n - 1) s.1) (h_at (suspension a) n (Some s)) _ j e w h

  -- ---- a value of the part

  abbrev pub IsValueRead : Ask → Type 0
  IsValueRead q = (j : Ask) → needs p q ≡ j ∷ [] → IsValid p j → (b : Body) → Value b ≡ told j → IsBodyOf pr (op_of q) b × (Value (raised_body pr (op_of q) b) ≡ read q)

  module _ (a : Space) (is : IsAllowed (suspension a)) (fits : IsSuspendable p a) where
    -- the value of the need i goes on, where it does so for the value of the definitions
    by : (i q : Ask) (next : Answer i → Answer q)
        → ((v : Answer i) → v ≡ value p i → IsBodyOf pr (op_of q) (quote_body pr i v) × (raised_body pr (op_of q) (quote_body pr i v) ≡ quote_body pr q (next v)))
        → (j : Ask) → i ∷ [] ≡ j ∷ [] → (b : Body) → Value b ≡ told j
        → (let passed : OutcomeOf (Answer q) = elim (outcome usual_limits p i) [ is_value v ↦ is_value (next v) | is_over e ↦ is_over e ] in
        IsBodyOf pr (op_of q) b × (Value (raised_body pr (op_of q) b) ≡ quote_outcome pr q passed))
    by i q next goes j e b h =
        let u = value-passes i q next (outcome usual_limits p i) b (h ∙ ap told (sym (same_head i j e))) in
        let g = goes u.0 (value-is i u.0 u.1) in
        (subst (IsBodyOf pr (op_of q)) (sym u.2) g.0, ap (λ c. Value (raised_body pr (op_of q) c)) u.2 ∙ ap Value g.1 ∙ sym u.3)

    at_basis : (n : ℕ) → IsValueRead (basis (suspension a) n)
    at_basis zero j e v b h = absurd (no_more j [] (sym e))
    at_basis (suc zero) j e v b h = absurd (no_more j [] (sym e))
    at_basis (suc (suc n)) j e v b h = by (basis a (suc n)) (basis (suspension a) (suc (suc n))) _ (λ ys s. (tt, ap Cells (basis-up a ys))) j e b h

    -- the keys of a small differential
    d-keys : (y : Small a) → IsValid p (small_d a y) → Each (λ z. IsProper a z × (small_degree a z + loopings a ≤ 24)) (value p (small_d a y))
    d-keys y v = in_degree (small_degree a y) y refl v.1 v.2
      where
        each : (c : Terms (Small a)) (n : ℕ) → n + loopings a ≤ 24 → Each ((maps_of p a).small.generator n) c → Each (λ z. IsProper a z × (small_degree a z + loopings a ≤ 24)) c
        each [] n l e = tt
        each (t ∷ c) n l e = ((listed-proper p a n t.0 is.0.0 e.0.1, omega (arith, e.0.0, l)), each c n l e.1)

        in_degree : (n : ℕ) (y : Small a) → small_degree a y ≡ n → Contains (value p (basis a (small_degree a y))) y → small_degree a y + loopings a ≤ 24
            → Each (λ z. IsProper a z × (small_degree a z + loopings a ≤ 24)) (value p (small_d a y))
        in_degree zero y e m l =
            subst (Each (λ z. IsProper a z × (small_degree a z + loopings a ≤ 24)))
            (sym (fits.degrees.small.ends y (e, subst (λ n. Contains (value p (basis a n)) y) e m))) tt
        in_degree (suc n) y e m l =
            each (value p (small_d a y)) n (omega (arith, e, l)) (fits.degrees.small.lowers n y (e, subst (λ n. Contains (value p (basis a n)) y) e m))

    at_d : (y : Small (suspension a)) → IsValueRead (small_d (suspension a) y)
    at_d None j e v b h = absurd (no_more j [] (sym e))
    at_d (Some y) j e v b h =
        by (small_d a y) (small_d (suspension a) (Some y)) _
        (λ c s. (
          refl,
          ap (λ d. SmallBody (formal pr d))
              (small-minus a p (p - 1) c (subst (Each (λ z. IsProper a z × (small_degree a z + loopings a ≤ 24))) (sym s) (d-keys y (subst (IsValid p) (sym (same_head (small_d a y) j e)) v)))),
        ))
        j e b h

    at_f : (n : ℕ) (x : Plain (suspension a)) → IsValueRead (f_at (suspension a) n x)
    at_f n None j e v b h = absurd (no_more j [] (sym e))
    at_f n (Some s) j e v b h =
        by (f_at a (n - 1) s.1) (f_at (suspension a) n (Some s)) _ (λ c u. (refl, ap (λ d. SmallBody (formal pr d)) (small-up a c))) j e b h

    at_g : (y : Small (suspension a)) → IsValueRead (g_at (suspension a) y)
    at_g None j e v b h = absurd (no_more j [] (sym e))
    at_g (Some y) j e v b h = by (g_at a y) (g_at (suspension a) (Some y)) _ (λ c u. (refl, ap (λ d. BigBody (formal pr d)) (big-up a c))) j e b h

    at_h : (n : ℕ) (x : Plain (suspension a)) → IsValueRead (h_at (suspension a) n x)
    at_h n None j e v b h = absurd (no_more j [] (sym e))
    at_h n (Some s) j e v b h =
        let w : IsValid p (h_at a (n - 1) s.1) = subst (IsValid p) (sym (same_head (h_at a (n - 1) s.1) j e)) v in
        by (h_at a (n - 1) s.1) (h_at (suspension a) n (Some s)) _
        (λ c u. (
          refl,
          ap (λ d. BigBody (formal pr d))
              (big-minus a p (p - 1) (n - 1) c is fits.cells (omega (arith, w.2)) (subst (Each ((maps_of p a).big.generator (suc (n - 1)))) (sym u) (fits.degrees.h.raises (n - 1) (n - 1, s.1) (refl, w.1)))),
        ))
        j e b h

    pub value-read : (q : Ask) → space_asked q ≡ suspension a → (op_of q ≡ Cycles → ⊥) → IsValueRead q
    value-read = at_suspension a IsValueRead at_basis at_d at_f at_g at_h
