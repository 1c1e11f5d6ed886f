-- A value that is not refused is past no limit, so its integers are of magnitude at most 100,000.
use Rattle.std.proofs.Common.{◌≡◌, ℕ, zero, suc, ◌<◌, ◌≤◌, Bool, true, false, nat_lt, ◌⊎◌, inl, inr, [], ◌∷◌, refl, sym, ◌∙◌, ap, subst, arith, true≢false}
use Rattle.std.specs.Prelude.{Option, Some, None}
use Rattle.std.proofs.lemmas.Bool.{cases_lt}
use Rattle.simp_ops.proofs.PlacesOf.{is_lt}
use Rattle.fp_field.specs.declared.prime.Prime.{Prime}
use Rattle.fp_field.specs.Field.{number}
use Rattle.fp_field.specs.Chains.{Terms, Each}
use Rattle.spaces.specs.Spaces.{Space}
use Rattle.values.specs.Asks.{Ask, Answer, Cell}
use Rattle.values.specs.Sizes.{Size, greatest, integer, place_size, answer_size}
use Rattle.values.specs.Values.{value, depth_of, right_side}
use Rattle.values.specs.Outcomes.{Outcome, Over, of_letters, of_integer, of_terms, usual_limits, is_value, is_over, first_past, limited, unless_past, outcome_with, outcome_at, outcome, IsOutcomeOf}
use Rattle.values.proofs.Readings.{outcome-of}
use Rattle.oracle_iface.specs.Keys.{key_of}
use Rattle.oracle_iface.specs.KeyLaws.{IsReadBack}
use Rattle.oracle_iface.specs.Stands.{quote_outcome}
use Rattle.homology_rules.specs.Asking.{refusal_in, outcome_of}
use Rattle.homology_rules.proofs.TypedKeys.{outcome-told}

-- an outcome that is a value is past no limit
abbrev IsWithin : (q : Ask) → Outcome (Answer q) → Type 0
IsWithin q (is_value v) = first_past usual_limits q (answer_size q v) ≡ None
IsWithin q (is_over e) = Unit {0}

limited-within : (q : Ask) (o : Outcome (Answer q)) → IsWithin q (limited usual_limits q o)
limited-within q (is_over e) = tt
limited-within q (is_value v) = by (first_past usual_limits q (answer_size q v)) refl
  where
    by : (e : Option Over) → first_past usual_limits q (answer_size q v) ≡ e
        → IsWithin q (let from : Outcome (Answer q) = elim e [ Some x ↦ is_over x | None ↦ is_value v ] in from)
    by (Some x) h = tt
    by None h = h

unless-within : (q : Ask) (o : Outcome (Answer q)) → IsWithin q o → IsWithin q (unless_past usual_limits q o)
unless-within q o h = by (first_past usual_limits q (place_size q))
  where
    by : (e : Option Over) → IsWithin q (let from : Outcome (Answer q) = elim e [ Some x ↦ is_over x | None ↦ o ] in from)
    by (Some x) = tt
    by None = h

at-within : (p d : ℕ) (q : Ask) → IsWithin q (outcome_at usual_limits p d q)
at-within p zero q = tt
at-within p (suc d) q = unless-within q _ (limited-within q (outcome_with (outcome_at usual_limits p d) (right_side p q)))

-- a key that is not refused has a value that is past no limit
value-within : (p : Prime) (q : Ask) → IsReadBack p q → refusal_in (outcome_of (key_of p q)) ≡ None
    → first_past usual_limits q (answer_size q (value (number p) q)) ≡ None
value-within p q back none =
    by (outcome usual_limits (number p) q) (outcome-of usual_limits (number p) q) (at-within (number p) (depth_of q) q)
    (sym (ap refusal_in (outcome-told p q back)) ∙ none)
  where
    by : (o : Outcome (Answer q)) → IsOutcomeOf (value (number p) q) o → IsWithin q o → refusal_in (quote_outcome p q o) ≡ None
        → first_past usual_limits q (answer_size q (value (number p) q)) ≡ None
    by (is_value v) h w n = subst (λ u. first_past usual_limits q (answer_size q u) ≡ None) h w
    by (is_over e) h w n = absurd (cc)

not_below : (m n : ℕ) → nat_lt m n ≡ false → n ≤ m
not_below m n e = by (cases_lt m n)
  where
    by : (m < n) ⊎ (n ≤ m) → n ≤ m
    by (inl l) = absurd (true≢false (sym (is_lt m n l) ∙ e))
    by (inr l) = l

-- the limit of integers
not_past : (q : Ask) (s : Size) → first_past usual_limits q s ≡ None → s.integer ≤ 100000
not_past q s = by (nat_lt 64 s.letters) (nat_lt 100000 s.integer) refl
  where
    at_terms : Option Over
    at_terms = elim (nat_lt 50000 s.terms) [ true ↦ Some (record { question = q; kind = of_terms; size = s.terms }) | false ↦ None ]

    at_integer : Bool → Option Over
    at_integer b = elim b [ true ↦ Some (record { question = q; kind = of_integer; size = s.integer }) | false ↦ at_terms ]

    at_letters : Bool → Bool → Option Over
    at_letters a b = elim a [ true ↦ Some (record { question = q; kind = of_letters; size = s.letters }) | false ↦ at_integer b ]

    by : (a b : Bool) → nat_lt 100000 s.integer ≡ b → at_letters a b ≡ None → s.integer ≤ 100000
    by true b e h = absurd (cc)
    by false true e h = absurd (cc)
    by false false e h = omega (arith, not_below 100000 s.integer e)

pub integer-within : (p : Prime) (q : Ask) → IsReadBack p q → refusal_in (outcome_of (key_of p q)) ≡ None
    → (answer_size q (value (number p) q)).integer ≤ 100000
integer-within p q back none = not_past q (answer_size q (value (number p) q)) (value-within p q back none)

-- each cell of a chain
pub each-within : (a : Space) (c : Terms (Cell a)) → greatest (λ t. integer a t.0.1) c ≤ 100000 → Each (λ x. integer a x.1 ≤ 100000) c
each-within a [] l = tt
each-within a (t ∷ c) l = (omega (arith, l), each-within a c (omega (arith, l)))
