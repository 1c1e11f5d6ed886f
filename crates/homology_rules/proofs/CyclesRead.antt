-- What comes of asking for the keys of the cycles of a degree is what the rule of the key gives.
use Rattle.std.proofs.Common.{◌≡◌, ℕ, suc, ◌+◌, ◌<◌, ◌≤◌, ◌^◌, List, [], ◌∷◌, map, Option, Some, None, refl, sym, ◌∙◌, ap, subst, arith}
use Rattle.std.specs.Prelude.{Contains, Result, Ok, Err, IfOk}
use Rattle.std.specs.declared.alloc.AllocError.{AllocError}
use Rattle.std.specs.List.{AllByRecursion as Every}
use Rattle.std.specs.List.Sorted.{IsStrictlySortedBy}
use Rattle.std.proofs.lemmas.List.Elements.{recursion_from_All, All-contains_itself}
use Rattle.fp_field.specs.Field.{number}
use Rattle.spaces.specs.Spaces.{Space}
use Rattle.values.specs.Asks.{Ask, Answer, cycles, value_with}
use Rattle.values.specs.BaseLaws.{needs_of_cycles}
use Rattle.values.specs.Cycles.{rule_cycles}
use Rattle.values.specs.Outcomes.{usual_limits, outcome, outcome_with, first_over, over_of, refused_or, is_value, is_over, Over as OverOf, Outcome as OutcomeOf}
use Rattle.values.specs.Ranks.{IsValid, loopings}
use Rattle.values.specs.Values.{value, needs, right_side}
use Rattle.values.proofs.BasesCycles.{cycles-needs}
use Rattle.values.proofs.Readings.{made-first}
use Rattle.term_lang.specs.SpaceOf.{space_of}
use Rattle.cells.specs.Small.{small_cmp as code_cmp}
use Rattle.oracle_iface.specs.declared.keys.Key.{Key}
use Rattle.oracle_iface.specs.declared.keys.Op.TheVariants.{Cycles}
use Rattle.oracle_iface.specs.declared.keys.Place.TheVariants.{Degree}
use Rattle.oracle_iface.specs.declared.bodies.Body.TheVariants.{Many}
use Rattle.oracle_iface.specs.declared.bodies.Over.{Over}
use Rattle.oracle_iface.specs.declared.bodies.Outcome.{Outcome}
use Rattle.oracle_iface.specs.declared.bodies.Outcome.TheVariants.{Value, Over as IsOver}
use Rattle.oracle_iface.specs.Forcing.{Calls, MayForceNeeds}
use Rattle.oracle_iface.specs.KeyLaws.{IsReadBack}
use Rattle.oracle_iface.specs.Keys.{question_at, question_of, key_of, needs_of, IsValidKey}
use Rattle.oracle_iface.specs.Stands.{quote_over, quote_outcome, IsRead}
use Rattle.oracle_iface.proofs.CyclesNeeds.{needs-back}
use Rattle.oracle_iface.proofs.ProperBases.{every}
use Rattle.homology_rules.specs.Asking.{refusal_in, first_refusal, MayForceEach}
use Rattle.homology_rules.specs.Degrees.{cells_at, keys_of_cycles, IsCyclesAnswer}
use Rattle.homology_rules.specs.Shown.{HasShownValues}
use Rattle.homology_rules.proofs.Alike.{Alike, alike-then}
use Rattle.homology_rules.proofs.CycleKeys.{cycle_keys-alike}
use Rattle.homology_rules.proofs.NeedsAsked.{may-each}
use Rattle.homology_rules.proofs.RisingCells.{cells-rise}
use Rattle.homology_rules.proofs.TypedKeys.{outcome-told}
use Rattle.homology_rules.proofs.TypedCycles.{chains-read}

module _ (k : Key) where
  abbrev key : Ask → Key
  key q = key_of k.prime q

  abbrev p : ℕ
  p = number k.prime

  -- the first refusal along questions, as the code has it
  pub quoted : Option OverOf → Option Over
  quoted None = None
  quoted (Some e) = Some (quote_over k.prime e)

  pub quoted-none : quoted None ≡ None
  unfolding quoted
  quoted-none = refl

  pub quoted-some : (e : OverOf) → quoted (Some e) ≡ Some (quote_over k.prime e)
  unfolding quoted
  quoted-some e = refl

  pub refusals : (qs : List Ask) → Every (IsReadBack k.prime) qs → first_refusal (map key qs) ≡ quoted (first_over (outcome usual_limits p) qs)
  unfolding quoted
  refusals [] b = refl
  refusals (q ∷ qs) b =
      (λ i. elim (refusal_in (outcome-told k.prime q b.0 i)) [ Some w ↦ Some w | None ↦ refusals qs b.1 i ]) ∙ by (outcome usual_limits p q)
    where
      by : (o : OutcomeOf (Answer q))
          → (let x : Option Over = elim (refusal_in (quote_outcome k.prime q o)) [ Some w ↦ Some w | None ↦ quoted (first_over (outcome usual_limits p) qs) ] in x)
          ≡ quoted (let y : Option OverOf = elim (over_of o) [ Some e ↦ Some e | None ↦ first_over (outcome usual_limits p) qs ] in y)
      by (is_value v) = refl
      by (is_over e) = refl

  module _ (n : ℕ) (valid : IsValidKey k) (op_is : k.op ≡ Cycles) (place_is : k.place ≡ Degree n) where
    abbrev a : Space
    a = space_of k.term

    question-is : question_of k ≡ cycles a n
    question-is = λ i. question_at (op_is i) (place_is i) a

    valid-is : IsValid p (cycles a n)
    valid-is = subst (IsValid p) question-is valid.question

    needs-are : needs_of k ≡ needs_of_cycles p a n
    needs-are = ap (needs p) question-is ∙ cycles-needs p a n

    pub degree-low : n + 1 < 2 ^ 32
    degree-low = let l : suc n + loopings a ≤ 24 = valid-is.2 in omega (arith, l)

    pub cells-rising : IsStrictlySortedBy code_cmp (cells_at k n)
    cells-rising = cells-rise k a n refl valid-is.0 (let l : suc n + loopings a ≤ 24 = valid-is.2 in omega (arith, l))

    module _ (shown : HasShownValues p a) where
      pub keys-alike : Alike (keys_of_cycles k n) (map key (needs_of k))
      keys-alike =
          alike-then (keys_of_cycles k n) (map key (needs_of_cycles p a n)) (map key (needs_of k)) (cycle_keys-alike k a refl n valid-is shown)
          (ap (map key) (sym needs-are))

      pub may-cycles : {F : Type 0} (may : F → Key → Type 0) (calls : Calls F) (s : F) → MayForceNeeds may calls k s → MayForceEach may calls s (keys_of_cycles k n)
      may-cycles may calls s m = may-each calls k may s m (keys_of_cycles k n) keys-alike

      all-back : Every (IsReadBack k.prime) (needs_of k)
      all-back = every (Contains (needs_of k)) (IsReadBack k.prime) (needs_of k) (λ q is. needs-back k q valid op_is is)
          (recursion_from_All (Contains (needs_of k)) (needs_of k) (All-contains_itself (needs_of k)))

      refusal-is : first_refusal (keys_of_cycles k n) ≡ quoted (first_over (outcome usual_limits p) (needs p (cycles a n)))
      refusal-is = keys-alike.refusal ∙ refusals (needs_of k) all-back ∙ ap (λ q. quoted (first_over (outcome usual_limits p) (needs p q))) question-is

      abbrev Found : Outcome → Option OverOf → Type 0
      Found o r = o ≡ quote_outcome k.prime (cycles a n) (refused_or r (value_with (value p) (rule_cycles p a n)))

      module _ {F : Type 0} (calls : Calls F) (s t : F) where
        found : (o : Outcome) (r : Option OverOf) → IsCyclesAnswer calls k n s t o → first_refusal (keys_of_cycles k n) ≡ quoted r → Found o r
        unfolding quoted
        found (Value b) None h e = ap (λ x. Value x) (h.1 ∙ ap (λ zs. Many zs) (chains-read k a refl n shown valid-is h.0))
        found (Value b) (Some w) h e = absurd (let f : None ≡ Some (quote_over k.prime w) = sym h.0 ∙ e in cc)
        found (IsOver w) None h e = absurd (let f : Some w ≡ None = sym h ∙ e in cc)
        found (IsOver w) (Some v) h e = let f : Some w ≡ Some (quote_over k.prime v) = sym h ∙ e in cc

        pub answer-read : (o : Outcome) → IsCyclesAnswer calls k n s t o → IsRead k o
        answer-read o h =
            subst (λ q. o ≡ quote_outcome k.prime q (outcome_with (outcome usual_limits p) (right_side p q))) (sym question-is)
            (found o (first_over (outcome usual_limits p) (needs p (cycles a n))) h refusal-is
            ∙ ap (quote_outcome k.prime (cycles a n)) (sym (made-first usual_limits p (cycles a n))))

        pub all-read : (r : Result Outcome AllocError) → IfOk r (λ o. IsCyclesAnswer calls k n s t o) → IfOk r (λ o. IsRead k o)
        all-read (Ok o) h = answer-read o h
        all-read (Err e) h = tt
