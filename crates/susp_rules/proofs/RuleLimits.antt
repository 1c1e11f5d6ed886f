-- The rule of suspensions as its contract says it: limits, the part's answer, and what is asked for.
use Rattle.std.proofs.Common.{◌≡◌, ℕ, zero, suc, ◌-◌, Bool, true, false, List, [], ◌∷◌, map, Option, Some, None, Result, Ok, Err, IfOk, refl, sym, ◌∙◌, ap, subst, arith}
use Rattle.std.specs.Prelude.{Contains, IsErrAnd, nat_lt}
use Rattle.std.proofs.lemmas.List.Elements.{All-from_recursion}
use Rattle.std.specs.declared.alloc.AllocError.{AllocError}
use Rattle.fp_field.specs.declared.prime.Prime.{Prime}
use Rattle.fp_field.specs.Field.{number}
use Rattle.spaces.specs.Spaces.{Space, suspension}
use Rattle.spaces.specs.Allowed.{Admits, IsAllowed}
use Rattle.term_lang.specs.SpaceOf.{space_of}
use Rattle.values.specs.Asks.{Ask, Answer, basis, small_d, f as f_at, g as g_at, h as h_at, cycles}
use Rattle.values.specs.BaseLaws.{IsSuspension}
use Rattle.values.specs.Sizes.{Size, place_size}
use Rattle.values.specs.Outcomes.{usual_limits, outcome, outcome_with, limited, made_with, first_past, is_value, is_over, of_letters, of_integer, of_terms, Over as OverOf, Outcome as OutcomeOf}
use Rattle.values.specs.Values.{right_side, needs}
use Rattle.values.specs.Ranks.{IsValid, space_of as space_asked}
use Rattle.values.proofs.BasesRows.{suspension-needs_below}
use Rattle.oracle_iface.specs.declared.keys.Key.{Key}
use Rattle.oracle_iface.specs.declared.keys.Op.TheVariants.{Cycles}
use Rattle.oracle_iface.specs.declared.bodies.Kind.{Kind}
use Rattle.oracle_iface.specs.declared.bodies.Kind.TheVariants.{Letters, Integer, Terms}
use Rattle.oracle_iface.specs.declared.bodies.Body.{Body}
use Rattle.oracle_iface.specs.declared.bodies.Over.{Over}
use Rattle.oracle_iface.specs.declared.bodies.Outcome.{Outcome}
use Rattle.oracle_iface.specs.declared.bodies.Outcome.TheVariants.{Value, Over as IsOver}
use Rattle.oracle_iface.specs.declared.cell_values.CellValue.{CellValue}
use Rattle.oracle_iface.specs.Forcing.{Calls, Asked, MayForceNeeds, AsksNeeds, CoversAtValue, nothing_asked, asked_now, Begins}
use Rattle.oracle_iface.specs.KeyLaws.{IsNamed, IsReadBack, HasCells}
use Rattle.oracle_iface.specs.Keys.{question_of, key_of, needs_of, op_of, place_of, quote_body, IsValidKey}
use Rattle.oracle_iface.specs.Limits.{kind_past, limited_body}
use Rattle.oracle_iface.specs.Stands.{quote_outcome, IsOutcome}
use Rattle.oracle_iface.proofs.CyclesNeeds.{key-named}
use Rattle.oracle_iface.proofs.KeysBack.{valid-back}
use Rattle.oracle_iface.proofs.LimitsAgree.{limits-agree}
use Rattle.oracle_iface.proofs.Named.{suspension-part}
use Rattle.oracle_iface.proofs.SizesAgree.{cell_letters_agree, cell_integer_agree, small_letters_agree, small_integer_agree}
use Rattle.susp_rules.specs.Bodies.{base_body, raised_body, IsBodyOf}
use Rattle.susp_rules.specs.Places.{size_at}
use Rattle.susp_rules.specs.Suspendable.{IsSuspendable, IsOnlyNeed, IsLimited, IsOutcomeBack}
use Rattle.susp_rules.proofs.Questions.{at_suspension, asked-space, asked-not}
use Rattle.susp_rules.proofs.RuleReads.{told, read, same_head, no_more, base-read, over-read, value-read}

-- ---- the limits on what a key is at

size-agrees : (q : Ask) → Admits (space_asked q) → size_at (place_of q) ≡ place_size q
size-agrees (basis a n) is = refl
size-agrees (small_d a y) is = λ i. record { letters = small_letters_agree a y i; integer = small_integer_agree a y i; terms = 0 }
size-agrees (f_at a n x) is = λ i. record { letters = cell_letters_agree a is n x i; integer = cell_integer_agree a is n x i; terms = 0 }
size-agrees (g_at a y) is = λ i. record { letters = small_letters_agree a y i; integer = small_integer_agree a y i; terms = 0 }
size-agrees (h_at a n x) is = λ i. record { letters = cell_letters_agree a is n x i; integer = cell_integer_agree a is n x i; terms = 0 }
size-agrees (cycles a n) is = refl

module _ (pr : Prime) (q : Ask) (x : OutcomeOf (Answer q)) where
  abbrev by_kind : Option (Kind × ℕ) → Outcome
  by_kind past = elim past [ Some e ↦ IsOver (record { key = key_of pr q; kind = e.0; size = e.1 }) | None ↦ quote_outcome pr q x ]

  abbrev by_over : Option OverOf → OutcomeOf (Answer q)
  by_over past = elim past [ Some o ↦ is_over o | None ↦ x ]

  -- the first limit that a size is past, in the code and in the definitions
  past-agrees : (s : Size) → by_kind (kind_past s) ≡ quote_outcome pr q (by_over (first_past usual_limits q s))
  past-agrees s = at_letters (nat_lt 64 s.letters) (nat_lt 100000 s.integer) (nat_lt 50000 s.terms)
    where
      at_letters : (a b c : Bool)
          → by_kind (elim a [ true ↦ Some (Letters, s.letters) | false ↦ elim b [ true ↦ Some (Integer, s.integer) | false ↦ elim c [ true ↦ Some (Terms, s.terms) | false ↦ None ] ] ])
          ≡ quote_outcome pr q (by_over (elim a [
            | true ↦ Some (record { question = q; kind = of_letters; size = s.letters })
            | false ↦ elim b [
              | true ↦ Some (record { question = q; kind = of_integer; size = s.integer })
              | false ↦ elim c [ true ↦ Some (record { question = q; kind = of_terms; size = s.terms }) | false ↦ None ]
            ]
          ]))
      at_letters true b c = refl
      at_letters false true c = refl
      at_letters false false true = refl
      at_letters false false false = refl

module _ (k : Key) (is : IsValidKey k) where
  abbrev pub q : Ask
  q = question_of k

  abbrev pub p : ℕ
  p = number k.prime

  abbrev pub made : OutcomeOf (Answer q)
  made = outcome_with (outcome usual_limits p) (right_side p q)

  -- the outcome, by the first limit that the key's place is past
  outcome-is : IsOutcomeBack k
      → by_kind k.prime q (limited usual_limits q made) (kind_past (size_at k.place)) ≡ quote_outcome k.prime q (outcome usual_limits p q)
  outcome-is back =
      ap (λ s. by_kind k.prime q (limited usual_limits q made) (kind_past s)) (ap (λ j. size_at j.place) is.key_is ∙ size-agrees q is.question.0.0)
      ∙ past-agrees k.prime q (limited usual_limits q made) (place_size q)
      ∙ ap (quote_outcome k.prime q) (sym back)

  pub outcome-past : IsOutcomeBack k → (kind : Kind) (size : ℕ) → kind_past (size_at k.place) ≡ Some (kind, size)
      → IsOutcome k (IsOver (record { key = k; kind = kind; size = size }))
  outcome-past back kind size e =
      (λ i. IsOver (record { key = is.key_is i; kind = kind; size = size }))
      ∙ ap (by_kind k.prime q (limited usual_limits q made)) (sym e) ∙ outcome-is back

  pub outcome-within : IsOutcomeBack k → kind_past (size_at k.place) ≡ None → (o : Outcome) → IsLimited k o → IsOutcome k o
  outcome-within back e o h = h ∙ ap (by_kind k.prime q (limited usual_limits q made)) (sym e) ∙ outcome-is back

  -- ---- the limits on values

  abbrev body_in : Body → Outcome → Body
  body_in b (Value c) = c
  body_in b (IsOver w) = b

  limit-by : (e : OutcomeOf (Answer q)) (b : Body) → Value b ≡ quote_outcome k.prime q e → limited_body k b ≡ quote_outcome k.prime q (limited usual_limits q e)
  limit-by (is_value v) b h = (λ i. limited_body (is.key_is i) (ap (body_in b) h i)) ∙ limits-agree k.prime q v is.question.0.0
  limit-by (is_over o) b h = absurd (cc)

  over-by : (e : OutcomeOf (Answer q)) (w : Over) → IsOver w ≡ quote_outcome k.prime q e → IsOver w ≡ quote_outcome k.prime q (limited usual_limits q e)
  over-by (is_value v) w h = absurd (cc)
  over-by (is_over o) w h = h

  pub limited-value : (b : Body) → Value b ≡ read k.prime q → (o : Outcome) → o ≡ limited_body k b → IsLimited k o
  limited-value b h o e = e ∙ limit-by made b h

  -- ---- keys about a suspension

  module _ (a : Space) (of : space_of k.term ≡ suspension a) (not : k.op ≡ Cycles → ⊥) where
    pub base-limited : needs_of k ≡ [] → (b : Body) → b ≡ base_body k.prime k.op k.place → (o : Outcome) → o ≡ limited_body k b → IsLimited k o
    base-limited e b h o g =
        limited-value b
        (ap Value (h ∙ ap (λ j. base_body k.prime j.op j.place) is.key_is) ∙ base-read k.prime a q (asked-space k is a of not) (asked-not k is a of not) e) o g

    part-allowed : IsAllowed (suspension a)
    part-allowed = subst IsAllowed (asked-space k is a of not) is.question.0

    module _ (fits : IsSuspendable (number k.prime) a) (j : Ask) (one : needs_of k ≡ j ∷ []) where
      need-in : Contains (needs_of k) j
      need-in = subst (λ ns. Contains ns j) (sym one) (0, omega arith, refl)

      pub need-valid : IsValid p j
      need-valid = (suspension-needs_below p q (subst IsSuspension (sym (asked-space k is a of not)) tt) is.question j need-in).0

      abbrev IsOfPart : Ask → Type 0
      IsOfPart r = (i : Ask) → needs p r ≡ i ∷ [] → space_asked i ≡ a

      need-space : space_asked j ≡ a
      need-space = at_suspension a IsOfPart at_basis at_d at_f at_g at_h q (asked-space k is a of not) (asked-not k is a of not) j one
        where
          at_basis : (n : ℕ) → IsOfPart (basis (suspension a) n)
          at_basis zero i e = absurd (no_more i [] (sym e))
          at_basis (suc zero) i e = absurd (no_more i [] (sym e))
          at_basis (suc (suc n)) i e = sym (ap space_asked (same_head (basis a (suc n)) i e))

          at_d : (y : _) → IsOfPart (small_d (suspension a) y)
          at_d None i e = absurd (no_more i [] (sym e))
          at_d (Some y) i e = sym (ap space_asked (same_head (small_d a y) i e))

          at_f : (n : ℕ) (x : _) → IsOfPart (f_at (suspension a) n x)
          at_f n None i e = absurd (no_more i [] (sym e))
          at_f n (Some s) i e = sym (ap space_asked (same_head (f_at a (n - 1) s.1) i e))

          at_g : (y : _) → IsOfPart (g_at (suspension a) y)
          at_g None i e = absurd (no_more i [] (sym e))
          at_g (Some y) i e = sym (ap space_asked (same_head (g_at a y) i e))

          at_h : (n : ℕ) (x : _) → IsOfPart (h_at (suspension a) n x)
          at_h n None i e = absurd (no_more i [] (sym e))
          at_h n (Some s) i e = sym (ap space_asked (same_head (h_at a (n - 1) s.1) i e))

      need-back : IsReadBack k.prime j
      need-back =
          valid-back k.prime j
          (subst IsNamed (sym need-space) (suspension-part a (subst IsNamed (asked-space k is a of not) (key-named k))))
          (subst HasCells (sym need-space) fits.part_cells) need-valid

      -- the cell of the need holds what the need comes to
      pub need-told : (v : CellValue) (o : Outcome) → v.key ≡ key_of k.prime j → v.outcome ≡ o → IsOutcome v.key v.outcome → o ≡ told k.prime j
      need-told v o e f right =
          sym f ∙ right ∙ (λ i. quote_outcome (e i).prime (question_of (e i)) (outcome usual_limits (number (e i).prime) (question_of (e i))))
          ∙ ap (told k.prime) need-back

      pub over-limited : (v : CellValue) (w u : Over) → v.key ≡ key_of k.prime j → v.outcome ≡ IsOver w → IsOutcome v.key v.outcome → u ≡ w → IsLimited k (IsOver u)
      over-limited v w u e f right same =
          ap IsOver same
          ∙ over-by made w (over-read k.prime a q (asked-space k is a of not) (asked-not k is a of not) j one w (need-told v (IsOver w) e f right))

      value-found : (v : CellValue) (b : Body) → v.key ≡ key_of k.prime j → v.outcome ≡ Value b → IsOutcome v.key v.outcome
          → IsBodyOf k.prime (op_of q) b × (Value (raised_body k.prime (op_of q) b) ≡ read k.prime q)
      value-found v b e f right =
          value-read k.prime a part-allowed fits q (asked-space k is a of not) (asked-not k is a of not) j one need-valid b (need-told v (Value b) e f right)

      pub value-fits : (v : CellValue) (b : Body) → v.key ≡ key_of k.prime j → v.outcome ≡ Value b → IsOutcome v.key v.outcome → IsBodyOf k.prime k.op b
      value-fits v b e f right = subst (λ o. IsBodyOf k.prime o b) (sym (ap (λ j. j.op) is.key_is)) (value-found v b e f right).0

      pub value-limited : (v : CellValue) (b c : Body) → v.key ≡ key_of k.prime j → v.outcome ≡ Value b → IsOutcome v.key v.outcome → c ≡ raised_body k.prime k.op b
          → (o : Outcome) → o ≡ limited_body k c → IsLimited k o
      value-limited v b c e f right h o g =
          limited-value c (ap Value (h ∙ ap (λ t. raised_body k.prime t b) (ap (λ j. j.op) is.key_is)) ∙ (value-found v b e f right).1) o g

-- ---- results

pub kept : {A E : Type 0} (r : Result A E) (P Q : A → Type 0) → ((x : A) → P x → Q x) → IfOk r P → IfOk r Q
kept (Ok x) P Q f h = f x h
kept (Err e) P Q f h = tt

pub none-found : (p : Prime) (ns : List Ask) (o : Option Key) → o ≡ None → IsOnlyNeed p ns o → ns ≡ []
none-found p ns o e h = subst (IsOnlyNeed p ns) e h

pub key-found : (p : Prime) (ns : List Ask) (o : Option Key) (asked : Key) → o ≡ Some asked → IsOnlyNeed p ns o → (q : Ask) × (ns ≡ q ∷ []) × (asked ≡ key_of p q)
key-found p ns o asked e h = subst (IsOnlyNeed p ns) e h

-- ---- what is asked for

covers-none : (r : Result Outcome AllocError) → CoversAtValue r [] []
covers-none (Ok (Value b)) = All-from_recursion (Contains []) [] tt
covers-none (Ok (IsOver w)) = tt
covers-none (Err e) = tt

covers-one : (r : Result Outcome AllocError) (j : Ask) → CoversAtValue r (j ∷ []) (j ∷ [])
covers-one (Ok (Value b)) j = All-from_recursion (Contains (j ∷ [])) (j ∷ []) ((0, omega arith, refl), tt)
covers-one (Ok (IsOver w)) j = tt
covers-one (Err e) j = tt

module _ {F : Type 0} (calls : Calls F) (k : Key) (s : F) where
  pub asks-nothing : needs_of k ≡ [] → (r : Result Outcome AllocError) → AsksNeeds calls k s s r
  asks-nothing e r = record {
    asks = [];
    begins = nothing_asked [] (needs_of k);
    whole = subst (CoversAtValue r []) (sym e) (covers-none r);
    asked = refl;
  }

  -- before the need is asked for
  pub asks-none : (Q : AllocError → Type 0) (r : Result Outcome AllocError) → IsErrAnd r Q → AsksNeeds calls k s s r
  asks-none Q (Ok o) h = absurd h
  asks-none Q (Err e) h = record { asks = []; begins = nothing_asked [] (needs_of k); whole = tt; asked = refl }

  pub asks-over : (w : Over) → AsksNeeds calls k s s (Ok (IsOver w))
  asks-over w = record { asks = []; begins = nothing_asked [] (needs_of k); whole = tt; asked = refl }

  pub asks-one : (j : Ask) → needs_of k ≡ j ∷ [] → (asked : Key) → asked ≡ key_of k.prime j → (t : F) (answer : Result CellValue AllocError) → calls s asked answer t
      → (r : Result Outcome AllocError) → AsksNeeds calls k s t r
  asks-one j one asked same t answer call r = record {
    asks = j ∷ [];
    begins = subst (λ ns. Begins [] (j ∷ []) ns) (sym one) (asked_now [] j [] [] (nothing_asked (j ∷ []) []));
    whole = subst (CoversAtValue r (j ∷ [])) (sym one) (covers-one r j);
    asked = (t, answer, subst (λ i. calls s i answer t) same call, refl);
  }

  pub may-ask : (may : F → Key → Type 0) → MayForceNeeds may calls k s → (j : Ask) → needs_of k ≡ j ∷ [] → (asked : Key) → asked ≡ key_of k.prime j → may s asked
  may-ask may h j one asked same =
      subst (may s) (sym same)
      (h [] s j (All-from_recursion (Contains (needs_of k)) [] tt) refl (subst (λ ns. Contains ns j) (sym one) (0, omega arith, refl)))
