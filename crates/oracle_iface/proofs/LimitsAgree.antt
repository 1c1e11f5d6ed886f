-- The limits on the values of the code are those of the definitions.
use Rattle.std.proofs.Common.{◌≡◌, ℕ, Bool, true, false, refl, ◌∙◌, ap}
use Rattle.std.specs.Prelude.{nat_lt, Option, Some, None}
use Rattle.fp_field.specs.declared.prime.Prime.{Prime}
use Rattle.values.specs.Asks.{Ask, Answer}
use Rattle.values.specs.Sizes.{Size, answer_size}
use Rattle.values.specs.Outcomes.{usual_limits, is_value, is_over, first_past, of_letters, of_integer, of_terms, Over as OverOf, Outcome as OutcomeOf}
use Rattle.oracle_iface.specs.declared.bodies.Kind.{Kind}
use Rattle.oracle_iface.specs.declared.bodies.Kind.TheVariants.{Letters, Integer, Terms}
use Rattle.oracle_iface.specs.declared.bodies.Outcome.{Outcome}
use Rattle.oracle_iface.specs.declared.bodies.Outcome.TheVariants.{Value, Over as IsOver}
use Rattle.oracle_iface.specs.Keys.{key_of, quote_body}
use Rattle.oracle_iface.specs.Stands.{quote_outcome}
use Rattle.oracle_iface.specs.Limits.{kind_past, LimitsAgree}
use Rattle.oracle_iface.proofs.SizesAgree.{body_agrees}

module _ (p : Prime) (q : Ask) (v : Answer q) where
  -- the outcome of the code, by the first limit that is past
  abbrev by_kind : Option (Kind × ℕ) → Outcome
  by_kind past = elim past [ Some e ↦ IsOver (record { key = key_of p q; kind = e.0; size = e.1 }) | None ↦ Value (quote_body p q v) ]

  abbrev by_over : Option OverOf → OutcomeOf (Answer q)
  by_over past = elim past [ Some o ↦ is_over o | None ↦ is_value v ]

  at_size : (s : Size) → by_kind (kind_past s) ≡ quote_outcome p q (by_over (first_past usual_limits q s))
  at_size s = at_letters (nat_lt 64 s.letters) (nat_lt 100000 s.integer) (nat_lt 50000 s.terms)
    where
      at_letters : (a b c : Bool)
          → by_kind (elim a [ true ↦ Some (Letters, s.letters) | false ↦ elim b [ true ↦ Some (Integer, s.integer) | false ↦ elim c [ true ↦ Some (Terms, s.terms) | false ↦ None ] ] ])
          ≡ quote_outcome p q (by_over (elim a [
            | true ↦ Some (record { question = q; kind = of_letters; size = s.letters })
            | false ↦ elim b [
              | true ↦ Some (record { question = q; kind = of_integer; size = s.integer })
              | false ↦ elim c [ true ↦ Some (record { question = q; kind = of_terms; size = s.terms }) | false ↦ None ]
            ]
          ]))
      at_letters true b c = refl
      at_letters false true c = refl
      at_letters false false true = refl
      at_letters false false false = refl

pub limits-agree : LimitsAgree
limits-agree p q v is = ap (λ s. by_kind p q v (kind_past s)) (body_agrees p q is v) ∙ at_size p q v (answer_size q v)
