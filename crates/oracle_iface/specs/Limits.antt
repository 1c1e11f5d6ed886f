-- The limits on the values of the code: the value, or the refusal with the first limit that its size is past, in the order letters, integer,
-- terms. For a key of a question and the code's value of an answer this is the outcome of the definitions.
--
--   a chain of 50,001 terms of single letters is over, in terms
use Rattle.std.specs.Prelude.{◌≡◌, ℕ, true, false, nat_lt, Option, Some, None}
use Rattle.fp_field.specs.declared.prime.Prime.{Prime}
use Rattle.spaces.specs.Allowed.{Admits}
use Rattle.values.specs.Asks.{Ask, Answer}
use Rattle.values.specs.Ranks.{space_of}
use Rattle.values.specs.Sizes.{Size}
use Rattle.values.specs.Outcomes.{usual_limits, limited, is_value}
use Rattle.oracle_iface.specs.declared.keys.Key.{Key}
use Rattle.oracle_iface.specs.declared.bodies.Kind.{Kind}
use Rattle.oracle_iface.specs.declared.bodies.Kind.TheVariants.{Letters, Integer, Terms}
use Rattle.oracle_iface.specs.declared.bodies.Body.{Body}
use Rattle.oracle_iface.specs.declared.bodies.Outcome.{Outcome}
use Rattle.oracle_iface.specs.declared.bodies.Outcome.TheVariants.{Value, Over as IsOver}
use Rattle.oracle_iface.specs.CodeSizes.{body_size}
use Rattle.oracle_iface.specs.Keys.{key_of, quote_body}
use Rattle.oracle_iface.specs.Stands.{quote_outcome}

-- the first kind whose limit the size is past, with the size in this kind
abbrev pub kind_past : Size → Option (Kind × ℕ)
kind_past s =
    elim (nat_lt 64 s.letters) [
      | true ↦ Some (Letters, s.letters)
      | false ↦ elim (nat_lt 100000 s.integer) [
        | true ↦ Some (Integer, s.integer)
        | false ↦ elim (nat_lt 50000 s.terms) [ true ↦ Some (Terms, s.terms) | false ↦ None ]
      ]
    ]

-- the value of a key, unless it is past a limit
abbrev pub limited_body : Key → Body → Outcome
limited_body k b = elim (kind_past (body_size b)) [ Some past ↦ IsOver (record { key = k; kind = past.0; size = past.1 }) | None ↦ Value b ]

-- that the limits on the values of the code are those of the definitions
abbrev pub LimitsAgree : Type 0
LimitsAgree = (p : Prime) (q : Ask) (v : Answer q) → Admits (space_of q)
    → limited_body (key_of p q) (quote_body p q v) ≡ quote_outcome p q (limited usual_limits q (is_value v))
