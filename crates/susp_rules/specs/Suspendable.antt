-- What the rule of suspensions wants of a space, what a key about a suspension needs, and outcomes under the limits on values.
--
-- The maps of the part carry chains of one degree to chains of one degree, as those of a reduction do, and the cells of the code are those
-- of the part and of its suspension (Rubio and Sergeraert, Constructive Homological Algebra and Applications, chapter 2).
--
--   the key of F at Up of |3|, in the suspension of K(Z,1), needs the key of F at |3|; the key of its small cells of degree 1 needs none
use Rattle.std.specs.Prelude.{◌≡◌, ℕ, List, [], ◌∷◌, Option, Some, None}
use Rattle.fp_field.specs.declared.prime.Prime.{Prime}
use Rattle.fp_field.specs.Field.{number}
use Rattle.fp_field.specs.Reduction.{HasDegrees}
use Rattle.spaces.specs.Spaces.{Space, suspension}
use Rattle.values.specs.Asks.{Ask}
use Rattle.values.specs.Laws.{maps_of}
use Rattle.values.specs.Outcomes.{usual_limits, outcome, outcome_with, limited, made_with}
use Rattle.values.specs.Values.{right_side}
use Rattle.oracle_iface.specs.declared.bodies.Outcome.{Outcome}
use Rattle.oracle_iface.specs.declared.keys.Key.{Key}
use Rattle.oracle_iface.specs.KeyLaws.{HasCells}
use Rattle.oracle_iface.specs.Keys.{question_of, key_of}
use Rattle.oracle_iface.specs.Stands.{quote_outcome}

pub record IsSuspendable (p : ℕ) (a : Space) : Type 0 where
  pub part_cells : HasCells a
  pub cells : HasCells (suspension a)
  pub degrees : HasDegrees p (maps_of p a)

-- nothing is needed, or this key alone
abbrev pub IsOnlyNeed : Prime → List Ask → Option Key → Type 0
IsOnlyNeed p ns None = ns ≡ []
IsOnlyNeed p ns (Some k) = (q : Ask) × (ns ≡ q ∷ []) × (k ≡ key_of p q)

-- what the rule of a key gives, under the limits on its value
abbrev pub IsLimited : Key → Outcome → Type 0
IsLimited k o =
    o ≡ quote_outcome k.prime (question_of k)
    (limited usual_limits (question_of k) (outcome_with (outcome usual_limits (number k.prime)) (right_side (number k.prime) (question_of k))))

-- the outcome of a key is what its rule gives back, as it is for the keys of all spaces whose needs are known to be below them
abbrev pub IsOutcomeBack : Key → Type 0
IsOutcomeBack k =
    outcome usual_limits (number k.prime) (question_of k) ≡ made_with usual_limits (number k.prime) (outcome usual_limits (number k.prime)) (question_of k)
