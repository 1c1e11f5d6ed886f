-- What a key is at, against the limits, and the key that a key about a suspension needs (Rubio and Sergeraert, Constructive Homological
-- Algebra and Applications, on suspensions).
--
--   the key of F at |100001| in K(Z,1) is at what is past the limit on integers; the cycles of degree 1 are at a degree, which is within
--   the key of F at Up of |3|, in the suspension of K(Z,1), lies over the key of F at |3|, and that of its small cells of degree 1 over none
use Rattle.std.specs.Prelude.{◌≡◌, Option, None}
use Rattle.std.specs.Option.{option_map}
use Rattle.spaces.specs.Spaces.{Space}
use Rattle.values.specs.Outcomes.{usual_limits, first_past}
use Rattle.values.specs.Sizes.{place_size}
use Rattle.oracle_iface.specs.declared.keys.Key.{Key}
use Rattle.oracle_iface.specs.Keys.{question_of}
use Rattle.oracle_iface.specs.Terms.{term_of}
use Rattle.susp_rules.specs.Places.{part_place}

-- what the key is at is past no limit
abbrev pub IsWithin : Key → Type 0
IsWithin k = first_past usual_limits (question_of k) (place_size (question_of k)) ≡ None

-- the key of the part, where the place lies over a place of it
abbrev pub key_below : Key → Space → Option Key
key_below k part = option_map (λ place. record { op = k.op; prime = k.prime; place = place; term = term_of part }) (part_place k.place)
