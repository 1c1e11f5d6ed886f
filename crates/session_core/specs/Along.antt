-- What comes of keys that are asked for one after the other: an answer, where none of them is refused, or the first refusal. Each key
-- up to and with the refused one is asked for, and each call is answered.
--
--   of the keys a, b, where b is past a limit, comes the refusal of b
use Rattle.std.specs.Prelude.{◌≡◌, List, None, Some}
use Rattle.oracle_iface.specs.declared.keys.Key.{Key}
use Rattle.oracle_iface.specs.Forcing.{Calls}
use Rattle.homology_rules.specs.Asking.{first_refusal, up_to_refusal, EachAnswered}
use Rattle.session_core.specs.declared.answered.Answered.{Answered}
use Rattle.session_core.specs.declared.answered.Answered.TheVariants.{Told, Over}

abbrev pub ComesAlong : {F A : Type 0} → Calls F → List Key → (A → Type 0) → F → F → Answered A → Type 0
ComesAlong calls ks Is s t (Told a) = (first_refusal ks ≡ None) × Is a × EachAnswered calls s ks t
ComesAlong calls ks Is s t (Over w) = (first_refusal ks ≡ Some w) × EachAnswered calls s (up_to_refusal ks) t
