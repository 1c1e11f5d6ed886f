-- Which keys a session asks an answerer for.
--
-- It asks for valid keys about built spaces alone. On one line the keys, repeats left out, are a beginning of those of the question up to
-- and with the first that is past a limit, repeats left out, in order. Where the line is answered they are all of these, and each call was
-- answered.
--
--   of the keys a, b, a, c of a question, where b is past a limit, a and b are asked for
use Rattle.std.specs.Prelude.{Bool, true, false, List, [], ◌∷◌, All, Contains, Result, Ok, Err}
use Rattle.oracle_iface.specs.declared.keys.Key.{Key}
use Rattle.oracle_iface.specs.Forcing.{Calls, Asked}
use Rattle.susp_rules.specs.Treated.{IsTreated}
use Rattle.homology_rules.specs.Asking.{EachAnswered, up_to_refusal}
use Rattle.session_core.specs.declared.stops.Stop.{Stop}
use Rattle.session_core.specs.declared.stops.Stop.TheVariants as stops

-- it may be asked for each such key, in every state in which calls on such keys can leave it
abbrev pub AnswersAll : {A : Type 0} → (A → Key → Type 0) → Calls A → A → Type 0
AnswersAll {A} may calls s = (ks : List Key) (t : A) (k : Key) → All IsTreated ks → Asked calls s ks t → IsTreated k → may t k

-- Both lists are read from the left, with what was seen so far: the keys, repeats left out, are those at the beginning of the wanted
-- ones, repeats left out.
pub data KeysBegin : List Key → List Key → List Key → Type 0 where
  nothing_asked : (seen ks : List Key) → KeysBegin seen [] ks
  asked_before : (seen : List Key) (q : Key) (qs ks : List Key) → Contains seen q → KeysBegin seen qs ks → KeysBegin seen (q ∷ qs) ks
  wanted_before : (seen : List Key) (k : Key) (qs ks : List Key) → Contains seen k → KeysBegin seen qs ks → KeysBegin seen qs (k ∷ ks)
  asked_now : (seen : List Key) (q : Key) (qs ks : List Key) → KeysBegin (q ∷ seen) qs ks → KeysBegin seen (q ∷ qs) (q ∷ ks)

-- all wanted keys are asked for, and each call was answered, where there is a reply
abbrev pub WholeAtReply : {A : Type 0} → Calls A → A → A → Bool → List Key → List Key → Type 0
WholeAtReply calls s t true qs ks = All (Contains qs) ks × EachAnswered calls s qs t
WholeAtReply calls s t false qs ks = Unit {0}

-- what a line with these keys asks for, and whether there is a reply
pub record AsksKeys {A : Type 0} (calls : Calls A) (keys : List Key) (s t : A) (is_replied : Bool) : Type 0 where
  pub asks : List Key
  pub begins : KeysBegin [] asks (up_to_refusal keys)
  pub asked : Asked calls s asks t
  pub whole : WholeAtReply calls s t is_replied asks (up_to_refusal keys)

-- whether a command has a reply, a refusal among them
abbrev pub is_settled : {X : Type 0} → Result X Stop → Bool
is_settled (Ok x) = true
is_settled (Err (stops.Refused r)) = true
is_settled (Err stops.Memory) = false
