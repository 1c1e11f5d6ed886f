-- What the publications of a list of events come to, where each is made from those before it.
--
-- The numbers of keys stand for the keys of a list, and each publication has an outcome, given by its place. It is made over the pairs of
-- the publications before it: the outcome of each needed question is taken from such a pair, or is itself made over them.
--
--   in the list claim 0, publish 0, claim 1, publish 1 the second publication may take what it needs from the first, or make it anew
use Rattle.std.specs.Prelude.{◌≡◌, ℕ, ◌<◌, List, slice_get, Some, All}
use Rattle.fp_field.specs.declared.prime.Prime.{Prime}
use Rattle.fp_field.specs.Field.{number}
use Rattle.values.specs.Asks.{Ask, Answer}
use Rattle.values.specs.BaseLaws.{NeedsAreBelow}
use Rattle.values.specs.Outcomes.{Outcome, MadeOver, usual_limits, outcome, made_with}
use Rattle.values.specs.Ranks.{IsValid}
use Rattle.oracle_iface.specs.Board.{publishes, Event}
use Rattle.oracle_iface.specs.Keys.{question_of}
use Rattle.oracle_iface.specs.declared.keys.Key.{Key}

-- a question over a field, with an outcome
pub record Pair : Type 0 where
  pub prime : ℕ
  pub question : Ask
  pub outcome : Outcome (Answer question)

-- an outcome of the question of each key
abbrev pub KeyOutcomes : Type 0
KeyOutcomes = (k : Key) → Outcome (Answer (question_of k))

abbrev pub pair_of : (k : Key) → Outcome (Answer (question_of k)) → Pair
pair_of k o = record { prime = number k.prime; question = question_of k; outcome = o }

abbrev pub pair : (p : ℕ) (q : Ask) → Outcome (Answer q) → Pair
pair p q o = record { prime = p; question = q; outcome = o }

-- the outcome of a key
abbrev pub outcome_of : KeyOutcomes
outcome_of k = outcome usual_limits (number k.prime) (question_of k)

-- the key is published at the place
pub record IsPublished (keys : List Key) (events : List Event) (place : ℕ) (k : Key) : Type 0 where
  pub event : Event
  pub at : slice_get events place ≡ Some event
  pub is_publication : event.act ≡ publishes
  pub key : slice_get keys event.key ≡ Some k

module _ (keys : List Key) (events : List Event) (given : ℕ → KeyOutcomes) where
  -- the outcome for the question is that of a publication before the place
  pub record IsBefore (place p : ℕ) (q : Ask) (o : Outcome (Answer q)) : Type 0 where
    pub earlier : ℕ
    pub before : earlier < place
    pub key : Key
    pub published : IsPublished keys events earlier key
    pub is : pair_of key (given earlier key) ≡ pair p q o

  -- each publication is made over those before it
  abbrev pub AreMade : Type 0
  AreMade =
      (place : ℕ) (k : Key) → IsPublished keys events place k
      → MadeOver usual_limits (number k.prime) (IsBefore place (number k.prime)) (question_of k) (given place k)

  -- each publication has the outcome of its key
  abbrev pub AreRight : Type 0
  AreRight = (place : ℕ) (k : Key) → IsPublished keys events place k → given place k ≡ outcome_of k

-- for keys of the list that are all of some kind: what is made over earlier publications is right
abbrev pub AllMadeIsRight : (Key → Type 0) → Type 0
AllMadeIsRight Kind =
    (keys : List Key) (events : List Event) (given : ℕ → KeyOutcomes) → All Kind keys → AreMade keys events given → AreRight keys events given

-- the outcome of the key is what its rule makes of the outcomes of what it needs
abbrev pub IsGivenBack : Key → Type 0
IsGivenBack k = outcome_of k ≡ made_with usual_limits (number k.prime) (outcome usual_limits (number k.prime)) (question_of k)

-- what each valid question needs is valid, of lower rank and of less depth
abbrev pub AllNeedsAreBelow : Type 0
AllNeedsAreBelow = (p : Prime) (q : Ask) → IsValid (number p) q → NeedsAreBelow (number p) q
