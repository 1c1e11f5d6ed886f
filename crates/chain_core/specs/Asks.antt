-- What a call asks of its source, in order, and what stands after the call. A source is what a map draws on,
-- such as a table of values that are already known (the effective chain complexes of Rubio and Sergeraert,
-- Constructive Homological Algebra and Applications, whose maps may call one another).
--
--   of the asks 1, 2, 3 of which 2 meets a refusal, 1 and 2 are made, and the answer is that refusal
use Rattle.std.specs.Prelude.{◌≡◌, ℕ, List, [], ◌∷◌, ◌++◌, Option, Some, None, Result, Ok, Err}

-- each ask of the list may be made in every state in which the asks before it can leave the source
abbrev pub MayAsk : {S A : Type 0} → (S → A → Type 0) → (S → List A → S → Type 0) → S → List A → Type 0
MayAsk {S} {A} can runs s asks = (before : List A) (a : A) (after : List A) (t : S) → asks ≡ before ++ a ∷ after → runs s before t → can t a

abbrev pub NoneRefused : {A R : Type 0} → (A → Option R) → List A → Type 0
NoneRefused refusal [] = Unit {0}
NoneRefused refusal (a ∷ asks) = (refusal a ≡ None) × NoneRefused refusal asks

-- the same of all but the last
abbrev pub NoneRefusedButLast : {A R : Type 0} → (A → Option R) → List A → Type 0
NoneRefusedButLast refusal [] = Unit {0}
NoneRefusedButLast refusal (a ∷ []) = Unit {0}
NoneRefusedButLast refusal (a ∷ (b ∷ asks)) = (refusal a ≡ None) × NoneRefusedButLast refusal (b ∷ asks)

-- after an Ok: the whole list was asked, and no ask met a refusal
pub record AskedAll {S A R : Type 0} (runs : S → List A → S → Type 0) (refusal : A → Option R) (old : S) (asks : List A) (new : S) : Type 0 where
  pub ran : runs old asks new
  pub granted : NoneRefused refusal asks

-- after a refusal: the list was asked up to and with the first ask that meets a refusal, which is the answer
pub record AskedToRefusal {S A R : Type 0} (runs : S → List A → S → Type 0) (refusal : A → Option R) (old : S) (asks : List A) (new : S) (r : R) : Type 0 where
  pub before : List A
  pub ask : A
  pub after : List A
  pub order : asks ≡ before ++ ask ∷ after
  pub granted : NoneRefused refusal before
  pub refused : refusal ask ≡ Some r
  pub ran : runs old (before ++ ask ∷ []) new

-- after want of memory: a prefix was asked, of which at most the last ask meets a refusal
pub record AskedPart {S A R : Type 0} (runs : S → List A → S → Type 0) (refusal : A → Option R) (old : S) (asks : List A) (new : S) : Type 0 where
  pub before : List A
  pub after : List A
  pub order : asks ≡ before ++ after
  pub ran : runs old before new
  pub granted : NoneRefusedButLast refusal before

-- what stands after a stop, which is a refusal or want of memory
abbrev pub AskedUntil : {S A R : Type 0} → (S → List A → S → Type 0) → (A → Option R) → S → List A → S → Option R → Type 0
AskedUntil runs refusal old asks new (Some r) = AskedToRefusal runs refusal old asks new r
AskedUntil runs refusal old asks new None = AskedPart runs refusal old asks new

-- What stands after a call that answers with an Ok or a stop.
abbrev pub Asked : {S A R V E : Type 0} → (S → List A → S → Type 0) → (A → Option R) → (E → Option R) → S → List A → S → Result V E → Type 0
Asked runs refusal stop old asks new (Ok v) = AskedAll runs refusal old asks new
Asked runs refusal stop old asks new (Err e) = AskedUntil runs refusal old asks new (stop e)

-- the lists of the keys of a chain, one after the other
abbrev pub asks_along : {K A : Type 0} → (K → List A) → List (K × ℕ) → List A
asks_along asks [] = []
asks_along asks (t ∷ c) = asks t.0 ++ asks_along asks c

-- The key at which a map stopped: the keys before it were mapped, and on it the map answered the stop.
pub record StoppedAtKey {S K A R : Type 0} (runs : S → List A → S → Type 0) (refusal : A → Option R) (asks : K → List A) (old : S) (terms : List (K × ℕ)) (new : S) (stop : Option R) : Type 0 where
  pub before : List (K × ℕ)
  pub key : K × ℕ
  pub after : List (K × ℕ)
  pub state : S
  pub order : terms ≡ before ++ key ∷ after
  pub mapped : AskedAll runs refusal old (asks_along asks before) state
  pub stopped : AskedUntil runs refusal state (asks key.0) new stop
