-- What stands behind the space and the degree of a question.
use Rattle.std.proofs.Common.{◌≡◌, ℕ, Bool, true, false, List, Err, refl, ◌∙◌, ap}
use Rattle.term_lang.specs.declared.terms.Term.{Term}
use Rattle.oracle_iface.specs.declared.keys.Key.{Key}
use Rattle.oracle_iface.specs.Forcing.{Calls}
use Rattle.script_lang.specs.declared.exprs.Expr.{Expr}
use Rattle.session_core.specs.declared.stops.Stop.{Stop}
use Rattle.session_core.specs.declared.stops.Stop.TheVariants as stops
use Rattle.session_core.specs.Answer.{Names, State, Told, told, refused, ◌>>◌, told_space, told_degree}
use Rattle.session_core.specs.Asked.{AsksKeys, is_settled}
use Rattle.session_core.specs.Lines.{keys_or_none}
use Rattle.session_core.specs.Spots.{told_spot}
use Rattle.session_core.specs.Telling.{Stops}
use Rattle.session_core.proofs.NothingAsked.{asks_none, asks_not_yet}

abbrev pub pair_of : Term → ℕ → Term × ℕ
pair_of t d = (t, d)

grouped : {B : Type 0} (m : Told Term) (k : Told ℕ) (next : Term → ℕ → Told B) → (m >> λ t. k >> λ d. next t d) ≡ ((m >> λ t. k >> λ d. told (pair_of t d)) >> λ x. next x.0 x.1)
grouped (told t) (told d) next = refl
grouped (told t) (refused r) next = refl
grouped (refused r) k next = refl

module _ {B : Type 0} (names : Names) (e : Expr) (n : ℕ) (next : Term → ℕ → Told B) where
  -- what the question comes to, behind its space and its degree
  abbrev pub after_spot : Told B
  after_spot = told_space names e >> λ t. told_degree n >> λ m. next t m

  behind-spot : after_spot ≡ (told_spot names e n >> λ x. next x.0 x.1)
  behind-spot = grouped (told_space names e) (told_degree n) next

  pub at_spot : (t : Term) (m : ℕ) → told_spot names e n ≡ told (pair_of t m) → after_spot ≡ next t m
  at_spot t m h = behind-spot ∙ ap (λ x. x >> λ y. next y.0 y.1) h

  pub spot_stops : (s : Stop) → Stops s (told_spot names e n) → Stops s after_spot
  spot_stops (stops.Refused r) h = behind-spot ∙ ap (λ x. x >> λ y. next y.0 y.1) h
  spot_stops stops.Memory h = tt

-- a question that stops before its keys asks for none
pub asks_none_stopped : (X : Type 0) {A : Type 0} (calls : Calls A) (state : State) (s : Stop) (m : Told (List Key)) (x : A) → Stops s m → AsksKeys calls (keys_or_none state m) x x (is_settled {X = X} (Err s))
asks_none_stopped X calls state (stops.Refused r) m x h = asks_none calls (keys_or_none state m) x true (ap (keys_or_none state) h)
asks_none_stopped X calls state stops.Memory m x h = asks_not_yet calls (keys_or_none state m) x

-- what is asked for a reply is asked whatever comes of it
pub asks_for : {A : Type 0} (calls : Calls A) (keys : List Key) (x y : A) (b : Bool) → AsksKeys calls keys x y true → AsksKeys calls keys x y b
asks_for calls keys x y true h = h
asks_for calls keys x y false h = record { asks = h.asks; begins = h.begins; asked = h.asked; whole = tt }
