-- How far the evaluation of a right side has come, as a right side: what is left to be evaluated has the same value, asks for the keys that
-- are left, and asks valid questions only.
use Rattle.std.proofs.Common.{◌≡◌, List, [], ◌∷◌, ◌++◌, Some, None, refl, ◌∙◌, subst}
use Rattle.fp_field.specs.declared.prime.Prime.{Prime}
use Rattle.fp_field.specs.Field.{number}
use Rattle.values.specs.Asks.{Ask, Right, gives, asks, ◌>>=◌, asked_with}
use Rattle.values.specs.Ranks.{IsValid}
use Rattle.values.specs.Values.{value}
use Rattle.values.proofs.Readings.{EachAsk, asked_with-bind}
use Rattle.oracle_iface.specs.declared.keys.Key.{Key}
use Rattle.oracle_iface.specs.declared.bodies.Over.{Over}
use Rattle.oracle_iface.specs.Forcing.{Calls}
use Rattle.homology_rules.specs.Asking.{first_refusal, up_to_refusal, MayForceEach, AskedFirst, EachAnswered}
use Rattle.part_asks.specs.declared.found.Found.{Found}
use Rattle.part_asks.specs.declared.found.Found.TheVariants.{Value, Over as Refused}
use Rattle.part_asks.specs.Reading.{keys_of, value_of, IsFound}
use Rattle.part_asks.proofs.Reached.{Reached, begun, none-refused, through-all, asked-so_far}
use Rattle.part_asks.proofs.Readings.{value-bind, on, asked, refused, through, may_be}

-- a right side after another, after a third
pub bind-assoc : {A B C : Type 0} (m : Right A) (f : A → Right B) (g : B → Right C) → (m >>= f) >>= g ≡ m >>= λ x. f x >>= g
bind-assoc (gives a) f g = refl
bind-assoc (asks k next) f g = λ i. asks k (λ v. bind-assoc (next v) f g i)

ask-first : (P : Ask → Type 0) (js ks : List Ask) → EachAsk P (js ++ ks) → EachAsk P js
ask-first P [] ks h = tt
ask-first P (j ∷ js) ks h = (h.0, ask-first P js ks h.1)

ask-rest : (P : Ask → Type 0) (js ks : List Ask) → EachAsk P (js ++ ks) → EachAsk P ks
ask-rest P [] ks h = h
ask-rest P (j ∷ js) ks h = ask-rest P js ks h.1

-- each question that the right side asks is valid
abbrev pub AsksValid : {A : Type 0} → Prime → Right A → Type 0
AsksValid p R = EachAsk (IsValid (number p)) (asked_with (value (number p)) R)

module _ {F : Type 0} (calls : Calls F) (p : Prime) where
  -- the evaluation of `whole` that began in state s has come to `left` in state t
  pub record Stage {A : Type 0} (whole left : Right A) (s t : F) : Type 0 where
    pub reached : Reached calls (keys_of p whole) s t (keys_of p left)
    pub value_is : value_of p whole ≡ value_of p left
    pub valid : AsksValid p left

  pub stage-start : {A : Type 0} (whole : Right A) (s : F) → AsksValid p whole → Stage whole whole s s
  stage-start whole s v = record { reached = begun calls (keys_of p whole) s; value_is = refl; valid = v }

  module _ {A B : Type 0} (whole : Right B) (m : Right A) (next : A → Right B) (s t : F) (r : Stage whole (m >>= next) s t) where
    abbrev after : Right B
    after = next (value_of p m)

    valid-both : EachAsk (IsValid (number p)) (asked_with (value (number p)) m ++ asked_with (value (number p)) after)
    valid-both = subst (EachAsk (IsValid (number p))) (asked_with-bind (value (number p)) m next) r.valid

    pub may-next : (may : F → Key → Type 0) → MayForceEach may calls s (keys_of p whole) → MayForceEach may calls t (keys_of p m)
    may-next may a = may_be calls p m next r.reached may a

    pub valid-next : AsksValid p m
    valid-next = ask-first (IsValid (number p)) (asked_with (value (number p)) m) (asked_with (value (number p)) after) valid-both

    pub asked-next : (u : F) → AskedFirst calls (keys_of p m) t u → AskedFirst calls (keys_of p whole) s u
    asked-next u h = asked calls p m next r.reached u h

    -- it was refused
    pub refused-whole : (w : Over) → first_refusal (keys_of p m) ≡ Some w → first_refusal (keys_of p whole) ≡ Some w
    refused-whole w e = refused calls p m next r.reached w e

    pub refused-through : (u : F) (w : Over) → first_refusal (keys_of p m) ≡ Some w → EachAnswered calls t (up_to_refusal (keys_of p m)) u
        → EachAnswered calls s (up_to_refusal (keys_of p whole)) u
    refused-through u w e h = through calls p m next r.reached u w e h

    -- it was found
    pub stage-next : (u : F) → first_refusal (keys_of p m) ≡ None → EachAnswered calls t (up_to_refusal (keys_of p m)) u → Stage whole after s u
    stage-next u n h = record {
      reached = on calls p m next r.reached u n h;
      value_is = r.value_is ∙ value-bind p m next;
      valid = ask-rest (IsValid (number p)) (asked_with (value (number p)) m) (asked_with (value (number p)) after) valid-both;
    }

  -- some of it was asked for
  pub stage-asked : {A : Type 0} (whole left : Right A) (s t : F) → Stage whole left s t → AskedFirst calls (keys_of p whole) s t
  stage-asked whole left s t r = asked-so_far calls r.reached

  -- nothing is left
  module _ {A : Type 0} (whole : Right A) (x : A) (s t : F) (r : Stage whole (gives x) s t) where
    pub stage-none : first_refusal (keys_of p whole) ≡ None
    stage-none = none-refused calls r.reached

    pub stage-through : EachAnswered calls s (up_to_refusal (keys_of p whole)) t
    stage-through = through-all calls r.reached
