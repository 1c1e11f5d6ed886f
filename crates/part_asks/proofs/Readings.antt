-- Right sides that are evaluated part by part: the keys of a right side are those of its first part and then those of what follows at the
-- first part's value. So what is reached when the first part is done goes on with what follows, and what the first part comes to where it is
-- refused is what the whole comes to.
--
-- In an answer, `begun` (of Reached) says what is reached at the start, and `on` after a call that gave a value. `may_be` gives what the next
-- call requires, `asked` is for its returns on want of memory, `refused` and `through` for its refusal. At the end stand `none-refused`,
-- `through-all` and `asked-so_far` (of Reached).
use Rattle.std.proofs.Common.{◌≡◌, ℕ, List, [], ◌∷◌, ◌++◌, map, Some, None, refl, ◌∙◌, ap, subst}
use Rattle.std.proofs.lemmas.List.{map-append}
use Rattle.std.specs.declared.cmp.Ordering.{Ordering}
use Rattle.fp_field.specs.declared.prime.Prime.{Prime}
use Rattle.fp_field.specs.Field.{number}
use Rattle.fp_field.specs.Chains.{Terms, scale, extend}
use Rattle.fp_field.specs.Normal.{normal}
use Rattle.values.specs.Asks.{Right, gives, ◌>>=◌, each, across, on_chain}
use Rattle.values.specs.Values.{value}
use Rattle.values.proofs.Readings.{value_with-bind, asked_with-bind}
use Rattle.values.proofs.Chains.{value_with-on_chain}
use Rattle.oracle_iface.specs.declared.keys.Key.{Key}
use Rattle.oracle_iface.specs.declared.bodies.Over.{Over}
use Rattle.oracle_iface.specs.Forcing.{Calls}
use Rattle.oracle_iface.specs.Keys.{key_of}
use Rattle.homology_rules.specs.Asking.{first_refusal, up_to_refusal, MayForceEach, AskedFirst, EachAnswered}
use Rattle.part_asks.specs.declared.found.Found.{Found}
use Rattle.part_asks.specs.declared.found.Found.TheVariants.{Value, Over as Refused}
use Rattle.part_asks.specs.Reading.{keys_of, value_of, IsFound}
use Rattle.part_asks.proofs.Reached.{Reached, passed, asked-within, refused-within, through-within, may-next}

-- ---- keys and values

append-nothing : {A : Type 0} (xs : List A) → xs ++ [] ≡ xs
append-nothing [] = refl
append-nothing (x ∷ xs) = ap (λ ys. x ∷ ys) (append-nothing xs)

module _ (p : Prime) where
  pub keys-bind : {A B : Type 0} (m : Right A) (next : A → Right B) → keys_of p (m >>= next) ≡ keys_of p m ++ keys_of p (next (value_of p m))
  keys-bind m next = ap (map (key_of p)) (asked_with-bind (value (number p)) m next) ∙ map-append (key_of p) _ _

  pub value-bind : {A B : Type 0} (m : Right A) (next : A → Right B) → value_of p (m >>= next) ≡ value_of p (next (value_of p m))
  value-bind m next = value_with-bind (value (number p)) m next

  -- a first part, with nothing asked for behind it
  pub keys-then : {A B : Type 0} (m : Right A) (f : A → B) → keys_of p (m >>= λ a. gives (f a)) ≡ keys_of p m
  keys-then m f = keys-bind m (λ a. gives (f a)) ∙ append-nothing (keys_of p m)

  -- element by element
  pub keys-each : {A B : Type 0} (t : A → Right B) (x : A) (xs : List A) → keys_of p (each t (x ∷ xs)) ≡ keys_of p (t x) ++ keys_of p (each t xs)
  keys-each t x xs = keys-bind (t x) (λ y. each t xs >>= λ ys. gives (y ∷ ys)) ∙ ap (λ ks. keys_of p (t x) ++ ks) (keys-then (each t xs) (λ ys. value_of p (t x) ∷ ys))

  pub value-each : {A B : Type 0} (t : A → Right B) (xs : List A) → value_of p (each t xs) ≡ map (λ x. value_of p (t x)) xs
  value-each t [] = refl
  value-each t (x ∷ xs) =
      value-bind (t x) (λ y. each t xs >>= λ ys. gives (y ∷ ys)) ∙ value-bind (each t xs) (λ ys. gives (value_of p (t x) ∷ ys))
      ∙ ap (λ ys. value_of p (t x) ∷ ys) (value-each t xs)

  -- along the terms of a chain
  module _ {K J : Type 0} (t : K → Right (Terms J)) where
    pub keys-across : (k : K) (n : ℕ) (c : Terms K) → keys_of p (across t ((k, n) ∷ c)) ≡ keys_of p (t k) ++ keys_of p (across t c)
    keys-across k n c =
        keys-bind (t k) (λ y. across t c >>= λ rest. gives (scale n y ++ rest))
        ∙ ap (λ ks. keys_of p (t k) ++ ks) (keys-then (across t c) (λ rest. scale n (value_of p (t k)) ++ rest))

    pub keys-on_chain : (cmp : J → J → Ordering) (n : ℕ) (c : Terms K) → keys_of p (on_chain cmp n t c) ≡ keys_of p (across t c)
    keys-on_chain cmp n c = keys-then (across t c) (λ s. normal cmp n s)

    pub value-on_chain : (cmp : J → J → Ordering) (n : ℕ) (c : Terms K) → value_of p (on_chain cmp n t c) ≡ normal cmp n (extend (λ k. value_of p (t k)) c)
    value-on_chain cmp n c = value_with-on_chain (value (number p)) t cmp n c

-- ---- what a call found

module _ {A T : Type 0} (quote : A → T) (p : Prime) (m : Right A) where
  pub found-none : (o : Found T) (v : T) → o ≡ Value v → IsFound quote p m o → first_refusal (keys_of p m) ≡ None
  found-none o v e h = (subst (IsFound quote p m) e h).0

  pub found-value : (o : Found T) (v : T) → o ≡ Value v → IsFound quote p m o → v ≡ quote (value_of p m)
  found-value o v e h = (subst (IsFound quote p m) e h).1

  pub found-over : (o : Found T) (w : Over) → o ≡ Refused w → IsFound quote p m o → first_refusal (keys_of p m) ≡ Some w
  found-over o w e h = subst (IsFound quote p m) e h

-- ---- the first part of what is left

module _ {F : Type 0} (calls : Calls F) (p : Prime) {A B : Type 0} (m : Right A) (next : A → Right B) {ks : List Key} {s t : F} (h : Reached calls ks s t (keys_of p (m >>= next))) where
  -- it was evaluated, and no key was refused
  pub on : (u : F) → first_refusal (keys_of p m) ≡ None → EachAnswered calls t (up_to_refusal (keys_of p m)) u → Reached calls ks s u (keys_of p (next (value_of p m)))
  on u e g = passed calls (keys_of p m) (keys_of p (next (value_of p m))) u (keys-bind p m next) h e g

  -- it was begun
  pub asked : (u : F) → AskedFirst calls (keys_of p m) t u → AskedFirst calls ks s u
  asked u g = asked-within calls h (keys_of p m) (keys_of p (next (value_of p m))) (keys-bind p m next) u g

  -- it was refused
  pub refused : (w : Over) → first_refusal (keys_of p m) ≡ Some w → first_refusal ks ≡ Some w
  refused w e = refused-within calls h (keys_of p m) (keys_of p (next (value_of p m))) (keys-bind p m next) t w e

  pub through : (u : F) (w : Over) → first_refusal (keys_of p m) ≡ Some w → EachAnswered calls t (up_to_refusal (keys_of p m)) u → EachAnswered calls s (up_to_refusal ks) u
  through u w e g = through-within calls h (keys_of p m) (keys_of p (next (value_of p m))) (keys-bind p m next) u w e g

  -- it may be evaluated
  pub may_be : (may : F → Key → Type 0) → MayForceEach may calls s ks → MayForceEach may calls t (keys_of p m)
  may_be may a = may-next may calls h a (keys_of p m) (keys_of p (next (value_of p m))) (keys-bind p m next)
