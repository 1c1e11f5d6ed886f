-- What the cycles of a degree need: small cells, their small differentials, and G at small cells.
use Rattle.std.proofs.Common.{◌≡◌, ℕ, zero, suc, List, [], ◌∷◌, ◌++◌, refl, sym, ◌∙◌, ap, subst}
use Rattle.std.specs.Prelude.{Contains}
use Rattle.std.proofs.lemmas.List.Elements.{All-from_recursion, All-contains, recursion_from_All, All-contains_itself}
use Rattle.fp_field.specs.declared.prime.Prime.{Prime}
use Rattle.fp_field.specs.Field.{number}
use Rattle.fp_field.specs.Chains.{Terms, Each, scale}
use Rattle.fp_field.specs.Normal.{normal}
use Rattle.spaces.specs.Spaces.{Space}
use Rattle.spaces.specs.Orders.{ordered, by_degree}
use Rattle.spaces.specs.SmallCells.{Small}
use Rattle.spaces.specs.Allowed.{Admits}
use Rattle.values.specs.Asks.{Ask, Answers, Right, gives, ask, ◌>>=◌, value_with, asked_with, each, across, basis, small_d, g, f, h, cycles}
use Rattle.values.specs.Cycles.{terms_of, carried as carried_by, cycle_vectors, rule_cycles}
use Rattle.values.specs.Values.{value, needs}
use Rattle.values.specs.Ranks.{space_of as space_asked}
use Rattle.values.proofs.Readings.{asked_with-bind}
use Rattle.term_lang.specs.SpaceOf.{space_of}
use Rattle.oracle_iface.specs.declared.keys.Key.{Key}
use Rattle.oracle_iface.specs.declared.keys.Op.{Op}
use Rattle.oracle_iface.specs.declared.keys.Op.TheVariants.{Basis, SmallD, F, G, H, Cycles}
use Rattle.oracle_iface.specs.declared.keys.Place.{Place}
use Rattle.oracle_iface.specs.declared.keys.Place.TheVariants.{Degree, Small as SmallPlace, Big as BigPlace}
use Rattle.oracle_iface.specs.Keys.{question_at, question_of, op_of, needs_of, IsValidKey}
use Rattle.oracle_iface.specs.KeyLaws.{IsNamed, IsReadBack, CyclesNeed, cells_in, cells_above, differential_in, differential_above, carried}
use Rattle.oracle_iface.proofs.Named.{named-of}
use Rattle.oracle_iface.proofs.ProperBases.{Every, every, every_append, listed-proper}
use Rattle.oracle_iface.proofs.KeysBack.{basis-back, small_d-back, g-back}

-- ---- questions of right sides, all of which have a property

module _ (answers : Answers) (P : Ask → Type 0) where
  abbrev Only : {A : Type 0} → Right A → Type 0
  Only r = Every P (asked_with answers r)

  only-bind : {A B : Type 0} (m : Right A) (next : A → Right B) → Only m → Only (next (value_with answers m)) → Only (m >>= next)
  only-bind m next first second =
      subst (Every P) (sym (asked_with-bind answers m next)) (every_append P (asked_with answers m) (asked_with answers (next (value_with answers m))) first second)

  only-each : {A B : Type 0} (t : A → Right B) (xs : List A) → Every (λ x. Only (t x)) xs → Only (each t xs)
  only-each t [] e = tt
  only-each t (x ∷ xs) e =
      only-bind (t x) (λ y. each t xs >>= λ ys. gives (y ∷ ys)) e.0
      (only-bind (each t xs) (λ ys. gives (value_with answers (t x) ∷ ys)) (only-each t xs e.1) tt)

  only-across : {K J : Type 0} (t : K → Right (Terms J)) (c : Terms K) → Each (λ k. Only (t k)) c → Only (across t c)
  only-across t [] e = tt
  only-across t (x ∷ c) e =
      only-bind (t x.0) (λ y. across t c >>= λ rest. gives (scale x.1 y ++ rest)) e.0
      (only-bind (across t c) (λ rest. gives (scale x.1 (value_with answers (t x.0)) ++ rest)) (only-across t c e.1) tt)

-- ---- cycles

module _ (p : ℕ) (a : Space) (P : Small a → Type 0) where
  -- the small cells of a vector
  each-terms_of : (ys : List (Small a)) (v : List ℕ) → Every P ys → Each P (terms_of p a ys v)
  each-terms_of [] v e = tt
  each-terms_of (y ∷ ys) [] e = tt
  each-terms_of (y ∷ ys) (zero ∷ v) e = each-terms_of ys v e.1
  each-terms_of (y ∷ ys) (suc b ∷ v) e = (e.0, each-terms_of ys v e.1)

each_weaker : {K : Type 0} (P Q : K → Type 0) (c : Terms K) → ((k : K) → P k → Q k) → Each P c → Each Q c
each_weaker P Q [] w e = tt
each_weaker P Q (t ∷ c) w e = (w t.0 e.0, each_weaker P Q c w e.1)

itself : {X : Type 0} (xs : List X) → Every (Contains xs) xs
itself xs = recursion_from_All (Contains xs) xs (All-contains_itself xs)

every_of : {X : Type 0} (P : X → Type 0) (xs : List X) → ((x : X) → P x) → Every P xs
every_of P [] w = tt
every_of P (x ∷ xs) w = (w x, every_of P xs w)

module _ (p : ℕ) (a : Space) (n : ℕ) where
  abbrev Need : Ask → Type 0
  Need q = CyclesNeed p a n q

  abbrev ys : List (Small a)
  ys = value p (basis a n)

  abbrev zs : List (Small a)
  zs = value p (basis a (suc n))

  carried-only : (v : List ℕ) → Only (value p) Need (carried_by p a ys v)
  carried-only v =
      only-bind (value p) Need (across (λ y. ask (g a y)) (terms_of p a ys v)) (λ s. gives (normal (by_degree (ordered a).cmp) p s))
      (only-across (value p) Need (λ y. ask (g a y)) (terms_of p a ys v)
      (each_weaker (Contains ys) (λ y. Only (value p) Need (ask (g a y))) (terms_of p a ys v) (λ y is. (carried y is refl, tt))
      (each-terms_of p a (Contains ys) ys v (itself ys))))
      tt

  cycles-only : Only (value p) Need (rule_cycles p a n)
  cycles-only = (
    cells_in refl,
    only-bind (value p) Need (each (λ y. ask (small_d a y)) ys)
        (λ ds. ask (basis a (suc n)) >>= λ above. each (λ z. ask (small_d a z)) above >>= λ es. each (carried_by p a ys) (cycle_vectors p a ys ds es))
        (only-each (value p) Need (λ y. ask (small_d a y)) ys
        (every (Contains ys) (λ y. Only (value p) Need (ask (small_d a y))) ys (λ y is. (differential_in y is refl, tt)) (itself ys))) (
          cells_above refl,
          only-bind (value p) Need (each (λ z. ask (small_d a z)) zs)
              (λ es. each (carried_by p a ys) (cycle_vectors p a ys (value_with (value p) (each (λ y. ask (small_d a y)) ys)) es))
              (only-each (value p) Need (λ z. ask (small_d a z)) zs
              (every (Contains zs) (λ z. Only (value p) Need (ask (small_d a z))) zs (λ z is. (differential_above z is refl, tt)) (itself zs)))
              (only-each (value p) Need (carried_by p a ys) vectors (every_of (λ v. Only (value p) Need (carried_by p a ys v)) vectors carried-only)),
        ),
  )
    where
      vectors : List (List ℕ)
      vectors =
          cycle_vectors p a ys (value_with (value p) (each (λ y. ask (small_d a y)) ys)) (value_with (value p) (each (λ z. ask (small_d a z)) zs))

  pub cycles-need : (q : Ask) → Contains (needs p (cycles a n)) q → CyclesNeed p a n q
  cycles-need q is = All-contains Need (needs p (cycles a n)) q (All-from_recursion Need (needs p (cycles a n)) cycles-only) is

-- ---- each need is read back

pub need-back : (p : Prime) (a : Space) (n : ℕ) (q : Ask) → IsNamed a → Admits a → CyclesNeed (number p) a n q → IsReadBack p q
need-back p a n q named admits (cells_in e) = subst (IsReadBack p) (sym e) (basis-back p a named n)
need-back p a n q named admits (cells_above e) = subst (IsReadBack p) (sym e) (basis-back p a named (suc n))
need-back p a n q named admits (differential_in y is e) =
    subst (IsReadBack p) (sym e) (small_d-back p a named y (listed-proper (number p) a n y admits is))
need-back p a n q named admits (differential_above y is e) =
    subst (IsReadBack p) (sym e) (small_d-back p a named y (listed-proper (number p) a (suc n) y admits is))
need-back p a n q named admits (carried y is e) = subst (IsReadBack p) (sym e) (g-back p a named y (listed-proper (number p) a n y admits is))

-- ---- the space of a key

pub space_read : (o : Op) (place : Place) (a : Space) → space_asked (question_at o place a) ≡ a
space_read Basis (Degree n) a = refl
space_read Cycles (Degree n) a = refl
space_read SmallD (SmallPlace y) a = refl
space_read G (SmallPlace y) a = refl
space_read F (BigPlace x) a = refl
space_read H (BigPlace x) a = refl
space_read o place a = refl

pub key-space : (k : Key) → space_asked (question_of k) ≡ space_of k.term
key-space k = space_read k.op k.place (space_of k.term)

pub key-named : (k : Key) → IsNamed (space_asked (question_of k))
key-named k = named-of (space_asked (question_of k)) k.term (key-space k)

pub key-op : (k : Key) → IsValidKey k → op_of (question_of k) ≡ k.op
key-op k is = sym (ap (λ (z : Key). z.op) is.key_is)

-- what a valid key of cycles needs
of_cycles : (p : Prime) (k q : Ask) → IsNamed (space_asked k) → Admits (space_asked k) → op_of k ≡ Cycles → Contains (needs (number p) k) q → IsReadBack p q
of_cycles p (cycles a n) q named admits e is = need-back p a n q named admits (cycles-need (number p) a n q is)
of_cycles p (basis a n) q named admits e is = absurd (cc)
of_cycles p (small_d a y) q named admits e is = absurd (cc)
of_cycles p (f a n x) q named admits e is = absurd (cc)
of_cycles p (g a y) q named admits e is = absurd (cc)
of_cycles p (h a n x) q named admits e is = absurd (cc)

pub needs-back : (k : Key) (q : Ask) → IsValidKey k → k.op ≡ Cycles → Contains (needs_of k) q → IsReadBack k.prime q
needs-back k q valid e is = of_cycles k.prime (question_of k) q (key-named k) valid.question.0.0 (key-op k valid ∙ e) is
