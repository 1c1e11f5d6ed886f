-- Cycles: what their right side asks, its value, and when they are given back.
use Rattle.std.proofs.Common.{◌≡◌, ℕ, zero, suc, ◌<◌, ◌≤◌, false, List, [], ◌∷◌, ◌++◌, inl, inr, refl, sym, ◌∙◌, ap, subst, arith}
use Rattle.std.specs.Prelude.{map, Contains}
use Rattle.fp_field.specs.Chains.{Terms, extend}
use Rattle.fp_field.specs.Normal.{normal}
use Rattle.echelons.specs.Echelon.{Vector}
use Rattle.spaces.specs.Spaces.{Space}
use Rattle.spaces.specs.Orders.{ordered, by_degree}
use Rattle.spaces.specs.SmallCells.{Small, small_degree}
use Rattle.values.specs.Asks.{Ask, Answers, basis, small_d, g, cycles, Cell, Right, gives, ask, each, ◌>>=◌, value_with, asked_with}
use Rattle.values.specs.Cycles.{cycle_vectors, terms_of, carried, rule_cycles}
use Rattle.values.specs.Rules.{joined}
use Rattle.values.specs.Values.{value, value_at, depth, needs}
use Rattle.values.specs.Outcomes.{Limits, made_with, outcome_at, outcome}
use Rattle.values.specs.Ranks.{IsValid, IsLower, IsSmallCell, weight, space_of, is_cycles}
use Rattle.values.specs.BaseLaws.{AtCells, IsBelow, vectors_of_cycles, cells_of, carried_cycles, needs_of_cycles}
use Rattle.values.proofs.Readings.{EachAsk, value_with-bind, asked_with-bind, value_with-agree, outcome_at-of}
use Rattle.values.proofs.Chains.{along, value_with-on_chain, asked_with-on_chain}
use Rattle.values.proofs.BasesLists.{Every, Member, every_member, every_at, contains_of}
use Rattle.values.proofs.BasesAsks.{each_bind, depth-rises, basis-deeper}
use Rattle.values.proofs.BasesOutcomes.{made-agree, basis-outcome_deeper}
use Rattle.values.proofs.BasesCells.{IsOf, all-fine}

-- ---- right sides along a list

module _ (answers : Answers) {A B : Type 0} (t : A → Right B) where
  value_with-each : (xs : List A) → value_with answers (each t xs) ≡ map (λ x. value_with answers (t x)) xs
  value_with-each [] = refl
  value_with-each (x ∷ xs) =
      value_with-bind answers (t x) (λ y. each t xs >>= λ ys. gives (y ∷ ys))
      ∙ value_with-bind answers (each t xs) (λ ys. gives (value_with answers (t x) ∷ ys))
      ∙ ap (λ ys. value_with answers (t x) ∷ ys) (value_with-each xs)

  append_nothing : (ks : List Ask) → ks ++ [] ≡ ks
  append_nothing [] = refl
  append_nothing (k ∷ ks) = ap (λ js. k ∷ js) (append_nothing ks)

  asked_with-each : (xs : List A) → asked_with answers (each t xs) ≡ joined (map (λ x. asked_with answers (t x)) xs)
  asked_with-each [] = refl
  asked_with-each (x ∷ xs) =
      asked_with-bind answers (t x) (λ y. each t xs >>= λ ys. gives (y ∷ ys))
      ∙ ap (λ ks. asked_with answers (t x) ++ ks)
      (asked_with-bind answers (each t xs) (λ ys. gives (value_with answers (t x) ∷ ys)) ∙ append_nothing (asked_with answers (each t xs)) ∙ asked_with-each xs)

  each-ask : (P : Ask → Type 0) (xs : List A) → Every (λ x. EachAsk P (asked_with answers (t x))) xs → EachAsk P (asked_with answers (each t xs))
  each-ask P [] u = tt
  each-ask P (x ∷ xs) u =
      each_bind P answers (t x) (λ y. each t xs >>= λ ys. gives (y ∷ ys)) u.0
      (each_bind P answers (each t xs) (λ ys. gives (value_with answers (t x) ∷ ys)) (each-ask P xs u.1) tt)

-- one question at each element
joined_ones : {A : Type 0} (q : A → Ask) (xs : List A) → joined (map (λ x. q x ∷ []) xs) ≡ map q xs
joined_ones q [] = refl
joined_ones q (x ∷ xs) = ap (λ ks. q x ∷ ks) (joined_ones q xs)

along_ones : {K : Type 0} (q : K → Ask) (c : Terms K) → along (λ k. q k ∷ []) c ≡ map (λ t. q t.0) c
along_ones q [] = refl
along_ones q (t ∷ c) = ap (λ ks. q t.0 ∷ ks) (along_ones q c)

map_same : {A B : Type 0} (r s : A → B) → ((x : A) → r x ≡ s x) → (xs : List A) → map r xs ≡ map s xs
map_same r s e [] = refl
map_same r s e (x ∷ xs) = λ i. e x i ∷ map_same r s e xs i

-- ---- the right side of cycles

module _ (p : ℕ) (a : Space) (n : ℕ) where
  -- the small cells of a vector are among all
  terms-among : (P : Small a → Type 0) (ys : List (Small a)) (v : Vector) → Every P ys → Every (λ t. P t.0) (terms_of p a ys v)
  terms-among P [] v u = tt
  terms-among P (y ∷ ys) [] u = tt
  terms-among P (y ∷ ys) (zero ∷ v) u = terms-among P ys v u.1
  terms-among P (y ∷ ys) (suc b ∷ v) u = (u.0, terms-among P ys v u.1)

  module _ (answers : Answers) where
    abbrev ys : List (Small a)
    ys = answers (basis a n)

    abbrev zs : List (Small a)
    zs = answers (basis a (suc n))

    abbrev vectors : List (Terms (Small a)) → List (Terms (Small a)) → List Vector
    vectors ds es = cycle_vectors p a ys ds es

    abbrev carry : List (Terms (Small a)) → List (Terms (Small a)) → Right (List (Terms (Cell a)))
    carry ds es = each (carried p a ys) (vectors ds es)

    abbrev small_d_of : Small a → Right (Terms (Small a))
    small_d_of y = ask (small_d a y)

    abbrev ds : List (Terms (Small a))
    ds = value_with answers (each small_d_of ys)

    abbrev es : List (Terms (Small a))
    es = value_with answers (each small_d_of zs)

    module _ (P : Ask → Type 0) where
      keys-ask : (c : Terms (Small a)) → Every (λ t. P (g a t.0)) c → EachAsk P (along (λ y. g a y ∷ []) c)
      keys-ask [] u = tt
      keys-ask (t ∷ c) u = (u.0, keys-ask c u.1)

      carried-ask : (v : Vector) → Every (λ y. P (g a y)) ys → EachAsk P (asked_with answers (carried p a ys v))
      carried-ask v u =
          subst (EachAsk P) (sym (asked_with-on_chain answers (λ y. ask (g a y)) (by_degree (ordered a).cmp) p (terms_of p a ys v)))
          (keys-ask (terms_of p a ys v) (terms-among (λ y. P (g a y)) ys v u))

      -- cycles ask about the small cells of degrees n and n + 1 alone
      pub cycles-ask : P (basis a n) → Every (λ y. P (small_d a y)) ys → P (basis a (suc n)) → Every (λ z. P (small_d a z)) zs → Every (λ y. P (g a y)) ys
          → EachAsk P (asked_with answers (rule_cycles p a n))
      cycles-ask b d c e u = (
        b,
        each_bind P answers (each small_d_of ys) (λ vs. ask (basis a (suc n)) >>= λ ws. each small_d_of ws >>= λ us. each (carried p a ys) (cycle_vectors p a ys vs us))
            (each-ask answers small_d_of P ys (ones ys d)) (
              c,
              each_bind P answers (each small_d_of zs) (carry ds) (each-ask answers small_d_of P zs (ones zs e))
                  (each-ask answers (carried p a ys) P (vectors ds es)
                  (every_member (λ v. EachAsk P (asked_with answers (carried p a ys v))) (vectors ds es) (λ v m. carried-ask v u))),
            ),
      )
        where
          ones : (xs : List (Small a)) → Every (λ y. P (small_d a y)) xs → Every (λ y. P (small_d a y) × Unit {0}) xs
          ones [] h = tt
          ones (x ∷ xs) h = ((h.0, tt), ones xs h.1)

    -- what the right side gives, and what it asks
    rule_cycles-value : value_with answers (rule_cycles p a n) ≡ value_with answers (carry ds es)
    rule_cycles-value =
        value_with-bind answers (each small_d_of ys) (λ vs. ask (basis a (suc n)) >>= λ ws. each small_d_of ws >>= λ us. each (carried p a ys) (cycle_vectors p a ys vs us))
        ∙ value_with-bind answers (each small_d_of zs) (carry ds)

    rule_cycles-asked : asked_with answers (rule_cycles p a n)
        ≡ basis a n ∷ (asked_with answers (each small_d_of ys) ++ (basis a (suc n) ∷ (asked_with answers (each small_d_of zs) ++ asked_with answers (carry ds es))))
    rule_cycles-asked = ap (λ ks. basis a n ∷ ks)
        (asked_with-bind answers (each small_d_of ys) (λ vs. ask (basis a (suc n)) >>= λ ws. each small_d_of ws >>= λ us. each (carried p a ys) (cycle_vectors p a ys vs us))
        ∙ ap (λ ks. asked_with answers (each small_d_of ys) ++ (basis a (suc n) ∷ ks)) (asked_with-bind answers (each small_d_of zs) (carry ds)))

  -- ---- with the values

  vectors-value : vectors (value p) (ds (value p)) (es (value p)) ≡ vectors_of_cycles p a n
  vectors-value = λ i. vectors (value p) (value_with-each (value p) (small_d_of (value p)) (ys (value p)) i) (value_with-each (value p) (small_d_of (value p)) (zs (value p)) i)

  pub cycles-value : value_with (value p) (rule_cycles p a n) ≡ carried_cycles p a n
  cycles-value =
      rule_cycles-value (value p)
      ∙ value_with-each (value p) (carried p a (ys (value p))) (vectors (value p) (ds (value p)) (es (value p)))
      ∙ map_same (λ v. value_with (value p) (carried p a (ys (value p)) v))
      (λ v. normal (by_degree (ordered a).cmp) p (extend (λ y. value p (g a y)) (cells_of p a n v)))
      (λ v. value_with-on_chain (value p) (λ y. ask (g a y)) (by_degree (ordered a).cmp) p (cells_of p a n v)) (vectors (value p) (ds (value p)) (es (value p)))
      ∙ ap (map (λ v. normal (by_degree (ordered a).cmp) p (extend (λ y. value p (g a y)) (cells_of p a n v)))) vectors-value

  pub cycles-needs : needs p (cycles a n) ≡ needs_of_cycles p a n
  cycles-needs =
      rule_cycles-asked (value p)
      ∙ (λ i. basis a n ∷ (ones (ys (value p)) i ++ (basis a (suc n) ∷ (ones (zs (value p)) i ++ lasts i))))
    where
      ones : (xs : List (Small a)) → asked_with (value p) (each (small_d_of (value p)) xs) ≡ map (λ y. small_d a y) xs
      ones xs = asked_with-each (value p) (small_d_of (value p)) xs ∙ joined_ones (λ y. small_d a y) xs

      lasts : asked_with (value p) (carry (value p) (ds (value p)) (es (value p))) ≡ joined (map (λ v. map (λ t. g a t.0) (cells_of p a n v)) (vectors_of_cycles p a n))
      lasts =
          asked_with-each (value p) (carried p a (ys (value p))) (vectors (value p) (ds (value p)) (es (value p)))
          ∙ ap joined
          (map_same (λ v. asked_with (value p) (carried p a (ys (value p)) v)) (λ v. map (λ t. g a t.0) (cells_of p a n v))
          (λ v. asked_with-on_chain (value p) (λ y. ask (g a y)) (by_degree (ordered a).cmp) p (cells_of p a n v) ∙ along_ones (λ y. g a y) (cells_of p a n v))
          (vectors (value p) (ds (value p)) (es (value p)))
          ∙ ap (map (λ v. map (λ t. g a t.0) (cells_of p a n v))) vectors-value)

-- ---- what cycles need is valid and of lower rank

in_asks : (P : Ask → Type 0) (ks : List Ask) → EachAsk P ks → Every P ks
in_asks P [] u = tt
in_asks P (k ∷ ks) u = (u.0, in_asks P ks u.1)

pub asked-at : (P : Ask → Type 0) (ks : List Ask) → EachAsk P ks → (j : Ask) → Member j ks → P j
asked-at P ks u j m = every_at P ks j (in_asks P ks u) m

-- a fact of all that cycles need, from that of the small cells of degree n + 1 and less
pub cycles-each : (p : ℕ) (a : Space) (n : ℕ) (P : Ask → Type 0) → ((i : ℕ) → i ≤ suc n → P (basis a i))
    → ((y : Small a) → IsSmallCell p a (small_degree a y) y → small_degree a y ≤ suc n → P (small_d a y) × P (g a y))
    → EachAsk P (needs p (cycles a n))
cycles-each p a n P b u =
    cycles-ask p a n (value p) P (b n (omega arith))
    (every_member (λ y. P (small_d a y)) (value p (basis a n)) (λ y m. (at n y m (omega arith)).0))
    (b (suc n) (omega arith))
    (every_member (λ y. P (small_d a y)) (value p (basis a (suc n))) (λ y m. (at (suc n) y m (omega arith)).0))
    (every_member (λ y. P (g a y)) (value p (basis a n)) (λ y m. (at n y m (omega arith)).1))
  where
    degree : (i : ℕ) (y : Small a) → Member y (value p (basis a i)) → small_degree a y ≡ i
    degree i y m = (every_at (IsOf a i) (value p (basis a i)) y (all-fine p a i).cells m).0

    at : (i : ℕ) (y : Small a) → Member y (value p (basis a i)) → i ≤ suc n → P (small_d a y) × P (g a y)
    at i y m l = u y (subst (λ k. Contains (value p (basis a k)) y) (sym (degree i y m)) (contains_of (value p (basis a i)) y m)) (omega (arith, degree i y m))

pub cycles-below : (p : ℕ) (a : Space) (n : ℕ) → IsValid p (cycles a n) → EachAsk (λ j. IsBelow p j (cycles a n)) (needs p (cycles a n))
cycles-below p a n v =
    cycles-each p a n (λ j. IsBelow p j (cycles a n))
    (λ i l. ((v.0, tt, omega (arith, v.2)), below (basis a i) refl refl, shallow i l))
    (λ y m l. (
      ((v.0, m, omega (arith, v.2)), below (small_d a y) refl refl, shallow (small_degree a y) l),
      ((v.0, m, omega (arith, v.2)), below (g a y) refl refl, shallow (small_degree a y) l),
    ))
  where
    below : (j : Ask) → weight (space_of j) ≡ weight a → is_cycles j ≡ false → IsLower p j (cycles a n)
    below j e f = inr (e, inl (f, refl))

    shallow : (i : ℕ) → i ≤ suc n → depth a i < suc (depth a (suc n))
    shallow i l = let r = depth-rises a i (suc n) l in omega (arith, r)

-- ---- cycles are given back where what they ask is known at the depth

module _ (p : ℕ) (a : Space) (n : ℕ) where
  abbrev deep : ℕ
  deep = depth a (suc n)

  -- the answers about the small cells of degrees n and n + 1 are the values already at this depth
  pub cycles-given_back : EachAsk (λ k. value p k ≡ value_at p deep k) (asked_with (value p) (rule_cycles p a n))
      → value p (cycles a n) ≡ value_with (value p) (rule_cycles p a n)
  cycles-given_back u = sym (value_with-agree (value p) (value_at p deep) (rule_cycles p a n) u)

-- ---- outcomes

pub cycles-outcome : (m : Limits) (p : ℕ) (a : Space) (n : ℕ)
    → EachAsk (λ k. outcome_at m p (depth a (suc n)) k ≡ outcome m p k) (asked_with (value_at p (depth a (suc n))) (rule_cycles p a n))
    → outcome m p (cycles a n) ≡ made_with m p (outcome m p) (cycles a n)
cycles-outcome m p a n u =
    made-agree m p (value_at p (depth a (suc n))) (outcome_at m p (depth a (suc n))) (outcome m p) (outcome_at-of m p (depth a (suc n))) (cycles a n) u

-- ---- from what is known of the small cells

module _ (p : ℕ) (a : Space) (n : ℕ) where
  at-cells : (k : ℕ) (P Q : Small a → Type 0) → ((y : Small a) → P y → Q y) → ((y : Small a) → Contains (value p (basis a k)) y → P y)
      → Every Q (value p (basis a k))
  at-cells k P Q f u = every_member Q (value p (basis a k)) (λ y m. f y (u y (contains_of (value p (basis a k)) y m)))

  deeper : (k : ℕ) → k ≤ suc n → value_at p (depth a (suc n)) (basis a k) ≡ value p (basis a k)
  deeper k l = basis-deeper p (depth a (suc n)) a k (depth-rises a k (suc n) l)

  abbrev Found : Ask → Type 0
  Found k = value_at p (depth a (suc n)) k ≡ value p k

  abbrev Known : Ask → Type 0
  Known k = value p k ≡ value_at p (depth a (suc n)) k

  pub cycles-given_back_at : AtCells p a n Found → value p (cycles a n) ≡ value_with (value p) (rule_cycles p a n)
  cycles-given_back_at u = cycles-given_back p a n
      (cycles-ask p a n (value p) Known (sym (deeper n (omega arith)))
      (at-cells n (λ y. Found (small_d a y) × Found (g a y)) (λ y. Known (small_d a y)) (λ y e. sym e.0) u.0)
      (sym (deeper (suc n) (omega arith)))
      (at-cells (suc n) (λ y. Found (small_d a y)) (λ y. Known (small_d a y)) (λ y e. sym e) u.1)
      (at-cells n (λ y. Found (small_d a y) × Found (g a y)) (λ y. Known (g a y)) (λ y e. sym e.1) u.0))

  module _ (m : Limits) where
    abbrev Same : Ask → Type 0
    Same k = outcome_at m p (depth a (suc n)) k ≡ outcome m p k

    pub cycles-outcome_at : AtCells p a n Same → outcome m p (cycles a n) ≡ made_with m p (outcome m p) (cycles a n)
    cycles-outcome_at u = cycles-outcome m p a n
        (cycles-ask p a n (value_at p (depth a (suc n))) Same
        (basis-outcome_deeper m p (depth a (suc n)) a n (depth-rises a n (suc n) (omega arith)))
        (subst (Every (λ y. Same (small_d a y))) (sym (deeper n (omega arith)))
        (at-cells n (λ y. Same (small_d a y) × Same (g a y)) (λ y. Same (small_d a y)) (λ y e. e.0) u.0))
        (basis-outcome_deeper m p (depth a (suc n)) a (suc n) (let r : depth a (suc n) ≤ depth a (suc n) = omega arith in r))
        (subst (Every (λ y. Same (small_d a y))) (sym (deeper (suc n) (omega arith)))
        (at-cells (suc n) (λ y. Same (small_d a y)) (λ y. Same (small_d a y)) (λ y e. e) u.1))
        (subst (Every (λ y. Same (g a y))) (sym (deeper n (omega arith)))
        (at-cells n (λ y. Same (small_d a y) × Same (g a y)) (λ y. Same (g a y)) (λ y e. e.1) u.0)))
