-- The listed cycles of a space are a homology list, where its maps are a reduction.
use Rattle.std.proofs.Common.{◌≡◌, ◌↔◌, ℕ, zero, suc, ◌+◌, ◌*◌, ◌-◌, ◌%◌, ◌<◌, Bool, true, cond, List, [], ◌∷◌, ◌++◌, map, length, refl, sym, ◌∙◌, ap, subst, arith, true≢false}
use Rattle.std.proofs.lemmas.List.Elements.{All-contains_itself}
use Rattle.std.proofs.lemmas.Map.Views.{list_any-from_Contains}
use Rattle.std.specs.Ordering.{is_eq, nat_cmp}
use Rattle.std.specs.declared.cmp.Ordering.{Ordering}
use Rattle.std.specs.Cmp.{IsTotalOrder, Equal-is, eq_by_cmp_equiv}
use Rattle.fp_field.specs.Field.{SameMod, IsField}
use Rattle.fp_field.specs.Chains.{Terms, weigh, coeff, scale, extend, combination, Each}
use Rattle.fp_field.specs.Normal.{normal}
use Rattle.fp_field.specs.Reduction.{SameTerms, Maps}
use Rattle.fp_field.proofs.Weights.{weigh-extend, Each-append, Each-scale, Each-extend}
use Rattle.fp_field.proofs.Normals.{weigh-normal, normal-same}
use Rattle.fp_field.proofs.FlowLaws.{Each-normal}
use Rattle.fp_field.proofs.Fair.{Fair, under}
use Rattle.echelons.specs.Echelon.{Vector, complement, in_span}
use Rattle.spaces.specs.Simplicial.{IsSimplicial}
use Rattle.spaces.specs.Homology.{IsChain, Same, boundary, HomologyList}
use Rattle.spaces.specs.Spaces.{Space, Plain, set_of}
use Rattle.echelons.proofs.Vectors.{Each-any}
use Rattle.std.proofs.Math.ListN.{length-map}
use Rattle.spaces.specs.Orders.{ordered, by_degree}
use Rattle.spaces.specs.SmallCells.{Small, small_cmp}
use Rattle.spaces.proofs.Orders.{Apart, then-first, then-second, ordered-apart, small-apart}
use Rattle.spaces.proofs.SpaceLaws.{space_set_laws}
use Rattle.std.proofs.lemmas.Map.Lookups.{exact_unsigned}
use Rattle.values.specs.Asks.{Answers, Right, gives, ask, basis, small_d, g, cycles, Cell, value_with, each, ◌>>=◌}
use Rattle.values.specs.Values.{value}
use Rattle.values.specs.Cycles.{is_empty, coordinates, is_small_cycle, cycle_vectors, terms_of, carried, rule_cycles}
use Rattle.values.specs.Laws.{cells, smalls, maps_of, plain_chain}
use Rattle.values.proofs.Readings.{value_with-bind}
use Rattle.values.proofs.Chains.{value_with-on_chain}
use Rattle.homology_laws.specs.Lists.{chain_on, IsCycleOf, HomologyListOf, IsBase, IsCycleTest, HasKeys, d_rank, homology_vectors}
use Rattle.homology_laws.specs.Kernel.{BasisRises, IsListable, IsRead, filling, IsFilledBy}
use Rattle.homology_laws.proofs.Vectors.{extend-chain_on, Each-chain_on}
use Rattle.homology_laws.proofs.Reduced.{homology-list, ys-in, rows-count, written-once, written-rest}
use Rattle.homology_laws.proofs.Lengths.{same-length}
use Rattle.homology_laws.proofs.Sums.{map-map, Each-combination}
use Rattle.homology_laws.proofs.CellChains.{plain-append, plain-scale, plain-combination, lowers, plain-chain, to-plain, plain-d, plain-cycle, plain-homology}
use Rattle.homology_laws.proofs.SmallOrder.{small-total}

-- ---- readings

pub value_with-each : {A B : Type 0} (answers : Answers) (t : A → Right B) (xs : List A) → value_with answers (each t xs) ≡ map (λ x. value_with answers (t x)) xs
value_with-each answers t [] = refl
value_with-each answers t (x ∷ xs) =
    value_with-bind answers (t x) (λ y. each t xs >>= λ ys. gives (y ∷ ys))
    ∙ value_with-bind answers (each t xs) (λ ys. gives (value_with answers (t x) ∷ ys))
    ∙ ap (λ ys. value_with answers (t x) ∷ ys) (value_with-each answers t xs)

map-pointwise : {A B : Type 0} (s t : A → B) → ((x : A) → s x ≡ t x) → (xs : List A) → map s xs ≡ map t xs
map-pointwise s t e [] = refl
map-pointwise s t e (x ∷ xs) = λ i. e x i ∷ map-pointwise s t e xs i

-- the cycles, by the answers to the questions that their right side asks
module _ (p : ℕ) (a : Space) (n : ℕ) (answers : Answers) where
  abbrev pub cycles-by : List (Terms (Cell a))
  cycles-by =
      map (λ v. normal (by_degree (ordered a).cmp) p (extend (λ y. answers (g a y)) (terms_of p a (answers (basis a n)) v)))
      (cycle_vectors p a (answers (basis a n)) (map (λ y. answers (small_d a y)) (answers (basis a n))) (map (λ z. answers (small_d a z)) (answers (basis a (suc n)))))

  pub read-cycles : value_with answers (rule_cycles p a n) ≡ cycles-by
  read-cycles =
      let ys = answers (basis a n) in
      let zs = answers (basis a (suc n)) in
      value_with-bind answers (each (λ y. ask (small_d a y)) ys)
      (λ ds. ask (basis a (suc n)) >>= λ zs. each (λ z. ask (small_d a z)) zs >>= λ es. each (carried p a ys) (cycle_vectors p a ys ds es))
      ∙ value_with-bind answers (each (λ z. ask (small_d a z)) zs) (λ es. each (carried p a ys) (cycle_vectors p a ys (value_with answers (each (λ y. ask (small_d a y)) ys)) es))
      ∙ (λ i. value_with answers (each (carried p a ys) (cycle_vectors p a ys
      (value_with-each answers (λ y. ask (small_d a y)) ys i) (value_with-each answers (λ z. ask (small_d a z)) zs i))))
      ∙ value_with-each answers (carried p a ys) (cycle_vectors p a ys (map (λ y. answers (small_d a y)) ys) (map (λ z. answers (small_d a z)) zs))
      ∙ map-pointwise (λ v. value_with answers (carried p a ys v)) (λ v. normal (by_degree (ordered a).cmp) p (extend (λ y. answers (g a y)) (terms_of p a ys v)))
      (λ v. value_with-on_chain answers (λ y. ask (g a y)) (by_degree (ordered a).cmp) p (terms_of p a ys v))
      (cycle_vectors p a ys (map (λ y. answers (small_d a y)) ys) (map (λ z. answers (small_d a z)) zs))

pub is_empty-is : {A : Type 0} (xs : List A) → is_empty xs ≡ true → xs ≡ []
is_empty-is [] h = refl
is_empty-is (x ∷ xs) h = absurd (true≢false (sym h))

pub degree-apart : {K : Type 0} (cmp : ℕ → K → K → Ordering) → ((n : ℕ) → Apart (cmp n)) → Apart (by_degree cmp)
degree-apart cmp f x y h =
    λ i. (exact_unsigned x.0 y.0 (then-first (nat_cmp x.0 y.0) (cmp x.0 x.1 y.1) h) i, f x.0 x.1 y.1 (then-second (nat_cmp x.0 y.0) (cmp x.0 x.1 y.1) h) i)

-- ---- an empty normal form

module _ {K : Type 0} (cmp : K → K → Ordering) (total : IsTotalOrder cmp) (apart : Apart cmp) (p : ℕ) (pos : 0 < p) where
  abbrev alike : K → K → Bool
  alike x y = is_eq (cmp x y)

  fair-all : (w : K → ℕ) → Fair p pos alike w
  fair-all w x y e = ap (λ z. w z % p) (apart x y ((Equal-is (cmp x y)).0 e))

  pub empty-normal : (c : Terms K) → (is_empty (normal cmp p c) ≡ true) ↔ SameTerms p alike c []
  empty-normal c = (
    λ e k. let w : K → ℕ = λ x. cond (alike x k) 1 0 in sym (weigh-normal cmp p apart w c) ∙ ap (λ d. weigh w d % p) (is_empty-is (normal cmp p c) e),
    λ h. ap is_empty (normal-same cmp p apart total pos c [] (λ w. under p pos alike (eq_by_cmp_equiv total) w (fair-all w) c [] h)),
  )

-- the values of basis are bases
pub rising-base : (p : ℕ) (a : Space) (k : ℕ) → BasisRises p a k → IsBase p (smalls p a) k (value p (basis a k))
rising-base p a k b = record {
  inside = λ i d l. let c = All-contains_itself (value p (basis a k)) i d l in (b.degrees _ c, c);
  apart = λ i j d l q. ap is_eq (b.rises i j d l q);
  every = λ y g. list_any-from_Contains (eq_by_cmp_equiv (small-total a)) y (value p (basis a k)) g.1;
}

module _ (p : ℕ) (field : IsField p) (a : Space) (n : ℕ) (is : IsListable p a n) where
  pos : 0 < p
  pos = let l : 1 < p = field.one_is_not_zero in omega arith

  abbrev m : Maps (Cell a) (Small a)
  m = maps_of p a

  abbrev ys : List (Small a)
  ys = value p (basis a n)

  abbrev zs : List (Small a)
  zs = value p (basis a (suc n))

  abbrev ds : List (Terms (Small a))
  ds = map (λ y. value p (small_d a y)) ys

  abbrev es : List (Terms (Small a))
  es = map (λ z. value p (small_d a z)) zs

  abbrev test : Vector → Bool
  test = is_small_cycle p a ds

  pub tests : IsCycleTest p (smalls p a) ys test
  tests v h =
      subst (λ c. (is_empty (normal (small_cmp a) p (combination v ds)) ≡ true) ↔ SameTerms p (smalls p a).same c []) (sym (extend-chain_on (smalls p a).d ys v))
      (empty-normal (small_cmp a) (small-total a) (small-apart a) p pos (combination v ds))

  -- ---- the listed chains

  abbrev order : Cell a → Cell a → Ordering
  order = by_degree (ordered a).cmp

  pub order-apart : Apart order
  order-apart = degree-apart (ordered a).cmp (ordered-apart a)

  abbrev pub listed : Vector → Terms (Cell a)
  listed v = normal order p (extend m.g (terms_of p a ys v))

  pub weigh-terms_of : (w : Small a → ℕ) (xs : List (Small a)) (v : Vector) → weigh w (terms_of p a xs v) ≡ weigh w (chain_on xs v)
  weigh-terms_of w [] v = refl
  weigh-terms_of w (y ∷ xs) [] = refl
  weigh-terms_of w (y ∷ xs) (zero ∷ v) = omega (arith, weigh-terms_of w xs v)
  weigh-terms_of w (y ∷ xs) (suc b ∷ v) = ap (λ k. suc b * w y + k) (weigh-terms_of w xs v)

  pub Each-terms_of : (P : Small a → Type 0) (xs : List (Small a)) (v : Vector) → Each P (chain_on xs v) → Each P (terms_of p a xs v)
  Each-terms_of P [] v h = tt
  Each-terms_of P (y ∷ xs) [] h = tt
  Each-terms_of P (y ∷ xs) (zero ∷ v) h = Each-terms_of P xs v h.1
  Each-terms_of P (y ∷ xs) (suc b ∷ v) h = (h.0, Each-terms_of P xs v h.1)

  listed-weight : (v : Vector) (w : Cell a → ℕ) → SameMod p (weigh w (listed v)) (weigh w (extend m.g (chain_on ys v)))
  listed-weight v w =
      weigh-normal order p order-apart w (extend m.g (terms_of p a ys v))
      ∙ ap (λ k. k % p) (weigh-extend w m.g (terms_of p a ys v) ∙ weigh-terms_of (λ y. weigh w (m.g y)) ys v ∙ sym (weigh-extend w m.g (chain_on ys v)))

  listed-in : (v : Vector) → Each (m.big.generator n) (listed v)
  listed-in v =
      Each-normal (m.big.generator n) order p (extend m.g (terms_of p a ys v))
      (Each-extend (m.big.generator n) (m.small.generator n) m.g (λ y h. is.reduction.degrees.g.keeps n y h) (terms_of p a ys v)
      (Each-terms_of (m.small.generator n) ys v (Each-chain_on (m.small.generator n) ys v (ys-in p field m n is.reduction ys zs (rising-base p a n is.here) (rising-base p a (suc n) is.above) test tests))))

  abbrev rows : List Vector
  rows = homology_vectors p (smalls p a) ys zs test

  -- what the right side gives
  read : value_with (value p) (rule_cycles p a n) ≡ map listed rows
  read = read-cycles p a n (value p) ∙ ap (λ us. map listed (complement p (length ys) test (in_span p (length ys) us))) (map-map (coordinates p a ys) (λ z. value p (small_d a z)) zs)

  cell-list : HomologyListOf p (cells p a) n (map listed rows)
  cell-list =
      homology-list p field m n is.reduction ys zs (rising-base p a n is.here) (rising-base p a (suc n) is.above) test tests listed
      (λ v h e. listed-in v)
      (λ v h e k. listed-weight v (λ x. cond (m.big.same x k) 1 0))

  pub listed-homology : HomologyList (set_of a) p n (map (plain_chain p a) (value p (cycles a n)))
  listed-homology =
      subst (λ cs. HomologyList (set_of a) p n (map (plain_chain p a) cs)) (sym (is.given ∙ read))
      (plain-homology (set_of a) (space_set_laws a is.allowed.0) p pos n (map listed rows) cell-list)

  pub listed-is : map listed rows ≡ value p (cycles a n)
  listed-is = sym (is.given ∙ read)

  -- the same of the complex of cells
  pub listed-cells : HomologyListOf p (cells p a) n (value p (cycles a n))
  listed-cells = subst (λ cs. HomologyListOf p (cells p a) n cs) listed-is cell-list

  -- ---- how many

  pub listed-count : (us : List (Small a)) → HasKeys p (smalls p a) us ys
      → length (value p (cycles a n)) + d_rank p (smalls p a) us ys + d_rank p (smalls p a) ys zs ≡ length ys
  listed-count us has =
      let e : length (map listed rows) ≡ length rows = length-map rows listed in
      let f : length (map listed rows) ≡ length (value p (cycles a n)) = ap length listed-is in
      let c = rows-count p field m n is.reduction ys zs (rising-base p a n is.here) (rising-base p a (suc n) is.above) test tests us has in
      omega (arith, e, f, c)

  -- of each homology list
  pub every-count : (us : List (Small a)) → HasKeys p (smalls p a) us ys → (xs : List (Terms (Plain a))) → HomologyList (set_of a) p n xs
      → length xs + d_rank p (smalls p a) us ys + d_rank p (smalls p a) ys zs ≡ length ys
  every-count us has xs list =
      let e : length (map (plain_chain p a) (value p (cycles a n))) ≡ length (value p (cycles a n)) = length-map (value p (cycles a n)) (plain_chain p a) in
      let f : length xs ≡ length (map (plain_chain p a) (value p (cycles a n))) = same-length (set_of a) p field n xs (map (plain_chain p a) (value p (cycles a n))) list listed-homology in
      let c = listed-count us has in
      omega (arith, e, f, c)

  -- ---- a cycle and the listed ones

  pub read-once : (z : Terms (Cell a)) → IsCycleOf p (cells p a) n z
      → (cs b : Vector) × IsRead p a n z cs b × ((cs' b' : Vector) → IsRead p a n z cs' b' → (cs' ≡ cs) × (b' ≡ b))
  read-once z c =
      written-once p field m n is.reduction ys zs (rising-base p a n is.here) (rising-base p a (suc n) is.above) test tests listed
      (λ v h e. listed-in v) (λ v h e k. listed-weight v (λ x. cond (m.big.same x k) 1 0)) z c

  module _ (z : Terms (Cell a)) (c : IsCycleOf p (cells p a) n z) (cs b : Vector) (e : IsRead p a n z cs b) where
    abbrev w : Terms (Cell a)
    w = filling p a n z b

    written : Each (m.big.generator (suc n)) (filling p a n z b)
        × SameTerms p m.big.same (z ++ scale (p - 1) (combination cs (map listed rows))) (extend m.big.d (filling p a n z b))
    written =
        written-rest p field m n is.reduction ys zs (rising-base p a n is.here) (rising-base p a (suc n) is.above) test tests listed
        (λ v h i. listed-in v) (λ v h i k. listed-weight v (λ x. cond (m.big.same x k) 1 0)) z c cs b e

    abbrev left : Terms (Cell a)
    left = z ++ scale (p - 1) (combination cs (map listed rows))

    left-in : Each (m.big.generator n) left
    left-in =
        Each-append (m.big.generator n) z (scale (p - 1) (combination cs (map listed rows))) c.chain
        (Each-scale (m.big.generator n) (p - 1) (combination cs (map listed rows))
        (Each-combination (m.big.generator n) (λ v. Unit {0}) listed (λ v t. listed-in v) cs rows (Each-any (λ v. Unit {0}) (λ v. tt) rows)))

    left-plain : plain_chain p a left ≡ plain_chain p a z ++ scale (p - 1) (combination cs (map (plain_chain p a) (map listed rows)))
    left-plain =
        plain-append z (scale (p - 1) (combination cs (map listed rows)))
        ∙ ap (λ d. plain_chain p a z ++ d) (plain-scale (p - 1) (combination cs (map listed rows)) ∙ ap (scale (p - 1)) (plain-combination cs (map listed rows)))

    abbrev Rest : List (Terms (Cell a)) → Type 0
    Rest l = Same (set_of a) p n (plain_chain p a z ++ scale (p - 1) (combination cs (map (plain_chain p a) l))) (boundary (set_of a) p (suc n) (plain_chain p a w))

    laws : IsSimplicial (set_of a)
    laws = space_set_laws a is.allowed.0

    rest-of : Rest (map listed rows)
    rest-of = λ k q.
        ap (λ d. coeff (set_of a).same d k % p) (sym left-plain)
        ∙ to-plain (set_of a) laws p pos n left (extend m.big.d w) left-in (Each-extend (m.big.generator n) (m.big.generator (suc n)) m.big.d (λ x h. lowers (set_of a) laws p pos n x h) w written.0) written.1 k q
        ∙ plain-d (set_of a) laws p pos n w written.0 k q

    rest-listed : Rest (value p (cycles a n))
    rest-listed = subst Rest listed-is rest-of

    chain-in : IsChain (set_of a) p (suc n) (plain_chain p a w)
    chain-in = plain-chain (set_of a) laws p pos (suc n) w written.0

    as-long : length cs ≡ length (map (plain_chain p a) (value p (cycles a n)))
    as-long =
        e.coefficients_in.wide ∙ sym (length-map rows listed) ∙ ap length listed-is ∙ sym (length-map (value p (cycles a n)) (plain_chain p a))

    pub filled : IsFilledBy p a n z cs (filling p a n z b)
    filled = record {
      chain = chain-in;
      rest = rest-listed;
      only = λ others o. listed-homology.once (plain_chain p a z) others cs (plain-cycle (set_of a) laws p pos n z c) o
          (record { as_long = as-long; reduced = e.coefficients_in.below; rest = (plain_chain p a w, chain-in, rest-listed) });
    }
