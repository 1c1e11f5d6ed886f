-- A cycle in its parts, as it is asked for: the coefficients over the listed cycles, and a chain of which the rest is the boundary.
use Rattle.std.proofs.Common.{◌≡◌, ℕ, suc, ◌+◌, ◌-◌, ◌%◌, ◌<◌, Bool, true, cond, List, [], ◌∷◌, ◌++◌, map, length, refl, sym, ◌∙◌, ap, subst, arith}
use Rattle.std.proofs.Math.ListN.{length-map}
use Rattle.std.proofs.lemmas.List.Elements.{recursion_from_All}
use Rattle.std.specs.List.{AllByRecursion as EachOf}
use Rattle.std.specs.declared.cmp.Ordering.{Ordering}
use Rattle.fp_field.specs.Field.{IsField}
use Rattle.fp_field.specs.Chains.{Terms, weigh, coeff, extend, Each}
use Rattle.fp_field.specs.Normal.{normal}
use Rattle.fp_field.proofs.Mod.{same-plus}
use Rattle.fp_field.proofs.Weights.{weigh-append, weigh-extend, Each-append, Each-extend}
use Rattle.fp_field.proofs.Normals.{weigh-normal}
use Rattle.fp_field.proofs.FlowLaws.{Each-normal}
use Rattle.echelons.specs.Echelon.{Vector, IsVector, vector_plus, multiple, combined, in_span, reduced_basis, complement, remainder, IsSubspace, IsSplit, coordinates as entries_at_leads}
use Rattle.echelons.proofs.Vectors.{combined-vector}
use Rattle.echelons.proofs.Spans.{combination-span}
use Rattle.spaces.specs.Simplicial.{IsSimplicial}
use Rattle.spaces.specs.Spaces.{Space, Plain, set_of}
use Rattle.spaces.specs.Homology.{IsChain, Same}
use Rattle.spaces.specs.SmallCells.{Small, small_cmp}
use Rattle.spaces.specs.Orders.{ordered, by_degree}
use Rattle.spaces.proofs.Orders.{small-apart}
use Rattle.spaces.proofs.SpaceLaws.{space_set_laws}
use Rattle.spaces.proofs.Boundary.{boundary-same}
use Rattle.values.specs.Asks.{basis, small_d, f as f_at, g as g_at, h as h_at, ask, on_chain, gives, Right, value_with, ◌>>=◌, Cell as GradedCell}
use Rattle.values.specs.Values.{value}
use Rattle.values.specs.Laws.{cells, smalls, maps_of, plain_chain}
use Rattle.values.specs.Cycles.{coordinates, is_small_cycle, terms_of}
use Rattle.values.proofs.Readings.{value_with-bind}
use Rattle.values.proofs.Chains.{value_with-on_chain}
use Rattle.homology_laws.specs.Lists.{chain_on, IsCycleOf, is_boundary, homology_vectors, d_vectors}
use Rattle.homology_laws.specs.Kernel.{IsListable, IsRead, filling, IsFilledBy}
use Rattle.homology_laws.proofs.Sums.{map-map}
use Rattle.homology_laws.proofs.Vectors.{numbers-same, numbers-vector, Each-chain_on}
use Rattle.homology_laws.proofs.Reduced.{sub, inner, inside, wide-images, vec-vector, vec-test}
use Rattle.homology_laws.proofs.CellChains.{plain-append, plain-chain, weigh-plain}
use Rattle.homology_laws.proofs.Kernel.{rising-base, tests, filled, weigh-terms_of, Each-terms_of}
use Rattle.session_core.specs.Questions.{differentials, class_of, filling_of, thrifty_numbers, expressed}
use Rattle.session_core.proofs.ReplyCounts.{known, differentials-read}
use Rattle.session_core.proofs.ReplyReads.{normal-plain}
use Rattle.session_core.proofs.ReplySplits.{coefficients-read, rest-read, thrifty-read}

-- ---- readings

module _ (p : ℕ) (a : Space) (n : ℕ) (z : Terms (GradedCell a)) where
  abbrev Known : Type 0
  Known = List (Small a) × List (Terms (Small a))

  abbrev order : GradedCell a → GradedCell a → Ordering
  order = by_degree (ordered a).cmp

  abbrev fz-asked : Right (Terms (Small a))
  fz-asked = on_chain (small_cmp a) p (λ x. ask (f_at a x.0 x.1)) z

  abbrev hz-asked : Right (Terms (GradedCell a))
  hz-asked = on_chain order p (λ x. ask (h_at a x.0 x.1)) z

  abbrev gw-asked : Known → Known → Terms (Small a) → Right (Terms (GradedCell a))
  gw-asked here above fz = on_chain order p (λ y. ask (g_at a y)) (terms_of p a above.0 (filling_of p a here.0 here.1 above.1 (coordinates p a here.0 fz)))

  abbrev parts : Known → Known → Terms (Small a) → Terms (GradedCell a) → Terms (GradedCell a) → Vector × Terms (GradedCell a)
  parts here above fz hz gw = (class_of p a here.0 here.1 above.1 (coordinates p a here.0 fz), normal order p (hz ++ gw))

  abbrev from-h : Known → Known → Terms (Small a) → Terms (GradedCell a) → Right (Vector × Terms (GradedCell a))
  from-h here above fz hz = gw-asked here above fz >>= λ gw. gives (parts here above fz hz gw)

  abbrev from-f : Known → Known → Terms (Small a) → Right (Vector × Terms (GradedCell a))
  from-f here above fz = hz-asked >>= λ hz. from-h here above fz hz

  abbrev from-above : Known → Known → Right (Vector × Terms (GradedCell a))
  from-above here above = fz-asked >>= λ fz. from-f here above fz

  abbrev from-here : Known → Right (Vector × Terms (GradedCell a))
  from-here here = differentials p a (suc n) >>= λ above. from-above here above

  -- what is asked behind the cycles
  abbrev pub behind-cycles : List (Terms (GradedCell a)) → Right (Vector × Terms (GradedCell a))
  behind-cycles listed = differentials p a n >>= λ here. from-here here

  -- ---- the values

  abbrev ys : List (Small a)
  ys = value p (basis a n)

  abbrev ds : List (Terms (Small a))
  ds = (known p a n).1

  abbrev zs : List (Small a)
  zs = value p (basis a (suc n))

  abbrev es : List (Terms (Small a))
  es = (known p a (suc n)).1

  abbrev fz : Terms (Small a)
  fz = normal (small_cmp a) p (extend (maps_of p a).f z)

  abbrev hz : Terms (GradedCell a)
  hz = normal order p (extend (maps_of p a).h z)

  abbrev gw : Vector → Terms (GradedCell a)
  gw b = normal order p (extend (maps_of p a).g (terms_of p a zs b))

  abbrev pub class : Vector
  class = class_of p a ys ds es (coordinates p a ys fz)

  abbrev pub rest : Vector
  rest = filling_of p a ys ds es (coordinates p a ys fz)

  abbrev pub shown : Vector → Terms (GradedCell a)
  shown b = normal order p (hz ++ gw b)

  pub expressed-read : value_with (value p) (expressed p a n z) ≡ (class, shown rest)
  expressed-read =
      value_with-bind (value p) (differentials p a n) from-here
      ∙ ap (λ here. value_with (value p) (from-here here)) (differentials-read p a n)
      ∙ value_with-bind (value p) (differentials p a (suc n)) (from-above (known p a n))
      ∙ ap (λ above. value_with (value p) (from-above (known p a n) above)) (differentials-read p a (suc n))
      ∙ value_with-bind (value p) fz-asked (from-f (known p a n) (known p a (suc n)))
      ∙ ap (λ c. value_with (value p) (from-f (known p a n) (known p a (suc n)) c)) (value_with-on_chain (value p) (λ x. ask (f_at a x.0 x.1)) (small_cmp a) p z)
      ∙ value_with-bind (value p) hz-asked (from-h (known p a n) (known p a (suc n)) fz)
      ∙ ap (λ c. value_with (value p) (from-h (known p a n) (known p a (suc n)) fz c)) (value_with-on_chain (value p) (λ x. ask (h_at a x.0 x.1)) order p z)
      ∙ value_with-bind (value p) (gw-asked (known p a n) (known p a (suc n)) fz) (λ c. gives (parts (known p a n) (known p a (suc n)) fz hz c))
      ∙ ap (λ c. parts (known p a n) (known p a (suc n)) fz hz c) (value_with-on_chain (value p) (λ y. ask (g_at a y)) order p (terms_of p a zs rest))

-- ---- they are the parts of the cycle

module _ (p : ℕ) (field : IsField p) (a : Space) (n : ℕ) (is : IsListable p a n) (z : Terms (GradedCell a)) (cycle : IsCycleOf p (cells p a) n z)
    (cs b : Vector) (e : IsRead p a n z cs b) where
  pos : 0 < p
  pos = let l : 1 < p = field.one_is_not_zero in omega arith

  abbrev width : ℕ
  width = length (ys p a n z)

  abbrev test : Vector → Bool
  test = is_small_cycle p a (ds p a n z)

  abbrev images : List Vector
  images = d_vectors p (smalls p a) (ys p a n z) (zs p a n z)

  abbrev part : Vector → Bool
  part = is_boundary p (smalls p a) (ys p a n z) (zs p a n z)

  abbrev rows : List Vector
  rows = homology_vectors p (smalls p a) (ys p a n z) (zs p a n z) test

  abbrev u : Vector
  u = coordinates p a (ys p a n z) (extend (maps_of p a).f z)

  -- normal forms have the same numbers
  same-numbers : coordinates p a (ys p a n z) (fz p a n z) ≡ u
  same-numbers =
      numbers-same p (smalls p a).same (ys p a n z) (fz p a n z) (extend (maps_of p a).f z)
      (λ k. weigh-normal (small_cmp a) p (small-apart a) (λ x. cond ((smalls p a).same x k) 1 0) (extend (maps_of p a).f z))

  same-images : map (coordinates p a (ys p a n z)) (es p a n z) ≡ images
  same-images = map-map (coordinates p a (ys p a n z)) (λ y. value p (small_d a y)) (zs p a n z)

  whole-sub : IsSubspace p width test
  whole-sub = sub p field (maps_of p a) n is.reduction (ys p a n z) (zs p a n z) (rising-base p a n is.here) (rising-base p a (suc n) is.above) test (tests p field a n is)

  part-sub : IsSubspace p width part
  part-sub = inner p field (maps_of p a) n is.reduction (ys p a n z) (zs p a n z) (rising-base p a n is.here) (rising-base p a (suc n) is.above) test (tests p field a n is)

  part-inside : (v : Vector) → IsVector p width v → part v ≡ true → test v ≡ true
  part-inside = inside p field (maps_of p a) n is.reduction (ys p a n z) (zs p a n z) (rising-base p a n is.here) (rising-base p a (suc n) is.above) test (tests p field a n is)

  u-vector : IsVector p width u
  u-vector = vec-vector p field (maps_of p a) n is.reduction (ys p a n z) (zs p a n z) (rising-base p a n is.here) (rising-base p a (suc n) is.above) test (tests p field a n is) z

  u-cycle : test u ≡ true
  u-cycle = vec-test p field (maps_of p a) n is.reduction (ys p a n z) (zs p a n z) (rising-base p a n is.here) (rising-base p a (suc n) is.above) test (tests p field a n is) z cycle

  images-vectors : (xs : List (Small a)) → EachOf (IsVector p width) (d_vectors p (smalls p a) (ys p a n z) xs)
  images-vectors [] = tt
  images-vectors (x ∷ xs) = (numbers-vector p (smalls p a).same pos (ys p a n z) ((smalls p a).d x), images-vectors xs)

  abbrev left : Vector
  left = combined p width b images

  numbers-in : IsVector p (length images) b
  numbers-in = subst (λ k. IsVector p k b) (sym (length-map (zs p a n z) (λ y. coordinates p a (ys p a n z) (value p (small_d a y))))) e.numbers_in

  left-in : part left ≡ true
  left-in = combination-span p width images left (b, numbers-in, refl)

  left-vector : IsVector p width left
  left-vector = combined-vector p pos width b images
      (wide-images p field (maps_of p a) n is.reduction (ys p a n z) (zs p a n z) (rising-base p a n is.here) (rising-base p a (suc n) is.above) test (tests p field a n is) (zs p a n z))

  split : IsSplit p width rows part u cs left
  split = record { coefficients_in = e.coefficients_in; rest_in = left-vector; rest_within = left-in; sum_is = e.sum_is }

  -- the class over vectors of boundaries, of a vector
  abbrev class-over : List Vector → Vector → Vector
  class-over vs v =
      entries_at_leads (complement p width test (in_span p width vs)) (remainder p width (reduced_basis p width (in_span p width vs)) v)

  abbrev rest-over : List Vector → Vector → Vector → Vector
  rest-over vs v c = thrifty_numbers p a width vs (vector_plus p v (multiple p (p - 1) (combined p width c (complement p width test (in_span p width vs)))))

  class-at : class-over images u ≡ cs
  class-at = coefficients-read p width field test part whole-sub part-sub part-inside u cs left u-vector u-cycle split

  pub class-is : class p a n z ≡ cs
  class-is = (λ i. class-over (same-images i) (same-numbers i)) ∙ class-at

  pub rest-is : rest p a n z ≡ b
  rest-is =
      (λ i. rest-over (same-images i) (same-numbers i) (class-over (same-images i) (same-numbers i)))
      ∙ ap (rest-over images u) class-at
      ∙ ap (thrifty_numbers p a width images) (rest-read p width field test part whole-sub part-sub part-inside u cs left u-vector split)
      ∙ thrifty-read p width field a images (images-vectors (zs p a n z)) left b left-vector left-in (record { numbers_in = numbers-in; thrifty = e.thrifty; sum_is = refl })

  -- ---- the chain that is shown

  set_laws : IsSimplicial (set_of a)
  set_laws = space_set_laws a is.allowed.0

  abbrev m-order : GradedCell a → GradedCell a → Ordering
  m-order = by_degree (ordered a).cmp

  abbrev Above : GradedCell a → Type 0
  Above = (cells p a).generator (suc n)

  above-in : EachOf ((smalls p a).generator (suc n)) (zs p a n z)
  above-in = recursion_from_All ((smalls p a).generator (suc n)) (zs p a n z) (rising-base p a (suc n) is.above).inside

  pub shown-in : Each Above (shown p a n z b)
  shown-in =
      Each-normal Above m-order p (hz p a n z ++ gw p a n z b)
      (Each-append Above (hz p a n z) (gw p a n z b)
      (Each-normal Above m-order p (extend (maps_of p a).h z)
      (Each-extend Above ((cells p a).generator n) (maps_of p a).h (λ x h. is.reduction.degrees.h.raises n x h) z cycle.chain))
      (Each-normal Above m-order p (extend (maps_of p a).g (terms_of p a (zs p a n z) b))
      (Each-extend Above ((smalls p a).generator (suc n)) (maps_of p a).g (λ y h. is.reduction.degrees.g.keeps (suc n) y h) (terms_of p a (zs p a n z) b)
      (Each-terms_of p field a n is ((smalls p a).generator (suc n)) (zs p a n z) b (Each-chain_on ((smalls p a).generator (suc n)) (zs p a n z) b above-in)))))

  abbrev at : Plain a → Terms (Plain a) → ℕ
  at k c = coeff (set_of a).same c k

  at-append : (k : Plain a) (c d : Terms (GradedCell a)) → at k (plain_chain p a (c ++ d)) ≡ at k (plain_chain p a c) + at k (plain_chain p a d)
  at-append k c d = ap (at k) (plain-append c d) ∙ weigh-append (λ x. cond ((set_of a).same x k) 1 0) (plain_chain p a c) (plain_chain p a d)

  at-terms : (k : Plain a) → at k (plain_chain p a (extend (maps_of p a).g (terms_of p a (zs p a n z) b))) ≡ at k (plain_chain p a (extend (maps_of p a).g (chain_on (zs p a n z) b)))
  at-terms k =
      let w : GradedCell a → ℕ = λ x. cond ((set_of a).same x.1 k) 1 0 in
      weigh-plain (λ x. cond ((set_of a).same x k) 1 0) (extend (maps_of p a).g (terms_of p a (zs p a n z) b))
      ∙ weigh-extend w (maps_of p a).g (terms_of p a (zs p a n z) b)
      ∙ weigh-terms_of p field a n is (λ y. weigh w ((maps_of p a).g y)) (zs p a n z) b
      ∙ sym (weigh-extend w (maps_of p a).g (chain_on (zs p a n z) b))
      ∙ sym (weigh-plain (λ x. cond ((set_of a).same x k) 1 0) (extend (maps_of p a).g (chain_on (zs p a n z) b)))

  shown-same : Same (set_of a) p (suc n) (plain_chain p a (shown p a n z b)) (plain_chain p a (filling p a n z b))
  shown-same k g =
      normal-plain p a (suc n) (hz p a n z ++ gw p a n z b) k g
      ∙ ap (λ m. m % p) (at-append k (hz p a n z) (gw p a n z b))
      ∙ same-plus p _ _ _ _ (normal-plain p a (suc n) (extend (maps_of p a).h z) k g) (normal-plain p a (suc n) (extend (maps_of p a).g (terms_of p a (zs p a n z) b)) k g ∙ ap (λ m. m % p) (at-terms k))
      ∙ ap (λ m. m % p) (sym (at-append k (extend (maps_of p a).h z) (extend (maps_of p a).g (chain_on (zs p a n z) b))))

  pub shown-chain : IsChain (set_of a) p (suc n) (plain_chain p a (shown p a n z b))
  shown-chain = plain-chain (set_of a) set_laws p pos (suc n) (shown p a n z b) shown-in

  pub filled-by : IsFilledBy p a n z cs (filling p a n z b)
  filled-by = filled p field a n is z cycle cs b e

  pub shown-fills : IsFilledBy p a n z cs (shown p a n z b)
  shown-fills = record {
    chain = shown-chain;
    rest = λ k g. filled-by.rest k g
        ∙ sym (boundary-same (set_of a) set_laws p pos n (plain_chain p a (shown p a n z b)) (plain_chain p a (filling p a n z b)) shown-chain filled-by.chain shown-same k g);
    only = filled-by.only;
  }
