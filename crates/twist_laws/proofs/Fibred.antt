-- A space whose maps are given by the rule of a twisted product of two others: they are a reduction where those of the two are.
use Rattle.std.proofs.Common.{◌≡◌, ℕ, zero, suc, ◌+◌, ◌*◌, ◌%◌, ◌<◌, ◌≤◌, Bool, true, false, cond, [], ◌∷◌, ◌++◌, refl, sym, ◌∙◌, ap, subst, arith}
use Rattle.std.specs.Cmp.{IsEquivalence, Equal-is, on_equiv}
use Rattle.std.specs.declared.cmp.Ordering.{Ordering}
use Rattle.fp_field.specs.Field.{sign, SameMod}
use Rattle.fp_field.specs.Chains.{Terms, weigh, scale, Each}
use Rattle.fp_field.specs.Normal.{normal}
use Rattle.fp_field.specs.Reduction.{one, after, Maps, IsComplex, IsDifferential, HasDegrees, IsReduction, IsReductionTo, IsSameComplex}
use Rattle.fp_field.proofs.Fair.{under}
use Rattle.spaces.specs.Spaces.{Space, product, Plain, set_of}
use Rattle.spaces.proofs.Orders.{small-apart}
use Rattle.spaces.proofs.SpaceLaws.{space_set_laws}
use Rattle.homology_laws.proofs.CellChains.{cells-same}
use Rattle.spaces.specs.SmallCells.{Small, small_degree, small_cmp}
use Rattle.spaces.specs.Orders.{Ordered, ordered}
use Rattle.spaces.specs.Allowed.{Admits}
use Rattle.spaces.specs.EilenbergZilber.{Linear, linear, Pair, Tensor, pair_order, tensor_order, same_pair}
use Rattle.values.specs.Asks.{value_with}
use Rattle.values.specs.Perturbed.{total_f, total_g, total_h, total_d, smalls_by, small_terms, to_tensors, s1}
use Rattle.values.specs.Rules.{part}
use Rattle.values.specs.Values.{value}
use Rattle.values.specs.Laws.{maps_of}
use Rattle.ez_laws.specs.Sides.{on_keys}
use Rattle.ez_laws.specs.FlowEquations.{moves, left_dim}
use Rattle.ez_laws.specs.Instances.{product_maps}
use Rattle.ez_laws.proofs.PairOrders.{pairs-apart}
use Rattle.ez_laws.proofs.Orderings.{ordered-right}
use Rattle.ez_laws.proofs.Sided.{space-left, products}
use Rattle.perturb.specs.Perturbation.{IsPerturbation, AreSeries, LowersLevel, series_by}
use Rattle.perturb.proofs.LeveledSeries.{leveled_series}
use Rattle.tensor_red.proofs.PairKeys.{IsPairing}
use Rattle.tensor_red.proofs.TensorMeets.{tensor_in_meets, plain_pairs}
use Rattle.tensor_red.specs.Products.{plain, product_in}
use Rattle.twist_laws.specs.TwistedComplexes.{as_cell, as_pair, on_pairs, twisted_complex}
use Rattle.twist_laws.specs.LeftDegrees.{LowersLeft, LowersByTwo, IsSeriesOf, transferred}
use Rattle.twist_laws.proofs.Carried.{Carries}
use Rattle.twist_laws.proofs.Alike.{Below}
use Rattle.twist_laws.proofs.Totals.{SumsTo, Apart, IsTwist, r-below, h2-applied, hr-stays, rh-stays, p2-stays, s2-stays, first-stays}
use Rattle.twist_laws.proofs.TotalNeeds.{KeepsTensors}
use Rattle.twist_laws.proofs.TotalRead.{read-total_f, read-total_g, read-total_h, read-total_d}
use Rattle.twist_laws.proofs.Whole.{is2}
use Rattle.twist_laws.proofs.RuleMaps.{IsByRule, by_rule}
use Rattle.twist_laws.proofs.LevelSums.{sums_to, h-after_r, r-after_h}
use Rattle.twist_laws.proofs.TensorDifferential.{tensor_keys}
use Rattle.twist_laws.proofs.TensorParts as T

pairing : {K J : Type 0} → IsPairing (tensor_keys {K = K} {J = J})
pairing = record { left_of = λ x y. refl; right_of = λ x y. refl; whole = λ z. refl }

weigh-cells : {K J : Type 0} (w : ℕ × (K × J) → ℕ) (c : Terms (ℕ × (K × J))) → weigh w c ≡ weigh (λ s. w (as_cell s)) (on_keys as_pair c)
weigh-cells w [] = refl
weigh-cells w (t ∷ c) = ap (λ n. t.1 * w t.0 + n) (weigh-cells w c)

module _ (p : ℕ) (pos : 0 < p) (a b : Space) (ad : Admits a) (bd : Admits b) (q : Pair (Plain a) (Plain b) → Terms (Pair (Plain a) (Plain b))) where
  abbrev L : Linear (Plain a)
  L = linear (ordered a)

  abbrev R : Ordered (Plain b)
  R = ordered b

  abbrev In : ℕ → Plain a → Type 0
  In = (set_of a).In

  abbrev ez : Maps (Pair (Plain a) (Plain b)) (Tensor (Plain a) (Plain b))
  ez = product_maps p a b

  abbrev by_pair : Pair (Plain a) (Plain b) → Pair (Plain a) (Plain b) → Ordering
  by_pair = pair_order p L R

  abbrev by_tensor : Tensor (Plain a) (Plain b) → Tensor (Plain a) (Plain b) → Ordering
  by_tensor = tensor_order p L R

  abbrev by_small : Small a × Small b → Small a × Small b → Ordering
  by_small = smalls_by p L R (part a) (part b) q

  abbrev pub degree_of : Small a × Small b → ℕ
  degree_of y = small_degree a y.0 + small_degree b y.1

  -- X has the cells of the twisted product, and its maps are what the rule gives
  pub record IsFibred (X : Maps (ℕ × (Plain a × Plain b)) (Small a × Small b)) : Type 0 where
    pub same_complex : IsSameComplex p (on_pairs X.big) (twisted_complex p L In R q)
    pub complex : IsComplex p X.big
    pub big_apart : (x y : ℕ × (Plain a × Plain b)) → X.big.same x y ≡ true → x ≡ y
    pub small_to : (n : ℕ) (y : Small a × Small b) → (T.pairs_of_smalls p pos a b ad bd q).generator n y → X.small.generator n y
    pub small_from : (n : ℕ) (y : Small a × Small b) → X.small.generator n y → (T.pairs_of_smalls p pos a b ad bd q).generator n y
    pub small_apart : (x y : Small a × Small b) → X.small.same x y ≡ true → x ≡ y
    pub small_equivalence : IsEquivalence X.small.same
    pub f : (s : Pair (Plain a) (Plain b)) → ez.big.generator s.0 s → X.f (as_cell s) ≡ value_with (value p) (total_f p L R (part a) (part b) q s.0 (one s))
    pub g : (y : Small a × Small b) → X.small.generator (degree_of y) y → X.g y ≡ on_keys as_cell (value_with (value p) (total_g p L R (part a) (part b) q (degree_of y) y))
    pub h : (s : Pair (Plain a) (Plain b)) → ez.big.generator s.0 s
        → X.h (as_cell s) ≡ on_keys as_cell (value_with (value p) (total_h p L R (part a) (part b) q s.0 (one s)))
    pub small_d : (y : Small a × Small b) → X.small.generator (degree_of y) y → X.small.d y ≡ value_with (value p) (total_d p L R (part a) (part b) q (degree_of y) y)

  -- the transferred difference lowers the left degree by two
  abbrev pub FallsByTwo : Type 0
  FallsByTwo = (P : Pair (Plain a) (Plain b) → Terms (Pair (Plain a) (Plain b))) → IsSeriesOf p L In R q P → LowersByTwo p L In R (transferred p L In R q P)

  module _ (low : LowersLeft p L In R q) (twice : IsDifferential p (twisted_complex p L In R q)) (by_two : FallsByTwo) where
    first : IsReduction p ez
    first = products p pos a b ad bd

    abbrev deg1 : HasDegrees p ez
    deg1 = (first 0).degrees

    pair-apart : Apart by_pair
    pair-apart = (pairs-apart p L In R (space-left p pos a ad) (ordered-right b bd)).apart

    same-pair_apart : (x y : Pair (Plain a) (Plain b)) → same_pair p L R x y ≡ true → x ≡ y
    same-pair_apart x y h = pair-apart x y ((Equal-is (by_pair x y)).0 h)

    is1 : IsPerturbation p ez q
    is1 = record { lowers = low.lowers; ends = low.ends; respects = low.respects; twice = twice }

    -- ---- the first series

    abbrev dim : Pair (Plain a) (Plain b) → ℕ
    dim s = left_dim p L In R s

    abbrev many : Pair (Plain a) (Plain b) → ℕ
    many s = suc s.0

    few-moves : (n : ℕ) (x : Plain a) → moves p L In R n x ≤ n
    few-moves zero x = omega arith
    few-moves (suc n) x = by (L.has_degeneracy n x) (few-moves n x)
      where
        by : (c : Bool) → moves p L In R n x ≤ n → moves p L In R n x + cond c 0 1 ≤ suc n
        by true l = omega (arith, l)
        by false l = omega (arith, l)

    above : (s : Pair (Plain a) (Plain b)) → dim s < many s
    above s = let l = few-moves s.0 s.1 in omega (arith, l)

    few : (n : ℕ) (s : Pair (Plain a) (Plain b)) → ez.big.generator n s → dim s ≤ n
    few n s h = let l = few-moves s.0 s.1 in let e : s.0 ≡ n = h.0 in omega (arith, l, e)

    abbrev P1 : Pair (Plain a) (Plain b) → Terms (Pair (Plain a) (Plain b))
    P1 = series_by by_pair p many (after ez.h q)

    abbrev S1 : Pair (Plain a) (Plain b) → Terms (Pair (Plain a) (Plain b))
    S1 = series_by by_pair p many (after q ez.h)

    series1 : AreSeries p ez q P1 S1
    series1 = leveled_series p pos ez deg1 q is1 by_pair pair-apart (λ x y. refl) dim low.before_flow low.after_flow many above

    is_p1 : SumsTo p ez.big by_pair (after ez.h q) P1
    is_p1 = sums_to p pos ez.big deg1.big.graded.equivalence by_pair pair-apart (λ x y. refl) same-pair_apart dim (after ez.h q) low.before_flow many above few series1.p_degrees.keeps

    is_s1 : SumsTo p ez.big by_pair (after q ez.h) S1
    is_s1 = sums_to p pos ez.big deg1.big.graded.equivalence by_pair pair-apart (λ x y. refl) same-pair_apart dim (after q ez.h) low.after_flow many above few series1.s_degrees.keeps

    falls : LowersByTwo p L In R (transferred p L In R q P1)
    falls = by_two P1 (record { keeps = series1.p_degrees.keeps; sums = series1.after_p })

    abbrev r : Tensor (Plain a) (Plain b) → Terms (Tensor (Plain a) (Plain b))
    r = transferred p L In R q P1

    -- ---- the second series

    module _ (part1 : HasDegrees p (maps_of p a)) (part2 : HasDegrees p (maps_of p b)) (tensored : HasDegrees p (T.tensored p pos a b ad bd q)) where
      abbrev two : Maps (Tensor (Plain a) (Plain b)) (Small a × Small b)
      two = T.ruled p pos a b ad bd q

      abbrev deg2 : HasDegrees p two
      deg2 = T.ruled-degrees p pos a b ad bd q part1 part2 tensored

      abbrev level : Tensor (Plain a) (Plain b) → ℕ
      level z = z.0

      abbrev many2 : Tensor (Plain a) (Plain b) → ℕ
      many2 z = suc (z.0 + z.2)

      above2 : (z : Tensor (Plain a) (Plain b)) → level z < many2 z
      above2 z = omega arith

      few2 : (n : ℕ) (z : Tensor (Plain a) (Plain b)) → two.big.generator n z → level z ≤ n
      few2 n z h = let e : z.0 + z.2 ≡ n = h.0 in omega (arith, e)

      low-hr : LowersLevel p two.big level (after two.h r)
      low-hr = h-after_r p pos two.big deg2.big.graded.equivalence by_tensor (T.tensor-apart p pos a b ad bd q) (λ x y. refl) (T.same-tensor_apart p pos a b ad bd q) level two.h r
          (T.h-climbs p pos a b ad bd q part1 part2 tensored) falls.ends falls.falls

      low-rh : LowersLevel p two.big level (after r two.h)
      low-rh = r-after_h p pos two.big deg2.big.graded.equivalence by_tensor (T.tensor-apart p pos a b ad bd q) (λ x y. refl) (T.same-tensor_apart p pos a b ad bd q) level two.h r
          (T.h-climbs p pos a b ad bd q part1 part2 tensored) falls.ends falls.falls

      abbrev P2 : Tensor (Plain a) (Plain b) → Terms (Tensor (Plain a) (Plain b))
      P2 = series_by by_tensor p many2 (after two.h r)

      abbrev S2 : Tensor (Plain a) (Plain b) → Terms (Tensor (Plain a) (Plain b))
      S2 = series_by by_tensor p many2 (after r two.h)

      is_second : IsPerturbation p two r
      is_second = is2 p pos ez two.small two.f two.g two.h q P1 S1 P2 S2 first is1 series1 (T.same-tensor_apart p pos a b ad bd q)

      series2 : AreSeries p two r P2 S2
      series2 = leveled_series p pos two deg2 r is_second by_tensor (T.tensor-apart p pos a b ad bd q) (λ x y. refl) level low-hr low-rh many2 above2

      is_p2 : SumsTo p two.big by_tensor (after two.h r) P2
      is_p2 = sums_to p pos two.big deg2.big.graded.equivalence by_tensor (T.tensor-apart p pos a b ad bd q) (λ x y. refl) (T.same-tensor_apart p pos a b ad bd q) level
          (after two.h r) low-hr many2 above2 few2 series2.p_degrees.keeps

      is_s2 : SumsTo p two.big by_tensor (after r two.h) S2
      is_s2 = sums_to p pos two.big deg2.big.graded.equivalence by_tensor (T.tensor-apart p pos a b ad bd q) (λ x y. refl) (T.same-tensor_apart p pos a b ad bd q) level
          (after r two.h) low-rh many2 above2 few2 series2.s_degrees.keeps

      -- ---- chains of one degree stay such

      twist : IsTwist p ez two.small two.f two.g two.h q by_pair by_tensor by_small
      twist zero s h = subst (Each (Below ez.big zero)) (sym (is1.ends s h)) tt
      twist (suc n) s h = is1.lowers n s h

      pub keeps_tensors : KeepsTensors (value p) p L R (part a) (part b) q two.big
      keeps_tensors =
          let small_apart = small-apart (product a b) in
          let tensor_apart = T.tensor-apart p pos a b ad bd q in record {
            r = r-below p ez two.small two.f two.g two.h q by_pair by_tensor by_small pair-apart tensor_apart small_apart deg1 deg2 twist P1 S1 is_p1 is_s1;
            h = h2-applied p ez two.small two.f two.g two.h q by_pair by_tensor by_small pair-apart tensor_apart small_apart deg1 deg2 twist P1 S1 is_p1 is_s1 P2 S2 is_p2 is_s2;
            hr = hr-stays p ez two.small two.f two.g two.h q by_pair by_tensor by_small pair-apart tensor_apart small_apart deg1 deg2 twist P1 S1 is_p1 is_s1 P2 S2 is_p2 is_s2;
            rh = rh-stays p ez two.small two.f two.g two.h q by_pair by_tensor by_small pair-apart tensor_apart small_apart deg1 deg2 twist P1 S1 is_p1 is_s1 P2 S2 is_p2 is_s2;
            p2 = p2-stays p ez two.small two.f two.g two.h q by_pair by_tensor by_small pair-apart tensor_apart small_apart deg1 deg2 twist P1 S1 is_p1 is_s1 P2 S2 is_p2 is_s2;
            s2 = s2-stays p ez two.small two.f two.g two.h q by_pair by_tensor by_small pair-apart tensor_apart small_apart deg1 deg2 twist P1 S1 is_p1 is_s1 P2 S2 is_p2 is_s2;
          }

      pub first-tensors : (n : ℕ) (s : Pair (Plain a) (Plain b)) → ez.big.generator n s
          → Each (two.big.generator n) (to_tensors p L R (part a) (part b) q (s1 p L R (part a) (part b) q n (one s)))
      first-tensors = first-stays p ez two.small two.f two.g two.h q by_pair by_tensor by_small pair-apart (T.tensor-apart p pos a b ad bd q) (small-apart (product a b)) deg1 deg2 twist
          P1 S1 is_p1 is_s1 P2 S2 is_p2 is_s2

      module _ (X : Maps (ℕ × (Plain a × Plain b)) (Small a × Small b)) (is : IsFibred X) where
        cell-fair : (w : Pair (Plain a) (Plain b) → ℕ) (s t : Pair (Plain a) (Plain b)) → (on_pairs X.big).same s t ≡ true → SameMod p (w s) (w t)
        cell-fair w s t e = ap (λ x. w (as_pair x) % p) (is.big_apart (as_cell s) (as_cell t) e)

        d-carried : (n : ℕ) → Carries p (ez.big.generator n) as_cell as_cell (λ s. ez.big.d s ++ q s) X.big.d
        d-carried n = record {
          at = λ s h w.
              ap (λ k. k % p) (weigh-cells w (X.big.d (as_cell s)))
              ∙ under p pos (on_pairs X.big).same (on_equiv as_cell is.complex.graded.equivalence) (λ z. w (as_cell z)) (cell-fair (λ z. w (as_cell z)))
              ((on_pairs X.big).d s) (ez.big.d s ++ q s) (is.same_complex.d n s (is.same_complex.back n s h));
        }

        regrouped : (x : Small a) (y : Small b) (dx : Terms (Small a)) (dy : Terms (Small b)) (w : Terms (Small a × Small b))
            → small_terms dx (one y) ++ scale (sign p (small_degree a x)) (small_terms (one x) dy) ++ w
            ≡ product_in plain dx (one y) ++ scale (sign p (small_degree a x)) (product_in plain (one x) dy) ++ w
        regrouped x y dx dy w =
            λ i. T.small_terms-is dx (one y) i ++ scale (sign p (small_degree a x)) (T.small_terms-is (one x) dy i) ++ w

        is_by_rule : IsByRule p pos ez two.small two.f two.g two.h q P1 S1 P2 S2 by_pair by_tensor by_small X as_cell
        is_by_rule = record {
          big_to = λ n s h. is.same_complex.back n s h;
          big_from = λ n x h. (as_pair x, is.same_complex.there n (as_pair x) h, refl);
          small_to = is.small_to;
          small_from = is.small_from;
          big_apart = is.big_apart;
          small_apart = is.small_apart;
          small_equivalence = is.small_equivalence;
          complex = is.complex;
          big_d = d-carried;
          f = λ n s h. is.f s (refl, h.1) ∙ ap (λ m. value_with (value p) (total_f p L R (part a) (part b) q m (one s))) h.0
              ∙ read-total_f (value p) p L R (part a) (part b) q n (one s);
          g = λ n y h. is.g y (is.small_to (degree_of y) y (refl, h.1))
              ∙ ap (λ m. on_keys as_cell (value_with (value p) (total_g p L R (part a) (part b) q m y))) h.0
              ∙ ap (on_keys as_cell) (read-total_g (value p) p L R (part a) (part b) q n y);
          h = λ n s h. is.h s (refl, h.1) ∙ ap (λ m. on_keys as_cell (value_with (value p) (total_h p L R (part a) (part b) q m (one s)))) h.0
              ∙ ap (on_keys as_cell) (read-total_h (value p) p L R (part a) (part b) q n (one s));
          small_d = λ n y h. is.small_d y (is.small_to (degree_of y) y (refl, h.1))
              ∙ ap (λ m. value_with (value p) (total_d p L R (part a) (part b) q m y)) h.0
              ∙ read-total_d (value p) p L R (part a) (part b) q n y.0 y.1
              ∙ ap (normal by_small p) (regrouped y.0 y.1 ((maps_of p a).small.d y.0) ((maps_of p b).small.d y.1) _);
        }

        pub fibred-by_parts : (N : ℕ) → IsReductionTo p N (T.tensored p pos a b ad bd q) → IsReductionTo p N X
        fibred-by_parts N r =
            by_rule p pos ez two.small two.f two.g two.h q P1 S1 P2 S2 by_pair by_tensor by_small X as_cell pair-apart (T.tensor-apart p pos a b ad bd q)
            (small-apart (product a b)) same-pair_apart (T.same-tensor_apart p pos a b ad bd q) (T.smalls-apart p pos a b ad bd q) first is1 series1 is_p1 is_s1 series2 deg2
            is_p2 is_s2 is_by_rule N (T.ruled-meets p pos a b ad bd q part1 part2 tensored N r)

    -- the tensor product of the parts
    pub tensored-meets : (N : ℕ) → IsReductionTo p N (maps_of p a) → IsReductionTo p N (maps_of p b) → IsReductionTo p N (T.tensored p pos a b ad bd q)
    tensored-meets N one_part other =
        tensor_in_meets p pos tensor_keys plain pairing plain_pairs (maps_of p a) (maps_of p b) (λ x. x.0) (small_degree a) alike small_alike
        (λ k x h. h.0) (λ k y h. h.0) N N 0 (let l : N ≤ 0 + N = omega arith in l) (λ k x h. let l : 0 ≤ k = omega arith in l) (λ k y h. let l : 0 ≤ k = omega arith in l) one_part other
      where
        alike : (x y : ℕ × Plain a) → (maps_of p a).big.same x y ≡ true → x.0 ≡ y.0
        alike x y e = ap (λ z. z.0) (cells-same (set_of a) (space_set_laws a ad) p pos x y e)

        small_alike : (x y : Small a) → (maps_of p a).small.same x y ≡ true → small_degree a x ≡ small_degree a y
        small_alike x y e = ap (small_degree a) (small-apart a x y ((Equal-is (small_cmp a x y)).0 e))

    -- a reduction as far as degree N where the parts are
    pub fibred : (X : Maps (ℕ × (Plain a × Plain b)) (Small a × Small b)) → IsFibred X → (N : ℕ) → IsReductionTo p N (maps_of p a) → IsReductionTo p N (maps_of p b)
        → IsReductionTo p N X
    fibred X is N one_part other =
        let t = tensored-meets N one_part other in
        fibred-by_parts one_part.degrees other.degrees t.degrees X is N t
