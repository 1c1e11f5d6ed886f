-- The maps of the rule on tensors of two spaces are a reduction of the tensors where the tensor product of the parts' reductions is one.
use Rattle.std.proofs.Common.{◌≡◌, ℕ, zero, suc, ◌+◌, ◌*◌, ◌%◌, ◌<◌, ◌≤◌, Bool, true, false, not, ◌&&◌, [], ◌∷◌, ◌++◌, map, refl, sym, ◌∙◌, ap, subst, arith, true≢false}
use Rattle.std.proofs.lemmas.Bool.{and_parts}
use Rattle.std.specs.Cmp.{Equal-is}
use Rattle.std.specs.declared.cmp.Ordering.{Ordering}
use Rattle.std.specs.declared.cmp.Ordering.TheVariants.{Equal}
use Rattle.fp_field.specs.Field.{sign}
use Rattle.fp_field.specs.Chains.{Terms, scale, extend, Each}
use Rattle.fp_field.specs.Normal.{normal}
use Rattle.fp_field.specs.Reduction.{SameTerms, one, after, Complex, Maps, HasDegrees, IsReduction, IsReductionTo, Respects}
use Rattle.fp_field.proofs.Weights.{Each-append, Each-scale, Each-extend}
use Rattle.fp_field.proofs.FlowLaws.{Each-normal}
use Rattle.spaces.specs.Simplicial.{is_degenerate}
use Rattle.spaces.specs.Spaces.{Space, Plain, set_of}
use Rattle.spaces.specs.SmallCells.{Small, small_degree, small_cmp}
use Rattle.spaces.specs.Orders.{Ordered, ordered, by_degree}
use Rattle.spaces.specs.Allowed.{Admits}
use Rattle.spaces.specs.EilenbergZilber.{Linear, linear, Pair, Tensor, tensor_order}
use Rattle.spaces.proofs.Orders.{ordered-apart, small-apart}
use Rattle.spaces.proofs.SpaceLaws.{space_set_laws}
use Rattle.values.specs.Asks.{Cell}
use Rattle.values.specs.Perturbed.{tensor_terms, small_terms}
use Rattle.values.specs.Rules.{part}
use Rattle.values.specs.Values.{value}
use Rattle.values.specs.Laws.{maps_of}
use Rattle.values.specs.BaseLaws.{IsSmall}
use Rattle.values.proofs.BasesCells.{basis-members}
use Rattle.ez_laws.specs.Complexes.{same_tensor}
use Rattle.ez_laws.specs.Instances.{product_maps}
use Rattle.ez_laws.proofs.PairOrders.{tensors-apart}
use Rattle.ez_laws.proofs.Orderings.{ordered-right}
use Rattle.ez_laws.proofs.Sided.{space-left, products}
use Rattle.homology_laws.proofs.CellChains.{cells-same}
use Rattle.homology_laws.proofs.Kernel.{degree-apart}
use Rattle.tensor_red.specs.Products.{plain, product_in, tensor_in}
use Rattle.twist_laws.proofs.Alike.{Alike, itself, chain, exactly, alike-append, alike-scale, alike-normal}
use Rattle.twist_laws.proofs.Carried.{IsCarried, carried}
use Rattle.twist_laws.proofs.TotalRead.{f_value, g_value, h_value, f_value-is, g_value-is, h_value-is}
use Rattle.twist_laws.proofs.TensorDifferential.{tensor_keys, product-each, product-alike, tensor_d-weight}

pub small_terms-is : {S T : Type 0} (c : Terms S) (e : Terms T) → small_terms c e ≡ product_in plain c e
small_terms-is [] e = refl
small_terms-is (t ∷ c) e = ap (λ d. map (λ u. ((t.0, u.0), t.1 * u.1)) e ++ d) (small_terms-is c e)

tensor_terms-is : {K J : Type 0} (c : Terms (ℕ × K)) (e : Terms (ℕ × J)) → tensor_terms c e ≡ product_in tensor_keys c e
tensor_terms-is [] e = refl
tensor_terms-is (t ∷ c) e = ap (λ d. map (λ u. ((t.0.0, t.0.1, u.0.0, u.0.1), t.1 * u.1)) e ++ d) (tensor_terms-is c e)

not_true : (b : Bool) → b ≡ false → not b ≡ true
not_true b e = ap not e

not_false : (b : Bool) → not b ≡ true → b ≡ false
not_false true e = absurd (true≢false (sym e))
not_false false e = refl

both_true : (a b : Bool) → a ≡ true → b ≡ true → (a && b) ≡ true
both_true a b e f = (λ i. e i && f i)

module _ (p : ℕ) (pos : 0 < p) (a b : Space) (ad : Admits a) (bd : Admits b) (q : Pair (Plain a) (Plain b) → Terms (Pair (Plain a) (Plain b))) where
  abbrev pub L : Linear (Plain a)
  L = linear (ordered a)

  abbrev pub R : Ordered (Plain b)
  R = ordered b

  abbrev pub m1 : Maps (Cell a) (Small a)
  m1 = maps_of p a

  abbrev pub m2 : Maps (Cell b) (Small b)
  m2 = maps_of p b

  -- the tensor product of the two reductions, on tensors
  abbrev pub tensored : Maps (Tensor (Plain a) (Plain b)) (Small a × Small b)
  tensored = tensor_in tensor_keys plain p (λ x. x.0) (small_degree a) m1 m2

  -- the small complex, without the difference
  abbrev pub pairs_of_smalls : Complex (Small a × Small b)
  pairs_of_smalls = record {
    generator = λ n y. (small_degree a y.0 + small_degree b y.1 ≡ n) × (IsSmall a y.0 × IsSmall b y.1);
    same = tensored.small.same;
    d = tensored.small.d;
  }

  -- the maps of the rule
  abbrev pub rule_f : Tensor (Plain a) (Plain b) → Terms (Small a × Small b)
  rule_f = f_value (value p) p L R (part a) (part b) q

  abbrev pub rule_g : Small a × Small b → Terms (Tensor (Plain a) (Plain b))
  rule_g = g_value (value p) p L R (part a) (part b) q

  abbrev pub rule_h : Tensor (Plain a) (Plain b) → Terms (Tensor (Plain a) (Plain b))
  rule_h = h_value (value p) p L R (part a) (part b) q

  abbrev pub ruled : Maps (Tensor (Plain a) (Plain b)) (Small a × Small b)
  ruled = record { big = (product_maps p a b).small; small = pairs_of_smalls; f = rule_f; g = rule_g; h = rule_h }

  abbrev by_tensor : Tensor (Plain a) (Plain b) → Tensor (Plain a) (Plain b) → Ordering
  by_tensor = tensor_order p L R

  pub tensor-apart : (x y : Tensor (Plain a) (Plain b)) → by_tensor x y ≡ Equal → x ≡ y
  tensor-apart = (tensors-apart p L (set_of a).In R (space-left p pos a ad) (ordered-right b bd)).apart

  big-apart : (x y : Tensor (Plain a) (Plain b)) → tensored.big.same x y ≡ true → x ≡ y
  big-apart x y h =
      let u = and_parts (m1.big.same (x.0, x.1) (y.0, y.1)) (m2.big.same (x.2, x.3) (y.2, y.3)) h in
      let e : (x.0, x.1) ≡ (y.0, y.1) = cells-same (set_of a) (space_set_laws a ad) p pos (x.0, x.1) (y.0, y.1) u.0 in
      let f : (x.2, x.3) ≡ (y.2, y.3) = cells-same (set_of b) (space_set_laws b bd) p pos (x.2, x.3) (y.2, y.3) u.1 in
      λ i. ((e i).0, (e i).1, (f i).0, (f i).1)

  pub smalls-apart : (x y : Small a × Small b) → tensored.small.same x y ≡ true → x ≡ y
  smalls-apart x y h =
      let u = and_parts (m1.small.same x.0 y.0) (m2.small.same x.1 y.1) h in
      let e : x.0 ≡ y.0 = small-apart a x.0 y.0 ((Equal-is (small_cmp a x.0 y.0)).0 u.0) in
      let f : x.1 ≡ y.1 = small-apart b x.1 y.1 ((Equal-is (small_cmp b x.1 y.1)).0 u.1) in
      λ i. (e i, f i)

  -- ---- generators

  to_tensor : (n : ℕ) (z : Tensor (Plain a) (Plain b)) → tensored.big.generator n z → ruled.big.generator n z
  to_tensor n z h =
      let e : h.2.0 ≡ h.2.0 = refl in
      let i : z.0 ≡ h.0 = h.2.0 in
      let j : z.2 ≡ h.1 = h.3.0 in
      let x = subst (λ k. (set_of a).In k z.1 × (is_degenerate (set_of a) k z.1 ≡ false)) (sym i) h.2.1 in
      let y = subst (λ k. (set_of b).In k z.3 × (is_degenerate (set_of b) k z.3 ≡ false)) (sym j) h.3.1 in (
        omega (arith, i, j, h.4),
        (
          x.0,
          y.0,
          both_true (not (is_degenerate (set_of a) z.0 z.1)) (not (is_degenerate (set_of b) z.2 z.3))
              (not_true (is_degenerate (set_of a) z.0 z.1) x.1) (not_true (is_degenerate (set_of b) z.2 z.3) y.1),
        ),
      )

  from_tensor : (n : ℕ) (z : Tensor (Plain a) (Plain b)) → ruled.big.generator n z → tensored.big.generator n z
  from_tensor n z h =
      let u = and_parts (not (is_degenerate (set_of a) z.0 z.1)) (not (is_degenerate (set_of b) z.2 z.3)) h.1.2 in
      (z.0, z.2, (refl, (h.1.0, not_false (is_degenerate (set_of a) z.0 z.1) u.0)), (refl, (h.1.1, not_false (is_degenerate (set_of b) z.2 z.3) u.1)), h.0)

  to_small : (n : ℕ) (y : Small a × Small b) → tensored.small.generator n y → pairs_of_smalls.generator n y
  to_small n y h =
      let u = (basis-members p a h.0 y.0).0 h.2.1 in
      let v = (basis-members p b h.1 y.1).0 h.3.1 in
      let i : small_degree a y.0 ≡ h.0 = u.0 in
      let j : small_degree b y.1 ≡ h.1 = v.0 in
      (omega (arith, i, j, h.4), (u.1, v.1))

  from_small : (n : ℕ) (y : Small a × Small b) → pairs_of_smalls.generator n y → tensored.small.generator n y
  from_small n y h = (
    small_degree a y.0,
    small_degree b y.1,
    (refl, (basis-members p a (small_degree a y.0) y.0).1 (refl, h.1.0)),
    (refl, (basis-members p b (small_degree b y.1) y.1).1 (refl, h.1.1)),
    h.0,
  )

  -- ---- the maps

  abbrev hx : Tensor (Plain a) (Plain b) → Terms (Cell a)
  hx z = m1.h (z.0, z.1)

  abbrev hy : Tensor (Plain a) (Plain b) → Terms (Cell b)
  hy z = m2.h (z.2, z.3)

  abbrev gfx : Tensor (Plain a) (Plain b) → Terms (Cell a)
  gfx z = normal (by_degree L.cmp) p (extend m1.g (m1.f (z.0, z.1)))

  f-is : (z : Tensor (Plain a) (Plain b)) → rule_f z ≡ tensored.f z
  f-is z = f_value-is (value p) p L R (part a) (part b) q z.0 z.1 z.2 z.3 ∙ small_terms-is (m1.f (z.0, z.1)) (m2.f (z.2, z.3))

  g-is : (y : Small a × Small b) → rule_g y ≡ normal by_tensor p (tensored.g y)
  g-is y = g_value-is (value p) p L R (part a) (part b) q y.0 y.1 ∙ ap (normal by_tensor p) (tensor_terms-is (m1.g y.0) (m2.g y.1))

  h-is : (z : Tensor (Plain a) (Plain b)) → rule_h z ≡ product_in tensor_keys (hx z) (one (z.2, z.3)) ++ scale (sign p z.0) (product_in tensor_keys (gfx z) (hy z))
  h-is z =
      h_value-is (value p) p L R (part a) (part b) q z.0 z.1 z.2 z.3
      ∙ (λ i. tensor_terms-is (hx z) (one (z.2, z.3)) i ++ scale (sign p z.0) (tensor_terms-is (gfx z) (hy z) i))

  cells-apart : (x y : Cell a) → by_degree L.cmp x y ≡ Equal → x ≡ y
  cells-apart = degree-apart (ordered a).cmp (ordered-apart a)

  h-alike : (z : Tensor (Plain a) (Plain b)) → Alike p (rule_h z) (tensored.h z)
  h-alike z =
      chain (exactly (h-is z))
      (alike-append itself (alike-scale (sign p z.0) (product-alike tensor_keys p (gfx z) (after m1.g m1.f (z.0, z.1)) (hy z)
      (alike-normal (by_degree L.cmp) cells-apart (extend m1.g (m1.f (z.0, z.1)))))))

  d-alike : (n : ℕ) (z : Tensor (Plain a) (Plain b)) → ruled.big.generator n z → Alike p (ruled.big.d z) (tensored.big.d z)
  d-alike n z h =
      let u = and_parts (not (is_degenerate (set_of a) z.0 z.1)) (not (is_degenerate (set_of b) z.2 z.3)) h.1.2 in
      record { at = λ w. ap (λ k. k % p) (tensor_d-weight p (ordered a) (set_of a).In R w z.0 z.1 z.2 z.3 u.0 u.1) }

  is_carried : IsCarried p pos tensored ruled (λ z. z) (λ y. y)
  is_carried = record {
    big_apart = big-apart;
    small_apart = smalls-apart;
    big_from = λ n z h. (z, from_tensor n z h, refl);
    small_from = λ n y h. (y, from_small n y h, refl);
    d = λ n. record { at = λ z h. (d-alike n z (to_tensor n z h)).at };
    small_d = λ n. record { at = λ y h w. refl };
    f = λ n. record { at = λ z h. (exactly {p = p} (f-is z)).at };
    g = λ n. record { at = λ y h. (chain (exactly {p = p} (g-is y)) (alike-normal by_tensor tensor-apart (tensored.g y))).at };
    h = λ n. record { at = λ z h. (h-alike z).at };
  }

  -- ---- degrees

  one_map : {K I : Type 0} (C : Complex K) (E : Complex I) (f : K → Terms I) → ((x y : K) → C.same x y ≡ true → x ≡ y) → Respects p C E f
  one_map C E f apart x y e = subst (λ z. SameTerms p E.same (f x) (f z)) (apart x y e) (λ k. refl)

  each-so : {K : Type 0} {P Q : K → Type 0} (c : Terms K) → ((x : K) → P x → Q x) → Each P c → Each Q c
  each-so [] e h = tt
  each-so (t ∷ c) e h = (e t.0 h.0, each-so c e h.1)

  pub same-tensor_apart : (x y : Tensor (Plain a) (Plain b)) → same_tensor p L (set_of a).In R x y ≡ true → x ≡ y
  same-tensor_apart x y h = tensor-apart x y ((Equal-is (by_tensor x y)).0 h)

  abbrev Climbed : ℕ → Tensor (Plain a) (Plain b) → Tensor (Plain a) (Plain b) → Type 0
  Climbed n z u = ruled.big.generator (suc n) u × (u.0 ≤ suc z.0)

  module _ (first : HasDegrees p m1) (second : HasDegrees p m2) (deg : HasDegrees p tensored) where
    -- h raises the left degree by at most 1
    pub h-climbs : (n : ℕ) (z : Tensor (Plain a) (Plain b)) → ruled.big.generator n z → Each (λ u. ruled.big.generator (suc n) u × (u.0 ≤ suc z.0)) (rule_h z)
    h-climbs n z h =
        let g = from_tensor n z h in
        subst (Each (Climbed n z)) (sym (h-is z))
        (Each-append (Climbed n z) (product_in tensor_keys (hx z) (one (z.2, z.3))) (scale (sign p z.0) (product_in tensor_keys (gfx z) (hy z)))
        (product-each tensor_keys (Climbed n z) (m1.big.generator (suc g.0)) (m2.big.generator g.1)
        (λ x y u v. (to_tensor (suc n) (x.0, x.1, y.0, y.1) (suc g.0, g.1, u, v, omega (arith, g.4)), at_most u.0 g.2.0))
        (hx z) (one (z.2, z.3)) (first.h.raises g.0 (z.0, z.1) g.2) (g.3, tt))
        (Each-scale (Climbed n z) (sign p z.0) (product_in tensor_keys (gfx z) (hy z))
        (product-each tensor_keys (Climbed n z) (m1.big.generator g.0) (m2.big.generator (suc g.1))
        (λ x y u v. (to_tensor (suc n) (x.0, x.1, y.0, y.1) (g.0, suc g.1, u, v, omega (arith, g.4)), at_most_one u.0 g.2.0))
        (gfx z) (hy z)
        (Each-normal (m1.big.generator g.0) (by_degree L.cmp) p (extend m1.g (m1.f (z.0, z.1)))
        (Each-extend (m1.big.generator g.0) (m1.small.generator g.0) m1.g (first.g.keeps g.0) (m1.f (z.0, z.1)) (first.f.keeps g.0 (z.0, z.1) g.2)))
        (second.h.raises g.1 (z.2, z.3) g.3))))
      where
        at_most : {x i z : ℕ} → x ≡ suc i → z ≡ i → x ≤ suc z
        at_most e f = omega (arith, e, f)

        at_most_one : {x i z : ℕ} → x ≡ i → z ≡ i → x ≤ suc z
        at_most_one e f = omega (arith, e, f)

    h-raises : (n : ℕ) (z : Tensor (Plain a) (Plain b)) → ruled.big.generator n z → Each (ruled.big.generator (suc n)) (rule_h z)
    h-raises n z h = each-so (rule_h z) (λ u e. e.0) (h-climbs n z h)

    ez : IsReduction p (product_maps p a b)
    ez = products p pos a b ad bd

    pub ruled-degrees : HasDegrees p ruled
    ruled-degrees = record {
      big = record { graded = (ez 0).degrees.small; twice = λ n x h. (ez n).equations.twice n x (let l : n ≤ n = omega arith in l) h };
      small = record {
        equivalence = deg.small.equivalence;
        lowers = λ n y h. each-so (tensored.small.d y) (to_small n) (deg.small.lowers n y (from_small (suc n) y h));
        ends = λ y h. deg.small.ends y (from_small zero y h);
        respects = one_map pairs_of_smalls pairs_of_smalls tensored.small.d smalls-apart;
      };
      f = record {
        keeps = λ n z h. subst (Each (pairs_of_smalls.generator n)) (sym (f-is z)) (each-so (tensored.f z) (to_small n) (deg.f.keeps n z (from_tensor n z h)));
        respects = one_map ruled.big pairs_of_smalls rule_f same-tensor_apart;
      };
      g = record {
        keeps = λ n y h. subst (Each (ruled.big.generator n)) (sym (g-is y)) (Each-normal (ruled.big.generator n) by_tensor p (tensored.g y)
            (each-so (tensored.g y) (to_tensor n) (deg.g.keeps n y (from_small n y h))));
        respects = one_map pairs_of_smalls ruled.big rule_g smalls-apart;
      };
      h = record { raises = h-raises; respects = one_map ruled.big ruled.big rule_h same-tensor_apart };
    }

    pub ruled-meets : (N : ℕ) → IsReductionTo p N tensored → IsReductionTo p N ruled
    ruled-meets N r = carried p pos tensored ruled (λ z. z) (λ y. y) is_carried N r ruled-degrees
